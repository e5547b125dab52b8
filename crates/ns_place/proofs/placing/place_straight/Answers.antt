use Rattle.std.proofs.Common.{length, map, replicate, subst, sym, ap, ◌∙◌}
use Rattle.std.proofs.lemmas.Result.{IfOk-weaker}
use Rattle.std.specs.List.{All}
use Rattle.elk_layers.specs.Layered.{plain, rows_of}
use Rattle.ns_place.specs.Heights.{IsNearLink}
use Rattle.ns_place.specs.Weighed.{AreWeights, IsWeighedPlacing}
use Rattle.ns_place.specs.Straight.{weight_for}
use Rattle.ns_place.specs.Start.{lowered, completed, AreStartTops, AreFirst}
use Rattle.ns_place.proofs.FirstLemmas.{start_tops, tops_near, first_are}
use Rattle.ns_place.proofs.StraightLemmas.{small_weights, aligned_weights, even_weights_are}
use Rattle.ns_place.proofs.placing.place_straight.Goals as goal

pub weigh_straight-requires : goal.weigh_straight-requires
weigh_straight-requires c =
    let l = plain c.args.layered.now in
    let rows = rows_of c.args.order.now in
    let tops = c.in_ok-lines.lines.top.items in
    let start = start_tops l rows tops c.in_ok-lines.ensures.lines.are_least.are_lines.apart c.in_ok-lines.ensures.within in
    subst (λ ts. All (IsNearLink ts) c.as_slice.result.now) (sym c.as_slice-top.ensures.value)
    (subst (All (IsNearLink tops)) (sym c.as_slice.ensures.value) (tops_near l tops c.requires.sound start))

pub layers_at-requires : goal.layers_at-requires
layers_at-requires c =
    let l = plain c.args.layered.now in
    let rows = rows_of c.args.order.now in
    let tops = c.in_ok-lines.lines.top.items in
    record {
      sound = c.requires.sound;
      tops = subst (AreStartTops l) (sym c.as_slice-top.ensures.value) (start_tops l rows tops c.in_ok-lines.ensures.lines.are_least.are_lines.apart c.in_ok-lines.ensures.within);
    }

pub place_weighed-requires : goal.place_weighed-requires
place_weighed-requires c =
    let l = plain c.args.layered.now in
    let rows = rows_of c.args.order.now in
    let tops = c.in_ok-lines.lines.top.items in
    let links = c.as_slice.result.now in
    let apart = c.in_ok-lines.ensures.lines.are_least.are_lines.apart in
    let start = start_tops l rows tops apart c.in_ok-lines.ensures.within in
    let weigh = ap (λ ts. map (weight_for c.args.straightness ts) links) c.as_slice-top.ensures.value ∙ ap (map (weight_for c.args.straightness tops)) c.as_slice.ensures.value in
    let is = c.as_slice-2.ensures.value ∙ c.in_ok-weights.ensures ∙ weigh in
    let first = c.in_ok-first.ensures ∙ ap (λ ts. completed (map lowered ts) l.links) c.as_slice-top.ensures.value in
    record {
      sound = c.requires.sound;
      rows = c.requires.rows;
      few_units = c.requires.few_units;
      few_links = c.requires.few_links;
      together = c.requires.together;
      weights = subst (AreWeights l) (sym is) (small_weights l c.args.straightness tops c.requires.straightness);
      first = subst (AreFirst l rows) (sym first) (first_are l tops c.requires.sound start rows c.requires.rows apart);
    }

pub returns-then-straightness-eq1 : goal.returns-then-straightness-eq1
returns-then-straightness-eq1 c =
    let l = plain c.args.layered.now in
    let rows = rows_of c.args.order.now in
    record {
      straight = IfOk-weaker c.place_even.result _ _
          (λ p placed. record {
            weights = replicate (length l.links) 1;
            weights_are = even_weights_are l rows c.args.straightness c.if-straightness-eq1.true;
            placing = placed;
          })
          c.place_even.ensures.least;
      within = c.place_even.ensures.within;
    }

pub returns : goal.returns
returns c =
    let l = plain c.args.layered.now in
    let rows = rows_of c.args.order.now in
    let tops = c.in_ok-lines.lines.top.items in
    let links = c.as_slice.result.now in
    let weigh = ap (λ ts. map (weight_for c.args.straightness ts) links) c.as_slice-top.ensures.value ∙ ap (map (weight_for c.args.straightness tops)) c.as_slice.ensures.value in
    let is = c.as_slice-2.ensures.value ∙ c.in_ok-weights.ensures ∙ weigh in
    record {
      straight = IfOk-weaker c.place_weighed.result _ _
          (λ p placed. record {
            weights = map (weight_for c.args.straightness tops) l.links;
            weights_are = aligned_weights l c.args.straightness tops rows c.if-straightness-eq1.false c.in_ok-lines.ensures.lines;
            placing = subst (λ ws. IsWeighedPlacing l rows ws p.lines.top.items p.height p.link_flow.items p.pairs.items) is placed;
          })
          c.place_weighed.ensures.least;
      within = c.place_weighed.ensures.within;
    }
