use Rattle.std.proofs.Common.{length, replicate, subst, sym, ap, ◌∙◌}
use Rattle.std.proofs.lemmas.Result.{IfOk-weaker}
use Rattle.elk_layers.specs.Layered.{plain, rows_of}
use Rattle.ns_place.specs.Weighed.{AreWeights, IsWeighedPlacing}
use Rattle.ns_place.proofs.PlacingLemmas.{even_weigh}
use Rattle.ns_place.proofs.placing.place_even.Goals as goal

pub place_weighed-requires : goal.place_weighed-requires
place_weighed-requires c =
    let l = plain c.args.layered.now in
    let is = c.as_slice-2.ensures.value ∙ c.in_ok-weights.ensures ∙ ap (λ ks. replicate (length ks) 1) c.as_slice.ensures.value in
    record {
      sound = c.requires.sound;
      rows = c.requires.rows;
      few_units = c.requires.few_units;
      few_links = c.requires.few_links;
      together = c.requires.together;
      weights = subst (AreWeights l) (sym is) (even_weigh l);
      first = c.in_ok-first.ensures;
    }

pub returns : goal.returns
returns c =
    let l = plain c.args.layered.now in
    let rows = rows_of c.args.order.now in
    let is = c.as_slice-2.ensures.value ∙ c.in_ok-weights.ensures ∙ ap (λ ks. replicate (length ks) 1) c.as_slice.ensures.value in
    record {
      least = IfOk-weaker c.place_weighed.result _ _
          (λ p placed. subst (λ ws. IsWeighedPlacing l rows ws p.lines.top.items p.height p.link_flow.items p.pairs.items) is placed)
          c.place_weighed.ensures.least;
      within = c.place_weighed.ensures.within;
    }
