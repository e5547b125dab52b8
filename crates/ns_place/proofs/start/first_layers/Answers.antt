use Rattle.std.proofs.Common.{map, sym, ap, subst, ◌∙◌}
use Rattle.std.proofs.lemmas.Result.{IfOk-weaker}
use Rattle.elk_layers.specs.Layered.{plain, rows_of}
use Rattle.ns_place.specs.Start.{lowered, completed, AreStartTops, AreFirst}
use Rattle.ns_place.proofs.FirstLemmas.{start_tops, first_are}
use Rattle.ns_place.proofs.start.first_layers.Goals as goal

pub layers_at-requires : goal.layers_at-requires
layers_at-requires c =
    let l = plain c.args.layered.now in
    let rows = rows_of c.args.order.now in
    let tops = c.in_ok-lines.lines.top.items in
    record {
      sound = c.requires.sound;
      tops = subst (AreStartTops l) (sym c.as_slice.ensures.value) (start_tops l rows tops c.in_ok-lines.ensures.lines.are_lines.apart c.in_ok-lines.ensures.within);
    }

pub returns : goal.returns
returns c =
    let l = plain c.args.layered.now in
    let rows = rows_of c.args.order.now in
    let tops = c.in_ok-lines.lines.top.items in
    let apart = c.in_ok-lines.ensures.lines.are_lines.apart in
    let first = first_are l tops c.requires.sound (start_tops l rows tops apart c.in_ok-lines.ensures.within) rows c.requires.rows apart in
    IfOk-weaker c.layers_at.result _ _ (λ v is. subst (AreFirst l rows) (sym (is ∙ ap (λ ts. completed (map lowered ts) l.links) c.as_slice.ensures.value)) first) c.layers_at.ensures
