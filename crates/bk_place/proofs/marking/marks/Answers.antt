use Rattle.std.proofs.Common.{map, subst, ◌∙◌, ap}
use Rattle.std.proofs.lemmas.List.Sorted.{All-permutation, IsPermutation-map, IsPermutation-trans}
use Rattle.std.proofs.lemmas.Result.{IfOk-weaker}
use Rattle.std.specs.List.Sorted.{IsPermutation}
use Rattle.elk_layers.specs.Layered.{plain}
use Rattle.bk_place.specs.Marks.{mirrored, IsLow, HoldBoth}
use Rattle.bk_place.proofs.MarkLemmas.{marks_from}
use Rattle.bk_place.proofs.marking.marks.Goals as goal

pub mirrored_pins-requires : goal.mirrored_pins-requires
mirrored_pins-requires c =
    rw c.as_slice.ensures.value (All-permutation IsLow c.in_ok-inner.inner.items c.in_ok-above.above.pins.items c.in_ok-above.ensures.same c.in_ok-inner.ensures.low)

pub crossed-requires-clause-both : goal.crossed-requires-clause-both
crossed-requires-clause-both c =
    let flipped = c.in_ok-flipped.ensures ∙ ap (map mirrored) c.as_slice.ensures.value in
    subst (λ pins. HoldBoth pins c.in_ok-above.above.pins.items c.in_ok-below.below.pins.items) c.in_ok-inner.ensures.pins
    (record {
      low = c.in_ok-inner.ensures.low;
      as_above = c.in_ok-above.ensures.same;
      as_below = IsPermutation-trans _ _ _ (IsPermutation-map mirrored _ _ c.in_ok-above.ensures.same)
          (subst (λ pins. IsPermutation pins c.in_ok-below.below.pins.items) flipped c.in_ok-below.ensures.same);
    })

pub returns : goal.returns
returns c =
    IfOk-weaker c.crossed.result _ _
    (λ v is rows are places. marks_from (plain c.args.layered.now) rows c.args.place.now c.requires.sound are places v.items is)
    c.crossed.ensures
