use Rattle.std.proofs.lemmas.Result.{IfOk-weaker}
use Rattle.elk_layers.specs.Layered.{plain}
use Rattle.bk_place.proofs.MedianLemmas.{side_is_served}
use Rattle.bk_place.proofs.SpokeLemmas.{spokes_few}
use Rattle.bk_place.proofs.medians.medians_by_unit.Goals as goal

pub firsts_of-requires-clause-few : goal.firsts_of-requires-clause-few
firsts_of-requires-clause-few c =
    rw c.as_slice-2.ensures.value (spokes_few (plain c.args.layered.now) c.args.sweep c.as_slice.result.now c.in_ok-spokes.spokes.items c.requires.sound c.in_ok-spokes.ensures)

pub medians_in-requires-clause-can : goal.medians_in-requires-clause-can
medians_in-requires-clause-can c =
    rw c.as_slice-4.ensures.value (
      c.requires.known.0,
      record {
        sound = c.requires.sound;
        are_rows = c.requires.known.1;
        places = c.requires.known.2.places;
        marks = c.requires.known.2.marks;
        spokes_are = rw c.as_slice.ensures.value at c.in_ok-spokes.ensures;
      },
    )

pub returns : goal.returns
returns c =
    IfOk-weaker c.medians_in.result _ _
    (λ v e rows are known. side_is_served (plain c.args.layered.now) rows c.args.sweep v.items (record {
      place = c.args.known.now.place.items;
      marked = c.args.known.now.marked.items;
      spokes = c.in_ok-spokes.spokes.items;
      can = record {
        sound = c.requires.sound;
        are_rows = are;
        places = known.places;
        marks = known.marks;
        spokes_are = rw c.as_slice.ensures.value at c.in_ok-spokes.ensures;
      };
      table_is = rw c.as_slice-4.ensures.value at e;
    }))
    c.medians_in.ensures
