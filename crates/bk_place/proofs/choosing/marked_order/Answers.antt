use Rattle.std.proofs.Common.{sym, subst}
use Rattle.elk_layers.specs.Layered.{plain, rows_of}
use Rattle.elk_layers.specs.Places.{ArePlaces}
use Rattle.bk_place.proofs.choosing.marked_order.Goals as goal

pub returns : goal.returns
returns c =
    record {
      places = c.in_ok-place.ensures;
      marks = c.in_ok-marked.ensures (rows_of c.args.order.now) c.requires.rows (subst (λ xs. ArePlaces (plain c.args.layered.now) (rows_of c.args.order.now) xs) (sym c.as_slice.ensures.value) c.in_ok-place.ensures);
    }
