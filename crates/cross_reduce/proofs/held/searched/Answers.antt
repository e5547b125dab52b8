use Rattle.elk_layers.specs.Layered.{plain, rows_of}
use Rattle.cross_reduce.proofs.RowLemmas.{rows_permuted}
use Rattle.cross_reduce.proofs.StateLemmas.{same_refl, same_trans}
use Rattle.cross_reduce.proofs.HeldLemmas.{held_of_either}
use Rattle.cross_reduce.proofs.held.searched.Goals as goal

pub search_held-requires-clause-rows : goal.search_held-requires-clause-rows
search_held-requires-clause-rows c = c.requires.from.best.are_rows

pub hold-requires : goal.hold-requires
hold-requires c = rows_permuted (plain c.args.layered.now) (rows_of c.args.kept.order) (rows_of c.in_ok-found.found) c.requires.sound.layers_are c.requires.from.best.are_rows c.in_ok-found.ensures.same_rows

pub fewer-requires-clause-kept_rows : goal.fewer-requires-clause-kept_rows
fewer-requires-clause-kept_rows c = c.requires.from.best.are_rows

pub fewer-requires-clause-counted : goal.fewer-requires-clause-counted
fewer-requires-clause-counted c = c.requires.from.best.counted

pub fewer-requires-clause-new_rows : goal.fewer-requires-clause-new_rows
fewer-requires-clause-new_rows c =
    let same = same_trans (rows_of c.args.kept.order) (rows_of c.in_ok-found.found) (rows_of c.in_ok-order.order) c.in_ok-found.ensures.same_rows c.in_ok-order.ensures.same_rows in
    rows_permuted (plain c.args.layered.now) (rows_of c.args.kept.order) (rows_of c.in_ok-order.order) c.requires.sound.layers_are c.requires.from.best.are_rows same

pub returns : goal.returns
returns c =
    let same = same_trans (rows_of c.args.kept.order) (rows_of c.in_ok-found.found) (rows_of c.in_ok-order.order) c.in_ok-found.ensures.same_rows c.in_ok-order.ensures.same_rows in
    record {
      best = record {
        are_rows = c.in_ok-best.ensures.rows;
        counted = c.in_ok-best.ensures.counted;
        same = c.in_ok-best.ensures.same (rows_of c.args.kept.order) (same_refl (rows_of c.args.kept.order)) same;
      };
      ascends = held_of_either c.args.held.now (rows_of c.args.kept.order) (rows_of c.in_ok-order.order) (rows_of c.in_ok-best.best.order) c.requires.from.ascends c.in_ok-order.ensures.ascends c.in_ok-best.ensures.one;
    }
