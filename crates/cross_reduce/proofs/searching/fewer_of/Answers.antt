use Rattle.elk_layers.specs.Layered.{plain, rows_of}
use Rattle.cross_reduce.proofs.RowLemmas.{rows_permuted}
use Rattle.cross_reduce.proofs.StateLemmas.{same_refl}
use Rattle.cross_reduce.proofs.searching.fewer_of.Goals as goal

pub fewer-requires-clause-new_rows : goal.fewer-requires-clause-new_rows
fewer-requires-clause-new_rows c =
    rows_permuted (plain c.args.layered.now) (rows_of c.args.kept.order) (rows_of c.in_ok-new.new) c.requires.sound.layers_are c.requires.best.are_rows c.in_ok-new.ensures

pub returns-clause-best : goal.returns-clause-best
returns-clause-best c =
    record {
      are_rows = c.in_ok-best.ensures.rows;
      counted = c.in_ok-best.ensures.counted;
      same = c.in_ok-best.ensures.same (rows_of c.args.kept.order) (same_refl (rows_of c.args.kept.order)) c.in_ok-new.ensures;
    }
