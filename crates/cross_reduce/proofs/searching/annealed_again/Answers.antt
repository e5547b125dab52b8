use Rattle.elk_layers.specs.Layered.{plain, rows_of}
use Rattle.cross_reduce.proofs.RowLemmas.{rows_permuted}
use Rattle.cross_reduce.proofs.StateLemmas.{same_refl}
use Rattle.cross_reduce.proofs.CandidateLemmas.{none_of_either}
use Rattle.cross_reduce.proofs.searching.annealed_again.Goals as goal

pub fewer-requires-clause-new_rows : goal.fewer-requires-clause-new_rows
fewer-requires-clause-new_rows c =
    rows_permuted (plain c.args.layered.now) (rows_of c.args.kept.order) (rows_of c.in_ok-new.new) c.requires.sound.layers_are c.requires.settled.best.are_rows c.in_ok-new.ensures.same

pub returns : goal.returns
returns c =
    record {
      best = record {
        are_rows = c.in_ok-best.ensures.rows;
        counted = c.in_ok-best.ensures.counted;
        same = c.in_ok-best.ensures.same (rows_of c.args.kept.order) (same_refl (rows_of c.args.kept.order)) c.in_ok-new.ensures.same;
      };
      settled = none_of_either (plain c.args.layered.now) (rows_of c.args.kept.order) (rows_of c.in_ok-new.new) (rows_of c.in_ok-best.best.order) c.requires.settled.settled c.in_ok-new.ensures.settled c.in_ok-best.ensures.one;
      fewer = c.in_ok-best.ensures.either;
    }
