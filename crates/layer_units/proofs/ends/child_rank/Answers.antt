use Rattle.std.proofs.Common.{◌∙◌, sym}
use Rattle.layer_units.specs.Ports.{plain_ranks}
use Rattle.layer_units.proofs.RankReadLemmas.{free_child, ranked_child}
use Rattle.layer_units.proofs.ends.child_rank.Goals as goal

pub returns-then-not-is_fixed-clause-value : goal.returns-then-not-is_fixed-clause-value
returns-then-not-is_fixed-clause-value c =
    sym (free_child c.args.child.now (plain_ranks c.args.ranks.now) c.args.end c.args.port c.args.enters (sym c.is_fixed.ensures ∙ c.if-not-is_fixed.true))

pub returns-clause-value : goal.returns-clause-value
returns-clause-value c =
    c.end_rank.ensures.value ∙ sym (ranked_child c.args.child.now (plain_ranks c.args.ranks.now) c.args.end c.args.port c.args.enters (sym c.is_fixed.ensures ∙ c.if-not-is_fixed.false))
