use Rattle.std.proofs.Common.{subst, sym}
use Rattle.dock_table.specs.Narrow.{IsNearRect}
use Rattle.dock_table.proofs.NarrowLemmas.{hull_near, near_bounded}
use Rattle.dock_table.proofs.outlines.hull.Goals as goal

pub hull-requires : goal.hull-requires
hull-requires c = record { a_bounded = near_bounded _ c.requires.a_near; b_bounded = near_bounded _ c.requires.b_near }

pub returns-clause-near : goal.returns-clause-near
returns-clause-near c = subst IsNearRect (sym c.hull.ensures.value) (hull_near _ _ c.requires.a_near c.requires.b_near)
