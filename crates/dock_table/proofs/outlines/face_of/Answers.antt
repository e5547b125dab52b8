use Rattle.std.proofs.Common.{subst, sym}
use Rattle.dock_table.specs.Narrow.{IsOffset}
use Rattle.dock_table.proofs.NarrowLemmas.{face_near}
use Rattle.dock_table.proofs.PartLemmas.{kept_near}
use Rattle.dock_table.proofs.outlines.face_of.Goals as goal

pub returns-clause-near : goal.returns-clause-near
returns-clause-near c =
    let near = subst IsOffset (sym c.face_at.ensures) (face_near c.args.child.now c.args.side c.args.port c.requires.child c.requires.port) in
    kept_near c.face_at.result near
