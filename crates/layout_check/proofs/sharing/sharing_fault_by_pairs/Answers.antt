use Rattle.std.proofs.Common.{below_more, ℕ, refl}
use Rattle.layout_check.specs.FirstRoutes.{SharingHolds}
use Rattle.layout_check.proofs.sharing.sharing_fault_by_pairs.Goals as goal

pub loop-edge-preserved : goal.loop-edge-preserved
loop-edge-preserved c =
    let here : (f : ℕ) → SharingHolds c.args.scene.now.doc.now c.args.scene.now.placed.now c.args.node c.loop-edge.edge f = c.in_default.ensures in
    below_more (λ k. (f : ℕ) → SharingHolds c.args.scene.now.doc.now c.args.scene.now.placed.now c.args.node k f) _ c.loop-edge.invariant here

pub returns-in-Some : goal.returns-in-Some
returns-in-Some c = (
  c.loop-edge.edge,
  c.in-Some.other,
  refl,
  record { fails = c.in-Some.ensures.fails; earlier = λ k l h. c.loop-edge.invariant k h l; before = c.in-Some.ensures.before },
)
