use Rattle.std.proofs.Common.{ℕ, Option, Some, None, rules}
use Rattle.elk_doc.specs.Level.{IsEdge}
use Rattle.layout_check.specs.Faults.{IsFirst}
use Rattle.layout_check.specs.FirstRoutes.{ChildClear, ClearHolds}
use Rattle.layout_check.proofs.clear.first_unclear.Goals as goal

first_of : (o : Option ℕ) (P Q : ℕ → Type 0) → ((k : ℕ) → P k → Q k) → ((k : ℕ) → Q k → P k) → IsFirst P o → IsFirst Q o
first_of None P Q f g h = λ k. f k (h k)
first_of (Some a) P Q f g h = record { fails = λ q. h.fails (g a q); before = λ k l. f k (h.before k l) }

pub returns : goal.returns
returns c =
    let d = c.args.scene.now.doc.now in
    let p = c.args.scene.now.placed.now in
    let edge : IsEdge d c.args.node c.args.edge = search rules in
    first_of c.first_met.result (ChildClear d p c.args.node c.args.edge) (ClearHolds d p c.args.node c.args.edge) (λ k h _. h) (λ k h. h edge) c.first_met.ensures
