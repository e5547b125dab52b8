use Rattle.std.proofs.Common.{ℕ, Vec, Global, length, arith, ap, inl, inr}
use Rattle.flow_dual.proofs.turns.take_step.Goals as goal

pub index_mut-requires : goal.index_mut-requires
index_mut-requires c =
    let e = c.requires.ends c.args.step.edge c.requires.there in
    let a = e.0 in
    let b = e.1 in
    let n = c.requires.dist in
    let d = ap (λ (v : Vec ℕ Global). length v.items) c.reach-v.ensures.dist in
    elim c.reach-v.ensures.reaches [
      | inl x ↦ let w = x.1 in omega (arith, w, b, n, d)
      | inr x ↦ let w = x.1 in omega (arith, w, a, n, d)
    ]
