use Rattle.std.proofs.Common.{◌≡◌, ℕ, ◌+◌, ◌-◌, ◌<◌, ◌⊎◌, min, length, length-set, arith, subst, sym, ◌∙◌, inl, inr}
use Rattle.std.proofs.lemmas.Bool.{cases_lt}
use Rattle.ns_place.specs.Closing.{standing_at}
use Rattle.ns_place.proofs.ClosingLemmas.{closed_more}
use Rattle.ns_place.proofs.closing.close_all.Goals as goal

least_of : (a b n : ℕ) → n ≡ min a b → (n ≡ a) ⊎ (n ≡ b)
least_of a b n e = elim (cases_lt a b) [
  | inl k ↦ inl (omega (arith, e, k))
  | inr k ↦ inr (omega (arith, e, k))
]

pub loop-s-preserved : goal.loop-s-preserved
loop-s-preserved c =
    let all = c.args.standings.now in
    let i = c.loop-s.s-index in
    let s = c.loop-s.invariant.1 in
    let h = c.loop-s-test.true in
    let one : i + 1 - 1 ≡ i = omega arith in
    let small = s.shift_small in
    let up = c.requires.sorted (i - 1) i (record { top = 0; span = 0; unit = 0 }) (omega arith) h in
    let now = c.min-top.result in
    let m : now ≡ min ((standing_at all i).top - c.loop-s.shift) c.loop-s.reach = c.min-top.ensures in
    let x = c.max-reach.ensures in
    let either : (now + c.loop-s.shift ≡ (standing_at all i).top) ⊎ (now ≡ c.loop-s.reach) =
    elim (least_of _ _ now m) [
      | inl k ↦ inl (omega (arith, k, small, up))
      | inr k ↦ inr k
    ] in
    let below : (standing_at all i).unit < length c.loop-s.closed = subst (λ n. (standing_at all i).unit < n) (sym c.loop-s.invariant.0) (c.requires.in_range i (record { top = 0; span = 0; unit = 0 }) h) in
    rw one (
      length-set c.loop-s.closed (standing_at all i).unit now ∙ c.loop-s.invariant.0,
      closed_more all i (standing_at all (i - 1)).top c.loop-s.shift c.loop-s.reach now ((standing_at all i).top - now) c.max-reach.result c.loop-s.closed c.requires.apart h below up
          (omega (arith, m, small, up)) either (omega (arith, m)) (omega (arith, m)) (omega (arith, x)) (omega (arith, x)) (omega (arith, x, m)) s,
    )
