use Rattle.std.proofs.Common.{◌≡◌, ◌<◌, ℕ, nat_lt, true, ◌<ℤ◌, arith, ap, inl, inr, ⊎_elim, refl, rules}
use Rattle.std.proofs.lemmas.Int.{ints}
use Rattle.elk_doc.specs.declared.document.Port.{Port}
use Rattle.elk_doc.specs.Document.{port_at}
use Rattle.elk_doc.specs.PortsKept.{given_clockwise}
use Rattle.layout_check.proofs.order.comes_before.Goals as goal

yes_less : (a b : ℕ) → a < b → nat_lt a b ≡ true
yes_less a b l = search rules

less_yes : (a b : ℕ) → nat_lt a b ≡ true → a < b
less_yes a b e = search rules

pub returns-then-a-b : goal.returns-then-a-b
returns-then-a-b c =
    let d = c.args.scene.now.doc.now in
    let p = c.args.scene.now.placed.now in
    let i = (port_at d c.args.one).index in
    let j = (port_at d c.args.other).index in
    let ei = ap (λ (q : Port). q.index) c.port.ensures.value in
    let ej = ap (λ (q : Port). q.index) c.port-2.ensures.value in
    let up = c.if-first-second.false in
    let down = c.if-second-first.false in
    let same : i ≡ j = omega (arith, ints, ei, ej, up, down) in
    let ea = c.given_clockwise-a.ensures in
    let eb = c.given_clockwise-b.ensures in
    let less = c.if-a-b.true in
    let before : given_clockwise d p c.args.one <ℤ given_clockwise d p c.args.other = omega (arith, ints, ea, eb, less) in
    (λ _. inr (same, inl before), λ _. refl)

pub returns-then-b-a : goal.returns-then-b-a
returns-then-b-a c =
    let ei = ap (λ (q : Port). q.index) c.port.ensures.value in
    let ej = ap (λ (q : Port). q.index) c.port-2.ensures.value in
    let up = c.if-first-second.false in
    let down = c.if-second-first.false in
    let ea = c.given_clockwise-a.ensures in
    let eb = c.given_clockwise-b.ensures in
    let more = c.if-b-a.true in (
      λ t. absurd (search rules),
      λ h. absurd (⊎_elim (λ l. omega (arith, ints, ei, ej, up, l)) (λ x. ⊎_elim (λ l. omega (arith, ints, ea, eb, more, l)) (λ y. omega (arith, ints, ea, eb, more, y.0)) x.1) h),
    )

pub returns : goal.returns
returns c =
    let d = c.args.scene.now.doc.now in
    let p = c.args.scene.now.placed.now in
    let i = (port_at d c.args.one).index in
    let j = (port_at d c.args.other).index in
    let ei = ap (λ (q : Port). q.index) c.port.ensures.value in
    let ej = ap (λ (q : Port). q.index) c.port-2.ensures.value in
    let up = c.if-first-second.false in
    let down = c.if-second-first.false in
    let same : i ≡ j = omega (arith, ints, ei, ej, up, down) in
    let ea = c.given_clockwise-a.ensures in
    let eb = c.given_clockwise-b.ensures in
    let not_less = c.if-a-b.false in
    let not_more = c.if-b-a.false in
    let level : given_clockwise d p c.args.one ≡ given_clockwise d p c.args.other = omega (arith, ints, ea, eb, not_less, not_more) in (
      λ t. inr (same, inr (level, less_yes c.args.one c.args.other t)),
      λ h. ⊎_elim (λ l. absurd (omega (arith, ints, same, l))) (λ x. ⊎_elim (λ l. absurd (omega (arith, ints, level, l))) (λ y. yes_less c.args.one c.args.other y.1) x.1) h,
    )
