use Rattle.std.proofs.Common.{◌↔◌, ◌<◌, ℕ, IsTrue, refl, subst, rules, arith}
use Rattle.std.proofs.lemmas.Bool.{both_ways}
use Rattle.elk_doc.specs.Apart.{PartsApart}
use Rattle.elk_doc.specs.Drawing.{part_in}
use Rattle.layout_check.proofs.beyond.parts_hold.Goals as goal

pub returns-then-not-is_least : goal.returns-then-not-is_least
returns-then-not-is_least c =
    (λ _ s x y l. absurd (both_ways c.is_least.result c.if-not-is_least.true (c.is_least.ensures.1 x)), λ _. refl)

pub returns-then-not-is_least-2 : goal.returns-then-not-is_least-2
returns-then-not-is_least-2 c =
    (λ _ s x y l. absurd (both_ways c.is_least-2.result c.if-not-is_least-2.true (c.is_least-2.ensures.1 y)), λ _. refl)

pub returns : goal.returns
returns c =
    let d = c.args.level.now.scene.now.doc.now in
    let p = c.args.level.now.scene.now.placed.now in
    let n = c.args.level.now.node in
    let o = c.args.level.now.options.now in
    let x = c.args.level.now.certificate.now in
    let P : ℕ → Type 0 = λ i. IsTrue c.parts_apart.result ↔ PartsApart d p n o x i c.part_at-j.result in
    let Q : ℕ → Type 0 = λ j. IsTrue c.parts_apart.result ↔ PartsApart d p n o x (part_in d n x c.args.one) j in
    let says = subst Q c.part_at-j.ensures (subst P c.part_at-i.ensures c.parts_apart.ensures) in
    let one = c.is_least.ensures.0 c.if-not-is_least.false in
    let other = c.is_least-2.ensures.0 c.if-not-is_least-2.false in
    let later : c.args.one < c.args.other = omega arith in
    (λ t _ _ _ _. says.0 t, λ h. says.1 (h (search rules) one other later))
