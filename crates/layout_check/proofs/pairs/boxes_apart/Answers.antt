use Rattle.std.proofs.Common.{◌↔◌, ⊎_elim, inl, inr, ℤ, IsTrue, SFits, subst, refl, w64, rules}
use Rattle.std.proofs.lemmas.Bool.{both_ways}
use Rattle.std.proofs.lemmas.Int.{to_z-of_z}
use Rattle.drawing_types.specs.declared.shape.Rect.{Rect}
use Rattle.elk_doc.specs.declared.document.Direction.TheVariants.{Right}
use Rattle.elk_doc.specs.Places.{outline_of}
use Rattle.layout_check.specs.FirstApart.{StandsClearIn}
use Rattle.layout_check.proofs.pairs.boxes_apart.Goals as goal

pub returns-then-stands_clear : goal.returns-then-stands_clear
returns-then-stands_clear c =
    let gap = c.args.level.now.options.now.spacing.node_node in
    let fits : SFits w64 gap = search rules in
    let r = outline_of c.args.level.now.scene.now.doc.now c.args.level.now.scene.now.placed.now c.args.one in
    let s = outline_of c.args.level.now.scene.now.doc.now c.args.level.now.scene.now.placed.now c.args.other in
    let P : ℤ → Type 0 = λ z. IsTrue c.stands_clear.result ↔ StandsClearIn z Right c.outline_at-r.result c.outline_at-s.result in
    let Q : Rect → Type 0 = λ x. IsTrue c.stands_clear.result ↔ StandsClearIn gap Right x c.outline_at-s.result in
    let R : Rect → Type 0 = λ x. IsTrue c.stands_clear.result ↔ StandsClearIn gap Right r x in
    let one = subst R c.outline_at-s.ensures (subst Q c.outline_at-r.ensures (subst P (to_z-of_z w64 gap fits) c.stands_clear.ensures)) in
    (λ _. inl (one.0 c.if-stands_clear.true), λ _. refl)

pub returns : goal.returns
returns c =
    let gap = c.args.level.now.options.now.spacing.node_node in
    let fits : SFits w64 gap = search rules in
    let r = outline_of c.args.level.now.scene.now.doc.now c.args.level.now.scene.now.placed.now c.args.one in
    let s = outline_of c.args.level.now.scene.now.doc.now c.args.level.now.scene.now.placed.now c.args.other in
    let P : ℤ → Type 0 = λ z. IsTrue c.stands_clear.result ↔ StandsClearIn z Right c.outline_at-r.result c.outline_at-s.result in
    let Q : Rect → Type 0 = λ x. IsTrue c.stands_clear.result ↔ StandsClearIn gap Right x c.outline_at-s.result in
    let R : Rect → Type 0 = λ x. IsTrue c.stands_clear.result ↔ StandsClearIn gap Right r x in
    let one = subst R c.outline_at-s.ensures (subst Q c.outline_at-r.ensures (subst P (to_z-of_z w64 gap fits) c.stands_clear.ensures)) in
    let P2 : ℤ → Type 0 = λ z. IsTrue c.stands_clear-2.result ↔ StandsClearIn z Right c.outline_at-s.result c.outline_at-r.result in
    let Q2 : Rect → Type 0 = λ x. IsTrue c.stands_clear-2.result ↔ StandsClearIn gap Right x c.outline_at-r.result in
    let Flipped : Rect → Type 0 = λ x. IsTrue c.stands_clear-2.result ↔ StandsClearIn gap Right s x in
    let other = subst Flipped c.outline_at-r.ensures (subst Q2 c.outline_at-s.ensures (subst P2 (to_z-of_z w64 gap fits) c.stands_clear-2.ensures)) in
    (λ t. inr (other.0 t), λ h. ⊎_elim (λ x. absurd (both_ways c.stands_clear.result c.if-stands_clear.false (one.1 x))) other.1 h)
