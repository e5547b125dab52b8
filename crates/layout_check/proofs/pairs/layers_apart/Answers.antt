use Rattle.std.proofs.Common.{◌≡◌, ◌↔◌, ◌<◌, ℤ, IsTrue, SFits, subst, refl, true, w64, rules, arith}
use Rattle.std.proofs.lemmas.Int.{to_z-of_z}
use Rattle.drawing_types.specs.declared.shape.Rect.{Rect}
use Rattle.elk_doc.specs.Drawing.{layer_in}
use Rattle.elk_doc.specs.Places.{outline_of}
use Rattle.layout_check.specs.FirstApart.{IsBeyond, LevelApart}
use Rattle.layout_check.proofs.pairs.layers_apart.Goals as goal

pub returns-then-first-second : goal.returns-then-first-second
returns-then-first-second c =
    let way = c.args.level.now.options.now.direction in
    let gap = c.args.level.now.options.now.spacing.node_layers in
    let fits : SFits w64 gap = search rules in
    let r = outline_of c.args.level.now.scene.now.doc.now c.args.level.now.scene.now.placed.now c.args.one in
    let P : ℤ → Type 0 = λ z. IsTrue c.is_beyond.result ↔ IsBeyond true z way c.outline_at-r.result c.outline_at-s.result in
    let Q : Rect → Type 0 = λ x. IsTrue c.is_beyond.result ↔ IsBeyond true gap way x c.outline_at-s.result in
    let R : Rect → Type 0 = λ x. IsTrue c.is_beyond.result ↔ IsBeyond true gap way r x in
    let says = subst R c.outline_at-s.ensures (subst Q c.outline_at-r.ensures (subst P (to_z-of_z w64 gap fits) c.is_beyond.ensures)) in
    let one = c.requires.level.layers.each c.args.one 0 c.requires.one_in in
    let other = c.requires.level.layers.each c.args.other 0 c.requires.other_in in
    let less = c.if-first-second.true in
    let before : layer_in c.args.level.now.scene.now.doc.now c.args.level.now.node c.args.level.now.certificate.now c.args.one < layer_in c.args.level.now.scene.now.doc.now c.args.level.now.node c.args.level.now.certificate.now c.args.other = omega (arith, one, other, less) in (
      λ t. record { same_layer = λ e. absurd (omega (arith, e, before)); earlier_layer = λ _. says.0 t },
      λ h. says.1 (h.earlier_layer before),
    )

pub returns-then-second-first : goal.returns-then-second-first
returns-then-second-first c =
    let one = c.requires.level.layers.each c.args.one 0 c.requires.one_in in
    let other = c.requires.level.layers.each c.args.other 0 c.requires.other_in in
    let less = c.if-second-first.true in
    let after : layer_in c.args.level.now.scene.now.doc.now c.args.level.now.node c.args.level.now.certificate.now c.args.other < layer_in c.args.level.now.scene.now.doc.now c.args.level.now.node c.args.level.now.certificate.now c.args.one = omega (arith, one, other, less) in (
      λ _. record { same_layer = λ e. absurd (omega (arith, e, after)); earlier_layer = λ l. absurd (omega (arith, l, after)) },
      λ _. refl,
    )

pub returns : goal.returns
returns c =
    let way = c.args.level.now.options.now.direction in
    let gap = c.args.level.now.options.now.spacing.node_node in
    let fits : SFits w64 gap = search rules in
    let r = outline_of c.args.level.now.scene.now.doc.now c.args.level.now.scene.now.placed.now c.args.one in
    let P : ℤ → Type 0 = λ z. IsTrue c.level_apart.result ↔ LevelApart z way c.outline_at-r.result c.outline_at-s.result in
    let Q : Rect → Type 0 = λ x. IsTrue c.level_apart.result ↔ LevelApart gap way x c.outline_at-s.result in
    let R : Rect → Type 0 = λ x. IsTrue c.level_apart.result ↔ LevelApart gap way r x in
    let says = subst R c.outline_at-s.ensures (subst Q c.outline_at-r.ensures (subst P (to_z-of_z w64 gap fits) c.level_apart.ensures)) in
    let one = c.requires.level.layers.each c.args.one 0 c.requires.one_in in
    let other = c.requires.level.layers.each c.args.other 0 c.requires.other_in in
    let not_less = c.if-first-second.false in
    let not_more = c.if-second-first.false in
    let equal : layer_in c.args.level.now.scene.now.doc.now c.args.level.now.node c.args.level.now.certificate.now c.args.one ≡ layer_in c.args.level.now.scene.now.doc.now c.args.level.now.node c.args.level.now.certificate.now c.args.other = omega (arith, one, other, not_less, not_more) in (
      λ t. record { same_layer = λ _. says.0 t; earlier_layer = λ l. absurd (omega (arith, l, equal)) },
      λ h. says.1 (h.same_layer equal),
    )
