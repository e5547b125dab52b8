-- Boxes and anchors that are read off the table are those of the plan.
use Rattle.std.proofs.Common.{◌≡◌, ℕ, ◌<◌, List, length, ℤ, pos, ◌+ℤ◌, ◌-ℤ◌, arith, ◌∙◌, ap, ap₂}
use Rattle.std.proofs.lemmas.Int.{ints}
use Rattle.drawing_types.specs.declared.shape.Point.{Point}
use Rattle.drawing_types.specs.declared.shape.Rect.{Rect}
use Rattle.drawing_types.proofs.SameShapes.{same_point}
use Rattle.elk_layers.specs.Layered.{unit_at, layer_of}
use Rattle.elk_layers.specs.Lines.{top_of}
use Rattle.route_lines.specs.Points.{PlainGap, gap_in}
use Rattle.level_model.specs.Level.{Orders, End, spoke, outline, spot_of, anchor_of_spot}
use Rattle.level_model.specs.Nets.{unit_of}
use Rattle.level_model.specs.Table.{child_in}
use Rattle.level_model.specs.FromPlan.{box_place, anchor}
use Rattle.level_nets.specs.Parts.{Parts, plan_of, ArePlanned}
use Rattle.level_nets.specs.Read.{at_end}
use Rattle.level_nets.specs.Routed.{drawn_with}
use Rattle.level_nets.proofs.Names.{end_is, child_below}
use Rattle.level_draw.specs.Read as read

module _ (s : Parts) (rows : List (List ℕ)) (o : Orders) (layers : List ℕ) (planned : ArePlanned s rows o layers) (gaps : List PlainGap) where
  pub box_is : (c : ℕ) → c < length s.level.children → read.box_at s gaps c ≡ box_place s.level (plan_of s rows) o (drawn_with gaps (pos 0) (pos 0)) c
  box_is c h =
      let v = planned.table.children c h in
      let unit : (child_in s.table.children c).unit ≡ unit_of (plan_of s rows) c = v.unit in
      let out : (child_in s.table.children c).outline ≡ outline s.level (plan_of s rows) o c = v.outline_is in
      same_point _ _
      (ap₂ (λ (u : ℕ) (q : Rect). (gap_in gaps (layer_of s.layered u)).right -ℤ q.x) unit out)
      (height _ _ _ _ _ _ (ap (top_of s.tops) unit) (ap (λ u. (unit_at s.layered.units u).body_top) unit ∙ (planned.ready.units.rooms c h).top) (ap (λ (q : Rect). q.y) out))
    where
      height : (a b c a' b' c' : ℤ) → a ≡ a' → b ≡ b' → c ≡ c' → a +ℤ (b -ℤ c) ≡ (a' +ℤ (b' -ℤ c')) -ℤ pos 0
      height a b c a' b' c' e f g = rw (e, f, g) (none (a' +ℤ (b' -ℤ c')))
        where
          none : (z : ℤ) → z ≡ z -ℤ pos 0
          none z = omega (arith, ints)

  pub anchor_is : (boxes : ℕ → Point) → ((c : ℕ) → c < length s.level.children → boxes c ≡ box_place s.level (plan_of s rows) o (drawn_with gaps (pos 0) (pos 0)) c)
      → (n : End) → n.edge < length s.level.edges → read.anchor_in s boxes n ≡ anchor s.level (plan_of s rows) o (drawn_with gaps (pos 0) (pos 0)) n
  anchor_is boxes are n h =
      let box = are (spoke s.level n).child (child_below s rows o layers planned n h) in
      let at : (at_end s n).anchor ≡ anchor_of_spot s.level o (spoke s.level n).child (spot_of s.level (plan_of s rows) n) = (end_is s rows o layers planned n h).anchor in
      same_point _ _
      (ap₂ (λ (b a : Point). b.x +ℤ a.x) box at)
      (ap₂ (λ (b a : Point). b.y +ℤ a.y) box at)
