-- A route that is one single point: it lies at the anchor of its edge, outside boxes and foreign outlines.
use Rattle.std.proofs.Common.{◌≡◌, ◌≢◌, ⊎_elim, inl, inr, ℕ, ◌<◌, Bool, ℤ, ◌+ℤ◌, ◌≤ℤ◌, ◌<ℤ◌, arith, sym, ◌∙◌, subst}
use Rattle.std.proofs.lemmas.Int.{ints, clamps}
use Rattle.std.proofs.lemmas.Bool.{cases_eq}
use Rattle.drawing_types.specs.declared.shape.Point.{Point}
use Rattle.drawing_types.specs.declared.shape.Rect.{Rect}
use Rattle.drawing_types.specs.declared.shape.Side.{Side}
use Rattle.drawing_types.specs.declared.shape.Side.TheVariants.{North, East, South, West}
use Rattle.drawing_types.specs.Segments.{MeetsRect, EntersRect, Share, MeetsSpan, EntersSpan, IsBetween}
use Rattle.drawing_types.proofs.SameShapes.{same_point}
use Rattle.drawing_types.proofs.SegmentBounds.{MeetsRect-spans, spans-MeetsRect, EntersRect-spans}
use Rattle.level_model.specs.Stage.{Stage, Stands, ChildStands, EndStands, IsOutward}
use Rattle.level_model.proofs.Zones.{le_trans, three_ways}

between_one : (a z : ℤ) → IsBetween a a z → z ≡ a
between_one a z h = let u = h.0 in let v = h.1 in omega (arith, ints, clamps, u, v)

-- two different points do not lie on one point
pub one_point : (p c d : Point) → Share p p c d → ⊥
one_point p c d s =
    s.differ
    (same_point s.one s.other
    (between_one p.x s.one.x s.one_on_first.across ∙ sym (between_one p.x s.other.x s.other_on_first.across))
    (between_one p.y s.one.y s.one_on_first.along ∙ sym (between_one p.y s.other.y s.other_on_first.along)))

meets_from : (z low size : ℤ) → MeetsSpan z z low size → (low ≤ℤ z) × (z ≤ℤ (low +ℤ size))
meets_from z low size m = let a = m.starts in let b = m.ends in (omega (arith, ints, clamps, a, b), omega (arith, ints, clamps, a, b))

apart_up : (z top bottom low : ℤ) → z ≤ℤ bottom → bottom <ℤ top → top ≤ℤ low → low ≤ℤ z → ⊥
apart_up z top bottom low a b c d = omega (arith, ints, a, b, c, d)

apart_down : (z top bottom high : ℤ) → top ≤ℤ z → bottom <ℤ top → high ≤ℤ bottom → z ≤ℤ high → ⊥
apart_down z top bottom high a b c d = omega (arith, ints, a, b, c, d)

module _ (s : Stage) (st : Stands s) (e : ℕ) (at_source : Bool) (there : e < s.edges) where
  abbrev pub own : ℕ
  own = (s.dock e at_source).node

  end : EndStands s e at_source
  end = st.ends e at_source there

  abbrev pub anchor : Point
  anchor = s.anchor e at_source

  -- the anchor lies in no other child's outline
  pub anchor_meets : (c : ℕ) → ChildStands s c → own ≢ c → MeetsRect anchor anchor (s.outline c) → ⊥
  anchor_meets c k foreign m =
      let spans = MeetsRect-spans anchor anchor (s.outline c) m in
      let x = meets_from anchor.x (s.outline c).x (s.outline c).width spans.0 in
      let y = meets_from anchor.y (s.outline c).y (s.outline c).height spans.1 in
      let mine = end.child in
      let at = end.in_outline in
      let left = le_trans _ _ _ mine.left at.left in
      let right = le_trans _ _ _ at.right mine.right in
      let top = le_trans _ _ _ mine.top at.top in
      let bottom = le_trans _ _ _ at.bottom mine.bottom in
      let units : s.unit_of own ≢ s.unit_of c = λ same. foreign (st.one_child own c mine k same) in
      ⊎_elim
      (λ less. apart_up _ _ _ _ right (st.row.apart _ _ less k.column) k.left x.0)
      (λ r. ⊎_elim
      (λ same. ⊎_elim
      (λ above. apart_up _ _ _ _ bottom above k.top y.0)
      (λ below. apart_down _ _ _ _ top below k.bottom y.1)
      (st.column (s.unit_of own) (s.unit_of c) mine.unit k.unit units same))
      (λ more. apart_down _ _ _ _ left (st.row.apart _ _ more mine.column) k.right x.1)
      r)
      (three_ways (s.layer (s.unit_of own)) (s.layer (s.unit_of c)))

  enters_low : (z low size : ℤ) → z ≤ℤ low → EntersSpan z z low size → ⊥
  enters_low z low size h m = let a = m.starts in omega (arith, ints, clamps, a, h)

  enters_high : (z low size : ℤ) → (low +ℤ size) ≤ℤ z → EntersSpan z z low size → ⊥
  enters_high z low size h m = let a = m.ends in omega (arith, ints, clamps, a, h)

  outside : (side : Side) (box : Rect) (a : Point) → IsOutward side box a → EntersRect a a box → ⊥
  outside North box a out m = enters_low a.y box.y box.height out (EntersRect-spans a a box m).1
  outside East box a out m = enters_high a.x box.x box.width out (EntersRect-spans a a box m).0
  outside South box a out m = enters_high a.y box.y box.height out (EntersRect-spans a a box m).1
  outside West box a out m = enters_low a.x box.x box.width out (EntersRect-spans a a box m).0

  enters_meets : (c : ℕ) → ChildStands s c → EntersRect anchor anchor (s.box c) → MeetsRect anchor anchor (s.outline c)
  enters_meets c k m =
      let spans = EntersRect-spans anchor anchor (s.box c) m in
      spans-MeetsRect anchor anchor (s.outline c) (wider _ _ _ _ _ k.box_left k.box_right spans.0) (wider _ _ _ _ _ k.box_top k.box_bottom spans.1)
    where
      wider : (a low size o o_size : ℤ) → o ≤ℤ low → (low +ℤ size) ≤ℤ (o +ℤ o_size) → EntersSpan a a low size → MeetsSpan a a o o_size
      wider a low size o o_size h k m =
          let real = m.real in
          let starts = m.starts in
          let ends = m.ends in
          record { real = omega (arith, ints); starts = omega (arith, ints, clamps); ends = omega (arith, ints, clamps) }

  -- nor inside any box
  pub anchor_enters : (c : ℕ) → ChildStands s c → EntersRect anchor anchor (s.box c) → ⊥
  anchor_enters c k m = elim (cases_eq own c) [
    | inl same ↦ outside (s.dock e at_source).side (s.box own) anchor end.outward (subst (λ z. EntersRect anchor anchor (s.box z)) (sym same) m)
    | inr differ ↦ anchor_meets c k differ (enters_meets c k m)
  ]
