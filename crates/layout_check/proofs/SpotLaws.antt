-- Spots on the sides of nodes.
use Rattle.std.proofs.Common.{◌≡◌, ◌≢◌, ◌&&◌, inl, inr, ℕ, Bool, true, false, not, eq-eqb, ℤ, ◌+ℤ◌, ◌-ℤ◌, arith, refl, sym, ap, ◌∙◌, subst, IsTrue}
use Rattle.std.proofs.lemmas.Bool.{and_parts, and_from, cases_Bool, eqb-true}
use Rattle.std.proofs.lemmas.Int.{ints}
use Rattle.drawing_types.specs.declared.shape.Point.{Point}
use Rattle.drawing_types.specs.declared.shape.Size.{Size}
use Rattle.drawing_types.specs.declared.shape.Rect.{Rect}
use Rattle.drawing_types.specs.declared.shape.Side.{Side}
use Rattle.drawing_types.specs.declared.shape.Side.TheVariants.{North, East, South, West}
use Rattle.elk_doc.specs.declared.document.End.{End}
use Rattle.elk_doc.specs.declared.document.End.TheVariants.{Node as AtNode, Port as AtPort}
use Rattle.elk_doc.specs.declared.drawing.Placed.{Placed}
use Rattle.elk_doc.specs.Document.{Document}
use Rattle.elk_doc.specs.Level.{node_of_end}
use Rattle.elk_doc.specs.Drawing.{box_of}
use Rattle.elk_doc.specs.Places.{anchor_at, dock_of, middle_of, offset_on, section_end}
use Rattle.elk_doc.specs.PortsKept.{IsSpread, Spot, a_port, an_end, is_at_node, size_along, spot_offset}
use Rattle.drawing_types.specs.Shapes.{is_side}
use Rattle.drawing_types.specs.Shapes.{half_of, moved_by, rect_at}
use Rattle.elk_doc.specs.Sides.{end_node, end_of, side_of_end}
use Rattle.elk_doc.specs.Sound.{along}
use Rattle.layout_check.specs.Spots.{IsRoomy, IsSpotIn, KeepApart, end_spot, is_implicit, spot_of}
use Rattle.layout_check.specs.FirstPorts.{SpotsDiffer}

-- the middle of a stretch, seen from where the outer one begins
from_outer : (a b h : ℤ) → ((a +ℤ b) +ℤ h) -ℤ a ≡ b +ℤ h
from_outer a b h = omega (arith, ints)

pub offset_of_middle : (s : Side) (outer : Rect) (place : Point) (size : Size) → offset_on s outer (middle_of s (rect_at (moved_by outer place) size)) ≡ along s place +ℤ half_of (size_along s size)
offset_of_middle North outer place size = from_outer outer.x place.x (half_of size.width)
offset_of_middle East outer place size = from_outer outer.y place.y (half_of size.height)
offset_of_middle South outer place size = from_outer outer.x place.x (half_of size.width)
offset_of_middle West outer place size = from_outer outer.y place.y (half_of size.height)

pub is_side-self : (s : Side) → is_side s s ≡ true
is_side-self North = refl
is_side-self East = refl
is_side-self South = refl
is_side-self West = refl

pub is_side-same : (s t : Side) → is_side s t ≡ true → s ≡ t
is_side-same North North e = refl
is_side-same North East e = absurd cc
is_side-same North South e = absurd cc
is_side-same North West e = absurd cc
is_side-same East North e = absurd cc
is_side-same East East e = refl
is_side-same East South e = absurd cc
is_side-same East West e = absurd cc
is_side-same South North e = absurd cc
is_side-same South East e = absurd cc
is_side-same South South e = refl
is_side-same South West e = absurd cc
is_side-same West North e = absurd cc
is_side-same West East e = absurd cc
is_side-same West South e = absurd cc
is_side-same West West e = refl

pub is_side-equal : (s t : Side) → s ≡ t → is_side s t ≡ true
is_side-equal s t e = subst (λ x. is_side s x ≡ true) e (is_side-self s)

-- an end that stands at a node itself
pub at_node : (x : End) (m : ℕ) → is_at_node x m ≡ true → x ≡ AtNode m
at_node (AtNode n) m e = ap AtNode (eqb-true n m e)
at_node (AtPort k) m e = absurd cc

pub node_at_end : (d : Document) (e : ℕ) (t : Bool) (m : ℕ) → end_of d e t ≡ AtNode m → end_node d e t ≡ m
node_at_end d e true m at = ap (node_of_end d) at
node_at_end d e false m at = ap (node_of_end d) at

-- an end whose dock is elsewhere stands at no side of this node
pub elsewhere : (d : Document) (p : Placed) (e : ℕ) (t : Bool) (m : ℕ) (b : Bool) → (dock_of d p e t).node ≢ m → (is_at_node (end_of d e t) m && b) ≡ false
elsewhere d p e t m b away =
    elim (cases_Bool (is_at_node (end_of d e t) m)) [
      | inl here ↦ absurd (away (node_at_end d e t m (at_node (end_of d e t) m here)))
      | inr not_here ↦ ap (λ x. x && b) not_here
    ]

implicit_end : (d : Document) (x : End) (m : ℕ) → IsTrue (is_implicit x) → node_of_end d x ≡ m → x ≡ AtNode m
implicit_end d (AtNode n) m i e = ap AtNode e
implicit_end d (AtPort k) m i e = absurd cc

implicit_at : (d : Document) (e : ℕ) (t : Bool) (m : ℕ) → IsTrue (is_implicit (end_of d e t)) → end_node d e t ≡ m → end_of d e t ≡ AtNode m
implicit_at d e true m i n = implicit_end d _ m i n
implicit_at d e false m i n = implicit_end d _ m i n

-- the offset of an end at a node
pub end_offset : (d : Document) (p : Placed) (e : ℕ) (t : Bool) (m : ℕ) → end_of d e t ≡ AtNode m → (end_spot d p e t).offset ≡ offset_on (side_of_end d p e t) (box_of p m) (section_end p e t)
end_offset d p e t m at =
    ap (λ n. offset_on (side_of_end d p e t) (box_of p n) (anchor_at d p e t (end_of d e t))) (node_at_end d e t m at) ∙ ap (λ x. offset_on (side_of_end d p e t) (box_of p m) (anchor_at d p e t x)) at

-- what a spread spot is
pub record SpreadFacts (d : Document) (p : Placed) (m : ℕ) (s : Side) (x : Spot) : Type 0 where
  pub spread : IsTrue (spot_of d p x).spread
  pub node : (spot_of d p x).node ≡ m
  pub side : (spot_of d p x).side ≡ s
  pub offset : (spot_of d p x).offset ≡ spot_offset d p m s x

pub spread_facts : (d : Document) (p : Placed) (m : ℕ) (s : Side) (x : Spot) → IsSpread d p m s x → SpreadFacts d p m s x
spread_facts d p m s (a_port k) h =
    let both = and_parts _ _ h.1 in
    let more = and_parts _ _ both.1 in
    record { spread = more.0; node = eqb-true _ _ both.0; side = is_side-same _ _ more.1; offset = refl }
spread_facts d p m s (an_end e t) h =
    let both = and_parts _ _ h.1 in
    let at : end_of d e t ≡ AtNode m = at_node _ m both.0 in
    let side : side_of_end d p e t ≡ s = is_side-same _ _ both.1 in
    let implicit : is_implicit (end_of d e t) ≡ true = ap is_implicit at in
    record {
      spread = implicit;
      node = node_at_end d e t m at;
      side = side;
      offset = end_offset d p e t m at ∙ ap (λ z. offset_on z (box_of p m) (section_end p e t)) side;
    }

pub is_spread : (d : Document) (p : Placed) (m : ℕ) (s : Side) (x : Spot) → IsSpotIn d x → IsTrue (spot_of d p x).spread → (spot_of d p x).node ≡ m → (spot_of d p x).side ≡ s → IsSpread d p m s x
is_spread d p m s (a_port k) l free node side =
    (l, and_from _ _ (eq-eqb _ _ node) (and_from _ _ free (is_side-equal _ _ side)))
is_spread d p m s (an_end e t) l free node side =
    let at : end_of d e t ≡ AtNode m = implicit_at d e t m free node in
    let here : is_at_node (end_of d e t) m ≡ true = ap (λ x. is_at_node x m) at ∙ eq-eqb m m refl in
    (l, and_from _ _ here (is_side-equal _ _ side))

-- the test of two spots, the second one at m: as if there were room it tells enough, and where there is, no more
pub differ_if : (d : Document) (p : Placed) (m : ℕ) (roomy : Bool) (x y : Spot) → (IsRoomy d p m (spot_of d p y).side → IsTrue roomy) → KeepApart roomy (spot_of d p x) (spot_of d p y) → SpotsDiffer d p m x y
differ_if d p m roomy x y room apart s wide sx sy same =
    let fx = spread_facts d p m s x sx in
    let fy = spread_facts d p m s y sy in
    let here : IsRoomy d p m (spot_of d p y).side = subst (IsRoomy d p m) (sym fy.side) wide in
    apart (room here) fx.spread fy.spread (fx.node ∙ sym fy.node) (fx.side ∙ sym fy.side) (fx.offset ∙ same ∙ sym fy.offset)

pub apart_if : (d : Document) (p : Placed) (m : ℕ) (roomy : Bool) (x y : Spot) → IsSpotIn d x → IsSpotIn d y → (spot_of d p y).node ≡ m → (IsTrue roomy → IsRoomy d p m (spot_of d p y).side) → SpotsDiffer d p m x y → KeepApart roomy (spot_of d p x) (spot_of d p y)
apart_if d p m roomy x y lx ly at room differ wide ax ay node side same =
    let s = (spot_of d p y).side in
    let sx = is_spread d p m s x lx ax (node ∙ at) side in
    let sy = is_spread d p m s y ly ay at refl in
    let fx = spread_facts d p m s x sx in
    let fy = spread_facts d p m s y sy in
    differ s (room wide) sx sy (sym fx.offset ∙ same ∙ fy.offset)

-- facts of four values move along equations of each
pub subst4 : {A B C D : Type 0} (P : A → B → C → D → Type 0) (a a2 : A) (b b2 : B) (c c2 : C) (d d2 : D) → a ≡ a2 → b ≡ b2 → c ≡ c2 → d ≡ d2 → P a b c d → P a2 b2 c2 d2
subst4 P a a2 b b2 c c2 d d2 ea eb ec ed h =
    subst (λ x. P a2 b2 c2 x) ed (subst (λ x. P a2 b2 x d) ec (subst (λ x. P a2 x c d) eb (subst (λ x. P x b c d) ea h)))

-- a test that fails, reversed
pub not_true : (b : Bool) → not b ≡ true → b ≡ false
not_true true e = absurd cc
not_true false e = refl

-- the one other end of an edge
pub the_other : (P : Bool → Type 0) (s t : Bool) → P (not s) → t ≢ s → P t
the_other P true true h n = absurd (n refl)
the_other P true false h n = h
the_other P false true h n = h
the_other P false false h n = absurd (n refl)

-- both ends of an edge
pub both_ends : (P : Bool → Type 0) → P true → P false → (t : Bool) → P t
both_ends P one other true = one
both_ends P one other false = other
