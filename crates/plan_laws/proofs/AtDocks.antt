-- Pieces at docks: on which side of the box they lie.
use Rattle.std.proofs.Common.{◌≡◌, ⊎_elim, ℕ, ◌<◌, Bool, ℤ, ◌+ℤ◌, ◌≤ℤ◌, subst, sym, ◌∙◌, arith}
use Rattle.std.proofs.lemmas.Int.{ints, clamps}
use Rattle.drawing_types.specs.declared.shape.Point.{Point}
use Rattle.drawing_types.specs.declared.shape.Rect.{Rect}
use Rattle.drawing_types.specs.declared.shape.Side.{Side}
use Rattle.drawing_types.specs.declared.shape.Side.TheVariants.{North, East, South, West}
use Rattle.drawing_types.specs.Segments.{Share, IsBetween}
use Rattle.drawing_types.proofs.SegmentBounds.{Share-piece}
use Rattle.level_model.specs.Stage.{Stage, Stands, offset_along, IsOutward}
use Rattle.drawing_types.specs.Shapes.{right_of, bottom_of}
use Rattle.level_model.specs.Law.{IsStub, IsBorderPart, IsNorthOrSouth}
use Rattle.level_model.proofs.SameLines.{same_dock}

-- two docks of one child on one north or south side with anchors at one x are one
pub same_stub : (s : Stage) (e f : ℕ) (t u : Bool) (side : Side) → Stands s → e < s.edges → f < s.edges → IsNorthOrSouth side → (s.dock e t).node ≡ (s.dock f u).node
    → (s.dock e t).side ≡ side → (s.dock f u).side ≡ side → (s.anchor e t).x ≡ (s.anchor f u).x → s.dock e t ≡ s.dock f u
same_stub s e f t u side st el fl up node ds ks one =
    let d = s.dock e t in
    let k = s.dock f u in
    let dx : (s.anchor e t).x ≡ (s.box d.node).x +ℤ d.offset = offset_is (s.box d.node) (s.anchor e t) d.offset side up (subst (λ z. offset_along z (s.box d.node) (s.anchor e t) d.offset) ds (st.ends e t el).offset) in
    let kx : (s.anchor f u).x ≡ (s.box k.node).x +ℤ k.offset = offset_is (s.box k.node) (s.anchor f u) k.offset side up (subst (λ z. offset_along z (s.box k.node) (s.anchor f u) k.offset) ks (st.ends f u fl).offset) in
    let kd : (s.anchor f u).x ≡ (s.box d.node).x +ℤ k.offset = subst (λ z. (s.anchor f u).x ≡ (s.box z).x +ℤ k.offset) (sym node) kx in
    same_dock d k node (ds ∙ sym ks) (cancel _ _ _ _ _ dx kd one)
  where
    offset_is : (r : Rect) (a : Point) (o : ℤ) (side : Side) → IsNorthOrSouth side → offset_along side r a o → a.x ≡ r.x +ℤ o
    offset_is r a o side up h = ⊎_elim (λ e. subst (λ z. offset_along z r a o) e h) (λ e. subst (λ z. offset_along z r a o) e h) up

    cancel : (x y b o p : ℤ) → x ≡ b +ℤ o → y ≡ b +ℤ p → x ≡ y → o ≡ p
    cancel x y b o p h k e = omega (arith, ints)

-- a stub on the north side and one on the south side of a child share nothing
pub no_opposite : (a b c d : Point) (z : ℤ) → a.x ≡ b.x → c.x ≡ d.x → a.y ≤ℤ z → b.y ≤ℤ z → z ≤ℤ c.y → z ≤ℤ d.y → Share a b c d → ⊥
no_opposite a b c d z h k x y u v m =
    let p = Share-piece a b c d m in
    let across = p.across in
    ⊎_elim (λ l. absurd (omega (arith, ints, clamps))) (λ l. absurd (omega (arith, ints, clamps))) p.long

pub no_facing : (a b c d : Point) (z : ℤ) → a.y ≡ b.y → c.y ≡ d.y → a.x ≤ℤ z → b.x ≤ℤ z → z ≤ℤ c.x → z ≤ℤ d.x → Share a b c d → ⊥
no_facing a b c d z h k x y u v m =
    let p = Share-piece a b c d m in
    let along = p.along in
    ⊎_elim (λ l. absurd (omega (arith, ints, clamps))) (λ l. absurd (omega (arith, ints, clamps))) p.long

-- a number between two numbers on one side of a bound
below : (p q z m : ℤ) → IsBetween p q z → p ≤ℤ m → q ≤ℤ m → z ≤ℤ m
below p q z m h k l = let h1 = h.1 in omega (arith, ints, clamps)

above : (p q z m : ℤ) → IsBetween p q z → m ≤ℤ p → m ≤ℤ q → m ≤ℤ z
above p q z m h k l = let h0 = h.0 in omega (arith, ints, clamps)

-- a stub on the north side lies above its box, one on the south side below it
pub north_above : (s : Stage) (e : ℕ) (a b : Point) → Stands s → (p : IsStub s e a b) → (s.dock e p.at_source).side ≡ North
    → (a.y ≤ℤ (s.box (s.dock e p.at_source).node).y) × (b.y ≤ℤ (s.box (s.dock e p.at_source).node).y)
north_above s e a b st p h =
    let out : (s.anchor e p.at_source).y ≤ℤ (s.box (s.dock e p.at_source).node).y =
    subst (λ z. IsOutward z (s.box (s.dock e p.at_source).node) (s.anchor e p.at_source)) h (st.ends e p.at_source p.edge_in).outward in
    (below _ _ _ _ p.a_y out (p.outside_north h), below _ _ _ _ p.b_y out (p.outside_north h))

pub south_below : (s : Stage) (e : ℕ) (a b : Point) → Stands s → (p : IsStub s e a b) → (s.dock e p.at_source).side ≡ South
    → (bottom_of (s.box (s.dock e p.at_source).node) ≤ℤ a.y) × (bottom_of (s.box (s.dock e p.at_source).node) ≤ℤ b.y)
south_below s e a b st p h =
    let out : bottom_of (s.box (s.dock e p.at_source).node) ≤ℤ (s.anchor e p.at_source).y =
    subst (λ z. IsOutward z (s.box (s.dock e p.at_source).node) (s.anchor e p.at_source)) h (st.ends e p.at_source p.edge_in).outward in
    (above _ _ _ _ p.a_y out (p.outside_south h), above _ _ _ _ p.b_y out (p.outside_south h))

-- a piece from an east anchor lies right of its box, one from a west anchor left of it
pub east_right : (s : Stage) (e : ℕ) (a b : Point) → Stands s → (p : IsBorderPart s e a b) → (s.dock e p.at_source).side ≡ East
    → (right_of (s.box (s.dock e p.at_source).node) ≤ℤ a.x) × (right_of (s.box (s.dock e p.at_source).node) ≤ℤ b.x)
east_right s e a b st p h =
    let out : right_of (s.box (s.dock e p.at_source).node) ≤ℤ (s.anchor e p.at_source).x =
    subst (λ z. IsOutward z (s.box (s.dock e p.at_source).node) (s.anchor e p.at_source)) h (st.ends e p.at_source p.edge_in).outward in
    (above _ _ _ _ p.a_x out (p.outside_east h), above _ _ _ _ p.b_x out (p.outside_east h))

pub west_left : (s : Stage) (e : ℕ) (a b : Point) → Stands s → (p : IsBorderPart s e a b) → (s.dock e p.at_source).side ≡ West
    → (a.x ≤ℤ (s.box (s.dock e p.at_source).node).x) × (b.x ≤ℤ (s.box (s.dock e p.at_source).node).x)
west_left s e a b st p h =
    let out : (s.anchor e p.at_source).x ≤ℤ (s.box (s.dock e p.at_source).node).x =
    subst (λ z. IsOutward z (s.box (s.dock e p.at_source).node) (s.anchor e p.at_source)) h (st.ends e p.at_source p.edge_in).outward in
    (below _ _ _ _ p.a_x out (p.outside_west h), below _ _ _ _ p.b_x out (p.outside_west h))
