-- The segments of a good route are parallel to an axis.
use Rattle.std.proofs.Common.{◌≡◌, ◌≢◌, ℕ, zero, suc, ◌+◌, ◌<◌, ℤ, ◌⊎◌, ⊎_elim, List, [], ◌∷◌, ◌++◌, length, arith, sym, ap, inl, inr, subst, true, false}
use Rattle.std.proofs.lemmas.Int.{ints, by_lt_z}
use Rattle.drawing_types.specs.declared.shape.Point.{Point}
use Rattle.drawing_types.specs.declared.shape.Rect.{Rect}
use Rattle.drawing_types.specs.declared.shape.Side.{Side}
use Rattle.drawing_types.specs.declared.shape.Side.TheVariants.{North, East, South, West}
use Rattle.drawing_types.specs.declared.shape.Dock.{Dock}
use Rattle.elk_doc.specs.declared.drawing.Placed.{Placed}
use Rattle.drawing_types.specs.declared.section.Section.{Section}
use Rattle.elk_doc.specs.Document.{Document}
use Rattle.elk_doc.specs.Drawing.{box_of, section_of}
use Rattle.elk_doc.specs.Places.{anchor_of, dock_of, offset_on}
use Rattle.elk_doc.specs.Sides.{side_of_end, end_node}
use Rattle.drawing_types.specs.Segments.{IsAxisParallel}
use Rattle.elk_doc.specs.Route.{Route, IsStep}
use Rattle.layout_check.specs.Stretches.{point_of, AreParallel, HasSegment}

same_or_not_z : (a b : ℤ) → (a ≡ b) ⊎ (a ≢ b)
same_or_not_z a b =
    by_lt_z a b
    (λ l. inr (λ e. omega (arith, ints)))
    (λ l. by_lt_z b a (λ m. inr (λ e. omega (arith, ints))) (λ m. inl (omega (arith, ints))))

-- points at one offset along a side agree in a coordinate
same_offset : (s : Side) (r : Rect) (a b : Point) → offset_on s r a ≡ offset_on s r b → IsAxisParallel a b
same_offset North r a b e = inl (omega (arith, ints))
same_offset East r a b e = inr (omega (arith, ints))
same_offset South r a b e = inl (omega (arith, ints))
same_offset West r a b e = inr (omega (arith, ints))

-- the two anchors of a self-loop at one dock
same_dock : (d : Document) (p : Placed) (e : ℕ) → dock_of d p e true ≡ dock_of d p e false → IsAxisParallel (anchor_of d p e true) (anchor_of d p e false)
same_dock d p e h =
    let side = ap (λ (x : Dock). x.side) h in
    let node = ap (λ (x : Dock). x.node) h in
    let offset = ap (λ (x : Dock). x.offset) h in
    let Q : Side → Type 0 = λ s. offset_on (side_of_end d p e true) (box_of p (end_node d e true)) (anchor_of d p e true) ≡ offset_on s (box_of p (end_node d e false)) (anchor_of d p e false) in
    let one = subst Q (sym side) offset in
    let R : ℕ → Type 0 = λ n. offset_on (side_of_end d p e true) (box_of p (end_node d e true)) (anchor_of d p e true) ≡ offset_on (side_of_end d p e true) (box_of p n) (anchor_of d p e false) in
    let two = subst R (sym node) one in
    same_offset (side_of_end d p e true) (box_of p (end_node d e true)) (anchor_of d p e true) (anchor_of d p e false) two

-- the only segment of a route without bends
straight : (s : Section) (i : ℕ) → s.bends ≡ [] → HasSegment s i → IsAxisParallel s.start s.end → IsAxisParallel (point_of s i) (point_of s (i + 1))
straight s zero none h along = rw none along
straight s (suc i) none h along =
    let P : List Point → Type 0 = λ b. suc i + 1 < length (s.start ∷ (b ++ s.end ∷ [])) in
    let short = subst P none h in
    absurd (omega arith)

-- a loop at one dock has one segment, along or across its side
one_dock_parallel : (d : Document) (p : Placed) (e i : ℕ) → Route d p e → dock_of d p e true ≡ dock_of d p e false → HasSegment (section_of p e) i → IsAxisParallel (point_of (section_of p e) i) (point_of (section_of p e) (i + 1))
one_dock_parallel d p e i r l h =
    let anchors = same_dock d p e l in
    let ends : IsAxisParallel (section_of p e).start (section_of p e).end = rw (r.from_source, r.to_target) anchors in
    straight (section_of p e) i (r.one_dock l) h ends

step_parallel : (a b : Point) → IsStep a b → IsAxisParallel a b
step_parallel a b (inl h) = inl h.0
step_parallel a b (inr h) = inr h.1

pub route_parallel : (d : Document) (p : Placed) (e : ℕ) → Route d p e → AreParallel (section_of p e)
route_parallel d p e r i h =
    let a = point_of (section_of p e) i in
    let b = point_of (section_of p e) (i + 1) in
    ⊎_elim
    (λ same. inl same)
    (λ x. ⊎_elim
    (λ same. inr same)
    (λ y.
    let differ : dock_of d p e true ≡ dock_of d p e false → ⊥ = λ l. ⊎_elim x y (one_dock_parallel d p e i r l h) in
    step_parallel a b ((r.orthogonal differ).steps i h))
    (same_or_not_z a.y b.y))
    (same_or_not_z a.x b.x)
