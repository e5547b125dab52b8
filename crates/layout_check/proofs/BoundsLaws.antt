-- What lies off the bounds of a route lies off the route.
use Rattle.std.proofs.Common.{◌≡◌, inl, inr, List, [], ◌∷◌, ◌++◌, length-append, subst, sym, ℕ, ◌+◌, ◌<◌, ℤ, ◌+ℤ◌, ◌≤ℤ◌, ◌<ℤ◌, length, arith}
use Rattle.std.proofs.lemmas.Bool.{cases_lt}
use Rattle.std.proofs.lemmas.List.{get_or_push, get_or_append_left}
use Rattle.std.proofs.lemmas.Int.{ints, clamps}
use Rattle.drawing_types.specs.declared.shape.Point.{Point}
use Rattle.drawing_types.specs.declared.shape.Rect.{Rect}
use Rattle.elk_doc.specs.declared.drawing.Placed.{Placed}
use Rattle.drawing_types.specs.declared.section.Section.{Section}
use Rattle.elk_doc.specs.Drawing.{points_of, section_of}
use Rattle.drawing_types.specs.Segments.{IsBetween, MeetsRect, MeetsSpan, Share}
use Rattle.drawing_types.proofs.SegmentBounds.{MeetsRect-spans}
use Rattle.layout_check.specs.declared.bounds.RouteBounds.{RouteBounds}
use Rattle.layout_check.specs.Bounds.{AreRouteBoundsBelow, HoldsPoint, HoldsRoute, LieApart, LieOff, bounds_at, no_bounds}
use Rattle.layout_check.specs.Stretches.{AreFree, KeepsOff, point_of}

-- a stretch between two numbers in bounds meets no stretch that lies before them or behind
behind : (a b low size high : ℤ) → a ≤ℤ high → b ≤ℤ high → high <ℤ low → MeetsSpan a b low size → ⊥
behind a b low size high f g h m = let s = m.starts in absurd (omega (arith, ints, clamps))

before : (a b low size least : ℤ) → least ≤ℤ a → least ≤ℤ b → (low +ℤ size) <ℤ least → MeetsSpan a b low size → ⊥
before a b low size least f g h m = let e = m.ends in absurd (omega (arith, ints, clamps))

segment_off : (b : RouteBounds) (p q : Point) (r : Rect) → HoldsPoint b p → HoldsPoint b q → LieOff b r → MeetsRect p q r → ⊥
segment_off b p q r f g (inl (inl h)) m = behind p.x q.x r.x r.width b.right f.right g.right h (MeetsRect-spans p q r m).0
segment_off b p q r f g (inl (inr h)) m = before p.x q.x r.x r.width b.left f.left g.left h (MeetsRect-spans p q r m).0
segment_off b p q r f g (inr (inl h)) m = behind p.y q.y r.y r.height b.bottom f.bottom g.bottom h (MeetsRect-spans p q r m).1
segment_off b p q r f g (inr (inr h)) m = before p.y q.y r.y r.height b.top f.top g.top h (MeetsRect-spans p q r m).1

pub route_off : (b : RouteBounds) (s : Section) (r : Rect) → HoldsRoute b s → LieOff b r → KeepsOff s r
route_off b s r h off i l m =
    let first : i < length (points_of s) = omega arith in
    segment_off b (point_of s i) (point_of s (i + 1)) r (h i first) (h (i + 1) l) off m

-- a number between two in bounds lies in the bounds
between_low : (a b z least : ℤ) → least ≤ℤ a → least ≤ℤ b → IsBetween a b z → least ≤ℤ z
between_low a b z least f g h = let low = h.0 in omega (arith, ints, clamps)

between_high : (a b z high : ℤ) → a ≤ℤ high → b ≤ℤ high → IsBetween a b z → z ≤ℤ high
between_high a b z high f g h = let top = h.1 in omega (arith, ints, clamps)

-- no number lies between two below a bound and between two above it
no_common : (a b c d z high low : ℤ) → a ≤ℤ high → b ≤ℤ high → low ≤ℤ c → low ≤ℤ d → high <ℤ low → IsBetween a b z → IsBetween c d z → ⊥
no_common a b c d z high low f g h k less one other =
    let under = between_high a b z high f g one in
    let over = between_low c d z low h k other in
    absurd (omega (arith, ints))

segments_apart : (b c : RouteBounds) (p q u v : Point) → HoldsPoint b p → HoldsPoint b q → HoldsPoint c u → HoldsPoint c v → LieApart b c → Share p q u v → ⊥
segments_apart b c p q u v f g h k (inl (inl less)) s =
    no_common p.x q.x u.x v.x s.one.x b.right c.left f.right g.right h.left k.left less s.one_on_first.across s.one_on_second.across
segments_apart b c p q u v f g h k (inl (inr less)) s =
    no_common u.x v.x p.x q.x s.one.x c.right b.left h.right k.right f.left g.left less s.one_on_second.across s.one_on_first.across
segments_apart b c p q u v f g h k (inr (inl less)) s =
    no_common p.y q.y u.y v.y s.one.y b.bottom c.top f.bottom g.bottom h.top k.top less s.one_on_first.along s.one_on_second.along
segments_apart b c p q u v f g h k (inr (inr less)) s =
    no_common u.y v.y p.y q.y s.one.y c.bottom b.top h.bottom k.bottom f.top g.top less s.one_on_second.along s.one_on_first.along

pub routes_apart : (b c : RouteBounds) (s t : Section) → HoldsRoute b s → HoldsRoute c t → LieApart b c → AreFree s t
routes_apart b c s t h k apart i l j m share =
    let first : i < length (points_of s) = omega arith in
    let other : j < length (points_of t) = omega arith in
    segments_apart b c (point_of s i) (point_of s (i + 1)) (point_of t j) (point_of t (j + 1)) (h i first) (h (i + 1) l) (k j other) (k (j + 1) m) apart share

-- the bounds of one route more
pub bounds_push : (p : Placed) (n : ℕ) (xs ys : List RouteBounds) (b : RouteBounds) → AreRouteBoundsBelow p n xs → HoldsRoute b (section_of p n) → ys ≡ xs ++ b ∷ [] → AreRouteBoundsBelow p (n + 1) ys
bounds_push p n xs ys b h held grown =
    rw grown
    (record {
      count = omega (arith, length-append xs (b ∷ []), h.count);
      each = λ e l.
          elim (cases_lt e n) [
            | inl under ↦
                let was : bounds_at (xs ++ b ∷ []) e ≡ bounds_at xs e = get_or_append_left xs (b ∷ []) no_bounds e (omega (arith, h.count)) in
                subst (λ c. HoldsRoute c (section_of p e)) (sym was) (h.each e under)
            | inr over ↦
                let same : e ≡ n = omega arith in
                let now : bounds_at (xs ++ b ∷ []) n ≡ b = get_or_push xs b no_bounds n h.count in
                let last : HoldsRoute (bounds_at (xs ++ b ∷ []) n) (section_of p n) = subst (λ c. HoldsRoute c (section_of p n)) (sym now) held in
                subst (λ k. HoldsRoute (bounds_at (xs ++ b ∷ []) k) (section_of p k)) (sym same) last
          ];
    })
