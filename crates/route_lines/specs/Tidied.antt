-- Paths of points, and how they are tidied.
use Rattle.std.specs.Prelude.{◌≡◌, ◌≢◌, ◌⊎◌, List, [], ◌∷◌, ◌++◌, ◌<ℤ◌}
use Rattle.drawing_types.specs.declared.shape.Point.{Point}
use Rattle.drawing_types.specs.declared.shape.Rect.{Rect}
use Rattle.drawing_types.specs.declared.section.Section.{Section}
use Rattle.drawing_types.specs.Segments.{IsAxisParallel, IsOnSegment, Share, MeetsRect, EntersRect}

-- b lies on the segment from a to c, which is parallel to an axis
pub record IsMiddle (a b c : Point) : Type 0 where
  pub line : IsAxisParallel a c
  pub between : IsOnSegment a c b

-- one point is dropped: one of two equal neighbours, or a point between its two neighbours on one line parallel to an axis
pub data Drops : List Point → List Point → Type 0 where
  equal : (a b : Point) (ps : List Point) → a ≡ b → Drops (a ∷ b ∷ ps) (b ∷ ps)
  middle : (a b c : Point) (ps : List Point) → IsMiddle a b c → Drops (a ∷ b ∷ c ∷ ps) (a ∷ c ∷ ps)
  later : (a : Point) (ps qs : List Point) → Drops ps qs → Drops (a ∷ ps) (a ∷ qs)

-- some points are dropped, one after the other
pub data DropsSome : List Point → List Point → Type 0 where
  none : (ps : List Point) → DropsSome ps ps
  more : (ps qs rs : List Point) → Drops ps qs → DropsSome qs rs → DropsSome ps rs

-- ps becomes qs, of which nothing can be dropped
pub record IsTidied (ps qs : List Point) : Type 0 where
  pub dropped : DropsSome ps qs
  pub tidy : (rs : List Point) → Drops qs rs → ⊥

-- b lies between a and the first of the points
abbrev pub IsMiddleBeforeFirst : Point → Point → List Point → Type 0
IsMiddleBeforeFirst a b [] = ⊥
IsMiddleBeforeFirst a b (c ∷ ps) = IsMiddle a b c

-- some segment of the path does this, and each segment does
abbrev pub SomeSegment : (Point → Point → Type 0) → List Point → Type 0
SomeSegment Q [] = ⊥
SomeSegment Q (a ∷ []) = ⊥
SomeSegment Q (a ∷ b ∷ ps) = Q a b ⊎ SomeSegment Q (b ∷ ps)

abbrev pub EachSegment : (Point → Point → Type 0) → List Point → Type 0
EachSegment Q [] = Unit {0}
EachSegment Q (a ∷ []) = Unit {0}
EachSegment Q (a ∷ b ∷ ps) = Q a b × EachSegment Q (b ∷ ps)

abbrev pub IsAxisPath : List Point → Type 0
IsAxisPath = EachSegment IsAxisParallel

-- what a segment of qs shares, meets or enters, a segment of ps does
abbrev pub KeepsShares : List Point → List Point → Type 0
KeepsShares ps qs = (c d : Point) → SomeSegment (λ a b. Share a b c d) qs → SomeSegment (λ a b. Share a b c d) ps

abbrev pub KeepsMeetings : List Point → List Point → Type 0
KeepsMeetings ps qs = (r : Rect) → SomeSegment (λ a b. MeetsRect a b r) qs → SomeSegment (λ a b. MeetsRect a b r) ps

abbrev pub KeepsEntries : List Point → List Point → Type 0
KeepsEntries ps qs = (r : Rect) → SomeSegment (λ a b. EntersRect a b r) qs → SomeSegment (λ a b. EntersRect a b r) ps

-- The four ways of a segment of positive length.
pub data Heading : Type 0 where
  up : Heading
  down : Heading
  left : Heading
  right : Heading

abbrev pub Goes : Heading → Point → Point → Type 0
Goes up a b = (a.x ≡ b.x) × (b.y <ℤ a.y)
Goes down a b = (a.x ≡ b.x) × (a.y <ℤ b.y)
Goes left a b = (a.y ≡ b.y) × (b.x <ℤ a.x)
Goes right a b = (a.y ≡ b.y) × (a.x <ℤ b.x)

abbrev pub opposite : Heading → Heading
opposite up = down
opposite down = up
opposite left = right
opposite right = left

-- The path comes to its first point by the first heading, leaves its last by the second, and never turns right back: a
-- segment without length keeps the heading, any other takes a heading that is not the opposite of the one before.
abbrev pub Onward : Heading → Heading → List Point → Type 0
Onward h k [] = ⊥
Onward h k (a ∷ []) = h ≡ k
Onward h k (a ∷ b ∷ ps) =
    ((a ≡ b) × Onward h k (b ∷ ps)) ⊎ ((i : Heading) × (i ≢ opposite h) × Goes i a b × Onward i k (b ∷ ps))

-- The first segment of positive length goes by the first heading, the last by the second, and the path never turns right
-- back.
abbrev pub Runs : Heading → Heading → List Point → Type 0
Runs h k [] = ⊥
Runs h k (a ∷ []) = ⊥
Runs h k (a ∷ b ∷ ps) = ((a ≡ b) × Runs h k (b ∷ ps)) ⊎ (Goes h a b × Onward h k (b ∷ ps))

-- one heading is upright and the other is horizontal
abbrev pub IsRightAngle : Heading → Heading → Type 0
IsRightAngle up left = Unit {0}
IsRightAngle up right = Unit {0}
IsRightAngle down left = Unit {0}
IsRightAngle down right = Unit {0}
IsRightAngle left up = Unit {0}
IsRightAngle left down = Unit {0}
IsRightAngle right up = Unit {0}
IsRightAngle right down = Unit {0}
IsRightAngle _ _ = ⊥

-- each segment goes at a right angle to the one before, and the last by the second heading
abbrev pub Bends : Heading → Heading → List Point → Type 0
Bends h k [] = ⊥
Bends h k (a ∷ []) = h ≡ k
Bends h k (a ∷ b ∷ ps) = (i : Heading) × IsRightAngle h i × Goes i a b × Bends i k (b ∷ ps)

-- Each segment goes, at a right angle to the one before; the first by the first heading, the last by the second.
abbrev pub RunsSquare : Heading → Heading → List Point → Type 0
RunsSquare h k [] = ⊥
RunsSquare h k (a ∷ []) = ⊥
RunsSquare h k (a ∷ b ∷ ps) = Goes h a b × Bends h k (b ∷ ps)

-- the first and the last point of a path
abbrev pub StartsAt : Point → List Point → Type 0
StartsAt p [] = ⊥
StartsAt p (a ∷ ps) = a ≡ p

abbrev pub EndsAt : Point → List Point → Type 0
EndsAt p [] = ⊥
EndsAt p (a ∷ []) = a ≡ p
EndsAt p (a ∷ b ∷ ps) = EndsAt p (b ∷ ps)

-- the section with these points; a single point is both start and end
pub data IsSectionOf : List Point → Section → Type 0 where
  one : (p : Point) (s : Section) → s.start ≡ p → s.bends ≡ [] → s.end ≡ p → IsSectionOf (p ∷ []) s
  many : (s : Section) → IsSectionOf (s.start ∷ (s.bends ++ s.end ∷ [])) s
