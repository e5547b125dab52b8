-- The faults of distances: which comes first at a level.
use Rattle.std.specs.Prelude.{◌≡◌, ◌⊎◌, ◌↔◌, ℕ, ◌<◌, ◌≤◌, ℤ, Bool, true, false, ◌&&◌, ◌==◌, List, length, slice_index_or, IsTrue, IsFalse}
use Rattle.drawing_types.specs.declared.shape.Rect.{Rect}
use Rattle.elk_doc.specs.declared.document.Direction.{Direction}
use Rattle.elk_doc.specs.declared.document.LevelOptions.{LevelOptions}
use Rattle.elk_doc.specs.declared.drawing.Certificate.{Certificate}
use Rattle.elk_doc.specs.declared.drawing.Placed.{Placed}
use Rattle.drawing_types.specs.declared.section.Section.{Section}
use Rattle.elk_doc.specs.Document.{Document}
use Rattle.drawing_types.specs.Shapes.{origin}
use Rattle.elk_doc.specs.Level.{IsChild, IsEdge, is_child, source_node}
use Rattle.elk_doc.specs.Drawing.{part_in, points_of, section_of}
use Rattle.elk_doc.specs.Places.{outline_of}
use Rattle.elk_doc.specs.Numbers.{count_below}
use Rattle.elk_doc.specs.Shapes.{rotated}
use Rattle.drawing_types.specs.Shapes.{point_rect}
use Rattle.elk_doc.specs.Content.{EachShapeOf}
use Rattle.drawing_types.specs.Clearance.{IsLeftBy, IsAboveBy}
use Rattle.elk_doc.specs.Apart.{Apart, InOnePart, LayersApart, PartsApart, BoxesApart}
use Rattle.layout_check.specs.declared.fault.Fault.{Fault}
use Rattle.layout_check.specs.declared.fault.Place.TheVariants.{Node}
use Rattle.layout_check.specs.Faults.{fault_at, lone_fault, FailsFirst, FailsFirstAt}
use Rattle.layout_check.specs.Names.{name_of}

-- A number for each child of n: children have one number exactly where they lie in one part, and each smaller number was
-- given to an earlier child. Any two such numberings agree.
pub record IsNumbering (d : Document) (n : ℕ) (number : ℕ → ℕ) : Type 0 where
  pub same : (a b : ℕ) → IsChild d n a → IsChild d n b → (number a ≡ number b) ↔ InOnePart d n a b
  pub in_order : (a i : ℕ) → IsChild d n a → i < number a → (b : ℕ) × IsChild d n b × (b < a) × (number b ≡ i)

-- i is the number of the part in which the child a lies
abbrev pub IsPartNumber : Document → ℕ → ℕ → ℕ → Type 0
IsPartNumber d n a i = (number : ℕ → ℕ) × IsNumbering d n number × (number a ≡ i)

-- in a split level the written part of a child is its part's number
abbrev pub PartHolds : Document → ℕ → LevelOptions → Certificate → ℕ → Type 0
PartHolds d n o c a = IsTrue o.split → IsChild d n a → IsPartNumber d n a (part_in d n c a)

-- two children keep their distances, whichever of them has the smaller layer
abbrev pub BothApart : Document → Placed → ℕ → LevelOptions → Certificate → ℕ → ℕ → Type 0
BothApart d p n o c a b = LayersApart d p n o c a b × LayersApart d p n o c b a

-- two children of one part of a level that is not one of boxes, the lower number first, keep their distances
abbrev pub LayersHold : Document → Placed → ℕ → LevelOptions → Certificate → ℕ → ℕ → Type 0
LayersHold d p n o c a b =
    IsFalse o.boxes → IsChild d n a → IsChild d n b → a < b → (IsTrue o.split → part_in d n c a ≡ part_in d n c b) → BothApart d p n o c a b

-- two children of one part of a level that is not one of boxes, the lower number first
pub record MayBeNear (d : Document) (n : ℕ) (o : LevelOptions) (c : Certificate) (a b : ℕ) : Type 0 where
  pub layered : IsFalse o.boxes
  pub one : IsChild d n a
  pub other : IsChild d n b
  pub order : a < b
  pub part : IsTrue o.split → part_in d n c a ≡ part_in d n c b

-- the child a is the least of its part
pub record IsLeastOfPart (d : Document) (n : ℕ) (c : Certificate) (a : ℕ) : Type 0 where
  pub child : IsChild d n a
  pub least : (b : ℕ) → IsChild d n b → part_in d n c b ≡ part_in d n c a → a ≤ b

-- two parts of a split level, named by their least children, the lower number first, keep their distance
abbrev pub PartsHold : Document → Placed → ℕ → LevelOptions → Certificate → ℕ → ℕ → Type 0
PartsHold d p n o c a b =
    IsTrue o.split → IsLeastOfPart d n c a → IsLeastOfPart d n c b → a < b → PartsApart d p n o c (part_in d n c a) (part_in d n c b)

-- two children of a level of boxes, the lower number first, keep their distance
abbrev pub BoxesHold : Document → Placed → ℕ → LevelOptions → ℕ → ℕ → Type 0
BoxesHold d p n o a b = IsTrue o.boxes → IsChild d n a → IsChild d n b → a < b → BoxesApart d p o a b

-- a fault names the first child whose part is wrong; else the first two children of one part that are too near; else the
-- least children of the first two parts that are too near; else the first two children of a level of boxes that are
pub record FirstPart (d : Document) (n : ℕ) (o : LevelOptions) (c : Certificate) (x : Fault) : Type 0 where
  pub child : ℕ
  pub names : x ≡ lone_fault (Node child)
  pub first : FailsFirst (PartHolds d n o c) child

pub record FirstPair (P : ℕ → ℕ → Type 0) (x : Fault) : Type 0 where
  pub one : ℕ
  pub other : ℕ
  pub names : x ≡ fault_at (Node one) (Node other)
  pub first : FailsFirstAt P one other

abbrev pub FirstApart : Document → Placed → ℕ → LevelOptions → Certificate → Fault → Type 0
FirstApart d p n o c x =
    FirstPart d n o c x
    ⊎ (((a : ℕ) → PartHolds d n o c a)
    × (FirstPair (LayersHold d p n o c) x
    ⊎ (((a b : ℕ) → LayersHold d p n o c a b)
    × (FirstPair (PartsHold d p n o c) x ⊎ (((a b : ℕ) → PartsHold d p n o c a b) × FirstPair (BoxesHold d p n o) x)))))

-- a fault that is named breaks Apart
abbrev pub FaultBreaksApart : Type 0
FaultBreaksApart =
    (d : Document) (p : Placed) (n : ℕ) (o : LevelOptions) (c : Certificate) (x : Fault) → FirstApart d p n o c x → Apart d p n o c → ⊥

-- whether a node is a child that names its part, and the number of the part of this name: how many such names are lower
abbrev pub is_leader : Document → ℕ → List ℕ → ℕ → Bool
is_leader d n names v = is_child d n v && (name_of names v == v)

abbrev pub number_by : Document → ℕ → List ℕ → ℕ → ℕ
number_by d n names v = count_below (is_leader d n names) (name_of names v)

-- one rectangle lies left of another in the frame of a direction, or above it
abbrev pub IsBeyond : Bool → ℤ → Direction → Rect → Rect → Type 0
IsBeyond true gap way r s = IsLeftBy gap (rotated way r) (rotated way s)
IsBeyond false gap way r s = IsAboveBy gap (rotated way r) (rotated way s)

-- one rectangle lies left of another or above it
abbrev pub StandsClearIn : ℤ → Direction → Rect → Rect → Type 0
StandsClearIn gap way r s = IsBeyond true gap way r s ⊎ IsBeyond false gap way r s

-- two rectangles of one layer: one stands above the other
abbrev pub LevelApart : ℤ → Direction → Rect → Rect → Type 0
LevelApart gap way r s = IsBeyond false gap way r s ⊎ IsBeyond false gap way s r

-- all that lies in part j lies beyond a rectangle, and beyond all that lies in part i
abbrev pub PartBeyond : Document → Placed → ℕ → LevelOptions → Certificate → Bool → Rect → ℕ → Type 0
PartBeyond d p n o c across r j =
    EachShapeOf d p n (λ b. part_in d n c b ≡ j) (λ s. IsBeyond across o.component o.direction r s)

abbrev pub PartsBeyond : Document → Placed → ℕ → LevelOptions → Certificate → Bool → ℕ → ℕ → Type 0
PartsBeyond d p n o c across i j =
    EachShapeOf d p n (λ a. part_in d n c a ≡ i) (λ r. PartBeyond d p n o c across r j)

-- all of part j lies right of all of part i, or below it
abbrev pub PartsClear : Document → Placed → ℕ → LevelOptions → Certificate → ℕ → ℕ → Type 0
PartsClear d p n o c i j = PartsBeyond d p n o c true i j ⊎ PartsBeyond d p n o c false i j

-- what each child and each edge owes to a rectangle in front of part j
abbrev pub OutlineBeyond : Document → Placed → ℕ → LevelOptions → Certificate → Bool → Rect → ℕ → ℕ → Type 0
OutlineBeyond d p n o c across r j b =
    IsChild d n b → part_in d n c b ≡ j → IsBeyond across o.component o.direction r (outline_of d p b)

abbrev pub SectionBeyond : LevelOptions → Bool → Rect → Section → Type 0
SectionBeyond o across r s =
    (i : ℕ) → i < length (points_of s) → IsBeyond across o.component o.direction r (point_rect (slice_index_or (points_of s) i origin))

abbrev pub RouteBeyond : Document → Placed → ℕ → LevelOptions → Certificate → Bool → Rect → ℕ → ℕ → Type 0
RouteBeyond d p n o c across r j e =
    IsEdge d n e → part_in d n c (source_node d e) ≡ j → SectionBeyond o across r (section_of p e)

-- what each child and each edge of part i owes to part j
abbrev pub OutlineClear : Document → Placed → ℕ → LevelOptions → Certificate → Bool → ℕ → ℕ → ℕ → Type 0
OutlineClear d p n o c across i j a =
    IsChild d n a → part_in d n c a ≡ i → PartBeyond d p n o c across (outline_of d p a) j

abbrev pub SectionClear : Document → Placed → ℕ → LevelOptions → Certificate → Bool → ℕ → Section → Type 0
SectionClear d p n o c across j s =
    (t : ℕ) → t < length (points_of s) → PartBeyond d p n o c across (point_rect (slice_index_or (points_of s) t origin)) j

abbrev pub RouteClear : Document → Placed → ℕ → LevelOptions → Certificate → Bool → ℕ → ℕ → ℕ → Type 0
RouteClear d p n o c across i j e =
    IsEdge d n e → part_in d n c (source_node d e) ≡ i → SectionClear d p n o c across j (section_of p e)
