-- The pieces of nets in a gap, over the gap's borders and slots.
use Rattle.std.specs.Prelude.{◌≡◌, ℕ, ◌+◌, ◌<◌, ◌⊎◌, Bool, true, false, List, [], ◌∷◌, ℤ, pos, ◌<ℤ◌, length, slice_index_or}
use Rattle.std.specs.Int.{int_min, int_max}
use Rattle.net_routes.specs.declared.Pin.{Pin}
use Rattle.net_routes.specs.declared.Net.{Net}
use Rattle.net_routes.specs.declared.NetRoute.{NetRoute}
use Rattle.net_routes.specs.declared.NetRoute.TheVariants.{Straight, One, Two}

-- where a vertical line may stand in a gap
pub data Abscissa : Type 0 where
  left_border : Abscissa
  slot : ℕ → Abscissa
  right_border : Abscissa

-- from left to right: the left border, the slots by number, the right border
abbrev pub rank : ℕ → Abscissa → ℤ
rank count left_border = pos 0
rank count (slot s) = pos (s + 1)
rank count right_border = pos (count + 1)

-- a point of a gap
pub record Corner : Type 0 where
  pub at : Abscissa
  pub height : ℤ

abbrev pub corner : Abscissa → ℤ → Corner
corner a h = record { at = a; height = h }

abbrev pub border_of : Bool → Abscissa
border_of true = left_border
border_of false = right_border

abbrev pub pin_corner : Pin → Corner
pin_corner p = corner (border_of p.on_left) p.height

-- the corners of a net from its pin a to its pin b
abbrev pub corners : Net → NetRoute → List Corner
corners n Straight = pin_corner n.a ∷ pin_corner n.b ∷ []
corners n (One s) = pin_corner n.a ∷ corner (slot s) n.a.height ∷ corner (slot s) n.b.height ∷ pin_corner n.b ∷ []
corners n (Two s h t) =
    pin_corner n.a ∷ corner (slot s) n.a.height ∷ corner (slot s) h ∷ corner (slot t) h ∷ corner (slot t) n.b.height ∷ pin_corner n.b ∷ []

abbrev pub corner_at : List Corner → ℕ → Corner
corner_at cs i = slice_index_or cs i (corner left_border (pos 0))

abbrev pub net_at : List Net → ℕ → Net
net_at nets k =
    slice_index_or nets k (record { a = record { on_left = false; height = pos 0 }; b = record { on_left = false; height = pos 0 } })

abbrev pub route_at : List NetRoute → ℕ → NetRoute
route_at routes k = slice_index_or routes k Straight

-- two level pieces at one height have a stretch in common
pub record HorizontalOverlap (count : ℕ) (a b c d : Corner) : Type 0 where
  pub first : a.height ≡ b.height
  pub second : c.height ≡ d.height
  pub same : a.height ≡ c.height
  pub over : int_max (int_min (rank count a.at) (rank count b.at)) (int_min (rank count c.at) (rank count d.at))
      <ℤ int_min (int_max (rank count a.at) (rank count b.at)) (int_max (rank count c.at) (rank count d.at))

-- two upright pieces in one slot have a stretch in common
pub record UprightOverlap (a b c d : Corner) : Type 0 where
  pub in_slot : ℕ
  pub a_there : a.at ≡ slot in_slot
  pub b_there : b.at ≡ slot in_slot
  pub c_there : c.at ≡ slot in_slot
  pub d_there : d.at ≡ slot in_slot
  pub over : int_max (int_min a.height b.height) (int_min c.height d.height)
      <ℤ int_min (int_max a.height b.height) (int_max c.height d.height)

abbrev pub Overlap : ℕ → Corner → Corner → Corner → Corner → Type 0
Overlap count a b c d = HorizontalOverlap count a b c d ⊎ UprightOverlap a b c d

-- some piece of one net and some piece of another have a stretch in common
pub record RoutesOverlap (count : ℕ) (cs ds : List Corner) : Type 0 where
  pub i : ℕ
  pub j : ℕ
  pub i_in : i + 1 < length cs
  pub j_in : j + 1 < length ds
  pub over : Overlap count (corner_at cs i) (corner_at cs (i + 1)) (corner_at ds j) (corner_at ds (j + 1))

-- a piece of a net between two corners that follow each other, run through in either way
pub record IsPieceOf (cs : List Corner) (a b : Corner) : Type 0 where
  pub i : ℕ
  pub i_in : i + 1 < length cs
  pub ends : ((corner_at cs i ≡ a) × (corner_at cs (i + 1) ≡ b)) ⊎ ((corner_at cs i ≡ b) × (corner_at cs (i + 1) ≡ a))

-- a horizontal piece, or an upright one in a slot
abbrev pub IsStraightPiece : Corner → Corner → Type 0
IsStraightPiece a b = (a.height ≡ b.height) ⊎ ((s : ℕ) × (a.at ≡ slot s) × (b.at ≡ slot s))

-- an abscissa of a gap with this many slots
abbrev pub IsAbscissa : ℕ → Abscissa → Type 0
IsAbscissa count left_border = Unit {0}
IsAbscissa count (slot s) = s < count
IsAbscissa count right_border = Unit {0}
