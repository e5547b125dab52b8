-- Outlines by their lower and upper ends along x and along y.
use Rattle.std.specs.Prelude.{◌≡◌, ℕ, ◌<◌, ◌≤◌, ◌-◌, ◌^◌, Bool, true, false, ℤ, pos, ◌+ℤ◌, ◌≤ℤ◌, ◌<ℤ◌, List, length, slice_index_or}
use Rattle.drawing_types.specs.declared.shape.Rect.{Rect}
use Rattle.elk_doc.specs.declared.drawing.Placed.{Placed}
use Rattle.elk_doc.specs.Document.{Document}
use Rattle.elk_doc.specs.Places.{outline_of}
use Rattle.elk_doc.specs.Level.{source_node, target_node}
use Rattle.layout_check.specs.FirstRoutes.{ChildClear}
use Rattle.layout_check.specs.declared.stretches.OutlineEnds.{OutlineEnds}

-- the lower end of a rectangle along y, or along x, and the end where it stops
abbrev pub low_along : Bool → Rect → ℤ
low_along true r = r.y
low_along false r = r.x

abbrev pub end_along : Bool → Rect → ℤ
end_along true r = r.y +ℤ r.height
end_along false r = r.x +ℤ r.width

-- what begins above the written end, and is no greater than the greatest number, begins above the end
abbrev pub IsHighEnd : ℤ → ℤ → Type 0
IsHighEnd end high = (a : ℤ) → a ≤ℤ pos (2 ^ 63 - 1) → high <ℤ a → end <ℤ a

abbrev pub number_in : List ℤ → ℕ → ℤ
number_in xs i = slice_index_or xs i (pos 0)

-- the first m numbers of a list have a property that depends on their place
pub record Each (P : ℕ → ℤ → Type 0) (m : ℕ) (xs : List ℤ) : Type 0 where
  pub count : length xs ≡ m
  pub each : (i : ℕ) → i < m → P i (number_in xs i)

-- the ends of the outlines of the nodes below m
abbrev pub AreLowEnds : Document → Placed → Bool → ℕ → List ℤ → Type 0
AreLowEnds d p down m xs = Each (λ i z. z ≡ low_along down (outline_of d p i)) m xs

abbrev pub AreHighEnds : Document → Placed → Bool → ℕ → List ℤ → Type 0
AreHighEnds d p down m xs = Each (λ i z. IsHighEnd (end_along down (outline_of d p i)) z) m xs

-- the ends of the outlines of all nodes
pub record AreEnds (d : Document) (p : Placed) (ends : OutlineEnds) : Type 0 where
  pub left : AreLowEnds d p false (length d.nodes) ends.left.items
  pub right : AreHighEnds d p false (length d.nodes) ends.right.items
  pub top : AreLowEnds d p true (length d.nodes) ends.top.items
  pub bottom : AreHighEnds d p true (length d.nodes) ends.bottom.items

-- no stretch with a number from `from` and below `to` meets the one from a to b
abbrev pub MeetNone : List ℤ → List ℤ → ℕ → ℕ → ℤ → ℤ → Type 0
MeetNone lo hi from to a b =
    (i : ℕ) → from ≤ i → i < to → number_in lo i ≤ℤ b → a ≤ℤ number_in hi i → ⊥

-- the route of an edge keeps clear of its end nodes, where they are children of n
pub record EndsClear (d : Document) (p : Placed) (n e : ℕ) : Type 0 where
  pub source : ChildClear d p n e (source_node d e)
  pub target : ChildClear d p n e (target_node d e)
