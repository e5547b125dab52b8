-- How far behind the first slots segments with a pin on the right at some height stand.
use Rattle.std.specs.Prelude.{◌≡◌, ◌≢◌, ℕ, ◌+◌, ◌<◌, ◌^◌, Bool, true, false, List, ℤ, length, Option, Some, None, slice_index}
use Rattle.std.specs.Prelude.{slice_index_or, if◌then◌else◌}
use Rattle.std.specs.Ordering.{int_cmp}
use Rattle.std.specs.BTreeMap.{get}
use Rattle.net_routes.specs.declared.Pin.{Pin}
use Rattle.net_routes.specs.declared.Net.{Net}
use Rattle.route_slots.specs.declared.depths.Depths.{Depths}
use Rattle.net_routes.specs.Pieces.{net_at}
use Rattle.net_routes.specs.GapFree.{HasPin, IsStraightNet}
use Rattle.route_slots.specs.Numbers.{HasLeftAt}

-- a height without a number has depth 0, and every other is deeper
abbrev pub depth_by : List ℕ → Option ℕ → ℕ
depth_by ds None = 0
depth_by ds (Some x) = slice_index ds x + 1

-- the depth of a height, 0 where no segment has a pin on the left there
abbrev pub depth : Depths → ℤ → ℕ
depth d h = depth_by d.depths.items (get int_cmp d.numbers h)

abbrev pub depth_of : (ℤ → ℕ) → Pin → ℕ
depth_of d p = if p.on_left then 0 else d p.height

abbrev pub is_split : List Bool → ℕ → Bool
is_split bs k = slice_index_or bs k false

-- A height with a pin on the left is deep, and a net that is not split leads from a height on the right to a deeper one on
-- the left.
pub record AreDepths (nets : List Net) (bs : List Bool) (d : ℤ → ℕ) : Type 0 where
  pub len : length bs ≡ length nets
  pub sides : (k : ℕ) → k < length nets → is_split bs k ≡ true → (net_at nets k).a.on_left ≢ (net_at nets k).b.on_left
  pub bent : (k : ℕ) → k < length nets → is_split bs k ≡ true → IsStraightNet (net_at nets k) → ⊥
  pub deep : (k : ℕ) (p : Pin) → k < length nets → (IsStraightNet (net_at nets k) → ⊥) → HasPin (net_at nets k) p
      → p.on_left ≡ true → 0 < d p.height
  pub rising : (k : ℕ) (p q : Pin) → k < length nets → (IsStraightNet (net_at nets k) → ⊥) → is_split bs k ≡ false
      → HasPin (net_at nets k) p → HasPin (net_at nets k) q → p.on_left ≡ true → q.on_left ≡ false → d q.height < d p.height

-- only heights with a pin on the left are deep
abbrev pub AreHeld : List Net → (ℤ → ℕ) → Type 0
AreHeld nets d = (h : ℤ) → 0 < d h → (k : ℕ) × (k < length nets) × HasLeftAt (net_at nets k) h

-- each number has a depth
pub record AreSized (d : Depths) : Type 0 where
  pub inside : (h : ℤ) (x : ℕ) → get int_cmp d.numbers h ≡ Some x → x < length d.depths.items
  pub small : (h : ℤ) (x : ℕ) → get int_cmp d.numbers h ≡ Some x → slice_index d.depths.items x + 1 < 2 ^ 32
