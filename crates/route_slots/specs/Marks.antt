-- What becomes of a net: no segment, one, or two, and at which depths.
use Rattle.std.specs.Prelude.{◌≡◌, ◌⊎◌, ℕ, ◌+◌, ◌<◌, max, Bool, true, false, not, List, ℤ, length, slice_index, slice_index_or}
use Rattle.std.specs.Prelude.{if◌then◌else◌}
use Rattle.std.specs.Int.{int_min, int_max}
use Rattle.net_routes.specs.declared.Pin.{Pin}
use Rattle.net_routes.specs.declared.Net.{Net}
use Rattle.net_routes.specs.declared.NetRoute.{NetRoute}
use Rattle.net_routes.specs.declared.NetRoute.TheVariants.{Straight, One, Two}
use Rattle.route_slots.specs.declared.marks.Mark.{Mark}
use Rattle.route_slots.specs.declared.slotting.Segment.{Segment}
use Rattle.net_routes.specs.Pieces.{net_at, route_at}
use Rattle.net_routes.specs.GapFree.{IsStraightNet}
use Rattle.route_slots.specs.Depths.{depth_of, is_split}
use Rattle.route_slots.specs.Slotting.{segment_at}
use Rattle.route_slots.specs.declared.middles.Height.{Height}
use Rattle.route_slots.specs.Middles.{height_at}

abbrev pub mark_at : List Mark → ℕ → Mark
mark_at ms k = slice_index_or ms k (record { straight = false; split = false; at_a = 0; at_b = 0 })

-- the depth of the net's segment at this pin
abbrev pub DepthAt : Net → Mark → Pin → ℕ → Type 0
DepthAt n m p l = ((n.a ≡ p) × (m.at_a ≡ l)) ⊎ ((n.b ≡ p) × (m.at_b ≡ l))

-- Nets at one height are straight, a net that is not split has one depth, and where a net has a pin on the left at the height of
-- another's on the right, the former's segment has the lower depth.
pub record AreNetMarks (nets : List Net) (ms : List Mark) : Type 0 where
  pub len : length ms ≡ length nets
  pub straight : (k : ℕ) → k < length nets
      → ((mark_at ms k).straight ≡ true → IsStraightNet (net_at nets k)) × (IsStraightNet (net_at nets k) → (mark_at ms k).straight ≡ true)
  pub whole : (k : ℕ) → k < length nets → (mark_at ms k).split ≡ false → (mark_at ms k).at_a ≡ (mark_at ms k).at_b
  pub split : (k : ℕ) → k < length nets → (mark_at ms k).split ≡ true → (mark_at ms k).straight ≡ false
  pub order : (j k : ℕ) (p q : Pin) (x y : ℕ) → j < length nets → k < length nets → (mark_at ms j).straight ≡ false
      → (mark_at ms k).straight ≡ false
      → DepthAt (net_at nets j) (mark_at ms j) p x → DepthAt (net_at nets k) (mark_at ms k) q y
      → p.on_left ≡ true → q.on_left ≡ false → p.height ≡ q.height → x < y

-- the segment at the pin a leads to the other pin, or to the height between the two segments
abbrev pub other_end : Mark → Net → ℤ → ℤ
other_end m n h = if m.split then h else n.b.height

abbrev pub segment_a : Mark → Net → ℤ → Segment
segment_a m n h =
    record {
      real = not m.straight;
      depth = m.at_a;
      low = int_min n.a.height (other_end m n h);
      high = int_max n.a.height (other_end m n h);
    }

abbrev pub segment_b : Mark → Net → ℤ → Segment
segment_b m n h = record { real = m.split; depth = m.at_b; low = int_min h n.b.height; high = int_max h n.b.height }

-- the height between the segments of the net with this number
abbrev pub height_of : List Height → ℕ → ℤ
height_of hs k = (height_at hs k).value

-- each net has two places in the list of segments
pub record AreSegments (nets : List Net) (ms : List Mark) (hs : List Height) (ps : List Segment) : Type 0 where
  pub len : length ps ≡ length nets + length nets
  pub at_a : (k : ℕ) → k < length nets → segment_at ps (k + k) ≡ segment_a (mark_at ms k) (net_at nets k) (height_of hs k)
  pub at_b : (k : ℕ) → k < length nets → segment_at ps (k + k + 1) ≡ segment_b (mark_at ms k) (net_at nets k) (height_of hs k)

-- the route of a net by its mark: the slots of its segments and the height between them
abbrev pub route_by : Mark → ℕ → ℤ → ℕ → NetRoute
route_by m s h t = if m.straight then Straight else (if m.split then Two s h t else One s)

pub record HaveSlots (nets : List Net) (ms : List Mark) (hs : List Height) (ss : List ℕ) (routes : List NetRoute) : Type 0 where
  pub as_many : length routes ≡ length nets
  pub routes_are : (k : ℕ) → k < length nets
      → route_at routes k ≡ route_by (mark_at ms k) (slice_index ss (k + k)) (height_of hs k) (slice_index ss (k + k + 1))

-- The mark of a net: a whole net stands behind all that its pins on the right ask for, each segment of a split net behind what
-- its own pin asks for.
pub record IsMarkOf (n : Net) (da db : ℕ) (b : Bool) (m : Mark) : Type 0 where
  pub split : m.split ≡ b
  pub straight : b ≡ false → (m.straight ≡ true → IsStraightNet n) × (IsStraightNet n → m.straight ≡ true)
  pub bent : b ≡ true → m.straight ≡ false
  pub at_a : m.at_a ≡ (if b then da else max da db)
  pub at_b : m.at_b ≡ (if b then db else max da db)

-- the marks of the first nets
pub record AreMarked (nets : List Net) (bs : List Bool) (d : ℤ → ℕ) (ms : List Mark) (n : ℕ) : Type 0 where
  pub len : length ms ≡ n
  pub each : (k : ℕ) → k < n
      → IsMarkOf (net_at nets k) (depth_of d (net_at nets k).a) (depth_of d (net_at nets k).b) (is_split bs k) (mark_at ms k)

-- no net is split, and all segments are at one depth
pub record AreFlat (nets : List Net) (ms : List Mark) : Type 0 where
  pub split : (k : ℕ) → k < length nets → (mark_at ms k).split ≡ false
  pub depth : (k : ℕ) → k < length nets → (mark_at ms k).straight ≡ false → (mark_at ms k).at_a ≡ 0

-- a net is split only where its mark says so
abbrev pub SplitsByMarks : List Net → List Mark → List NetRoute → Type 0
SplitsByMarks nets ms routes = (k s : ℕ) (h : ℤ) (t : ℕ) → k < length nets → route_at routes k ≡ Two s h t → (mark_at ms k).split ≡ true
