-- segments by their depths and heights, and the slots that they stand in.
use Rattle.std.specs.Prelude.{◌≡◌, ◌≢◌, ◌⊎◌, ℕ, ◌+◌, ◌<◌, ◌≤◌, Bool, true, false, List, ℤ, pos, ◌<ℤ◌, ◌≤ℤ◌, length, slice_index}
use Rattle.std.specs.Prelude.{slice_index_or}
use Rattle.std.specs.Ordering.{int_cmp, nat_cmp, ordering_then}
use Rattle.std.specs.declared.cmp.Ordering.{Ordering}
use Rattle.std.specs.BTreeSet.{BTreeSet, contains, btree_set_len}
use Rattle.route_slots.specs.declared.slotting.Segment.{Segment}
use Rattle.route_slots.specs.declared.slotting.Row.{Row}

abbrev pub segment_at : List Segment → ℕ → Segment
segment_at ps i = slice_index_or ps i (record { real = false; depth = 0; low = pos 0; high = pos 0 })

abbrev pub IsReal : List Segment → ℕ → Type 0
IsReal ps i = (i < length ps) × ((segment_at ps i).real ≡ true)

-- all segments are at one depth
abbrev pub AreAtOneDepth : List Segment → Type 0
AreAtOneDepth ps = (i j : ℕ) → IsReal ps i → IsReal ps j → (segment_at ps i).depth ≡ (segment_at ps j).depth

-- in each slot a segment contains one height
pub record MeetInEach (ps : List Segment) (ss : List ℕ) (count : ℕ) : Type 0 where
  pub height : ℤ
  pub each : (s : ℕ) → s < count
      → (i : ℕ) × IsReal ps i × (slice_index ss i ≡ s) × ((segment_at ps i).low ≤ℤ height) × (height ≤ℤ (segment_at ps i).high)

-- Segments of a lower depth stand before those of a higher one, and segments in one slot have no height in common. At one depth
-- there are no more slots than segments that contain one height.
pub record AreSlots (ps : List Segment) (ss : List ℕ) (count : ℕ) : Type 0 where
  pub len : length ss ≡ length ps
  pub below : (i : ℕ) → IsReal ps i → slice_index ss i < count
  pub used : (s : ℕ) → s < count → (i : ℕ) × IsReal ps i × (slice_index ss i ≡ s)
  pub order : (i j : ℕ) → IsReal ps i → IsReal ps j → (segment_at ps i).depth < (segment_at ps j).depth
      → slice_index ss i < slice_index ss j
  pub apart : (i j : ℕ) → IsReal ps i → IsReal ps j → i ≢ j → slice_index ss i ≡ slice_index ss j
      → ((segment_at ps i).high <ℤ (segment_at ps j).low) ⊎ ((segment_at ps j).high <ℤ (segment_at ps i).low)
  pub met : AreAtOneDepth ps → MeetInEach ps ss count

-- the order in which segments come to their slots: by depth, then by their low ends
abbrev pub Key : Type 0
Key = ℕ × (ℤ × ℕ)

abbrev pub key_cmp : Key → Key → Ordering
key_cmp x y = ordering_then (nat_cmp x.0 y.0) (ordering_then (int_cmp x.1.0 y.1.0) (nat_cmp x.1.1 y.1.1))

abbrev pub key_of : Segment → ℕ → Key
key_of p i = (p.depth, (p.low, i))

abbrev pub has_key : BTreeSet Key → Key → Bool
has_key w q = contains key_cmp w q

-- the segments below this number wait
pub record AreWaiting (ps : List Segment) (n : ℕ) (w : BTreeSet Key) : Type 0 where
  pub from : (q : Key) → has_key w q ≡ true → (i : ℕ) × (i < n) × ((segment_at ps i).real ≡ true) × (q ≡ key_of (segment_at ps i) i)
  pub each : (i : ℕ) → i < n → (segment_at ps i).real ≡ true → has_key w (key_of (segment_at ps i) i) ≡ true
  pub few : btree_set_len w ≤ n

-- the slots of a depth, by the ends of their last segments
abbrev pub End : Type 0
End = ℤ × ℕ

abbrev pub end_cmp : End → End → Ordering
end_cmp x y = ordering_then (int_cmp x.0 y.0) (nat_cmp x.1 y.1)

abbrev pub has_end : BTreeSet End → End → Bool
has_end b q = contains end_cmp b q

-- How a segment takes a slot: a new one, where no last segment of the depth ends above it, or one whose last segment does.
pub data Takes (old new : Row) (p : Segment) (s : ℕ) : Type 0 where
  fresh : s ≡ old.count → new.count ≡ old.count + 1
      → ((q : End) → has_end new.busy q ≡ true → (q ≡ (p.high, s)) ⊎ ((p.depth ≡ old.depth) × (has_end old.busy q ≡ true)))
      → (p.depth ≡ old.depth → (q : End) → has_end old.busy q ≡ true → p.low ≤ℤ q.0)
      → (p.depth ≡ old.depth → (q : End) → has_end old.busy q ≡ true → has_end new.busy q ≡ true)
      → has_end new.busy (p.high, s) ≡ true
      → Takes old new p s
  reuse : (h : ℤ) → p.depth ≡ old.depth → has_end old.busy (h, s) ≡ true → h <ℤ p.low → new.count ≡ old.count
      → ((q : End) → has_end new.busy q ≡ true → (q ≡ (p.high, s)) ⊎ ((has_end old.busy q ≡ true) × (q ≢ (h, s))))
      → ((q : End) → has_end old.busy q ≡ true → q ≢ (h, s) → has_end new.busy q ≡ true)
      → has_end new.busy (p.high, s) ≡ true
      → Takes old new p s

-- a slot of the row that is free above this height, taken out of the row
pub record Frees (old new : Row) (low : ℤ) (s : ℕ) : Type 0 where
  pub end : ℤ
  pub there : has_end old.busy (end, s) ≡ true
  pub above : end <ℤ low
  pub depth : new.depth ≡ old.depth
  pub count : new.count ≡ old.count
  pub from : (q : End) → has_end new.busy q ≡ true → (has_end old.busy q ≡ true) × (q ≢ (end, s))
  pub kept : (q : End) → has_end old.busy q ≡ true → q ≢ (end, s) → has_end new.busy q ≡ true

-- no slot of the row is free above this height
abbrev pub IsFull : Row → ℤ → Type 0
IsFull row low = (q : End) → has_end row.busy q ≡ true → low ≤ℤ q.0

-- How a slot is picked from a row.
pub data Picks (old new : Row) (p : Segment) (s : ℕ) : Type 0 where
  added : s ≡ old.count → new.count ≡ old.count + 1 → new.busy ≡ old.busy → IsFull old p.low → Picks old new p s
  freed : Frees old new p.low s → Picks old new p s
