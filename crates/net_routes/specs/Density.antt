-- How many upright pieces contain one height.
use Rattle.std.specs.Prelude.{◌≡◌, ◌≢◌, ℕ, ◌<◌, ◌≤◌, List, ℤ, ◌≤ℤ◌, length, slice_index}
use Rattle.std.specs.Int.{int_min, int_max}
use Rattle.net_routes.specs.declared.Net.{Net}
use Rattle.net_routes.specs.Pieces.{net_at}
use Rattle.net_routes.specs.GapFree.{IsStraightNet}

-- the net is not straight, and the height lies between its pins or at one
pub record Contains (n : Net) (h : ℤ) : Type 0 where
  pub bent : IsStraightNet n → ⊥
  pub low : int_min n.a.height n.b.height ≤ℤ h
  pub high : h ≤ℤ int_max n.a.height n.b.height

-- the pieces of these nets, no two of which are one, contain the height
pub record MeetAt (nets : List Net) (h : ℤ) (ks : List ℕ) : Type 0 where
  pub nets_in : (i : ℕ) → i < length ks → slice_index ks i < length nets
  pub meet : (i : ℕ) → i < length ks → Contains (net_at nets (slice_index ks i)) h
  pub distinct : (i j : ℕ) → i < j → j < length ks → slice_index ks i ≢ slice_index ks j

-- that many pieces contain one height, and no more contain any
pub record IsDensity (nets : List Net) (d : ℕ) : Type 0 where
  pub height : ℤ
  pub there : List ℕ
  pub meet : MeetAt nets height there
  pub as_many : length there ≡ d
  pub most : (h : ℤ) (ks : List ℕ) → MeetAt nets h ks → length ks ≤ d
