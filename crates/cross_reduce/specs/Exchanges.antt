-- What an exchange of two neighbours changes.
use Rattle.std.specs.Prelude.{◌≡◌, ◌≢◌, ℕ, ◌+◌, ◌-◌, ◌<◌, ◌≤◌, ◌^◌, List, length, slice_index, slice_set, Bool, false}
use Rattle.std.specs.List.{All}
use Rattle.std.specs.Bool.{MatchBool}
use Rattle.elk_layers.specs.Layered.{Plain, IsSound, AreRows, row_at}
use Rattle.elk_layers.specs.Crossings.{crossings, exchanged}
use Rattle.cross_reduce.specs.declared.fans.Far.{Far}
use Rattle.cross_reduce.specs.declared.fans.Towards.TheVariants.{Left, Right}
use Rattle.elk_layers.specs.Places.{ArePlaces}
use Rattle.cross_reduce.specs.Fans.{AreFans, fan_at, far_keys, descents}

-- the far ends have keys of 32 bits
pub record FitsKey (place : List ℕ) (far : Far) : Type 0 where
  pub unit : far.unit < length place
  pub place_fits : slice_index place far.unit < 65536
  pub rank_fits : far.rank < 65536

pub record FitKeys (place : List ℕ) (fan : List Far) : Type 0 where
  pub few : length fan ≤ 2 ^ 24
  pub fits : All (FitsKey place) fan

-- the crossings of the links of two neighbours to one side, where the first stands above the second
abbrev pub crossed_above : List ℕ → List Far → List Far → ℕ
crossed_above place upper lower = descents (far_keys place upper) (far_keys place lower)

-- the crossings of the links of two neighbours to both sides
abbrev pub crossed_between : List ℕ → List (List Far) → List (List Far) → ℕ → ℕ → ℕ
crossed_between place left right u v =
    crossed_above place (fan_at left u) (fan_at left v) + crossed_above place (fan_at right u) (fan_at right v)

-- an order with its places, and with the far ends of the links to both sides
pub record IsState (layered : Plain) (rows : List (List ℕ)) (place : List ℕ) (left right : List (List Far)) : Type 0 where
  pub sound : IsSound layered
  pub are_rows : AreRows layered rows
  pub places : ArePlaces layered rows place
  pub to_left : AreFans Left layered.links (length layered.units) left
  pub to_right : AreFans Right layered.links (length layered.units) right

-- after some exchanges were tried: an order of fewer crossings, or the same order, of which what was asked holds
abbrev pub IsTried : Plain → List (List ℕ) → List (List ℕ) → Bool → Type 0 → Type 0
IsTried layered rows rows' changed asked =
    MatchBool changed (crossings layered rows' < crossings layered rows) ((rows' ≡ rows) × asked)

-- an exchange does not lower the crossings
abbrev pub IsNoBetter : Plain → List (List ℕ) → ℕ → ℕ → Type 0
IsNoBetter layered rows r i = crossings layered rows ≤ crossings layered (exchanged rows r i)

-- no exchange in a row lowers them
abbrev pub NoneInRow : Plain → List (List ℕ) → ℕ → Type 0
NoneInRow layered rows r = (i : ℕ) → i + 1 < length (row_at rows r) → IsNoBetter layered rows r i

-- the rows apart from one stay
abbrev pub KeepsOthers : List (List ℕ) → List (List ℕ) → ℕ → Type 0
KeepsOthers rows rows' r = (g : ℕ) → g ≢ r → row_at rows' g ≡ row_at rows g

-- neither a row nor those beside it are settled
abbrev pub unsettled : List Bool → ℕ → List Bool
unsettled settled r = slice_set (slice_set (slice_set settled (r - 1) false) r false) (r + 1) false
