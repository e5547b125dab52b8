-- From which order the exchanges of neighbours begin, and what they reach.
use Rattle.std.specs.Prelude.{◌≡◌, ℕ, zero, suc, ◌-◌, ◌<◌, ◌≤◌, ◌++◌, ◌⊎◌, List, ◌∷◌, length, nat_lt, if◌then◌else◌}
use Rattle.std.specs.List.{All}
use Rattle.elk_layers.specs.Layered.{Plain, row_at}
use Rattle.elk_layers.specs.Crossings.{crossings, exchanged, HasSameRows, NoBetterSwap}
use Rattle.elk_layers.specs.Sweeps.{sweep_orders}

-- ---- the exchanges, in their order

-- two neighbours of a row are exchanged where that lowers the crossings
abbrev pub after_pair : Plain → List (List ℕ) → ℕ → ℕ → List (List ℕ)
after_pair layered rows r i = if nat_lt (crossings layered (exchanged rows r i)) (crossings layered rows) then exchanged rows r i else rows

-- so are the first pairs of neighbours of a row, one after the other from the top
abbrev pub after_pairs : Plain → List (List ℕ) → ℕ → ℕ → List (List ℕ)
after_pairs layered rows r zero = rows
after_pairs layered rows r (suc i) = after_pair layered (after_pairs layered rows r i) r i

-- so are all of a row
abbrev pub after_row : Plain → List (List ℕ) → ℕ → List (List ℕ)
after_row layered rows r = after_pairs layered rows r (length (row_at rows r) - 1)

-- so are those of the first rows, one row after the other
abbrev pub after_rows : Plain → List (List ℕ) → ℕ → List (List ℕ)
after_rows layered rows zero = rows
after_rows layered rows (suc r) = after_row layered (after_rows layered rows r) r

-- so are those of all rows, again and again, until no exchange lowers the crossings
pub data SettlesTo (layered : Plain) : List (List ℕ) → List (List ℕ) → Type 0 where
  at_rest : (a : List (List ℕ)) → NoBetterSwap layered a → SettlesTo layered a a
  again : (a b : List (List ℕ)) → SettlesTo layered (after_rows layered a (length a)) b → SettlesTo layered a b

-- ---- where they begin

-- an order has fewer crossings than each of these, and at most as many
abbrev pub FewerThan : Plain → List (List ℕ) → List (List (List ℕ)) → Type 0
FewerThan layered rows others = All (λ other. crossings layered rows < crossings layered other) others

abbrev pub AtMostOf : Plain → List (List ℕ) → List (List (List ℕ)) → Type 0
AtMostOf layered rows others = All (λ other. crossings layered rows ≤ crossings layered other) others

-- the first order of fewest crossings in a list
pub record IsFirstOfFewest (layered : Plain) (orders : List (List (List ℕ))) (rows : List (List ℕ)) : Type 0 where
  pub before : List (List (List ℕ))
  pub behind : List (List (List ℕ))
  pub splits : before ++ rows ∷ behind ≡ orders
  pub fewer : FewerThan layered rows before
  pub at_most : AtMostOf layered rows behind

-- what the exchanges reach from the first of fewest crossings among a start and its four sweep orders
pub record IsSettledFromFewest (layered : Plain) (start rows : List (List ℕ)) : Type 0 where
  pub from : List (List ℕ)
  pub first : IsFirstOfFewest layered (start ∷ sweep_orders layered start) from
  pub settles : SettlesTo layered from rows

-- what the exchanges reach from the first of fewest crossings, or an order that has fewer crossings than this
pub record IsExchangedFromFewest (layered : Plain) (start rows : List (List ℕ)) : Type 0 where
  pub reached : List (List ℕ)
  pub from_fewest : IsSettledFromFewest layered start reached
  pub kept_or_fewer : (rows ≡ reached) ⊎ (crossings layered rows < crossings layered reached)

-- The rows of a start in an order with no more crossings than the start and each of its four sweep orders, which no exchange
-- of two neighbours makes better, and the start itself where it has no crossings. It is what exchanges that lower the crossings
-- reach, one row after the other from the top, from the first of fewest crossings among these five orders, or has fewer
-- crossings than what they reach.
pub record IsReduced (layered : Plain) (start rows : List (List ℕ)) : Type 0 where
  pub same_rows : HasSameRows start rows
  pub no_more : crossings layered rows ≤ crossings layered start
  pub sweeps : All (λ swept. crossings layered rows ≤ crossings layered swept) (sweep_orders layered start)
  pub settled : NoBetterSwap layered rows
  pub from_fewest : IsExchangedFromFewest layered start rows
  pub without_crossings : crossings layered start ≡ 0 → rows ≡ start
