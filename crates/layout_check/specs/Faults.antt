-- What fails first.
use Rattle.std.specs.Prelude.{ℕ, ◌<◌, Option, Some, None}
use Rattle.layout_check.specs.declared.fault.Place.{Place}
use Rattle.layout_check.specs.declared.fault.Place.TheVariants.{Absent}
use Rattle.layout_check.specs.declared.fault.Fault.{Fault}

-- the fault of two places, and of one alone
abbrev pub fault_at : Place → Place → Fault
fault_at a b = record { first = a; second = b }

abbrev pub lone_fault : Place → Fault
lone_fault a = fault_at a Absent

-- P fails at a, and at no smaller number
pub record FailsFirst (P : ℕ → Type 0) (a : ℕ) : Type 0 where
  pub fails : P a → ⊥
  pub before : (k : ℕ) → k < a → P k

-- P fails at a and b, for no smaller a, and with this a for no smaller b
pub record FailsFirstAt (P : ℕ → ℕ → Type 0) (a b : ℕ) : Type 0 where
  pub fails : P a b → ⊥
  pub earlier : (k l : ℕ) → k < a → P k l
  pub before : (l : ℕ) → l < b → P a l

-- the number at which P fails first, and none exactly where it holds at all
abbrev pub IsFirst : (ℕ → Type 0) → Option ℕ → Type 0
IsFirst P None = (k : ℕ) → P k
IsFirst P (Some a) = FailsFirst P a
