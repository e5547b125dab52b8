-- The number that follows `demo`.
use Rattle.std.proofs.Common.{◌≡◌, ℕ, ◌≤◌, ◌<◌, ◌^◌, List, ◌∷◌, None, Some, inl, inr, false, refl, sym, ap, arith}
use Rattle.std.specs.Str.Parse.{IsNumeral, without_leading_plus}
use Rattle.std.proofs.lemmas.Bool.{cases_Bool}
use Rattle.clap.specs.ValueTests.{is_unsigned_in}
use Rattle.clap.specs.declared.builder.value_parser.ValueParser.TheVariants.{Unsigned}
use Rattle.clap.proofs.ValueTestLemmas.{accepts-Accepts, Accepts-accepts}
use Rattle.elk_engine.specs.Words.{small_number, value_of}

-- a text that is read as such a number
pub small : (text : List ℕ) (n : ℕ) → IsNumeral 10 (without_leading_plus text) → n ≡ value_of text → 1 ≤ n → n ≤ 1024 → Some n ≡ small_number text
small text n numeral is some few =
    let e = Accepts-accepts false (Unsigned 1 1024) text (numeral, omega arith, omega arith, omega arith) in
    rw e (ap Some is)

-- a text that is read as none
pub none_small : (text : List ℕ) → (IsNumeral 10 (without_leading_plus text) × (value_of text < 2 ^ 64) → ⊥) → None ≡ small_number text
none_small text none = elim (cases_Bool (is_unsigned_in 1 1024 text)) [
  | inl is ↦ let a = accepts-Accepts false (Unsigned 1 1024) text is in absurd (none (a.0, a.1))
  | inr other ↦ rw other refl
]

-- a text that begins with a dash is none
pub dashed_none : (rest : List ℕ) → small_number (45 ∷ rest) ≡ None
dashed_none rest = sym (none_small (45 ∷ rest) (λ h. let bad : 36 < 10 = h.0.1.0 in absurd (omega arith)))
