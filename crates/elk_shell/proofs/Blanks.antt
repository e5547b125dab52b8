-- Blanks in place of line feeds.
use Rattle.std.proofs.Common.{◌≡◌, ℕ, ◌==◌, ◌<◌, List, [], ◌∷◌, suc, get_or, length, refl, ap, sym, ◌∙◌, arith, inl, inr}
use Rattle.std.specs.Prelude.{map}
use Rattle.std.proofs.lemmas.Bool.{cases_Bool}
use Rattle.elk_shell.specs.Line.{in_line}

-- a byte of a line stays as it is
in_line_again : (x : ℕ) → in_line (in_line x) ≡ in_line x
in_line_again x = elim (cases_Bool (x == 10)) [ inl is ↦ rw is refl | inr other ↦ rw (other, other) refl ]

pub byte_again : (x y : ℕ) → y ≡ in_line x → in_line y ≡ y
byte_again x y is = ap in_line is ∙ in_line_again x ∙ sym is

-- bytes of a line stay as they are
pub line_again : (xs : List ℕ) → ((k : ℕ) → k < length xs → in_line (get_or xs k 0) ≡ get_or xs k 0) → map in_line xs ≡ xs
line_again [] each = refl
line_again (x ∷ xs) each =
    ap (λ y. y ∷ map in_line xs) (each 0 (omega arith)) ∙ ap (λ ys. x ∷ ys) (line_again xs (λ k h. each (suc k) (omega arith)))
