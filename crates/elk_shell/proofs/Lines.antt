-- Lines, one after the other.
use Rattle.std.proofs.Common.{◌≡◌, ℕ, ◌==◌, List, [], ◌∷◌, ◌++◌, Option, false, append_assoc, arith, refl, sym, ap, subst, ◌∙◌, inl, inr}
use Rattle.std.specs.Prelude.{map}
use Rattle.std.proofs.lemmas.Bool.{cases_Bool}
use Rattle.std.proofs.lemmas.List.{append-nil}
use Rattle.std.proofs.KnownBytes.{Appends-nil, Appends-trans}
use Rattle.std.specs.Io.KnownBytes.{Appends}
use Rattle.elk_write.specs.Text.{line_feeds, IsOneLine}
use Rattle.elk_shell.specs.Line.{in_line}
use Rattle.elk_shell.specs.Replies.{AreLines, GrowsByLines}

-- ---- a text in one line

in_line_other : (x : ℕ) → (in_line x == 10) ≡ false
in_line_other x = elim (cases_Bool (x == 10)) [ inl is ↦ rw is refl | inr other ↦ rw other other ]

one_more : (y : ℕ) (ys : List ℕ) → (y == 10) ≡ false → line_feeds ys ≡ 0 → line_feeds (y ∷ ys) ≡ 0
one_more y ys other none = rw other (omega (arith, none))

no_feeds_in_line : (bytes : List ℕ) → line_feeds (map in_line bytes) ≡ 0
no_feeds_in_line [] = refl
no_feeds_in_line (x ∷ xs) = one_more (in_line x) (map in_line xs) (in_line_other x) (no_feeds_in_line xs)

pub is_one_line : (bytes line : List ℕ) → line ≡ map in_line bytes ++ 10 ∷ [] → IsOneLine line
is_one_line bytes line is = record { line = map in_line bytes; none_before = no_feeds_in_line bytes; ended = is }

-- ---- several lines

join_lines : (lines more : List (List ℕ)) (text rest : List ℕ) → AreLines lines text → AreLines more rest → AreLines (lines ++ more) (text ++ rest)
join_lines [] more text rest none are = subst (λ (t : List ℕ). AreLines more t) (sym (ap (λ (t : List ℕ). t ++ rest) none)) are
join_lines (line ∷ lines) more text rest (left, parted, is, others) are =
    (left ++ rest, ap (λ (t : List ℕ). t ++ rest) parted ∙ append_assoc line left rest, is, join_lines lines more left rest others are)

pub grown_none : (out : Option (List ℕ)) → GrowsByLines out out
grown_none out = ([], ([], refl), Appends-nil out)

-- a line is added to what was written
pub grown_more : (first old new : Option (List ℕ)) (line : List ℕ) → IsOneLine line → Appends old new line → GrowsByLines first old → GrowsByLines first new
grown_more first old new line one appended (text, (lines, are), before) =
    (text ++ line, (lines ++ line ∷ [], join_lines lines (line ∷ []) text line are ([], sym (append-nil line), one, refl)), Appends-trans first old new text line before appended)
