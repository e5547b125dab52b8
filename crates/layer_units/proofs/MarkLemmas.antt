-- Which numbers a list of those that pass a test holds, and that it rises, as of marked edges.
use Rattle.std.proofs.Common.{◌≡◌, ◌≢◌, ℕ, zero, suc, ◌+◌, ◌<◌, ◌≤◌, cond, Bool, true, false, List, ◌∷◌, length, IsTrue, arith, refl, sym, ap, inl, inr, ◌∙◌, ne_eqb, eq-eqb, true≢false}
use Rattle.std.specs.List.{filter, range_with_len}
use Rattle.std.proofs.lemmas.Bool.{cases_eq, cases_lt}
use Rattle.std.proofs.lemmas.List.FromFn.{length-range_with_len, get_or-range_with_len}
use Rattle.std.proofs.lemmas.List.Kept.{IsStrictlyIncreasing-filter}
use Rattle.std.specs.List.Sorted.{IsStrictlyIncreasing}
use Rattle.level_model.specs.Level.{holds}
use Rattle.level_model.specs.Marks.{AreMarks}
use Rattle.layer_units.specs.Marks.{is_marked, listed}

skip : (b : Bool) (a e : ℕ) (rest : List ℕ) → a ≢ e → holds (cond b (a ∷ rest) rest) e ≡ holds rest e
skip true a e rest other = rw (ne_eqb a e other) refl
skip false a e rest other = refl

holds_below : (test : ℕ → Bool) (a n e : ℕ) → e < a → holds (filter test (range_with_len a n)) e ≡ false
holds_below test a zero e h = refl
holds_below test a (suc n) e h = skip (test a) a e (filter test (range_with_len (a + 1) n)) (λ same. absurd (omega (arith, h, same))) ∙ holds_below test (a + 1) n e (omega (arith, h))

pub holds_above : (test : ℕ → Bool) (a n e : ℕ) → a + n ≤ e → holds (filter test (range_with_len a n)) e ≡ false
holds_above test a zero e h = refl
holds_above test a (suc n) e h = skip (test a) a e (filter test (range_with_len (a + 1) n)) (λ same. absurd (omega (arith, h, same))) ∙ holds_above test (a + 1) n e (omega (arith, h))

first_held : (b : Bool) (a e : ℕ) (rest : List ℕ) → a ≡ e → holds rest e ≡ false → holds (cond b (a ∷ rest) rest) e ≡ b
first_held true a e rest same none = rw (eq-eqb a e same) refl
first_held false a e rest same none = none

pub holds_at : (test : ℕ → Bool) (a n e : ℕ) → a ≤ e → e < a + n → holds (filter test (range_with_len a n)) e ≡ test e
holds_at test a zero e low high = absurd (omega (arith, low, high))
holds_at test a (suc n) e low high =
    elim (cases_eq a e) [
      | inl same ↦
          first_held (test a) a e (filter test (range_with_len (a + 1) n)) same (holds_below test (a + 1) n e (omega (arith, same))) ∙ ap test same
      | inr other ↦
          let up : a + 1 ≤ e = elim (cases_lt a e) [ inl l ↦ omega (arith, l) | inr m ↦ absurd (other (omega (arith, low, m))) ] in
          skip (test a) a e (filter test (range_with_len (a + 1) n)) other ∙ holds_at test (a + 1) n e up (omega (arith, high))
    ]

range_rises : (a n : ℕ) → IsStrictlyIncreasing (range_with_len a n)
range_rises a n k h =
    let many = length-range_with_len a n in
    let less : k + 1 < n = omega (arith, h, many) in
    let one = get_or-range_with_len a n k 0 (omega (arith, less)) in
    let two = get_or-range_with_len a n (k + 1) 0 less in
    omega (arith, one, two)

pub filter_rises : (test : ℕ → Bool) (a n : ℕ) → IsStrictlyIncreasing (filter test (range_with_len a n))
filter_rises test a n = IsStrictlyIncreasing-filter test (range_with_len a n) (range_rises a n)

-- ---- the list of marked edges

pub listed_at : (marks : List Bool) (e : ℕ) → e < length marks → holds (listed marks) e ≡ is_marked marks e
listed_at marks e h = holds_at (is_marked marks) 0 (length marks) e (omega arith) (omega (arith, h))

pub marks_listed : (marks : List Bool) (n : ℕ) → length marks ≡ n → AreMarks (listed marks) n marks
marks_listed marks n many = record { as_many = many; each = λ k h. sym (listed_at marks k (omega (arith, many, h))) }

pub listed_in : (marks : List Bool) (e : ℕ) → IsTrue (holds (listed marks) e) → e < length marks
listed_in marks e h =
    elim (cases_lt e (length marks)) [
      | inl less ↦ less
      | inr most ↦ absurd (true≢false (sym h ∙ holds_above (is_marked marks) 0 (length marks) e (omega (arith, most))))
    ]
