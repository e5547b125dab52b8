-- `check` says yes to an answer of `layout`.
use Rattle.std.proofs.Common.{◌≡◌, ◌⊎◌, inl, inr, ℕ, ◌≤◌, List, [], length, None, Some, Option, refl, sym, ap, ◌∙◌, subst, arith}
use Rattle.std.specs.Prelude.{codes}
use Rattle.std.specs.Io.KnownBytes.{Consumes, IsAtEnd}
use Rattle.serde_json.specs.Data.{Data}
use Rattle.elk_doc.specs.Document.{Document}
use Rattle.elk_doc.specs.Drawn.{Drawn}
use Rattle.elk_doc.specs.declared.drawing.Placed.{Placed}
use Rattle.elk_json.specs.declared.fault.Refusal.{Refusal}
use Rattle.elk_json.specs.Document.{IsDocument}
use Rattle.elk_json.specs.Bytes.{reading}
use Rattle.elk_write.specs.Placing.{IsDrawing, refused_placed}
use Rattle.layout_check.specs.declared.verdict.Verdict.TheVariants.{Yes}
use Rattle.layout_check.proofs.DrawnLaws.{exact}
use Rattle.elk_engine.specs.declared.words.Command.TheVariants.{Check}
use Rattle.elk_engine.specs.Check.{Refuses, RefusesReading, IsJudged, verdict_line, verdict_status}
use Rattle.elk_engine.specs.Command.{limit, IsRefused}
use Rattle.elk_engine.specs.Outcome.{Outcome, Run, Gains, IsCutShort}
use Rattle.elk_engine.specs.Again.{AnswersAreGood}
use Rattle.elk_engine.proofs.Outcomes.{due, whole}

some_same : {A : Type 0} (x y : A) → Some x ≡ Some y → x ≡ y
some_same x y e = cc

-- ---- a text that is read as a value to which check can only say yes

module _ (text : List ℕ) (value : Data) (read : reading text ≡ Some value) where
  not_refused : refused_placed value ≡ None → (r : Refusal) → Refuses text r → ⊥
  not_refused free r h = let bad : None ≡ Some r = sym free ∙ subst (λ o. RefusesReading o r) read h in absurd (cc)

  module _ (p : Placed) (drawing : (d : Document) (q : Placed) → IsDocument d value → IsDrawing d q value → q ≡ p) (drawn : (d : Document) → IsDocument d value → Drawn d p) where
    says_yes : (status : ℕ) (line : List ℕ) → IsJudged text status line → (status ≡ 0) × (line ≡ codes "yes\n")
    says_yes status line j =
        let same : j.value ≡ value = some_same j.value value (sym j.read ∙ read) in
        let is : IsDocument j.doc value = subst (IsDocument j.doc) same j.document in
        let placed : j.placed ≡ p = drawing j.doc j.placed is (subst (IsDrawing j.doc j.placed) same j.drawing) in
        let yes : j.verdict ≡ Yes = (exact j.doc j.placed j.verdict j.judged).1 (subst (Drawn j.doc) (sym placed) (drawn j.doc is)) in
        (j.status_is ∙ ap verdict_status yes, j.text_is ∙ ap (verdict_line j.doc) yes)

-- ---- a run of check over the whole of such a text

module _ (text : List ℕ) (short : length text ≤ limit Check) (not_refused : (r : Refusal) → Refuses text r → ⊥)
    (says_yes : (status : ℕ) (line : List ℕ) → IsJudged text status line → (status ≡ 0) × (line ≡ codes "yes\n")) (run : Run) where
  abbrev EndsWell : Type 0
  EndsWell = (run.status ≡ 0) × Gains run (codes "yes\n") []

  yes_by : (line : List ℕ) → text ≡ run.taken → IsJudged run.taken run.status line → Gains run line [] → EndsWell
  yes_by line is judged gains =
      let yes = says_yes run.status line (subst (λ l. IsJudged l run.status line) (sym is) judged) in
      (yes.0, subst (λ l. Gains run l []) yes.1 gains)

  never_refused : IsRefused Check text → ⊥
  never_refused (inl long) = omega arith
  never_refused (inr (note, refuses)) = not_refused refuses.0 refuses.1

  all_taken : (left : Option (List ℕ)) → Consumes (Some text) left run.taken → IsAtEnd left → text ≡ run.taken
  all_taken None took end = absurd took
  all_taken (Some rest) took end = whole text run.taken rest end took

  ended : Consumes (Some text) run.source.new run.taken → Outcome Check run → IsCutShort run.status ⊎ EndsWell
  ended took o = elim (due Check run text run.source.new refl took o) [
    | inl cut ↦ inl cut
    | inr is ↦ elim is [
      | inl refused ↦ absurd (never_refused refused.0)
      | inr done ↦ let a = o.answered done.1 in inr (yes_by a.2 (all_taken run.source.new took a.0) a.3 a.4)
    ]
  ]

pub answers_good : AnswersAreGood
answers_good laid text h short run source took o =
    let a = h.1 in
    let g = a.good in
    let b = g.read_back in
    ended text short (not_refused text g.answer g.read_again b.accepted) (says_yes text g.answer g.read_again a.placed b.says.drawing b.drawn) run
    (subst (λ l. Consumes l run.source.new run.taken) source took) o
