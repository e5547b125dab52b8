-- A fact of each element of a kind, carried from a value to its answer.
use Rattle.std.proofs.Common.{◌≡◌, ℕ, ◌+◌, List, [], ◌∷◌, Bool, true, false, cond, filter, refl, sym, ap, ◌∙◌, subst, Some, arith, add-one}
use Rattle.std.specs.List.{slice_get}
use Rattle.elk_doc.specs.declared.drawing.Placed.{Placed}
use Rattle.elk_doc.specs.Document.{Document}
use Rattle.elk_json.specs.declared.elements.Kind.{Kind}
use Rattle.elk_json.specs.Elements.{Element}
use Rattle.elk_write.specs.declared.numbers.Numbers.{Numbers}
use Rattle.elk_write.specs.Written.{AllFrom}
use Rattle.elk_write.proofs.Pairs.{step_kind, Same, Pairs}

module _ (doc : Document) (p : Placed) (test : Kind → Bool) (number : Numbers → ℕ)
    (hit : (k : Kind) (a : Numbers) → test k ≡ true → number (step_kind k a) ≡ number a + 1)
    (miss : (k : Kind) (a : Numbers) → test k ≡ false → number (step_kind k a) ≡ number a)
    (R W : ℕ → Element → Type 0)
    (turn : (a : Numbers) (e f : Element) → test e.kind ≡ true → Same doc p a e f → R (number a) e → W (number a) f) where
  abbrev of_kind : Element → Bool
  of_kind e = test e.kind

  reversed_step : (b : Bool) (a : Numbers) (e f : Element) (es fs : List Element) → test e.kind ≡ b → Same doc p a e f
      → (AllFrom R (number (step_kind e.kind a)) (filter of_kind es) → AllFrom W (number (step_kind e.kind a)) (filter of_kind fs))
      → AllFrom R (number a) (filter of_kind (e ∷ es)) → AllFrom W (number a) (filter of_kind (f ∷ fs))
  reversed_step true a e f es fs is same ih h =
      let left : filter of_kind (e ∷ es) ≡ e ∷ filter of_kind es = ap (λ b. cond b (e ∷ filter of_kind es) (filter of_kind es)) is in
      let right : filter of_kind (f ∷ fs) ≡ f ∷ filter of_kind fs = ap (λ b. cond b (f ∷ filter of_kind fs) (filter of_kind fs)) (ap test same.0 ∙ is) in
      let next : number (step_kind e.kind a) ≡ number a + 1 = hit e.kind a is in
      let given : AllFrom R (number a) (e ∷ filter of_kind es) = subst (AllFrom R (number a)) left h in
      subst (AllFrom W (number a)) (sym right) (turn a e f is same given.0, subst (λ n. AllFrom W n (filter of_kind fs)) next (ih (subst (λ n. AllFrom R n (filter of_kind es)) (sym next) given.1)))
  reversed_step false a e f es fs is same ih h =
      let left : filter of_kind (e ∷ es) ≡ filter of_kind es = ap (λ b. cond b (e ∷ filter of_kind es) (filter of_kind es)) is in
      let right : filter of_kind (f ∷ fs) ≡ filter of_kind fs = ap (λ b. cond b (f ∷ filter of_kind fs) (filter of_kind fs)) (ap test same.0 ∙ is) in
      let next : number (step_kind e.kind a) ≡ number a = miss e.kind a is in
      subst (AllFrom W (number a)) (sym right) (subst (λ n. AllFrom W n (filter of_kind fs)) next (ih (subst (λ n. AllFrom R n (filter of_kind es)) (sym next) (subst (AllFrom R (number a)) left h))))

  pub all_reversed : (xs ys : List Element) (a : Numbers) → Pairs doc p a xs ys → AllFrom R (number a) (filter of_kind xs) → AllFrom W (number a) (filter of_kind ys)
  all_reversed [] [] a h r = tt
  all_reversed (x ∷ xs) (y ∷ ys) a h r = reversed_step (test x.kind) a x y xs ys refl h.0 (all_reversed xs ys (step_kind x.kind a) h.1) r
  all_reversed xs ys a h r = absurd h

-- a fact of each index
pub all_from : (P : ℕ → Element → Type 0) (xs : List Element) (m : ℕ) → ((i : ℕ) (x : Element) → slice_get xs i ≡ Some x → P (m + i) x) → AllFrom P m xs
all_from P [] m h = tt
all_from P (x ∷ xs) m h =
    let zero_in : P (m + 0) x = h 0 x refl in
    let next = λ (i : ℕ) (y : Element) (e : slice_get xs i ≡ Some y). let n : m + (i + 1) ≡ (m + 1) + i = omega arith in subst (λ k. P k y) n (h (i + 1) y (rw add-one e)) in
    (subst (λ k. P k x) (let z : m + 0 ≡ m = omega arith in z) zero_in, all_from P xs (m + 1) next)
