-- Lists that grow by one value at a time.
use Rattle.std.proofs.Common.{◌≡◌, ℕ, ◌+◌, List, [], ◌∷◌, ◌++◌, arith, refl, sym, ap, ◌∙◌, inl, inr, length-append}
use Rattle.std.proofs.lemmas.Bool.{cases_lt}
use Rattle.std.proofs.lemmas.List.{get_or_push, get_or_append_left}
use Rattle.layout_check.specs.Shapes.{Lists}

pub Lists-none : {T : Type 0} (f : ℕ → T) (xs : List T) → xs ≡ [] → Lists f 0 xs
Lists-none f xs e = record { count = rw e refl; each = λ i other l. absurd (omega arith) }

pub Lists-push : {T : Type 0} (f : ℕ → T) (n : ℕ) (xs ys : List T) (v : T) → Lists f n xs → v ≡ f n → ys ≡ xs ++ v ∷ [] → Lists f (n + 1) ys
Lists-push f n xs ys v h e grown =
    rw grown
    (record {
      count = omega (arith, length-append xs (v ∷ []), h.count);
      each = λ i other l.
          elim (cases_lt i n) [
            | inl below ↦ get_or_append_left xs (v ∷ []) other i (omega (arith, h.count)) ∙ h.each i other below
            | inr above ↦
                let same : i ≡ n = omega arith in
                get_or_push xs v other i (h.count ∙ sym same) ∙ e ∙ ap f (sym same)
          ];
    })

pub Lists-all : {T : Type 0} (f : ℕ → T) (n m : ℕ) (xs : List T) → n ≡ m → Lists f n xs → Lists f m xs
Lists-all f n m xs e h = record { count = h.count ∙ e; each = λ i other l. h.each i other (omega arith) }
