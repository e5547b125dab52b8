-- As many layers as boxes.
use Rattle.std.proofs.Common.{◌≡◌, ℕ, zero, suc, ◌+◌, ◌<◌, List, [], ◌∷◌, ◌++◌, length, take, refl, ap, ◌∙◌, arith}
use Rattle.drawing_types.specs.declared.shape.Point.{Point}
use Rattle.compound.specs.Figures.{layers_for}

one_more : (xs : List Point) (i : ℕ) → i < length xs → layers_for (take i xs) ++ 0 ∷ [] ≡ layers_for (take (i + 1) xs)
one_more [] i h = absurd (omega (arith, h))
one_more (x ∷ xs) zero h = refl
one_more (x ∷ xs) (suc i) h = let n : suc i + 1 ≡ suc (i + 1) = omega arith in rw n (ap (λ ns. 0 ∷ ns) (one_more xs i (omega (arith, h))))

pub layers_more : (xs : List Point) (i : ℕ) (old new : List ℕ) → i < length xs → old ≡ layers_for (take i xs) → new ≡ old ++ 0 ∷ [] → new ≡ layers_for (take (i + 1) xs)
layers_more xs i old new h are is = is ∙ ap (λ ns. ns ++ 0 ∷ []) are ∙ one_more xs i h
