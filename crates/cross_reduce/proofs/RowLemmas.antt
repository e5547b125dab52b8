-- Rows in another order are rows still.
use Rattle.std.proofs.Common.{◌≡◌, ◌≢◌, ℕ, ◌<◌, ◌⊎◌, List, length, get_or, refl, arith, sym, ◌∙◌, subst, inl, inr}
use Rattle.std.proofs.lemmas.Bool.{cases_eq, cases_lt}
use Rattle.std.specs.List.{swap}
use Rattle.std.specs.List.Sorted.{IsPermutation}
use Rattle.std.proofs.lemmas.List.Edits.{swapped_from_swap, length-swap, Swapped}
use Rattle.std.proofs.lemmas.List.Sorted.{IsPermutation-keeps}
use Rattle.elk_layers.specs.Layered.{Plain, AreRows, HasUnit, row_at, layer_of}
use Rattle.elk_layers.specs.Crossings.{HasSameRows}
use Rattle.elk_layers.specs.Places.{IsOnce}
use Rattle.cross_reduce.specs.Rows.{IsRow}

-- a place after an exchange of a and b, and the place before from which its element comes
abbrev pub Comes : ℕ → ℕ → ℕ → ℕ → Type 0
Comes a b m s = ((m ≡ a) × (s ≡ b)) ⊎ (((m ≡ b) × (s ≡ a)) ⊎ ((m ≢ a) × (m ≢ b) × (s ≡ m)))

abbrev pub Source : (ℕ → ℕ) → (ℕ → ℕ) → ℕ → ℕ → ℕ → Type 0
Source f g a b m = (s : ℕ) × (g m ≡ f s) × Comes a b m s

source : (f g : ℕ → ℕ) (a b : ℕ) → Swapped f g a b → (m : ℕ) → Source f g a b m
source f g a b w m =
    elim (cases_eq m a) [
      | inl e ↦ (b, subst (λ x. g x ≡ f b) (sym e) w.0, inl (e, refl))
      | inr n ↦ elim (cases_eq m b) [
        | inl e ↦ (a, subst (λ x. g x ≡ f a) (sym e) w.1, inr (inl (e, refl)))
        | inr k ↦ (m, w.2 m n k, inr (inr (n, k, refl)))
      ]
    ]

apart : (a b p q sp sq : ℕ) → Comes a b p sp → Comes a b q sq → p ≢ q → sp ≢ sq
apart a b p q sp sq (inl x) (inl y) n = λ e. n (omega (arith, x, y))
apart a b p q sp sq (inl x) (inr (inl y)) n = λ e. n (omega (arith, x, y, e))
apart a b p q sp sq (inl x) (inr (inr y)) n = λ e. y.1 (omega (arith, x, y, e))
apart a b p q sp sq (inr (inl x)) (inl y) n = λ e. n (omega (arith, x, y, e))
apart a b p q sp sq (inr (inl x)) (inr (inl y)) n = λ e. n (omega (arith, x, y))
apart a b p q sp sq (inr (inl x)) (inr (inr y)) n = λ e. y.0 (omega (arith, x, y, e))
apart a b p q sp sq (inr (inr x)) (inl y) n = λ e. x.1 (omega (arith, x, y, e))
apart a b p q sp sq (inr (inr x)) (inr (inl y)) n = λ e. x.0 (omega (arith, x, y, e))
apart a b p q sp sq (inr (inr x)) (inr (inr y)) n = λ e. n (omega (arith, x, y, e))

comes_below : (a b m s n : ℕ) → a < n → b < n → m < n → Comes a b m s → s < n
comes_below a b m s n ha hb hm (inl x) = omega (arith, x)
comes_below a b m s n ha hb hm (inr (inl x)) = omega (arith, x)
comes_below a b m s n ha hb hm (inr (inr x)) = omega (arith, x)

differ : (row : List ℕ) → IsOnce row → (p q : ℕ) → p ≢ q → p < length row → q < length row → get_or row p 0 ≢ get_or row q 0
differ row once p q n hp hq e =
    elim (cases_lt p q) [
      | inl l ↦ once p q l hq e
      | inr g ↦ once q p (omega (arith, n, g)) hp (sym e)
    ]

once_swapped : (row row' : List ℕ) (a b : ℕ) → a < length row → b < length row → length row' ≡ length row → Swapped (λ m. get_or row m 0) (λ m. get_or row' m 0) a b → IsOnce row → IsOnce row'
once_swapped row row' a b ha hb long w once p q l h e =
    let sp = source (λ m. get_or row m 0) (λ m. get_or row' m 0) a b w p in
    let sq = source (λ m. get_or row m 0) (λ m. get_or row' m 0) a b w q in
    differ row once sp.0 sq.0 (apart a b p q sp.0 sq.0 sp.2 sq.2 (λ k. omega (arith, l, k)))
    (comes_below a b p sp.0 (length row) ha hb (omega (arith, l, h, long)) sp.2) (comes_below a b q sq.0 (length row) ha hb (omega (arith, h, long)) sq.2)
    (sym sp.1 ∙ e ∙ sq.1)

has_swapped : (row row' : List ℕ) (a b u : ℕ) → a < length row → b < length row → length row' ≡ length row → Swapped (λ m. get_or row m 0) (λ m. get_or row' m 0) a b → HasUnit row u → HasUnit row' u
has_swapped row row' a b u ha hb long w h =
    elim (cases_eq h.place a) [
      | inl e ↦ record { place = b; within = omega (arith, hb, long); unit_is = w.1 ∙ subst (λ x. get_or row x 0 ≡ u) e h.unit_is }
      | inr n ↦ elim (cases_eq h.place b) [
        | inl e ↦ record { place = a; within = omega (arith, ha, long); unit_is = w.0 ∙ subst (λ x. get_or row x 0 ≡ u) e h.unit_is }
        | inr k ↦ record { place = h.place; within = omega (arith, h.within, long); unit_is = w.2 h.place n k ∙ h.unit_is }
      ]
    ]

pub row_swapped : (l : Plain) (r : ℕ) (row : List ℕ) (a b : ℕ) → a < length row → b < length row → IsRow l r row → IsRow l r (swap row a b)
row_swapped l r row a b ha hb s =
    let long : length (swap row a b) ≡ length row = length-swap row a b in
    let w = swapped_from_swap row (swap row a b) a b 0 ha hb refl in
    record {
      in_range = λ i h. let p = source (λ m. get_or row m 0) (λ m. get_or (swap row a b) m 0) a b w i in
          subst (λ x. x < length l.units) (sym p.1) (s.in_range p.0 (comes_below a b i p.0 (length row) ha hb (omega (arith, h, long)) p.2));
      in_layer = λ i h. let p = source (λ m. get_or row m 0) (λ m. get_or (swap row a b) m 0) a b w i in
          subst (λ x. layer_of l x ≡ r) (sym p.1) (s.in_layer p.0 (comes_below a b i p.0 (length row) ha hb (omega (arith, h, long)) p.2));
      complete = λ u h e. has_swapped row (swap row a b) a b u ha hb long w (s.complete u h e);
      once = once_swapped row (swap row a b) a b ha hb long w s.once;
    }

pub row_permuted : (l : Plain) (r : ℕ) (row row' : List ℕ) → IsPermutation row row' → IsRow l r row → IsRow l r row'
row_permuted l r row row' p s =
    IsPermutation-keeps row (λ xs. IsRow l r xs) s (λ xs i j hi hj h. row_swapped l r xs i j hi hj h) row' p

pub row_of : (l : Plain) (rows : List (List ℕ)) (r : ℕ) → AreRows l rows → r < length rows → IsRow l r (row_at rows r)
row_of l rows r a h =
    record {
      in_range = a.in_range r h;
      in_layer = a.in_layer r h;
      complete = λ u hu e. subst (λ g. HasUnit (row_at rows g) u) e (a.complete u hu);
      once = a.once r h;
    }

pub rows_from : (l : Plain) (rows : List (List ℕ)) → length rows ≡ l.layers → ((u : ℕ) → u < length l.units → layer_of l u < l.layers) → ((r : ℕ) → r < length rows → IsRow l r (row_at rows r)) → AreRows l rows
rows_from l rows long below each =
    record {
      as_many = long;
      in_range = λ r h. (each r h).in_range;
      in_layer = λ r h. (each r h).in_layer;
      complete = λ u hu. (each (layer_of l u) (omega (arith, long, below u hu))).complete u hu refl;
      once = λ r h. (each r h).once;
    }

-- the same rows in another order
pub rows_permuted : (l : Plain) (rows rows' : List (List ℕ)) → ((u : ℕ) → u < length l.units → layer_of l u < l.layers) → AreRows l rows → HasSameRows rows rows' → AreRows l rows'
rows_permuted l rows rows' below a same =
    rows_from l rows' (same.as_many ∙ a.as_many) below
    (λ r h. row_permuted l r (row_at rows r) (row_at rows' r) (same.permuted r (omega (arith, h, same.as_many))) (row_of l rows r a (omega (arith, h, same.as_many))))
