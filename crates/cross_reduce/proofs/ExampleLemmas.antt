-- The small drawings are sound, and their rows are those of their layers.
use Rattle.std.proofs.Common.{◌≡◌, ◌≢◌, ℕ, zero, suc, ◌+◌, ◌-◌, ◌<◌, ◌≤◌, ◌^◌, ◌==◌, cond, pos, ◌≤ℤ◌, ◌<ℤ◌, List, [], ◌∷◌, map, length, get_or, Bool, true, false, not, is_some, None, refl, sym, subst, ◌∙◌, arith, ⊎_elim}
use Rattle.std.specs.List.{All}
use Rattle.std.proofs.lemmas.Bool.{cases_lt}
use Rattle.std.proofs.lemmas.Int.{ints}
use Rattle.std.proofs.lemmas.List.Elements.{All-get_or, All-cons, All-nil}
use Rattle.std.proofs.lemmas.List.Sums.{count_by-le-length}
use Rattle.elk_layers.specs.declared.units.Unit.{Unit as LayerUnit}
use Rattle.elk_layers.specs.declared.units.Link.{Link}
use Rattle.elk_layers.specs.Layered.{Plain, IsSound, IsSoundLink, AreRows, HasUnit, HasBodyWithin, unit_at, link_at, row_at, layer_of, total_height}
use Rattle.elk_layers.specs.Examples.{child, joins, drawing, two_rows, five_by_five, five_rows}

below_two : (P : ℕ → Type 0) → P 0 → P 1 → (k : ℕ) → k < 2 → P k
below_two P a b zero h = a
below_two P a b (suc zero) h = b
below_two P a b (suc (suc k)) h = absurd (omega (arith, h))

below_five : (P : ℕ → Type 0) → P 0 → P 1 → P 2 → P 3 → P 4 → (k : ℕ) → k < 5 → P k
below_five P a b c d e zero h = a
below_five P a b c d e (suc zero) h = b
below_five P a b c d e (suc (suc zero)) h = c
below_five P a b c d e (suc (suc (suc zero))) h = d
below_five P a b c d e (suc (suc (suc (suc zero)))) h = e
below_five P a b c d e (suc (suc (suc (suc (suc k))))) h = absurd (omega (arith, h))

-- a child in one of two layers
record IsPlainChild (u : LayerUnit) : Type 0 where
  right : Bool
  is : u ≡ child (cond right 1 0)

abbrev children : List Bool → List LayerUnit
children sides = map (λ (b : Bool). child (cond b 1 0)) sides

all_plain : (sides : List Bool) → All IsPlainChild (children sides)
all_plain [] = All-nil IsPlainChild
all_plain (b ∷ sides) = All-cons IsPlainChild (child (cond b 1 0)) (children sides) (record { right = b; is = refl }) (all_plain sides)

unit_plain : (units : List LayerUnit) (u : ℕ) → All IsPlainChild units → u < length units → IsPlainChild (unit_at units u)
unit_plain units u all h =
    All-get_or IsPlainChild units u (record { layer = 0; child = None; height = pos 0; body_top = pos 0; body_height = pos 0; north = 0; south = 0 }) h all

small_layer : (b : Bool) → cond b 1 0 < 2
small_layer true = omega arith
small_layer false = omega arith

layer_small : (x : LayerUnit) → IsPlainChild x → x.layer < 2
layer_small x p = subst (λ (y : LayerUnit). y.layer < 2) (sym p.is) (small_layer p.right)

height_low : (x : LayerUnit) → IsPlainChild x → pos 0 ≤ℤ x.height
height_low x p = subst (λ (y : LayerUnit). pos 0 ≤ℤ y.height) (sym p.is) (omega (arith, ints))

pin_low : (x : LayerUnit) → IsPlainChild x → pos 5 ≤ℤ x.height
pin_low x p = subst (λ (y : LayerUnit). pos 5 ≤ℤ y.height) (sym p.is) (omega (arith, ints))

no_lane : (x : LayerUnit) → IsPlainChild x → not (is_some x.child) ≡ true → x.height ≡ pos 0
no_lane x p = subst (λ (y : LayerUnit). not (is_some y.child) ≡ true → y.height ≡ pos 0) (sym p.is) (λ bad. absurd cc)

body_within : (x : LayerUnit) → IsPlainChild x → HasBodyWithin x
body_within x p =
    subst (λ (y : LayerUnit). HasBodyWithin y) (sym p.is) (record { top = omega (arith, ints); height = omega (arith, ints); bottom = omega (arith, ints) })

sound_link : (units : List LayerUnit) (links : List Link) (a b : ℕ) → All IsPlainChild units → a < length units → b < length units → layer_of (drawing units links) b ≡ layer_of (drawing units links) a + 1
    → IsSoundLink (drawing units links) (joins a b)
sound_link units links a b all ha hb next =
    record {
      tail = ha;
      head = hb;
      next_layer = next;
      tail_rank = omega arith;
      head_rank = omega arith;
      tail_at = (omega (arith, ints), pin_low (unit_at units a) (unit_plain units a all ha));
      head_at = (omega (arith, ints), pin_low (unit_at units b) (unit_plain units b all hb));
    }

sound_drawing : (units : List LayerUnit) (links : List Link) → All IsPlainChild units → length units ≤ 16 → length links ≤ 16 → total_height units <ℤ pos (2 ^ 56)
    → ((k : ℕ) → k < length links → IsSoundLink (drawing units links) (link_at links k)) → IsSound (drawing units links)
sound_drawing units links all few_units few_links together links_are =
    record {
      node_node_is = record { low = omega (arith, ints); high = omega (arith, ints) };
      edge_node_is = record { low = omega (arith, ints); high = omega (arith, ints) };
      edge_edge_is = record { low = omega (arith, ints); high = omega (arith, ints) };
      few_units = omega (arith, few_units);
      few_links = omega (arith, few_links);
      layers_are = λ u h. layer_small (unit_at units u) (unit_plain units u all h);
      few_in_layer = λ g. omega (arith, count_by-le-length (λ (u : LayerUnit). u.layer == g) units, few_units);
      links_are = links_are;
      heights = λ u h. height_low (unit_at units u) (unit_plain units u all h);
      together = together;
      lanes_are_flat = λ u h e. no_lane (unit_at units u) (unit_plain units u all h) e;
      bodies = λ u h e. body_within (unit_at units u) (unit_plain units u all h);
    }

-- two rows of n units each, in ascending order
rows_ascending : (l : Plain) (rows : List (List ℕ)) (n : ℕ) → l.layers ≡ 2 → length l.units ≡ n + n → length rows ≡ 2 → length (row_at rows 0) ≡ n → length (row_at rows 1) ≡ n
    → ((i : ℕ) → i < n → get_or (row_at rows 0) i 0 ≡ i) → ((i : ℕ) → i < n → get_or (row_at rows 1) i 0 ≡ n + i)
    → ((i : ℕ) → i < n → layer_of l i ≡ 0) → ((i : ℕ) → i < n → layer_of l (n + i) ≡ 1) → AreRows l rows
rows_ascending l rows n two count many len0 len1 first second low high =
    record {
      as_many = omega (arith, two, many);
      in_range = λ r h. below_two (λ r. (i : ℕ) → i < length (row_at rows r) → get_or (row_at rows r) i 0 < length l.units)
          (λ i k. omega (arith, first i (omega (arith, k, len0)), k, len0, count))
          (λ i k. omega (arith, second i (omega (arith, k, len1)), k, len1, count)) r (omega (arith, h, many));
      in_layer = λ r h. below_two (λ r. (i : ℕ) → i < length (row_at rows r) → layer_of l (get_or (row_at rows r) i 0) ≡ r)
          (λ i k. subst (λ u. layer_of l u ≡ 0) (sym (first i (omega (arith, k, len0)))) (low i (omega (arith, k, len0))))
          (λ i k. subst (λ u. layer_of l u ≡ 1) (sym (second i (omega (arith, k, len1)))) (high i (omega (arith, k, len1)))) r (omega (arith, h, many));
      complete = λ u h. ⊎_elim
          (λ (below : u < n). subst (λ g. HasUnit (row_at rows g) u) (sym (low u below)) (record { place = u; within = omega (arith, below, len0); unit_is = first u below }))
          (λ (above : n ≤ u).
          let e : n + (u - n) ≡ u = omega (arith, above) in
          let k : u - n < n = omega (arith, above, h, count) in
          subst (λ g. HasUnit (row_at rows g) u) (sym (subst (λ v. layer_of l v ≡ 1) e (high (u - n) k)))
          (record { place = u - n; within = omega (arith, k, len1); unit_is = second (u - n) k ∙ e }))
          (cases_lt u n);
      once = λ r h. below_two (λ r. (i j : ℕ) → i < j → j < length (row_at rows r) → get_or (row_at rows r) i 0 ≢ get_or (row_at rows r) j 0)
          (λ i j ij k e. omega (arith, first i (omega (arith, ij, k, len0)), first j (omega (arith, k, len0)), e, ij))
          (λ i j ij k e. omega (arith, second i (omega (arith, ij, k, len1)), second j (omega (arith, k, len1)), e, ij)) r (omega (arith, h, many));
    }

abbrev pub two_joined : ℕ → ℕ → Plain
two_joined a b = drawing (child 0 ∷ child 0 ∷ child 1 ∷ child 1 ∷ []) (joins 0 a ∷ joins 1 b ∷ [])

two_plain : All IsPlainChild (child 0 ∷ child 0 ∷ child 1 ∷ child 1 ∷ [])
two_plain = all_plain (false ∷ false ∷ true ∷ true ∷ [])

two_sound : (a b : ℕ) → a < 4 → b < 4 → layer_of (two_joined a b) a ≡ 1 → layer_of (two_joined a b) b ≡ 1 → IsSound (two_joined a b)
two_sound a b ha hb la lb =
    sound_drawing (two_joined a b).units (two_joined a b).links two_plain (omega arith) (omega arith) (omega (arith, ints))
    (below_two (λ k. IsSoundLink (two_joined a b) (link_at (two_joined a b).links k))
    (sound_link (two_joined a b).units (two_joined a b).links 0 a two_plain (omega arith) ha la)
    (sound_link (two_joined a b).units (two_joined a b).links 1 b two_plain (omega arith) hb lb))

pub crossing_sound : IsSound (two_joined 3 2)
crossing_sound = two_sound 3 2 (omega arith) (omega arith) refl refl

pub straight_sound : IsSound (two_joined 2 3)
straight_sound = two_sound 2 3 (omega arith) (omega arith) refl refl

pub two_are_rows : (a b : ℕ) → AreRows (two_joined a b) two_rows
two_are_rows a b =
    rows_ascending (two_joined a b) two_rows 2 refl refl refl refl refl
    (below_two (λ i. get_or (row_at two_rows 0) i 0 ≡ i) refl refl)
    (below_two (λ i. get_or (row_at two_rows 1) i 0 ≡ 2 + i) refl refl)
    (below_two (λ i. layer_of (two_joined a b) i ≡ 0) refl refl)
    (below_two (λ i. layer_of (two_joined a b) (2 + i) ≡ 1) refl refl)

five_plain : All IsPlainChild five_by_five.units
five_plain = all_plain (false ∷ false ∷ false ∷ false ∷ false ∷ true ∷ true ∷ true ∷ true ∷ true ∷ [])

below_six : (P : ℕ → Type 0) → P 0 → P 1 → P 2 → P 3 → P 4 → P 5 → (k : ℕ) → k < 6 → P k
below_six P a b c d e f zero h = a
below_six P a b c d e f (suc k) h = below_five (λ i. P (suc i)) b c d e f k (omega (arith, h))

five_link : (a b : ℕ) → a < 10 → b < 10 → layer_of five_by_five b ≡ layer_of five_by_five a + 1 → IsSoundLink five_by_five (joins a b)
five_link a b ha hb next = sound_link five_by_five.units five_by_five.links a b five_plain ha hb next

pub five_sound : IsSound five_by_five
five_sound =
    sound_drawing five_by_five.units five_by_five.links five_plain (omega arith) (omega arith) (omega (arith, ints))
    (below_six (λ k. IsSoundLink five_by_five (link_at five_by_five.links k))
    (five_link 0 7 (omega arith) (omega arith) refl)
    (five_link 1 8 (omega arith) (omega arith) refl)
    (five_link 2 5 (omega arith) (omega arith) refl)
    (five_link 2 9 (omega arith) (omega arith) refl)
    (five_link 3 6 (omega arith) (omega arith) refl)
    (five_link 4 7 (omega arith) (omega arith) refl))

pub five_are_rows : AreRows five_by_five five_rows
five_are_rows =
    rows_ascending five_by_five five_rows 5 refl refl refl refl refl
    (below_five (λ i. get_or (row_at five_rows 0) i 0 ≡ i) refl refl refl refl refl)
    (below_five (λ i. get_or (row_at five_rows 1) i 0 ≡ 5 + i) refl refl refl refl refl)
    (below_five (λ i. layer_of five_by_five i ≡ 0) refl refl refl refl refl)
    (below_five (λ i. layer_of five_by_five (5 + i) ≡ 1) refl refl refl refl refl)

pub sound_from : (l m : Plain) → l ≡ m → IsSound m → IsSound l
sound_from l m e sound = subst (λ (n : Plain). IsSound n) (sym e) sound

pub are_rows_from : (l m : Plain) (rows start : List (List ℕ)) → l ≡ m → rows ≡ start → AreRows m start → AreRows l rows
are_rows_from l m rows start e same are =
    subst (λ (n : Plain). AreRows n rows) (sym e) (subst (λ (xs : List (List ℕ)). AreRows m xs) (sym same) are)
