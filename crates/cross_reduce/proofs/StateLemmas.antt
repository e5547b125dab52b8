-- An order with its places and far ends, before and after an exchange.
use Rattle.std.proofs.Common.{◌≡◌, ◌≢◌, ℕ, ◌+◌, ◌<◌, ◌≤◌, ◌^◌, List, [], length, get_or, set, map, Bool, true, false, ◌&&◌, ◌||◌, refl, arith, sym, ◌∙◌, ap, subst, inl, inr, ltb, eqb, eq-eqb}
use Rattle.std.proofs.lemmas.Bool.{cases_eq, eqb-true, ltb-true, ltb-false}
use Rattle.std.proofs.lemmas.Simd.{map-map}
use Rattle.std.specs.List.{swap, filter}
use Rattle.std.specs.List.Sorted.{IsPermutation}
use Rattle.std.proofs.lemmas.List.{get_or-set_same, get_or-set_other, length-set, length-map}
use Rattle.std.proofs.lemmas.List.Sums.{length-filter, count_by-le-length}
use Rattle.std.proofs.lemmas.List.Elements.{All-filter, All-map, All-weaker}
use Rattle.std.proofs.lemmas.List.Sorted.{IsPermutation-swap, IsPermutation-refl, IsPermutation-trans}
use Rattle.elk_layers.specs.declared.units.Link.{Link}
use Rattle.elk_layers.specs.Layered.{Plain, IsSound, IsSoundLink, AreRows, row_at, layer_of, place_in, place_of, tail_key, head_key}
use Rattle.elk_layers.specs.Crossings.{crossings, exchanged, HasSameRows}
use Rattle.cross_reduce.specs.declared.fans.Towards.{Towards}
use Rattle.cross_reduce.specs.declared.fans.Towards.TheVariants.{Left, Right}
use Rattle.cross_reduce.specs.declared.fans.Far.{Far}
use Rattle.elk_layers.specs.Places.{ArePlaces}
use Rattle.elk_layers.proofs.PlaceLemmas.{place_at}
use Rattle.cross_reduce.specs.Places.{FitPlaces}
use Rattle.cross_reduce.specs.Fans.{fan_at, fan_of, near_unit, far_end, far_key, far_keys}
use Rattle.cross_reduce.specs.Exchanges.{FitsKey, FitKeys, IsState, IsTried, crossed_above, crossed_between}
use Rattle.cross_reduce.proofs.Sums.{one_if, double, descents_are, sum_swap}
use Rattle.cross_reduce.proofs.ExchangeLemmas.{Moves}
use Rattle.cross_reduce.proofs.RowLemmas.{rows_permuted}
use Rattle.cross_reduce.proofs.PairLemmas.{left_pair, right_pair, exchange_changes, moves, is_at, place_kept, is_row}
use Rattle.cross_reduce.proofs.CrossingLemmas.{crossings_are}
use Rattle.cross_reduce.proofs.PlaceLemmas.{map_same, links_sound, places_fit}

left_keys : (l : Plain) (rows : List (List ℕ)) (place : List ℕ) (u : ℕ) → IsSound l → ArePlaces l rows place → far_keys place (fan_of Left l.links u) ≡ map (tail_key l rows) (filter (λ k. eqb k.head u) l.links)
left_keys l rows place u sound s =
    map-map (far_key place) (far_end Left) (filter (λ k. eqb k.head u) l.links)
    ∙ map_same (IsSoundLink l) (λ x. far_key place (far_end Left x)) (tail_key l rows) (filter (λ k. eqb k.head u) l.links)
    (All-filter (λ (k : Link). eqb k.head u) (IsSoundLink l) l.links (links_sound l sound)) (λ x k. rw (s.place_is x.tail k.tail) refl)

right_keys : (l : Plain) (rows : List (List ℕ)) (place : List ℕ) (u : ℕ) → IsSound l → ArePlaces l rows place → far_keys place (fan_of Right l.links u) ≡ map (head_key l rows) (filter (λ k. eqb k.tail u) l.links)
right_keys l rows place u sound s =
    map-map (far_key place) (far_end Right) (filter (λ k. eqb k.tail u) l.links)
    ∙ map_same (IsSoundLink l) (λ x. far_key place (far_end Right x)) (head_key l rows) (filter (λ k. eqb k.tail u) l.links)
    (All-filter (λ (k : Link). eqb k.tail u) (IsSoundLink l) l.links (links_sound l sound)) (λ x k. rw (s.place_is x.head k.head) refl)

left_is : (l : Plain) (rows : List (List ℕ)) (place : List ℕ) (u v : ℕ) → IsSound l → ArePlaces l rows place → crossed_above place (fan_of Left l.links u) (fan_of Left l.links v) ≡ double (left_pair l rows u v) l.links
left_is l rows place u v sound s =
    rw (left_keys l rows place u sound s, left_keys l rows place v sound s)
    (descents_are (tail_key l rows) (λ (k : Link). eqb k.head u) (λ k. eqb k.head v) l.links
    ∙ sum_swap (λ (a b : Link). one_if (eqb a.head v && (eqb b.head u && ltb (tail_key l rows a) (tail_key l rows b)))) l.links l.links)

right_is : (l : Plain) (rows : List (List ℕ)) (place : List ℕ) (u v : ℕ) → IsSound l → ArePlaces l rows place → crossed_above place (fan_of Right l.links u) (fan_of Right l.links v) ≡ double (right_pair l rows u v) l.links
right_is l rows place u v sound s =
    rw (right_keys l rows place u sound s, right_keys l rows place v sound s)
    (descents_are (head_key l rows) (λ (k : Link). eqb k.tail u) (λ k. eqb k.tail v) l.links)

pub between_is : (l : Plain) (rows : List (List ℕ)) (place : List ℕ) (left right : List (List Far)) (u v : ℕ) → IsState l rows place left right → u < length l.units → v < length l.units
    → crossed_between place left right u v ≡ double (left_pair l rows u v) l.links + double (right_pair l rows u v) l.links
between_is l rows place left right u v s hu hv =
    rw (s.to_left.fan_is u hu, s.to_left.fan_is v hv, s.to_right.fan_is u hu, s.to_right.fan_is v hv, left_is l rows place u v s.sound s.places, right_is l rows place u v s.sound s.places) refl

-- the crossings after an exchange, by those between the two units
pub exchange_law : (l : Plain) (rows : List (List ℕ)) (place : List ℕ) (left right : List (List Far)) (r i : ℕ) → IsState l rows place left right → r < length rows → i + 1 < length (row_at rows r)
    → crossings l rows + crossed_between place left right (get_or (row_at rows r) (i + 1) 0) (get_or (row_at rows r) i 0)
    ≡ crossings l (exchanged rows r i) + crossed_between place left right (get_or (row_at rows r) i 0) (get_or (row_at rows r) (i + 1) 0)
exchange_law l rows place left right r i s hr hi =
    let row = is_row l rows s.sound s.are_rows r i hr hi in
    let hu = row.in_range i (omega (arith, hi)) in
    let hv = row.in_range (i + 1) hi in
    rw (crossings_are l rows, crossings_are l (exchanged rows r i), between_is l rows place left right (get_or (row_at rows r) (i + 1) 0) (get_or (row_at rows r) i 0) s hv hu, between_is l rows place left right (get_or (row_at rows r) i 0) (get_or (row_at rows r) (i + 1) 0) s hu hv)
    (exchange_changes l rows s.sound s.are_rows r i hr hi)

pub fan_few : (l : Plain) (towards : Towards) (u : ℕ) → IsSound l → length (fan_of towards l.links u) ≤ 2 ^ 24
fan_few l towards u sound =
    let a = length-map (filter (λ k. eqb (near_unit towards k) u) l.links) (far_end towards) in
    let b = length-filter (λ k. eqb (near_unit towards k) u) l.links in
    let d = count_by-le-length (λ k. eqb (near_unit towards k) u) l.links in
    omega (arith, a, b, d, sound.few_links)

fan_fits : (l : Plain) (place : List ℕ) (towards : Towards) (u : ℕ) → IsSound l → FitPlaces l place → FitKeys place (fan_of towards l.links u)
fan_fits l place towards u sound fit =
    record {
      few = fan_few l towards u sound;
      fits = All-map (FitsKey place) (far_end towards) (filter (λ k. eqb (near_unit towards k) u) l.links)
          (All-weaker (IsSoundLink l) (λ x. FitsKey place (far_end towards x)) (key_fits l place towards fit) (filter (λ k. eqb (near_unit towards k) u) l.links)
          (All-filter (λ (k : Link). eqb (near_unit towards k) u) (IsSoundLink l) l.links (links_sound l sound)));
    }
  where
    key_fits : (l : Plain) (place : List ℕ) (towards : Towards) → FitPlaces l place → (x : Link) → IsSoundLink l x → FitsKey place (far_end towards x)
    key_fits l place Left fit x k = record { unit = subst (λ n. x.tail < n) (sym fit.as_long) k.tail; place_fits = fit.small x.tail k.tail; rank_fits = k.tail_rank }
    key_fits l place Right fit x k = record { unit = subst (λ n. x.head < n) (sym fit.as_long) k.head; place_fits = fit.small x.head k.head; rank_fits = k.head_rank }

pub left_fits : (l : Plain) (rows : List (List ℕ)) (place : List ℕ) (left right : List (List Far)) → IsState l rows place left right → (u : ℕ) → u < length l.units → FitKeys place (fan_at left u)
left_fits l rows place left right s u h =
    rw (s.to_left.fan_is u h) (fan_fits l place Left u s.sound (places_fit l rows place s.sound s.are_rows s.places))

pub right_fits : (l : Plain) (rows : List (List ℕ)) (place : List ℕ) (left right : List (List Far)) → IsState l rows place left right → (u : ℕ) → u < length l.units → FitKeys place (fan_at right u)
right_fits l rows place left right s u h =
    rw (s.to_right.fan_is u h) (fan_fits l place Right u s.sound (places_fit l rows place s.sound s.are_rows s.places))

pub same_refl : (rows : List (List ℕ)) → HasSameRows rows rows
same_refl rows = record { as_many = refl; permuted = λ r h. IsPermutation-refl (row_at rows r) }

pub same_trans : (a b c : List (List ℕ)) → HasSameRows a b → HasSameRows b c → HasSameRows a c
same_trans a b c s t =
    record { as_many = t.as_many ∙ s.as_many; permuted = λ r h. IsPermutation-trans (row_at a r) (row_at b r) (row_at c r) (s.permuted r h) (t.permuted r (rw s.as_many h)) }

pub same_exchanged : (rows : List (List ℕ)) (r i : ℕ) → r < length rows → i + 1 < length (row_at rows r) → HasSameRows rows (exchanged rows r i)
same_exchanged rows r i hr hi =
    let new : List ℕ = swap (row_at rows r) i (i + 1) in
    record {
      as_many = length-set rows r new;
      permuted = λ g h. elim (cases_eq g r) [
        | inl e ↦ subst (λ (x : ℕ). IsPermutation (row_at rows x) (row_at (set rows r new) x)) (sym e)
            (rw (get_or-set_same rows r new [] hr) (IsPermutation-swap (row_at rows r) (swap (row_at rows r) i (i + 1)) i (i + 1) (omega (arith, hi)) hi refl))
        | inr n ↦ rw (get_or-set_other rows r g new [] n) (IsPermutation-refl (row_at rows g))
      ];
    }

moved_up : (i p p' : ℕ) → Moves i p p' → p ≡ i → p' ≡ i + 1
moved_up i p p' (inl a) e = a.1
moved_up i p p' (inr (inl a)) e = absurd (omega (arith, a, e))
moved_up i p p' (inr (inr a)) e = absurd (a.0 e)

moved_down : (i p p' : ℕ) → Moves i p p' → p ≡ i + 1 → p' ≡ i
moved_down i p p' (inl a) e = absurd (omega (arith, a, e))
moved_down i p p' (inr (inl a)) e = a.1
moved_down i p p' (inr (inr a)) e = absurd (a.1 e)

moved_not : (i p p' : ℕ) → Moves i p p' → p ≢ i → p ≢ i + 1 → p' ≡ p
moved_not i p p' (inl a) n m = absurd (n a.0)
moved_not i p p' (inr (inl a)) n m = absurd (m a.0)
moved_not i p p' (inr (inr a)) n m = a.2

module _ (l : Plain) (rows : List (List ℕ)) (sound : IsSound l) (are : AreRows l rows) (r i : ℕ) (hr : r < length rows) (hi : i + 1 < length (row_at rows r)) where
  stands_at : (k : ℕ) → k < length (row_at rows r) → place_of l rows (get_or (row_at rows r) k 0) ≡ k
  stands_at k h =
      let row = is_row l rows sound are r i hr hi in
      subst (λ (g : ℕ). place_in (row_at rows g) (get_or (row_at rows r) k 0) ≡ k) (sym (row.in_layer k h)) (place_at (row_at rows r) row.once k h)

  not_at : (w k : ℕ) → w < length l.units → layer_of l w ≡ r → k < length (row_at rows r) → w ≢ get_or (row_at rows r) k 0 → place_of l rows w ≢ k
  not_at w k hw e hk n q = n (eqb-true w (get_or (row_at rows r) k 0) (is_at l rows sound are r i hr hi w k hw e hk ∙ eq-eqb (place_of l rows w) k q))

  pub placed_after : (place : List ℕ) → ArePlaces l rows place → ArePlaces l (exchanged rows r i) (set (set place (get_or (row_at rows r) i 0) (i + 1)) (get_or (row_at rows r) (i + 1) 0) i)
  placed_after place s =
      let row = is_row l rows sound are r i hr hi in
      let u : ℕ = get_or (row_at rows r) i 0 in
      let v : ℕ = get_or (row_at rows r) (i + 1) 0 in
      let hu : get_or (row_at rows r) i 0 < length l.units = row.in_range i (omega (arith, hi)) in
      let hv : get_or (row_at rows r) (i + 1) 0 < length l.units = row.in_range (i + 1) hi in
      let one : List ℕ = set place u (i + 1) in
      let long : length (set place u (i + 1)) ≡ length l.units = length-set place u (i + 1) ∙ s.as_long in
      record {
        as_long = length-set one v i ∙ long;
        place_is = λ w hw. elim (cases_eq w v) [
          | inl e ↦ subst (λ (x : ℕ). get_or (set one v i) x 0 ≡ place_of l (exchanged rows r i) x) (sym e)
              (get_or-set_same one v i 0 (rw long hv) ∙ sym (moved_down i (place_of l rows v) (place_of l (exchanged rows r i) v) (moves l rows sound are r i hr hi v hv (row.in_layer (i + 1) hi)) (stands_at (i + 1) hi)))
          | inr n ↦ elim (cases_eq w u) [
            | inl e ↦ subst (λ (x : ℕ). get_or (set one v i) x 0 ≡ place_of l (exchanged rows r i) x) (sym e)
                (get_or-set_other one v u i 0 (λ q. n (e ∙ q)) ∙ get_or-set_same place u (i + 1) 0 (rw s.as_long hu)
                ∙ sym (moved_up i (place_of l rows u) (place_of l (exchanged rows r i) u) (moves l rows sound are r i hr hi u hu (row.in_layer i (omega (arith, hi)))) (stands_at i (omega (arith, hi)))))
            | inr m ↦
                get_or-set_other one v w i 0 n ∙ get_or-set_other place u w (i + 1) 0 m ∙ s.place_is w hw
                ∙ elim (cases_eq (layer_of l w) r) [
                  | inl e ↦ sym (moved_not i (place_of l rows w) (place_of l (exchanged rows r i) w) (moves l rows sound are r i hr hi w hw e) (not_at w i hw e (omega (arith, hi)) m) (not_at w (i + 1) hw e hi n))
                  | inr k ↦ sym (place_kept l rows sound are r i hr hi w k)
                ]
          ]
        ];
      }

pub state_after : (l : Plain) (rows : List (List ℕ)) (place : List ℕ) (left right : List (List Far)) (r i : ℕ) → IsState l rows place left right → r < length rows → i + 1 < length (row_at rows r)
    → IsState l (exchanged rows r i) (set (set place (get_or (row_at rows r) i 0) (i + 1)) (get_or (row_at rows r) (i + 1) 0) i) left right
state_after l rows place left right r i s hr hi =
    record {
      sound = s.sound;
      are_rows = rows_permuted l rows (exchanged rows r i) s.sound.layers_are s.are_rows (same_exchanged rows r i hr hi);
      places = placed_after l rows s.sound s.are_rows r i hr hi place s.places;
      to_left = s.to_left;
      to_right = s.to_right;
    }

-- tried one after the other
pub tried_more : (l : Plain) (a b c : List (List ℕ)) (x y : Bool) (P Q : Type 0) (R : List (List ℕ) → Type 0) → IsTried l a b x P → IsTried l b c y (R b) → (P → R a → Q) → IsTried l a c (x || y) Q
tried_more l a b c true true P Q R s t f = omega (arith, s, t)
tried_more l a b c true false P Q R s t f = let e : crossings l c ≡ crossings l b = ap (crossings l) t.0 in omega (arith, s, e)
tried_more l a b c false true P Q R s t f = let e : crossings l b ≡ crossings l a = ap (crossings l) s.0 in omega (arith, t, e)
tried_more l a b c false false P Q R s t f = (t.0 ∙ s.0, f s.1 (subst R s.0 t.1))

-- what the test of an exchange says
pub try_then : (l : Plain) (rows : List (List ℕ)) (place : List ℕ) (left right : List (List Far)) (r i : ℕ) (b : Bool) → IsState l rows place left right → r < length rows → i + 1 < length (row_at rows r)
    → b ≡ ltb (crossed_between place left right (get_or (row_at rows r) (i + 1) 0) (get_or (row_at rows r) i 0)) (crossed_between place left right (get_or (row_at rows r) i 0) (get_or (row_at rows r) (i + 1) 0))
    → b ≡ true → crossings l (exchanged rows r i) < crossings l rows
try_then l rows place left right r i b s hr hi e t =
    let law = exchange_law l rows place left right r i s hr hi in
    let less = ltb-true _ _ (sym e ∙ t) in
    omega (arith, law, less)

pub try_else : (l : Plain) (rows : List (List ℕ)) (place : List ℕ) (left right : List (List Far)) (r i : ℕ) (b : Bool) → IsState l rows place left right → r < length rows → i + 1 < length (row_at rows r)
    → b ≡ ltb (crossed_between place left right (get_or (row_at rows r) (i + 1) 0) (get_or (row_at rows r) i 0)) (crossed_between place left right (get_or (row_at rows r) i 0) (get_or (row_at rows r) (i + 1) 0))
    → b ≡ false → crossings l rows ≤ crossings l (exchanged rows r i)
try_else l rows place left right r i b s hr hi e t =
    let law = exchange_law l rows place left right r i s hr hi in
    let less = ltb-false _ _ (sym e ∙ t) in
    omega (arith, law, less)

pub tried_same : (l : Plain) (a b : List (List ℕ)) (x : Bool) (P : List (List ℕ) → Type 0) → IsTried l a b x (P a) → x ≡ false → P b
tried_same l a b true P t e = cc
tried_same l a b false P t e = subst P (sym t.0) t.1
