-- Crossings and sweeps read only the layers of units, and the ends and ranks of links: orders that reduce crossings do so for
-- all units and links that have these.
use Rattle.std.proofs.Common.{◌≡◌, ℕ, zero, suc, ◌+◌, ◌-◌, ◌<◌, ◌≤◌, ◌*◌, ◌==◌, cond, Bool, true, false, not, ◌&&◌, ◌||◌, List, [], ◌∷◌, length, get_or, reverse, refl, sym, subst, ap, ap₂, ◌∙◌, ⊎_elim, inl, inr, arith, map, ℤ, Option}
use Rattle.std.proofs.lemmas.Bool.{cases_Bool}
use Rattle.std.proofs.lemmas.List.Elements.{All-weaker}
use Rattle.std.proofs.lemmas.List.Sums.{sum_by-cons}
use Rattle.std.specs.Prelude.{nat_lt, if◌then◌else◌, option_and_then}
use Rattle.std.specs.List.{All, count_by, filter, sum_by}
use Rattle.elk_layers.specs.declared.units.Link.{Link}
use Rattle.elk_layers.specs.declared.units.Unit.{Unit as LayerUnit}
use Rattle.elk_layers.specs.Layered.{Plain, gap_of, head_key, layer_of, link_at, place_in, place_of, row_at, tail_key, unit_at}
use Rattle.elk_layers.specs.Crossings.{cross, crossings, crossings_among, exchanged, NoBetterSwap}
use Rattle.elk_layers.specs.Sweeps.{Ends, backward_sweep, far_count, far_sum, forward_sweep, has_links, insert_by, mean_le, ordered, refilled, sorted_by, sweep_orders, swept, swept_after, to_left, to_right}
use Rattle.cross_reduce.specs.Reduced.{after_pair, after_pairs, after_row, after_rows, again, at_rest, AtMostOf, FewerThan, IsExchangedFromFewest, IsFirstOfFewest, IsReduced, SettlesTo}
use Rattle.cross_reduce.specs.Held.{NoBetterFreeSwap}
use Rattle.layer_units.specs.Fitted.{AreKept}
use Rattle.level_choices.specs.Choices.{order_of}
use Rattle.level_model.specs.Level.{PlainLevel}
use Rattle.level_layout.specs.Chosen.{AreChosenRows, IsHeldOrder, held_keys, key_for}

-- two links with the same ends and ranks
pub record SameEnds (x y : Link) : Type 0 where
  pub tail_is : y.tail ≡ x.tail
  pub head_is : y.head ≡ x.head
  pub tail_rank_is : y.tail_rank ≡ x.tail_rank
  pub head_rank_is : y.head_rank ≡ x.head_rank

abbrev AreSame : List Link → List Link → Type 0
AreSame xs ys = (length ys ≡ length xs) × ((k : ℕ) → SameEnds (link_at xs k) (link_at ys k))

rest_same : (x y : Link) (xs ys : List Link) → AreSame (x ∷ xs) (y ∷ ys) → AreSame xs ys
rest_same x y xs ys h = let many = h.0 in (omega (arith, many), λ k. h.1 (suc k))

-- ---- units of the same children

-- have the same keys
keys_same : (f : Option ℕ → Option ℤ) (xs ys : List LayerUnit) → length ys ≡ length xs → ((u : ℕ) → (unit_at ys u).child ≡ (unit_at xs u).child)
    → map (λ (x : LayerUnit). f x.child) xs ≡ map (λ (x : LayerUnit). f x.child) ys
keys_same f [] [] many same = refl
keys_same f [] (y ∷ ys) many same = absurd (omega (arith, many))
keys_same f (x ∷ xs) [] many same = absurd (omega (arith, many))
keys_same f (x ∷ xs) (y ∷ ys) many same =
    ap₂ (λ k ks. k ∷ ks) (ap f (sym (same 0))) (keys_same f xs ys (omega (arith, many)) (λ u. same (suc u)))

-- ---- lists by tests that agree

pub filter_equal : (p q : ℕ → Bool) → ((u : ℕ) → p u ≡ q u) → (us : List ℕ) → filter p us ≡ filter q us
filter_equal p q h [] = refl
filter_equal p q h (u ∷ us) =
    ap (λ (b : Bool). cond b (u ∷ filter p us) (filter p us)) (h u) ∙ ap (λ (vs : List ℕ). cond (q u) (u ∷ vs) vs) (filter_equal p q h us)

insert_equal : (f g : ℕ → ℕ → Bool) → ((u v : ℕ) → f u v ≡ g u v) → (u : ℕ) (us : List ℕ) → insert_by f u us ≡ insert_by g u us
insert_equal f g h u [] = refl
insert_equal f g h u (v ∷ us) =
    ap (λ (b : Bool). cond b (u ∷ v ∷ us) (v ∷ insert_by f u us)) (h u v) ∙ ap (λ (vs : List ℕ). cond (g u v) (u ∷ v ∷ us) (v ∷ vs)) (insert_equal f g h u us)

sorted_equal : (f g : ℕ → ℕ → Bool) → ((u v : ℕ) → f u v ≡ g u v) → (us : List ℕ) → sorted_by f us ≡ sorted_by g us
sorted_equal f g h [] = refl
sorted_equal f g h (u ∷ us) = insert_equal f g h u (sorted_by f us) ∙ ap (insert_by g u) (sorted_equal f g h us)

refilled_equal : (p q : ℕ → Bool) → ((u : ℕ) → p u ≡ q u) → (row from : List ℕ) → refilled p row from ≡ refilled q row from
refilled_equal p q h [] from = refl
refilled_equal p q h (u ∷ row) [] = refl
refilled_equal p q h (u ∷ row) (m ∷ from) =
    ap (λ (b : Bool). cond b (m ∷ refilled p row from) (u ∷ refilled p row (m ∷ from))) (h u)
    ∙ ap₂ (λ (us vs : List ℕ). cond (q u) (m ∷ us) (u ∷ vs)) (refilled_equal p q h row from) (refilled_equal p q h row (m ∷ from))

-- ---- counts and sums over links that are the same

abbrev one_if : (Link → Bool) → Link → ℕ
one_if p x = cond (p x) 1 0

count_equal : (p q : Link → Bool) → ((x y : Link) → SameEnds x y → p x ≡ q y) → (xs ys : List Link) → AreSame xs ys → count_by p xs ≡ count_by q ys
count_equal p q h [] [] s = refl
count_equal p q h [] (y ∷ ys) s = absurd (let many = s.0 in omega (arith, many))
count_equal p q h (x ∷ xs) [] s = absurd (let many = s.0 in omega (arith, many))
count_equal p q h (x ∷ xs) (y ∷ ys) s =
    sum_by-cons (one_if p) x xs
    ∙ ap₂ (λ (a b : ℕ). a + b) (ap (λ (b : Bool). cond b 1 0) (h x y (s.1 0))) (count_equal p q h xs ys (rest_same x y xs ys s))
    ∙ sym (sum_by-cons (one_if q) y ys)

sum_equal : (p q : Link → Bool) (f g : Link → ℕ) → ((x y : Link) → SameEnds x y → p x ≡ q y) → ((x y : Link) → SameEnds x y → f x ≡ g y) → (xs ys : List Link) → AreSame xs ys
    → sum_by f (filter p xs) ≡ sum_by g (filter q ys)
sum_equal p q f g h k [] [] s = refl
sum_equal p q f g h k [] (y ∷ ys) s = absurd (let many = s.0 in omega (arith, many))
sum_equal p q f g h k (x ∷ xs) [] s = absurd (let many = s.0 in omega (arith, many))
sum_equal p q f g h k (x ∷ xs) (y ∷ ys) s =
    let rest = sum_equal p q f g h k xs ys (rest_same x y xs ys s) in
    let here = h x y (s.1 0) in
    ⊎_elim
    (λ t. let u : q y ≡ true = sym here ∙ t in rw t (rw u (sum_by-cons f x (filter p xs) ∙ ap₂ (λ (a b : ℕ). a + b) (k x y (s.1 0)) rest ∙ sym (sum_by-cons g y (filter q ys)))))
    (λ n. let u : q y ≡ false = sym here ∙ n in rw n (rw u rest))
    (cases_Bool (p x))

-- ---- crossings

module _ (a b : Plain) (kept : AreKept a b) where
  same_links : AreSame a.links b.links
  same_links =
      (kept.alike.as_many_links, λ k. record { tail_is = kept.alike.tail_is k; head_is = kept.alike.head_is k; tail_rank_is = kept.tail_rank_is k; head_rank_is = kept.head_rank_is k })

  same_layer : (u v : ℕ) → v ≡ u → layer_of a u ≡ layer_of b v
  same_layer u v e = sym (kept.alike.layer_is u) ∙ ap (layer_of b) (sym e)

  same_place : (rows : List (List ℕ)) (u v : ℕ) → v ≡ u → place_of a rows u ≡ place_of b rows v
  same_place rows u v e = ap (λ n. place_of_in n u) (same_layer u v e) ∙ ap (λ n. place_of_in (layer_of b v) n) (sym e)
    where
      place_of_in : ℕ → ℕ → ℕ
      place_of_in n u = place_in (row_at rows n) u

  same_gap : (x y : Link) → SameEnds x y → gap_of a x ≡ gap_of b y
  same_gap x y s = same_layer x.tail y.tail s.tail_is

  same_tail_key : (rows : List (List ℕ)) (x y : Link) → SameEnds x y → tail_key a rows x ≡ tail_key b rows y
  same_tail_key rows x y s = ap₂ (λ (m n : ℕ). m * 65536 + n) (same_place rows x.tail y.tail s.tail_is) (sym s.tail_rank_is)

  same_head_key : (rows : List (List ℕ)) (x y : Link) → SameEnds x y → head_key a rows x ≡ head_key b rows y
  same_head_key rows x y s = ap₂ (λ (m n : ℕ). m * 65536 + n) (same_place rows x.head y.head s.head_is) (sym s.head_rank_is)

  abbrev cross_of : ℕ → ℕ → ℕ → ℕ → ℕ → ℕ → Bool
  cross_of g h s t m n = (g == h) && ((nat_lt s t && nat_lt n m) || (nat_lt t s && nat_lt m n))

  same_cross : (rows : List (List ℕ)) (x y v w : Link) → SameEnds x y → SameEnds v w → cross a rows x v ≡ cross b rows y w
  same_cross rows x y v w s t =
      ap₂ (λ g h. cross_of g h (tail_key a rows x) (tail_key a rows v) (head_key a rows x) (head_key a rows v)) (same_gap x y s) (same_gap v w t)
      ∙ ap₂ (λ g h. cross_of (gap_of b y) (gap_of b w) g h (head_key a rows x) (head_key a rows v)) (same_tail_key rows x y s) (same_tail_key rows v w t)
      ∙ ap₂ (λ g h. cross_of (gap_of b y) (gap_of b w) (tail_key b rows y) (tail_key b rows w) g h) (same_head_key rows x y s) (same_head_key rows v w t)

  same_among : (rows : List (List ℕ)) (xs ys : List Link) → AreSame xs ys → crossings_among a rows xs ≡ crossings_among b rows ys
  same_among rows [] [] s = refl
  same_among rows [] (y ∷ ys) s = absurd (let many = s.0 in omega (arith, many))
  same_among rows (x ∷ xs) [] s = absurd (let many = s.0 in omega (arith, many))
  same_among rows (x ∷ xs) (y ∷ ys) s =
      ap₂ (λ (m n : ℕ). m + n)
      (count_equal (cross a rows x) (cross b rows y) (λ v w t. same_cross rows x y v w (s.1 0) t) xs ys (rest_same x y xs ys s))
      (same_among rows xs ys (rest_same x y xs ys s))

  pub same_crossings : (rows : List (List ℕ)) → crossings a rows ≡ crossings b rows
  same_crossings rows = same_among rows a.links b.links same_links

-- ---- sweeps

-- the ends of links that are the same are the same
abbrev ReadsEnds : Ends → Type 0
ReadsEnds ends = (x y : Link) → SameEnds x y → (ends.near x ≡ ends.near y) × (ends.far x ≡ ends.far y)

module _ (ends : Ends) (reads : ReadsEnds ends) (xs ys : List Link) (same : AreSame xs ys) where
  near_same : (u : ℕ) (x y : Link) → SameEnds x y → (ends.near x == u) ≡ (ends.near y == u)
  near_same u x y s = ap (λ n. n == u) (reads x y s).0

  same_count : (u : ℕ) → far_count ends xs u ≡ far_count ends ys u
  same_count u = count_equal (λ x. ends.near x == u) (λ x. ends.near x == u) (near_same u) xs ys same

  same_has : (u : ℕ) → has_links ends xs u ≡ has_links ends ys u
  same_has u = ap (λ n. not (n == 0)) (same_count u)

  same_sum : (fixed : List ℕ) (u : ℕ) → far_sum ends xs fixed u ≡ far_sum ends ys fixed u
  same_sum fixed u =
      sum_equal (λ x. ends.near x == u) (λ x. ends.near x == u) (λ x. place_in fixed (ends.far x)) (λ x. place_in fixed (ends.far x))
      (near_same u) (λ x y s. ap (place_in fixed) (reads x y s).1) xs ys same

  same_mean : (fixed : List ℕ) (u v : ℕ) → mean_le ends xs fixed u v ≡ mean_le ends ys fixed u v
  same_mean fixed u v = rw (same_sum fixed u, same_sum fixed v, same_count u, same_count v) refl

  same_ordered : (fixed row : List ℕ) → ordered ends xs fixed row ≡ ordered ends ys fixed row
  same_ordered fixed row =
      refilled_equal (has_links ends xs) (has_links ends ys) same_has row _
      ∙ ap (refilled (has_links ends ys) row)
      (sorted_equal (mean_le ends xs fixed) (mean_le ends ys fixed) (same_mean fixed) (filter (has_links ends xs) row)
      ∙ ap (sorted_by (mean_le ends ys fixed)) (filter_equal (has_links ends xs) (has_links ends ys) same_has row))

  same_after : (fixed : List ℕ) (rows : List (List ℕ)) → swept_after ends xs fixed rows ≡ swept_after ends ys fixed rows
  same_after fixed [] = refl
  same_after fixed (row ∷ rows) =
      ap (λ r. r ∷ swept_after ends xs r rows) (same_ordered fixed row)
      ∙ ap (λ rs. ordered ends ys fixed row ∷ rs) (same_after (ordered ends ys fixed row) rows)

  pub same_swept : (rows : List (List ℕ)) → swept ends xs rows ≡ swept ends ys rows
  same_swept [] = refl
  same_swept (row ∷ rows) = ap (λ rs. row ∷ rs) (same_after row rows)

reads_left : ReadsEnds to_left
reads_left x y s = (sym s.head_is, sym s.tail_is)

reads_right : ReadsEnds to_right
reads_right x y s = (sym s.tail_is, sym s.head_is)

module _ (a b : Plain) (kept : AreKept a b) where
  forward_same : (rows : List (List ℕ)) → forward_sweep a rows ≡ forward_sweep b rows
  forward_same rows = same_swept to_left reads_left a.links b.links (same_links a b kept) rows

  backward_same : (rows : List (List ℕ)) → backward_sweep a rows ≡ backward_sweep b rows
  backward_same rows = ap reverse (same_swept to_right reads_right a.links b.links (same_links a b kept) (reverse rows))

  orders_same : (start : List (List ℕ)) → sweep_orders a start ≡ sweep_orders b start
  orders_same start =
      rw (
        forward_same start,
        backward_same (forward_sweep b start),
        forward_same (backward_sweep b (forward_sweep b start)),
        backward_same (forward_sweep b (backward_sweep b (forward_sweep b start))),
      ) refl

  fewer_same : (rows : List (List ℕ)) (others : List (List (List ℕ))) → FewerThan a rows others → FewerThan b rows others
  fewer_same rows others h =
      let here = same_crossings a b kept rows in
      All-weaker (λ (o : List (List ℕ)). crossings a rows < crossings a o) (λ (o : List (List ℕ)). crossings b rows < crossings b o)
      (λ o k. let there = same_crossings a b kept o in omega (arith, here, there, k)) others h

  most_same : (rows : List (List ℕ)) (others : List (List (List ℕ))) → AtMostOf a rows others → AtMostOf b rows others
  most_same rows others h =
      let here = same_crossings a b kept rows in
      All-weaker (λ (o : List (List ℕ)). crossings a rows ≤ crossings a o) (λ (o : List (List ℕ)). crossings b rows ≤ crossings b o)
      (λ o k. let there = same_crossings a b kept o in omega (arith, here, there, k)) others h

  first_same : (orders : List (List (List ℕ))) (rows : List (List ℕ)) → IsFirstOfFewest a orders rows → IsFirstOfFewest b orders rows
  first_same orders rows s =
      record { before = s.before; behind = s.behind; splits = s.splits; fewer = fewer_same rows s.before s.fewer; at_most = most_same rows s.behind s.at_most }

  settled_same : (rows : List (List ℕ)) → NoBetterSwap a rows → NoBetterSwap b rows
  settled_same rows settled n i h k =
      let here = same_crossings a b kept rows in
      let after = same_crossings a b kept (exchanged rows n i) in
      let less = settled n i h k in
      omega (arith, here, after, less)

  pair_same : (rows : List (List ℕ)) (r i : ℕ) → after_pair a rows r i ≡ after_pair b rows r i
  pair_same rows r i =
      ap₂ (λ (m n : ℕ). if nat_lt m n then exchanged rows r i else rows) (same_crossings a b kept (exchanged rows r i)) (same_crossings a b kept rows)

  pairs_same : (rows : List (List ℕ)) (r n : ℕ) → after_pairs a rows r n ≡ after_pairs b rows r n
  pairs_same rows r zero = refl
  pairs_same rows r (suc n) = pair_same (after_pairs a rows r n) r n ∙ ap (λ x. after_pair b x r n) (pairs_same rows r n)

  rows_same : (rows : List (List ℕ)) (n : ℕ) → after_rows a rows n ≡ after_rows b rows n
  rows_same rows zero = refl
  rows_same rows (suc n) =
      pairs_same (after_rows a rows n) n (length (row_at (after_rows a rows n) n) - 1) ∙ ap (λ x. after_row b x n) (rows_same rows n)

  settles_same : (xs ys : List (List ℕ)) → SettlesTo a xs ys → SettlesTo b xs ys
  settles_same xs ys (at_rest _ none) = at_rest xs (settled_same xs none)
  settles_same xs ys (again _ _ rest) =
      again xs ys (subst (λ z. SettlesTo b z ys) (rows_same xs (length xs)) (settles_same (after_rows a xs (length xs)) ys rest))

  from_fewest_same : (start rows : List (List ℕ)) → IsExchangedFromFewest a start rows → IsExchangedFromFewest b start rows
  from_fewest_same start rows s =
      let from = s.from_fewest in
      let here = same_crossings a b kept rows in
      let there = same_crossings a b kept s.reached in
      record {
        reached = s.reached;
        from_fewest = record {
          from = from.from;
          first = subst (λ (xs : List (List (List ℕ))). IsFirstOfFewest b (start ∷ xs) from.from) (orders_same start) (first_same (start ∷ sweep_orders a start) from.from from.first);
          settles = settles_same from.from s.reached from.settles;
        };
        kept_or_fewer = elim s.kept_or_fewer [
          | inl e ↦ inl e
          | inr less ↦ inr (omega (arith, here, there, less))
        ];
      }

  pub reduced_for : (start rows : List (List ℕ)) → IsReduced a start rows → IsReduced b start rows
  reduced_for start rows r =
      let here = same_crossings a b kept rows in
      let there = same_crossings a b kept start in
      let fewer = r.no_more in
      record {
        same_rows = r.same_rows;
        no_more = omega (arith, here, there, fewer);
        sweeps = subst (All (λ swept. crossings b rows ≤ crossings b swept)) (orders_same start)
            (λ k e less. at_most here (same_crossings a b kept (get_or (sweep_orders a start) k e)) (r.sweeps k e less));
        settled = settled_same rows r.settled;
        from_fewest = from_fewest_same start rows r.from_fewest;
        without_crossings = λ none. r.without_crossings (there ∙ none);
      }
    where
      at_most : {m n p q : ℕ} → m ≡ n → p ≡ q → m ≤ p → n ≤ q
      at_most e f h = omega (arith, e, f, h)

  free_same : (held : List (Option ℤ)) (rows : List (List ℕ)) → NoBetterFreeSwap a held rows → NoBetterFreeSwap b held rows
  free_same held rows settled n i h k free =
      let here = same_crossings a b kept rows in
      let after = same_crossings a b kept (exchanged rows n i) in
      let less = settled n i h k free in
      omega (arith, here, after, less)

  held_for : (level : PlainLevel) (start rows : List (List ℕ)) → IsHeldOrder a (held_keys level a) start rows → IsHeldOrder b (held_keys level b) start rows
  held_for level start rows h =
      subst (λ (held : List (Option ℤ)). IsHeldOrder b held start rows)
      (keys_same (option_and_then (key_for (order_of level.choices) level)) a.units b.units kept.alike.as_many_units kept.alike.child_is)
      (record { same_rows = h.same_rows; ascends = h.ascends; settled = free_same (held_keys level a) rows h.settled })

  pub chosen_for : (level : PlainLevel) (start rows : List (List ℕ)) → AreChosenRows level a start rows → AreChosenRows level b start rows
  chosen_for level start rows r =
      record {
        swept = λ e. reduced_for start rows (r.swept e);
        document = λ e. held_for level start rows (r.document e);
        kept = λ e. held_for level start rows (r.kept e);
      }
