-- The links of a unit stand together among all links, and they are in the order of the sweep.
use Rattle.std.proofs.Common.{◌≡◌, ℕ, ◌+◌, ◌-◌, ◌*◌, ◌<◌, ◌≤◌, ◌^◌, ◌==◌, ◌&&◌, cond, nat_le, List, [], ◌∷◌, ◌++◌, append_assoc, length, map, get_or, take, drop, Bool, true, false, arith, refl, sym, ◌∙◌, ap, subst, inl, inr, eq-eqb, ne_eqb, lt-ltb, le-ltb, le-leb, eqb-true}
use Rattle.std.proofs.lemmas.Bool.{cases_eq, cases_lt, cases_Bool, lt-leb}
use Rattle.std.specs.List.{All, filter, range_with_len}
use Rattle.std.specs.List.Sorted.{IsPermutation, IsNonDecreasingBy}
use Rattle.std.proofs.lemmas.List.{get_or-map, get_or_default, length-map}
use Rattle.std.proofs.lemmas.List.FromFn.{length-range_with_len, filter_of_map_range_with_len_more}
use Rattle.std.proofs.lemmas.List.Elements.{All-get_or, All-from_get_or, All-map, All-head, All-tail, All-weaker, All-filter, filter_passes}
use Rattle.std.proofs.lemmas.List.Sorted.{All-permutation, IsPermutation-map, length_permutation}
use Rattle.drawing_types.specs.declared.sweep.Sweep.{Sweep}
use Rattle.drawing_types.specs.declared.sweep.Sweep.TheVariants.{LeftUp, LeftDown, RightUp, RightDown}
use Rattle.elk_layers.specs.Layered.{Plain, IsSound, AreRows, link_at, place_of}
use Rattle.elk_layers.specs.Alignment.{near_end, far_key, sorted_links}
use Rattle.elk_layers.specs.Occurring.{occurs}
use Rattle.elk_layers.specs.Places.{ArePlaces}
use Rattle.elk_layers.proofs.OccursLemmas.{occurs_at, occurs_range, occurs_passes, occurs_among, occurs_sorted}
use Rattle.elk_layers.proofs.RowLemmas.{place_small}
use Rattle.bk_place.specs.declared.spokes.Spoke.{Spoke}
use Rattle.bk_place.specs.Keys.{key_at, far_key_at}
use Rattle.bk_place.specs.Spokes.{spoke_of, is_at, numbers_of, AreSpokes, IsFirst, is_of}
use Rattle.bk_place.proofs.ReachLemmas.{filter_window}
use Rattle.bk_place.proofs.SortLemmas.{Ascends, weigh, ascends_unique, ascends_filter, ascends_other, ascends_sorted, ascends_from, occurs_permuted, occurs_kept, range_ascends, range_once}

abbrev pub none : Spoke
none = record { key = 0; number = 0 }

of_yes : (u : ℕ) (s : Spoke) → u * 2 ^ 80 ≤ s.key → s.key < (u + 1) * 2 ^ 80 → is_of u s ≡ true
of_yes u s a b = rw (le-leb (u * 2 ^ 80) s.key a, lt-ltb s.key ((u + 1) * 2 ^ 80) b) refl

and_no : (a : Bool) → (a && false) ≡ false
and_no true = refl
and_no false = refl

of_before : (u : ℕ) (s : Spoke) → s.key < u * 2 ^ 80 → is_of u s ≡ false
of_before u s a = rw (lt-leb (u * 2 ^ 80) s.key a) refl

of_behind : (u : ℕ) (s : Spoke) → (u + 1) * 2 ^ 80 ≤ s.key → is_of u s ≡ false
of_behind u s a = rw (le-ltb s.key ((u + 1) * 2 ^ 80) a) (and_no (nat_le (u * 2 ^ 80) s.key))

-- the links of a unit begin no later than those of the next
pub first_before : (spokes : List Spoke) (u begin end : ℕ) → IsFirst spokes u begin → IsFirst spokes (u + 1) end → begin ≤ end
first_before spokes u begin end p q =
    elim (cases_lt end begin) [
      | inl less ↦
          let a = p.before end none less in
          let b = q.behind end none (omega arith) (omega (arith, less, p.bound)) in
          absurd (omega (arith, a, b))
      | inr more ↦ more
    ]

-- the window between the first links of two units in turn holds the links of the first unit
pub fan_between : (spokes : List Spoke) (u begin end : ℕ) → IsFirst spokes u begin → IsFirst spokes (u + 1) end → take (end - begin) (drop begin spokes) ≡ filter (is_of u) spokes
fan_between spokes u begin end p q =
    sym (filter_window (is_of u) none spokes begin end (first_before spokes u begin end p q) q.bound
    (λ j h. of_before u (get_or spokes j none) (p.before j none h))
    (λ j h k. of_yes u (get_or spokes j none) (p.behind j none h (omega (arith, k, q.bound))) (q.before j none k))
    (λ j h k. of_behind u (get_or spokes j none) (q.behind j none h k)))

-- in sorted links a place is the first of a unit where all before it are of earlier units, and the one there isn't
pub first_found : (spokes : List Spoke) (u at : ℕ) (here : Spoke) → IsNonDecreasingBy (λ (s : Spoke). s.key) spokes → at < length spokes
    → ((j : ℕ) (d : Spoke) → j < at → (get_or spokes j d).key < u * 2 ^ 80) → u * 2 ^ 80 ≤ (get_or spokes at here).key → IsFirst spokes u at
first_found spokes u at here sorted h before is =
    record {
      bound = omega (arith, h);
      before = before;
      behind = λ j d from l.
          let up = sorted at j d from l in
          let same = ap (λ (s : Spoke). s.key) (get_or_default spokes at d here h) in
          omega (arith, up, same, is);
    }

-- one more of the first links is of an earlier unit
pub before_more : (spokes : List Spoke) (u at : ℕ) (here : Spoke) → at < length spokes → ((j : ℕ) (d : Spoke) → j < at → (get_or spokes j d).key < u * 2 ^ 80)
    → (get_or spokes at here).key < u * 2 ^ 80 → (j : ℕ) (d : Spoke) → j < at + 1 → (get_or spokes j d).key < u * 2 ^ 80
before_more spokes u at here h before is j d less =
    elim (cases_lt j at) [
      | inl l ↦ before j d l
      | inr more ↦
          let e : j ≡ at = omega (arith, less, more) in
          subst (λ i. (get_or spokes i d).key < u * 2 ^ 80) (sym e) (subst (λ (s : Spoke). s.key < u * 2 ^ 80) (get_or_default spokes at here d h) is)
    ]

-- what stands before a unit's links stands before those of the next
pub before_next : (spokes : List Spoke) (u at : ℕ) → IsFirst spokes u at → (j : ℕ) (d : Spoke) → j < at → (get_or spokes j d).key < (u + 1) * 2 ^ 80
before_next spokes u at is j d h = let a = is.before j d h in omega (arith, a)

-- there are as many entries as links
pub spokes_few : (l : Plain) (sweep : Sweep) (place : List ℕ) (spokes : List Spoke) → IsSound l → AreSpokes l sweep place spokes → length spokes ≤ 2 ^ 24
spokes_few l sweep place spokes sound is =
    let same = length_permutation (map (spoke_of l sweep place) (range_with_len 0 (length l.links))) spokes is.same in
    let mapped = length-map (range_with_len 0 (length l.links)) (spoke_of l sweep place) in
    let long = length-range_with_len 0 (length l.links) in
    let few = sound.few_links in
    omega (arith, same, mapped, long, few)

map_filter : {X Y : Type 0} (f : X → Y) (p : X → Bool) (q : Y → Bool) (xs : List X) → All (λ x. p x ≡ q (f x)) xs → map f (filter p xs) ≡ filter q (map f xs)
map_filter f p q [] all = refl
map_filter {X} f p q (x ∷ xs) all =
    let first : p x ≡ q (f x) = All-head (λ (x : X). p x ≡ q (f x)) x xs all in
    let rest = map_filter f p q xs (All-tail (λ (x : X). p x ≡ q (f x)) x xs all) in
    elim (cases_Bool (q (f x))) [
      | inl t ↦ rw (first, t) (ap (λ ys. f x ∷ ys) rest)
      | inr e ↦ rw (first, e) rest
    ]

module _ (l : Plain) (rows : List (List ℕ)) (sweep : Sweep) (place : List ℕ) (spokes : List Spoke) (sound : IsSound l) (are : AreRows l rows) (places : ArePlaces l rows place) (is : AreSpokes l sweep place spokes) where
  abbrev near : ℕ → ℕ
  near k = near_end sweep (link_at l.links k)

  abbrev far : ℕ → ℕ
  far k = far_key_at place sweep (link_at l.links k)

  abbrev far_row : ℕ → ℕ
  far_row k = far_key l rows sweep (link_at l.links k)

  abbrev all_numbers : List ℕ
  all_numbers = range_with_len 0 (length l.links)

  far_by : (s : Sweep) (k : ℕ) → k < length l.links → (far_key_at place s (link_at l.links k) ≡ far_key l rows s (link_at l.links k)) × (far_key_at place s (link_at l.links k) < 2 ^ 41)
  far_by s k h =
      let link = sound.links_are k h in
      let few = sound.few_units in
      let pt = places.place_is (link_at l.links k).tail link.tail in
      let ph = places.place_is (link_at l.links k).head link.head in
      let st = place_small l rows (link_at l.links k).tail sound are link.tail in
      let sh = place_small l rows (link_at l.links k).head sound are link.head in
      let rt = link.tail_rank in
      let rh = link.head_rank in
      let tail : (key_at place (link_at l.links k).tail (link_at l.links k).tail_rank ≡ place_of l rows (link_at l.links k).tail * 65536 + (link_at l.links k).tail_rank) × (key_at place (link_at l.links k).tail (link_at l.links k).tail_rank < 2 ^ 41) =
      (ap (λ p. p * 65536 + (link_at l.links k).tail_rank) pt, omega (arith, pt, st, few, rt)) in
      let head : (key_at place (link_at l.links k).head (link_at l.links k).head_rank ≡ place_of l rows (link_at l.links k).head * 65536 + (link_at l.links k).head_rank) × (key_at place (link_at l.links k).head (link_at l.links k).head_rank < 2 ^ 41) =
      (ap (λ p. p * 65536 + (link_at l.links k).head_rank) ph, omega (arith, ph, sh, few, rh)) in
      by_side s tail head
    where
      by_side : (s : Sweep)
          → (key_at place (link_at l.links k).tail (link_at l.links k).tail_rank ≡ place_of l rows (link_at l.links k).tail * 65536 + (link_at l.links k).tail_rank) × (key_at place (link_at l.links k).tail (link_at l.links k).tail_rank < 2 ^ 41)
          → (key_at place (link_at l.links k).head (link_at l.links k).head_rank ≡ place_of l rows (link_at l.links k).head * 65536 + (link_at l.links k).head_rank) × (key_at place (link_at l.links k).head (link_at l.links k).head_rank < 2 ^ 41)
          → (far_key_at place s (link_at l.links k) ≡ far_key l rows s (link_at l.links k)) × (far_key_at place s (link_at l.links k) < 2 ^ 41)
      by_side LeftUp t h = t
      by_side LeftDown t h = t
      by_side RightUp t h = h
      by_side RightDown t h = h

  -- each entry is a link's
  record IsLinks (s : Spoke) : Type 0 where
    known : s.number < length l.links
    key_is : s.key ≡ near s.number * 2 ^ 80 + (far s.number * 2 ^ 32 + s.number)

  all_links : All IsLinks spokes
  all_links =
      All-permutation IsLinks (map (spoke_of l sweep place) all_numbers) spokes is.same
      (All-map IsLinks (spoke_of l sweep place) all_numbers
      (All-from_get_or (λ k. IsLinks (spoke_of l sweep place k)) all_numbers 0
      (λ i h. record { known = let k = occurs_range 0 (length l.links) (get_or all_numbers i 0) (occurs_at all_numbers i h) in omega (arith, k); key_is = refl })))

  entry_below : (s : Spoke) → IsLinks s → (far s.number * 2 ^ 32 + s.number) < 2 ^ 80
  entry_below s t = let b = (far_by sweep s.number t.known).1 in let k = t.known in let few = sound.few_links in omega (arith, b, k, few)

  of_unit : (u : ℕ) (s : Spoke) → IsLinks s → is_of u s ≡ (near s.number == u)
  of_unit u s t =
      let key = t.key_is in
      let small = entry_below s t in
      elim (cases_eq (near s.number) u) [
        | inl e ↦ of_yes u s (omega (arith, key, e)) (omega (arith, key, e, small)) ∙ sym (eq-eqb (near s.number) u e)
        | inr ne ↦ elim (cases_lt (near s.number) u) [
          | inl less ↦ of_before u s (omega (arith, key, small, less)) ∙ sym (ne_eqb (near s.number) u ne)
          | inr more ↦ of_behind u s (omega (arith, key, more, ne)) ∙ sym (ne_eqb (near s.number) u ne)
        ]
      ]

  pub numbers_known : All (λ k. k < length l.links) (numbers_of spokes)
  numbers_known = All-map (λ k. k < length l.links) (λ (s : Spoke). s.number) spokes (All-weaker IsLinks (λ s. s.number < length l.links) (λ s t. t.known) spokes all_links)

  numbers_kept : (u : ℕ) → numbers_of (filter (is_of u) spokes) ≡ filter (λ k. near k == u) (numbers_of spokes)
  numbers_kept u = map_filter (λ (s : Spoke). s.number) (is_of u) (λ k. near k == u) spokes (All-weaker IsLinks (λ s. is_of u s ≡ (near s.number == u)) (of_unit u) spokes all_links)

  -- only links stand in a unit's fan
  pub fan_known : (u : ℕ) → All (λ k. k < length l.links) (numbers_of (filter (is_of u) spokes))
  fan_known u = subst (All (λ k. k < length l.links)) (sym (numbers_kept u)) (All-filter (λ k. near k == u) (λ k. k < length l.links) (numbers_of spokes) numbers_known)

  numbers_back : (xs : List ℕ) → map (λ (s : Spoke). s.number) (map (spoke_of l sweep place) xs) ≡ xs
  numbers_back [] = refl
  numbers_back (x ∷ xs) = ap (λ ys. x ∷ ys) (numbers_back xs)

  numbers_permuted : IsPermutation all_numbers (numbers_of spokes)
  numbers_permuted = subst (λ xs. IsPermutation xs (numbers_of spokes)) (numbers_back all_numbers) (IsPermutation-map (λ (s : Spoke). s.number) (map (spoke_of l sweep place) all_numbers) spokes is.same)

  numbers_occur : (n : ℕ) → occurs n (numbers_of spokes) ≡ occurs n all_numbers
  numbers_occur n = occurs_permuted n all_numbers (numbers_of spokes) numbers_permuted

  number_below : (n : ℕ) → 1 ≤ occurs n (numbers_of spokes) → n < length l.links
  number_below n h = let e = numbers_occur n in let r = occurs_range 0 (length l.links) n (omega (arith, e, h)) in omega (arith, r)

  abbrev whole_key : ℕ → ℕ
  whole_key k = near k * 2 ^ 80 + (far k * 2 ^ 32 + k)

  keys_differ : (m n : ℕ) → m < length l.links → n < length l.links → whole_key m ≡ whole_key n → m ≡ n
  keys_differ m n hm hn e =
      let bm = (far_by sweep m hm).1 in
      let bn = (far_by sweep n hn).1 in
      let few = sound.few_links in
      let same_near : near m ≡ near n = omega (arith, e, bm, bn, hm, hn, few) in
      let same_far : far m ≡ far n = omega (arith, e, same_near, hm, hn, few) in
      omega (arith, e, same_near, same_far)

  number_at : (i : ℕ) → i < length spokes → (get_or (numbers_of spokes) i 0 ≡ (get_or spokes i none).number) × (whole_key (get_or (numbers_of spokes) i 0) ≡ (get_or spokes i none).key)
  number_at i h =
      let at : get_or (numbers_of spokes) i 0 ≡ (get_or spokes i none).number = get_or-map (λ (s : Spoke). s.number) spokes i none 0 h in
      (at, ap whole_key at ∙ sym (All-get_or IsLinks spokes i none h all_links).key_is)

  all_ascend : Ascends whole_key (numbers_of spokes)
  all_ascend =
      let long = length-map spokes (λ (s : Spoke). s.number) in
      ascends_from whole_key (numbers_of spokes)
      (λ n. let e = numbers_occur n in let o = range_once 0 (length l.links) n in omega (arith, e, o))
      (λ m n hm hn e. keys_differ m n (number_below m hm) (number_below n hn) e)
      (λ i j less h.
      let hj : j < length spokes = omega (arith, h, long) in
      let a = (number_at i (omega (arith, less, hj))).1 in
      let b = (number_at j hj).1 in
      let up = is.sorted i j none less hj in
      omega (arith, a, b, up))

  kept_ascend : (u : ℕ) → Ascends (weigh far_row) (filter (λ k. near k == u) (numbers_of spokes))
  kept_ascend u =
      ascends_other whole_key (weigh far_row) (filter (λ k. near k == u) (numbers_of spokes))
      (λ m n hm hn less.
      let nm : near m ≡ u = eqb-true (near m) u (occurs_passes (λ k. near k == u) (numbers_of spokes) m hm) in
      let nn : near n ≡ u = eqb-true (near n) u (occurs_passes (λ k. near k == u) (numbers_of spokes) n hn) in
      let fm = occurs_among (λ k. near k == u) (numbers_of spokes) m in
      let fn = occurs_among (λ k. near k == u) (numbers_of spokes) n in
      let em = (far_by sweep m (number_below m (omega (arith, hm, fm)))).0 in
      let en = (far_by sweep n (number_below n (omega (arith, hn, fn)))).0 in
      omega (arith, nm, nn, em, en, less))
      (ascends_filter whole_key (λ k. near k == u) (numbers_of spokes) all_ascend)

  sorted_ascend : (u : ℕ) → Ascends (weigh far_row) (sorted_links l rows sweep u)
  sorted_ascend u =
      ascends_sorted far_row (filter (λ k. near k == u) all_numbers)
      (ascends_filter (λ k. k) (λ k. near k == u) all_numbers (range_ascends 0 (length l.links)))
      (λ n h. let few = occurs_among (λ k. near k == u) all_numbers n in let r = occurs_range 0 (length l.links) n (omega (arith, h, few)) in let q = sound.few_links in omega (arith, r, q))

  same_occurs : (u n : ℕ) → occurs n (filter (λ k. near k == u) (numbers_of spokes)) ≡ occurs n (sorted_links l rows sweep u)
  same_occurs u n =
      occurs_kept (λ k. near k == u) (numbers_of spokes) n
      ∙ ap (λ m. cond (near n == u) m 0) (numbers_occur n)
      ∙ sym (occurs_kept (λ k. near k == u) all_numbers n)
      ∙ sym (occurs_sorted (λ j k. nat_le (far_row j) (far_row k)) (filter (λ k. near k == u) all_numbers) n)

  -- a unit's fan is the list of its links by the keys of their far ends
  pub fan_sorted : (u : ℕ) → numbers_of (filter (is_of u) spokes) ≡ sorted_links l rows sweep u
  fan_sorted u =
      numbers_kept u
      ∙ ascends_unique (weigh far_row) (filter (λ k. near k == u) (numbers_of spokes)) (sorted_links l rows sweep u) (kept_ascend u) (sorted_ascend u) (same_occurs u)

  -- the links of a fan are known, and their near end is the unit
  pub fan_links : (u : ℕ) → All (λ k. (k < length l.links) × (near_end sweep (link_at l.links k) ≡ u)) (sorted_links l rows sweep u)
  fan_links u =
      subst (All (λ k. (k < length l.links) × (near_end sweep (link_at l.links k) ≡ u))) (sym (numbers_kept u) ∙ fan_sorted u)
      (λ i d h. (All-filter (λ k. near k == u) (λ k. k < length l.links) (numbers_of spokes) numbers_known i d h, eqb-true (near (get_or (filter (λ k. near k == u) (numbers_of spokes)) i d)) u (filter_passes (λ k. near k == u) (numbers_of spokes) i d h)))

-- one more link is looked at
pub spokes_more : (l : Plain) (sweep : Sweep) (place : List ℕ) (lanes : Bool) (start now new : List Spoke) (k : ℕ)
    → now ≡ start ++ filter (is_at l sweep lanes) (map (spoke_of l sweep place) (range_with_len 0 k))
    → new ≡ now ++ cond (is_at l sweep lanes (spoke_of l sweep place k)) (spoke_of l sweep place k ∷ []) []
    → new ≡ start ++ filter (is_at l sweep lanes) (map (spoke_of l sweep place) (range_with_len 0 (k + 1)))
spokes_more l sweep place lanes start now new k so more =
    rw (more, so, filter_of_map_range_with_len_more (is_at l sweep lanes) (spoke_of l sweep place) 0 k k (omega arith))
    (append_assoc start (filter (is_at l sweep lanes) (map (spoke_of l sweep place) (range_with_len 0 k))) (cond (is_at l sweep lanes (spoke_of l sweep place k)) (spoke_of l sweep place k ∷ []) []))
