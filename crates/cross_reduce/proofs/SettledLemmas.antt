-- Where no exchange in a row lowers the crossings, none does as long as that row and those beside it stay.
use Rattle.std.proofs.Common.{◌≡◌, ◌≢◌, ℕ, ◌+◌, ◌-◌, ◌*◌, ◌<◌, List, [], length, get_or, set, replicate, cond, Bool, true, false, refl, arith, sym, ◌∙◌, ap, subst, inl, inr, Option, ℤ, IsFalse}
use Rattle.std.proofs.lemmas.Bool.{cases_eq, cases_lt, ne_eqb, both_ways}
use Rattle.std.specs.List.{swap, All}
use Rattle.std.proofs.lemmas.List.{get_or-set_same, get_or-set_other, get_or-replicate, get_or_past, length-replicate, length-set}
use Rattle.std.proofs.lemmas.List.Elements.{All-weaker}
use Rattle.elk_layers.specs.declared.units.Link.{Link}
use Rattle.elk_layers.specs.Layered.{Plain, IsSound, IsSoundLink, AreRows, row_at, layer_of, place_in, place_of}
use Rattle.elk_layers.specs.Crossings.{exchanged}
use Rattle.cross_reduce.specs.Exchanges.{IsTried, KeepsOthers, unsettled}
use Rattle.cross_reduce.specs.Held.{are_both_held, NoneFreeInRow, AreSettled}
use Rattle.cross_reduce.proofs.Sums.{double, quad}
use Rattle.cross_reduce.proofs.PairLemmas.{left_pair, right_pair, exchange_changes, upper_layer, lower_layer}
use Rattle.cross_reduce.proofs.CrossingLemmas.{crossings_are}
use Rattle.cross_reduce.proofs.PlaceLemmas.{links_sound}

pub others_exchanged : (rows : List (List ℕ)) (r i : ℕ) → KeepsOthers rows (exchanged rows r i) r
others_exchanged rows r i g n = get_or-set_other rows r g (swap (row_at rows r) i (i + 1)) [] n

double_same : {X : Type 0} (f g : X → X → ℕ) (xs : List X) → All (λ a. All (λ b. f b a ≡ g b a) xs) xs → double f xs ≡ double g xs
double_same {X} f g xs all =
    let twice = quad f f f g xs (All-weaker (λ a. All (λ b. f b a ≡ g b a) xs) (λ a. All (λ b. f b a + f b a ≡ f b a + g b a) xs)
    (λ a. All-weaker (λ b. f b a ≡ g b a) (λ b. f b a + f b a ≡ f b a + g b a) (λ b e. ap (λ n. f b a + n) e) xs) xs all) in
    omega (arith, twice)

module _ (l : Plain) (rows rows' : List (List ℕ)) (r s : ℕ) (sound : IsSound l) (keeps : KeepsOthers rows rows' r) where
  key_stays : (w m : ℕ) → layer_of l w ≢ r → place_of l rows' w * 65536 + m ≡ place_of l rows w * 65536 + m
  key_stays w m n = ap (λ (row : List ℕ). place_in row w * 65536 + m) (keeps (layer_of l w) n)

  left_stays : (u v : ℕ) → layer_of l u ≡ s → layer_of l v ≡ s → s ≢ r + 1 → (b a : Link) → IsSoundLink l b → IsSoundLink l a → left_pair l rows' u v b a ≡ left_pair l rows u v b a
  left_stays u v eu ev apart b a sb sa =
      elim (cases_eq b.head v) [
        | inl e ↦ elim (cases_eq a.head u) [
          | inl k ↦
              let at_b = ap (layer_of l) e in
              let at_a = ap (layer_of l) k in
              let next_b = sb.next_layer in
              let next_a = sa.next_layer in
              rw (
                key_stays b.tail b.tail_rank (λ q. apart (omega (arith, at_b, next_b, ev, q))),
                key_stays a.tail a.tail_rank (λ q. apart (omega (arith, at_a, next_a, eu, q))),
              ) refl
          | inr n ↦ rw (ne_eqb a.head u n) refl
        ]
        | inr n ↦ rw (ne_eqb b.head v n) refl
      ]

  right_stays : (u v : ℕ) → layer_of l u ≡ s → layer_of l v ≡ s → s + 1 ≢ r → (b a : Link) → IsSoundLink l b → IsSoundLink l a → right_pair l rows' u v b a ≡ right_pair l rows u v b a
  right_stays u v eu ev apart b a sb sa =
      elim (cases_eq a.tail v) [
        | inl e ↦ elim (cases_eq b.tail u) [
          | inl k ↦
              let at_a = ap (layer_of l) e in
              let at_b = ap (layer_of l) k in
              let next_b = sb.next_layer in
              let next_a = sa.next_layer in
              rw (
                key_stays a.head a.head_rank (λ q. apart (omega (arith, at_a, next_a, ev, q))),
                key_stays b.head b.head_rank (λ q. apart (omega (arith, at_b, next_b, eu, q))),
              ) refl
          | inr n ↦ rw (ne_eqb b.tail u n) refl
        ]
        | inr n ↦ rw (ne_eqb a.tail v n) refl
      ]

  all_left : (u v u' v' : ℕ) → layer_of l u ≡ s → layer_of l v ≡ s → s ≢ r + 1 → u' ≡ u → v' ≡ v → double (left_pair l rows' u' v') l.links ≡ double (left_pair l rows u v) l.links
  all_left u v u' v' eu ev apart same_u same_v =
      rw (same_u, same_v)
      (double_same (left_pair l rows' u v) (left_pair l rows u v) l.links
      (All-weaker (IsSoundLink l) (λ a. All (λ b. left_pair l rows' u v b a ≡ left_pair l rows u v b a) l.links)
      (λ a sa. All-weaker (IsSoundLink l) (λ b. left_pair l rows' u v b a ≡ left_pair l rows u v b a) (λ b sb. left_stays u v eu ev apart b a sb sa) l.links (links_sound l sound))
      l.links (links_sound l sound)))

  all_right : (u v u' v' : ℕ) → layer_of l u ≡ s → layer_of l v ≡ s → s + 1 ≢ r → u' ≡ u → v' ≡ v → double (right_pair l rows' u' v') l.links ≡ double (right_pair l rows u v) l.links
  all_right u v u' v' eu ev apart same_u same_v =
      rw (same_u, same_v)
      (double_same (right_pair l rows' u v) (right_pair l rows u v) l.links
      (All-weaker (IsSoundLink l) (λ a. All (λ b. right_pair l rows' u v b a ≡ right_pair l rows u v b a) l.links)
      (λ a sa. All-weaker (IsSoundLink l) (λ b. right_pair l rows' u v b a ≡ right_pair l rows u v b a) (λ b sb. right_stays u v eu ev apart b a sb sa) l.links (links_sound l sound))
      l.links (links_sound l sound)))

  pub none_stays : (held : List (Option ℤ)) → AreRows l rows → AreRows l rows' → s < length rows → s < length rows' → s ≢ r → s + 1 ≢ r → s ≢ r + 1 → NoneFreeInRow l held rows s → NoneFreeInRow l held rows' s
  none_stays held are are' hs hs' ne below above none i hi' free' =
      let same : row_at rows' s ≡ row_at rows s = keeps s ne in
      let hi : i + 1 < length (row_at rows s) = subst (λ (row : List ℕ). i + 1 < length row) same hi' in
      let u : ℕ = get_or (row_at rows s) i 0 in
      let v : ℕ = get_or (row_at rows s) (i + 1) 0 in
      let u' : ℕ = get_or (row_at rows' s) i 0 in
      let v' : ℕ = get_or (row_at rows' s) (i + 1) 0 in
      let same_u : get_or (row_at rows' s) i 0 ≡ get_or (row_at rows s) i 0 = ap (λ (row : List ℕ). get_or row i 0) same in
      let same_v : get_or (row_at rows' s) (i + 1) 0 ≡ get_or (row_at rows s) (i + 1) 0 = ap (λ (row : List ℕ). get_or row (i + 1) 0) same in
      let eu = upper_layer l rows sound are s i hs hi in
      let ev = lower_layer l rows sound are s i hs hi in
      let law = exchange_changes l rows sound are s i hs hi in
      let law' = exchange_changes l rows' sound are' s i hs' hi' in
      let left_uv = all_left u v u' v' eu ev above same_u same_v in
      let left_vu = all_left v u v' u' ev eu above same_v same_u in
      let right_uv = all_right u v u' v' eu ev below same_u same_v in
      let right_vu = all_right v u v' u' ev eu below same_v same_u in
      let before = none i hi (subst (λ (row : List ℕ). IsFalse (are_both_held held row i)) same free') in
      omega (arith, law, law', left_uv, left_vu, right_uv, right_vu, before, crossings_are l rows, crossings_are l rows', crossings_are l (exchanged rows s i), crossings_are l (exchanged rows' s i))

pub settled_start : (l : Plain) (held : List (Option ℤ)) (rows : List (List ℕ)) (n : ℕ) → n ≡ length rows → AreSettled l held rows (replicate n false)
settled_start l held rows n e =
    record {
      as_many = length-replicate n false ∙ e;
      none = λ r h t. absurd (both_ways (get_or (replicate n false) r false) (get_or-replicate n r false false (omega (arith, h, e))) t);
    }

pub settled_more : (l : Plain) (held : List (Option ℤ)) (rows : List (List ℕ)) (settled : List Bool) (r : ℕ) → AreSettled l held rows settled → NoneFreeInRow l held rows r → AreSettled l held rows (set settled r true)
settled_more l held rows settled r s here =
    record {
      as_many = length-set settled r true ∙ s.as_many;
      none = λ g h t. elim (cases_eq g r) [
        | inl e ↦ subst (λ (x : ℕ). NoneFreeInRow l held rows x) (sym e) here
        | inr n ↦ s.none g h (sym (get_or-set_other settled r g true false n) ∙ t)
      ];
    }

unset_is : (xs : List Bool) (at : ℕ) → get_or (set xs at false) at false ≡ false
unset_is xs at =
    elim (cases_lt at (length xs)) [
      | inl h ↦ get_or-set_same xs at false false h
      | inr h ↦ let long = length-set xs at false in get_or_past (set xs at false) at false (omega (arith, h, long))
    ]

unset_true : (xs : List Bool) (at g : ℕ) → get_or (set xs at false) g false ≡ true → (g ≢ at) × (get_or xs g false ≡ true)
unset_true xs at g t =
    elim (cases_eq g at) [
      | inl e ↦ absurd (both_ways (get_or (set xs at false) at false) (unset_is xs at) (subst (λ (x : ℕ). get_or (set xs at false) x false ≡ true) e t))
      | inr n ↦ (n, sym (get_or-set_other xs at g false false n) ∙ t)
    ]

pub settled_changed : (l : Plain) (held : List (Option ℤ)) (rows rows' : List (List ℕ)) (settled : List Bool) (r : ℕ) → IsSound l → AreRows l rows → AreRows l rows' → KeepsOthers rows rows' r → AreSettled l held rows settled → AreSettled l held rows' (unsettled settled r)
settled_changed l held rows rows' settled r sound are are' keeps s =
    let one : List Bool = set settled (r - 1) false in
    let two : List Bool = set one r false in
    let many = are.as_many in
    let many' = are'.as_many in
    let long : length (unsettled settled r) ≡ length settled = length-set two (r + 1) false ∙ length-set one r false ∙ length-set settled (r - 1) false in
    let old = s.as_many in
    record {
      as_many = omega (arith, long, old, many, many');
      none = λ g h t.
          let third = unset_true two (r + 1) g t in
          let second = unset_true one r g third.1 in
          let first = unset_true settled (r - 1) g second.1 in
          let hg : g < length rows = omega (arith, h, many, many') in
          none_stays l rows rows' r g sound keeps held are are' hg h second.0 (λ e. first.0 (omega (arith, e))) third.0 (s.none g hg first.1);
    }

-- what is said of the rows after one was tried
pub settled_noted : (l : Plain) (held : List (Option ℤ)) (rows rows' : List (List ℕ)) (settled settled' : List Bool) (r : ℕ) (changed : Bool) → IsSound l → AreRows l rows → AreRows l rows' → KeepsOthers rows rows' r → AreSettled l held rows settled
    → IsTried l rows rows' changed (NoneFreeInRow l held rows r) → settled' ≡ cond changed (unsettled settled r) (set settled r true) → AreSettled l held rows' settled'
settled_noted l held rows rows' settled settled' r true sound are are' keeps s tried e = rw e (settled_changed l held rows rows' settled r sound are are' keeps s)
settled_noted l held rows rows' settled settled' r false sound are are' keeps s tried e =
    rw e (subst (λ (x : List (List ℕ)). AreSettled l held x (set settled r true)) (sym tried.0) (settled_more l held rows settled r s tried.1))
