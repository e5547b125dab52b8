-- Units are joined one after the other, from left to right.
use Rattle.std.proofs.Common.{◌≡◌, ◌≢◌, ℕ, ◌<◌, ◌≤◌, ◌+◌, ℤ, pos, ◌+ℤ◌, ◌-ℤ◌, ◌≤ℤ◌, List, length, get_or, set, arith, refl, sym, ◌∙◌, ap, subst, inl, inr, Option, Some, None, length-set, get_or-set_same, get_or-set_other, IfSome}
use Rattle.std.proofs.lemmas.Int.{ints}
use Rattle.std.proofs.lemmas.Bool.{cases_eq}
use Rattle.std.proofs.lemmas.List.Elements.{All-set, All-get_or}
use Rattle.elk_layers.specs.Layered.{Plain, IsSound, AreRows, layer_of, link_at, unit_at, row_at, place_of, place_in}
use Rattle.elk_layers.proofs.PlaceLemmas.{place_at}
use Rattle.unit_blocks.specs.Constraints.{offset_at}
use Rattle.unit_blocks.specs.Joining.{name_for, offset_for, HasNameAndOffset, CanFollow, Joins, HaveHeads, height_up_to, StaysNear, ComesBefore, AreJoinedUpTo, AreAllJoined}
use Rattle.unit_blocks.proofs.JoinLemmas.{BeginsElsewhere, joined_stays, joined_here}
use Rattle.unit_blocks.proofs.HeightSums.{own_height, one_layer_more, heights_small}

module _ (l : Plain) (rows : List (List ℕ)) (into : List (Option ℕ)) (sound : IsSound l) (are : AreRows l rows) (heads : HaveHeads l into) where
  -- the tail of the link into a unit lies one layer before it
  tail_before : (u k : ℕ) → get_or into u None ≡ Some k → layer_of l u ≡ layer_of l (link_at l.links k).tail + 1
  tail_before u k e =
      let s = sound.links_are k (heads.known u k e) in
      let is : layer_of l (link_at l.links k).head ≡ layer_of l u = ap (layer_of l) (heads.head_is u k e) in
      let n = s.next_layer in
      omega (arith, is, n)

  begins_elsewhere : (u v : ℕ) → layer_of l u ≤ layer_of l v → BeginsElsewhere l (get_or into u None) v
  begins_elsewhere u v h k e t =
      let b = tail_before u k e in
      let same : layer_of l (link_at l.links k).tail ≡ layer_of l v = ap (layer_of l) t in
      omega (arith, h, b, same)

  module _ (r i : ℕ) (names : List ℕ) (offsets : List ℤ) (hr : r < length rows) (hi : i < length (row_at rows r)) (so : AreJoinedUpTo l rows into r i names offsets) where
    abbrev unit : ℕ
    unit = get_or (row_at rows r) i 0

    unit_in : unit < length l.units
    unit_in = are.in_range r hr i hi

    unit_layer : layer_of l unit ≡ r
    unit_layer = are.in_layer r hr i hi

    pub can_follow : IfSome (get_or into unit None) (λ k. CanFollow l offsets k)
    can_follow = by_entry (get_or into unit None) refl
      where
        by_entry : (entry : Option ℕ) → get_or into unit None ≡ entry → IfSome entry (λ k. CanFollow l offsets k)
        by_entry None e = tt
        by_entry (Some k) e =
            let known = heads.known unit k e in
            let s = sound.links_are k known in
            let b = tail_before unit k e in
            let layer = unit_layer in
            let near = so.near (link_at l.links k).tail s.tail (inl (omega (arith, b, layer))) in
            let small = heights_small l sound (layer_of l (link_at l.links k).tail) in
            let z = sound.heights (link_at l.links k).tail s.tail in
            let low = near.low in
            let high = near.high in
            record { known = known; low = omega (arith, ints, low, small); high = omega (arith, ints, high, small, z) }

    abbrev named : List ℕ
    named = set names unit (name_for l names (get_or into unit None) unit)

    abbrev offset : List ℤ
    offset = set offsets unit (offset_for l offsets (get_or into unit None))

    in_names : unit < length names
    in_names = rw so.names_long unit_in

    in_offsets : unit < length offsets
    in_offsets = rw so.offsets_long unit_in

    name_in_range : name_for l names (get_or into unit None) unit < length l.units
    name_in_range = by_entry (get_or into unit None) refl
      where
        by_entry : (entry : Option ℕ) → get_or into unit None ≡ entry → name_for l names entry unit < length l.units
        by_entry None e = unit_in
        by_entry (Some k) e =
            let s = sound.links_are k (heads.known unit k e) in
            All-get_or (λ n. n < length l.units) names (link_at l.links k).tail 0 (rw so.names_long s.tail) so.in_range

    -- the unit stays near its block's first, since its link's tail does
    near_here : StaysNear l offset unit
    near_here = by_entry (get_or into unit None) refl
      where
        here : offset_at offset unit ≡ offset_for l offsets (get_or into unit None)
        here = get_or-set_same offsets unit (offset_for l offsets (get_or into unit None)) (pos 0) in_offsets

        by_entry : (entry : Option ℕ) → get_or into unit None ≡ entry → StaysNear l offset unit
        by_entry None e =
            let is : offset_at offset unit ≡ pos 0 = here ∙ ap (offset_for l offsets) e in
            let own = own_height l sound unit unit_in in
            let z = sound.heights unit unit_in in
            record { low = omega (arith, ints, is, own, z); high = omega (arith, ints, is, own) }
        by_entry (Some k) e =
            let s = sound.links_are k (heads.known unit k e) in
            let t : ℕ = (link_at l.links k).tail in
            let is : offset_at offset unit ≡ (offset_at offsets (link_at l.links k).tail +ℤ (link_at l.links k).tail_at) -ℤ (link_at l.links k).head_at = here ∙ ap (offset_for l offsets) e in
            let b = tail_before unit k e in
            let layer = unit_layer in
            let near = so.near (link_at l.links k).tail s.tail (inl (omega (arith, b, layer))) in
            let more : (height_up_to l (layer_of l (link_at l.links k).tail) (length l.units) +ℤ (unit_at l.units unit).height) ≤ℤ height_up_to l (layer_of l unit) (length l.units) =
            subst (λ g. (height_up_to l (layer_of l (link_at l.links k).tail) (length l.units) +ℤ (unit_at l.units unit).height) ≤ℤ height_up_to l g (length l.units)) (sym b)
            (one_layer_more l sound (layer_of l (link_at l.links k).tail) unit unit_in b) in
            let same : (unit_at l.units (link_at l.links k).head).height ≡ (unit_at l.units unit).height = ap (λ u. (unit_at l.units u).height) (heads.head_is unit k e) in
            let low = near.low in
            let high = near.high in
            let tail = s.tail_at in
            let head = s.head_at in
            record { low = omega (arith, ints, is, more, same, low, tail.0, head.1); high = omega (arith, ints, is, more, same, high, tail.1, head.0) }

    stays_near : (u : ℕ) → u ≢ unit → StaysNear l offsets u → StaysNear l offset u
    stays_near u ne near =
        let is : offset_at offset u ≡ offset_at offsets u = get_or-set_other offsets unit u (offset_for l offsets (get_or into unit None)) (pos 0) ne in
        let low = near.low in
        let high = near.high in
        record { low = omega (arith, ints, is, low); high = omega (arith, ints, is, high) }

    -- a unit before the next place, but not this one, comes before this place
    other_before : (u : ℕ) → u < length l.units → u ≢ unit → ComesBefore l rows r (i + 1) u → ComesBefore l rows r i u
    other_before u hu ne (inl k) = inl k
    other_before u hu ne (inr k) = elim (cases_eq (place_of l rows u) i) [
      | inr far ↦ let q = k.1 in inr (k.0, omega (arith, q, far))
      | inl e ↦
          let has = are.complete u hu in
          let within : has.place < length (row_at rows r) = subst (λ g. has.place < length (row_at rows g)) k.0 has.within in
          let is : get_or (row_at rows r) has.place 0 ≡ u = subst (λ g. get_or (row_at rows g) has.place 0 ≡ u) k.0 has.unit_is in
          let at : place_in (row_at rows r) u ≡ has.place = subst (λ x. place_in (row_at rows r) x ≡ has.place) is (place_at (row_at rows r) (are.once r hr) has.place within) in
          let there : has.place ≡ i = sym at ∙ ap (λ g. place_in (row_at rows g) u) (sym k.0) ∙ e in
          absurd (ne (sym is ∙ ap (λ p. get_or (row_at rows r) p 0) there))
    ]

    not_after : (u : ℕ) → ComesBefore l rows r i u → layer_of l u ≤ layer_of l unit
    not_after u (inl k) = let e = unit_layer in omega (arith, k, e)
    not_after u (inr k) = let e = unit_layer in let q = k.0 in omega (arith, q, e)

    pub join_more : (names' : List ℕ) (offsets' : List ℤ) → Joins l (get_or into unit None) unit names names' offsets offsets' → AreJoinedUpTo l rows into r (i + 1) names' offsets'
    join_more names' offsets' j =
        rw (j.name, j.offset) (record {
          names_long = length-set names unit (name_for l names (get_or into unit None) unit) ∙ so.names_long;
          offsets_long = length-set offsets unit (offset_for l offsets (get_or into unit None)) ∙ so.offsets_long;
          in_range = All-set (λ n. n < length l.units) names unit (name_for l names (get_or into unit None) unit) name_in_range so.in_range;
          joined = λ u hu b. elim (cases_eq u unit) [
            | inl e ↦ subst (λ x. HasNameAndOffset l into named offset x) (sym e)
                (joined_here l into names offsets unit in_names in_offsets (begins_elsewhere unit unit (omega arith)))
            | inr ne ↦
                let c = other_before u hu ne b in
                joined_stays l into names offsets u unit (name_for l names (get_or into unit None) unit) (offset_for l offsets (get_or into unit None)) ne (begins_elsewhere u unit (not_after u c)) (so.joined u hu c)
          ];
          near = λ u hu b. elim (cases_eq u unit) [
            | inl e ↦ subst (λ x. StaysNear l offset x) (sym e) near_here
            | inr ne ↦ stays_near u ne (so.near u hu (other_before u hu ne b))
          ];
        })

  -- after a row comes the next
  pub next_row : (r i : ℕ) (names : List ℕ) (offsets : List ℤ) → length (row_at rows r) ≤ i → r < length rows → AreJoinedUpTo l rows into r i names offsets → AreJoinedUpTo l rows into (r + 1) 0 names offsets
  next_row r i names offsets long hr so =
      record {
        names_long = so.names_long;
        offsets_long = so.offsets_long;
        in_range = so.in_range;
        joined = λ u hu b. so.joined u hu (earlier u hu b);
        near = λ u hu b. so.near u hu (earlier u hu b);
      }
    where
      earlier : (u : ℕ) → u < length l.units → ComesBefore l rows (r + 1) 0 u → ComesBefore l rows r i u
      earlier u hu (inr k) = let q = k.1 in absurd (omega (arith, q))
      earlier u hu (inl k) = elim (cases_eq (layer_of l u) r) [
        | inr ne ↦ inl (omega (arith, k, ne))
        | inl e ↦
            let has = are.complete u hu in
            let within : has.place < length (row_at rows r) = subst (λ g. has.place < length (row_at rows g)) e has.within in
            let is : get_or (row_at rows r) has.place 0 ≡ u = subst (λ g. get_or (row_at rows g) has.place 0 ≡ u) e has.unit_is in
            let at : place_in (row_at rows r) u ≡ has.place = subst (λ x. place_in (row_at rows r) x ≡ has.place) is (place_at (row_at rows r) (are.once r hr) has.place within) in
            let here : place_of l rows u ≡ has.place = ap (λ g. place_in (row_at rows g) u) e ∙ at in
            inr (e, omega (arith, here, within, long))
      ]

  pub join_end : (r : ℕ) (names : List ℕ) (offsets : List ℤ) → length rows ≤ r → AreJoinedUpTo l rows into r 0 names offsets → AreAllJoined l into names offsets
  join_end r names offsets h so =
      record {
        names_long = so.names_long;
        offsets_long = so.offsets_long;
        in_range = so.in_range;
        joined = λ u hu. so.joined u hu (inl (before u hu));
        near = λ u hu. so.near u hu (inl (before u hu));
      }
    where
      before : (u : ℕ) → u < length l.units → layer_of l u < r
      before u hu = let a = are.as_many in let b = sound.layers_are u hu in omega (arith, a, b, h)
