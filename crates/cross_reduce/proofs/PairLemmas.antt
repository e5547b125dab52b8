-- What an exchange of two neighbours of a row does to each pair of links, and to all of them.
use Rattle.std.proofs.Common.{◌≡◌, ◌≢◌, ℕ, ◌+◌, ◌*◌, ◌<◌, List, [], length, get_or, Bool, true, false, ◌&&◌, refl, arith, sym, ◌∙◌, ap, subst, inl, inr, ltb, eqb, eq-eqb}
use Rattle.std.proofs.lemmas.Bool.{cases_eq, ne_eqb, and_right}
use Rattle.std.specs.List.{swap, All}
use Rattle.std.proofs.lemmas.List.{get_or-set_same, get_or-set_other}
use Rattle.std.proofs.lemmas.List.Edits.{swapped_from_swap, length-swap}
use Rattle.std.proofs.lemmas.List.Elements.{All-weaker}
use Rattle.elk_layers.specs.declared.units.Link.{Link}
use Rattle.elk_layers.specs.Layered.{Plain, IsSound, IsSoundLink, AreRows, row_at, layer_of, gap_of, place_in, place_of, tail_key, head_key}
use Rattle.elk_layers.specs.Crossings.{exchanged}
use Rattle.elk_layers.specs.Places.{IsOnce}
use Rattle.elk_layers.proofs.PlaceLemmas.{place_at}
use Rattle.cross_reduce.proofs.PlaceLemmas.{links_sound}
use Rattle.cross_reduce.specs.Pins.{pin_of, is_under}
use Rattle.cross_reduce.specs.Rows.{IsRow}
use Rattle.cross_reduce.proofs.Sums.{one_if, double, quad, double_plus}
use Rattle.cross_reduce.proofs.RowLemmas.{row_of, row_swapped}
use Rattle.cross_reduce.proofs.ExchangeLemmas.{Moves, compared}

stands : (row : List ℕ) (w p : ℕ) → IsOnce row → p < length row → get_or row p 0 ≡ w → place_in row w ≡ p
stands row w p once h e = subst (λ x. place_in row x ≡ p) e (place_at row once p h)

moves_in : (row row' : List ℕ) (i w p : ℕ) → IsOnce row → IsOnce row' → i + 1 < length row → row' ≡ swap row i (i + 1) → p < length row → get_or row p 0 ≡ w → Moves i (place_in row w) (place_in row' w)
moves_in row row' i w p once once' hi is h e =
    let s = swapped_from_swap row row' i (i + 1) 0 (omega arith) hi is in
    let long : length row' ≡ length row = ap length is ∙ length-swap row i (i + 1) in
    elim (cases_eq p i) [
      | inl k ↦ inl (stands row w p once h e ∙ k, stands row' w (i + 1) once' (omega arith) (s.1 ∙ subst (λ x. get_or row x 0 ≡ w) k e))
      | inr n ↦ elim (cases_eq p (i + 1)) [
        | inl k ↦ inr (inl (stands row w p once h e ∙ k, stands row' w i once' (omega arith) (s.0 ∙ subst (λ x. get_or row x 0 ≡ w) k e)))
        | inr m ↦
            let here : place_in row w ≡ p = stands row w p once h e in
            let there : place_in row' w ≡ p = stands row' w p once' (omega (arith, h, long)) (s.2 p n m ∙ e) in
            inr (inr ((λ q. n (sym here ∙ q)), (λ q. m (sym here ∙ q)), there ∙ sym here))
      ]
    ]

-- a unit of the row is the one at a place exactly where it stands there
at_place : (row : List ℕ) (w p i : ℕ) → IsOnce row → i < length row → p < length row → get_or row p 0 ≡ w → eqb w (get_or row i 0) ≡ eqb (place_in row w) i
at_place row w p i once hi h e =
    let here : place_in row w ≡ p = stands row w p once h e in
    let there : place_in row (get_or row i 0) ≡ i = place_at row once i hi in
    elim (cases_eq (place_in row w) i) [
      | inl k ↦
          let same : w ≡ get_or row i 0 = sym e ∙ ap (λ x. get_or row x 0) (sym here ∙ k) in
          eq-eqb w (get_or row i 0) same ∙ sym (eq-eqb (place_in row w) i k)
      | inr n ↦ ne_eqb w (get_or row i 0) (λ q. n (ap (place_in row) q ∙ there)) ∙ sym (ne_eqb (place_in row w) i n)
    ]

not_both : (x v y u : ℕ) (t : Bool) → (x ≡ v → y ≡ u → ⊥) → (eqb x v && (eqb y u && t)) ≡ false
not_both x v y u t never =
    elim (cases_eq x v) [
      | inl e ↦ elim (cases_eq y u) [
        | inl k ↦ absurd (never e k)
        | inr n ↦ rw (ne_eqb y u n) (and_right (eqb x v) false refl)
      ]
      | inr n ↦ rw (ne_eqb x v n) refl
    ]

-- the pairs of links to the one side and to the other that cross where u stands above v
abbrev pub left_pair : Plain → List (List ℕ) → ℕ → ℕ → Link → Link → ℕ
left_pair l rows u v b a = one_if (eqb b.head v && (eqb a.head u && ltb (tail_key l rows b) (tail_key l rows a)))

abbrev pub right_pair : Plain → List (List ℕ) → ℕ → ℕ → Link → Link → ℕ
right_pair l rows u v b a = one_if (eqb a.tail v && (eqb b.tail u && ltb (head_key l rows a) (head_key l rows b)))

abbrev pub any_pair : Plain → List (List ℕ) → Link → Link → ℕ
any_pair l rows b a = one_if (is_under (pin_of l rows b) (pin_of l rows a))

mix_left : (t p q av bu au bv : Bool) → one_if p + one_if (av && bu) ≡ one_if q + one_if (au && bv) → one_if (t && p) + (one_if (bu && (av && t)) + 0) ≡ one_if (t && q) + (one_if (bv && (au && t)) + 0)
mix_left true p q av bu au bv h = rw (flipped bu av, flipped bv au) (omega (arith, h))
  where
    flipped : (x y : Bool) → (x && (y && true)) ≡ (y && x)
    flipped true true = refl
    flipped true false = refl
    flipped false true = refl
    flipped false false = refl
mix_left false p q av bu au bv h = rw (none bu av, none bv au) refl
  where
    none : (x y : Bool) → (x && (y && false)) ≡ false
    none true true = refl
    none true false = refl
    none false y = refl

mix_right : (t p q bv au bu av : Bool) → one_if p + one_if (bv && au) ≡ one_if q + one_if (bu && av) → one_if (p && t) + (0 + one_if (au && (bv && t))) ≡ one_if (q && t) + (0 + one_if (av && (bu && t)))
mix_right t p q bv au bu av h =
    let m = mix_left t p q bv au bu av h in
    rw (comm p t, comm q t) (omega (arith, m))
  where
    comm : (x y : Bool) → (x && y) ≡ (y && x)
    comm true true = refl
    comm true false = refl
    comm false true = refl
    comm false false = refl

module _ (l : Plain) (rows : List (List ℕ)) (sound : IsSound l) (are : AreRows l rows) (r i : ℕ) (hr : r < length rows) (hi : i + 1 < length (row_at rows r)) where
  abbrev row : List ℕ
  row = row_at rows r

  abbrev upper : ℕ
  upper = get_or (row_at rows r) i 0

  abbrev lower : ℕ
  lower = get_or (row_at rows r) (i + 1) 0

  abbrev after : List (List ℕ)
  after = exchanged rows r i

  pub is_row : IsRow l r (row_at rows r)
  is_row = row_of l rows r are hr

  row_after : row_at (exchanged rows r i) r ≡ swap (row_at rows r) i (i + 1)
  row_after = get_or-set_same rows r (swap (row_at rows r) i (i + 1)) [] hr

  pub place_kept : (w : ℕ) → layer_of l w ≢ r → place_of l (exchanged rows r i) w ≡ place_of l rows w
  place_kept w n = ap (λ xs. place_in xs w) (get_or-set_other rows r (layer_of l w) (swap (row_at rows r) i (i + 1)) [] n)

  pub moves : (w : ℕ) → w < length l.units → layer_of l w ≡ r → Moves i (place_of l rows w) (place_of l (exchanged rows r i) w)
  moves w hw e =
      let h = is_row.complete w hw e in
      subst (λ g. Moves i (place_in (row_at rows g) w) (place_in (row_at (exchanged rows r i) g) w)) (sym e)
      (moves_in (row_at rows r) (row_at (exchanged rows r i) r) i w h.place is_row.once
      (subst IsOnce (sym row_after) (row_swapped l r (row_at rows r) i (i + 1) (omega (arith, hi)) hi is_row).once) hi row_after h.within h.unit_is)

  pub is_at : (w k : ℕ) → w < length l.units → layer_of l w ≡ r → k < length (row_at rows r) → eqb w (get_or (row_at rows r) k 0) ≡ eqb (place_of l rows w) k
  is_at w k hw e hk =
      let h = is_row.complete w hw e in
      subst (λ g. eqb w (get_or (row_at rows r) k 0) ≡ eqb (place_in (row_at rows g) w) k) (sym e)
      (at_place (row_at rows r) w h.place k is_row.once hk h.within h.unit_is)

  -- the comparison of two pins of units of the row
  compare : (x y m n : ℕ) → x < length l.units → y < length l.units → layer_of l x ≡ r → layer_of l y ≡ r → m < 65536 → n < 65536
      → one_if (ltb (place_of l rows x * 65536 + m) (place_of l rows y * 65536 + n)) + one_if (eqb x (get_or (row_at rows r) (i + 1) 0) && eqb y (get_or (row_at rows r) i 0))
      ≡ one_if (ltb (place_of l (exchanged rows r i) x * 65536 + m) (place_of l (exchanged rows r i) y * 65536 + n)) + one_if (eqb x (get_or (row_at rows r) i 0) && eqb y (get_or (row_at rows r) (i + 1) 0))
  compare x y m n hx hy ex ey hm hn =
      rw (is_at x (i + 1) hx ex hi, is_at y i hy ey (omega (arith, hi)), is_at x i hx ex (omega (arith, hi)), is_at y (i + 1) hy ey hi)
      (compared i (place_of l rows x) (place_of l rows y) m n (place_of l (exchanged rows r i) x) (place_of l (exchanged rows r i) y) hm hn (moves x hx ex) (moves y hy ey))

  pub upper_layer : layer_of l (get_or (row_at rows r) i 0) ≡ r
  upper_layer = is_row.in_layer i (omega (arith, hi))

  pub lower_layer : layer_of l (get_or (row_at rows r) (i + 1) 0) ≡ r
  lower_layer = is_row.in_layer (i + 1) hi

  abbrev Same : Link → Link → Type 0
  Same b a =
      any_pair l rows b a + (left_pair l rows (get_or (row_at rows r) (i + 1) 0) (get_or (row_at rows r) i 0) b a + right_pair l rows (get_or (row_at rows r) (i + 1) 0) (get_or (row_at rows r) i 0) b a)
      ≡ any_pair l (exchanged rows r i) b a + (left_pair l rows (get_or (row_at rows r) i 0) (get_or (row_at rows r) (i + 1) 0) b a + right_pair l rows (get_or (row_at rows r) i 0) (get_or (row_at rows r) (i + 1) 0) b a)

  no_left : (u v : ℕ) → layer_of l u ≡ r → layer_of l v ≡ r → (b a : Link) → IsSoundLink l b → IsSoundLink l a → (gap_of l b + 1 ≡ r → gap_of l a + 1 ≡ r → ⊥) → left_pair l rows u v b a ≡ 0
  no_left u v eu ev b a sb sa never =
      ap one_if (not_both b.head v a.head u (ltb (tail_key l rows b) (tail_key l rows a))
      (λ e k. never (sym sb.next_layer ∙ ap (layer_of l) e ∙ ev) (sym sa.next_layer ∙ ap (layer_of l) k ∙ eu)))

  no_right : (u v : ℕ) → layer_of l u ≡ r → layer_of l v ≡ r → (b a : Link) → (gap_of l b ≡ r → gap_of l a ≡ r → ⊥) → right_pair l rows u v b a ≡ 0
  no_right u v eu ev b a never =
      ap one_if (not_both a.tail v b.tail u (ltb (head_key l rows a) (head_key l rows b))
      (λ e k. never (ap (layer_of l) k ∙ eu) (ap (layer_of l) e ∙ ev)))

  key_kept : (w m : ℕ) → layer_of l w ≢ r → place_of l (exchanged rows r i) w * 65536 + m ≡ place_of l rows w * 65536 + m
  key_kept w m n = ap (λ p. p * 65536 + m) (place_kept w n)

  same_apart : (b a : Link) → IsSoundLink l b → IsSoundLink l a → gap_of l b ≢ gap_of l a → Same b a
  same_apart b a sb sa n =
      rw (
        ne_eqb (gap_of l b) (gap_of l a) n,
        no_left (get_or (row_at rows r) (i + 1) 0) (get_or (row_at rows r) i 0) lower_layer upper_layer b a sb sa (λ e k. n (omega (arith, e, k))),
        no_left (get_or (row_at rows r) i 0) (get_or (row_at rows r) (i + 1) 0) upper_layer lower_layer b a sb sa (λ e k. n (omega (arith, e, k))),
        no_right (get_or (row_at rows r) (i + 1) 0) (get_or (row_at rows r) i 0) lower_layer upper_layer b a (λ e k. n (e ∙ sym k)),
        no_right (get_or (row_at rows r) i 0) (get_or (row_at rows r) (i + 1) 0) upper_layer lower_layer b a (λ e k. n (e ∙ sym k)),
      ) refl

  same_left : (b a : Link) → IsSoundLink l b → IsSoundLink l a → gap_of l b ≡ gap_of l a → gap_of l a + 1 ≡ r → Same b a
  same_left b a sb sa e g =
      rw (
        eq-eqb (gap_of l b) (gap_of l a) e,
        no_right (get_or (row_at rows r) (i + 1) 0) (get_or (row_at rows r) i 0) lower_layer upper_layer b a (λ k m. omega (arith, g, m)),
        no_right (get_or (row_at rows r) i 0) (get_or (row_at rows r) (i + 1) 0) upper_layer lower_layer b a (λ k m. omega (arith, g, m)),
        key_kept b.tail b.tail_rank (λ k. omega (arith, e, g, k)),
        key_kept a.tail a.tail_rank (λ k. omega (arith, g, k)),
      )
      (mix_left (ltb (tail_key l rows b) (tail_key l rows a)) (ltb (head_key l rows a) (head_key l rows b)) (ltb (head_key l (exchanged rows r i) a) (head_key l (exchanged rows r i) b))
      (eqb a.head (get_or (row_at rows r) (i + 1) 0)) (eqb b.head (get_or (row_at rows r) i 0)) (eqb a.head (get_or (row_at rows r) i 0)) (eqb b.head (get_or (row_at rows r) (i + 1) 0))
      (compare a.head b.head a.head_rank b.head_rank sa.head sb.head (sa.next_layer ∙ g) (sb.next_layer ∙ ap (λ n. n + 1) e ∙ g) sa.head_rank sb.head_rank))

  same_right : (b a : Link) → IsSoundLink l b → IsSoundLink l a → gap_of l b ≡ gap_of l a → gap_of l a ≡ r → Same b a
  same_right b a sb sa e g =
      rw (
        eq-eqb (gap_of l b) (gap_of l a) e,
        no_left (get_or (row_at rows r) (i + 1) 0) (get_or (row_at rows r) i 0) lower_layer upper_layer b a sb sa (λ k m. omega (arith, g, m)),
        no_left (get_or (row_at rows r) i 0) (get_or (row_at rows r) (i + 1) 0) upper_layer lower_layer b a sb sa (λ k m. omega (arith, g, m)),
        key_kept b.head b.head_rank (λ k. omega (arith, e, g, k, sb.next_layer)),
        key_kept a.head a.head_rank (λ k. omega (arith, g, k, sa.next_layer)),
      )
      (mix_right (ltb (head_key l rows a) (head_key l rows b)) (ltb (tail_key l rows b) (tail_key l rows a)) (ltb (tail_key l (exchanged rows r i) b) (tail_key l (exchanged rows r i) a))
      (eqb b.tail (get_or (row_at rows r) (i + 1) 0)) (eqb a.tail (get_or (row_at rows r) i 0)) (eqb b.tail (get_or (row_at rows r) i 0)) (eqb a.tail (get_or (row_at rows r) (i + 1) 0))
      (compare b.tail a.tail b.tail_rank a.tail_rank sb.tail sa.tail (e ∙ g) g sb.tail_rank sa.tail_rank))

  same_far : (b a : Link) → IsSoundLink l b → IsSoundLink l a → gap_of l b ≡ gap_of l a → gap_of l a + 1 ≢ r → gap_of l a ≢ r → Same b a
  same_far b a sb sa e left right =
      rw (
        no_left (get_or (row_at rows r) (i + 1) 0) (get_or (row_at rows r) i 0) lower_layer upper_layer b a sb sa (λ k m. left m),
        no_left (get_or (row_at rows r) i 0) (get_or (row_at rows r) (i + 1) 0) upper_layer lower_layer b a sb sa (λ k m. left m),
        no_right (get_or (row_at rows r) (i + 1) 0) (get_or (row_at rows r) i 0) lower_layer upper_layer b a (λ k m. right m),
        no_right (get_or (row_at rows r) i 0) (get_or (row_at rows r) (i + 1) 0) upper_layer lower_layer b a (λ k m. right m),
        key_kept b.tail b.tail_rank (λ k. right (sym e ∙ k)),
        key_kept a.tail a.tail_rank right,
        key_kept b.head b.head_rank (λ k. left (ap (λ n. n + 1) (sym e) ∙ sym sb.next_layer ∙ k)),
        key_kept a.head a.head_rank (λ k. left (sym sa.next_layer ∙ k)),
      ) refl

  pub same_pair : (b a : Link) → IsSoundLink l b → IsSoundLink l a → Same b a
  same_pair b a sb sa =
      elim (cases_eq (gap_of l b) (gap_of l a)) [
        | inl e ↦ elim (cases_eq (gap_of l a + 1) r) [
          | inl g ↦ same_left b a sb sa e g
          | inr left ↦ elim (cases_eq (gap_of l a) r) [
            | inl g ↦ same_right b a sb sa e g
            | inr right ↦ same_far b a sb sa e left right
          ]
        ]
        | inr n ↦ same_apart b a sb sa n
      ]

  -- the crossings before and after differ by those between the two units
  pub exchange_changes :
      double (any_pair l rows) l.links + (double (left_pair l rows (get_or (row_at rows r) (i + 1) 0) (get_or (row_at rows r) i 0)) l.links + double (right_pair l rows (get_or (row_at rows r) (i + 1) 0) (get_or (row_at rows r) i 0)) l.links)
      ≡ double (any_pair l (exchanged rows r i)) l.links + (double (left_pair l rows (get_or (row_at rows r) i 0) (get_or (row_at rows r) (i + 1) 0)) l.links + double (right_pair l rows (get_or (row_at rows r) i 0) (get_or (row_at rows r) (i + 1) 0)) l.links)
  exchange_changes =
      let u : ℕ = get_or (row_at rows r) i 0 in
      let v : ℕ = get_or (row_at rows r) (i + 1) 0 in
      rw (← double_plus (left_pair l rows v u) (right_pair l rows v u) l.links, ← double_plus (left_pair l rows u v) (right_pair l rows u v) l.links)
      (quad (any_pair l rows) (λ b a. left_pair l rows v u b a + right_pair l rows v u b a) (any_pair l (exchanged rows r i)) (λ b a. left_pair l rows u v b a + right_pair l rows u v b a) l.links
      (All-weaker (IsSoundLink l) (λ a. All (λ b. Same b a) l.links) (λ a sa. All-weaker (IsSoundLink l) (λ b. Same b a) (λ b sb. same_pair b a sb sa) l.links (links_sound l sound)) l.links (links_sound l sound)))
