-- Heights of the nets so far: of no pin, and another for each.
use Rattle.std.proofs.Common.{◌≡◌, ◌∙◌, ◌⊎◌, ⊎_elim, inl, inr, List, [], ◌∷◌, ◌++◌, ℕ, ◌+◌, ◌<◌, ◌≤◌, true, false, ℤ, pos, ◌+ℤ◌, ◌≤ℤ◌, length, sym, ap, subst, arith}
use Rattle.std.proofs.lemmas.Bool.{cases_lt}
use Rattle.std.proofs.lemmas.List.{length_push, get_or_append_left, get_or_push}
use Rattle.std.proofs.lemmas.Int.{ints, clamps}
use Rattle.std.specs.Int.{int_min, int_max}
use Rattle.std.specs.BTreeSet.{BTreeSet}
use Rattle.net_routes.specs.declared.Net.{Net}
use Rattle.route_slots.specs.declared.middles.Height.{Height}
use Rattle.net_routes.specs.Pieces.{net_at}
use Rattle.net_routes.specs.GapFree.{IsAtHeight}
use Rattle.route_slots.specs.Middles.{height_at, AreMiddles, IsTop, above_top, holds, HoldPins, IsTaken, IsMiddle}
use Rattle.net_routes.proofs.Lists.{each_pushed}

-- the height of a net above all pins, or one that is taken between its pins
abbrev pub IsMet : List Net → ℤ → BTreeSet ℤ → ℕ → ℤ → Type 0
IsMet nets top taken k h =
    (h ≡ above_top top k)
    ⊎ ((holds taken h ≡ true) × (int_min (net_at nets k).a.height (net_at nets k).b.height ≤ℤ h) × (h ≤ℤ int_max (net_at nets k).a.height (net_at nets k).b.height))

pub record AreMet (nets : List Net) (top : ℤ) (taken : BTreeSet ℤ) (hs : List Height) (n : ℕ) : Type 0 where
  pub len : length hs ≡ n
  pub pins : HoldPins nets (length nets) taken
  pub each : (k : ℕ) → k < n → IsMet nets top taken k (height_at hs k).value
  pub no_pin : (j k : ℕ) → j < length nets → k < n → IsAtHeight (net_at nets j) (height_at hs k).value → ⊥
  pub alone : (j k : ℕ) → j < n → k < n → (height_at hs j).value ≡ (height_at hs k).value → j ≡ k

pub none_met : (nets : List Net) (top : ℤ) (taken : BTreeSet ℤ) (hs : List Height) → hs ≡ [] → HoldPins nets (length nets) taken → AreMet nets top taken hs 0
none_met nets top taken hs e pins =
    record {
      len = ap length e;
      pins = pins;
      each = λ k h. absurd (omega arith);
      no_pin = λ j k l h x. absurd (omega arith);
      alone = λ j k h l e. absurd (omega arith);
    }

not_above : (h top a b : ℤ) (k : ℕ) → a ≤ℤ top → b ≤ℤ top → h ≤ℤ int_max a b → h ≡ above_top top k → ⊥
not_above h top a b k p q l e = omega (arith, ints, clamps)

pin_below : (h top a b : ℤ) (k : ℕ) → a ≤ℤ top → b ≤ℤ top → (a ≡ h) ⊎ (b ≡ h) → h ≡ above_top top k → ⊥
pin_below h top a b k p q x e = ⊎_elim (λ y. let y' = y in omega (arith, ints)) (λ y. let y' = y in omega (arith, ints)) x

same_above : (top : ℤ) (j k : ℕ) → above_top top j ≡ above_top top k → j ≡ k
same_above top j k e = omega (arith, ints)

module _ (nets : List Net) (top : ℤ) (old new : BTreeSet ℤ) (hs hs' : List Height) (x : Height) (n : ℕ)
    (met : AreMet nets top old hs n) (inside : n < length nets) (at_top : IsTop nets top)
    (kept : (h : ℤ) → holds old h ≡ true → holds new h ≡ true)
    (middle : IsMiddle old new (net_at nets n) (above_top top n) x.value) (pushed : hs' ≡ hs ++ x ∷ []) where
  abbrev At : ℕ → Type 0
  At j = ((j < n) × (height_at hs' j ≡ height_at hs j)) ⊎ ((j ≡ n) × (height_at hs' j ≡ x))

  at : (j : ℕ) → j < n + 1 → At j
  at j h =
      let len = met.len in
      ⊎_elim
      (λ (l : j < n). let l' : j < length hs = omega arith in inl (l, ap (λ z. height_at z j) pushed ∙ get_or_append_left hs (x ∷ []) (record { value = pos 0 }) j l'))
      (λ (l : n ≤ j). let e : j ≡ n = omega arith in inr (e, ap (λ z. height_at z j) pushed ∙ get_or_push hs x (record { value = pos 0 }) j (len ∙ sym e)))
      (cases_lt j n)

  -- the height is that of no pin
  no_pin : (j : ℕ) → j < length nets → IsAtHeight (net_at nets j) x.value → ⊥
  no_pin j l p =
      let t = at_top.above j l in
      ⊎_elim
      (λ e. pin_below x.value top _ _ n t.0 t.1 p e)
      (λ (m : IsTaken old new (net_at nets n) x.value).
      let pins = met.pins j l in
      ⊎_elim
      (λ e. let bad : true ≡ false = sym (subst (λ z. holds old z ≡ true) e pins.0) ∙ m.free in cc)
      (λ e. let bad : true ≡ false = sym (subst (λ z. holds old z ≡ true) e pins.1) ∙ m.free in cc)
      p)
      middle

  -- and that of no net before
  no_other : (j : ℕ) → j < n → (height_at hs j).value ≡ x.value → ⊥
  no_other j l same =
      let t = at_top.above j (omega arith) in
      let u = at_top.above n inside in
      ⊎_elim
      (λ e. ⊎_elim
      (λ f. let e' = same_above top j n (sym f ∙ same ∙ e) in omega arith)
      (λ (g : (holds old (height_at hs j).value ≡ true) × (int_min (net_at nets j).a.height (net_at nets j).b.height ≤ℤ (height_at hs j).value) × ((height_at hs j).value ≤ℤ int_max (net_at nets j).a.height (net_at nets j).b.height)).
      not_above _ top _ _ n t.0 t.1 g.2 (same ∙ e))
      (met.each j l))
      (λ (m : IsTaken old new (net_at nets n) x.value). ⊎_elim
      (λ f. not_above _ top _ _ j u.0 u.1 m.high (sym same ∙ f))
      (λ (g : (holds old (height_at hs j).value ≡ true) × (int_min (net_at nets j).a.height (net_at nets j).b.height ≤ℤ (height_at hs j).value) × ((height_at hs j).value ≤ℤ int_max (net_at nets j).a.height (net_at nets j).b.height)).
      let bad : true ≡ false = sym (subst (λ z. holds old z ≡ true) same g.0) ∙ m.free in cc)
      (met.each j l))
      middle

  pub met_more : AreMet nets top new hs' (n + 1)
  met_more =
      record {
        len = let len = met.len in let more = length_push hs x in ap length pushed ∙ omega arith;
        pins = λ k l. (kept _ (met.pins k l).0, kept _ (met.pins k l).1);
        each =
            each_pushed Height (record { value = pos 0 }) (λ k h. IsMet nets top new k h.value) hs hs' x n met.len pushed
            (λ k l. ⊎_elim (λ e. inl e) (λ g. inr (kept _ g.0, g.1, g.2)) (met.each k l))
            (⊎_elim (λ e. inl e) (λ (m : IsTaken old new (net_at nets n) x.value). inr (m.taken, m.low, m.high)) middle);
        no_pin = λ j k l h p. ⊎_elim
            (λ (a : (k < n) × (height_at hs' k ≡ height_at hs k)). met.no_pin j k l a.0 (subst (λ z. IsAtHeight (net_at nets j) z.value) a.1 p))
            (λ (a : (k ≡ n) × (height_at hs' k ≡ x)). no_pin j l (subst (λ z. IsAtHeight (net_at nets j) z.value) a.1 p))
            (at k h);
        alone = λ j k h l e. ⊎_elim
            (λ (a : (j < n) × (height_at hs' j ≡ height_at hs j)). ⊎_elim
            (λ (b : (k < n) × (height_at hs' k ≡ height_at hs k)). met.alone j k a.0 b.0 (sym (ap (λ z. z.value) a.1) ∙ e ∙ ap (λ z. z.value) b.1))
            (λ (b : (k ≡ n) × (height_at hs' k ≡ x)). absurd (no_other j a.0 (sym (ap (λ z. z.value) a.1) ∙ e ∙ ap (λ z. z.value) b.1)))
            (at k l))
            (λ (a : (j ≡ n) × (height_at hs' j ≡ x)). ⊎_elim
            (λ (b : (k < n) × (height_at hs' k ≡ height_at hs k)). absurd (no_other k b.0 (sym (ap (λ z. z.value) b.1) ∙ sym e ∙ ap (λ z. z.value) a.1)))
            (λ (b : (k ≡ n) × (height_at hs' k ≡ x)). a.0 ∙ sym b.0)
            (at k l))
            (at j h);
      }

near_above : (h top a b low high : ℤ) (k n : ℕ) → k < n → a ≤ℤ top → b ≤ℤ top → top ≤ℤ high → h ≡ above_top top k → (int_min a b ≤ℤ h) × (h ≤ℤ (high +ℤ pos n))
near_above h top a b low high k n l p q r e = (omega (arith, ints, clamps), omega (arith, ints))

weaker : (h high : ℤ) (n : ℕ) → h ≤ℤ high → h ≤ℤ (high +ℤ pos n)
weaker h high n l = omega (arith, ints)

pub all_met : (nets : List Net) (top : ℤ) (taken : BTreeSet ℤ) (hs : List Height) → AreMet nets top taken hs (length nets) → IsTop nets top → AreMiddles nets hs
all_met nets top taken hs met at_top =
    record {
      len = met.len;
      no_pin = met.no_pin;
      alone = met.alone;
      near = λ k l. ⊎_elim
          (λ (e : (height_at hs k).value ≡ above_top top k).
          let r = at_top.reached (omega arith) in
          let t = at_top.above k l in
          let w = near_above (height_at hs k).value top (net_at nets k).a.height (net_at nets k).b.height top (int_max (net_at nets r.0).a.height (net_at nets r.0).b.height) k (length nets) l t.0 t.1 r.2 e in
          record { i = k; j = r.0; i_in = l; j_in = r.1; low = w.0; high = w.1 })
          (λ g. record { i = k; j = k; i_in = l; j_in = l; low = g.1; high = weaker _ _ (length nets) g.2 })
          (met.each k l);
    }
