-- The exchange of two neighbouring slots: what stays, and what it changes of the crossings.
use Rattle.std.proofs.Common.{◌≡◌, ◌≢◌, ◌∙◌, ◌⊎◌, ⊎_elim, inl, inr, ℕ, ◌+◌, ◌<◌, ◌≤◌, Bool, true, false, List, ℤ, length, refl, sym, ap, subst, arith, if◌then◌else◌, ◌==◌}
use Rattle.std.proofs.lemmas.Bool.{cases_eq, ne_eqb, eq-eqb}
use Rattle.net_routes.specs.declared.Pin.{Pin}
use Rattle.net_routes.specs.declared.Net.{Net}
use Rattle.net_routes.specs.declared.NetRoute.{NetRoute}
use Rattle.net_routes.specs.declared.NetRoute.TheVariants.{Straight, One, Two}
use Rattle.net_routes.specs.Pieces.{net_at, route_at}
use Rattle.net_routes.specs.GapFree.{StandsIn, IsFresh}
use Rattle.net_routes.specs.Standing.{StandsAt, IsUpright, AreApart}
use Rattle.route_slots.specs.Exchanges.{AreLaid, Blocks}
use Rattle.net_routes.specs.Exchanges.{swapped, exchanged, AreExchanged}
use Rattle.route_slots.proofs.Free.{AreKept, free}

-- the three cases of a slot
pub data Place (s t : ℕ) : Type 0 where
  at_first : t ≡ s → swapped s t ≡ s + 1 → Place s t
  at_second : t ≡ s + 1 → swapped s t ≡ s → Place s t
  at_other : t ≢ s → t ≢ s + 1 → swapped s t ≡ t → Place s t

swap_by : (s t : ℕ) (b c : Bool) → (t == s) ≡ b → (t == s + 1) ≡ c → swapped s t ≡ (if b then s + 1 else (if c then s else t))
unfolding swapped
swap_by s t b c e f = ap (λ z. if z then s + 1 else (if t == s + 1 then s else t)) e ∙ ap (λ z. if b then s + 1 else (if z then s else t)) f

pub place : (s t : ℕ) → Place s t
place s t =
    ⊎_elim
    (λ (e : t ≡ s). at_first e (swap_by s t true (t == s + 1) (eq-eqb t s e) refl))
    (λ (n : t ≢ s). ⊎_elim
    (λ (e : t ≡ s + 1). at_second e (swap_by s t false true (ne_eqb t s n) (eq-eqb t (s + 1) e)))
    (λ (m : t ≢ s + 1). at_other n m (swap_by s t false false (ne_eqb t s n) (ne_eqb t (s + 1) m)))
    (cases_eq t (s + 1)))
    (cases_eq t s)

swap_first : (s : ℕ) → swapped s s ≡ s + 1
swap_first s = swap_by s s true (s == s + 1) (eq-eqb s s refl) refl

swap_second : (s : ℕ) → swapped s (s + 1) ≡ s
swap_second s = swap_by s (s + 1) false true (ne_eqb (s + 1) s (omega arith)) (eq-eqb (s + 1) (s + 1) refl)

pub swap_back : (s t u : ℕ) → swapped s t ≡ u → t ≡ swapped s u
swap_back s t u e = by (place s t)
  where
    by : Place s t → t ≡ swapped s u
    by (at_first a b) = a ∙ sym (swap_second s) ∙ ap (swapped s) (sym b ∙ e)
    by (at_second a b) = a ∙ sym (swap_first s) ∙ ap (swapped s) (sym b ∙ e)
    by (at_other m n b) = sym b ∙ ap (swapped s) (sym b ∙ e)

swap_below : (s t count : ℕ) → s + 1 < count → swapped s t < count → t < count
swap_below s t count l h = by (place s t)
  where
    by : Place s t → t < count
    by (at_first a b) = omega arith
    by (at_second a b) = omega arith
    by (at_other m n b) = omega arith

swap_above : (s t count : ℕ) → s + 1 < count → t < count → swapped s t < count
swap_above s t count l h = by (place s t)
  where
    by : Place s t → swapped s t < count
    by (at_first a b) = omega arith
    by (at_second a b) = omega arith
    by (at_other m n b) = omega arith

-- only the two slots change their order
swap_order : (s a b : ℕ) → swapped s a ≤ swapped s b → (a ≤ b) ⊎ ((swapped s a ≡ s) × (swapped s b ≡ s + 1))
swap_order s a b h = by (place s a) (place s b)
  where
    by : Place s a → Place s b → (a ≤ b) ⊎ ((swapped s a ≡ s) × (swapped s b ≡ s + 1))
    by (at_first c d) (at_first e f) = inl (omega arith)
    by (at_first c d) (at_second e f) = inl (omega arith)
    by (at_first c d) (at_other m n f) = inl (omega arith)
    by (at_second c d) (at_first e f) = inr (d, f)
    by (at_second c d) (at_second e f) = inl (omega arith)
    by (at_second c d) (at_other m n f) = inl (omega arith)
    by (at_other m n d) (at_first e f) = inl (omega arith)
    by (at_other m n d) (at_second e f) = inl (omega arith)
    by (at_other m n d) (at_other p q f) = inl (omega arith)

stands_in : (s : ℕ) (r : NetRoute) (t : ℕ) → StandsIn (exchanged s r) t → StandsIn r (swapped s t)
unfolding exchanged
stands_in s Straight t h = h
stands_in s (One u) t h = swap_back s u t h
stands_in s (Two u h v) t x = ⊎_elim (λ a. inl (swap_back s u t a)) (λ a. inr (swap_back s v t a)) x

stands_in_back : (s : ℕ) (r : NetRoute) (t : ℕ) → StandsIn r (swapped s t) → StandsIn (exchanged s r) t
unfolding exchanged
stands_in_back s Straight t h = h
stands_in_back s (One u) t h = sym (swap_back s t u (sym h))
stands_in_back s (Two u h v) t x = ⊎_elim (λ a. inl (sym (swap_back s t u (sym a)))) (λ a. inr (sym (swap_back s t v (sym a)))) x

stands_at : (s : ℕ) (n : Net) (r : NetRoute) (p : Pin) (t : ℕ) → StandsAt n (exchanged s r) p t → StandsAt n r p (swapped s t)
unfolding exchanged
stands_at s n Straight p t h = h
stands_at s n (One u) p t h = (h.0, swap_back s u t h.1)
stands_at s n (Two u h v) p t x = ⊎_elim (λ a. inl (a.0, swap_back s u t a.1)) (λ a. inr (a.0, swap_back s v t a.1)) x

stands_at_back : (s : ℕ) (n : Net) (r : NetRoute) (p : Pin) (t : ℕ) → StandsAt n r p (swapped s t) → StandsAt n (exchanged s r) p t
unfolding exchanged
stands_at_back s n Straight p t h = h
stands_at_back s n (One u) p t h = (h.0, sym (swap_back s t u (sym h.1)))
stands_at_back s n (Two u h v) p t x = ⊎_elim (λ a. inl (a.0, sym (swap_back s t u (sym a.1)))) (λ a. inr (a.0, sym (swap_back s t v (sym a.1)))) x

upright_at : (s : ℕ) (n : Net) (r : NetRoute) (t : ℕ) (x y : ℤ) → IsUpright n (exchanged s r) t x y → IsUpright n r (swapped s t) x y
unfolding exchanged
upright_at s n Straight t x y h = h
upright_at s n (One u) t x y h = (swap_back s u t h.0, h.1, h.2)
upright_at s n (Two u h v) t x y z = ⊎_elim (λ a. inl (swap_back s u t a.0, a.1, a.2)) (λ a. inr (swap_back s v t a.0, a.1, a.2)) z

straight_back : (s : ℕ) (r : NetRoute) → exchanged s r ≡ Straight → r ≡ Straight
unfolding exchanged
straight_back s Straight e = refl
straight_back s (One t) e = absurd (let bad : One (swapped s t) ≡ Straight = e in cc)
straight_back s (Two t h u) e = absurd (let bad : Two (swapped s t) h (swapped s u) ≡ Straight = e in cc)

straight_stays : (s : ℕ) (r : NetRoute) → r ≡ Straight → exchanged s r ≡ Straight
unfolding exchanged
straight_stays s r e = ap (exchanged s) e

two_back : (s : ℕ) (r : NetRoute) (a : ℕ) (h : ℤ) (b : ℕ) → exchanged s r ≡ Two a h b → r ≡ Two (swapped s a) h (swapped s b)
unfolding exchanged
two_back s Straight a h b e = absurd (let bad : Straight ≡ Two a h b = e in cc)
two_back s (One t) a h b e = absurd (let bad : One (swapped s t) ≡ Two a h b = e in cc)
two_back s (Two t g u) a h b e =
    let whole : Two (swapped s t) g (swapped s u) ≡ Two a h b = e in
    let first : swapped s t ≡ a = cc in
    let middle : g ≡ h = cc in
    let second : swapped s u ≡ b = cc in
    ap (λ z. Two z g u) (swap_back s t a first) ∙ ap (λ z. Two (swapped s a) z u) middle ∙ ap (λ z. Two (swapped s a) h z) (swap_back s u b second)

module _ (nets : List Net) (count s : ℕ) (old new : List NetRoute) (swaps : AreExchanged s old new) (same : length old ≡ length nets) where
  route : (k : ℕ) → k < length nets → route_at new k ≡ exchanged s (route_at old k)
  route k l = swaps.each k (subst (λ z. k < z) (sym same) l)

  at_pin : (k : ℕ) (p : Pin) (t : ℕ) → k < length nets → StandsAt (net_at nets k) (route_at new k) p t → StandsAt (net_at nets k) (route_at old k) p (swapped s t)
  at_pin k p t l x = stands_at s (net_at nets k) (route_at old k) p t (subst (λ r. StandsAt (net_at nets k) r p t) (route k l) x)

  abbrev Blocked : ℕ → ℕ → Type 0
  Blocked j k = Blocks (net_at nets j) (route_at old j) (net_at nets k) (route_at old k) s

  -- segments keep apart after the exchange, where no net blocks it
  pub apart_after : AreApart nets old → ((j k : ℕ) → j < length nets → k < length nets → j ≢ k → Blocked j k → ⊥) → AreApart nets new
  apart_after apart clear =
      record {
        order = λ j k p q a b jl kl ne x y pl ql e.
            let x' = at_pin j p a jl x in
            let y' = at_pin k q b kl y in
            ⊎_elim
            (λ l. l)
            (λ w. absurd (clear j k jl kl ne (record { left = p; right = q; first = subst (λ z. StandsAt (net_at nets j) (route_at old j) p z) w.0 x'; second = subst (λ z. StandsAt (net_at nets k) (route_at old k) q z) w.1 y'; on_left = pl; on_right = ql; one_height = e })))
            (swap_order s a b (apart.order j k p q (swapped s a) (swapped s b) jl kl ne x' y' pl ql e));
        uprights = λ j k t x y z w jl kl ne u v o.
            apart.uprights j k (swapped s t) x y z w jl kl ne
            (upright_at s (net_at nets j) (route_at old j) t x y (subst (λ r. IsUpright (net_at nets j) r t x y) (route j jl) u))
            (upright_at s (net_at nets k) (route_at old k) t z w (subst (λ r. IsUpright (net_at nets k) r t z w) (route k kl) v)) o;
      }

  -- and not where one does
  pub not_apart : AreApart nets new → (j k : ℕ) → j < length nets → k < length nets → j ≢ k → Blocked j k → ⊥
  not_apart apart j k jl kl ne b =
      let first = subst (λ r. StandsAt (net_at nets j) r b.left (s + 1)) (sym (route j jl)) (stands_at_back s (net_at nets j) (route_at old j) b.left (s + 1) (subst (λ z. StandsAt (net_at nets j) (route_at old j) b.left z) (sym (swap_second s)) b.first)) in
      let second = subst (λ r. StandsAt (net_at nets k) r b.right s) (sym (route k kl)) (stands_at_back s (net_at nets k) (route_at old k) b.right s (subst (λ z. StandsAt (net_at nets k) (route_at old k) b.right z) (sym (swap_first s)) b.second)) in
      let bad = apart.order j k b.left b.right (s + 1) s jl kl ne first second b.on_left b.on_right b.one_height in
      omega arith

  module _ (laid : AreLaid nets count old) (inside : s + 1 < count) (apart : AreApart nets new) where
    two : (k a : ℕ) (h : ℤ) (b : ℕ) → k < length nets → route_at new k ≡ Two a h b → route_at old k ≡ Two (swapped s a) h (swapped s b)
    two k a h b l e = two_back s (route_at old k) a h b (sym (route k l) ∙ e)

    fresh : (k a : ℕ) (h : ℤ) (b : ℕ) → k < length nets → route_at new k ≡ Two a h b → IsFresh nets new k a h b
    fresh k a h b l e =
        let was = laid.free.fresh k (swapped s a) h (swapped s b) l (two k a h b l e) in
        record {
          differ = λ z. was.differ (ap (swapped s) z);
          no_pin = was.no_pin;
          no_other = λ j a' h' b' jl ne f. was.no_other j (swapped s a') h' (swapped s b') jl ne (two j a' h' b' jl f);
          near = was.near;
        }

    slots_in : (k t : ℕ) → k < length nets → StandsIn (route_at new k) t → t < count
    slots_in k t l x = swap_below s t count inside (laid.free.slots_in k (swapped s t) l (stands_in s (route_at old k) t (subst (λ r. StandsIn r t) (route k l) x)))

    slots_used : (t : ℕ) → t < count → (k : ℕ) × (k < length nets) × StandsIn (route_at new k) t
    slots_used t l =
        let w = laid.free.slots_used (swapped s t) (swap_above s t count inside l) in
        (w.0, w.1, subst (λ r. StandsIn r t) (sym (route w.0 w.1)) (stands_in_back s (route_at old w.0) t w.2))

    pub laid_after : AreLaid nets count new
    laid_after =
        let kept : AreKept nets count new =
        record {
          apart = apart;
          slots_in = slots_in;
          depth = λ k l e. (laid.free.straight k l).0 (straight_back s (route_at old k) (sym (route k l) ∙ e));
          fresh = fresh;
        } in
        record {
          free =
              record {
                as_many = swaps.len ∙ same;
                slots_in = slots_in;
                slots_used = slots_used;
                straight = λ k l. (
                  λ e. (laid.free.straight k l).0 (straight_back s (route_at old k) (sym (route k l) ∙ e)),
                  λ v. route k l ∙ straight_stays s (route_at old k) ((laid.free.straight k l).1 v),
                );
                fresh = fresh;
                free = free nets count new kept;
              };
          apart = apart;
          splits = λ k a h b l e. laid.splits k (swapped s a) h (swapped s b) l (two k a h b l e);
        }
