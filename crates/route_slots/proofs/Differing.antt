-- What the exchange of two neighbouring slots changes of the crossings.
use Rattle.std.proofs.Common.{◌≡◌, ◌≢◌, ◌∙◌, ⊎_elim, ℕ, ◌+◌, ◌<◌, ◌≤◌, Bool, true, false, ◌&&◌, List, ℤ, length, refl, sym, ap, subst, arith, if◌then◌else◌, nat_lt, ◌==◌}
use Rattle.std.proofs.lemmas.Bool.{cases_lt, cases_eq, eq-eqb, lt-ltb, le-ltb}
use Rattle.net_routes.specs.declared.Pin.{Pin}
use Rattle.net_routes.specs.declared.Net.{Net}
use Rattle.net_routes.specs.declared.NetRoute.{NetRoute}
use Rattle.net_routes.specs.declared.NetRoute.TheVariants.{Straight, One, Two}
use Rattle.net_routes.specs.Pieces.{net_at, route_at}
use Rattle.net_routes.specs.Crossings.{sum_to, is_over, passes, is_between, one, pin_cut, bar_cut, cuts, cut, cut_at, upright, crossings}
use Rattle.route_slots.specs.Exchanges.{is_near, touches, near_before, near_after, row_before, row_after, all_before, all_after}
use Rattle.net_routes.specs.Exchanges.{swapped, exchanged, AreExchanged}
use Rattle.route_slots.proofs.Swapping.{Place, at_first, at_second, at_other, place}
use Rattle.net_routes.proofs.Summing.{sum_moved, sum_same}

-- neither of the two slots
abbrev IsOff : ℕ → ℕ → Type 0
IsOff s t = (t ≢ s) × (t ≢ s + 1)

true_false : {X : Type 0} → true ≡ false → X
true_false e = absurd (let bad : true ≡ false = e in cc)

off : (s t : ℕ) → is_near s t ≡ false → IsOff s t
unfolding is_near
off s t e = (
  λ f. true_false (sym (ap (λ z. if z then true else t == s + 1) (eq-eqb t s f)) ∙ e),
  λ f. true_false (sym (near_second (t == s) (t == s + 1) (eq-eqb t (s + 1) f)) ∙ e),
)
  where
    near_second : (a b : Bool) → b ≡ true → (if a then true else b) ≡ true
    near_second true b f = refl
    near_second false b f = f

stays : (s t : ℕ) → IsOff s t → swapped s t ≡ t
stays s t o = by (place s t)
  where
    by : Place s t → swapped s t ≡ t
    by (at_first a b) = absurd (o.0 a)
    by (at_second a b) = absurd (o.1 a)
    by (at_other m n b) = b

lt_same : (a b c d : ℕ) → (a < b → c < d) → (c < d → a < b) → nat_lt a b ≡ nat_lt c d
lt_same a b c d f g =
    ⊎_elim
    (λ (l : a < b). lt-ltb a b l ∙ sym (lt-ltb c d (f l)))
    (λ (l : b ≤ a). ⊎_elim
    (λ (m : c < d). let bad = g m in absurd (omega arith))
    (λ (m : d ≤ c). le-ltb a b l ∙ sym (le-ltb c d m))
    (cases_lt c d))
    (cases_lt a b)

lt_left : (s t u : ℕ) → IsOff s t → nat_lt (swapped s u) t ≡ nat_lt u t
lt_left s t u o = by (place s u)
  where
    by : Place s u → nat_lt (swapped s u) t ≡ nat_lt u t
    by (at_first a b) = let n = o.0 in let m = o.1 in lt_same (swapped s u) t u t (λ h. omega arith) (λ h. ⊎_elim (λ (e : t ≡ s + 1). absurd (m e)) (λ (w : t ≢ s + 1). omega arith) (cases_eq t (s + 1)))
    by (at_second a b) = let n = o.0 in let m = o.1 in lt_same (swapped s u) t u t (λ h. ⊎_elim (λ (e : t ≡ s + 1). absurd (m e)) (λ (w : t ≢ s + 1). omega arith) (cases_eq t (s + 1))) (λ h. omega arith)
    by (at_other m n b) = ap (λ z. nat_lt z t) b

lt_right : (s t u : ℕ) → IsOff s t → nat_lt t (swapped s u) ≡ nat_lt t u
lt_right s t u o = by (place s u)
  where
    by : Place s u → nat_lt t (swapped s u) ≡ nat_lt t u
    by (at_first a b) = let m = o.0 in lt_same t (swapped s u) t u (λ h. ⊎_elim (λ (e : t ≡ s). absurd (m e)) (λ (w : t ≢ s). omega arith) (cases_eq t s)) (λ h. omega arith)
    by (at_second a b) = let m = o.0 in lt_same t (swapped s u) t u (λ h. omega arith) (λ h. ⊎_elim (λ (e : t ≡ s). absurd (m e)) (λ (w : t ≢ s). omega arith) (cases_eq t s))
    by (at_other m n b) = ap (λ z. nat_lt t z) b

-- a line passes a segment as before, where the line's or the segment's slots are neither of the two
pass_moved : (s : ℕ) (b : Bool) (t u : ℕ) → IsOff s t → passes b t (swapped s u) ≡ passes b t u
unfolding passes
pass_moved s true t u o = lt_left s t u o
pass_moved s false t u o = lt_right s t u o

pass_flipped : (s : ℕ) (b : Bool) (t u : ℕ) → IsOff s u → passes b (swapped s t) u ≡ passes b t u
unfolding passes
pass_flipped s true t u o = lt_right s u t o
pass_flipped s false t u o = lt_left s u t o

four : (a b c d a' b' c' d' : Bool) → a ≡ a' → b ≡ b' → c ≡ c' → d ≡ d' → (if a then b else c && d) ≡ (if a' then b' else c' && d')
four a b c d a' b' c' d' e f g h =
    ap (λ z. if z then b else c && d) e ∙ ap (λ z. if a' then z else c && d) f ∙ ap (λ z. if a' then b' else z && d) g ∙ ap (λ z. if a' then b' else c' && z) h

between_moved : (s a b u : ℕ) → IsOff s a → IsOff s b → is_between a b (swapped s u) ≡ is_between a b u
unfolding is_between
between_moved s a b u oa ob = four _ _ _ _ _ _ _ _ (lt_right s a u oa) (lt_left s b u ob) (lt_right s b u ob) (lt_left s a u oa)

between_flipped : (s a b u : ℕ) → IsOff s u → is_between (swapped s a) (swapped s b) u ≡ is_between a b u
unfolding is_between
between_flipped s a b u o = four _ _ _ _ _ _ _ _ (lt_left s u a o) (lt_right s u b o) (lt_left s u b o) (lt_right s u a o)

pin_moved : (s : ℕ) (p : Pin) (t u : ℕ) (x y : ℤ) → IsOff s t → pin_cut p t (upright (swapped s u) x y) ≡ pin_cut p t (upright u x y)
unfolding pin_cut
pin_moved s p t u x y o = ap (λ z. if z then one (is_over x y p.height) else 0) (pass_moved s p.on_left t u o)

pin_flipped : (s : ℕ) (p : Pin) (t u : ℕ) (x y : ℤ) → IsOff s u → pin_cut p (swapped s t) (upright u x y) ≡ pin_cut p t (upright u x y)
unfolding pin_cut
pin_flipped s p t u x y o = ap (λ z. if z then one (is_over x y p.height) else 0) (pass_flipped s p.on_left t u o)

bar_moved : (s a : ℕ) (h : ℤ) (b u : ℕ) (x y : ℤ) → IsOff s a → IsOff s b → bar_cut a h b (upright (swapped s u) x y) ≡ bar_cut a h b (upright u x y)
unfolding bar_cut
bar_moved s a h b u x y oa ob = ap (λ z. if z then one (is_over x y h) else 0) (between_moved s a b u oa ob)

bar_flipped : (s a : ℕ) (h : ℤ) (b u : ℕ) (x y : ℤ) → IsOff s u → bar_cut (swapped s a) h (swapped s b) (upright u x y) ≡ bar_cut a h b (upright u x y)
unfolding bar_cut
bar_flipped s a h b u x y o = ap (λ z. if z then one (is_over x y h) else 0) (between_flipped s a b u o)

-- slots of a net that has no segment in the two
first_off : (s t u : ℕ) → (if is_near s t then true else is_near s u) ≡ false → IsOff s t × IsOff s u
first_off s t u e = by (is_near s t) (is_near s u) refl refl e
  where
    by : (a b : Bool) → is_near s t ≡ a → is_near s u ≡ b → (if is_near s t then true else is_near s u) ≡ false → IsOff s t × IsOff s u
    by true b f g h = true_false (sym (ap (λ z. if z then true else is_near s u) f) ∙ h)
    by false true f g h = true_false (sym (ap (λ z. if z then true else is_near s u) f ∙ g) ∙ h)
    by false false f g h = (off s t f, off s u g)

untouched : (s : ℕ) (r : NetRoute) → touches s r ≡ false → exchanged s r ≡ r
unfolding exchanged touches
untouched s Straight e = refl
untouched s (One t) e = ap One (stays s t (off s t e))
untouched s (Two t h u) e = let o = first_off s t u e in ap (λ z. Two z h (swapped s u)) (stays s t o.0) ∙ ap (λ z. Two t h z) (stays s u o.1)

cuts_moved : (s : ℕ) (n : Net) (q : NetRoute) (u : ℕ) (x y : ℤ) → touches s q ≡ false → cuts n q (upright (swapped s u) x y) ≡ cuts n q (upright u x y)
unfolding cuts touches
cuts_moved s n Straight u x y e = refl
cuts_moved s n (One t) u x y e =
    let a = pin_moved s n.a t u x y (off s t e) in let b = pin_moved s n.b t u x y (off s t e) in omega arith
cuts_moved s n (Two t h v) u x y e =
    let o = first_off s t v e in
    let a = pin_moved s n.a t u x y o.0 in let b = pin_moved s n.b v u x y o.1 in let c = bar_moved s t h v u x y o.0 o.1 in omega arith

cuts_flipped : (s : ℕ) (n : Net) (q : NetRoute) (u : ℕ) (x y : ℤ) → IsOff s u → cuts n (exchanged s q) (upright u x y) ≡ cuts n q (upright u x y)
unfolding cuts exchanged
cuts_flipped s n Straight u x y o = refl
cuts_flipped s n (One t) u x y o =
    let a = pin_flipped s n.a t u x y o in let b = pin_flipped s n.b t u x y o in omega arith
cuts_flipped s n (Two t h v) u x y o =
    let a = pin_flipped s n.a t u x y o in let b = pin_flipped s n.b v u x y o in let c = bar_flipped s t h v u x y o in omega arith

-- two nets cross as before, where one of them has no segment in the two slots
line_off : (s : ℕ) (m : Net) (r : NetRoute) (n : Net) (q : NetRoute) → touches s q ≡ false → cut m (exchanged s r) n (exchanged s q) ≡ cut m r n q
unfolding cut exchanged
line_off s m r n q e = ap (cut m (exchanged s r) n) (untouched s q e) ∙ by r
  where
    by : (r : NetRoute) → cut m (exchanged s r) n q ≡ cut m r n q
    by Straight = refl
    by (One t) = cuts_moved s n q t m.a.height m.b.height e
    by (Two t h u) = let a = cuts_moved s n q t m.a.height h e in let b = cuts_moved s n q u h m.b.height e in omega arith

segment_off : (s : ℕ) (m : Net) (r : NetRoute) (n : Net) (q : NetRoute) → touches s r ≡ false → cut m (exchanged s r) n (exchanged s q) ≡ cut m r n q
unfolding cut touches
segment_off s m r n q e = ap (λ z. cut m z n (exchanged s q)) (untouched s r e) ∙ by r e
  where
    by : (r : NetRoute) → touches s r ≡ false → cut m r n (exchanged s q) ≡ cut m r n q
    by Straight f = refl
    by (One t) f = cuts_flipped s n q t m.a.height m.b.height (off s t f)
    by (Two t h u) f = let o = first_off s t u f in let a = cuts_flipped s n q t m.a.height h o.0 in let b = cuts_flipped s n q u h m.b.height o.1 in omega arith

before_is : (m : Net) (r : NetRoute) (n : Net) (q : NetRoute) (s : ℕ) (b : Bool) → touches s q ≡ b → near_before m r n q s ≡ (if b then cut m r n q else 0)
unfolding near_before
before_is m r n q s b e = ap (λ z. if z then cut m r n q else 0) e

after_is : (m : Net) (r : NetRoute) (n : Net) (q : NetRoute) (s : ℕ) (b : Bool) → touches s q ≡ b → near_after m r n q s ≡ (if b then cut m (exchanged s r) n (exchanged s q) else 0)
unfolding near_after
after_is m r n q s b e = ap (λ z. if z then cut m (exchanged s r) n (exchanged s q) else 0) e

pair : (m : Net) (r : NetRoute) (n : Net) (q : NetRoute) (s : ℕ) → cut m (exchanged s r) n (exchanged s q) + near_before m r n q s ≡ cut m r n q + near_after m r n q s
pair m r n q s = by (touches s q) refl
  where
    by : (b : Bool) → touches s q ≡ b → cut m (exchanged s r) n (exchanged s q) + near_before m r n q s ≡ cut m r n q + near_after m r n q s
    by true e = let x = before_is m r n q s true e in let y = after_is m r n q s true e in omega arith
    by false e = let x = before_is m r n q s false e in let y = after_is m r n q s false e in let z = line_off s m r n q e in omega arith

pub changed : (nets : List Net) (s : ℕ) (old new : List NetRoute) → AreExchanged s old new → length old ≡ length nets
    → crossings nets new + all_before nets old s (length nets) ≡ crossings nets old + all_after nets old s (length nets)
changed nets s old new swaps same =
    sum_moved
    (λ j. sum_to (cut_at nets new j) (length nets))
    (λ j. if touches s (route_at old j) then row_before nets old s j (length nets) else 0)
    (λ j. sum_to (cut_at nets old j) (length nets))
    (λ j. if touches s (route_at old j) then row_after nets old s j (length nets) else 0)
    (length nets) (λ j l. row j l (touches s (route_at old j)) refl)
  where
    is : (j k : ℕ) → j < length nets → k < length nets → cut_at nets new j k ≡ cut (net_at nets j) (exchanged s (route_at old j)) (net_at nets k) (exchanged s (route_at old k))
    is j k jl kl =
        ap (λ z. cut (net_at nets j) z (net_at nets k) (route_at new k)) (swaps.each j (subst (λ z. j < z) (sym same) jl))
        ∙ ap (λ z. cut (net_at nets j) (exchanged s (route_at old j)) (net_at nets k) z) (swaps.each k (subst (λ z. k < z) (sym same) kl))

    row : (j : ℕ) → j < length nets → (b : Bool) → touches s (route_at old j) ≡ b
        → sum_to (cut_at nets new j) (length nets) + (if touches s (route_at old j) then row_before nets old s j (length nets) else 0)
        ≡ sum_to (cut_at nets old j) (length nets) + (if touches s (route_at old j) then row_after nets old s j (length nets) else 0)
    row j jl true e =
        let x = ap (λ z. if z then row_before nets old s j (length nets) else 0) e in
        let y = ap (λ z. if z then row_after nets old s j (length nets) else 0) e in
        let w =
        sum_moved (cut_at nets new j)
        (λ k. near_before (net_at nets j) (route_at old j) (net_at nets k) (route_at old k) s)
        (cut_at nets old j)
        (λ k. near_after (net_at nets j) (route_at old j) (net_at nets k) (route_at old k) s)
        (length nets)
        (λ k kl. let i = is j k jl kl in let p = pair (net_at nets j) (route_at old j) (net_at nets k) (route_at old k) s in omega arith) in
        omega arith
    row j jl false e =
        let x = ap (λ z. if z then row_before nets old s j (length nets) else 0) e in
        let y = ap (λ z. if z then row_after nets old s j (length nets) else 0) e in
        let w = sum_same (cut_at nets new j) (cut_at nets old j) (length nets) (λ k kl. is j k jl kl ∙ segment_off s (net_at nets j) (route_at old j) (net_at nets k) (route_at old k) e) in
        omega arith
