-- Nets that hold others back from an exchange.
use Rattle.std.proofs.Common.{◌≡◌, ◌≢◌, ◌∙◌, ◌⊎◌, ⊎_elim, inl, inr, ℕ, ◌+◌, Bool, true, false, ◌&&◌, ◌||◌, List, refl, sym, ap, subst, if◌then◌else◌}
use Rattle.std.proofs.lemmas.Bool.{cases_eq, eqb-true, ne_eqb, eq-eqb, and_parts, and_from, or_cases, or_left, or_right}
use Rattle.std.proofs.lemmas.Bool.Decides.{Decides-int_eq}
use Rattle.std.specs.Ordering.{int_eq}
use Rattle.net_routes.specs.declared.Pin.{Pin}
use Rattle.net_routes.specs.declared.Net.{Net}
use Rattle.net_routes.specs.declared.NetRoute.{NetRoute}
use Rattle.net_routes.specs.declared.NetRoute.TheVariants.{Straight, One, Two}
use Rattle.net_routes.specs.Pieces.{net_at, route_at}
use Rattle.net_routes.specs.Standing.{StandsAt}
use Rattle.route_slots.specs.Exchanges.{Blocks, at_a, at_b, meets, meets_in, blocks, holds_back}

abbrev pub Meet : Pin → Pin → Type 0
Meet p q = (p.on_left ≡ true) × (q.on_left ≡ false) × (p.height ≡ q.height)

pub meet : (p q : Pin) → meets p q ≡ true → Meet p q
unfolding meets
meet p q e = by p.on_left q.on_left refl refl e
  where
    by : (a b : Bool) → p.on_left ≡ a → q.on_left ≡ b → (if p.on_left then (if q.on_left then false else int_eq p.height q.height) else false) ≡ true → Meet p q
    by true true f g h = absurd (let bad : false ≡ true = sym (ap (λ z. if z then (if q.on_left then false else int_eq p.height q.height) else false) f ∙ ap (λ z. if z then false else int_eq p.height q.height) g) ∙ h in cc)
    by true false f g h = (f, g, let k : int_eq p.height q.height ≡ true = sym (ap (λ z. if z then (if q.on_left then false else int_eq p.height q.height) else false) f ∙ ap (λ z. if z then false else int_eq p.height q.height) g) ∙ h in (Decides-int_eq p.height q.height).0 k)
    by false b f g h = absurd (let bad : false ≡ true = sym (ap (λ z. if z then (if q.on_left then false else int_eq p.height q.height) else false) f) ∙ h in cc)

pub meet_back : (p q : Pin) → Meet p q → meets p q ≡ true
unfolding meets
meet_back p q m =
    ap (λ z. if z then (if q.on_left then false else int_eq p.height q.height) else false) m.0
    ∙ ap (λ z. if z then false else int_eq p.height q.height) m.1
    ∙ (Decides-int_eq p.height q.height).1 m.2

stands_a : (n : Net) (r : NetRoute) (s : ℕ) → at_a r s ≡ true → StandsAt n r n.a s
unfolding at_a
stands_a n Straight s e = absurd (let bad : false ≡ true = e in cc)
stands_a n (One t) s e = (inl refl, eqb-true t s e)
stands_a n (Two t h u) s e = inl (refl, eqb-true t s e)

stands_b : (n : Net) (r : NetRoute) (s : ℕ) → at_b r s ≡ true → StandsAt n r n.b s
unfolding at_b
stands_b n Straight s e = absurd (let bad : false ≡ true = e in cc)
stands_b n (One t) s e = (inr refl, eqb-true t s e)
stands_b n (Two t h u) s e = inr (refl, eqb-true u s e)

which : (n : Net) (r : NetRoute) (p : Pin) (s : ℕ) → StandsAt n r p s → ((n.a ≡ p) × (at_a r s ≡ true)) ⊎ ((n.b ≡ p) × (at_b r s ≡ true))
unfolding at_a at_b
which n Straight p s x = absurd x
which n (One t) p s x = ⊎_elim (λ e. inl (e, eq-eqb t s x.1)) (λ e. inr (e, eq-eqb t s x.1)) x.0
which n (Two t h u) p s x = ⊎_elim (λ a. inl (a.0, eq-eqb t s a.1)) (λ a. inr (a.0, eq-eqb u s a.1)) x

abbrev MeetIn : Pin → Net → NetRoute → ℕ → Type 0
MeetIn p n q t = (r : Pin) × StandsAt n q r t × Meet p r

meet_in : (p : Pin) (n : Net) (q : NetRoute) (t : ℕ) → meets_in p n q t ≡ true → MeetIn p n q t
unfolding meets_in
meet_in p n q t e =
    ⊎_elim
    (λ x. let w = and_parts (at_a q t) (meets p n.a) x in (n.a, stands_a n q t w.0, meet p n.a w.1))
    (λ x. let w = and_parts (at_b q t) (meets p n.b) x in (n.b, stands_b n q t w.0, meet p n.b w.1))
    (or_cases (at_a q t && meets p n.a) (at_b q t && meets p n.b) e)

meet_in_back : (p : Pin) (n : Net) (q : NetRoute) (t : ℕ) (r : Pin) → StandsAt n q r t → Meet p r → meets_in p n q t ≡ true
unfolding meets_in
meet_in_back p n q t r x m =
    ⊎_elim
    (λ (w : (n.a ≡ r) × (at_a q t ≡ true)). or_left (at_a q t && meets p n.a) (at_b q t && meets p n.b) (and_from (at_a q t) (meets p n.a) w.1 (subst (λ z. meets p z ≡ true) (sym w.0) (meet_back p r m))))
    (λ (w : (n.b ≡ r) × (at_b q t ≡ true)). or_right (at_a q t && meets p n.a) (at_b q t && meets p n.b) (and_from (at_b q t) (meets p n.b) w.1 (subst (λ z. meets p z ≡ true) (sym w.0) (meet_back p r m))))
    (which n q r t x)

block : (m : Net) (r : NetRoute) (n : Net) (q : NetRoute) (s : ℕ) → blocks m r n q s ≡ true → Blocks m r n q s
unfolding blocks
block m r n q s e =
    ⊎_elim
    (λ x. let w = and_parts (at_a r s) (meets_in m.a n q (s + 1)) x in from m.a (stands_a m r s w.0) (meet_in m.a n q (s + 1) w.1))
    (λ x. let w = and_parts (at_b r s) (meets_in m.b n q (s + 1)) x in from m.b (stands_b m r s w.0) (meet_in m.b n q (s + 1) w.1))
    (or_cases (at_a r s && meets_in m.a n q (s + 1)) (at_b r s && meets_in m.b n q (s + 1)) e)
  where
    from : (p : Pin) → StandsAt m r p s → MeetIn p n q (s + 1) → Blocks m r n q s
    from p x w = let o = w.2 in record { left = p; right = w.0; first = x; second = w.1; on_left = o.0; on_right = o.1; one_height = o.2 }

block_back : (m : Net) (r : NetRoute) (n : Net) (q : NetRoute) (s : ℕ) → Blocks m r n q s → blocks m r n q s ≡ true
unfolding blocks
block_back m r n q s b =
    let met = meet_in_back b.left n q (s + 1) b.right b.second (b.on_left, b.on_right, b.one_height) in
    ⊎_elim
    (λ (w : (m.a ≡ b.left) × (at_a r s ≡ true)). or_left (at_a r s && meets_in m.a n q (s + 1)) (at_b r s && meets_in m.b n q (s + 1)) (and_from (at_a r s) (meets_in m.a n q (s + 1)) w.1 (subst (λ z. meets_in z n q (s + 1) ≡ true) (sym w.0) met)))
    (λ (w : (m.b ≡ b.left) × (at_b r s ≡ true)). or_right (at_a r s && meets_in m.a n q (s + 1)) (at_b r s && meets_in m.b n q (s + 1)) (and_from (at_b r s) (meets_in m.b n q (s + 1)) w.1 (subst (λ z. meets_in z n q (s + 1) ≡ true) (sym w.0) met)))
    (which m r b.left s b.first)

pub held : (nets : List Net) (routes : List NetRoute) (s j k : ℕ) → holds_back nets routes s j k ≡ true → (j ≢ k) × Blocks (net_at nets j) (route_at routes j) (net_at nets k) (route_at routes k) s
unfolding holds_back
held nets routes s j k e =
    ⊎_elim
    (λ (f : j ≡ k). absurd (let bad : false ≡ true = sym (ap (λ z. if z then false else blocks (net_at nets j) (route_at routes j) (net_at nets k) (route_at routes k) s) (eq-eqb j k f)) ∙ e in cc))
    (λ (n : j ≢ k). (n, block (net_at nets j) (route_at routes j) (net_at nets k) (route_at routes k) s (sym (ap (λ z. if z then false else blocks (net_at nets j) (route_at routes j) (net_at nets k) (route_at routes k) s) (ne_eqb j k n)) ∙ e)))
    (cases_eq j k)

pub not_held : (nets : List Net) (routes : List NetRoute) (s j k : ℕ) → holds_back nets routes s j k ≡ false → j ≢ k → Blocks (net_at nets j) (route_at routes j) (net_at nets k) (route_at routes k) s → ⊥
unfolding holds_back
not_held nets routes s j k e n b =
    let t = block_back (net_at nets j) (route_at routes j) (net_at nets k) (route_at routes k) s b in
    let bad : true ≡ false = sym t ∙ sym (ap (λ z. if z then false else blocks (net_at nets j) (route_at routes j) (net_at nets k) (route_at routes k) s) (ne_eqb j k n)) ∙ e in cc

idle_block : (m : Net) (r : NetRoute) (n : Net) (q : NetRoute) (s : ℕ) → at_a r s ≡ false → at_b r s ≡ false → blocks m r n q s ≡ false
unfolding blocks
idle_block m r n q s a b =
    ap (λ z. (z && meets_in m.a n q (s + 1)) || (at_b r s && meets_in m.b n q (s + 1))) a
    ∙ ap (λ z. z && meets_in m.b n q (s + 1)) b

-- a net with no segment in the slot holds none back
pub idle : (nets : List Net) (routes : List NetRoute) (s j k : ℕ) → at_a (route_at routes j) s ≡ false → at_b (route_at routes j) s ≡ false → holds_back nets routes s j k ≡ false
unfolding holds_back
idle nets routes s j k a b =
    ⊎_elim
    (λ (f : j ≡ k). ap (λ z. if z then false else blocks (net_at nets j) (route_at routes j) (net_at nets k) (route_at routes k) s) (eq-eqb j k f))
    (λ (n : j ≢ k). ap (λ z. if z then false else blocks (net_at nets j) (route_at routes j) (net_at nets k) (route_at routes k) s) (ne_eqb j k n)
    ∙ idle_block (net_at nets j) (route_at routes j) (net_at nets k) (route_at routes k) s a b)
    (cases_eq j k)
