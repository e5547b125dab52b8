-- What is promised of the slots of a gap holds of them where the gap is moved as a whole.
use Rattle.std.proofs.Common.{◌≡◌, ◌∙◌, ⊎_elim, inl, inr, ℕ, zero, suc, ◌+◌, ◌<◌, ◌≤◌, List, [], ◌∷◌, map, length, ℤ, neg_ℤ, ◌-ℤ◌, ◌<ℤ◌, arith, refl, sym, ap, ap₂, subst, slice_index}
use Rattle.std.specs.Int.{int_min, int_max}
use Rattle.std.proofs.lemmas.Int.{ints, clamps}
use Rattle.std.proofs.lemmas.List.{length-map}
use Rattle.net_routes.specs.declared.Pin.{Pin}
use Rattle.net_routes.specs.declared.Net.{Net}
use Rattle.net_routes.specs.declared.NetRoute.{NetRoute}
use Rattle.net_routes.specs.declared.NetRoute.TheVariants.{Straight, One, Two}
use Rattle.net_routes.specs.Pieces.{net_at, route_at}
use Rattle.net_routes.specs.GapFree.{HasPin, IsStraightNet}
use Rattle.net_routes.specs.Conflicts.{Conflict, AreInConflict, HasNoConflict, HasAtMostOneConflict, SplitsOnCycles}
use Rattle.net_routes.specs.Density.{Contains, MeetAt, IsDensity}
use Rattle.net_routes.specs.Standing.{StandsAt, IsUpright, StretchesOverlap, AreApart}
use Rattle.net_routes.specs.Crossings.{sum_to, cut_at, crossings}
use Rattle.net_routes.specs.Exchanges.{exchanged, AreExchanged, NoBetterExchange}
use Rattle.net_routes.specs.Uncrossed.{asked, in_order, Precedes, IsOrderable, CrossAsAsked}
use Rattle.net_routes.specs.Moved.{moved_pin, moved_net, moved_route}
use Rattle.net_routes.specs.Limits.{exchange_limit}
use Rattle.net_routes.specs.Promised.{AreFewest, AreUncrossed}
use Rattle.net_routes.proofs.Summing.{sum_same}
use Rattle.net_routes.proofs.Asking.{same_pin}
use Rattle.net_routes.proofs.GapMoves.{same_height, less_min, min_moves, max_moves, has_pin, two_back, net_moves, gap_moves}
use Rattle.net_routes.proofs.CountMoves.{cut_moves, asked_moves, in_order_moves}

abbrev moved_nets : ℤ → List Net → List Net
moved_nets y nets = map (moved_net y) nets

abbrev moved_routes : ℤ → List NetRoute → List NetRoute
moved_routes y routes = map (moved_route y) routes

-- moved and moved back

height_round : (y h : ℤ) → (h -ℤ y) -ℤ neg_ℤ y ≡ h
height_round y h = omega (arith, ints)

pin_round : (y : ℤ) (p : Pin) → moved_pin (neg_ℤ y) (moved_pin y p) ≡ p
pin_round y p = same_pin (moved_pin (neg_ℤ y) (moved_pin y p)) p refl (height_round y p.height)

abbrev net : Pin → Pin → Net
net p q = record { a = p; b = q }

net_round : (y : ℤ) (n : Net) → moved_net (neg_ℤ y) (moved_net y n) ≡ n
net_round y n = let e : net (moved_pin (neg_ℤ y) (moved_pin y n.a)) (moved_pin (neg_ℤ y) (moved_pin y n.b)) ≡ net n.a n.b = ap₂ net (pin_round y n.a) (pin_round y n.b) in e

route_round : (y : ℤ) (r : NetRoute) → moved_route (neg_ℤ y) (moved_route y r) ≡ r
route_round y Straight = refl
route_round y (One s) = refl
route_round y (Two s h t) = ap (λ z. Two s z t) (height_round y h)

nets_round : (y : ℤ) (nets : List Net) → moved_nets (neg_ℤ y) (moved_nets y nets) ≡ nets
nets_round y [] = refl
nets_round y (n ∷ ns) = ap₂ (λ (z : Net) (zs : List Net). z ∷ zs) (net_round y n) (nets_round y ns)

routes_round : (y : ℤ) (routes : List NetRoute) → moved_routes (neg_ℤ y) (moved_routes y routes) ≡ routes
routes_round y [] = refl
routes_round y (r ∷ rs) = ap₂ (λ (z : NetRoute) (zs : List NetRoute). z ∷ zs) (route_round y r) (routes_round y rs)

-- what holds of moved nets and routes wherever it holds of these holds of these wherever it holds of moved ones
back : (P : List Net → List NetRoute → Type 0) → ((y : ℤ) (nets : List Net) (routes : List NetRoute) → P nets routes → P (moved_nets y nets) (moved_routes y routes))
    → (y : ℤ) (nets : List Net) (routes : List NetRoute) → P (moved_nets y nets) (moved_routes y routes) → P nets routes
back P moves y nets routes h =
    subst (λ ns. P ns routes) (nets_round y nets)
    (subst (P (moved_nets (neg_ℤ y) (moved_nets y nets))) (routes_round y routes) (moves (neg_ℤ y) (moved_nets y nets) (moved_routes y routes) h))

nets_back : (P : List Net → Type 0) → ((y : ℤ) (nets : List Net) → P nets → P (moved_nets y nets)) → (y : ℤ) (nets : List Net) → P (moved_nets y nets) → P nets
nets_back P moves y nets h = subst P (nets_round y nets) (moves (neg_ℤ y) (moved_nets y nets) h)

forth : (P : List Net → List NetRoute → Type 0) → ((y : ℤ) (nets : List Net) (routes : List NetRoute) → P (moved_nets y nets) (moved_routes y routes) → P nets routes)
    → (y : ℤ) (nets : List Net) (routes : List NetRoute) → P nets routes → P (moved_nets y nets) (moved_routes y routes)
forth P from y nets routes h =
    from (neg_ℤ y) (moved_nets y nets) (moved_routes y routes)
    (subst (λ ns. P ns (moved_routes (neg_ℤ y) (moved_routes y routes))) (sym (nets_round y nets)) (subst (P nets) (sym (routes_round y routes)) h))

-- nets and routes by their numbers

many : (y : ℤ) (nets : List Net) → length (moved_nets y nets) ≡ length nets
many y nets = length-map nets (moved_net y)

below : (y : ℤ) (nets : List Net) (k : ℕ) → k < length nets → k < length (moved_nets y nets)
below y nets k h = let m = many y nets in omega (arith, m, h)

above : (y : ℤ) (nets : List Net) (k : ℕ) → k < length (moved_nets y nets) → k < length nets
above y nets k h = let m = many y nets in omega (arith, m, h)

pub route_moves : (y : ℤ) (routes : List NetRoute) (k : ℕ) → route_at (moved_routes y routes) k ≡ moved_route y (route_at routes k)
route_moves y [] k = refl
route_moves y (r ∷ rs) zero = refl
route_moves y (r ∷ rs) (suc k) = route_moves y rs k

-- conflicts

straight_from : (y : ℤ) (n : Net) → IsStraightNet (moved_net y n) → IsStraightNet n
straight_from y n v = (v.0, same_height n.a.height n.b.height y v.1)

bent_moves : (y : ℤ) (nets : List Net) (k : ℕ) → k < length nets → (IsStraightNet (net_at nets k) → ⊥) → IsStraightNet (net_at (moved_nets y nets) k) → ⊥
bent_moves y nets k h bent v = bent (straight_from y (net_at nets k) (subst IsStraightNet (net_moves y nets k h) v))

conflict_moves : (y : ℤ) (nets : List Net) (j k : ℕ) → Conflict nets j k → Conflict (moved_nets y nets) j k
conflict_moves y nets j k c =
    record {
      j_in = below y nets j c.j_in;
      k_in = below y nets k c.k_in;
      two = c.two;
      j_bent = bent_moves y nets j c.j_in c.j_bent;
      k_bent = bent_moves y nets k c.k_in c.k_bent;
      left = moved_pin y c.left;
      right = moved_pin y c.right;
      has_left = subst (λ n. HasPin n (moved_pin y c.left)) (sym (net_moves y nets j c.j_in)) (has_pin y (net_at nets j) c.left c.has_left);
      has_right = subst (λ n. HasPin n (moved_pin y c.right)) (sym (net_moves y nets k c.k_in)) (has_pin y (net_at nets k) c.right c.has_right);
      on_left = c.on_left;
      on_right = c.on_right;
      one_height = ap (λ z. z -ℤ y) c.one_height;
    }

round_moves : (y : ℤ) (nets : List Net) (j : ℕ) (is : List ℕ) (k : ℕ) → AreInConflict nets j is k → AreInConflict (moved_nets y nets) j is k
round_moves y nets j [] k c = conflict_moves y nets j k c
round_moves y nets j (i ∷ is) k c = (conflict_moves y nets j i c.0, round_moves y nets i is k c.1)

none_back : (y : ℤ) (nets : List Net) → HasNoConflict (moved_nets y nets) → HasNoConflict nets
none_back y nets none j k c = none j k (conflict_moves y nets j k c)

one_back : (y : ℤ) (nets : List Net) → HasAtMostOneConflict (moved_nets y nets) → HasAtMostOneConflict nets
one_back y nets one j k m n c e = one j k m n (conflict_moves y nets j k c) (conflict_moves y nets m n e)

splits_move : (y : ℤ) (nets : List Net) (routes : List NetRoute) → SplitsOnCycles nets routes → SplitsOnCycles (moved_nets y nets) (moved_routes y routes)
splits_move y nets routes splits k s h t l e =
    let from = two_back y (route_at routes k) s h t (sym (route_moves y routes k) ∙ e) in
    let cycle = splits k s from.height t (above y nets k l) from.is in
    record { others = cycle.others; round = round_moves y nets k cycle.others k cycle.round }

-- pieces that keep apart

stands_moves : (y : ℤ) (n : Net) (r : NetRoute) (p : Pin) (s : ℕ) → StandsAt n r p s → StandsAt (moved_net y n) (moved_route y r) (moved_pin y p) s
stands_moves y n Straight p s h = h
stands_moves y n (One t) p s h = (has_pin y n p h.0, h.1)
stands_moves y n (Two t k u) p s h = ⊎_elim (λ e. inl (ap (moved_pin y) e.0, e.1)) (λ e. inr (ap (moved_pin y) e.0, e.1)) h

upright_moves : (y : ℤ) (n : Net) (r : NetRoute) (s : ℕ) (a b : ℤ) → IsUpright n r s a b → IsUpright (moved_net y n) (moved_route y r) s (a -ℤ y) (b -ℤ y)
upright_moves y n Straight s a b h = h
upright_moves y n (One t) s a b h = (h.0, ap (λ z. z -ℤ y) h.1, ap (λ z. z -ℤ y) h.2)
upright_moves y n (Two t k u) s a b h =
    ⊎_elim (λ e. inl (e.0, ap (λ z. z -ℤ y) e.1, ap (λ z. z -ℤ y) e.2)) (λ e. inr (e.0, ap (λ z. z -ℤ y) e.1, ap (λ z. z -ℤ y) e.2)) h

less_moves : (a b y : ℤ) → a <ℤ b → (a -ℤ y) <ℤ (b -ℤ y)
less_moves a b y h = omega (arith, ints, h)

overlap_moves : (y a b c d : ℤ) → StretchesOverlap a b c d → StretchesOverlap (a -ℤ y) (b -ℤ y) (c -ℤ y) (d -ℤ y)
overlap_moves y a b c d o =
    rw (min_moves a b y, min_moves c d y, max_moves a b y, max_moves c d y, max_moves (int_min a b) (int_min c d) y, min_moves (int_max a b) (int_max c d) y)
    (less_moves (int_max (int_min a b) (int_min c d)) (int_min (int_max a b) (int_max c d)) y o)

apart_back : (y : ℤ) (nets : List Net) (routes : List NetRoute) → AreApart (moved_nets y nets) (moved_routes y routes) → AreApart nets routes
apart_back y nets routes apart =
    let stands : (k : ℕ) (p : Pin) (s : ℕ) → k < length nets → StandsAt (net_at nets k) (route_at routes k) p s
    → StandsAt (net_at (moved_nets y nets) k) (route_at (moved_routes y routes) k) (moved_pin y p) s =
    λ k p s l h.
    subst (λ n. StandsAt n (route_at (moved_routes y routes) k) (moved_pin y p) s) (sym (net_moves y nets k l))
    (subst (λ r. StandsAt (moved_net y (net_at nets k)) r (moved_pin y p) s) (sym (route_moves y routes k)) (stands_moves y (net_at nets k) (route_at routes k) p s h)) in
    let uprights : (k s : ℕ) (a b : ℤ) → k < length nets → IsUpright (net_at nets k) (route_at routes k) s a b
    → IsUpright (net_at (moved_nets y nets) k) (route_at (moved_routes y routes) k) s (a -ℤ y) (b -ℤ y) =
    λ k s a b l h.
    subst (λ n. IsUpright n (route_at (moved_routes y routes) k) s (a -ℤ y) (b -ℤ y)) (sym (net_moves y nets k l))
    (subst (λ r. IsUpright (moved_net y (net_at nets k)) r s (a -ℤ y) (b -ℤ y)) (sym (route_moves y routes k)) (upright_moves y (net_at nets k) (route_at routes k) s a b h)) in
    record {
      order = λ j k p q s t jl kl ne h i on_left on_right same.
          apart.order j k (moved_pin y p) (moved_pin y q) s t (below y nets j jl) (below y nets k kl) ne (stands j p s jl h) (stands k q t kl i) on_left on_right (ap (λ z. z -ℤ y) same);
      uprights = λ j k s a b c d jl kl ne h i o.
          apart.uprights j k s (a -ℤ y) (b -ℤ y) (c -ℤ y) (d -ℤ y) (below y nets j jl) (below y nets k kl) ne (uprights j s a b jl h) (uprights k s c d kl i) (overlap_moves y a b c d o);
    }

apart_moves : (y : ℤ) (nets : List Net) (routes : List NetRoute) → AreApart nets routes → AreApart (moved_nets y nets) (moved_routes y routes)
apart_moves = forth AreApart apart_back

-- the density

contains_moves : (y : ℤ) (n : Net) (h : ℤ) → Contains n h → Contains (moved_net y n) (h -ℤ y)
contains_moves y n h c =
    let high = c.high in
    record {
      bent = λ v. c.bent (straight_from y n v);
      low = less_min n.a.height n.b.height h y c.low;
      high = omega (arith, ints, clamps, high);
    }

meet_moves : (y : ℤ) (nets : List Net) (h : ℤ) (ks : List ℕ) → MeetAt nets h ks → MeetAt (moved_nets y nets) (h -ℤ y) ks
meet_moves y nets h ks m =
    record {
      nets_in = λ i l. below y nets (slice_index ks i) (m.nets_in i l);
      meet = λ i l. subst (λ n. Contains n (h -ℤ y)) (sym (net_moves y nets (slice_index ks i) (m.nets_in i l))) (contains_moves y (net_at nets (slice_index ks i)) h (m.meet i l));
      distinct = m.distinct;
    }

density_moves : (y : ℤ) (nets : List Net) (d : ℕ) → IsDensity nets d → IsDensity (moved_nets y nets) d
density_moves y nets d density =
    record {
      height = density.height -ℤ y;
      there = density.there;
      meet = meet_moves y nets density.height density.there density.meet;
      as_many = density.as_many;
      most = λ h ks m. density.most (h -ℤ neg_ℤ y) ks (subst (λ ns. MeetAt ns (h -ℤ neg_ℤ y) ks) (nets_round y nets) (meet_moves (neg_ℤ y) (moved_nets y nets) h ks m));
    }

-- crossings

cut_at_moves : (y : ℤ) (nets : List Net) (routes : List NetRoute) (j k : ℕ) → j < length nets → k < length nets → cut_at (moved_nets y nets) (moved_routes y routes) j k ≡ cut_at nets routes j k
cut_at_moves y nets routes j k jl kl =
    simp (net_moves y nets j jl, net_moves y nets k kl, route_moves y routes j, route_moves y routes k)
    (cut_moves y (net_at nets j) (route_at routes j) (net_at nets k) (route_at routes k))

crossings_move : (y : ℤ) (nets : List Net) (routes : List NetRoute) → crossings (moved_nets y nets) (moved_routes y routes) ≡ crossings nets routes
crossings_move y nets routes =
    ap (λ n. sum_to (λ j. sum_to (cut_at (moved_nets y nets) (moved_routes y routes) j) n) n) (many y nets)
    ∙ sum_same (λ j. sum_to (cut_at (moved_nets y nets) (moved_routes y routes) j) (length nets)) (λ j. sum_to (cut_at nets routes j) (length nets)) (length nets)
    (λ j jl. sum_same (cut_at (moved_nets y nets) (moved_routes y routes) j) (cut_at nets routes j) (length nets)
    (λ k kl. cut_at_moves y nets routes j k jl kl))

exchanged_moves : (y : ℤ) (s : ℕ) (r : NetRoute) → moved_route y (exchanged s r) ≡ exchanged s (moved_route y r)
unfolding exchanged
exchanged_moves y s Straight = refl
exchanged_moves y s (One t) = refl
exchanged_moves y s (Two t h u) = refl

exchanges_move : (y : ℤ) (s : ℕ) (old new : List NetRoute) → AreExchanged s old new → AreExchanged s (moved_routes y old) (moved_routes y new)
exchanges_move y s old new e =
    record {
      len = length-map new (moved_route y) ∙ e.len ∙ sym (length-map old (moved_route y));
      each = λ k l.
          route_moves y new k ∙ ap (moved_route y) (e.each k (subst (λ n. k < n) (length-map old (moved_route y)) l))
          ∙ exchanged_moves y s (route_at old k) ∙ ap (exchanged s) (sym (route_moves y old k));
    }

no_better_moves : (y : ℤ) (nets : List Net) (count : ℕ) (routes : List NetRoute) → NoBetterExchange nets count routes → NoBetterExchange (moved_nets y nets) count (moved_routes y routes)
no_better_moves y nets count routes none s l others e apart =
    let was : List NetRoute = moved_routes (neg_ℤ y) others in
    let from : AreExchanged s routes was = subst (λ rs. AreExchanged s rs was) (routes_round y routes) (exchanges_move (neg_ℤ y) s (moved_routes y routes) others e) in
    let kept : AreApart nets was = subst (λ ns. AreApart ns was) (nets_round y nets) (apart_moves (neg_ℤ y) (moved_nets y nets) others apart) in
    let same : crossings nets was ≡ crossings (moved_nets y nets) others =
    subst (λ ns. crossings ns was ≡ crossings (moved_nets y nets) others) (nets_round y nets) (crossings_move (neg_ℤ y) (moved_nets y nets) others) in
    let now = crossings_move y nets routes in
    let most = none s l was from kept in
    omega (arith, same, now, most)

-- ranks

precedes_moves : (y : ℤ) (nets : List Net) (j k : ℕ) → Precedes nets j k → Precedes (moved_nets y nets) j k
precedes_moves y nets j k w =
    ⊎_elim
    (λ c. inl (conflict_moves y nets j k c))
    (λ c.
    let a = ap₂ asked (net_moves y nets j c.j_in) (net_moves y nets k c.k_in) ∙ asked_moves y (net_at nets j) (net_at nets k) in
    let b = ap₂ in_order (net_moves y nets k c.k_in) (net_moves y nets j c.j_in) ∙ in_order_moves y (net_at nets k) (net_at nets j) in
    let more = c.more in
    inr (record {
      j_in = below y nets j c.j_in;
      k_in = below y nets k c.k_in;
      two = c.two;
      j_bent = bent_moves y nets j c.j_in c.j_bent;
      k_bent = bent_moves y nets k c.k_in c.k_bent;
      more = omega (arith, a, b, more);
    }))
    w

orderable_back : (y : ℤ) (nets : List Net) → IsOrderable (moved_nets y nets) → IsOrderable nets
orderable_back y nets o = record { rank = o.rank; behind = λ j k w. o.behind j k (precedes_moves y nets j k w) }

as_asked_moves : (y : ℤ) (nets : List Net) (routes : List NetRoute) → CrossAsAsked nets routes → CrossAsAsked (moved_nets y nets) (moved_routes y routes)
as_asked_moves y nets routes asked_of j k jl kl ne =
    let jl' = above y nets j jl in
    let kl' = above y nets k kl in
    ap₂ (λ (u v : ℕ). u + v) (cut_at_moves y nets routes j k jl' kl') (cut_at_moves y nets routes k j kl' jl')
    ∙ asked_of j k jl' kl' ne
    ∙ sym (ap₂ asked (net_moves y nets j jl') (net_moves y nets k kl') ∙ asked_moves y (net_at nets j) (net_at nets k))

few_back : (y : ℤ) (nets : List Net) (most : ℕ) → length (moved_nets y nets) ≤ most → length nets ≤ most
few_back y nets most few = let m = many y nets in omega (arith, m, few)

-- both records

pub fewest_moves : (y : ℤ) (nets : List Net) (count : ℕ) (routes : List NetRoute) → AreFewest nets count routes → AreFewest (map (moved_net y) nets) count (map (moved_route y) routes)
fewest_moves y nets count routes f =
    record {
      free = gap_moves y nets count routes f.free;
      apart = apart_moves y nets routes f.apart;
      splits = splits_move y nets routes f.splits;
      density = λ none. density_moves y nets count (f.density (none_back y nets none));
      exchanges = λ few. no_better_moves y nets count routes (f.exchanges (few_back y nets exchange_limit few));
    }

pub fewest_back : (y : ℤ) (nets : List Net) (count : ℕ) (routes : List NetRoute) → AreFewest (map (moved_net y) nets) count (map (moved_route y) routes) → AreFewest nets count routes
fewest_back y nets count routes f = back (λ ns rs. AreFewest ns count rs) (λ z ns rs. fewest_moves z ns count rs) y nets routes f

pub uncrossed_moves : (y : ℤ) (nets : List Net) (count : ℕ) (routes : List NetRoute) → AreUncrossed nets count routes → AreUncrossed (map (moved_net y) nets) count (map (moved_route y) routes)
uncrossed_moves y nets count routes u =
    record {
      free = gap_moves y nets count routes u.free;
      apart = apart_moves y nets routes u.apart;
      splits = splits_move y nets routes u.splits;
      uncrossed = λ ranked. as_asked_moves y nets routes (u.uncrossed (orderable_back y nets ranked));
      one_conflict = λ one. as_asked_moves y nets routes (u.one_conflict (one_back y nets one));
      exchanges = λ few. no_better_moves y nets count routes (u.exchanges (few_back y nets exchange_limit few));
    }

pub uncrossed_back : (y : ℤ) (nets : List Net) (count : ℕ) (routes : List NetRoute) → AreUncrossed (map (moved_net y) nets) count (map (moved_route y) routes) → AreUncrossed nets count routes
uncrossed_back y nets count routes u = back (λ ns rs. AreUncrossed ns count rs) (λ z ns rs. uncrossed_moves z ns count rs) y nets routes u
