-- Where each two nets cross as their pins ask, no exchange of two neighbouring slots gives fewer crossings.
use Rattle.std.proofs.Common.{◌≡◌, ◌≢◌, ◌∙◌, ◌⊎◌, ⊎_elim, inl, inr, ℕ, ◌+◌, ◌<◌, ◌≤◌, List, ℤ, length, refl, sym, ap, ap₂, subst, arith}
use Rattle.std.proofs.lemmas.Bool.{cases_eq, cases_lt}
use Rattle.net_routes.specs.declared.Net.{Net}
use Rattle.net_routes.specs.declared.NetRoute.{NetRoute}
use Rattle.net_routes.specs.declared.NetRoute.TheVariants.{Straight, One, Two}
use Rattle.net_routes.specs.Pieces.{net_at, route_at}
use Rattle.net_routes.specs.GapFree.{IsStraightNet, GapFree}
use Rattle.net_routes.specs.Standing.{StandsAt, AreApart}
use Rattle.net_routes.specs.Crossings.{cut, cut_at}
use Rattle.net_routes.specs.Exchanges.{swapped, exchanged, AreExchanged, NoBetterExchange}
use Rattle.net_routes.specs.Uncrossed.{asked, crossed, CrossAsAsked}
use Rattle.net_routes.proofs.Summing.{pairs_most}
use Rattle.route_slots.proofs.Swapping.{swap_back}
use Rattle.net_routes.proofs.Asking.{asked_flipped, AreUnmet, least_cut, slot_count}
use Rattle.route_slots.proofs.Ordered.{beside, straight_cut}

swapped_straight : (s : ℕ) (r q : NetRoute) → q ≡ exchanged s r → r ≡ Straight → q ≡ Straight
unfolding exchanged
swapped_straight s r q e f = e ∙ ap (exchanged s) f

swapped_one : (s t : ℕ) (r q : NetRoute) → q ≡ exchanged s r → r ≡ One t → q ≡ One (swapped s t)
unfolding exchanged
swapped_one s t r q e f = e ∙ ap (exchanged s) f

module _ (nets : List Net) (count : ℕ) (routes : List NetRoute) (free : GapFree nets count routes)
    (whole : (k s : ℕ) (h : ℤ) (t : ℕ) → k < length nets → route_at routes k ≡ Two s h t → ⊥) (as_asked : CrossAsAsked nets routes) where
  abbrev net : ℕ → Net
  net k = net_at nets k

  abbrev Way : ℕ → Type 0
  Way k = ((route_at routes k ≡ Straight) × IsStraightNet (net k)) ⊎ ((s : ℕ) × (route_at routes k ≡ One s))

  way : (k : ℕ) → k < length nets → Way k
  way k l = of (route_at routes k) refl
    where
      of : (r : NetRoute) → route_at routes k ≡ r → Way k
      of Straight e = inl (e, (free.straight k l).0 e)
      of (One s) e = inr (s, e)
      of (Two s h t) e = absurd (whole k s h t l e)

  -- a net does not cross itself
  alone : (k : ℕ) → k < length nets → cut_at nets routes k k ≡ 0
  alone k l =
      ⊎_elim
      (λ (u : (route_at routes k ≡ Straight) × IsStraightNet (net k)). ap₂ (λ r q. cut (net k) r (net k) q) u.0 u.0 ∙ straight_cut (net k) (net k) Straight)
      (λ (u : (s : ℕ) × (route_at routes k ≡ One s)).
      let none = slot_count (net k) (net k) u.0 in
      ap₂ (λ r q. cut (net k) r (net k) q) u.1 u.1 ∙ (let zero : cut (net k) (One u.0) (net k) (One u.0) ≡ 0 = omega arith in zero))
      (way k l)

  module _ (s : ℕ) (others : List NetRoute) (e : AreExchanged s routes others) (apart : AreApart nets others) where
    other : (k : ℕ) → k < length nets → route_at others k ≡ exchanged s (route_at routes k)
    other k l = e.each k (subst (λ n. k < n) (sym free.as_many) l)

    -- a net in a later slot has no left pin as high as a right one of the other
    unmet : (j k t u : ℕ) → j < length nets → k < length nets → j ≢ k → route_at others j ≡ One t → route_at others k ≡ One u → t < u → AreUnmet (net k) (net j)
    unmet j k t u jl kl ne f g lt p q hp hq pl qr h =
        let early = apart.order k j p q u t kl jl (λ z. ne (sym z)) (subst (λ r. StandsAt (net k) r p u) (sym g) (hp, refl)) (subst (λ r. StandsAt (net j) r q t) (sym f) (hq, refl)) pl qr h in
        omega arith

    abbrev Crossed : ℕ → ℕ → NetRoute → NetRoute → ℕ
    Crossed j k r q = cut (net j) r (net k) q + cut (net k) q (net j) r

    in_order : (j k t u : ℕ) → j < length nets → k < length nets → j ≢ k → route_at others j ≡ One t → route_at others k ≡ One u → t < u → asked (net j) (net k) ≤ Crossed j k (One t) (One u)
    in_order j k t u jl kl ne f g lt = least_cut (net j) (net k) t u lt (unmet j k t u jl kl ne f g lt)

    in_slots : (j k t u : ℕ) → j < length nets → k < length nets → j ≢ k → route_at others j ≡ One t → route_at others k ≡ One u → t ≢ u → asked (net j) (net k) ≤ Crossed j k (One t) (One u)
    in_slots j k t u jl kl ne f g differ =
        ⊎_elim
        (λ (lt : t < u). in_order j k t u jl kl ne f g lt)
        (λ (ge : u ≤ t).
        let flipped = in_order k j u t kl jl (λ z. ne (sym z)) g f (omega arith) in
        let same = asked_flipped (net j) (net k) in
        omega arith)
        (cases_lt t u)

    abbrev NoFewer : ℕ → ℕ → Type 0
    NoFewer j k = crossed nets routes j k ≤ crossed nets others j k

    two_ones : (j k t u : ℕ) → j < length nets → k < length nets → j ≢ k → route_at routes j ≡ One t → route_at routes k ≡ One u → NoFewer j k
    two_ones j k t u jl kl ne f g =
        let f' = swapped_one s t (route_at routes j) (route_at others j) (other j jl) f in
        let g' = swapped_one s u (route_at routes k) (route_at others k) (other k kl) g in
        ⊎_elim
        (λ (same : t ≡ u).
        let now = ap₂ (λ r q. Crossed j k r q) f (g ∙ ap One (sym same)) in
        let none = slot_count (net j) (net k) t in
        omega arith)
        (λ (differ : t ≢ u).
        let now = as_asked j k jl kl ne in
        let then = ap₂ (λ r q. Crossed j k r q) f' g' in
        let most = in_slots j k (swapped s t) (swapped s u) jl kl ne f' g' (λ z. differ (swap_back s t (swapped s u) z ∙ sym (swap_back s u (swapped s u) refl))) in
        omega arith)
        (cases_eq t u)

    straight_one : (j k u : ℕ) → j < length nets → k < length nets → j ≢ k → route_at routes j ≡ Straight → IsStraightNet (net j) → route_at routes k ≡ One u → NoFewer j k
    straight_one j k u jl kl ne f v g =
        let f' = swapped_straight s (route_at routes j) (route_at others j) (other j jl) f in
        let g' = swapped_one s u (route_at routes k) (route_at others k) (other k kl) g in
        let now = as_asked j k jl kl ne in
        let then = ap₂ (λ r q. Crossed j k r q) f' g' in
        let least = beside (net k) (net j) (swapped s u) v in
        let same = asked_flipped (net j) (net k) in
        omega arith

    no_fewer : (j k : ℕ) → j < length nets → k < length nets → j ≢ k → NoFewer j k
    no_fewer j k jl kl ne =
        ⊎_elim
        (λ (u : (route_at routes j ≡ Straight) × IsStraightNet (net j)). ⊎_elim
        (λ (v : (route_at routes k ≡ Straight) × IsStraightNet (net k)).
        let now = ap₂ (λ r q. Crossed j k r q) u.0 v.0 in
        let a = straight_cut (net j) (net k) Straight in
        let b = straight_cut (net k) (net j) Straight in
        omega arith)
        (λ (v : (t : ℕ) × (route_at routes k ≡ One t)). straight_one j k v.0 jl kl ne u.0 u.1 v.1)
        (way k kl))
        (λ (u : (t : ℕ) × (route_at routes j ≡ One t)). ⊎_elim
        (λ (v : (route_at routes k ≡ Straight) × IsStraightNet (net k)).
        let flipped = straight_one k j u.0 kl jl (λ z. ne (sym z)) v.0 v.1 u.1 in
        omega arith)
        (λ (v : (t : ℕ) × (route_at routes k ≡ One t)). two_ones j k u.0 v.0 jl kl ne u.1 v.1)
        (way k kl))
        (way j jl)

  pub no_better : NoBetterExchange nets count routes
  no_better s l others e apart =
      pairs_most (cut_at nets routes) (cut_at nets others) (length nets) (no_fewer s others e apart)
      (λ k h. let none = alone k h in omega arith)
