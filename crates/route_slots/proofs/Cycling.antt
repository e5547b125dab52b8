-- Cycles of links are cycles of conflicts, and depths of heights.
use Rattle.std.proofs.Common.{◌≡◌, ◌≢◌, ◌∙◌, ◌⊎◌, ⊎_elim, inl, inr, ℕ, ◌+◌, ◌<◌, Bool, true, false, List, [], ◌∷◌, ◌++◌, ℤ, Option, Some, None, length, refl, sym, ap, subst, arith}
use Rattle.std.specs.Prelude.{unwrap_or, IsSome}
use Rattle.std.specs.Ordering.{int_cmp}
use Rattle.std.specs.BTreeMap.{BTreeMap, get}
use Rattle.route_slots.specs.declared.links.Link.{Link}
use Rattle.route_slots.specs.Links.{link_at, Leads, ClosesCycle, CutsOnCycles, LeadsLessDeep, number_at}
use Rattle.net_routes.specs.declared.Pin.{Pin}
use Rattle.net_routes.specs.declared.Net.{Net}
use Rattle.route_slots.specs.declared.heights.Heights.{Heights}
use Rattle.net_routes.specs.Pieces.{net_at}
use Rattle.net_routes.specs.GapFree.{HasPin, IsStraightNet}
use Rattle.net_routes.specs.Conflicts.{Conflict, AreInConflict, LiesOnCycle}
use Rattle.route_slots.specs.Numbers.{AreHeightNumbers, AreSides, HasNoSides, IsLinkOf, idle, across, AreLinks}
use Rattle.route_slots.specs.Depths.{depth_by, AreDepths}
use Rattle.route_slots.proofs.Sides.{sides_differ, one_pin}

-- a number is there, or not
abbrev Known : Option ℕ → Type 0
Known o = (o ≡ None) ⊎ ((x : ℕ) × (o ≡ Some x))

known : (o : Option ℕ) → Known o
known None = inl refl
known (Some x) = inr (x, refl)

none_is_not_some : (o : Option ℕ) → o ≡ None → IsSome o → ⊥
none_is_not_some None e h = let bad : false ≡ true = h in cc
none_is_not_some (Some x) e h = let bad : Some x ≡ None = e in cc

-- the two kinds of links
abbrev Idle : Net → Link → Type 0
Idle n l = HasNoSides n × (l.tail ≡ 0) × (l.head ≡ 1)

abbrev Across : BTreeMap ℤ ℕ → Net → Link → Type 0
Across m n l =
    (p : Pin) × (q : Pin) × AreSides n p q × (l.tail ≡ unwrap_or (get int_cmp m p.height) 0) × (l.head ≡ unwrap_or (get int_cmp m q.height) 1)

kind_of : (m : BTreeMap ℤ ℕ) (n : Net) (l : Link) → IsLinkOf m n l → Idle n l ⊎ Across m n l
kind_of m n l (idle none t h) = inl (none, t, h)
kind_of m n l (across p q sides t h) = inr (p, q, sides, t, h)

deep_some : (ds : List ℕ) (o : Option ℕ) → IsSome o → 0 < depth_by ds o
deep_some ds None h = absurd (let bad : false ≡ true = h in cc)
deep_some ds (Some x) h = omega arith

module _ (nets : List Net) (heights : Heights) (links : List Link) (numbered : AreHeightNumbers nets (length nets) heights) (are : AreLinks heights.numbers nets links (length nets)) where
  abbrev number : ℤ → Option ℕ
  number h = get int_cmp heights.numbers h

  kind : (k : ℕ) → k < length links → Idle (net_at nets k) (link_at links k) ⊎ Across heights.numbers (net_at nets k) (link_at links k)
  kind k l = kind_of heights.numbers (net_at nets k) (link_at links k) (are.each k (let e = are.len in omega arith))

  -- no link leaves 1
  no_tail_one : (k : ℕ) → k < length links → (link_at links k).tail ≡ 1 → ⊥
  no_tail_one k l e =
      ⊎_elim
      (λ (i : Idle (net_at nets k) (link_at links k)). let t = i.1 in absurd (omega arith))
      (λ (a : Across heights.numbers (net_at nets k) (link_at links k)). ⊎_elim
      (λ (none : number a.0.height ≡ None). let t : (link_at links k).tail ≡ 0 = a.3 ∙ ap (λ o. unwrap_or o 0) none in absurd (omega arith))
      (λ (some : (x : ℕ) × (number a.0.height ≡ Some x)).
      let t : (link_at links k).tail ≡ some.0 = a.3 ∙ ap (λ o. unwrap_or o 0) some.1 in
      let two = numbered.numbers.from_two a.0.height some.0 some.1 in absurd (omega arith))
      (known (number a.0.height)))
      (kind k l)

  from_one : (ks : List ℕ) (v : ℕ) → v ≢ 1 → Leads links 1 ks v → ⊥
  from_one [] v ne e = ne (sym e)
  from_one (k ∷ ks) v ne w = no_tail_one k w.0 w.1

  conflict : (j k : ℕ) (p q : Pin) → j < length nets → k < length nets → (IsStraightNet (net_at nets j) → ⊥) → (IsStraightNet (net_at nets k) → ⊥)
      → HasPin (net_at nets j) p → HasPin (net_at nets k) q → p.on_left ≡ true → q.on_left ≡ false → p.height ≡ q.height → Conflict nets j k
  conflict j k p q jl kl jb kb hp hq pl ql e =
      record {
        j_in = jl;
        k_in = kl;
        two = λ same. kb (one_pin (net_at nets k) p q (subst (λ z. HasPin (net_at nets z) p) same hp) hq pl ql e);
        j_bent = jb;
        k_bent = kb;
        left = p;
        right = q;
        has_left = hp;
        has_right = hq;
        on_left = pl;
        on_right = ql;
        one_height = e;
      }

  one_more : (j : ℕ) (is : List ℕ) (i k : ℕ) → AreInConflict nets j is i → Conflict nets i k → AreInConflict nets j (is ++ i ∷ []) k
  one_more j [] i k c d = (c, d)
  one_more j (m ∷ is) i k c d = (c.0, one_more m is i k c.1 d)

  -- links from the height on the right of one net to that on the left of another are conflicts from the latter to the former
  back : (ks : List ℕ) (u v x y : ℕ) (q p : Pin) → x < length nets → y < length nets → (IsStraightNet (net_at nets x) → ⊥) → (IsStraightNet (net_at nets y) → ⊥)
      → HasPin (net_at nets x) q → q.on_left ≡ false → number q.height ≡ Some u → HasPin (net_at nets y) p → p.on_left ≡ true → number p.height ≡ Some v
      → Leads links u ks v → (is : List ℕ) × AreInConflict nets y is x
  back [] u v x y q p xl yl xb yb hq qr qn hp pl pn e =
      let same : number p.height ≡ Some u = pn ∙ sym (ap Some e) in
      ([], conflict y x p q yl xl yb xb hp hq pl qr (numbered.numbers.alone p.height q.height u same qn))
  back (k ∷ ks) u v x y q p xl yl xb yb hq qr qn hp pl pn w =
      let two = numbered.numbers.from_two q.height u qn in
      let two_v = numbered.numbers.from_two p.height v pn in
      let tail_is = w.1 in
      let kl : k < length nets = (let l = w.0 in let e = are.len in omega arith) in
      ⊎_elim
      (λ (i : Idle (net_at nets k) (link_at links k)). let t = i.1 in absurd (omega arith))
      (λ (a : Across heights.numbers (net_at nets k) (link_at links k)). ⊎_elim
      (λ (none : number a.0.height ≡ None). let t : (link_at links k).tail ≡ 0 = a.3 ∙ ap (λ o. unwrap_or o 0) none in absurd (omega arith))
      (λ (some : (z : ℕ) × (number a.0.height ≡ Some z)).
      let t : (link_at links k).tail ≡ some.0 = a.3 ∙ ap (λ o. unwrap_or o 0) some.1 in
      let same : number a.0.height ≡ Some u = some.1 ∙ ap Some (sym t ∙ tail_is) in
      let first = conflict k x a.0 q kl xl a.2.bent xb a.2.has_left hq a.2.on_left qr (numbered.numbers.alone a.0.height q.height u same qn) in
      ⊎_elim
      (λ (no : number a.1.height ≡ None).
      let h : (link_at links k).head ≡ 1 = a.4 ∙ ap (λ o. unwrap_or o 1) no in
      absurd (from_one ks v (λ one. let bad = one in omega arith) (subst (λ z. Leads links z ks v) h w.2)))
      (λ (yes : (z : ℕ) × (number a.1.height ≡ Some z)).
      let h : (link_at links k).head ≡ yes.0 = a.4 ∙ ap (λ o. unwrap_or o 1) yes.1 in
      let rest = back ks yes.0 v k y a.1 p kl yl a.2.bent yb a.2.has_right a.2.on_right yes.1 hp pl pn (subst (λ z. Leads links z ks v) h w.2) in
      (rest.0 ++ k ∷ [], one_more y rest.0 k x rest.1 first))
      (known (number a.1.height)))
      (known (number a.0.height)))
      (kind k w.0)

  -- a link on a cycle is that of a net that leads across
  across_of : (k : ℕ) → k < length links → ClosesCycle links k → Across heights.numbers (net_at nets k) (link_at links k)
  across_of k l cycle =
      ⊎_elim
      (λ (i : Idle (net_at nets k) (link_at links k)).
      let t = i.1 in
      absurd (from_one cycle.way (link_at links k).tail (λ one. let bad = one in omega arith) (subst (λ z. Leads links z cycle.way (link_at links k).tail) i.2 cycle.back)))
      (λ a. a)
      (kind k l)

  left_number : (k : ℕ) (p : Pin) → k < length nets → (IsStraightNet (net_at nets k) → ⊥) → HasPin (net_at nets k) p → p.on_left ≡ true → (x : ℕ) × (number p.height ≡ Some x)
  left_number k p l bent has pl =
      ⊎_elim
      (λ (none : number p.height ≡ None). absurd (none_is_not_some (number p.height) none (numbered.each k p l bent has pl)))
      (λ some. some)
      (known (number p.height))

  pub lies_on_cycle : (k : ℕ) → k < length links → ClosesCycle links k → LiesOnCycle nets k
  lies_on_cycle k l cycle =
      let kl : k < length nets = (let e = are.len in omega arith) in
      let a = across_of k l cycle in
      let left = left_number k a.0 kl a.2.bent a.2.has_left a.2.on_left in
      let two = numbered.numbers.from_two a.0.height left.0 left.1 in
      let t : (link_at links k).tail ≡ left.0 = a.3 ∙ ap (λ o. unwrap_or o 0) left.1 in
      ⊎_elim
      (λ (no : number a.1.height ≡ None).
      let h : (link_at links k).head ≡ 1 = a.4 ∙ ap (λ o. unwrap_or o 1) no in
      absurd (from_one cycle.way (link_at links k).tail (λ one. let bad = one in omega arith) (subst (λ z. Leads links z cycle.way (link_at links k).tail) h cycle.back)))
      (λ (yes : (z : ℕ) × (number a.1.height ≡ Some z)).
      let h : (link_at links k).head ≡ yes.0 = a.4 ∙ ap (λ o. unwrap_or o 1) yes.1 in
      let round = back cycle.way yes.0 left.0 k k a.1 a.0 kl kl a.2.bent a.2.bent a.2.has_right a.2.on_right yes.1 a.2.has_left a.2.on_left left.1
      (subst (λ z. Leads links z cycle.way left.0) h (subst (λ z. Leads links (link_at links k).head cycle.way z) t cycle.back)) in
      record { others = round.0; round = round.1 })
      (known (number a.1.height))

  pub are_depths : (marks : List Bool) (depths : List ℕ) → length marks ≡ length links → CutsOnCycles links marks → LeadsLessDeep links marks depths
      → AreDepths nets marks (λ h. depth_by depths (number h))
  are_depths marks depths len cycles less =
      let same = are.len in
      record {
        len = len ∙ are.len;
        sides = λ k l e. let a = across_of k (omega arith) (cycles k (omega arith) e) in sides_differ (net_at nets k) a.0 a.1 a.2.has_left a.2.has_right a.2.on_left a.2.on_right;
        bent = λ k l e. let a = across_of k (omega arith) (cycles k (omega arith) e) in a.2.bent;
        deep = λ k p l bent has pl. deep_some depths (number p.height) (numbered.each k p l bent has pl);
        rising = λ k p q l bent e hp hq pl ql. ⊎_elim
            (λ (i : Idle (net_at nets k) (link_at links k)). absurd (i.0 bent p q hp hq pl ql))
            (λ (a : Across heights.numbers (net_at nets k) (link_at links k)).
            let left = left_number k p l bent hp pl in
            let p_is : p ≡ a.0 = a.2.no_other_left p hp pl in
            let q_is : q ≡ a.1 = a.2.no_other_right q hq ql in
            let t : (link_at links k).tail ≡ left.0 = a.3 ∙ sym (ap (λ (z : Pin). unwrap_or (number z.height) 0) p_is) ∙ ap (λ o. unwrap_or o 0) left.1 in
            let below = less k (omega arith) e in
            let deep : depth_by depths (number p.height) ≡ number_at depths (link_at links k).tail + 1 = ap (depth_by depths) left.1 ∙ ap (λ z. number_at depths z + 1) (sym t) in
            ⊎_elim
            (λ (no : number q.height ≡ None). let flat : depth_by depths (number q.height) ≡ 0 = ap (depth_by depths) no in omega arith)
            (λ (yes : (z : ℕ) × (number q.height ≡ Some z)).
            let h : (link_at links k).head ≡ yes.0 = a.4 ∙ sym (ap (λ (z : Pin). unwrap_or (number z.height) 1) q_is) ∙ ap (λ o. unwrap_or o 1) yes.1 in
            let at : depth_by depths (number q.height) ≡ number_at depths (link_at links k).head + 1 = ap (depth_by depths) yes.1 ∙ ap (λ z. number_at depths z + 1) (sym h) in omega arith)
            (known (number q.height)))
            (kind k (omega arith));
      }
