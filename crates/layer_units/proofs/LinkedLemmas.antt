-- Units and links that are numbered as they should be are those of the level.
use Rattle.std.proofs.Common.{◌≡◌, ◌⊎◌, ⊎_elim, inl, inr, ℕ, zero, suc, ◌+◌, ◌-◌, ◌<◌, ◌≤◌, eqb, ◌&&◌, ℤ, true, false, List, [], ◌∷◌, ◌++◌, Option, length, get_or, refl, sym, subst, ap, ◌∙◌, arith}
use Rattle.std.proofs.lemmas.Bool.{and_parts, and_from, eq-eqb, eqb-true, false≢true}
use Rattle.std.proofs.lemmas.List.FromFn.{length-range_with_len, get_or-range_with_len}
use Rattle.std.specs.List.{range_with_len}
use Rattle.elk_layers.specs.declared.units.Unit.{Unit as LayerUnit}
use Rattle.elk_layers.specs.declared.units.Link.{Link}
use Rattle.elk_layers.specs.Layered.{Plain, unit_at, link_at, layer_of}
use Rattle.level_model.specs.Conditions.{IsLevel}
use Rattle.level_model.specs.Level.{PlainPlan, holds, is_loop, first_or}
use Rattle.level_model.specs.Nets.{is_number, unit_of, layer_of_child}
use Rattle.level_model.specs.Traces.{links_at, links_from, chain}
use Rattle.level_model.specs.Units.{IsUnitOf, IsLaneUnit, HasChain, IsLinkOf, AreLinked, chain_at}
use Rattle.layer_units.specs.Layering.{Layering, AreLayersOf, tail_child, head_child, layer_in}
use Rattle.layer_units.specs.Numbered.{AreNumberedUnits, before, link_on, gaps_of, lanes_of, first_lane, first_link, run_of, stop_of}
use Rattle.layer_units.specs.Grown.{AreGrown}
use Rattle.layer_units.proofs.SumLemmas.{Place, placed_once, placed_rest, before_below}
use Rattle.layer_units.proofs.FilterLemmas.{filter_none, filter_one}
use Rattle.layer_units.proofs.RunLemmas.{Stop, at_tail, at_head, at_lane, stop_where, stop_last, stop_lane, tail_below, head_below, head_in, spans, no_loop, some_gap}
use Rattle.layer_units.proofs.SoundLemmas.{Which, a_child, a_lane, num, which, link_place, link_is, stop_layer}

module _ (s : Layering) (level : IsLevel s.level) (are : AreLayersOf s.level s.reversed s.layers) (q : Plain) (made : AreGrown s q) (rows : List (List ℕ)) (tops : List ℤ) where
  abbrev p : PlainPlan
  p = record { layers = q.layers; layered = q; rows = rows; tops = tops; reversed = s.reversed }

  abbrev n : AreNumberedUnits s q
  n = num s level are q made

  abbrev tail : ℕ → ℕ
  tail e = tail_child s.level (holds s.reversed e) e

  abbrev head : ℕ → ℕ
  head e = head_child s.level (holds s.reversed e) e

  abbrev low : ℕ → ℕ
  low e = layer_in s.layers (tail_child s.level (holds s.reversed e) e)

  -- the unit of a child
  names_one : (c u : ℕ) → u < length q.units → is_number (unit_at q.units u).child c ≡ true → u ≡ c
  names_one c u h t = step (which s level are q made u h)
    where
      step : Which s u → u ≡ c
      step (a_child less) = eqb-true u c (sym (ap (λ (x : LayerUnit). is_number x.child c) (n.children u less)) ∙ t)
      step (a_lane e i he hi at) =
          absurd (false≢true (sym (ap (λ (x : LayerUnit). is_number x.child c) (ap (unit_at q.units) at ∙ n.lanes e i he hi)) ∙ t))

  child_in : (c : ℕ) → c < length s.level.children → c < length q.units
  child_in c h = let many = n.as_many_units in omega (arith, h, many)

  unit_is : (c : ℕ) → c < length s.level.children → unit_of p c ≡ c
  unit_is c h =
      ap (λ us. first_or us 0)
      (filter_one (λ u. is_number (unit_at q.units u).child c) 0 (length q.units) c (omega arith) (let inside = child_in c h in omega (arith, inside))
      (ap (λ (x : LayerUnit). is_number x.child c) (n.children c h) ∙ eq-eqb c c refl)
      (λ u from to t. names_one c u (omega (arith, to)) t))

  child_layer : (c : ℕ) → c < length s.level.children → layer_of_child p c ≡ layer_in s.layers c
  child_layer c h = ap (layer_of q) (unit_is c h) ∙ ap (λ (x : LayerUnit). x.layer) (n.children c h)

  is_unit : (c : ℕ) → c < length s.level.children → IsUnitOf p (layer_in s.layers c) c
  is_unit c h =
      record {
        in_range = subst (λ u. u < length q.units) (sym (unit_is c h)) (child_in c h);
        child = ap (λ u. (unit_at q.units u).child) (unit_is c h) ∙ ap (λ (x : LayerUnit). x.child) (n.children c h);
        alone = λ u less e. names_one c u less (ap (λ (o : Option ℕ). is_number o c) e ∙ eq-eqb c c refl) ∙ sym (unit_is c h);
        layer_is = child_layer c h;
      }

  -- a lane is entered by one link
  entered_by : (e i k : ℕ) → e < length s.level.edges → i < lanes_of s e → k < length q.links → (link_at q.links k).head ≡ first_lane s e + i → k ≡ first_link s e + i
  entered_by e i k he hi hk at =
      let pl = link_place s level are q made k hk in
      let less = pl.less in
      step pl (stop_where (run_of s pl.item) (pl.rest + 1) (omega (arith, less))) (sym (ap (λ (x : Link). x.head) (link_is s level are q made k pl)) ∙ at)
    where
      step : (pl : Place (gaps_of s) (length s.level.edges) k) → Stop (run_of s pl.item) (pl.rest + 1) → stop_of (run_of s pl.item) (pl.rest + 1) ≡ first_lane s e + i → k ≡ first_link s e + i
      step pl (at_tail none here) same = absurd (omega (arith, none))
      step pl (at_head last here) same = let below = head_below s level are pl.item pl.inside in absurd (omega (arith, here, same, below))
      step pl (at_lane j next less here) same =
          let equal : before (lanes_of s) pl.item + j ≡ before (lanes_of s) e + i = omega (arith, here, same) in
          let edge = ap (before (gaps_of s)) (placed_once (lanes_of s) pl.item e j i less hi equal) in
          let rest = placed_rest (lanes_of s) pl.item e j i less hi equal in
          let there = pl.place_is in
          omega (arith, edge, rest, there, next)

  link_there : (e i : ℕ) → e < length s.level.edges → i < gaps_of s e → first_link s e + i < length q.links
  link_there e i he hi = let many = n.as_many_links in let below = before_below (gaps_of s) e (length s.level.edges) he in omega (arith, many, below, hi)

  is_lane : (e i : ℕ) → e < length s.level.edges → i < lanes_of s e → IsLaneUnit p (first_lane s e + i)
  is_lane e i he hi =
      let inner : i < gaps_of s e = omega (arith, hi) in
      record {
        no_child = ap (λ (x : LayerUnit). x.child) (n.lanes e i he hi);
        flat = ap (λ (x : LayerUnit). x.height) (n.lanes e i he hi);
        entered = (first_link s e + i, link_there e i he inner, ap (λ (x : Link). x.head) (n.links e i he inner) ∙ stop_lane (run_of s e) i (omega (arith, hi)));
        once = λ j k hj hk ej ek. entered_by e i j he hi hj ej ∙ sym (entered_by e i k he hi hk ek);
      }

  is_unit_or_lane : (u : ℕ) → u < length q.units → (IsLaneUnit p u) ⊎ ((c : ℕ) × (c < length s.level.children) × (u ≡ unit_of p c))
  is_unit_or_lane u h = step (which s level are q made u h)
    where
      step : Which s u → (IsLaneUnit p u) ⊎ ((c : ℕ) × (c < length s.level.children) × (u ≡ unit_of p c))
      step (a_child less) = inr (u, less, sym (unit_is u less))
      step (a_lane e i he hi at) = inl (subst (IsLaneUnit p) (sym at) (is_lane e i he hi))

  -- the links of an edge that leave a layer
  found_in : (e r k : ℕ) → (pl : Place (gaps_of s) (length s.level.edges) k)
      → (eqb (link_at q.links k).edge e && eqb (layer_of q (link_at q.links k).tail) r) ≡ true → (pl.item ≡ e) × (low e + pl.rest ≡ r)
  found_in e r k pl t =
      let less = pl.less in
      let parts = and_parts (eqb (link_at q.links k).edge e) (eqb (layer_of q (link_at q.links k).tail) r) t in
      let same : pl.item ≡ e = sym (ap (λ (x : Link). x.edge) (link_is s level are q made k pl)) ∙ eqb-true (link_at q.links k).edge e parts.0 in
      let at : layer_of q (stop_of (run_of s pl.item) pl.rest) ≡ r =
      sym (ap (λ (x : Link). layer_of q x.tail) (link_is s level are q made k pl)) ∙ eqb-true (layer_of q (link_at q.links k).tail) r parts.1
      in
      let layer = stop_layer s level are q made pl.item pl.rest pl.inside (omega (arith, less)) in
      let lows = ap low same in
      (same, omega (arith, at, layer, lows))

  here : (e i r : ℕ) → e < length s.level.edges → i < gaps_of s e → low e + i ≡ r → links_at p e r ≡ (first_link s e + i) ∷ []
  here e i r he hi at =
      filter_one (λ k. eqb (link_at q.links k).edge e && eqb (layer_of q (link_at q.links k).tail) r) 0 (length q.links) (first_link s e + i) (omega arith)
      (let there = link_there e i he hi in omega (arith, there))
      (and_from (eqb (link_at q.links (first_link s e + i)).edge e) (eqb (layer_of q (link_at q.links (first_link s e + i)).tail) r)
      (eq-eqb (link_at q.links (first_link s e + i)).edge e (ap (λ (x : Link). x.edge) (n.links e i he hi)))
      (eq-eqb (layer_of q (link_at q.links (first_link s e + i)).tail) r (ap (λ (x : Link). layer_of q x.tail) (n.links e i he hi) ∙ stop_layer s level are q made e i he (omega (arith, hi)) ∙ at)))
      (λ j from to t.
      let pl = link_place s level are q made j (omega (arith, to)) in
      let both = found_in e r j pl t in
      let sums = ap (before (gaps_of s)) both.0 in
      let layer = both.1 in
      let there = pl.place_is in
      omega (arith, sums, layer, there, at))

  nowhere : (e r : ℕ) → e < length s.level.edges → (r < low e) ⊎ (low e + gaps_of s e ≤ r) → links_at p e r ≡ []
  nowhere e r he out =
      filter_none (λ k. eqb (link_at q.links k).edge e && eqb (layer_of q (link_at q.links k).tail) r) 0 (length q.links)
      (λ j from to t.
      let pl = link_place s level are q made j (omega (arith, to)) in
      let both = found_in e r j pl t in
      let gaps = ap (gaps_of s) both.0 in
      let layer = both.1 in
      let less = pl.less in
      ⊎_elim (λ (h : r < low e). omega (arith, layer, h)) (λ (h : low e + gaps_of s e ≤ r). omega (arith, layer, h, less, gaps)) out)

  behind : (e m a : ℕ) → e < length s.level.edges → low e + gaps_of s e ≤ a → links_from p e (range_with_len a m) ≡ []
  behind e zero a he h = refl
  behind e (suc m) a he h = ap (λ ks. ks ++ links_from p e (range_with_len (a + 1) m)) (nowhere e a he (inr h)) ∙ behind e m (a + 1) he (omega (arith, h))

  within : (e m i d : ℕ) → e < length s.level.edges → i + d ≡ gaps_of s e → d ≤ m → links_from p e (range_with_len (low e + i) m) ≡ range_with_len (first_link s e + i) d
  within e m i zero he sum h = behind e m (low e + i) he (omega (arith, sum))
  within e zero i (suc d) he sum h = absurd (omega (arith, h))
  within e (suc m) i (suc d) he sum h =
      let next : (low e + i) + 1 ≡ low e + (i + 1) = omega arith in
      let more : first_link s e + (i + 1) ≡ (first_link s e + i) + 1 = omega arith in
      ap (λ ks. ks ++ links_from p e (range_with_len ((low e + i) + 1) m)) (here e i (low e + i) he (omega (arith, sum)) refl)
      ∙ ap (λ ks. (first_link s e + i) ∷ ks)
      (ap (λ a. links_from p e (range_with_len a m)) next
      ∙ within e m (i + 1) d he (omega (arith, sum)) (omega (arith, h))
      ∙ ap (λ a. range_with_len a d) more)

  ahead : (e m a d : ℕ) → e < length s.level.edges → a + d ≡ low e → d + gaps_of s e ≤ m → links_from p e (range_with_len a m) ≡ range_with_len (first_link s e) (gaps_of s e)
  ahead e m a zero he sum h =
      let start : a ≡ low e + 0 = omega (arith, sum) in
      let first : first_link s e + 0 ≡ first_link s e = omega arith in
      ap (λ b. links_from p e (range_with_len b m)) start ∙ within e m 0 (gaps_of s e) he (omega arith) (omega (arith, h)) ∙ ap (λ b. range_with_len b (gaps_of s e)) first
  ahead e zero a (suc d) he sum h = absurd (omega (arith, h))
  ahead e (suc m) a (suc d) he sum h =
      ap (λ ks. ks ++ links_from p e (range_with_len (a + 1) m)) (nowhere e a he (inl (omega (arith, sum)))) ∙ ahead e m (a + 1) d he (omega (arith, sum)) (omega (arith, h))

  -- the chain of an edge
  chain_is : (e : ℕ) → e < length s.level.edges → chain p e ≡ range_with_len (first_link s e) (gaps_of s e)
  chain_is e he =
      let span = spans s level are e he in
      let above = made.count_is.above (head e) (head_in s level are e he) in
      ahead e q.layers 0 (low e) he (omega arith) (omega (arith, span, above))

  chain_long : (e : ℕ) → e < length s.level.edges → length (chain p e) ≡ gaps_of s e
  chain_long e he = ap length (chain_is e he) ∙ length-range_with_len (first_link s e) (gaps_of s e)

  chain_link : (e i : ℕ) → e < length s.level.edges → i < gaps_of s e → link_at q.links (chain_at p e i) ≡ link_on (run_of s e) i
  chain_link e i he hi =
      ap (link_at q.links) (ap (λ ks. get_or ks i 0) (chain_is e he) ∙ get_or-range_with_len (first_link s e) (gaps_of s e) i 0 hi) ∙ n.links e i he hi

  has_chain : (e : ℕ) → e < length s.level.edges → is_loop s.level e ≡ false → HasChain s.level p e
  has_chain e he single =
      let long = chain_long e he in
      let gap = some_gap s level are e he single in
      let last : gaps_of s e - 1 < gaps_of s e = omega (arith, gap) in
      let round : gaps_of s e - 1 + 1 ≡ gaps_of s e = omega (arith, gap) in
      record {
        long =
            let from = child_layer (tail e) (tail_below s level are e he) in
            let to = child_layer (head e) (head_below s level are e he) in
            let span = spans s level are e he in
            omega (arith, from, to, span, long);
        some = omega (arith, long, gap);
        from = ap (λ (x : Link). x.tail) (chain_link e 0 he gap) ∙ sym (unit_is (tail e) (tail_below s level are e he));
        to = ap (λ m. (link_at q.links (chain_at p e (m - 1))).head) long
            ∙ ap (λ (x : Link). x.head) (chain_link e (gaps_of s e - 1) he last)
            ∙ ap (stop_of (run_of s e)) round
            ∙ stop_last (run_of s e) gap
            ∙ sym (unit_is (head e) (head_below s level are e he));
        joined = λ i h.
            ap (λ (x : Link). x.head) (chain_link e i he (omega (arith, h, long))) ∙ sym (ap (λ (x : Link). x.tail) (chain_link e (i + 1) he (omega (arith, h, long))));
        lanes = λ i h.
            subst (IsLaneUnit p)
            (sym (ap (λ (x : Link). x.head) (chain_link e i he (omega (arith, h, long))) ∙ stop_lane (run_of s e) i (omega (arith, h, long))))
            (is_lane e i he (omega (arith, h, long)));
      }

  is_link : (k : ℕ) → k < length q.links → IsLinkOf s.level p k
  is_link k h =
      let pl = link_place s level are q made k h in
      let edge : (link_at q.links k).edge ≡ pl.item = ap (λ (x : Link). x.edge) (link_is s level are q made k pl) in
      record {
        edge_in = subst (λ e. e < length s.level.edges) (sym edge) pl.inside;
        no_loop = subst (λ e. is_loop s.level e ≡ false) (sym edge) (no_loop s level are pl.item pl.rest pl.less);
      }

  pub are_linked : AreLinked s.level p s.layers
  are_linked = record { children = is_unit; units = is_unit_or_lane; chains = has_chain; links = is_link }
