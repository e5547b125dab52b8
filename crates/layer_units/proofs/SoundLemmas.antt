-- Units and links that are numbered as they should be are sound.
use Rattle.std.proofs.Common.{◌≡◌, ⊎_elim, ℕ, suc, ◌+◌, ◌-◌, ◌<◌, ◌≤◌, ◌==◌, ℤ, pos, ◌≤ℤ◌, List, [], ◌∷◌, length, refl, sym, subst, ap, ◌∙◌, arith}
use Rattle.std.proofs.lemmas.Bool.{cases_lt}
use Rattle.std.proofs.lemmas.Int.{ints}
use Rattle.std.proofs.lemmas.List.Sums.{count_by-le-length}
use Rattle.elk_layers.specs.declared.units.Unit.{Unit as LayerUnit}
use Rattle.elk_layers.specs.Layered.{Plain, unit_at, link_at, layer_of, total_height, HasBodyWithin, IsSoundLink, IsSpacing, IsSound}
use Rattle.level_model.specs.Conditions.{IsLevel}
use Rattle.level_model.specs.Level.{holds}
use Rattle.elk_doc.specs.Sound.{IsDistance}
use Rattle.layer_units.specs.Layering.{Layering, AreLayersOf, tail_child, head_child, layer_in}
use Rattle.layer_units.specs.Numbered.{AreNumberedUnits, child_unit, lane_on, link_on, gaps_of, lanes_of, first_lane, run_of, stop_of}
use Rattle.layer_units.specs.Grown.{AreGrown, child_units}
use Rattle.layer_units.proofs.SumLemmas.{Place, placed, before_below}
use Rattle.layer_units.proofs.CountLemmas.{in_layer, all_count}
use Rattle.layer_units.proofs.RunLemmas.{Stop, at_tail, at_head, at_lane, stop_where, tail_below, head_below, head_in, spans, few_lanes, few_links}
use Rattle.layer_units.proofs.NumberLemmas.{numbered, children_long}

-- a unit is that of a child or a lane
pub data Which (s : Layering) (u : ℕ) : Type 0 where
  a_child : u < length s.level.children → Which s u
  a_lane : (e i : ℕ) → e < length s.level.edges → i < lanes_of s e → u ≡ first_lane s e + i → Which s u

total_zero : (us : List LayerUnit) → ((u : ℕ) → u < length us → (unit_at us u).height ≡ pos 0) → total_height us ≡ pos 0
total_zero [] h = refl
total_zero (x ∷ us) h =
    let here : x.height ≡ pos 0 = h 0 (omega arith) in
    let rest = total_zero us (λ u less. h (suc u) (omega (arith, less))) in
    omega (arith, ints, here, rest)

spaced : (z d : ℤ) → z ≡ d → IsDistance d → IsSpacing z
spaced z d e is = subst IsSpacing (sym e) (record { low = is.above; high = is.below })

module _ (s : Layering) (level : IsLevel s.level) (are : AreLayersOf s.level s.reversed s.layers) (q : Plain) (made : AreGrown s q) where
  pub num : AreNumberedUnits s q
  num = numbered s q are.as_many made

  pub which : (u : ℕ) → u < length q.units → Which s u
  which u h =
      let many = num.as_many_units in
      ⊎_elim
      (λ low. a_child low)
      (λ (high : length s.level.children ≤ u).
      let p = placed (lanes_of s) (length s.level.edges) (u - length s.level.children) (omega (arith, h, high, many)) in
      let at = p.place_is in
      a_lane p.item p.rest p.inside p.less (omega (arith, at, high)))
      (cases_lt u (length s.level.children))

  -- what holds of children and lanes
  pub has_unit : (P : LayerUnit → Type 0) → ((c : ℕ) → c < length s.level.children → P (child_unit (layer_in s.layers c) c))
      → ((e i : ℕ) → e < length s.level.edges → i < lanes_of s e → P (lane_on (run_of s e) i)) → (u : ℕ) → u < length q.units → P (unit_at q.units u)
  has_unit P child lane u h = step (which u h)
    where
      step : Which s u → P (unit_at q.units u)
      step (a_child low) = subst P (sym (num.children u low)) (child u low)
      step (a_lane e i he hi at) = subst P (sym (ap (unit_at q.units) at ∙ num.lanes e i he hi)) (lane e i he hi)

  pub link_place : (k : ℕ) → k < length q.links → Place (gaps_of s) (length s.level.edges) k
  link_place k h = let many = num.as_many_links in placed (gaps_of s) (length s.level.edges) k (omega (arith, h, many))

  pub link_is : (k : ℕ) (p : Place (gaps_of s) (length s.level.edges) k) → link_at q.links k ≡ link_on (run_of s p.item) p.rest
  link_is k p = ap (link_at q.links) p.place_is ∙ num.links p.item p.rest p.inside p.less

  pub stop_there : (e i : ℕ) → e < length s.level.edges → i ≤ gaps_of s e → stop_of (run_of s e) i < length q.units
  stop_there e i he hi = step (stop_where (run_of s e) i hi)
    where
      step : Stop (run_of s e) i → stop_of (run_of s e) i < length q.units
      step (at_tail none at) = let many = num.as_many_units in let below = tail_below s level are e he in omega (arith, at, many, below)
      step (at_head last at) = let many = num.as_many_units in let below = head_below s level are e he in omega (arith, at, many, below)
      step (at_lane j next less at) = let many = num.as_many_units in let below = before_below (lanes_of s) e (length s.level.edges) he in omega (arith, at, many, below, less)

  pub stop_layer : (e i : ℕ) → e < length s.level.edges → i ≤ gaps_of s e
      → layer_of q (stop_of (run_of s e) i) ≡ layer_in s.layers (tail_child s.level (holds s.reversed e) e) + i
  stop_layer e i he hi = step (stop_where (run_of s e) i hi)
    where
      step : Stop (run_of s e) i → layer_of q (stop_of (run_of s e) i) ≡ layer_in s.layers (tail_child s.level (holds s.reversed e) e) + i
      step (at_tail none at) =
          let layer = ap (layer_of q) at ∙ ap (λ (u : LayerUnit). u.layer) (num.children (tail_child s.level (holds s.reversed e) e) (tail_below s level are e he)) in
          omega (arith, layer, none)
      step (at_head last at) =
          let layer = ap (layer_of q) at ∙ ap (λ (u : LayerUnit). u.layer) (num.children (head_child s.level (holds s.reversed e) e) (head_below s level are e he)) in
          let span = spans s level are e he in
          omega (arith, layer, last, span)
      step (at_lane j next less at) =
          let layer = ap (layer_of q) at ∙ ap (λ (u : LayerUnit). u.layer) (num.lanes e j he less) in
          omega (arith, layer, next)

  height_from : (u : ℕ) → u < length q.units → pos 0 ≤ℤ (unit_at q.units u).height
  height_from u h = has_unit (λ x. pos 0 ≤ℤ x.height) (λ c less. omega (arith, ints)) (λ e i he hi. omega (arith, ints)) u h

  flat : (u : ℕ) → u < length q.units → (unit_at q.units u).height ≡ pos 0
  flat u h = has_unit (λ x. x.height ≡ pos 0) (λ c less. refl) (λ e i he hi. refl) u h

  pub layer_below : (u : ℕ) → u < length q.units → layer_of q u < q.layers
  layer_below u h =
      let many = are.as_many in
      has_unit (λ x. x.layer < q.layers) (λ c less. made.count_is.above c (omega (arith, less, many)))
      (λ e i he hi.
      let span = spans s level are e he in
      let below = made.count_is.above (head_child s.level (holds s.reversed e) e) (head_in s level are e he) in
      omega (arith, span, below, hi))
      u h

  few_in : (g : ℕ) → in_layer g q.units ≤ 4096
  few_in g =
      let same = ap (in_layer g) made.units_are in
      let all = all_count g (run_of s) (lanes_of s) (child_units s.layers (length s.layers)) (length s.level.edges) in
      let children = count_by-le-length (λ (u : LayerUnit). u.layer == g) (child_units s.layers (length s.layers)) in
      let long = children_long s.layers (length s.layers) in
      let many = are.as_many in
      let few = level.few_children in
      let edges = level.few_edges in
      omega (arith, same, all, children, long, many, few, edges)

  sound_link : (e i : ℕ) → e < length s.level.edges → i < gaps_of s e → IsSoundLink q (link_on (run_of s e) i)
  sound_link e i he hi =
      let tail = stop_there e i he (omega (arith, hi)) in
      let head = stop_there e (i + 1) he (omega (arith, hi)) in
      record {
        tail = tail;
        head = head;
        next_layer = let from = stop_layer e i he (omega (arith, hi)) in let to = stop_layer e (i + 1) he (omega (arith, hi)) in omega (arith, from, to);
        tail_rank = omega arith;
        head_rank = omega arith;
        tail_at = (omega (arith, ints), height_from (stop_of (run_of s e) i) tail);
        head_at = (omega (arith, ints), height_from (stop_of (run_of s e) (i + 1)) head);
      }

  pub is_sound : IsSound q
  is_sound =
      record {
        node_node_is = spaced q.node_node s.level.spacing.node_node made.node_node_is level.spacing.node_node;
        edge_node_is = spaced q.edge_node s.level.spacing.edge_node made.edge_node_is level.spacing.edge_node;
        edge_edge_is = spaced q.edge_edge s.level.spacing.edge_edge made.edge_edge_is level.spacing.edge_edge;
        few_units = let many = num.as_many_units in let few = few_lanes s level are (length s.level.edges) (omega arith) in let children = level.few_children in omega (arith, many, few, children);
        few_links = let many = num.as_many_links in let few = few_links s level are (length s.level.edges) (omega arith) in omega (arith, many, few);
        layers_are = layer_below;
        few_in_layer = few_in;
        links_are = λ k h. let p = link_place k h in subst (IsSoundLink q) (sym (link_is k p)) (sound_link p.item p.rest p.inside p.less);
        heights = height_from;
        together = let none = total_zero q.units flat in omega (arith, ints, none);
        lanes_are_flat = λ u h lane. flat u h;
        bodies = λ u h child.
            has_unit HasBodyWithin (λ c less. record { top = omega (arith, ints); height = omega (arith, ints); bottom = omega (arith, ints) })
            (λ e i he hi. record { top = omega (arith, ints); height = omega (arith, ints); bottom = omega (arith, ints) }) u h;
      }
