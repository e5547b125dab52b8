-- What a solution of the network says of the placing that is made of it.
use Rattle.std.proofs.Common.{◌≡◌, ℕ, suc, replicate, ◌+◌, ◌*◌, ◌<◌, ◌≤◌, ℤ, pos, ◌+ℤ◌, ◌≤ℤ◌, List, [], ◌∷◌, ◌++◌, length, map, drop, get_or, Bool, true, false, arith, refl, sym, ◌∙◌, ap, subst}
use Rattle.std.proofs.lemmas.Int.{ints, clamps}
use Rattle.std.proofs.Math.Nat.{mul-le-mul_left}
use Rattle.std.specs.List.{All}
use Rattle.std.proofs.lemmas.List.{length-replicate, get_or-replicate, length-map, length-drop, ext_get_or, get_or-map, get_or-drop}
use Rattle.std.proofs.lemmas.List.Elements.{All-nil, All-cons, All-head, All-tail, All-from_get_or}
use Rattle.elk_layers.specs.declared.units.Link.{Link}
use Rattle.elk_layers.specs.Layered.{Plain, IsSound, IsSoundLink, AreRows, unit_at}
use Rattle.elk_layers.specs.Lines.{lane_below, lane_above}
use Rattle.network_laws.specs.declared.network.NetEdge.{NetEdge}
use Rattle.network_laws.specs.Layering.{Balances, flow_value, IsSolution}
use Rattle.unit_blocks.specs.Constraints.{greatest_spacing}
use Rattle.unit_blocks.proofs.StackLemmas.{facing_within}
use Rattle.ns_place.specs.declared.least.PairFlow.{PairFlow}
use Rattle.ns_place.specs.Pairs.{all_pairs, distance, IsPair}
use Rattle.ns_place.specs.Heights.{heights_together, without_flow, IsUnitFlow, KeepDistances, IsLeastPlacing}
use Rattle.ns_place.specs.Weighed.{greatest_weight, weight_at, AreWeights, weighed_heights, IsWithinWeight, IsWeighedPlacing}
use Rattle.ns_place.specs.Flows.{pair_at, flow_at, TellFlows, WritesFlows}
use Rattle.ns_place.specs.Network.{joining, edge_for, alone_of, edges_of}
use Rattle.ns_place.specs.Tops.{AreClosedTops}
use Rattle.ns_place.proofs.PairLemmas.{IsApart, are_pairs, all_apart, distances_kept, kept_distances, no_flow_yet}
use Rattle.ns_place.proofs.NetworkLemmas.{joining_long, edges_long, link_ends, have_pins}
use Rattle.ns_place.proofs.FlowLemmas.{weighed_pins, AreLinkFlows, link_flows_are, flows_of, both_each, none_below, unit_balance, value_split}
use Rattle.ns_place.proofs.CostLemmas.{HasEndsBelow, cost_least, layers_apart, is_layering, cost_most}
use Rattle.ns_place.specs.Start.{completed}

pub solved_from : (l : Plain) (rows : List (List ℕ)) (ws : List ℕ) (nodes : ℕ) (edges : List NetEdge) (pairs : List PairFlow) (layers : List ℤ) (flow : List ℕ) (total : ℕ)
    → nodes ≡ alone_of l + 1 → edges ≡ edges_of l ws pairs → pairs ≡ all_pairs l rows → IsSolution nodes edges layers flow total → IsSolution (alone_of l + 1) (edges_of l ws (all_pairs l rows)) layers flow total
solved_from l rows ws nodes edges pairs layers flow total en ee ep s =
    subst (λ n. IsSolution n (edges_of l ws (all_pairs l rows)) layers flow total) en
    (subst (λ es. IsSolution nodes es layers flow total) (ee ∙ ap (edges_of l ws) ep) s)

distance_by : (l : Plain) (upper lower : ℕ) (body : Bool) (flow : ℕ) → IsSound l → IsPair l (record { upper = upper; lower = lower; body = body; flow = flow })
    → distance l (record { upper = upper; lower = lower; body = body; flow = flow }) ≤ℤ ((unit_at l.units upper).height +ℤ greatest_spacing l)
distance_by l upper lower true flow s p =
    let a = s.bodies upper p.upper_is (p.children refl).0 in
    let b = s.bodies lower p.lower_is (p.children refl).1 in
    let x = a.bottom in
    let y = b.top in
    omega (arith, ints, clamps, x, y)
distance_by l upper lower false flow s p =
    let f = facing_within l (lane_below l upper) (lane_above l lower) in
    omega (arith, ints, f)

-- pairs before and after their flows are written

pairs_again : (l : Plain) (ps : List PairFlow) → All (IsPair l) (map without_flow ps) → All (IsPair l) ps
pairs_again l [] h = All-nil (IsPair l)
pairs_again l (p ∷ ps) h =
    let here = All-head (IsPair l) (without_flow p) (map without_flow ps) h in
    All-cons (IsPair l) p ps (record { upper_is = here.upper_is; lower_is = here.lower_is; children = here.children }) (pairs_again l ps (All-tail (IsPair l) (without_flow p) (map without_flow ps) h))

edges_again : (l : Plain) (alone : ℕ) (ps : List PairFlow) → map (edge_for l alone) ps ≡ map (edge_for l alone) (map without_flow ps)
edges_again l alone [] = refl
edges_again l alone (p ∷ ps) = ap (λ es. edge_for l alone p ∷ es) (edges_again l alone ps)

same_pair : (p : PairFlow) → p.flow ≡ 0 → without_flow p ≡ p
same_pair p e = let make : ℕ → PairFlow = λ n. record { upper = p.upper; lower = p.lower; body = p.body; flow = n } in ap make (sym e)

heights_kept : (l : Plain) (layers tops : List ℤ) (ls : List Link) (ws : List ℕ) → AreClosedTops l layers tops → All (IsSoundLink l) ls → weighed_heights tops ls ws ≤ weighed_heights layers ls ws
heights_kept l layers tops [] ws c h = omega arith
heights_kept l layers tops (k ∷ ls) [] c h = omega arith
heights_kept l layers tops (k ∷ ls) (w ∷ ws) c h =
    let rest = heights_kept l layers tops ls ws c (All-tail (IsSoundLink l) k ls h) in
    let s = All-head (IsSoundLink l) k ls h in
    let here = mul-le-mul_left w (c.not_higher k s.tail s.head s.tail_at s.head_at) in
    omega (arith, rest, here)

within_from : (a b w : ℕ) (f : ℤ) → f +ℤ pos w ≡ pos a → a + b ≡ 2 * w → IsWithinWeight w f
within_from a b w f e s = (omega (arith, ints, e), omega (arith, ints, e, s))

module _ (l : Plain) (rows : List (List ℕ)) (sound : IsSound l) (are : AreRows l rows) (ws : List ℕ) (weigh : AreWeights l ws) (layers : List ℤ) (flow : List ℕ) (total : ℕ) (solved : IsSolution (alone_of l + 1) (edges_of l ws (all_pairs l rows)) layers flow total) where
  abbrev pairs : List PairFlow
  pairs = all_pairs l rows

  pub flow_long : length flow ≡ 2 * length l.links + length (all_pairs l rows)
  flow_long = solved.flow_for_each ∙ edges_long l rows sound are ws weigh (all_pairs l rows)

  ends_below : All (HasEndsBelow (length l.units)) l.links
  ends_below = All-from_get_or (HasEndsBelow (length l.units)) l.links (record { edge = 0; tail = 0; head = 0; tail_rank = 0; head_rank = 0; tail_at = pos 0; head_at = pos 0 }) (link_ends l rows sound are)

  sound_links : All (IsSoundLink l) l.links
  sound_links = All-from_get_or (IsSoundLink l) l.links (record { edge = 0; tail = 0; head = 0; tail_rank = 0; head_rank = 0; tail_at = pos 0; head_at = pos 0 }) sound.links_are

  pub both_of_each : (k : ℕ) → k < length l.links → get_or flow (2 * k) 0 + get_or flow (2 * k + 1) 0 ≡ 2 * weight_at ws k
  both_of_each = both_each l ws weigh (all_pairs l rows) (link_ends l rows sound are) (are_pairs l rows are) flow solved.balances flow_long

  -- no tops that keep the distances cost less than the solution
  bound : (other : List ℤ) → KeepDistances l rows other → total ≤ weighed_heights other l.links ws + weighed_pins l.links ws
  bound other keep =
      let apart = kept_distances l rows other keep in
      let a = solved.least (completed other l.links) (is_layering l (all_pairs l rows) other keep.as_many ends_below (have_pins l rows sound are) (are_pairs l rows are) apart ws) in
      let b = cost_most l (all_pairs l rows) other keep.as_many ends_below (have_pins l rows sound are) (are_pairs l rows are) apart ws in
      omega (arith, a, b)

  module _ (tops : List ℤ) (closed : AreClosedTops l layers tops) where
    tops_apart : All (IsApart l tops) (all_pairs l rows)
    tops_apart =
        let layered = all_apart l rows layers sound are (layers_apart l ws (all_pairs l rows) layers solved.layering) in
        λ k d h.
        let p : PairFlow = get_or (all_pairs l rows) k d in
        let is = are_pairs l rows are k d h in
        closed.apart p.upper p.lower (distance l p) is.upper_is is.lower_is (distance_by l p.upper p.lower p.body p.flow sound (record { upper_is = is.upper_is; lower_is = is.lower_is; children = is.children })) (layered k d h)

    tops_keep : KeepDistances l rows tops
    tops_keep = distances_kept l rows tops closed.as_many tops_apart

    height_of_total : weighed_heights tops l.links ws + weighed_pins l.links ws ≡ total
    height_of_total =
        let a = bound tops tops_keep in
        let b = heights_kept l layers tops l.links ws closed sound_links in
        let c = cost_least l ws (all_pairs l rows) layers (have_pins l rows sound are) solved.layering in
        let d = solved.cost_is in
        omega (arith, a, b, c, d)

    module _ (fs : List ℤ) (told : TellFlows flow ws fs) (ps : List PairFlow) (writes : WritesFlows flow (2 * length l.links) (all_pairs l rows) (length (all_pairs l rows)) ps) where
      told_each : length fs ≡ length l.links
      told_each = told.as_many ∙ weigh.one_each

      told_at : (k : ℕ) → k < length l.links → flow_at fs k +ℤ pos (weight_at ws k) ≡ pos (get_or flow (2 * k) 0)
      told_at k h = told.told k (let e = weigh.one_each in omega (arith, e, h))

      link_flows : AreLinkFlows l.links ws flow fs
      link_flows = link_flows_are l.links ws flow fs weigh.one_each (let a = flow_long in omega (arith, a)) told_each told_at both_of_each

      pairs_are : map without_flow ps ≡ all_pairs l rows
      pairs_are =
          ext_get_or (record { upper = 0; lower = 0; body = false; flow = 0 }) (map without_flow ps) (all_pairs l rows) (length-map ps without_flow ∙ writes.as_many)
          (λ i h.
          let a : i < length ps = let e = length-map ps without_flow in omega (arith, e, h) in
          let b : i < length (all_pairs l rows) = let e = writes.as_many in omega (arith, e, a) in
          get_or-map without_flow ps i (record { upper = 0; lower = 0; body = false; flow = 0 }) (record { upper = 0; lower = 0; body = false; flow = 0 }) a
          ∙ ap without_flow (writes.written i b)
          ∙ same_pair (pair_at (all_pairs l rows) i) (no_flow_yet l rows i (record { upper = 0; lower = 0; body = false; flow = 0 }) b))

      written : drop (length (joining (length l.units) l.links ws)) flow ≡ flows_of ps
      written =
          let m = joining_long (length l.units) l.links ws weigh.one_each in
          let a = length-drop (2 * length l.links) flow in
          let b = length-map ps (λ (p : PairFlow). p.flow) in
          let c = flow_long in
          let d = writes.as_many in
          rw m (ext_get_or 0 (drop (2 * length l.links) flow) (flows_of ps) (omega (arith, a, b, c, d))
          (λ i h.
          let k : i < length (all_pairs l rows) = omega (arith, a, c, h) in
          get_or-drop (2 * length l.links) flow i 0
          ∙ sym (get_or-map (λ (p : PairFlow). p.flow) ps i (record { upper = 0; lower = 0; body = false; flow = 0 }) 0 (omega (arith, d, k)) ∙ ap (λ (p : PairFlow). p.flow) (writes.written i k))))

      edges_same : edges_of l ws ps ≡ edges_of l ws (all_pairs l rows)
      edges_same = ap (λ es. joining (length l.units) l.links ws ++ es) (edges_again l (alone_of l) ps ∙ ap (map (edge_for l (alone_of l))) pairs_are)

      pairs_now : All (IsPair l) ps
      pairs_now = pairs_again l ps (subst (All (IsPair l)) (sym pairs_are) (are_pairs l rows are))

      balances_now : Balances (alone_of l + 1) (edges_of l ws ps) flow
      balances_now = subst (λ es. Balances (alone_of l + 1) es flow) (sym edges_same) solved.balances

      long_now : length flow ≡ 2 * length l.links + length ps
      long_now = let a = flow_long in let b = writes.as_many in omega (arith, a, b)

      pub weighed_placing : (height : ℕ) → height ≡ weighed_heights tops l.links ws → IsWeighedPlacing l rows ws tops height fs ps
      weighed_placing height is =
          let ends = link_ends l rows sound are in
          let keep = tops_keep in
          let sum = height_of_total in
          let value = value_split l ws weigh ps ends pairs_now flow balances_now long_now written fs link_flows (have_pins l rows sound are) in
          let v : pos (flow_value (edges_of l ws ps) flow) ≡ pos total = ap (λ es. pos (flow_value es flow)) edges_same ∙ ap pos solved.value_is in
          record {
            apart = record { as_many = keep.as_many; from_zero = closed.from_zero; room = keep.rooms; body_room = keep.body_rooms };
            height_is = is;
            least = λ other k. let b = bound other k in omega (arith, b, sum, is);
            proof = record {
              within = λ k h. within_from (get_or flow (2 * k) 0) (get_or flow (2 * k + 1) 0) (weight_at ws k) (flow_at fs k) (told_at k h) (both_of_each k h);
              add_up = record {
                one_each = told_each;
                pairs_are = pairs_are;
                none_below = none_below l ws weigh ps ends pairs_now flow balances_now long_now written;
                balanced = unit_balance l ws weigh ps ends pairs_now flow balances_now long_now written fs link_flows;
                value = omega (arith, ints, value, v, sum, is);
              };
            };
          }

-- where each link weighs 1

abbrev pub EachWeighsOne : List Link → List ℕ → Type 0
EachWeighsOne ls ws = (k : ℕ) → k < length ls → weight_at ws k ≡ 1

heights_even : (tops : List ℤ) (ls : List Link) (ws : List ℕ) → length ws ≡ length ls → EachWeighsOne ls ws → weighed_heights tops ls ws ≡ heights_together tops ls
heights_even tops [] ws each one = refl
heights_even tops (l ∷ ls) [] each one = absurd (omega (arith, each))
heights_even tops (l ∷ ls) (w ∷ ws) each one =
    let rest = heights_even tops ls ws (omega (arith, each)) (λ k h. one (suc k) (omega (arith, h))) in
    let here : w ≡ 1 = one 0 (omega arith) in
    rw here (omega (arith, rest))

pub even_one : (ls : List Link) → EachWeighsOne ls (replicate (length ls) 1)
even_one ls k h = get_or-replicate (length ls) k 1 0 h

even_long : (n one : ℕ) → length (replicate n one) ≡ n
even_long n one = length-replicate n one

pub even_weigh : (l : Plain) → AreWeights l (replicate (length l.links) 1)
even_weigh l =
    record {
      one_each = even_long (length l.links) 1;
      small = All-from_get_or (λ w. w ≤ greatest_weight) (replicate (length l.links) 1) 0
          (λ k h. let e = even_long (length l.links) 1 in let at = even_one l.links k (omega (arith, e, h)) in omega (arith, at));
    }

pub least_placing : (l : Plain) (rows : List (List ℕ)) (ws : List ℕ) (tops : List ℤ) (height : ℕ) (fs : List ℤ) (ps : List PairFlow)
    → length ws ≡ length l.links → EachWeighsOne l.links ws → IsWeighedPlacing l rows ws tops height fs ps → IsLeastPlacing l rows tops height fs ps
least_placing l rows ws tops height fs ps each one p =
    record {
      apart = p.apart;
      height_is = p.height_is ∙ heights_even tops l.links ws each one;
      least = λ other keep. let b = p.least other keep in let e = heights_even other l.links ws each one in omega (arith, b, e);
      proof = record {
        unit_flows = All-from_get_or IsUnitFlow fs (pos 0)
            (λ k h.
            let e = p.proof.add_up.one_each in
            let q : k < length l.links = omega (arith, e, h) in
            let w = p.proof.within k q in
            let is = one k q in
            let low = w.0 in
            let high = w.1 in
            (omega (arith, ints, is, low), omega (arith, ints, is, high)));
        add_up = p.proof.add_up;
      };
    }
