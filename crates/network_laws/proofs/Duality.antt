use Rattle.std.proofs.Common.{◌≡◌, ◌≢◌, ℕ, zero, suc, ◌+◌, ◌*◌, ◌<◌, ◌≤◌, eqb, eq-eqb, cond, true, false, ℤ, pos, negsuc, ◌+ℤ◌, ◌-ℤ◌, ◌≤ℤ◌, List, [], ◌∷◌, length, arith, refl, sym, ap, inl, inr}
use Rattle.std.proofs.lemmas.Int.{ints}
use Rattle.std.proofs.lemmas.Bool.{cases_eq}
use Rattle.std.proofs.lemmas.Bool.Decides.{nat_tests}
use Rattle.std.proofs.Math.Nat.{mul-le-mul_left}
use Rattle.network_laws.specs.declared.network.NetEdge.{NetEdge}
use Rattle.network_laws.specs.Network.{edge_at, EndsBelow}
use Rattle.network_laws.specs.Layering.{layer_of, IsLayering, natural, rise, weighed, weights, cost, at_node, inward, outward, Balances, FlowBounds}

-- the sum over the nodes below n
abbrev pub over_nodes : (ℕ → ℕ) → ℕ → ℕ
over_nodes g zero = 0
over_nodes g (suc n) = over_nodes g n + g n

pub over_same : (g k : ℕ → ℕ) (n : ℕ) → ((v : ℕ) → v < n → g v ≡ k v) → over_nodes g n ≡ over_nodes k n
over_same g k zero h = refl
over_same g k (suc n) h =
    let a = over_same g k n (λ v l. h v (omega arith)) in
    let b = h n (omega arith) in
    omega (arith, a, b)

pub over_sum : (g k : ℕ → ℕ) (n : ℕ) → over_nodes (λ v. g v + k v) n ≡ over_nodes g n + over_nodes k n
over_sum g k zero = refl
over_sum g k (suc n) = let a = over_sum g k n in omega (arith, a)

over_none : (g : ℕ → ℕ) (n : ℕ) → ((v : ℕ) → v < n → g v ≡ 0) → over_nodes g n ≡ 0
over_none g zero h = refl
over_none g (suc n) h =
    let a = over_none g n (λ v l. h v (omega arith)) in
    let b = h n (omega arith) in
    omega (arith, a, b)

eqb_other : (m n : ℕ) → m ≢ n → eqb m n ≡ false
eqb_other m n h = grind (arith, nat_tests, h)

over_past : (u : ℕ → ℕ) (a at n : ℕ) → n ≤ at → over_nodes (λ v. cond (eqb at v) a 0 * u v) n ≡ 0
over_past u a at n h = over_none (λ v. cond (eqb at v) a 0 * u v) n (λ v l. let ne : at ≢ v = omega arith in rw (eqb_other at v ne) (omega arith))

-- an amount at one node
pub over_one : (u : ℕ → ℕ) (a at n : ℕ) → at < n → over_nodes (λ v. cond (eqb at v) a 0 * u v) n ≡ a * u at
over_one u a at zero h = absurd (omega arith)
over_one u a at (suc n) h =
    elim (cases_eq at n) [
      | inl e ↦
          let before = over_past u a at n (omega arith) in
          let here : eqb at n ≡ true = eq-eqb at n e in
          let same : u n ≡ u at = ap u (sym e) in
          rw here (rw same (omega (arith, before)))
      | inr ne ↦
          let b = over_one u a at n (omega arith) in
          let z : eqb at n ≡ false = eqb_other at n ne in
          rw z (omega (arith, b))
    ]

-- the amounts that stand at the nodes, over all nodes, are those that the edges carry to that end
pub at_ends : (u : ℕ → ℕ) (end : NetEdge → ℕ) (nodes : ℕ) (edges : List NetEdge) (amounts : List ℕ) → ((k : ℕ) → k < length edges → end (edge_at edges k) < nodes) → weighed (λ (e : NetEdge). u (end e)) edges amounts ≡ over_nodes (λ v. at_node end edges amounts v * u v) nodes
at_ends u end nodes [] amounts below = sym (over_none (λ v. 0 * u v) nodes (λ v l. omega arith))
at_ends u end nodes (e ∷ es) [] below = sym (over_none (λ v. 0 * u v) nodes (λ v l. omega arith))
at_ends u end nodes (e ∷ es) (a ∷ as') below =
    let rest = at_ends u end nodes es as' (λ k l. below (suc k) (omega arith)) in
    let one = over_one u a (end e) nodes (below 0 (omega arith)) in
    let split = over_sum (λ v. cond (eqb (end e) v) a 0 * u v) (λ v. at_node end es as' v * u v) nodes in
    let same = over_same (λ v. (cond (eqb (end e) v) a 0 + at_node end es as' v) * u v) (λ v. cond (eqb (end e) v) a 0 * u v + at_node end es as' v * u v) nodes (λ v l. omega arith) in
    omega (arith, rest, one, split, same)

product : (a b c d x : ℕ) → a + b ≡ c + d → a * x + b * x ≡ c * x + d * x
product a b c d x h = let e = ap (λ n. n * x) h in omega (arith, e)

-- a flow that balances carries any potential as the weights do
pub carries : (u : ℕ → ℕ) (nodes : ℕ) (edges : List NetEdge) (flow : List ℕ) → EndsBelow nodes edges → Balances nodes edges flow → weighed (λ (e : NetEdge). u e.head) edges flow + weighed (λ (e : NetEdge). u e.tail) edges (weights edges) ≡ weighed (λ (e : NetEdge). u e.head) edges (weights edges) + weighed (λ (e : NetEdge). u e.tail) edges flow
carries u nodes edges flow ends balances =
    let ws = weights edges in
    let hf = at_ends u (λ (e : NetEdge). e.head) nodes edges flow (λ k l. (ends k l).1) in
    let tf = at_ends u (λ (e : NetEdge). e.tail) nodes edges flow (λ k l. (ends k l).0) in
    let hw = at_ends u (λ (e : NetEdge). e.head) nodes edges ws (λ k l. (ends k l).1) in
    let tw = at_ends u (λ (e : NetEdge). e.tail) nodes edges ws (λ k l. (ends k l).0) in
    let left = over_sum (λ v. inward edges flow v * u v) (λ v. outward edges ws v * u v) nodes in
    let right = over_sum (λ v. inward edges ws v * u v) (λ v. outward edges flow v * u v) nodes in
    let same =
    over_same (λ v. inward edges flow v * u v + outward edges ws v * u v) (λ v. inward edges ws v * u v + outward edges flow v * u v) nodes
    (λ v l. product (inward edges flow v) (outward edges ws v) (inward edges ws v) (outward edges flow v) (u v) (balances v l))
    in
    omega (arith, hf, tf, hw, tw, left, right, same)

-- a layering's layers, raised above 0, as natural numbers
abbrev pub raised : ℕ → List ℤ → ℕ → ℕ
raised k layers v = natural (layer_of layers v +ℤ pos k)

abbrev pub depth : List ℤ → ℕ
depth [] = 0
depth (pos n ∷ xs) = depth xs
depth (negsuc n ∷ xs) = suc n + depth xs

deep_enough : (layers : List ℤ) (v : ℕ) → pos 0 ≤ℤ (layer_of layers v +ℤ pos (depth layers))
deep_enough [] v = omega (arith, ints)
deep_enough (pos n ∷ xs) zero = omega (arith, ints)
deep_enough (negsuc n ∷ xs) zero = omega (arith, ints)
deep_enough (pos n ∷ xs) (suc v) = deep_enough xs v
deep_enough (negsuc n ∷ xs) (suc v) = let a = deep_enough xs v in omega (arith, ints, a)

pub natural_is : (z : ℤ) → pos 0 ≤ℤ z → pos (natural z) ≡ z
natural_is (pos n) h = refl
natural_is (negsuc n) h = absurd (omega (arith, ints))

-- an edge that does not fall carries a potential up by its rise
rises : (layers : List ℤ) (e : NetEdge) → layer_of layers e.tail ≤ℤ layer_of layers e.head → raised (depth layers) layers e.head ≡ raised (depth layers) layers e.tail + rise layers e
rises layers e h =
    let a = natural_is (layer_of layers e.head +ℤ pos (depth layers)) (deep_enough layers e.head) in
    let b = natural_is (layer_of layers e.tail +ℤ pos (depth layers)) (deep_enough layers e.tail) in
    let c = natural_is (layer_of layers e.head -ℤ layer_of layers e.tail) (omega (arith, ints)) in
    omega (arith, ints, a, b, c)

least_le_rise : (layers : List ℤ) (e : NetEdge) → (layer_of layers e.tail +ℤ pos e.least) ≤ℤ layer_of layers e.head → e.least ≤ rise layers e
least_le_rise layers e h =
    let c = natural_is (layer_of layers e.head -ℤ layer_of layers e.tail) (omega (arith, ints)) in
    omega (arith, ints, c)

pub weighed_sum : (g h k : NetEdge → ℕ) (edges : List NetEdge) (amounts : List ℕ) → ((i : ℕ) → i < length edges → g (edge_at edges i) ≡ h (edge_at edges i) + k (edge_at edges i)) → weighed g edges amounts ≡ weighed h edges amounts + weighed k edges amounts
weighed_sum g h k [] amounts same = refl
weighed_sum g h k (e ∷ es) [] same = refl
weighed_sum g h k (e ∷ es) (a ∷ as') same =
    let rest = weighed_sum g h k es as' (λ i l. same (suc i) (omega arith)) in
    let here : g e ≡ h e + k e = same 0 (omega arith) in
    rw here (omega (arith, rest))

pub weighed_le : (g h : NetEdge → ℕ) (edges : List NetEdge) (amounts : List ℕ) → ((i : ℕ) → i < length edges → g (edge_at edges i) ≤ h (edge_at edges i)) → weighed g edges amounts ≤ weighed h edges amounts
weighed_le g h [] amounts le = omega arith
weighed_le g h (e ∷ es) [] le = omega arith
weighed_le g h (e ∷ es) (a ∷ as') le =
    let rest = weighed_le g h es as' (λ i l. le (suc i) (omega arith)) in
    let here : g e ≤ h e = le 0 (omega arith) in
    omega (arith, rest, mul-le-mul_left a here)

-- a flow that balances costs what the weights cost, at each layering
pub same_cost : (nodes : ℕ) (edges : List NetEdge) (flow : List ℕ) (layers : List ℤ) → EndsBelow nodes edges → Balances nodes edges flow → IsLayering edges layers → weighed (rise layers) edges flow ≡ cost edges layers
same_cost nodes edges flow layers ends balances up =
    let u = raised (depth layers) layers in
    let e1 = carries u nodes edges flow ends balances in
    let rise_of : (i : ℕ) → i < length edges → u (edge_at edges i).head ≡ u (edge_at edges i).tail + rise layers (edge_at edges i) =
    λ i l. rises layers (edge_at edges i) (let h = up i l in omega (arith, ints, h))
    in
    let e2 = weighed_sum (λ (e : NetEdge). u e.head) (λ (e : NetEdge). u e.tail) (rise layers) edges flow rise_of in
    let e3 = weighed_sum (λ (e : NetEdge). u e.head) (λ (e : NetEdge). u e.tail) (rise layers) edges (weights edges) rise_of in
    omega (arith, e1, e2, e3)

pub flow_bounds_cost : FlowBounds
flow_bounds_cost nodes edges flow ends balances layers up =
    let a = same_cost nodes edges flow layers ends balances up in
    let b = weighed_le (λ (e : NetEdge). e.least) (rise layers) edges flow (λ i l. least_le_rise layers (edge_at edges i) (up i l)) in
    omega (arith, a, b)
