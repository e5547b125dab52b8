use Rattle.std.proofs.Common.{◌≡◌, ℕ, zero, suc, ◌+◌, ◌*◌, ◌<◌, ℤ, pos, ◌-ℤ◌, ◌≤ℤ◌, take, List, [], ◌∷◌, length, arith, refl, sym, ap, ◌∙◌, inl, inr}
use Rattle.std.proofs.lemmas.Int.{ints}
use Rattle.std.proofs.lemmas.Bool.{cases_lt}
use Rattle.std.proofs.lemmas.List.{get_or_past}
use Rattle.network_laws.specs.declared.network.NetEdge.{NetEdge}
use Rattle.network_laws.specs.Network.{edge_at, EndsBelow}
use Rattle.network_laws.specs.Layering.{layer_of, natural, rise, weighed, cost, flow_value, IsSolution}
use Rattle.network_laws.specs.Tight.{IsTightEdge, FlowOnTight, IsDone}
use Rattle.network_laws.proofs.Duality.{same_cost, flow_bounds_cost}

natural_pos : (n : ℕ) (z : ℤ) → z ≡ pos n → natural z ≡ n
natural_pos n z h = ap natural h

tight_rise : (layers : List ℤ) (e : NetEdge) → IsTightEdge layers e → rise layers e ≡ e.least
tight_rise layers e h =
    natural_pos e.least (layer_of layers e.head -ℤ layer_of layers e.tail) (omega (arith, ints, h))

-- a flow that runs on tight edges alone has the value of its rises
tight_value : (edges : List NetEdge) (layers : List ℤ) (flow : List ℕ) → FlowOnTight edges layers flow → weighed (rise layers) edges flow ≡ flow_value edges flow
tight_value [] layers flow h = refl
tight_value (e ∷ es) layers [] h = refl
tight_value (e ∷ es) layers (zero ∷ fs) h =
    let rest = tight_value es layers fs (λ k l p. h (suc k) (omega arith) p) in
    omega (arith, rest)
tight_value (e ∷ es) layers (suc f ∷ fs) h =
    let rest = tight_value es layers fs (λ k l p. h (suc k) (omega arith) p) in
    let here = tight_rise layers e (h 0 (omega arith) (omega arith)) in
    rw here (omega (arith, rest))

pub solved : (nodes : ℕ) (edges : List NetEdge) (layers : List ℤ) (flow : List ℕ) (total : ℕ) → EndsBelow nodes edges → IsDone nodes edges layers flow → total ≡ cost edges layers → IsSolution nodes edges layers flow total
solved nodes edges layers flow total ends d is =
    let value : flow_value edges flow ≡ total =
    sym (tight_value edges layers flow d.on_tight) ∙ (same_cost nodes edges flow layers ends d.balances d.layering ∙ sym is)
    in
    record {
      layer_for_each = d.layer_for_each;
      flow_for_each = d.flow_for_each;
      layering = d.layering;
      from_zero = d.from_zero;
      cost_is = is;
      balances = d.balances;
      value_is = value;
      least = λ other up. rw (← value) (flow_bounds_cost nodes edges flow ends d.balances other up);
    }

-- the step of a running cost
pub cost_more : (layers : List ℤ) (edges : List NetEdge) (i : ℕ) → i < length edges → cost (take (i + 1) edges) layers ≡ cost (take i edges) layers + (edge_at edges i).weight * rise layers (edge_at edges i)
cost_more layers [] i h = absurd (omega arith)
cost_more layers (e ∷ es) zero h = omega arith
cost_more layers (e ∷ es) (suc i) h =
    let rest = cost_more layers es i (omega arith) in
    let n : suc i + 1 ≡ suc (i + 1) = omega arith in
    rw n (omega (arith, rest))

pub none_below : (nodes : ℕ) (layers : List ℤ) → length layers ≡ nodes → ((v : ℕ) → v < nodes → pos 0 ≤ℤ layer_of layers v) → (v : ℕ) → pos 0 ≤ℤ layer_of layers v
none_below nodes layers l h v =
    elim (cases_lt v nodes) [
      | inl a ↦ h v a
      | inr b ↦ rw (get_or_past layers v (pos 0) (omega arith)) (omega (arith, ints))
    ]
