-- The last state, lowered to layer 0.
use Rattle.std.proofs.Common.{◌≡◌, ℕ, ◌<◌, ◌^◌, Bool, ℤ, pos, ◌≤ℤ◌, ◌<ℤ◌, List, length, get_or, replicate, map, arith, ap, ◌∙◌, inl, inr}
use Rattle.std.proofs.lemmas.Int.{ints}
use Rattle.std.specs.List.{All}
use Rattle.std.proofs.lemmas.Bool.{cases_lt}
use Rattle.std.proofs.lemmas.List.{get_or-replicate, get_or_past, get_or-map, length-replicate, length-map}
use Rattle.std.proofs.lemmas.List.Elements.{All-from_get_or}
use Rattle.network_laws.specs.declared.network.NetEdge.{NetEdge}
use Rattle.network_laws.specs.Network.{EndsBelow, IsNetwork}
use Rattle.network_laws.specs.Layering.{layer_of, PartsBeginAtZero}
use Rattle.network_laws.specs.Lowering.{KeepsRises}
use Rattle.network_laws.specs.Paths.{AreGreatestSums}
use Rattle.network_laws.specs.Tight.{IsDone}
use Rattle.flow_dual.specs.declared.Label.{Label}
use Rattle.flow_dual.specs.Augmented.{AreDrained}
use Rattle.flow_dual.proofs.Draining.{drained_balances}
use Rattle.flow_dual.proofs.Starting.{first_low}

pub done : (nodes : ℕ) (edges : List NetEdge) (layers : List ℤ) (flow : List ℕ) (excess : List ℤ) (reached : List Bool) (labels : List Label) (dist : List ℕ) (new : List ℤ) → EndsBelow nodes edges → AreDrained nodes edges layers flow excess reached labels dist → length new ≡ nodes → KeepsRises edges layers new → PartsBeginAtZero nodes edges new → IsDone nodes edges new flow
done nodes edges layers flow excess reached labels dist new ends d n rises zero_up = record {
  layer_for_each = n;
  flow_for_each = d.between.round.flow_for_each;
  layering = λ k l. let a = rises k l in let b = d.between.round.layering k l in omega (arith, ints, a, b);
  on_tight = λ k l used. let a = rises k l in let b = d.between.round.on_tight k l used in omega (arith, ints, a, b);
  balances = drained_balances nodes edges layers flow excess reached labels dist ends d;
  from_zero = zero_up;
}

-- the sums fit
pub sum_layers : (nodes : ℕ) (edges : List NetEdge) (layers : List ℤ) → IsNetwork nodes edges → AreGreatestSums nodes edges layers → (v : ℕ) → v < nodes → (pos 0 ≤ℤ layer_of layers v) × (layer_of layers v <ℤ pos (2 ^ 62))
sum_layers nodes edges layers net g v l =
    let a = first_low nodes edges layers net.acyclic g v l in
    let b = a.1 in
    let s = net.least_fits in
    (a.0, omega (arith, ints, b, s))

pub sums_fit : (nodes : ℕ) (edges : List NetEdge) (sums : List ℕ) → IsNetwork nodes edges → AreGreatestSums nodes edges (map pos sums) → All (λ n. n < 2 ^ 63) sums
sums_fit nodes edges sums net g =
    All-from_get_or (λ n. n < 2 ^ 63) sums 0 (λ v l.
    let n = g.layer_for_each in
    let m = length-map sums pos in
    let a = (sum_layers nodes edges (map pos sums) net g v (omega (arith, n, m, l))).1 in
    let e = get_or-map pos sums v 0 (pos 0) l in
    omega (arith, ints, a, e))

-- a list of one value
pub same_everywhere : {A : Type 0} (n i : ℕ) (d : A) (xs : List A) → xs ≡ replicate n d → get_or xs i d ≡ d
same_everywhere n i d xs is =
    elim (cases_lt i n) [
      | inl l ↦ ap (λ ys. get_or ys i d) is ∙ get_or-replicate n i d d l
      | inr p ↦ get_or_past xs i d (let e = ap length is ∙ length-replicate n d in omega (arith, e, p))
    ]
