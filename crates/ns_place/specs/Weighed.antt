-- Links that weigh more than others: tops at which their weighed heights are least together, and the flow that shows it.
use Rattle.std.specs.Prelude.{◌≡◌, ℕ, ◌+◌, ◌*◌, ◌<◌, ◌≤◌, ℤ, pos, ◌+ℤ◌, ◌≤ℤ◌, List, [], ◌∷◌, length, slice_index}
use Rattle.std.specs.List.{All}
use Rattle.elk_layers.specs.declared.units.Link.{Link}
use Rattle.elk_layers.specs.Layered.{Plain}
use Rattle.elk_layers.specs.Lines.{AreApart}
use Rattle.ns_place.specs.declared.least.PairFlow.{PairFlow}
use Rattle.ns_place.specs.Heights.{link_height, KeepDistances, AddUp}
use Rattle.ns_place.specs.Flows.{flow_at}

abbrev pub greatest_weight : ℕ
greatest_weight = 64

-- the weight of the link with this number
abbrev pub weight_at : List ℕ → ℕ → ℕ
weight_at weights k = slice_index weights k

-- a weight for each link
pub record AreWeights (l : Plain) (weights : List ℕ) : Type 0 where
  pub one_each : length weights ≡ length l.links
  pub small : All (λ w. w ≤ greatest_weight) weights

-- the heights of these links together, each times its weight
abbrev pub weighed_heights : List ℤ → List Link → List ℕ → ℕ
weighed_heights tops [] ws = 0
weighed_heights tops (l ∷ ls) [] = 0
weighed_heights tops (l ∷ ls) (w ∷ ws) = w * link_height tops l + weighed_heights tops ls ws

-- a number from less than nothing by the weight up to the weight
abbrev pub IsWithinWeight : ℕ → ℤ → Type 0
IsWithinWeight w f = (pos 0 ≤ℤ (f +ℤ pos w)) × (f ≤ℤ pos w)

-- numbers on the links, each within its weight, that bound the weighed heights of all links from below
pub record IsWeighedProof (l : Plain) (rows : List (List ℕ)) (weights : List ℕ) (height : ℕ) (link_flow : List ℤ)
    (pairs : List PairFlow) : Type 0 where
  pub within : (k : ℕ) → k < length l.links → IsWithinWeight (weight_at weights k) (flow_at link_flow k)
  pub add_up : AddUp l rows height link_flow pairs

-- no tops that keep the distances have links whose weighed heights are less together
abbrev pub IsLeastWeighed : Plain → List (List ℕ) → List ℕ → ℕ → Type 0
IsLeastWeighed l rows weights height =
    (other : List ℤ) → KeepDistances l rows other → height ≤ weighed_heights other l.links weights

-- a placing of least weighed height, with its proof
pub record IsWeighedPlacing (l : Plain) (rows : List (List ℕ)) (weights : List ℕ) (tops : List ℤ) (height : ℕ)
    (link_flow : List ℤ) (pairs : List PairFlow) : Type 0 where
  pub apart : AreApart l rows tops
  pub height_is : height ≡ weighed_heights tops l.links weights
  pub least : IsLeastWeighed l rows weights height
  pub proof : IsWeighedProof l rows weights height link_flow pairs
