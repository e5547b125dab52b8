-- Weights that hold straight what alignment keeps straight.
use Rattle.std.specs.Prelude.{◌≡◌, ◌≢◌, ℕ, ◌<◌, ◌==◌, cond, ℤ, List, length, None}
use Rattle.elk_layers.specs.declared.units.Link.{Link}
use Rattle.elk_layers.specs.Layered.{Plain}
use Rattle.elk_layers.specs.Lines.{IsHorizontal}
use Rattle.bk_place.specs.Placement.{AreLinesOf}
use Rattle.ns_place.specs.declared.least.PairFlow.{PairFlow}
use Rattle.ns_place.specs.Heights.{link_height}
use Rattle.ns_place.specs.Weighed.{weight_at, IsWeighedPlacing}

-- the weight of a link at these tops: so much where it has no height, and else 1
abbrev pub weight_for : ℕ → List ℤ → Link → ℕ
weight_for straightness tops link = cond (link_height tops link == 0) straightness 1

-- a link whose ends are horizontal at these tops weighs so much, and any other 1
pub record WeighsStraight (l : Plain) (straightness : ℕ) (tops : List ℤ) (k weight : ℕ) : Type 0 where
  pub horizontal : IsHorizontal l tops k → weight ≡ straightness
  pub other : (IsHorizontal l tops k → ⊥) → weight ≡ 1

abbrev pub WeighStraight : Plain → ℕ → List ℤ → List ℕ → Type 0
WeighStraight l straightness tops weights =
    (k : ℕ) → k < length l.links → WeighsStraight l straightness tops k (weight_at weights k)

-- the links that are horizontal in the lines of the first sweep of least height weigh so much
pub record WeighByAlignment (l : Plain) (rows : List (List ℕ)) (straightness : ℕ) (weights : List ℕ) : Type 0 where
  pub aligned : List ℤ
  pub are_lines : AreLinesOf l rows None aligned
  pub by_straightness : WeighStraight l straightness aligned weights

-- the weights of links by straightness: by 1 each weighs 1, and else those more that alignment keeps horizontal
pub record AreStraightWeights (l : Plain) (rows : List (List ℕ)) (straightness : ℕ) (weights : List ℕ) : Type 0 where
  pub one_each : length weights ≡ length l.links
  pub by_one : straightness ≡ 1 → (k : ℕ) → k < length l.links → weight_at weights k ≡ 1
  pub by_more : straightness ≢ 1 → WeighByAlignment l rows straightness weights

-- a placing of least weighed height by such weights
pub record IsStraightPlacing (l : Plain) (rows : List (List ℕ)) (straightness : ℕ) (tops : List ℤ) (height : ℕ)
    (link_flow : List ℤ) (pairs : List PairFlow) : Type 0 where
  pub weights : List ℕ
  pub weights_are : AreStraightWeights l rows straightness weights
  pub placing : IsWeighedPlacing l rows weights tops height link_flow pairs
