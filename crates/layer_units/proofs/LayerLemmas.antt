-- How many layers a layering has.
use Rattle.std.proofs.Common.{◌≡◌, ⊎_elim, ℕ, ◌+◌, ◌<◌, ◌≤◌, List, length, arith}
use Rattle.level_model.specs.Level.{PlainLevel}
use Rattle.layer_units.specs.Layering.{AreLayersOf, IsLayerCount, layer_in}

-- each layer is below 2,048, so there are at most so many
pub few_counted : (l : PlainLevel) (reversed layers : List ℕ) (n : ℕ) → AreLayersOf l reversed layers → IsLayerCount layers n → n ≤ 2048
few_counted l reversed layers n are count =
    ⊎_elim
    (λ (none : n ≡ 0). omega (arith, none))
    (λ (h : (c : ℕ) × (c < length layers) × (layer_in layers c + 1 ≡ n)). let below = are.below h.0 h.1 in let at = h.2 in omega (arith, below, at))
    count.reached
