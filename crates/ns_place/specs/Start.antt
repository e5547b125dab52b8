-- Tops, completed to layers of a placing's network.
use Rattle.std.specs.Prelude.{◌≡◌, ℕ, ◌+◌, ◌<◌, ◌^◌, ℤ, pos, ◌+ℤ◌, ◌-ℤ◌, ◌≤ℤ◌, ◌<ℤ◌, List, [], ◌∷◌, ◌++◌, length, map}
use Rattle.std.specs.Int.{int_min}
use Rattle.elk_layers.specs.declared.units.Link.{Link}
use Rattle.elk_layers.specs.Layered.{Plain}
use Rattle.elk_layers.specs.Lines.{top_of}
use Rattle.network_laws.specs.Layering.{layer_of, IsLayering}
use Rattle.unit_blocks.specs.Constraints.{EndsWithinStack}
use Rattle.ns_place.specs.Pairs.{all_pairs}
use Rattle.ns_place.specs.Network.{alone_of, edges_of}

-- where a link's own node may stand at most
abbrev pub joint_layer : List ℤ → Link → ℤ
joint_layer tops l = int_min (top_of tops l.tail +ℤ l.tail_at) (top_of tops l.head +ℤ l.head_at) -ℤ (l.tail_at +ℤ l.head_at)

abbrev pub lowest : List ℤ → ℤ
lowest [] = pos 0
lowest (t ∷ ts) = int_min t (lowest ts)

-- the units at their tops, the links' own nodes as far down as they may stand, and the node that nothing holds
abbrev pub completed : List ℤ → List Link → List ℤ
completed tops ls = tops ++ (map (joint_layer tops) ls ++ lowest tops ∷ [])

-- a top, with room above it for the links' own nodes
abbrev pub lowered : ℤ → ℤ
lowered top = top +ℤ pos (2 ^ 57)

-- a top from 0 for each unit, and no unit that ends below all heights and spacings together
pub record AreStartTops (l : Plain) (tops : List ℤ) : Type 0 where
  pub as_many : length tops ≡ length l.units
  pub from_zero : (u : ℕ) → u < length l.units → pos 0 ≤ℤ top_of tops u
  pub within : EndsWithinStack l tops

-- layers of the network, whatever its links weigh, that keep the distances and the links' pins
pub record AreFirst (l : Plain) (rows : List (List ℕ)) (layers : List ℤ) : Type 0 where
  pub as_many : length layers ≡ alone_of l + 1
  pub layering : (weights : List ℕ) → IsLayering (edges_of l weights (all_pairs l rows)) layers
  pub from_zero : (v : ℕ) → v < alone_of l + 1 → pos 0 ≤ℤ layer_of layers v
  pub low : (v : ℕ) → v < alone_of l + 1 → layer_of layers v <ℤ pos (2 ^ 62)
