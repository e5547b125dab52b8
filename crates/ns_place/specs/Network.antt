-- The network of a placing: a node for each unit, one that each link's ends stand below, and one that nothing holds.
use Rattle.std.specs.Prelude.{ℕ, ◌+◌, cond, ℤ, pos, ◌≤ℤ◌, List, [], ◌∷◌, ◌++◌, length, map, int_lt}
use Rattle.elk_layers.specs.declared.units.Link.{Link}
use Rattle.elk_layers.specs.Layered.{Plain}
use Rattle.network_laws.specs.declared.network.NetEdge.{NetEdge}
use Rattle.network_laws.specs.Layering.{natural}
use Rattle.ns_place.specs.declared.least.PairFlow.{PairFlow}
use Rattle.ns_place.specs.Pairs.{distance}

-- from a link's own node, the greater one of its two ends stands as far below as the other pin lies
abbrev pub edge_of : ℕ → ℕ → ℤ → ℕ → NetEdge
edge_of joint end pin weight = record { tail = joint; head = end; least = natural pin; weight = weight }

-- the edges of these links with their weights, whose own nodes are numbered from here on
abbrev pub joining : ℕ → List Link → List ℕ → List NetEdge
joining joint [] ws = []
joining joint (l ∷ ls) [] = []
joining joint (l ∷ ls) (w ∷ ws) = edge_of joint l.tail l.head_at w ∷ edge_of joint l.head l.tail_at w ∷ joining (joint + 1) ls ws

-- the edge of two units that are this far apart; where that is less than nothing, their rooms hold them apart,
-- and the edge leads from a node of its own, so that it carries no flow
abbrev pub edge_between : ℕ → PairFlow → ℤ → NetEdge
edge_between alone p far =
    record { tail = cond (int_lt far (pos 0)) alone p.upper; head = p.lower; least = natural far; weight = 0 }

abbrev pub edge_for : Plain → ℕ → PairFlow → NetEdge
edge_for l alone p = edge_between alone p (distance l p)

abbrev pub alone_of : Plain → ℕ
alone_of l = length l.units + length l.links

abbrev pub edges_of : Plain → List ℕ → List PairFlow → List NetEdge
edges_of l weights pairs = joining (length l.units) l.links weights ++ map (edge_for l (alone_of l)) pairs

-- pins from 0
abbrev pub HasPins : Link → Type 0
HasPins l = (pos 0 ≤ℤ l.tail_at) × (pos 0 ≤ℤ l.head_at)
