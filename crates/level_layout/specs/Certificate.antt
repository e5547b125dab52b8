-- The certificate of a level: which of its edges are reversed, the layers of its children, and the flow that shows that no
-- layering of these edges has a smaller span.
use Rattle.std.specs.Prelude.{◌≡◌, ◌≢◌, ◌<◌, ℕ, pos, Bool, not, cond, List, [], length, map, slice_index_or, IsTrue, IsFalse}
use Rattle.std.specs.List.{All, filter, range_with_len}
use Rattle.elk_doc.specs.Fits.{IsAscending}
use Rattle.elk_doc.specs.Paths.{Reaches}
use Rattle.elk_doc.specs.declared.drawing.Certificate.{Certificate}
use Rattle.level_model.specs.Level.{PlainLevel, edge_at, holds, is_loop}
use Rattle.level_model.specs.declared.level.LevelEdge.{LevelEdge}
use Rattle.network_laws.specs.declared.network.NetEdge.{NetEdge}
use Rattle.network_laws.specs.Layering.{IsSolution}
use Rattle.network_parts.specs.Solved.{IsSolvedByParts}

-- the children at which an edge begins and ends, as given
abbrev pub source_of : PlainLevel → ℕ → ℕ
source_of l e = (edge_at l e).source.child

abbrev pub target_of : PlainLevel → ℕ → ℕ
target_of l e = (edge_at l e).target.child

-- an edge of the level, as given, that is not listed and no self-loop leads from a to b
pub record UnlistedStep (l : PlainLevel) (listed : List ℕ) (a b : ℕ) : Type 0 where
  pub edge : ℕ
  pub of_level : edge < length l.edges
  pub unlisted : IsFalse (holds listed edge)
  pub source : source_of l edge ≡ a
  pub target : target_of l edge ≡ b
  pub no_loop : a ≢ b

-- an edge of the level that is no self-loop, from whose target unlisted edges lead back to its source
pub record ClosesCycle (l : PlainLevel) (listed : List ℕ) (e : ℕ) : Type 0 where
  pub of_level : e < length l.edges
  pub no_loop : IsFalse (is_loop l e)
  pub leads_back : Reaches (UnlistedStep l listed) (target_of l e) (source_of l e)

-- The edges that are reversed, in ascending order: each closes a cycle with unlisted edges, and these never lead round.
pub record AreReversed (l : PlainLevel) (listed : List ℕ) : Type 0 where
  pub ascending : IsAscending listed
  pub closes : (e : ℕ) → IsTrue (holds listed e) → ClosesCycle l listed e
  pub acyclic : (a b : ℕ) → UnlistedStep l listed a b → Reaches (UnlistedStep l listed) b a → ⊥

-- an edge of the level as one of a network, as given or reversed
abbrev pub oriented : Bool → LevelEdge → NetEdge
oriented is_reversed e =
    record {
      tail = cond is_reversed e.target.child e.source.child;
      head = cond is_reversed e.source.child e.target.child;
      least = 1;
      weight = e.weight;
    }

-- the first n edges without the self-loops, and all of them, in document order
abbrev pub links_to : PlainLevel → ℕ → List ℕ
links_to l n = filter (λ e. not (is_loop l e)) (range_with_len 0 n)

abbrev pub links : PlainLevel → List ℕ
links l = links_to l (length l.edges)

-- the network of a level whose listed edges are reversed: its edges without the self-loops, each of length 1
abbrev pub network_edge : PlainLevel → List ℕ → ℕ → NetEdge
network_edge l listed e = oriented (holds listed e) (edge_at l e)

abbrev pub network : PlainLevel → List ℕ → List NetEdge
network l listed = map (network_edge l listed) (links l)

-- the flow of an edge of the level, and those of the network
abbrev pub flow_at : List ℕ → ℕ → ℕ
flow_at flow e = slice_index_or flow e 0

abbrev pub link_flows : PlainLevel → List ℕ → List ℕ
link_flows l flow = map (flow_at flow) (links l)

-- What is answered for a level: the edges that are reversed; a layer for each child, below the number of children; a flow
-- for each edge, 0 at self-loops; and a span. Layers, flow and span are a solution of the level's network: each oriented edge
-- leads to a higher layer, the least layer of each part is 0, the flow balances with the span as its value, and no layering of
-- the same orientation costs less. In each connected part layers and flow are those that the chain of pivots gives for the part
-- alone, its children and edges in document order, with 64 pivots for each of them, or a solution of the part where these don't
-- suffice.
pub record IsCertificateOf (l : PlainLevel) (c : Certificate) : Type 0 where
  pub reversed : AreReversed l c.reversed
  pub layer_for_each : length c.layers ≡ length l.children
  pub low : All (λ k. k < length l.children) c.layers
  pub flow_for_each : length c.flow ≡ length l.edges
  pub loops : (e : ℕ) → e < length l.edges → IsTrue (is_loop l e) → flow_at c.flow e ≡ 0
  pub solves : IsSolution (length l.children) (network l c.reversed) (map pos c.layers) (link_flows l c.flow) c.span
  pub by_parts : IsSolvedByParts (length l.children) (network l c.reversed) (map pos c.layers) (link_flows l c.flow)
  pub no_parts : c.parts ≡ []
