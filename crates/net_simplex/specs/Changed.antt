-- How the cut values change where one tree edge is exchanged for another.
-- (Gansner, Koutsofios, North, Vo 1993.)
use Rattle.std.specs.Prelude.{◌≡◌, ℕ, ◌+◌, ◌<◌, ◌≤◌, ◌^◌, ◌==◌, ◌⊎◌, cond, Bool, true, ℤ, pos, ◌+ℤ◌, ◌-ℤ◌, List, length, set, slice_index}
use Rattle.network_laws.specs.declared.network.NetEdge.{NetEdge}
use Rattle.network_laws.specs.Network.{edge_at}
use Rattle.network_laws.specs.Layering.{layer_of}
use Rattle.network_laws.specs.Linked.{is_marked}
use Rattle.net_simplex.specs.Tree.{tail_part}
use Rattle.net_simplex.specs.Rooted.{above}
use Rattle.net_simplex.specs.Cuts.{size_of}

-- so much for a in the part, less so much for b in it
abbrev pub gained : (ℕ → Bool) → ℕ → ℕ → ℤ → ℤ
gained inside a b by = cond (inside a) by (pos 0) -ℤ cond (inside b) by (pos 0)

-- the number of an edge that is passed from v on: more where v is its tail, less where v is its head
abbrev pub passed_by : NetEdge → ℕ → ℤ → ℤ → ℤ
passed_by e v by number = number +ℤ cond (e.tail == v) by (pos 0 -ℤ by)

-- the edge on which v hangs is passed
abbrev pub passed : List NetEdge → List ℕ → ℕ → ℤ → List ℤ → List ℤ
passed edges parent v by cut =
    set cut (slice_index parent v) (passed_by (edge_at edges (slice_index parent v)) v by (layer_of cut (slice_index parent v)))

-- of two nodes the later one goes up
abbrev pub PassesLater : List NetEdge → List ℕ → List ℕ → ℤ → ℕ → ℕ → List ℤ → ℕ → ℕ → List ℤ → Type 0
PassesLater edges place parent by from to cut from' to' cut' =
    ((slice_index place to < slice_index place from) × (from' ≡ above edges parent from) × (to' ≡ to)
    × (cut' ≡ passed edges parent from by cut))
    ⊎ ((slice_index place from ≤ slice_index place to) × (from' ≡ from) × (to' ≡ above edges parent to)
    × (cut' ≡ passed edges parent to (pos 0 -ℤ by) cut))

-- on the way between a and b the edges from a to `from` and from b to `to` are passed
pub record ArePassed (nodes : ℕ) (edges : List NetEdge) (tree : List Bool) (place parent : List ℕ) (a b : ℕ) (by : ℤ)
    (cut : List ℤ) (from to : ℕ) (cut' : List ℤ) : Type 0 where
  pub cut_each : length cut' ≡ length edges
  pub from_there : from < nodes
  pub to_there : to < nodes
  pub changed : (k : ℕ) → k < length edges → is_marked tree k ≡ true
      → layer_of cut' k +ℤ gained (tail_part nodes edges tree k) from to by ≡ layer_of cut k +ℤ gained (tail_part nodes edges tree k) a b by
  pub still : (v : ℕ) → v < nodes → 0 < slice_index place v
      → ((slice_index place v ≤ slice_index place from) ⊎ (slice_index place v ≤ slice_index place to))
      → layer_of cut' (slice_index parent v) ≡ layer_of cut (slice_index parent v)

-- the edge on which v hangs can be passed: the sum fits
abbrev pub CanPass : List NetEdge → List ℕ → ℕ → ℤ → List ℤ → Type 0
CanPass edges parent v by cut =
    (slice_index parent v < length edges) × (size_of (layer_of cut (slice_index parent v)) + size_of by < 2 ^ 63)
