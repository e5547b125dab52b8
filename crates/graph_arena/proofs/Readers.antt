-- What the slots say of the lists.
use Rattle.std.proofs.Common.{◌≡◌, ℕ, ◌<◌, eq-eqb, length, Option, Some, None, refl, arith}
use Rattle.slab.specs.Slab.{Slab}
use Rattle.graph_arena.specs.declared.slots.Flank.{Flank}
use Rattle.graph_arena.specs.declared.slots.EdgeList.{EdgeList}
use Rattle.graph_arena.specs.declared.slots.NodeSlot.{NodeSlot}
use Rattle.graph_arena.specs.declared.slots.EdgeSlot.{EdgeSlot}
use Rattle.graph_arena.specs.Graph.{front, after, occurs}
use Rattle.graph_arena.specs.Chain.{follow, row_keys, IsRow}
use Rattle.graph_arena.specs.Flanks.{row, next, prev, owner, keys, IsFlankOf}
use Rattle.graph_arena.proofs.Chains.{front_is, after_is}

pub first_is : (s : Flank) (nodes : Slab NodeSlot) (edges : Slab EdgeSlot) (v : ℕ) (r : EdgeList) → IsFlankOf s nodes edges → row s nodes v ≡ Some r → front (keys s nodes edges v) ≡ r.first
first_is s nodes edges v r flank is =
    rw is (front_is (next s edges) (prev s edges) None r.first (follow (next s edges) r.count r.first) r.last (flank.rows v r is).chain)

after_in : (row : ℕ → Option EdgeList) (next prev : ℕ → Option ℕ) (v e : ℕ) → ((u : ℕ) (r : EdgeList) → row u ≡ Some r → IsRow next prev r) → (o : Option EdgeList) → row v ≡ o → 0 < occurs e (row_keys next o) → after (row_keys next o) e ≡ next e
after_in row next prev v e rows None is h = absurd (omega arith)
after_in row next prev v e rows (Some r) is h = after_is next prev None r.first (follow next r.count r.first) r.last e (rows v r is).chain h

pub next_is : (s : Flank) (nodes : Slab NodeSlot) (edges : Slab EdgeSlot) (v e : ℕ) → IsFlankOf s nodes edges → owner s edges e ≡ Some v → after (keys s nodes edges v) e ≡ next s edges e
next_is s nodes edges v e flank own =
    after_in (row s nodes) (next s edges) (prev s edges) v e flank.rows (row s nodes v) refl (let o = flank.once v e in let o2 = rw (own, eq-eqb v v refl) at o in omega (arith, o2))

pub count_is : (s : Flank) (nodes : Slab NodeSlot) (edges : Slab EdgeSlot) (v : ℕ) (r : EdgeList) → IsFlankOf s nodes edges → row s nodes v ≡ Some r → length (keys s nodes edges v) ≡ r.count
count_is s nodes edges v r flank is = rw is (flank.rows v r is).counted
