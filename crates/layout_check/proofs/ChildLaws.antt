-- The ends of a level's edges stand at its children.
use Rattle.std.proofs.Common.{◌≡◌, ℕ, ◌<◌, Option, Some, None, IsSome, unwrap_or, true, eq-eqb, length, sym, ◌∙◌, rules}
use Rattle.std.proofs.lemmas.Bool.{eqb-true}
use Rattle.elk_doc.specs.declared.document.End.{End}
use Rattle.elk_doc.specs.Document.{Document, node_at, edge_at, parent_of}
use Rattle.elk_doc.specs.Level.{is_child, is_edge_of, is_number, node_of_end, source_node, target_node}
use Rattle.elk_doc.specs.Sound.{IsSound}
use Rattle.elk_doc.proofs.SoundLaws.{node_of_end-in}

some_is : (o : Option ℕ) (n : ℕ) → IsSome o → unwrap_or o 0 ≡ n → is_number o n ≡ true
some_is None n h e = absurd (search rules)
some_is (Some m) n h e = eq-eqb m n e

-- a node below the root is a child of its parent
child_of : (d : Document) (n m : ℕ) → IsSound d → 0 < m → m < length d.nodes → parent_of d m ≡ n → is_child d n m ≡ true
child_of d n m sound above below e = some_is (node_at d m).parent n (sound.tree.parents m above below).parent e

-- an end of an edge of the level of n stands at a child of n
abbrev pub AtChild : Document → ℕ → End → Type 0
AtChild d n x = (node_of_end d x < length d.nodes) × (is_child d n (node_of_end d x) ≡ true)

pub ends_in : (d : Document) (n e : ℕ) → IsSound d → e < length d.edges → is_edge_of d n e ≡ true → AtChild d n (edge_at d e).source × AtChild d n (edge_at d e).target
ends_in d n e sound below h =
    let s = sound.edges e below in
    let level : parent_of d (source_node d e) ≡ n = eqb-true _ _ h in
    let a = node_of_end-in d (edge_at d e).source sound s.source_in in
    let b = node_of_end-in d (edge_at d e).target sound s.target_in in (
      (a, child_of d n (source_node d e) sound s.source_below a level),
      (b, child_of d n (target_node d e) sound s.target_below b (sym s.siblings ∙ level)),
    )
