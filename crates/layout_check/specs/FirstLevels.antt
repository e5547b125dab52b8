-- The faults of a level's certificate: which comes first.
use Rattle.std.specs.Prelude.{◌≡◌, ◌≢◌, ◌⊎◌, ℕ, ◌+◌, ◌*◌, ◌<◌, pos, ◌+ℤ◌, ◌≤ℤ◌, List, length, Contains, slice_index, ◌-◌, Bool, ◌&&◌, ◌==◌}
use Rattle.std.specs.Prelude.{not, IsTrue, IsFalse}
use Rattle.elk_doc.specs.declared.drawing.Certificate.{Certificate}
use Rattle.elk_doc.specs.declared.drawing.Placed.{Placed}
use Rattle.elk_doc.specs.Document.{Document}
use Rattle.elk_doc.specs.Level.{IsChild, IsEdge, is_edge_of, is_loop, place_of_child, source_node, target_node}
use Rattle.elk_doc.specs.Drawing.{head_node, tail_node, flow_in}
use Rattle.elk_doc.specs.Numbers.{sum_below}
use Rattle.elk_doc.specs.Paths.{Reaches}
use Rattle.elk_doc.specs.Reversed.{UnlistedStep}
use Rattle.elk_doc.specs.Layering.{span_of, written_layer}
use Rattle.elk_doc.specs.FlowProof.{FlowProof, enters_child, leaves_child, weight_at}
use Rattle.layout_check.specs.declared.fault.Fault.{Fault}
use Rattle.layout_check.specs.declared.fault.Place.TheVariants.{Node, Edge}
use Rattle.layout_check.specs.Faults.{lone_fault, FailsFirst}
use Rattle.layout_check.specs.Shapes.{Lists}
use Rattle.layout_check.specs.declared.paths.Step.{Step}
use Rattle.layout_check.specs.Steps.{HasStep, AreBelow}

-- an edge of the level that is not listed and no self-loop
pub record IsUnlisted (d : Document) (n : ℕ) (c : Certificate) (e : ℕ) : Type 0 where
  pub of_level : IsEdge d n e
  pub unlisted : Contains c.reversed e → ⊥
  pub no_loop : source_node d e ≢ target_node d e

-- the step of an edge as it is given
abbrev pub step_of : Document → ℕ → Step
step_of d e = record { from = source_node d e; to = target_node d e }

-- the list has the unlisted edges of the level below m as steps, and no others
pub record AreStepsBelow (d : Document) (n : ℕ) (c : Certificate) (m : ℕ) (steps : List Step) : Type 0 where
  pub sound : (a b : ℕ) → HasStep steps a b → UnlistedStep d n c a b
  pub complete : (e : ℕ) → e < m → IsUnlisted d n c e → HasStep steps (source_node d e) (target_node d e)
  pub below : AreBelow (length d.nodes) steps

abbrev pub AreSteps : Document → ℕ → Certificate → List Step → Type 0
AreSteps d n c steps = AreStepsBelow d n c (length d.edges) steps

-- from the target of a listed edge unlisted edges lead back to its source
abbrev pub ClosesAt : Document → ℕ → Certificate → ℕ → Type 0
ClosesAt d n c e = Contains c.reversed e → Reaches (UnlistedStep d n c) (target_node d e) (source_node d e)

-- unlisted edges never lead round
abbrev pub IsAcyclic : Document → ℕ → Certificate → Type 0
IsAcyclic d n c = (a b : ℕ) → UnlistedStep d n c a b → Reaches (UnlistedStep d n c) b a → ⊥

-- steps of a list never lead round
abbrev pub NeverRound : List Step → Type 0
NeverRound steps = (a b : ℕ) → HasStep steps a b → Reaches (HasStep steps) b a → ⊥

-- a fault names the first listed edge that closes no cycle, and else the node of a level where a cycle is left
abbrev pub FirstReversed : Document → ℕ → Certificate → Fault → Type 0
FirstReversed d n c x =
    ((e : ℕ) × (x ≡ lone_fault (Edge e)) × FailsFirst (ClosesAt d n c) e)
    ⊎ (((e : ℕ) → ClosesAt d n c e) × (x ≡ lone_fault (Node n)) × (IsAcyclic d n c → ⊥))

-- an oriented edge of the level, if it is no self-loop, leads to a greater layer
abbrev pub EdgeRises : Document → Placed → ℕ → Certificate → ℕ → Type 0
EdgeRises d p n c e =
    IsEdge d n e → IsFalse (is_loop d e) → (written_layer d n c (tail_node d p e) +ℤ pos 1) ≤ℤ written_layer d n c (head_node d p e)

-- a fault names the first edge that does not lead to a greater layer, and else the node of a level whose span is wrong
abbrev pub FirstLayering : Document → Placed → ℕ → Certificate → Fault → Type 0
FirstLayering d p n c x =
    ((e : ℕ) × (x ≡ lone_fault (Edge e)) × FailsFirst (EdgeRises d p n c) e)
    ⊎ (((e : ℕ) → EdgeRises d p n c e) × (x ≡ lone_fault (Node n)) × (span_of d p n (written_layer d n c) ≡ pos c.span → ⊥))

-- a fault names the node of a level whose flow fails
abbrev pub FirstFlow : Document → Placed → ℕ → Certificate → Fault → Type 0
FirstFlow d p n c x = (x ≡ lone_fault (Node n)) × (FlowProof d p n c → ⊥)

-- the parts of FlowProof: no flow at self-loops, and balance at a child
abbrev pub IsIdle : Document → ℕ → Certificate → ℕ → Type 0
IsIdle d n c e = IsEdge d n e → IsTrue (is_loop d e) → flow_in d n c e ≡ 0

abbrev pub IsBalanced : Document → Placed → ℕ → Certificate → ℕ → Type 0
IsBalanced d p n c a =
    IsChild d n a
    → sum_below (enters_child d p n a) (flow_in d n c) (length d.edges) + sum_below (leaves_child d p n a) (weight_at d) (length d.edges)
    ≡ sum_below (leaves_child d p n a) (flow_in d n c) (length d.edges) + sum_below (enters_child d p n a) (weight_at d) (length d.edges)

-- the numbers of a list that has one for each child of n, by node
abbrev pub AreByChild : Document → ℕ → List ℕ → List ℕ → Type 0
AreByChild d n values xs = Lists (λ child. slice_index values (place_of_child d n child)) (length d.nodes) xs

-- the written flow of all edges, as that of a level
abbrev pub AreFlows : Document → ℕ → Certificate → List ℕ → Type 0
AreFlows d n c xs = Lists (flow_in d n c) (length d.edges) xs

-- the layer at an end of an edge, by lists of all ends and layers, and how far the edge rises, 0 if it falls
abbrev pub end_layer : List ℕ → List ℕ → ℕ → ℕ
end_layer ends layers e = slice_index layers (slice_index ends e)

abbrev pub rise_of : List ℕ → List ℕ → List ℕ → ℕ → ℕ
rise_of heads tails layers e = end_layer heads layers e - end_layer tails layers e

abbrev pub length_of : Document → List ℕ → List ℕ → List ℕ → ℕ → ℕ
length_of d heads tails layers e = weight_at d e * rise_of heads tails layers e

-- whether an edge of the level that is no self-loop has this end at the node a, by a list of all ends
abbrev pub ends_at : Document → ℕ → List ℕ → ℕ → ℕ → Bool
ends_at d n ends a e = is_edge_of d n e && ((slice_index ends e == a) && not (is_loop d e))
