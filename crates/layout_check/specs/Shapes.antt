-- Lists of what a drawing has at each node, port or edge.
use Rattle.std.specs.Prelude.{◌≡◌, ℕ, ◌<◌, Bool, true, false, not, ◌&&◌, List, length, slice_index_or}
use Rattle.drawing_types.specs.declared.shape.Rect.{Rect}
use Rattle.drawing_types.specs.declared.shape.Side.{Side}
use Rattle.drawing_types.specs.declared.shape.Dock.{Dock}
use Rattle.elk_doc.specs.declared.document.End.{End}
use Rattle.elk_doc.specs.declared.drawing.Placed.{Placed}
use Rattle.elk_doc.specs.Document.{Document}
use Rattle.elk_doc.specs.Drawing.{is_listed, head_end, head_node, tail_end, tail_node}
use Rattle.elk_doc.specs.FlowProof.{weight_at}
use Rattle.elk_doc.specs.Level.{is_loop}
use Rattle.elk_doc.specs.Numbers.{any_below}
use Rattle.elk_doc.specs.Places.{outline_of, dock_of}
use Rattle.elk_doc.specs.Sides.{side_of_port, is_at_port}

-- the list has the values of f at the numbers below n
pub record Lists {T : Type 0} (f : ℕ → T) (n : ℕ) (xs : List T) : Type 0 where
  pub count : length xs ≡ n
  pub each : (i : ℕ) (other : T) → i < n → slice_index_or xs i other ≡ f i

-- the outlines of all nodes, the sides of all ports, and the docks of all edges at one of their ends
abbrev pub AreOutlines : Document → Placed → List Rect → Type 0
AreOutlines d p rects = Lists (outline_of d p) (length d.nodes) rects

abbrev pub AreSides : Document → Placed → List Side → Type 0
AreSides d p sides = Lists (side_of_port d p) (length d.ports) sides

abbrev pub AreDocks : Document → Placed → Bool → List Dock → Type 0
AreDocks d p at_source docks = Lists (λ e. dock_of d p e at_source) (length d.edges) docks

-- the nodes at which the oriented edges enter and leave, and the weights of the edges
abbrev pub AreHeads : Document → Placed → List ℕ → Type 0
AreHeads d p xs = Lists (head_node d p) (length d.edges) xs

abbrev pub AreTails : Document → Placed → List ℕ → Type 0
AreTails d p xs = Lists (tail_node d p) (length d.edges) xs

abbrev pub AreWeights : Document → List ℕ → Type 0
AreWeights d xs = Lists (weight_at d) (length d.edges) xs

-- whether each edge is written as reversed
abbrev pub AreListed : Document → Placed → List Bool → Type 0
AreListed d p listed = Lists (is_listed d p) (length d.edges) listed

-- the end at which an oriented edge enters, or at which it leaves
abbrev pub oriented_end : Document → Placed → Bool → ℕ → End
oriented_end d p true e = head_end d p e
oriented_end d p false e = tail_end d p e

-- whether the oriented edge e, which is no self-loop, enters the port k, or leaves it
abbrev pub touches : Document → Placed → Bool → ℕ → ℕ → Bool
touches d p at_head k e = is_at_port (oriented_end d p at_head e) k && not (is_loop d e)

-- for each port, whether an edge below m enters it, or leaves it, and whether some edge does
abbrev pub AreTouchedBelow : Document → Placed → Bool → ℕ → List Bool → Type 0
AreTouchedBelow d p at_head m marks = Lists (λ k. any_below (touches d p at_head k) m) (length d.ports) marks

abbrev pub AreTouched : Document → Placed → Bool → List Bool → Type 0
AreTouched d p at_head marks = AreTouchedBelow d p at_head (length d.edges) marks
