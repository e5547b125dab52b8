-- A document in which the root of another is a child. It stands below a root of its own, with the same options, and above a leaf
-- that has the ports of all other nodes.
use Rattle.std.proofs.Common.{◌≡◌, ◌≢◌, ⊎_elim, ℕ, ◌<◌, ◌≤◌, cond, ◌==◌, Bool, true, false, [], ◌∷◌, map, length, Some, None, IsSome, IsTrue, refl, sym, ap, subst, subst₂, ◌∙◌, arith, rules, eq-eqb, ne_eqb}
use Rattle.std.proofs.lemmas.Bool.{cases_eq}
use Rattle.std.proofs.lemmas.Int.{ints}
use Rattle.std.proofs.lemmas.List.{get_or-map, length-map}
use Rattle.std.specs.Prelude.{Option, IfSome}
use Rattle.drawing_types.specs.declared.shape.Side.{Side}
use Rattle.elk_doc.specs.declared.document.LevelOptions.{LevelOptions}
use Rattle.elk_doc.specs.declared.document.Node.{Node}
use Rattle.elk_doc.specs.declared.document.Port.{Port}
use Rattle.elk_doc.specs.declared.document.PortRule.TheVariants.{Free}
use Rattle.elk_doc.specs.Document.{Document, no_port, node_at, node_of_port, parent_of, port_at}
use Rattle.drawing_types.specs.Shapes.{no_size, origin}
use Rattle.elk_doc.specs.Level.{is_child}
use Rattle.elk_doc.specs.Sides.{is_leaf, side_by_place, side_from}
use Rattle.elk_doc.specs.Sound.{HasParent, HasPorts, IsSound, IsSoundLevel, IsSoundNode, IsSoundPort, ancestor}
use Rattle.drawing_types.proofs.SmallNumbers.{below3}

-- its nodes
abbrev pub top_node : Document → Node
top_node d = record { id = None; parent = None; size = no_size; rule = Free; position = None; level = (node_at d 0).level }

abbrev pub root_node : Document → Node
root_node d =
    record { id = None; parent = Some 0; size = (node_at d 0).size; rule = (node_at d 0).rule; position = (node_at d 0).position; level = (node_at d 0).level }

abbrev pub bottom_node : Node
bottom_node = record { id = None; parent = Some 1; size = no_size; rule = Free; position = None; level = None }

-- its ports, by those of the other document
abbrev pub lowered_port : Port → Port
lowered_port q =
    record {
      id = q.id;
      node = cond (q.node == 0) 1 2;
      size = q.size;
      place = cond (q.node == 0) q.place origin;
      side = q.side;
      index = q.index;
    }

abbrev pub lowered : Document → Document
lowered d =
    record { nodes = top_node d ∷ root_node d ∷ bottom_node ∷ []; ports = map lowered_port d.ports; edges = [] }

-- a port of the root, and one of another node
abbrev pub root_port : Port → Port
root_port q = record { id = q.id; node = 1; size = q.size; place = q.place; side = q.side; index = q.index }

abbrev pub other_port : Port → Port
other_port q = record { id = q.id; node = 2; size = q.size; place = origin; side = q.side; index = q.index }

abbrev port_by : Port → Bool → Port
port_by q b = record { id = q.id; node = cond b 1 2; size = q.size; place = cond b q.place origin; side = q.side; index = q.index }

pub root_port_at : (d : Document) (k : ℕ) → k < length d.ports → node_of_port d k ≡ 0 → port_at (lowered d) k ≡ root_port (port_at d k)
root_port_at d k h own =
    get_or-map lowered_port d.ports k no_port no_port h ∙ ap (port_by (port_at d k)) (eq-eqb (node_of_port d k) 0 own)

pub other_port_at : (d : Document) (k : ℕ) → k < length d.ports → node_of_port d k ≢ 0 → port_at (lowered d) k ≡ other_port (port_at d k)
other_port_at d k h other =
    get_or-map lowered_port d.ports k no_port no_port h ∙ ap (port_by (port_at d k)) (ne_eqb (node_of_port d k) 0 other)

pub port_count : (d : Document) → length (lowered d).ports ≡ length d.ports
port_count d = length-map d.ports lowered_port

-- a sound level of boxes or of children stays one where there are no edges
same_options : (d : Document) (n : ℕ) (o : Option LevelOptions) → IfSome o (IsSoundLevel d 0) → IfSome o (IsSoundLevel (lowered d) n)
same_options d n None h = tt
same_options d n (Some o) h =
    record { spacing = h.spacing; padding = h.padding; component = h.component; boxes_not_split = h.boxes_not_split; boxes_no_edge = λ b e less. absurd (omega (arith, less)) }

-- the side that a document gives a port of this node
abbrev given_at : Document → ℕ → Port → Option Side
given_at d n q = side_from (node_at d n).rule q.side (is_leaf d n) (side_by_place (node_at d n).size q.place q.size)

abbrev SoundAt : Document → ℕ → Port → Type 0
SoundAt d n q = IsSoundPort (node_at d n) q (given_at d n q)

port_sound : (d : Document) (k : ℕ) → IsSound d → k < length d.ports → SoundAt (lowered d) (node_of_port (lowered d) k) (port_at (lowered d) k)
port_sound d k s h =
    ⊎_elim
    (λ own. let here : SoundAt d 0 (port_at d k) = subst (λ n. SoundAt d n (port_at d k)) own (s.ports.each k h) in
    subst (λ (q : Port). SoundAt (lowered d) q.node q) (sym (root_port_at d k h own))
    (record { size = here.size; index = here.index; near = here.near; outside = here.outside; far = here.far; pinned = here.pinned }))
    (λ other. let there = s.ports.each k h in
    subst (λ (q : Port). SoundAt (lowered d) q.node q) (sym (other_port_at d k h other))
    (record {
      size = there.size;
      index = there.index;
      near = λ _. omega (arith, ints);
      outside = λ _ fixed. absurd cc;
      far = omega (arith, ints);
      pinned = λ some. absurd (search rules);
    }))
    (cases_eq (node_of_port d k) 0)

node_is : (d : Document) (k : ℕ) → k < length d.ports → node_of_port (lowered d) k ≡ cond (node_of_port d k == 0) 1 2
node_is d k h = ap (λ (q : Port). q.node) (get_or-map lowered_port d.ports k no_port no_port h)

in_three : (b : Bool) → cond b 1 2 < 3
in_three true = omega arith
in_three false = omega arith

one_or_two : (b : Bool) → 1 ≤ cond b 1 2
one_or_two true = omega arith
one_or_two false = omega arith

ordered : (a b : ℕ) → a ≤ b → cond (a == 0) 1 2 ≤ cond (b == 0) 1 2
ordered a b h =
    ⊎_elim
    (λ first. let is = eq-eqb a 0 first in rw is (one_or_two (b == 0)))
    (λ later. let first_is = ne_eqb a 0 later in let is = ne_eqb b 0 (λ e. later (omega (arith, h, e))) in rw (first_is, is) (omega arith))
    (cases_eq a 0)

ports_sound : (d : Document) → IsSound d → HasPorts (lowered d)
ports_sound d s =
    record {
      nodes = λ k h. let less : k < length d.ports = omega (arith, h, port_count d) in subst (λ n. n < 3) (sym (node_is d k less)) (in_three (node_of_port d k == 0));
      order = λ j k first h.
          let less : k < length d.ports = omega (arith, h, port_count d) in
          subst₂ (λ a b. a ≤ b) (sym (node_is d j (omega (arith, first, less)))) (sym (node_is d k less)) (ordered (node_of_port d j) (node_of_port d k) (s.ports.order j k first less));
      each = λ k h. port_sound d k s (omega (arith, h, port_count d));
    }

pub lowered_sound : (d : Document) → IsSound d → IsSound (lowered d)
unfolding ancestor
lowered_sound d s =
    record {
      few_nodes = omega arith;
      few_ports = (let few = s.few_ports in omega (arith, few, port_count d));
      few_edges = omega arith;
      tree =
          record {
            root = omega arith;
            root_alone = search rules;
            parents = λ n h k. below3 (λ n. 0 < n → HasParent (lowered d) n) (λ h. absurd (omega arith)) (λ _. record { parent = search rules; before = omega arith }) (λ _. record { parent = search rules; before = omega arith }) n k h;
            order = λ n m h b k. below3 (λ n. parent_of (lowered d) n < m → m < n → parent_of (lowered d) n ≤ parent_of (lowered d) m) (λ b k. absurd (omega arith)) (λ b k. absurd (omega arith)) (λ b k. absurd (omega arith)) n h b k;
          };
      levels =
          record {
            root = s.levels.root;
            parents = λ n h k. below3 (λ n. 0 < n → IsSome (node_at (lowered d) (parent_of (lowered d) n)).level) (λ h. absurd (omega arith)) (λ _. s.levels.root) (λ _. s.levels.root) n k h;
            only = λ n h k. below3 (λ n. 0 < n → IsSome (node_at (lowered d) n).level → (c : ℕ) × (c < 3) × IsTrue (is_child (lowered d) n c)) (λ h. absurd (omega arith)) (λ _ h. (2, omega arith, search rules)) (λ _ h. absurd (search rules)) n k h;
            depth = below3 (λ n. IsSome (node_at (lowered d) n).level → ancestor (lowered d) 49 n ≡ 0) (λ _. refl) (λ _. refl) (λ h. absurd (search rules));
            options = below3 (λ n. IfSome (node_at (lowered d) n).level (IsSoundLevel (lowered d) n)) (same_options d 0 (node_at d 0).level (s.levels.options 0 s.tree.root)) (same_options d 1 (node_at d 0).level (s.levels.options 0 s.tree.root)) tt;
          };
      nodes =
          below3 (λ n. IsSoundNode (node_at (lowered d) n))
          (record { leaf = λ _. omega (arith, ints); compound = λ _. refl })
          (let own = s.nodes 0 s.tree.root in record { leaf = own.leaf; compound = own.compound })
          (record { leaf = λ _. omega (arith, ints); compound = λ h. absurd (search rules) });
      ports = ports_sound d s;
      edges = λ e h. absurd (omega (arith, h));
    }
