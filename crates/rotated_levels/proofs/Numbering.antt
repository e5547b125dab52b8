-- The children, edges and ports of a level by their places, and the document's ends at them.
use Rattle.std.proofs.Common.{◌≡◌, ℕ, ◌<◌, Bool, true, false, length, refl, sym, ap, ◌∙◌}
use Rattle.std.proofs.lemmas.Bool.{eqb-true, eq-eqb}
use Rattle.std.specs.Prelude.{Option, None, Some, unwrap_or}
use Rattle.elk_doc.specs.declared.document.LevelOptions.{LevelOptions}
use Rattle.elk_doc.specs.declared.drawing.Placed.{Placed}
use Rattle.elk_doc.specs.Document.{Document, node_at, parent_of, node_of_port}
use Rattle.elk_doc.specs.Level.{children, edges_of, is_number, IsChild, IsEdge, node_of_end, level_of_edge, place_of_child, place_of_edge}
use Rattle.elk_doc.specs.Sides.{end_of, end_node}
use Rattle.elk_doc.specs.Sound.{IsSound, IsEndIn}
use Rattle.level_model.specs.declared.level.LevelEdge.{LevelEdge}
use Rattle.level_model.specs.Level.{end_at, spoke}
use Rattle.working_frame.specs.Rotated.{level_of, child_number, edge_number, port_number, ports_of, place_of_port, spoke_of}
use Rattle.working_frame.proofs.NumberedLemmas.{numbers_match, levels_are_listed, ends_match}

-- ---- children

pub child_there : (d : Document) (n i : ℕ) → i < length (children d n) → IsChild d n (child_number d n i)
child_there d n i h = (numbers_match d n).children.meant i h

pub child_place : (d : Document) (n i : ℕ) → i < length (children d n) → place_of_child d n (child_number d n i) ≡ i
child_place d n i h = (numbers_match d n).children.place_at i h

pub child_back : (d : Document) (n c : ℕ) → IsChild d n c → (place_of_child d n c < length (children d n)) × (child_number d n (place_of_child d n c) ≡ c)
child_back d n c h = ((numbers_match d n).children.place_in c h, (numbers_match d n).children.found c h)

is_number-or : (o : Option ℕ) (n : ℕ) → is_number o n ≡ true → unwrap_or o 0 ≡ n
is_number-or None n h = absurd (let bad : false ≡ true = h in cc)
is_number-or (Some m) n h = eqb-true m n h

pub child_parent : (d : Document) (n c : ℕ) → IsChild d n c → parent_of d c ≡ n
child_parent d n c h = is_number-or (node_at d c).parent n h.child

-- the places of children tell them apart
pub same_child : (d : Document) (n a b : ℕ) → IsChild d n a → IsChild d n b → place_of_child d n a ≡ place_of_child d n b → a ≡ b
same_child d n a b ha hb e = sym (child_back d n a ha).1 ∙ ap (child_number d n) e ∙ (child_back d n b hb).1

-- ---- edges

pub edge_there : (d : Document) (n i : ℕ) → i < length (edges_of d n) → IsEdge d n (edge_number d n i)
edge_there d n i h = (numbers_match d n).edges.meant i h

pub edge_place : (d : Document) (n i : ℕ) → i < length (edges_of d n) → place_of_edge d n (edge_number d n i) ≡ i
edge_place d n i h = (numbers_match d n).edges.place_at i h

pub edge_back : (d : Document) (n e : ℕ) → IsEdge d n e → (place_of_edge d n e < length (edges_of d n)) × (edge_number d n (place_of_edge d n e) ≡ e)
edge_back d n e h = ((numbers_match d n).edges.place_in e h, (numbers_match d n).edges.found e h)

pub edge_level : (d : Document) (n e : ℕ) → IsEdge d n e → level_of_edge d e ≡ n
edge_level d n e h = eqb-true (level_of_edge d e) n h.edge

-- both ends of an edge of the level stand at children, and name nodes and ports that are there
pub end_child : (d : Document) (n e : ℕ) (t : Bool) → IsSound d → IsEdge d n e → IsChild d n (node_of_end d (end_of d e t))
end_child d n e true sound h = (ends_match d n e sound h).source
end_child d n e false sound h = (ends_match d n e sound h).target

pub end_in : (d : Document) (e : ℕ) (t : Bool) → IsSound d → e < length d.edges → IsEndIn d (end_of d e t)
end_in d e true sound h = (sound.edges e h).source_in
end_in d e false sound h = (sound.edges e h).target_in

-- an edge with an end at a child belongs to the level
pub edge_of_child : (d : Document) (n e c : ℕ) (t : Bool) → IsSound d → e < length d.edges → node_of_end d (end_of d e t) ≡ c → IsChild d n c → IsEdge d n e
edge_of_child d n e c true sound h at child = record { edge_in = h; edge = eq-eqb (level_of_edge d e) n (ap (parent_of d) at ∙ child_parent d n c child) }
edge_of_child d n e c false sound h at child =
    record { edge_in = h; edge = eq-eqb (level_of_edge d e) n ((sound.edges e h).siblings ∙ ap (parent_of d) at ∙ child_parent d n c child) }

pub end_node_is : (d : Document) (e : ℕ) (t : Bool) → end_node d e t ≡ node_of_end d (end_of d e t)
end_node_is d e true = refl
end_node_is d e false = refl

-- ---- ports

pub port_there : (d : Document) (c j : ℕ) → j < length (ports_of d c) → port_number d c j < length d.ports
port_there d c j h = ((numbers_match d c).ports.meant j h).port_in

pub port_node : (d : Document) (c j : ℕ) → j < length (ports_of d c) → node_of_port d (port_number d c j) ≡ c
port_node d c j h = ((numbers_match d c).ports.meant j h).of_node

pub port_place_is : (d : Document) (c j : ℕ) → j < length (ports_of d c) → place_of_port d (port_number d c j) ≡ j
port_place_is d c j h = (numbers_match d c).ports.place_at j h

pub port_back : (d : Document) (c k : ℕ) → k < length d.ports → node_of_port d k ≡ c → (place_of_port d k < length (ports_of d c)) × (port_number d c (place_of_port d k) ≡ k)
port_back d c k h own = let m = (numbers_match d c).ports in (m.place_in k (record { port_in = h; of_node = own }), m.found k (record { port_in = h; of_node = own }))

-- ---- the level's ends

pub spoke_is : (d : Document) (p : Placed) (n : ℕ) (o : LevelOptions) (i : ℕ) (t : Bool) → i < length (edges_of d n)
    → spoke (level_of d p n o) (end_at i t) ≡ spoke_of d n (end_of d (edge_number d n i) t)
spoke_is d p n o i true h = ap (λ (e : LevelEdge). e.source) ((levels_are_listed d p n o).edge i h)
spoke_is d p n o i false h = ap (λ (e : LevelEdge). e.target) ((levels_are_listed d p n o).edge i h)

pub same_test : (a b : Bool) → (a ≡ true → b ≡ true) → (b ≡ true → a ≡ true) → a ≡ b
same_test true b f g = sym (f refl)
same_test false true f g = g refl
same_test false false f g = refl
