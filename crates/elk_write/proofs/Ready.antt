-- The written members of each element of an answer.
use Rattle.std.proofs.Common.{◌≡◌, ℕ, ◌+◌, List, filter, true, false, not, bytes_eq, refl, sym, ap, ◌∙◌, subst, Some}
use Rattle.std.specs.Prelude.{codes, ◌||◌, ◌&&◌, is_some, IsTrue, option_and_then, slice_get}
use Rattle.serde_json.specs.Data.{Data, object, no_members, Members}
use Rattle.serde_json.specs.Find.{get}
use Rattle.drawing_types.specs.declared.shape.Point.{Point}
use Rattle.drawing_types.specs.declared.shape.Rect.{Rect}
use Rattle.elk_doc.specs.declared.document.Edge.{Edge as DocEdge}
use Rattle.drawing_types.specs.declared.section.Section.{Section}
use Rattle.elk_doc.specs.declared.drawing.Certificate.{Certificate}
use Rattle.elk_doc.specs.declared.drawing.Placed.{Placed}
use Rattle.elk_doc.specs.Document.{Document}
use Rattle.elk_json.specs.declared.elements.Kind.{Kind}
use Rattle.elk_json.specs.declared.elements.Kind.TheVariants.{Node, Port, Edge}
use Rattle.elk_json.specs.Elements.{Element}
use Rattle.elk_json.specs.Members.{kind_is_node, kind_is_port, kind_is_edge, is_node, is_port, is_edge, is_compound, has_children}
use Rattle.elk_write.specs.declared.numbers.Numbers.{Numbers}
use Rattle.elk_write.specs.Keys.{is_flat_key}
use Rattle.elk_write.specs.Numbers.{from_zero, past_own}
use Rattle.elk_write.specs.Values.{whole, sections_data, layering_data}
use Rattle.elk_write.specs.Written.{AllFrom, IfThere, Has, HasLevel, IsNodeWritten, IsPortWritten, IsEdgeWritten, is_split}
use Rattle.elk_write.specs.Answered.{kept_into, with_point, with_sections, with_node, answer_node, answer_into, port_answer, edge_answer}
use Rattle.elk_write.proofs.Pairs.{step_kind, Same, Pairs, Keeps, value_answer}
use Rattle.elk_write.proofs.ReversedTokens.{all_reversed}
use Rattle.elk_write.proofs.Puttings.{port_x, port_y, node_x, node_y, node_width, node_height, node_layering, edge_sections, edge_without}

-- ---- kinds

pub node_kind : (k : Kind) → kind_is_node k ≡ true → k ≡ Node
node_kind Node h = refl
node_kind k h = absurd (cc)

pub port_kind : (k : Kind) → kind_is_port k ≡ true → k ≡ Port
port_kind Port h = refl
port_kind k h = absurd (cc)

pub edge_kind : (k : Kind) → kind_is_edge k ≡ true → k ≡ Edge
edge_kind Edge h = refl
edge_kind k h = absurd (cc)

node_hit : (k : Kind) (a : Numbers) → kind_is_node k ≡ true → (step_kind k a).node ≡ a.node + 1
node_hit Node a h = refl
node_hit k a h = absurd (cc)

node_miss : (k : Kind) (a : Numbers) → kind_is_node k ≡ false → (step_kind k a).node ≡ a.node
node_miss Node a h = absurd (cc)
node_miss k a h = refl

port_hit : (k : Kind) (a : Numbers) → kind_is_port k ≡ true → (step_kind k a).port ≡ a.port + 1
port_hit Port a h = refl
port_hit k a h = absurd (cc)

port_miss : (k : Kind) (a : Numbers) → kind_is_port k ≡ false → (step_kind k a).port ≡ a.port
port_miss Port a h = absurd (cc)
port_miss k a h = refl

edge_hit : (k : Kind) (a : Numbers) → kind_is_edge k ≡ true → (step_kind k a).edge ≡ a.edge + 1
edge_hit Edge a h = refl
edge_hit k a h = absurd (cc)

edge_miss : (k : Kind) (a : Numbers) → kind_is_edge k ≡ false → (step_kind k a).edge ≡ a.edge
edge_miss Edge a h = absurd (cc)
edge_miss k a h = refl

-- ---- what is known of the elements of a value

pub record ReadyNode (p : Placed) (n : ℕ) (e : Element) : Type 0 where
  pub members : Members
  pub object_is : e.value ≡ object members
  pub box : Rect
  pub box_is : slice_get p.boxes n ≡ Some box
  pub levelled : IsTrue (is_compound e) → (c : Certificate) × (option_and_then (λ c. c) (slice_get p.levels n) ≡ Some c)

pub record ReadyPort (p : Placed) (n : ℕ) (e : Element) : Type 0 where
  pub members : Members
  pub object_is : e.value ≡ object members
  pub place : Point
  pub place_is : slice_get p.ports n ≡ Some place

pub record ReadyEdge (doc : Document) (p : Placed) (n : ℕ) (e : Element) : Type 0 where
  pub members : Members
  pub object_is : e.value ≡ object members
  pub edge : DocEdge
  pub edge_is : slice_get doc.edges n ≡ Some edge
  pub section : Section
  pub section_is : slice_get p.sections n ≡ Some section

module _ (doc : Document) (p : Placed) where
  keeps : (k : Kind) (d w : Data) → k ≡ Node → Keeps doc p k d w → has_children w ≡ has_children d
  keeps Node d w e h = h
  keeps k d w e h = absurd (cc)

  turn_node : (a : Numbers) (e f : Element) → kind_is_node e.kind ≡ true → Same doc p a e f → ReadyNode p a.node e → IsNodeWritten doc p a.node f
  turn_node a e f is same r =
      let kind = node_kind e.kind is in
      let root = not (is_some e.owner) in
      let d = object r.members in
      let compound = root || has_children d in
      let inner = answer_into doc p a compound (past_own a d) no_members r.members in
      let eq : f.value ≡ object (with_node compound doc p a.node inner) =
      same.2 ∙ ap (λ k. value_answer doc p k a root e.value) kind ∙ ap (answer_node doc p a root) r.object_is in
      let now_compound : is_compound f ≡ compound =
      ap (λ k. kind_is_node k && (not (is_some f.owner) || has_children f.value)) (same.0 ∙ kind)
      ∙ ap (λ o. not (is_some o) || has_children f.value) same.1
      ∙ ap (λ b. root || b) (keeps e.kind e.value f.value kind same.3)
      ∙ ap (λ v. root || has_children v) r.object_is in
      subst (λ o. IfThere o (λ box. Has f.value (codes "x") (whole box.x) × Has f.value (codes "y") (whole box.y) × (IsTrue (is_compound f) → HasLevel doc p a.node f.value box))) (sym r.box_is) (
        ap (get (codes "x")) eq ∙ node_x doc p a.node r.box r.box_is inner compound,
        ap (get (codes "y")) eq ∙ node_y doc p a.node r.box r.box_is inner compound,
        λ (t : IsTrue (is_compound f)).
            let yes : compound ≡ true = sym now_compound ∙ t in
            let eq_true : f.value ≡ object (with_node true doc p a.node inner) = eq ∙ ap (λ b. object (with_node b doc p a.node inner)) yes in
            let was : is_compound e ≡ true = ap (λ k. kind_is_node k && (root || has_children e.value)) kind ∙ ap (λ v. root || has_children v) r.object_is ∙ yes in
            let c = r.levelled was in (
              ap (get (codes "width")) eq_true ∙ node_width doc p a.node r.box r.box_is inner,
              ap (get (codes "height")) eq_true ∙ node_height doc p a.node r.box r.box_is inner,
              subst (λ o. IfThere o (λ c. Has f.value (codes "layering") (layering_data doc (is_split doc a.node) c))) (sym c.1) (ap (get (codes "layering")) eq_true ∙ node_layering doc p a.node r.box r.box_is inner c.0 c.1),
            ),
      )

  turn_port : (a : Numbers) (e f : Element) → kind_is_port e.kind ≡ true → Same doc p a e f → ReadyPort p a.port e → IsPortWritten p a.port f
  turn_port a e f is same r =
      let kind = port_kind e.kind is in
      let root = not (is_some e.owner) in
      let inner = kept_into false no_members r.members in
      let eq : f.value ≡ object (with_point (Some r.place) inner) =
      same.2 ∙ ap (λ k. value_answer doc p k a root e.value) kind ∙ ap (port_answer (slice_get p.ports a.port)) r.object_is ∙ ap (λ o. object (with_point o inner)) r.place_is in
      subst (λ o. IfThere o (λ at. Has f.value (codes "x") (whole at.x) × Has f.value (codes "y") (whole at.y))) (sym r.place_is)
      (ap (get (codes "x")) eq ∙ port_x r.place inner, ap (get (codes "y")) eq ∙ port_y r.place inner)

  turn_edge : (a : Numbers) (e f : Element) → kind_is_edge e.kind ≡ true → Same doc p a e f → ReadyEdge doc p a.edge e → IsEdgeWritten doc p a.edge f
  turn_edge a e f is same r =
      let kind = edge_kind e.kind is in
      let root = not (is_some e.owner) in
      let inner = kept_into true no_members r.members in
      let eq : f.value ≡ object (with_sections (slice_get doc.edges a.edge) (slice_get p.sections a.edge) inner) =
      same.2 ∙ ap (λ k. value_answer doc p k a root e.value) kind ∙ ap (edge_answer (slice_get doc.edges a.edge) (slice_get p.sections a.edge)) r.object_is in
      let full : f.value ≡ object (with_sections (Some r.edge) (Some r.section) inner) =
      eq ∙ ap (λ o. object (with_sections o (slice_get p.sections a.edge) inner)) r.edge_is ∙ ap (λ o. object (with_sections (Some r.edge) o inner)) r.section_is in
      let none = λ (q : List ℕ) (gone : is_flat_key true q ≡ true) (other : bytes_eq q (codes "sections") ≡ false).
      ap (get q) eq ∙ edge_without q (slice_get doc.edges a.edge) (slice_get p.sections a.edge) r.members gone other in (
        subst (λ o. IfThere o (λ edge. IfThere (slice_get p.sections a.edge) (λ s. Has f.value (codes "sections") (sections_data edge.id s)))) (sym r.edge_is)
            (subst (λ o. IfThere o (λ s. Has f.value (codes "sections") (sections_data r.edge.id s))) (sym r.section_is) (ap (get (codes "sections")) full ∙ edge_sections r.edge r.section inner)),
        none (codes "bendPoints") refl refl,
        none (codes "junctionPoints") refl refl,
        none (codes "sourcePoint") refl refl,
        none (codes "targetPoint") refl refl,
      )

  pub nodes_written : (xs ys : List Element) → Pairs doc p from_zero xs ys → AllFrom (ReadyNode p) 0 (filter is_node xs) → AllFrom (IsNodeWritten doc p) 0 (filter is_node ys)
  nodes_written xs ys h r = all_reversed doc p kind_is_node (λ a. a.node) node_hit node_miss (ReadyNode p) (IsNodeWritten doc p) turn_node xs ys from_zero h r

  pub ports_written : (xs ys : List Element) → Pairs doc p from_zero xs ys → AllFrom (ReadyPort p) 0 (filter is_port xs) → AllFrom (IsPortWritten p) 0 (filter is_port ys)
  ports_written xs ys h r = all_reversed doc p kind_is_port (λ a. a.port) port_hit port_miss (ReadyPort p) (IsPortWritten p) turn_port xs ys from_zero h r

  pub edges_written : (xs ys : List Element) → Pairs doc p from_zero xs ys → AllFrom (ReadyEdge doc p) 0 (filter is_edge xs) → AllFrom (IsEdgeWritten doc p) 0 (filter is_edge ys)
  edges_written xs ys h r = all_reversed doc p kind_is_edge (λ a. a.edge) edge_hit edge_miss (ReadyEdge doc p) (IsEdgeWritten doc p) turn_edge xs ys from_zero h r
