-- Documents that are the same but for the places of ports, where the sides that they give ports are the same too: levels,
-- sides, outlines, anchors and docks are the same.
use Rattle.std.proofs.Common.{◌≡◌, ℕ, zero, suc, List, [], ◌∷◌, length, map, Bool, true, false, not, ◌&&◌, None, if◌then◌else◌, refl, sym, ap, ◌∙◌}
use Rattle.std.specs.Prelude.{◌==◌, ℤ, slice_index_or}
use Rattle.std.proofs.Math.Path.{fun_ext}
use Rattle.std.proofs.lemmas.List.{length-map}
use Rattle.drawing_types.specs.declared.shape.Side.{Side}
use Rattle.drawing_types.specs.declared.shape.Dock.{Dock}
use Rattle.elk_doc.specs.declared.document.Node.{Node}
use Rattle.elk_doc.specs.declared.document.Port.{Port}
use Rattle.elk_doc.specs.declared.document.Edge.{Edge}
use Rattle.elk_doc.specs.declared.document.End.{End}
use Rattle.elk_doc.specs.declared.document.End.TheVariants.{Node as AtNode, Port as AtPort}
use Rattle.elk_doc.specs.declared.drawing.Placed.{Placed}
use Rattle.elk_doc.specs.Document.{Document, document, no_port, port_at, edge_at, node_of_port, parent_of, frame_of}
use Rattle.elk_doc.specs.Level.{node_of_end, source_node, target_node, is_loop, level_of_edge, is_edge_of}
use Rattle.elk_doc.specs.Drawing.{box_of, port_place, certificate_of, lists, is_listed, tail_end, head_end, tail_node, head_node}
use Rattle.elk_doc.specs.Numbers.{any_below}
use Rattle.drawing_types.specs.Shapes.{rect_at, moved_by, hull}
use Rattle.elk_doc.specs.Sides.{given_side, is_at_port, leaves_port, enters_port, is_left, is_entered, side_or, side_of_port, end_of, end_node, enters_at, side_at, side_of_end}
use Rattle.elk_doc.specs.Places.{port_box, outline_to, outline_of, middle_of, anchor_at, anchor_of, offset_on, dock_of}
use Rattle.elk_write.specs.ReadBack.{without_place}

index_without : (ps : List Port) (k : ℕ) → slice_index_or (map without_place ps) k no_port ≡ without_place (slice_index_or ps k no_port)
index_without [] k = refl
index_without (q ∷ ps) zero = refl
index_without (q ∷ ps) (suc k) = index_without ps k

same_dock : (n m : ℕ) (s t : Side) (y z : ℤ) → n ≡ m → s ≡ t → y ≡ z
    → (let x : Dock = record { node = n; side = s; offset = y } in x) ≡ (let x : Dock = record { node = m; side = t; offset = z } in x)
same_dock n m s t y z a b c =
    ap (λ w. let x : Dock = record { node = w; side = s; offset = y } in x) a
    ∙ ap (λ w. let x : Dock = record { node = m; side = w; offset = y } in x) b
    ∙ ap (λ w. let x : Dock = record { node = m; side = t; offset = w } in x) c

module _ (ns : List Node) (es : List Edge) (ps qs : List Port) (same : map without_place qs ≡ map without_place ps) where
  abbrev pub doc : Document
  doc = document ns ps es

  abbrev pub other : Document
  other = document ns qs es

  pub same_count : length qs ≡ length ps
  same_count = sym (length-map qs without_place) ∙ ap (λ xs. length xs) same ∙ length-map ps without_place

  port_same : (k : ℕ) → without_place (port_at other k) ≡ without_place (port_at doc k)
  port_same k = sym (index_without qs k) ∙ ap (λ xs. slice_index_or xs k no_port) same ∙ index_without ps k

  pub owner_same : (k : ℕ) → node_of_port other k ≡ node_of_port doc k
  owner_same k = ap (λ q. q.node) (port_same k)

  pub size_same : (k : ℕ) → (port_at other k).size ≡ (port_at doc k).size
  size_same k = ap (λ q. q.size) (port_same k)

  pub asked_same : (k : ℕ) → (port_at other k).side ≡ (port_at doc k).side
  asked_same k = ap (λ q. q.side) (port_same k)

  pub index_same : (k : ℕ) → (port_at other k).index ≡ (port_at doc k).index
  index_same k = ap (λ q. q.index) (port_same k)

  -- ---- levels

  pub end_same : (x : End) → node_of_end other x ≡ node_of_end doc x
  end_same (AtNode n) = refl
  end_same (AtPort k) = owner_same k

  pub sources : source_node other ≡ source_node doc
  sources = fun_ext (λ e. end_same (edge_at doc e).source)

  pub targets : target_node other ≡ target_node doc
  targets = fun_ext (λ e. end_same (edge_at doc e).target)

  pub loops : is_loop other ≡ is_loop doc
  loops = fun_ext (λ e. ap (λ f. f e == target_node other e) sources ∙ ap (λ f. source_node doc e == f e) targets)

  pub levels : level_of_edge other ≡ level_of_edge doc
  levels = fun_ext (λ e. ap (λ f. parent_of doc (f e)) sources)

  pub level_edges : (n : ℕ) → is_edge_of other n ≡ is_edge_of doc n
  level_edges n = fun_ext (λ e. ap (λ f. f e == n) levels)

  module _ (p : Placed) where
    pub listed : is_listed other p ≡ is_listed doc p
    listed = fun_ext (λ e. ap (λ f. lists (certificate_of p (f e)) e) levels)

    tail_ends : tail_end other p ≡ tail_end doc p
    tail_ends = fun_ext (λ e. ap (λ f. if f e then (edge_at doc e).target else (edge_at doc e).source) listed)

    head_ends : head_end other p ≡ head_end doc p
    head_ends = fun_ext (λ e. ap (λ f. if f e then (edge_at doc e).source else (edge_at doc e).target) listed)

    pub tails : tail_node other p ≡ tail_node doc p
    tails = fun_ext (λ e. ap (λ f. node_of_end other (f e)) tail_ends ∙ end_same (tail_end doc p e))

    pub heads : head_node other p ≡ head_node doc p
    heads = fun_ext (λ e. ap (λ f. node_of_end other (f e)) head_ends ∙ end_same (head_end doc p e))

    -- ---- sides

    leaves_same : (k : ℕ) → leaves_port other p k ≡ leaves_port doc p k
    leaves_same k = fun_ext (λ e. ap (λ f. is_at_port (f e) k && not (is_loop other e)) tail_ends ∙ ap (λ f. is_at_port (tail_end doc p e) k && not (f e)) loops)

    enters_same : (k : ℕ) → enters_port other p k ≡ enters_port doc p k
    enters_same k = fun_ext (λ e. ap (λ f. is_at_port (f e) k && not (is_loop other e)) head_ends ∙ ap (λ f. is_at_port (head_end doc p e) k && not (f e)) loops)

    module _ (given : (k : ℕ) → given_side other k ≡ given_side doc k) where
      pub sides : side_of_port other p ≡ side_of_port doc p
      sides = fun_ext (λ k.
          ap (λ s. side_or s (is_entered other p k && not (is_left other p k)) (frame_of other (node_of_port other k))) (given k)
          ∙ ap (λ f. side_or (given_side doc k) (any_below f (length es) && not (is_left other p k)) (frame_of other (node_of_port other k))) (enters_same k)
          ∙ ap (λ f. side_or (given_side doc k) (is_entered doc p k && not (any_below f (length es))) (frame_of other (node_of_port other k))) (leaves_same k)
          ∙ ap (λ n. side_or (given_side doc k) (is_entered doc p k && not (is_left doc p k)) (frame_of doc n)) (owner_same k))

      side_at_same : (e : ℕ) (at_source : Bool) (x : End) → side_at other p e at_source x ≡ side_at doc p e at_source x
      side_at_same e at_source (AtPort k) = ap (λ f. f k) sides
      side_at_same e at_source (AtNode n) =
          ap (λ f. side_or None (enters_at at_source (f e) && not (is_loop other e)) (frame_of doc n)) listed
          ∙ ap (λ f. side_or None (enters_at at_source (is_listed doc p e) && not (f e)) (frame_of doc n)) loops

      pub end_of_same : (e : ℕ) (b : Bool) → end_of other e b ≡ end_of doc e b
      end_of_same e true = refl
      end_of_same e false = refl

      pub end_sides : (e : ℕ) (b : Bool) → side_of_end other p e b ≡ side_of_end doc p e b
      end_sides e b = ap (side_at other p e b) (end_of_same e b) ∙ side_at_same e b (end_of doc e b)

      end_node_same : (e : ℕ) (b : Bool) → end_node other e b ≡ end_node doc e b
      end_node_same e true = ap (λ f. f e) sources
      end_node_same e false = ap (λ f. f e) targets

      -- ---- outlines, anchors and docks

      pub port_boxes : port_box other p ≡ port_box doc p
      port_boxes = fun_ext (λ k.
          ap (λ n. rect_at (moved_by (box_of p n) (port_place p k)) (port_at other k).size) (owner_same k)
          ∙ ap (λ s. rect_at (moved_by (box_of p (node_of_port doc k)) (port_place p k)) s) (size_same k))

      outline_same : (n m : ℕ) → outline_to other p n m ≡ outline_to doc p n m
      unfolding outline_to
      outline_same n zero = refl
      outline_same n (suc m) =
          ap (λ k. if k == n then hull (outline_to other p n m) (port_box other p m) else outline_to other p n m) (owner_same m)
          ∙ ap (λ r. if node_of_port doc m == n then hull r (port_box other p m) else r) (outline_same n m)
          ∙ ap (λ f. if node_of_port doc m == n then hull (outline_to doc p n m) (f m) else outline_to doc p n m) port_boxes

      pub outlines : (n : ℕ) → outline_of other p n ≡ outline_of doc p n
      outlines n = ap (outline_to other p n) same_count ∙ outline_same n (length ps)

      anchor_at_same : (e : ℕ) (b : Bool) (x : End) → anchor_at other p e b x ≡ anchor_at doc p e b x
      anchor_at_same e b (AtPort k) = ap (λ f. middle_of (f k) (port_box other p k)) sides ∙ ap (λ f. middle_of (side_of_port doc p k) (f k)) port_boxes
      anchor_at_same e b (AtNode n) = refl

      pub anchors : (e : ℕ) (b : Bool) → anchor_of other p e b ≡ anchor_of doc p e b
      anchors e b = ap (anchor_at other p e b) (end_of_same e b) ∙ anchor_at_same e b (end_of doc e b)

      pub docks : (e : ℕ) (b : Bool) → dock_of other p e b ≡ dock_of doc p e b
      docks e b =
          same_dock _ _ _ _ _ _ (end_node_same e b) (end_sides e b)
          (ap (λ s. offset_on s (box_of p (end_node other e b)) (anchor_of other p e b)) (end_sides e b)
          ∙ ap (λ n. offset_on (side_of_end doc p e b) (box_of p n) (anchor_of other p e b)) (end_node_same e b)
          ∙ ap (λ a. offset_on (side_of_end doc p e b) (box_of p (end_node doc e b)) a) (anchors e b))
