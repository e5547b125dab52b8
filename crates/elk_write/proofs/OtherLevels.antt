-- Documents that are the same but for the places of ports, where the sides that they give ports are the same too, ask the
-- same of siblings, content, routes and certificates.
use Rattle.std.proofs.Common.{◌≡◌, ◌≢◌, ℕ, ◌+◌, List, length, get_or, map, Bool, true, false, not, ◌&&◌, ◌⊎◌, ⊎_elim, inl, inr, Option, Some, None, sym, ap, ◌∙◌, subst, subst₂}
use Rattle.std.specs.Prelude.{◌==◌, ℤ, pos, ◌+ℤ◌, ◌-ℤ◌, ◌*ℤ◌, ◌≤ℤ◌, IsTrue, IsFalse, slice_index}
use Rattle.std.proofs.Math.Path.{fun_ext}
use Rattle.drawing_types.specs.declared.shape.Rect.{Rect}
use Rattle.elk_doc.specs.declared.document.Node.{Node}
use Rattle.elk_doc.specs.declared.document.Port.{Port}
use Rattle.elk_doc.specs.declared.document.Edge.{Edge}
use Rattle.elk_doc.specs.declared.document.LevelOptions.{LevelOptions}
use Rattle.elk_doc.specs.declared.drawing.Certificate.{Certificate}
use Rattle.elk_doc.specs.declared.drawing.Placed.{Placed}
use Rattle.elk_doc.specs.Document.{Document, document, node_at, edge_at}
use Rattle.elk_doc.specs.Level.{IsChild, IsEdge, source_node, target_node, is_loop, is_edge_of}
use Rattle.elk_doc.specs.Numbers.{count_below, sum_below, total_below}
use Rattle.elk_doc.specs.Drawing.{path_of, point_at, certificate_of, tail_node, head_node, flow_in}
use Rattle.elk_doc.specs.Shapes.{rotated}
use Rattle.drawing_types.specs.Segments.{MeetsRect}
use Rattle.elk_doc.specs.Sides.{given_side, side_of_end}
use Rattle.elk_doc.specs.Places.{outline_of, dock_of}
use Rattle.elk_doc.specs.Paths.{Reaches, stay, go}
use Rattle.elk_doc.specs.Fits.{Fits, FitsLevel, FitsCertificate, MayBeListed}
use Rattle.elk_doc.specs.Content.{EachShapeOf}
use Rattle.drawing_types.specs.Clearance.{IsLeftBy, IsAboveBy}
use Rattle.elk_doc.specs.Apart.{Apart, AreJoined, InOnePart, NumbersParts, LayersApart, framed, PartIsLeft, PartIsAbove, PartsApart, BoxesApart}
use Rattle.drawing_types.specs.Clearance.{StandsClear}
use Rattle.elk_doc.specs.Inside.{Inside}
use Rattle.elk_doc.specs.Route.{Route, IsOrthogonal}
use Rattle.elk_doc.specs.Clear.{Clear}
use Rattle.elk_doc.specs.Sharing.{Sharing}
use Rattle.elk_doc.specs.Reversed.{Reversed, UnlistedStep}
use Rattle.elk_doc.specs.Layering.{IsLayering, Layering, Least, span_of, written_layer}
use Rattle.elk_doc.specs.FlowProof.{FlowProof, enters_child, leaves_child, weight_at}
use Rattle.elk_write.specs.ReadBack.{without_place}
use Rattle.elk_write.proofs.OtherPlaces.{same_count, sources, targets, loops, levels, level_edges, tails, heads, end_sides, outlines, anchors, docks}

reaches_by : (S T : ℕ → ℕ → Type 0) → ((a b : ℕ) → S a b → T a b) → (a b : ℕ) → Reaches S a b → Reaches T a b
reaches_by S T f a _ (stay _) = stay a
reaches_by S T f a c (go _ b _ s r) = go a b c (f a b s) (reaches_by S T f b c r)

module _ (ns : List Node) (es : List Edge) (ps qs : List Port) (same : map without_place qs ≡ map without_place ps) where
  abbrev doc : Document
  doc = document ns ps es

  abbrev other : Document
  other = document ns qs es

  source_is : (e : ℕ) → source_node other e ≡ source_node doc e
  source_is e = ap (λ f. f e) (sources ns es ps qs same)

  target_is : (e : ℕ) → target_node other e ≡ target_node doc e
  target_is e = ap (λ f. f e) (targets ns es ps qs same)

  loop_is : (e : ℕ) → is_loop other e ≡ is_loop doc e
  loop_is e = ap (λ f. f e) (loops ns es ps qs same)

  edges_are : (n : ℕ) → is_edge_of other n ≡ is_edge_of doc n
  edges_are n = level_edges ns es ps qs same n

  pub child_back : (n c : ℕ) → IsChild other n c → IsChild doc n c
  child_back n c h = record { node_in = h.node_in; child = h.child }

  pub child_over : (n c : ℕ) → IsChild doc n c → IsChild other n c
  child_over n c h = record { node_in = h.node_in; child = h.child }

  pub edge_back : (n e : ℕ) → IsEdge other n e → IsEdge doc n e
  edge_back n e h = record { edge_in = h.edge_in; edge = subst (λ f. IsTrue (f e)) (edges_are n) h.edge }

  pub edge_over : (n e : ℕ) → IsEdge doc n e → IsEdge other n e
  edge_over n e h = record { edge_in = h.edge_in; edge = subst (λ f. IsTrue (f e)) (sym (edges_are n)) h.edge }

  -- ---- certificates

  listable_over : (n e : ℕ) → MayBeListed doc n e → MayBeListed other n e
  listable_over n e h = record {
    edge_in = h.edge_in;
    of_level = ap (λ f. f e) (levels ns es ps qs same) ∙ h.of_level;
    no_loop = λ q. h.no_loop (sym (source_is e) ∙ q ∙ target_is e);
  }

  certificate_over : (n : ℕ) (o : LevelOptions) (c : Certificate) → FitsCertificate doc n o c → FitsCertificate other n o c
  certificate_over n o c h = record {
    layers = h.layers;
    flow = h.flow ∙ ap (λ f. count_below f (length es)) (sym (edges_are n));
    parts = h.parts;
    ascending = h.ascending;
    listed = λ k d lt. listable_over n (get_or c.reversed k d) (h.listed k d lt);
  }

  fits_level : (n : ℕ) (o : Option LevelOptions) (c : Option Certificate) → FitsLevel doc n o c → FitsLevel other n o c
  fits_level n None None h = h
  fits_level n (Some o) (Some c) h = certificate_over n o c h
  fits_level n o c h = h

  step_over : (n : ℕ) (c : Certificate) (a b : ℕ) → UnlistedStep doc n c a b → UnlistedStep other n c a b
  step_over n c a b h = record {
    edge = h.edge;
    of_level = edge_over n h.edge h.of_level;
    unlisted = h.unlisted;
    source = source_is h.edge ∙ h.source;
    target = target_is h.edge ∙ h.target;
    no_loop = h.no_loop;
  }

  step_back : (n : ℕ) (c : Certificate) (a b : ℕ) → UnlistedStep other n c a b → UnlistedStep doc n c a b
  step_back n c a b h = record {
    edge = h.edge;
    of_level = edge_back n h.edge h.of_level;
    unlisted = h.unlisted;
    source = sym (source_is h.edge) ∙ h.source;
    target = sym (target_is h.edge) ∙ h.target;
    no_loop = h.no_loop;
  }

  pub reversed_over : (n : ℕ) (c : Certificate) → Reversed doc n c → Reversed other n c
  reversed_over n c h = record {
    closes = λ k d lt.
        let e = get_or c.reversed k d in
        subst (λ a. Reaches (UnlistedStep other n c) a (source_node other e)) (sym (target_is e))
        (subst (λ b. Reaches (UnlistedStep other n c) (target_node doc e) b) (sym (source_is e))
        (reaches_by (UnlistedStep doc n c) (UnlistedStep other n c) (step_over n c) _ _ (h.closes k d lt)));
    acyclic = λ a b s r. h.acyclic a b (step_back n c a b s) (reaches_by (UnlistedStep other n c) (UnlistedStep doc n c) (step_back n c) b a r);
  }

  -- ---- parts of a level

  joined_over : (n a b : ℕ) → AreJoined doc n a b → AreJoined other n a b
  joined_over n a b h = (
    h.0,
    edge_over n h.0 h.1,
    subst (λ s. ((s ≡ a) × (target_node other h.0 ≡ b)) ⊎ ((s ≡ b) × (target_node other h.0 ≡ a))) (sym (source_is h.0))
        (subst (λ t. ((source_node doc h.0 ≡ a) × (t ≡ b)) ⊎ ((source_node doc h.0 ≡ b) × (t ≡ a))) (sym (target_is h.0)) h.2),
  )

  joined_back : (n a b : ℕ) → AreJoined other n a b → AreJoined doc n a b
  joined_back n a b h = (
    h.0,
    edge_back n h.0 h.1,
    subst (λ s. ((s ≡ a) × (target_node doc h.0 ≡ b)) ⊎ ((s ≡ b) × (target_node doc h.0 ≡ a))) (source_is h.0)
        (subst (λ t. ((source_node other h.0 ≡ a) × (t ≡ b)) ⊎ ((source_node other h.0 ≡ b) × (t ≡ a))) (target_is h.0) h.2),
  )

  pub part_over : (n a b : ℕ) → InOnePart doc n a b → InOnePart other n a b
  part_over n a b r = reaches_by _ _ (joined_over n) a b r

  numbers_over : (n : ℕ) (c : Certificate) → NumbersParts doc n c → NumbersParts other n c
  numbers_over n c h = record {
    same = λ a b x y. (
      λ e. part_over n a b ((h.same a b (child_back n a x) (child_back n b y)).0 e),
      λ r. (h.same a b (child_back n a x) (child_back n b y)).1 (reaches_by _ _ (joined_back n) a b r),
    );
    in_order = λ a i x lt. let f = h.in_order a i (child_back n a x) lt in (f.0, child_over n f.0 f.1, f.2, f.3);
  }

  module _ (p : Placed) where
    pub fits_over : Fits doc p → Fits other p
    fits_over h = record {
      counts = record { boxes = h.counts.boxes; ports = h.counts.ports ∙ sym (same_count ns es ps qs same); sections = h.counts.sections; levels = h.counts.levels };
      root = h.root;
      range = h.range;
      leaves = λ n lt none. let k = h.leaves n lt none in record { width = k.width; height = k.height };
      certificates = λ n lt. fits_level n (node_at doc n).level (certificate_of p n) (h.certificates n lt);
    }

    -- ---- layers and flow

    tails_are : tail_node other p ≡ tail_node doc p
    tails_are = tails ns es ps qs same p

    heads_are : head_node other p ≡ head_node doc p
    heads_are = heads ns es ps qs same p

    layers_follow : (n : ℕ) (layer : ℕ → ℤ) → IsLayering doc p n layer → IsLayering other p n layer
    layers_follow n layer h e x l =
        subst (λ f. (layer (f e) +ℤ pos 1) ≤ℤ layer (head_node other p e)) (sym tails_are)
        (subst (λ f. (layer (tail_node doc p e) +ℤ pos 1) ≤ℤ layer (f e)) (sym heads_are)
        (h e (edge_back n e x) (subst IsFalse (loop_is e) l)))

    layers_back : (n : ℕ) (layer : ℕ → ℤ) → IsLayering other p n layer → IsLayering doc p n layer
    layers_back n layer h e x l =
        subst (λ f. (layer (f e) +ℤ pos 1) ≤ℤ layer (head_node doc p e)) tails_are
        (subst (λ f. (layer (tail_node other p e) +ℤ pos 1) ≤ℤ layer (f e)) heads_are
        (h e (edge_over n e x) (subst IsFalse (sym (loop_is e)) l)))

    span_is : (n : ℕ) (layer : ℕ → ℤ) → span_of other p n layer ≡ span_of doc p n layer
    span_is n layer =
        ap (λ f. total_below f (λ e. pos (edge_at doc e).weight *ℤ (layer (head_node other p e) -ℤ layer (tail_node other p e))) (length es)) (edges_are n)
        ∙ ap (λ f. total_below (is_edge_of doc n) (λ e. pos (edge_at doc e).weight *ℤ (layer (f e) -ℤ layer (tail_node other p e))) (length es)) heads_are
        ∙ ap (λ f. total_below (is_edge_of doc n) (λ e. pos (edge_at doc e).weight *ℤ (layer (head_node doc p e) -ℤ layer (f e))) (length es)) tails_are

    pub layering_over : (n : ℕ) (c : Certificate) → Layering doc p n c → Layering other p n c
    layering_over n c h = record {
      layers = layers_follow n (written_layer doc n c) h.layers;
      span = span_is n (written_layer doc n c) ∙ h.span;
    }

    pub least_over : (n : ℕ) (c : Certificate) → Least doc p n c → Least other p n c
    least_over n c h layer is = subst (λ z. pos c.span ≤ℤ z) (sym (span_is n layer)) (h layer (layers_back n layer is))

    enters_are : (n a : ℕ) → enters_child other p n a ≡ enters_child doc p n a
    enters_are n a = fun_ext (λ e.
        ap (λ f. f e && ((head_node other p e == a) && not (is_loop other e))) (edges_are n)
        ∙ ap (λ f. is_edge_of doc n e && ((f e == a) && not (is_loop other e))) heads_are
        ∙ ap (λ b. is_edge_of doc n e && ((head_node doc p e == a) && not b)) (loop_is e))

    leaves_are : (n a : ℕ) → leaves_child other p n a ≡ leaves_child doc p n a
    leaves_are n a = fun_ext (λ e.
        ap (λ f. f e && ((tail_node other p e == a) && not (is_loop other e))) (edges_are n)
        ∙ ap (λ f. is_edge_of doc n e && ((f e == a) && not (is_loop other e))) tails_are
        ∙ ap (λ b. is_edge_of doc n e && ((tail_node doc p e == a) && not b)) (loop_is e))

    flows_are : (n : ℕ) (c : Certificate) → flow_in other n c ≡ flow_in doc n c
    flows_are n c = fun_ext (λ e. ap (λ f. slice_index c.flow (count_below f e)) (edges_are n))

    abbrev Balance : (ℕ → Bool) → (ℕ → Bool) → (ℕ → ℕ) → Type 0
    Balance enters leaves flow =
        sum_below enters flow (length es) + sum_below leaves (weight_at doc) (length es) ≡ sum_below leaves flow (length es) + sum_below enters (weight_at doc) (length es)

    pub flow_over : (n : ℕ) (c : Certificate) → FlowProof doc p n c → FlowProof other p n c
    flow_over n c h = record {
      loops = λ e x l. ap (λ f. f e) (flows_are n c) ∙ h.loops e (edge_back n e x) (subst IsTrue (loop_is e) l);
      balance = λ a x.
          subst (λ f. Balance f (leaves_child other p n a) (flow_in other n c)) (sym (enters_are n a))
          (subst (λ f. Balance (enters_child doc p n a) f (flow_in other n c)) (sym (leaves_are n a))
          (subst (λ f. Balance (enters_child doc p n a) (leaves_child doc p n a) f) (sym (flows_are n c))
          (h.balance a (child_back n a x))));
      sum =
          ap (λ f. sum_below f (flow_in other n c) (length es)) (edges_are n)
          ∙ ap (λ f. sum_below (is_edge_of doc n) f (length es)) (flows_are n c)
          ∙ h.sum;
    }

    module _ (given : (k : ℕ) → given_side other k ≡ given_side doc k) where
      outline_is : (n : ℕ) → outline_of other p n ≡ outline_of doc p n
      outline_is n = outlines ns es ps qs same p given n

      -- ---- content

      shapes_over : (n : ℕ) (Keep : ℕ → Type 0) (Q R : Rect → Type 0) → ((r : Rect) → Q r → R r) → EachShapeOf doc p n Keep Q → EachShapeOf other p n Keep R
      shapes_over n Keep Q R f h = record {
        outlines = λ c x k. subst R (sym (outline_is c)) (f (outline_of doc p c) (h.outlines c (child_back n c x) k));
        points = λ e i x k lt. f _ (h.points e i (edge_back n e x) (subst Keep (source_is e) k) lt);
      }

      pub inside_over : (n : ℕ) (o : LevelOptions) → Inside doc p n o → Inside other p n o
      inside_over n o h = shapes_over n _ _ _ (λ r x. x) h

      layers_over : (n : ℕ) (o : LevelOptions) (c : Certificate) (a b : ℕ) → LayersApart doc p n o c a b → LayersApart other p n o c a b
      layers_over n o c a b h = record {
        same_layer = λ e.
            subst (λ r. IsAboveBy o.spacing.node_node (rotated o.direction r) (framed other p o b) ⊎ IsAboveBy o.spacing.node_node (framed other p o b) (rotated o.direction r)) (sym (outline_is a))
            (subst (λ r. IsAboveBy o.spacing.node_node (framed doc p o a) (rotated o.direction r) ⊎ IsAboveBy o.spacing.node_node (rotated o.direction r) (framed doc p o a)) (sym (outline_is b))
            (h.same_layer e));
        earlier_layer = λ lt.
            subst (λ r. IsLeftBy o.spacing.node_layers (rotated o.direction r) (framed other p o b)) (sym (outline_is a))
            (subst (λ r. IsLeftBy o.spacing.node_layers (framed doc p o a) (rotated o.direction r)) (sym (outline_is b))
            (h.earlier_layer lt));
      }

      left_over : (n : ℕ) (o : LevelOptions) (c : Certificate) (i j : ℕ) → PartIsLeft doc p n o c i j → PartIsLeft other p n o c i j
      left_over n o c i j h = shapes_over n _ _ _ (λ r. shapes_over n _ _ _ (λ s x. x)) h

      above_over : (n : ℕ) (o : LevelOptions) (c : Certificate) (i j : ℕ) → PartIsAbove doc p n o c i j → PartIsAbove other p n o c i j
      above_over n o c i j h = shapes_over n _ _ _ (λ r. shapes_over n _ _ _ (λ s x. x)) h

      parts_over : (n : ℕ) (o : LevelOptions) (c : Certificate) (i j : ℕ) → PartsApart doc p n o c i j → PartsApart other p n o c i j
      parts_over n o c i j h =
          ⊎_elim
          (λ x. inl (⊎_elim (λ y. inl (left_over n o c i j y)) (λ y. inr (above_over n o c i j y)) x))
          (λ x. inr (⊎_elim (λ y. inl (left_over n o c j i y)) (λ y. inr (above_over n o c j i y)) x))
          h

      boxes_over : (o : LevelOptions) (a b : ℕ) → BoxesApart doc p o a b → BoxesApart other p o a b
      boxes_over o a b h =
          subst (λ r. StandsClear o.spacing.node_node r (outline_of other p b) ⊎ StandsClear o.spacing.node_node (outline_of other p b) r) (sym (outline_is a))
          (subst (λ r. StandsClear o.spacing.node_node (outline_of doc p a) r ⊎ StandsClear o.spacing.node_node r (outline_of doc p a)) (sym (outline_is b)) h)

      pub apart_over : (n : ℕ) (o : LevelOptions) (c : Certificate) → Apart doc p n o c → Apart other p n o c
      apart_over n o c h = record {
        numbered = λ t. numbers_over n c (h.numbered t);
        layers = λ t a b x y differ part. layers_over n o c a b (h.layers t a b (child_back n a x) (child_back n b y) differ part);
        parts = λ t a b x y differ. parts_over n o c _ _ (h.parts t a b (child_back n a x) (child_back n b y) differ);
        boxes = λ t a b x y differ. boxes_over o a b (h.boxes t a b (child_back n a x) (child_back n b y) differ);
      }

      -- ---- routes

      end_is : (e : ℕ) (b : Bool) → side_of_end other p e b ≡ side_of_end doc p e b
      end_is e b = end_sides ns es ps qs same p given e b

      dock_is : (e : ℕ) (b : Bool) → dock_of other p e b ≡ dock_of doc p e b
      dock_is e b = docks ns es ps qs same p given e b

      pub route_over : (e : ℕ) → Route doc p e → Route other p e
      route_over e h = record {
        from_source = h.from_source ∙ sym (anchors ns es ps qs same p given e true);
        to_target = h.to_target ∙ sym (anchors ns es ps qs same p given e false);
        one_dock = λ one. h.one_dock (sym (dock_is e true) ∙ one ∙ dock_is e false);
        orthogonal = λ differ. subst₂ (IsOrthogonal (path_of p e)) (sym (end_is e true)) (sym (end_is e false)) (h.orthogonal (λ one. differ (dock_is e true ∙ one ∙ sym (dock_is e false))));
      }

      pub clear_over : (e c : ℕ) → Clear doc p e c → Clear other p e c
      clear_over e c h = record {
        foreign = λ s t i lt m.
            h.foreign (λ x. s (source_is e ∙ x)) (λ x. t (target_is e ∙ x)) i lt
            (subst (MeetsRect (point_at p e i) (point_at p e (i + 1))) (outline_is c) m);
        own = λ x. h.own (⊎_elim (λ s. inl (sym (source_is e) ∙ s)) (λ t. inr (sym (target_is e) ∙ t)) x);
      }

      pub sharing_over : (e f : ℕ) → Sharing doc p e f → Sharing other p e f
      sharing_over e f h share = let x = h share in (x.0, x.1, dock_is e x.0 ∙ x.2 ∙ sym (dock_is f x.1))

      pub routes_over : (n : ℕ) → ((e : ℕ) → IsEdge doc n e → Route doc p e) → (e : ℕ) → IsEdge other n e → Route other p e
      routes_over n h e x = route_over e (h e (edge_back n e x))

      pub clears_over : (n : ℕ) → ((e a : ℕ) → IsEdge doc n e → IsChild doc n a → Clear doc p e a) → (e a : ℕ) → IsEdge other n e → IsChild other n a → Clear other p e a
      clears_over n h e a x y = clear_over e a (h e a (edge_back n e x) (child_back n a y))

      pub shares_over : (n : ℕ) → ((e f : ℕ) → IsEdge doc n e → IsEdge doc n f → e ≢ f → Sharing doc p e f) → (e f : ℕ) → IsEdge other n e → IsEdge other n f → e ≢ f → Sharing other p e f
      shares_over n h e f x y differ = sharing_over e f (h e f (edge_back n e x) (edge_back n f y) differ)
