-- Parts that stand apart in the frame stand apart in the document.
use Rattle.std.proofs.Common.{◌≡◌, ◌≢◌, ◌⊎◌, inl, inr, ⊎_elim, ℕ, ◌<◌, List, length, get_or, slice_index, ℤ, sym, ap, ◌∙◌, subst, subst₂, arith}
use Rattle.std.proofs.lemmas.Bool.{cases_lt}
use Rattle.std.proofs.lemmas.Int.{ints}
use Rattle.std.proofs.lemmas.List.{get_or-map, length-map}
use Rattle.drawing_types.specs.declared.shape.Point.{Point}
use Rattle.drawing_types.specs.declared.shape.Rect.{Rect}
use Rattle.elk_doc.specs.declared.document.LevelOptions.{LevelOptions}
use Rattle.elk_doc.specs.declared.drawing.Certificate.{Certificate}
use Rattle.elk_doc.specs.declared.drawing.Placed.{Placed}
use Rattle.elk_doc.specs.Document.{Document, edge_at}
use Rattle.drawing_types.specs.Shapes.{origin}
use Rattle.elk_doc.specs.Apart.{InOnePart, AreJoined, LayersApart, NumbersParts, PartsApart, framed}
use Rattle.drawing_types.specs.Clearance.{StandsClear}
use Rattle.elk_doc.specs.Content.{EachShapeOf}
use Rattle.drawing_types.specs.Clearance.{IsAboveBy, IsLeftBy}
use Rattle.elk_doc.specs.Drawing.{part_in, point_at, point_count, points_of, section_of}
use Rattle.elk_doc.specs.Level.{IsChild, IsEdge, children, edges_of, is_child, place_of_child, place_of_edge, source_node, target_node}
use Rattle.elk_doc.specs.Paths.{stay, go}
use Rattle.elk_doc.specs.Places.{outline_of}
use Rattle.elk_doc.specs.Shapes.{rotated}
use Rattle.drawing_types.specs.Shapes.{Holds, point_rect}
use Rattle.elk_doc.specs.Sound.{IsSound}
use Rattle.elk_doc.proofs.NumberLaws.{count_below-le}
use Rattle.drawing_laws.specs.Rotating.{rotated_point}
use Rattle.drawing_laws.proofs.RotatingLaws.{boxes}
use Rattle.level_layout.specs.Certificate.{source_of, target_of}
use Rattle.level_model.specs.FromPlan.{LevelDrawing, section_at}
use Rattle.level_model.specs.Level.{PlainLevel}
use Rattle.plan_laws.specs.Routes.{route_count, route_point}
use Rattle.level_model.specs.Apart.{drawn_outline}
use Rattle.level_parts.specs.Divided.{edge_keys}
use Rattle.level_parts.specs.Parts.{InOnePart as InOneLevelPart, AreJoined as IsJoinedBy}
use Rattle.level_parts.proofs.LevelLemmas.{edge_part}
use Rattle.level_model.specs.Conditions.{IsLevel}
use Rattle.level_split.specs.declared.layout.PartsOut.{PartsOut}
use Rattle.level_split.specs.Laws.{IsPartedDrawing}
use Rattle.level_split.specs.Parts.{whole_drawing}
use Rattle.working_frame.specs.Drawing.{IsRotatedDrawing, IsRotatedSection, plus}
use Rattle.working_frame.specs.Rotated.{child_number, edge_number, level_edge, level_of}
use Rattle.working_frame.proofs.NumberedLemmas.{ends_match, levels_are_listed, numbers_match}
use Rattle.rotated_levels.specs.Outlines.{shifted}
use Rattle.rotated_levels.proofs.OutlineLemmas.{outlines_rotate_back}
use Rattle.rotated_levels.proofs.RouteLemmas.{points_rotated}

-- ---- rectangles that stand clear

left_within : (gap : ℤ) (by : Point) (p q r s a b : Rect) → IsLeftBy gap p q → Holds p r → Holds q s → a ≡ shifted by r → b ≡ shifted by s → IsLeftBy gap a b
left_within gap by p q r s a b h hr hs ea eb =
    let x = hr.right in
    let y = hs.left in
    subst₂ (λ (a b : Rect). IsLeftBy gap a b) (sym ea) (sym eb) (omega (arith, ints, h, x, y))

above_within : (gap : ℤ) (by : Point) (p q r s a b : Rect) → IsAboveBy gap p q → Holds p r → Holds q s → a ≡ shifted by r → b ≡ shifted by s → IsAboveBy gap a b
above_within gap by p q r s a b h hr hs ea eb =
    let x = hr.bottom in
    let y = hs.top in
    subst₂ (λ (a b : Rect). IsAboveBy gap a b) (sym ea) (sym eb) (omega (arith, ints, h, x, y))

left_shifted : (gap : ℤ) (by : Point) (r s : Rect) → IsLeftBy gap r s → IsLeftBy gap (shifted by r) (shifted by s)
left_shifted gap by r s h = omega (arith, ints, h)

above_shifted : (gap : ℤ) (by : Point) (r s : Rect) → IsAboveBy gap r s → IsAboveBy gap (shifted by r) (shifted by s)
above_shifted gap by r s h = omega (arith, ints, h)

module _ (d : Document) (p : Placed) (n : ℕ) (o : LevelOptions) (out : PartsOut) (written : Certificate) (by : Point) (sound : IsSound d) (level : IsLevel (level_of d p n o))
    (drawn : IsPartedDrawing (level_of d p n o) o.component out) (rotated_back : IsRotatedDrawing d p n o.direction (whole_drawing out) by) (parts_are : written.parts ≡ out.parts) (layers_are : written.layers ≡ out.certificate.layers) where
  abbrev l : PlainLevel
  l = level_of d p n o

  abbrev v : LevelDrawing
  v = whole_drawing out

  abbrev place : ℕ → ℕ
  place a = place_of_child d n a

  place_in : (a : ℕ) → IsChild d n a → place a < length l.children
  place_in a h = subst (λ m. place a < m) (sym (levels_are_listed d p n o).child_count) ((numbers_match d n).children.place_in a h)

  edge_in : (e : ℕ) → IsEdge d n e → place_of_edge d n e < length l.edges
  edge_in e h = subst (λ m. place_of_edge d n e < m) (sym (levels_are_listed d p n o).edge_count) ((numbers_match d n).edges.place_in e h)

  found : (a : ℕ) → IsChild d n a → child_number d n (place a) ≡ a
  found a h = (numbers_match d n).children.found a h

  part_is : (a : ℕ) → part_in d n written a ≡ slice_index out.parts (place a)
  part_is a = ap (λ (xs : List ℕ). slice_index xs (place a)) parts_are

  -- ---- the ends of an edge, by their places

  source_is : (e : ℕ) → IsEdge d n e → source_of l (place_of_edge d n e) ≡ place (source_node d e)
  source_is e h =
      let m = (numbers_match d n).edges in
      ap (λ x. x.source.child) ((levels_are_listed d p n o).edge (place_of_edge d n e) (m.place_in e h) ∙ ap (level_edge d n) (m.found e h)) ∙ (ends_match d n e sound h).spoke (edge_at d e).source

  target_is : (e : ℕ) → IsEdge d n e → target_of l (place_of_edge d n e) ≡ place (target_node d e)
  target_is e h =
      let m = (numbers_match d n).edges in
      ap (λ x. x.target.child) ((levels_are_listed d p n o).edge (place_of_edge d n e) (m.place_in e h) ∙ ap (level_edge d n) (m.found e h)) ∙ (ends_match d n e sound h).spoke (edge_at d e).target

  -- ---- parts of the level are parts in the document

  child_here : (i : ℕ) → i < length l.children → i < length (children d n)
  child_here i h = subst (λ m. i < m) (levels_are_listed d p n o).child_count h

  step_there : (x y : ℕ) → IsJoinedBy l x y → AreJoined d n (child_number d n x) (child_number d n y)
  step_there x y (i, h, ends) =
      let inside : i < length (edges_of d n) = subst (λ m. i < m) (levels_are_listed d p n o).edge_count h in
      let e = edge_number d n i in
      let m = (numbers_match d n).edges in
      let edge = m.meant i inside in
      let at : place_of_edge d n e ≡ i = m.place_at i inside in
      let match = ends_match d n e sound edge in
      let source : source_node d e ≡ child_number d n (source_of l i) =
      sym (found (source_node d e) match.source) ∙ ap (child_number d n) (sym (source_is e edge) ∙ ap (source_of l) at)
      in
      let target : target_node d e ≡ child_number d n (target_of l i) =
      sym (found (target_node d e) match.target) ∙ ap (child_number d n) (sym (target_is e edge) ∙ ap (target_of l) at)
      in
      (e, edge, either ends source target)
    where
      either : {s t a b : ℕ} → ((s ≡ x) × (t ≡ y)) ⊎ ((s ≡ y) × (t ≡ x)) → a ≡ child_number d n s → b ≡ child_number d n t
          → ((a ≡ child_number d n x) × (b ≡ child_number d n y)) ⊎ ((a ≡ child_number d n y) × (b ≡ child_number d n x))
      either (inl h) p q = inl (p ∙ ap (child_number d n) h.0, q ∙ ap (child_number d n) h.1)
      either (inr h) p q = inr (p ∙ ap (child_number d n) h.0, q ∙ ap (child_number d n) h.1)

  step_here : (a b : ℕ) → AreJoined d n a b → IsJoinedBy l (place a) (place b)
  step_here a b (e, edge, ends) = (
    place_of_edge d n e,
    edge_in e edge,
    ⊎_elim
        (λ (h : (source_node d e ≡ a) × (target_node d e ≡ b)). inl (source_is e edge ∙ ap place h.0, target_is e edge ∙ ap place h.1))
        (λ (h : (source_node d e ≡ b) × (target_node d e ≡ a)). inr (source_is e edge ∙ ap place h.0, target_is e edge ∙ ap place h.1))
        ends,
  )

  forth : (x y : ℕ) → InOneLevelPart l x y → InOnePart d n (child_number d n x) (child_number d n y)
  forth x y (stay _) = stay (child_number d n x)
  forth x y (go _ m _ s r) = go (child_number d n x) (child_number d n m) (child_number d n y) (step_there x m s) (forth m y r)

  back : (a b : ℕ) → InOnePart d n a b → InOneLevelPart l (place a) (place b)
  back a b (stay _) = stay (place a)
  back a b (go _ m _ s r) = go (place a) (place m) (place b) (step_here a m s) (back m b r)

  pub numbers_parts : NumbersParts d n written
  numbers_parts =
      record {
        same = λ a b ha hb.
            let both = drawn.numbered.same (place a) (place b) (place_in a ha) (place_in b hb) in (
              λ e. subst₂ (InOnePart d n) (found a ha) (found b hb) (forth (place a) (place b) (both.0 (sym (part_is a) ∙ e ∙ part_is b))),
              λ r. part_is a ∙ both.1 (back a b r) ∙ sym (part_is b),
            );
        in_order = λ a i ha less.
            let earlier = drawn.numbered.in_order (place a) i (place_in a ha) (subst (λ m. i < m) (part_is a) less) in
            let y = earlier.0 in
            let before = earlier.1 in
            let low = place_in a ha in
            let m = (numbers_match d n).children in
            let inside = child_here y (omega (arith, before, low)) in
            let b = child_number d n y in
            let at : place b ≡ y = m.place_at y inside in (
              b,
              m.meant y inside,
              elim (cases_lt b a) [
                | inl l ↦ l
                | inr most ↦ (let up = count_below-le (is_child d n) a b most in absurd (omega (arith, up, at, before)))
              ],
              part_is b ∙ ap (slice_index out.parts) at ∙ earlier.2,
            );
      }

  -- ---- shapes in the rectangles of their parts

  abbrev InRect : ℕ → Rect → Type 0
  InRect i r = (s : Rect) × (rotated o.direction r ≡ shifted by s) × Holds (drawn.rect i) s

  outline_there : (a : ℕ) → IsChild d n a → rotated o.direction (outline_of d p a) ≡ shifted by (drawn_outline l v (place a))
  outline_there a h = ap (framed d p o) (sym (found a h)) ∙ outlines_rotate_back d p n o v by rotated_back (place a) ((numbers_match d n).children.place_in a h)

  point_there : (e i : ℕ) → IsEdge d n e → i < point_count p e → (i < route_count v (place_of_edge d n e)) × (rotated o.direction (point_rect (point_at p e i)) ≡ shifted by (point_rect (route_point v (place_of_edge d n e) i)))
  point_there e i h less =
      let m = (numbers_match d n).edges in
      let j = place_of_edge d n e in
      let section : IsRotatedSection o.direction by (section_of p e) (section_at v j) = subst (λ f. IsRotatedSection o.direction by (section_of p f) (section_at v j)) (m.found e h) (rotated_back.sections j (m.place_in e h)) in
      let all = points_rotated o.direction by (section_of p e) (section_at v j) section in
      let many = sym (length-map (points_of (section_of p e)) (rotated_point o.direction)) ∙ ap length all ∙ length-map (points_of (section_at v j)) (plus by) in
      let inside : i < route_count v j = subst (λ n. i < n) many less in (
        inside,
        boxes.point o.direction (point_at p e i)
            ∙ ap point_rect (
            sym (get_or-map (rotated_point o.direction) (points_of (section_of p e)) i origin origin less)
            ∙ ap (λ ps. get_or ps i origin) all
            ∙ get_or-map (plus by) (points_of (section_at v j)) i origin origin inside),
      )

  key_is : (e : ℕ) → IsEdge d n e → slice_index (edge_keys l out.parts) (place_of_edge d n e) ≡ part_in d n written (source_node d e)
  key_is e h =
      edge_part l out.parts 0 level drawn.numbered (place_of_edge d n e) (edge_in e h) ∙ ap (slice_index out.parts) (source_is e h) ∙ sym (part_is (source_node d e))

  in_rect : (i : ℕ) → EachShapeOf d p n (λ a. part_in d n written a ≡ i) (InRect i)
  in_rect i =
      record {
        outlines = λ a h same. (
          drawn_outline l v (place a),
          outline_there a h,
          subst (λ k. Holds (drawn.rect k) (drawn_outline l v (place a))) (sym (part_is a) ∙ same) (drawn.outlines (place a) (place_in a h)),
        );
        points = λ e x h same less.
            let there = point_there e x h less in (
              point_rect (route_point v (place_of_edge d n e) x),
              there.1,
              subst (λ k. Holds (drawn.rect k) (point_rect (route_point v (place_of_edge d n e) x))) (key_is e h ∙ same) (drawn.points (place_of_edge d n e) x (edge_in e h) there.0),
            );
      }

  each_pair : (i j : ℕ) (Q : Rect → Rect → Type 0) → ((r s : Rect) → InRect i r → InRect j s → Q r s)
      → EachShapeOf d p n (λ a. part_in d n written a ≡ i) (λ r. EachShapeOf d p n (λ b. part_in d n written b ≡ j) (λ s. Q r s))
  each_pair i j Q all =
      record {
        outlines = λ a h same. record {
          outlines = λ b g one. all _ _ ((in_rect i).outlines a h same) ((in_rect j).outlines b g one);
          points = λ e x g one less. all _ _ ((in_rect i).outlines a h same) ((in_rect j).points e x g one less);
        };
        points = λ f y h same low. record {
          outlines = λ b g one. all _ _ ((in_rect i).points f y h same low) ((in_rect j).outlines b g one);
          points = λ e x g one less. all _ _ ((in_rect i).points f y h same low) ((in_rect j).points e x g one less);
        };
      }

  clear_parts : (i j : ℕ) → StandsClear o.component (drawn.rect i) (drawn.rect j)
      → (EachShapeOf d p n (λ a. part_in d n written a ≡ i) (λ r. EachShapeOf d p n (λ b. part_in d n written b ≡ j) (λ s. IsLeftBy o.component (rotated o.direction r) (rotated o.direction s))))
      ⊎ (EachShapeOf d p n (λ a. part_in d n written a ≡ i) (λ r. EachShapeOf d p n (λ b. part_in d n written b ≡ j) (λ s. IsAboveBy o.component (rotated o.direction r) (rotated o.direction s))))
  clear_parts i j clear =
      ⊎_elim
      (λ (left : IsLeftBy o.component (drawn.rect i) (drawn.rect j)). inl (each_pair i j (λ r s. IsLeftBy o.component (rotated o.direction r) (rotated o.direction s))
      (λ r s x y. left_within o.component by (drawn.rect i) (drawn.rect j) x.0 y.0 (rotated o.direction r) (rotated o.direction s) left x.2 y.2 x.1 y.1)))
      (λ (above : IsAboveBy o.component (drawn.rect i) (drawn.rect j)). inr (each_pair i j (λ r s. IsAboveBy o.component (rotated o.direction r) (rotated o.direction s))
      (λ r s x y. above_within o.component by (drawn.rect i) (drawn.rect j) x.0 y.0 (rotated o.direction r) (rotated o.direction s) above x.2 y.2 x.1 y.1)))
      clear

  pub parts_apart : (a b : ℕ) → IsChild d n a → IsChild d n b → part_in d n written a ≢ part_in d n written b → PartsApart d p n o written (part_in d n written a) (part_in d n written b)
  parts_apart a b ha hb differ =
      let i = part_in d n written a in
      let j = part_in d n written b in
      let other = λ (e : slice_index out.parts (place a) ≡ slice_index out.parts (place b)). differ (part_is a ∙ e ∙ sym (part_is b)) in
      let clear = drawn.clear (place a) (place b) (place_in a ha) (place_in b hb) other in
      ⊎_elim
      (λ first. inl (clear_parts i j (subst₂ (λ x y. StandsClear o.component (drawn.rect x) (drawn.rect y)) (sym (part_is a)) (sym (part_is b)) first)))
      (λ second. inr (clear_parts j i (subst₂ (λ x y. StandsClear o.component (drawn.rect x) (drawn.rect y)) (sym (part_is b)) (sym (part_is a)) second)))
      clear

  -- ---- layers within a part

  pub layers_apart : (a b : ℕ) → IsChild d n a → IsChild d n b → a ≢ b → part_in d n written a ≡ part_in d n written b → LayersApart d p n o written a b
  layers_apart a b ha hb differ one =
      let i = place a in
      let j = place b in
      let other : i ≢ j = λ same. differ (sym (found a ha) ∙ ap (child_number d n) same ∙ found b hb) in
      let k = drawn.children i j (place_in a ha) (place_in b hb) other (sym (part_is a) ∙ one ∙ part_is b) in
      let r = drawn_outline l v i in
      let s = drawn_outline l v j in
      let first = sym (outline_there a ha) in
      let second = sym (outline_there b hb) in
      let layer = λ (x : ℕ). ap (λ (xs : List ℕ). slice_index xs (place x)) layers_are in
      record {
        same_layer = λ e. ⊎_elim
            (λ (h : IsAboveBy o.spacing.node_node r s). inl (subst₂ (λ (x y : Rect). IsAboveBy o.spacing.node_node x y) first second (above_shifted o.spacing.node_node by r s h)))
            (λ (h : IsAboveBy o.spacing.node_node s r). inr (subst₂ (λ (x y : Rect). IsAboveBy o.spacing.node_node x y) second first (above_shifted o.spacing.node_node by s r h)))
            (k.same_layer (sym (layer a) ∙ e ∙ layer b));
        earlier_layer = λ e. subst₂ (λ (x y : Rect). IsLeftBy o.spacing.node_layers x y) first second
            (left_shifted o.spacing.node_layers by r s (k.earlier_layer (subst₂ (λ x y. x < y) (layer a) (layer b) e)));
      }
