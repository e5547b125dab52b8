-- Each outline and each point of a route in the document is a shape of the level's drawing, rotated back and moved.
use Rattle.std.proofs.Common.{◌≡◌, ℕ, ◌<◌, inl, inr, ⊎_elim, List, [], ◌∷◌, ◌++◌, map, length, get_or, ℤ, pos, ◌+ℤ◌, ◌-ℤ◌, ◌≤ℤ◌, refl, sym, ap, ap₂, ◌∙◌, subst, arith}
use Rattle.std.specs.List.{range_with_len}
use Rattle.std.specs.Int.{int_min, int_max}
use Rattle.std.proofs.lemmas.Int.{ints, clamps}
use Rattle.std.proofs.lemmas.List.{get_or-map, length-map, map_push}
use Rattle.drawing_types.specs.declared.shape.Point.{Point}
use Rattle.drawing_types.specs.declared.shape.Size.{Size}
use Rattle.drawing_types.specs.declared.shape.Rect.{Rect}
use Rattle.elk_doc.specs.declared.document.Direction.{Direction}
use Rattle.elk_doc.specs.declared.document.Direction.TheVariants.{Right, Left, Down, Up}
use Rattle.elk_doc.specs.declared.document.LevelOptions.{LevelOptions}
use Rattle.drawing_types.specs.declared.section.Section.{Section}
use Rattle.elk_doc.specs.declared.drawing.Placed.{Placed}
use Rattle.elk_doc.specs.Document.{Document}
use Rattle.drawing_types.specs.Shapes.{origin}
use Rattle.elk_doc.specs.Level.{children, edges_of, IsChild, IsEdge, place_of_child, place_of_edge}
use Rattle.elk_doc.specs.Shapes.{rotated}
use Rattle.drawing_types.specs.Shapes.{hull_size, point_rect}
use Rattle.elk_doc.specs.Drawing.{box_of, section_of, point_at, point_count, points_of}
use Rattle.elk_doc.specs.Places.{outline_of}
use Rattle.elk_doc.specs.Content.{EachShape, SomeShape}
use Rattle.elk_doc.specs.Fits.{IsSolid}
use Rattle.working_frame.specs.Reach.{points_along, points_of as all_points}
use Rattle.drawing_laws.specs.Rotating.{rotated_point}
use Rattle.drawing_laws.proofs.RotatingLaws.{boxes}
use Rattle.level_model.specs.Level.{PlainLevel, child_at}
use Rattle.level_model.specs.FromPlan.{LevelDrawing, section_at}
use Rattle.level_model.specs.Apart.{drawn_box, drawn_outline}
use Rattle.level_model.proofs.Lists.{Has, has_map, map_has, has_left, has_right, append_has, has_at, at_has, has_range, below_has}
use Rattle.working_frame.specs.Rotated.{child_number, edge_number, box_size, rotated_size, level_of}
use Rattle.working_frame.specs.Drawing.{IsRotatedDrawing, IsRotatedSection, plus}
use Rattle.working_frame.proofs.NumberedLemmas.{numbers_match, levels_are_listed}
use Rattle.rotated_levels.specs.Outlines.{shifted}
use Rattle.rotated_levels.proofs.HullLemmas.{hulls}
use Rattle.rotated_levels.proofs.OutlineLemmas.{drawn_listed, drawn_port_box, outlines_rotate_back}
use Rattle.rotated_levels.proofs.ReachLemmas.{IsShape}

-- ---- points of routes

section_back : (way : Direction) (by : Point) (w v : Section) → IsRotatedSection way by w v → map (rotated_point way) (points_of w) ≡ map (plus by) (points_along v)
section_back way by w v t =
    ap₂ (λ a xs. a ∷ xs) t.start
    (map_push (rotated_point way) w.bends w.end ∙ ap₂ (λ xs y. xs ++ y ∷ []) t.bends t.end ∙ sym (map_push (plus by) v.bends v.end))

point_count_back : (way : Direction) (by : Point) (w v : Section) → IsRotatedSection way by w v → length (points_of w) ≡ length (points_along v)
point_count_back way by w v t =
    sym (length-map (points_of w) (rotated_point way)) ∙ ap length (section_back way by w v t) ∙ length-map (points_along v) (plus by)

-- a point of a route comes back as that of the drawing's section
point_back : (way : Direction) (by : Point) (w v : Section) → IsRotatedSection way by w v → (i : ℕ) → i < length (points_of w)
    → rotated way (point_rect (get_or (points_of w) i origin)) ≡ shifted by (point_rect (get_or (points_along v) i origin))
point_back way by w v t i h =
    let k : i < length (points_along v) = subst (λ m. i < m) (point_count_back way by w v t) h in
    boxes.point way (get_or (points_of w) i origin)
    ∙ ap point_rect (
    sym (get_or-map (rotated_point way) (points_of w) i origin origin h)
    ∙ ap (λ xs. get_or xs i origin) (section_back way by w v t)
    ∙ get_or-map (plus by) (points_along v) i origin origin k)

along_has : (ss : List Section) (s : Section) (q : Point) → Has ss s → Has (points_along s) q → Has (all_points ss) q
unfolding all_points
along_has [] s q h k = absurd h
along_has (t ∷ ss) s q h k =
    ⊎_elim
    (λ e. has_left (points_along t) (all_points ss) q (subst (λ x. Has (points_along x) q) (sym e) k))
    (λ rest. has_right (points_along t) (all_points ss) q (along_has ss s q rest k))
    h

has_along : (ss : List Section) (q : Point) → Has (all_points ss) q → (s : Section) × Has ss s × Has (points_along s) q
unfolding all_points
has_along [] q h = absurd h
has_along (t ∷ ss) q h =
    ⊎_elim
    (λ k. (t, inl refl, k))
    (λ rest. let r = has_along ss q rest in (r.0, inr r.1, r.2))
    (append_has (points_along t) (all_points ss) q h)

-- ---- outlines have no negative sizes

wide : (a s b t : ℤ) → pos 0 ≤ℤ s → pos 0 ≤ℤ hull_size a s b t
wide a s b t h = far a (a +ℤ s) b (b +ℤ t) s refl h
  where
    far : (a p b q s : ℤ) → p ≡ a +ℤ s → pos 0 ≤ℤ s → pos 0 ≤ℤ (int_max p q -ℤ int_min a b)
    far a p b q s e h = omega (arith, ints, clamps)

pub hulls_solid : (r : Rect) (f : ℕ → Rect) (ks : List ℕ) → IsSolid r → IsSolid (hulls r f ks)
unfolding hulls
hulls_solid r f [] h = h
hulls_solid r f (k ∷ ks) h =
    let rest = hulls_solid r f ks h in
    record {
      width = wide (hulls r f ks).x (hulls r f ks).width (f k).x (f k).width rest.width;
      height = wide (hulls r f ks).y (hulls r f ks).height (f k).y (f k).height rest.height;
    }

rotated_solid : (way : Direction) (s : Size) → pos 0 ≤ℤ s.width → pos 0 ≤ℤ s.height → (pos 0 ≤ℤ (rotated_size way s).width) × (pos 0 ≤ℤ (rotated_size way s).height)
rotated_solid Right s w h = (w, h)
rotated_solid Left s w h = (w, h)
rotated_solid Down s w h = (h, w)
rotated_solid Up s w h = (h, w)

-- the outlines of a level's drawing
abbrev pub outlines_in : PlainLevel → LevelDrawing → List Rect
outlines_in l v = map (drawn_outline l v) (range_with_len 0 (length l.children))

module _ (d : Document) (p : Placed) (n : ℕ) (o : LevelOptions) (v : LevelDrawing) (by : Point) (t : IsRotatedDrawing d p n o.direction v by)
    (sections : length v.sections ≡ length (edges_of d n)) where
  -- a shape of the level's drawing
  abbrev pub Shape : Rect → Type 0
  Shape s = IsShape (outlines_in (level_of d p n o) v) v.sections s

  pub outline_shape : (i : ℕ) → i < length (children d n) → Shape (drawn_outline (level_of d p n o) v i)
  outline_shape i h =
      let l = level_of d p n o in
      let inside : i < length l.children = subst (λ m. i < m) (sym (levels_are_listed d p n o).child_count) h in
      inl (has_map (drawn_outline l v) (range_with_len 0 (length l.children)) i (has_range 0 (length l.children) i (omega arith) (omega (arith, inside))))

  outline_of_shape : (s : Rect) → Has (outlines_in (level_of d p n o) v) s → (i : ℕ) × (i < length (children d n)) × (drawn_outline (level_of d p n o) v i ≡ s)
  outline_of_shape s h =
      let l = level_of d p n o in
      let k = map_has (drawn_outline l v) (range_with_len 0 (length l.children)) s h in
      (k.0, subst (λ m. k.0 < m) (levels_are_listed d p n o).child_count (below_has (length l.children) k.0 k.1), k.2)

  -- outlines of children come back
  child_back : (c : ℕ) → IsChild d n c → rotated o.direction (outline_of d p c) ≡ shifted by (drawn_outline (level_of d p n o) v (place_of_child d n c))
  child_back c h =
      let m = (numbers_match d n).children in
      ap (λ a. rotated o.direction (outline_of d p a)) (sym (m.found c h)) ∙ outlines_rotate_back d p n o v by t (place_of_child d n c) (m.place_in c h)

  edge_back : (e : ℕ) → IsEdge d n e → IsRotatedSection o.direction by (section_of p e) (section_at v (place_of_edge d n e))
  edge_back e h =
      let m = (numbers_match d n).edges in
      subst (λ f. IsRotatedSection o.direction by (section_of p f) (section_at v (place_of_edge d n e))) (m.found e h) (t.sections (place_of_edge d n e) (m.place_in e h))

  no_points : Section
  no_points = record { start = record { x = pos 0; y = pos 0 }; bends = []; end = record { x = pos 0; y = pos 0 } }

  -- what holds of all that comes back from a shape holds of each shape in the document
  pub each_back : (Q : Rect → Type 0) → ((r s : Rect) → Shape s → rotated o.direction r ≡ shifted by s → Q r) → EachShape d p n Q
  each_back Q all =
      record {
        outlines = λ c h _. all (outline_of d p c) (drawn_outline (level_of d p n o) v (place_of_child d n c))
            (outline_shape (place_of_child d n c) ((numbers_match d n).children.place_in c h)) (child_back c h);
        points = λ e i h _ k.
            let j = place_of_edge d n e in
            let x = edge_back e h in
            let q = get_or (points_along (section_at v j)) i origin in
            let inside : i < length (points_along (section_at v j)) = subst (λ m. i < m) (point_count_back o.direction by (section_of p e) (section_at v j) x) k in
            let there : j < length v.sections = subst (λ m. j < m) (sym sections) ((numbers_match d n).edges.place_in e h) in
            all (point_rect (point_at p e i)) (point_rect q)
            (inr (q, along_has v.sections (section_at v j) q (has_at v.sections j _ there) (has_at (points_along (section_at v j)) i origin inside), refl))
            (point_back o.direction by (section_of p e) (section_at v j) x i k);
      }

  -- a shape of the drawing comes back as some shape in the document
  pub some_back : (Q : Rect → Type 0) (s : Rect) → Shape s → ((r : Rect) → rotated o.direction r ≡ shifted by s → Q r) → SomeShape d p n Q
  some_back Q s (inl h) all =
      let k = outline_of_shape s h in
      let c = child_number d n k.0 in
      inl (c, (numbers_match d n).children.meant k.0 k.1, all (outline_of d p c) (outlines_rotate_back d p n o v by t k.0 k.1 ∙ ap (shifted by) k.2))
  some_back Q s (inr (q, h, e)) all =
      let a = has_along v.sections q h in
      let j = at_has v.sections _ a.0 a.1 in
      let inside : j.0 < length (edges_of d n) = subst (λ m. j.0 < m) sections j.1 in
      let f = edge_number d n j.0 in
      let x = t.sections j.0 inside in
      let i = at_has (points_along (section_at v j.0)) origin q (subst (λ z. Has (points_along z) q) (sym j.2) a.2) in
      let k : i.0 < point_count p f = subst (λ m. i.0 < m) (sym (point_count_back o.direction by (section_of p f) (section_at v j.0) x)) i.1 in
      inr (
        f,
        i.0,
        (numbers_match d n).edges.meant j.0 inside,
        k,
        all (point_rect (point_at p f i.0)) (point_back o.direction by (section_of p f) (section_at v j.0) x i.0 k ∙ ap (λ z. shifted by (point_rect z)) i.2 ∙ ap (shifted by) (sym e)),
      )

  -- a shape in the document comes from one of the drawing
  pub some_shape : (Q : Rect → Type 0) → SomeShape d p n Q → (r s : Rect) × Shape s × (rotated o.direction r ≡ shifted by s) × Q r
  some_shape Q (inl (c, h, q)) = (
    outline_of d p c,
    drawn_outline (level_of d p n o) v (place_of_child d n c),
    outline_shape (place_of_child d n c) ((numbers_match d n).children.place_in c h),
    child_back c h,
    q,
  )
  some_shape Q (inr (e, i, h, k, q)) =
      let found = (each_back (λ r. (s : Rect) × Shape s × (rotated o.direction r ≡ shifted by s)) (λ r s x y. (s, x, y))).points e i h tt k in
      (point_rect (point_at p e i), found.0, found.1, found.2, q)

  -- shapes have no negative sizes
  pub shapes_solid : ((c : ℕ) → IsChild d n c → IsSolid (box_of p c)) → (s : Rect) → Shape s → (pos 0 ≤ℤ s.width) × (pos 0 ≤ℤ s.height)
  shapes_solid boxes_solid s (inl h) =
      let l = level_of d p n o in
      let k = outline_of_shape s h in
      let c = child_number d n k.0 in
      let b = boxes_solid c ((numbers_match d n).children.meant k.0 k.1) in
      let size : (child_at l k.0).size ≡ rotated_size o.direction (box_size p c) = ap (λ x. x.size) ((levels_are_listed d p n o).child k.0 k.1) in
      let z = rotated_solid o.direction (box_size p c) b.width b.height in
      let own : IsSolid (drawn_box l v k.0) = record { width = subst (λ x. pos 0 ≤ℤ x.width) (sym size) z.0; height = subst (λ x. pos 0 ≤ℤ x.height) (sym size) z.1 } in
      let whole = hulls_solid (drawn_box l v k.0) (drawn_port_box l v k.0) (range_with_len 0 (length (child_at l k.0).ports)) own in
      let is : hulls (drawn_box l v k.0) (drawn_port_box l v k.0) (range_with_len 0 (length (child_at l k.0).ports)) ≡ s = sym (drawn_listed l v k.0 (range_with_len 0 (length (child_at l k.0).ports))) ∙ k.2 in
      (subst (λ r. pos 0 ≤ℤ r.width) is whole.width, subst (λ r. pos 0 ≤ℤ r.height) is whole.height)
  shapes_solid boxes_solid s (inr (q, h, e)) =
      (subst (λ r. pos 0 ≤ℤ r.width) (sym e) (omega (arith, ints)), subst (λ r. pos 0 ≤ℤ r.height) (sym e) (omega (arith, ints)))
