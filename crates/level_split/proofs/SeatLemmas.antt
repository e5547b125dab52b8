-- Where children and edges are in the layouts of their parts, and that all of these lie within their parts.
use Rattle.std.proofs.Common.{◌≡◌, ℕ, suc, ◌+◌, ◌<◌, ◌≤◌, ◌^◌, List, [], ◌∷◌, ◌++◌, length, map, get_or, slice_index, ℤ, pos, ◌+ℤ◌, ◌≤ℤ◌, refl, sym, ap, ap₂, ◌∙◌, subst, subst₂, arith, inl, inr}
use Rattle.std.specs.List.{filter, range_with_len}
use Rattle.std.proofs.lemmas.Bool.{cases_lt}
use Rattle.std.proofs.lemmas.Int.{ints}
use Rattle.std.proofs.lemmas.List.{get_or_append_left, get_or_default, length-append, length-map}
use Rattle.std.proofs.Math.Seq.{get_or-append_seam}
use Rattle.elk_doc.specs.declared.drawing.Certificate.{Certificate}
use Rattle.drawing_types.specs.declared.section.Section.{Section}
use Rattle.drawing_types.specs.declared.shape.Point.{Point}
use Rattle.drawing_types.specs.Shapes.{origin}
use Rattle.elk_doc.specs.Drawing.{points_of}
use Rattle.elk_doc.specs.Sound.{IsDistance}
use Rattle.box_pack.specs.declared.packing.Rows.{Rows}
use Rattle.box_pack.specs.Packed.{AreRows}
use Rattle.box_pack.specs.Boxes.{AreSizes, EachSize, IsSize, point_at}
use Rattle.rotated_levels.specs.CertificateJoined as certificates
use Rattle.rotated_levels.specs.CertificateJoined.{AreCertificates, spans_to, rotates}
use Rattle.rotated_levels.proofs.ListLemmas.{filter_alike}
use Rattle.rotated_levels.proofs.CertificateWholeLemmas.{certificates_join}
use Rattle.rotated_levels.specs.Joined.{moved_section}
use Rattle.rotated_levels.proofs.PlanLemmas.{many_over, over_range}
use Rattle.rotated_levels.proofs.JoinedReachLemmas.{IsReached, LiesIn, at_lower, at_upper, box_held, lower, on_route, reached_has, tight_lies, upper}
use Rattle.rotated_levels.proofs.Bounded.{extents_small}
use Rattle.level_draw.specs.declared.drawing.LevelOut.{LevelOut}
use Rattle.level_draw.specs.Drawing.{drawn_in, plan_from}
use Rattle.level_layout.specs.Certificate.{IsCertificateOf, link_flows}
use Rattle.level_layout.proofs.FlowLemmas.{span_low}
use Rattle.level_layout.specs.Layout.{IsLaidOut}
use Rattle.level_model.specs.declared.level.LevelIn.{LevelIn}
use Rattle.level_model.specs.Conditions.{IsLevel, plain_level}
use Rattle.level_model.specs.FromPlan.{LevelDrawing, IsDrawnFrom, point_or, section_at}
use Rattle.level_model.specs.Level.{PlainLevel, child_at, holds}
use Rattle.plan_laws.specs.Routes.{route_count, route_point}
use Rattle.level_model.specs.Apart.{drawn_outline}
use Rattle.level_model.proofs.Lists.{below_has, has_at}
use Rattle.network_parts.specs.Divided.{place_of}
use Rattle.network_parts.specs.Dividing.{AreCounted}
use Rattle.network_parts.proofs.PlaceLemmas.{place_less}
use Rattle.level_parts.specs.declared.levels.PartLevels.{PartLevels}
use Rattle.level_parts.specs.Divided.{edge_keys, part_level}
use Rattle.level_parts.specs.Split.{IsSplit, part_at, part_in}
use Rattle.level_parts.proofs.LevelLemmas.{many_children, many_edges, many_keys}
use Rattle.level_parts.proofs.SplitLemmas.{keys_below}
use Rattle.rotated_levels.proofs.EdgeLemmas.{has_holds}
use Rattle.working_frame.specs.Drawing.{plus}
use Rattle.level_split.specs.declared.layout.Joined.{Joined}
use Rattle.level_split.specs.Gathered.{AreLayouts, ArePartDrawings, AreSeated, IsInPart, IsSectionInPart, certificate_at, drawing_at, extents_of}
use Rattle.level_split.specs.Parts.{IsPartsLayout}
use Rattle.level_split.specs.Steps.{CanCertify, IsCertificateIn, IsDrawingIn, IsStanding}
use Rattle.level_split.proofs.OutLemmas.{certificate_is, drawing_is, extent_is, out_at, pick}
use Rattle.level_split.proofs.RowLemmas.{part_place, part_size}

-- ---- what lies within a drawing with a tight extent

low_corner : (a b : ℤ) → pos 0 ≤ℤ a → a ≤ℤ b → pos 0 ≤ℤ b
low_corner a b h k = omega (arith, ints, h, k)

high_corner : (b s r w : ℤ) → (b +ℤ s) ≤ℤ r → pos 0 ≤ℤ s → r ≤ℤ w → w ≤ℤ pos (2 ^ 48) → b ≤ℤ pos (2 ^ 48)
high_corner b s r w h k m n = omega (arith, ints, h, k, m, n)

in_part : (w h : ℤ) (q : Point) → w ≤ℤ pos (2 ^ 48) → h ≤ℤ pos (2 ^ 48) → LiesIn w h q → IsInPart q
in_part w h q wide high lies = record { x = record { above = lies.left; below = up q.x w lies.right wide }; y = record { above = lies.top; below = up q.y h lies.bottom high } }
  where
    up : (a b : ℤ) → a ≤ℤ b → b ≤ℤ pos (2 ^ 48) → a ≤ℤ pos (2 ^ 48)
    up a b h k = omega (arith, ints, h, k)

-- a point behind the first one
later : (s : Section) (i : ℕ) → get_or (points_of s) (i + 1) origin ≡ get_or (s.bends ++ s.end ∷ []) i origin
later s i = let e : i + 1 ≡ suc i = omega arith in ap (λ m. get_or (points_of s) m origin) e

module _ (level : LevelIn) (v : LevelOut) (laid : IsLaidOut level v) where
  abbrev l : PlainLevel
  l = plain_level level

  abbrev d : LevelDrawing
  d = drawn_in v laid.drawn.left laid.drawn.top

  pub drawn : IsDrawnFrom l (plan_from v.certificate v.plan.layered v.plan.order v.plan.lines) laid.orders d
  drawn = laid.drawn.drawing.from_plan laid.orders laid.ready

  lies : (q : Point) → IsReached l d q → LiesIn v.extent.width v.extent.height q
  lies q r = tight_lies l d laid.drawn.drawing.tight q (reached_has l d q r)

  wide : v.extent.width ≤ℤ pos (2 ^ 48)
  wide = (extents_small level v laid).width.below

  high : v.extent.height ≤ℤ pos (2 ^ 48)
  high = (extents_small level v laid).height.below

  pub box_in : (i : ℕ) → i < length v.boxes → IsInPart (point_or v.boxes i)
  box_in i h =
      let many = drawn.box_count in
      let inside : i < length l.children = omega (arith, h, many) in
      let first = lies (upper (drawn_outline l d i)) (at_upper i inside refl) in
      let last = lies (lower (drawn_outline l d i)) (at_lower i inside refl) in
      let held = box_held l d i _ in
      let size = (laid.ready.level.children i inside).sound.size in
      record {
        x = record { above = low_corner _ _ first.left held.left; below = high_corner (point_or v.boxes i).x (child_at l i).size.width _ _ held.right size.width.above last.right wide };
        y = record { above = low_corner _ _ first.top held.top; below = high_corner (point_or v.boxes i).y (child_at l i).size.height _ _ held.bottom size.height.above last.bottom high };
      }

  point_in : (e i : ℕ) → e < length v.sections → i < route_count d e → IsInPart (route_point d e i)
  point_in e i h less = in_part v.extent.width v.extent.height (route_point d e i) wide high (lies (route_point d e i) (on_route e i h less refl))

  pub section_in_part : (e : ℕ) → e < length v.sections → IsSectionInPart (section_at d e)
  section_in_part e h =
      let s = section_at d e in
      let long = length-append s.bends (s.end ∷ []) in
      record {
        start = point_in e 0 h (omega arith);
        bends = λ i z less. subst IsInPart (later s i ∙ get_or_append_left s.bends (s.end ∷ []) origin i less ∙ get_or_default s.bends i origin z less) (point_in e (i + 1) h (omega (arith, less, long)));
        end = subst IsInPart (later s (length s.bends) ∙ get_or-append_seam s.bends s.end [] origin) (point_in e (length s.bends + 1) h (omega (arith, long)));
      }

-- ---- the parts of a level and their layouts

module _ (level : LevelIn) (split : PartLevels) (outs : List LevelOut) (sound : IsLevel (plain_level level)) (is : IsSplit level split) (laid : AreLayouts split.parts (length split.parts) outs) where
  abbrev whole : PlainLevel
  whole = plain_level level

  abbrev numbers : List ℕ
  numbers = split.children.parts

  abbrev keys : List ℕ
  keys = edge_keys whole numbers

  abbrev count : ℕ
  count = length outs

  abbrev part : ℕ → PlainLevel
  part k = part_level whole numbers k

  pub counted : AreCounted numbers (length numbers) count
  counted = subst (AreCounted numbers (length numbers)) (sym laid.as_many) is.count

  in_parts : (k : ℕ) → k < count → k < length split.parts
  in_parts k h = subst (λ n. k < n) laid.as_many h

  pub laid_out : (k : ℕ) (v : LevelOut) → k < count → IsLaidOut (part_in level numbers k) (get_or outs k v)
  laid_out k v h = subst (λ (x : LevelIn). IsLaidOut x (get_or outs k v)) (is.parts.each k (in_parts k h)).level_is (laid.each k v (in_parts k h))

  laid_at : (k : ℕ) (h : k < count) → IsLaidOut (part_in level numbers k) (out_at outs k h)
  laid_at k h = laid_out k (pick outs k h) h

  -- ---- seats

  child_in : (c : ℕ) → c < length numbers → c < length whole.children
  child_in c h = subst (λ n. c < n) is.numbers.as_many h

  pub child_place : (c : ℕ) → c < length numbers → slice_index split.children.places c ≡ place_of numbers c
  child_place c h = is.children.places.each c h

  child_seats : (many : ℕ → ℕ) → ((k : ℕ) → k < count → many k ≡ length (part k).children) → AreSeated split.children.parts split.children.places count many
  child_seats many same =
      record {
        as_many = is.children.places.as_many;
        part = counted.below;
        place = λ c h. let k = slice_index numbers c in
            subst₂ (λ a b. a < b) (sym (child_place c h)) (sym (same k (counted.below c h) ∙ many_children whole numbers k sound is.numbers)) (place_less numbers k c h refl);
      }

  keys_are : split.edges.parts ≡ keys
  keys_are = is.edges.parts

  keys_long : length keys ≡ length whole.edges
  keys_long = many_keys whole numbers 0 sound is.numbers

  key_below : (e : ℕ) → e < length keys → slice_index keys e < count
  key_below e h = keys_below whole numbers count sound is.numbers counted e h

  edge_place : (e : ℕ) → e < length keys → slice_index split.edges.places e ≡ place_of keys e
  edge_place e h = is.edges.places.each e h

  edge_seats : (many : ℕ → ℕ) → ((k : ℕ) → k < count → many k ≡ length (part k).edges) → AreSeated split.edges.parts split.edges.places count many
  edge_seats many same =
      subst (λ (ks : List ℕ). AreSeated ks split.edges.places count many) (sym keys_are)
      (record {
        as_many = is.edges.places.as_many;
        part = key_below;
        place = λ e h. let k = slice_index keys e in
            subst₂ (λ a b. a < b) (sym (edge_place e h)) (sym (same k (key_below e h) ∙ many_edges whole numbers k sound is.numbers)) (place_less keys k e h refl);
      })

  -- ---- how much each part has

  boxes_many : (k : ℕ) → k < count → length (drawing_at outs k).boxes ≡ length (part k).children
  boxes_many k h = ap (λ (d : LevelDrawing). length d.boxes) (drawing_is outs k h) ∙ (drawn (part_in level numbers k) (out_at outs k h) (laid_at k h)).box_count

  ports_many : (k : ℕ) → k < count → length (drawing_at outs k).ports ≡ length (part k).children
  ports_many k h = ap (λ (d : LevelDrawing). length d.ports) (drawing_is outs k h) ∙ (drawn (part_in level numbers k) (out_at outs k h) (laid_at k h)).port_lists

  sections_many : (k : ℕ) → k < count → length (drawing_at outs k).sections ≡ length (part k).edges
  sections_many k h = ap (λ (d : LevelDrawing). length d.sections) (drawing_is outs k h) ∙ (drawn (part_in level numbers k) (out_at outs k h) (laid_at k h)).section_count

  certificate_of : (k : ℕ) → k < count → IsCertificateOf (part k) (certificate_at outs k)
  certificate_of k h = subst (IsCertificateOf (part k)) (sym (certificate_is outs k h)) (laid_at k h).certificate

  part_edges : (k : ℕ) → k < count → length (part_at split.parts k).edges ≡ length (part k).edges
  part_edges k h = ap length (is.parts.each k (in_parts k h)).edges ∙ sym (many_edges whole numbers k sound is.numbers)

  pub box_seats : AreSeated split.children.parts split.children.places count (λ k. length (drawing_at outs k).boxes)
  box_seats = child_seats (λ k. length (drawing_at outs k).boxes) boxes_many

  pub port_seats : AreSeated split.children.parts split.children.places count (λ k. length (drawing_at outs k).ports)
  port_seats = child_seats (λ k. length (drawing_at outs k).ports) ports_many

  pub section_seats : AreSeated split.edges.parts split.edges.places count (λ k. length (drawing_at outs k).sections)
  section_seats = edge_seats (λ k. length (drawing_at outs k).sections) sections_many

  -- ---- sizes

  pub few_parts : count ≤ 2048
  few_parts = let few = parts_few in let all = sound.few_children in omega (arith, few, all)
    where
      parts_few : count ≤ length whole.children
      parts_few =
          elim (cases_lt 0 count) [
            | inl some ↦
                (let found = counted.last some in
                let last = found.2 in
                let low = is.numbers.below found.0 (child_in found.0 found.1) in
                omega (arith, last, low))
            | inr none ↦ omega (arith, none)
          ]

  sizes_long : length (extents_of outs) ≡ count
  sizes_long = length-map outs (λ (v : LevelOut). v.extent)

  pub each_size : EachSize (extents_of outs)
  each_size k h =
      let less : k < count = subst (λ n. k < n) sizes_long h in
      subst IsSize (sym (extent_is outs k less)) (part_size (part_in level numbers k) (out_at outs k less) (laid_at k less))

  pub sizes : AreSizes (extents_of outs)
  sizes k z h = subst IsSize (get_or_default (extents_of outs) k _ z h) (each_size k h)

  -- ---- drawings

  pub part_drawings : (component limit : ℤ) (rows : Rows) → IsDistance component → AreRows (extents_of outs) component limit rows → ArePartDrawings outs rows.at
  part_drawings component limit rows apart packed =
      let many = sizes_long in
      let few = few_parts in
      record {
        as_many = packed.places.count ∙ many;
        places = λ k h. part_place (extents_of outs) component limit rows (omega (arith, many, few)) each_size apart packed k (omega (arith, h, many));
        boxes = λ k i h less.
            let same = drawing_is outs k h in
            let inside = subst (λ (d : LevelDrawing). i < length d.boxes) same less in
            subst (λ (d : LevelDrawing). IsInPart (point_or d.boxes i)) (sym same) (box_in (part_in level numbers k) (out_at outs k h) (laid_at k h) i inside);
        sections = λ k i h less.
            let same = drawing_is outs k h in
            let inside = subst (λ (d : LevelDrawing). i < length d.sections) same less in
            subst (λ (d : LevelDrawing). IsSectionInPart (section_at d i)) (sym same) (section_in_part (part_in level numbers k) (out_at outs k h) (laid_at k h) i inside);
      }

  -- ---- certificates

  certificates_are : AreCertificates whole numbers count (certificate_at outs)
  certificates_are = record { level = sound; numbered = is.numbers; counted = counted; each = certificate_of }

  -- the certificate of the whole
  made : Certificate
  made =
      record {
        layers = map (λ a. slice_index (certificate_at outs (slice_index numbers a)).layers (place_of numbers a)) (range_with_len 0 (length whole.children));
        reversed = filter (rotates whole numbers (certificate_at outs)) (range_with_len 0 (length whole.edges));
        flow = map (λ e. slice_index (certificate_at outs (slice_index keys e)).flow (place_of keys e)) (range_with_len 0 (length whole.edges));
        span = spans_to (certificate_at outs) count;
        parts = numbers;
      }

  made_joined : certificates.IsJoinedCertificate whole numbers count (certificate_at outs) made
  unfolding made
  made_joined =
      record {
        layer_for_each = many_over (λ a. slice_index (certificate_at outs (slice_index numbers a)).layers (place_of numbers a)) (length whole.children);
        layers = λ a h. over_range (λ a. slice_index (certificate_at outs (slice_index numbers a)).layers (place_of numbers a)) (length whole.children) a 0 h;
        flow_for_each = many_over (λ e. slice_index (certificate_at outs (slice_index keys e)).flow (place_of keys e)) (length whole.edges);
        flow = λ e h. over_range (λ e. slice_index (certificate_at outs (slice_index keys e)).flow (place_of keys e)) (length whole.edges) e 0 h;
        reversed = refl;
        span = refl;
        parts = refl;
      }

  spans : spans_to (certificate_at outs) count < 2 ^ 64
  unfolding made
  spans = span_low whole made.reversed (map pos made.layers) (link_flows whole made.flow) made.span sound (certificates_join whole numbers count (certificate_at outs) made certificates_are made_joined).solves

  pub can_certify : CanCertify split outs
  can_certify =
      record {
        as_many = laid.as_many;
        few = let all = sound.few_edges in let long = ap length keys_are ∙ keys_long in omega (arith, all, long);
        layers = child_seats (λ k. length (certificate_at outs k).layers) (λ k h. (certificate_of k h).layer_for_each);
        flow = edge_seats (λ k. length (certificate_at outs k).flow) (λ k h. (certificate_of k h).flow_for_each);
        edges = edge_seats (λ k. length (part_at split.parts k).edges) part_edges;
        listed = λ k i h less.
            let listed = (certificate_at outs k).reversed in
            let closes = (certificate_of k h).reversed.closes (slice_index listed i) (has_holds listed (slice_index listed i) (has_at listed i 0 less)) in
            let there = closes.of_level in
            let same = part_edges k h in
            omega (arith, there, same);
        spans = spans;
      }

  -- ---- the whole

  pub parts_layout : (component : ℤ) (rows : Rows) (v : Joined) (c : Certificate) → IsStanding outs component rows → IsDrawingIn split outs rows.at v → IsCertificateIn split outs c
      → IsPartsLayout level component (record { parts = split.children.parts; outs = outs; at = rows.at; boxes = v.boxes.items; ports = v.ports.items; sections = v.sections.items; certificate = c; extent = rows.extent })
  parts_layout component rows v c standing drawing certificate =
      let long = is.numbers.as_many in
      let edges_long = ap length keys_are ∙ keys_long in
      let in_children = λ (a : ℕ) (h : a < length whole.children). subst (λ n. a < n) (sym long) h in
      let in_keys = λ (e : ℕ) (h : e < length whole.edges). subst (λ n. e < n) (sym keys_long) h in
      let in_edges = λ (e : ℕ) (h : e < length whole.edges). subst (λ n. e < n) (sym edges_long) h in
      record {
        sound = sound;
        numbered = is.numbers;
        counted = counted;
        laid_out = laid_out;
        limit = standing.limit;
        is_limit = standing.is_limit;
        rows = standing.rows_are;
        drawing = record {
          box_count = drawing.boxes.as_many ∙ long;
          boxes = λ a h. drawing.boxes.each a (in_children a h)
              ∙ ap (λ x. plus (point_at rows.at (slice_index numbers a)) (point_or (drawing_at outs (slice_index numbers a)).boxes x)) (child_place a (in_children a h));
          port_lists = drawing.ports.as_many ∙ long;
          ports = λ a h. drawing.ports.each a (in_children a h) ∙ ap (λ x. get_or (drawing_at outs (slice_index numbers a)).ports x []) (child_place a (in_children a h));
          section_count = drawing.sections.as_many ∙ edges_long;
          sections = λ e h. drawing.sections.each e (in_edges e h)
              ∙ ap₂ (λ k x. moved_section (point_at rows.at k) (section_at (drawing_at outs k) x)) (ap (λ (ks : List ℕ). slice_index ks e) keys_are) (edge_place e (in_keys e h));
        };
        certificate = record {
          layer_for_each = certificate.layers.as_many ∙ long;
          layers = λ a h. certificate.layers.each a (in_children a h) ∙ ap (λ x. slice_index (certificate_at outs (slice_index numbers a)).layers x) (child_place a (in_children a h));
          flow_for_each = certificate.flow.as_many ∙ edges_long;
          flow = λ e h. certificate.flow.each e (in_edges e h)
              ∙ ap₂ (λ k x. slice_index (certificate_at outs k).flow x) (ap (λ (ks : List ℕ). slice_index ks e) keys_are) (edge_place e (in_keys e h));
          reversed = certificate.reversed
              ∙ ap (λ n. filter (λ e. holds (certificate_at outs (slice_index split.edges.parts e)).reversed (slice_index split.edges.places e)) (range_with_len 0 n)) edges_long
              ∙ filter_alike (λ e. holds (certificate_at outs (slice_index split.edges.parts e)).reversed (slice_index split.edges.places e)) (rotates whole numbers (certificate_at outs)) (range_with_len 0 (length whole.edges))
              (λ e has. let h = below_has (length whole.edges) e has in
              ap₂ (λ k x. holds (certificate_at outs k).reversed x) (ap (λ (ks : List ℕ). slice_index ks e) keys_are) (edge_place e (in_keys e h)));
          span = certificate.span;
          parts = certificate.parts;
        };
      }

-- the same, where lists are given by equal ones
pub given : (level : LevelIn) (component : ℤ) (numbers : List ℕ) (outs : List LevelOut) (rows : Rows) (v : Joined) (c : Certificate) (os : List LevelOut) (boxes : List Point) (ports : List (List Point)) (sections : List Section)
    → os ≡ outs → boxes ≡ v.boxes.items → ports ≡ v.ports.items → sections ≡ v.sections.items
    → IsPartsLayout level component (record { parts = numbers; outs = outs; at = rows.at; boxes = v.boxes.items; ports = v.ports.items; sections = v.sections.items; certificate = c; extent = rows.extent })
    → IsPartsLayout level component (record { parts = numbers; outs = os; at = rows.at; boxes = boxes; ports = ports; sections = sections; certificate = c; extent = rows.extent })
given level component numbers outs rows v c os boxes ports sections same_outs same_boxes same_ports same_sections laid =
    subst (λ (xs : List LevelOut). IsPartsLayout level component (record { parts = numbers; outs = xs; at = rows.at; boxes = boxes; ports = ports; sections = sections; certificate = c; extent = rows.extent })) (sym same_outs)
    (subst (λ (xs : List Point). IsPartsLayout level component (record { parts = numbers; outs = outs; at = rows.at; boxes = xs; ports = ports; sections = sections; certificate = c; extent = rows.extent })) (sym same_boxes)
    (subst (λ (xs : List (List Point)). IsPartsLayout level component (record { parts = numbers; outs = outs; at = rows.at; boxes = v.boxes.items; ports = xs; sections = sections; certificate = c; extent = rows.extent })) (sym same_ports)
    (subst (λ (xs : List Section). IsPartsLayout level component (record { parts = numbers; outs = outs; at = rows.at; boxes = v.boxes.items; ports = v.ports.items; sections = xs; certificate = c; extent = rows.extent })) (sym same_sections) laid)))
