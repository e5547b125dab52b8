-- A level that is laid out part by part keeps every rule.
use Rattle.std.proofs.Common.{◌≡◌, ◌⊎◌, inl, inr, ℕ, ◌<◌, ◌≤◌, List, [], length, get_or, slice_index, ℤ, pos, ◌≤ℤ◌, refl, sym, ap, ◌∙◌, subst, arith}
use Rattle.std.proofs.lemmas.Bool.{cases_lt}
use Rattle.std.proofs.lemmas.List.{length-map}
use Rattle.elk_doc.specs.declared.drawing.Certificate.{Certificate}
use Rattle.drawing_types.specs.declared.shape.Point.{Point}
use Rattle.drawing_types.specs.declared.section.Section.{Section}
use Rattle.box_pack.specs.Boxes.{point_at, size_at}
use Rattle.rotated_levels.specs.CertificateJoined.{AreCertificates}
use Rattle.rotated_levels.proofs.JoinedEdgeLemmas.{rotated_at}
use Rattle.rotated_levels.proofs.CertificateWholeLemmas.{certificates_join}
use Rattle.rotated_levels.specs.Joined.{AreDrawn, AreInRows, IsJoinedDrawing, IsWholeDrawing, moved_section, part_rect}
use Rattle.rotated_levels.proofs.PartLemmas.{by_child, in_part, ports_at, same_child, there}
use Rattle.rotated_levels.proofs.JoinedReachLemmas as reach
use Rattle.rotated_levels.proofs.JoinedWholeLemmas.{drawings_join}
use Rattle.box_pack.specs.Spaced.{AreSpaced}
use Rattle.rotated_levels.specs.Extents.{IsBounded}
use Rattle.rotated_levels.proofs.Bounded.{extents_bounded}
use Rattle.level_draw.specs.declared.drawing.LevelOut.{LevelOut}
use Rattle.level_draw.specs.Drawing.{IsDrawing, drawn_in, plan_from}
use Rattle.level_layout.specs.Certificate.{IsCertificateOf}
use Rattle.level_layout.specs.Layout.{IsLaidOut}
use Rattle.level_model.specs.declared.level.LevelIn.{LevelIn}
use Rattle.level_model.specs.Conditions.{plain_level}
use Rattle.level_model.specs.FromPlan.{LevelDrawing, point_or}
use Rattle.level_model.specs.Level.{Orders, PlainLevel, PlainPlan, child_at, holds}
use Rattle.port_order.specs.declared.children.Child.{Child}
use Rattle.level_model.specs.Ready.{IsReady}
use Rattle.network_parts.specs.Divided.{place_of}
use Rattle.level_parts.specs.Divided.{child_number, edge_keys, part_level}
use Rattle.level_parts.specs.Split.{part_in}
use Rattle.level_parts.proofs.SplitLemmas.{keys_below}
use Rattle.working_frame.specs.Drawing.{plus}
use Rattle.level_parts.proofs.LevelLemmas.{many_keys}
use Rattle.level_split.specs.declared.layout.PartsOut.{PartsOut}
use Rattle.level_split.specs.Gathered.{certificate_at, drawing_at, extents_of, no_drawing, section_in}
use Rattle.level_split.specs.Laws.{IsPartedDrawing, PartsAreDrawn}
use Rattle.level_split.specs.Parts.{IsPartsLayout, whole_drawing}
use Rattle.level_split.proofs.OutLemmas.{certificate_is, drawing_is, extent_is, out_at, pick}

no_plan : PlainPlan
no_plan =
    record { layers = 0; layered = record { layers = 0; units = []; links = []; node_node = pos 0; edge_node = pos 0; edge_edge = pos 0 }; rows = []; tops = []; reversed = [] }

no_orders : Orders
no_orders c side = []

module _ (level : LevelIn) (component : ℤ) (v : PartsOut) (laid : IsPartsLayout level component v) where
  abbrev pub l : PlainLevel
  l = plain_level level

  abbrev pub count : ℕ
  count = length v.outs

  abbrev pub out : (k : ℕ) → k < count → LevelOut
  out k h = out_at v.outs k h

  pub laid_at : (k : ℕ) (h : k < count) → IsLaidOut (part_in level v.parts k) (out k h)
  laid_at k h = laid.laid_out k (pick v.outs k h) h

  -- ---- what each part is drawn from, by its number; past the last part there is nothing

  abbrev pub Known : ℕ → Type 0
  Known k = (k < count) ⊎ (count ≤ k)

  pub plan_by : (k : ℕ) → Known k → PlainPlan
  plan_by k (inl h) = plan_from (out k h).certificate (out k h).plan.layered (out k h).plan.order (out k h).plan.lines
  plan_by k (inr m) = no_plan

  pub orders_by : (k : ℕ) → Known k → Orders
  orders_by k (inl h) = (laid_at k h).orders
  orders_by k (inr m) = no_orders

  pub own_by : (k : ℕ) → Known k → LevelDrawing
  own_by k (inl h) = drawn_in (out k h) (laid_at k h).drawn.left (laid_at k h).drawn.top
  own_by k (inr m) = no_drawing

  abbrev pub plans : ℕ → PlainPlan
  plans k = plan_by k (cases_lt k count)

  abbrev pub orders : ℕ → Orders
  orders k = orders_by k (cases_lt k count)

  abbrev pub own : ℕ → LevelDrawing
  own k = own_by k (cases_lt k count)

  abbrev pub layers : ℕ → List ℕ
  layers k = (certificate_at v.outs k).layers

  -- ---- certificates

  certificate_of : (k : ℕ) → k < count → IsCertificateOf (part_level l v.parts k) (certificate_at v.outs k)
  certificate_of k h = subst (IsCertificateOf (part_level l v.parts k)) (sym (certificate_is v.outs k h)) (laid_at k h).certificate

  certificates : AreCertificates l v.parts count (certificate_at v.outs)
  certificates = record { level = laid.sound; numbered = laid.numbered; counted = laid.counted; each = certificate_of }

  -- ---- drawings

  ready_by : (k : ℕ) (t : Known k) → k < count → IsReady (part_level l v.parts k) (plan_by k t) (orders_by k t) (layers k)
  unfolding plan_by orders_by
  ready_by k (inl h) less =
      subst (λ (c : Certificate). IsReady (part_level l v.parts k) (plan_by k (inl h)) (orders_by k (inl h)) c.layers) (sym (certificate_is v.outs k h)) (laid_at k h).ready
  ready_by k (inr m) less = absurd (omega (arith, m, less))

  drawing_by : (k : ℕ) (t : Known k) → k < count → IsDrawing (part_level l v.parts k) (plan_by k t) (layers k) (own_by k t)
  unfolding plan_by own_by
  drawing_by k (inl h) less =
      subst (λ (c : Certificate). IsDrawing (part_level l v.parts k) (plan_by k (inl h)) c.layers (own_by k (inl h))) (sym (certificate_is v.outs k h)) (laid_at k h).drawn.drawing
  drawing_by k (inr m) less = absurd (omega (arith, m, less))

  reversed_by : (k : ℕ) (t : Known k) → k < count → (plan_by k t).reversed ≡ (certificate_at v.outs k).reversed
  unfolding plan_by
  reversed_by k (inl h) less = ap (λ (c : Certificate). c.reversed) (sym (certificate_is v.outs k h))
  reversed_by k (inr m) less = absurd (omega (arith, m, less))

  pub are_drawn : AreDrawn l v.parts count plans orders layers own v.certificate.reversed
  are_drawn =
      record {
        level = laid.sound;
        numbered = laid.numbered;
        counted = laid.counted;
        ready = λ k h. ready_by k (cases_lt k count) h;
        drawing = λ k h. drawing_by k (cases_lt k count) h;
        is_reversed = λ k j h less. ap (λ (r : List ℕ). holds r j) (reversed_by k (cases_lt k count) h)
            ∙ sym (rotated_at l v.parts count (certificate_at v.outs) v.certificate certificates laid.certificate k j less);
      }

  pub bounded_by : (k : ℕ) (t : Known k) → k < count → IsBounded (part_level l v.parts k) (own_by k t)
  unfolding own_by
  bounded_by k (inl h) less = extents_bounded (part_in level v.parts k) (out k h) (laid_at k h).drawn.left (laid_at k h).drawn.top (laid_at k h)
  bounded_by k (inr m) less = absurd (omega (arith, m, less))

  -- a drawing is the same however far it was moved
  same_boxes : (k : ℕ) (t : Known k) → k < count → (drawing_at v.outs k).boxes ≡ (own_by k t).boxes
  unfolding own_by
  same_boxes k (inl h) less = ap (λ (d : LevelDrawing). d.boxes) (drawing_is v.outs k h)
  same_boxes k (inr m) less = absurd (omega (arith, m, less))

  same_ports : (k : ℕ) (t : Known k) → k < count → (drawing_at v.outs k).ports ≡ (own_by k t).ports
  unfolding own_by
  same_ports k (inl h) less = ap (λ (d : LevelDrawing). d.ports) (drawing_is v.outs k h)
  same_ports k (inr m) less = absurd (omega (arith, m, less))

  same_sections : (k : ℕ) (t : Known k) → k < count → (drawing_at v.outs k).sections ≡ (own_by k t).sections
  unfolding own_by
  same_sections k (inl h) less = ap (λ (d : LevelDrawing). d.sections) (drawing_is v.outs k h)
  same_sections k (inr m) less = absurd (omega (arith, m, less))

  pub same_extent : (k : ℕ) (t : Known k) → k < count → size_at (extents_of v.outs) k ≡ (own_by k t).extent
  unfolding own_by
  same_extent k (inl h) less = extent_is v.outs k h
  same_extent k (inr m) less = absurd (omega (arith, m, less))

  child_below : (c : ℕ) → c < length l.children → slice_index v.parts c < count
  child_below c h = laid.counted.below c (subst (λ n. c < n) (sym laid.numbered.as_many) h)

  key_below : (e : ℕ) → e < length l.edges → slice_index (edge_keys l v.parts) e < count
  key_below e h = keys_below l v.parts count laid.sound laid.numbered laid.counted e (subst (λ n. e < n) (sym (many_keys l v.parts 0 laid.sound laid.numbered)) h)

  pub joined : IsJoinedDrawing l v.parts (point_at v.at) own (whole_drawing v)
  joined =
      let d = laid.drawing in
      record {
        box_count = d.box_count;
        boxes = λ c h. let k = slice_index v.parts c in d.boxes c h ∙ ap (λ (bs : List Point). plus (point_at v.at k) (point_or bs (place_of v.parts c))) (same_boxes k (cases_lt k count) (child_below c h));
        port_lists = d.port_lists;
        ports = λ c h. let k = slice_index v.parts c in d.ports c h ∙ ap (λ (ps : List (List Point)). get_or ps (place_of v.parts c) []) (same_ports k (cases_lt k count) (child_below c h));
        section_count = d.section_count;
        sections = λ e h. let k = slice_index (edge_keys l v.parts) e in
            d.sections e h ∙ ap (λ (ss : List Section). moved_section (point_at v.at k) (section_in ss (place_of (edge_keys l v.parts) e))) (same_sections k (cases_lt k count) (key_below e h));
      }

  port_counts : (c : ℕ) → c < length l.children → length (get_or v.ports c []) ≡ length (child_at l c).ports
  port_counts =
      by_child l v.parts (point_at v.at) own (whole_drawing v) laid.sound laid.numbered joined (λ c. length (get_or v.ports c []) ≡ length (child_at l c).ports)
      (λ k i is h.
      let inside = in_part l v.parts (point_at v.at) own (whole_drawing v) laid.sound laid.numbered joined k i h in
      let less = subst (λ m. m < count) (sym is) (child_below (child_number v.parts k i) (there l v.parts (point_at v.at) own (whole_drawing v) laid.sound laid.numbered joined k i h)) in
      let drawn = (drawing_by k (cases_lt k count) less).from_plan (orders k) (ready_by k (cases_lt k count) less) in
      ap length (ports_at l v.parts (point_at v.at) own (whole_drawing v) laid.sound laid.numbered joined k i h)
      ∙ (drawn.children i inside).as_many
      ∙ ap (λ (x : Child). length x.ports) (same_child l v.parts (point_at v.at) own (whole_drawing v) laid.sound laid.numbered joined k i h))

  module _ (above : pos 1 ≤ℤ component) where
    pub in_rows : AreInRows count component laid.limit own (record { at = v.at; extent = v.extent })
    in_rows =
        record {
          sizes = extents_of v.outs;
          as_many = length-map v.outs (λ (x : LevelOut). x.extent);
          are = λ k h. same_extent k (cases_lt k count) h;
          gap_above = above;
          rows_are = laid.rows;
        }

    pub spaced : AreSpaced (extents_of v.outs) component (record { at = v.at; extent = v.extent })
    unfolding in_rows
    spaced = reach.spaced l v.parts count plans orders layers own v.certificate.reversed component laid.limit (record { at = v.at; extent = v.extent }) (whole_drawing v) are_drawn in_rows joined

    whole : IsWholeDrawing l v.parts count component (point_at v.at) layers own v.certificate.reversed (whole_drawing v)
    whole = drawings_join l v.parts count plans orders layers own v.certificate.reversed component laid.limit (record { at = v.at; extent = v.extent }) (whole_drawing v) are_drawn in_rows joined refl

    pub drawn : IsPartedDrawing l component v
    drawn =
        record {
          numbered = laid.numbered;
          rules = whole.rules;
          rect = part_rect (point_at v.at) own;
          outlines = whole.parts.outlines;
          points = whole.parts.points;
          clear = λ b c hb hc differ. whole.parts.clear (slice_index v.parts b) (slice_index v.parts c) (child_below b hb) (child_below c hc) differ;
          children = whole.parts.children v.certificate.layers laid.certificate.layers;
          ports = port_counts;
          proof = certificates_join l v.parts count (certificate_at v.outs) v.certificate certificates laid.certificate;
          parts = laid.certificate.parts;
        }

pub parts_are_drawn : PartsAreDrawn
parts_are_drawn level component v above laid = drawn level component v laid above
