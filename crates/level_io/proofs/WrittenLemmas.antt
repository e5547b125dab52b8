-- A level that is written is drawn as in its own drawing, and all other levels as before.
use Rattle.std.proofs.Common.{◌≡◌, ◌≢◌, ⊎_elim, ℕ, ◌<◌, List, [], ℤ, length, get_or, set, Some, None, refl, sym, ap, ◌∙◌, subst}
use Rattle.std.proofs.lemmas.List.{get_or-set_same, get_or-set_other, length-set}
use Rattle.drawing_types.specs.declared.shape.Point.{Point}
use Rattle.elk_doc.specs.declared.document.LevelOptions.{LevelOptions}
use Rattle.drawing_types.specs.declared.section.Section.{Section}
use Rattle.elk_doc.specs.declared.drawing.Placed.{Placed}
use Rattle.elk_doc.specs.Document.{Document, port_at}
use Rattle.elk_doc.specs.Level.{children, edges_of, IsChild, IsEdge}
use Rattle.elk_doc.specs.Drawing.{box_of, no_rect, no_section, section_of}
use Rattle.elk_doc.specs.Shapes.{rotated}
use Rattle.drawing_types.specs.Shapes.{rect_at}
use Rattle.route_lines.specs.Points.{PlainGap}
use Rattle.level_model.specs.FromPlan.{PlainTrace, point_or, section_at}
use Rattle.working_frame.specs.Rotated.{box_size, child_number, edge_number, port_number, rotated_place, rotated_size}
use Rattle.working_frame.specs.Drawing.{IsRotatedChild, IsRotatedSection, plus}
use Rattle.working_frame.specs.Kept.{AgreeAt}
use Rattle.working_frame.proofs.NumberedLemmas.{numbers_match}
use Rattle.rotated_levels.specs.Framed.{start_of}
use Rattle.level_io.specs.declared.figure.LevelFigure.{LevelFigure}
use Rattle.level_io.specs.Back.{size_of}
use Rattle.level_io.specs.Changed.{AreChanged, number_at}
use Rattle.level_io.specs.Canvas.{IsDrawingOf}
use Rattle.level_io.specs.Figure.{figure_in}
use Rattle.level_io.specs.Written.{ArePortsWritten, HasCertificate, IsWritten, KeepsElsewhere, box_change, numbered_by, section_change}
use Rattle.level_io.proofs.BackLemmas.{box_keeps_size, box_there, place_there, section_there}
use Rattle.level_io.proofs.NumberLemmas.{StandsIn, StandsNowhere, one_level, one_parent, stands_or_not}

module _ (d : Document) (n : ℕ) (o : LevelOptions) (v : LevelFigure) (old now : Placed) where
  abbrev by : Point
  by = start_of o.direction o.padding v.extent

  -- what is written, list by list
  pub record AreWritten : Type 0 where
    pub boxes : AreChanged (children d n) (box_change o.direction by v.boxes) no_rect old.boxes now.boxes
    pub ports : ArePortsWritten (length (children d n)) d o.direction (children d n) now.boxes v.ports old.ports now.ports
    pub sections : AreChanged (edges_of d n) (section_change o.direction by v.sections) no_section old.sections now.sections
    pub levels : now.levels ≡ set old.levels n (Some (numbered_by (edges_of d n) v.certificate))

  sizes : AreWritten → (c : ℕ) → box_size now c ≡ box_size old c
  sizes w c =
      ⊎_elim
      (λ (s : StandsIn (children d n) c).
      let i = s.0 in
      let here : size_of (get_or now.boxes (number_at (children d n) i) no_rect) ≡ size_of (get_or old.boxes (number_at (children d n) i) no_rect) =
      ap size_of (w.boxes.at i s.1) ∙ box_keeps_size o.direction (plus by (point_or v.boxes i)) (get_or old.boxes (number_at (children d n) i) no_rect) in
      subst (λ m. size_of (get_or now.boxes m no_rect) ≡ size_of (get_or old.boxes m no_rect)) s.2 here)
      (λ (s : StandsNowhere (children d n) c). ap size_of (w.boxes.others c s))
      (stands_or_not (children d n) c)

  child : AreWritten → (gaps : List PlainGap) (traces : List PlainTrace) (left top : ℤ) (i : ℕ) → i < length (children d n) → IsRotatedChild d now o.direction (figure_in v gaps traces left top) by i (child_number d n i)
  child w gaps traces left top i h =
      let c = child_number d n i in
      record {
        box = ap (rotated o.direction) (w.boxes.at i h) ∙ box_there o.direction (plus by (point_or v.boxes i)) (get_or old.boxes c no_rect)
            ∙ ap (λ s. rect_at (plus by (point_or v.boxes i)) (rotated_size o.direction s)) (sym (sizes w c));
        ports = λ j k.
            ap (rotated_place o.direction (box_size now c) (port_at d (port_number d c j)).size) (w.ports.at i j h k)
            ∙ place_there o.direction (box_of now c) (port_at d (port_number d c j)).size (point_or (get_or v.ports i []) j);
      }

  section : AreWritten → (gaps : List PlainGap) (traces : List PlainTrace) (left top : ℤ) (i : ℕ) → i < length (edges_of d n) → IsRotatedSection o.direction by (section_of now (edge_number d n i)) (section_at (figure_in v gaps traces left top) i)
  section w gaps traces left top i h =
      subst (λ (s : Section). IsRotatedSection o.direction by s (section_at (figure_in v gaps traces left top) i)) (sym (w.sections.at i h))
      (section_there o.direction by (section_at (figure_in v gaps traces left top) i))

  agrees : AreWritten → (m : ℕ) → m ≢ n → AgreeAt d old now m
  agrees w m other =
      record {
        boxes = λ c h. sym (w.boxes.others c (λ i k same. other (one_parent d m n c h (subst (IsChild d n) same ((numbers_match d n).children.meant i k)))));
        ports = λ c k h p. sym (w.ports.others k (λ i i_in same. other (one_parent d m n c h (subst (IsChild d n) (same ∙ p.of_node) ((numbers_match d n).children.meant i i_in)))));
        sections = λ e h. sym (w.sections.others e (λ i k same. other (one_level d m n e h (subst (IsEdge d n) same ((numbers_match d n).edges.meant i k)))));
      }

  elsewhere : AreWritten → KeepsElsewhere d n old now
  elsewhere w =
      record {
        sizes = sizes w;
        boxes = λ c no. w.boxes.others c (λ i h same. no (subst (IsChild d n) same ((numbers_match d n).children.meant i h)));
        ports = λ k no. w.ports.others k (λ i h same. no (subst (IsChild d n) same ((numbers_match d n).children.meant i h)));
        sections = λ e no. w.sections.others e (λ i h same. no (subst (IsEdge d n) same ((numbers_match d n).edges.meant i h)));
        levels = λ m other. ap (λ ls. get_or ls m None) w.levels ∙ get_or-set_other old.levels n m _ None other;
        agree = agrees w;
      }

  certificate : AreWritten → n < length old.levels → HasCertificate d n now v.certificate
  certificate w h =
      record {
        written = numbered_by (edges_of d n) v.certificate;
        is_written = ap (λ ls. get_or ls n None) w.levels ∙ get_or-set_same old.levels n _ None h;
        numbered = record { layers = refl; reversed = refl; flow = refl; span = refl };
        parts = refl;
      }

  complete : AreWritten → IsDrawingOf d old → IsDrawingOf d now
  complete w was =
      record {
        boxes = w.boxes.as_many ∙ was.boxes;
        ports = w.ports.as_many ∙ was.ports;
        sections = w.sections.as_many ∙ was.sections;
        levels = ap length w.levels ∙ length-set old.levels n _ ∙ was.levels;
      }

  pub is_written : AreWritten → IsDrawingOf d old → n < length old.levels → IsWritten d n o v old now
  is_written w was h =
      record {
        rotated = λ gaps traces left top. record { children = child w gaps traces left top; sections = section w gaps traces left top };
        certificate = certificate w h;
        elsewhere = elsewhere w;
        complete = complete w was;
      }
