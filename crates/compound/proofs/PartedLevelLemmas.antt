-- A level whose connected parts stand apart is drawn.
use Rattle.std.proofs.Common.{◌≡◌, ℕ, Bool, true, false, map, length, List, IsTrue, sym, ap, ◌∙◌, subst, arith, rules}
use Rattle.std.specs.Prelude.{IfSome, IsFalse, Option, if◌then◌else◌}
use Rattle.elk_doc.specs.declared.document.LevelOptions.{LevelOptions}
use Rattle.elk_doc.specs.declared.drawing.Certificate.{Certificate}
use Rattle.elk_doc.specs.declared.drawing.Placed.{Placed}
use Rattle.drawing_types.specs.declared.shape.Point.{Point}
use Rattle.elk_doc.specs.Document.{Document}
use Rattle.elk_doc.specs.Drawing.{box_of}
use Rattle.elk_doc.specs.Fits.{FitsCertificate, IsSolid, child_count}
use Rattle.elk_doc.specs.Level.{IsChild, edges_of, is_child}
use Rattle.elk_doc.specs.PortsKept.{KeepsPorts}
use Rattle.elk_doc.specs.Sound.{IsSoundLevel}
use Rattle.elk_doc.proofs.NumberLaws.{length-numbers_below}
use Rattle.level_model.specs.Conditions.{IsLevel}
use Rattle.level_model.specs.FromPlan.{LevelDrawing}
use Rattle.level_model.specs.Level.{PlainLevel, holds}
use Rattle.rotated_levels.specs.Joined.{KeepsRules, with_gaps}
use Rattle.level_split.specs.Laws.{IsPartedDrawing}
use Rattle.level_split.specs.Parts.{whole_drawing}
use Rattle.level_split.proofs.WholeLemmas.{parts_are_drawn}
use Rattle.level_io.specs.Sizes.{KeepsPinned}
use Rattle.level_io.proofs.FramedLemmas.{framed}
use Rattle.working_frame.specs.Drawing.{IsRotatedDrawing}
use Rattle.working_frame.specs.Rotated.{edge_number, level_of}
use Rattle.working_frame.proofs.NumberedLemmas.{levels_are_listed}
use Rattle.rotated_levels.specs.Framed.{IsFramed, start_of}
use Rattle.rotated_levels.proofs.FrameLemmas.{framed_boxes_fit}
use Rattle.rotated_levels.specs.Certified.{IsCertified, IsSoundCertificate}
use Rattle.rotated_levels.proofs.WholeLemmas.{certificates_rotate_back}
use Rattle.rotated_levels.specs.DockLaws.{IsFromLevel}
use Rattle.rotated_levels.proofs.SpreadLemmas.{ports_rotate_back}
use Rattle.rotated_levels.proofs.RouteLemmas.{routes_rotate_back}
use Rattle.rotated_levels.specs.Levels.{IsWellDrawn}
use Rattle.rotated_levels.proofs.LevelLemmas.{anchored}
use Rattle.compound.specs.PartedDrawn.{IsDrawnInParts, PartedLevelsAreDrawn}
use Rattle.compound.proofs.ApartLemmas.{layers_apart, numbers_parts, parts_apart}

clash : {X : Type 0} (b : Bool) → IsTrue b → IsFalse b → X
clash true t f = absurd (search rules)
clash false t f = absurd (search rules)

parts_asked : (split : Bool) (count parts : ℕ) → split ≡ true → parts ≡ count → parts ≡ (if split then count else 0)
parts_asked true count parts is same = same
parts_asked false count parts is same = absurd cc

module _ (d : Document) (p : Placed) (n : ℕ) (o : LevelOptions) (h : IsDrawnInParts d p n o) where
  abbrev l : PlainLevel
  l = level_of d p n o

  abbrev made : Certificate
  made = h.planned.out.certificate

  abbrev written : Certificate
  written = h.planned.certificate.written

  abbrev v : LevelDrawing
  v = whole_drawing h.planned.out

  abbrev move : Point
  move = start_of o.direction o.padding h.planned.out.extent

  level_sound : IsSoundLevel d n o
  level_sound = subst (λ (x : Option LevelOptions). IfSome x (IsSoundLevel d n)) h.options (h.sound.levels.options n h.there)

  level : IsLevel l
  level = subst IsLevel h.planned.is h.planned.laid_out.sound

  drawn : IsPartedDrawing l o.component h.planned.out
  drawn = subst (λ (x : PlainLevel). IsPartedDrawing x o.component h.planned.out) h.planned.is (parts_are_drawn h.planned.level o.component h.planned.out level_sound.component.above h.planned.laid_out)

  abbrev rules_kept : KeepsRules l made.reversed v
  rules_kept = drawn.rules

  -- the drawing with gaps by which a plan places it
  abbrev shown : LevelDrawing
  shown = with_gaps v rules_kept.gaps

  rotated : IsRotatedDrawing d p n o.direction shown move
  rotated =
      record { children = λ i less. record { box = (h.planned.drawn.children i less).box; ports = (h.planned.drawn.children i less).ports }; sections = h.planned.drawn.sections }

  from_level : IsFromLevel d p n o rules_kept.plan shown move
  from_level =
      let many = (levels_are_listed d p n o).edge_count in
      record {
        sound = h.sound;
        options = h.options;
        leaves = h.leaves;
        drawn = rotated;
        certificate = written;
        written = h.planned.certificate.is_written;
        numbered = h.planned.certificate.numbered.reversed ∙ ap (map (edge_number d n)) (sym rules_kept.is_reversed);
        reversed_in = λ i on.
            let there = (drawn.proof.reversed.closes i (subst (λ (r : List ℕ). holds r i ≡ true) rules_kept.is_reversed on)).of_level in
            omega (arith, there, many);
      }

  ports_kept : (m : ℕ) → IsChild d n m → KeepsPorts d p m
  ports_kept =
      ports_rotate_back d p n o rules_kept.plan rules_kept.orders shown move from_level (anchored l rules_kept.plan rules_kept.orders shown rules_kept.placed rules_kept.routes) rules_kept.ports

  certified : IsCertified d p n o made written
  certified = record { of_level = drawn.proof; numbered = h.planned.certificate.numbered; is_written = h.planned.certificate.is_written }

  certificate : IsSoundCertificate d p n o written
  certificate = certificates_rotate_back d p n o made written h.sound certified

  parts_are : written.parts ≡ h.planned.out.parts
  parts_are = h.planned.certificate.parts ∙ drawn.parts

  fits : FitsCertificate d n o written
  fits =
      certificate.fits
      (parts_asked o.split (child_count d n) (length written.parts) h.split
      (ap length parts_are ∙ drawn.numbered.as_many ∙ (levels_are_listed d p n o).child_count ∙ length-numbers_below (is_child d n) (length d.nodes)))

  module _ (solid : (c : ℕ) → IsChild d n c → IsSolid (box_of p c)) (own : KeepsPorts d p n) where
    pinned : KeepsPinned d p n
    pinned k here is = (own.ports k here.port_in here.of_node).along_kept is

    section_count : length v.sections ≡ length (edges_of d n)
    section_count = h.planned.laid_out.drawing.section_count ∙ ap (λ (x : PlainLevel). length x.edges) h.planned.is ∙ (levels_are_listed d p n o).edge_count

    round : IsFramed d p n o shown move
    round = framed d p n o h.options pinned shown section_count solid h.planned.size

    well_drawn : IsWellDrawn d p n o written
    well_drawn =
        let box = framed_boxes_fit d p n o shown move h.sound rotated rules_kept.tight round in
        let routed = routes_rotate_back d p n o rules_kept.plan rules_kept.orders shown move from_level rules_kept.placed rules_kept.routes in
        record {
          drawn = record {
            apart = record {
              numbered = λ split. numbers_parts d p n o h.planned.out written move h.sound level drawn h.planned.drawn parts_are h.planned.certificate.numbered.layers;
              layers = λ layered a b ha hb differ one. layers_apart d p n o h.planned.out written move h.sound level drawn h.planned.drawn parts_are h.planned.certificate.numbered.layers a b ha hb differ (one h.split);
              parts = λ split a b ha hb differ. parts_apart d p n o h.planned.out written move h.sound level drawn h.planned.drawn parts_are h.planned.certificate.numbered.layers a b ha hb differ;
              boxes = λ boxes. clash o.split h.split (level_sound.boxes_not_split boxes);
            };
            inside = box.inside;
            ports_kept = record { children = ports_kept; root = λ root. subst (λ m. KeepsPorts d p m) root own };
            routes = routed.routes;
            clear = routed.clear;
            sharing = routed.sharing;
            reversed = certificate.reversed;
            layering = certificate.layering;
            flow = certificate.flow;
          };
          fitted = record { left = box.left; top = box.top; width = box.width; height = box.height; layers = certificate.begins };
        }

pub parted_levels_are_drawn : PartedLevelsAreDrawn
parted_levels_are_drawn d p n o h =
    record {
      certificate = h.planned.certificate.written;
      is_written = h.planned.certificate.is_written;
      ports = ports_kept d p n o h;
      fits = fits d p n o h;
      drawn = well_drawn d p n o h;
    }
