-- One level of a drawing that comes from layouts: what its layout gives of it, and that its ports are kept.
use Rattle.std.proofs.Common.{◌≡◌, inl, inr, ℕ, ◌<◌, Bool, true, false, length, sym, subst, ◌∙◌, ap, arith}
use Rattle.std.specs.Prelude.{Some, IsFalse, if◌then◌else◌}
use Rattle.std.proofs.lemmas.Bool.{cases_Bool}
use Rattle.drawing_types.specs.declared.shape.Point.{Point}
use Rattle.elk_doc.specs.declared.document.LevelOptions.{LevelOptions}
use Rattle.elk_doc.specs.declared.drawing.Certificate.{Certificate}
use Rattle.elk_doc.specs.declared.drawing.Placed.{Placed}
use Rattle.elk_doc.specs.Document.{Document, node_at}
use Rattle.elk_doc.specs.Level.{edges_of, IsChild}
use Rattle.elk_doc.specs.Drawing.{box_of, certificate_of}
use Rattle.elk_doc.specs.Fits.{FitsCertificate, IsSolid, LeavesKept, child_count}
use Rattle.elk_doc.specs.PortsKept.{KeepsPorts}
use Rattle.elk_doc.specs.Sound.{IsSound}
use Rattle.level_model.specs.Level.{Orders, PlainLevel, PlainPlan}
use Rattle.level_model.specs.FromPlan.{LevelDrawing}
use Rattle.level_model.specs.Ready.{IsReady}
use Rattle.level_layout.specs.Certificate.{IsCertificateOf}
use Rattle.level_draw.specs.Drawing.{drawn_in, IsDrawing, plan_from}
use Rattle.working_frame.specs.Rotated.{level_of}
use Rattle.working_frame.proofs.NumberedLemmas.{levels_are_listed}
use Rattle.rotated_levels.specs.Framed.{IsFramed, start_of}
use Rattle.rotated_levels.specs.Certified.{IsCertified, IsProofOf}
use Rattle.rotated_levels.proofs.WholeLemmas.{certificates_rotate_back}
use Rattle.rotated_levels.specs.DockLaws.{IsFromLevel}
use Rattle.rotated_levels.proofs.SpreadLemmas.{ports_rotate_back}
use Rattle.rotated_levels.specs.Levels.{IsWellDrawn}
use Rattle.rotated_levels.proofs.LevelLemmas.{anchored, levels_are_drawn, ports_placed}
use Rattle.level_io.specs.Sizes.{KeepsPinned}
use Rattle.level_io.proofs.FramedLemmas.{framed}
use Rattle.compound.specs.Boxed.{boxes_certificate}
use Rattle.compound.specs.Planned.{IsLayeredPlan, IsPlannedLevel}
use Rattle.compound.specs.Boxes.{IsBoxDrawing}
use Rattle.compound.specs.PartedDrawn.{IsPartsDrawing}
use Rattle.compound.proofs.PartedLevelLemmas.{parted_levels_are_drawn}
use Rattle.compound.proofs.BoxLevelLemmas.{boxes_are_drawn}

module _ (d : Document) (p : Placed) (n : ℕ) (o : LevelOptions) (sound : IsSound d) (leaves : LeavesKept d p) (options : (node_at d n).level ≡ Some o) (planned : IsLayeredPlan d p n o) where
  abbrev laid : PlainLevel
  laid = level_of d p n o

  abbrev made : Certificate
  made = planned.out.certificate

  written : Certificate
  written = planned.certificate.written

  abbrev plan : PlainPlan
  plan = plan_from planned.out.certificate planned.out.plan.layered planned.out.plan.order planned.out.plan.lines

  abbrev orders : Orders
  orders = planned.laid_out.orders

  abbrev drawing : LevelDrawing
  drawing = drawn_in planned.out planned.laid_out.drawn.left planned.laid_out.drawn.top

  abbrev move : Point
  move = start_of o.direction o.padding planned.out.extent

  of_level : IsCertificateOf laid made
  of_level = subst (λ (l : PlainLevel). IsCertificateOf l made) planned.is planned.laid_out.certificate

  -- what is read of the certificate
  proof : IsProofOf laid made
  proof =
      record {
        reversed = of_level.reversed;
        layer_for_each = of_level.layer_for_each;
        flow_for_each = of_level.flow_for_each;
        loops = of_level.loops;
        solves = of_level.solves;
      }

  ready : IsReady laid plan orders written.layers
  unfolding written
  ready =
      subst (λ layers. IsReady laid plan orders layers) (sym planned.certificate.numbered.layers)
      (subst (λ (l : PlainLevel). IsReady l plan orders made.layers) planned.is planned.laid_out.ready)

  drawn : IsDrawing laid plan written.layers drawing
  unfolding written
  drawn =
      subst (λ layers. IsDrawing laid plan layers drawing) (sym planned.certificate.numbered.layers)
      (subst (λ (l : PlainLevel). IsDrawing l plan made.layers drawing) planned.is planned.laid_out.drawn.drawing)

  from_level : IsFromLevel d p n o plan drawing move
  from_level =
      let many = (levels_are_listed d p n o).edge_count in
      record {
        sound = sound;
        options = options;
        leaves = leaves;
        drawn = planned.drawn planned.laid_out.drawn.left planned.laid_out.drawn.top;
        certificate = planned.certificate.written;
        written = planned.certificate.is_written;
        numbered = planned.certificate.numbered.reversed;
        reversed_in = λ i h. let there = (of_level.reversed.closes i h).of_level in omega (arith, there, many);
      }

  -- the ports of the children are kept
  ports_kept : (m : ℕ) → IsChild d n m → KeepsPorts d p m
  ports_kept =
      let placed = ports_placed laid plan orders drawing ready.level (drawn.from_plan orders ready) in
      ports_rotate_back d p n o plan orders drawing move from_level (anchored laid plan orders drawing placed (drawn.routes orders ready)) (drawn.ports orders ready)

  certified : IsCertified d p n o made written
  unfolding written
  certified = record { of_level = proof; numbered = planned.certificate.numbered; is_written = planned.certificate.is_written }

  has_certificate : certificate_of p n ≡ Some written
  unfolding written
  has_certificate = planned.certificate.is_written

  no_parts : length written.parts ≡ 0
  unfolding written
  no_parts = ap length (planned.certificate.parts ∙ of_level.no_parts)

  section_count : length drawing.sections ≡ length (edges_of d n)
  section_count = (drawn.from_plan orders ready).section_count ∙ (levels_are_listed d p n o).edge_count

  -- with the ports of its node kept, and the boxes of its children solid, the level is drawn and fitted
  well_drawn : IsFalse o.split → IsFalse o.boxes → ((c : ℕ) → IsChild d n c → IsSolid (box_of p c)) → KeepsPorts d p n → IsWellDrawn d p n o written
  well_drawn whole layered solid own =
      let pinned : KeepsPinned d p n = λ k h is. (own.ports k h.port_in h.of_node).along_kept is in
      let round : IsFramed d p n o drawing move = framed d p n o options pinned drawing section_count solid planned.size in
      levels_are_drawn d p n o plan orders drawing move made written
      (record { from_level = from_level; ready = ready; drawing = drawn; framed = round; certified = certified; whole = whole; layered = layered })
      (λ root. subst (λ m. KeepsPorts d p m) root own)

  no_parts_asked : (split : Bool) (count parts : ℕ) → split ≡ false → parts ≡ 0 → parts ≡ (if split then count else 0)
  no_parts_asked true count parts whole none = absurd (let bad : true ≡ false = whole in cc)
  no_parts_asked false count parts whole none = none

  certificate_fits : IsFalse o.split → FitsCertificate d n o written
  certificate_fits whole =
      (certificates_rotate_back d p n o made written sound certified).fits (no_parts_asked o.split (child_count d n) (length written.parts) whole no_parts)

-- What a level that is planned has: its certificate, in the form that is asked for; the ports of its children, which are kept;
-- and where these have no negative sizes and the ports of its node are kept, it is drawn and fitted.
pub record IsPlannedDrawing (d : Document) (p : Placed) (n : ℕ) (o : LevelOptions) : Type 0 where
  pub certificate : Certificate
  pub is_written : certificate_of p n ≡ Some certificate
  pub ports : (m : ℕ) → IsChild d n m → KeepsPorts d p m
  pub fits : FitsCertificate d n o certificate
  pub drawn : ((c : ℕ) → IsChild d n c → IsSolid (box_of p c)) → KeepsPorts d p n → IsWellDrawn d p n o certificate

pub planned_drawing : (d : Document) (p : Placed) (n : ℕ) (o : LevelOptions) → IsSound d → LeavesKept d p → n < length d.nodes → (node_at d n).level ≡ Some o → IsPlannedLevel d p n o → IsPlannedDrawing d p n o
planned_drawing d p n o sound leaves there options planned =
    elim (cases_Bool o.boxes) [
      | inl boxes ↦
          (let plan = planned.boxed boxes in
          let drawn : IsBoxDrawing d p n o = boxes_are_drawn d p n o (record { sound = sound; there = there; options = options; boxes = boxes; leaves = leaves; planned = plan }) in
          record { certificate = boxes_certificate d n; is_written = plan.certificate; ports = drawn.ports; fits = drawn.certificate; drawn = drawn.drawn })
      | inr layered ↦
          elim (cases_Bool o.split) [
            | inl split ↦
                (let drawn : IsPartsDrawing d p n o = parted_levels_are_drawn d p n o (record { sound = sound; there = there; options = options; split = split; leaves = leaves; planned = planned.parted split }) in
                record { certificate = drawn.certificate; is_written = drawn.is_written; ports = drawn.ports; fits = drawn.fits; drawn = drawn.drawn })
            | inr whole ↦
                (let plan = planned.layered layered whole in
                record {
                  certificate = written d p n o sound leaves options plan;
                  is_written = has_certificate d p n o sound leaves options plan;
                  ports = ports_kept d p n o sound leaves options plan;
                  fits = certificate_fits d p n o sound leaves options plan whole;
                  drawn = well_drawn d p n o sound leaves options plan whole layered;
                })
          ]
    ]
