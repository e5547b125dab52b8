-- A level of boxes that comes from a layout is drawn.
use Rattle.std.proofs.Common.{◌≡◌, ℕ, Bool, true, false, IsTrue, refl, sym, subst, rules}
use Rattle.std.proofs.Math.ListN.{get_or-map as get_or-map_all}
use Rattle.std.specs.Prelude.{IsFalse}
use Rattle.drawing_types.specs.declared.shape.Size.{Size}
use Rattle.elk_doc.specs.declared.document.Direction.{Direction}
use Rattle.elk_doc.specs.declared.document.Direction.TheVariants.{Right, Left, Down, Up}
use Rattle.elk_doc.specs.declared.document.LevelOptions.{LevelOptions}
use Rattle.elk_doc.specs.declared.drawing.Placed.{Placed}
use Rattle.elk_doc.specs.Document.{Document}
use Rattle.elk_doc.specs.Drawing.{box_of}
use Rattle.elk_doc.specs.Fits.{IsSolid}
use Rattle.elk_doc.specs.Fitted.{IsGreatestOf}
use Rattle.elk_doc.specs.Level.{IsChild, children, place_of_child}
use Rattle.elk_doc.specs.Paths.{stay}
use Rattle.elk_doc.specs.PortsKept.{KeepsPorts}
use Rattle.working_frame.specs.Rotated.{rotated_size}
use Rattle.level_model.specs.FromPlan.{LevelDrawing}
use Rattle.rotated_levels.specs.Framed.{AsksHeight, AsksWidth, IsFittedBox, IsFramed, start_of}
use Rattle.rotated_levels.specs.Levels.{IsWellDrawn}
use Rattle.level_io.specs.Sizes.{KeepsPinned}
use Rattle.level_io.proofs.FramedLemmas.{framed}
use Rattle.compound.specs.Boxed.{boxes_certificate, lowest}
use Rattle.compound.specs.Boxes.{BoxesAreDrawn, IsDrawnAsBoxes}
use Rattle.compound.proofs.EdgeLemmas.{certificate_fits, edges_none, is_flow, is_layering, is_reversed, level_sound, no_edge, whole}
use Rattle.compound.proofs.FitLemmas.{fitted_box}
use Rattle.compound.proofs.PortLemmas.{drawing, ports_kept}
use Rattle.compound.proofs.RowLemmas.{boxes_apart}

clash : {X : Type 0} (b : Bool) → IsTrue b → IsFalse b → X
clash true t f = absurd (search rules)
clash false t f = absurd (search rules)

rotated_twice : (way : Direction) (s : Size) → rotated_size way (rotated_size way s) ≡ s
rotated_twice Right s = refl
rotated_twice Left s = refl
rotated_twice Down s = refl
rotated_twice Up s = refl

module _ (d : Document) (p : Placed) (n : ℕ) (o : LevelOptions) (h : IsDrawnAsBoxes d p n o) (solid : (c : ℕ) → IsChild d n c → IsSolid (box_of p c)) (own : KeepsPorts d p n) where
  pinned : KeepsPinned d p n
  pinned k here is = (own.ports k here.port_in here.of_node).along_kept is

  abbrev shown : LevelDrawing
  shown = drawing d p n o h.sound h.there h.options h.boxes h.planned

  round : IsFramed d p n o shown (start_of o.direction o.padding shown.extent)
  round = framed d p n o h.options pinned shown (sym (edges_none d n o h.sound h.there h.options h.boxes)) solid h.planned.size

  fitted : IsFittedBox d p n o
  fitted =
      let twice = rotated_twice o.direction h.planned.squarest.rows.extent in
      fitted_box d p n o (level_sound d n o h.sound h.there h.options).spacing h.planned solid (no_edge d n o h.sound h.there h.options h.boxes)
      (subst (λ (s : Size). IsGreatestOf (AsksWidth d p n o s) (box_of p n).width) twice round.width)
      (subst (λ (s : Size). IsGreatestOf (AsksHeight d p n o s) (box_of p n).height) twice round.height)

  well_drawn : IsWellDrawn d p n o (boxes_certificate d n)
  well_drawn =
      let none = no_edge d n o h.sound h.there h.options h.boxes in
      let unsplit = whole d n o h.sound h.there h.options h.boxes in
      record {
        drawn = record {
          apart = record {
            numbered = λ split. clash o.split split unsplit;
            layers = λ layered. clash o.boxes h.boxes layered;
            parts = λ split. clash o.split split unsplit;
            boxes = λ _ a b ha hb differ. boxes_apart d p n o (level_sound d n o h.sound h.there h.options).spacing h.planned solid a b ha hb differ;
          };
          inside = fitted.inside;
          ports_kept = record { children = ports_kept d p n o h.sound h.there h.options h.boxes h.planned h.leaves; root = λ root. subst (λ m. KeepsPorts d p m) root own };
          routes = λ e is. absurd (none e is);
          clear = λ e a is. absurd (none e is);
          sharing = λ e f is. absurd (none e is);
          reversed = is_reversed d n o h.sound h.there h.options h.boxes;
          layering = is_layering d n o h.sound h.there h.options h.boxes p;
          flow = is_flow d n o h.sound h.there h.options h.boxes p;
        };
        fitted = record {
          left = fitted.left;
          top = fitted.top;
          width = fitted.width;
          height = fitted.height;
          layers = λ a child. (a, child, stay a, get_or-map_all lowest (children d n) (place_of_child d n a) 0);
        };
      }

pub boxes_are_drawn : BoxesAreDrawn
boxes_are_drawn d p n o h =
    record {
      ports = ports_kept d p n o h.sound h.there h.options h.boxes h.planned h.leaves;
      certificate = certificate_fits d n o h.sound h.there h.options h.boxes;
      drawn = λ solid own. well_drawn d p n o h solid own;
    }
