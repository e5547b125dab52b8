-- A drawing from its plan keeps what a good drawing keeps.
use Rattle.std.proofs.Common.{◌≡◌, ℕ, List, refl, sym, subst}
use Rattle.level_model.specs.Level.{PlainLevel, PlainPlan, Orders}
use Rattle.level_model.specs.FromPlan.{LevelDrawing, IsDrawnFrom}
use Rattle.level_model.specs.Ready.{IsReady}
use Rattle.plan_laws.proofs.ApartLemmas.{children_keep_apart}
use Rattle.plan_laws.proofs.PortLemmas.{ports_are_kept}
use Rattle.level_draw.specs.declared.drawing.LevelOut.{LevelOut}
use Rattle.level_draw.specs.declared.drawing.Sketch.{Sketch}
use Rattle.level_draw.specs.Drawing.{IsDrawable, IsDrawing, IsDrawn, IsTight, drawn_in}
use Rattle.level_draw.specs.Parts.{drawn_of}
use Rattle.level_draw.specs.Sketched.{IsSketch}
use Rattle.level_draw.proofs.RulesKept.{rules_kept}

is_drawing : (l : PlainLevel) (p : PlainPlan) (layers : List ℕ) (d : LevelDrawing) → IsDrawable l p layers → ((o : Orders) → IsReady l p o layers → IsDrawnFrom l p o d) → IsTight l d → IsDrawing l p layers d
is_drawing l p layers d drawable drawn tight =
    record {
      from_plan = drawn;
      apart = λ b c hb hc differ. children_keep_apart l p drawable.orders d layers drawable.ready (drawn drawable.orders drawable.ready) b c hb hc differ;
      ports = λ o ready c h. ports_are_kept.drawn l p o d ready.level ready.units.orders (drawn o ready) c h;
      routes = λ o ready. rules_kept l p o d layers ready (drawn o ready);
      tight = tight;
    }

pub answered : (l : PlainLevel) (p : PlainPlan) (layers : List ℕ) → IsDrawable l p layers → (v : Sketch) → IsSketch l p v → (out : LevelOut)
    → out.plan.gaps ≡ v.parts.gaps.items → out.plan.traces ≡ v.parts.traces.items → out.boxes ≡ v.parts.boxes.items → out.ports ≡ v.parts.ports.items → out.sections ≡ v.parts.sections.items → out.extent ≡ v.extent
    → IsDrawn l p layers out
answered l p layers drawable v sketch out gaps traces boxes ports sections extent =
    let same : drawn_in out sketch.left sketch.top ≡ drawn_of v.parts v.extent sketch.left sketch.top = rw (gaps, traces, boxes, ports, sections, extent) refl in
    record {
      left = sketch.left;
      top = sketch.top;
      drawing = subst (IsDrawing l p layers) (sym same)
          (is_drawing l p layers (drawn_of v.parts v.extent sketch.left sketch.top) drawable (λ o ready. sketch.drawn o layers ready) sketch.tight);
    }
