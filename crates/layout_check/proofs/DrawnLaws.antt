-- A drawing is drawn exactly where each definition holds everywhere.
use Rattle.std.proofs.Common.{◌≡◌, ◌↔◌, ℕ, zero, suc, ◌<◌, arith, refl}
use Rattle.elk_doc.specs.declared.drawing.Placed.{Placed}
use Rattle.elk_doc.specs.Document.{Document}
use Rattle.elk_doc.specs.Drawn.{Drawn}
use Rattle.elk_doc.specs.Fits.{Fits}
use Rattle.elk_doc.specs.Sound.{IsSound}
use Rattle.layout_check.specs.ListedLevels.{IsLevel}
use Rattle.drawing_laws.proofs.DualityLaw.{flow_shows_least}
use Rattle.layout_check.specs.declared.definition.Definition.{Definition}
use Rattle.layout_check.specs.declared.definition.Definition.TheVariants.{Apart, Inside, PortsKept, Route, Clear, Sharing, Reversed, Layering, FlowProof}
use Rattle.layout_check.specs.declared.verdict.Verdict.{Verdict}
use Rattle.layout_check.specs.declared.verdict.Verdict.TheVariants.{Yes, No}
use Rattle.layout_check.specs.Definitions.{Everywhere, definition_at}
use Rattle.layout_check.specs.Judged.{Needs}
use Rattle.layout_check.specs.Verdicts.{IsVerdict, IsYes}

everywhere : (t : Definition) (d : Document) (p : Placed) → Drawn d p → Everywhere t d p
everywhere Apart d p drawn n o c l = (drawn.levels n o c l.node_in l.options l.certificate).apart
everywhere Inside d p drawn n o c l = (drawn.levels n o c l.node_in l.options l.certificate).inside
everywhere PortsKept d p drawn n o c l = (drawn.levels n o c l.node_in l.options l.certificate).ports_kept
everywhere Route d p drawn n o c l = (drawn.levels n o c l.node_in l.options l.certificate).routes
everywhere Clear d p drawn n o c l = (drawn.levels n o c l.node_in l.options l.certificate).clear
everywhere Sharing d p drawn n o c l = (drawn.levels n o c l.node_in l.options l.certificate).sharing
everywhere Reversed d p drawn n o c l = (drawn.levels n o c l.node_in l.options l.certificate).reversed
everywhere Layering d p drawn n o c l = (drawn.levels n o c l.node_in l.options l.certificate).layering
everywhere FlowProof d p drawn n o c l = (drawn.levels n o c l.node_in l.options l.certificate).flow

-- all definitions together
pub yes_by_all : (d : Document) (p : Placed) → IsSound d → Fits d p → ((i : ℕ) → i < 9 → Everywhere (definition_at i) d p) → IsYes d p
yes_by_all d p sound fits all =
    record {
      drawn =
          record {
            fits = fits;
            levels = λ n o c node_in options certificate.
                let l : IsLevel d p n o c = record { node_in = node_in; options = options; certificate = certificate } in
                record {
                  apart = all 0 (omega arith) n o c l;
                  inside = all 1 (omega arith) n o c l;
                  ports_kept = all 2 (omega arith) n o c l;
                  routes = all 3 (omega arith) n o c l;
                  clear = all 4 (omega arith) n o c l;
                  sharing = all 5 (omega arith) n o c l;
                  reversed = all 6 (omega arith) n o c l;
                  layering = all 7 (omega arith) n o c l;
                  flow = all 8 (omega arith) n o c l;
                };
          };
      least = λ n o c l. flow_shows_least d p n c sound (all 8 (omega arith) n o c l);
    }

-- routes are asked for before what needs them
pub needs_met : (d : Document) (p : Placed) (i : ℕ) → i < 9 → ((j : ℕ) → j < i → Everywhere (definition_at j) d p) → Needs (definition_at i) d p
needs_met d p zero l before = tt
needs_met d p (suc zero) l before = tt
needs_met d p (suc (suc zero)) l before = tt
needs_met d p (suc (suc (suc zero))) l before = tt
needs_met d p (suc (suc (suc (suc zero)))) l before = before 3 (omega arith)
needs_met d p (suc (suc (suc (suc (suc zero))))) l before = before 3 (omega arith)
needs_met d p (suc (suc (suc (suc (suc (suc zero)))))) l before = tt
needs_met d p (suc (suc (suc (suc (suc (suc (suc zero))))))) l before = tt
needs_met d p (suc (suc (suc (suc (suc (suc (suc (suc zero)))))))) l before = tt
needs_met d p (suc (suc (suc (suc (suc (suc (suc (suc (suc i))))))))) l before = absurd (omega arith)

pub exact : (d : Document) (p : Placed) (v : Verdict) → IsVerdict d p v → (v ≡ Yes) ↔ Drawn d p
exact d p Yes good = (λ _. good.drawn, λ _. refl)
exact d p (No number first second) bad = (
  λ e. absurd cc,
  λ drawn. let here = bad.fails.here in
      absurd (here.fails (everywhere (definition_at bad.place) d p drawn bad.fails.node here.options here.certificate here.level)),
)
