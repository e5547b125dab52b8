use Rattle.std.proofs.Common.{◌≡◌, ℕ, List, subst, sym, ◌∙◌, rules}
use Rattle.std.specs.Prelude.{None, Some}
use Rattle.serde_json.specs.Data.{Data}
use Rattle.serde_json.specs.View.{view}
use Rattle.elk_doc.specs.Sound.{IsSound}
use Rattle.drawing_laws.proofs.DualityLaw.{flow_shows_least}
use Rattle.elk_json.specs.declared.fault.Refusal.{Refusal}
use Rattle.elk_json.specs.Bytes.{reading}
use Rattle.elk_json.specs.Rules.{refused}
use Rattle.elk_answer.specs.Answer.{IsAccepted, RefusesReading}
use Rattle.elk_answer.proofs.bytes.answer.Goals as goal

pub returns-clause-answered : goal.returns-clause-answered
returns-clause-answered c =
    let written = c.in_ok-text.ensures in
    record {
      doc = c.in_ok-doc.doc;
      placed = c.in_ok-placed.placed;
      good =
          record {
            value = view c.in_ok-value.value;
            answer = written.answer;
            read = c.in_ok-value.ensures.exact;
            document = c.in_ok-doc.ensures.1;
            drawn = c.in_ok-placed.ensures.drawn;
            fitted = c.in_ok-placed.ensures.fitted;
            least = λ n o r n_in level certificate. flow_shows_least c.in_ok-doc.doc c.in_ok-placed.placed n r (subst IsSound c.doc.view_is c.doc.invariant) (c.in_ok-placed.ensures.drawn.levels n o r n_in level certificate).flow;
            small = c.in_ok-placed.ensures.small;
            same = written.placed;
            ascending = written.keyed;
            written = written.written;
            read_again = written.read c.args.bytes.now c.in_ok-value.ensures.exact c.in_ok-doc.ensures.2 c.in_ok-placed.ensures.small;
            read_back = written.read_back c.in_ok-placed.ensures.drawn;
          };
      planned = c.in_ok-placed.ensures.planned;
    }

none_is_some : (r : Refusal) → None ≡ Some r → ⊥
none_is_some r e = search rules

-- a value that no rule refuses is accepted
accepted : (bytes : List ℕ) (v : Data) → reading bytes ≡ Some v → refused v ≡ None → IsAccepted bytes
accepted bytes v read none r refuses = none_is_some r (sym none ∙ subst (λ o. RefusesReading o r) read refuses)

pub returns-clause-accepted : goal.returns-clause-accepted
returns-clause-accepted c =
    accepted c.args.bytes.now (view c.in_ok-value.value) c.in_ok-value.ensures.exact c.in_ok-doc.ensures.0
