-- Which rule refuses a placed value.
use Rattle.std.proofs.Common.{◌≡◌, List, None, Some, Option, sym, ap, ◌∙◌}
use Rattle.std.specs.Option.{option_or}
use Rattle.serde_json.specs.Data.{Data}
use Rattle.elk_doc.specs.Document.{Document, document}
use Rattle.elk_json.specs.declared.fault.DocFault.{DocFault}
use Rattle.elk_json.specs.declared.fault.DocFault.TheVariants.{Refused, Memory}
use Rattle.elk_json.specs.declared.fault.Refusal.{Refusal}
use Rattle.elk_json.specs.declared.fault.Rule.TheVariants.{NotPlaced}
use Rattle.elk_json.specs.Elements.{Element, elements}
use Rattle.elk_json.specs.Refused.{MatchFault}
use Rattle.elk_json.specs.Rules.{refused, at}
use Rattle.elk_json.specs.Document.{IsDocument, nodes_of, ports_of}
use Rattle.elk_write.specs.Placing.{first_unplaced, document_in, not_placed, refused_placed}

fault_by : (P Q : Refusal → Type 0) (f : DocFault) → ((r : Refusal) → P r → Q r) → MatchFault f P → MatchFault f Q
fault_by P Q (Refused r) h m = h r m
fault_by P Q Memory h m = tt

-- the document of a value, as a whole
document_is : (doc : Document) (d : Data) → IsDocument doc d → doc ≡ document_in d
document_is doc d is =
    ap (λ ns. document ns doc.ports doc.edges) is.nodes_are
    ∙ ap (λ ps. document (nodes_of (elements d)) ps doc.edges) is.ports_are
    ∙ ap (λ es. document (nodes_of (elements d)) (ports_of (elements d)) es) is.edges_are

by_rule : (d : Data) (r : Refusal) → refused d ≡ Some r → refused_placed d ≡ Some r
unfolding refused_placed
by_rule d r h = ap (λ o. option_or o (not_placed d)) h

by_place : (d : Data) (o : Option Refusal) → refused d ≡ None → not_placed d ≡ o → refused_placed d ≡ o
unfolding refused_placed
by_place d o h k = ap (λ o. option_or o (not_placed d)) h ∙ k

place_is : (doc : Document) (es : List Element) (d : Data) → IsDocument doc d → es ≡ elements d → not_placed d ≡ at NotPlaced (first_unplaced doc es)
unfolding not_placed
place_is doc es d is all =
    ap (λ x. at NotPlaced (first_unplaced x (elements d))) (sym (document_is doc d is)) ∙ ap (λ xs. at NotPlaced (first_unplaced doc xs)) (sym all)

pub rule_refuses : (d : Data) (f : DocFault) → MatchFault f (λ r. refused d ≡ Some r) → MatchFault f (λ r. refused_placed d ≡ Some r)
rule_refuses d f h = fault_by (λ r. refused d ≡ Some r) (λ r. refused_placed d ≡ Some r) f (by_rule d) h

pub place_refuses : (doc : Document) (es : List Element) (d : Data) (f : DocFault) → refused d ≡ None → IsDocument doc d → es ≡ elements d
    → MatchFault f (λ r. at NotPlaced (first_unplaced doc es) ≡ Some r) → MatchFault f (λ r. refused_placed d ≡ Some r)
place_refuses doc es d f accepted is all h =
    fault_by (λ r. at NotPlaced (first_unplaced doc es) ≡ Some r) (λ r. refused_placed d ≡ Some r) f (λ r e. by_place d (Some r) accepted (place_is doc es d is all ∙ e)) h

pub none_refuses : (doc : Document) (es : List Element) (d : Data) → refused d ≡ None → IsDocument doc d → es ≡ elements d → first_unplaced doc es ≡ None → refused_placed d ≡ None
none_refuses doc es d accepted is all h = by_place d None accepted (place_is doc es d is all ∙ ap (at NotPlaced) h)
