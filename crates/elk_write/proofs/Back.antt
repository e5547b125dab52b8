-- What is written is read back.
use Rattle.std.proofs.Common.{◌≡◌, List, length, map, filter, get_or, Some, None, option_map, refl, sym, ap, ◌∙◌, arith}
use Rattle.std.specs.Prelude.{slice_get}
use Rattle.std.proofs.lemmas.List.{length-map}
use Rattle.std.proofs.lemmas.Option.{slice_get-get_or, slice_get-map, get_or_from_slice_get}
use Rattle.serde_json.specs.Data.{Data, null}
use Rattle.elk_doc.specs.declared.drawing.Placed.{Placed}
use Rattle.elk_doc.specs.declared.document.Edge.{Edge as DocEdge}
use Rattle.elk_doc.specs.Document.{Document, edge_at, no_edge}
use Rattle.elk_doc.specs.Fits.{Fits}
use Rattle.elk_json.specs.declared.elements.Kind.TheVariants as kind
use Rattle.elk_json.specs.declared.fault.Rule.TheVariants as rules
use Rattle.elk_json.specs.Elements.{Element, elements}
use Rattle.elk_json.specs.Members.{is_port, is_edge}
use Rattle.elk_json.specs.Keyed.{IsKeyed}
use Rattle.elk_json.specs.Rules.{refused, at}
use Rattle.elk_json.specs.Document.{IsDocument, edge_of, port_of, nodes_of, ports_of, edges_of, sure_id}
use Rattle.elk_write.specs.Reading.{first_number}
use Rattle.elk_write.specs.Placing.{IsGiven, document_in, not_placed, first_unplaced}
use Rattle.elk_write.specs.ReadBack.{without_place, SameButPlaces, SaysBack, AreHeld}
use Rattle.elk_write.proofs.Known.{whole_by, shaped_by}
use Rattle.elk_write.proofs.Pairs.{pairs_whole}
use Rattle.elk_write.proofs.Law.{answer_of, answer_placed}
use Rattle.elk_write.proofs.Inherited.{each_whole}
use Rattle.elk_write.proofs.Alike.{AllAlike, alike_whole}
use Rattle.elk_write.proofs.SameDocument.{same_nodes, same_ports, same_edges}
use Rattle.elk_write.proofs.Distinct.{has_id, have_ids, FoundAt, edges_found}
use Rattle.elk_write.proofs.Returned.{AreFound}
use Rattle.elk_write.proofs.Again.{from_zero_at, some_same, given_back}
use Rattle.elk_write.proofs.Moved.{given_same}
use Rattle.elk_write.proofs.Complete.{none_unplaced}

no_element : Element
no_element = record { kind = kind.Node; owner = None; holder = null; value = null }

are_found : (doc : Document) (v : Data) → refused v ≡ None → IsDocument doc v → AreFound doc
are_found doc v accepted is n lt =
    let es = filter is_edge (elements v) in
    let count : length doc.edges ≡ length es = ap (λ xs. length xs) is.edges_are ∙ length-map es (edge_of (elements v)) in
    let ids = have_ids (elements v) (shaped_by v accepted) (each_whole v (whole_by v accepted)) in
    let x : Element = get_or es n no_element in
    let here : slice_get es n ≡ Some x = slice_get-get_or es n no_element (omega arith) in
    let found = from_zero_at (FoundAt (edges_of (elements v))) es (edges_found v accepted ids) n x here in
    let there : slice_get doc.edges n ≡ Some (edge_of (elements v) x) = ap (λ xs. slice_get xs n) is.edges_are ∙ slice_get-map (edge_of (elements v)) es n ∙ ap (option_map (edge_of (elements v))) here in
    let edge : edge_at doc n ≡ edge_of (elements v) x = get_or_from_slice_get doc.edges n (edge_of (elements v) x) no_edge there in
    ap (λ (e : DocEdge). first_number (has_id e.id) 0 doc.edges) edge
    ∙ ap (λ xs. first_number (has_id (sure_id x.value)) 0 xs) is.edges_are
    ∙ found

same_drawing : (q p : Placed) → q.boxes ≡ p.boxes → q.ports ≡ p.ports → q.sections ≡ p.sections → q.levels ≡ p.levels → q ≡ p
same_drawing q p a b c d =
    ap (λ x. (let r : Placed = record { boxes = x; ports = q.ports; sections = q.sections; levels = q.levels } in r)) a
    ∙ ap (λ x. (let r : Placed = record { boxes = p.boxes; ports = x; sections = q.sections; levels = q.levels } in r)) b
    ∙ ap (λ x. (let r : Placed = record { boxes = p.boxes; ports = p.ports; sections = x; levels = q.levels } in r)) c
    ∙ ap (λ x. (let r : Placed = record { boxes = p.boxes; ports = p.ports; sections = p.sections; levels = x } in r)) d

given_once : (doc : Document) (es : List Element) (q p : Placed) → IsGiven doc es q → IsGiven doc es p → q ≡ p
given_once doc es q p g h =
    same_drawing q p
    (some_same q.boxes p.boxes (g.boxes ∙ sym h.boxes)) (some_same q.ports p.ports (g.ports ∙ sym h.ports))
    (some_same q.sections p.sections (g.sections ∙ sym h.sections)) (some_same q.levels p.levels (g.levels ∙ sym h.levels))

not_placed_none : (w : Data) → first_unplaced (document_in w) (elements w) ≡ None → not_placed w ≡ None
unfolding not_placed
not_placed_none w h = ap (at rules.NotPlaced) h

pub says_back : (doc : Document) (p : Placed) (v : Data) → IsKeyed v → refused v ≡ None → IsDocument doc v → Fits doc p → AreHeld p → SaysBack doc p (answer_of doc p v)
says_back doc p v keyed accepted is fits held =
    let w = answer_of doc p v in
    let fs = elements w in
    let alike : AllAlike (elements v) fs = alike_whole doc p v fs keyed (shaped_by v accepted) (pairs_whole doc p v keyed) in
    let nodes : doc.nodes ≡ nodes_of fs = is.nodes_are ∙ sym (same_nodes (elements v) fs alike) in
    let edges : doc.edges ≡ edges_of fs = is.edges_are ∙ sym (same_edges (elements v) fs alike) in
    let ports : map without_place (ports_of fs) ≡ map without_place doc.ports = same_ports (elements v) fs alike ∙ ap (map without_place) (sym is.ports_are) in
    let count : length doc.ports ≡ length (filter is_port fs) =
    sym (length-map doc.ports without_place) ∙ ap (λ xs. length xs) (sym ports) ∙ length-map (ports_of fs) without_place ∙ length-map (filter is_port fs) (port_of fs) in
    let placed = answer_placed doc p v keyed accepted is fits in
    let given : IsGiven doc fs p = given_back doc p fits held (are_found doc v accepted is) fs nodes edges count placed.1 placed.2 placed.3 in
    let same = λ (other : Document) (o : IsDocument other w). (let s : SameButPlaces doc other = record { nodes = o.nodes_are ∙ sym nodes; ports = ap (map without_place) o.ports_are ∙ ports; edges = o.edges_are ∙ sym edges } in s) in
    let own : IsDocument (document_in w) w = record { nodes_are = refl; ports_are = refl; edges_are = refl } in
    record {
      whole = not_placed_none w (none_unplaced (document_in w) fs p (given_same doc (document_in w) (same (document_in w) own) fs p given));
      document = same;
      drawing = λ other q o d. given_once other fs q p d (given_same doc other (same other o) fs p given);
    }
