use Rattle.std.proofs.Common.{◌≡◌, ◌+◌, ◌<◌, [], ◌∷◌, ◌++◌, length, map, take, drop, filter, Some, sym, ap, ◌∙◌, subst, arith}
use Rattle.std.proofs.lemmas.List.{drop_more, take_more}
use Rattle.elk_doc.specs.declared.drawing.Placed.{Placed}
use Rattle.elk_json.specs.declared.fault.Rule.TheVariants.{NotPlaced}
use Rattle.elk_json.specs.Members.{is_node, is_port, is_edge}
use Rattle.elk_json.specs.Refused.{MatchFault}
use Rattle.elk_json.specs.Rules.{first_at, at}
use Rattle.elk_json.specs.Seen.{seen, seen_list}
use Rattle.elk_write.specs.Placing.{box_at, level_at, place_at, section_at, given, IsGiven, given_part, number_of, is_unplaced, first_unplaced}
use Rattle.elk_write.proofs.Growing.{map_push, map_front, grown, number_is, first_passes, first_stops}
use Rattle.elk_write.proofs.placing.drawing_of.Goals as goal

pub returns-in_default : goal.returns-in_default
returns-in_default c =
    let l = c.loop-element in
    let doc = c.args.doc.now in
    let xs = c.args.elements.now in
    let es = seen_list xs in
    let i = l.element-index in
    let x = c.element-item.result in
    let e = seen x in
    let done = seen_list (take i xs) in
    let p : Placed = record { boxes = l.drawing.boxes.items; ports = l.drawing.ports.items; sections = l.drawing.sections.items; levels = l.drawing.levels.items } in
    let so_far : IsGiven doc done p = record { boxes = l.invariant.boxes; levels = l.invariant.levels; ports = l.invariant.ports; sections = l.invariant.sections } in
    let m = c.next_number-number.result in
    let inside : i < length xs = omega arith in
    let here : drop i xs ≡ x ∷ drop (i + 1) xs = drop_more xs i x inside ∙ ap (λ y. y ∷ drop (i + 1) xs) (sym c.element-item.is) in
    let number : m ≡ number_of e.kind es i = c.next_number-number.ensures ∙ number_is doc es done i e.kind p (map_front seen i xs) so_far in
    let first : first_unplaced doc es ≡ Some e =
    l.invariant.first ∙ ap (λ ys. first_at (is_unplaced doc es) i (seen_list ys)) here ∙ first_stops doc es i m e (seen_list (drop (i + 1) xs)) number (sym c.in_ok-part.ensures ∙ c.in_default.is) in
    subst (λ o. MatchFault c.not_placed.result (λ r. at NotPlaced o ≡ Some r)) (sym first) c.not_placed.ensures

pub loop-element-preserved : goal.loop-element-preserved
loop-element-preserved c =
    let l = c.loop-element in
    let doc = c.args.doc.now in
    let xs = c.args.elements.now in
    let es = seen_list xs in
    let i = l.element-index in
    let x = c.element-item.result in
    let e = seen x in
    let done = seen_list (take i xs) in
    let p : Placed = record { boxes = l.drawing.boxes.items; ports = l.drawing.ports.items; sections = l.drawing.sections.items; levels = l.drawing.levels.items } in
    let so_far : IsGiven doc done p = record { boxes = l.invariant.boxes; levels = l.invariant.levels; ports = l.invariant.ports; sections = l.invariant.sections } in
    let m = c.next_number-number.result in
    let part = c.in-Some.part in
    let inside : i < length xs = omega arith in
    let here : drop i xs ≡ x ∷ drop (i + 1) xs = drop_more xs i x inside ∙ ap (λ y. y ∷ drop (i + 1) xs) (sym c.element-item.is) in
    let more : seen_list (take (i + 1) xs) ≡ done ++ e ∷ [] =
    ap seen_list (take_more xs i x inside ∙ ap (λ y. take i xs ++ y ∷ []) (sym c.element-item.is)) ∙ map_push seen (take i xs) (x ∷ []) in
    let number : m ≡ number_of e.kind es i = c.next_number-number.ensures ∙ number_is doc es done i e.kind p (map_front seen i xs) so_far in
    let gives : given_part doc e.kind m e ≡ Some part = sym c.in_ok-part.ensures ∙ c.in-Some.is in
    let g = grown doc done e p part so_far (subst (λ k. given_part doc e.kind k e ≡ Some part) c.next_number-number.ensures gives) in
    let new = c.in_ok-drawing.ensures in
    record {
      boxes = ap (λ ys. map (λ x. Some x) ys) new.boxes ∙ g.boxes ∙ ap (λ zs. given (box_at doc) 0 (filter is_node zs)) (sym more);
      levels = ap (λ ys. map (λ x. Some x) ys) new.levels ∙ g.levels ∙ ap (λ zs. given (level_at doc) 0 (filter is_node zs)) (sym more);
      ports = ap (λ ys. map (λ x. Some x) ys) new.ports ∙ g.ports ∙ ap (λ zs. given place_at 0 (filter is_port zs)) (sym more);
      sections = ap (λ ys. map (λ x. Some x) ys) new.sections ∙ g.sections ∙ ap (λ zs. given (section_at doc) 0 (filter is_edge zs)) (sym more);
      first = l.invariant.first ∙ ap (λ ys. first_at (is_unplaced doc es) i (seen_list ys)) here ∙ first_passes doc es i m e part (seen_list (drop (i + 1) xs)) number gives;
    }
