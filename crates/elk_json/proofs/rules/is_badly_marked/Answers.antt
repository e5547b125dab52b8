use Rattle.std.proofs.Common.{◌≡◌, ℕ, ◌<◌, List, length, get_or, Bool, false, ◌&&◌, ◌||◌, ap, sym, ◌∙◌, arith}
use Rattle.elk_json.specs.declared.elements.Element.{Element}
use Rattle.elk_json.specs.Members.{has_bad_option}
use Rattle.elk_json.specs.Marks.{AreMarkedElements, has_level_edge}
use Rattle.elk_json.specs.Rules.{has_boxes, is_badly_optioned, has_boxes_and_edges}
use Rattle.elk_json.specs.Seen.{seen, seen_list}
use Rattle.elk_json.proofs.Collected.{length_seen}
use Rattle.elk_json.proofs.rules.is_badly_marked.Goals as goal

-- the test by a mark is the test
badly_is : (es : List Element) (marks : List Bool) (i : ℕ) (e : Element) (b : Bool) → AreMarkedElements (seen_list es) marks → i < length es
    → b ≡ (has_bad_option (seen e) || has_boxes (seen e) && get_or marks i false) → is_badly_optioned (seen_list es) i (seen e) ≡ b
unfolding is_badly_optioned has_boxes_and_edges
badly_is es marks i e b marked h is =
    let long : length (seen_list es) ≡ length es = length_seen es in
    let mark : get_or marks i false ≡ has_level_edge (seen_list es) i (seen_list es) = marked i (omega arith) in
    sym (is ∙ ap (λ m. has_bad_option (seen e) || (has_boxes (seen e) && m)) mark)

pub returns : goal.returns
returns c = sym (badly_is c.args.elements.now c.args.marks.now c.args.place c.args.element.now c.is_badly_optioned.result c.requires.marked c.requires.within c.is_badly_optioned.ensures)
