use Rattle.std.proofs.Common.{◌≡◌, take, drop, map, Some}
use Rattle.std.specs.Prelude.{filter}
use Rattle.elk_json.specs.Members.{is_node, is_port, is_edge}
use Rattle.elk_json.specs.Rules.{first_at}
use Rattle.elk_json.specs.Seen.{seen_list}
use Rattle.elk_write.specs.Placing.{given, box_at, level_at, place_at, section_at, is_unplaced}
use Rattle.elk_write.proofs.placing.drawing_of.Given as goal

abbrev pub invariant-loop-element : goal.invariant-loop-element
invariant-loop-element l = record {
  boxes : map (λ x. Some x) l.drawing.boxes.items ≡ given (box_at l.doc) 0 (filter is_node (seen_list (take l.element-index l.elements)));
  levels : map (λ x. Some x) l.drawing.levels.items ≡ given (level_at l.doc) 0 (filter is_node (seen_list (take l.element-index l.elements)));
  ports : map (λ x. Some x) l.drawing.ports.items ≡ given place_at 0 (filter is_port (seen_list (take l.element-index l.elements)));
  sections : map (λ x. Some x) l.drawing.sections.items ≡ given (section_at l.doc) 0 (filter is_edge (seen_list (take l.element-index l.elements)));
  first : first_at (is_unplaced l.doc (seen_list l.elements)) 0 (seen_list l.elements) ≡ first_at (is_unplaced l.doc (seen_list l.elements)) l.element-index (seen_list (drop l.element-index l.elements));
}
