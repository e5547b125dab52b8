-- Numbers of elements by place.
use Rattle.std.specs.Prelude.{ℕ, ◌+◌, List, length, map, Bool}
use Rattle.std.specs.List.{range_with_len}
use Rattle.elk_json.specs.declared.elements.Kind.{Kind}
use Rattle.elk_json.specs.declared.elements.Kind.TheVariants.{Node, Port, Edge}
use Rattle.elk_json.specs.Elements.{Element}
use Rattle.elk_json.specs.Members.{is_node, is_port, is_edge}
use Rattle.elk_json.specs.Document.{number_at}

abbrev pub of_kind : Kind → Element → Bool
of_kind Node = is_node
of_kind Port = is_port
of_kind Edge = is_edge

-- how many elements of a kind stand before each place, and before the end
abbrev pub counts : (Element → Bool) → List Element → List ℕ
counts kind es = map (number_at kind es) (range_with_len 0 (length es + 1))
