-- Which rule refuses a value, and where: the first rule that holds, and the first element of which it holds.
use Rattle.std.specs.Prelude.{ℕ, ◌+◌, List, [], ◌∷◌, codes, find, Bool, false, not, ◌&&◌, ◌||◌, nat_eq, if◌then◌else◌, Option, Some, None}
use Rattle.std.specs.Prelude.{option_map, ◌+ℤ◌, pos, int_lt}
use Rattle.std.specs.Option.{option_map_or, option_or, option_eq}
use Rattle.std.specs.List.{list_any}
use Rattle.serde_json.specs.Data.{Data}
use Rattle.drawing_types.specs.declared.shape.Side.{Side}
use Rattle.drawing_types.specs.declared.shape.Side.TheVariants as side
use Rattle.elk_json.specs.declared.fault.Rule.{Rule}
use Rattle.elk_json.specs.declared.fault.Rule.TheVariants as rules
use Rattle.elk_json.specs.declared.fault.Refusal.{Refusal}
use Rattle.elk_json.specs.Whole.{all_whole}
use Rattle.elk_json.specs.Elements.{Element, elements}
use Rattle.elk_json.specs.Members.{is_port, is_edge, is_compound, is_at_compound, whole_at, id_of, has_bad_option, options_at}
use Rattle.elk_json.specs.Shape.{has_bad_shape}
use Rattle.elk_json.specs.Ranges.{is_out_of_range, are_too_many, is_too_deep, is_at_fixed_pos}
use Rattle.elk_json.specs.Ends.{first_double, has_known_ends, is_hyperedge, is_cross_level, level_of_edge}

-- ---- values of options

-- the node's level is one of boxes
abbrev pub has_boxes : Element → Bool
has_boxes e = is_compound e && option_map_or (λ l. l.boxes) (options_at e).level false

-- and has an edge
unfoldable pub has_boxes_and_edges : List Element → ℕ → Element → Bool
has_boxes_and_edges es place e =
    is_compound e && option_map_or (λ l. l.boxes) (options_at e).level false
    && list_any (λ f. is_edge f && option_eq nat_eq (level_of_edge es f.value) (Some place)) es

unfoldable pub is_badly_optioned : List Element → ℕ → Element → Bool
is_badly_optioned es place e = has_bad_option e || has_boxes_and_edges es place e

-- the first element that passes a test of its place and of itself
abbrev pub first_at : (ℕ → Element → Bool) → ℕ → List Element → Option Element
first_at test place [] = None
first_at test place (e ∷ es) = if test place e then Some e else first_at test (place + 1) es

-- ---- ports inside their node

-- the outer face lies strictly inside
unfoldable pub has_face_inside : Side → Data → Data → Bool
has_face_inside side.West node port = int_lt (pos 0) (whole_at (codes "x") port)
has_face_inside side.East node port = int_lt (whole_at (codes "x") port +ℤ whole_at (codes "width") port) (whole_at (codes "width") node)
has_face_inside side.North node port = int_lt (pos 0) (whole_at (codes "y") port)
has_face_inside side.South node port = int_lt (whole_at (codes "y") port +ℤ whole_at (codes "height") port) (whole_at (codes "height") node)

-- it reaches none of the four sides
unfoldable pub lies_inside : Data → Data → Bool
lies_inside node port =
    has_face_inside side.West node port && has_face_inside side.East node port && has_face_inside side.North node port
    && has_face_inside side.South node port

abbrev pub is_side_inside : Option Side → Element → Bool
is_side_inside s e = option_map_or (λ t. has_face_inside t e.holder e.value) s (lies_inside e.holder e.value)

-- where an option is bad, an earlier rule holds
abbrev pub is_placed_inside : Element → Bool
is_placed_inside e = is_at_fixed_pos e && is_side_inside (options_at e).side e

unfoldable pub is_port_inside : Element → Bool
is_port_inside e = is_port e && (not (is_at_compound e) && is_placed_inside e)

-- ---- the first rule

abbrev pub if_so : Rule → Bool → Option Refusal
if_so r holds = if holds then Some (record { rule = r; place = None }) else None

abbrev pub at : Rule → Option Element → Option Refusal
at r o = option_map (λ e. record { rule = r; place = id_of e.value }) o

-- the rules on the whole value, in their order
unfoldable pub value_refusal : Data → Option Refusal
value_refusal d =
    let es = elements d in
    option_or (if_so rules.NotWhole (not (all_whole d)))
    (option_or (if_so rules.BadShape (has_bad_shape es))
    (option_or (at rules.OutOfRange (find is_out_of_range es))
    (option_or (if_so rules.TooMany (are_too_many es))
    (if_so rules.TooDeep (is_too_deep d)))))

-- the rules on ids and edges
unfoldable pub edge_refusal : List Element → Option Refusal
edge_refusal es =
    option_or (at rules.DoubleId (first_double [] es))
    (option_or (at rules.UnknownEnd (find (λ e. is_edge e && not (has_known_ends es e.value)) es))
    (option_or (at rules.Hyperedge (find (λ e. is_edge e && is_hyperedge e.value) es))
    (at rules.CrossLevel (find (λ e. is_edge e && is_cross_level es e.value) es))))

-- the rules on options and on ports inside their node
unfoldable pub option_refusal : List Element → Option Refusal
option_refusal es =
    option_or (at rules.OptionValue (first_at (is_badly_optioned es) 0 es))
    (at rules.PortInside (find is_port_inside es))

-- the first rule that holds, and its place
unfoldable pub refused : Data → Option Refusal
refused d = option_or (value_refusal d) (option_or (edge_refusal (elements d)) (option_refusal (elements d)))
