-- Ranges of sizes and places, and how many elements there may be.
use Rattle.std.specs.Prelude.{ℕ, suc, ◌^◌, List, length, filter, max, codes, Bool, true, false, not, ◌&&◌, ◌||◌, nat_lt, if◌then◌else◌}
use Rattle.std.specs.Prelude.{bytes_eq, ℤ, pos, neg_ℤ}
use Rattle.std.specs.Option.{option_map_or}
use Rattle.serde_json.specs.Data.{Data, null, boolean, number, string, array, object, Items, no_items, item, Members, no_members, member}
use Rattle.elk_doc.specs.declared.document.PortRule.{PortRule}
use Rattle.elk_doc.specs.declared.document.PortRule.TheVariants as rule
use Rattle.drawing_types.specs.declared.shape.Side.{Side}
use Rattle.drawing_types.specs.declared.shape.Side.TheVariants as side
use Rattle.elk_json.specs.Elements.{Element}
use Rattle.elk_json.specs.Members.{is_node, is_port, is_edge, is_compound, is_at_compound, whole_at, has_bad_option, options_at}
use Rattle.elk_json.specs.Members.{holder_has_bad_option, holder_options, is_between}

unfoldable pub is_size : ℤ → Bool
is_size z = is_between (pos 0) (pos (2 ^ 20)) z

unfoldable pub is_near : ℤ → Bool
is_near z = is_between (neg_ℤ (pos (2 ^ 20))) (pos (2 ^ 20)) z

unfoldable pub is_far : ℤ → Bool
is_far z = is_between (neg_ℤ (pos (2 ^ 53))) (pos (2 ^ 53)) z

unfoldable pub has_good_size : Data → Bool
has_good_size d = is_size (whole_at (codes "width") d) && is_size (whole_at (codes "height") d)

abbrev pub is_fixed_pos : PortRule → Bool
is_fixed_pos rule.Free = false
is_fixed_pos rule.FixedSide = false
is_fixed_pos rule.FixedOrder = false
is_fixed_pos rule.FixedPos = true

-- the place along a side
abbrev pub along : Side → Data → ℤ
along side.North d = whole_at (codes "x") d
along side.South d = whole_at (codes "x") d
along side.East d = whole_at (codes "y") d
along side.West d = whole_at (codes "y") d

-- the options of the port and of its node are in their tables, and the node keeps its ports where they are
abbrev pub is_at_fixed_pos : Element → Bool
is_at_fixed_pos e = not (holder_has_bad_option e) && not (has_bad_option e) && is_fixed_pos (holder_options e).rule

-- a port with a side at such a compound node has a place near by along that side
unfoldable pub has_good_pin : Element → Bool
has_good_pin e = not (is_at_fixed_pos e) || option_map_or (λ s. is_near (along s e.value)) (options_at e).side true

unfoldable pub has_good_place : Element → Bool
has_good_place e =
    if is_at_compound e
    then is_far (whole_at (codes "x") e.value) && is_far (whole_at (codes "y") e.value) && has_good_pin e
    else is_near (whole_at (codes "x") e.value) && is_near (whole_at (codes "y") e.value)

unfoldable pub is_out_of_range : Element → Bool
is_out_of_range e =
    (is_node e && not (is_compound e) && not (has_good_size e.value))
    || (is_port e && not (has_good_size e.value && has_good_place e))

-- ---- how many

abbrev pub are_too_many : List Element → Bool
are_too_many es =
    nat_lt 2048 (length (filter is_node es)) || nat_lt 4096 (length (filter is_port es)) || nat_lt 2048 (length (filter is_edge es))

-- ---- how deep: the levels on the longest path from a node that is not the root

abbrev mutual
  pub levels : Data → ℕ
  levels null = 0
  levels (boolean b) = 0
  levels (number n) = 0
  levels (string s) = 0
  levels (array ds) = 0
  levels (object ms) = levels_below ms

  pub levels_below : Members → ℕ
  levels_below no_members = 0
  levels_below (member k d ms) = if bytes_eq k (codes "children") then levels_within d else levels_below ms

  pub levels_within : Data → ℕ
  levels_within null = 0
  levels_within (boolean b) = 0
  levels_within (number n) = 0
  levels_within (string s) = 0
  levels_within (array ds) = levels_among ds
  levels_within (object ms) = 0

  -- of children: none is no level
  pub levels_among : Items → ℕ
  levels_among no_items = 0
  levels_among (item d ds) = max (suc (levels d)) (levels_among ds)

-- the root has a level in any case
abbrev pub is_too_deep : Data → Bool
is_too_deep d = nat_lt 50 (max 1 (levels d))
