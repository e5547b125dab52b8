use Rattle.std.proofs.Common.{◌≡◌, ◌++◌, drop, Option}
use Rattle.std.specs.Prelude.{option_map}
use Rattle.std.specs.Fn.{FnReturnsAt}
use Rattle.serde_json.specs.Data.{Data}
use Rattle.serde_json.specs.View.{view, items_view}
use Rattle.serde_json.specs.declared.value.Value.{Value}
use Rattle.elk_write.specs.Reading.{all_in}
use Rattle.elk_write.proofs.reading.read_each.Given as goal

abbrev pub invariant-loop-item : goal.invariant-loop-item
invariant-loop-item g l =
    (spec : Data → Option _) → ((v : Value) (r : Option _) → FnReturnsAt g.F.Fn l.read v r → r ≡ spec (view v))
    → option_map (λ xs. l.parts.items ++ xs) (all_in spec (items_view (drop l.item-index l.item-items))) ≡ all_in spec (items_view l.item-items)
