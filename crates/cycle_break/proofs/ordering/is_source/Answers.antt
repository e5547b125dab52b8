use Rattle.std.proofs.Common.{◌≡◌, Bool, true, false, not, sym, ap, ◌∙◌}
use Rattle.cycle_break.proofs.Keys.{key_is}
use Rattle.cycle_break.proofs.ordering.is_source.Goals as goal

is_reversed : (a b : Bool) → a ≡ not b → b ≡ not a
is_reversed a true h = sym (ap not h)
is_reversed a false h = sym (ap not h)

pub returns : goal.returns
returns c = is_reversed _ c.is_none.result c.is_none.ensures ∙ ap not (key_is _ c.first_in.result c.first_in.ensures)
