use Rattle.std.proofs.Common.{◌≡◌, ℕ, List, length, Option, Some, None, refl, ap, sym, ◌∙◌}
use Rattle.std.specs.Prelude.{slice_get, option_map}
use Rattle.std.specs.Slice.{IsItemAt}
use Rattle.std.proofs.lemmas.Option.{slice_get-map, slice_get_read, slice_get_past}
use denote.Ref.{Bor}
use Rattle.elk_json.specs.declared.elements.Element.{Element}
use Rattle.elk_json.specs.Seen.{seen, seen_list}
use Rattle.elk_json.proofs.ends.element_at.Goals as goal

item_seen : (es : List Element) (i : ℕ) (r : Option (Bor Element)) → IsItemAt es i r → option_map (λ e. seen e.now) r ≡ slice_get (seen_list es) i
item_seen es i None h = sym (slice_get-map seen es i ∙ ap (option_map seen) (slice_get_past es i h.3))
item_seen es i (Some x) h = sym (slice_get-map seen es i ∙ ap (option_map seen) (slice_get_read es (length es) i x.now refl h.3.0 h.1))

pub returns : goal.returns
returns c = item_seen c.args.list.now.elements.now c.args.place c.get.result c.get.ensures.lookup
