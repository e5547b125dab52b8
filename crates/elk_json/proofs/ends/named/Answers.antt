use Rattle.std.proofs.Common.{ap, sym, ◌∙◌}
use Rattle.std.specs.Prelude.{option_map}
use Rattle.serde_json.specs.View.{view}
use Rattle.elk_json.specs.Keys.{key_id}
use Rattle.elk_json.specs.Seen.{seen_list}
use Rattle.elk_json.proofs.Firsts.{named_none, named_first}
use Rattle.elk_json.proofs.ends.named.Goals as goal

pub returns-in-None : goal.returns-in-None
returns-in-None c = sym (named_none (seen_list c.args.list.now.elements.now) (view c.args.id.now) (sym c.key_from.ensures ∙ ap (option_map key_id) c.in-None.is))

pub returns-in-Some : goal.returns-in-Some
returns-in-Some c = c.first_of.ensures ∙ sym (named_first (seen_list c.args.list.now.elements.now) (view c.args.id.now) (key_id c.in-Some.key) (sym c.key_from.ensures ∙ ap (option_map key_id) c.in-Some.is))
