use Rattle.std.proofs.Common.{take, ap, sym, ◌∙◌}
use Rattle.std.specs.Prelude.{option_map}
use Rattle.elk_json.specs.Keys.{key_id}
use Rattle.elk_json.specs.Seen.{seen, seen_list}
use Rattle.elk_json.proofs.Firsts.{double_none, double_there}
use Rattle.elk_json.proofs.ids.stood_before.Goals as goal

pub returns-in-None : goal.returns-in-None
returns-in-None c = sym (double_none (seen c.args.element.now) (seen_list (take c.args.place c.args.list.now.elements.now)) (sym c.args.element.now.keyed ∙ ap (option_map key_id) c.in-None.is))

pub returns-in-Some : goal.returns-in-Some
returns-in-Some c =
    double_there c.args.element.now c.in-Some.key c.args.place c.args.list.now.elements.now c.is_of.result c.first_of.result c.is_before.result c.in-Some.is c.is_of.ensures c.first_of.ensures c.is_before.ensures
