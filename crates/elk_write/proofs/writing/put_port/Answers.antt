use Rattle.std.proofs.Common.{◌≡◌, false, option_map, sym, ap, ◌∙◌, subst}
use Rattle.std.proofs.lemmas.Result.{on_ok_weaker}
use Rattle.serde_json.specs.Data.{object}
use Rattle.serde_json.specs.View.{view, members_view}
use Rattle.serde_json.proofs.Views.{view-Object}
use Rattle.elk_write.specs.Keys.{is_flat_key}
use Rattle.elk_write.specs.Strip.{members_but}
use Rattle.elk_write.specs.Answered.{port_answer}
use Rattle.elk_write.specs.Tokens.{tokens_of, Adds}
use Rattle.elk_write.specs.Merged.{own_members, puts, point_members}
use Rattle.elk_write.proofs.Merging.{port_object}
use Rattle.elk_write.proofs.writing.put_port.Goals as goal

pub returns-in_ok-own-in-Object : goal.returns-in_ok-own-in-Object
returns-in_ok-own-in-Object c =
    let place = option_map (λ p. p.now) c.args.place in
    let ms = members_view c.in-Object.members.entries in
    let seen : view c.args.port.now ≡ object ms = ap view c.in-Object.is ∙ view-Object c.in-Object.members in
    let own : own_members c.as_slice.result.now ≡ point_members place = ap own_members c.as_slice.ensures.value ∙ c.in_ok-own-in-Object.ensures in
    on_ok_weaker c.put_flat.result
    (λ a. subst (λ d. Adds c.args.out.now c.put_flat.new.out (tokens_of d)) (port_object place ms a.0 ∙ ap (port_answer place) (sym seen))
    (subst (λ os. Adds c.args.out.now c.put_flat.new.out (tokens_of (object (puts os (members_but (is_flat_key false) ms))))) own a.1))
    c.put_flat.ensures
