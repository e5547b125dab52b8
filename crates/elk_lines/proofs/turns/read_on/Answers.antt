use Rattle.std.proofs.Common.{◌≡◌, ◌<◌, ◌∙◌, length, rules}
use Rattle.elk_lines.specs.Steps.{held}
use Rattle.elk_lines.proofs.Parting.{last_answer, one_past, only_one}
use Rattle.elk_lines.proofs.turns.read_on.Goals as goal

pub returns-then-count-eq0-clause-bytes : goal.returns-then-count-eq0-clause-bytes
returns-then-count-eq0-clause-bytes g c =
    let x = held c.refill.new.store in
    let none : length x ≡ 0 = search rules in (
      x,
      c.in-Ok.ensures.bytes.0,
      search rules,
      λ bytes h dr.
          last_answer c.args.longest bytes x c.args.draft.now (g.S.Source.left c.refill.new.src) c.last_of.result h dr none (search rules) c.last_of.ensures.long c.last_of.ensures.short c.last_of.ensures.empty,
    )

pub returns-then-store-limit-clause-bytes : goal.returns-then-store-limit-clause-bytes
returns-then-store-limit-clause-bytes g c =
    let x = held c.refill.new.store in
    let past : c.args.limit < c.refill.new.store.taken = search rules in
    let one = c.in-Ok.ensures.bytes.1 ∙ only_one c.args.store.now.taken c.args.limit c.room_for-room.result c.in-Ok.count c.refill.new.store.taken c.requires.taken c.room_for-room.ensures.within c.room_for-room.ensures.one c.in-Ok.ensures.count c.in-Ok.ensures.taken past in
    (x, c.in-Ok.ensures.bytes.0, search rules, λ bytes h dr. one_past bytes x h one)
