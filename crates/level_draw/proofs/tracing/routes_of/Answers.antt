use Rattle.std.proofs.lemmas.Result.{IfOk-weaker}
use Rattle.level_nets.specs.Held.{plain_gaps}
use Rattle.level_nets.specs.Reach.{parts_in}
use Rattle.level_nets.proofs.Reaching.{given_sheet}
use Rattle.level_draw.specs.Traced.{AreRead, AreRoutesOf, plain_traces}
use Rattle.level_draw.proofs.GivenLemmas.{given_linked, given_legs}
use Rattle.level_draw.proofs.Planning.{routes_planned}
use Rattle.level_draw.proofs.tracing.routes_of.Goals as goal

pub routes_in-requires-clause-sheet : goal.routes_in-requires-clause-sheet
routes_in-requires-clause-sheet c = given_sheet c.args.sheet.now c.requires.given c.requires.marked

pub routes_in-requires-clause-legs : goal.routes_in-requires-clause-legs
routes_in-requires-clause-legs c = given_legs (parts_in c.args.sheet.now) c.args.routing.now c.requires.given c.requires.legs

pub routes_in-requires-clause-linked : goal.routes_in-requires-clause-linked
routes_in-requires-clause-linked c = given_linked (parts_in c.args.sheet.now) c.requires.given

pub returns-clause-routes : goal.returns-clause-routes
returns-clause-routes c =
    let s = parts_in c.args.sheet.now in
    let r = c.args.routing.now in
    IfOk-weaker c.routes_in.result (λ v. AreRead s r v) (λ v. AreRoutesOf s r v)
    (λ v are. λ rows o layers planned legs. routes_planned s rows o layers planned r legs (plain_gaps r.gaps) v.boxes.items (plain_traces v.traces.items) are.boxes are.traces)
    c.routes_in.ensures.read
