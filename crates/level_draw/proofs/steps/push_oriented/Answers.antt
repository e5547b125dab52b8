use Rattle.std.proofs.Common.{not, ap}
use Rattle.level_model.specs.Level.{end_at}
use Rattle.level_nets.specs.Reach.{parts_in}
use Rattle.level_draw.specs.Read.{steps_out, steps_in}
use Rattle.level_draw.proofs.Walking.{three_more}
use Rattle.level_draw.proofs.steps.push_oriented.Goals as goal

pub returns : goal.returns
returns c =
    let s = parts_in c.args.sheet.now in
    three_more _ _ _ _ _ _ _ _ _ c.in_ok-push_leaving.ensures c.in_ok-push_chain.ensures c.in_ok-push_entering.ensures
    (ap (λ b. steps_out s c.args.routing.now (end_at c.args.edge (not b))) c.runs_reversed-is_reversed.ensures)
    (ap (λ b. steps_in s c.args.routing.now (end_at c.args.edge b)) c.runs_reversed-is_reversed.ensures)
