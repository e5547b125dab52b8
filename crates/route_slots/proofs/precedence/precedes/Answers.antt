use Rattle.std.proofs.Common.{◌≡◌, ◌≢◌, ◌∙◌, true, sym, rules}
use Rattle.net_routes.specs.Pieces.{net_at}
use Rattle.net_routes.specs.GapFree.{IsStraightNet}
use Rattle.route_slots.proofs.Ordered.{precedes_by, precedes_not, not_apart}
use Rattle.route_slots.proofs.precedence.precedes.Goals as goal

pub returns-then-keep_apart-clause-no : goal.returns-then-keep_apart-clause-no
returns-then-keep_apart-clause-no c =
    let yes : c.keep_apart.result ≡ true = search rules in
    λ e. not_apart c.args.nets.now c.args.first c.args.second (c.keep_apart.ensures yes)

pub returns-clause-yes : goal.returns-clause-yes
returns-clause-yes c =
    let nets = c.args.nets.now in
    let bent : IsStraightNet (net_at c.args.nets.now c.args.first) → ⊥ = search rules in
    let other : IsStraightNet (net_at c.args.nets.now c.args.second) → ⊥ = search rules in
    let two : c.args.first ≢ c.args.second = search rules in
    λ e. precedes_by nets c.args.first c.args.second c.requires.first c.requires.second two bent other (sym c.stands_first.ensures ∙ e)

pub returns-clause-no : goal.returns-clause-no
returns-clause-no c = λ e. precedes_not c.args.nets.now c.args.first c.args.second (sym c.stands_first.ensures ∙ e)
