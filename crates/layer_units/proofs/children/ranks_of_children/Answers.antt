use Rattle.std.proofs.Common.{◌+◌, ◌<◌, [], ◌∷◌, ap, arith, length, map, sym, subst, ◌∙◌}
use Rattle.std.proofs.lemmas.List.{get_or_read, map-append}
use Rattle.port_order.specs.Conditions.{IsChild}
use Rattle.level_model.specs.Conditions.{plain_level}
use Rattle.level_model.specs.Level.{child_at}
use Rattle.layer_units.specs.Levels.{AreRanksTo}
use Rattle.layer_units.specs.Ports.{plain_ranks}
use Rattle.layer_units.proofs.PassingLemmas.{ports_seen}
use Rattle.layer_units.proofs.RankReadLemmas.{ranks_pushed, ranks_seen}
use Rattle.layer_units.proofs.children.ranks_of_children.Goals as goal

pub ranks_of_child-requires-clause-child : goal.ranks_of_child-requires-clause-child
ranks_of_child-requires-clause-child c =
    let l = plain_level c.args.level.now in
    let test = c.loop-c-test.true in
    let same = c.len-count.ensures in
    let h : c.loop-c.c < length l.children = omega (arith, test, same) in
    let child = get_or_read l.children c.loop-c.c c.at-child.result.now h c.at-child.ensures (child_at (record { children = []; edges = []; spacing = l.spacing; choices = l.choices }) 0) in
    subst IsChild (sym child) (c.requires.level.children c.loop-c.c h).sound

pub ranks_of_child-requires-clause-spots : goal.ranks_of_child-requires-clause-spots
ranks_of_child-requires-clause-spots c =
    let l = plain_level c.args.level.now in
    let test = c.loop-c-test.true in
    let same = c.len-count.ensures in
    let h : c.loop-c.c < length l.children = omega (arith, test, same) in
    let child = get_or_read l.children c.loop-c.c c.at-child.result.now h c.at-child.ensures (child_at (record { children = []; edges = []; spacing = l.spacing; choices = l.choices }) 0) in
    ports_seen l c.args.marks.now c.loop-c.c c.at-child.result.now c.at.result.now c.requires.level child (c.at.ensures ∙ c.in_ok-spots.ensures.row_is c.loop-c.c h)

pub loop-c-preserved : goal.loop-c-preserved
loop-c-preserved c =
    let l = plain_level c.args.level.now in
    let test = c.loop-c-test.true in
    let same = c.len-count.ensures in
    let h : c.loop-c.c < length l.children = omega (arith, test, same) in
    let child = get_or_read l.children c.loop-c.c c.at-child.result.now h c.at-child.ensures (child_at (record { children = []; edges = []; spacing = l.spacing; choices = l.choices }) 0) in
    subst (AreRanksTo l c.args.marks.now (c.loop-c.c + 1))
    (sym (ap (map plain_ranks) c.in_ok-push.ensures.items ∙ map-append plain_ranks c.loop-c.ranks.items (c.in_ok-own.own ∷ [])))
    (ranks_pushed l c.args.marks.now c.loop-c.c (map plain_ranks c.loop-c.ranks.items) (plain_ranks c.in_ok-own.own)
    (ranks_seen l c.args.marks.now c.loop-c.c c.at-child.result.now c.at.result.now (plain_ranks c.in_ok-own.own) child (c.at.ensures ∙ c.in_ok-spots.ensures.row_is c.loop-c.c h) c.in_ok-own.ensures)
    c.loop-c.invariant)
