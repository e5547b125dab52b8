use Rattle.std.proofs.Common.{◌≤◌, None, rules, length, refl}
use Rattle.cycle_break.proofs.Reaching.{search_started, all_seen}
use Rattle.cycle_break.proofs.searching.search.Goals as goal

pub entries-init : goal.entries-init
entries-init c =
    let s = search_started c.args.arena.now c.in_ok-work.work (record { node = c.args.to; via = None }) c.new-reached.result.items c.reach.new.reached.items c.args.index.now c.reach.new.index c.new-reached.ensures.items c.in_ok-reach.ensures.reached c.in_ok-reach.ensures.index c.in_ok-work.ensures c.requires.free c.requires.fits c.requires.goal refl in
    record { ready = s.0; searched = s.1 }

pub entries-preserved : goal.entries-preserved
entries-preserved c = record { ready = c.in_ok-gather.ensures.ready; searched = c.in_ok-gather.ensures.searched c.args.arena.now c.args.to.at c.entries.invariant.searched }

pub returns-clause-links : goal.returns-clause-links
returns-clause-links c = c.entries.invariant.ready.links

pub returns-clause-ways : goal.returns-clause-ways
returns-clause-ways c = c.entries.invariant.searched.ways

pub returns-clause-indexed : goal.returns-clause-indexed
returns-clause-indexed c = c.entries.invariant.searched.indexed

pub returns-clause-root : goal.returns-clause-root
returns-clause-root c = c.entries.invariant.searched.root

pub returns-clause-closed : goal.returns-clause-closed
returns-clause-closed c =
    let end : length c.entries.reached.items ≤ c.entries.next = search rules in
    all_seen c.args.arena.now c.entries.work c.args.to.at c.entries.next c.entries.reached.items c.entries.index c.entries.invariant.searched end

pub returns-clause-back : goal.returns-clause-back
returns-clause-back c = c.entries.invariant.searched.back
