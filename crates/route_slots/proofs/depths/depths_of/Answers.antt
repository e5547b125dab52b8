use Rattle.std.proofs.Common.{◌∙◌, List, ap, subst, length, arith}
use Rattle.route_slots.specs.declared.links.Link.{Link}
use Rattle.route_slots.specs.Links.{CutsOnCycles, LeadsLessDeep}
use Rattle.route_slots.proofs.Cycling.{lies_on_cycle, are_depths}
use Rattle.route_slots.proofs.depths.depths_of.Goals as goal

pub returns-clause-depths : goal.returns-clause-depths
returns-clause-depths c =
    let nets = c.args.nets.now in
    let heights = c.in_ok-heights.heights in
    let links = c.in_ok-links.links.items in
    let marks = c.in_ok-cuts.cuts.cut.items in
    let depths = c.in_ok-cuts.cuts.depths.items in
    let same = c.as_slice.ensures.value in
    are_depths nets heights links c.in_ok-heights.ensures c.in_ok-links.ensures marks depths
    (c.in_ok-cuts.ensures.one_for_each_link ∙ ap length same)
    (subst (λ (ls : List Link). CutsOnCycles ls marks) same c.in_ok-cuts.ensures.on_cycles)
    (subst (λ (ls : List Link). LeadsLessDeep ls marks depths) same c.in_ok-cuts.ensures.less_deep)

pub returns-clause-cycles : goal.returns-clause-cycles
returns-clause-cycles c =
    let nets = c.args.nets.now in
    let heights = c.in_ok-heights.heights in
    let links = c.in_ok-links.links.items in
    let marks = c.in_ok-cuts.cuts.cut.items in
    let same = c.as_slice.ensures.value in
    let len = c.in_ok-links.ensures.len in
    let cycles = subst (λ (ls : List Link). CutsOnCycles ls marks) same c.in_ok-cuts.ensures.on_cycles in
    λ k l e. lies_on_cycle nets heights links c.in_ok-heights.ensures c.in_ok-links.ensures k (omega arith) (cycles k (omega arith) e)
