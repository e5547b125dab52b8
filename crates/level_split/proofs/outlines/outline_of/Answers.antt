use Rattle.std.proofs.Common.{◌≡◌, ◌<◌, ◌+◌, ◌-◌, length, sym, subst, arith}
use Rattle.dock_table.specs.Narrow.{IsNearRect}
use Rattle.level_split.proofs.HullLemmas.{outline_more}
use Rattle.level_split.proofs.outlines.outline_of.Goals as goal

pub hull-outline-requires-clause-b_near : goal.hull-outline-requires-clause-b_near
hull-outline-requires-clause-b_near c =
    let some = c.ports-test.true in
    let within = c.ports.invariant.within in
    subst IsNearRect (sym c.port_rect.ensures) (c.requires.ports_near (c.ports.port - 1) (omega (arith, some, within)))

pub ports-preserved : goal.ports-preserved
ports-preserved c =
    let some = c.ports-test.true in
    let within = c.ports.invariant.within in
    let next : c.ports.port ≡ c.ports.port - 1 + 1 = omega (arith, some) in
    let inside : c.ports.port - 1 < length c.args.child.now.ports = omega (arith, some, within) in
    record {
      within = omega (arith, within);
      outline = outline_more c.args.child.now c.args.ports.now (c.ports.port - 1) c.ports.port (length c.args.child.now.ports) c.ports.outline c.port_rect.result c.hull-outline.result next inside c.ports.invariant.outline c.port_rect.ensures c.hull-outline.ensures.value;
      near = c.hull-outline.ensures.near;
    }
