use Rattle.std.proofs.Common.{◌≡◌}
use Rattle.route_lines.specs.Points.{plain_gap}
use Rattle.route_lines.proofs.TraceExample.{near_gap, far_gap, is_trace, trace_near, gaps_in_range}
use Rattle.phase_tests.proofs.lines.section.Goals as goal

pub join-requires-clause-trace : goal.join-requires-clause-trace
join-requires-clause-trace c =
    let near : plain_gap c.in_ok-gap_of.field-0 ≡ near_gap = rw (c.pin.ensures, c.pin-2.ensures) at c.in_ok-gap_of.ensures in
    let far : plain_gap c.in_ok-gap_of-2.field-0 ≡ far_gap = rw (c.pin-3.ensures, c.pin-4.ensures) at c.in_ok-gap_of-2.ensures in
    rw (near, far, c.in_ok-steps.ensures.items) is_trace

pub join-requires-clause-gaps : goal.join-requires-clause-gaps
join-requires-clause-gaps c =
    let near : plain_gap c.in_ok-gap_of.field-0 ≡ near_gap = rw (c.pin.ensures, c.pin-2.ensures) at c.in_ok-gap_of.ensures in
    let far : plain_gap c.in_ok-gap_of-2.field-0 ≡ far_gap = rw (c.pin-3.ensures, c.pin-4.ensures) at c.in_ok-gap_of-2.ensures in
    gaps_in_range c.in_ok-gap_of.field-0 c.in_ok-gap_of-2.field-0 near far

pub join-requires-clause-points : goal.join-requires-clause-points
join-requires-clause-points c =
    let near : plain_gap c.in_ok-gap_of.field-0 ≡ near_gap = rw (c.pin.ensures, c.pin-2.ensures) at c.in_ok-gap_of.ensures in
    let far : plain_gap c.in_ok-gap_of-2.field-0 ≡ far_gap = rw (c.pin-3.ensures, c.pin-4.ensures) at c.in_ok-gap_of-2.ensures in
    trace_near c.in_ok-gap_of.field-0 c.in_ok-gap_of-2.field-0 c.in_ok-steps.steps.items near far c.in_ok-steps.ensures.items
