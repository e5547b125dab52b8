use Rattle.std.proofs.Common.{◌≡◌, true, false, rules, arith}
use Rattle.route_slots.proofs.Swapping.{apart_after, not_apart}
use Rattle.route_slots.proofs.Differing.{changed}
use Rattle.route_slots.proofs.Blocking.{held, not_held}
use Rattle.route_slots.proofs.exchanging.improves.Goals as goal

pub returns-then-change-clause-none : goal.returns-then-change-clause-none
returns-then-change-clause-none c =
    let nets = c.args.nets.now in
    let old = c.args.routes.now in
    λ e others swaps apart.
    let sum = changed nets c.args.slot old others swaps c.requires.len in
    let before = c.whole_change-change.ensures.before in
    let after = c.whole_change-change.ensures.after in
    omega arith

pub returns-clause-better : goal.returns-clause-better
returns-clause-better c =
    let nets = c.args.nets.now in
    let old = c.args.routes.now in
    let s = c.args.slot in
    λ e others swaps.
    let sum = changed nets s old others swaps c.requires.len in
    let before = c.whole_change-change.ensures.before in
    let after = c.whole_change-change.ensures.after in
    let clear : c.is_blocked.result ≡ false = search rules in (
      omega arith,
      λ apart. apart_after nets 0 s old others swaps c.requires.len apart
          (λ j k jl kl ne b. not_held nets old s j k (c.is_blocked.ensures.none clear j k jl kl) ne b),
    )

pub returns-clause-none : goal.returns-clause-none
returns-clause-none c =
    let nets = c.args.nets.now in
    let old = c.args.routes.now in
    let s = c.args.slot in
    λ e others swaps apart.
    let blocked : c.is_blocked.result ≡ true = search rules in
    let w = c.is_blocked.ensures.some blocked in
    let h = held nets old s w.0 w.1 w.4 in
    absurd (not_apart nets 0 s old others swaps c.requires.len apart w.0 w.1 w.2 w.3 h.0 h.1)
