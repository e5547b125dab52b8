use Rattle.std.proofs.Common.{subst, sym, true, ◌≡◌, ◌<◌, ℕ, List, length, rules}
use Rattle.route_slots.specs.declared.marks.Mark.{Mark}
use Rattle.net_routes.specs.Pieces.{net_at}
use Rattle.route_slots.specs.Marks.{mark_at, AreNetMarks}
use Rattle.route_slots.specs.Choosing.{AreInOrder, AreGood}
use Rattle.route_slots.proofs.MovedLemmas.{other_marks, good_marks}
use Rattle.route_slots.proofs.choosing.choose.Goals as goal

pub returns-clause-good : goal.returns-clause-good
returns-clause-good c =
    let nets = c.args.nets.now in
    let other = c.in_ok-other.other in
    c.lighter.ensures.good c.args.marks.now c.requires.good
    (good_marks nets c.args.marks.now c.in_ok-others.others.items c.requires.marks c.in_ok-others.ensures other.count other.routes.items
    (subst (λ ms. AreGood nets ms other.count other.routes.items) c.as_slice-3.ensures.value c.in_ok-other.ensures.good))

pub place-requires-clause-marks : goal.place-requires-clause-marks
place-requires-clause-marks c =
    let nets = c.args.nets.now in
    let yes : c.all_keep_order.result ≡ true = search rules in
    let keep =
    subst (λ (ms : List Mark). (j k : ℕ) → j < length c.args.nets.now → k < length c.args.nets.now → AreInOrder (net_at c.args.nets.now j) (mark_at ms j) (net_at c.args.nets.now k) (mark_at ms k)) c.as_slice-2.ensures.value (c.all_keep_order.ensures yes) in
    subst (AreNetMarks nets) (sym c.as_slice-3.ensures.value) (other_marks nets c.args.marks.now c.in_ok-others.others.items c.requires.marks c.in_ok-others.ensures keep)
