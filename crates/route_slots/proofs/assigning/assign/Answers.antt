use Rattle.std.proofs.Common.{◌∙◌, ◌≤◌, List, length, Result, Ok, Err, IfOk, sym, subst, arith}
use Rattle.net_routes.specs.declared.Net.{Net}
use Rattle.std.proofs.lemmas.Result.{IfOk-weaker}
use Rattle.std.specs.declared.alloc.AllocError.{AllocError}
use Rattle.net_routes.specs.declared.Slots.{Slots}
use Rattle.net_routes.specs.Limits.{exchange_limit}
use Rattle.net_routes.specs.Promised.{AreFewest}
use Rattle.route_slots.specs.Exchanges.{AreLaid}
use Rattle.net_routes.specs.Exchanges.{NoBetterExchange}
use Rattle.route_slots.specs.Depths.{depth}
use Rattle.net_routes.specs.Conflicts.{HasNoConflict}
use Rattle.net_routes.specs.Density.{IsDensity}
use Rattle.route_slots.specs.Marks.{AreFlat}
use Rattle.route_slots.specs.Choosing.{AreGood}
use Rattle.route_slots.proofs.DepthLemmas.{are_flat}
use Rattle.route_slots.proofs.MovedLemmas.{laid}
use Rattle.route_slots.proofs.assigning.assign.Goals as goal

pub settle-requires-clause-slots : goal.settle-requires-clause-slots
settle-requires-clause-slots c = let few = c.in_ok-chosen.ensures.good.few in let n = c.requires.few in omega (arith, few, n)

pub settle-requires-clause-laid : goal.settle-requires-clause-laid
settle-requires-clause-laid c =
    let nets = c.args.nets.now in
    let depths = c.in_ok-depths.depths in
    let slots = c.in_ok-chosen.chosen in
    laid nets depths.splits.items (depth depths) c.in_ok-marks.marks.items slots.count slots.routes.items c.in_ok-marks.ensures.marked c.in_ok-depths.ensures.cycles
    (subst (λ ms. AreGood c.args.nets.now ms slots.count slots.routes.items) c.as_slice-4.ensures.value c.in_ok-chosen.ensures.good)

-- an answer that has all four
joined : (nets : List Net) (r : Result Slots AllocError) → IfOk r (λ s. AreLaid nets s.count s.routes.items) → IfOk r (λ s. HasNoConflict nets → IsDensity nets s.count)
    → IfOk r (λ s. length nets ≤ exchange_limit → NoBetterExchange nets s.count s.routes.items) → IfOk r (λ s. AreFewest nets s.count s.routes.items)
joined nets (Ok s) is density none = record { free = is.free; apart = is.apart; splits = is.splits; density = density; exchanges = none }
joined nets (Err e) is density none = is

pub returns : goal.returns
returns c =
    let nets = c.args.nets.now in
    let depths = c.in_ok-depths.depths in
    let ms = c.in_ok-marks.marks.items in
    let e = c.in_ok-depths.ensures in
    let flat = λ (none : HasNoConflict nets). are_flat nets depths.splits.items (depth depths) ms e.depths c.in_ok-marks.ensures.marked e.held e.cycles none in
    let density = IfOk-weaker c.settle.result _ (λ s. HasNoConflict nets → IsDensity nets s.count)
    (λ settled same none.
    subst (IsDensity nets) (sym (same ∙ c.in_ok-chosen.ensures.count (subst (AreFlat nets) (sym c.as_slice-4.ensures.value) (flat none))))
    (c.in_ok-slots.ensures.density (subst (AreFlat nets) (sym c.as_slice-2.ensures.value) (flat none))))
    c.settle.ensures.count in
    joined nets c.settle.result c.settle.ensures.laid density c.settle.ensures.none
