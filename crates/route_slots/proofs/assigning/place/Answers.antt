use Rattle.std.proofs.Common.{◌<◌, ◌≤ℤ◌, ◌∙◌, ℕ, List, sym, ap, subst, length, arith}
use Rattle.route_slots.specs.declared.slotting.Segment.{Segment}
use Rattle.route_slots.specs.Slotting.{segment_at, AreSlots}
use Rattle.route_slots.specs.Marks.{HaveSlots}
use Rattle.route_slots.proofs.Placing.{gap_free, all_proper, split_by_mark, apart, is_density, by_depths}
use Rattle.route_slots.proofs.Fewer.{few_slots}
use Rattle.route_slots.proofs.assigning.place.Goals as goal

pub slots_of-requires-clause-few : goal.slots_of-requires-clause-few
slots_of-requires-clause-few c =
    let len = c.in_ok-segments.ensures.len in
    let same = ap length c.as_slice.ensures.value in
    omega (arith, len, same)

pub slots_of-requires-clause-proper : goal.slots_of-requires-clause-proper
slots_of-requires-clause-proper c =
    subst (λ (ps : List Segment). (i : ℕ) → i < length ps → (segment_at ps i).low ≤ℤ (segment_at ps i).high) (sym c.as_slice.ensures.value)
    (all_proper c.args.nets.now c.args.marks.now c.args.middles.now c.in_ok-segments.segments.items c.in_ok-segments.ensures)

pub routes_of-requires-clause-places : goal.routes_of-requires-clause-places
routes_of-requires-clause-places c =
    ap length c.as_slice-2.ensures.value ∙ c.in_ok-standing.ensures.len ∙ ap length c.as_slice.ensures.value ∙ c.in_ok-segments.ensures.len

pub returns-clause-good : goal.returns-clause-good
returns-clause-good c =
    let nets = c.args.nets.now in
    let ms = c.args.marks.now in
    let hs = c.args.middles.now in
    let ps = c.in_ok-segments.segments.items in
    let ss = c.in_ok-standing.standing.slots.items in
    let count = c.in_ok-standing.standing.count in
    let rs = c.in_ok-routes.routes.items in
    let slots = subst (λ z. AreSlots z ss count) c.as_slice.ensures.value c.in_ok-standing.ensures in
    let placed = subst (λ z. HaveSlots nets ms hs z rs) c.as_slice-2.ensures.value c.in_ok-routes.ensures in
    let len = c.in_ok-segments.ensures.len in
    let few = few_slots ps ss count slots in
    record {
      free = gap_free nets ms hs ps ss count rs c.requires.marks c.in_ok-segments.ensures slots c.requires.middles placed;
      splits = split_by_mark nets ms hs ps ss count rs c.requires.marks c.in_ok-segments.ensures slots c.requires.middles placed;
      apart = apart nets ms hs ps ss count rs c.requires.marks c.in_ok-segments.ensures slots c.requires.middles placed;
      few = omega arith;
    }

pub returns-clause-density : goal.returns-clause-density
returns-clause-density c =
    let nets = c.args.nets.now in
    let ms = c.args.marks.now in
    let hs = c.args.middles.now in
    let ps = c.in_ok-segments.segments.items in
    let ss = c.in_ok-standing.standing.slots.items in
    let count = c.in_ok-standing.standing.count in
    let rs = c.in_ok-routes.routes.items in
    is_density nets ms hs ps ss count rs c.requires.marks c.in_ok-segments.ensures
    (subst (λ z. AreSlots z ss count) c.as_slice.ensures.value c.in_ok-standing.ensures)
    c.requires.middles
    (subst (λ z. HaveSlots nets ms hs z rs) c.as_slice-2.ensures.value c.in_ok-routes.ensures)

pub returns-clause-order : goal.returns-clause-order
returns-clause-order c =
    let nets = c.args.nets.now in
    let ms = c.args.marks.now in
    let hs = c.args.middles.now in
    let ps = c.in_ok-segments.segments.items in
    let ss = c.in_ok-standing.standing.slots.items in
    let count = c.in_ok-standing.standing.count in
    let rs = c.in_ok-routes.routes.items in
    by_depths nets ms hs ps ss count rs c.requires.marks c.in_ok-segments.ensures
    (subst (λ z. AreSlots z ss count) c.as_slice.ensures.value c.in_ok-standing.ensures)
    c.requires.middles
    (subst (λ z. HaveSlots nets ms hs z rs) c.as_slice-2.ensures.value c.in_ok-routes.ensures)
