use Rattle.std.proofs.Common.{◌≡◌, ◌+◌, length, vec_len, true, false, sym, subst, refl, arith, rules}
use Rattle.std.proofs.lemmas.List.{nil_from_length}
use Rattle.std.specs.Ordering.{is_eq}
use Rattle.std.specs.List.{list_any}
use Rattle.std.specs.BTreeSet.{btree_set_len, Updates, IsLowerBound}
use Rattle.route_slots.specs.Slotting.{key_cmp, has_key, segment_at, end_cmp, Takes}
use Rattle.route_slots.proofs.Taking.{none_slotted, key_inside, key_slotted, all_slotted}
use Rattle.route_slots.proofs.slotting.slots_of.Goals as goal

pub segments-init : goal.segments-init
segments-init c =
    let len : length c.in_ok-slots.slots.items ≡ length c.args.segments.now = search rules in
    none_slotted c.args.segments.now c.in_ok-slots.slots.items c.in_ok-waiting.waiting _ refl
    (λ q. subst (λ ks. list_any (λ k. is_eq (end_cmp q k)) ks ≡ false) (sym c.new.ensures.empty) refl) len c.in_ok-waiting.ensures

pub bounds-segments-number : goal.bounds-segments-number
bounds-segments-number c =
    let member : has_key c.segments.waiting c.in-Some.key ≡ true = search rules in
    key_inside _ _ _ _ c.segments.invariant c.in-Some.key member

pub index_mut-requires : goal.index_mut-requires
index_mut-requires c =
    let member : has_key c.segments.waiting c.in-Some.key ≡ true = search rules in
    let below = key_inside _ _ _ _ c.segments.invariant c.in-Some.key member in
    let len = c.segments.invariant.len in
    let same : vec_len c.segments.slots ≡ length c.segments.slots.items = search rules in omega arith

pub segments-preserved : goal.segments-preserved
segments-preserved c =
    let member : has_key c.segments.waiting c.in-Some.key ≡ true = search rules in
    let least : IsLowerBound key_cmp c.segments.waiting c.in-Some.key = search rules in
    let takes : Updates key_cmp c.segments.waiting c.pop_first.new.self c.in-Some.key false = search rules in
    let fewer : btree_set_len c.pop_first.new.self + 1 ≡ btree_set_len c.segments.waiting = search rules in
    let taken : Takes c.segments.row c.take.new.row (segment_at c.args.segments.now c.in-Some.key.1.1) c.in_ok-slots-2.field-0 = search rules in
    let depth : c.take.new.row.depth ≡ (segment_at c.args.segments.now c.in-Some.key.1.1).depth = search rules in
    key_slotted c.args.segments.now c.segments.slots.items c.segments.waiting c.pop_first.new.self c.segments.row c.take.new.row c.in-Some.key c.in_ok-slots-2.field-0
    c.segments.invariant member least takes fewer taken depth c.requires.proper

pub returns : goal.returns
returns c =
    let none : length c.segments.waiting.keys ≡ 0 = search rules in
    all_slotted c.args.segments.now c.segments.slots.items c.segments.waiting c.segments.row c.segments.invariant
    (λ q. subst (λ ks. list_any (λ k. is_eq (key_cmp q k)) ks ≡ false) (sym (nil_from_length c.segments.waiting.keys none)) refl)
