use Rattle.std.proofs.Common.{◌≡◌, ⊎_elim, inl, inr, true, sym, rules}
use Rattle.std.specs.BTreeSet.{Updates}
use Rattle.route_slots.specs.Slotting.{key_cmp, key_of}
use Rattle.route_slots.proofs.Keys.{same_key, added_from, added_kept}
use Rattle.route_slots.proofs.slotting.insert_segment.Goals as goal

pub returns-in_ok-insert-clause-from : goal.returns-in_ok-insert-clause-from
returns-in_ok-insert-clause-from c =
    let u : Updates key_cmp c.args.waiting.now c.insert.new.self (key_of c.args.segment c.args.number) true = search rules in
    let real : c.args.segment.real ≡ true = search rules in
    λ q h. ⊎_elim
    (λ old. inl old)
    (λ e. inr (real, sym (same_key (key_of c.args.segment c.args.number) q e)))
    (added_from _ _ _ (u.0 q) h)

pub returns-in_ok-insert-clause-kept : goal.returns-in_ok-insert-clause-kept
returns-in_ok-insert-clause-kept c =
    let u : Updates key_cmp c.args.waiting.now c.insert.new.self (key_of c.args.segment c.args.number) true = search rules in
    λ q h. added_kept _ _ _ (u.0 q) h

pub returns-in_ok-insert-clause-added : goal.returns-in_ok-insert-clause-added
returns-in_ok-insert-clause-added c =
    let u : Updates key_cmp c.args.waiting.now c.insert.new.self (key_of c.args.segment c.args.number) true = search rules in
    λ real. u.1
