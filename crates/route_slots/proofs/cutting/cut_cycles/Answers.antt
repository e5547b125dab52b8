use Rattle.std.proofs.Common.{⊎_elim, inl, inr, arith}
use Rattle.route_slots.proofs.WalkStepping.{few_done}
use Rattle.route_slots.proofs.cutting.cut_cycles.Goals as goal

pub returns-clause-below : goal.returns-clause-below
returns-clause-below c =
    let over = c.in_ok-walk.ensures in
    let places = c.in_ok-walk.walk.places.items in
    λ v l.
    let as_many = over.as_many in
    let len = over.walk.places_len in
    let few = few_done places in
    let deep = over.walk.below v (omega arith) (over.all_done v l) in omega arith

pub returns-clause-least : goal.returns-clause-least
returns-clause-least c =
    let over = c.in_ok-walk.ensures in
    λ v l.
    let as_many = over.as_many in
    ⊎_elim (λ z. inl z) (λ h. inr h.link) (over.walk.held v (omega arith))
