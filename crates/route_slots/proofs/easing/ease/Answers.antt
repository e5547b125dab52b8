use Rattle.std.proofs.Common.{◌≡◌, ◌⊎◌, ⊎_elim, ◌≤◌, List, length, Result, Ok, Err, IfOk, sym, subst}
use Rattle.std.specs.declared.alloc.AllocError.{AllocError}
use Rattle.net_routes.specs.declared.Net.{Net}
use Rattle.net_routes.specs.declared.Slots.{Slots}
use Rattle.net_routes.specs.Density.{IsDensity}
use Rattle.route_slots.specs.Exchanges.{AreLaid}
use Rattle.net_routes.specs.Exchanges.{NoBetterExchange}
use Rattle.net_routes.specs.Limits.{exchange_limit}
use Rattle.net_routes.specs.Promised.{AreFewest}
use Rattle.route_slots.proofs.easing.ease.Goals as goal

-- one of two answers, as many slots as the first has
one_of : (nets : List Net) (slots other : Slots) (r : Result Slots AllocError) → AreFewest nets slots.count slots.routes.items → AreLaid nets other.count other.routes.items
    → (length nets ≤ exchange_limit → NoBetterExchange nets other.count other.routes.items) → IfOk r (λ best. (best ≡ slots) ⊎ (best ≡ other)) → IfOk r (λ best. best.count ≡ slots.count)
    → IfOk r (λ best. AreFewest nets best.count best.routes.items)
one_of nets slots other (Ok best) first laid none which same =
    ⊎_elim
    (λ (e : best ≡ slots). subst (λ (s : Slots). AreFewest nets s.count s.routes.items) (sym e) first)
    (λ (e : best ≡ other). subst (λ (s : Slots). AreFewest nets s.count s.routes.items) (sym e)
    (record {
      free = laid.free;
      apart = laid.apart;
      splits = laid.splits;
      density = λ clear. subst (IsDensity nets) (sym (subst (λ (s : Slots). s.count ≡ slots.count) e same)) (first.density clear);
      exchanges = none;
    }))
    which
one_of nets slots other (Err e) first laid none which same = which

pub returns-in_ok-settled-in-Some-clause-all : goal.returns-in_ok-settled-in-Some-clause-all
returns-in_ok-settled-in-Some-clause-all c =
    let then = c.in_ok-settled-in-Some.ensures in
    one_of c.args.nets.now c.args.slots c.in_ok-settled-in-Some.settled c.roomier.result c.requires.all then.laid then.none c.roomier.ensures.which c.roomier.ensures.count
