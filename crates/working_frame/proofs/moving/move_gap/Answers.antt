use Rattle.std.proofs.Common.{◌≡◌, ℕ, ℤ, List, arith, refl}
use Rattle.std.proofs.lemmas.Int.{ints}
use Rattle.net_routes.specs.declared.Net.{Net}
use Rattle.net_routes.specs.declared.NetRoute.{NetRoute}
use Rattle.route_lines.specs.Points.{PlainGap}
use Rattle.working_frame.proofs.moving.move_gap.Goals as goal

abbrev gap : ℤ → ℤ → ℤ → ℤ → List Net → ℕ → List NetRoute → PlainGap
gap l f s r n c o = record { left = l; first = f; step = s; right = r; nets = n; count = c; routes = o }

same_gap : (l f s r : ℤ) (n : List Net) (c : ℕ) (o : List NetRoute) (l' f' r' : ℤ) (n' : List Net) (o' : List NetRoute)
    → l ≡ l' → f ≡ f' → r ≡ r' → n ≡ n' → o ≡ o' → gap l f s r n c o ≡ gap l' f' s r' n' c o'
same_gap l f s r n c o l' f' r' n' o' a b d e g = rw (a, b, d, e, g) refl

pub returns : goal.returns
returns c =
    let left = c.requires.gap.left in
    let first = c.requires.gap.first in
    let right = c.requires.gap.right in
    let by = c.requires.by.x in
    same_gap _ _ _ _ _ _ _ _ _ _ _ _ (omega (arith, ints)) (omega (arith, ints)) (omega (arith, ints)) c.move_net_list.ensures c.move_route_list.ensures
