use Rattle.std.proofs.Common.{◌≡◌, ℕ, ◌<◌, ℤ, List, length, get_or, arith, ap, subst}
use Rattle.separation.specs.declared.bounds.Bound.{Bound}
use Rattle.separation.specs.declared.walk.Due.{Due}
use Rattle.separation.specs.Order.{PositionsOf, GoesForward}
use Rattle.separation.specs.Due.{DueBounds, IsReady, due_at, bound_of}
use Rattle.separation.specs.Lines.{IsSolvable}

-- the place of a bound's `before` is its entry's position, and that of its `after` is higher
from_position : (order : List ℕ) (count : ℕ) (position : List ℕ) (b : Bound) (f : GoesForward order b) → PositionsOf order count position → get_or position b.before 0 ≡ f.from
from_position order count position b f p =
    let l : f.from < length order = let a = f.forward in let b = f.within in omega (arith, a, b) in
    subst (λ (x : ℕ). get_or position x 0 ≡ f.from) f.from_is (p.position_of f.from l)

to_position : (order : List ℕ) (count : ℕ) (position : List ℕ) (b : Bound) (f : GoesForward order b) → PositionsOf order count position → get_or position b.after 0 ≡ f.to
to_position order count position b f p = subst (λ (x : ℕ). get_or position x 0 ≡ f.to) f.to_is (p.position_of f.to f.within)

pub ready : (order position : List ℕ) (floor : List ℤ) (bounds : List Bound) (due : List Due) → IsSolvable order floor bounds → PositionsOf order (length floor) position → DueBounds bounds position due → IsReady floor bounds due
ready order position floor bounds due s p d =
    let n : (j : ℕ) → j < length due → (due_at due j).bound < length bounds = λ j l. (d.sound j _ l).is_bound in
    let f : (j : ℕ) → j < length due → GoesForward order (bound_of bounds due j) = λ j l. s.forward _ (n j l) in
    record {
      numbers = n;
      complete = d.complete;
      before = λ j l. subst (λ (x : ℕ). x < length floor) (f j l).from_is (s.is_order.in_range _ (let a = (f j l).forward in let b = (f j l).within in omega (arith, a, b)));
      after = λ j l. subst (λ (x : ℕ). x < length floor) (f j l).to_is (s.is_order.in_range _ (f j l).within);
      final = λ i j le l e.
          let li : i < length due = omega arith in
          let a = from_position order (length floor) position (bound_of bounds due j) (f j l) p in
          let b = to_position order (length floor) position (bound_of bounds due j) (f j l) p in
          let up = d.rising i j (record { position = 0; bound = 0 }) le l in
          let at_i = (d.sound i (record { position = 0; bound = 0 }) li).position_is in
          let at_j = (d.sound j (record { position = 0; bound = 0 }) l).position_is in
          let same : get_or position (bound_of bounds due i).before 0 ≡ get_or position (bound_of bounds due j).after 0 = ap (λ x. get_or position x 0) e in
          let ahead = (f j l).forward in
          omega (arith, a, b, up, at_i, at_j, same, ahead);
      gaps = λ j l. s.gaps _ (n j l);
      floors = s.floors;
      can_keep = s.can_keep;
    }
