-- Pins of a net on both sides.
use Rattle.std.proofs.Common.{◌≡◌, ◌≢◌, ◌∙◌, ⊎_elim, true, false, sym, ap}
use Rattle.net_routes.specs.declared.Pin.{Pin}
use Rattle.net_routes.specs.declared.Net.{Net}
use Rattle.net_routes.specs.GapFree.{HasPin, IsStraightNet}

true_false : true ≡ false → ⊥
true_false e = cc

pub sides_differ : (n : Net) (p q : Pin) → HasPin n p → HasPin n q → p.on_left ≡ true → q.on_left ≡ false → n.a.on_left ≢ n.b.on_left
sides_differ n p q hp hq pl ql same =
    ⊎_elim
    (λ (x : n.a ≡ p). ⊎_elim
    (λ (y : n.a ≡ q). true_false (sym pl ∙ sym (ap (λ z. z.on_left) x) ∙ ap (λ z. z.on_left) y ∙ ql))
    (λ (y : n.b ≡ q). true_false (sym pl ∙ sym (ap (λ z. z.on_left) x) ∙ same ∙ ap (λ z. z.on_left) y ∙ ql))
    hq)
    (λ (x : n.b ≡ p). ⊎_elim
    (λ (y : n.a ≡ q). true_false (sym pl ∙ sym (ap (λ z. z.on_left) x) ∙ sym same ∙ ap (λ z. z.on_left) y ∙ ql))
    (λ (y : n.b ≡ q). true_false (sym pl ∙ sym (ap (λ z. z.on_left) x) ∙ ap (λ z. z.on_left) y ∙ ql))
    hq)
    hp

-- a net with pins on both sides at one height is straight
pub one_pin : (n : Net) (p q : Pin) → HasPin n p → HasPin n q → p.on_left ≡ true → q.on_left ≡ false → p.height ≡ q.height → IsStraightNet n
one_pin n p q hp hq pl ql e =
    let differ = sides_differ n p q hp hq pl ql in
    ⊎_elim
    (λ (x : n.a ≡ p). ⊎_elim
    (λ (y : n.a ≡ q). absurd (true_false (sym pl ∙ sym (ap (λ z. z.on_left) x) ∙ ap (λ z. z.on_left) y ∙ ql)))
    (λ (y : n.b ≡ q). (differ, ap (λ z. z.height) x ∙ e ∙ sym (ap (λ z. z.height) y)))
    hq)
    (λ (x : n.b ≡ p). ⊎_elim
    (λ (y : n.a ≡ q). (differ, ap (λ z. z.height) y ∙ sym e ∙ sym (ap (λ z. z.height) x)))
    (λ (y : n.b ≡ q). absurd (true_false (sym pl ∙ sym (ap (λ z. z.on_left) x) ∙ ap (λ z. z.on_left) y ∙ ql)))
    hq)
    hp
