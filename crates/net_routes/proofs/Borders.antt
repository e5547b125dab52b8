-- The corners of a net that lie on a border of the gap are its pins.
use Rattle.std.proofs.Common.{◌≡◌, inl, inr, ⊎_elim, ℕ, zero, suc, ◌+◌, ◌<◌, refl, subst, sym, arith, length}
use Rattle.net_routes.specs.declared.Pin.{Pin}
use Rattle.net_routes.specs.declared.Net.{Net}
use Rattle.net_routes.specs.declared.NetRoute.{NetRoute}
use Rattle.net_routes.specs.declared.NetRoute.TheVariants.{Straight, One, Two}
use Rattle.net_routes.specs.Pieces.{Abscissa, left_border, slot, right_border, Corner, corner_at, corners, pin_corner, border_of, IsPieceOf}
use Rattle.net_routes.specs.GapFree.{HasPin}

abbrev pub IsBorder : Abscissa → Type 0
IsBorder left_border = Unit {0}
IsBorder (slot s) = ⊥
IsBorder right_border = Unit {0}

-- a pin of the net at this corner
pub record PinAt (n : Net) (c : Corner) : Type 0 where
  pub pin : Pin
  pub has : HasPin n pin
  pub at : border_of pin.on_left ≡ c.at
  pub height : pin.height ≡ c.height

at_a : (n : Net) → PinAt n (pin_corner n.a)
at_a n = record { pin = n.a; has = inl refl; at = refl; height = refl }

at_b : (n : Net) → PinAt n (pin_corner n.b)
at_b n = record { pin = n.b; has = inr refl; at = refl; height = refl }

pub corner_pin : (n : Net) (r : NetRoute) (i : ℕ) → i < length (corners n r) → IsBorder (corner_at (corners n r) i).at → PinAt n (corner_at (corners n r) i)
corner_pin n Straight zero l h = at_a n
corner_pin n Straight (suc zero) l h = at_b n
corner_pin n Straight (suc (suc i)) l h = absurd (omega arith)
corner_pin n (One s) zero l h = at_a n
corner_pin n (One s) (suc zero) l h = absurd h
corner_pin n (One s) (suc (suc zero)) l h = absurd h
corner_pin n (One s) (suc (suc (suc zero))) l h = at_b n
corner_pin n (One s) (suc (suc (suc (suc i)))) l h = absurd (omega arith)
corner_pin n (Two s k t) zero l h = at_a n
corner_pin n (Two s k t) (suc zero) l h = absurd h
corner_pin n (Two s k t) (suc (suc zero)) l h = absurd h
corner_pin n (Two s k t) (suc (suc (suc zero))) l h = absurd h
corner_pin n (Two s k t) (suc (suc (suc (suc zero)))) l h = absurd h
corner_pin n (Two s k t) (suc (suc (suc (suc (suc zero))))) l h = at_b n
corner_pin n (Two s k t) (suc (suc (suc (suc (suc (suc i)))))) l h = absurd (omega arith)

-- both ends of a piece
pub from_pin : (n : Net) (r : NetRoute) (a b : Corner) → IsPieceOf (corners n r) a b → IsBorder a.at → PinAt n a
from_pin n r a b p h =
    let i_in = p.i_in in
    ⊎_elim
    (λ x. subst (PinAt n) x.0 (corner_pin n r p.i (omega arith) (subst (λ z. IsBorder z.at) (sym x.0) h)))
    (λ x. subst (PinAt n) x.1 (corner_pin n r (p.i + 1) i_in (subst (λ z. IsBorder z.at) (sym x.1) h)))
    p.ends

pub to_pin : (n : Net) (r : NetRoute) (a b : Corner) → IsPieceOf (corners n r) a b → IsBorder b.at → PinAt n b
to_pin n r a b p h = from_pin n r b a (record { i = p.i; i_in = p.i_in; ends = ⊎_elim (λ x. inr x) (λ x. inl x) p.ends }) h
