-- How often nets cross, and how often they have to, stays the same where all heights are moved.
use Rattle.std.proofs.Common.{◌≡◌, ◌∙◌, ℕ, ◌+◌, Bool, true, false, ◌&&◌, ◌||◌, ℤ, ◌-ℤ◌, arith, refl, ap, ap₂, if◌then◌else◌}
use Rattle.std.specs.Prelude.{int_lt}
use Rattle.std.specs.Int.{int_min, int_max}
use Rattle.std.proofs.lemmas.Int.{ints}
use Rattle.net_routes.specs.declared.Pin.{Pin}
use Rattle.net_routes.specs.declared.Net.{Net}
use Rattle.net_routes.specs.declared.NetRoute.{NetRoute}
use Rattle.net_routes.specs.declared.NetRoute.TheVariants.{Straight, One, Two}
use Rattle.net_routes.specs.Moved.{moved_pin, moved_net, moved_route}
use Rattle.net_routes.specs.Crossings.{is_over, passes, is_between, one, pin_cut, bar_cut, cuts, cut, upright}
use Rattle.net_routes.specs.Uncrossed.{is_before, first_pin, last_pin, take_turns, alternate, asked, in_order}
use Rattle.net_routes.proofs.GapMoves.{min_moves, max_moves}
use Rattle.net_routes.proofs.Turns.{lt_true, lt_less}
use Rattle.net_routes.proofs.Straight.{same_bool}

lt_moves : (y a b : ℤ) → int_lt (a -ℤ y) (b -ℤ y) ≡ int_lt a b
lt_moves y a b =
    same_bool (int_lt (a -ℤ y) (b -ℤ y)) (int_lt a b)
    (λ e. let l = lt_less (a -ℤ y) (b -ℤ y) e in lt_true a b (omega (arith, ints, l)))
    (λ e. let l = lt_less a b e in lt_true (a -ℤ y) (b -ℤ y) (omega (arith, ints, l)))

over_moves : (y a b h : ℤ) → is_over (a -ℤ y) (b -ℤ y) (h -ℤ y) ≡ is_over a b h
unfolding is_over
over_moves y a b h =
    ap₂ (λ (u v : Bool). u && v)
    (ap (λ z. int_lt z (h -ℤ y)) (min_moves a b y) ∙ lt_moves y (int_min a b) h)
    (ap (int_lt (h -ℤ y)) (max_moves a b y) ∙ lt_moves y h (int_max a b))

-- crossings

pin_cut_moves : (y : ℤ) (p : Pin) (t u : ℕ) (a b : ℤ) → pin_cut (moved_pin y p) t (upright u (a -ℤ y) (b -ℤ y)) ≡ pin_cut p t (upright u a b)
unfolding pin_cut
pin_cut_moves y p t u a b = ap (λ v. if passes p.on_left t u then one v else 0) (over_moves y a b p.height)

bar_cut_moves : (y : ℤ) (s : ℕ) (h : ℤ) (t u : ℕ) (a b : ℤ) → bar_cut s (h -ℤ y) t (upright u (a -ℤ y) (b -ℤ y)) ≡ bar_cut s h t (upright u a b)
unfolding bar_cut
bar_cut_moves y s h t u a b = ap (λ v. if is_between s t u then one v else 0) (over_moves y a b h)

cuts_move : (y : ℤ) (n : Net) (r : NetRoute) (u : ℕ) (a b : ℤ) → cuts (moved_net y n) (moved_route y r) (upright u (a -ℤ y) (b -ℤ y)) ≡ cuts n r (upright u a b)
unfolding cuts
cuts_move y n Straight u a b = ap one (over_moves y a b n.a.height)
cuts_move y n (One t) u a b = ap₂ (λ (v w : ℕ). v + w) (pin_cut_moves y n.a t u a b) (pin_cut_moves y n.b t u a b)
cuts_move y n (Two s h t) u a b =
    ap₂ (λ (v w : ℕ). v + w) (ap₂ (λ (v w : ℕ). v + w) (pin_cut_moves y n.a s u a b) (pin_cut_moves y n.b t u a b)) (bar_cut_moves y s h t u a b)

pub cut_moves : (y : ℤ) (m : Net) (r : NetRoute) (n : Net) (q : NetRoute) → cut (moved_net y m) (moved_route y r) (moved_net y n) (moved_route y q) ≡ cut m r n q
unfolding cut
cut_moves y m Straight n q = refl
cut_moves y m (One s) n q = cuts_move y n q s m.a.height m.b.height
cut_moves y m (Two s h t) n q = ap₂ (λ (v w : ℕ). v + w) (cuts_move y n q s m.a.height h) (cuts_move y n q t h m.b.height)

-- the way round the border

before_moves : (y : ℤ) (p q : Pin) → is_before (moved_pin y p) (moved_pin y q) ≡ is_before p q
unfolding is_before
before_moves y p q =
    ap₂ (λ (u v : Bool). if p.on_left then (if q.on_left then u else true) else (if q.on_left then false else v))
    (lt_moves y p.height q.height) (lt_moves y q.height p.height)

choice_moves : (y : ℤ) (b : Bool) (p q : Pin) → (if b then moved_pin y p else moved_pin y q) ≡ moved_pin y (if b then p else q)
choice_moves y true p q = refl
choice_moves y false p q = refl

first_moves : (y : ℤ) (n : Net) → first_pin (moved_net y n) ≡ moved_pin y (first_pin n)
unfolding first_pin
first_moves y n = ap (λ b. if b then moved_pin y n.a else moved_pin y n.b) (before_moves y n.a n.b) ∙ choice_moves y (is_before n.a n.b) n.a n.b

last_moves : (y : ℤ) (n : Net) → last_pin (moved_net y n) ≡ moved_pin y (last_pin n)
unfolding last_pin
last_moves y n = ap (λ b. if b then moved_pin y n.b else moved_pin y n.a) (before_moves y n.a n.b) ∙ choice_moves y (is_before n.a n.b) n.b n.a

before_by : (y : ℤ) (p q p' q' : Pin) → p' ≡ moved_pin y p → q' ≡ moved_pin y q → is_before p' q' ≡ is_before p q
before_by y p q p' q' e f = ap₂ is_before e f ∙ before_moves y p q

turns_move : (y : ℤ) (m n : Net) → take_turns (moved_net y m) (moved_net y n) ≡ take_turns m n
unfolding take_turns
turns_move y m n =
    ap₂ (λ (u v : Bool). u && v)
    (ap₂ (λ (u v : Bool). u && v)
    (before_by y (first_pin m) (first_pin n) (first_pin (moved_net y m)) (first_pin (moved_net y n)) (first_moves y m) (first_moves y n))
    (before_by y (first_pin n) (last_pin m) (first_pin (moved_net y n)) (last_pin (moved_net y m)) (first_moves y n) (last_moves y m)))
    (before_by y (last_pin m) (last_pin n) (last_pin (moved_net y m)) (last_pin (moved_net y n)) (last_moves y m) (last_moves y n))

pub asked_moves : (y : ℤ) (m n : Net) → asked (moved_net y m) (moved_net y n) ≡ asked m n
unfolding asked alternate
asked_moves y m n = ap₂ (λ (u v : Bool). one (u || v)) (turns_move y m n) (turns_move y n m)

pub in_order_moves : (y : ℤ) (m n : Net) → in_order (moved_net y m) (moved_net y n) ≡ in_order m n
unfolding in_order
in_order_moves y m n = ap₂ (λ (u v : ℕ). u + v) (cut_moves y m (One 0) n (One 1)) (cut_moves y n (One 1) m (One 0))
