-- Pins on the way round the border: where those of two nets alternate, the nets cross.
use Rattle.std.proofs.Common.{◌≡◌, ◌≢◌, ◌∙◌, ◌⊎◌, ⊎_elim, inl, inr, Bool, true, false, ◌&&◌, ℤ, ◌≤ℤ◌, ◌<ℤ◌, refl, sym, ap, subst, arith, if◌then◌else◌}
use Rattle.std.specs.Prelude.{int_lt}
use Rattle.std.specs.Int.{int_min, int_max}
use Rattle.std.proofs.lemmas.Bool.{false_from_ne_true, and_parts, and_from, or_cases, or_left, or_right}
use Rattle.std.proofs.lemmas.Int.{ints, clamps, by_lt_z}
use Rattle.net_routes.specs.declared.Pin.{Pin}
use Rattle.net_routes.specs.declared.Net.{Net}
use Rattle.net_routes.specs.Standing.{StretchesOverlap}
use Rattle.net_routes.specs.Crossings.{is_over}
use Rattle.net_routes.specs.Uncrossed.{is_before, first_pin, last_pin, take_turns, alternate}

pub lt_true : (a b : ℤ) → a <ℤ b → int_lt a b ≡ true
lt_true a b h = grind (arith, ints)

pub lt_false : (a b : ℤ) → b ≤ℤ a → int_lt a b ≡ false
lt_false a b h = grind (arith, ints)

pub lt_less : (a b : ℤ) → int_lt a b ≡ true → a <ℤ b
lt_less a b e = by_lt_z a b (λ less. less) (λ more. let no = lt_false a b more in absurd cc)

pub true_false : {X : Type 0} → true ≡ false → X
true_false e = absurd (let bad : true ≡ false = e in cc)

-- one or the other where two numbers differ
pub tri : {P : Type 0} → (a b : ℤ) → a ≢ b → (a <ℤ b → P) → (b <ℤ a → P) → P
tri a b ne f g = by_lt_z a b f (λ ge. by_lt_z b a g (λ le. absurd (ne (omega (arith, ints)))))

-- by sides and heights, the first comes before the second
abbrev pub Comes : Bool → ℤ → Bool → ℤ → Type 0
Comes true h true k = h <ℤ k
Comes true h false k = Unit {0}
Comes false h true k = ⊥
Comes false h false k = k <ℤ h

abbrev test : Bool → ℤ → Bool → ℤ → Bool
test a h b k = if a then (if b then int_lt h k else true) else (if b then false else int_lt k h)

comes_by : (a : Bool) (h : ℤ) (b : Bool) (k : ℤ) → test a h b k ≡ true → Comes a h b k
comes_by true h true k e = lt_less h k e
comes_by true h false k e = tt
comes_by false h true k e = true_false (sym e)
comes_by false h false k e = lt_less k h e

comes_back : (a : Bool) (h : ℤ) (b : Bool) (k : ℤ) → Comes a h b k → test a h b k ≡ true
comes_back true h true k e = lt_true h k e
comes_back true h false k e = refl
comes_back false h true k e = absurd e
comes_back false h false k e = lt_true k h e

pub comes : (p q : Pin) → is_before p q ≡ true → Comes p.on_left p.height q.on_left q.height
unfolding is_before
comes p q e = comes_by p.on_left p.height q.on_left q.height e

pub before : (p q : Pin) → Comes p.on_left p.height q.on_left q.height → is_before p q ≡ true
unfolding is_before
before p q c = comes_back p.on_left p.height q.on_left q.height c

-- the height does not lie between the two others
abbrev pub Out : ℤ → ℤ → ℤ → Type 0
Out x y h = (x <ℤ h → h <ℤ y → ⊥) × (y <ℤ h → h <ℤ x → ⊥)

over_up : (x y h : ℤ) → x <ℤ h → h <ℤ y → is_over x y h ≡ true
unfolding is_over
over_up x y h l m = and_from (int_lt (int_min x y) h) (int_lt h (int_max x y)) (lt_true (int_min x y) h (omega (arith, ints, clamps))) (lt_true h (int_max x y) (omega (arith, ints, clamps)))

over_down : (x y h : ℤ) → y <ℤ h → h <ℤ x → is_over x y h ≡ true
unfolding is_over
over_down x y h l m = and_from (int_lt (int_min x y) h) (int_lt h (int_max x y)) (lt_true (int_min x y) h (omega (arith, ints, clamps))) (lt_true h (int_max x y) (omega (arith, ints, clamps)))

pub over : (x y h : ℤ) → ((x <ℤ h) × (h <ℤ y)) ⊎ ((y <ℤ h) × (h <ℤ x)) → is_over x y h ≡ true
over x y h c = ⊎_elim (λ w. over_up x y h w.0 w.1) (λ w. over_down x y h w.0 w.1) c

pub out : (x y h : ℤ) → is_over x y h ≡ false → Out x y h
out x y h e = (λ l m. true_false (sym (over_up x y h l m) ∙ e), λ l m. true_false (sym (over_down x y h l m) ∙ e))

out_flipped : (x y h : ℤ) → Out x y h → Out y x h
out_flipped x y h o = (o.1, o.0)

-- Nets with the pins x, y and p, q: no right pin of the first lies inside the second's stretch, no left pin of the second
-- inside the first's, and none of these is as high as one of those.
pub record Clear (a : Bool) (x : ℤ) (b : Bool) (y : ℤ) (c : Bool) (p : ℤ) (d : Bool) (q : ℤ) : Type 0 where
  pub x_out : a ≡ false → Out p q x
  pub y_out : b ≡ false → Out p q y
  pub p_out : c ≡ true → Out x y p
  pub q_out : d ≡ true → Out x y q
  pub px : c ≡ true → a ≡ false → p ≢ x
  pub py : c ≡ true → b ≡ false → p ≢ y
  pub qx : d ≡ true → a ≡ false → q ≢ x
  pub qy : d ≡ true → b ≡ false → q ≢ y

first_flipped : (a : Bool) (x : ℤ) (b : Bool) (y : ℤ) (c : Bool) (p : ℤ) (d : Bool) (q : ℤ) → Clear a x b y c p d q → Clear b y a x c p d q
first_flipped a x b y c p d q k =
    record {
      x_out = k.y_out;
      y_out = k.x_out;
      p_out = λ e. out_flipped x y p (k.p_out e);
      q_out = λ e. out_flipped x y q (k.q_out e);
      px = k.py;
      py = k.px;
      qx = k.qy;
      qy = k.qx;
    }

second_flipped : (a : Bool) (x : ℤ) (b : Bool) (y : ℤ) (c : Bool) (p : ℤ) (d : Bool) (q : ℤ) → Clear a x b y c p d q → Clear a x b y d q c p
second_flipped a x b y c p d q k =
    record {
      x_out = λ e. out_flipped p q x (k.x_out e);
      y_out = λ e. out_flipped p q y (k.y_out e);
      p_out = k.q_out;
      q_out = k.p_out;
      px = k.qx;
      py = k.qy;
      qx = k.px;
      qy = k.py;
    }

-- the pins come as x, p, y, q
first_leads : (a : Bool) (x : ℤ) (b : Bool) (y : ℤ) (c : Bool) (p : ℤ) (d : Bool) (q : ℤ) → Clear a x b y c p d q
    → Comes a x c p → Comes c p b y → Comes b y d q → ⊥
first_leads true x true y true p d q k f g h = (k.p_out refl).0 f g
first_leads true x true y false p d q k f g h = absurd g
first_leads true x false y true p true q k f g h = absurd h
first_leads true x false y true p false q k f g h = tri p y (k.py refl refl) (λ l. (k.p_out refl).0 f l) (λ l. (k.y_out refl).1 h l)
first_leads true x false y false p true q k f g h = absurd h
first_leads true x false y false p false q k f g h = (k.y_out refl).1 h g
first_leads false x b y true p d q k f g h = absurd f
first_leads false x true y false p d q k f g h = absurd g
first_leads false x false y false p true q k f g h = absurd h
first_leads false x false y false p false q k f g h = (k.y_out refl).1 h g

-- the pins come as p, x, q, y
second_leads : (a : Bool) (x : ℤ) (b : Bool) (y : ℤ) (c : Bool) (p : ℤ) (d : Bool) (q : ℤ) → Clear a x b y c p d q
    → Comes c p a x → Comes a x d q → Comes d q b y → ⊥
second_leads true x true y c p true q k f g h = (k.q_out refl).0 g h
second_leads true x true y c p false q k f g h = absurd h
second_leads true x false y true p true q k f g h =
    tri q y (k.qy refl refl) (λ l. (k.q_out refl).0 g l)
    (λ l. tri p y (k.py refl refl) (λ m. (k.y_out refl).0 m l) (λ m. (k.p_out refl).1 m f))
second_leads true x false y true p false q k f g h =
    tri p y (k.py refl refl) (λ l. (k.y_out refl).0 l h) (λ l. (k.p_out refl).1 l f)
second_leads true x false y false p d q k f g h = absurd f
second_leads false x b y c p true q k f g h = absurd g
second_leads false x true y c p false q k f g h = absurd h
second_leads false x false y true p false q k f g h =
    tri p x (k.px refl refl)
    (λ l. tri p y (k.py refl refl) (λ m. (k.y_out refl).0 m h) (λ m. (k.p_out refl).1 m l))
    (λ l. (k.x_out refl).1 g l)
second_leads false x false y false p false q k f g h = (k.x_out refl).1 g f

-- the two pins of a net by the way round
abbrev Ends : Net → Type 0
Ends n = ((first_pin n ≡ n.a) × (last_pin n ≡ n.b)) ⊎ ((first_pin n ≡ n.b) × (last_pin n ≡ n.a))

ends_by : (n : Net) (b : Bool) → is_before n.a n.b ≡ b → Ends n
unfolding first_pin last_pin
ends_by n true e = inl (ap (λ z. if z then n.a else n.b) e, ap (λ z. if z then n.b else n.a) e)
ends_by n false e = inr (ap (λ z. if z then n.a else n.b) e, ap (λ z. if z then n.b else n.a) e)

pub ends : (n : Net) → Ends n
ends n = ends_by n (is_before n.a n.b) refl

abbrev pub ArePinsClear : Pin → Pin → Pin → Pin → Type 0
ArePinsClear x y p q = Clear x.on_left x.height y.on_left y.height p.on_left p.height q.on_left q.height

abbrev pub AreClear : Net → Net → Type 0
AreClear m n = ArePinsClear m.a m.b n.a n.b

in_turn : (m n : Net) → AreClear m n → ArePinsClear (first_pin m) (last_pin m) (first_pin n) (last_pin n)
in_turn m n k = ⊎_elim (λ e. second e.0 e.1 k) (λ e. second e.0 e.1 (first_flipped _ _ _ _ _ _ _ _ k)) (ends m)
  where
    second : {x y : Pin} → first_pin m ≡ x → last_pin m ≡ y → ArePinsClear x y n.a n.b → ArePinsClear (first_pin m) (last_pin m) (first_pin n) (last_pin n)
    second {x = x} {y = y} e f l =
        subst (λ z. ArePinsClear z (last_pin m) (first_pin n) (last_pin n)) (sym e)
        (subst (λ z. ArePinsClear x z (first_pin n) (last_pin n)) (sym f)
        (⊎_elim
        (λ (g : (first_pin n ≡ n.a) × (last_pin n ≡ n.b)). subst (λ z. ArePinsClear x y z (last_pin n)) (sym g.0) (subst (λ z. ArePinsClear x y n.a z) (sym g.1) l))
        (λ (g : (first_pin n ≡ n.b) × (last_pin n ≡ n.a)). subst (λ z. ArePinsClear x y z (last_pin n)) (sym g.0) (subst (λ z. ArePinsClear x y n.b z) (sym g.1) (second_flipped _ _ _ _ _ _ _ _ l)))
        (ends n)))

abbrev pub Turns : Net → Net → Type 0
Turns m n = (is_before (first_pin m) (first_pin n) ≡ true) × (is_before (first_pin n) (last_pin m) ≡ true) × (is_before (last_pin m) (last_pin n) ≡ true)

pub turns : (m n : Net) → take_turns m n ≡ true → Turns m n
unfolding take_turns
turns m n e =
    let u = and_parts (is_before (first_pin m) (first_pin n) && is_before (first_pin n) (last_pin m)) (is_before (last_pin m) (last_pin n)) e in
    let v = and_parts (is_before (first_pin m) (first_pin n)) (is_before (first_pin n) (last_pin m)) u.0 in (v.0, v.1, u.1)

pub turns_back : (m n : Net) → Turns m n → take_turns m n ≡ true
unfolding take_turns
turns_back m n t =
    and_from (is_before (first_pin m) (first_pin n) && is_before (first_pin n) (last_pin m)) (is_before (last_pin m) (last_pin n))
    (and_from (is_before (first_pin m) (first_pin n)) (is_before (first_pin n) (last_pin m)) t.0 t.1) t.2

pub either : (m n : Net) → alternate m n ≡ true → Turns m n ⊎ Turns n m
unfolding alternate
either m n e = ⊎_elim (λ f. inl (turns m n f)) (λ f. inr (turns n m f)) (or_cases (take_turns m n) (take_turns n m) e)

pub either_back : (m n : Net) → Turns m n ⊎ Turns n m → alternate m n ≡ true
unfolding alternate
either_back m n t = ⊎_elim (λ f. or_left (take_turns m n) (take_turns n m) (turns_back m n f)) (λ f. or_right (take_turns m n) (take_turns n m) (turns_back n m f)) t

-- the pins of nets that are clear don't alternate
pub never : (m n : Net) → AreClear m n → alternate m n ≡ false
never m n k =
    false_from_ne_true (alternate m n)
    (λ e. ⊎_elim
    (λ t. first_leads _ _ _ _ _ _ _ _ (in_turn m n k) (comes (first_pin m) (first_pin n) t.0) (comes (first_pin n) (last_pin m) t.1) (comes (last_pin m) (last_pin n) t.2))
    (λ t. second_leads _ _ _ _ _ _ _ _ (in_turn m n k) (comes (first_pin n) (first_pin m) t.0) (comes (first_pin m) (last_pin n) t.1) (comes (last_pin n) (last_pin m) t.2))
    (either m n e))

-- a height inside one stretch is inside no other that keeps apart
pub apart_out : (x y p q : ℤ) → (StretchesOverlap x y p q → ⊥) → p ≢ q → Out x y p
apart_out x y p q o ne = (
  λ l m. tri p q ne (λ k. o (omega (arith, ints, clamps))) (λ k. o (omega (arith, ints, clamps))),
  λ l m. tri p q ne (λ k. o (omega (arith, ints, clamps))) (λ k. o (omega (arith, ints, clamps))),
)

-- no pin comes before itself
pub not_itself : (p : Pin) → is_before p p ≡ true → ⊥
not_itself p e = self p.on_left p.height (comes p p e)
  where
    self : (a : Bool) (h : ℤ) → Comes a h a h → ⊥
    self true h c = let l = c in omega (arith, ints)
    self false h c = let l = c in omega (arith, ints)
