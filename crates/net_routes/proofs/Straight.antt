-- Straight nets, and nets with a common pin, on the way round the border.
use Rattle.std.proofs.Common.{◌≡◌, ◌∙◌, ◌⊎◌, ⊎_elim, inl, inr, Bool, true, false, ℤ, ◌<ℤ◌, refl, sym, ap, subst, arith, if◌then◌else◌}
use Rattle.std.specs.Prelude.{int_lt}
use Rattle.std.specs.Int.{int_min, int_max}
use Rattle.std.proofs.lemmas.Bool.{false_from_ne_true, and_parts}
use Rattle.std.proofs.lemmas.Int.{ints, clamps, by_lt_z}
use Rattle.net_routes.specs.declared.Pin.{Pin}
use Rattle.net_routes.specs.declared.Net.{Net}
use Rattle.net_routes.specs.GapFree.{HasPin, CommonPin, IsStraightNet}
use Rattle.net_routes.specs.Crossings.{is_over}
use Rattle.net_routes.specs.Uncrossed.{is_before, first_pin, last_pin, alternate}
use Rattle.net_routes.proofs.Turns.{lt_less, Comes, comes, before, over, ends, Turns, either, either_back, not_itself}
use Rattle.net_routes.proofs.Asking.{pin, same_pin}

pub same_bool : (a b : Bool) → (a ≡ true → b ≡ true) → (b ≡ true → a ≡ true) → a ≡ b
same_bool true b f g = sym (f refl)
same_bool false true f g = g refl
same_bool false false f g = refl

before_by : (p q : Pin) (a b : Bool) → p.on_left ≡ a → q.on_left ≡ b → Comes a p.height b q.height → is_before p q ≡ true
before_by p q a b e f c = before p q (subst (λ z. Comes z p.height q.on_left q.height) (sym e) (subst (λ z. Comes a p.height z q.height) (sym f) c))

comes_anti : (a : Bool) (h : ℤ) (b : Bool) (k : ℤ) → Comes a h b k → Comes b k a h → ⊥
comes_anti true h true k f g = let l = f in let m = g in omega (arith, ints)
comes_anti true h false k f g = g
comes_anti false h true k f g = f
comes_anti false h false k f g = let l = f in let m = g in omega (arith, ints)

comes_trans : (a : Bool) (h : ℤ) (b : Bool) (k : ℤ) (c : Bool) (l : ℤ) → Comes a h b k → Comes b k c l → Comes a h c l
comes_trans true h true k true l f g = let u = f in let v = g in omega (arith, ints)
comes_trans true h true k false l f g = tt
comes_trans true h false k true l f g = absurd g
comes_trans true h false k false l f g = tt
comes_trans false h true k c l f g = absurd f
comes_trans false h false k true l f g = absurd g
comes_trans false h false k false l f g = let u = f in let v = g in omega (arith, ints)

not_after : (p q : Pin) → is_before p q ≡ true → is_before q p ≡ false
not_after p q e = false_from_ne_true (is_before q p) (λ f. comes_anti _ _ _ _ (comes p q e) (comes q p f))

passed : (p q r : Pin) → is_before p q ≡ true → is_before q r ≡ true → is_before p r ≡ true
passed p q r e f = before p r (comes_trans p.on_left p.height q.on_left q.height r.on_left r.height (comes p q e) (comes q r f))

abbrev HasPins : Net → Pin → Pin → Type 0
HasPins n p q = ((n.a ≡ p) × (n.b ≡ q)) ⊎ ((n.a ≡ q) × (n.b ≡ p))

pub by_way : (n : Net) (b : Bool) → is_before n.a n.b ≡ b → (first_pin n ≡ (if b then n.a else n.b)) × (last_pin n ≡ (if b then n.b else n.a))
unfolding first_pin last_pin
by_way n b e = (ap (λ z. if z then n.a else n.b) e, ap (λ z. if z then n.b else n.a) e)

pins_are : (n : Net) (p q : Pin) → HasPins n p q → is_before p q ≡ true → (first_pin n ≡ p) × (last_pin n ≡ q)
pins_are n p q has e =
    ⊎_elim
    (λ h. let w = by_way n true (ap (λ z. is_before z n.b) h.0 ∙ ap (is_before p) h.1 ∙ e) in (w.0 ∙ h.0, w.1 ∙ h.1))
    (λ h. let w = by_way n false (ap (λ z. is_before z n.b) h.0 ∙ ap (is_before q) h.1 ∙ not_after p q e) in (w.0 ∙ h.1, w.1 ∙ h.0))
    has

-- a straight net's pins
straight_pins : (n : Net) → IsStraightNet n → (first_pin n ≡ pin true n.a.height) × (last_pin n ≡ pin false n.a.height)
straight_pins n v = by n.a.on_left n.b.on_left refl refl
  where
    by : (a b : Bool) → n.a.on_left ≡ a → n.b.on_left ≡ b → (first_pin n ≡ pin true n.a.height) × (last_pin n ≡ pin false n.a.height)
    by true true f g = absurd (v.0 (f ∙ sym g))
    by true false f g =
        pins_are n (pin true n.a.height) (pin false n.a.height) (inl (same_pin n.a (pin true n.a.height) f refl, same_pin n.b (pin false n.a.height) g (sym v.1)))
        (before (pin true n.a.height) (pin false n.a.height) tt)
    by false true f g =
        pins_are n (pin true n.a.height) (pin false n.a.height) (inr (same_pin n.a (pin false n.a.height) f refl, same_pin n.b (pin true n.a.height) g (sym v.1)))
        (before (pin true n.a.height) (pin false n.a.height) tt)
    by false false f g = absurd (v.0 (f ∙ sym g))

turns_by : (m n : Net) (x y p q : Pin) → (first_pin m ≡ x) × (last_pin m ≡ y) → (first_pin n ≡ p) × (last_pin n ≡ q)
    → is_before x p ≡ true → is_before p y ≡ true → is_before y q ≡ true → Turns m n
turns_by m n x y p q e f a b c = (
  ap (λ z. is_before z (first_pin n)) e.0 ∙ ap (is_before x) f.0 ∙ a,
  ap (λ z. is_before z (last_pin m)) f.0 ∙ ap (is_before p) e.1 ∙ b,
  ap (λ z. is_before z (last_pin n)) e.1 ∙ ap (is_before y) f.1 ∙ c,
)

turns_to : (m n : Net) (x y p q : Pin) → (first_pin m ≡ x) × (last_pin m ≡ y) → (first_pin n ≡ p) × (last_pin n ≡ q) → Turns m n
    → (is_before x p ≡ true) × (is_before p y ≡ true) × (is_before y q ≡ true)
turns_to m n x y p q e f t = (
  sym (ap (λ z. is_before z (first_pin n)) e.0 ∙ ap (is_before x) f.0) ∙ t.0,
  sym (ap (λ z. is_before z (last_pin m)) f.0 ∙ ap (is_before p) e.1) ∙ t.1,
  sym (ap (λ z. is_before z (last_pin n)) e.1 ∙ ap (is_before y) f.1) ∙ t.2,
)

first_leads : (a : Bool) (x : ℤ) (b : Bool) (y h : ℤ) → Comes a x true h → Comes true h b y → Comes b y false h → (x <ℤ h) × (h <ℤ y)
first_leads true x true y h f g k = (f, g)
first_leads true x false y h f g k = (f, k)
first_leads false x b y h f g k = absurd f

second_leads : (a : Bool) (x : ℤ) (b : Bool) (y h : ℤ) → Comes true h a x → Comes a x false h → Comes false h b y → (y <ℤ h) × (h <ℤ x)
second_leads true x false y h f g k = (k, f)
second_leads false x false y h f g k = (k, g)
second_leads a x true y h f g k = absurd k

abbrev pub Amid : ℤ → ℤ → ℤ → Type 0
Amid x y h = ((x <ℤ h) × (h <ℤ y)) ⊎ ((y <ℤ h) × (h <ℤ x))

amid_flipped : (x y h : ℤ) → Amid x y h → Amid y x h
amid_flipped x y h c = ⊎_elim (λ w. inr w) (λ w. inl w) c

ends_over : (m : Net) (h : ℤ) → Amid (first_pin m).height (last_pin m).height h → is_over m.a.height m.b.height h ≡ true
ends_over m h c =
    over m.a.height m.b.height h
    (⊎_elim
    (λ (e : (first_pin m ≡ m.a) × (last_pin m ≡ m.b)). subst (λ (z : Pin). Amid z.height m.b.height h) e.0 (subst (λ (z : Pin). Amid (first_pin m).height z.height h) e.1 c))
    (λ (e : (first_pin m ≡ m.b) × (last_pin m ≡ m.a)). amid_flipped m.b.height m.a.height h (subst (λ (z : Pin). Amid z.height m.a.height h) e.0 (subst (λ (z : Pin). Amid (first_pin m).height z.height h) e.1 c)))
    (ends m))

pub over_parts : (x y h : ℤ) → is_over x y h ≡ true → Amid x y h
unfolding is_over
over_parts x y h e =
    let w = and_parts (int_lt (int_min x y) h) (int_lt h (int_max x y)) e in
    let l = lt_less (int_min x y) h w.0 in
    let r = lt_less h (int_max x y) w.1 in
    by_lt_z x y (λ k. inl (omega (arith, ints, clamps), omega (arith, ints, clamps))) (λ k. inr (omega (arith, ints, clamps), omega (arith, ints, clamps)))

over_turns : (m n : Net) (low high : Pin) (h : ℤ) → HasPins m low high → (first_pin n ≡ pin true h) × (last_pin n ≡ pin false h) → low.height <ℤ h → h <ℤ high.height → Turns m n ⊎ Turns n m
over_turns m n low high h has at l r = by low.on_left high.on_left refl refl
  where
    by : (a b : Bool) → low.on_left ≡ a → high.on_left ≡ b → Turns m n ⊎ Turns n m
    by true true e f =
        inl
        (turns_by m n low high (pin true h) (pin false h) (pins_are m low high has (before_by low high true true e f (omega (arith, ints)))) at
        (before_by low (pin true h) true true e refl l) (before_by (pin true h) high true true refl f r) (before_by high (pin false h) true false f refl tt))
    by true false e f =
        inl
        (turns_by m n low high (pin true h) (pin false h) (pins_are m low high has (before_by low high true false e f tt)) at
        (before_by low (pin true h) true true e refl l) (before_by (pin true h) high true false refl f tt) (before_by high (pin false h) false false f refl r))
    by false true e f =
        inr
        (turns_by n m (pin true h) (pin false h) high low at (pins_are m high low (⊎_elim (λ w. inr w) (λ w. inl w) has) (before_by high low true false f e tt))
        (before_by (pin true h) high true true refl f r) (before_by high (pin false h) true false f refl tt) (before_by (pin false h) low false false refl e l))
    by false false e f =
        inr
        (turns_by n m (pin true h) (pin false h) high low at (pins_are m high low (⊎_elim (λ w. inr w) (λ w. inl w) has) (before_by high low false false f e (omega (arith, ints))))
        (before_by (pin true h) high true false refl f tt) (before_by high (pin false h) false false f refl r) (before_by (pin false h) low false false refl e l))

-- the pins of a straight net alternate with those of a net whose stretch holds its height
pub alternate_straight : (m n : Net) → IsStraightNet n → alternate m n ≡ is_over m.a.height m.b.height n.a.height
alternate_straight m n v =
    same_bool (alternate m n) (is_over m.a.height m.b.height n.a.height)
    (λ e. ⊎_elim
    (λ t. let w = turns_to m n (first_pin m) (last_pin m) (pin true n.a.height) (pin false n.a.height) (refl, refl) (straight_pins n v) t in
    ends_over m n.a.height
    (inl (first_leads (first_pin m).on_left (first_pin m).height (last_pin m).on_left (last_pin m).height n.a.height (comes (first_pin m) (pin true n.a.height) w.0) (comes (pin true n.a.height) (last_pin m) w.1) (comes (last_pin m) (pin false n.a.height) w.2))))
    (λ t. let w = turns_to n m (pin true n.a.height) (pin false n.a.height) (first_pin m) (last_pin m) (straight_pins n v) (refl, refl) t in
    ends_over m n.a.height
    (inr (second_leads (first_pin m).on_left (first_pin m).height (last_pin m).on_left (last_pin m).height n.a.height (comes (pin true n.a.height) (first_pin m) w.0) (comes (first_pin m) (pin false n.a.height) w.1) (comes (pin false n.a.height) (last_pin m) w.2))))
    (either m n e))
    (λ e. either_back m n
    (⊎_elim
    (λ w. over_turns m n m.a m.b n.a.height (inl (refl, refl)) (straight_pins n v) w.0 w.1)
    (λ w. over_turns m n m.b m.a n.a.height (inr (refl, refl)) (straight_pins n v) w.0 w.1)
    (over_parts m.a.height m.b.height n.a.height e)))

pub both_ends : (n : Net) (p : Pin) → HasPin n p → (first_pin n ≡ p) ⊎ (last_pin n ≡ p)
both_ends n p h =
    ⊎_elim
    (λ (e : (first_pin n ≡ n.a) × (last_pin n ≡ n.b)). ⊎_elim (λ (f : n.a ≡ p). inl (e.0 ∙ f)) (λ (f : n.b ≡ p). inr (e.1 ∙ f)) h)
    (λ (e : (first_pin n ≡ n.b) × (last_pin n ≡ n.a)). ⊎_elim (λ (f : n.a ≡ p). inr (e.1 ∙ f)) (λ (f : n.b ≡ p). inl (e.0 ∙ f)) h)
    (ends n)

itself : (p q : Pin) → p ≡ q → is_before p q ≡ true → ⊥
itself p q e f = not_itself q (sym (ap (λ z. is_before z q) e) ∙ f)

common_turns : (m n : Net) (p : Pin) → HasPin m p → HasPin n p → Turns m n → ⊥
common_turns m n p hm hn t =
    ⊎_elim
    (λ (e : first_pin m ≡ p). ⊎_elim
    (λ (f : first_pin n ≡ p). itself (first_pin m) (first_pin n) (e ∙ sym f) t.0)
    (λ (f : last_pin n ≡ p). itself (first_pin m) (last_pin n) (e ∙ sym f) (passed (first_pin m) (first_pin n) (last_pin n) t.0 (passed (first_pin n) (last_pin m) (last_pin n) t.1 t.2)))
    (both_ends n p hn))
    (λ (e : last_pin m ≡ p). ⊎_elim
    (λ (f : first_pin n ≡ p). itself (first_pin n) (last_pin m) (f ∙ sym e) t.1)
    (λ (f : last_pin n ≡ p). itself (last_pin m) (last_pin n) (e ∙ sym f) t.2)
    (both_ends n p hn))
    (both_ends m p hm)

-- nets with a common pin have none that alternate
pub common : (m n : Net) → CommonPin m n → alternate m n ≡ false
common m n w =
    false_from_ne_true (alternate m n)
    (λ e. ⊎_elim (λ t. common_turns m n w.pin w.in_first w.in_second t) (λ t. common_turns n m w.pin w.in_second w.in_first t) (either m n e))
