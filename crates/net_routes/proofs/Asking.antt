-- How often nets cross by their slots, and how often they have to.
use Rattle.std.proofs.Common.{◌≡◌, ◌≢◌, ◌∙◌, ⊎_elim, inl, inr, ℕ, ◌+◌, ◌<◌, ◌≤◌, Bool, true, false, ◌||◌, ℤ, refl, sym, ap, arith, if◌then◌else◌}
use Rattle.std.proofs.lemmas.Bool.{cases_eq, lt-ltb, le-ltb}
use Rattle.std.proofs.lemmas.Int.{ints, clamps}
use Rattle.net_routes.specs.declared.Pin.{Pin}
use Rattle.net_routes.specs.declared.Net.{Net}
use Rattle.net_routes.specs.declared.NetRoute.TheVariants.{One}
use Rattle.net_routes.specs.GapFree.{HasPin, IsNet, IsStraightNet}
use Rattle.net_routes.specs.Standing.{StretchesOverlap}
use Rattle.net_routes.specs.Crossings.{is_over, passes, one, pin_cut, cuts, cut, upright}
use Rattle.net_routes.specs.Uncrossed.{take_turns, alternate, asked, in_order}
use Rattle.net_routes.proofs.Turns.{true_false, out, AreClear, never, apart_out}

-- crossings at a pin on the left, and at one on the right
abbrev pub left_in : Pin → ℤ → ℤ → ℕ
left_in p x y = if p.on_left then one (is_over x y p.height) else 0

abbrev pub right_in : Pin → ℤ → ℤ → ℕ
right_in p x y = if p.on_left then 0 else one (is_over x y p.height)

behind_by : (b : Bool) (s t v : ℕ) → s < t → (if passes b t s then v else 0) ≡ (if b then v else 0)
unfolding passes
behind_by true s t v l = ap (λ z. if z then v else 0) (lt-ltb s t l)
behind_by false s t v l = ap (λ z. if z then v else 0) (le-ltb t s (omega arith))

ahead_by : (b : Bool) (s t v : ℕ) → s < t → (if passes b s t then v else 0) ≡ (if b then 0 else v)
unfolding passes
ahead_by true s t v l = ap (λ z. if z then v else 0) (le-ltb t s (omega arith))
ahead_by false s t v l = ap (λ z. if z then v else 0) (lt-ltb s t l)

same_by : (b : Bool) (s v : ℕ) → (if passes b s s then v else 0) ≡ 0
unfolding passes
same_by true s v = ap (λ z. if z then v else 0) (le-ltb s s (omega arith))
same_by false s v = ap (λ z. if z then v else 0) (le-ltb s s (omega arith))

behind : (p : Pin) (s t : ℕ) (x y : ℤ) → s < t → pin_cut p t (upright s x y) ≡ left_in p x y
unfolding pin_cut
behind p s t x y l = behind_by p.on_left s t (one (is_over x y p.height)) l

ahead : (p : Pin) (s t : ℕ) (x y : ℤ) → s < t → pin_cut p s (upright t x y) ≡ right_in p x y
unfolding pin_cut
ahead p s t x y l = ahead_by p.on_left s t (one (is_over x y p.height)) l

beside : (p : Pin) (s : ℕ) (x y : ℤ) → pin_cut p s (upright s x y) ≡ 0
unfolding pin_cut
beside p s x y = same_by p.on_left s (one (is_over x y p.height))

abbrev pub counted : Net → Net → ℕ
counted m n =
    (left_in n.a m.a.height m.b.height + left_in n.b m.a.height m.b.height) + (right_in m.a n.a.height n.b.height + right_in m.b n.a.height n.b.height)

slots_count : (m n : Net) (s t : ℕ) → s < t → cut m (One s) n (One t) + cut n (One t) m (One s) ≡ counted m n
unfolding cut cuts
slots_count m n s t l =
    let a = behind n.a s t m.a.height m.b.height l in
    let b = behind n.b s t m.a.height m.b.height l in
    let c = ahead m.a s t n.a.height n.b.height l in
    let d = ahead m.b s t n.a.height n.b.height l in
    omega arith

pub order_count : (m n : Net) → in_order m n ≡ counted m n
unfolding in_order
order_count m n = slots_count m n 0 1 (omega arith)

pub slot_count : (m n : Net) (s : ℕ) → cut m (One s) n (One s) + cut n (One s) m (One s) ≡ 0
unfolding cut cuts
slot_count m n s =
    let a = beside n.a s m.a.height m.b.height in
    let b = beside n.b s m.a.height m.b.height in
    let c = beside m.a s n.a.height n.b.height in
    let d = beside m.b s n.a.height n.b.height in
    omega arith

one_most : (b : Bool) → one b ≤ 1
unfolding one
one_most true = omega arith
one_most false = omega arith

one_none : (b : Bool) → one b ≡ 0 → b ≡ false
unfolding one
one_none true e = absurd (omega arith)
one_none false e = refl

left_none : (b v : Bool) → (if b then one v else 0) ≡ 0 → b ≡ true → v ≡ false
left_none true v e f = one_none v e
left_none false v e f = true_false (sym f)

right_none : (b v : Bool) → (if b then 0 else one v) ≡ 0 → b ≡ false → v ≡ false
right_none true v e f = true_false f
right_none false v e f = one_none v e

asked_most : (m n : Net) → asked m n ≤ 1
unfolding asked
asked_most m n = one_most (alternate m n)

asked_none : (m n : Net) → alternate m n ≡ false → asked m n ≡ 0
unfolding asked one
asked_none m n e = ap (λ z. if z then 1 else 0) e

pub asked_is : (m n : Net) (b : Bool) → alternate m n ≡ b → asked m n ≡ one b
unfolding asked
asked_is m n b e = ap one e

or_flipped : (a b : Bool) → (a || b) ≡ (b || a)
or_flipped true true = refl
or_flipped true false = refl
or_flipped false true = refl
or_flipped false false = refl

pub alternate_flipped : (m n : Net) → alternate m n ≡ alternate n m
unfolding alternate
alternate_flipped m n = or_flipped (take_turns m n) (take_turns n m)

pub asked_flipped : (m n : Net) → asked m n ≡ asked n m
unfolding asked
asked_flipped m n = ap one (alternate_flipped m n)

-- no left pin of the first net is as high as a right one of the second
abbrev pub AreUnmet : Net → Net → Type 0
AreUnmet n m = (p q : Pin) → HasPin n p → HasPin m q → p.on_left ≡ true → q.on_left ≡ false → p.height ≡ q.height → ⊥

-- nets that don't cross in this order are clear
none_clear : (m n : Net) → counted m n ≡ 0 → AreUnmet n m → AreClear m n
none_clear m n e u =
    record {
      x_out = λ s. out n.a.height n.b.height m.a.height (right_none m.a.on_left (is_over n.a.height n.b.height m.a.height) (omega arith) s);
      y_out = λ s. out n.a.height n.b.height m.b.height (right_none m.b.on_left (is_over n.a.height n.b.height m.b.height) (omega arith) s);
      p_out = λ s. out m.a.height m.b.height n.a.height (left_none n.a.on_left (is_over m.a.height m.b.height n.a.height) (omega arith) s);
      q_out = λ s. out m.a.height m.b.height n.b.height (left_none n.b.on_left (is_over m.a.height m.b.height n.b.height) (omega arith) s);
      px = λ s t. u n.a m.a (inl refl) (inl refl) s t;
      py = λ s t. u n.a m.b (inl refl) (inr refl) s t;
      qx = λ s t. u n.b m.a (inr refl) (inl refl) s t;
      qy = λ s t. u n.b m.b (inr refl) (inr refl) s t;
    }

-- nets cross at least as often as they have to
pub least : (m n : Net) → AreUnmet n m → asked m n ≤ in_order m n
least m n u =
    let most = asked_most m n in
    ⊎_elim
    (λ (e : in_order m n ≡ 0). let none = asked_none m n (never m n (none_clear m n (sym (order_count m n) ∙ e) u)) in omega arith)
    (λ (ne : in_order m n ≢ 0). omega arith)
    (cases_eq (in_order m n) 0)

-- nets in two slots
pub in_two_slots : (m n : Net) (s t : ℕ) → s < t → AreUnmet n m → in_order m n ≤ asked m n → cut m (One s) n (One t) + cut n (One t) m (One s) ≡ asked m n
in_two_slots m n s t l u most =
    let same : cut m (One s) n (One t) + cut n (One t) m (One s) ≡ in_order m n = slots_count m n s t l ∙ sym (order_count m n) in
    let few = least m n u in
    omega arith

abbrev pub pin : Bool → ℤ → Pin
pin b h = record { on_left = b; height = h }

pub same_pin : (p q : Pin) → p.on_left ≡ q.on_left → p.height ≡ q.height → p ≡ q
same_pin p q e f = let g : pin p.on_left p.height ≡ pin q.on_left q.height = ap (λ b. pin b p.height) e ∙ ap (λ h. pin q.on_left h) f in g

-- nets in two slots cross at least as often as they have to
pub least_cut : (m n : Net) (s t : ℕ) → s < t → AreUnmet n m → asked m n ≤ cut m (One s) n (One t) + cut n (One t) m (One s)
least_cut m n s t l u = let same = slots_count m n s t l in let order = order_count m n in let few = least m n u in omega arith

-- a net that is not straight leads from one height to another
pub uneven : (n : Net) → IsNet n → (IsStraightNet n → ⊥) → n.a.height ≢ n.b.height
uneven n proper bent e = by n.a.on_left n.b.on_left refl refl
  where
    by : (a b : Bool) → n.a.on_left ≡ a → n.b.on_left ≡ b → ⊥
    by true true f g = proper (same_pin n.a n.b (f ∙ sym g) e)
    by true false f g = bent (λ h. true_false (sym f ∙ h ∙ g), e)
    by false true f g = bent (λ h. true_false (sym g ∙ sym h ∙ f), e)
    by false false f g = proper (same_pin n.a n.b (f ∙ sym g) e)

overlap_flipped : (x y z w : ℤ) → StretchesOverlap z w x y → StretchesOverlap x y z w
overlap_flipped x y z w o = let l = o in omega (arith, ints, clamps)

second_flipped : (x y z w : ℤ) → StretchesOverlap x y w z → StretchesOverlap x y z w
second_flipped x y z w o = let l = o in omega (arith, ints, clamps)

-- nets in one slot
pub in_one_slot : (m n : Net) (s : ℕ) → m.a.height ≢ m.b.height → n.a.height ≢ n.b.height → AreUnmet n m → (StretchesOverlap m.a.height m.b.height n.a.height n.b.height → ⊥)
    → cut m (One s) n (One s) + cut n (One s) m (One s) ≡ asked m n
in_one_slot m n s mu nu u o =
    let flipped : StretchesOverlap n.a.height n.b.height m.a.height m.b.height → ⊥ = λ t. o (overlap_flipped m.a.height m.b.height n.a.height n.b.height t) in
    slot_count m n s
    ∙ sym (asked_none m n
    (never m n
    (record {
      x_out = λ e. apart_out n.a.height n.b.height m.a.height m.b.height flipped mu;
      y_out = λ e. apart_out n.a.height n.b.height m.b.height m.a.height (λ t. flipped (second_flipped n.a.height n.b.height m.a.height m.b.height t)) (λ f. mu (sym f));
      p_out = λ e. apart_out m.a.height m.b.height n.a.height n.b.height o nu;
      q_out = λ e. apart_out m.a.height m.b.height n.b.height n.a.height (λ t. o (second_flipped m.a.height m.b.height n.a.height n.b.height t)) (λ f. nu (sym f));
      px = λ e f. u n.a m.a (inl refl) (inl refl) e f;
      py = λ e f. u n.a m.b (inl refl) (inr refl) e f;
      qx = λ e f. u n.b m.a (inr refl) (inl refl) e f;
      qy = λ e f. u n.b m.b (inr refl) (inr refl) e f;
    })))
