-- Which limits change rows, and how long these then are.
use Rattle.std.proofs.Common.{◌≡◌, ◌⊎◌, ⊎_elim, inl, inr, refl, sym, ap, subst, ◌∙◌, ℕ, zero, suc, ◌+◌, ◌^◌, ◌<◌, ◌≤◌, Bool, true, false, List, length, ℤ, pos, negsuc, ◌+ℤ◌, ◌≤ℤ◌, ◌<ℤ◌, arith}
use Rattle.std.specs.Prelude.{int_lt}
use Rattle.std.specs.Int.{int_max, int_gap}
use Rattle.std.proofs.lemmas.Int.{ints, clamps, by_lt_z}
use Rattle.std.proofs.lemmas.Bool.{cases_lt}
use Rattle.drawing_types.specs.declared.shape.Point.{Point}
use Rattle.drawing_types.specs.declared.shape.Size.{Size}
use Rattle.box_pack.specs.declared.walk.Cursor.{Cursor}
use Rattle.box_pack.specs.Boxes.{size_at, long_side, IsSize, EachSize}
use Rattle.box_pack.specs.Walk.{reach, row_or, behind, before, spot, greatest_of, spot_right, spot_bottom, sooner, next_to, long_at, page_of, IsLeastLimit, IsNear, IsPage}
use Rattle.box_pack.proofs.Filling.{near_row, near_before, lt_yes, lt_no}
use Rattle.box_pack.specs.declared.packing.Rows.{Rows}
use Rattle.box_pack.specs.Packed.{AreRows}
use Rattle.box_pack.specs.Squareness.{IsLeastLong}
use Rattle.box_pack.proofs.Standing.{greatest_all, point_in, long_is}

-- the gap and the boxes
pub record AreBoxes (sizes : List Size) (gap : ℤ) : Type 0 where
  pub count : length sizes ≤ 2048
  pub each : EachSize sizes
  pub gap_low : pos 1 ≤ℤ gap
  pub gap_high : gap ≤ℤ pos (2 ^ 20)

pub page_is : (sizes : List Size) (gap limit : ℤ) → AreBoxes sizes gap → pos 0 ≤ℤ limit → IsPage (page_of gap limit)
page_is sizes gap limit boxes low = (boxes.gap_low, boxes.gap_high, low)

-- how far box i would reach, and whether it begins a row
abbrev pub reach_of : List Size → ℤ → ℤ → ℕ → ℤ
reach_of sizes gap limit i = reach (before sizes (page_of gap limit) i) (size_at sizes i)

abbrev pub over : List Size → ℤ → ℤ → ℕ → Bool
over sizes gap limit i = int_lt limit (reach_of sizes gap limit i)

-- no row is as long as 2^60
reach_small : (c : Cursor) (s : Size) (n : ℕ) → n ≤ 2048 → IsNear n c → IsSize s → reach c s <ℤ pos (2 ^ 60)
reach_small c s n few near size =
    by_lt_z (pos 0) c.x
    (λ more. let e : reach c s ≡ c.x +ℤ s.width = rw (lt_yes (pos 0) c.x more) refl in omega (arith, ints, e, near.near, size.1))
    (λ less. let e : reach c s ≡ pos 0 = rw (lt_no (pos 0) c.x less) refl in omega (arith, ints, e))

reach_below : (sizes : List Size) (gap limit : ℤ) → AreBoxes sizes gap → pos 0 ≤ℤ limit → (i : ℕ) → i < length sizes → reach_of sizes gap limit i <ℤ pos (2 ^ 60)
reach_below sizes gap limit boxes low i h =
    let few = boxes.count in
    reach_small (before sizes (page_of gap limit) i) (size_at sizes i) i (omega arith) (near_before sizes (page_of gap limit) (page_is sizes gap limit boxes low) boxes.each i (omega arith)) (boxes.each i h)

-- Rows of two limits agree where no box passes the one and fits the other.
same_test : (l k z : ℤ) → l ≤ℤ k → (int_lt l z ≡ true → k <ℤ z) → int_lt k z ≡ int_lt l z
same_test l k z le far =
    by_lt_z l z
    (λ less. let so = lt_yes l z less in lt_yes k z (far so) ∙ sym so)
    (λ more. lt_no k z (omega (arith, ints)) ∙ sym (lt_no l z more))

abbrev pub Passes : List Size → ℤ → ℤ → ℤ → ℕ → Type 0
Passes sizes gap l k n = (i : ℕ) → i < n → over sizes gap l i ≡ true → k <ℤ reach_of sizes gap l i

test_agrees : (sizes : List Size) (gap l k : ℤ) (n i : ℕ) → l ≤ℤ k → Passes sizes gap l k n → i < n → before sizes (page_of gap k) i ≡ before sizes (page_of gap l) i → over sizes gap k i ≡ over sizes gap l i
test_agrees sizes gap l k n i le far h e =
    ap (λ (c : Cursor). int_lt k (reach c (size_at sizes i))) e ∙ same_test l k (reach_of sizes gap l i) le (far i h)

pub agrees : (sizes : List Size) (gap l k : ℤ) (n : ℕ) → l ≤ℤ k → Passes sizes gap l k n → (i : ℕ) → i ≤ n → before sizes (page_of gap k) i ≡ before sizes (page_of gap l) i
unfolding before
agrees sizes gap l k n le far zero h = refl
agrees sizes gap l k n le far (suc i) h =
    let e : before sizes (page_of gap k) i ≡ before sizes (page_of gap l) i = agrees sizes gap l k n le far i (omega arith) in
    ap (λ (b : Bool). behind gap (row_or gap (before sizes (page_of gap k) i) b) (size_at sizes i)) (test_agrees sizes gap l k n i le far (omega arith) e)
    ∙ ap (λ (c : Cursor). behind gap (row_or gap c (over sizes gap l i)) (size_at sizes i)) e

spot_agrees : (sizes : List Size) (gap l k : ℤ) (n i : ℕ) → l ≤ℤ k → Passes sizes gap l k n → i < n → spot sizes (page_of gap k) i ≡ spot sizes (page_of gap l) i
spot_agrees sizes gap l k n i le far h =
    let e : before sizes (page_of gap k) i ≡ before sizes (page_of gap l) i = agrees sizes gap l k n le far i (omega arith) in
    ap (λ (b : Bool). point_in gap (before sizes (page_of gap k) i) b) (test_agrees sizes gap l k n i le far h e)
    ∙ ap (λ (c : Cursor). point_in gap c (over sizes gap l i)) e

greatest_same : (f g : ℕ → ℤ) (n : ℕ) → ((i : ℕ) → i < n → f i ≡ g i) → greatest_of f n ≡ greatest_of g n
unfolding greatest_of
greatest_same f g zero same = refl
greatest_same f g (suc n) same =
    ap (λ (z : ℤ). int_max z (f n)) (greatest_same f g n (λ i h. same i (omega arith))) ∙ ap (λ (z : ℤ). int_max (greatest_of g n) z) (same n (omega arith))

pub long_agrees : (sizes : List Size) (gap l k : ℤ) → l ≤ℤ k → Passes sizes gap l k (length sizes) → long_at sizes gap k ≡ long_at sizes gap l
long_agrees sizes gap l k le far =
    let n = length sizes in
    let w : greatest_of (spot_right sizes (page_of gap k)) n ≡ greatest_of (spot_right sizes (page_of gap l)) n =
    greatest_same (spot_right sizes (page_of gap k)) (spot_right sizes (page_of gap l)) n (λ i h. ap (λ (p : Point). p.x +ℤ (size_at sizes i).width) (spot_agrees sizes gap l k n i le far h)) in
    let d : greatest_of (spot_bottom sizes (page_of gap k)) n ≡ greatest_of (spot_bottom sizes (page_of gap l)) n =
    greatest_same (spot_bottom sizes (page_of gap k)) (spot_bottom sizes (page_of gap l)) n (λ i h. ap (λ (p : Point). p.y +ℤ (size_at sizes i).height) (spot_agrees sizes gap l k n i le far h)) in
    ap (λ (z : ℤ). int_max z (greatest_of (spot_bottom sizes (page_of gap k)) n)) w ∙ ap (λ (z : ℤ). int_max (greatest_of (spot_right sizes (page_of gap l)) n) z) d

-- the next limit
sooner_low : (z m : ℤ) (b : Bool) → sooner z b m ≤ℤ z
sooner_low z m true = omega (arith, ints, clamps)
sooner_low z m false = omega (arith, ints)

sooner_over : (z m : ℤ) (b : Bool) → b ≡ true → sooner z b m ≤ℤ m
sooner_over z m true e = omega (arith, ints, clamps)
sooner_over z m false e = absurd cc

sooner_is : (z m : ℤ) (b : Bool) → (sooner z b m ≡ z) ⊎ ((b ≡ true) × (sooner z b m ≡ m))
sooner_is z m true = by_lt_z z m (λ less. inl (omega (arith, ints, clamps))) (λ more. inr (refl, omega (arith, ints, clamps)))
sooner_is z m false = inl refl

le_trans : (a b c : ℤ) → a ≤ℤ b → b ≤ℤ c → a ≤ℤ c
le_trans a b c p q = omega (arith, ints)

lt_le_trans : (a b c : ℤ) → a <ℤ b → b ≤ℤ c → a <ℤ c
lt_le_trans a b c p q = omega (arith, ints)

pub lt_le : (a b : ℤ) → a <ℤ b → a ≤ℤ b
lt_le a b p = omega (arith, ints)

abbrev pub next_at : List Size → ℤ → ℤ → ℕ → ℤ
next_at sizes gap limit n = next_to sizes (page_of gap limit) n

next_below : (sizes : List Size) (gap l : ℤ) (n i : ℕ) → i < n → over sizes gap l i ≡ true → next_at sizes gap l n ≤ℤ reach_of sizes gap l i
unfolding next_to
next_below sizes gap l zero i h so = absurd (omega arith)
next_below sizes gap l (suc n) i h so =
    ⊎_elim
    (λ less. le_trans _ _ _ (sooner_low (next_at sizes gap l n) (reach_of sizes gap l n) (over sizes gap l n)) (next_below sizes gap l n i less so))
    (λ more. let e : n ≡ i = omega arith in
    let yes_n : over sizes gap l n ≡ true = subst (λ (k : ℕ). over sizes gap l k ≡ true) (sym e) so in
    subst (λ (k : ℕ). sooner (next_at sizes gap l n) (over sizes gap l n) (reach_of sizes gap l n) ≤ℤ reach_of sizes gap l k) e (sooner_over (next_at sizes gap l n) (reach_of sizes gap l n) (over sizes gap l n) yes_n))
    (cases_lt i n)

abbrev pub IsReached : List Size → ℤ → ℤ → ℕ → ℤ → Type 0
IsReached sizes gap l n next = (i : ℕ) × (i < n) × (over sizes gap l i ≡ true) × (next ≡ reach_of sizes gap l i)

next_some : (sizes : List Size) (gap l : ℤ) (n : ℕ) → (next_at sizes gap l n ≡ pos (2 ^ 60)) ⊎ IsReached sizes gap l n (next_at sizes gap l n)
unfolding next_to
next_some sizes gap l zero = inl refl
next_some sizes gap l (suc n) =
    ⊎_elim
    (λ (same : next_at sizes gap l (suc n) ≡ next_at sizes gap l n). ⊎_elim (λ none. inl (same ∙ none))
    (λ (h : IsReached sizes gap l n (next_at sizes gap l n)). let (i, lt, so, is) = h in inr (i, omega arith, so, same ∙ is)) (next_some sizes gap l n))
    (λ (h : (over sizes gap l n ≡ true) × (next_at sizes gap l (suc n) ≡ reach_of sizes gap l n)). inr (n, omega arith, h.0, h.1))
    (sooner_is (next_at sizes gap l n) (reach_of sizes gap l n) (over sizes gap l n))

pub over_far : (l z : ℤ) → int_lt l z ≡ true → l <ℤ z
over_far l z so = by_lt_z l z (λ less. less) (λ more. let no = lt_no l z more in absurd cc)

pub next_above : (sizes : List Size) (gap l : ℤ) (n : ℕ) → l <ℤ pos (2 ^ 60) → l <ℤ next_at sizes gap l n
next_above sizes gap l n low =
    ⊎_elim (λ none. omega (arith, ints, none))
    (λ (h : IsReached sizes gap l n (next_at sizes gap l n)). let (i, lt, so, is) = h in let far = over_far l (reach_of sizes gap l i) so in omega (arith, ints, far, is))
    (next_some sizes gap l n)

-- a row that changes at a limit reaches it
abbrev Found : List Size → ℤ → ℤ → Type 0
Found sizes gap next = (j : ℕ) × (j < length sizes) × (next ≤ℤ spot_right sizes (page_of gap next) j)

right_at : (sizes : List Size) (gap l next : ℤ) (i : ℕ) → pos 0 <ℤ next → before sizes (page_of gap next) i ≡ before sizes (page_of gap l) i → next ≡ reach_of sizes gap l i → next ≤ℤ spot_right sizes (page_of gap next) i
right_at sizes gap l next i positive e is =
    let c = before sizes (page_of gap next) i in
    let same : next ≡ reach c (size_at sizes i) = is ∙ ap (λ (z : Cursor). reach z (size_at sizes i)) (sym e) in
    let under : over sizes gap next i ≡ false = lt_no next (reach c (size_at sizes i)) (omega (arith, ints, same)) in
    let x : (spot sizes (page_of gap next) i).x ≡ c.x = ap (λ (b : Bool). (row_or gap c b).x) under in
    by_lt_z (pos 0) c.x
    (λ more. let r : reach c (size_at sizes i) ≡ c.x +ℤ (size_at sizes i).width = rw (lt_yes (pos 0) c.x more) refl in omega (arith, ints, same, x, r))
    (λ less. let r : reach c (size_at sizes i) ≡ pos 0 = rw (lt_no (pos 0) c.x less) refl in absurd (omega (arith, ints, same, r, positive)))

found_step : (sizes : List Size) (gap l next : ℤ) (i : ℕ) → i < length sizes → l <ℤ next → pos 0 <ℤ next → (over sizes gap l i ≡ true → next ≤ℤ reach_of sizes gap l i)
    → before sizes (page_of gap next) i ≡ before sizes (page_of gap l) i → Found sizes gap next ⊎ (before sizes (page_of gap next) (suc i) ≡ before sizes (page_of gap l) (suc i))
unfolding before
found_step sizes gap l next i h low positive least e =
    by_lt_z next (reach_of sizes gap l i)
    (λ beyond. let far : int_lt l (reach_of sizes gap l i) ≡ true → next <ℤ reach_of sizes gap l i = λ so. beyond in
    let t = same_test l next (reach_of sizes gap l i) (omega (arith, ints)) far in
    inr (ap (λ (c : Cursor). behind gap (row_or gap c (int_lt next (reach c (size_at sizes i)))) (size_at sizes i)) e
    ∙ ap (λ (b : Bool). behind gap (row_or gap (before sizes (page_of gap l) i) b) (size_at sizes i)) t))
    (λ within. by_lt_z l (reach_of sizes gap l i)
    (λ more. let le = least (lt_yes l (reach_of sizes gap l i) more) in
    inl (i, h, right_at sizes gap l next i positive e (omega (arith, ints, le, within))))
    (λ fits. let t : int_lt next (reach_of sizes gap l i) ≡ int_lt l (reach_of sizes gap l i) = lt_no next (reach_of sizes gap l i) within ∙ sym (lt_no l (reach_of sizes gap l i) fits) in
    inr (ap (λ (c : Cursor). behind gap (row_or gap c (int_lt next (reach c (size_at sizes i)))) (size_at sizes i)) e
    ∙ ap (λ (b : Bool). behind gap (row_or gap (before sizes (page_of gap l) i) b) (size_at sizes i)) t)))

found : (sizes : List Size) (gap l next : ℤ) → l <ℤ next → pos 0 <ℤ next → ((i : ℕ) → i < length sizes → over sizes gap l i ≡ true → next ≤ℤ reach_of sizes gap l i)
    → (i : ℕ) → i ≤ length sizes → Found sizes gap next ⊎ (before sizes (page_of gap next) i ≡ before sizes (page_of gap l) i)
unfolding before
found sizes gap l next low positive least zero h = inr refl
found sizes gap l next low positive least (suc i) h =
    ⊎_elim (λ done. inl done) (λ e. found_step sizes gap l next i (omega arith) low positive (least i (omega arith)) e)
    (found sizes gap l next low positive least i (omega arith))

wide_found : (sizes : List Size) (gap next : ℤ) → Found sizes gap next → next ≤ℤ long_at sizes gap next
wide_found sizes gap next (j, lt, wide) =
    let le = greatest_all (spot_right sizes (page_of gap next)) (length sizes) j lt in
    le_trans _ _ _ wide (le_trans _ _ _ le (omega (arith, ints, clamps)))

pub wide : (sizes : List Size) (gap l next : ℤ) → pos 0 ≤ℤ l → l <ℤ next → next ≡ next_at sizes gap l (length sizes) → IsReached sizes gap l (length sizes) next → next ≤ℤ long_at sizes gap next
wide sizes gap l next low above e (i, lt, so, is) =
    let positive : pos 0 <ℤ next = omega (arith, ints) in
    let least : (k : ℕ) → k < length sizes → over sizes gap l k ≡ true → next ≤ℤ reach_of sizes gap l k = λ k h y. let le = next_below sizes gap l (length sizes) k h y in subst (λ (z : ℤ). z ≤ℤ reach_of sizes gap l k) (sym e) le in
    ⊎_elim (λ (done : Found sizes gap next). wide_found sizes gap next done)
    (λ same. wide_found sizes gap next (i, lt, right_at sizes gap l next i positive same is))
    (found sizes gap l next above positive least i (omega arith))

reached_above : (sizes : List Size) (gap l : ℤ) (n : ℕ) (next : ℤ) → IsReached sizes gap l n next → l <ℤ next
reached_above sizes gap l n next (i, lt, so, is) = let far = over_far l (reach_of sizes gap l i) so in omega (arith, ints, far, is)

reached_small : (sizes : List Size) (gap l next : ℤ) → AreBoxes sizes gap → pos 0 ≤ℤ l → IsReached sizes gap l (length sizes) next → next <ℤ pos (2 ^ 60)
reached_small sizes gap l next boxes low (i, lt, so, is) = let small = reach_below sizes gap l boxes low i lt in omega (arith, ints, small, is)

-- Rows of a greater limit are as long as those of this one, or as the next limit.
abbrev Later : List Size → ℤ → ℤ → ℤ → Type 0
Later sizes gap l k = (long_at sizes gap k ≡ long_at sizes gap l) ⊎ (next_at sizes gap l (length sizes) ≤ℤ long_at sizes gap k)

later_step : (sizes : List Size) (gap : ℤ) → AreBoxes sizes gap → (l k next : ℤ) → pos 0 ≤ℤ l → next ≡ next_at sizes gap l (length sizes) → IsReached sizes gap l (length sizes) next
    → Later sizes gap next k → next ≤ℤ long_at sizes gap k
later_step sizes gap boxes l k next low is reached after =
    let above = reached_above sizes gap l (length sizes) next reached in
    let small = reached_small sizes gap l next boxes low reached in
    let w = wide sizes gap l next low above is reached in
    let more = next_above sizes gap next (length sizes) small in
    ⊎_elim (λ (e : long_at sizes gap k ≡ long_at sizes gap next). subst (λ (z : ℤ). next ≤ℤ z) (sym e) w)
    (λ (q : next_at sizes gap next (length sizes) ≤ℤ long_at sizes gap k). le_trans _ _ _ (lt_le _ _ more) q) after

pub long_between : (sizes : List Size) (gap l k : ℤ) → l ≤ℤ k → k <ℤ next_at sizes gap l (length sizes) → long_at sizes gap k ≡ long_at sizes gap l
long_between sizes gap l k le less =
    long_agrees sizes gap l k le (λ i h so. let b = next_below sizes gap l (length sizes) i h so in lt_le_trans _ _ _ less b)

later_none : (sizes : List Size) (gap : ℤ) → AreBoxes sizes gap → (l k : ℤ) → pos 0 ≤ℤ l → l ≤ℤ k → next_at sizes gap l (length sizes) ≡ pos (2 ^ 60) → long_at sizes gap k ≡ long_at sizes gap l
later_none sizes gap boxes l k low le none =
    long_agrees sizes gap l k le (λ i h so. let b = next_below sizes gap l (length sizes) i h so in
    let c = reach_below sizes gap l boxes low i h in
    absurd (omega (arith, ints, none, b, c)))

later : (sizes : List Size) (gap : ℤ) → AreBoxes sizes gap → (fuel : ℕ) (l k : ℤ) → pos 0 ≤ℤ l → l ≤ℤ k → k ≤ℤ (l +ℤ pos fuel) → Later sizes gap l k
later sizes gap boxes zero l k low le near = let e : l ≡ k = omega (arith, ints) in inl (ap (long_at sizes gap) (sym e))
later sizes gap boxes (suc fuel) l k low le near =
    by_lt_z k (next_at sizes gap l (length sizes)) (λ less. inl (long_between sizes gap l k le less))
    (λ more. ⊎_elim (λ none. inl (later_none sizes gap boxes l k low le none))
    (λ (reached : IsReached sizes gap l (length sizes) (next_at sizes gap l (length sizes))).
    let next = next_at sizes gap l (length sizes) in
    let above : l <ℤ next = reached_above sizes gap l (length sizes) next reached in
    inr (later_step sizes gap boxes l k next low refl reached
    (later sizes gap boxes fuel next k (omega (arith, ints, low, above)) more (omega (arith, ints, near, above)))))
    (next_some sizes gap l (length sizes)))

fuel_for : (l k : ℤ) → pos 0 ≤ℤ l → (f : ℕ) × (k ≤ℤ (l +ℤ pos f))
fuel_for l (pos n) low = (n, omega (arith, ints))
fuel_for l (negsuc n) low = (0, omega (arith, ints))

-- no rows are as long as 2^60
greatest_small : (f : ℕ → ℤ) (n : ℕ) (most : ℤ) → pos 0 <ℤ most → ((i : ℕ) → i < n → f i <ℤ most) → greatest_of f n <ℤ most
unfolding greatest_of
greatest_small f zero most some all = some
greatest_small f (suc n) most some all =
    let before_it = greatest_small f n most some (λ i h. all i (omega arith)) in
    let last = all n (omega arith) in
    omega (arith, ints, clamps, before_it, last)

ends_small : (n : ℕ) (c : Cursor) (s : Size) → n ≤ 2049 → IsNear n c → IsSize s → ((c.x +ℤ s.width) <ℤ pos (2 ^ 60)) × ((c.y +ℤ s.height) <ℤ pos (2 ^ 60))
ends_small n c s few near size = (omega (arith, ints, near.near, size.1), omega (arith, ints, near.low, near.tall, size.3))

spot_small : (sizes : List Size) (gap l : ℤ) → AreBoxes sizes gap → pos 0 ≤ℤ l → (i : ℕ) → i < length sizes
    → (spot_right sizes (page_of gap l) i <ℤ pos (2 ^ 60)) × (spot_bottom sizes (page_of gap l) i <ℤ pos (2 ^ 60))
spot_small sizes gap l boxes low i h =
    let few = boxes.count in
    let page = page_is sizes gap l boxes low in
    ends_small (suc i) (row_or gap (before sizes (page_of gap l) i) (over sizes gap l i)) (size_at sizes i) (omega arith)
    (near_row i (page_of gap l) (before sizes (page_of gap l) i) (over sizes gap l i) page (near_before sizes (page_of gap l) page boxes.each i (omega arith))) (boxes.each i h)

long_small : (sizes : List Size) (gap l : ℤ) → AreBoxes sizes gap → pos 0 ≤ℤ l → long_at sizes gap l <ℤ pos (2 ^ 60)
long_small sizes gap l boxes low =
    let w = greatest_small (spot_right sizes (page_of gap l)) (length sizes) (pos (2 ^ 60)) (omega (arith, ints)) (λ i h. (spot_small sizes gap l boxes low i h).0) in
    let d = greatest_small (spot_bottom sizes (page_of gap l)) (length sizes) (pos (2 ^ 60)) (omega (arith, ints)) (λ i h. (spot_small sizes gap l boxes low i h).1) in
    omega (arith, ints, clamps, w, d)

-- The walk over the limits that change the rows: `limit` is the best so far, `tried` the last one, and `next` the one behind it.
pub record IsWalked (sizes : List Size) (gap limit least tried next : ℤ) : Type 0 where
  pub low : pos 0 ≤ℤ tried
  pub small : tried <ℤ pos (2 ^ 60)
  pub next_is : next ≡ next_at sizes gap tried (length sizes)
  pub least_is : least ≡ long_at sizes gap limit
  pub from_zero : pos 0 ≤ℤ limit
  pub not_past : limit ≤ℤ tried
  pub no_smaller : (k : ℤ) → pos 0 ≤ℤ k → k <ℤ next → least ≤ℤ long_at sizes gap k
  pub greater : (k : ℤ) → pos 0 ≤ℤ k → k <ℤ limit → least <ℤ long_at sizes gap k

eq_le : (a b : ℤ) → a ≡ b → b ≤ℤ a
eq_le a b e = omega (arith, ints)

pub walked_first : (sizes : List Size) (gap least next : ℤ) → next ≡ next_at sizes gap (pos 0) (length sizes) → least ≡ long_at sizes gap (pos 0) → IsWalked sizes gap (pos 0) least (pos 0) next
walked_first sizes gap least next is long =
    record {
      low = omega (arith, ints);
      small = omega (arith, ints);
      next_is = is;
      least_is = long;
      from_zero = omega (arith, ints);
      not_past = omega (arith, ints);
      no_smaller = λ k low less. let e = long_between sizes gap (pos 0) k low (subst (λ (z : ℤ). k <ℤ z) is less) in eq_le _ _ (e ∙ sym long);
      greater = λ k low less. absurd (omega (arith, ints));
    }

walked_low : (sizes : List Size) (gap limit least tried next : ℤ) → AreBoxes sizes gap → IsWalked sizes gap limit least tried next → next <ℤ least → tried <ℤ next
walked_low sizes gap limit least tried next boxes w less =
    let small = long_small sizes gap limit boxes w.from_zero in
    ⊎_elim (λ none. absurd (omega (arith, ints, none, small, less, w.next_is, w.least_is)))
    (λ (h : IsReached sizes gap tried (length sizes) (next_at sizes gap tried (length sizes))).
    subst (λ (z : ℤ). tried <ℤ z) (sym w.next_is) (reached_above sizes gap tried (length sizes) (next_at sizes gap tried (length sizes)) h))
    (next_some sizes gap tried (length sizes))

-- the next limit is no better
pub walked_on : (sizes : List Size) (gap limit least tried next after : ℤ) → AreBoxes sizes gap → IsWalked sizes gap limit least tried next → next <ℤ least → after ≡ next_at sizes gap next (length sizes)
    → least ≤ℤ long_at sizes gap next → IsWalked sizes gap limit least next after
walked_on sizes gap limit least tried next after boxes w less is no_better =
    let up = walked_low sizes gap limit least tried next boxes w less in
    record {
      low = omega (arith, ints, w.low, up);
      small = omega (arith, ints, less, w.least_is, long_small sizes gap limit boxes w.from_zero);
      next_is = is;
      least_is = w.least_is;
      from_zero = w.from_zero;
      not_past = omega (arith, ints, w.not_past, up);
      no_smaller = λ k low below. by_lt_z k next (λ before_it. w.no_smaller k low before_it)
          (λ from_it. let e = long_between sizes gap next k from_it (subst (λ (z : ℤ). k <ℤ z) is below) in subst (λ (z : ℤ). least ≤ℤ z) (sym e) no_better);
      greater = w.greater;
    }

-- the next limit is better
pub walked_better : (sizes : List Size) (gap limit least tried next after long : ℤ) → AreBoxes sizes gap → IsWalked sizes gap limit least tried next → next <ℤ least → after ≡ next_at sizes gap next (length sizes)
    → long ≡ long_at sizes gap next → long <ℤ least → IsWalked sizes gap next long next after
walked_better sizes gap limit least tried next after long boxes w less is same better =
    let up = walked_low sizes gap limit least tried next boxes w less in
    record {
      low = omega (arith, ints, w.low, up);
      small = omega (arith, ints, less, w.least_is, long_small sizes gap limit boxes w.from_zero);
      next_is = is;
      least_is = same;
      from_zero = omega (arith, ints, w.low, up);
      not_past = omega (arith, ints);
      no_smaller = λ k low below. by_lt_z k next
          (λ before_it. let le = w.no_smaller k low before_it in lt_le _ _ (lt_le_trans _ _ _ better le))
          (λ from_it. let e = long_between sizes gap next k from_it (subst (λ (z : ℤ). k <ℤ z) is below) in eq_le _ _ (e ∙ sym same));
      greater = λ k low before_it. let le = w.no_smaller k low before_it in lt_le_trans _ _ _ better le;
    }

-- no limit from the next one on is better
walked_up : (sizes : List Size) (gap tried next : ℤ) → AreBoxes sizes gap → pos 0 ≤ℤ tried → next ≡ next_at sizes gap tried (length sizes) → tried <ℤ pos (2 ^ 60) → tried <ℤ next
walked_up sizes gap tried next boxes low is small = subst (λ (z : ℤ). tried <ℤ z) (sym is) (next_above sizes gap tried (length sizes) small)

pub walked_all : (sizes : List Size) (gap limit least tried next : ℤ) → AreBoxes sizes gap → IsWalked sizes gap limit least tried next → least ≤ℤ next → IsLeastLimit sizes gap limit
walked_all sizes gap limit least tried next boxes w end =
    let tried_long : tried <ℤ next → least ≤ℤ long_at sizes gap tried = λ up. w.no_smaller tried w.low up in
    record {
      whole = w.from_zero;
      no_smaller = λ k low. subst (λ (z : ℤ). z ≤ℤ long_at sizes gap k) w.least_is
          (by_lt_z k next (λ below. w.no_smaller k low below)
          (λ beyond. let up = walked_up sizes gap tried next boxes w.low w.next_is w.small in
          let (f, far) = fuel_for tried k w.low in
          ⊎_elim (λ (e : long_at sizes gap k ≡ long_at sizes gap tried). subst (λ (z : ℤ). least ≤ℤ z) (sym e) (tried_long up))
          (λ (q : next_at sizes gap tried (length sizes) ≤ℤ long_at sizes gap k). le_trans _ _ _ end (subst (λ (z : ℤ). z ≤ℤ long_at sizes gap k) (sym w.next_is) q))
          (later sizes gap boxes f tried k w.low (omega (arith, ints, up, beyond)) far)));
      least = λ k low below. subst (λ (z : ℤ). z <ℤ long_at sizes gap k) w.least_is (w.greater k low below);
    }

-- the gap between two limits falls
pub gap_falls : (a b c d : ℤ) → pos 0 ≤ℤ a → a <ℤ c → a <ℤ b → d ≤ℤ b → int_gap c d < int_gap a b
gap_falls (pos a) (pos b) (pos c) (pos d) p q r s = omega (arith, ints)
gap_falls (pos a) (pos b) (pos c) (negsuc d) p q r s = omega (arith, ints)
gap_falls a b c d p q r s = absurd (omega (arith, ints))

pub walk_falls : (sizes : List Size) (gap limit least tried next after less_or_same : ℤ) → AreBoxes sizes gap → IsWalked sizes gap limit least tried next → next <ℤ least → after ≡ next_at sizes gap next (length sizes)
    → less_or_same ≤ℤ least → int_gap after less_or_same < int_gap next least
walk_falls sizes gap limit least tried next after now boxes w less is le =
    let up = walked_low sizes gap limit least tried next boxes w less in
    let low : pos 0 ≤ℤ next = omega (arith, ints, up, w.low) in
    let small : next <ℤ pos (2 ^ 60) = omega (arith, ints, less, w.least_is, long_small sizes gap limit boxes w.from_zero) in
    let above : next <ℤ after = walked_up sizes gap next after boxes low is small in
    gap_falls next least after now low above less le

pub walk_low : (sizes : List Size) (gap limit least tried next : ℤ) → AreBoxes sizes gap → IsWalked sizes gap limit least tried next → next <ℤ least → pos 0 ≤ℤ next
walk_low sizes gap limit least tried next boxes w less = let up = walked_low sizes gap limit least tried next boxes w less in omega (arith, ints, up, w.low)

-- the rows of the least limit are the squarest
le_by : (a b c d : ℤ) → a ≡ b → c ≡ d → b ≤ℤ d → a ≤ℤ c
le_by a b c d p q r = omega (arith, ints)

lt_by : (a b c d : ℤ) → a ≡ b → c ≡ d → b <ℤ d → a <ℤ c
lt_by a b c d p q r = omega (arith, ints)

pub least_long : (sizes : List Size) (gap limit : ℤ) (rows : Rows) → AreBoxes sizes gap → IsLeastLimit sizes gap limit → AreRows sizes gap limit rows → IsLeastLong sizes gap limit (long_side rows.extent)
least_long sizes gap limit rows boxes least are =
    let mine : long_side rows.extent ≡ long_at sizes gap limit = long_is sizes gap limit rows.at rows.extent (page_is sizes gap limit boxes least.whole) boxes.each are.places are.extent in
    record {
      whole = least.whole;
      no_smaller = λ k at extent packed has. le_by (long_side rows.extent) (long_at sizes gap limit) (long_side extent) (long_at sizes gap (pos k)) mine
          (long_is sizes gap (pos k) at extent (page_is sizes gap (pos k) boxes (omega (arith, ints))) boxes.each packed has) (least.no_smaller (pos k) (omega (arith, ints)));
      least = λ k at extent below packed has. lt_by (long_side rows.extent) (long_at sizes gap limit) (long_side extent) (long_at sizes gap (pos k)) mine
          (long_is sizes gap (pos k) at extent (page_is sizes gap (pos k) boxes (omega (arith, ints))) boxes.each packed has) (least.least (pos k) (omega (arith, ints)) below);
    }

pub not_far : (z same l : ℤ) → z ≡ same → int_lt z l ≡ false → l ≤ℤ same
not_far z same l e off = subst (λ (y : ℤ). l ≤ℤ y) e (by_lt_z z l (λ less. let so = lt_yes z l less in absurd cc) (λ more. more))

pub le_refl : (a : ℤ) → a ≤ℤ a
le_refl a = omega (arith, ints)
