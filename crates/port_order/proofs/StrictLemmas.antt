-- The relation by which spots are ordered is a strict total order.
use Rattle.std.proofs.Common.{◌≡◌, ◌<◌, ◌≤◌, ◌+◌, ◌*◌, ◌⊎◌, ℕ, ℤ, ◌<ℤ◌, Bool, true, false, arith, inl, inr, sym, ◌∙◌}
use Rattle.std.proofs.lemmas.Int.{ints}
use Rattle.std.proofs.lemmas.Bool.{cases_lt, cases_order}
use Rattle.std.proofs.Math.Nat.{mul-le-mul_left, le_of_mul-le-mul_left}
use Rattle.std.specs.declared.cmp.Ordering.{Ordering}
use Rattle.std.specs.declared.cmp.Ordering.TheVariants.{Less, Equal, Greater}
use Rattle.std.specs.Ordering.{MatchOrdering, int_cmp}
use Rattle.std.specs.Cmp.{int_ranks}
use Rattle.std.specs.Prelude.{Option, None, Some, IfSome, ◌≢◌}
use Rattle.drawing_types.specs.declared.shape.Side.{Side}
use Rattle.drawing_types.specs.declared.shape.Side.TheVariants.{North, East, South, West}
use Rattle.elk_doc.specs.declared.document.PortRule.{PortRule}
use Rattle.elk_doc.specs.declared.document.PortRule.TheVariants.{Free, FixedSide, FixedOrder, FixedPos}
use Rattle.elk_doc.specs.PortsKept.{GoesFirst}
use Rattle.port_order.specs.declared.children.Child.{Child}
use Rattle.port_order.specs.declared.spots.Mean.{Mean}
use Rattle.port_order.specs.declared.spots.Spot.{Spot}
use Rattle.port_order.specs.Child.{port_at}
use Rattle.port_order.specs.Sides.{is_forward}
use Rattle.port_order.specs.Laws.{IsStrictOrder}
use Rattle.port_order.specs.Order.{flow_class, given_at, MeanFirst, ClockwiseFirst, PortFirst, FixedFirst, FreeFirst, ComesFirst}

-- a pair of a key and a number, by the key and then by the number
abbrev Before : ℕ → ℕ → ℕ → ℕ → Type 0
Before a b i j = (a < b) ⊎ ((a ≡ b) × (i < j))

before_one_way : (a b i j : ℕ) → Before a b i j → Before b a j i → ⊥
before_one_way a b i j (inl p) (inl q) = absurd (omega (arith, p, q))
before_one_way a b i j (inl p) (inr q) = absurd (omega (arith, p, q.0))
before_one_way a b i j (inr p) (inl q) = absurd (omega (arith, p.0, q))
before_one_way a b i j (inr p) (inr q) = absurd (omega (arith, p.1, q.1))

before_either : (a b i j : ℕ) → i ≢ j → Before a b i j ⊎ Before b a j i
before_either a b i j differ =
    elim (cases_order a b) [
      | inl same ↦ elim (cases_order i j) [
        | inl e ↦ absurd (differ e)
        | inr (inl less) ↦ inl (inr (same, less))
        | inr (inr less) ↦ inr (inr (sym same, less))
      ]
      | inr (inl less) ↦ inl (inl less)
      | inr (inr less) ↦ inr (inl less)
    ]

before_chain : (a b d i j k : ℕ) → Before a b i j → Before b d j k → Before a d i k
before_chain a b d i j k (inl p) (inl q) = inl (omega (arith, p, q))
before_chain a b d i j k (inl p) (inr q) = inl (omega (arith, p, q.0))
before_chain a b d i j k (inr p) (inl q) = inl (omega (arith, p.0, q))
before_chain a b d i j k (inr p) (inr q) = inr (omega (arith, p.0, q.0), omega (arith, p.1, q.1))

mean_one_way : (m n : Option Mean) (i j : ℕ) → MeanFirst m n i j → MeanFirst n m j i → ⊥
mean_one_way (Some m) (Some n) i j p q = before_one_way (m.sum * n.count) (n.sum * m.count) i j p q
mean_one_way (Some m) None i j p q = q
mean_one_way None (Some n) i j p q = p
mean_one_way None None i j p q = absurd (omega (arith, p, q))

mean_either : (m n : Option Mean) (i j : ℕ) → i ≢ j → MeanFirst m n i j ⊎ MeanFirst n m j i
mean_either (Some m) (Some n) i j differ = before_either (m.sum * n.count) (n.sum * m.count) i j differ
mean_either (Some m) None i j differ = inl tt
mean_either None (Some n) i j differ = inr tt
mean_either None None i j differ =
    elim (cases_order i j) [
      | inl e ↦ absurd (differ e)
      | inr (inl less) ↦ inl less
      | inr (inr less) ↦ inr less
    ]

-- a/c, b/d and e/f as fractions
crosswise_chain : (a b e c d f : ℕ) → 1 ≤ d → a * d ≤ b * c → b * f ≤ e * d → a * f ≤ e * c
crosswise_chain a b e c d f pd p q =
    let l1 : a * d * f ≤ b * c * f = omega (arith, mul-le-mul_left {m = a * d} {n = b * c} f p) in
    let l2 : b * f * c ≤ e * d * c = omega (arith, mul-le-mul_left {m = b * f} {n = e * d} c q) in
    let l3 : d * (a * f) ≤ d * (e * c) = omega (arith, l1, l2) in
    le_of_mul-le-mul_left l3 pd

crosswise_less_first : (a b e c d f : ℕ) → 1 ≤ d → 1 ≤ f → a * d < b * c → b * f ≤ e * d → a * f < e * c
crosswise_less_first a b e c d f pd pf p q =
    let l1 : (a * d + 1) * f ≤ b * c * f = omega (arith, mul-le-mul_left {m = a * d + 1} {n = b * c} f (omega (arith, p))) in
    let l2 : b * f * c ≤ e * d * c = omega (arith, mul-le-mul_left {m = b * f} {n = e * d} c q) in
    elim (cases_lt (a * f) (e * c)) [
      | inl less ↦ less
      | inr more ↦ let l3 : e * c * d ≤ a * f * d = omega (arith, mul-le-mul_left {m = e * c} {n = a * f} d more) in absurd (omega (arith, l1, l2, l3, pf))
    ]

crosswise_less_second : (a b e c d f : ℕ) → 1 ≤ c → 1 ≤ d → a * d ≤ b * c → b * f < e * d → a * f < e * c
crosswise_less_second a b e c d f pc pd p q =
    let l1 : a * d * f ≤ b * c * f = omega (arith, mul-le-mul_left {m = a * d} {n = b * c} f p) in
    let l2 : (b * f + 1) * c ≤ e * d * c = omega (arith, mul-le-mul_left {m = b * f + 1} {n = e * d} c (omega (arith, q))) in
    elim (cases_lt (a * f) (e * c)) [
      | inl less ↦ less
      | inr more ↦ let l3 : e * c * d ≤ a * f * d = omega (arith, mul-le-mul_left {m = e * c} {n = a * f} d more) in absurd (omega (arith, l1, l2, l3, pc))
    ]

crosswise_same : (a b e c d f : ℕ) → 1 ≤ d → a * d ≡ b * c → b * f ≡ e * d → a * f ≡ e * c
crosswise_same a b e c d f pd p q =
    let up = crosswise_chain a b e c d f pd (omega (arith, p)) (omega (arith, q)) in
    let down = crosswise_chain e b a f d c pd (omega (arith, q)) (omega (arith, p)) in
    omega (arith, up, down)

abbrev Counts : Option Mean → Type 0
Counts mean = IfSome mean (λ m. 1 ≤ m.count)

mean_chain : (l m n : Option Mean) (i j k : ℕ) → Counts l → Counts m → Counts n → MeanFirst l m i j → MeanFirst m n j k → MeanFirst l n i k
mean_chain (Some l) (Some m) (Some n) i j k cl cm cn (inl p) (inl q) = inl (crosswise_less_first l.sum m.sum n.sum l.count m.count n.count cm cn p (omega (arith, q)))
mean_chain (Some l) (Some m) (Some n) i j k cl cm cn (inl p) (inr q) = inl (crosswise_less_first l.sum m.sum n.sum l.count m.count n.count cm cn p (omega (arith, q.0)))
mean_chain (Some l) (Some m) (Some n) i j k cl cm cn (inr p) (inl q) = inl (crosswise_less_second l.sum m.sum n.sum l.count m.count n.count cl cm (omega (arith, p.0)) q)
mean_chain (Some l) (Some m) (Some n) i j k cl cm cn (inr p) (inr q) = inr (crosswise_same l.sum m.sum n.sum l.count m.count n.count cm p.0 q.0, omega (arith, p.1, q.1))
mean_chain (Some l) (Some m) None i j k cl cm cn p q = tt
mean_chain (Some l) None (Some n) i j k cl cm cn p q = absurd q
mean_chain (Some l) None None i j k cl cm cn p q = tt
mean_chain None (Some m) n i j k cl cm cn p q = absurd p
mean_chain None None (Some n) i j k cl cm cn p q = absurd q
mean_chain None None None i j k cl cm cn p q = omega (arith, p, q)

three_one_way : (a b p q : ℤ) (i l : ℕ) → GoesFirst a b p q i l → GoesFirst b a q p l i → ⊥
three_one_way a b p q i l (inl x) (inl y) = absurd (omega (arith, ints, x, y))
three_one_way a b p q i l (inl x) (inr y) = absurd (omega (arith, ints, x, y.0))
three_one_way a b p q i l (inr x) (inl y) = absurd (omega (arith, ints, x.0, y))
three_one_way a b p q i l (inr x) (inr y) = inner x.1 y.1
  where
    inner : ((p <ℤ q) ⊎ ((p ≡ q) × (i < l))) → ((q <ℤ p) ⊎ ((q ≡ p) × (l < i))) → ⊥
    inner (inl u) (inl v) = absurd (omega (arith, ints, u, v))
    inner (inl u) (inr v) = absurd (omega (arith, ints, u, v.0))
    inner (inr u) (inl v) = absurd (omega (arith, ints, u.0, v))
    inner (inr u) (inr v) = absurd (omega (arith, u.1, v.1))

order_z : (a b : ℤ) → (a ≡ b) ⊎ ((a <ℤ b) ⊎ (b <ℤ a))
order_z a b = step (int_cmp a b) (int_ranks a b)
  where
    step : (r : Ordering) → MatchOrdering r (a <ℤ b) (a ≡ b) (b <ℤ a) → (a ≡ b) ⊎ ((a <ℤ b) ⊎ (b <ℤ a))
    step Less h = inr (inl h)
    step Equal h = inl h
    step Greater h = inr (inr h)

three_either : (a b p q : ℤ) (i l : ℕ) → i ≢ l → GoesFirst a b p q i l ⊎ GoesFirst b a q p l i
three_either a b p q i l differ =
    elim (order_z a b) [
      | inl same ↦ elim (order_z p q) [
        | inl at ↦ elim (cases_order i l) [
          | inl e ↦ absurd (differ e)
          | inr (inl less) ↦ inl (inr (same, inr (at, less)))
          | inr (inr less) ↦ inr (inr (sym same, inr (sym at, less)))
        ]
        | inr (inl less) ↦ inl (inr (same, inl less))
        | inr (inr less) ↦ inr (inr (sym same, inl less))
      ]
      | inr (inl less) ↦ inl (inl less)
      | inr (inr less) ↦ inr (inl less)
    ]

three_chain : (a b d p q r : ℤ) (i j k : ℕ) → GoesFirst a b p q i j → GoesFirst b d q r j k → GoesFirst a d p r i k
three_chain a b d p q r i j k (inl x) (inl y) = inl (omega (arith, ints, x, y))
three_chain a b d p q r i j k (inl x) (inr y) = inl (omega (arith, ints, x, y.0))
three_chain a b d p q r i j k (inr x) (inl y) = inl (omega (arith, ints, x.0, y))
three_chain a b d p q r i j k (inr x) (inr y) = inr (x.0 ∙ y.0, inner x.1 y.1)
  where
    inner : ((p <ℤ q) ⊎ ((p ≡ q) × (i < j))) → ((q <ℤ r) ⊎ ((q ≡ r) × (j < k))) → (p <ℤ r) ⊎ ((p ≡ r) × (i < k))
    inner (inl u) (inl v) = inl (omega (arith, ints, u, v))
    inner (inl u) (inr v) = inl (omega (arith, ints, u, v.0))
    inner (inr u) (inl v) = inl (omega (arith, ints, u.0, v))
    inner (inr u) (inr v) = inr (u.0 ∙ v.0, omega (arith, u.1, v.1))

pub clockwise_one_way : (c : Child) (side : Side) (j i k l : ℕ) → ClockwiseFirst c side j i k l → ClockwiseFirst c side k l j i → ⊥
clockwise_one_way c side j i k l p q = three_one_way (port_at c j).index (port_at c k).index (given_at c side j) (given_at c side k) i l p q

port_one_way : (forward : Bool) (c : Child) (side : Side) (j i k l : ℕ) → PortFirst forward c side j i k l → PortFirst forward c side k l j i → ⊥
port_one_way true c side j i k l p q = clockwise_one_way c side j i k l p q
port_one_way false c side j i k l p q = clockwise_one_way c side k l j i p q

clockwise_either : (c : Child) (side : Side) (j i k l : ℕ) → i ≢ l → ClockwiseFirst c side j i k l ⊎ ClockwiseFirst c side k l j i
clockwise_either c side j i k l differ = three_either (port_at c j).index (port_at c k).index (given_at c side j) (given_at c side k) i l differ

port_either : (forward : Bool) (c : Child) (side : Side) (j i k l : ℕ) → i ≢ l → PortFirst forward c side j i k l ⊎ PortFirst forward c side k l j i
port_either true c side j i k l differ = clockwise_either c side j i k l differ
port_either false c side j i k l differ = clockwise_either c side k l j i (λ e. differ (sym e))

clockwise_chain : (c : Child) (side : Side) (f j g k h l : ℕ) → ClockwiseFirst c side f j g k → ClockwiseFirst c side g k h l → ClockwiseFirst c side f j h l
clockwise_chain c side f j g k h l p q = three_chain (port_at c f).index (port_at c g).index (port_at c h).index (given_at c side f) (given_at c side g) (given_at c side h) j k l p q

port_chain : (forward : Bool) (c : Child) (side : Side) (f j g k h l : ℕ) → PortFirst forward c side f j g k → PortFirst forward c side g k h l → PortFirst forward c side f j h l
port_chain true c side f j g k h l p q = clockwise_chain c side f j g k h l p q
port_chain false c side f j g k h l p q = clockwise_chain c side h l g k f j q p

fixed_one_way : (c : Child) (side : Side) (s t : Spot) (j k : Option ℕ) → FixedFirst c side s t j k → FixedFirst c side t s k j → ⊥
fixed_one_way c side s t (Some j) (Some k) p q = port_one_way (is_forward c.direction side) c side j s.number k t.number p q
fixed_one_way c side s t (Some j) None p q = q
fixed_one_way c side s t None (Some k) p q = p
fixed_one_way c side s t None None p q = mean_one_way s.mean t.mean s.number t.number p q

fixed_either : (c : Child) (side : Side) (s t : Spot) (j k : Option ℕ) → s.number ≢ t.number → FixedFirst c side s t j k ⊎ FixedFirst c side t s k j
fixed_either c side s t (Some j) (Some k) differ = port_either (is_forward c.direction side) c side j s.number k t.number differ
fixed_either c side s t (Some j) None differ = inl tt
fixed_either c side s t None (Some k) differ = inr tt
fixed_either c side s t None None differ = mean_either s.mean t.mean s.number t.number differ

fixed_chain : (c : Child) (side : Side) (r s t : Spot) (i j k : Option ℕ) → Counts r.mean → Counts s.mean → Counts t.mean → FixedFirst c side r s i j → FixedFirst c side s t j k → FixedFirst c side r t i k
fixed_chain c side r s t (Some i) (Some j) (Some k) cr cs ct p q = port_chain (is_forward c.direction side) c side i r.number j s.number k t.number p q
fixed_chain c side r s t (Some i) (Some j) None cr cs ct p q = tt
fixed_chain c side r s t (Some i) None (Some k) cr cs ct p q = absurd q
fixed_chain c side r s t (Some i) None None cr cs ct p q = tt
fixed_chain c side r s t None (Some j) k cr cs ct p q = absurd p
fixed_chain c side r s t None None (Some k) cr cs ct p q = absurd q
fixed_chain c side r s t None None None cr cs ct p q = mean_chain r.mean s.mean t.mean r.number s.number t.number cr cs ct p q

abbrev flow_of : Spot → ℕ
flow_of s = flow_class s.leaves s.enters

free_one_way : (side : Side) (s t : Spot) → FreeFirst side s t → FreeFirst side t s → ⊥
free_one_way North s t p q = before_one_way (flow_of s) (flow_of t) s.number t.number p q
free_one_way East s t p q = mean_one_way s.mean t.mean s.number t.number p q
free_one_way South s t p q = before_one_way (flow_of s) (flow_of t) s.number t.number p q
free_one_way West s t p q = mean_one_way s.mean t.mean s.number t.number p q

free_either : (side : Side) (s t : Spot) → s.number ≢ t.number → FreeFirst side s t ⊎ FreeFirst side t s
free_either North s t differ = before_either (flow_of s) (flow_of t) s.number t.number differ
free_either East s t differ = mean_either s.mean t.mean s.number t.number differ
free_either South s t differ = before_either (flow_of s) (flow_of t) s.number t.number differ
free_either West s t differ = mean_either s.mean t.mean s.number t.number differ

free_chain : (side : Side) (r s t : Spot) → Counts r.mean → Counts s.mean → Counts t.mean → FreeFirst side r s → FreeFirst side s t → FreeFirst side r t
free_chain North r s t cr cs ct p q = before_chain (flow_of r) (flow_of s) (flow_of t) r.number s.number t.number p q
free_chain East r s t cr cs ct p q = mean_chain r.mean s.mean t.mean r.number s.number t.number cr cs ct p q
free_chain South r s t cr cs ct p q = before_chain (flow_of r) (flow_of s) (flow_of t) r.number s.number t.number p q
free_chain West r s t cr cs ct p q = mean_chain r.mean s.mean t.mean r.number s.number t.number cr cs ct p q

one_way : (rule : PortRule) (c : Child) (side : Side) (s t : Spot) → ComesFirst rule c side s t → ComesFirst rule c side t s → ⊥
one_way FixedOrder c side s t p q = fixed_one_way c side s t s.port t.port p q
one_way Free c side s t p q = free_one_way side s t p q
one_way FixedSide c side s t p q = free_one_way side s t p q
one_way FixedPos c side s t p q = free_one_way side s t p q

either : (rule : PortRule) (c : Child) (side : Side) (s t : Spot) → s.number ≢ t.number → ComesFirst rule c side s t ⊎ ComesFirst rule c side t s
either FixedOrder c side s t differ = fixed_either c side s t s.port t.port differ
either Free c side s t differ = free_either side s t differ
either FixedSide c side s t differ = free_either side s t differ
either FixedPos c side s t differ = free_either side s t differ

chain : (rule : PortRule) (c : Child) (side : Side) (r s t : Spot) → Counts r.mean → Counts s.mean → Counts t.mean → ComesFirst rule c side r s → ComesFirst rule c side s t → ComesFirst rule c side r t
chain FixedOrder c side r s t cr cs ct p q = fixed_chain c side r s t r.port s.port t.port cr cs ct p q
chain Free c side r s t cr cs ct p q = free_chain side r s t cr cs ct p q
chain FixedSide c side r s t cr cs ct p q = free_chain side r s t cr cs ct p q
chain FixedPos c side r s t cr cs ct p q = free_chain side r s t cr cs ct p q

pub strict_order : IsStrictOrder
strict_order = record {
  one_way = λ c side s t p q. one_way c.rule c side s t p q;
  either = λ c side s t differ. either c.rule c side s t differ;
  chain = λ c side r s t cr cs ct p q. chain c.rule c side r s t cr.mean cs.mean ct.mean p q;
}
