-- Where one rank does not come before another, the spots stand the other way round.
use Rattle.std.proofs.Common.{◌≡◌, ◌<◌, ◌⊎◌, ℕ, ℤ, pos, neg_ℤ, ◌+ℤ◌, ◌<ℤ◌, Bool, true, false, arith, inl, inr, sym, refl, ap}
use Rattle.std.proofs.lemmas.Int.{ints}
use Rattle.std.specs.Prelude.{Option, None, Some, ◌≢◌}
use Rattle.std.specs.declared.cmp.Ordering.{Ordering}
use Rattle.std.specs.declared.cmp.Ordering.TheVariants.{Less, Equal, Greater}
use Rattle.std.specs.Ordering.{MatchOrdering, ordering_then, is_lt, nat_cmp, int_cmp, on, then_cmp}
use Rattle.std.proofs.lemmas.Cmp.{on_total, then_total, nat_cmp_total, int_cmp_total}
use Rattle.std.specs.Cmp.{IsTotalOrder, ranks, int_ranks}
use Rattle.drawing_types.specs.declared.shape.Side.{Side}
use Rattle.drawing_types.specs.declared.shape.Side.TheVariants.{North, East, South, West}
use Rattle.elk_doc.specs.declared.document.PortRule.{PortRule}
use Rattle.elk_doc.specs.declared.document.PortRule.TheVariants.{Free, FixedSide, FixedOrder, FixedPos}
use Rattle.elk_doc.specs.Sound.{along}
use Rattle.port_order.specs.declared.children.Child.{Child}
use Rattle.port_order.specs.declared.spots.Mean.{Mean}
use Rattle.port_order.specs.declared.spots.Spot.{Spot}
use Rattle.port_order.specs.declared.ranks.Rank.{Rank}
use Rattle.port_order.specs.Child.{port_at}
use Rattle.port_order.specs.Sides.{is_forward}
use Rattle.port_order.specs.Order.{MeanFirst, PortFirst, FixedFirst, FlowFirst, FreeFirst, ComesFirst, flow_class}
use Rattle.port_order.specs.Ranks.{IsCounted, fine_mean, flow_rank, mean_rank, port_rank, fixed_rank, free_rank, rank_under}
use Rattle.port_order.proofs.MeanLemmas.{mean_less, mean_same}

-- the order of ranks
abbrev pub rank_cmp : Rank → Rank → Ordering
rank_cmp = then_cmp (on (λ r. r.group) nat_cmp) (then_cmp (on (λ r. r.index) int_cmp) (then_cmp (on (λ r. r.given) int_cmp) (then_cmp (on (λ r. r.mean) nat_cmp) (then_cmp (on (λ r. r.tie) int_cmp) (on (λ r. r.number) nat_cmp)))))

pub rank_cmp_total : IsTotalOrder rank_cmp
rank_cmp_total =
    then_total (on_total (λ r. r.group) nat_cmp_total) (then_total (on_total (λ r. r.index) int_cmp_total) (then_total (on_total (λ r. r.given) int_cmp_total)
    (then_total (on_total (λ r. r.mean) nat_cmp_total) (then_total (on_total (λ r. r.tie) int_cmp_total) (on_total (λ r. r.number) nat_cmp_total)))))

-- what decides at one key, or is left to the next
nat_step : (x y : ℕ) (o : Ordering) → is_lt (ordering_then (nat_cmp y x) o) ≡ false → (x < y) ⊎ ((x ≡ y) × (is_lt o ≡ false))
nat_step x y o h = step (nat_cmp y x) (ranks y x) h
  where
    step : (r : Ordering) → MatchOrdering r (y < x) (y ≡ x) (x < y) → is_lt (ordering_then r o) ≡ false → (x < y) ⊎ ((x ≡ y) × (is_lt o ≡ false))
    step Less m h = absurd cc
    step Equal m h = inr (sym m, h)
    step Greater m h = inl m

int_step : (x y : ℤ) (o : Ordering) → is_lt (ordering_then (int_cmp y x) o) ≡ false → (x <ℤ y) ⊎ ((x ≡ y) × (is_lt o ≡ false))
int_step x y o h = step (int_cmp y x) (int_ranks y x) h
  where
    step : (r : Ordering) → MatchOrdering r (y <ℤ x) (y ≡ x) (x <ℤ y) → is_lt (ordering_then r o) ≡ false → (x <ℤ y) ⊎ ((x ≡ y) × (is_lt o ≡ false))
    step Less m h = absurd cc
    step Equal m h = inr (sym m, h)
    step Greater m h = inl m

tie_up : (i j : ℕ) (o : Ordering) → i ≢ j → is_lt (ordering_then (int_cmp (pos j) (pos i)) o) ≡ false → i < j
tie_up i j o differ h =
    elim (int_step (pos i) (pos j) o h) [
      | inl less ↦ omega (arith, ints, less)
      | inr e ↦ absurd (differ (omega (arith, ints, e.0)))
    ]

tie_down : (i j : ℕ) (o : Ordering) → i ≢ j → is_lt (ordering_then (int_cmp (neg_ℤ (pos j)) (neg_ℤ (pos i))) o) ≡ false → j < i
tie_down i j o differ h =
    elim (int_step (neg_ℤ (pos i)) (neg_ℤ (pos j)) o h) [
      | inl less ↦ omega (arith, ints, less)
      | inr e ↦ absurd (differ (omega (arith, ints, e.0)))
    ]

pub mean_decides : (m n : Option Mean) (i j : ℕ) → IsCounted m → IsCounted n → i ≢ j → is_lt (rank_cmp (mean_rank n j) (mean_rank m i)) ≡ false → MeanFirst m n i j
mean_decides (Some m) (Some n) i j cm cn differ h =
    elim (nat_step (fine_mean m) (fine_mean n) _ h) [
      | inl less ↦ inl (mean_less m n cm.0 cn.0 less)
      | inr e ↦ inr (mean_same m n cm.0 cn.0 cm.1 cn.1 e.0, tie_up i j _ differ e.1)
    ]
mean_decides (Some m) None i j cm cn differ h = tt
mean_decides None (Some n) i j cm cn differ h = absurd cc
mean_decides None None i j cm cn differ h = tie_up i j _ differ h

pub flow_decides : (s t : Spot) → s.number ≢ t.number → is_lt (rank_cmp (flow_rank t) (flow_rank s)) ≡ false → FlowFirst s t
flow_decides s t differ h =
    elim (nat_step (flow_class s.leaves s.enters) (flow_class t.leaves t.enters) _ h) [
      | inl less ↦ inl less
      | inr e ↦ inr (e.0, tie_up s.number t.number _ differ e.1)
    ]

abbrev place : Child → Side → ℕ → ℤ
place c side k = along side (port_at c k).place +ℤ (port_at c k).half

neg_less : (a b : ℤ) → neg_ℤ a <ℤ neg_ℤ b → b <ℤ a
neg_less a b h = omega (arith, ints, h)

less_neg : (a b : ℤ) → a <ℤ b → neg_ℤ b <ℤ neg_ℤ a
less_neg a b h = omega (arith, ints, h)

neg_same : (a b : ℤ) → neg_ℤ a ≡ neg_ℤ b → b ≡ a
neg_same a b h = omega (arith, ints, h)

free_decides : (side : Side) (s t : Spot) → IsCounted s.mean → IsCounted t.mean → s.number ≢ t.number → is_lt (rank_cmp (free_rank side t) (free_rank side s)) ≡ false → FreeFirst side s t
free_decides North s t cs ct differ h = flow_decides s t differ h
free_decides East s t cs ct differ h = mean_decides s.mean t.mean s.number t.number cs ct differ h
free_decides South s t cs ct differ h = flow_decides s t differ h
free_decides West s t cs ct differ h = mean_decides s.mean t.mean s.number t.number cs ct differ h

mean_number : (m : Option Mean) (n : ℕ) → (mean_rank m n).number ≡ n
mean_number (Some m) n = refl
mean_number None n = refl

free_number : (side : Side) (s : Spot) → (free_rank side s).number ≡ s.number
free_number North s = refl
free_number East s = mean_number s.mean s.number
free_number South s = refl
free_number West s = mean_number s.mean s.number

-- given places rise from the top or the left, whichever way clockwise runs
pub port_decides : (forward : Bool) (c : Child) (side : Side) (i j k l : ℕ) → is_forward c.direction side ≡ forward → i ≢ l
    → is_lt (rank_cmp (port_rank forward c side k l) (port_rank forward c side j i)) ≡ false → PortFirst forward c side j i k l
port_decides true c side i j k l e differ h =
    elim (int_step (port_at c j).index (port_at c k).index _ h) [
      | inl less ↦ inl less
      | inr same ↦ inr (
        same.0,
        rw e (elim (int_step (place c side j) (place c side k) _ same.1) [
          | inl less ↦ inl less
          | inr at ↦ inr (at.0, tie_up i l _ differ at.1)
        ]),
      )
    ]
port_decides false c side i j k l e differ h =
    elim (int_step (neg_ℤ (port_at c j).index) (neg_ℤ (port_at c k).index) _ h) [
      | inl less ↦ inl (neg_less (port_at c j).index (port_at c k).index less)
      | inr same ↦ inr (
        neg_same (port_at c j).index (port_at c k).index same.0,
        rw e (elim (int_step (place c side j) (place c side k) _ same.1) [
          | inl less ↦ inl (less_neg (place c side j) (place c side k) less)
          | inr at ↦ inr (ap neg_ℤ (sym at.0), tie_down i l _ differ at.1)
        ]),
      )
    ]

pub rank_decides : (rule : PortRule) (c : Child) (side : Side) (s t : Spot) → IsCounted s.mean → IsCounted t.mean → s.number ≢ t.number
    → is_lt (rank_cmp (rank_under rule c side t) (rank_under rule c side s)) ≡ false → ComesFirst rule c side s t
rank_decides FixedOrder c side s t cs ct differ h = fixed s.port t.port h
  where
    fixed : (j k : Option ℕ) → is_lt (rank_cmp (fixed_rank c side t k) (fixed_rank c side s j)) ≡ false → FixedFirst c side s t j k
    fixed (Some j) (Some k) h = port_decides (is_forward c.direction side) c side s.number j k t.number refl differ h
    fixed (Some j) None h = tt
    fixed None (Some k) h = port_before s.mean h
      where
        port_before : (m : Option Mean) → is_lt (rank_cmp (port_rank (is_forward c.direction side) c side k t.number) (mean_rank m s.number)) ≡ false → ⊥
        port_before (Some m) h = absurd cc
        port_before None h = absurd cc
    fixed None None h = mean_decides s.mean t.mean s.number t.number cs ct differ h
rank_decides Free c side s t cs ct differ h = free_decides side s t cs ct differ h
rank_decides FixedSide c side s t cs ct differ h = free_decides side s t cs ct differ h
rank_decides FixedPos c side s t cs ct differ h = free_decides side s t cs ct differ h

pub rank_number : (rule : PortRule) (c : Child) (side : Side) (s : Spot) → (rank_under rule c side s).number ≡ s.number
rank_number FixedOrder c side s = fixed s.port
  where
    fixed : (j : Option ℕ) → (fixed_rank c side s j).number ≡ s.number
    fixed (Some j) = refl
    fixed None = mean_number s.mean s.number
rank_number Free c side s = free_number side s
rank_number FixedSide c side s = free_number side s
rank_number FixedPos c side s = free_number side s
