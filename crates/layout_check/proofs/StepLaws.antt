-- Marks that follow steps.
use Rattle.std.proofs.Common.{◌≡◌, ◌≢◌, ℕ, zero, suc, ◌+◌, ◌<◌, ◌≤◌, Bool, true, false, ◌||◌, List, [], ◌∷◌, length, set, arith, refl, sym, ap, ◌∙◌, inl, inr, subst, get_or-set_same, get_or-set_other, cond, ◌-◌, replicate}
use Rattle.std.proofs.lemmas.Bool.{cases_lt, cases_eq, cases_Bool, both_ways}
use Rattle.std.proofs.Math.ListN.{length-set}
use Rattle.elk_doc.specs.Paths.{Reaches, stay, go}
use Rattle.layout_check.specs.declared.paths.Step.{Step}
use Rattle.layout_check.specs.Steps.{HasStep, step_at, mark_at, marked, AreReached, AreClosed, AreBelow, FollowsStep, FollowsOnce}

-- one step more at the end of a path
pub reach_more : (P : ℕ → ℕ → Type 0) (a b c : ℕ) → Reaches P a b → P b c → Reaches P a c
reach_more P a b c (stay _) s = go a c c s (stay c)
reach_more P a b c (go _ x _ t r) s = go a x c t (reach_more P x b c r s)

-- paths of other steps
pub reach_by : (P Q : ℕ → ℕ → Type 0) → ((a b : ℕ) → P a b → Q a b) → (a b : ℕ) → Reaches P a b → Reaches Q a b
reach_by P Q f a b (stay _) = stay a
reach_by P Q f a b (go _ x _ t r) = go a x b (f a x t) (reach_by P Q f x b r)

pub marked-set : (marks : List Bool) (v : ℕ) → v < length marks → mark_at marks v ≡ false → marked (set marks v true) ≡ marked marks + 1
unfolding marked
marked-set [] v l e = absurd (omega arith)
marked-set (true ∷ bs) zero l e = absurd cc
marked-set (false ∷ bs) zero l e = refl
marked-set (true ∷ bs) (suc v) l e = let r = marked-set bs v (omega arith) e in omega (arith, r)
marked-set (false ∷ bs) (suc v) l e = marked-set bs v (omega arith) e

pub marked-le : (marks : List Bool) → marked marks ≤ length marks
unfolding marked
marked-le [] = omega arith
marked-le (true ∷ bs) = let r = marked-le bs in omega (arith, r)
marked-le (false ∷ bs) = let r = marked-le bs in omega (arith, r)

pub mark_same : (marks : List Bool) (v : ℕ) → v < length marks → mark_at (set marks v true) v ≡ true
mark_same marks v l = get_or-set_same marks v true false l

pub mark_other : (marks : List Bool) (v w : ℕ) → w ≢ v → mark_at (set marks v true) w ≡ mark_at marks w
mark_other marks v w n = get_or-set_other marks v w true false n

-- a mark that is set stays set
pub mark_stays : (marks : List Bool) (v w : ℕ) → v < length marks → mark_at marks w ≡ true → mark_at (set marks v true) w ≡ true
mark_stays marks v w l e =
    elim (cases_eq w v) [
      | inl same ↦ rw same (mark_same marks v l)
      | inr n ↦ mark_other marks v w n ∙ e
    ]

-- a step that is followed marks a node that is reached
pub follow_reaches : (steps : List Step) (a i : ℕ) (old new : List Bool) → i < length steps → (step_at steps i).to < length old → AreReached steps a old → FollowsStep old (step_at steps i) new true → AreReached steps a new
follow_reaches steps a i old new l below reached f v e =
    let s = step_at steps i in
    let here : mark_at (set old s.to true) v ≡ true = rw (← f.marks refl) e in
    elim (cases_eq v s.to) [
      | inl same ↦
          let one : HasStep steps s.from v = record { place = i; place_in = l; from_is = refl; to_is = sym same } in
          reach_more (HasStep steps) a s.from v (reached s.from (f.from_marked refl)) one
      | inr n ↦ reached v (sym (mark_other old s.to v n) ∙ here)
    ]

-- what one step more leaves of a pass
pub follow_step : (steps : List Step) (a i : ℕ) (old now new : List Bool) (was changed : Bool) → i < length steps → AreBelow (length old) steps → FollowsOnce steps a i old now was → FollowsStep now (step_at steps i) new changed → FollowsOnce steps a (i + 1) old new (was || changed)
follow_step steps a i old now new was true l below once f =
    let s = step_at steps i in
    let grown = f.marks refl in
    let inside : s.to < length now = omega (arith, below.to i l, once.as_long) in
    let count = marked-set now s.to inside (f.to_free refl) in
    let grown_count : marked new ≡ marked now + 1 = ap marked grown ∙ count in
    let true_now : (b : Bool) → (b || true) ≡ true = λ b. elim b as (λ b. (b || true) ≡ true) [ true ↦ refl | false ↦ refl ] in
    let no : (was || true) ≡ false → ⊥ = λ e. both_ways (was || true) e (true_now was) in
    record {
      as_long = ap length grown ∙ length-set now s.to true ∙ once.as_long;
      reached = follow_reaches steps a i now new l inside once.reached f;
      stays = λ e. absurd (no e);
      closed = λ e. absurd (no e);
      more = λ _.
          elim (cases_Bool was) [
            | inl y ↦ let m = once.more y in omega (arith, m, grown_count)
            | inr n ↦ let m = ap marked (once.stays n) in omega (arith, m, grown_count)
          ];
      kept = rw grown (mark_stays now s.to a inside once.kept);
    }
follow_step steps a i old now new true false l below once f =
    let same = f.stays refl in
    record {
      as_long = ap length same ∙ once.as_long;
      reached = rw same once.reached;
      stays = λ e. absurd cc;
      closed = λ e. absurd cc;
      more = λ e. let m = once.more refl in let n = ap marked same in omega (arith, m, n);
      kept = rw same once.kept;
    }
follow_step steps a i old now new false false l below once f =
    let same = f.stays refl in
    let before = once.stays refl in
    record {
      as_long = ap length same ∙ once.as_long;
      reached = rw same once.reached;
      stays = λ _. same ∙ before;
      closed = λ _ j h.
          elim (cases_lt j i) [
            | inl b ↦ once.closed refl j b
            | inr b ↦
                let at : j ≡ i = omega arith in
                let P : ℕ → Type 0 = λ j. mark_at old (step_at steps j).from ≡ true → mark_at old (step_at steps j).to ≡ true in
                let Q : List Bool → Type 0 = λ m. mark_at m (step_at steps i).from ≡ true → mark_at m (step_at steps i).to ≡ true in
                subst P (sym at) (subst Q before (f.closed refl))
          ];
      more = λ e. absurd cc;
      kept = rw same once.kept;
    }

-- where all steps lead from marked nodes to marked ones, what is reached from a marked node is marked
pub closed_reaches : (steps : List Step) (marks : List Bool) (a b : ℕ) → AreClosed steps marks (length steps) → Reaches (HasStep steps) a b → mark_at marks a ≡ true → mark_at marks b ≡ true
closed_reaches steps marks a b closed (stay _) e = e
closed_reaches steps marks a b closed (go _ x _ s r) e =
    let from : mark_at marks (step_at steps s.place).from ≡ true = rw s.from_is e in
    let to : mark_at marks x ≡ true = rw (← s.to_is) (closed s.place s.place_in from) in
    closed_reaches steps marks x b closed r to

-- a pass leaves less to mark, or ends
pub pass_smaller : (old new : List Bool) (was now : Bool) → was ≡ true → length new ≡ length old → (now ≡ true → marked old < marked new) → (now ≡ false → new ≡ old) → (length new - marked new) + (length new - marked new) + cond now 1 0 < (length old - marked old) + (length old - marked old) + cond was 1 0
pass_smaller old new true true e l more same =
    let m = more refl in
    let le = marked-le new in
    omega (arith, m, le, l)
pass_smaller old new true false e l more same =
    let s = same refl in
    let m = ap marked s in
    omega (arith, m, l)
pass_smaller old new false now e l more same = absurd cc

unmarked : (n v : ℕ) → mark_at (replicate n false) v ≡ false
unmarked zero v = refl
unmarked (suc n) zero = refl
unmarked (suc n) (suc v) = unmarked n v

-- the first mark is that of the start itself
pub start_reached : (steps : List Step) (n a : ℕ) (marks : List Bool) → marks ≡ replicate n false → AreReached steps a (set marks a true)
start_reached steps n a marks fresh v e =
    elim (cases_eq v a) [
      | inl same ↦ rw same (stay a)
      | inr other ↦ absurd (both_ways (mark_at marks v) (rw fresh (unmarked n v)) (sym (mark_other marks a v other) ∙ e))
    ]
