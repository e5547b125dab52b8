-- Exchanges one after another.
use Rattle.std.proofs.Common.{◌≡◌, ◌∙◌, ◌⊎◌, ⊎_elim, ℕ, ◌+◌, ◌-◌, ◌<◌, ◌≤◌, Bool, true, false, List, refl, sym, ap, subst, arith}
use Rattle.std.proofs.lemmas.Bool.{cases_lt}
use Rattle.net_routes.specs.declared.Net.{Net}
use Rattle.net_routes.specs.declared.NetRoute.{NetRoute}
use Rattle.net_routes.specs.Crossings.{crossings}
use Rattle.route_slots.specs.Exchanges.{AreLaid, IsBetterAt, IsStep, AreSteps}
use Rattle.net_routes.specs.Exchanges.{AreExchanged, NoBetterAt}
use Rattle.route_slots.proofs.Swapping.{laid_after}

true_false : {X : Type 0} → true ≡ false → X
true_false e = absurd (let bad : true ≡ false = e in cc)

pub made_step : (nets : List Net) (count s : ℕ) (old new : List NetRoute) (changed : Bool) → changed ≡ true → s + 1 < count → AreLaid nets count old → IsBetterAt nets old s → AreExchanged s old new
    → IsStep nets count s old new changed
made_step nets count s old new changed e inside laid better swaps =
    let w = better new swaps in
    record {
      laid = laid_after nets count s old new swaps laid.free.as_many laid inside (w.1 laid.apart);
      fewer = λ f. w.0;
      same = λ f. true_false (sym e ∙ f);
      none = λ f. true_false (sym e ∙ f);
    }

pub more_steps : (nets : List Net) (count s : ℕ) (first old new : List NetRoute) (was now both : Bool) → 1 ≤ s → AreSteps nets count s first old was → IsStep nets count (s - 1) old new now
    → (both ≡ true → (was ≡ true) ⊎ (now ≡ true)) → (both ≡ false → (was ≡ false) × (now ≡ false)) → AreSteps nets count (s + 1) first new both
more_steps nets count s first old new was now both l steps step some none =
    record {
      laid = step.laid;
      most = let m = steps.most in by now refl;
      fewer = λ f. ⊎_elim
          (λ w. let less = steps.fewer w in by_less now refl less)
          (λ n. let less = step.fewer n in let m = steps.most in omega arith)
          (some f);
      none = λ f t h.
          let e = step.same (none f).1 in
          subst (λ rs. NoBetterAt nets rs t) (sym e)
          (⊎_elim
          (λ (k : t + 1 < s). steps.none (none f).0 t k)
          (λ (k : s ≤ t + 1). let same : s - 1 ≡ t = omega arith in subst (λ z. NoBetterAt nets old z) same (step.none (none f).1))
          (cases_lt (t + 1) s));
    }
  where
    by : (b : Bool) → now ≡ b → crossings nets new ≤ crossings nets first
    by true e = let less = step.fewer e in let m = steps.most in omega arith
    by false e = let same = ap (crossings nets) (step.same e) in let m = steps.most in omega arith

    by_less : (b : Bool) → now ≡ b → crossings nets old < crossings nets first → crossings nets new < crossings nets first
    by_less true e h = let less = step.fewer e in omega arith
    by_less false e h = let same = ap (crossings nets) (step.same e) in omega arith

pub all_steps : (nets : List Net) (count s : ℕ) (old new : List NetRoute) (changed : Bool) → count ≤ s → AreSteps nets count s old new changed → AreSteps nets count count old new changed
all_steps nets count s old new changed l steps =
    record { laid = steps.laid; most = steps.most; fewer = steps.fewer; none = λ f t h. steps.none f t (omega arith) }
