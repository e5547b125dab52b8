-- The worked level of three children in a row can be drawn.
use Rattle.std.proofs.Common.{◌≡◌, ℕ, ◌<◌, List, [], ◌∷◌, pos, ℤ, ◌+ℤ◌, ◌<ℤ◌, ◌^◌, inr, arith, refl, sym, subst, IsFalse}
use Rattle.std.proofs.lemmas.Int.{ints}
use Rattle.elk_layers.specs.Layered.{Plain, unit_at}
use Rattle.elk_layers.specs.Lines.{top_of}
use Rattle.drawing_types.proofs.SmallNumbers.{below3}
use Rattle.plan_laws.specs.Chained.{chained, chained_orders, chained_plan}
use Rattle.level_model.specs.Level.{PlainLevel, holds, is_loop}
use Rattle.plan_laws.proofs.ExampleLemmas.{below4, chained_ready}
use Rattle.layer_units.specs.Layering.{head_child, layer_in, tail_child}
use Rattle.level_draw.specs.Drawing.{IsDrawable}

drawable : IsDrawable chained chained_plan (0 ∷ 1 ∷ 2 ∷ [])
drawable =
    record {
      orders = chained_orders;
      layering = record {
        as_many = refl;
        below = below3 (λ c. layer_in (0 ∷ 1 ∷ 2 ∷ []) c < 2048) (omega arith) (omega arith) (omega arith);
        onward = below3
            (λ e. IsFalse (is_loop chained e) → layer_in (0 ∷ 1 ∷ 2 ∷ []) (tail_child chained (holds [] e) e) < layer_in (0 ∷ 1 ∷ 2 ∷ []) (head_child chained (holds [] e) e))
            (λ h. omega arith)
            (λ h. omega arith)
            (λ h. omega arith);
      };
      ready = chained_ready;
      layer_count = record {
        above = below3 (λ c. layer_in (0 ∷ 1 ∷ 2 ∷ []) c < 3) (omega arith) (omega arith) (omega arith);
        reached = inr (2, omega arith, refl);
      };
      bottoms = below4 (λ u. (top_of chained_plan.tops u +ℤ (unit_at chained_plan.layered.units u).height) <ℤ pos (2 ^ 49)) (omega (arith, ints)) (omega (arith, ints)) (omega (arith, ints)) (omega (arith, ints));
    }

-- whatever lists hold its units, rows and tops
pub drawable_from : (l : PlainLevel) (q : Plain) (rows : List (List ℕ)) (tops : List ℤ) (reversed layers : List ℕ) → l ≡ chained → q ≡ chained_plan.layered → rows ≡ chained_plan.rows → tops ≡ chained_plan.tops → reversed ≡ []
    → layers ≡ 0 ∷ 1 ∷ 2 ∷ [] → IsDrawable l (record { layers = q.layers; layered = q; rows = rows; tops = tops; reversed = reversed }) layers
drawable_from l q rows tops reversed layers el eq er et en es =
    subst (λ z. IsDrawable z (record { layers = q.layers; layered = q; rows = rows; tops = tops; reversed = reversed }) layers) (sym el)
    (subst (λ z. IsDrawable chained (record { layers = z.layers; layered = z; rows = rows; tops = tops; reversed = reversed }) layers) (sym eq)
    (subst (λ z. IsDrawable chained (record { layers = chained_plan.layered.layers; layered = chained_plan.layered; rows = z; tops = tops; reversed = reversed }) layers) (sym er)
    (subst (λ z. IsDrawable chained (record { layers = chained_plan.layered.layers; layered = chained_plan.layered; rows = chained_plan.rows; tops = z; reversed = reversed }) layers) (sym et)
    (subst (λ z. IsDrawable chained (record { layers = chained_plan.layered.layers; layered = chained_plan.layered; rows = chained_plan.rows; tops = chained_plan.tops; reversed = z }) layers) (sym en)
    (subst (λ z. IsDrawable chained (record { layers = chained_plan.layered.layers; layered = chained_plan.layered; rows = chained_plan.rows; tops = chained_plan.tops; reversed = [] }) z) (sym es) drawable)))))
