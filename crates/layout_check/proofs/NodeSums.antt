-- The sums at all nodes, with one edge more.
use Rattle.std.proofs.Common.{◌≡◌, ◌≢◌, ℕ, ◌+◌, ◌*◌, ◌<◌, ◌≤◌, ◌^◌, Bool, true, false, not, ◌&&◌, List, length, slice_index, get_or, set, replicate, arith, refl, sym, ap, ◌∙◌, inl, inr, subst, get_or-set_same, get_or-set_other}
use Rattle.std.proofs.lemmas.Bool.{cases_eq, ne_eqb}
use Rattle.std.proofs.lemmas.List.{get_or-replicate, length-replicate}
use Rattle.std.proofs.Math.ListN.{length-set}
use Rattle.elk_doc.specs.Document.{Document}
use Rattle.elk_doc.specs.Level.{is_edge_of, is_loop}
use Rattle.elk_doc.specs.Numbers.{sum_below}
use Rattle.drawing_laws.proofs.Sums.{sum_below-zero}
use Rattle.layout_check.specs.FirstLevels.{ends_at}
use Rattle.layout_check.specs.Sums.{AreSumsBelow}
use Rattle.layout_check.proofs.SumLaws.{sum_more, sum_same}

and_false : (b : Bool) → (b && false) ≡ false
and_false true = refl
and_false false = refl

-- an edge with its end elsewhere
pub ends_elsewhere : (d : Document) (n : ℕ) (ends : List ℕ) (a e : ℕ) → slice_index ends e ≢ a → ends_at d n ends a e ≡ false
ends_elsewhere d n ends a e away =
    ap (λ b. is_edge_of d n e && (b && not (is_loop d e))) (ne_eqb (slice_index ends e) a away) ∙ and_false (is_edge_of d n e)

pub sums_none : (d : Document) (n : ℕ) (ends values sums : List ℕ) → sums ≡ replicate (length d.nodes) 0 → AreSumsBelow d n ends values 0 sums
sums_none d n ends values sums fresh =
    rw fresh
    (record {
      count = length-replicate (length d.nodes) 0;
      each = λ a other l. get_or-replicate (length d.nodes) a 0 other l ∙ sym (sum_below-zero (ends_at d n ends a) (slice_index values));
      few = λ a other l. let zero = get_or-replicate (length d.nodes) a 0 other l in omega (arith, zero);
    })

-- an edge that counts at no node
pub sums_stay : (d : Document) (n : ℕ) (ends values sums : List ℕ) (e : ℕ) → ((a : ℕ) → a < length d.nodes → ends_at d n ends a e ≡ false) → AreSumsBelow d n ends values e sums → AreSumsBelow d n ends values (e + 1) sums
sums_stay d n ends values sums e none h =
    record {
      count = h.count;
      each = λ a other l. h.each a other l ∙ sym (sum_same (ends_at d n ends a) (slice_index values) e (none a l));
      few = λ a other l. let few = h.few a other l in omega (arith, few);
    }

-- an edge that counts at one node
pub sums_grow : (d : Document) (n : ℕ) (ends values sums : List ℕ) (e at value new : ℕ) → at < length d.nodes → slice_index ends e ≡ at → ends_at d n ends at e ≡ true → value ≡ slice_index values e → value < 2 ^ 64 → new ≡ get_or sums at 0 + value → AreSumsBelow d n ends values e sums → AreSumsBelow d n ends values (e + 1) (set sums at new)
sums_grow d n ends values sums e at value new inside end counts is fits sum h =
    record {
      count = length-set sums at new ∙ h.count;
      each = λ a other l.
          elim (cases_eq a at) [
            | inl same ↦
                let now = get_or-set_same sums at new other (rw h.count inside) in
                let was = h.each at 0 inside in
                let more = sum_more (ends_at d n ends at) (slice_index values) e counts in
                let total : new ≡ sum_below (ends_at d n ends at) (slice_index values) (e + 1) = omega (arith, sum, was, more, is) in
                subst (λ a. get_or (set sums at new) a other ≡ sum_below (ends_at d n ends a) (slice_index values) (e + 1)) (sym same) (now ∙ total)
            | inr differ ↦
                let miss = ends_elsewhere d n ends a e (λ here. differ (sym here ∙ end)) in
                get_or-set_other sums at a new other differ ∙ h.each a other l ∙ sym (sum_same (ends_at d n ends a) (slice_index values) e miss)
          ];
      few = λ a other l.
          elim (cases_eq a at) [
            | inl same ↦
                let now = get_or-set_same sums at new other (rw h.count inside) in
                let was = h.few at 0 inside in
                let total : new ≤ (e + 1) * 2 ^ 64 = omega (arith, sum, was, fits) in
                let small : get_or (set sums at new) at other ≤ (e + 1) * 2 ^ 64 = omega (arith, now, total) in
                subst (λ a. get_or (set sums at new) a other ≤ (e + 1) * 2 ^ 64) (sym same) small
            | inr differ ↦
                let there = get_or-set_other sums at a new other differ in
                let was = h.few a other l in
                omega (arith, there, was)
          ];
    }
