-- The links of edges.
use Rattle.std.proofs.Common.{◌≡◌, ℕ, suc, ◌+◌, ◌-◌, ◌<◌, ◌==◌, List, ◌∷◌, length, get_or, set, Bool, true, false, ◌&&◌, cond, refl, sym, ◌∙◌, ap, inl, inr, arith, eq-eqb, ne_eqb}
use Rattle.std.specs.List.{filter, range_with_len}
use Rattle.std.proofs.lemmas.Bool.{cases_eq, and_right}
use Rattle.std.proofs.lemmas.List.{get_or-set_same, get_or-set_other, length-set}
use Rattle.elk_layers.specs.Layered.{Plain, link_at, is_child}
use Rattle.level_model.specs.Level.{first_or}
use Rattle.dock_table.specs.Courses.{AreFirstFrom, HaveEdges, first_from, is_near, near_unit}

-- ---- the first number that passes a test

pub first_cons : (test : ℕ → Bool) (k bound : ℕ) → k < bound → first_from test k bound ≡ cond (test k) k (first_from test (k + 1) bound)
first_cons test k bound h =
    let count : bound - k ≡ suc (bound - (k + 1)) = omega (arith, h) in
    ap (λ m. first_or (filter test (range_with_len k m)) 0) count ∙ pick (test k)
  where
    pick : (b : Bool) → first_or (cond b (k ∷ filter test (range_with_len (k + 1) (bound - (k + 1)))) (filter test (range_with_len (k + 1) (bound - (k + 1))))) 0 ≡ cond b k (first_from test (k + 1) bound)
    pick true = refl
    pick false = refl

-- the number before passes the test of one, or no test
pub firsts_hit : (test : ℕ → ℕ → Bool) (k bound count at : ℕ) (firsts : List ℕ) → ((e : ℕ) → test e k ≡ (at == e)) → k < bound → at < count → AreFirstFrom test (k + 1) bound count firsts → AreFirstFrom test k bound count (set firsts at k)
firsts_hit test k bound count at firsts is h inside are =
    record {
      as_long = length-set firsts at k ∙ are.as_long;
      first_is = λ e less. elim (cases_eq e at) [
        | inl q ↦
            ap (λ x. get_or (set firsts at k) x 0) q
            ∙ get_or-set_same firsts at k 0 (omega (arith, inside, are.as_long))
            ∙ sym (first_cons (test e) k bound h ∙ ap (λ b. cond b k (first_from (test e) (k + 1) bound)) (is e ∙ eq-eqb at e (sym q)))
        | inr ne ↦
            get_or-set_other firsts at e k 0 ne
            ∙ are.first_is e less
            ∙ sym (first_cons (test e) k bound h ∙ ap (λ b. cond b k (first_from (test e) (k + 1) bound)) (is e ∙ ne_eqb at e (λ q. ne (sym q))))
      ];
    }

pub firsts_miss : (test : ℕ → ℕ → Bool) (k bound count : ℕ) (firsts : List ℕ) → ((e : ℕ) → test e k ≡ false) → k < bound → AreFirstFrom test (k + 1) bound count firsts → AreFirstFrom test k bound count firsts
firsts_miss test k bound count firsts none h are =
    record {
      as_long = are.as_long;
      first_is = λ e less. are.first_is e less ∙ sym (first_cons (test e) k bound h ∙ ap (λ b. cond b k (first_from (test e) (k + 1) bound)) (none e));
    }

-- ---- links by edge

link_noted : (l : Plain) (at_head : Bool) (k count : ℕ) (firsts : List ℕ) (b : Bool) → b ≡ is_child l (near_unit (link_at l.links k) at_head) → k < length l.links → HaveEdges l count
    → AreFirstFrom (is_near l at_head) (k + 1) (length l.links) count firsts → AreFirstFrom (is_near l at_head) k (length l.links) count (cond b (set firsts (link_at l.links k).edge k) firsts)
link_noted l at_head k count firsts true is h edges are =
    firsts_hit (is_near l at_head) k (length l.links) count (link_at l.links k).edge firsts (λ e. ap (λ b. ((link_at l.links k).edge == e) && b) (sym is) ∙ and_true ((link_at l.links k).edge == e)) h (edges k h) are
  where
    and_true : (b : Bool) → (b && true) ≡ b
    and_true true = refl
    and_true false = refl
link_noted l at_head k count firsts false is h edges are =
    firsts_miss (is_near l at_head) k (length l.links) count firsts (λ e. and_right ((link_at l.links k).edge == e) (is_child l (near_unit (link_at l.links k) at_head)) (sym is)) h are

pub links_more : (l : Plain) (at_head : Bool) (k count : ℕ) (firsts : List ℕ) → k < length l.links → HaveEdges l count → AreFirstFrom (is_near l at_head) (k + 1) (length l.links) count firsts
    → AreFirstFrom (is_near l at_head) k (length l.links) count (cond (is_child l (near_unit (link_at l.links k) at_head)) (set firsts (link_at l.links k).edge k) firsts)
links_more l at_head k count firsts h edges are = link_noted l at_head k count firsts (is_child l (near_unit (link_at l.links k) at_head)) refl h edges are
