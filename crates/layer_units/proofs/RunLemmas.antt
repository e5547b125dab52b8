-- The runs of the edges of a level: their ends, gaps and lanes, and the units that they meet.
use Rattle.std.proofs.Common.{◌≡◌, ⊎_elim, inl, inr, ℕ, zero, suc, ◌+◌, ◌-◌, ◌<◌, ◌≤◌, ◌^◌, Bool, true, false, not, length, refl, sym, ap, ◌∙◌, arith}
use Rattle.std.proofs.lemmas.Bool.{cases_eq, cases_Bool, eq-eqb, ne_eqb, eqb-true}
use Rattle.level_model.specs.Level.{PlainLevel, edge_at, end_at, spoke, holds, is_loop}
use Rattle.level_model.specs.Conditions.{IsLevel}
use Rattle.layer_units.specs.declared.runs.Run.{Run}
use Rattle.layer_units.specs.Layering.{Layering, AreLayersOf, tail_child, head_child, layer_in}
use Rattle.layer_units.specs.Numbered.{before, gaps_of, lanes_of, run_of, stop_of}
use Rattle.layer_units.specs.Grown.{IsShort}
use Rattle.layer_units.proofs.SumLemmas.{before_bound}

pub end_there : (l : PlainLevel) → IsLevel l → (e : ℕ) (t : Bool) → e < length l.edges → (spoke l (end_at e t)).child < length l.children
end_there l level e true h = (level.edges e h).source.child
end_there l level e false h = (level.edges e h).target.child

loop_end : (l : PlainLevel) (e : ℕ) (t : Bool) → is_loop l e ≡ true → (spoke l (end_at e t)).child ≡ (edge_at l e).source.child
loop_end l e true h = refl
loop_end l e false h = sym (eqb-true (edge_at l e).source.child (edge_at l e).target.child h)

-- the unit that a run meets
pub data Stop (run : Run) (i : ℕ) : Type 0 where
  at_tail : i ≡ 0 → stop_of run i ≡ run.tail → Stop run i
  at_head : i ≡ run.gaps → stop_of run i ≡ run.head → Stop run i
  at_lane : (j : ℕ) → i ≡ j + 1 → j < run.gaps - 1 → stop_of run i ≡ run.first + j → Stop run i

pub stop_last : (run : Run) → 0 < run.gaps → stop_of run run.gaps ≡ run.head
stop_last run h = rw (ne_eqb run.gaps 0 (λ e. absurd (omega (arith, e, h))), eq-eqb run.gaps run.gaps refl) refl

pub stop_lane : (run : Run) (i : ℕ) → i + 1 < run.gaps → stop_of run (i + 1) ≡ run.first + i
stop_lane run i h = rw (ne_eqb (i + 1) 0 (λ e. absurd (omega (arith, e))), ne_eqb (i + 1) run.gaps (λ e. absurd (omega (arith, e, h)))) (omega arith)

pub stop_where : (run : Run) (i : ℕ) → i ≤ run.gaps → Stop run i
stop_where run zero h = at_tail refl refl
stop_where run (suc i) h =
    let next : i + 1 ≡ suc i = omega arith in
    elim (cases_eq (suc i) run.gaps) [
      | inl last ↦ at_head last (ap (stop_of run) last ∙ stop_last run (omega (arith, last)))
      | inr other ↦ at_lane i (sym next) (omega (arith, h, other)) (ap (stop_of run) (sym next) ∙ stop_lane run i (omega (arith, h, other)))
    ]

module _ (s : Layering) (level : IsLevel s.level) (are : AreLayersOf s.level s.reversed s.layers) where
  abbrev tail : ℕ → ℕ
  tail e = tail_child s.level (holds s.reversed e) e

  abbrev head : ℕ → ℕ
  head e = head_child s.level (holds s.reversed e) e

  pub tail_below : (e : ℕ) → e < length s.level.edges → tail_child s.level (holds s.reversed e) e < length s.level.children
  tail_below e h = end_there s.level level e (not (holds s.reversed e)) h

  pub head_below : (e : ℕ) → e < length s.level.edges → head_child s.level (holds s.reversed e) e < length s.level.children
  head_below e h = end_there s.level level e (holds s.reversed e) h

  pub tail_in : (e : ℕ) → e < length s.level.edges → tail_child s.level (holds s.reversed e) e < length s.layers
  tail_in e h = let below = tail_below e h in let many = are.as_many in omega (arith, below, many)

  pub head_in : (e : ℕ) → e < length s.level.edges → head_child s.level (holds s.reversed e) e < length s.layers
  head_in e h = let below = head_below e h in let many = are.as_many in omega (arith, below, many)

  -- both ends of a self-loop lie in one layer
  level_loop : (e : ℕ) → is_loop s.level e ≡ true → layer_in s.layers (tail e) ≡ layer_in s.layers (head e)
  level_loop e t = ap (layer_in s.layers) (loop_end s.level e (not (holds s.reversed e)) t ∙ sym (loop_end s.level e (holds s.reversed e) t))

  pub rises : (e : ℕ) → e < length s.level.edges
      → layer_in s.layers (tail_child s.level (holds s.reversed e) e) ≤ layer_in s.layers (head_child s.level (holds s.reversed e) e)
  rises e h =
      ⊎_elim
      (λ t. let same = level_loop e t in omega (arith, same))
      (λ f. let less = are.onward e h f in omega (arith, less))
      (cases_Bool (is_loop s.level e))

  pub spans : (e : ℕ) → e < length s.level.edges
      → layer_in s.layers (tail_child s.level (holds s.reversed e) e) + gaps_of s e ≡ layer_in s.layers (head_child s.level (holds s.reversed e) e)
  spans e h = let up = rises e h in omega (arith, up)

  pub no_loop : (e i : ℕ) → i < gaps_of s e → is_loop s.level e ≡ false
  no_loop e i h =
      ⊎_elim
      (λ t. let same = level_loop e t in absurd (omega (arith, same, h)))
      (λ f. f)
      (cases_Bool (is_loop s.level e))

  pub some_gap : (e : ℕ) → e < length s.level.edges → is_loop s.level e ≡ false → 0 < gaps_of s e
  some_gap e h f = let less = are.onward e h f in omega (arith, less)

  pub few_gaps : (e : ℕ) → e < length s.level.edges → gaps_of s e < 2048
  few_gaps e h = let below = are.below (head e) (head_in e h) in omega (arith, below)

  pub few_links : (e : ℕ) → e ≤ length s.level.edges → before (gaps_of s) e ≤ 2 ^ 22
  few_links e h =
      let bound = before_bound (gaps_of s) e 2048 (λ d less. let few = few_gaps d (omega (arith, less, h)) in omega (arith, few)) in
      let edges = level.few_edges in
      omega (arith, bound, edges, h)

  pub few_lanes : (e : ℕ) → e ≤ length s.level.edges → before (lanes_of s) e ≤ 2 ^ 22
  few_lanes e h =
      let bound = before_bound (lanes_of s) e 2048 (λ d less. let few = few_gaps d (omega (arith, less, h)) in omega (arith, few)) in
      let edges = level.few_edges in
      omega (arith, bound, edges, h)

  pub is_short : (e : ℕ) → e < length s.level.edges → IsShort (run_of s e)
  is_short e h =
      record {
        low_layer = are.below (tail e) (tail_in e h);
        few_gaps = few_gaps e h;
        small_first = let few = few_lanes e (omega (arith, h)) in let children = level.few_children in omega (arith, few, children);
      }
