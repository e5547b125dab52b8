-- Traces that are read off one after the other.
use Rattle.std.proofs.Common.{◌≡◌, inl, inr, ℕ, ◌+◌, List, [], ◌∷◌, ◌++◌, map, length, get_or, arith, sym, subst, ap, ◌∙◌}
use Rattle.std.proofs.lemmas.Bool.{cases_lt}
use Rattle.std.proofs.lemmas.List.{map-append, get_or_append_left, get_or-append-add, length-append}
use Rattle.drawing_types.specs.declared.shape.Point.{Point}
use Rattle.route_lines.specs.declared.Trace.{Trace}
use Rattle.level_model.specs.FromPlan.{PlainTrace}
use Rattle.working_frame.specs.Ranges.{plain_trace}
use Rattle.level_nets.specs.declared.routing.Routing.{Routing}
use Rattle.level_nets.specs.Parts.{Parts}
use Rattle.level_draw.specs.Traced.{AreTraces, IsTraceOf, plain_traces, trace_in}

at_end : (ts : List PlainTrace) (t d : PlainTrace) → get_or (ts ++ (t ∷ [])) (length ts) d ≡ t
at_end ts t d =
    let none : length ts ≡ length ts + 0 = omega arith in
    ap (λ n. get_or (ts ++ (t ∷ [])) n d) none ∙ get_or-append-add ts (t ∷ []) 0 d

one_more : (s : Parts) (r : Routing) (boxes : List Point) (n : ℕ) (ts : List PlainTrace) (t : PlainTrace) → AreTraces s r boxes n ts → IsTraceOf s r boxes n t → AreTraces s r boxes (n + 1) (ts ++ (t ∷ []))
one_more s r boxes n ts t are is =
    let many = are.as_many in
    record {
      as_many = length-append ts (t ∷ []) ∙ ap (λ k. k + 1) many;
      each = λ e h. elim (cases_lt e n) [
        | inl less ↦ subst (IsTraceOf s r boxes e) (sym (get_or_append_left ts (t ∷ []) _ e (omega (arith, less, many)))) (are.each e less)
        | inr most ↦
            let same : e ≡ n = omega (arith, h, most) in
            let long : length ts ≡ e = many ∙ sym same in
            subst (IsTraceOf s r boxes e) (sym (ap (trace_in (ts ++ (t ∷ []))) (sym long) ∙ at_end ts t _)) (subst (λ k. IsTraceOf s r boxes k t) (sym same) is)
      ];
    }

pub traces_more : (s : Parts) (r : Routing) (boxes : List Point) (n : ℕ) (ts us : List Trace) (t : Trace) → AreTraces s r boxes n (plain_traces ts) → IsTraceOf s r boxes n (plain_trace t) → us ≡ ts ++ (t ∷ [])
    → AreTraces s r boxes (n + 1) (plain_traces us)
traces_more s r boxes n ts us t are is pushed =
    subst (AreTraces s r boxes (n + 1)) (sym (ap (map plain_trace) pushed ∙ map-append plain_trace ts (t ∷ []))) (one_more s r boxes n (plain_traces ts) (plain_trace t) are is)
