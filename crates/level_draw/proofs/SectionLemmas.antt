-- Sections that are joined one after the other.
use Rattle.std.proofs.Common.{◌≡◌, inl, inr, ℕ, ◌+◌, ◌<◌, List, [], ◌∷◌, ◌++◌, length, get_or, arith, sym, subst, ap, ◌∙◌}
use Rattle.std.proofs.lemmas.Bool.{cases_lt}
use Rattle.std.proofs.lemmas.List.{get_or-map, get_or_append_left, get_or_push, length_push}
use Rattle.drawing_types.specs.declared.section.Section.{Section}
use Rattle.route_lines.specs.declared.Gap.{Gap}
use Rattle.route_lines.specs.declared.Trace.{Trace}
use Rattle.route_lines.specs.Points.{IsJoinOf}
use Rattle.working_frame.specs.Ranges.{plain_trace}
use Rattle.level_nets.specs.Held.{plain_gaps}
use Rattle.level_draw.specs.Traced.{plain_traces, trace_in}
use Rattle.level_draw.specs.Joined.{AreJoined, points_through}

-- a trace of a slice as plain data
pub trace_read : (traces : List Trace) (e : ℕ) (t : Trace) → e < length traces → t ≡ get_or traces e t → trace_in (plain_traces traces) e ≡ plain_trace t
trace_read traces e t h is = get_or-map plain_trace traces e t _ h ∙ ap plain_trace (sym is)

one_more : (gaps : List Gap) (traces : List Trace) (n : ℕ) (sections : List Section) (x : Section) → AreJoined gaps traces n sections
    → IsJoinOf (points_through (plain_gaps gaps) (trace_in (plain_traces traces) n)) x → AreJoined gaps traces (n + 1) (sections ++ (x ∷ []))
one_more gaps traces n sections x are is =
    let many = are.as_many in
    record {
      as_many = length_push sections x ∙ ap (λ k. k + 1) many;
      each = λ e h. elim (cases_lt e n) [
        | inl less ↦
            subst (IsJoinOf (points_through (plain_gaps gaps) (trace_in (plain_traces traces) e))) (sym (get_or_append_left sections (x ∷ []) _ e (omega (arith, less, many)))) (are.each e less)
        | inr most ↦
            let same : e ≡ n = omega (arith, h, most) in
            subst (IsJoinOf (points_through (plain_gaps gaps) (trace_in (plain_traces traces) e))) (sym (get_or_push sections x _ e (many ∙ sym same)))
            (subst (λ k. IsJoinOf (points_through (plain_gaps gaps) (trace_in (plain_traces traces) k)) x) (sym same) is)
      ];
    }

pub joined_more : (gaps : List Gap) (traces : List Trace) (n : ℕ) (sections new : List Section) (x : Section) → AreJoined gaps traces n sections
    → IsJoinOf (points_through (plain_gaps gaps) (trace_in (plain_traces traces) n)) x → new ≡ sections ++ (x ∷ []) → AreJoined gaps traces (n + 1) new
joined_more gaps traces n sections new x are is pushed = subst (AreJoined gaps traces (n + 1)) (sym pushed) (one_more gaps traces n sections x are is)
