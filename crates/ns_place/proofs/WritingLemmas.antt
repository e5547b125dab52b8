-- Heights and flows, one after the other.
use Rattle.std.proofs.Common.{◌≡◌, ℕ, ◌+◌, ◌*◌, ◌<◌, ◌≤◌, ℤ, pos, List, length, drop, get_or, set, false, arith, refl, sym, ◌∙◌, ap, subst, inl, inr}
use Rattle.std.proofs.lemmas.Bool.{cases_eq}
use Rattle.std.proofs.lemmas.List.{drop_more, drop_all, length-set, get_or-set_same, get_or-set_other}
use Rattle.elk_layers.specs.declared.units.Link.{Link}
use Rattle.elk_layers.specs.Layered.{link_at}
use Rattle.ns_place.specs.declared.least.PairFlow.{PairFlow}
use Rattle.ns_place.specs.Heights.{link_height}
use Rattle.ns_place.specs.Weighed.{weighed_heights, weight_at}
use Rattle.ns_place.specs.Flows.{pair_at, WritesFlows}

pub heights_step : (tops : List ℤ) (ls : List Link) (ws : List ℕ) (i : ℕ) → i < length ls → i < length ws
    → weighed_heights tops (drop i ls) (drop i ws) ≡ weight_at ws i * link_height tops (link_at ls i) + weighed_heights tops (drop (i + 1) ls) (drop (i + 1) ws)
heights_step tops ls ws i h hw = rw (drop_more ls i (record { edge = 0; tail = 0; head = 0; tail_rank = 0; head_rank = 0; tail_at = pos 0; head_at = pos 0 }) h, drop_more ws i 0 hw) refl

pub heights_done : (tops : List ℤ) (ls : List Link) (ws : List ℕ) (i : ℕ) → length ls ≤ i → weighed_heights tops (drop i ls) ws ≡ 0
heights_done tops ls ws i h = ap (λ (xs : List Link). weighed_heights tops xs ws) (drop_all i ls h)

pub writes_start : (flow : List ℕ) (first : ℕ) (pairs : List PairFlow) → WritesFlows flow first pairs 0 pairs
writes_start flow first pairs = record { as_many = refl; written = λ i h. absurd (omega (arith, h)); kept = λ i h. refl }

pub writes_more : (flow : List ℕ) (first : ℕ) (old : List PairFlow) (i : ℕ) (now : List PairFlow) → i < length old → WritesFlows flow first old i now
    → WritesFlows flow first old (i + 1) (set now i (record { upper = (pair_at now i).upper; lower = (pair_at now i).lower; body = (pair_at now i).body; flow = get_or flow (first + i) 0 }))
writes_more flow first old i now h w =
    let with : PairFlow → PairFlow = λ p. record { upper = p.upper; lower = p.lower; body = p.body; flow = get_or flow (first + i) 0 } in
    let new : PairFlow = with (pair_at now i) in
    let long = w.as_many in
    record {
      as_many = length-set now i new ∙ w.as_many;
      written = λ j less. elim (cases_eq i j) [
        | inl e ↦ subst (λ x. pair_at (set now i new) x ≡ record { upper = (pair_at old x).upper; lower = (pair_at old x).lower; body = (pair_at old x).body; flow = get_or flow (first + x) 0 }) e
            (get_or-set_same now i new (record { upper = 0; lower = 0; body = false; flow = 0 }) (omega (arith, long, h)) ∙ ap with (w.kept i (omega arith)))
        | inr ne ↦ get_or-set_other now i j new (record { upper = 0; lower = 0; body = false; flow = 0 }) (λ e. ne (sym e)) ∙ w.written j (omega (arith, less, ne))
      ];
      kept = λ j le. get_or-set_other now i j new (record { upper = 0; lower = 0; body = false; flow = 0 }) (λ e. omega (arith, le, e)) ∙ w.kept j (omega (arith, le));
    }
