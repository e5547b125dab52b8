-- Marks of ports that one edge more enters or leaves.
use Rattle.std.proofs.Common.{◌≡◌, ℕ, ◌+◌, ◌<◌, Bool, true, false, ◌||◌, ◌==◌, List, set, refl, sym, ap, ◌∙◌, inl, inr, add-one, eq-eqb, get_or, get_or-set_same, get_or-set_other, replicate, not, ◌&&◌}
use Rattle.std.proofs.lemmas.Bool.{cases_eq, ne_eqb}
use Rattle.std.proofs.lemmas.List.{get_or-replicate, length-replicate}
use Rattle.std.proofs.Math.ListN.{length-set}
use Rattle.elk_doc.specs.declared.document.End.{End}
use Rattle.elk_doc.specs.declared.document.End.TheVariants.{Node as AtNode, Port as AtPort}
use Rattle.elk_doc.specs.Numbers.{any_below}
use Rattle.elk_doc.specs.Sides.{is_at_port}
use Rattle.layout_check.specs.Shapes.{Lists}

any_below-step : (p : ℕ → Bool) (n : ℕ) → any_below p (n + 1) ≡ (any_below p n || p n)
unfolding any_below
any_below-step p n = rw (add-one) refl

or_false : (b : Bool) → (b || false) ≡ b
or_false true = refl
or_false false = refl

or_true : (b : Bool) → (b || true) ≡ true
or_true true = refl
or_true false = refl

and_false : (b : Bool) → (b && false) ≡ false
and_false true = refl
and_false false = refl

and_true : (b : Bool) → (b && true) ≡ b
and_true true = refl
and_true false = refl

-- a self-loop touches no port, nor does an end at a node
pub loop_touches : (x : End) (k : ℕ) (loop : Bool) → loop ≡ true → (is_at_port x k && not loop) ≡ false
loop_touches x k loop e = ap (λ b. is_at_port x k && not b) e ∙ and_false (is_at_port x k)

pub node_touches : (x : End) (k n : ℕ) (loop : Bool) → x ≡ AtNode n → (is_at_port x k && not loop) ≡ false
node_touches x k n loop e = ap (λ x. is_at_port x k && not loop) e

pub port_touches : (x : End) (k port : ℕ) (loop : Bool) → x ≡ AtPort port → loop ≡ false → (is_at_port x k && not loop) ≡ (port == k)
port_touches x k port loop e straight =
    ap (λ x. is_at_port x k && not loop) e ∙ ap (λ b. (port == k) && not b) straight ∙ and_true (port == k)

none_below : (f : ℕ → ℕ → Bool) (k : ℕ) → any_below (f k) 0 ≡ false
unfolding any_below
none_below f k = refl

-- before the first edge no mark is set
pub marks_none : (f : ℕ → ℕ → Bool) (ports : ℕ) (marks : List Bool) → marks ≡ replicate ports false → Lists (λ k. any_below (f k) 0) ports marks
marks_none f ports marks fresh =
    rw fresh
    (record {
      count = length-replicate ports false;
      each = λ k other l. get_or-replicate ports k false other l ∙ sym (none_below f k);
    })

-- an edge that touches no port leaves the marks
pub marks_stay : (f : ℕ → ℕ → Bool) (ports m : ℕ) (marks : List Bool) → ((k : ℕ) → f k m ≡ false) → Lists (λ k. any_below (f k) m) ports marks → Lists (λ k. any_below (f k) (m + 1)) ports marks
marks_stay f ports m marks none h =
    record {
      count = h.count;
      each = λ k other l. h.each k other l ∙ sym (any_below-step (f k) m ∙ ap (λ b. any_below (f k) m || b) (none k) ∙ or_false (any_below (f k) m));
    }

-- an edge that touches one port marks it
pub marks_grow : (f : ℕ → ℕ → Bool) (ports m port : ℕ) (marks : List Bool) → port < ports → ((k : ℕ) → f k m ≡ (port == k)) → Lists (λ k. any_below (f k) m) ports marks → Lists (λ k. any_below (f k) (m + 1)) ports (set marks port true)
marks_grow f ports m port marks inside here h =
    record {
      count = length-set marks port true ∙ h.count;
      each = λ k other l.
          let step : any_below (f k) (m + 1) ≡ (any_below (f k) m || (port == k)) = any_below-step (f k) m ∙ ap (λ b. any_below (f k) m || b) (here k) in
          elim (cases_eq k port) [
            | inl same ↦
                let hit : (port == k) ≡ true = eq-eqb port k (sym same) in
                let now = get_or-set_same marks port true other (rw h.count inside) in
                ap (λ i. get_or (set marks port true) i other) same ∙ now ∙ sym (step ∙ ap (λ b. any_below (f k) m || b) hit ∙ or_true (any_below (f k) m))
            | inr differ ↦
                let miss : (port == k) ≡ false = ne_eqb port k (λ e. differ (sym e)) in
                get_or-set_other marks port k true other differ ∙ h.each k other l ∙ sym (step ∙ ap (λ b. any_below (f k) m || b) miss ∙ or_false (any_below (f k) m))
          ];
    }
