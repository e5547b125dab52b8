-- A level of boxes has no edges, so its certificate says what there is to say.
use Rattle.std.proofs.Common.{◌≡◌, ◌≢◌, inl, inr, ℕ, zero, suc, ◌<◌, Bool, true, false, ◌==◌, ◌&&◌, not, List, [], ◌∷◌, length, ℤ, pos, IsTrue, refl, sym, ◌∙◌, subst, arith, eqb-true}
use Rattle.std.specs.Prelude.{Option, Some, IfSome, IsFalse, if◌then◌else◌}
use Rattle.std.proofs.lemmas.Bool.{cases_Bool, and_left}
use Rattle.std.proofs.lemmas.Int.{ints}
use Rattle.std.proofs.lemmas.List.{length-map}
use Rattle.elk_doc.specs.declared.document.LevelOptions.{LevelOptions}
use Rattle.elk_doc.specs.declared.drawing.Placed.{Placed}
use Rattle.elk_doc.specs.Document.{Document, node_at}
use Rattle.elk_doc.specs.Drawing.{flow_in, head_node, tail_node}
use Rattle.elk_doc.specs.Fits.{FitsCertificate, child_count}
use Rattle.elk_doc.specs.FlowProof.{FlowProof, enters_child, leaves_child, weight_at}
use Rattle.elk_doc.specs.Layering.{Layering}
use Rattle.elk_doc.specs.Level.{IsEdge, children, edges_of, is_child, is_edge_of, is_loop, level_of_edge}
use Rattle.elk_doc.specs.Numbers.{count_below, sum_below, total_below}
use Rattle.elk_doc.specs.Reversed.{Reversed}
use Rattle.elk_doc.specs.Sound.{IsSound, IsSoundLevel}
use Rattle.elk_doc.proofs.NumberLaws.{length-numbers_below}
use Rattle.compound.specs.Boxed.{boxes_certificate, lowest}

pub level_sound : (d : Document) (n : ℕ) (o : LevelOptions) → IsSound d → n < length d.nodes → (node_at d n).level ≡ Some o → IsSoundLevel d n o
level_sound d n o s h e = subst (λ (l : Option LevelOptions). IfSome l (IsSoundLevel d n)) e (s.levels.options n h)

-- sums over numbers none of which passes
no_sum : (t : ℕ → Bool) (f : ℕ → ℕ) (m : ℕ) → ((k : ℕ) → k < m → t k ≡ false) → sum_below t f m ≡ 0
unfolding sum_below
no_sum t f zero none = refl
no_sum t f (suc m) none = rw (none m (omega arith)) (let rest = no_sum t f m (λ k h. none k (omega (arith, h))) in omega (arith, rest))

no_total : (t : ℕ → Bool) (f : ℕ → ℤ) (m : ℕ) → ((k : ℕ) → k < m → t k ≡ false) → total_below t f m ≡ pos 0
unfolding total_below
no_total t f zero none = refl
no_total t f (suc m) none = rw (none m (omega arith)) (let rest = no_total t f m (λ k h. none k (omega (arith, h))) in omega (arith, ints, rest))

no_count : (t : ℕ → Bool) (m : ℕ) → ((k : ℕ) → k < m → t k ≡ false) → count_below t m ≡ 0
unfolding count_below
no_count t zero none = refl
no_count t (suc m) none = rw (none m (omega arith)) (let rest = no_count t m (λ k h. none k (omega (arith, h))) in omega (arith, rest))

module _ (d : Document) (n : ℕ) (o : LevelOptions) (sound : IsSound d) (there : n < length d.nodes) (options : (node_at d n).level ≡ Some o) (boxes : IsTrue o.boxes) where
  elsewhere : (e : ℕ) → e < length d.edges → level_of_edge d e ≢ n
  elsewhere = (level_sound d n o sound there options).boxes_no_edge boxes

  pub whole : IsFalse o.split
  whole = (level_sound d n o sound there options).boxes_not_split boxes

  pub no_edge : (e : ℕ) → IsEdge d n e → ⊥
  no_edge e h = elsewhere e h.edge_in (eqb-true (level_of_edge d e) n h.edge)

  no_edge_at : (e : ℕ) → e < length d.edges → is_edge_of d n e ≡ false
  no_edge_at e h =
      elim (cases_Bool (is_edge_of d n e)) [ inl own ↦ absurd (elsewhere e h (eqb-true (level_of_edge d e) n own)) | inr none ↦ none ]

  pub edges_none : length (edges_of d n) ≡ 0
  edges_none = length-numbers_below (is_edge_of d n) (length d.edges) ∙ no_count (is_edge_of d n) (length d.edges) no_edge_at

  empty : {X : Type 0} (xs : List X) → length xs ≡ 0 → xs ≡ []
  empty [] h = refl
  empty (x ∷ xs) h = absurd (omega (arith, h))

  pub no_edges : edges_of d n ≡ []
  no_edges = empty (edges_of d n) edges_none

  -- ---- the certificate

  pub is_reversed : Reversed d n (boxes_certificate d n)
  is_reversed = record { closes = λ i z h. absurd (omega (arith, h)); acyclic = λ a b step around. no_edge step.edge step.of_level }

  module _ (p : Placed) where
    pub is_layering : Layering d p n (boxes_certificate d n)
    is_layering = record { layers = λ e h other. absurd (no_edge e h); span = no_total (is_edge_of d n) _ (length d.edges) no_edge_at }

    pub is_flow : FlowProof d p n (boxes_certificate d n)
    is_flow =
        record {
          loops = λ e h other. absurd (no_edge e h);
          balance = λ a child.
              let enters : (e : ℕ) → e < length d.edges → enters_child d p n a e ≡ false = λ e h. and_left (is_edge_of d n e) ((head_node d p e == a) && not (is_loop d e)) (no_edge_at e h) in
              let leaves : (e : ℕ) → e < length d.edges → leaves_child d p n a e ≡ false = λ e h. and_left (is_edge_of d n e) ((tail_node d p e == a) && not (is_loop d e)) (no_edge_at e h) in
              let flow_in_sum = no_sum (enters_child d p n a) (flow_in d n (boxes_certificate d n)) (length d.edges) enters in
              let weight_out = no_sum (leaves_child d p n a) (weight_at d) (length d.edges) leaves in
              let flow_out = no_sum (leaves_child d p n a) (flow_in d n (boxes_certificate d n)) (length d.edges) leaves in
              let weight_in = no_sum (enters_child d p n a) (weight_at d) (length d.edges) enters in
              omega (arith, flow_in_sum, weight_out, flow_out, weight_in);
          sum = no_sum (is_edge_of d n) (flow_in d n (boxes_certificate d n)) (length d.edges) no_edge_at;
        }

  no_parts : (split : Bool) (count : ℕ) → split ≡ false → 0 ≡ (if split then count else 0)
  no_parts true count h = absurd cc
  no_parts false count h = refl

  pub certificate_fits : FitsCertificate d n o (boxes_certificate d n)
  certificate_fits =
      record {
        layers = length-map (children d n) lowest ∙ length-numbers_below (is_child d n) (length d.nodes);
        flow = sym (no_count (is_edge_of d n) (length d.edges) no_edge_at);
        parts = no_parts o.split (child_count d n) whole;
        ascending = λ i h. absurd (omega (arith, h));
        listed = λ i z h. absurd (omega (arith, h));
      }
