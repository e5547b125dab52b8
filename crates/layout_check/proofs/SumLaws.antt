-- Sums over a level, by lists of what the edges have.
use Rattle.std.proofs.Common.{◌≡◌, ℕ, zero, suc, ◌+◌, ◌-◌, ◌*◌, ◌<◌, ◌≤◌, Bool, true, false, not, ◌&&◌, eqb, cond, List, length, slice_index, ℤ, pos, ◌-ℤ◌, ◌*ℤ◌, arith, refl, sym, ap, ◌∙◌, inl, inr, subst, add-one}
use Rattle.std.proofs.lemmas.Int.{ints}
use Rattle.std.proofs.lemmas.Bool.{cases_Bool, cond_both, eqb-true}
use Rattle.elk_doc.specs.declared.document.End.{End}
use Rattle.elk_doc.specs.declared.drawing.Certificate.{Certificate}
use Rattle.elk_doc.specs.declared.drawing.Placed.{Placed}
use Rattle.elk_doc.specs.Document.{Document, edge_at}
use Rattle.elk_doc.specs.Level.{IsEdge, is_edge_of, is_loop, node_of_end}
use Rattle.elk_doc.specs.Drawing.{head_node, tail_node, is_listed, layer_in}
use Rattle.elk_doc.specs.Numbers.{sum_below, total_below}
use Rattle.elk_doc.specs.Sound.{IsSound}
use Rattle.elk_doc.specs.Layering.{written_layer}
use Rattle.elk_doc.specs.FlowProof.{weight_at}
use Rattle.elk_doc.proofs.SoundLaws.{node_of_end-in}
use Rattle.drawing_laws.proofs.Sums.{sum_below-zero, sum_below-suc, sum_below-pass, sum_below-fail, total_below-zero, total_below-pass, total_below-fail}
use Rattle.layout_check.specs.Shapes.{AreHeads, AreTails, Lists}
use Rattle.layout_check.specs.Sums.{AreSums, AreSumsAt}
use Rattle.layout_check.specs.ListedLevels.{AreLayers}
use Rattle.layout_check.specs.FirstLevels.{EdgeRises, ends_at, end_layer, length_of, rise_of}

-- one number more, which passes or fails
pub sum_more : (p : ℕ → Bool) (f : ℕ → ℕ) (n : ℕ) → p n ≡ true → sum_below p f (n + 1) ≡ sum_below p f n + f n
sum_more p f n e = rw add-one (sum_below-pass p f n e)

pub sum_same : (p : ℕ → Bool) (f : ℕ → ℕ) (n : ℕ) → p n ≡ false → sum_below p f (n + 1) ≡ sum_below p f n
sum_same p f n e = rw add-one (sum_below-fail p f n e)

-- sums of equal numbers over equal tests
pub sum_below-same : (p q : ℕ → Bool) (f g : ℕ → ℕ) (m : ℕ) → ((e : ℕ) → e < m → p e ≡ q e) → ((e : ℕ) → e < m → f e ≡ g e) → sum_below p f m ≡ sum_below q g m
sum_below-same p q f g zero tests values = sum_below-zero p f ∙ sym (sum_below-zero q g)
sum_below-same p q f g (suc m) tests values =
    let rest = sum_below-same p q f g m (λ e l. tests e (omega arith)) (λ e l. values e (omega arith)) in
    let test = ap (λ b. cond b (f m) 0) (tests m (omega arith)) in
    let value = ap (λ n. cond (q m) n 0) (values m (omega arith)) in
    omega (arith, rest, test, value, sum_below-suc p f m, sum_below-suc q g m)

-- the end of an edge by the list of all
ends_same : (d : Document) (n a : ℕ) (ends : List ℕ) (end : ℕ → ℕ) (e : ℕ) → e < length d.edges → Lists end (length d.edges) ends → ends_at d n ends a e ≡ (is_edge_of d n e && (eqb (end e) a && not (is_loop d e)))
ends_same d n a ends end e l h = ap (λ v. is_edge_of d n e && (eqb v a && not (is_loop d e))) (h.each e 0 l)

sum_by_ends : (d : Document) (n a : ℕ) (ends values : List ℕ) (end f : ℕ → ℕ) → Lists end (length d.edges) ends → Lists f (length d.edges) values → sum_below (ends_at d n ends a) (slice_index values) (length d.edges) ≡ sum_below (λ e. is_edge_of d n e && (eqb (end e) a && not (is_loop d e))) f (length d.edges)
sum_by_ends d n a ends values end f hs vs =
    sum_below-same (ends_at d n ends a) (λ e. is_edge_of d n e && (eqb (end e) a && not (is_loop d e))) (slice_index values) f (length d.edges)
    (λ e l. ends_same d n a ends end e l hs)
    (λ e l. vs.each e 0 l)

-- the sums by lists of what the edges have, as sums of what they have
pub sums_by_ends : (d : Document) (n : ℕ) (ends values : List ℕ) (end f : ℕ → ℕ) (sums : List ℕ) → Lists end (length d.edges) ends → Lists f (length d.edges) values → AreSums d n ends values sums → AreSumsAt d (λ a e. is_edge_of d n e && (eqb (end e) a && not (is_loop d e))) f (length d.edges) sums
sums_by_ends d n ends values end f sums hs vs h =
    record { count = h.count; each = λ a other l. h.each a other l ∙ sum_by_ends d n a ends values end f hs vs; few = h.few }

pub sum_of_level : (d : Document) (n : ℕ) (values : List ℕ) (f : ℕ → ℕ) → Lists f (length d.edges) values → sum_below (is_edge_of d n) (slice_index values) (length d.edges) ≡ sum_below (is_edge_of d n) f (length d.edges)
sum_of_level d n values f vs =
    sum_below-same (is_edge_of d n) (is_edge_of d n) (slice_index values) f (length d.edges) (λ e l. refl) (λ e l. vs.each e 0 l)

-- the ends of an oriented edge are nodes
pub head_in : (d : Document) (p : Placed) (e : ℕ) → IsSound d → e < length d.edges → head_node d p e < length d.nodes
head_in d p e sound l =
    let s = sound.edges e l in
    cond_both (is_listed d p e) (edge_at d e).source (edge_at d e).target (λ x. node_of_end d x < length d.nodes)
    (λ _. node_of_end-in d (edge_at d e).source sound s.source_in)
    (λ _. node_of_end-in d (edge_at d e).target sound s.target_in)

pub tail_in : (d : Document) (p : Placed) (e : ℕ) → IsSound d → e < length d.edges → tail_node d p e < length d.nodes
tail_in d p e sound l =
    let s = sound.edges e l in
    cond_both (is_listed d p e) (edge_at d e).target (edge_at d e).source (λ x. node_of_end d x < length d.nodes)
    (λ _. node_of_end-in d (edge_at d e).target sound s.target_in)
    (λ _. node_of_end-in d (edge_at d e).source sound s.source_in)

-- the layers at the ends of an oriented edge, by the lists of all
pub head_layer : (d : Document) (p : Placed) (n : ℕ) (c : Certificate) (heads layers : List ℕ) (e : ℕ) → IsSound d → e < length d.edges → AreHeads d p heads → AreLayers d n c layers → end_layer heads layers e ≡ layer_in d n c (head_node d p e)
head_layer d p n c heads layers e sound l hs ls =
    ap (slice_index layers) (hs.each e 0 l) ∙ ls.each (head_node d p e) 0 (head_in d p e sound l)

pub tail_layer : (d : Document) (p : Placed) (n : ℕ) (c : Certificate) (tails layers : List ℕ) (e : ℕ) → IsSound d → e < length d.edges → AreTails d p tails → AreLayers d n c layers → end_layer tails layers e ≡ layer_in d n c (tail_node d p e)
tail_layer d p n c tails layers e sound l ts ls =
    ap (slice_index layers) (ts.each e 0 l) ∙ ls.each (tail_node d p e) 0 (tail_in d p e sound l)

same_ends : (d : Document) (b : Bool) (x y : End) → node_of_end d x ≡ node_of_end d y → node_of_end d (cond b x y) ≡ node_of_end d (cond b y x)
same_ends d true x y e = e
same_ends d false x y e = sym e

times : (w : ℕ) (z : ℤ) (r : ℕ) → pos r ≡ z → pos w *ℤ z ≡ pos (w * r)
times w z r e = let P : ℤ → Type 0 = λ z. pos w *ℤ z ≡ pos (w * r) in subst P e refl

-- the length of an edge that rises, or of a self-loop
rise_is : (d : Document) (p : Placed) (n : ℕ) (c : Certificate) (e : ℕ) → IsEdge d n e → EdgeRises d p n c e → pos (layer_in d n c (head_node d p e) - layer_in d n c (tail_node d p e)) ≡ pos (layer_in d n c (head_node d p e)) -ℤ pos (layer_in d n c (tail_node d p e))
rise_is d p n c e h up =
    elim (cases_Bool (is_loop d e)) [
      | inl loop ↦
          let same = ap (layer_in d n c) (same_ends d (is_listed d p e) (edge_at d e).source (edge_at d e).target (eqb-true _ _ loop)) in
          omega (arith, ints, same)
      | inr other ↦ let rises = up h other in omega (arith, ints, rises)
    ]

-- the span as a sum over the lists
pub span_is : (d : Document) (p : Placed) (n : ℕ) (c : Certificate) (heads tails layers : List ℕ) (m : ℕ) → m ≤ length d.edges → IsSound d → AreHeads d p heads → AreTails d p tails → AreLayers d n c layers → ((e : ℕ) → EdgeRises d p n c e) → total_below (is_edge_of d n) (λ e. pos (weight_at d e) *ℤ (written_layer d n c (head_node d p e) -ℤ written_layer d n c (tail_node d p e))) m ≡ pos (sum_below (is_edge_of d n) (length_of d heads tails layers) m)
span_is d p n c heads tails layers zero l sound hs ts ls up =
    total_below-zero (is_edge_of d n) _ ∙ sym (ap pos (sum_below-zero (is_edge_of d n) (length_of d heads tails layers)))
span_is d p n c heads tails layers (suc m) l sound hs ts ls up =
    let rest = span_is d p n c heads tails layers m (omega arith) sound hs ts ls up in
    let term : ℕ → ℤ = λ e. pos (weight_at d e) *ℤ (written_layer d n c (head_node d p e) -ℤ written_layer d n c (tail_node d p e)) in
    let inside : m < length d.edges = omega arith in
    elim (cases_Bool (is_edge_of d n m)) [
      | inr no_edge ↦
          total_below-fail (is_edge_of d n) term m no_edge ∙ rest ∙ sym (ap pos (sum_below-fail (is_edge_of d n) (length_of d heads tails layers) m no_edge))
      | inl edge ↦
          let h = head_layer d p n c heads layers m sound inside hs ls in
          let t = tail_layer d p n c tails layers m sound inside ts ls in
          let rise : rise_of heads tails layers m ≡ layer_in d n c (head_node d p m) - layer_in d n c (tail_node d p m) = rw (h, t) refl in
          let one = times (weight_at d m) (written_layer d n c (head_node d p m) -ℤ written_layer d n c (tail_node d p m)) (rise_of heads tails layers m) (ap pos rise ∙ rise_is d p n c m (record { edge_in = inside; edge = edge }) (up m)) in
          let total = total_below-pass (is_edge_of d n) term m edge in
          let sum = sum_below-pass (is_edge_of d n) (length_of d heads tails layers) m edge in
          omega (arith, ints, rest, one, total, sum)
    ]
