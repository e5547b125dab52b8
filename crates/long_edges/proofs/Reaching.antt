-- One key after the other gets its chain.
use Rattle.std.proofs.Common.{◌≡◌, ◌≢◌, ℕ, zero, suc, ◌+◌, ◌-◌, ◌<◌, ◌≤◌, List, [], ◌∷◌, ◌++◌, length, get_or, take, drop, map, Option, Some, None, IsSome, is_some, arith, refl, sym, ap, ◌∙◌, subst, inl, inr}
use Rattle.std.specs.List.{slice_index}
use Rattle.std.proofs.Math.Seq.{take-length, drop-append_seam}
use Rattle.std.proofs.lemmas.Bool.{cases_eq}
use Rattle.std.proofs.lemmas.List.{append-nil, map-append, length-map, length-append, get_or_past, take-append-le, drop-append-le, length-drop}
use Rattle.std.proofs.lemmas.List.Elements.{All-append, All-nil, All-cons, All-weaker}
use Rattle.graph_arena.specs.Graph.{Graph, Ends, ends_at, IsEdge, IsIncidence, inward_of, outward_of, occurs, if_end, tail_in, head_in}
use Rattle.graph_arena.specs.Changes.{IsSame}
use Rattle.graph_arena.specs.declared.keys.EdgeKey.{EdgeKey}
use Rattle.long_edges.specs.declared.chains.Lane.{Lane}
use Rattle.long_edges.specs.declared.chains.Span.{Span}
use Rattle.long_edges.specs.Chains.{chain_at, edge_keys}
use Rattle.long_edges.specs.Layers.{IsLayered, AreHeights, IsOneALayer}
use Rattle.long_edges.specs.Spans.{part_of, table_of, IsWithin, AreWithin}
use Rattle.long_edges.specs.Growing.{Grown, changed, alone, Extended, AddsChain, so_far, Reached}
use Rattle.long_edges.proofs.Growth.{ends_of, grown_same, grown_start, changed_here, changed_other, changed_same, some_inj, some_or}

-- ---- one key

pub adds_some : (g0 g1 : Graph) (layer : List ℕ) (e top low height v : ℕ) (lanes0 lanes1 : List Lane) (edges0 edges1 : List EdgeKey) → Extended g0 g1 e top low height lanes0 lanes1 edges0 edges1 → tail_in (ends_at g0 e) ≡ Some v → low ≡ slice_index layer v → 0 < height → AddsChain g0 g1 layer e height lanes0 lanes1 edges0 edges1
adds_some g0 g1 layer e top low height v lanes0 lanes1 edges0 edges1 ext tail low_is tall =
    record {
      more = ext.more;
      edges = ext.edges;
      count = ext.count;
      grown = λ old chain gr live none one. (
          let x = ends_of (ends_at old e) (live tall) in
          let c = gr.chains.each e x.0 x.1 in
          let same : x.0.tail ≡ v = some_inj x.0.tail v (sym c.tail ∙ tail) in
          ext.grown old layer x.0 chain gr x.1 (ap (λ (u : ℕ). slice_index layer u) same ∙ sym low_is) (one tall));
    }

pub adds_none : (g : Graph) (layer : List ℕ) (e height : ℕ) (lanes : List Lane) (edges : List EdgeKey) → height ≡ 0 → AddsChain g g layer e height lanes lanes edges edges
adds_none g layer e height lanes edges flat =
    record {
      more = [];
      edges = sym (append-nil edges);
      count = sym flat;
      grown = λ old chain gr live none one. grown_same old g layer lanes chain (changed chain e []) (changed_same chain e [] (none flat)) gr;
    }

-- ---- the same graph with another room

incidence_same : (old g : Graph) → IsSame old g → IsIncidence g → IsIncidence old
incidence_same old g s i =
    record {
      outs = λ v e. ap (λ l. occurs e (outward_of l)) (sym (s.same_nodes v)) ∙ (i.outs v e ∙ ap (λ o. if_end (tail_in o) v) (s.same_edges e));
      ins = λ v e. ap (λ l. occurs e (inward_of l)) (sym (s.same_nodes v)) ∙ (i.ins v e ∙ ap (λ o. if_end (head_in o) v) (s.same_edges e));
      tails = λ e x is. ap is_some (sym (s.same_nodes x.tail)) ∙ i.tails e x (s.same_edges e ∙ is);
      heads = λ e x is. ap is_some (sym (s.same_nodes x.head)) ∙ i.heads e x (s.same_edges e ∙ is);
    }

pub layered_same : (old g : Graph) (layer : List ℕ) → IsSame old g → IsLayered old layer → IsLayered g layer
layered_same old g layer s l =
    record {
      listed = λ v h. l.listed v (ap is_some (sym (s.same_nodes v)) ∙ h);
      upward = λ e x is. l.upward e x (sym (s.same_edges e) ∙ is);
    }

pub heights_same : (old g : Graph) (layer heights : List ℕ) → IsSame old g → AreHeights old layer heights → AreHeights g layer heights
heights_same old g layer heights s h =
    record {
      listed = λ e l. h.listed e (ap is_some (sym (s.same_edges e)) ∙ l);
      values =
          record {
            live = λ e x b is. h.values.live e x b (sym (s.same_edges e) ∙ is);
            dead = λ e d. h.values.dead e (sym (s.same_edges e) ∙ d);
          };
    }

pub same_back : (g h : Graph) → IsSame g h → IsSame h g
same_back g h s = record { same_nodes = λ v. sym (s.same_nodes v); same_edges = λ e. sym (s.same_edges e) }

pub is_same : (g : Graph) → IsSame g g
is_same g = record { same_nodes = λ v. refl; same_edges = λ e. refl }

-- ---- what a height says of a key

pub zero_dead : (g : Graph) (layer heights : List ℕ) (e : ℕ) → IsLayered g layer → AreHeights g layer heights → e < length heights → slice_index heights e ≡ 0 → ends_at g e ≡ None
zero_dead g layer heights e l h b flat = none_if (ends_at g e) (λ x is. (let a = l.upward e x is in let c = h.values.live e x b is in omega (arith, a, c, flat)))
  where
    none_if : (o : Option Ends) → ((x : Ends) → o ≡ Some x → ⊥) → o ≡ None
    none_if None f = refl
    none_if (Some x) f = absurd (f x refl)

pub tall_live : (g : Graph) (layer heights : List ℕ) (e : ℕ) → AreHeights g layer heights → 0 < slice_index heights e → IsEdge g e
tall_live g layer heights e h tall = some_or (ends_at g e) (λ d. (let z = h.values.dead e d in omega (arith, z, tall)))

-- ---- the start

pub reached_start : (old g : Graph) (layer : List ℕ) → IsIncidence g → IsSame old g → Reached old g layer [] [] []
reached_start old g layer i s =
    record {
      within = All-nil (IsWithin []);
      grown = grown_same old g layer [] (alone old) (so_far old [] []) (λ e. refl) (grown_start old g layer (incidence_same old g s i) s);
      high = λ e x is b. absurd (omega (arith, b));
    }

-- ---- the next key

part_kept : (edges more : List EdgeKey) (s : Span) → IsWithin edges s → part_of (edges ++ more) s ≡ part_of edges s
part_kept edges more s w =
    let a : drop s.start (edges ++ more) ≡ drop s.start edges ++ more = drop-append-le s.start edges more (let o = w.ordered in let i = w.inside in omega (arith, o, i)) in
    let n : s.end - s.start ≤ length (drop s.start edges) = (let l = length-drop s.start edges in let o = w.ordered in let i = w.inside in omega (arith, l, o, i)) in
    let b : take (s.end - s.start) (drop s.start edges ++ more) ≡ take (s.end - s.start) (drop s.start edges) = take-append-le (s.end - s.start) (drop s.start edges) more n in
    ap edge_keys (ap (λ (l : List EdgeKey). take (s.end - s.start) l) a ∙ b)

parts_kept : (edges more : List EdgeKey) (spans : List Span) → AreWithin edges spans → map (part_of (edges ++ more)) spans ≡ map (part_of edges) spans
parts_kept edges more [] w = refl
parts_kept edges more (s ∷ spans) w =
    let a = part_kept edges more s (w 0 s (omega arith)) in
    let b = parts_kept edges more spans (λ k d b. w (suc k) d (omega (arith, b))) in
    ap (λ (p : List ℕ). p ∷ map (part_of (edges ++ more)) spans) a ∙ ap (λ (ps : List (List ℕ)). part_of edges s ∷ ps) b

within_kept : (edges more : List EdgeKey) (spans : List Span) → AreWithin edges spans → AreWithin (edges ++ more) spans
within_kept edges more spans w =
    All-weaker (IsWithin edges) (IsWithin (edges ++ more)) (λ s h. record { ordered = h.ordered; inside = (let i = h.inside in let l = length-append edges more in omega (arith, i, l)) }) spans w

part_new : (edges more : List EdgeKey) (s : Span) → s.start ≡ length edges → s.end ≡ length edges + length more → part_of (edges ++ more) s ≡ edge_keys more
part_new edges more s a b =
    let d : drop s.start (edges ++ more) ≡ more = ap (λ (n : ℕ). drop n (edges ++ more)) a ∙ drop-append_seam edges more in
    let n : s.end - s.start ≡ length more = omega (arith, a, b) in
    ap edge_keys (ap (λ (l : List EdgeKey). take (s.end - s.start) l) d ∙ (ap (λ (k : ℕ). take k more) n ∙ take-length more))

get_push_here : (xs : List (List ℕ)) (k : List ℕ) (j : ℕ) (d : List ℕ) → j ≡ length xs → get_or (xs ++ k ∷ []) j d ≡ k
get_push_here [] k j d h = rw h refl
get_push_here (x ∷ xs) k j d h = rw h (get_push_here xs k (length xs) d refl)

get_push_other : (xs : List (List ℕ)) (k : List ℕ) (j : ℕ) (d : List ℕ) → j ≢ length xs → get_or (xs ++ k ∷ []) j d ≡ get_or xs j d
get_push_other [] k zero d h = absurd (h refl)
get_push_other [] k (suc j) d h = refl
get_push_other (x ∷ xs) k zero d h = refl
get_push_other (x ∷ xs) k (suc j) d h = get_push_other xs k j d (λ i. h (omega (arith, i)))

module _ (old g h : Graph) (layer : List ℕ) (lanes lanes' : List Lane) (edges edges' : List EdgeKey) (spans : List Span) (height : ℕ) (span : Span) (r : Reached old g layer lanes edges spans) (a : AddsChain g h layer (length spans) height lanes lanes' edges edges') (starts : span.start ≡ length edges) (ends : span.end ≡ length edges') (live : (x : Ends) → ends_at old (length spans) ≡ Some x → slice_index layer x.tail + height ≡ slice_index layer x.head) (dead : height ≡ 0 → ends_at old (length spans) ≡ None) (tall : 0 < height → IsEdge old (length spans)) where
  key : ℕ
  key = length spans

  parts : map (part_of edges') (spans ++ span ∷ []) ≡ map (part_of edges) spans ++ edge_keys a.more ∷ []
  parts =
      let all : map (part_of edges') (spans ++ span ∷ []) ≡ map (part_of (edges ++ a.more)) (spans ++ span ∷ []) = ap (λ (l : List EdgeKey). map (part_of l) (spans ++ span ∷ [])) a.edges in
      let both = map-append (part_of (edges ++ a.more)) spans (span ∷ []) in
      let ends_there : span.end ≡ length edges + length a.more = (let l = ap (λ (l : List EdgeKey). length l) a.edges in let m = length-append edges a.more in omega (arith, ends, l, m)) in
      let one = part_new edges a.more span starts ends_there in
      let kept = parts_kept edges a.more spans r.within in
      all ∙ (both ∙ (ap (λ (ps : List (List ℕ)). ps ++ part_of (edges ++ a.more) span ∷ []) kept ∙ ap (λ (p : List ℕ). map (part_of edges) spans ++ p ∷ []) one))

  counted : length (map (part_of edges) spans) ≡ length spans
  counted = length-map spans (part_of edges)

  so_far_here : so_far old edges' (spans ++ span ∷ []) (length spans) ≡ edge_keys a.more
  so_far_here = ap (λ (ps : List (List ℕ)). get_or ps (length spans) (alone old (length spans))) parts ∙ get_push_here (map (part_of edges) spans) (edge_keys a.more) (length spans) (alone old (length spans)) (sym counted)

  so_far_other : (j : ℕ) → j ≢ length spans → so_far old edges' (spans ++ span ∷ []) j ≡ so_far old edges spans j
  so_far_other j n = ap (λ (ps : List (List ℕ)). get_or ps j (alone old j)) parts ∙ get_push_other (map (part_of edges) spans) (edge_keys a.more) j (alone old j) (λ i. n (i ∙ counted))

  same : (j : ℕ) → so_far old edges' (spans ++ span ∷ []) j ≡ changed (so_far old edges spans) (length spans) (edge_keys a.more) j
  same j =
      elim (cases_eq j (length spans)) [
        | inl i ↦
            subst (λ (z : ℕ). so_far old edges' (spans ++ span ∷ []) z ≡ changed (so_far old edges spans) (length spans) (edge_keys a.more) z) (sym i)
            (so_far_here ∙ sym (changed_here (so_far old edges spans) (length spans) (edge_keys a.more)))
        | inr n ↦ so_far_other j n ∙ sym (changed_other (so_far old edges spans) (length spans) (edge_keys a.more) j n)
      ]

  -- the key is still as it was
  untouched : so_far old edges spans (length spans) ≡ alone old (length spans)
  untouched = get_or_past (map (part_of edges) spans) (length spans) (alone old (length spans)) (omega (arith, counted))

  grown_now : Grown old h layer lanes' (so_far old edges' (spans ++ span ∷ []))
  grown_now =
      grown_same old h layer lanes' (changed (so_far old edges spans) (length spans) (edge_keys a.more)) (so_far old edges' (spans ++ span ∷ [])) same
      (a.grown old (so_far old edges spans) r.grown tall (λ z. untouched ∙ (let d = dead z in rw d refl)) (λ z. untouched ∙ (let l = tall z in rw l refl)))

  high_now : (e : ℕ) (x : Ends) → ends_at old e ≡ Some x → e < length (spans ++ span ∷ []) → slice_index layer x.tail + length (so_far old edges' (spans ++ span ∷ []) e) ≡ slice_index layer x.head
  high_now e x is b =
      elim (cases_eq e (length spans)) [
        | inl i ↦
            let count : length (so_far old edges' (spans ++ span ∷ []) e) ≡ height =
            subst (λ (z : ℕ). length (so_far old edges' (spans ++ span ∷ []) z) ≡ height) (sym i)
            (ap (λ (l : List ℕ). length l) so_far_here ∙ (length-map a.more (λ (k : EdgeKey). k.at) ∙ a.count))
            in
            let q = live x (subst (λ (z : ℕ). ends_at old z ≡ Some x) i is) in
            omega (arith, count, q)
        | inr n ↦
            let lower : e < length spans = (let l = length-append spans (span ∷ []) in omega (arith, l, b, n)) in
            let q = r.high e x is lower in
            let s : length (so_far old edges' (spans ++ span ∷ []) e) ≡ length (so_far old edges spans e) = ap (λ (l : List ℕ). length l) (so_far_other e n) in
            omega (arith, q, s)
      ]

  pub reached_next : Reached old h layer lanes' edges' (spans ++ span ∷ [])
  reached_next =
      let l = ap (λ (l : List EdgeKey). length l) a.edges in
      let m = length-append edges a.more in
      record {
        within =
            All-append (IsWithin edges') spans (span ∷ [])
            (subst (λ (z : List EdgeKey). AreWithin z spans) (sym a.edges) (within_kept edges a.more spans r.within))
            (All-cons (IsWithin edges') span [] (record { ordered = omega (arith, starts, ends, l, m); inside = omega (arith, ends) }) (All-nil (IsWithin edges')));
        grown = grown_now;
        high = high_now;
      }

-- ---- the end

never_some : (o : Option Ends) → (IsSome o → ⊥) → o ≡ None
never_some None f = refl
never_some (Some x) f = absurd (f refl)

default_free : (xs : List (List ℕ)) (j : ℕ) (d : List ℕ) → (length xs ≤ j → d ≡ []) → get_or xs j [] ≡ get_or xs j d
default_free [] j d f = sym (f (omega arith))
default_free (x ∷ xs) zero d f = refl
default_free (x ∷ xs) (suc j) d f = default_free xs j d (λ b. f (omega (arith, b)))

module _ (old g : Graph) (layer heights : List ℕ) (lanes : List Lane) (edges : List EdgeKey) (spans : List Span) (r : Reached old g layer lanes edges spans) (h : AreHeights old layer heights) (count : length spans ≡ length heights) where
  none_past : (e : ℕ) → length heights ≤ e → ends_at old e ≡ None
  none_past e b = never_some (ends_at old e) (λ l. (let q = h.listed e l in omega (arith, q, b)))

  ended : (e : ℕ) → chain_at (table_of lanes edges spans) e ≡ so_far old edges spans e
  ended e = default_free (map (part_of edges) spans) e (alone old e) (λ b. (let dead = none_past e (let c = length-map spans (part_of edges) in omega (arith, b, count, c)) in rw dead refl))

  pub grown_all : Grown old g layer lanes (chain_at (table_of lanes edges spans))
  grown_all = grown_same old g layer lanes (so_far old edges spans) (chain_at (table_of lanes edges spans)) ended r.grown

  pub one_a_layer : IsOneALayer old layer (chain_at (table_of lanes edges spans))
  one_a_layer =
      record {
        counted = λ e x is. (
            let b : e < length spans = (let q = h.listed e (ap is_some is) in omega (arith, q, count)) in
            let q = r.high e x is b in
            let s : length (chain_at (table_of lanes edges spans) e) ≡ length (so_far old edges spans e) = ap (λ (l : List ℕ). length l) (ended e) in
            omega (arith, q, s));
      }

-- ---- an edge that comes next

live_if_tail : (o : Option Ends) (v : ℕ) → tail_in o ≡ Some v → IsSome o
live_if_tail None v h = cc
live_if_tail (Some x) v h = refl

module _ (old g : Graph) (layer : List ℕ) (lanes : List Lane) (edges : List EdgeKey) (spans : List Span) (r : Reached old g layer lanes edges spans) (e : ℕ) where
  pub live_now : IsEdge old e → IsEdge g e
  live_now l = let x = ends_of (ends_at old e) l in live_if_tail (ends_at g e) x.0.tail (r.grown.chains.each e x.0 x.1).tail

  -- an old edge has its old tail
  pub tail_now : IsEdge old e → (y : Ends) → ends_at g e ≡ Some y → (x : Ends) × (ends_at old e ≡ Some x) × (x.tail ≡ y.tail)
  tail_now l y is =
      let x = ends_of (ends_at old e) l in
      (x.0, x.1, some_inj x.0.tail y.tail (sym (r.grown.chains.each e x.0 x.1).tail ∙ ap tail_in is))
