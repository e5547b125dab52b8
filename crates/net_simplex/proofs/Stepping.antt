-- One pivot, as the code makes it.
use Rattle.std.proofs.Common.{◌≡◌, ◌≢◌, ℕ, zero, suc, ◌+◌, ◌<◌, ◌≤◌, ◌^◌, ◌&&◌, eqb, eq-eqb, cond, not, Bool, true, false, ltb, ◌⊎◌, ℤ, pos, ◌+ℤ◌, ◌-ℤ◌, List, length, set, get_or, Option, Some, None, arith, refl, sym, ap, subst, ◌∙◌, inl, inr}
use Rattle.std.specs.Prelude.{int_lt}
use Rattle.std.proofs.lemmas.Int.{ints}
use Rattle.std.proofs.lemmas.Bool.{cases_eq, cases_Bool}
use Rattle.std.proofs.lemmas.List.{get_or-set_same, get_or-set_other, length-set, ext_get_or}
use Rattle.network_laws.specs.declared.network.NetEdge.{NetEdge}
use Rattle.network_laws.specs.Network.{edge_at, EndsBelow, IsNetwork}
use Rattle.network_laws.specs.Layering.{layer_of}
use Rattle.network_laws.specs.Linked.{is_marked}
use Rattle.net_simplex.specs.Tree.{State, IsState, IsSpanningTree, IsCut, tail_part, cut_value}
use Rattle.net_simplex.specs.Pivots.{slack, shifted, lesser, least_of, least_slack_edge, is_negative, leaving_edge, leads_back, entering_edge, exchanged, pivot_at, pivot}
use Rattle.net_simplex.specs.Rooted.{beyond, above, IsRooted, IsBelow, part_from}
use Rattle.net_simplex.specs.Walks.{part as part_of, IsWalk}
use Rattle.net_simplex.specs.Cuts.{AreCutValues}
use Rattle.net_simplex.specs.Grown.{IsSmall}
use Rattle.net_simplex.specs.Rerooting.{Exchanges}
use Rattle.net_simplex.specs.Kept.{kept_state, IsKept, StandsFor}
use Rattle.net_simplex.proofs.Choosing.{Chosen, least_chosen, none_chosen}
use Rattle.net_simplex.proofs.Cutting.{tail_parts_cut}
use Rattle.net_simplex.proofs.Exchanging.{all_or_none}
use Rattle.net_simplex.proofs.Pivoting.{length_shifted, shifted_at, slack_is, pivot_keeps, pivot_goes_on, first_true}
use Rattle.net_simplex.proofs.Spreading.{near_root}
use Rattle.net_simplex.proofs.Walking.{clash, before_it, between_is, between_not, own, alone}
use Rattle.net_simplex.proofs.Hanging.{ne_eqb, root_place, not_root, above_there, from_tail, from_head, along, before_same, edge_hangs, hung_node}

-- tests that agree, and sizes that agree, make one choice
lesser_same : (test test' : ℕ → Bool) (size size' : ℕ → ℕ) (n : ℕ) (o : Option ℕ) → test n ≡ test' n → size n ≡ size' n → ((k : ℕ) → o ≡ Some k → size k ≡ size' k) → lesser test size n o ≡ lesser test' size' n o
lesser_same test test' size size' n None h s t = ap (λ b. cond b (Some n) None) h
lesser_same test test' size size' n (Some k) h s t = rw (h, s, t k refl) refl

pub least_same : (test test' : ℕ → Bool) (size size' : ℕ → ℕ) (n : ℕ) → ((k : ℕ) → k < n → test k ≡ test' k) → ((k : ℕ) → k < n → size k ≡ size' k) → least_of test size n ≡ least_of test' size' n
least_same test test' size size' zero h s = refl
least_same test test' size size' (suc n) h s =
    let r = least_same test test' size size' n (λ k l. h k (omega (arith, l))) (λ k l. s k (omega (arith, l))) in
    lesser_same test test' size size' n (least_of test size n) (h n (omega arith)) (s n (omega arith)) (λ k e. s k (let c = subst (λ o. Chosen test size n o) e (least_chosen test size n) in let b = c.0 in omega (arith, b)))
    ∙ ap (lesser test' size' n) r

-- the first that passes
pub first_found : (test : ℕ → Bool) (n k : ℕ) → k < n → test k ≡ true → ((j : ℕ) → j < k → test j ≡ false) → least_of test (λ i. 0) n ≡ Some k
first_found test zero k l t f = absurd (omega (arith, l))
first_found test (suc n) k l t f =
    elim (cases_eq k n) [
      | inl e ↦
          let none = none_chosen test (λ i. 0) n (λ j lj. f j (omega (arith, lj, e))) in
          let t' : test n ≡ true = ap test (sym e) ∙ t in
          ap (lesser test (λ i. 0) n) none ∙ (ap (λ b. cond b (Some n) None) t' ∙ ap Some (sym e))
      | inr ne ↦
          let r = first_found test n k (omega (arith, l, ne)) t f in
          ap (lesser test (λ i. 0) n) r ∙ later (test n)
    ]
  where
    later : (b : Bool) → cond b (cond (ltb 0 0) (Some n) (Some k)) (Some k) ≡ Some k
    later true = refl
    later false = refl

-- the code's cut values choose the edge that leaves
pub leaves_by : (nodes : ℕ) (edges : List NetEdge) (tree : List Bool) (layers cut : List ℤ) → length tree ≡ length edges → AreCutValues nodes edges tree cut → least_of (λ k. is_marked tree k && int_lt (layer_of cut k) (pos 0)) (λ k. 0) (length tree) ≡ leaving_edge nodes edges (kept_state tree layers)
leaves_by nodes edges tree layers cut n c =
    ap (least_of (λ k. is_marked tree k && int_lt (layer_of cut k) (pos 0)) (λ k. 0)) n
    ∙ least_same (λ k. is_marked tree k && int_lt (layer_of cut k) (pos 0)) (is_negative nodes edges tree) (λ k. 0) (λ k. 0) (length edges) (λ k l. agree (is_marked tree k) (layer_of cut k) (cut_value nodes edges tree k) (c.1 k l)) (λ k l. refl)
  where
    agree : (b : Bool) (x y : ℤ) → (b ≡ true → x ≡ y) → (b && int_lt x (pos 0)) ≡ (b && int_lt y (pos 0))
    agree true x y h = ap (λ z. int_lt z (pos 0)) (h refl)
    agree false x y h = refl

abbrev xor : Bool → Bool → Bool
xor a b = cond a (not b) b

xor_none : (a b : Bool) → xor a b ≡ false → a ≡ b
xor_none true true h = refl
xor_none true false h = absurd cc
xor_none false true h = absurd cc
xor_none false false h = refl

xor_self : (a b : Bool) → a ≡ b → xor a b ≡ false
xor_self true b h = ap not (sym h)
xor_self false b h = sym h

xor_ends : (a a' b b' : Bool) → a ≡ a' → b ≡ b' → xor a b ≡ xor a' b'
xor_ends a a' b b' h k = rw (h, k) refl

-- a tree edge has one cut
pub cut_unique : (nodes : ℕ) (edges : List NetEdge) (tree : List Bool) (k : ℕ) (inside inside' : ℕ → Bool) → EndsBelow nodes edges → IsSpanningTree nodes edges tree → k < length edges → IsCut edges tree k inside → IsCut edges tree k inside' → (v : ℕ) → v < nodes → inside v ≡ inside' v
cut_unique nodes edges tree k inside inside' ends t l c d v lv =
    let w : ℕ → Bool = λ x. xor (inside x) (inside' x) in
    let none : (x : ℕ) → x < nodes → w x ≡ w 0 = all_or_none nodes edges tree t.spans w (λ j lj mj. elim (cases_eq j k) [
      | inl e ↦
          subst (λ y. w (edge_at edges y).tail ≡ w (edge_at edges y).head) (sym e)
          (xor_self (inside (edge_at edges k).tail) (inside' (edge_at edges k).tail) (c.tail_in ∙ sym d.tail_in) ∙ sym (xor_self (inside (edge_at edges k).head) (inside' (edge_at edges k).head) (c.head_out ∙ sym d.head_out)))
      | inr ne ↦ xor_ends _ _ _ _ (c.others j lj mj ne) (d.others j lj mj ne)
    ]) in
    let at = none (edge_at edges k).tail (ends k l).0 in
    let z = xor_self (inside (edge_at edges k).tail) (inside' (edge_at edges k).tail) (c.tail_in ∙ sym d.tail_in) in
    xor_none (inside v) (inside' v) (none v lv ∙ (sym at ∙ z))

-- layers moved as a whole are a state still
pub moved_state : (nodes : ℕ) (edges : List NetEdge) (s : State) (tree : List Bool) (layers : List ℤ) → EndsBelow nodes edges → IsState nodes edges s → StandsFor nodes s tree layers → length layers ≡ nodes → IsState nodes edges (kept_state tree layers)
moved_state nodes edges s tree layers ends is m n = record {
  layer_for_each = n;
  layering = λ k l.
      let u = is.layering k l in
      let t = m.layers_are (edge_at edges k).tail (ends k l).0 in
      let h = m.layers_are (edge_at edges k).head (ends k l).1 in
      omega (arith, ints, u, t, h);
  spanning = subst (λ x. IsSpanningTree nodes edges x) m.tree_is is.spanning;
  tight = λ k l mk.
      let u = is.tight k l (subst (λ x. is_marked x k ≡ true) (sym m.tree_is) mk) in
      let t = m.layers_are (edge_at edges k).tail (ends k l).0 in
      let h = m.layers_are (edge_at edges k).head (ends k l).1 in
      omega (arith, ints, u, t, h);
}

module _ (nodes : ℕ) (edges : List NetEdge) (net : IsNetwork nodes edges) (tree : List Bool) (layers : List ℤ) (order place parent : List ℕ) (kept : IsKept nodes edges tree layers order place parent) (out : ℕ) (leaves : leaving_edge nodes edges (kept_state tree layers) ≡ Some out) where
  abbrev s : State
  s = kept_state tree layers

  abbrev e : NetEdge
  e = edge_at edges out

  abbrev root : IsRooted nodes edges tree order place parent
  root = kept.rooted

  abbrev spanning : IsSpanningTree nodes edges tree
  spanning = kept.is.spanning

  chosen : Chosen (is_negative nodes edges tree) (λ k. 0) (length edges) (Some out)
  chosen = subst (λ o. Chosen (is_negative nodes edges tree) (λ k. 0) (length edges) o) leaves (least_chosen (is_negative nodes edges tree) (λ k. 0) (length edges))

  pub out_there : out < length edges
  out_there = chosen.0

  pub out_marked : is_marked tree out ≡ true
  out_marked = first_true (is_marked tree out) _ chosen.1

  lt : e.tail < nodes
  lt = (net.ends out out_there).0

  lh : e.head < nodes
  lh = (net.ends out out_there).1

  module _ (child : ℕ) (hangs : get_or parent e.tail 0 ≡ out → child ≡ e.tail) (holds : get_or parent e.tail 0 ≢ out → child ≡ e.head) where
    abbrev root_in : Bool
    root_in = eqb child e.head

    hung : ((child ≡ e.tail) ⊎ (child ≡ e.head)) × (get_or parent child 0 ≡ out) × (0 < get_or place child 0)
    hung =
        elim (cases_eq (get_or parent e.tail 0) out) [
          | inl a ↦
              let c = hangs a in
              (inl c, ap (λ x. get_or parent x 0) c ∙ a, subst (λ x. 0 < get_or place x 0) (sym c) (not_out e.tail lt a))
          | inr na ↦ elim (edge_hangs nodes edges tree order place parent root spanning net.ends out out_there out_marked) [
            | inl b ↦ absurd (na b.0)
            | inr b ↦
                let c = holds na in
                (inr c, ap (λ x. get_or parent x 0) c ∙ b.0, subst (λ x. 0 < get_or place x 0) (sym c) b.1)
          ]
        ]
      where
        not_out : (v : ℕ) → v < nodes → get_or parent v 0 ≡ out → 0 < get_or place v 0
        not_out v l same = not_root nodes edges tree order place parent root v l (λ z. let a = ap (λ y. get_or parent y 0) z in let b = root.no_parent in let c = out_there in omega (arith, a, b, same, c))

    pub child_there : child < nodes
    child_there = elim hung.0 [
      | inl c ↦ subst (λ x. x < nodes) (sym c) lt
      | inr c ↦ subst (λ x. x < nodes) (sym c) lh
    ]

    pub child_late : 0 < get_or place child 0
    child_late = hung.2

    pub child_hung : get_or parent child 0 ≡ out
    child_hung = hung.1

    -- the other end comes earlier
    upper_early : get_or place (beyond e child) 0 < get_or place child 0
    upper_early = subst (λ k. get_or place (beyond (edge_at edges k) child) 0 < get_or place child 0) child_hung (root.hangs child child_there refl child_late).earlier

    two_ends : e.tail ≢ e.head
    two_ends same = elim hung.0 [
      | inl c ↦ let u = upper_early in let a = ap (λ y. get_or place y 0) (from_tail e child (sym c) ∙ (sym same ∙ sym c)) in omega (arith, u, a)
      | inr c ↦ let u = upper_early in let a = ap (λ y. get_or place y 0) (from_tail e child (same ∙ sym c) ∙ sym c) in omega (arith, u, a)
    ]

    -- which end the child is
    sides : ((child ≡ e.tail) × (root_in ≡ false)) ⊎ ((child ≡ e.head) × (root_in ≡ true))
    sides = elim hung.0 [
      | inl c ↦ inl (c, ne_eqb child e.head (λ q. two_ends (sym c ∙ q)))
      | inr c ↦ inr (c, eq-eqb child e.head c)
    ]

    module _ (size : List ℕ) (walk : IsWalk nodes order place size (above edges parent)) where
      abbrev below : ℕ → Bool
      below v = part_of place size child v

      pub marks : IsBelow nodes edges place parent child below
      marks = record {
        at_child = own nodes order place size (above edges parent) walk child child_there;
        at_root = let z = root_place nodes edges tree order place parent root in let l = child_late in before_it (get_or place child 0) (get_or size child 0) (get_or place 0 0) (omega (arith, z, l));
        others = λ v l late ne. walk.climbs child v child_there l late ne;
      }

      abbrev part : ℕ → Bool
      part = part_from root_in below

      early_off : (v : ℕ) → v < nodes → get_or place v 0 < get_or place child 0 → below v ≡ false
      early_off v l b = before_same nodes edges tree order place parent root below net.ends child (λ w lw pw ne. marks.others w lw pw ne) v l b ∙ marks.at_root

      upper_off : below (beyond e child) ≡ false
      upper_off = early_off (beyond e child) (subst (λ k. beyond (edge_at edges k) child < nodes) child_hung (above_there nodes edges tree order place parent root child net.ends child_there child_late)) upper_early

      both_sides : (j : ℕ) → j < length edges → is_marked tree j ≡ true → j ≢ out → below (edge_at edges j).tail ≡ below (edge_at edges j).head
      both_sides j l m ne =
          let w = hung_node nodes edges tree order place parent root spanning net.ends j l m in
          let o = marks.others w.0 w.1 w.2 (λ q. ne (sym w.3 ∙ (ap (λ y. get_or parent y 0) q ∙ child_hung))) in
          let h = root.hangs w.0 w.1 refl w.2 in
          subst (λ k. below (edge_at edges k).tail ≡ below (edge_at edges k).head) w.3 (along below (edge_at edges (get_or parent w.0 0)) w.0 h.at_end o)

      pub part_cut : IsCut edges tree out part
      part_cut = elim sides [
        | inl c ↦
            let is_as : (v : ℕ) → part v ≡ below v = λ v. ap (λ b. cond b (not (below v)) (below v)) c.1 in
            record {
              tail_in = is_as e.tail ∙ (ap below (sym c.0) ∙ marks.at_child);
              head_out = is_as e.head ∙ (ap below (sym (from_tail e child (sym c.0))) ∙ upper_off);
              others = λ j l m ne. is_as (edge_at edges j).tail ∙ (both_sides j l m ne ∙ sym (is_as (edge_at edges j).head));
            }
        | inr c ↦
            let is_as : (v : ℕ) → part v ≡ not (below v) = λ v. ap (λ b. cond b (not (below v)) (below v)) c.1 in
            record {
              tail_in = is_as e.tail ∙ ap not (ap below (sym (from_head e child (λ q. two_ends (q ∙ c.0)))) ∙ upper_off);
              head_out = is_as e.head ∙ ap not (ap below (sym c.0) ∙ marks.at_child);
              others = λ j l m ne. is_as (edge_at edges j).tail ∙ (ap not (both_sides j l m ne) ∙ sym (is_as (edge_at edges j).head));
            }
      ]

      pub part_is : (v : ℕ) → v < nodes → part v ≡ tail_part nodes edges tree out v
      part_is = cut_unique nodes edges tree out part (tail_part nodes edges tree out) net.ends spanning out_there part_cut (tail_parts_cut nodes edges tree out net.ends spanning out_there out_marked)

      back_same : (k : ℕ) → k < length edges → leads_back part (edge_at edges k) ≡ leads_back (tail_part nodes edges tree out) (edge_at edges k)
      back_same k l =
          let a = part_is (edge_at edges k).tail (net.ends k l).0 in
          let b = part_is (edge_at edges k).head (net.ends k l).1 in
          ap (λ x. not x && part (edge_at edges k).head) a ∙ ap (λ x. not (tail_part nodes edges tree out (edge_at edges k).tail) && x) b

      pub same_choice : least_slack_edge edges layers (leads_back part) ≡ entering_edge edges s (tail_part nodes edges tree out)
      same_choice = least_same (λ k. leads_back part (edge_at edges k)) (λ k. leads_back (tail_part nodes edges tree out) (edge_at edges k)) (λ k. slack layers (edge_at edges k)) (λ k. slack layers (edge_at edges k)) (length edges) back_same (λ k l. refl)

      to_pivot : pivot nodes edges s ≡ exchanged edges s out (tail_part nodes edges tree out) (least_slack_edge edges layers (leads_back part))
      to_pivot = ap (pivot_at nodes edges s) leaves ∙ ap (exchanged edges s out (tail_part nodes edges tree out)) (sym same_choice)

      pub some_enters : least_slack_edge edges layers (leads_back part) ≡ None → ⊥
      some_enters none =
          let g = pivot_goes_on nodes edges s (out, out_there, chosen.1) in
          no_state g.0 (sym (to_pivot ∙ ap (exchanged edges s out (tail_part nodes edges tree out)) none) ∙ g.1)
        where
          no_state : (t : State) → None ≡ Some t → ⊥
          no_state t h = absurd cc

      module _ (by : ℕ) (enters : least_slack_edge edges layers (leads_back part) ≡ Some by) where
        abbrev f : NetEdge
        f = edge_at edges by

        entered : Chosen (λ k. leads_back part (edge_at edges k)) (λ k. slack layers (edge_at edges k)) (length edges) (Some by)
        entered = subst (λ o. Chosen (λ k. leads_back part (edge_at edges k)) (λ k. slack layers (edge_at edges k)) (length edges) o) enters (least_chosen (λ k. leads_back part (edge_at edges k)) (λ k. slack layers (edge_at edges k)) (length edges))

        pub by_there : by < length edges
        by_there = entered.0

        crosses : (part f.tail ≡ false) × (part f.head ≡ true)
        crosses = both_of (part f.tail) (part f.head) entered.1
          where
            both_of : (a b : Bool) → (not a && b) ≡ true → (a ≡ false) × (b ≡ true)
            both_of true b h = absurd cc
            both_of false b h = (refl, h)

        pub crosses_part : (tail_part nodes edges tree out f.tail ≡ false) × (tail_part nodes edges tree out f.head ≡ true)
        crosses_part = (sym (part_is f.tail (net.ends by by_there).0) ∙ crosses.0, sym (part_is f.head (net.ends by by_there).1) ∙ crosses.1)

        abbrev gap : ℕ
        gap = slack layers f

        abbrev t : State
        t = record { tree = set (set tree out false) by true; layers = shifted (λ v. not (tail_part nodes edges tree out v)) (pos gap) layers }

        pub pivot_is : pivot nodes edges s ≡ Some t
        pivot_is = to_pivot ∙ ap (exchanged edges s out (tail_part nodes edges tree out)) enters

        t_state : IsState nodes edges t
        t_state = pivot_keeps nodes edges s t net.ends kept.is pivot_is

        gap_is : layer_of layers f.tail +ℤ pos f.least +ℤ pos gap ≡ layer_of layers f.head
        gap_is = slack_is layers f (kept.is.layering by by_there)

        pub gap_small : gap < 2 ^ 63
        gap_small =
            let g = gap_is in
            let a = near_root nodes edges s net.ends kept.is f.tail (net.ends by by_there).0 in
            let b = near_root nodes edges s net.ends kept.is f.head (net.ends by by_there).1 in
            let a1 = a.1 in
            let b0 = b.0 in
            let m = net.least_fits in
            omega (arith, ints, g, a1, b0, m)

        module _ (move : ℤ) (up : root_in ≡ true → move ≡ pos gap) (down : root_in ≡ false → move ≡ pos 0 -ℤ pos gap) where
          abbrev layers' : List ℤ
          layers' = shifted below move layers

          long : length layers ≡ nodes
          long = kept.is.layer_for_each

          at_new : (v : ℕ) → v < nodes → layer_of layers' v ≡ cond (below v) (layer_of layers v +ℤ move) (layer_of layers v)
          at_new v l = shifted_at below move layers v (let n = long in omega (arith, n, l))

          at_t : (v : ℕ) → v < nodes → layer_of t.layers v ≡ cond (not (part v)) (layer_of layers v +ℤ pos gap) (layer_of layers v)
          at_t v l = shifted_at (λ x. not (tail_part nodes edges tree out x)) (pos gap) layers v (let n = long in omega (arith, n, l)) ∙ ap (λ b. cond (not b) (layer_of layers v +ℤ pos gap) (layer_of layers v)) (sym (part_is v l))

          pub new_stands : StandsFor nodes t (set (set tree out false) by true) layers'
          new_stands = record {
            tree_is = refl;
            layer_each = length_shifted (λ x. not (tail_part nodes edges tree out x)) (pos gap) layers ∙ long;
            by = cond root_in (pos 0) (pos gap);
            layers_are = λ v l.
                let n = at_new v l in
                let q = at_t v l in
                elim (cases_Bool root_in) [
                  | inl r ↦
                      let m = up r in
                      let z = ap (λ b. cond b (pos 0) (pos gap)) r in
                      let p = ap (λ b. cond (not (cond b (not (below v)) (below v))) (layer_of layers v +ℤ pos gap) (layer_of layers v)) r in
                      elim (cases_Bool (below v)) [
                        | inl i ↦
                            let x = ap (λ b. cond b (layer_of layers v +ℤ move) (layer_of layers v)) i in
                            let y = ap (λ b. cond (not (not b)) (layer_of layers v +ℤ pos gap) (layer_of layers v)) i in
                            omega (arith, ints, n, q, m, z, p, x, y)
                        | inr i ↦
                            let x = ap (λ b. cond b (layer_of layers v +ℤ move) (layer_of layers v)) i in
                            let y = ap (λ b. cond (not (not b)) (layer_of layers v +ℤ pos gap) (layer_of layers v)) i in
                            omega (arith, ints, n, q, m, z, p, x, y)
                      ]
                  | inr r ↦
                      let m = down r in
                      let z = ap (λ b. cond b (pos 0) (pos gap)) r in
                      let p = ap (λ b. cond (not (cond b (not (below v)) (below v))) (layer_of layers v +ℤ pos gap) (layer_of layers v)) r in
                      elim (cases_Bool (below v)) [
                        | inl i ↦
                            let x = ap (λ b. cond b (layer_of layers v +ℤ move) (layer_of layers v)) i in
                            let y = ap (λ b. cond (not b) (layer_of layers v +ℤ pos gap) (layer_of layers v)) i in
                            omega (arith, ints, n, q, m, z, p, x, y)
                        | inr i ↦
                            let x = ap (λ b. cond b (layer_of layers v +ℤ move) (layer_of layers v)) i in
                            let y = ap (λ b. cond (not b) (layer_of layers v +ℤ pos gap) (layer_of layers v)) i in
                            omega (arith, ints, n, q, m, z, p, x, y)
                      ]
                ];
          }

          pub new_state : IsState nodes edges (kept_state (set (set tree out false) by true) layers')
          new_state = moved_state nodes edges t (set (set tree out false) by true) layers' net.ends t_state new_stands (length_shifted below move layers ∙ long)

          pub new_root : layer_of layers' 0 ≡ pos 0
          new_root =
              let l : 0 < nodes = let a = root.begun in a in
              at_new 0 l ∙ (ap (λ b. cond b (layer_of layers 0 +ℤ move) (layer_of layers 0)) marks.at_root ∙ kept.root)

          pub new_small : (v : ℕ) → v < nodes → below v ≡ true → IsSmall (layer_of layers v +ℤ move)
          new_small v l i =
              let a = near_root nodes edges (kept_state (set (set tree out false) by true) layers') net.ends new_state v l in
              let a0 = a.0 in
              let a1 = a.1 in
              let z = new_root in
              let n = at_new v l ∙ ap (λ b. cond b (layer_of layers v +ℤ move) (layer_of layers v)) i in
              let m = net.least_fits in
              record { from = omega (arith, ints, a1, z, n, m); to = omega (arith, ints, a0, z, n, m) }

        module _ (from : ℕ) (up : root_in ≡ true → from ≡ f.tail) (down : root_in ≡ false → from ≡ f.head) where
          side : ((root_in ≡ true) × (below f.tail ≡ true) × (below f.head ≡ false)) ⊎ ((root_in ≡ false) × (below f.tail ≡ false) × (below f.head ≡ true))
          side = elim (cases_Bool root_in) [
            | inl r ↦
                let is_as : (v : ℕ) → part v ≡ not (below v) = λ v. ap (λ b. cond b (not (below v)) (below v)) r in
                inl (r, flipped (below f.tail) true (sym (is_as f.tail) ∙ crosses.0), flipped (below f.head) false (sym (is_as f.head) ∙ crosses.1))
            | inr r ↦
                let is_as : (v : ℕ) → part v ≡ below v = λ v. ap (λ b. cond b (not (below v)) (below v)) r in
                inr (r, sym (is_as f.tail) ∙ crosses.0, sym (is_as f.head) ∙ crosses.1)
          ]
            where
              flipped : (a b : Bool) → not a ≡ not b → a ≡ b
              flipped true true h = refl
              flipped false false h = refl
              flipped true false h = absurd cc
              flipped false true h = absurd cc

          other_end : f.tail ≢ f.head
          other_end q = elim side [
            | inl x ↦ clash (below f.head) (subst (λ y. below y ≡ true) q x.1) x.2
            | inr x ↦ clash (below f.head) x.2 (subst (λ y. below y ≡ false) q x.1)
          ]

          pub exchanges : Exchanges nodes edges tree (set (set tree out false) by true) order place size parent child from by
          exchanges = record {
            rooted = root;
            walk = walk;
            child_there = child_there;
            child_hangs = child_late;
            from_there = elim side [
              | inl x ↦ subst (λ y. y < nodes) (sym (up x.0)) (net.ends by by_there).0
              | inr x ↦ subst (λ y. y < nodes) (sym (down x.0)) (net.ends by by_there).1
            ];
            from_below = elim side [
              | inl x ↦ ap below (up x.0) ∙ x.1
              | inr x ↦ ap below (down x.0) ∙ x.2
            ];
            by_there = by_there;
            by_end = elim side [
              | inl x ↦ inl (sym (up x.0))
              | inr x ↦ inr (sym (down x.0))
            ];
            by_outside = elim side [
              | inl x ↦ ap below (from_tail f from (sym (up x.0))) ∙ x.2
              | inr x ↦ ap below (from_head f from (λ q. other_end (q ∙ down x.0))) ∙ x.1
            ];
            by_marked = get_or-set_same (set tree out false) by true false (let a = length-set tree out false in let b = spanning.mark_for_each in let c = by_there in omega (arith, a, b, c));
            others_stay = λ k l m ne. elim (cases_eq k by) [
              | inl q ↦ subst (λ y. is_marked (set (set tree out false) by true) y ≡ true) (sym q) (get_or-set_same (set tree out false) by true false (let a = length-set tree out false in let b = spanning.mark_for_each in let c = by_there in omega (arith, a, b, c)))
              | inr nq ↦ get_or-set_other (set tree out false) by k true false nq ∙ (get_or-set_other tree out k false false (λ q. ne (q ∙ sym child_hung)) ∙ m)
            ];
          }

-- the nodes at the places from `low` to before i are moved
pub record IsShifted (place : List ℕ) (low : ℕ) (by : ℤ) (old : List ℤ) (i : ℕ) (new : List ℤ) : Type 0 where
  pub as_long : length new ≡ length old
  pub done : (u : ℕ) → u < length old → low ≤ get_or place u 0 → get_or place u 0 < i → layer_of new u ≡ layer_of old u +ℤ by
  pub kept : (u : ℕ) → u < length old → ((get_or place u 0 < low) ⊎ (i ≤ get_or place u 0)) → layer_of new u ≡ layer_of old u

module _ (order place size : List ℕ) (up : ℕ → ℕ) (by : ℤ) (old : List ℤ) (w : IsWalk (length old) order place size up) where
  pub shift_start : (low : ℕ) → IsShifted place low by old low old
  shift_start low = record { as_long = refl; done = λ u l a b. absurd (omega (arith, a, b)); kept = λ u l o. refl }

  pub shift_more : (low i : ℕ) (new : List ℤ) (z : ℤ) → low ≤ i → i < length old → IsShifted place low by old i new → z ≡ layer_of new (get_or order i 0) +ℤ by → IsShifted place low by old (i + 1) (set new (get_or order i 0) z)
  shift_more low i new z from l s is =
      let v = get_or order i 0 in
      let o = w.in_order i l in
      let o0 = o.0 in
      let o1 = o.1 in
      let n = s.as_long in
      record {
        as_long = length-set new v z ∙ s.as_long;
        done = λ u lu a b. elim (cases_eq u v) [
          | inl e ↦
              let here = get_or-set_same new v z (pos 0) (omega (arith, n, o0)) in
              let was = s.kept v o.0 (inr (omega (arith, o1))) in
              subst (λ x. layer_of (set new v z) x ≡ layer_of old x +ℤ by) (sym e) (here ∙ (is ∙ ap (λ y. y +ℤ by) was))
          | inr ne ↦
              let other : get_or place u 0 ≢ i = λ e. ne (alone (length old) order place size up w u v lu o.0 (e ∙ sym o.1)) in
              get_or-set_other new v u z (pos 0) ne ∙ s.done u lu a (omega (arith, b, other))
        ];
        kept = λ u lu out.
            let ne : u ≢ v = λ e. let x = ap (λ y. get_or place y 0) e in absurd (omega (arith, x, o1, out, from)) in
            get_or-set_other new v u z (pos 0) ne ∙ s.kept u lu (elim out [
              | inl a ↦ inl a
              | inr a ↦ inr (omega (arith, a))
            ]);
      }

  pub shift_end : (child i : ℕ) (new : List ℤ) → get_or place child 0 + get_or size child 0 ≡ i → IsShifted place (get_or place child 0) by old i new → new ≡ shifted (part_of place size child) by old
  shift_end child i new all s =
      let n = s.as_long in
      ext_get_or (pos 0) new (shifted (part_of place size child) by old) (n ∙ sym (length_shifted (part_of place size child) by old)) (λ u l.
      let lu : u < length old = omega (arith, n, l) in
      let at = shifted_at (part_of place size child) by old u lu in
      elim (cases_Bool (part_of place size child u)) [
        | inl m ↦
            let b = between_is (get_or place child 0) (get_or size child 0) (get_or place u 0) m in
            let b1 = b.1 in
            s.done u lu b.0 (omega (arith, b1, all)) ∙ sym (at ∙ ap (λ x. cond x (layer_of old u +ℤ by) (layer_of old u)) m)
        | inr m ↦
            let o = between_not (get_or place child 0) (get_or size child 0) (get_or place u 0) m in
            s.kept u lu (elim o [
              | inl a ↦ inl a
              | inr a ↦ inr (omega (arith, a, all))
            ]) ∙ sym (at ∙ ap (λ x. cond x (layer_of old u +ℤ by) (layer_of old u)) m)
      ])
