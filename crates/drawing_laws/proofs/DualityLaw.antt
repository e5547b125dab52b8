-- A flow that balances bounds the span of every layering from below.
use Rattle.std.proofs.Common.{◌≡◌, ℕ, zero, suc, ◌+◌, ◌*◌, ◌<◌, ◌≤◌, eqb, cond, Bool, true, false, not, ◌&&◌, ℤ, pos, negsuc, ◌+ℤ◌, ◌-ℤ◌, ◌*ℤ◌, ◌≤ℤ◌, arith, refl, sym, ap, ◌∙◌, inl, inr, subst, ◌⊎◌, eq-eqb, Option, Some, None, IsSome, unwrap_or, length, rules}
use Rattle.std.proofs.lemmas.Int.{ints}
use Rattle.std.proofs.lemmas.Bool.{cases_lt, and_parts, cond_both, eqb-true, not-false, not-true}
use Rattle.std.proofs.Math.Nat.{mul-le-mul_left}
use Rattle.elk_doc.specs.Numbers.{sum_below, total_below}
use Rattle.elk_doc.specs.declared.document.End.{End}
use Rattle.elk_doc.specs.declared.drawing.Certificate.{Certificate}
use Rattle.elk_doc.specs.declared.drawing.Placed.{Placed}
use Rattle.elk_doc.specs.Document.{Document, node_at, edge_at, parent_of}
use Rattle.elk_doc.specs.Level.{is_child, is_edge_of, is_loop, is_number, node_of_end, source_node, target_node}
use Rattle.elk_doc.specs.Drawing.{head_node, tail_node, flow_in, is_listed}
use Rattle.elk_doc.specs.Sound.{IsSound}
use Rattle.elk_doc.specs.FlowProof.{FlowProof, weight_at}
use Rattle.elk_doc.specs.Layering.{span_of}
use Rattle.elk_doc.proofs.SoundLaws.{node_of_end-in}
use Rattle.drawing_laws.specs.Duality.{FlowShowsLeast}
use Rattle.drawing_laws.proofs.Sums.{over, over_same, over_sum, over_none, over_one, sum_below-zero, sum_below-suc, sum_below-pass, sum_below-fail, total_below-zero, total_below-pass, total_below-fail, sum_below-split, sum_below-le, sum_below-more}
use Rattle.drawing_types.proofs.SmallNumbers.{bool_cases}

-- an edge of a level with this end at the node a, and no self-loop
abbrev at_end : (ℕ → Bool) → (ℕ → Bool) → (ℕ → ℕ) → ℕ → ℕ → Bool
at_end edge proper end a e = edge e && (eqb (end e) a && proper e)

abbrev kept : (ℕ → Bool) → (ℕ → Bool) → ℕ → Bool
kept edge proper e = edge e && proper e

and_true : (b : Bool) → (b && true) ≡ b
and_true true = refl
and_true false = refl

and_false : (b : Bool) → (b && false) ≡ false
and_false true = refl
and_false false = refl

-- one edge's amount, at the node of its end
one_edge : (edge proper : ℕ → Bool) (end g u : ℕ → ℕ) (nodes m : ℕ) → (edge m ≡ true → end m < nodes) → over (λ a. cond (at_end edge proper end a m) (g m) 0 * u a) nodes ≡ cond (kept edge proper m) (g m * u (end m)) 0
one_edge edge proper end g u nodes m below =
    elim (bool_cases (edge m)) [
      | inr n ↦
          let none = over_none (λ a. cond (at_end edge proper end a m) (g m) 0 * u a) nodes (λ a l. rw n (omega arith)) in
          rw (none, n) refl
      | inl y ↦
          elim (bool_cases (proper m)) [
            | inr n ↦
                let none = over_none (λ a. cond (at_end edge proper end a m) (g m) 0 * u a) nodes (λ a l. rw (y, n, and_false (eqb (end m) a)) (omega arith)) in
                rw (none, y, n) refl
            | inl z ↦
                let one = over_one u (g m) (end m) nodes (below y) in
                let same = over_same (λ a. cond (at_end edge proper end a m) (g m) 0 * u a) (λ a. cond (eqb (end m) a) (g m) 0 * u a) nodes (λ a l. rw (y, z, and_true (eqb (end m) a)) refl) in
                let whole : cond (kept edge proper m) (g m * u (end m)) 0 ≡ g m * u (end m) = rw (y, z) refl in
                same ∙ one ∙ sym whole
          ]
    ]

-- the amounts at the nodes, over all nodes, are those that the edges carry to that end
at_ends : (edge proper : ℕ → Bool) (end g u : ℕ → ℕ) (nodes m : ℕ) → ((e : ℕ) → e < m → edge e ≡ true → end e < nodes) → over (λ a. sum_below (at_end edge proper end a) g m * u a) nodes ≡ sum_below (kept edge proper) (λ e. g e * u (end e)) m
at_ends edge proper end g u nodes zero below =
    let none = over_none (λ a. sum_below (at_end edge proper end a) g 0 * u a) nodes (λ a l. rw (sum_below-zero (at_end edge proper end a) g) (omega arith)) in
    none ∙ sym (sum_below-zero (kept edge proper) (λ e. g e * u (end e)))
at_ends edge proper end g u nodes (suc m) below =
    let rest = at_ends edge proper end g u nodes m (λ e l. below e (omega arith)) in
    let one = one_edge edge proper end g u nodes m (below m (omega arith)) in
    let split = over_sum (λ a. sum_below (at_end edge proper end a) g m * u a) (λ a. cond (at_end edge proper end a m) (g m) 0 * u a) nodes in
    let same = over_same (λ a. sum_below (at_end edge proper end a) g (suc m) * u a) (λ a. sum_below (at_end edge proper end a) g m * u a + cond (at_end edge proper end a m) (g m) 0 * u a) nodes (λ a l. let s = sum_below-suc (at_end edge proper end a) g m in let e = ap (λ n. n * u a) s in omega (arith, e)) in
    let last = sum_below-suc (kept edge proper) (λ e. g e * u (end e)) m in
    omega (arith, rest, one, split, same, last)

product : (a b c d x : ℕ) → a + b ≡ c + d → a * x + b * x ≡ c * x + d * x
product a b c d x h = let e = ap (λ n. n * x) h in omega (arith, e)

-- a number as a natural one, 0 if it is below
abbrev natural : ℤ → ℕ
natural (pos n) = n
natural (negsuc n) = 0

abbrev below_zero : ℤ → ℕ
below_zero (pos n) = 0
below_zero (negsuc n) = suc n

-- how far the layers of the nodes reach below 0
abbrev depth : (ℕ → ℤ) → ℕ → ℕ
depth layer = over (λ v. below_zero (layer v))

lifted : (z : ℤ) → pos 0 ≤ℤ (z +ℤ pos (below_zero z))
lifted (pos n) = omega (arith, ints)
lifted (negsuc n) = omega (arith, ints)

deep_enough : (layer : ℕ → ℤ) (n v : ℕ) → v < n → pos 0 ≤ℤ (layer v +ℤ pos (depth layer n))
deep_enough layer zero v h = absurd (omega arith)
deep_enough layer (suc n) v h =
    elim (cases_lt v n) [
      | inl l ↦ let rest = deep_enough layer n v l in omega (arith, ints, rest)
      | inr l ↦
          let same : n ≡ v = omega arith in
          let here = lifted (layer n) in
          let moved : layer n ≡ layer v = ap layer same in
          omega (arith, ints, here, moved)
    ]

natural_is : (z : ℤ) → pos 0 ≤ℤ z → pos (natural z) ≡ z
natural_is (pos n) h = refl
natural_is (negsuc n) h = absurd (omega (arith, ints))

-- a product with a number that is not negative
times : (w : ℕ) (z : ℤ) (r : ℕ) → pos r ≡ z → pos w *ℤ z ≡ pos (w * r)
times w z r e = let P : ℤ → Type 0 = λ z. pos w *ℤ z ≡ pos (w * r) in subst P e refl

-- a level in plain numbers: its edges, those of them that are no self-loops, their heads, tails, flow and weights, and
-- the nodes that are children
pub record IsPlainLevel (edge proper : ℕ → Bool) (head tail flow weight : ℕ → ℕ) (child : ℕ → Bool) (nodes edges : ℕ) : Type 0 where
  pub head_in : (e : ℕ) → e < edges → edge e ≡ true → (head e < nodes) × (child (head e) ≡ true)
  pub tail_in : (e : ℕ) → e < edges → edge e ≡ true → (tail e < nodes) × (child (tail e) ≡ true)
  pub loops : (e : ℕ) → e < edges → edge e ≡ true → proper e ≡ false → (flow e ≡ 0) × (head e ≡ tail e)
  pub balance : (a : ℕ) → a < nodes → child a ≡ true → sum_below (at_end edge proper head a) flow edges + sum_below (at_end edge proper tail a) weight edges ≡ sum_below (at_end edge proper tail a) flow edges + sum_below (at_end edge proper head a) weight edges

module _ (edge proper : ℕ → Bool) (head tail flow weight : ℕ → ℕ) (child : ℕ → Bool) (nodes edges : ℕ) (plain : IsPlainLevel edge proper head tail flow weight child nodes edges) (layer : ℕ → ℤ) (up : (e : ℕ) → e < edges → edge e ≡ true → proper e ≡ true → (layer (tail e) +ℤ pos 1) ≤ℤ layer (head e)) where
  -- the layer of a node, lifted above 0, and 0 at a node that is no child
  abbrev high : ℕ → ℕ
  high v = cond (child v) (natural (layer v +ℤ pos (depth layer nodes))) 0

  -- how far an edge rises
  abbrev rise : ℕ → ℕ
  rise e = natural (layer (head e) -ℤ layer (tail e))

  abbrev keep : ℕ → Bool
  keep = kept edge proper

  edge_of : (e : ℕ) → keep e ≡ true → (edge e ≡ true) × (proper e ≡ true)
  edge_of e h = and_parts (edge e) (proper e) h

  high_is : (v : ℕ) → v < nodes → child v ≡ true → pos (high v) ≡ layer v +ℤ pos (depth layer nodes)
  high_is v l h =
      let z = natural_is (layer v +ℤ pos (depth layer nodes)) (deep_enough layer nodes v l) in
      rw h z

  rise_is : (e : ℕ) → e < edges → keep e ≡ true → pos (rise e) ≡ layer (head e) -ℤ layer (tail e)
  rise_is e l h =
      let k = edge_of e h in
      let b = up e l k.0 k.1 in
      natural_is (layer (head e) -ℤ layer (tail e)) (omega (arith, ints, b))

  rises : (e : ℕ) → e < edges → keep e ≡ true → high (head e) ≡ high (tail e) + rise e
  rises e l h =
      let k = edge_of e h in
      let a = plain.head_in e l k.0 in
      let b = plain.tail_in e l k.0 in
      let x = high_is (head e) a.0 a.1 in
      let y = high_is (tail e) b.0 b.1 in
      let z = rise_is e l h in
      omega (arith, ints, x, y, z)

  one_at_least : (e : ℕ) → e < edges → keep e ≡ true → 1 ≤ rise e
  one_at_least e l h =
      let k = edge_of e h in
      let b = up e l k.0 k.1 in
      let z = rise_is e l h in
      omega (arith, ints, b, z)

  -- at each node what the flow brings, weighed by the node's height, is what the weights bring
  balanced : (a : ℕ) → a < nodes → sum_below (at_end edge proper head a) flow edges * high a + sum_below (at_end edge proper tail a) weight edges * high a ≡ sum_below (at_end edge proper tail a) flow edges * high a + sum_below (at_end edge proper head a) weight edges * high a
  balanced a l =
      elim (bool_cases (child a)) [
        | inl y ↦ product _ _ _ _ (high a) (plain.balance a l y)
        | inr n ↦ let none : high a ≡ 0 = rw n refl in rw none (omega arith)
      ]

  carries : sum_below keep (λ e. flow e * high (head e)) edges + sum_below keep (λ e. weight e * high (tail e)) edges ≡ sum_below keep (λ e. flow e * high (tail e)) edges + sum_below keep (λ e. weight e * high (head e)) edges
  carries =
      let hf = at_ends edge proper head flow high nodes edges (λ e l k. (plain.head_in e l k).0) in
      let tf = at_ends edge proper tail flow high nodes edges (λ e l k. (plain.tail_in e l k).0) in
      let hw = at_ends edge proper head weight high nodes edges (λ e l k. (plain.head_in e l k).0) in
      let tw = at_ends edge proper tail weight high nodes edges (λ e l k. (plain.tail_in e l k).0) in
      let left = over_sum (λ a. sum_below (at_end edge proper head a) flow edges * high a) (λ a. sum_below (at_end edge proper tail a) weight edges * high a) nodes in
      let right = over_sum (λ a. sum_below (at_end edge proper tail a) flow edges * high a) (λ a. sum_below (at_end edge proper head a) weight edges * high a) nodes in
      let same = over_same (λ a. sum_below (at_end edge proper head a) flow edges * high a + sum_below (at_end edge proper tail a) weight edges * high a) (λ a. sum_below (at_end edge proper tail a) flow edges * high a + sum_below (at_end edge proper head a) weight edges * high a) nodes balanced in
      omega (arith, hf, tf, hw, tw, left, right, same)

  -- flow and weights cost the same at this layering
  same_cost : sum_below keep (λ e. flow e * rise e) edges ≡ sum_below keep (λ e. weight e * rise e) edges
  same_cost =
      let f = sum_below-split keep (λ e. flow e * high (head e)) (λ e. flow e * high (tail e)) (λ e. flow e * rise e) edges (λ e l k. let r = ap (λ n. flow e * n) (rises e l k) in omega (arith, r)) in
      let w = sum_below-split keep (λ e. weight e * high (head e)) (λ e. weight e * high (tail e)) (λ e. weight e * rise e) edges (λ e l k. let r = ap (λ n. weight e * n) (rises e l k) in omega (arith, r)) in
      omega (arith, f, w, carries)

  -- an edge that is kept on one side alone has no flow
  which : (e : ℕ) → e < edges → (edge e ≡ keep e) ⊎ ((edge e ≡ true) × (keep e ≡ false) × (flow e ≡ 0))
  which e l =
      elim (bool_cases (edge e)) [
        | inr n ↦ let k : keep e ≡ false = rw n refl in inl (n ∙ sym k)
        | inl y ↦
            elim (bool_cases (proper e)) [
              | inl z ↦ let k : keep e ≡ true = rw (y, z) refl in inl (y ∙ sym k)
              | inr n ↦ let k : keep e ≡ false = rw (y, n) refl in inr (y, k, (plain.loops e l y n).0)
            ]
      ]

  -- the flow of all edges is that of the edges that are no self-loops, and at most what it costs
  flow_costs : sum_below edge flow edges ≤ sum_below keep (λ e. flow e * rise e) edges
  flow_costs =
      let all = sum_below-more edge keep flow edges (λ e l. which e l) in
      let le = sum_below-le keep flow (λ e. flow e * rise e) edges (λ e l k. let m = mul-le-mul_left (flow e) (one_at_least e l k) in omega (arith, m)) in
      omega (arith, all, le)

  -- the span, as a signed sum over all edges
  span_is : (m : ℕ) → m ≤ edges → total_below edge (λ e. pos (weight e) *ℤ (layer (head e) -ℤ layer (tail e))) m ≡ pos (sum_below keep (λ e. weight e * rise e) m)
  span_is zero l = total_below-zero edge _ ∙ sym (ap pos (sum_below-zero keep (λ e. weight e * rise e)))
  span_is (suc m) l =
      let rest = span_is m (omega arith) in
      let term : ℕ → ℤ = λ e. pos (weight e) *ℤ (layer (head e) -ℤ layer (tail e)) in
      elim (bool_cases (edge m)) [
        | inr n ↦
            let k : keep m ≡ false = rw n refl in
            total_below-fail edge term m n ∙ rest ∙ sym (ap pos (sum_below-fail keep (λ e. weight e * rise e) m k))
        | inl y ↦
            elim (bool_cases (proper m)) [
              | inl z ↦
                  let k : keep m ≡ true = rw (y, z) refl in
                  let more = times (weight m) (layer (head m) -ℤ layer (tail m)) (rise m) (rise_is m (omega arith) k) in
                  let total = total_below-pass edge term m y in
                  let sum = sum_below-pass keep (λ e. weight e * rise e) m k in
                  omega (arith, ints, rest, more, total, sum)
              | inr n ↦
                  let k : keep m ≡ false = rw (y, n) refl in
                  let same = ap layer (plain.loops m (omega arith) y n).1 in
                  let flat : pos 0 ≡ layer (head m) -ℤ layer (tail m) = omega (arith, ints, same) in
                  let more = times (weight m) (layer (head m) -ℤ layer (tail m)) 0 flat in
                  let total = total_below-pass edge term m y in
                  let sum = sum_below-fail keep (λ e. weight e * rise e) m k in
                  omega (arith, ints, rest, more, total, sum)
            ]
      ]

  pub bounded : pos (sum_below edge flow edges) ≤ℤ total_below edge (λ e. pos (weight e) *ℤ (layer (head e) -ℤ layer (tail e))) edges
  bounded = let s = span_is edges (omega arith) in omega (arith, ints, s, same_cost, flow_costs)

some_is : (o : Option ℕ) (n : ℕ) → IsSome o → unwrap_or o 0 ≡ n → is_number o n ≡ true
some_is None n h e = absurd (search rules)
some_is (Some m) n h e = eq-eqb m n e

-- a node below the root is a child of its parent
child_of : (d : Document) (n m : ℕ) → IsSound d → 0 < m → m < length d.nodes → parent_of d m ≡ n → is_child d n m ≡ true
child_of d n m sound above below e = some_is (node_at d m).parent n (sound.tree.parents m above below).parent e

-- an end of an edge of the level of n stands at a child of n
abbrev AtChild : Document → ℕ → End → Type 0
AtChild d n x = (node_of_end d x < length d.nodes) × (is_child d n (node_of_end d x) ≡ true)

ends_in : (d : Document) (n e : ℕ) → IsSound d → e < length d.edges → is_edge_of d n e ≡ true → AtChild d n (edge_at d e).source × AtChild d n (edge_at d e).target
ends_in d n e sound below h =
    let s = sound.edges e below in
    let level : parent_of d (source_node d e) ≡ n = eqb-true _ _ h in
    let a = node_of_end-in d (edge_at d e).source sound s.source_in in
    let b = node_of_end-in d (edge_at d e).target sound s.target_in in (
      (a, child_of d n (source_node d e) sound s.source_below a level),
      (b, child_of d n (target_node d e) sound s.target_below b (sym s.siblings ∙ level)),
    )

same_ends : (d : Document) (b : Bool) (x y : End) → node_of_end d x ≡ node_of_end d y → node_of_end d (cond b x y) ≡ node_of_end d (cond b y x)
same_ends d true x y e = e
same_ends d false x y e = sym e

plain_level : (d : Document) (p : Placed) (n : ℕ) (c : Certificate) → IsSound d → FlowProof d p n c → IsPlainLevel (is_edge_of d n) (λ e. not (is_loop d e)) (head_node d p) (tail_node d p) (flow_in d n c) (weight_at d) (is_child d n) (length d.nodes) (length d.edges)
plain_level d p n c sound flow =
    record {
      head_in = λ e l h. let x = ends_in d n e sound l h in cond_both (is_listed d p e) (edge_at d e).source (edge_at d e).target (AtChild d n) (λ _. x.0) (λ _. x.1);
      tail_in = λ e l h. let x = ends_in d n e sound l h in cond_both (is_listed d p e) (edge_at d e).target (edge_at d e).source (AtChild d n) (λ _. x.1) (λ _. x.0);
      loops = λ e l h k.
          let loop : is_loop d e ≡ true = not-false (is_loop d e) k in (
            flow.loops e (record { edge_in = l; edge = h }) loop,
            same_ends d (is_listed d p e) (edge_at d e).source (edge_at d e).target (eqb-true _ _ loop),
          );
      balance = λ a l h. flow.balance a (record { node_in = l; child = h });
    }

pub flow_shows_least : FlowShowsLeast
flow_shows_least d p n c sound flow layer up =
    let b = bounded (is_edge_of d n) (λ e. not (is_loop d e)) (head_node d p) (tail_node d p) (flow_in d n c) (weight_at d) (is_child d n) (length d.nodes) (length d.edges) (plain_level d p n c sound flow) layer
    (λ e l h k. up e (record { edge_in = l; edge = h }) (not-true (is_loop d e) k)) in
    let sum = ap pos flow.sum in
    let P : ℤ → Type 0 = λ z. z ≤ℤ span_of d p n layer in
    subst P sum b
