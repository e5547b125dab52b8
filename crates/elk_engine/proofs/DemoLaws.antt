-- The document of `demo n` is sound, and has the counts that are said of it.
use Rattle.std.proofs.Common.{◌≡◌, ℕ, zero, suc, ◌+◌, ◌-◌, ◌*◌, ◌/◌, ◌<◌, ◌≤◌, ◌^◌, ⊎_elim, List, [], ◌∷◌, length, map, Some, IsSome, IfSome, refl, sym, ◌∙◌, ap, subst, arith, rules, length-append}
use Rattle.std.specs.Prelude.{sum, sum_by}
use Rattle.std.specs.List.{range_with_len}
use Rattle.std.proofs.lemmas.Int.{ints}
use Rattle.std.proofs.lemmas.Bool.{cases_lt}
use Rattle.std.proofs.lemmas.List.{get_or_append_left, get_or-append_right, get_or_past}
use Rattle.std.proofs.lemmas.List.FromFn.{length-range_with_len, length-map-range_with_len, get_or-map-range_with_len}
use Rattle.std.proofs.lemmas.List.Sums.{sum_by-append, sum_by-cons}
use Rattle.elk_doc.specs.declared.document.LevelOptions.{LevelOptions}
use Rattle.elk_doc.specs.declared.document.Node.{Node}
use Rattle.elk_doc.specs.declared.document.Edge.{Edge}
use Rattle.elk_doc.specs.declared.document.End.TheVariants.{Node as AtNode}
use Rattle.elk_doc.specs.Document.{node_at, edge_at, parent_of, no_node, no_edge}
use Rattle.elk_doc.specs.Level.{node_of_end, source_node, target_node}
use Rattle.elk_doc.specs.Sound.{IsSound, IsSoundLevel, IsSoundNode, IsSoundEdge, IsEndIn, HasParent, ancestor}
use Rattle.elk_doc.specs.declared.document.Direction.TheVariants.{Right}
use Rattle.elk_doc.specs.Defaults.{default_options}
use Rattle.elk_engine.specs.DemoDocument.{demo_document, demo_leaf, half_edge, half_edges, triple_edge, triple_edges, triple_weight, edge_count, IsCounted, IsPlainLevel, LeadsOn}

-- ---- nodes and edges by number

node_count : (n : ℕ) → length (demo_document n).nodes ≡ suc n
node_count n = ap suc (length-map-range_with_len demo_leaf 1 n)

leaf_is : (n i : ℕ) → i < n → node_at (demo_document n) (suc i) ≡ demo_leaf (suc i)
leaf_is n i h = get_or-map-range_with_len demo_leaf 1 n i (suc i) no_node h (omega arith)

no_leaf : (n i : ℕ) → n ≤ i → node_at (demo_document n) (suc i) ≡ no_node
no_leaf n i h = get_or_past _ i no_node (omega (arith, length-map-range_with_len demo_leaf 1 n))

half_count : (n : ℕ) → length (half_edges n) ≡ n - 1
half_count n = length-map-range_with_len half_edge 2 (n - 1)

triple_count : (n : ℕ) → length (triple_edges n) ≡ n / 3
triple_count n = length-map-range_with_len (triple_edge n) 1 (n / 3)

edges_counted : (n : ℕ) → length (demo_document n).edges ≡ edge_count n
edges_counted n = omega (arith, length-append (half_edges n) (triple_edges n), half_count n, triple_count n)

half_is : (n e : ℕ) → e < n - 1 → edge_at (demo_document n) e ≡ half_edge (e + 2)
half_is n e h =
    get_or_append_left (half_edges n) (triple_edges n) no_edge e (omega (arith, half_count n))
    ∙ get_or-map-range_with_len half_edge 2 (n - 1) e (e + 2) no_edge h (omega arith)

triple_is : (n e : ℕ) → n - 1 ≤ e → e < edge_count n → edge_at (demo_document n) e ≡ triple_edge n (e - (n - 1) + 1)
triple_is n e h k =
    get_or-append_right (half_edges n) (triple_edges n) (n - 1) e no_edge (half_count n) h
    ∙ get_or-map-range_with_len (triple_edge n) 1 (n / 3) (e - (n - 1)) (e - (n - 1) + 1) no_edge (omega arith) (omega arith)

-- ---- the tree

-- every node has the root as its parent, or none
parent_zero : (n m : ℕ) → parent_of (demo_document n) m ≡ 0
parent_zero n zero = refl
parent_zero n (suc i) =
    ⊎_elim
    (λ l. rw (leaf_is n i l) refl)
    (λ l. rw (no_leaf n i (omega arith)) refl)
    (cases_lt i n)

-- a level stands at the root alone
level_at : (n m : ℕ) (o : LevelOptions) → (node_at (demo_document n) m).level ≡ Some o → (m ≡ 0) × (default_options Right ≡ o)
level_at n zero o e = (refl, cc)
level_at n (suc i) o e =
    ⊎_elim
    (λ l. let none = rw (leaf_is n i l) at e in absurd cc)
    (λ l. let none = rw (no_leaf n i (omega arith)) at e in absurd cc)
    (cases_lt i n)

no_level : (n i : ℕ) → i < n → IsSome (node_at (demo_document n) (suc i)).level → ⊥
no_level n i h some = let none = subst (λ (x : Node). IsSome x.level) (leaf_is n i h) some in absurd (search rules)

pub levels_plain : (n m : ℕ) (o : LevelOptions) → (node_at (demo_document n) m).level ≡ Some o → IsPlainLevel o
levels_plain n m o e = subst IsPlainLevel (level_at n m o e).1 (record { whole = search rules; layered = search rules; aligned = refl })

in_range : (n i : ℕ) → suc i < length (demo_document n).nodes → i < n
in_range n i h = omega (arith, node_count n)

has_parent : (n m : ℕ) → 0 < m → m < length (demo_document n).nodes → HasParent (demo_document n) m
has_parent n zero above h = absurd (omega arith)
has_parent n (suc i) above h =
    record {
      parent = subst (λ (x : Node). IsSome x.parent) (sym (leaf_is n i (in_range n i h))) (search rules);
      before = rw (parent_zero n (suc i)) (omega arith);
    }

sound_options : (n m : ℕ) → IsSoundLevel (demo_document n) m (default_options Right)
sound_options n m =
    record {
      spacing = omega (arith, ints);
      padding = omega (arith, ints);
      component = omega (arith, ints);
      boxes_not_split = λ h. absurd (search rules);
      boxes_no_edge = λ h. absurd (search rules);
    }

options_at : (n m : ℕ) → m < length (demo_document n).nodes → IfSome (node_at (demo_document n) m).level (IsSoundLevel (demo_document n) m)
options_at n zero h = sound_options n 0
options_at n (suc i) h = subst (λ (x : Node). IfSome x.level (IsSoundLevel (demo_document n) (suc i))) (sym (leaf_is n i (in_range n i h))) tt

only_root : (n m : ℕ) → 0 < m → m < length (demo_document n).nodes → IsSome (node_at (demo_document n) m).level → ⊥
only_root n zero above h some = omega arith
only_root n (suc i) above h some = no_level n i (in_range n i h) some

depth_at : (n m : ℕ) → m < length (demo_document n).nodes → IsSome (node_at (demo_document n) m).level → ancestor (demo_document n) 49 m ≡ 0
unfolding ancestor
depth_at n zero h some = refl
depth_at n (suc i) h some = absurd (no_level n i (in_range n i h) some)

sound_leaf : (i : ℕ) → IsSoundNode (demo_leaf i)
sound_leaf i = record { leaf = λ _. omega (arith, ints); compound = λ h. absurd (search rules) }

sound_node : (n m : ℕ) → m < length (demo_document n).nodes → IsSoundNode (node_at (demo_document n) m)
sound_node n zero h = record { leaf = λ h. absurd (search rules); compound = λ _. refl }
sound_node n (suc i) h = subst IsSoundNode (sym (leaf_is n i (in_range n i h))) (sound_leaf (suc i))

-- ---- the edges

-- an edge between two of the leaves
record JoinsLeaves (n : ℕ) (x : Edge) (a b : ℕ) : Type 0 where
  source : x.source ≡ AtNode a
  target : x.target ≡ AtNode b
  source_above : 0 < a
  source_below : a ≤ n
  target_above : 0 < b
  target_below : b ≤ n
  weight_above : 1 ≤ x.weight
  weight_below : x.weight ≤ 2 ^ 20

joined : (n e a b : ℕ) → JoinsLeaves n (edge_at (demo_document n) e) a b → IsSoundEdge (demo_document n) e
joined n e a b j =
    record {
      source_in = subst (IsEndIn (demo_document n)) (sym j.source) (omega (arith, node_count n, j.source_below));
      target_in = subst (IsEndIn (demo_document n)) (sym j.target) (omega (arith, node_count n, j.target_below));
      source_below = subst (λ x. 0 < node_of_end (demo_document n) x) (sym j.source) j.source_above;
      target_below = subst (λ x. 0 < node_of_end (demo_document n) x) (sym j.target) j.target_above;
      siblings = parent_zero n (source_node (demo_document n) e) ∙ sym (parent_zero n (target_node (demo_document n) e));
      weight_above = j.weight_above;
      weight_below = j.weight_below;
    }

half_joins : (n i : ℕ) → 2 ≤ i → i ≤ n → JoinsLeaves n (half_edge i) (i / 2) i
half_joins n i h k =
    record {
      source = refl;
      target = refl;
      source_above = omega arith;
      source_below = omega arith;
      target_above = omega arith;
      target_below = k;
      weight_above = omega arith;
      weight_below = omega arith;
    }

triple_joins : (n j : ℕ) → 1 ≤ j → j ≤ n / 3 → JoinsLeaves n (triple_edge n j) j (3 * j)
triple_joins n j h k =
    record {
      source = refl;
      target = refl;
      source_above = h;
      source_below = omega arith;
      target_above = omega arith;
      target_below = omega arith;
      weight_above = omega arith;
      weight_below = omega arith;
    }

half_at : (n e : ℕ) → e < n - 1 → JoinsLeaves n (edge_at (demo_document n) e) ((e + 2) / 2) (e + 2)
half_at n e l = subst (λ (x : Edge). JoinsLeaves n x ((e + 2) / 2) (e + 2)) (sym (half_is n e l)) (half_joins n (e + 2) (omega arith) (omega arith))

triple_at : (n e : ℕ) → n - 1 ≤ e → e < edge_count n → JoinsLeaves n (edge_at (demo_document n) e) (e - (n - 1) + 1) (3 * (e - (n - 1) + 1))
triple_at n e h below =
    let j : ℕ = e - (n - 1) + 1 in
    subst (λ (x : Edge). JoinsLeaves n x j (3 * j)) (sym (triple_is n e h below)) (triple_joins n j (omega arith) (omega arith))

sound_edge : (n e : ℕ) → e < length (demo_document n).edges → IsSoundEdge (demo_document n) e
sound_edge n e h =
    let below : e < edge_count n = omega (arith, edges_counted n) in
    ⊎_elim
    (λ l. joined n e ((e + 2) / 2) (e + 2) (half_at n e l))
    (λ l. let j : ℕ = e - (n - 1) + 1 in joined n e j (3 * j) (triple_at n e (omega arith) below))
    (cases_lt e (n - 1))

-- ---- the edges lead on

leads : (n e a b : ℕ) → a < b → JoinsLeaves n (edge_at (demo_document n) e) a b → LeadsOn (demo_document n) e
leads n e a b less j =
    record {
      level = parent_zero n (source_node (demo_document n) e);
      onward = subst (λ x. node_of_end (demo_document n) x < node_of_end (demo_document n) (edge_at (demo_document n) e).target) (sym j.source) (subst (λ x. a < node_of_end (demo_document n) x) (sym j.target) less);
    }

pub edges_lead_on : (n e : ℕ) → e < length (demo_document n).edges → LeadsOn (demo_document n) e
edges_lead_on n e h =
    let below : e < edge_count n = omega (arith, edges_counted n) in
    ⊎_elim
    (λ l. leads n e ((e + 2) / 2) (e + 2) (omega arith) (half_at n e l))
    (λ l. let j : ℕ = e - (n - 1) + 1 in leads n e j (3 * j) (omega arith) (triple_at n e (omega arith) below))
    (cases_lt e (n - 1))

-- ---- the whole

pub demo_sound : (n : ℕ) → 1 ≤ n → n ≤ 1024 → IsSound (demo_document n)
demo_sound n some few =
    record {
      few_nodes = omega (arith, node_count n);
      few_ports = omega arith;
      few_edges = omega (arith, edges_counted n);
      tree =
          record {
            root = omega (arith, node_count n);
            root_alone = search rules;
            parents = has_parent n;
            order = λ k m h b l. omega (arith, parent_zero n k, parent_zero n m);
          };
      levels =
          record {
            root = search rules;
            parents = λ m h k. subst (λ (p : ℕ). IsSome (node_at (demo_document n) p).level) (sym (parent_zero n m)) (search rules);
            only = λ m h k some. absurd (only_root n m h k some);
            depth = depth_at n;
            options = options_at n;
          };
      nodes = sound_node n;
      ports = record { nodes = λ k h. absurd (omega arith); order = λ j k h l. absurd (omega arith); each = λ k h. absurd (omega arith) };
      edges = sound_edge n;
    }

-- ---- the counts

half_weights : (is : List ℕ) → sum_by (λ (e : Edge). e.weight) (map half_edge is) ≡ length is
half_weights [] = refl
half_weights (i ∷ is) = omega (arith, sum_by-cons (λ (e : Edge). e.weight) (half_edge i) (map half_edge is), half_weights is)

triple_weights : (n : ℕ) (js : List ℕ) → sum_by (λ (e : Edge). e.weight) (map (triple_edge n) js) ≡ sum (map triple_weight js)
triple_weights n [] = refl
triple_weights n (j ∷ js) =
    omega (arith, sum_by-cons (λ (e : Edge). e.weight) (triple_edge n j) (map (triple_edge n) js), sum_by-cons (λ (w : ℕ). w) (triple_weight j) (map triple_weight js), triple_weights n js)

pub demo_counted : (n : ℕ) → IsCounted n
demo_counted n =
    record {
      nodes = omega (arith, node_count n);
      edges = edges_counted n;
      weight = omega (arith, sum_by-append (λ (e : Edge). e.weight) (half_edges n) (triple_edges n), half_weights (range_with_len 2 (n - 1)), length-range_with_len 2 (n - 1), triple_weights n (range_with_len 1 (n / 3)));
    }
