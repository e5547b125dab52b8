-- The graph of a level grows by a node or an edge, and its marks by one.
use Rattle.std.proofs.Common.{◌≡◌, ◌≢◌, ℕ, ◌+◌, ◌<◌, ◌==◌, Bool, false, not, List, [], ◌∷◌, ◌++◌, length, get_or, Option, None, Some, is_some, IsSome, arith, refl, sym, ap, subst, inl, inr, ◌∙◌, true≢false}
use Rattle.std.proofs.lemmas.Bool.{cases_eq, cases_lt}
use Rattle.std.proofs.lemmas.List.{get_or_append_left, get_or_default, get_or_push, length_push}
use Rattle.graph_arena.specs.Graph.{Graph, Ends, ends_at, lists_at}
use Rattle.graph_arena.specs.Changes.{AddsEdge, AddsNode}
use Rattle.graph_arena.specs.declared.keys.NodeKey.{NodeKey}
use Rattle.graph_arena.specs.declared.keys.EdgeKey.{EdgeKey}
use Rattle.level_model.specs.declared.level.LevelEdge.{LevelEdge}
use Rattle.level_model.specs.Level.{PlainLevel, edge_at}
use Rattle.level_layout.specs.Certificate.{source_of, target_of}
use Rattle.layer_units.specs.Marks.{is_marked}
use Rattle.level_layout.specs.Marks.{AreEdges, AreMarkedEdges, AreNodes, key_of, node_of}

-- an edge of a slice, as one of its level
pub edge_read : (l : PlainLevel) (es : List LevelEdge) (e : ℕ) (d : LevelEdge) → es ≡ l.edges → e < length es → (get_or es e d ≡ edge_at l e) × (e < length l.edges)
edge_read l es e d same h =
    let inside : e < length l.edges = subst (λ (xs : List LevelEdge). e < length xs) same h in (
      ap (λ (xs : List LevelEdge). get_or xs e d) same ∙ get_or_default l.edges e d (edge_at (record { children = []; edges = []; spacing = l.spacing; choices = l.choices }) 0) inside,
      inside,
    )

node_left : (nodes : List NodeKey) (key : NodeKey) (c : ℕ) → c < length nodes → node_of (nodes ++ key ∷ []) c ≡ node_of nodes c
node_left nodes key c h = ap (λ (k : NodeKey). k.at) (get_or_append_left nodes (key ∷ []) (record { at = 0 }) c h)

node_last : (nodes : List NodeKey) (key : NodeKey) (c : ℕ) → length nodes ≡ c → node_of (nodes ++ key ∷ []) c ≡ key.at
node_last nodes key c h = ap (λ (k : NodeKey). k.at) (get_or_push nodes key (record { at = 0 }) c h)

key_left : (keys : List EdgeKey) (key : EdgeKey) (e : ℕ) → e < length keys → key_of (keys ++ key ∷ []) e ≡ key_of keys e
key_left keys key e h = ap (λ (k : EdgeKey). k.at) (get_or_append_left keys (key ∷ []) (record { at = 0 }) e h)

key_last : (keys : List EdgeKey) (key : EdgeKey) (e : ℕ) → length keys ≡ e → key_of (keys ++ key ∷ []) e ≡ key.at
key_last keys key e h = ap (λ (k : EdgeKey). k.at) (get_or_push keys key (record { at = 0 }) e h)

-- what is there isn't free
pub not_free : {T : Type 0} (o : Option T) → IsSome o → o ≡ None → ⊥
not_free None h is = true≢false (sym h)
not_free (Some x) h is = absurd cc

node_differs : (old new : Graph) (n : ℕ) (nodes : List NodeKey) (key : NodeKey) → AreNodes old n nodes → AddsNode old new key.at → (c : ℕ) → c < n → node_of nodes c ≢ key.at
node_differs old new n nodes key are adds c h same = not_free (lists_at old (node_of nodes c)) (are.live c h) (ap (lists_at old) same ∙ adds.was_free)

pub nodes_more : (old new : Graph) (n : ℕ) (nodes more : List NodeKey) (key : NodeKey) → AreNodes old n nodes → AddsNode old new key.at → more ≡ nodes ++ key ∷ [] → AreNodes new (n + 1) more
nodes_more old new n nodes more key are adds pushed =
    let many = are.as_many in
    let left : (c : ℕ) → c < n → node_of more c ≡ node_of nodes c = λ c h. ap (λ ks. node_of ks c) pushed ∙ node_left nodes key c (omega (arith, h, many)) in
    let last : (c : ℕ) → c ≡ n → node_of more c ≡ key.at = λ c is. ap (λ ks. node_of ks c) pushed ∙ node_last nodes key c (omega (arith, is, many)) in
    record {
      as_many = ap length pushed ∙ length_push nodes key ∙ ap (λ k. k + 1) many;
      live = λ c h. elim (cases_lt c n) [
        | inl less ↦
            ap (λ v. is_some (lists_at new v)) (left c less) ∙ ap is_some (adds.other_nodes (node_of nodes c) (node_differs old new n nodes key are adds c less)) ∙ are.live c less
        | inr most ↦ ap (λ v. is_some (lists_at new v)) (last c (omega (arith, h, most))) ∙ ap is_some adds.alone
      ];
      once = λ b c g h same. elim (cases_lt b n) [
        | inl in_b ↦ elim (cases_lt c n) [
          | inl in_c ↦ are.once b c in_b in_c (sym (left b in_b) ∙ same ∙ left c in_c)
          | inr past ↦ absurd (node_differs old new n nodes key are adds b in_b (sym (left b in_b) ∙ same ∙ last c (omega (arith, h, past))))
        ]
        | inr past_b ↦ elim (cases_lt c n) [
          | inl in_c ↦ absurd (node_differs old new n nodes key are adds c in_c (sym (left c in_c) ∙ sym same ∙ last b (omega (arith, g, past_b))))
          | inr past_c ↦ omega (arith, g, h, past_b, past_c)
        ]
      ];
    }

pub nodes_kept : (old new : Graph) (n : ℕ) (nodes : List NodeKey) (key tail head : ℕ) → AreNodes old n nodes → AddsEdge old new key tail head → AreNodes new n nodes
nodes_kept old new n nodes key tail head are adds =
    record { as_many = are.as_many; live = λ c h. (adds.same_nodes (node_of nodes c)).1 (are.live c h); once = are.once }

pub edges_more : (l : PlainLevel) (nodes : List NodeKey) (old new : Graph) (n : ℕ) (keys more : List EdgeKey) (key : EdgeKey) → AreEdges l nodes old n keys
    → AddsEdge old new key.at (node_of nodes (source_of l n)) (node_of nodes (target_of l n)) → more ≡ keys ++ key ∷ [] → AreEdges l nodes new (n + 1) more
edges_more l nodes old new n keys more key are adds pushed =
    let many = are.as_many in
    let left : (e : ℕ) → e < n → key_of more e ≡ key_of keys e = λ e h. ap (λ ks. key_of ks e) pushed ∙ key_left keys key e (omega (arith, h, many)) in
    let last : (e : ℕ) → e ≡ n → key_of more e ≡ key.at = λ e is. ap (λ ks. key_of ks e) pushed ∙ key_last keys key e (omega (arith, is, many)) in
    let differs : (e : ℕ) → e < n → key_of keys e ≢ key.at =
    λ e h same. not_free (ends_at old (key_of keys e)) (ap is_some (are.ends e h)) (ap (ends_at old) same ∙ adds.was_free)
    in
    record {
      as_many = ap length pushed ∙ length_push keys key ∙ ap (λ k. k + 1) many;
      ends = λ e h. elim (cases_lt e n) [
        | inl less ↦ ap (ends_at new) (left e less) ∙ adds.other_edges (key_of keys e) (differs e less) ∙ are.ends e less
        | inr most ↦
            let same : e ≡ n = omega (arith, h, most) in
            ap (ends_at new) (last e same) ∙ subst (λ i. ends_at new key.at ≡ Some (record { tail = node_of nodes (source_of l i); head = node_of nodes (target_of l i) })) (sym same) adds.ends
      ];
      only = λ k x is. elim (cases_eq k key.at) [
        | inl same ↦ (n, omega arith, last n refl ∙ sym same)
        | inr other ↦
            let found = are.only k x (sym (adds.other_edges k other) ∙ is) in
            let inside = found.1 in
            (found.0, omega (arith, inside), left found.0 inside ∙ found.2)
      ];
    }

pub no_marks : (l : PlainLevel) (nodes : List NodeKey) (keys : List EdgeKey) (g : Graph) → AreMarkedEdges l nodes keys g 0 []
no_marks l nodes keys g = record { as_many = refl; marked = λ e x h. absurd (omega (arith, h)) }

pub marks_more : (l : PlainLevel) (nodes : List NodeKey) (keys : List EdgeKey) (g : Graph) (n : ℕ) (marks more : List Bool) (b : Bool) → AreMarkedEdges l nodes keys g n marks
    → ((x : Ends) → ends_at g (key_of keys n) ≡ Some x → b ≡ not (x.tail == node_of nodes (source_of l n))) → more ≡ marks ++ b ∷ [] → AreMarkedEdges l nodes keys g (n + 1) more
marks_more l nodes keys g n marks more b are is pushed =
    let many = are.as_many in
    record {
      as_many = ap length pushed ∙ length_push marks b ∙ ap (λ k. k + 1) many;
      marked = λ e x h ends. elim (cases_lt e n) [
        | inl less ↦ ap (λ bs. is_marked bs e) pushed ∙ get_or_append_left marks (b ∷ []) false e (omega (arith, less, many)) ∙ are.marked e x less ends
        | inr most ↦
            let same : e ≡ n = omega (arith, h, most) in
            ap (λ bs. is_marked bs e) pushed ∙ get_or_push marks b false e (many ∙ sym same)
            ∙ subst (λ i. b ≡ not (x.tail == node_of nodes (source_of l i))) (sym same) (is x (subst (λ i. ends_at g (key_of keys i) ≡ Some x) same ends))
      ];
    }
