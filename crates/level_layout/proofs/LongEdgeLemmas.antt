-- The graph of a level's oriented edges grows by an edge, and its layers are those of its children.
use Rattle.std.proofs.Common.{◌≡◌, ◌≢◌, ℕ, ◌+◌, ◌<◌, ◌==◌, Bool, true, false, List, [], ◌∷◌, ◌++◌, length, set, Option, None, Some, is_some, arith, refl, sym, ap, subst, inl, inr, ◌∙◌, ne_eqb, eq-eqb, IsTrue, IsFalse}
use Rattle.std.specs.Prelude.{slice_index}
use Rattle.std.proofs.lemmas.Bool.{cases_eq, cases_lt}
use Rattle.std.proofs.lemmas.List.{get_or_append_left, get_or_push, length_push, get_or-set_same, get_or-set_other}
use Rattle.graph_arena.specs.Graph.{Graph, Ends, ends_at, IsNode}
use Rattle.graph_arena.specs.Changes.{AddsEdge}
use Rattle.graph_arena.specs.declared.keys.NodeKey.{NodeKey}
use Rattle.graph_arena.specs.declared.keys.EdgeKey.{EdgeKey}
use Rattle.long_edges.specs.Chains.{Table, AreChains, chain_at}
use Rattle.long_edges.specs.Layers.{IsLayered, IsOneALayer}
use Rattle.network_laws.specs.declared.network.NetEdge.{NetEdge}
use Rattle.level_model.specs.declared.level.LevelEdge.{LevelEdge}
use Rattle.level_model.specs.Conditions.{IsLevel}
use Rattle.level_model.specs.Level.{PlainLevel, edge_at, is_loop}
use Rattle.level_layout.specs.Certificate.{oriented}
use Rattle.layer_units.specs.Marks.{is_marked}
use Rattle.level_layout.specs.Marks.{AreNodes, node_of}
use Rattle.level_layout.specs.Chained.{AddsLink, AreChained, AreLinks, HasChain, IsChainAt, IsLinkAt, RisingEnds, between, head_by, key_in, tail_by}
use Rattle.level_layout.proofs.GraphLemmas.{nodes_kept, not_free}

some_ends : (x y : Ends) → Some x ≡ Some y → x ≡ y
some_ends x y h = cc

-- ---- one edge after the other

tail_there : (edge : LevelEdge) (n : ℕ) (b : Bool) → edge.source.child < n → edge.target.child < n → (oriented b edge).tail < n
tail_there edge n true s t = t
tail_there edge n false s t = s

head_there : (edge : LevelEdge) (n : ℕ) (b : Bool) → edge.source.child < n → edge.target.child < n → (oriented b edge).head < n
head_there edge n true s t = s
head_there edge n false s t = t

loop_by : (edge : LevelEdge) (b : Bool) → (oriented b edge).tail ≡ (oriented b edge).head → (edge.source.child == edge.target.child) ≡ true
loop_by edge true h = eq-eqb edge.source.child edge.target.child (sym h)
loop_by edge false h = eq-eqb edge.source.child edge.target.child h

no_loop_by : (edge : LevelEdge) (b : Bool) → (oriented b edge).tail ≢ (oriented b edge).head → (edge.source.child == edge.target.child) ≡ false
no_loop_by edge true h = ne_eqb edge.source.child edge.target.child (λ same. h (sym same))
no_loop_by edge false h = ne_eqb edge.source.child edge.target.child h

pub tail_in : (l : PlainLevel) (marks : List Bool) (e : ℕ) → IsLevel l → e < length l.edges → tail_by l marks e < length l.children
tail_in l marks e level h = tail_there (edge_at l e) (length l.children) (is_marked marks e) (level.edges e h).source.child (level.edges e h).target.child

pub head_in : (l : PlainLevel) (marks : List Bool) (e : ℕ) → IsLevel l → e < length l.edges → head_by l marks e < length l.children
head_in l marks e level h = head_there (edge_at l e) (length l.children) (is_marked marks e) (level.edges e h).source.child (level.edges e h).target.child

key_left : (keys : List (Option EdgeKey)) (key : Option EdgeKey) (e : ℕ) → e < length keys → key_in (keys ++ key ∷ []) e ≡ key_in keys e
key_left keys key e h = get_or_append_left keys (key ∷ []) None e h

key_last : (keys : List (Option EdgeKey)) (key : Option EdgeKey) (e : ℕ) → length keys ≡ e → key_in (keys ++ key ∷ []) e ≡ key
key_last keys key e h = get_or_push keys key None e h

pub no_links : (l : PlainLevel) (marks : List Bool) (nodes : List NodeKey) (g : Graph) → ((k : ℕ) → ends_at g k ≡ None) → AreLinks l marks nodes g 0 []
no_links l marks nodes g none =
    record {
      as_many = refl;
      each = λ e h. absurd (omega (arith, h));
      only = λ k x is. absurd (not_free (ends_at g k) (ap is_some is) (none k));
    }

link_kept : (l : PlainLevel) (marks : List Bool) (nodes : List NodeKey) (old new : Graph) (k tail head e : ℕ) (o : Option EdgeKey) → AddsEdge old new k tail head → IsLinkAt l marks nodes old e o → IsLinkAt l marks nodes new e o
link_kept l marks nodes old new k tail head e None adds h = h
link_kept l marks nodes old new k tail head e (Some j) adds h =
    adds.other_edges j.at (λ same. not_free (ends_at old j.at) (ap is_some h) (ap (ends_at old) same ∙ adds.was_free)) ∙ h

pub links_more : (l : PlainLevel) (marks : List Bool) (nodes : List NodeKey) (old new : Graph) (n : ℕ) (keys more : List (Option EdgeKey)) (x : NetEdge) (key : Option EdgeKey) → AreLinks l marks nodes old n keys
    → x ≡ oriented (is_marked marks n) (edge_at l n) → AddsLink nodes x old new key → more ≡ keys ++ key ∷ [] → AreLinks l marks nodes new (n + 1) more
links_more l marks nodes old new n keys more x None are is adds pushed =
    let many = are.as_many in
    record {
      as_many = ap length pushed ∙ length_push keys None ∙ ap (λ k. k + 1) many;
      each = λ e h. elim (cases_lt e n) [
        | inl less ↦
            subst (IsLinkAt l marks nodes new e) (sym (ap (λ ks. key_in ks e) pushed ∙ key_left keys None e (omega (arith, less, many))))
            (subst (λ (g : Graph). IsLinkAt l marks nodes g e (key_in keys e)) (sym adds.1) (are.each e less))
        | inr most ↦
            let same : e ≡ n = omega (arith, h, most) in
            subst (IsLinkAt l marks nodes new e) (sym (ap (λ ks. key_in ks e) pushed ∙ key_last keys None e (many ∙ sym same)))
            (subst (λ i. IsTrue (is_loop l i)) (sym same) (loop_by (edge_at l n) (is_marked marks n) (subst (λ (y : NetEdge). y.tail ≡ y.head) is adds.0)))
      ];
      only = λ k y ends.
          let found = are.only k y (subst (λ (g : Graph). ends_at g k ≡ Some y) adds.1 ends) in
          let inside = found.1 in
          (found.0, omega (arith, inside), found.2, found.3);
    }
links_more l marks nodes old new n keys more x (Some key) are is adds pushed =
    let many = are.as_many in
    let here : ends_at new key.at ≡ Some (between nodes (tail_by l marks n) (head_by l marks n)) = subst (λ (y : NetEdge). ends_at new key.at ≡ Some (between nodes y.tail y.head)) is adds.1.ends in
    record {
      as_many = ap length pushed ∙ length_push keys (Some key) ∙ ap (λ k. k + 1) many;
      each = λ e h. elim (cases_lt e n) [
        | inl less ↦
            subst (IsLinkAt l marks nodes new e) (sym (ap (λ ks. key_in ks e) pushed ∙ key_left keys (Some key) e (omega (arith, less, many))))
            (link_kept l marks nodes old new key.at (node_of nodes x.tail) (node_of nodes x.head) e (key_in keys e) adds.1 (are.each e less))
        | inr most ↦
            let same : e ≡ n = omega (arith, h, most) in
            subst (IsLinkAt l marks nodes new e) (sym (ap (λ ks. key_in ks e) pushed ∙ key_last keys (Some key) e (many ∙ sym same)))
            (subst (λ i. IsLinkAt l marks nodes new i (Some key)) (sym same) here)
      ];
      only = λ k y ends. elim (cases_eq k key.at) [
        | inl same ↦ (
          n,
          omega arith,
          no_loop_by (edge_at l n) (is_marked marks n) (subst (λ (z : NetEdge). z.tail ≢ z.head) is adds.0),
          some_ends y (between nodes (tail_by l marks n) (head_by l marks n)) (sym ends ∙ ap (ends_at new) same ∙ here),
        )
        | inr other ↦
            let found = are.only k y (sym (adds.1.other_edges k other) ∙ ends) in
            let inside = found.1 in
            (found.0, omega (arith, inside), found.2, found.3)
      ];
    }

pub nodes_stay : (old new : Graph) (n : ℕ) (nodes : List NodeKey) (x : NetEdge) (key : Option EdgeKey) → AreNodes old n nodes → AddsLink nodes x old new key → AreNodes new n nodes
nodes_stay old new n nodes x None are adds = subst (λ (g : Graph). AreNodes g n nodes) (sym adds.1) are
nodes_stay old new n nodes x (Some key) are adds = nodes_kept old new n nodes key.at (node_of nodes x.tail) (node_of nodes x.head) are adds.1

-- ---- layers by node

pub noted_more : (nodes : List NodeKey) (layers by_node more : List ℕ) (c : ℕ) → c < length nodes → ((b : ℕ) → b < length nodes → node_of nodes b < length by_node)
    → ((a b : ℕ) → a < length nodes → b < length nodes → node_of nodes a ≡ node_of nodes b → a ≡ b)
    → ((b : ℕ) → b < c → slice_index by_node (node_of nodes b) ≡ slice_index layers b) → more ≡ set by_node (node_of nodes c) (slice_index layers c)
    → (b : ℕ) → b < c + 1 → slice_index more (node_of nodes b) ≡ slice_index layers b
noted_more nodes layers by_node more c inside within once before is b h =
    elim (cases_eq b c) [
      | inl same ↦
          ap (λ ys. slice_index ys (node_of nodes b)) is ∙ ap (λ i. slice_index (set by_node (node_of nodes c) (slice_index layers c)) (node_of nodes i)) same
          ∙ get_or-set_same by_node (node_of nodes c) (slice_index layers c) 0 (within c inside) ∙ ap (slice_index layers) (sym same)
      | inr other ↦
          let less : b < c = omega (arith, h, other) in
          ap (λ ys. slice_index ys (node_of nodes b)) is
          ∙ get_or-set_other by_node (node_of nodes c) (node_of nodes b) (slice_index layers c) 0 (λ q. other (once b c (omega (arith, less, inside)) inside q))
          ∙ before b less
    ]

pub layered : (g : Graph) (nodes : List NodeKey) (layers by_node : List ℕ) (n : ℕ) → length layers ≡ length nodes → ((v : ℕ) → IsNode g v → v < n) → length by_node ≡ n
    → ((c : ℕ) → c < length nodes → slice_index by_node (node_of nodes c) ≡ slice_index layers c) → ((k : ℕ) (x : Ends) → ends_at g k ≡ Some x → RisingEnds nodes layers x) → IsLayered g by_node
layered g nodes layers by_node n many room long each rising =
    record {
      listed = λ v live. let below = room v live in omega (arith, below, long);
      upward = λ k x is.
          let r = rising k x is in
          let a = r.tail_in in
          let b = r.head_in in
          let low = ap (λ (y : Ends). slice_index by_node y.tail) r.is ∙ each r.tail (omega (arith, a, many)) in
          let high = ap (λ (y : Ends). slice_index by_node y.head) r.is ∙ each r.head (omega (arith, b, many)) in
          let up = r.up in
          omega (arith, low, high, up);
    }

pub has_chain : (old new : Graph) (nodes : List NodeKey) (layers by_node : List ℕ) (chains : Table) (k a b : ℕ) → length layers ≡ length nodes → ((c : ℕ) → c < length nodes → slice_index by_node (node_of nodes c) ≡ slice_index layers c)
    → AreChains old new by_node chains.lanes (chain_at chains) → IsOneALayer old by_node (chain_at chains) → a < length layers → b < length layers → ends_at old k ≡ Some (between nodes a b) → HasChain layers chains a b k
has_chain old new nodes layers by_node chains k a b many each are high in_a in_b is =
    let chain = (are.each k (between nodes a b) is).is in
    let low = each a (omega (arith, in_a, many)) in
    let top = each b (omega (arith, in_b, many)) in
    let climbs = high.counted k (between nodes a b) is in
    record {
      some = λ none. (let bad = sym none ∙ chain in cc);
      climbs = omega (arith, low, top, climbs);
    }

-- ---- all edges

pub rising : (l : PlainLevel) (marks : List Bool) (nodes : List NodeKey) (layers : List ℕ) (g : Graph) (keys : List (Option EdgeKey)) → IsLevel l → length layers ≡ length l.children → AreLinks l marks nodes g (length l.edges) keys
    → ((e : ℕ) → e < length l.edges → IsFalse (is_loop l e) → slice_index layers (tail_by l marks e) < slice_index layers (head_by l marks e))
    → (k : ℕ) (x : Ends) → ends_at g k ≡ Some x → RisingEnds nodes layers x
rising l marks nodes layers g keys level many are onward k x is =
    let found = are.only k x is in
    let a = tail_in l marks found.0 level found.1 in
    let b = head_in l marks found.0 level found.1 in
    record {
      tail = tail_by l marks found.0;
      head = head_by l marks found.0;
      tail_in = omega (arith, a, many);
      head_in = omega (arith, b, many);
      is = found.3;
      up = onward found.0 found.1 found.2;
    }

chain_for : (l : PlainLevel) (marks : List Bool) (nodes : List NodeKey) (layers : List ℕ) (g : Graph) (chains : Table) (e : ℕ) (o : Option EdgeKey) → tail_by l marks e < length layers → head_by l marks e < length layers
    → ((k a b : ℕ) → a < length layers → b < length layers → ends_at g k ≡ Some (between nodes a b) → HasChain layers chains a b k) → IsLinkAt l marks nodes g e o → IsChainAt l layers marks chains e o
chain_for l marks nodes layers g chains e None a b has h = h
chain_for l marks nodes layers g chains e (Some k) a b has h = has k.at (tail_by l marks e) (head_by l marks e) a b h

pub all_chained : (l : PlainLevel) (marks : List Bool) (nodes : List NodeKey) (layers : List ℕ) (g : Graph) (keys : List (Option EdgeKey)) (chains : Table) → IsLevel l → length layers ≡ length l.children → AreLinks l marks nodes g (length l.edges) keys
    → ((k a b : ℕ) → a < length layers → b < length layers → ends_at g k ≡ Some (between nodes a b) → HasChain layers chains a b k) → AreChained l layers marks keys chains
all_chained l marks nodes layers g keys chains level many are has =
    record {
      as_many = are.as_many;
      each = λ e h.
          let a = tail_in l marks e level h in
          let b = head_in l marks e level h in
          chain_for l marks nodes layers g chains e (key_in keys e) (omega (arith, a, many)) (omega (arith, b, many)) has (are.each e h);
    }
