-- The edges that are reversed in the graph of a level are edges of the level.
use Rattle.std.proofs.Common.{◌≡◌, ◌≢◌, ℕ, ◌<◌, Bool, true, false, not, List, length, Some, arith, refl, sym, ap, subst, inl, inr, ◌∙◌, ne_eqb, eq-eqb, true≢false, IsTrue, IsFalse}
use Rattle.std.proofs.lemmas.Bool.{cases_lt}
use Rattle.graph_arena.specs.Graph.{Graph, Ends, ends_at, occurs, tail_in, head_in, IsEdge}
use Rattle.graph_arena.specs.Paths.{Reaches as Leads}
use Rattle.graph_arena.specs.Paths.Reaches.{stay as stop, go as next}
use Rattle.graph_arena.specs.declared.keys.NodeKey.{NodeKey}
use Rattle.graph_arena.specs.declared.keys.EdgeKey.{EdgeKey}
use Rattle.cycle_break.specs.Reversed.{UnlistedStep as KeyStep, IsReversed, ReversesListed}
use Rattle.elk_doc.specs.Paths.{Reaches, stay, go}
use Rattle.level_model.specs.Level.{PlainLevel, holds, is_loop}
use Rattle.level_model.specs.Conditions.{IsLevel}
use Rattle.level_layout.specs.Certificate.{AreReversed, ClosesCycle, UnlistedStep, source_of, target_of}
use Rattle.layer_units.specs.Marks.{is_marked, listed}
use Rattle.level_layout.specs.Marks.{AreMarkedEdges, IsGraphOf, key_of, node_of}
use Rattle.layer_units.proofs.MarkLemmas.{filter_rises, listed_at, listed_in}

some_same : (a b : ℕ) → Some a ≡ Some b → a ≡ b
some_same a b h = cc

abbrev pub ends_of : PlainLevel → List NodeKey → ℕ → Ends
ends_of l nodes e = record { tail = node_of nodes (source_of l e); head = node_of nodes (target_of l e) }

tails_same : (x : Ends) (l : PlainLevel) (nodes : List NodeKey) (e : ℕ) → Some x ≡ Some (ends_of l nodes e) → x.tail ≡ node_of nodes (source_of l e)
tails_same x l nodes e h = some_same x.tail (node_of nodes (source_of l e)) (ap tail_in h)

heads_same : (x : Ends) (l : PlainLevel) (nodes : List NodeKey) (e : ℕ) → Some x ≡ Some (ends_of l nodes e) → x.head ≡ node_of nodes (target_of l e)
heads_same x l nodes e h = some_same x.head (node_of nodes (target_of l e)) (ap head_in h)

loop_no : (l : PlainLevel) (e : ℕ) → source_of l e ≢ target_of l e → IsFalse (is_loop l e)
loop_no l e other = ne_eqb (source_of l e) (target_of l e) other

-- a listed edge is marked, and no other
pub marked_yes : (l : PlainLevel) (nodes : List NodeKey) (keys : List EdgeKey) (old new : Graph) (is_reversed : List ℕ) (marks : List Bool) → IsGraphOf l nodes keys old → IsReversed old is_reversed → ReversesListed old new is_reversed → AreMarkedEdges l nodes keys new (length l.edges) marks
    → (e : ℕ) → e < length l.edges → 0 < occurs (key_of keys e) is_reversed → is_marked marks e ≡ true
marked_yes l nodes keys old new is_reversed marks graph reversed round marked e inside h =
    let is = graph.edges_are.ends e inside in
    let given = reversed.edges (key_of keys e) h in
    let same : Some given.0 ≡ Some (ends_of l nodes e) = sym given.1 ∙ is in
    let now = round.is_reversed (key_of keys e) (ends_of l nodes e) h is in
    let tail = tails_same given.0 l nodes e same in
    let head = heads_same given.0 l nodes e same in
    let other : node_of nodes (target_of l e) ≢ node_of nodes (source_of l e) = λ q. given.2 (tail ∙ sym q ∙ sym head) in
    marked.marked e (record { tail = node_of nodes (target_of l e); head = node_of nodes (source_of l e) }) inside now
    ∙ ap not (ne_eqb (node_of nodes (target_of l e)) (node_of nodes (source_of l e)) other)

pub marked_no : (l : PlainLevel) (nodes : List NodeKey) (keys : List EdgeKey) (old new : Graph) (is_reversed : List ℕ) (marks : List Bool) → IsGraphOf l nodes keys old → ReversesListed old new is_reversed → AreMarkedEdges l nodes keys new (length l.edges) marks
    → (e : ℕ) → e < length l.edges → occurs (key_of keys e) is_reversed ≡ 0 → is_marked marks e ≡ false
marked_no l nodes keys old new is_reversed marks graph round marked e inside h =
    let now = round.others (key_of keys e) h ∙ graph.edges_are.ends e inside in
    marked.marked e (ends_of l nodes e) inside now ∙ ap not (eq-eqb (node_of nodes (source_of l e)) (node_of nodes (source_of l e)) refl)

-- ---- ways of the graph are ways of the level, and the other way round

pub back : (l : PlainLevel) (nodes : List NodeKey) (keys : List EdgeKey) (g : Graph) (is_reversed : List ℕ) (marks : List Bool) → IsLevel l → IsGraphOf l nodes keys g → length marks ≡ length l.edges
    → ((e : ℕ) → e < length l.edges → occurs (key_of keys e) is_reversed ≡ 0 → is_marked marks e ≡ false)
    → (x y a b : ℕ) → Leads (KeyStep g is_reversed) x y → a < length l.children → b < length l.children → x ≡ node_of nodes a → y ≡ node_of nodes b
    → Reaches (UnlistedStep l (listed marks)) a b
back l nodes keys g is_reversed marks level graph many unmarked x y a b (stop _) in_a in_b from to =
    let same = graph.nodes_are.once a b in_a in_b (sym from ∙ to) in
    subst (Reaches (UnlistedStep l (listed marks)) a) same (stay a)
back l nodes keys g is_reversed marks level graph many unmarked x y a b (next _ m _ step rest) in_a in_b from to =
    let edge = graph.edges_are.only step.edge (record { tail = x; head = m }) step.ends in
    let e = edge.0 in
    let same : Some (record { tail = x; head = m }) ≡ Some (ends_of l nodes e) = sym step.ends ∙ ap (ends_at g) (sym edge.2) ∙ graph.edges_are.ends e edge.1 in
    let tail = tails_same (record { tail = x; head = m }) l nodes e same in
    let head = heads_same (record { tail = x; head = m }) l nodes e same in
    let source = (level.edges e edge.1).source.child in
    let target = (level.edges e edge.1).target.child in
    let begins = graph.nodes_are.once (source_of l e) a source in_a (sym tail ∙ from) in
    let off : occurs (key_of keys e) is_reversed ≡ 0 = ap (λ k. occurs k is_reversed) edge.2 ∙ step.unlisted in
    let one : UnlistedStep l (listed marks) a (target_of l e) = record {
      edge = e;
      of_level = edge.1;
      unlisted = listed_at marks e (subst (λ n. e < n) (sym many) edge.1) ∙ unmarked e edge.1 off;
      source = begins;
      target = refl;
      no_loop = λ q. step.no_loop (from ∙ ap (node_of nodes) q ∙ sym head);
    }
    in
    go a (target_of l e) b one (back l nodes keys g is_reversed marks level graph many unmarked m y (target_of l e) b rest target in_b head to)

ahead_step : (l : PlainLevel) (nodes : List NodeKey) (keys : List EdgeKey) (g : Graph) (is_reversed : List ℕ) (marks : List Bool) → IsLevel l → IsGraphOf l nodes keys g → length marks ≡ length l.edges
    → ((e : ℕ) → e < length l.edges → 0 < occurs (key_of keys e) is_reversed → is_marked marks e ≡ true)
    → (a b : ℕ) → UnlistedStep l (listed marks) a b → KeyStep g is_reversed (node_of nodes a) (node_of nodes b)
ahead_step l nodes keys g is_reversed marks level graph many on a b step =
    let e = step.edge in
    let source = subst (λ v. v < length l.children) step.source (level.edges e step.of_level).source.child in
    let target = subst (λ v. v < length l.children) step.target (level.edges e step.of_level).target.child in
    record {
      edge = key_of keys e;
      ends = subst (λ v. ends_at g (key_of keys e) ≡ Some (record { tail = node_of nodes a; head = node_of nodes v })) step.target
          (subst (λ v. ends_at g (key_of keys e) ≡ Some (record { tail = node_of nodes v; head = node_of nodes (target_of l e) })) step.source (graph.edges_are.ends e step.of_level));
      unlisted = elim (cases_lt 0 (occurs (key_of keys e) is_reversed)) [
        | inl some ↦
            absurd (true≢false (sym (on e step.of_level some) ∙ sym (listed_at marks e (subst (λ n. e < n) (sym many) step.of_level)) ∙ step.unlisted))
        | inr none ↦ omega (arith, none)
      ];
      no_loop = λ q. step.no_loop (graph.nodes_are.once a b source target q);
    }

ahead : (l : PlainLevel) (nodes : List NodeKey) (keys : List EdgeKey) (g : Graph) (is_reversed : List ℕ) (marks : List Bool) → IsLevel l → IsGraphOf l nodes keys g → length marks ≡ length l.edges
    → ((e : ℕ) → e < length l.edges → 0 < occurs (key_of keys e) is_reversed → is_marked marks e ≡ true)
    → (a b : ℕ) → Reaches (UnlistedStep l (listed marks)) a b → Leads (KeyStep g is_reversed) (node_of nodes a) (node_of nodes b)
ahead l nodes keys g is_reversed marks level graph many on a b (stay _) = stop (node_of nodes a)
ahead l nodes keys g is_reversed marks level graph many on a b (go _ m _ step rest) =
    next (node_of nodes a) (node_of nodes m) (node_of nodes b) (ahead_step l nodes keys g is_reversed marks level graph many on a m step) (ahead l nodes keys g is_reversed marks level graph many on m b rest)

-- ---- the marked edges of the level

closing : (l : PlainLevel) (nodes : List NodeKey) (keys : List EdgeKey) (old new : Graph) (is_reversed : List ℕ) (marks : List Bool) → IsLevel l → IsGraphOf l nodes keys old → IsReversed old is_reversed → ReversesListed old new is_reversed
    → AreMarkedEdges l nodes keys new (length l.edges) marks → (e : ℕ) → IsTrue (holds (listed marks) e) → ClosesCycle l (listed marks) e
closing l nodes keys old new is_reversed marks level graph reversed round marked e held =
    let in_marks = listed_in marks e held in
    let many = marked.as_many in
    let inside : e < length l.edges = omega (arith, in_marks, many) in
    let is_on = sym (listed_at marks e in_marks) ∙ held in
    elim (cases_lt 0 (occurs (key_of keys e) is_reversed)) [
      | inr none ↦ absurd (true≢false (sym is_on ∙ marked_no l nodes keys old new is_reversed marks graph round marked e inside (omega (arith, none))))
      | inl some ↦
          let given = reversed.edges (key_of keys e) some in
          let same : Some given.0 ≡ Some (ends_of l nodes e) = sym given.1 ∙ graph.edges_are.ends e inside in
          let tail = tails_same given.0 l nodes e same in
          let head = heads_same given.0 l nodes e same in
          record {
            of_level = inside;
            no_loop = loop_no l e (λ q. given.2 (tail ∙ ap (node_of nodes) q ∙ sym head));
            leads_back = back l nodes keys old is_reversed marks level graph many (marked_no l nodes keys old new is_reversed marks graph round marked) given.0.head given.0.tail (target_of l e) (source_of l e) given.3
                (level.edges e inside).target.child (level.edges e inside).source.child head tail;
          }
    ]

pub are_reversed : (l : PlainLevel) (nodes : List NodeKey) (keys : List EdgeKey) (old new : Graph) (is_reversed : List ℕ) (marks : List Bool) → IsLevel l → IsGraphOf l nodes keys old → IsReversed old is_reversed → ReversesListed old new is_reversed
    → AreMarkedEdges l nodes keys new (length l.edges) marks → AreReversed l (listed marks)
are_reversed l nodes keys old new is_reversed marks level graph reversed round marked =
    let on = marked_yes l nodes keys old new is_reversed marks graph reversed round marked in
    record {
      ascending = filter_rises (is_marked marks) 0 (length marks);
      closes = closing l nodes keys old new is_reversed marks level graph reversed round marked;
      acyclic = λ a b step way.
          reversed.acyclic (node_of nodes a) (node_of nodes b) (ahead_step l nodes keys old is_reversed marks level graph marked.as_many on a b step)
          (ahead l nodes keys old is_reversed marks level graph marked.as_many on b a way);
    }

-- the same, where nodes and keys are read from equal lists
pub are_reversed_in : (l : PlainLevel) (nodes nodes' : List NodeKey) (keys keys' : List EdgeKey) (old new : Graph) (is_reversed : List ℕ) (marks : List Bool) → IsLevel l → IsGraphOf l nodes keys old → IsReversed old is_reversed → ReversesListed old new is_reversed
    → nodes' ≡ nodes → keys' ≡ keys → AreMarkedEdges l nodes' keys' new (length l.edges) marks → AreReversed l (listed marks)
are_reversed_in l nodes nodes' keys keys' old new is_reversed marks level graph reversed round same_nodes same_keys marked =
    are_reversed l nodes keys old new is_reversed marks level graph reversed round
    (subst (λ (ns : List NodeKey). AreMarkedEdges l ns keys new (length l.edges) marks) same_nodes (subst (λ (ks : List EdgeKey). AreMarkedEdges l nodes' ks new (length l.edges) marks) same_keys marked))

-- each edge of the level is one of the graph after some were reversed
pub still_edges : (l : PlainLevel) (nodes : List NodeKey) (keys : List EdgeKey) (old new : Graph) (is_reversed : List ℕ) → IsGraphOf l nodes keys old → ReversesListed old new is_reversed → (e : ℕ) → e < length l.edges → IsEdge new (key_of keys e)
still_edges l nodes keys old new is_reversed graph round e inside =
    let is = graph.edges_are.ends e inside in
    elim (cases_lt 0 (occurs (key_of keys e) is_reversed)) [
      | inl some ↦ rw (round.is_reversed (key_of keys e) (ends_of l nodes e) some is) refl
      | inr none ↦ rw (round.others (key_of keys e) (omega (arith, none)), is) refl
    ]
