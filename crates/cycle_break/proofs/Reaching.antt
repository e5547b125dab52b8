-- A search backwards keeps its ways, and misses no edge.
use Rattle.std.proofs.Common.{◌≡◌, ◌≢◌, ◌⊎◌, ◌↔◌, ℕ, zero, suc, ◌+◌, ◌<◌, ◌≤◌, List, [], ◌∷◌, ◌++◌, length, set, map, unwrap_or, Option, Some, None, IsSome, is_some, arith, refl, sym, ap, ◌∙◌, subst, inl, inr, ⊎_elim}
use Rattle.std.proofs.lemmas.Bool.{cases_eq, cases_lt}
use Rattle.std.proofs.lemmas.List.{get_or-set_same, get_or-set_other, length-append, length-set, map-append}
use Rattle.graph_arena.specs.Graph.{Graph, Ends, ends_at, in_list, front, head_in, occurs, IsNode, IsEdge, IsIncidence}
use Rattle.graph_arena.specs.Changes.{RemovesEdge, IsSame, without}
use Rattle.graph_arena.specs.Paths.{Reaches}
use Rattle.graph_arena.specs.Paths.Reaches.{stay, go}
use Rattle.cycle_break.specs.declared.searching.Reached.{Reached}
use Rattle.cycle_break.specs.declared.searching.Via.{Via}
use Rattle.cycle_break.specs.Ways.{Step, Leads, IsPath, nodes_on}
use Rattle.cycle_break.specs.Search.{Searched, IsReady, WayOn, IsLinked, IsIndexed, IsFrom, place_of, reached_at}
use Rattle.cycle_break.proofs.Lists.{first_in_ends, front_occurs, none_in, occurs-append, occurs_one, occurs_none}
use Rattle.graph_arena.proofs.Unlinking.{length-without}

-- ---- one more entry

pub old_entry : (rs : List Reached) (r : Reached) (k : ℕ) → k < length rs → reached_at (rs ++ r ∷ []) k ≡ reached_at rs k
old_entry [] r k h = absurd (omega arith)
old_entry (x ∷ rs) r zero h = refl
old_entry (x ∷ rs) r (suc k) h = old_entry rs r k (omega (arith, h))

pub new_entry : (rs : List Reached) (r : Reached) → reached_at (rs ++ r ∷ []) (length rs) ≡ r
new_entry [] r = refl
new_entry (x ∷ rs) r = new_entry rs r

pub longer : (rs : List Reached) (r : Reached) → length (rs ++ r ∷ []) ≡ length rs + 1
longer rs r = length-append rs (r ∷ [])

-- the index after one more entry
index_same : (index : List (Option ℕ)) (v k : ℕ) → v < length index → place_of (set index v (Some k)) v ≡ Some k
index_same index v k h = get_or-set_same index v (Some k) None h

index_other : (index : List (Option ℕ)) (v u k : ℕ) → u ≢ v → place_of (set index v (Some k)) u ≡ place_of index u
index_other index v u k n = get_or-set_other index v u (Some k) None n

still_some : (index : List (Option ℕ)) (v u k : ℕ) → v < length index → IsSome (place_of index u) → IsSome (place_of (set index v (Some k)) u)
still_some index v u k l h =
    elim (cases_eq u v) [
      | inl e ↦ subst (λ (i : ℕ). IsSome (place_of (set index v (Some k)) i)) (sym e) (ap is_some (index_same index v k l))
      | inr n ↦ ap is_some (index_other index v u k n) ∙ h
    ]

way_kept : (g : Graph) (to : ℕ) (rs : List Reached) (r : Reached) (k v : ℕ) (o : Option Via) → k < length rs → WayOn g to rs k v o → WayOn g to (rs ++ r ∷ []) k v o
way_kept g to rs r k v None l h = h
way_kept g to rs r k v (Some via) l h =
    let e = old_entry rs r via.next (omega (arith, h.0, l)) in
    (h.0, rw e h.1)

less_or_last : (k n : ℕ) → k < n + 1 → (k < n) ⊎ (k ≡ n)
less_or_last k n h = elim (cases_lt k n) [ inl l ↦ inl l | inr g ↦ inr (omega (arith, g, h)) ]

pub ready_more : (work : Graph) (rs : List Reached) (index : List (Option ℕ)) (r : Reached) (k : ℕ) → IsReady work rs index → IsNode work r.node.at → IsLinked (length rs) r.via → IsReady work (rs ++ r ∷ []) (set index r.node.at (Some k))
ready_more work rs index r k s live link =
    record {
      live = λ j l. elim (less_or_last j (length rs) (omega (arith, l, longer rs r))) [
        | inl b ↦ rw (old_entry rs r j b) (s.live j b)
        | inr e ↦ subst (λ (i : ℕ). IsNode work (reached_at (rs ++ r ∷ []) i).node.at) (sym e) (rw (new_entry rs r) live)
      ];
      fits = λ v n. rw (length-set index r.node.at (Some k)) (s.fits v n);
      links = λ j l. elim (less_or_last j (length rs) (omega (arith, l, longer rs r))) [
        | inl b ↦ rw (old_entry rs r j b) (s.links j b)
        | inr e ↦ subst (λ (i : ℕ). IsLinked i (reached_at (rs ++ r ∷ []) i).via) (sym e) (rw (new_entry rs r) link)
      ];
    }

some_key : (a b : ℕ) → Some a ≡ Some b → a ≡ b
some_key a b h = cc

-- what of a search does not ask for the edges
pub record Indexed (g : Graph) (to : ℕ) (rs : List Reached) (index : List (Option ℕ)) : Type 0 where
  pub ways : (k : ℕ) → k < length rs → WayOn g to rs k (reached_at rs k).node.at (reached_at rs k).via
  pub indexed : (v k : ℕ) → place_of index v ≡ Some k → (k < length rs) × ((reached_at rs k).node.at ≡ v)
  pub back : IsIndexed rs index

pub indexed_more : (g : Graph) (to : ℕ) (rs : List Reached) (index : List (Option ℕ)) (r : Reached) → Indexed g to rs index → r.node.at < length index → place_of index r.node.at ≡ None → WayOn g to (rs ++ r ∷ []) (length rs) r.node.at r.via → Indexed g to (rs ++ r ∷ []) (set index r.node.at (Some (length rs)))
indexed_more g to rs index r s fits free way =
    record {
      back = λ j l. elim (less_or_last j (length rs) (omega (arith, l, longer rs r))) [
        | inl b ↦
            let here = s.back j b in
            let other : (reached_at rs j).node.at ≢ r.node.at = λ e. let bad : None ≡ Some j = sym free ∙ (ap (λ (v : ℕ). place_of index v) (sym e) ∙ here) in cc in
            rw (old_entry rs r j b) (index_other index r.node.at (reached_at rs j).node.at (length rs) other ∙ here)
        | inr e ↦
            subst (λ (i : ℕ). place_of (set index r.node.at (Some (length rs))) (reached_at (rs ++ r ∷ []) i).node.at ≡ Some i) (sym e)
            (rw (new_entry rs r) (index_same index r.node.at (length rs) fits))
      ];
      ways = λ j l. elim (less_or_last j (length rs) (omega (arith, l, longer rs r))) [
        | inl b ↦ rw (old_entry rs r j b) (way_kept g to rs r j (reached_at rs j).node.at (reached_at rs j).via b (s.ways j b))
        | inr e ↦ subst (λ (i : ℕ). WayOn g to (rs ++ r ∷ []) i (reached_at (rs ++ r ∷ []) i).node.at (reached_at (rs ++ r ∷ []) i).via) (sym e) (rw (new_entry rs r) way)
      ];
      indexed = λ v k h. elim (cases_eq v r.node.at) [
        | inl e ↦
            let q : place_of (set index r.node.at (Some (length rs))) r.node.at ≡ Some k = subst (λ (i : ℕ). place_of (set index r.node.at (Some (length rs))) i ≡ Some k) e h in
            let same : length rs ≡ k = some_key (length rs) k (sym (index_same index r.node.at (length rs) fits) ∙ q) in
            (omega (arith, same, longer rs r), subst (λ (i : ℕ). (reached_at (rs ++ r ∷ []) i).node.at ≡ v) same (rw (new_entry rs r) (sym e)))
        | inr n ↦
            let q = s.indexed v k (sym (index_other index r.node.at v (length rs) n) ∙ h) in
            (omega (arith, q.0, longer rs r), rw (old_entry rs r k q.0) q.1)
      ];
    }

-- an edge into entry `next` was taken out, and its tail is reached
module _ (g work w1 : Graph) (to next e : ℕ) (x : Ends) (rs rs1 : List Reached) (index index1 : List (Option ℕ)) (s : Searched g work to next rs index) (at : ends_at work e ≡ Some x) (r : RemovesEdge work w1 e x.tail x.head) (i : Indexed g to rs1 index1) (kept : (v : ℕ) → IsSome (place_of index v) → IsSome (place_of index1 v)) (tail : IsSome (place_of index1 x.tail)) (later : (v k : ℕ) → place_of index1 v ≡ Some k → (place_of index v ≡ Some k) ⊎ (next ≤ k)) where
  left : (k : ℕ) (y : Ends) → ends_at w1 k ≡ Some y → ends_at work k ≡ Some y
  left k y h =
      elim (cases_eq k e) [
        | inl s ↦ let bad : None ≡ Some y = sym r.gone ∙ subst (λ (j : ℕ). ends_at w1 j ≡ Some y) s h in cc
        | inr n ↦ sym (r.other_edges k n) ∙ h
      ]

  same_ends : (y : Ends) → Some x ≡ Some y → x ≡ y
  same_ends y h = cc

  pub searched_more : Searched g w1 to next rs1 index1
  searched_more =
      record {
        sub = λ k y h. s.sub k y (left k y h);
        seen = λ k y h. elim (cases_eq k e) [
          | inl q ↦
              let same : x ≡ y = same_ends y (sym (s.sub e x at) ∙ subst (λ (j : ℕ). ends_at g j ≡ Some y) q h) in
              inr (subst (λ (z : Ends). IsSome (place_of index1 z.tail)) same tail)
          | inr n ↦ ⊎_elim (λ (z : ends_at work k ≡ Some y). inl (r.other_edges k n ∙ z)) (λ (z : IsSome (place_of index y.tail)). inr (kept y.tail z)) (s.seen k y h)
        ];
        gone = λ k y j h q. ⊎_elim (λ (z : place_of index y.head ≡ Some j). s.gone k y j (left k y h) z) (λ (z : next ≤ j). z) (later y.head j q);
        ways = i.ways;
        indexed = i.indexed;
        root = kept to s.root;
        back = i.back;
      }

-- no edge is left that enters the entry
pub searched_next : (g work : Graph) (to next : ℕ) (rs : List Reached) (index : List (Option ℕ)) → Searched g work to next rs index → IsIncidence work → front (in_list work (reached_at rs next).node.at) ≡ None → Searched g work to (next + 1) rs index
searched_next g work to next rs index s i none =
    record {
      sub = s.sub;
      seen = s.seen;
      gone = λ e x k h q.
          let l = s.gone e x k h q in
          let n : k ≢ next = λ z. none_in work (reached_at rs next).node.at e x i none h (sym (subst (λ (j : ℕ). (reached_at rs j).node.at ≡ x.head) z ((s.indexed x.head k q).1))) in
          omega (arith, l, n);
      ways = s.ways;
      indexed = s.indexed;
      root = s.root;
      back = s.back;
    }

-- ---- the whole search

-- where all entries were looked at the reached nodes are closed under steps back
pub all_seen : (g work : Graph) (to next : ℕ) (rs : List Reached) (index : List (Option ℕ)) → Searched g work to next rs index → length rs ≤ next → (a b : ℕ) → Step g a b → IsSome (place_of index b) → IsSome (place_of index a)
all_seen g work to next rs index s end a b step h =
    let k = some_place (place_of index b) h in
    ⊎_elim
    (λ (z : ends_at work step.edge ≡ Some (record { tail = a; head = b })). absurd (let l = s.gone step.edge (record { tail = a; head = b }) k.0 z k.1 in let q = (s.indexed b k.0 k.1).0 in omega (arith, l, q, end)))
    (λ (z : IsSome (place_of index a)). z)
    (s.seen step.edge (record { tail = a; head = b }) step.ends)
  where
    some_place : (o : Option ℕ) → IsSome o → (k : ℕ) × (o ≡ Some k)
    some_place None h = cc
    some_place (Some k) h = (k, refl)

pub reached_back : (g : Graph) (index : List (Option ℕ)) (a b : ℕ) → ((u v : ℕ) → Step g u v → IsSome (place_of index v) → IsSome (place_of index u)) → Reaches (Step g) a b → IsSome (place_of index b) → IsSome (place_of index a)
reached_back g index a b closed (stay _) h = h
reached_back g index a c closed (go _ b _ s r) h = closed a b s (reached_back g index b c closed r h)

-- ---- ways forward

nodes_more : (g : Graph) (a : ℕ) (es : List ℕ) (e b : ℕ) → head_in (ends_at g e) ≡ Some b → nodes_on g a (es ++ e ∷ []) ≡ nodes_on g a es ++ b ∷ []
nodes_more g a es e b is =
    ap (λ (ns : List ℕ). a ∷ ns)
    (map-append (λ (e : ℕ). unwrap_or (head_in (ends_at g e)) 0) es (e ∷ []) ∙ ap (λ (o : Option ℕ). map (λ (e : ℕ). unwrap_or (head_in (ends_at g e)) 0) es ++ unwrap_or o 0 ∷ []) is)

pub leads_more : (g : Graph) (a : ℕ) (es : List ℕ) (m e b : ℕ) → Leads g a es m → ends_at g e ≡ Some (record { tail = m; head = b }) → Leads g a (es ++ e ∷ []) b
leads_more g a [] m e b h is = (b, subst (λ (i : ℕ). ends_at g e ≡ Some (record { tail = i; head = b })) (sym h) is, refl)
leads_more g a (x ∷ es) m e b h is = (h.0, h.1, leads_more g h.0 es m e b h.2 is)

-- one more edge, to a node to which the way did not come
pub path_more : (g : Graph) (a : ℕ) (es : List ℕ) (m e b : ℕ) → IsPath g a es m → ends_at g e ≡ Some (record { tail = m; head = b }) → occurs b (nodes_on g a es) ≡ 0 → IsPath g a (es ++ e ∷ []) b
path_more g a es m e b p is new =
    record {
      leads = leads_more g a es m e b p.leads is;
      once = λ v. subst (λ (ns : List ℕ). occurs v ns ≤ 1) (sym (nodes_more g a es e b (ap head_in is)))
          (let sum = occurs-append v (nodes_on g a es) (b ∷ []) in
          elim (cases_eq b v) [
            | inl same ↦ (let none : occurs v (nodes_on g a es) ≡ 0 = subst (λ (x : ℕ). occurs x (nodes_on g a es) ≡ 0) same new in let one : occurs v (b ∷ []) ≡ 1 = subst (λ (x : ℕ). occurs v (x ∷ []) ≡ 1) (sym same) (occurs_one v) in omega (arith, sum, none, one))
            | inr other ↦ (let none = occurs_none v b other in let before = p.once v in omega (arith, sum, none, before))
          ]);
    }

-- a node of a path and of one entry more is that of the entry or was there before
pub from_more : (g : Graph) (a : ℕ) (es : List ℕ) (e b : ℕ) (rs : List Reached) (at next : ℕ) → ends_at g e ≡ Some (record { tail = (reached_at rs at).node.at; head = b }) → next < at → next < length rs → (reached_at rs next).node.at ≡ b
    → ((v : ℕ) → 0 < occurs v (nodes_on g a es) → IsFrom rs at v) → (v : ℕ) → 0 < occurs v (nodes_on g a (es ++ e ∷ [])) → IsFrom rs next v
from_more g a es e b rs at next is less within entry before v h =
    let k : 0 < occurs v (nodes_on g a es ++ b ∷ []) = subst (λ (ns : List ℕ). 0 < occurs v ns) (nodes_more g a es e b (ap head_in is)) h in
    let sum = occurs-append v (nodes_on g a es) (b ∷ []) in
    elim (cases_eq b v) [
      | inl same ↦ record { entry = next; from = omega arith; within = within; is = entry ∙ same }
      | inr other ↦
          let none = occurs_none v b other in
          let f = before v (omega (arith, k, sum, none)) in
          let from = f.from in
          record { entry = f.entry; from = omega (arith, from, less); within = f.within; is = f.is }
    ]

-- the nodes from an entry on have not that of an earlier one
pub not_from : (rs : List Reached) (index : List (Option ℕ)) (at next : ℕ) (xs : List ℕ) → IsIndexed rs index → next < at → next < length rs → ((v : ℕ) → 0 < occurs v xs → IsFrom rs at v) → occurs (reached_at rs next).node.at xs ≡ 0
not_from rs index at next xs back less within from =
    elim (cases_lt 0 (occurs (reached_at rs next).node.at xs)) [
      | inl some ↦
          let f = from (reached_at rs next).node.at some in
          let there : Some f.entry ≡ Some next = sym (back f.entry f.within) ∙ (ap (λ (v : ℕ). place_of index v) f.is ∙ back next within) in
          let same = some_key f.entry next there in
          let late = f.from in
          absurd (omega (arith, same, late, less))
      | inr none ↦ omega (arith, none)
    ]

pub path_at : (g : Graph) (rs : List Reached) (from : ℕ) → from < length rs → IsPath g (reached_at rs from).node.at [] (reached_at rs from).node.at × ((v : ℕ) → 0 < occurs v (nodes_on g (reached_at rs from).node.at []) → IsFrom rs from v)
path_at g rs from within =
    let a = (reached_at rs from).node.at in (
      record {
        leads = refl;
        once = λ v. elim (cases_eq a v) [
          | inl same ↦ subst (λ (x : ℕ). occurs x (a ∷ []) ≤ 1) same (let one = occurs_one a in omega (arith, one))
          | inr other ↦ (let none = occurs_none v a other in omega (arith, none))
        ];
      },
      λ v h. elim (cases_eq a v) [
        | inl same ↦ record { entry = from; from = omega arith; within = within; is = same }
        | inr other ↦ absurd (let none = occurs_none v a other in omega (arith, h, none))
      ],
    )

pub leads_reach : (g : Graph) (a : ℕ) (es : List ℕ) (b : ℕ) → Leads g a es b → Reaches (Step g) a b
leads_reach g a [] b h = subst (λ (i : ℕ). Reaches (Step g) a i) h (stay a)
leads_reach g a (e ∷ es) b h = go a h.0 b (record { edge = e; ends = h.1 }) (leads_reach g h.0 es b h.2)

-- ---- one step of the search, whole

pub in_edge : (work w1 : Graph) (node e t : ℕ) → IsIncidence work → front (in_list work node) ≡ Some e → ((x : Ends) → ends_at work e ≡ Some x → RemovesEdge work w1 e x.tail x.head) → ((x : Ends) → ends_at work e ≡ Some x → t ≡ x.tail) → IsNode work t × ((v : ℕ) → IsNode w1 v ↔ IsNode work v) × (length (in_list w1 node) < length (in_list work node))
in_edge work w1 node e t i is removes tail =
    let x = first_in_ends work node e i is in
    let r = removes x.0 x.1 in
    let there = front_occurs (in_list work node) e is in
    let l = length-without e (in_list work node) there in
    let less : length (in_list w1 x.0.head) < length (in_list work x.0.head) = rw r.at_head (subst (λ (j : ℕ). length (without e (in_list work j)) < length (in_list work j)) (sym x.2) (omega (arith, l))) in (
      subst (λ (j : ℕ). IsNode work j) (sym (tail x.0 x.1)) (i.tails e x.0 x.1),
      r.same_nodes,
      subst (λ (j : ℕ). length (in_list w1 j) < length (in_list work j)) x.2 less,
    )

pub first_in_live : (g : Graph) (v e : ℕ) → IsIncidence g → front (in_list g v) ≡ Some e → IsEdge g e
first_in_live g v e i h = let x = first_in_ends g v e i h in ap is_some x.1

pub ready_still : (work w1 : Graph) (rs : List Reached) (index : List (Option ℕ)) → IsReady work rs index → ((v : ℕ) → IsNode w1 v ↔ IsNode work v) → IsReady w1 rs index
ready_still work w1 rs index s same = record { live = λ k l. (same (reached_at rs k).node.at).1 (s.live k l); fits = λ v h. s.fits v ((same v).0 h); links = s.links }

pub search_keeps : (g work w1 : Graph) (to next node e t : ℕ) (rs : List Reached) (index : List (Option ℕ)) → Searched g work to next rs index → IsIncidence work → front (in_list work node) ≡ Some e → ((x : Ends) → ends_at work e ≡ Some x → RemovesEdge work w1 e x.tail x.head) → ((x : Ends) → ends_at work e ≡ Some x → t ≡ x.tail) → IsSome (place_of index t) → Searched g w1 to next rs index
search_keeps g work w1 to next node e t rs index s i is removes tail there =
    let x = first_in_ends work node e i is in
    searched_more g work w1 to next e x.0 rs rs index index s x.1 (removes x.0 x.1) (record { ways = s.ways; indexed = s.indexed; back = s.back }) (λ v h. h) (subst (λ (j : ℕ). IsSome (place_of index j)) (tail x.0 x.1) there) (λ v k h. inl h)

ends_by : (x : Ends) (a b : ℕ) → a ≡ x.tail → b ≡ x.head → Some x ≡ Some (record { tail = a; head = b })
ends_by x a b p q = rw (p, q) refl

pub search_reaches : (g work w1 : Graph) (to next node e t : ℕ) (rs : List Reached) (index : List (Option ℕ)) (r : Reached) (via : Via) → Searched g work to next rs index → IsIncidence work → front (in_list work node) ≡ Some e → ((x : Ends) → ends_at work e ≡ Some x → RemovesEdge work w1 e x.tail x.head) → ((x : Ends) → ends_at work e ≡ Some x → t ≡ x.tail) → next < length rs → (reached_at rs next).node.at ≡ node → t < length index → place_of index t ≡ None → r.node.at ≡ t → r.via ≡ Some via → via.edge.at ≡ e → via.next ≡ next → Searched g w1 to next (rs ++ r ∷ []) (set index r.node.at (Some (length rs)))
search_reaches g work w1 to next node e t rs index r via s i is removes tail l entry fits free r_node r_via v_edge v_next =
    let x = first_in_ends work node e i is in
    let fits2 : r.node.at < length index = omega (arith, fits, r_node) in
    let tail2 : r.node.at ≡ x.0.tail = r_node ∙ tail x.0 x.1 in
    let ends : ends_at g via.edge.at ≡ Some (record { tail = r.node.at; head = (reached_at rs via.next).node.at }) =
    ap (λ (j : ℕ). ends_at g j) v_edge ∙ (s.sub e x.0 x.1 ∙ ends_by x.0 r.node.at (reached_at rs via.next).node.at tail2 (ap (λ (j : ℕ). (reached_at rs j).node.at) v_next ∙ (entry ∙ sym x.2))) in
    let way : WayOn g to (rs ++ r ∷ []) (length rs) r.node.at (Some via) =
    (omega (arith, v_next, l), rw (old_entry rs r via.next (omega (arith, v_next, l))) ends) in
    searched_more g work w1 to next e x.0 rs (rs ++ r ∷ []) index (set index r.node.at (Some (length rs))) s x.1 (removes x.0 x.1)
    (indexed_more g to rs index r (record { ways = s.ways; indexed = s.indexed; back = s.back }) fits2 (ap (λ (v : ℕ). place_of index v) r_node ∙ free) (subst (λ (o : Option Via). WayOn g to (rs ++ r ∷ []) (length rs) r.node.at o) (sym r_via) way))
    (λ v h. still_some index r.node.at v (length rs) fits2 h)
    (subst (λ (j : ℕ). IsSome (place_of (set index r.node.at (Some (length rs))) j)) tail2 (ap is_some (index_same index r.node.at (length rs) fits2)))
    (λ v k h. elim (cases_eq v r.node.at) [
      | inl q ↦
          let z : place_of (set index r.node.at (Some (length rs))) r.node.at ≡ Some k = subst (λ (j : ℕ). place_of (set index r.node.at (Some (length rs))) j ≡ Some k) q h in
          let same : length rs ≡ k = some_key (length rs) k (sym (index_same index r.node.at (length rs) fits2) ∙ z) in
          inr (omega (arith, same, l))
      | inr n ↦ inl (sym (index_other index r.node.at v (length rs) n) ∙ h)
    ])

-- the search as it begins
pub search_starts : (g work : Graph) (r : Reached) (index : List (Option ℕ)) → IsSame g work → ((v : ℕ) → place_of index v ≡ None) → r.node.at < length index → r.via ≡ None → Searched g work r.node.at 0 (r ∷ []) (set index r.node.at (Some 0))
search_starts g work r index same free fits none =
    let i = indexed_more g r.node.at [] index r (record { ways = λ k l. absurd (omega (arith, l)); indexed = λ v k h. let bad : None ≡ Some k = sym (free v) ∙ h in absurd cc; back = λ k l. absurd (omega (arith, l)) }) fits (free r.node.at) (rw none refl) in
    record {
      sub = λ e x h. sym (same.same_edges e) ∙ h;
      seen = λ e x h. inl (same.same_edges e ∙ h);
      gone = λ e x k h q. omega arith;
      ways = i.ways;
      indexed = i.indexed;
      root = ap is_some (index_same index r.node.at 0 fits);
      back = i.back;
    }

pub search_started : (g work : Graph) (r : Reached) (rs0 rs : List Reached) (index index1 : List (Option ℕ)) → rs0 ≡ [] → rs ≡ rs0 ++ r ∷ [] → index1 ≡ set index r.node.at (Some (length rs0)) → IsSame g work → ((v : ℕ) → place_of index v ≡ None) → ((v : ℕ) → IsNode g v → v < length index) → IsNode g r.node.at → r.via ≡ None → IsReady work rs index1 × Searched g work r.node.at 0 rs index1
search_started g work r rs0 rs index index1 none is was same free fits live via =
    let rs_is : rs ≡ r ∷ [] = is ∙ ap (λ (l : List Reached). l ++ r ∷ []) none in
    let index_is : index1 ≡ set index r.node.at (Some 0) = was ∙ ap (λ (l : List Reached). set index r.node.at (Some (length l))) none in
    let empty : IsReady work [] index =
    record { live = λ k l. absurd (omega (arith, l)); fits = λ v h. fits v (ap is_some (sym (same.same_nodes v)) ∙ h); links = λ k l. absurd (omega (arith, l)) } in
    let a : IsReady work (r ∷ []) (set index r.node.at (Some 0)) = ready_more work [] index r 0 empty (ap is_some (same.same_nodes r.node.at) ∙ live) (rw via tt) in
    let b : Searched g work r.node.at 0 (r ∷ []) (set index r.node.at (Some 0)) = search_starts g work r index same free (fits r.node.at live) via in (
      subst (λ (l : List Reached). IsReady work l index1) (sym rs_is) (subst (λ (i : List (Option ℕ)). IsReady work (r ∷ []) i) (sym index_is) a),
      subst (λ (l : List Reached). Searched g work r.node.at 0 l index1) (sym rs_is) (subst (λ (i : List (Option ℕ)). Searched g work r.node.at 0 (r ∷ []) i) (sym index_is) b),
    )
