-- The elements of an answer, beside those of the value: one by one, in the same order.
use Rattle.std.proofs.Common.{◌≡◌, ℕ, suc, ◌+◌, List, [], ◌∷◌, ◌++◌, length, map, Bool, true, false, not, bytes_eq, refl, sym, ap, ◌∙◌, subst, Option, Some, None, option_map, arith}
use Rattle.std.specs.Prelude.{codes, ◌||◌, is_some, option_and_then, slice_get}
use Rattle.std.specs.Option.{option_map_or}
use Rattle.serde_json.specs.Data.{Data, array, object, Items, no_items, item, Members, no_members, member}
use Rattle.serde_json.specs.Find.{get_member, as_array}
use Rattle.elk_doc.specs.declared.drawing.Placed.{Placed}
use Rattle.elk_doc.specs.Document.{Document}
use Rattle.elk_json.specs.declared.elements.Kind.{Kind}
use Rattle.elk_json.specs.declared.elements.Kind.TheVariants.{Node, Port, Edge}
use Rattle.elk_json.specs.Elements.{Element, items_list, listed, part, own_elements, elements_at, elements_below, elements_within, elements_among, elements}
use Rattle.elk_json.specs.Members.{has_children}
use Rattle.elk_json.specs.Keyed.{IsBelow, IsKeyed, AreItemsKeyed, AreMembersKeyed}
use Rattle.elk_write.specs.declared.numbers.Numbers.{Numbers}
use Rattle.elk_write.specs.Keys.{is_node_key}
use Rattle.elk_write.specs.Numbers.{from_zero, past_own, past_node, past_members, past_member, past_children}
use Rattle.elk_write.specs.Answered.{port_answer, port_answers, edge_answer, edge_answers, with_node, answer_node, answer_member, answer_children}
use Rattle.elk_write.specs.Merged.{IsSorted}
use Rattle.elk_write.proofs.Puts.{sorted_keyed}
use Rattle.elk_write.specs.Merged.{answered}
use Rattle.elk_write.proofs.Kept.{answer_sorted}
use Rattle.elk_write.proofs.Shape.{past_other, ports_found, edges_found, get_node, equal_bytes, same_children, stays_children, past_after, below_node}

-- ---- numbers along a list of elements

abbrev pub step_kind : Kind → Numbers → Numbers
step_kind Node a = record { node = a.node + 1; port = a.port; edge = a.edge }
step_kind Port a = record { node = a.node; port = a.port + 1; edge = a.edge }
step_kind Edge a = record { node = a.node; port = a.port; edge = a.edge + 1 }

abbrev pub steps : Numbers → List Element → Numbers
steps a [] = a
steps a (e ∷ es) = steps (step_kind e.kind a) es

pub steps_append : (a : Numbers) (xs ys : List Element) → steps a (xs ++ ys) ≡ steps (steps a xs) ys
steps_append a [] ys = refl
steps_append a (x ∷ xs) ys = steps_append (step_kind x.kind a) xs ys

same_numbers : (n m p q e f : ℕ) → n ≡ m → p ≡ q → e ≡ f → (let r : Numbers = record { node = n; port = p; edge = e } in r) ≡ (let r : Numbers = record { node = m; port = q; edge = f } in r)
same_numbers n m p q e f g h i =
    ap (λ x. let r : Numbers = record { node = x; port = p; edge = e } in r) g
    ∙ ap (λ x. let r : Numbers = record { node = m; port = x; edge = e } in r) h
    ∙ ap (λ x. let r : Numbers = record { node = m; port = q; edge = x } in r) i

steps_ports : (a : Numbers) (pl : ℕ) (h : Data) (ds : List Data) → steps a (map (part Port pl h) ds) ≡ record { node = a.node; port = a.port + length ds; edge = a.edge }
steps_ports a pl h [] = same_numbers a.node a.node a.port (a.port + 0) a.edge a.edge refl (omega arith) refl
steps_ports a pl h (d ∷ ds) = steps_ports (record { node = a.node; port = a.port + 1; edge = a.edge }) pl h ds ∙ same_numbers a.node a.node ((a.port + 1) + length ds) (a.port + suc (length ds)) a.edge a.edge refl (omega arith) refl

steps_edges : (a : Numbers) (pl : ℕ) (h : Data) (ds : List Data) → steps a (map (part Edge pl h) ds) ≡ record { node = a.node; port = a.port; edge = a.edge + length ds }
steps_edges a pl h [] = same_numbers a.node a.node a.port a.port a.edge (a.edge + 0) refl refl (omega arith)
steps_edges a pl h (d ∷ ds) = steps_edges (record { node = a.node; port = a.port; edge = a.edge + 1 }) pl h ds ∙ same_numbers a.node a.node a.port a.port ((a.edge + 1) + length ds) (a.edge + suc (length ds)) refl refl (omega arith)

-- a node's own elements bring its numbers
steps_own : (a : Numbers) (pl : ℕ) (owner : Option ℕ) (h d : Data) → steps a (own_elements pl owner h d) ≡ past_own a d
steps_own a pl owner h d =
    let b : Numbers = record { node = a.node + 1; port = a.port; edge = a.edge } in
    steps_append b (map (part Port pl d) (listed (codes "ports") d)) (map (part Edge pl d) (listed (codes "edges") d))
    ∙ ap (λ c. steps c (map (part Edge pl d) (listed (codes "edges") d))) (steps_ports b pl d (listed (codes "ports") d))
    ∙ steps_edges (record { node = a.node + 1; port = a.port + length (listed (codes "ports") d); edge = a.edge }) pl d (listed (codes "edges") d)

-- ---- pairs

module _ (doc : Document) (p : Placed) where
  -- the value of an element's answer
  abbrev pub value_answer : Kind → Numbers → Bool → Data → Data
  value_answer Node a root d = answer_node doc p a root d
  value_answer Port a root d = port_answer (slice_get p.ports a.port) d
  value_answer Edge a root d = edge_answer (slice_get doc.edges a.edge) (slice_get p.sections a.edge) d

  -- an answered node has children exactly where the node has
  abbrev pub Keeps : Kind → Data → Data → Type 0
  Keeps Node d w = has_children w ≡ has_children d
  Keeps k d w = Unit {0}

  abbrev pub Same : Numbers → Element → Element → Type 0
  Same a e f = (f.kind ≡ e.kind) × (f.owner ≡ e.owner) × (f.value ≡ value_answer e.kind a (not (is_some e.owner)) e.value) × Keeps e.kind e.value f.value

  abbrev pub Pairs : Numbers → List Element → List Element → Type 0
  Pairs a [] [] = Unit {0}
  Pairs a (e ∷ es) (f ∷ fs) = Same a e f × Pairs (step_kind e.kind a) es fs
  Pairs a es fs = ⊥

  pub pairs_append : (a : Numbers) (xs ys us vs : List Element) → Pairs a xs ys → Pairs (steps a xs) us vs → Pairs a (xs ++ us) (ys ++ vs)
  pairs_append a [] [] us vs h k = k
  pairs_append a (x ∷ xs) (y ∷ ys) us vs h k = (h.0, pairs_append (step_kind x.kind a) xs ys us vs h.1 k)
  pairs_append a xs ys us vs h k = absurd h

  pub pairs_length : (a : Numbers) (xs ys : List Element) → Pairs a xs ys → length ys ≡ length xs
  pairs_length a [] [] h = refl
  pairs_length a (x ∷ xs) (y ∷ ys) h = ap suc (pairs_length (step_kind x.kind a) xs ys h.1)
  pairs_length a xs ys h = absurd h

  port_pairs : (a : Numbers) (pl : ℕ) (h i : Data) (ds : Items) → Pairs a (map (part Port pl h) (items_list ds)) (map (part Port pl i) (items_list (port_answers p a.port ds)))
  port_pairs a pl h i no_items = tt
  port_pairs a pl h i (item d ds) = ((refl, refl, refl, tt), port_pairs (step_kind Port a) pl h i ds)

  edge_pairs : (a : Numbers) (pl : ℕ) (h i : Data) (ds : Items) → Pairs a (map (part Edge pl h) (items_list ds)) (map (part Edge pl i) (items_list (edge_answers doc p a.edge ds)))
  edge_pairs a pl h i no_items = tt
  edge_pairs a pl h i (item d ds) = ((refl, refl, refl, tt), edge_pairs (step_kind Edge a) pl h i ds)

  abbrev in_list : Option Data → List Data
  in_list o = option_map_or items_list (option_and_then as_array o) []

  found_ports : (a at below : Numbers) (pl : ℕ) (h i : Data) (o : Option Data) → a.port ≡ at.port
      → Pairs a (map (part Port pl h) (in_list o)) (map (part Port pl i) (in_list (option_map (answer_member doc p at below (codes "ports")) o)))
  found_ports a at below pl h i (Some (array ds)) e = subst (λ n. Pairs a (map (part Port pl h) (items_list ds)) (map (part Port pl i) (items_list (port_answers p n ds)))) e (port_pairs a pl h i ds)
  found_ports a at below pl h i o e = tt

  found_edges : (a at below : Numbers) (pl : ℕ) (h i : Data) (o : Option Data) → a.edge ≡ at.edge
      → Pairs a (map (part Edge pl h) (in_list o)) (map (part Edge pl i) (in_list (option_map (answer_member doc p at below (codes "edges")) o)))
  found_edges a at below pl h i (Some (array ds)) e = subst (λ n. Pairs a (map (part Edge pl h) (items_list ds)) (map (part Edge pl i) (items_list (edge_answers doc p n ds)))) e (edge_pairs a pl h i ds)
  found_edges a at below pl h i o e = tt

  -- the answer of a node, as it stands
  abbrev answer_of : Numbers → Bool → Numbers → Members → Data
  answer_of at compound below ms = object (with_node compound doc p at.node (answered doc p at compound below ms))

  own_pairs : (at : Numbers) (root compound : Bool) (below : Numbers) (pl : ℕ) (owner : Option ℕ) (h i : Data) (ms : Members) → not (is_some owner) ≡ root
      → answer_node doc p at root (object ms) ≡ answer_of at compound below ms
      → Pairs at (own_elements pl owner h (object ms)) (own_elements pl owner i (answer_of at compound below ms))
  own_pairs at root compound below pl owner h i ms r is =
      let w = answer_of at compound below ms in
      let b : Numbers = record { node = at.node + 1; port = at.port; edge = at.edge } in
      let ports = get_node (codes "ports") compound doc p at.node (answered doc p at compound below ms) refl ∙ ports_found doc p at compound ms below in
      let edges = get_node (codes "edges") compound doc p at.node (answered doc p at compound below ms) refl ∙ edges_found doc p at compound ms below in (
        (refl, refl, sym is ∙ ap (λ r. answer_node doc p at r (object ms)) (sym r), same_children doc p at below compound at.node ms),
        pairs_append b (map (part Port pl (object ms)) (in_list (get_member (codes "ports") ms))) (map (part Port pl w) (listed (codes "ports") w)) (map (part Edge pl (object ms)) (in_list (get_member (codes "edges") ms))) (map (part Edge pl w) (listed (codes "edges") w))
            (subst (λ o. Pairs b (map (part Port pl (object ms)) (in_list (get_member (codes "ports") ms))) (map (part Port pl w) (in_list o))) (sym ports) (found_ports b at below pl (object ms) w (get_member (codes "ports") ms) refl))
            (subst (λ o. Pairs (steps b (map (part Port pl (object ms)) (in_list (get_member (codes "ports") ms)))) (map (part Edge pl (object ms)) (in_list (get_member (codes "edges") ms))) (map (part Edge pl w) (in_list o))) (sym edges)
            (found_edges (steps b (map (part Port pl (object ms)) (in_list (get_member (codes "ports") ms)))) at below pl (object ms) w (get_member (codes "edges") ms) (ap (λ c. c.edge) (steps_ports b pl (object ms) (in_list (get_member (codes "ports") ms)))))),
      )

  -- ---- what stands in a node

  -- paired, and the numbers that follow
  abbrev pub Both : Numbers → List Element → List Element → Numbers → Type 0
  Both a xs ys b = Pairs a xs ys × (steps a xs ≡ b)

  both_append : (a b c : Numbers) (xs ys us vs : List Element) → Both a xs ys b → Both b us vs c → Both a (xs ++ us) (ys ++ vs) c
  both_append a b c xs ys us vs h k =
      (pairs_append a xs ys us vs h.0 (subst (λ s. Pairs s us vs) (sym h.1) k.0), steps_append a xs us ∙ ap (λ s. steps s us) h.1 ∙ k.1)

  -- a member whose key is not that of the children
  other_gone : (compound : Bool) (k : List ℕ) (b : Bool) → bytes_eq k (codes "children") ≡ b → is_node_key compound k ≡ true → bytes_eq k (codes "children") ≡ false
  other_gone compound k true is gone = let bad : true ≡ false = sym gone ∙ ap (is_node_key compound) (equal_bytes k (codes "children") is) ∙ stays_children compound in absurd (cc)
  other_gone compound k false is gone = is

  below_gone : (at : Numbers) (compound : Bool) (pl owner : ℕ) (h i : Data) (k : List ℕ) (d : Data) (ms : Members) (below : Numbers)
      → is_node_key compound k ≡ true → bytes_eq k (codes "children") ≡ false
      → Both below (elements_below pl owner h ms) (elements_below pl owner i (answered doc p at compound below ms)) (past_members below ms)
      → Both below (elements_below pl owner h (member k d ms)) (elements_below pl owner i (answered doc p at compound below (member k d ms))) (past_members below (member k d ms))
  below_gone at compound pl owner h i k d ms below gone away ih =
      let answer : answered doc p at compound below (member k d ms) ≡ answered doc p at compound below ms = rw gone refl in
      let left : elements_below pl owner h (member k d ms) ≡ elements_below pl owner h ms = rw away refl in
      subst (λ ws. Both below (elements_below pl owner h (member k d ms)) (elements_below pl owner i ws) (past_members below (member k d ms))) (sym answer)
      (subst (λ xs. Both below xs (elements_below pl owner i (answered doc p at compound below ms)) (past_members below (member k d ms))) (sym left)
      (subst (λ c. Both below (elements_below pl owner h ms) (elements_below pl owner i (answered doc p at compound below ms)) (past_members c ms)) (sym (past_other k below d away)) ih))

  below_kept : (at : Numbers) (compound : Bool) (pl owner : ℕ) (h i : Data) (k : List ℕ) (d : Data) (ms : Members) (below : Numbers)
      → is_node_key compound k ≡ false → bytes_eq k (codes "children") ≡ false
      → Both below (elements_below pl owner h ms) (elements_below pl owner i (answered doc p at compound below ms)) (past_members below ms)
      → Both below (elements_below pl owner h (member k d ms)) (elements_below pl owner i (answered doc p at compound below (member k d ms))) (past_members below (member k d ms))
  below_kept at compound pl owner h i k d ms below kept away ih =
      let answer : answered doc p at compound below (member k d ms) ≡ member k (answer_member doc p at below k d) (answered doc p at compound (past_member k below d) ms) = rw kept refl in
      let right : elements_below pl owner i (member k (answer_member doc p at below k d) (answered doc p at compound (past_member k below d) ms)) ≡ elements_below pl owner i (answered doc p at compound (past_member k below d) ms) = rw away refl in
      let left : elements_below pl owner h (member k d ms) ≡ elements_below pl owner h ms = rw away refl in
      subst (λ ws. Both below (elements_below pl owner h (member k d ms)) ws (past_members below (member k d ms))) (sym (ap (elements_below pl owner i) answer ∙ right))
      (subst (λ xs. Both below xs (elements_below pl owner i (answered doc p at compound (past_member k below d) ms)) (past_members below (member k d ms))) (sym left)
      (subst (λ c. Both below (elements_below pl owner h ms) (elements_below pl owner i (answered doc p at compound c ms)) (past_members c ms)) (sym (past_other k below d away)) ih))

  below_here : (at : Numbers) (compound : Bool) (pl owner : ℕ) (h i : Data) (k : List ℕ) (d : Data) (ms : Members) (below : Numbers)
      → is_node_key compound k ≡ false → bytes_eq k (codes "children") ≡ true → IsBelow k ms
      → Both below (elements_within pl owner h d) (elements_within pl owner i (answer_member doc p at below k d)) (past_member k below d)
      → Both below (elements_below pl owner h (member k d ms)) (elements_below pl owner i (answered doc p at compound below (member k d ms))) (past_members below (member k d ms))
  below_here at compound pl owner h i k d ms below kept here above ih =
      let answer : answered doc p at compound below (member k d ms) ≡ member k (answer_member doc p at below k d) (answered doc p at compound (past_member k below d) ms) = rw kept refl in
      let right : elements_below pl owner i (member k (answer_member doc p at below k d) (answered doc p at compound (past_member k below d) ms)) ≡ elements_within pl owner i (answer_member doc p at below k d) = rw here refl in
      let left : elements_below pl owner h (member k d ms) ≡ elements_within pl owner h d = rw here refl in
      subst (λ ws. Both below (elements_below pl owner h (member k d ms)) ws (past_members below (member k d ms))) (sym (ap (elements_below pl owner i) answer ∙ right))
      (subst (λ xs. Both below xs (elements_within pl owner i (answer_member doc p at below k d)) (past_members below (member k d ms))) (sym left)
      (subst (λ c. Both below (elements_within pl owner h d) (elements_within pl owner i (answer_member doc p at below k d)) c) (sym (past_after k ms (past_member k below d) here above)) ih))

  below_if : (gone here : Bool) (at : Numbers) (compound : Bool) (pl owner : ℕ) (h i : Data) (k : List ℕ) (d : Data) (ms : Members) (below : Numbers)
      → is_node_key compound k ≡ gone → bytes_eq k (codes "children") ≡ here → IsBelow k ms
      → (bytes_eq k (codes "children") ≡ true → Both below (elements_within pl owner h d) (elements_within pl owner i (answer_member doc p at below k d)) (past_member k below d))
      → Both below (elements_below pl owner h ms) (elements_below pl owner i (answered doc p at compound below ms)) (past_members below ms)
      → Both below (elements_below pl owner h (member k d ms)) (elements_below pl owner i (answered doc p at compound below (member k d ms))) (past_members below (member k d ms))
  below_if true here at compound pl owner h i k d ms below g e above one ih = below_gone at compound pl owner h i k d ms below g (other_gone compound k here e g) ih
  below_if false true at compound pl owner h i k d ms below g e above one ih = below_here at compound pl owner h i k d ms below g e above (one e)
  below_if false false at compound pl owner h i k d ms below g e above one ih = below_kept at compound pl owner h i k d ms below g e ih

  -- a node whose insides are paired
  node_pairs : (a : Numbers) (root : Bool) (pl : ℕ) (owner : Option ℕ) (h i : Data) (ms : Members) → IsSorted ms → not (is_some owner) ≡ root
      → ((at below : Numbers) (compound : Bool) (pl owner : ℕ) (h i : Data) → Both below (elements_below pl owner h ms) (elements_below pl owner i (answered doc p at compound below ms)) (past_members below ms))
      → Both a (elements_at pl owner h (object ms)) (elements_at pl owner i (answer_node doc p a root (object ms))) (past_node a (object ms))
  node_pairs a root pl owner h i ms sorted r ih =
      let v = object ms in
      let compound = root || has_children v in
      let below = past_own a v in
      let w = answer_of a compound below ms in
      let inner = answered doc p a compound below ms in
      let is : answer_node doc p a root v ≡ w = ap (λ x. object (with_node compound doc p a.node x)) (answer_sorted doc p a compound ms below sorted) in
      let own = own_pairs a root compound below pl owner h i ms r is in
      let same : length (own_elements pl owner i w) ≡ length (own_elements pl owner h v) = pairs_length a (own_elements pl owner h v) (own_elements pl owner i w) own in
      let at_rest = pl + length (own_elements pl owner h v) in
      let rest : elements_below (pl + length (own_elements pl owner i w)) pl w (with_node compound doc p a.node inner) ≡ elements_below at_rest pl w inner =
      ap (λ n. elements_below (pl + n) pl w (with_node compound doc p a.node inner)) same ∙ below_node at_rest pl w compound doc p a.node inner in
      subst (λ x. Both a (elements_at pl owner h v) (elements_at pl owner i x) (past_node a v)) (sym is)
      (subst (λ ws. Both a (elements_at pl owner h v) (own_elements pl owner i w ++ ws) (past_node a v)) (sym rest)
      (both_append a below (past_members below ms) (own_elements pl owner h v) (own_elements pl owner i w) (elements_below at_rest pl v ms) (elements_below at_rest pl w inner)
      (own, steps_own a pl owner h v) (ih a below compound at_rest pl v w)))

  alone : (a : Numbers) (root : Bool) (pl : ℕ) (owner : Option ℕ) (h i d : Data) → not (is_some owner) ≡ root → answer_node doc p a root d ≡ d
      → listed (codes "ports") d ≡ [] → listed (codes "edges") d ≡ []
      → Both a (own_elements pl owner h d) (own_elements pl owner i d) (past_own a d)
  alone a root pl owner h i d r is ports edges =
      let node : Element = record { kind = Node; owner = owner; holder = h; value = d } in
      let copy : Element = record { kind = Node; owner = owner; holder = i; value = d } in
      let left : (g : Data) → own_elements pl owner g d ≡ (let e : Element = record { kind = Node; owner = owner; holder = g; value = d } in e) ∷ [] =
      λ g. ap (λ ps. (let e : Element = record { kind = Node; owner = owner; holder = g; value = d } in e) ∷ (map (part Port pl d) ps ++ map (part Edge pl d) (listed (codes "edges") d))) ports
      ∙ ap (λ es. (let e : Element = record { kind = Node; owner = owner; holder = g; value = d } in e) ∷ map (part Edge pl d) es) edges in
      (subst (λ xs. Pairs a xs (own_elements pl owner i d)) (sym (left h)) (subst (λ ys. Pairs a (node ∷ []) ys) (sym (left i)) ((refl, refl, sym is ∙ ap (λ r. answer_node doc p a r d) (sym r), refl), tt)), steps_own a pl owner h d)

  children_pairs : (at below : Numbers) (l : List ℕ) (pl owner : ℕ) (h i : Data) (ds : Items) → bytes_eq l (codes "children") ≡ true
      → Both below (elements_among pl owner h ds) (elements_among pl owner i (answer_children doc p below ds)) (past_children below ds)
      → Both below (elements_within pl owner h (array ds)) (elements_within pl owner i (answer_member doc p at below l (array ds))) (past_member l below (array ds))
  children_pairs at below l pl owner h i ds e both =
      let answer : answer_member doc p at below l (array ds) ≡ array (answer_children doc p below ds) = rw e refl in
      let past : past_member l below (array ds) ≡ past_children below ds = rw e refl in
      subst (λ w. Both below (elements_among pl owner h ds) (elements_within pl owner i w) (past_member l below (array ds))) (sym answer)
      (subst (λ c. Both below (elements_among pl owner h ds) (elements_among pl owner i (answer_children doc p below ds)) c) (sym past) both)

  next_pairs : (a : Numbers) (pl owner : ℕ) (h i d : Data) (ds : Items)
      → Both a (elements_at pl (Some owner) h d) (elements_at pl (Some owner) i (answer_node doc p a false d)) (past_node a d)
      → ((pl : ℕ) → Both (past_node a d) (elements_among pl owner h ds) (elements_among pl owner i (answer_children doc p (past_node a d) ds)) (past_children (past_node a d) ds))
      → Both a (elements_among pl owner h (item d ds)) (elements_among pl owner i (answer_children doc p a (item d ds))) (past_children a (item d ds))
  next_pairs a pl owner h i d ds first rest =
      let xs = elements_at pl (Some owner) h d in
      let ys = elements_at pl (Some owner) i (answer_node doc p a false d) in
      let b = past_node a d in
      let same : length ys ≡ length xs = pairs_length a xs ys first.0 in
      subst (λ n. Both a (elements_among pl owner h (item d ds)) (ys ++ elements_among (pl + n) owner i (answer_children doc p b ds)) (past_children a (item d ds))) (sym same)
      (both_append a b (past_children b ds) xs ys (elements_among (pl + length xs) owner h ds) (elements_among (pl + length xs) owner i (answer_children doc p b ds)) first (rest (pl + length xs)))

  mutual
    pub pairs_node : (d : Data) (a : Numbers) (root : Bool) (pl : ℕ) (owner : Option ℕ) (h i : Data) → IsKeyed d → not (is_some owner) ≡ root
        → Both a (elements_at pl owner h d) (elements_at pl owner i (answer_node doc p a root d)) (past_node a d)
    pairs_node (object ms) a root pl owner h i k r = node_pairs a root pl owner h i ms (sorted_keyed ms k) r (λ at below compound pl owner h i. pairs_below ms at below compound pl owner h i k)
    pairs_node d a root pl owner h i k r = alone a root pl owner h i d r refl refl refl

    pairs_below : (ms : Members) (at below : Numbers) (compound : Bool) (pl owner : ℕ) (h i : Data) → AreMembersKeyed ms
        → Both below (elements_below pl owner h ms) (elements_below pl owner i (answered doc p at compound below ms)) (past_members below ms)
    pairs_below no_members at below compound pl owner h i k = (tt, refl)
    pairs_below (member l d ms) at below compound pl owner h i k =
        below_if (is_node_key compound l) (bytes_eq l (codes "children")) at compound pl owner h i l d ms below refl refl k.0
        (λ e. pairs_within d at below l pl owner h i e k.1) (pairs_below ms at below compound pl owner h i k.2)

    pairs_within : (d : Data) (at below : Numbers) (l : List ℕ) (pl owner : ℕ) (h i : Data) → bytes_eq l (codes "children") ≡ true → IsKeyed d
        → Both below (elements_within pl owner h d) (elements_within pl owner i (answer_member doc p at below l d)) (past_member l below d)
    pairs_within (array ds) at below l pl owner h i e k = children_pairs at below l pl owner h i ds e (pairs_among ds below pl owner h i k)
    pairs_within d at below l pl owner h i e k = (tt, refl)

    pairs_among : (ds : Items) (a : Numbers) (pl owner : ℕ) (h i : Data) → AreItemsKeyed ds
        → Both a (elements_among pl owner h ds) (elements_among pl owner i (answer_children doc p a ds)) (past_children a ds)
    pairs_among no_items a pl owner h i k = (tt, refl)
    pairs_among (item d ds) a pl owner h i k =
        next_pairs a pl owner h i d ds (pairs_node d a false pl (Some owner) h i k.0 refl) (λ pl. pairs_among ds (past_node a d) pl owner h i k.1)

pub pairs_whole : (doc : Document) (p : Placed) (d : Data) → IsKeyed d → Pairs doc p from_zero (elements d) (elements (answer_node doc p from_zero true d))
pairs_whole doc p d k = (pairs_node doc p d from_zero true 0 None d (answer_node doc p from_zero true d) k refl).0
