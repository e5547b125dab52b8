-- The document of a list of elements that no rule refuses: its nodes by their places.
use Rattle.std.proofs.Common.{◌≡◌, ℕ, zero, suc, ◌<◌, ◌≤◌, ⊎_elim, inl, inr, List, [], ◌∷◌, length, map, Bool, true, false, not, ◌||◌, Option, Some, None, refl, ap, sym, subst, ◌∙◌, arith, rules}
use Rattle.std.specs.Prelude.{filter, slice_get, slice_index_or, option_map, unwrap_or, is_some, IsSome, IsNone, IsTrue}
use Rattle.std.proofs.lemmas.Bool.{cases_eq, cases_Bool, eq-eqb, and_parts, and_from, or_left, or_right}
use Rattle.std.proofs.lemmas.List.{length-map}
use Rattle.std.proofs.lemmas.Option.{slice_get-map, slice_get_within, slice_get-get_or, get_or_from_slice_get}
use Rattle.serde_json.specs.Data.{null}
use Rattle.elk_doc.specs.declared.document.Node.{Node}
use Rattle.elk_doc.specs.Document.{Document, document, no_node, node_at, parent_of}
use Rattle.elk_doc.specs.Level.{is_child, is_number}
use Rattle.elk_doc.specs.Sound.{IsTree, HasParent, ancestor}
use Rattle.elk_json.specs.declared.elements.Kind.TheVariants as kinds
use Rattle.elk_json.specs.Elements.{Element}
use Rattle.elk_json.specs.Members.{is_node, is_compound, has_children}
use Rattle.elk_json.specs.Document.{node_of, number_at, nodes_of, ports_of, edges_of}
use Rattle.elk_json.proofs.Places.{number, at_place, at_number, number_rises, number_less, place_less}
use Rattle.elk_json.proofs.Tree.{IsRooted, IsPlaced, Climbs}
use Rattle.elk_json.proofs.NodeLaws.{compound_level, leaf_level, not_some}

abbrev pub doc_of : List Element → Document
doc_of es = document (nodes_of es) (ports_of es) (edges_of es)

abbrev no_element : Element
no_element = record { kind = kinds.Node; owner = None; holder = null; value = null }

-- ---- members of a mapped filter

pub number_zero : {X : Type 0} (test : X → Bool) (xs : List X) → number test xs 0 ≡ 0
number_zero test [] = refl
number_zero test (x ∷ xs) = refl

pub number_within : {X : Type 0} (test : X → Bool) (xs : List X) (i : ℕ) (x : X) → slice_get xs i ≡ Some x → test x ≡ true → number test xs i < length (filter test xs)
number_within test xs i x at passes = slice_get_within (filter test xs) (number test xs i) x (at_number test xs i x at passes)

pub value_at : {X Y : Type 0} (test : X → Bool) (f : X → Y) (xs : List X) (i : ℕ) (x : X) (d : Y) → slice_get xs i ≡ Some x → test x ≡ true
    → slice_index_or (map f (filter test xs)) (number test xs i) d ≡ f x
value_at test f xs i x d at passes =
    get_or_from_slice_get (map f (filter test xs)) (number test xs i) (f x) d
    (slice_get-map f (filter test xs) (number test xs i) ∙ ap (option_map f) (at_number test xs i x at passes))

-- the element behind a number
pub record Behind (test : Element → Bool) (es : List Element) (n : ℕ) : Type 0 where
  pub element : Element
  pub place : ℕ
  pub at : slice_get es place ≡ Some element
  pub passes : test element ≡ true
  pub is : number test es place ≡ n

pub behind : {Y : Type 0} (test : Element → Bool) (f : Element → Y) (es : List Element) (n : ℕ) → n < length (map f (filter test es)) → Behind test es n
behind test f es n h =
    let long : length (map f (filter test es)) ≡ length (filter test es) = length-map (filter test es) f in
    let h' : n < length (filter test es) = omega arith in
    let there = at_place test es n _ (slice_get-get_or (filter test es) n no_element h') in
    record { element = _; place = there.place; at = there.at; passes = there.passes; is = there.is }

-- ---- nodes

pub node_value : (es : List Element) (i : ℕ) (x : Element) → slice_get es i ≡ Some x → is_node x ≡ true → node_at (doc_of es) (number is_node es i) ≡ node_of es x
node_value es i x at is = value_at is_node (node_of es) es i x no_node at is

pub node_in : (es : List Element) (i : ℕ) (x : Element) → slice_get es i ≡ Some x → is_node x ≡ true → number is_node es i < length (nodes_of es)
node_in es i x at is =
    let long : length (nodes_of es) ≡ length (filter is_node es) = length-map (filter is_node es) (node_of es) in
    let h : number is_node es i < length (filter is_node es) = number_within is_node es i x at is in omega arith

parent_by : (es : List Element) (x : Element) (q : ℕ) → x.owner ≡ Some q → (node_of es x).parent ≡ Some (number is_node es q)
parent_by es x q e = ap (option_map (number_at is_node es)) e

pub parent_some : (es : List Element) (i : ℕ) (x : Element) (q : ℕ) → slice_get es i ≡ Some x → is_node x ≡ true → x.owner ≡ Some q
    → (node_at (doc_of es) (number is_node es i)).parent ≡ Some (number is_node es q)
parent_some es i x q at is e = ap (λ (n : Node). n.parent) (node_value es i x at is) ∙ parent_by es x q e

pub parent_number : (es : List Element) (i : ℕ) (x : Element) (q : ℕ) → slice_get es i ≡ Some x → is_node x ≡ true → x.owner ≡ Some q
    → parent_of (doc_of es) (number is_node es i) ≡ number is_node es q
parent_number es i x q at is e = ap (λ o. unwrap_or o 0) (parent_some es i x q at is e)

-- a place past the root's, by its number
past_root : (es : List Element) (i n : ℕ) → number is_node es i ≡ n → 0 < n → 0 < i
past_root es i n is h =
    let z : number is_node es 0 ≡ 0 = number_zero is_node es in
    let less : number is_node es 0 < number is_node es i = omega arith in
    place_less is_node es 0 i less

some_there : {X : Type 0} (o : Option X) (x : X) → o ≡ Some x → IsSome o
some_there o x e = subst (λ v. IsSome v) (sym e) (let s : IsSome (Some x) = search rules in s)

-- the node numbered n, which is not the root
pub record Below (es : List Element) (n : ℕ) : Type 0 where
  pub element : Element
  pub place : ℕ
  pub at : slice_get es place ≡ Some element
  pub passes : is_node element ≡ true
  pub is : number is_node es place ≡ n
  pub past : 0 < place
  pub placed : IsPlaced es 0 place element

pub below_root : (es : List Element) (n : ℕ) → IsRooted es → 0 < n → n < length (nodes_of es) → Below es n
below_root es n r lo hi =
    let b = behind is_node (node_of es) es n hi in
    let past : 0 < b.place = past_root es b.place n b.is lo in
    record { element = b.element; place = b.place; at = b.at; passes = b.passes; is = b.is; past = past; placed = r.placed b.place b.element past b.at }

pub parent_below : (es : List Element) (n : ℕ) (b : Below es n) → parent_of (doc_of es) n ≡ number is_node es b.placed.owner_place
parent_below es n b =
    subst (λ m. parent_of (doc_of es) m ≡ number is_node es b.placed.owner_place) b.is
    (parent_number es b.place b.element b.placed.owner_place b.at b.passes b.placed.owned)

has_parent : (es : List Element) (n : ℕ) → Below es n → HasParent (doc_of es) n
has_parent es n b =
    let up : parent_of (doc_of es) n ≡ number is_node es b.placed.owner_place = parent_below es n b in
    let less : number is_node es b.placed.owner_place < number is_node es b.place = number_less is_node es b.placed.owner_place b.place b.placed.keeper b.placed.kept b.placed.keeper_is b.placed.before in
    let here : number is_node es b.place ≡ n = b.is in
    record {
      parent = subst (λ m. IsSome (node_at (doc_of es) m).parent) here
          (some_there _ _ (parent_some es b.place b.element b.placed.owner_place b.at b.passes b.placed.owned));
      before = omega arith;
    }

in_order : (es : List Element) (n m : ℕ) → Below es n → Below es m → parent_of (doc_of es) n < m → m < n → parent_of (doc_of es) n ≤ parent_of (doc_of es) m
in_order es n m b c lo hi =
    let up : parent_of (doc_of es) n ≡ number is_node es b.placed.owner_place = parent_below es n b in
    let over : parent_of (doc_of es) m ≡ number is_node es c.placed.owner_place = parent_below es m c in
    let here : number is_node es b.place ≡ n = b.is in
    let there : number is_node es c.place ≡ m = c.is in
    let first : b.placed.owner_place < c.place = place_less is_node es b.placed.owner_place c.place (omega arith) in
    let second : c.place < b.place = place_less is_node es c.place b.place (omega arith) in
    let le : b.placed.owner_place ≤ c.placed.owner_place = b.placed.between c.place c.element c.placed.owner_place first second c.at c.passes c.placed.owned in
    let rises : number is_node es b.placed.owner_place ≤ number is_node es c.placed.owner_place = number_rises is_node es _ _ le in
    omega arith

pub root_value : (es : List Element) (r : IsRooted es) → node_at (doc_of es) 0 ≡ node_of es r.root
root_value es r = subst (λ n. node_at (doc_of es) n ≡ node_of es r.root) (number_zero is_node es) (node_value es 0 r.root r.first r.root_is)

root_in : (es : List Element) → IsRooted es → 0 < length (nodes_of es)
root_in es r = subst (λ n. n < length (nodes_of es)) (number_zero is_node es) (node_in es 0 r.root r.first r.root_is)

root_parent : (es : List Element) (r : IsRooted es) → (node_at (doc_of es) 0).parent ≡ None
root_parent es r = ap (λ (n : Node). n.parent) (root_value es r) ∙ ap (option_map (number_at is_node es)) r.alone

none_there : {X : Type 0} (o : Option X) → o ≡ None → IsNone o
none_there o e = subst (λ v. IsNone v) (sym e) (search rules)

pub sound_tree : (es : List Element) → IsRooted es → IsTree (doc_of es)
sound_tree es r = record {
  root = root_in es r;
  root_alone = none_there _ (root_parent es r);
  parents = λ n lo hi. has_parent es n (below_root es n r lo hi);
  order = λ n m hi lo less. in_order es n m (below_root es n r (omega arith) hi) (below_root es m r (omega arith) (omega arith)) lo less;
}

-- ---- levels

-- a node with children is compound
pub compound_if : (e : Element) → is_node e ≡ true → has_children e.value ≡ true → is_compound e ≡ true
compound_if e n h = and_from _ _ n (or_right (not (is_some e.owner)) (has_children e.value) h)

pub root_compound : (e : Element) → is_node e ≡ true → e.owner ≡ None → is_compound e ≡ true
root_compound e n h = and_from _ _ n (or_left (not (is_some e.owner)) (has_children e.value) (ap (λ o. not (is_some o)) h))

-- a compound node that is not the root has children
pub children_if : (e : Element) (q : ℕ) → e.owner ≡ Some q → is_compound e ≡ true → has_children e.value ≡ true
children_if e q own h = rw own at (and_parts (is_node e) (not (is_some e.owner) || has_children e.value) h).1

level_there : (es : List Element) (i : ℕ) (x : Element) → slice_get es i ≡ Some x → is_node x ≡ true → is_compound x ≡ true → IsSome (node_at (doc_of es) (number is_node es i)).level
level_there es i x at is c = some_there _ _ (ap (λ (n : Node). n.level) (node_value es i x at is) ∙ compound_level x is c)

pub compound_there : (es : List Element) (i : ℕ) (x : Element) → slice_get es i ≡ Some x → is_node x ≡ true → IsSome (node_at (doc_of es) (number is_node es i)).level → is_compound x ≡ true
compound_there es i x at is some =
    ⊎_elim (λ (e : is_compound x ≡ true). e)
    (λ (e : is_compound x ≡ false). absurd (not_some _ (ap (λ (n : Node). n.level) (node_value es i x at is) ∙ leaf_level x is e) some))
    (cases_Bool (is_compound x))

pub keeper_compound : (es : List Element) (i : ℕ) (x : Element) (p : IsPlaced es 0 i x) → is_node x ≡ true → is_compound p.keeper ≡ true
keeper_compound es i x p is = compound_if p.keeper p.keeper_is (ap has_children p.same ∙ p.parent_has is)

pub root_level : (es : List Element) → IsRooted es → IsSome (node_at (doc_of es) 0).level
root_level es r = subst (λ n. IsSome (node_at (doc_of es) n).level) (number_zero is_node es) (level_there es 0 r.root r.first r.root_is (root_compound r.root r.root_is r.alone))

pub parent_level : (es : List Element) (n : ℕ) → Below es n → IsSome (node_at (doc_of es) (parent_of (doc_of es) n)).level
parent_level es n b =
    subst (λ m. IsSome (node_at (doc_of es) m).level) (sym (parent_below es n b))
    (level_there es b.placed.owner_place b.placed.keeper b.placed.kept b.placed.keeper_is (keeper_compound es b.place b.element b.placed b.passes))

child_test : (es : List Element) (n : ℕ) (i c : ℕ) (y : Element) → number is_node es i ≡ n → slice_get es c ≡ Some y → is_node y ≡ true → y.owner ≡ Some i → IsTrue (is_child (doc_of es) n (number is_node es c))
child_test es n i c y is at node own =
    let up : (node_at (doc_of es) (number is_node es c)).parent ≡ Some (number is_node es i) = parent_some es c y i at node own in
    ap (λ o. is_number o n) up ∙ eq-eqb (number is_node es i) n is

pub only_children : (es : List Element) (n : ℕ) → Below es n → IsSome (node_at (doc_of es) n).level → (c : ℕ) × (c < length (nodes_of es)) × IsTrue (is_child (doc_of es) n c)
only_children es n b some =
    let there : IsSome (node_at (doc_of es) (number is_node es b.place)).level = subst (λ m. IsSome (node_at (doc_of es) m).level) (sym b.is) some in
    let compound : is_compound b.element ≡ true = compound_there es b.place b.element b.at b.passes there in
    let h = b.placed.child b.passes (children_if b.element b.placed.owner_place b.placed.owned compound) in
    (number is_node es h.child_place, node_in es h.child_place h.child h.stands h.child_is, child_test es n b.place h.child_place h.child b.is h.stands h.child_is h.owned)

ancestor_zero : (d : Document) (k : ℕ) → parent_of d 0 ≡ 0 → ancestor d k 0 ≡ 0
unfolding ancestor
ancestor_zero d zero h = refl
ancestor_zero d (suc k) h = rw h (ancestor_zero d k h)

ancestor_step : (d : Document) (k n m : ℕ) → parent_of d n ≡ m → ancestor d k m ≡ 0 → ancestor d (suc k) n ≡ 0
unfolding ancestor
ancestor_step d k n m e h = rw e h

root_itself : (es : List Element) → IsRooted es → parent_of (doc_of es) 0 ≡ 0
root_itself es r = ap (λ o. unwrap_or o 0) (root_parent es r)

at_zero : (es : List Element) (k i : ℕ) → IsRooted es → i ≡ 0 → ancestor (doc_of es) k (number is_node es i) ≡ 0
at_zero es k i r e =
    let z : number is_node es i ≡ 0 = ap (number is_node es) e ∙ number_zero is_node es in
    ap (ancestor (doc_of es) k) z ∙ ancestor_zero (doc_of es) k (root_itself es r)

climbed : (es : List Element) (k i : ℕ) → IsRooted es → Climbs es k i → ancestor (doc_of es) k (number is_node es i) ≡ 0
climbed es zero i r h = at_zero es 0 i r h
climbed es (suc k) i r (inl e) = at_zero es (suc k) i r e
climbed es (suc k) i r (inr h) =
    ancestor_step (doc_of es) k (number is_node es i) (number is_node es h.0) (parent_number es i h.1 h.0 h.2 h.3 h.4) (climbed es k h.0 r h.5)

pub deep_enough : (es : List Element) (n : ℕ) → IsRooted es → n < length (nodes_of es) → IsSome (node_at (doc_of es) n).level → ancestor (doc_of es) 49 n ≡ 0
deep_enough es n r hi some =
    ⊎_elim
    (λ (e : n ≡ 0). ap (ancestor (doc_of es) 49) e ∙ ancestor_zero (doc_of es) 49 (root_itself es r))
    (λ (ne : n ≡ 0 → ⊥).
    let b = below_root es n r (omega arith) hi in
    let there : IsSome (node_at (doc_of es) (number is_node es b.place)).level = subst (λ m. IsSome (node_at (doc_of es) m).level) (sym b.is) some in
    let compound : is_compound b.element ≡ true = compound_there es b.place b.element b.at b.passes there in
    let way = b.placed.depth b.passes (children_if b.element b.placed.owner_place b.placed.owned compound) in
    ap (ancestor (doc_of es) 49) (sym b.is) ∙ climbed es 49 b.place r way)
    (cases_eq n 0)
