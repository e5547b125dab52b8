-- The elements of a value stand in the order of a tree.
use Rattle.std.proofs.Common.{◌≡◌, ℕ, zero, suc, ◌+◌, ◌<◌, ◌≤◌, ◌⊎◌, ⊎_elim, inl, inr, List, [], ◌∷◌, ◌++◌, length, map, Bool, true, false, Option, Some, None, Ordering, Less, Equal, Greater, is_eq, refl, ap, sym, subst, ◌∙◌, arith, append_assoc}
use Rattle.std.specs.Prelude.{slice_get, bytes_eq, codes, nat_lt}
use Rattle.std.specs.Option.{option_map_or, option_and_then}
use Rattle.std.specs.Ordering.{nat_cmp, match_ordering}
use Rattle.std.specs.Cmp.Lexicographic.{slice_cmp}
use Rattle.std.proofs.lemmas.Bool.{lt-ltb, cases_lt, cases_eq, cond_both}
use Rattle.std.proofs.lemmas.List.{length-append}
use Rattle.std.proofs.lemmas.Map.Text.{is_eq-slice_cmp}
use Rattle.std.proofs.lemmas.Option.{same_Some, slice_get_within}
use Rattle.serde_json.specs.Data.{Data, null, boolean, number, string, array, object, Items, no_items, item, Members, no_members, member}
use Rattle.serde_json.specs.Find.{get_member, as_array}
use Rattle.elk_json.specs.declared.elements.Kind.{Kind}
use Rattle.elk_json.specs.declared.elements.Kind.TheVariants.{Node, Port, Edge}
use Rattle.elk_json.specs.Elements.{Element, items_list, listed, part, own_elements, elements_at, elements_below, elements_within, elements_among, elements}
use Rattle.elk_json.specs.Members.{is_node, kind_is_node, has_children}
use Rattle.elk_json.specs.Ranges.{levels, levels_below, levels_within, levels_among}
use Rattle.elk_json.proofs.Firsts.{bytes_turn}

-- ---- the member of this key

equal_picks : (o : Ordering) (a b : Option Data) → is_eq o ≡ true → match_ordering o a b a ≡ b
equal_picks Less a b e = absurd cc
equal_picks Equal a b e = refl
equal_picks Greater a b e = absurd cc

other_picks : (o : Ordering) (a b : Option Data) → is_eq o ≡ false → match_ordering o a b a ≡ a
other_picks Less a b e = refl
other_picks Equal a b e = absurd cc
other_picks Greater a b e = refl

key_test : (key k : List ℕ) → is_eq (slice_cmp nat_cmp key k) ≡ bytes_eq k key
key_test key k = is_eq-slice_cmp key k ∙ bytes_turn key k

pub member_here : (key k : List ℕ) (d : Data) (ms : Members) → bytes_eq k key ≡ true → get_member key (member k d ms) ≡ Some d
member_here key k d ms e = equal_picks (slice_cmp nat_cmp key k) (get_member key ms) (Some d) (key_test key k ∙ e)

pub member_next : (key k : List ℕ) (d : Data) (ms : Members) → bytes_eq k key ≡ false → get_member key (member k d ms) ≡ get_member key ms
member_next key k d ms e = other_picks (slice_cmp nat_cmp key k) (get_member key ms) (Some d) (key_test key k ∙ e)

abbrev items_in : Option Data → List Data
items_in o = option_map_or items_list (option_and_then as_array o) []

listed_here : (k : List ℕ) (d : Data) (ms : Members) → bytes_eq k (codes "children") ≡ true → listed (codes "children") (object (member k d ms)) ≡ items_in (Some d)
listed_here k d ms e = ap items_in (member_here (codes "children") k d ms e)

listed_next : (k : List ℕ) (d : Data) (ms : Members) → bytes_eq k (codes "children") ≡ false → listed (codes "children") (object (member k d ms)) ≡ listed (codes "children") (object ms)
listed_next k d ms e = ap items_in (member_next (codes "children") k d ms e)

-- ---- stretches of the list

-- these elements stand in the list from a place on
abbrev Stands : List Element → ℕ → List Element → Type 0
Stands es a [] = Unit {0}
Stands es a (x ∷ xs) = (slice_get es a ≡ Some x) × Stands es (suc a) xs

stands_left : (es : List Element) (a : ℕ) (xs ys : List Element) → Stands es a (xs ++ ys) → Stands es a xs
stands_left es a [] ys h = tt
stands_left es a (x ∷ xs) ys h = (h.0, stands_left es (suc a) xs ys h.1)

stands_right : (es : List Element) (a : ℕ) (xs ys : List Element) → Stands es a (xs ++ ys) → Stands es (a + length xs) ys
stands_right es a [] ys h = let e : a ≡ a + length {A = Element} [] = omega arith in subst (λ n. Stands es n ys) e h
stands_right es a (x ∷ xs) ys h =
    let e : suc a + length xs ≡ a + length (x ∷ xs) = omega arith in
    subst (λ n. Stands es n ys) e (stands_right es (suc a) xs ys h.1)

stands_here : (pre : List Element) (x : Element) (xs : List Element) → slice_get (pre ++ x ∷ xs) (length pre) ≡ Some x
stands_here [] x xs = refl
stands_here (y ∷ pre) x xs = stands_here pre x xs

stands_from : (pre xs : List Element) → Stands (pre ++ xs) (length pre) xs
stands_from pre [] = tt
stands_from pre (x ∷ xs) =
    let rest : Stands ((pre ++ x ∷ []) ++ xs) (length (pre ++ x ∷ [])) xs = stands_from (pre ++ x ∷ []) xs in
    let long : length (pre ++ x ∷ []) ≡ suc (length pre) = omega (arith, length-append pre (x ∷ [])) in
    (stands_here pre x xs, subst (λ n. Stands (pre ++ x ∷ xs) n xs) long (subst (λ es. Stands es (length (pre ++ x ∷ [])) xs) (append_assoc pre (x ∷ []) xs) rest))

-- ---- what is known of an element that is not the root

-- a node that stands at the node of this place
pub record HasChild (es : List Element) (i : ℕ) : Type 0 where
  pub child_place : ℕ
  pub child : Element
  pub stands : slice_get es child_place ≡ Some child
  pub child_is : is_node child ≡ true
  pub owned : child.owner ≡ Some i

-- at most this many steps lead from the node to the root
abbrev pub Climbs : List Element → ℕ → ℕ → Type 0
Climbs es zero p = p ≡ 0
Climbs es (suc k) p = (p ≡ 0) ⊎ ((q : ℕ) × (x : Element) × (slice_get es p ≡ Some x) × (is_node x ≡ true) × (x.owner ≡ Some q) × Climbs es k q)

-- the element x at place i, whose owner stands at the place low or later
pub record IsPlaced (es : List Element) (low i : ℕ) (x : Element) : Type 0 where
  pub owner_place : ℕ
  pub owned : x.owner ≡ Some owner_place
  pub low_owner : low ≤ owner_place
  pub before : owner_place < i
  pub keeper : Element
  pub kept : slice_get es owner_place ≡ Some keeper
  pub keeper_is : is_node keeper ≡ true
  pub same : keeper.value ≡ x.holder
  pub between : (m : ℕ) (y : Element) (q : ℕ) → owner_place < m → m < i → slice_get es m ≡ Some y → is_node y ≡ true → y.owner ≡ Some q → owner_place ≤ q
  pub lone : is_node x ≡ false → (m : ℕ) (y : Element) → owner_place < m → m < i → slice_get es m ≡ Some y → is_node y ≡ false
  pub parent_has : is_node x ≡ true → has_children x.holder ≡ true
  pub child : is_node x ≡ true → has_children x.value ≡ true → HasChild es i
  pub depth : is_node x ≡ true → has_children x.value ≡ true → Climbs es 49 i

abbrev ArePlaced : List Element → ℕ → ℕ → List Element → Type 0
ArePlaced es low a [] = Unit {0}
ArePlaced es low a (x ∷ xs) = IsPlaced es low a x × ArePlaced es low (suc a) xs

placed_append : (es : List Element) (low a : ℕ) (xs ys : List Element) → ArePlaced es low a xs → ArePlaced es low (a + length xs) ys → ArePlaced es low a (xs ++ ys)
placed_append es low a [] ys h k = let e : a + length {A = Element} [] ≡ a = omega arith in subst (λ n. ArePlaced es low n ys) e k
placed_append es low a (x ∷ xs) ys h k =
    let e : a + length (x ∷ xs) ≡ suc a + length xs = omega arith in
    (h.0, placed_append es low (suc a) xs ys h.1 (subst (λ n. ArePlaced es low n ys) e k))

lowered : (es : List Element) (low less i : ℕ) (x : Element) → less ≤ low → IsPlaced es low i x → IsPlaced es less i x
lowered es low less i x h p = record {
  owner_place = p.owner_place;
  owned = p.owned;
  low_owner = (let l : low ≤ p.owner_place = p.low_owner in omega arith);
  before = p.before;
  keeper = p.keeper;
  kept = p.kept;
  keeper_is = p.keeper_is;
  same = p.same;
  between = p.between;
  lone = p.lone;
  parent_has = p.parent_has;
  child = p.child;
  depth = p.depth;
}

placed_lower : (es : List Element) (low less a : ℕ) (xs : List Element) → less ≤ low → ArePlaced es low a xs → ArePlaced es less a xs
placed_lower es low less a [] h p = tt
placed_lower es low less a (x ∷ xs) h p = (lowered es low less a x h p.0, placed_lower es low less (suc a) xs h p.1)

pub placed_there : (es : List Element) (low a : ℕ) (xs : List Element) → Stands es a xs → ArePlaced es low a xs
    → (m : ℕ) (y : Element) → a ≤ m → m < a + length xs → slice_get es m ≡ Some y → IsPlaced es low m y
placed_there es low a [] s p m y h k at = absurd (omega arith)
placed_there es low a (x ∷ xs) s p m y h k at =
    ⊎_elim
    (λ (e : m ≡ a).
    let there : slice_get es a ≡ Some y = subst (λ n. slice_get es n ≡ Some y) e at in
    let same : x ≡ y = same_Some x y (sym s.0 ∙ there) in
    subst (λ n. IsPlaced es low n y) (sym e) (subst (λ z. IsPlaced es low a z) same p.0))
    (λ (n : m ≡ a → ⊥). placed_there es low (suc a) xs s.1 p.1 m y (omega arith) (omega arith) at)
    (cases_eq m a)

-- ---- the way to the root

weaker : (es : List Element) (k p : ℕ) → Climbs es k p → Climbs es (suc k) p
weaker es zero p h = inl h
weaker es (suc k) p (inl h) = inl h
weaker es (suc k) p (inr h) = inr (h.0, h.1, h.2, h.3, h.4, weaker es k h.0 h.5)

climbs_more : (es : List Element) (j n p : ℕ) → Climbs es j p → j ≤ n → Climbs es n p
climbs_more es j zero p c h = let e : j ≡ 0 = omega arith in subst (λ k. Climbs es k p) e c
climbs_more es j (suc n) p c h =
    ⊎_elim (λ (e : j ≡ suc n). subst (λ k. Climbs es k p) e c)
    (λ (ne : j ≡ suc n → ⊥). let less : j ≤ n = omega arith in weaker es n p (climbs_more es j n p c less))
    (cases_eq j (suc n))

-- ---- parts of a node

abbrev NoNodes : List Element → ℕ → ℕ → Type 0
NoNodes es node place = (m : ℕ) (y : Element) → node < m → m < place → slice_get es m ≡ Some y → is_node y ≡ false

no_more : (es : List Element) (node place : ℕ) (x : Element) → NoNodes es node place → slice_get es place ≡ Some x → is_node x ≡ false → NoNodes es node (suc place)
no_more es node place x none at is = λ m y lo hi there.
    ⊎_elim
    (λ (e : m ≡ place).
    let same : x ≡ y = same_Some x y (sym at ∙ subst (λ n. slice_get es n ≡ Some y) e there) in
    ap is_node (sym same) ∙ is)
    (λ (ne : m ≡ place → ⊥). none m y lo (omega arith) there)
    (cases_eq m place)

parts_none : (kind : Kind) (es : List Element) (node place : ℕ) (d : Data) (xs : List Data) → kind_is_node kind ≡ false → NoNodes es node place
    → Stands es place (map (part kind node d) xs) → NoNodes es node (place + length (map (part kind node d) xs))
parts_none kind es node place d [] is none s = let e : place ≡ place + length {A = Element} [] = omega arith in subst (λ n. NoNodes es node n) e none
parts_none kind es node place d (x ∷ xs) is none s =
    let e : suc place + length (map (part kind node d) xs) ≡ place + length (map (part kind node d) (x ∷ xs)) = omega arith in
    subst (λ n. NoNodes es node n) e (parts_none kind es node (suc place) d xs is (no_more es node place (part kind node d x) none s.0 is) s.1)

parts_placed : (kind : Kind) (es : List Element) (low node place : ℕ) (d : Data) (keeper : Element) (xs : List Data) → kind_is_node kind ≡ false
    → slice_get es node ≡ Some keeper → is_node keeper ≡ true → keeper.value ≡ d → low ≤ node → node < place → NoNodes es node place
    → Stands es place (map (part kind node d) xs) → ArePlaced es low place (map (part kind node d) xs)
parts_placed kind es low node place d keeper [] is at keeps same l b none s = tt
parts_placed kind es low node place d keeper (x ∷ xs) is at keeps same l b none s = (
  record {
    owner_place = node;
    owned = refl;
    low_owner = l;
    before = b;
    keeper = keeper;
    kept = at;
    keeper_is = keeps;
    same = same;
    between = λ m y q lo hi there node_is own. (let not_is : is_node y ≡ false = none m y lo hi there in absurd cc);
    lone = λ _. none;
    parent_has = λ node_is. absurd cc;
    child = λ node_is c. absurd cc;
    depth = λ node_is c. absurd cc;
  },
  parts_placed kind es low node (suc place) d keeper xs is at keeps same l (omega arith) (no_more es node place (part kind node d x) none s.0 is) s.1,
)

-- ---- a node that the children of another hold

record Holds (es : List Element) (node place depth : ℕ) (keeper : Element) : Type 0 where
  stands : slice_get es node ≡ Some keeper
  is : is_node keeper ≡ true
  before : node < place
  between : (m : ℕ) (y : Element) (q : ℕ) → node < m → m < place → slice_get es m ≡ Some y → is_node y ≡ true → y.owner ≡ Some q → node ≤ q
  climbs : Climbs es depth node

-- the parts of a node stand with no node between
own_parts : (es : List Element) (low place : ℕ) (x : Element) (d : Data) → slice_get es place ≡ Some x → is_node x ≡ true → x.value ≡ d → low ≤ place
    → Stands es (suc place) (map (part Port place d) (listed (codes "ports") d) ++ map (part Edge place d) (listed (codes "edges") d))
    → ArePlaced es low (suc place) (map (part Port place d) (listed (codes "ports") d) ++ map (part Edge place d) (listed (codes "edges") d))
    × NoNodes es place (suc place + length (map (part Port place d) (listed (codes "ports") d) ++ map (part Edge place d) (listed (codes "edges") d)))
own_parts es low place x d at is same l s =
    let ps = map (part Port place d) (listed (codes "ports") d) in
    let qs = map (part Edge place d) (listed (codes "edges") d) in
    let left : Stands es (suc place) ps = stands_left es (suc place) ps qs s in
    let right : Stands es (suc place + length ps) qs = stands_right es (suc place) ps qs s in
    let none : NoNodes es place (suc place) = λ m y lo hi there. absurd (omega arith) in
    let middle : NoNodes es place (suc place + length ps) = parts_none Port es place (suc place) d (listed (codes "ports") d) refl none left in
    let first = parts_placed Port es low place (suc place) d x (listed (codes "ports") d) refl at is same l (omega arith) none left in
    let second = parts_placed Edge es low place (suc place + length ps) d x (listed (codes "edges") d) refl at is same l (omega arith) middle right in
    let far : suc place + length ps + length qs ≡ suc place + length (ps ++ qs) = omega (arith, length-append ps qs) in (
      placed_append es low (suc place) ps qs first second,
      subst (λ n. NoNodes es place n) far (parts_none Edge es place (suc place + length ps) d (listed (codes "edges") d) refl middle right),
    )

abbrev node_element : Option ℕ → Data → Data → Element
node_element owner holder d = record { kind = Node; owner = owner; holder = holder; value = d }

head_placed : (es : List Element) (node place depth : ℕ) (holder d : Data) (keeper : Element) → Holds es node place depth keeper → keeper.value ≡ holder → has_children holder ≡ true
    → slice_get es place ≡ Some (node_element (Some node) holder d)
    → (has_children d ≡ true → HasChild es place) → (has_children d ≡ true → suc depth ≤ 49) → IsPlaced es node place (node_element (Some node) holder d)
head_placed es node place depth holder d keeper h same has at child deep = record {
  owner_place = node;
  owned = refl;
  low_owner = omega arith;
  before = h.before;
  keeper = keeper;
  kept = h.stands;
  keeper_is = h.is;
  same = same;
  between = h.between;
  lone = λ bad. absurd cc;
  parent_has = λ _. has;
  child = λ _ c. child c;
  depth = λ _ c. climbs_more es (suc depth) 49 place (inr (node, node_element (Some node) holder d, at, refl, refl, h.climbs)) (deep c);
}

-- a node with its parts
own_placed : (es : List Element) (node place depth : ℕ) (holder d : Data) (keeper : Element) → Holds es node place depth keeper → keeper.value ≡ holder → has_children holder ≡ true
    → (has_children d ≡ true → HasChild es place) → (has_children d ≡ true → suc depth ≤ 49)
    → Stands es place (own_elements place (Some node) holder d)
    → ArePlaced es node place (own_elements place (Some node) holder d)
own_placed es node place depth holder d keeper h same has child deep s =
    let b : node < place = h.before in (
      head_placed es node place depth holder d keeper h same has s.0 child deep,
      (own_parts es node place (node_element (Some node) holder d) d s.0 refl refl (omega arith) s.1).0,
    )

-- and what it is to its children
holds_below : (es : List Element) (node place depth : ℕ) (holder d : Data) (keeper : Element) → Holds es node place depth keeper
    → Stands es place (own_elements place (Some node) holder d)
    → Holds es place (place + length (own_elements place (Some node) holder d)) (suc depth) (node_element (Some node) holder d)
holds_below es node place depth holder d keeper h s = record {
  stands = s.0;
  is = refl;
  before = omega arith;
  between = λ m y q lo hi there is own.
      (let none : is_node y ≡ false = (own_parts es 0 place (node_element (Some node) holder d) d s.0 refl refl (omega arith) s.1).1 m y lo (omega arith) there in absurd cc);
  climbs = inr (node, node_element (Some node) holder d, s.0, refl, refl, h.climbs);
}

-- a node with children has one
head_stands : (es : List Element) (place node : ℕ) (holder d : Data) → Stands es place (elements_at place (Some node) holder d) → slice_get es place ≡ Some (node_element (Some node) holder d)
head_stands es place node holder null s = s.0
head_stands es place node holder (boolean b) s = s.0
head_stands es place node holder (number n) s = s.0
head_stands es place node holder (string t) s = s.0
head_stands es place node holder (array ds) s = s.0
head_stands es place node holder (object ms) s = s.0

child_within : (d : Data) (es : List Element) (b node : ℕ) (holder : Data) → nat_lt 0 (length (items_in (Some d))) ≡ true → Stands es b (elements_within b node holder d) → HasChild es node
child_within null es b node holder h s = absurd cc
child_within (boolean x) es b node holder h s = absurd cc
child_within (number n) es b node holder h s = absurd cc
child_within (string t) es b node holder h s = absurd cc
child_within (array no_items) es b node holder h s = absurd cc
child_within (array (item v vs)) es b node holder h s = record {
  child_place = b;
  child = node_element (Some node) holder v;
  stands = head_stands es b node holder v (stands_left es b (elements_at b (Some node) holder v) (elements_among (b + length (elements_at b (Some node) holder v)) node holder vs) s);
  child_is = refl;
  owned = refl;
}
child_within (object ms) es b node holder h s = absurd cc

by_test : {X : Type 0} (b : Bool) → (b ≡ true → X) → (b ≡ false → X) → X
by_test true on off = on refl
by_test false on off = off refl

child_below : (ms : Members) (es : List Element) (b node : ℕ) (holder : Data) → nat_lt 0 (length (listed (codes "children") (object ms))) ≡ true → Stands es b (elements_below b node holder ms) → HasChild es node
child_below no_members es b node holder h s = absurd cc
child_below (member k d ms) es b node holder h s =
    by_test (bytes_eq k (codes "children"))
    (λ e. child_within d es b node holder (rw (listed_here k d ms e) at h) (rw e at s))
    (λ e. child_below ms es b node holder (rw (listed_next k d ms e) at h) (rw e at s))

level_within : (d : Data) → nat_lt 0 (length (items_in (Some d))) ≡ true → 1 ≤ levels_within d
level_within null h = absurd cc
level_within (boolean x) h = absurd cc
level_within (number n) h = absurd cc
level_within (string t) h = absurd cc
level_within (array no_items) h = absurd cc
level_within (array (item v vs)) h = omega arith
level_within (object ms) h = absurd cc

level_below : (ms : Members) → nat_lt 0 (length (listed (codes "children") (object ms))) ≡ true → 1 ≤ levels_below ms
level_below no_members h = absurd cc
level_below (member k d ms) h =
    by_test (bytes_eq k (codes "children"))
    (λ e. rw e (level_within d (rw (listed_here k d ms e) at h)))
    (λ e. rw e (level_below ms (rw (listed_next k d ms e) at h)))

holds_later : (es : List Element) (node place depth : ℕ) (keeper : Element) (xs : List Element) → Holds es node place depth keeper → Stands es place xs → ArePlaced es node place xs → Holds es node (place + length xs) depth keeper
holds_later es node place depth keeper xs h s p = record {
  stands = h.stands;
  is = h.is;
  before = (let b : node < place = h.before in omega arith);
  between = λ m y q lo hi there is own.
      ⊎_elim (λ (l : m < place). h.between m y q lo l there is own)
      (λ (l : place ≤ m).
      let found = placed_there es node place xs s p m y l hi there in
      let same : found.owner_place ≡ q = same_Some found.owner_place q (sym found.owned ∙ own) in
      subst (λ n. node ≤ n) same found.low_owner)
      (cases_lt m place);
  climbs = h.climbs;
}

mutual
  placed_at : (d : Data) (es : List Element) (node place depth : ℕ) (holder : Data) (keeper : Element) → Holds es node place depth keeper → keeper.value ≡ holder → has_children holder ≡ true
      → suc depth + levels d ≤ 50 → Stands es place (elements_at place (Some node) holder d) → ArePlaced es node place (elements_at place (Some node) holder d)
  placed_at null es node place depth holder keeper h same has deep s = own_placed es node place depth holder null keeper h same has (λ c. absurd cc) (λ c. absurd cc) s
  placed_at (boolean b) es node place depth holder keeper h same has deep s = own_placed es node place depth holder (boolean b) keeper h same has (λ c. absurd cc) (λ c. absurd cc) s
  placed_at (number n) es node place depth holder keeper h same has deep s = own_placed es node place depth holder (number n) keeper h same has (λ c. absurd cc) (λ c. absurd cc) s
  placed_at (string t) es node place depth holder keeper h same has deep s = own_placed es node place depth holder (string t) keeper h same has (λ c. absurd cc) (λ c. absurd cc) s
  placed_at (array ds) es node place depth holder keeper h same has deep s = own_placed es node place depth holder (array ds) keeper h same has (λ c. absurd cc) (λ c. absurd cc) s
  placed_at (object ms) es node place depth holder keeper h same has deep s =
      let own = own_elements place (Some node) holder (object ms) in
      let below = elements_below (place + length own) place (object ms) ms in
      let left : Stands es place own = stands_left es place own below s in
      let right : Stands es (place + length own) below = stands_right es place own below s in
      let b : node < place = h.before in
      placed_append es node place own below
      (own_placed es node place depth holder (object ms) keeper h same has
      (λ c. child_below ms es (place + length own) place (object ms) c right)
      (λ c. (let one : 1 ≤ levels_below ms = level_below ms c in omega arith)) left)
      (placed_lower es place node (place + length own) below (omega arith)
      (placed_below ms es place (place + length own) (suc depth) (object ms) (node_element (Some node) holder (object ms)) (holds_below es node place depth holder (object ms) keeper h left) refl refl deep right))

  placed_below : (ms : Members) (es : List Element) (node place depth : ℕ) (holder : Data) (keeper : Element) → Holds es node place depth keeper → keeper.value ≡ holder
      → listed (codes "children") holder ≡ listed (codes "children") (object ms) → depth + levels_below ms ≤ 50 → Stands es place (elements_below place node holder ms) → ArePlaced es node place (elements_below place node holder ms)
  placed_below no_members es node place depth holder keeper h same list deep s = tt
  placed_below (member k d ms) es node place depth holder keeper h same list deep s =
      cond_both (bytes_eq k (codes "children")) (elements_within place node holder d) (elements_below place node holder ms) (ArePlaced es node place)
      (λ e. placed_within d es node place depth holder keeper h same (list ∙ listed_here k d ms e) (rw e at deep) (rw e at s))
      (λ e. placed_below ms es node place depth holder keeper h same (list ∙ listed_next k d ms e) (rw e at deep) (rw e at s))

  placed_within : (d : Data) (es : List Element) (node place depth : ℕ) (holder : Data) (keeper : Element) → Holds es node place depth keeper → keeper.value ≡ holder
      → listed (codes "children") holder ≡ items_in (Some d) → depth + levels_within d ≤ 50 → Stands es place (elements_within place node holder d) → ArePlaced es node place (elements_within place node holder d)
  placed_within null es node place depth holder keeper h same list deep s = tt
  placed_within (boolean b) es node place depth holder keeper h same list deep s = tt
  placed_within (number n) es node place depth holder keeper h same list deep s = tt
  placed_within (string t) es node place depth holder keeper h same list deep s = tt
  placed_within (array ds) es node place depth holder keeper h same list deep s =
      placed_among ds es node place depth holder keeper h same (λ some. ap (λ l. nat_lt 0 (length l)) list ∙ some) deep s
  placed_within (object ms) es node place depth holder keeper h same list deep s = tt

  placed_among : (ds : Items) (es : List Element) (node place depth : ℕ) (holder : Data) (keeper : Element) → Holds es node place depth keeper → keeper.value ≡ holder
      → (nat_lt 0 (length (items_list ds)) ≡ true → has_children holder ≡ true) → depth + levels_among ds ≤ 50 → Stands es place (elements_among place node holder ds) → ArePlaced es node place (elements_among place node holder ds)
  placed_among no_items es node place depth holder keeper h same some deep s = tt
  placed_among (item d ds) es node place depth holder keeper h same some deep s =
      let has : has_children holder ≡ true = some (lt-ltb 0 (length (items_list (item d ds))) (omega arith)) in
      let first = elements_at place (Some node) holder d in
      let rest = elements_among (place + length first) node holder ds in
      let left : Stands es place first = stands_left es place first rest s in
      let right : Stands es (place + length first) rest = stands_right es place first rest s in
      let done : ArePlaced es node place first = placed_at d es node place depth holder keeper h same has (omega arith) left in
      placed_append es node place first rest done
      (placed_among ds es node (place + length first) depth holder keeper (holds_later es node place depth keeper first h left done) same (λ _. has) (omega arith) right)

-- ---- the whole list

record RootPlaced (d : Data) (es : List Element) : Type 0 where
  tail : List Element
  split : elements_at 0 None d d ≡ node_element None d d ∷ tail
  placed : ArePlaced es 0 1 tail

root_parts : (d : Data) (es : List Element) → Stands es 0 (own_elements 0 None d d) → elements_at 0 None d d ≡ own_elements 0 None d d → RootPlaced d es
root_parts d es s e = record {
  tail = map (part Port 0 d) (listed (codes "ports") d) ++ map (part Edge 0 d) (listed (codes "edges") d);
  split = e;
  placed = (own_parts es 0 0 (node_element None d d) d s.0 refl refl (omega arith) s.1).0;
}

root_holds : (d : Data) (es : List Element) → Stands es 0 (own_elements 0 None d d) → Holds es 0 (0 + length (own_elements 0 None d d)) 0 (node_element None d d)
root_holds d es s = record {
  stands = s.0;
  is = refl;
  before = omega arith;
  between = λ m y q lo hi there is own.
      (let none : is_node y ≡ false = (own_parts es 0 0 (node_element None d d) d s.0 refl refl (omega arith) s.1).1 m y lo (omega arith) there in absurd cc);
  climbs = refl;
}

root_placed : (d : Data) (es : List Element) → levels d ≤ 50 → Stands es 0 (elements_at 0 None d d) → RootPlaced d es
root_placed null es deep s = root_parts null es s refl
root_placed (boolean b) es deep s = root_parts (boolean b) es s refl
root_placed (number n) es deep s = root_parts (number n) es s refl
root_placed (string t) es deep s = root_parts (string t) es s refl
root_placed (array ds) es deep s = root_parts (array ds) es s refl
root_placed (object ms) es deep s =
    let d = object ms in
    let own = own_elements 0 None (object ms) (object ms) in
    let parts = map (part Port 0 (object ms)) (listed (codes "ports") (object ms)) ++ map (part Edge 0 (object ms)) (listed (codes "edges") (object ms)) in
    let below = elements_below (0 + length own) 0 (object ms) ms in
    let left : Stands es 0 own = stands_left es 0 own below s in
    let right : Stands es (0 + length own) below = stands_right es 0 own below s in
    let same : 0 + length own ≡ 1 + length parts = omega arith in
    record {
      tail = parts ++ below;
      split = refl;
      placed = placed_append es 0 1 parts below
          (own_parts es 0 0 (node_element None (object ms) (object ms)) (object ms) left.0 refl refl (omega arith) left.1).0
          (subst (λ n. ArePlaced es 0 n below) same
          (placed_below ms es 0 (0 + length own) 0 (object ms) (node_element None (object ms) (object ms)) (root_holds (object ms) es left) refl refl (omega arith) right));
    }

-- the root stands first, and every other element is placed
pub record IsRooted (es : List Element) : Type 0 where
  pub root : Element
  pub first : slice_get es 0 ≡ Some root
  pub root_is : is_node root ≡ true
  pub alone : root.owner ≡ None
  pub placed : (i : ℕ) (x : Element) → 0 < i → slice_get es i ≡ Some x → IsPlaced es 0 i x

rooted_by : (d : Data) (es : List Element) → es ≡ elements_at 0 None d d → Stands es 0 es → RootPlaced d es → IsRooted es
rooted_by d es is s r =
    let split : es ≡ node_element None d d ∷ r.tail = is ∙ r.split in
    let there : Stands es 0 (node_element None d d ∷ r.tail) = subst (λ xs. Stands es 0 xs) split s in
    record {
      root = node_element None d d;
      first = there.0;
      root_is = refl;
      alone = refl;
      placed = λ i x lo at.
          (let within : i < length es = slice_get_within es i x at in
          let long : length es ≡ suc (length r.tail) = ap length split in
          placed_there es 0 1 r.tail there.1 r.placed i x (omega arith) (omega arith) at);
    }

pub rooted : (d : Data) → levels d ≤ 50 → IsRooted (elements d)
rooted d deep =
    let s : Stands (elements d) 0 (elements d) = stands_from [] (elements d) in
    rooted_by d (elements d) refl s (root_placed d (elements d) deep s)
