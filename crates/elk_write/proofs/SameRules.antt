-- Elements that say the same break the same rules on counts, ids, ends, levels and options.
use Rattle.std.proofs.Common.{◌≡◌, ℕ, zero, suc, ◌+◌, List, [], ◌∷◌, ◌++◌, length, filter, find, Bool, true, false, not, ◌&&◌, ◌||◌, if◌then◌else◌, refl, ap, ◌∙◌, Option, Some, None, nat_eq}
use Rattle.std.specs.Prelude.{codes, is_some, option_and_then, slice_get, nat_lt, ◌==◌}
use Rattle.std.specs.Option.{option_map_or, option_eq}
use Rattle.std.specs.List.{list_any, list_all}
use Rattle.std.proofs.Math.Path.{fun_ext}
use Rattle.serde_json.specs.Data.{Data}
use Rattle.serde_json.specs.Find.{get, as_array}
use Rattle.elk_doc.specs.declared.document.LevelOptions.{LevelOptions}
use Rattle.elk_options.specs.declared.options.Role.TheVariants as role
use Rattle.elk_options.specs.declared.options.Options.{Options}
use Rattle.elk_options.specs.Names.{or_empty}
use Rattle.elk_options.specs.Reading.{first_bad}
use Rattle.elk_json.specs.Elements.{Element, items_list}
use Rattle.elk_json.specs.Members.{kind_is_node, kind_is_port, kind_is_edge, is_node, is_port, is_edge, is_compound, id_of, node_role, role_of, options_data, options_at, has_bad_option}
use Rattle.elk_json.specs.Ranges.{are_too_many}
use Rattle.elk_json.specs.Ends.{is_some_same_id, is_double, first_double, named, node_at, source_of, target_of, source_node, target_node, parent_of, level_of_edge, has_known_ends, is_hyperedge, is_cross_level}
use Rattle.elk_json.specs.Rules.{first_at, has_boxes_and_edges, is_badly_optioned}
use Rattle.elk_write.proofs.Alike.{Alike, AllAlike}
use Rattle.elk_write.proofs.SameDocument.{and_ext, same_id, same_compound, same_options, count_alike, named_by, source_by, target_by}

-- ---- tests along two lists

find_if : (t u : Bool) (e f : Element) (x y : Option Element) → u ≡ t → (x ≡ None → y ≡ None) → (if t then Some e else x) ≡ None → (if u then Some f else y) ≡ None
find_if true u e f x y is h none = absurd (cc)
find_if false u e f x y is h none = rw is (h none)

find_alike : (t u : Element → Bool) → ((e f : Element) → Alike e f → u f ≡ t e) → (xs ys : List Element) → AllAlike xs ys → find t xs ≡ None → find u ys ≡ None
find_alike t u same [] [] h none = refl
find_alike t u same (e ∷ xs) (f ∷ ys) h none = find_if (t e) (u f) e f (find t xs) (find u ys) (same e f h.0) (find_alike t u same xs ys h.1) none
find_alike t u same es fs h none = absurd h

first_alike : (t u : ℕ → Element → Bool) → ((n : ℕ) (e f : Element) → Alike e f → u n f ≡ t n e) → (n : ℕ) (xs ys : List Element) → AllAlike xs ys → first_at t n xs ≡ None → first_at u n ys ≡ None
first_alike t u same n [] [] h none = refl
first_alike t u same n (e ∷ xs) (f ∷ ys) h none = find_if (t n e) (u n f) e f (first_at t (n + 1) xs) (first_at u (n + 1) ys) (same n e f h.0) (first_alike t u same (n + 1) xs ys h.1) none
first_alike t u same n es fs h none = absurd h

any_alike : (t u : Element → Bool) → ((e f : Element) → Alike e f → u f ≡ t e) → (xs ys : List Element) → AllAlike xs ys → list_any u ys ≡ list_any t xs
any_alike t u same [] [] h = refl
any_alike t u same (e ∷ xs) (f ∷ ys) h = ap (λ b. b || list_any u ys) (same e f h.0) ∙ ap (λ b. t e || b) (any_alike t u same xs ys h.1)
any_alike t u same es fs h = absurd h

-- ---- ids

double_alike : (e f a b : Element) → Alike e f → Alike a b → is_double f b ≡ is_double e a
unfolding is_double
double_alike e f a b h k =
    ap (λ x. (if kind_is_edge x then is_edge b else not (is_edge b)) && is_some_same_id (id_of f.value) (id_of b.value)) h.kind
    ∙ ap (λ x. (if is_edge e then kind_is_edge x else not (kind_is_edge x)) && is_some_same_id (id_of f.value) (id_of b.value)) k.kind
    ∙ ap (λ i. (if is_edge e then is_edge a else not (is_edge a)) && is_some_same_id i (id_of b.value)) (same_id e f h)
    ∙ ap (λ i. (if is_edge e then is_edge a else not (is_edge a)) && is_some_same_id (id_of e.value) i) (same_id a b k)

push_alike : (xs ys : List Element) (e f : Element) → AllAlike xs ys → Alike e f → AllAlike (xs ++ e ∷ []) (ys ++ f ∷ [])
push_alike [] [] e f h k = (k, tt)
push_alike (x ∷ xs) (y ∷ ys) e f h k = (h.0, push_alike xs ys e f h.1 k)
push_alike xs ys e f h k = absurd h

pub no_double : (earlier before xs ys : List Element) → AllAlike earlier before → AllAlike xs ys → first_double earlier xs ≡ None → first_double before ys ≡ None
no_double earlier before [] [] k h none = refl
no_double earlier before (e ∷ xs) (f ∷ ys) k h none =
    find_if (list_any (is_double e) earlier) (list_any (is_double f) before) e f (first_double (earlier ++ e ∷ []) xs) (first_double (before ++ f ∷ []) ys)
    (any_alike (is_double e) (is_double f) (λ a b r. double_alike e f a b h.0 r) earlier before k)
    (no_double (earlier ++ e ∷ []) (before ++ f ∷ []) xs ys (push_alike earlier before e f k h.0) h.1) none
no_double earlier before xs ys k h none = absurd h

-- ---- edges

edge_if : (b : Bool) (x y : Bool) → (b ≡ true → y ≡ x) → (b && y) ≡ (b && x)
edge_if true x y h = h refl
edge_if false x y h = refl

edge_test : (t u : Data → Bool) (e f : Element) → Alike e f → (kind_is_edge e.kind ≡ true → u f.value ≡ t e.value) → (is_edge f && u f.value) ≡ (is_edge e && t e.value)
edge_test t u e f a h = ap (λ k. kind_is_edge k && u f.value) a.kind ∙ edge_if (kind_is_edge e.kind) (t e.value) (u f.value) h

abbrev list_from : Option Data → List Data
list_from o = option_map_or items_list (option_and_then as_array o) []

abbrev known_from : (Data → Option ℕ) → Option Data → Option Data → Option ℕ → Option ℕ → Bool
known_from name s t a b =
    if is_some s || is_some t then list_all (λ r. is_some (name r)) (list_from s) && list_all (λ r. is_some (name r)) (list_from t) else is_some a && is_some b

abbrev hyper_from : Option Data → Option Data → Bool
hyper_from s t = (is_some s || is_some t) && not ((length (list_from s) == 1) && (length (list_from t) == 1))

element_and : {B : Type 0} (g : Element → Option B) → ((e f : Element) → Alike e f → g f ≡ g e) → (es fs : List Element) → AllAlike es fs → (n : ℕ) → option_and_then g (slice_get fs n) ≡ option_and_then g (slice_get es n)
element_and g same [] [] h n = refl
element_and g same (e ∷ es) (f ∷ fs) h zero = same e f h.0
element_and g same (e ∷ es) (f ∷ fs) h (suc n) = element_and g same es fs h.1 n
element_and g same es fs h n = absurd h

module _ (es fs : List Element) (h : AllAlike es fs) where
  pub same_many : are_too_many fs ≡ are_too_many es
  same_many =
      ap (λ n. nat_lt 2048 n || nat_lt 4096 (length (filter is_port fs)) || nat_lt 2048 (length (filter is_edge fs))) (count_alike kind_is_node es fs h)
      ∙ ap (λ n. nat_lt 2048 (length (filter is_node es)) || nat_lt 4096 n || nat_lt 2048 (length (filter is_edge fs))) (count_alike kind_is_port es fs h)
      ∙ ap (λ n. nat_lt 2048 (length (filter is_node es)) || nat_lt 4096 (length (filter is_port es)) || nat_lt 2048 n) (count_alike kind_is_edge es fs h)

  names : named fs ≡ named es
  names = fun_ext (named_by es fs h)

  known_alike : (e f : Element) → Alike e f → kind_is_edge e.kind ≡ true → has_known_ends fs f.value ≡ has_known_ends es e.value
  unfolding has_known_ends
  known_alike e f a edge =
      ap (λ n. known_from n (get (codes "sources") f.value) (get (codes "targets") f.value) (source_of fs f.value) (target_of fs f.value)) names
      ∙ ap (λ s. known_from (named es) s (get (codes "targets") f.value) (source_of fs f.value) (target_of fs f.value)) (a.ends edge (codes "sources") refl)
      ∙ ap (λ t. known_from (named es) (get (codes "sources") e.value) t (source_of fs f.value) (target_of fs f.value)) (a.ends edge (codes "targets") refl)
      ∙ ap (λ x. known_from (named es) (get (codes "sources") e.value) (get (codes "targets") e.value) x (target_of fs f.value)) (source_by es fs h e f a edge)
      ∙ ap (λ x. known_from (named es) (get (codes "sources") e.value) (get (codes "targets") e.value) (source_of es e.value) x) (target_by es fs h e f a edge)

  pub same_known : find (λ e. is_edge e && not (has_known_ends es e.value)) es ≡ None → find (λ e. is_edge e && not (has_known_ends fs e.value)) fs ≡ None
  same_known =
      find_alike (λ e. is_edge e && not (has_known_ends es e.value)) (λ e. is_edge e && not (has_known_ends fs e.value))
      (λ e f a. edge_test (λ d. not (has_known_ends es d)) (λ d. not (has_known_ends fs d)) e f a (λ edge. ap not (known_alike e f a edge))) es fs h

  hyper_alike : (e f : Element) → Alike e f → kind_is_edge e.kind ≡ true → is_hyperedge f.value ≡ is_hyperedge e.value
  unfolding is_hyperedge
  hyper_alike e f a edge =
      ap (λ s. hyper_from s (get (codes "targets") f.value)) (a.ends edge (codes "sources") refl)
      ∙ ap (λ t. hyper_from (get (codes "sources") e.value) t) (a.ends edge (codes "targets") refl)

  pub same_simple : find (λ e. is_edge e && is_hyperedge e.value) es ≡ None → find (λ e. is_edge e && is_hyperedge e.value) fs ≡ None
  same_simple =
      find_alike (λ e. is_edge e && is_hyperedge e.value) (λ e. is_edge e && is_hyperedge e.value)
      (λ e f a. edge_test is_hyperedge is_hyperedge e f a (hyper_alike e f a)) es fs h

  -- ---- levels of edges

  node_alike : (n : ℕ) → node_at fs n ≡ node_at es n
  unfolding node_at
  node_alike n =
      element_and (λ e. if is_node e then Some n else e.owner)
      (λ e f a. ap (λ k. if kind_is_node k then Some n else f.owner) a.kind ∙ ap (λ o. if is_node e then Some n else o) a.owner) es fs h n

  parent_alike : (o : Option ℕ) → parent_of fs o ≡ parent_of es o
  unfolding parent_of
  parent_alike None = refl
  parent_alike (Some n) = element_and (λ e. e.owner) (λ e f a. a.owner) es fs h n

  source_alike : (e f : Element) → Alike e f → kind_is_edge e.kind ≡ true → source_node fs f.value ≡ source_node es e.value
  unfolding source_node
  source_alike e f a edge = ap (option_and_then (node_at fs)) (source_by es fs h e f a edge) ∙ and_ext (node_at fs) (node_at es) (source_of es e.value) node_alike

  target_alike : (e f : Element) → Alike e f → kind_is_edge e.kind ≡ true → target_node fs f.value ≡ target_node es e.value
  unfolding target_node
  target_alike e f a edge = ap (option_and_then (node_at fs)) (target_by es fs h e f a edge) ∙ and_ext (node_at fs) (node_at es) (target_of es e.value) node_alike

  level_alike : (e f : Element) → Alike e f → kind_is_edge e.kind ≡ true → level_of_edge fs f.value ≡ level_of_edge es e.value
  unfolding level_of_edge
  level_alike e f a edge = ap (parent_of fs) (source_alike e f a edge) ∙ parent_alike (source_node es e.value)

  abbrev cross_from : List Element → Option ℕ → Option ℕ → Bool
  cross_from xs s t = (not (option_eq nat_eq s t) && not (option_eq nat_eq (parent_of xs s) (parent_of xs t))) || option_eq nat_eq s (Some 0) || option_eq nat_eq t (Some 0)

  cross_alike : (e f : Element) → Alike e f → kind_is_edge e.kind ≡ true → is_cross_level fs f.value ≡ is_cross_level es e.value
  unfolding is_cross_level
  cross_alike e f a edge =
      ap (λ s. cross_from fs s (target_node fs f.value)) (source_alike e f a edge)
      ∙ ap (λ t. cross_from fs (source_node es e.value) t) (target_alike e f a edge)
      ∙ ap (λ x. (not (option_eq nat_eq (source_node es e.value) (target_node es e.value)) && not (option_eq nat_eq x (parent_of fs (target_node es e.value)))) || option_eq nat_eq (source_node es e.value) (Some 0) || option_eq nat_eq (target_node es e.value) (Some 0)) (parent_alike (source_node es e.value))
      ∙ ap (λ x. (not (option_eq nat_eq (source_node es e.value) (target_node es e.value)) && not (option_eq nat_eq (parent_of es (source_node es e.value)) x)) || option_eq nat_eq (source_node es e.value) (Some 0) || option_eq nat_eq (target_node es e.value) (Some 0)) (parent_alike (target_node es e.value))

  pub same_within : find (λ e. is_edge e && is_cross_level es e.value) es ≡ None → find (λ e. is_edge e && is_cross_level fs e.value) fs ≡ None
  same_within =
      find_alike (λ e. is_edge e && is_cross_level es e.value) (λ e. is_edge e && is_cross_level fs e.value)
      (λ e f a. edge_test (is_cross_level es) (is_cross_level fs) e f a (cross_alike e f a)) es fs h

  -- ---- options

  pub same_role : (e f : Element) → Alike e f → role_of f ≡ role_of e
  same_role e f a =
      ap (λ k. if kind_is_node k then node_role (is_compound f) else (if kind_is_port k then role.Port else role.Edge)) a.kind
      ∙ ap (λ b. if kind_is_node e.kind then node_role b else (if kind_is_port e.kind then role.Port else role.Edge)) (same_compound e f a)

  pub same_bad : (e f : Element) → Alike e f → has_bad_option f ≡ has_bad_option e
  same_bad e f a = ap (λ r. is_some (first_bad r (options_data f.value))) (same_role e f a) ∙ ap (λ o. is_some (first_bad (role_of e) (or_empty o))) a.options

  level_edges : (n : ℕ) → list_any (λ f. is_edge f && option_eq nat_eq (level_of_edge fs f.value) (Some n)) fs ≡ list_any (λ f. is_edge f && option_eq nat_eq (level_of_edge es f.value) (Some n)) es
  level_edges n =
      any_alike (λ f. is_edge f && option_eq nat_eq (level_of_edge es f.value) (Some n)) (λ f. is_edge f && option_eq nat_eq (level_of_edge fs f.value) (Some n))
      (λ e f a. edge_test (λ d. option_eq nat_eq (level_of_edge es d) (Some n)) (λ d. option_eq nat_eq (level_of_edge fs d) (Some n)) e f a (λ edge. ap (λ o. option_eq nat_eq o (Some n)) (level_alike e f a edge))) es fs h

  boxes_alike : (n : ℕ) (e f : Element) → Alike e f → has_boxes_and_edges fs n f ≡ has_boxes_and_edges es n e
  unfolding has_boxes_and_edges
  boxes_alike n e f a =
      ap (λ b. b && option_map_or (λ (l : LevelOptions). l.boxes) (options_at f).level false && list_any (λ f. is_edge f && option_eq nat_eq (level_of_edge fs f.value) (Some n)) fs) (same_compound e f a)
      ∙ ap (λ (o : Options). is_compound e && option_map_or (λ (l : LevelOptions). l.boxes) o.level false && list_any (λ f. is_edge f && option_eq nat_eq (level_of_edge fs f.value) (Some n)) fs) (same_options e f a)
      ∙ ap (λ b. is_compound e && option_map_or (λ (l : LevelOptions). l.boxes) (options_at e).level false && b) (level_edges n)

  bad_alike : (n : ℕ) (e f : Element) → Alike e f → is_badly_optioned fs n f ≡ is_badly_optioned es n e
  unfolding is_badly_optioned
  bad_alike n e f a = ap (λ b. b || has_boxes_and_edges fs n f) (same_bad e f a) ∙ ap (λ b. has_bad_option e || b) (boxes_alike n e f a)

  pub same_good : first_at (is_badly_optioned es) 0 es ≡ None → first_at (is_badly_optioned fs) 0 fs ≡ None
  same_good = first_alike (is_badly_optioned es) (is_badly_optioned fs) bad_alike 0 es fs h
