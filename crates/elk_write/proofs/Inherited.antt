-- A fact that a value hands on to all that stands in it holds of each of its elements.
use Rattle.std.proofs.Common.{◌≡◌, ℕ, ◌+◌, List, [], ◌∷◌, ◌++◌, length, map, Ordering, Equal, Bool, true, false, bytes_eq, Option, Some, None}
use Rattle.std.specs.Prelude.{codes, option_and_then, if◌then◌else◌}
use Rattle.std.specs.Option.{option_map_or}
use Rattle.std.specs.Ordering.{match_ordering}
use Rattle.std.proofs.lemmas.Bool.{and_parts}
use Rattle.serde_json.specs.Data.{Data, array, object, Items, no_items, item, Members, no_members, member}
use Rattle.serde_json.specs.Find.{get, get_member, as_array}
use Rattle.elk_json.specs.declared.elements.Kind.{Kind}
use Rattle.elk_json.specs.declared.elements.Kind.TheVariants.{Port, Edge}
use Rattle.elk_json.specs.Elements.{Element, items_list, listed, part, own_elements, elements_at, elements_below, elements_within, elements_among, elements}
use Rattle.elk_json.specs.Keyed.{IsKeyed, AreItemsKeyed, AreMembersKeyed}
use Rattle.elk_json.specs.Whole.{all_whole, items_whole, members_whole}

module _ (P : Data → Type 0) where
  abbrev pub Each : List Element → Type 0
  Each [] = Unit {0}
  Each (e ∷ es) = P e.value × Each es

  each_append : (xs ys : List Element) → Each xs → Each ys → Each (xs ++ ys)
  each_append [] ys h k = k
  each_append (x ∷ xs) ys h k = (h.0, each_append xs ys h.1 k)

  each_if : (b : Bool) (xs ys : List Element) → Each xs → Each ys → Each (if b then xs else ys)
  each_if true xs ys h k = h
  each_if false xs ys h k = k

  abbrev pub IfFound : Option Data → Type 0
  IfFound None = Unit {0}
  IfFound (Some d) = P d

  there_by : (o : Ordering) (a : Option Data) (d : Data) → IfFound a → P d → IfFound (match_ordering o a (Some d) a)
  there_by Equal a d h k = k
  there_by o a d h k = h

  module _ (PM : Members → Type 0) (PI : Items → Type 0)
      (in_object : (ms : Members) → P (object ms) → PM ms) (in_array : (ds : Items) → P (array ds) → PI ds)
      (here : (k : List ℕ) (d : Data) (ms : Members) → PM (member k d ms) → P d) (later : (k : List ℕ) (d : Data) (ms : Members) → PM (member k d ms) → PM ms)
      (first : (d : Data) (ds : Items) → PI (item d ds) → P d) (rest : (d : Data) (ds : Items) → PI (item d ds) → PI ds) where
    each_part : (kind : Kind) (pl : ℕ) (h : Data) (ds : Items) → PI ds → Each (map (part kind pl h) (items_list ds))
    each_part kind pl h no_items k = tt
    each_part kind pl h (item d ds) k = (first d ds k, each_part kind pl h ds (rest d ds k))

    pub member_there : (q : List ℕ) (ms : Members) → PM ms → IfFound (get_member q ms)
    member_there q no_members k = tt
    member_there q (member l d ms) k = there_by _ (get_member q ms) d (member_there q ms (later l d ms k)) (here l d ms k)

    each_found : (kind : Kind) (pl : ℕ) (h : Data) (o : Option Data) → IfFound o → Each (map (part kind pl h) (option_map_or items_list (option_and_then as_array o) []))
    each_found kind pl h (Some (array ds)) k = each_part kind pl h ds (in_array ds k)
    each_found kind pl h o k = tt

    each_own : (pl : ℕ) (owner : Option ℕ) (h : Data) (ms : Members) → P (object ms) → Each (own_elements pl owner h (object ms))
    each_own pl owner h ms k = (
      k,
      each_append (map (part Port pl (object ms)) (listed (codes "ports") (object ms))) (map (part Edge pl (object ms)) (listed (codes "edges") (object ms)))
          (each_found Port pl (object ms) (get_member (codes "ports") ms) (member_there (codes "ports") ms (in_object ms k)))
          (each_found Edge pl (object ms) (get_member (codes "edges") ms) (member_there (codes "edges") ms (in_object ms k))),
    )

    mutual
      pub each_at : (d : Data) (pl : ℕ) (owner : Option ℕ) (h : Data) → P d → Each (elements_at pl owner h d)
      each_at (object ms) pl owner h k =
          each_append (own_elements pl owner h (object ms)) (elements_below (pl + length (own_elements pl owner h (object ms))) pl (object ms) ms)
          (each_own pl owner h ms k) (each_below ms (pl + length (own_elements pl owner h (object ms))) pl (object ms) (in_object ms k))
      each_at d pl owner h k = (k, tt)

      each_below : (ms : Members) (pl owner : ℕ) (h : Data) → PM ms → Each (elements_below pl owner h ms)
      each_below no_members pl owner h k = tt
      each_below (member l d ms) pl owner h k =
          each_if (bytes_eq l (codes "children")) (elements_within pl owner h d) (elements_below pl owner h ms) (each_within d pl owner h (here l d ms k)) (each_below ms pl owner h (later l d ms k))

      each_within : (d : Data) (pl owner : ℕ) (h : Data) → P d → Each (elements_within pl owner h d)
      each_within (array ds) pl owner h k = each_among ds pl owner h (in_array ds k)
      each_within d pl owner h k = tt

      each_among : (ds : Items) (pl owner : ℕ) (h : Data) → PI ds → Each (elements_among pl owner h ds)
      each_among no_items pl owner h k = tt
      each_among (item d ds) pl owner h k =
          each_append (elements_at pl (Some owner) h d) (elements_among (pl + length (elements_at pl (Some owner) h d)) owner h ds)
          (each_at d pl (Some owner) h (first d ds k)) (each_among ds (pl + length (elements_at pl (Some owner) h d)) owner h (rest d ds k))

pub each_keyed : (d : Data) → IsKeyed d → Each IsKeyed (elements d)
each_keyed d k = each_at IsKeyed AreMembersKeyed AreItemsKeyed (λ ms h. h) (λ ds h. h) (λ l e ms h. h.1) (λ l e ms h. h.2) (λ e ds h. h.0) (λ e ds h. h.1) d 0 None d k

abbrev pub IsWhole : Data → Type 0
IsWhole d = all_whole d ≡ true

pub each_whole : (d : Data) → IsWhole d → Each IsWhole (elements d)
each_whole d k =
    each_at IsWhole (λ ms. members_whole ms ≡ true) (λ ds. items_whole ds ≡ true) (λ ms h. h) (λ ds h. h)
    (λ l e ms h. (and_parts (all_whole e) (members_whole ms) h).0) (λ l e ms h. (and_parts (all_whole e) (members_whole ms) h).1)
    (λ e ds h. (and_parts (all_whole e) (items_whole ds) h).0) (λ e ds h. (and_parts (all_whole e) (items_whole ds) h).1) d 0 None d k

pub whole_member : (q : List ℕ) (d : Data) → IsWhole d → IfFound IsWhole (get q d)
whole_member q (object ms) k =
    member_there IsWhole (λ ms. members_whole ms ≡ true) (λ ds. items_whole ds ≡ true) (λ ms h. h) (λ ds h. h)
    (λ l e ms h. (and_parts (all_whole e) (members_whole ms) h).0) (λ l e ms h. (and_parts (all_whole e) (members_whole ms) h).1)
    (λ e ds h. (and_parts (all_whole e) (items_whole ds) h).0) (λ e ds h. (and_parts (all_whole e) (items_whole ds) h).1) q ms k
whole_member q d k = tt
