-- Where the parts of a node stand in its answer.
use Rattle.std.proofs.Common.{◌≡◌, ℕ, suc, List, [], length, Ordering, Less, Equal, Bool, true, false, is_eq, bytes_eq, true≢false, refl, sym, ap, ◌∙◌, subst, Option, Some, None, option_map, nat_lt}
use Rattle.std.specs.Prelude.{codes, option_and_then, slice_get}
use Rattle.std.specs.Option.{option_map_or}
use Rattle.std.proofs.lemmas.Cmp.{nat_list_cmp_total, tied_itself}
use Rattle.std.proofs.lemmas.Map.Text.{is_eq-slice_cmp}
use Rattle.std.proofs.lemmas.Slice.Eq.{bytes_eq-Decides}
use Rattle.std.specs.Ordering.{match_ordering}
use Rattle.serde_json.specs.Data.{Data, null, array, object, Items, no_items, item, Members, no_members, member, put}
use Rattle.serde_json.specs.Find.{get_member, as_array}
use Rattle.serde_json.proofs.Views.{get_member-put_other}
use Rattle.drawing_types.specs.declared.shape.Rect.{Rect}
use Rattle.elk_doc.specs.declared.drawing.Certificate.{Certificate}
use Rattle.elk_doc.specs.declared.drawing.Placed.{Placed}
use Rattle.elk_doc.specs.Document.{Document}
use Rattle.elk_json.specs.Elements.{items_list, elements_below, elements_within}
use Rattle.elk_json.specs.Members.{has_children}
use Rattle.elk_json.specs.Keyed.{IsBelow}
use Rattle.elk_write.specs.declared.numbers.Numbers.{Numbers}
use Rattle.elk_write.specs.Keys.{is_node_key}
use Rattle.elk_write.specs.Numbers.{past_node, past_members, past_member}
use Rattle.elk_write.specs.Written.{is_split}
use Rattle.elk_write.specs.Values.{whole, layering_data}
use Rattle.elk_write.specs.Answered.{with_place, with_size, with_layering, with_node, answer_member, answer_children}
use Rattle.elk_write.proofs.Puts.{cmp, apart}
use Rattle.elk_write.specs.Merged.{answered}

-- ---- looking up

same_cmp : (k : List ℕ) → cmp k k ≡ Equal
same_cmp k = tied_itself nat_list_cmp_total k

pub get_here : (q : List ℕ) (d : Data) (ms : Members) → get_member q (member q d ms) ≡ Some d
get_here q d ms = rw (same_cmp q) refl

either : (o : Ordering) (a b : Option Data) → is_eq o ≡ false → match_ordering o a b a ≡ a
either Equal a b e = absurd (true≢false e)
either o a b e = refl

pub get_later : (q l : List ℕ) (d : Data) (ms : Members) → bytes_eq q l ≡ false → get_member q (member l d ms) ≡ get_member q ms
get_later q l d ms h = either (cmp q l) (get_member q ms) (Some d) (is_eq-slice_cmp q l ∙ h)

pub equal_bytes : (k l : List ℕ) → bytes_eq k l ≡ true → k ≡ l
equal_bytes k l e = (bytes_eq-Decides k l).0 e

reversed_false : (b : Bool) (k l : List ℕ) → bytes_eq l k ≡ b → bytes_eq k l ≡ false → bytes_eq l k ≡ false
reversed_false true k l is h = absurd (apart k l h (sym (equal_bytes l k is)))
reversed_false false k l is h = is

-- bytes that differ, differ the other way round
pub is_reversed : (k l : List ℕ) → bytes_eq k l ≡ false → bytes_eq l k ≡ false
is_reversed k l h = reversed_false (bytes_eq l k) k l refl h

-- ---- the members of a node that is answered

pub map_ext : {A B : Type 0} (f g : A → B) (o : Option A) → ((x : A) → f x ≡ g x) → option_map f o ≡ option_map g o
map_ext f g None h = refl
map_ext f g (Some x) h = ap (λ y. Some y) (h x)

module _ (doc : Document) (p : Placed) (at : Numbers) (compound : Bool) (q : List ℕ) (stays : is_node_key compound q ≡ false)
    (same : (l : List ℕ) (e : Data) (below : Numbers) → bytes_eq q l ≡ false → (d : Data) → answer_member doc p at (past_member l below e) q d ≡ answer_member doc p at below q d) where
  abbrev Found : Numbers → Members → Type 0
  Found below ms = get_member q (answered doc p at compound below ms) ≡ option_map (answer_member doc p at below q) (get_member q ms)

  found_gone : (b : Bool) (l : List ℕ) (e : Data) (ms : Members) (below : Numbers) → bytes_eq q l ≡ b → is_node_key compound l ≡ true → ((below : Numbers) → Found below ms) → Found below (member l e ms)
  found_gone true l e ms below is gone ih = let bad : true ≡ false = sym gone ∙ ap (is_node_key compound) (sym (equal_bytes q l is)) ∙ stays in absurd (true≢false bad)
  found_gone false l e ms below is gone ih = rw gone (ih below ∙ ap (option_map (answer_member doc p at below q)) (sym (get_later q l e ms is)))

  found_kept : (b : Bool) (l : List ℕ) (e : Data) (ms : Members) (below : Numbers) → bytes_eq q l ≡ b → is_node_key compound l ≡ false → ((below : Numbers) → Found below ms) → Found below (member l e ms)
  found_kept true l e ms below is kept ih =
      rw kept (subst (λ k. get_member q (member k (answer_member doc p at below k e) (answered doc p at compound (past_member k below e) ms)) ≡ option_map (answer_member doc p at below q) (get_member q (member k e ms))) (equal_bytes q l is)
      (get_here q (answer_member doc p at below q e) (answered doc p at compound (past_member q below e) ms) ∙ ap (option_map (answer_member doc p at below q)) (sym (get_here q e ms))))
  found_kept false l e ms below is kept ih =
      rw kept (get_later q l (answer_member doc p at below l e) (answered doc p at compound (past_member l below e) ms) is
      ∙ ih (past_member l below e)
      ∙ map_ext (answer_member doc p at (past_member l below e) q) (answer_member doc p at below q) (get_member q ms) (same l e below is)
      ∙ ap (option_map (answer_member doc p at below q)) (sym (get_later q l e ms is)))

  found_if : (b : Bool) (l : List ℕ) (e : Data) (ms : Members) (below : Numbers) → is_node_key compound l ≡ b → ((below : Numbers) → Found below ms) → Found below (member l e ms)
  found_if true l e ms below is ih = found_gone (bytes_eq q l) l e ms below refl is ih
  found_if false l e ms below is ih = found_kept (bytes_eq q l) l e ms below refl is ih

  pub found : (ms : Members) (below : Numbers) → Found below ms
  found no_members below = refl
  found (member l e ms) below = found_if (is_node_key compound l) l e ms below refl (found ms)

-- ---- numbers

pub past_other : (k : List ℕ) (at : Numbers) (d : Data) → bytes_eq k (codes "children") ≡ false → past_member k at d ≡ at
past_other k at (array ds) h = rw h refl
past_other k at d h = refl

pub stays_children : (compound : Bool) → is_node_key compound (codes "children") ≡ false
stays_children true = refl
stays_children false = refl

stays_ports : (compound : Bool) → is_node_key compound (codes "ports") ≡ false
stays_ports true = refl
stays_ports false = refl

stays_edges : (compound : Bool) → is_node_key compound (codes "edges") ≡ false
stays_edges true = refl
stays_edges false = refl

-- any numbers serve where the member is not the one of the children
ports_same : (doc : Document) (p : Placed) (at a b : Numbers) (d : Data) → answer_member doc p at a (codes "ports") d ≡ answer_member doc p at b (codes "ports") d
ports_same doc p at a b null = refl
ports_same doc p at a b d = refl

edges_same : (doc : Document) (p : Placed) (at a b : Numbers) (d : Data) → answer_member doc p at a (codes "edges") d ≡ answer_member doc p at b (codes "edges") d
edges_same doc p at a b null = refl
edges_same doc p at a b d = refl

pub children_found : (doc : Document) (p : Placed) (at : Numbers) (compound : Bool) (ms : Members) (below : Numbers)
    → get_member (codes "children") (answered doc p at compound below ms) ≡ option_map (answer_member doc p at below (codes "children")) (get_member (codes "children") ms)
children_found doc p at compound ms below =
    found doc p at compound (codes "children") (stays_children compound) (λ l e b apart_from d. ap (λ c. answer_member doc p at c (codes "children") d) (past_other l b e (is_reversed (codes "children") l apart_from))) ms below

pub ports_found : (doc : Document) (p : Placed) (at : Numbers) (compound : Bool) (ms : Members) (below : Numbers)
    → get_member (codes "ports") (answered doc p at compound below ms) ≡ option_map (answer_member doc p at below (codes "ports")) (get_member (codes "ports") ms)
ports_found doc p at compound ms below = found doc p at compound (codes "ports") (stays_ports compound) (λ l e b _ d. ports_same doc p at (past_member l b e) b d) ms below

pub edges_found : (doc : Document) (p : Placed) (at : Numbers) (compound : Bool) (ms : Members) (below : Numbers)
    → get_member (codes "edges") (answered doc p at compound below ms) ≡ option_map (answer_member doc p at below (codes "edges")) (get_member (codes "edges") ms)
edges_found doc p at compound ms below = found doc p at compound (codes "edges") (stays_edges compound) (λ l e b _ d. edges_same doc p at (past_member l b e) b d) ms below

-- ---- the written members are others

other : (q k : List ℕ) → is_node_key true q ≡ false → is_node_key true k ≡ true → q ≡ k → ⊥
other q k stays gone e = true≢false (sym gone ∙ ap (is_node_key true) (sym e) ∙ stays)

get_place : (q : List ℕ) (box : Option Rect) (ms : Members) → is_node_key true q ≡ false → get_member q (with_place box ms) ≡ get_member q ms
get_place q None ms h = refl
get_place q (Some box) ms h =
    get_member-put_other q (codes "y") (whole box.y) (put (codes "x") (whole box.x) ms) (other q (codes "y") h refl)
    ∙ get_member-put_other q (codes "x") (whole box.x) ms (other q (codes "x") h refl)

get_size : (q : List ℕ) (box : Option Rect) (ms : Members) → is_node_key true q ≡ false → get_member q (with_size box ms) ≡ get_member q ms
get_size q None ms h = refl
get_size q (Some box) ms h =
    get_member-put_other q (codes "height") (whole box.height) (put (codes "width") (whole box.width) ms) (other q (codes "height") h refl)
    ∙ get_member-put_other q (codes "width") (whole box.width) ms (other q (codes "width") h refl)

get_layering : (q : List ℕ) (doc : Document) (split : Bool) (c : Option Certificate) (ms : Members) → is_node_key true q ≡ false → get_member q (with_layering doc split c ms) ≡ get_member q ms
get_layering q doc split None ms h = refl
get_layering q doc split (Some c) ms h = get_member-put_other q (codes "layering") (layering_data doc split c) ms (other q (codes "layering") h refl)

pub get_node : (q : List ℕ) (compound : Bool) (doc : Document) (p : Placed) (n : ℕ) (ms : Members) → is_node_key true q ≡ false → get_member q (with_node compound doc p n ms) ≡ get_member q ms
get_node q false doc p n ms h = get_place q (slice_get p.boxes n) ms h
get_node q true doc p n ms h =
    get_layering q doc (is_split doc n) (option_and_then (λ c. c) (slice_get p.levels n)) (with_size (slice_get p.boxes n) (with_place (slice_get p.boxes n) ms)) h
    ∙ get_size q (slice_get p.boxes n) (with_place (slice_get p.boxes n) ms) h
    ∙ get_place q (slice_get p.boxes n) ms h

-- ---- the same number of children

length_answers : (doc : Document) (p : Placed) (at : Numbers) (ds : Items) → length (items_list (answer_children doc p at ds)) ≡ length (items_list ds)
length_answers doc p at no_items = refl
length_answers doc p at (item d ds) = ap suc (length_answers doc p (past_node at d) ds)

same_length : (doc : Document) (p : Placed) (at below : Numbers) (o : Option Data)
    → length (option_map_or items_list (option_and_then as_array (option_map (answer_member doc p at below (codes "children")) o)) []) ≡ length (option_map_or items_list (option_and_then as_array o) [])
same_length doc p at below (Some (array ds)) = length_answers doc p below ds
same_length doc p at below o = refl

pub same_children : (doc : Document) (p : Placed) (at below : Numbers) (compound : Bool) (n : ℕ) (ms : Members)
    → has_children (object (with_node compound doc p n (answered doc p at compound below ms))) ≡ has_children (object ms)
same_children doc p at below compound n ms =
    ap (λ o. nat_lt 0 (length (option_map_or items_list (option_and_then as_array o) [])))
    (get_node (codes "children") compound doc p n (answered doc p at compound below ms) refl ∙ children_found doc p at compound ms below)
    ∙ ap (λ k. nat_lt 0 k) (same_length doc p at below (get_member (codes "children") ms))

-- a key below others is none of them
below_differs : (b : Bool) (k l : List ℕ) → bytes_eq k l ≡ b → cmp k l ≡ Less → bytes_eq k l ≡ false
below_differs true k l is less = let bad : Less ≡ Equal = sym less ∙ ap (cmp k) (sym (equal_bytes k l is)) ∙ same_cmp k in absurd (cc)
below_differs false k l is less = is

pub below_apart : (k l : List ℕ) → cmp k l ≡ Less → bytes_eq k l ≡ false
below_apart k l less = below_differs (bytes_eq k l) k l refl less

-- ---- the children stand at one member

past_none : (k : List ℕ) (ms : Members) (at : Numbers) → k ≡ codes "children" → IsBelow k ms → past_members at ms ≡ at
past_none k no_members at e h = refl
past_none k (member l d ms) at e h =
    let away : bytes_eq l (codes "children") ≡ false = subst (λ c. bytes_eq l c ≡ false) e (is_reversed k l (below_apart k l h.0)) in
    ap (λ c. past_members c ms) (past_other l at d away) ∙ past_none k ms at e h.1

-- after the children no more numbers are given
pub past_after : (k : List ℕ) (ms : Members) (at : Numbers) → bytes_eq k (codes "children") ≡ true → IsBelow k ms → past_members at ms ≡ at
past_after k ms at e h = past_none k ms at (equal_bytes k (codes "children") e) h

below_by : (b : Bool) (pl owner : ℕ) (h : Data) (k : List ℕ) (d : Data) (ms : Members) → bytes_eq k (codes "children") ≡ b
    → elements_below pl owner h ms ≡ option_map_or (elements_within pl owner h) (get_member (codes "children") ms) []
    → elements_below pl owner h (member k d ms) ≡ option_map_or (elements_within pl owner h) (get_member (codes "children") (member k d ms)) []
below_by true pl owner h k d ms is ih =
    let at : get_member (codes "children") (member k d ms) ≡ Some d = subst (λ l. get_member l (member k d ms) ≡ Some d) (equal_bytes k (codes "children") is) (get_here k d ms) in
    let here : elements_below pl owner h (member k d ms) ≡ elements_within pl owner h d = rw is refl in
    here ∙ ap (λ o. option_map_or (elements_within pl owner h) o []) (sym at)
below_by false pl owner h k d ms is ih =
    let later : elements_below pl owner h (member k d ms) ≡ elements_below pl owner h ms = rw is refl in
    later ∙ ih ∙ ap (λ o. option_map_or (elements_within pl owner h) o []) (sym (get_later (codes "children") k d ms (is_reversed k (codes "children") is)))

below_get : (pl owner : ℕ) (h : Data) (ms : Members) → elements_below pl owner h ms ≡ option_map_or (elements_within pl owner h) (get_member (codes "children") ms) []
below_get pl owner h no_members = refl
below_get pl owner h (member k d ms) = below_by (bytes_eq k (codes "children")) pl owner h k d ms refl (below_get pl owner h ms)

-- the written members of a node change nothing in what stands in it
pub below_node : (pl owner : ℕ) (h : Data) (compound : Bool) (doc : Document) (p : Placed) (n : ℕ) (ms : Members)
    → elements_below pl owner h (with_node compound doc p n ms) ≡ elements_below pl owner h ms
below_node pl owner h compound doc p n ms =
    below_get pl owner h (with_node compound doc p n ms)
    ∙ ap (λ o. option_map_or (elements_within pl owner h) o []) (get_node (codes "children") compound doc p n ms refl)
    ∙ sym (below_get pl owner h ms)
