-- Written members stand in order among those that are kept.
use Rattle.std.proofs.Common.{◌≡◌, ℕ, zero, suc, List, [], ◌∷◌, ◌++◌, drop, Ordering, Less, Equal, Greater, Bool, true, false, true≢false, bytes_eq, refl, sym, ap, ◌∙◌, Option, Some, None, String, Global, string_bytes, string_cmp}
use Rattle.std.specs.Prelude.{codes, if◌then◌else◌, ◌||◌, option_and_then, slice_get}
use Rattle.std.specs.Ordering.{match_ordering, ordering_reverse, is_lt}
use Rattle.std.specs.List.{AllByRecursion}
use Rattle.std.specs.List.Sorted.{IsStrictlySortedBy}
use Rattle.std.specs.Map.{keys_of}
use Rattle.std.proofs.lemmas.Cmp.{nat_list_cmp_total}
use Rattle.serde_json.specs.View.{members_view}
use Rattle.serde_json.proofs.Views.{Entry}
use Rattle.serde_json.specs.Data.{Data, object, Members, no_members, member, put}
use Rattle.drawing_types.specs.declared.shape.Point.{Point}
use Rattle.drawing_types.specs.declared.shape.Rect.{Rect}
use Rattle.elk_doc.specs.declared.document.Edge.{Edge}
use Rattle.drawing_types.specs.declared.section.Section.{Section}
use Rattle.elk_doc.specs.declared.drawing.Certificate.{Certificate}
use Rattle.elk_doc.specs.declared.drawing.Placed.{Placed}
use Rattle.elk_doc.specs.Document.{Document}
use Rattle.elk_json.specs.Keyed.{IsBelow}
use Rattle.elk_write.specs.declared.own.Own.{Own}
use Rattle.elk_write.specs.Values.{whole, layering_data}
use Rattle.elk_json.specs.Members.{has_children}
use Rattle.elk_write.specs.declared.numbers.Numbers.{Numbers}
use Rattle.elk_write.specs.Keys.{is_flat_key, is_node_key}
use Rattle.elk_write.specs.Strip.{members_but}
use Rattle.elk_write.specs.Numbers.{past_own, past_member}
use Rattle.elk_write.specs.Answered.{kept_into, port_answer, edge_answer, answer_into, answer_node, with_point, with_sections, with_place, with_size, with_layering, with_level, with_node}
use Rattle.elk_write.specs.Merged.{answered, told_data, own_members, append, point_members, edge_members, height_members, width_members, layering_members, level_members, place_members, node_members, puts, IsSorted, AreGone, is_before}
use Rattle.elk_write.specs.Written.{is_split}
use Rattle.elk_write.proofs.Kept.{kept_sorted, answer_sorted}
use Rattle.elk_write.proofs.Shape.{equal_bytes, past_other, stays_children}
use Rattle.elk_write.proofs.Puts.{cmp, same_key, append_append}

-- ---- below

pub below_trans : (k l : List ℕ) (ms : Members) → cmp k l ≡ Less → IsBelow l ms → IsBelow k ms
below_trans k l no_members e h = tt
below_trans k l (member m d ms) e h = (nat_list_cmp_total.trans k l m e h.0, below_trans k l ms e h.1)

below_by : (o : Ordering) (l k m : List ℕ) (d e : Data) (ms : Members) → cmp l k ≡ Less → IsBelow l (member m e ms) → IsBelow l (put k d ms)
    → IsBelow l (match_ordering o (member k d (member m e ms)) (member m d ms) (member m e (put k d ms)))
below_by Less l k m d e ms lt h rest = (lt, h)
below_by Equal l k m d e ms lt h rest = (h.0, h.1)
below_by Greater l k m d e ms lt h rest = (h.0, rest)

below_put : (l k : List ℕ) (d : Data) (ms : Members) → cmp l k ≡ Less → IsBelow l ms → IsBelow l (put k d ms)
below_put l k d no_members lt h = (lt, tt)
below_put l k d (member m e ms) lt h = below_by (cmp k m) l k m d e ms lt h (below_put l k d ms lt h.1)

below_puts : (k : List ℕ) (own ms : Members) → IsBelow k own → IsBelow k ms → IsBelow k (puts own ms)
below_puts k no_members ms h b = b
below_puts k (member l e own) ms h b = below_put k l e (puts own ms) h.0 (below_puts k own ms h.1 b)

put_below : (k : List ℕ) (d : Data) (ms : Members) → IsBelow k ms → put k d ms ≡ member k d ms
put_below k d no_members h = refl
put_below k d (member l e ms) h = rw h.0 refl

greater : (k l : List ℕ) → cmp k l ≡ Less → cmp l k ≡ Greater
greater k l less = nat_list_cmp_total.antisymm l k ∙ ap ordering_reverse less

-- ---- one key after the other

-- the first written member stands before all others
pub first_before : (k : List ℕ) (e : Data) (own : Members) (key : List ℕ) (d : Data) (ms : Members) → IsBelow k own → cmp k key ≡ Less → IsBelow key ms
    → puts (member k e own) (member key d ms) ≡ member k e (puts own (member key d ms))
first_before k e own key d ms sorted less below = put_below k e (puts own (member key d ms)) (below_puts k own (member key d ms) sorted (less, below_trans k key ms less below))

-- a key that is kept stands before all written ones
pub kept_before : (own : Members) (key : List ℕ) (d : Data) (ms : Members) → IsBelow key own → puts own (member key d ms) ≡ member key d (puts own ms)
kept_before no_members key d ms h = refl
kept_before (member l e own) key d ms h = ap (put l e) (kept_before own key d ms h.1) ∙ rw (greater key l h.0) refl

pub puts_none : (own : Members) → IsSorted own → puts own no_members ≡ own
puts_none no_members h = refl
puts_none (member k d own) h = ap (put k d) (puts_none own h.1) ∙ put_below k d own h.0

less_of : (o : Ordering) → is_lt o ≡ true → o ≡ Less
less_of Less h = refl
less_of Equal h = absurd (true≢false (sym h))
less_of Greater h = absurd (true≢false (sym h))

pub before_less : (k l : List ℕ) → is_before k l ≡ true → cmp k l ≡ Less
before_less k l h = less_of (cmp k l) h

after_by : (o : Ordering) (gone : List ℕ → Bool) (k key : List ℕ) → cmp k key ≡ o → is_lt o ≡ false → gone k ≡ true → gone key ≡ false → cmp key k ≡ Less
after_by Less gone k key is h g stays = absurd (true≢false h)
after_by Equal gone k key is h g stays = let bad : true ≡ false = sym g ∙ ap gone (same_key k key is) ∙ stays in absurd (true≢false bad)
after_by Greater gone k key is h g stays = nat_list_cmp_total.antisymm key k ∙ ap ordering_reverse is

-- a key that is kept is below the written ones from one on that doesn't stand before it
pub below_left : (gone : List ℕ → Bool) (k : List ℕ) (e : Data) (own : Members) (key : List ℕ) → IsBelow k own → is_before k key ≡ false → gone k ≡ true → gone key ≡ false
    → IsBelow key (member k e own)
below_left gone k e own key sorted h g stays = let less = after_by (cmp k key) gone k key refl h g stays in (less, below_trans key k own less sorted)

pub sorted_drop : (i : ℕ) (os : List Own) → IsSorted (own_members os) → IsSorted (own_members (drop i os))
sorted_drop zero os h = h
sorted_drop (suc i) [] h = tt
sorted_drop (suc i) (o ∷ os) h = sorted_drop i os h.1

pub gone_drop : (gone : List ℕ → Bool) (i : ℕ) (os : List Own) → AreGone gone (own_members os) → AreGone gone (own_members (drop i os))
gone_drop gone zero os h = h
gone_drop gone (suc i) [] h = tt
gone_drop gone (suc i) (o ∷ os) h = gone_drop gone i os h.1

-- ---- two members may be put in either order

module _ (k l : List ℕ) (d e : Data) (less : cmp k l ≡ Less) where
  commute_by : (o q : Ordering) (m : List ℕ) (f : Data) (ms : Members) → cmp k m ≡ o → cmp l m ≡ q → put k d (put l e ms) ≡ put l e (put k d ms)
      → put k d (put l e (member m f ms)) ≡ put l e (put k d (member m f ms))
  commute_by Less Less m f ms a b ih = rw (b, a, less, greater k l less, b) refl
  commute_by Less Equal m f ms a b ih = rw (b, a, greater k l less, b) refl
  commute_by Less Greater m f ms a b ih = rw (b, a, greater k l less, b) refl
  commute_by Equal Greater m f ms a b ih = rw (b, a, b) refl
  commute_by Greater Greater m f ms a b ih = rw (b, a, b) (ap (member m f) ih)
  commute_by Equal Less m f ms a b ih = let bad : Less ≡ Equal = sym (nat_list_cmp_total.trans k l m less b) ∙ a in absurd (cc)
  commute_by Greater Less m f ms a b ih = let bad : Less ≡ Greater = sym (nat_list_cmp_total.trans k l m less b) ∙ a in absurd (cc)
  commute_by Equal Equal m f ms a b ih = let bad : Less ≡ Equal = sym less ∙ ap (cmp k) (same_key l m b) ∙ a in absurd (cc)
  commute_by Greater Equal m f ms a b ih = let bad : Less ≡ Greater = sym less ∙ ap (cmp k) (same_key l m b) ∙ a in absurd (cc)

  put_commute : (ms : Members) → put k d (put l e ms) ≡ put l e (put k d ms)
  put_commute no_members = rw (less, greater k l less) refl
  put_commute (member m f ms) = commute_by (cmp k m) (cmp l m) m f ms refl refl (put_commute ms)

-- ---- the written members of an element

place_puts : (x y : Data) (ms : Members) → put (codes "y") y (put (codes "x") x ms) ≡ put (codes "x") x (put (codes "y") y ms)
place_puts x y ms = sym (put_commute (codes "x") (codes "y") x y refl ms)

pub point_merged : (p : Option Point) (ms : Members) → with_point p ms ≡ puts (point_members p) ms
point_merged None ms = refl
point_merged (Some p) ms = place_puts (whole p.x) (whole p.y) ms

pub edge_merged : (e : Option Edge) (s : Option Section) (ms : Members) → with_sections e s ms ≡ puts (edge_members e s) ms
edge_merged None s ms = refl
edge_merged (Some e) None ms = refl
edge_merged (Some e) (Some s) ms = refl

puts_append : (a b ms : Members) → puts (append a b) ms ≡ puts a (puts b ms)
puts_append no_members b ms = refl
puts_append (member k d a) b ms = ap (put k d) (puts_append a b ms)

place_merged : (box : Option Rect) (ms : Members) → with_place box ms ≡ puts (place_members box) ms
place_merged None ms = refl
place_merged (Some box) ms = place_puts (whole box.x) (whole box.y) ms

level_by : (doc : Document) (split : Bool) (box : Option Rect) (c : Option Certificate) (ms : Members)
    → with_layering doc split c (with_size box ms) ≡ puts (append (append (height_members box) (layering_members doc split c)) (width_members box)) ms
level_by doc split None None ms = refl
level_by doc split None (Some c) ms = refl
level_by doc split (Some box) None ms = refl
level_by doc split (Some box) (Some c) ms = sym (put_commute (codes "height") (codes "layering") (whole box.height) (layering_data doc split c) refl (put (codes "width") (whole box.width) ms))

level_merged : (compound : Bool) (doc : Document) (p : Placed) (n : ℕ) (ms : Members) → with_level compound doc p n ms ≡ puts (if compound then level_members doc p n else no_members) ms
level_merged true doc p n ms = level_by doc (is_split doc n) (slice_get p.boxes n) (option_and_then (λ c. c) (slice_get p.levels n)) ms
level_merged false doc p n ms = refl

pub node_merged : (compound : Bool) (doc : Document) (p : Placed) (n : ℕ) (ms : Members) → with_node compound doc p n ms ≡ puts (node_members compound doc p n) ms
node_merged compound doc p n ms =
    level_merged compound doc p n (with_place (slice_get p.boxes n) ms)
    ∙ ap (puts (if compound then level_members doc p n else no_members)) (place_merged (slice_get p.boxes n) ms)
    ∙ sym (puts_append (if compound then level_members doc p n else no_members) (place_members (slice_get p.boxes n)) ms)

-- ---- a list of written members, as it grows

pub own_push : (os : List Own) (o : Own) → own_members (os ++ o ∷ []) ≡ append (own_members os) (member o.key.now (told_data o.told) no_members)
own_push [] o = refl
own_push (q ∷ os) o = ap (member q.key.now (told_data q.told)) (own_push os o)

pub place_added : (x y : Data) (ms : Members) → append (append ms (member (codes "x") x no_members)) (member (codes "y") y no_members) ≡ append ms (member (codes "x") x (member (codes "y") y no_members))
place_added x y ms = append_append ms (member (codes "x") x no_members) (member (codes "y") y no_members)

-- ---- the members of a map

below_entries : (k : String Global) (es : List Entry) → AllByRecursion (λ y. string_cmp k y ≡ Less) (keys_of es) → IsBelow (string_bytes k) (members_view es)
below_entries k [] h = tt
below_entries k (e ∷ es) h = (h.0, below_entries k es h.1)

pub sorted_entries : (es : List Entry) → IsStrictlySortedBy string_cmp (keys_of es) → IsSorted (members_view es)
unfolding IsStrictlySortedBy
sorted_entries [] h = tt
sorted_entries (e ∷ es) h = (below_entries e.0 es h.0, sorted_entries es h.1)

-- ---- the objects of elements

pub port_object : (place : Option Point) (ms : Members) → IsSorted ms → object (puts (point_members place) (members_but (is_flat_key false) ms)) ≡ port_answer place (object ms)
port_object place ms h = ap object (sym (point_merged place (kept_into false no_members ms) ∙ ap (puts (point_members place)) (kept_sorted false ms h)))

pub edge_object : (e : Option Edge) (s : Option Section) (ms : Members) → IsSorted ms → object (puts (edge_members e s) (members_but (is_flat_key true) ms)) ≡ edge_answer e s (object ms)
edge_object e s ms h = ap object (sym (edge_merged e s (kept_into true no_members ms) ∙ ap (puts (edge_members e s)) (kept_sorted true ms h)))

pub node_object : (doc : Document) (p : Placed) (at : Numbers) (root : Bool) (ms : Members) → IsSorted ms
    → object (puts (node_members (root || has_children (object ms)) doc p at.node) (answered doc p at (root || has_children (object ms)) (past_own at (object ms)) ms)) ≡ answer_node doc p at root (object ms)
node_object doc p at root ms h =
    let compound = root || has_children (object ms) in
    ap object (sym (node_merged compound doc p at.node (answer_into doc p at compound (past_own at (object ms)) no_members ms)
    ∙ ap (puts (node_members compound doc p at.node)) (answer_sorted doc p at compound ms (past_own at (object ms)) h)))

gone_apart : (compound : Bool) (k : List ℕ) (b : Bool) → bytes_eq k (codes "children") ≡ b → is_node_key compound k ≡ true → bytes_eq k (codes "children") ≡ false
gone_apart compound k true is goes = let bad : true ≡ false = sym goes ∙ ap (is_node_key compound) (equal_bytes k (codes "children") is) ∙ stays_children compound in absurd (true≢false bad)
gone_apart compound k false is goes = is

-- a member that is written has no children
pub past_gone : (compound : Bool) (k : List ℕ) (at : Numbers) (d : Data) → is_node_key compound k ≡ true → past_member k at d ≡ at
past_gone compound k at d goes = past_other k at d (gone_apart compound k (bytes_eq k (codes "children")) refl goes)
