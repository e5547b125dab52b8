-- What is read has numbers that are read back as they are written.
use Rattle.std.proofs.Common.{◌≡◌, ℕ, suc, zero, ◌^◌, ◌<◌, pos, negsuc, Float, ◌≤◌, List, [], ◌∷◌, ◌++◌, ◌&&◌, ◌==◌, Bool, true, false, Option, Some, None, Ordering, Less, Equal, Greater, nat_lt, nat_le, refl, sym, ap, ap₂, ◌∙◌, subst, arith, rules, option_map, append-nil}
use Rattle.std.specs.Prelude.{IfSome, max, option_and_then, if◌then◌else◌, drop, slice_index}
use Rattle.std.specs.Ordering.{match_ordering, nat_cmp}
use Rattle.std.specs.Cmp.Lexicographic.{slice_cmp}
use Rattle.std.proofs.lemmas.Bool.{and_parts, or_parts}
use Rattle.std.specs.Str.{is_utf8}
use Rattle.fast_float.specs.Text.{minus, Parts, scan, digits_of, with_sign, nearest}
use Rattle.std.specs.Float.{binary64, float_is_finite}
use Rattle.json.specs.Json as json
use Rattle.json.specs.Lex.{tokens}
use Rattle.json.specs.Token.{Token}
use Rattle.json.specs.Print.{print}
use Rattle.json.specs.Tree as tree
use Rattle.serde_json.specs.Data.{Num, unsigned, negative, float, Data, null, boolean, number, string, array, object, Items, no_items, item, Members, no_members, member, put, depth, items_depth, members_depth}
use Rattle.serde_json.specs.Find.{is_float}
use Rattle.serde_json.specs.Read.{number_of, number_from, float_of, is_integer, of_json, of_items, of_members, read, max_depth}
use Rattle.serde_json.specs.Written.{number_text, outline, items_outline, members_outline, blank, blank_items, blank_members, has_float, items_have_float, members_have_float}
use Rattle.serde_json.proofs.Numbers.{number_of-decimal, number_of-negative}
use Rattle.serde_json.proofs.Texts.{unless_float-number_of}
use Rattle.json.proofs.Printed.Trees.{value-json_tokens}
use Rattle.elk_json.specs.Bytes.{reading}
use Rattle.elk_json.specs.Keyed.{IsKeyed, AreItemsKeyed, AreMembersKeyed}
use Rattle.elk_write.specs.Sized.{IsSized, AreSized, AreItemsSized, AreMembersSized}
use Rattle.std.specs.Str.{IsUtf8}
use Rattle.json.specs.Tree.{json_tokens}
use Rattle.elk_write.proofs.LineFeed.{read_with_feed}
use Rattle.elk_write.proofs.Puts.{put_all, put_all_sorted, sorted_keyed}

-- ---- put

sized_by : (o : Ordering) (k l : List ℕ) (d e : Data) (ms : Members) → AreSized d → AreMembersSized (member l e ms) → AreMembersSized (put k d ms)
    → AreMembersSized (match_ordering o (member k d (member l e ms)) (member l d ms) (member l e (put k d ms)))
sized_by Less k l d e ms hd h ih = (hd, h)
sized_by Equal k l d e ms hd h ih = (hd, h.1)
sized_by Greater k l d e ms hd h ih = (h.0, ih)

pub sized_put : (k : List ℕ) (d : Data) (ms : Members) → AreSized d → AreMembersSized ms → AreMembersSized (put k d ms)
sized_put k d no_members hd h = (hd, tt)
sized_put k d (member l e ms) hd h = sized_by (slice_cmp nat_cmp k l) k l d e ms hd h (sized_put k d ms hd h.1)

-- ---- numbers

float_sized : (b : Bool) (x : Float) (n : Num) → (if b then Some (float x) else None) ≡ Some n → IsSized n
float_sized true x n e = subst (λ o. IfSome o IsSized) e tt
float_sized false x n e = let bad : None ≡ Some n = e in absurd (cc)

plain_by : (b : Bool) (m : ℕ) (o : Option Num) (n : Num) → (b ≡ true → m < 2 ^ 64) → ((o ≡ Some n) → IsSized n) → (if b then Some (unsigned m) else o) ≡ Some n → IsSized n
plain_by true m o n small other e = subst (λ o. IfSome o IsSized) e (small refl)
plain_by false m o n small other e = other e

below_sized : (m : ℕ) → 0 < m → m ≤ 2 ^ 63 → IsSized (negative (with_sign true m))
below_sized zero some h = absurd (omega arith)
below_sized (suc m) some h = let within : m < 2 ^ 63 = omega arith in within

minus_by : (b : Bool) (m : ℕ) (o : Option Num) (n : Num) → (b ≡ true → (0 < m) × (m ≤ 2 ^ 63)) → ((o ≡ Some n) → IsSized n) → (if b then Some (negative (with_sign true m)) else o) ≡ Some n → IsSized n
minus_by true m o n small other e = let s = small refl in subst (λ o. IfSome o IsSized) e (below_sized m s.0 s.1)
minus_by false m o n small other e = other e

from_sized : (sign : Bool) (p : Parts) (n : Num) → number_from sign p ≡ Some n → IsSized n
from_sized false p n e =
    plain_by (is_integer p && nat_lt (digits_of p) (2 ^ 64)) (digits_of p) (float_of false p) n
    (λ h. let b : nat_lt (digits_of p) (2 ^ 64) ≡ true = (and_parts (is_integer p) _ h).1 in search rules)
    (float_sized (float_is_finite (nearest binary64 false p)) (nearest binary64 false p) n) e
from_sized true p n e =
    minus_by (is_integer p && nat_lt 0 (digits_of p) && nat_le (digits_of p) (2 ^ 63)) (digits_of p) (float_of true p) n
    (λ h.
    let both = and_parts (is_integer p && nat_lt 0 (digits_of p)) (nat_le (digits_of p) (2 ^ 63)) h in
    let some : nat_lt 0 (digits_of p) ≡ true = (and_parts (is_integer p) (nat_lt 0 (digits_of p)) both.0).1 in
    let few : nat_le (digits_of p) (2 ^ 63) ≡ true = both.1 in
    (search rules, search rules))
    (float_sized (float_is_finite (nearest binary64 true p)) (nearest binary64 true p) n) e

number_by : (b : Bool) (s : List ℕ) (n : Num) → (if b then number_from true (scan (drop 1 s)) else number_from false (scan s)) ≡ Some n → IsSized n
number_by true s n e = from_sized true (scan (drop 1 s)) n e
number_by false s n e = from_sized false (scan s) n e

number_sized : (s : List ℕ) (n : Num) → number_of s ≡ Some n → IsSized n
unfolding number_of
number_sized s n e = number_by (slice_index s 0 == minus) s n e

-- ---- values

on_number : (o : Option Num) → IfSome o IsSized → IfSome (option_map number o) AreSized
on_number None h = tt
on_number (Some n) h = h

on_array : (o : Option Items) → IfSome o AreItemsSized → IfSome (option_map array o) AreSized
on_array None h = tt
on_array (Some ds) h = h

on_object : (o : Option Members) → IfSome o AreMembersSized → IfSome (option_map object o) AreSized
on_object None h = tt
on_object (Some ms) h = h

with_item : (d : Data) (o : Option Items) → AreSized d → IfSome o AreItemsSized → IfSome (option_map (item d) o) AreItemsSized
with_item d None hd h = tt
with_item d (Some ds) hd h = (hd, h)

on_items : (o : Option Data) (rest : Option Items) → IfSome o AreSized → IfSome rest AreItemsSized → IfSome (option_and_then (λ d. option_map (item d) rest) o) AreItemsSized
on_items None rest h hs = tt
on_items (Some d) rest h hs = with_item d rest h hs

on_members : (o : Option Data) (f : Data → Option Members) → IfSome o AreSized → ((d : Data) → AreSized d → IfSome (f d) AreMembersSized) → IfSome (option_and_then f o) AreMembersSized
on_members None f h more = tt
on_members (Some d) f h more = more d h

read_sized : (s : List ℕ) (o : Option Num) → number_of s ≡ o → IfSome o IsSized
read_sized s None e = tt
read_sized s (Some n) e = number_sized s n e

mutual
  sized_json : (j : json.Json) → IfSome (of_json j) AreSized
  sized_json json.null = tt
  sized_json (json.boolean b) = tt
  sized_json (json.number s) = on_number (number_of s) (read_sized s (number_of s) refl)
  sized_json (json.string s) = tt
  sized_json (json.array js) = on_array (of_items js) (sized_items js)
  sized_json (json.object ms) = on_object (of_members ms no_members) (sized_members ms no_members tt)

  sized_items : (js : json.Items) → IfSome (of_items js) AreItemsSized
  sized_items json.no_items = tt
  sized_items (json.item j js) = on_items (of_json j) (of_items js) (sized_json j) (sized_items js)

  sized_members : (ms : json.Members) (found : Members) → AreMembersSized found → IfSome (of_members ms found) AreMembersSized
  sized_members json.no_members found h = h
  sized_members (json.member k j ms) found h = on_members (of_json j) (λ d. of_members ms (put k d found)) (sized_json j) (λ d hd. sized_members ms (put k d found) (sized_put k d found hd h))

on_read : (o : Option json.Json) → IfSome (option_and_then of_json o) AreSized
on_read None = tt
on_read (Some j) = sized_json j

at_some : (o : Option Data) (d : Data) → IfSome o AreSized → o ≡ Some d → AreSized d
at_some o d h e = let P : Option Data → Type 0 = λ x. IfSome x AreSized in subst P e h

read_by : (b : Bool) (bytes : List ℕ) (d : Data) → (if b then read bytes else None) ≡ Some d → AreSized d
read_by true bytes d e = at_some (read bytes) d (on_read (option_and_then (λ p. json.if_last p.0 p.1) (json.value max_depth (tokens bytes)))) e
read_by false bytes d e = let bad : None ≡ Some d = e in absurd (cc)

-- what is read has numbers of 64 bits
pub reading_sized : (bytes : List ℕ) (d : Data) → reading bytes ≡ Some d → AreSized d
reading_sized bytes d e = read_by (is_utf8 bytes) bytes d e

-- ---- back

number_back : (n : Num) → IsSized n → is_float n ≡ false → number_of (number_text n) ≡ Some n
number_back (unsigned n) h e = number_of-decimal n h
number_back (negative (negsuc n)) h e = number_of-negative n h
number_back (negative (pos n)) h e = absurd h
number_back (float x) h e = let bad : true ≡ false = e in absurd (cc)

mutual
  pub json_back : (d : Data) → AreSized d → has_float d ≡ false → IsKeyed d → of_json (outline d) ≡ Some d
  json_back null h e k = refl
  json_back (boolean b) h e k = refl
  json_back (number n) h e k = ap (option_map number) (number_back n h e)
  json_back (string s) h e k = refl
  json_back (array ds) h e k = ap (option_map array) (items_back ds h e k)
  json_back (object ms) h e k = ap (option_map object) (members_back ms no_members h e k ∙ ap (λ m. Some m) (put_all_sorted ms (sorted_keyed ms k)))

  items_back : (ds : Items) → AreItemsSized ds → items_have_float ds ≡ false → AreItemsKeyed ds → of_items (items_outline ds) ≡ Some ds
  items_back no_items h e k = refl
  items_back (item d ds) h e k =
      let p = or_parts (has_float d) (items_have_float ds) e in
      rw (json_back d h.0 p.0 k.0) (ap (option_map (item d)) (items_back ds h.1 p.1 k.1))

  members_back : (ms into : Members) → AreMembersSized ms → members_have_float ms ≡ false → AreMembersKeyed ms → of_members (members_outline ms) into ≡ Some (put_all into ms)
  members_back no_members into h e k = refl
  members_back (member q d ms) into h e k =
      let p = or_parts (has_float d) (members_have_float ms) e in
      rw (json_back d h.0 p.0 k.1) (members_back ms (put q d into) h.1 p.1 k.2)

mutual
  blank_back : (d : Data) → AreSized d → has_float d ≡ false → blank (outline d) ≡ outline d
  blank_back null h e = refl
  blank_back (boolean b) h e = refl
  blank_back (number n) h e = ap json.number (unless_float-number_of (number_text n) n (number_back n h e) ∙ rw e refl)
  blank_back (string s) h e = refl
  blank_back (array ds) h e = ap json.array (blank_items_back ds h e)
  blank_back (object ms) h e = ap json.object (blank_members_back ms h e)

  blank_items_back : (ds : Items) → AreItemsSized ds → items_have_float ds ≡ false → blank_items (items_outline ds) ≡ items_outline ds
  blank_items_back no_items h e = refl
  blank_items_back (item d ds) h e = let p = or_parts (has_float d) (items_have_float ds) e in ap₂ json.item (blank_back d h.0 p.0) (blank_items_back ds h.1 p.1)

  blank_members_back : (ms : Members) → AreMembersSized ms → members_have_float ms ≡ false → blank_members (members_outline ms) ≡ members_outline ms
  blank_members_back no_members h e = refl
  blank_members_back (member q d ms) h e = let p = or_parts (has_float d) (members_have_float ms) e in ap₂ (json.member q) (blank_back d h.0 p.0) (blank_members_back ms h.1 p.1)

mutual
  outline_depth : (d : Data) → tree.depth (outline d) ≡ depth d
  outline_depth (array ds) = ap suc (outline_items_depth ds)
  outline_depth (object ms) = ap suc (outline_members_depth ms)
  outline_depth d = refl

  outline_items_depth : (ds : Items) → tree.items_depth (items_outline ds) ≡ items_depth ds
  outline_items_depth no_items = refl
  outline_items_depth (item d ds) = ap₂ max (outline_depth d) (outline_items_depth ds)

  outline_members_depth : (ms : Members) → tree.members_depth (members_outline ms) ≡ members_depth ms
  outline_members_depth no_members = refl
  outline_members_depth (member k d ms) = ap₂ max (outline_depth d) (outline_members_depth ms)

abbrev whole : Option (json.Json × List Token) → Option Data
whole o = option_and_then of_json (option_and_then (λ p. json.if_last p.0 p.1) o)

-- a text with the tokens of such a value is read as it, also with a line feed
pub text_back : (bytes : List ℕ) (d : Data) → IsUtf8 bytes → bytes ≡ print (json_tokens (outline d)) → tokens (print (json_tokens (outline d))) ≡ json_tokens (outline d)
    → AreSized d → has_float d ≡ false → IsKeyed d → depth d ≤ max_depth → reading (bytes ++ 10 ∷ []) ≡ Some d
text_back bytes d utf8 is spells sized none keyed shallow =
    let same : tokens bytes ≡ json_tokens (outline d) = ap tokens is ∙ spells in
    let flat : tree.depth (outline d) ≤ max_depth = subst (λ n. n ≤ max_depth) (sym (outline_depth d)) shallow in
    let back : read bytes ≡ Some d =
    ap (λ ts. whole (json.value max_depth ts)) (same ∙ sym (append-nil (json_tokens (outline d))))
    ∙ ap whole (value-json_tokens (outline d) max_depth [] flat)
    ∙ json_back d sized none keyed in
    read_with_feed bytes d utf8 (outline d, same, blank_back d sized none) (is ∙ ap print (sym same)) back
