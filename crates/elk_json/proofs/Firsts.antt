-- Where ids stand first.
use Rattle.std.proofs.Common.{◌≡◌, ℕ, zero, suc, ◌+◌, ◌≤◌, List, [], ◌∷◌, take, Bool, true, false, cond, not, ◌&&◌, ◌||◌, Option, Some, None, if◌then◌else◌, refl, ap, sym, subst, ◌∙◌, arith}
use Rattle.std.specs.Prelude.{nat_lt, option_map, bytes_eq}
use Rattle.std.specs.Option.{option_map_or, option_or}
use Rattle.std.specs.List.{list_any}
use Rattle.std.specs.Ordering.{int_eq}
use Rattle.std.proofs.Math.Bool.{and-false}
use Rattle.std.proofs.lemmas.Bool.{lt-ltb, le-ltb}
use Rattle.std.proofs.lemmas.Bool.Decides.{Decides-int_eq, same_from_decides}
use Rattle.std.proofs.lemmas.Slice.Eq.{bytes_eq-Decides}
use Rattle.std.proofs.lemmas.List.{take-map}
use Rattle.serde_json.specs.Data.{Data}
use Rattle.indexmap.specs.IndexMap.{IndexMap, get, get_by}
use Rattle.elk_doc.specs.declared.document.Id.{Id}
use Rattle.elk_doc.specs.declared.document.Id.TheVariants as id
use Rattle.elk_json.specs.declared.key.Key.{Key}
use Rattle.elk_json.specs.declared.key.Key.TheVariants.{Text, Whole}
use Rattle.elk_json.specs.declared.elements as code
use Rattle.elk_json.specs.Elements.{Element}
use Rattle.elk_json.specs.Members.{is_edge, id_of, to_id}
use Rattle.elk_json.specs.Ends.{is_same_id, is_some_same_id, is_double, is_named, named, first_place}
use Rattle.elk_json.specs.Keys.{key_id, is_same_key}
use Rattle.elk_json.specs.Seen.{seen, seen_list}
use Rattle.elk_json.specs.Tables.{has_id}

-- ---- keys and ids

same_ids : (a b : Key) → is_same_key a b ≡ is_same_id (key_id a) (key_id b)
same_ids (Text a) (Text b) = refl
same_ids (Text a) (Whole n) = refl
same_ids (Whole m) (Text b) = refl
same_ids (Whole m) (Whole n) = refl

id_from_same : (a b : Id) → is_same_id a b ≡ true → a ≡ b
id_from_same (id.Text a) (id.Text b) h = ap id.Text ((bytes_eq-Decides a b).0 h)
id_from_same (id.Text a) (id.Whole n) h = absurd cc
id_from_same (id.Whole m) (id.Text b) h = absurd cc
id_from_same (id.Whole m) (id.Whole n) h = ap id.Whole ((Decides-int_eq m n).0 h)

pub bytes_turn : (a b : List ℕ) → bytes_eq a b ≡ bytes_eq b a
bytes_turn a b =
    let d = bytes_eq-Decides a b in
    let e = bytes_eq-Decides b a in
    same_from_decides (bytes_eq a b) (bytes_eq b a) d (λ h. sym (e.0 h), λ h. e.1 (sym h))

key_turn : (a b : Key) → is_same_key a b ≡ is_same_key b a
key_turn (Text a) (Text b) = bytes_turn a.now b.now
key_turn (Text a) (Whole n) = refl
key_turn (Whole m) (Text b) = refl
key_turn (Whole m) (Whole n) =
    let d = Decides-int_eq m n in
    let e = Decides-int_eq n m in
    same_from_decides (int_eq m n) (int_eq n m) d (λ h. sym (e.0 h), λ h. e.1 (sym h))

key_pass : (a b x : Key) → is_same_key a b ≡ true → is_same_key a x ≡ is_same_key b x
key_pass a b x h =
    same_ids a x ∙ ap (λ i. is_same_id i (key_id x)) (id_from_same (key_id a) (key_id b) (sym (same_ids a b) ∙ h)) ∙ sym (same_ids b x)

-- the same key has the same place
get_pass : {S : Type 0} (t : IndexMap Key ℕ S) (a b : Key) → is_same_key a b ≡ true → get is_same_key t a ≡ get is_same_key t b
get_pass t a b h = λ j. get_by (λ x. key_pass a b x h j) t

-- ---- a place noted for a key

or_none : (o : Option ℕ) → option_or o None ≡ o
or_none None = refl
or_none (Some x) = refl

noted_by : (b : Bool) (p : ℕ) (old new : Option ℕ) → new ≡ cond b (Some p) old → (b ≡ true → old ≡ None) → new ≡ option_or old (if b then Some p else None)
noted_by true p old new e none = e ∙ sym (ap (λ o. option_or o (Some p)) (none refl))
noted_by false p old new e none = e ∙ sym (or_none old)

pub noted : {S : Type 0} (t : IndexMap Key ℕ S) (l : Key) (p : ℕ) (k : Key) (new : Option ℕ) → get is_same_key t l ≡ None → new ≡ cond (is_same_key l k) (Some p) (get is_same_key t k)
    → new ≡ option_or (get is_same_key t k) (if is_same_key k l then Some p else None)
noted t l p k new none e =
    subst (λ b. new ≡ option_or (get is_same_key t k) (if b then Some p else None)) (key_turn l k)
    (noted_by (is_same_key l k) p (get is_same_key t k) new e (λ h. sym (get_pass t l k h) ∙ none))

-- ---- what a first place says

first_same : (s t : Element → Bool) (n : ℕ) (es : List Element) → ((e : Element) → s e ≡ t e) → first_place s n es ≡ first_place t n es
first_same s t n es h = λ j. first_place (λ e. h e j) n es

never : (test : Element → Bool) (n : ℕ) (es : List Element) → ((e : Element) → test e ≡ false) → first_place test n es ≡ None
never test n [] h = refl
never test n (e ∷ es) h = ap (λ b. if b then Some n else first_place test (n + 1) es) (h e) ∙ never test (n + 1) es h

no_same : (o p : Option Id) → o ≡ None → is_some_same_id o p ≡ false
no_same o p h = ap (λ q. is_some_same_id q p) h

-- a reference that is no id names nothing
pub named_none : (es : List Element) (d : Data) → to_id d ≡ None → named es d ≡ None
unfolding named is_named
named_none es d h = never (is_named d) 0 es (λ e. ap (λ b. not (is_edge e) && b) (no_same (to_id d) (id_of e.value) h) ∙ and-false (not (is_edge e)))

-- and any other names the first node or port of its id
pub named_first : (es : List Element) (d : Data) (i : Id) → to_id d ≡ Some i → named es d ≡ first_place (has_id false i) 0 es
unfolding named is_named
named_first es d i h = first_same (is_named d) (has_id false i) 0 es (λ e. ap (λ o. not (is_edge e) && is_some_same_id o (id_of e.value)) h)

-- a first place is no earlier than the list's
low_by : (b : Bool) (low m : ℕ) (rest : Option ℕ) → low ≤ m → option_map_or (λ i. nat_lt i low) rest false ≡ false → option_map_or (λ i. nat_lt i low) (if b then Some m else rest) false ≡ false
low_by true low m rest h left = le-ltb m low h
low_by false low m rest h left = left

first_low : (test : Element → Bool) (low m : ℕ) (es : List Element) → low ≤ m → option_map_or (λ i. nat_lt i low) (first_place test m es) false ≡ false
first_low test low m [] h = refl
first_low test low m (e ∷ es) h = low_by (test e) low m (first_place test (m + 1) es) h (first_low test low (m + 1) es (omega arith))

before_by : (b : Bool) (m n : ℕ) (r : Bool) (o : Option ℕ) → r ≡ option_map_or (λ i. nat_lt i (m + 1 + n)) o false → (b || r) ≡ option_map_or (λ i. nat_lt i (m + suc n)) (if b then Some m else o) false
before_by true m n r o h = sym (lt-ltb m (m + suc n) (omega arith))
before_by false m n r o h = h ∙ ap (λ k. option_map_or (λ i. nat_lt i k) o false) (let e : m + 1 + n ≡ m + suc n = omega arith in e)

-- whether an element before a place passes
before_from : (test : Element → Bool) (n m : ℕ) (es : List Element) → list_any test (take n es) ≡ option_map_or (λ i. nat_lt i (m + n)) (first_place test m es) false
before_from test zero m es = sym (first_low test (m + 0) m es (omega arith))
before_from test (suc n) m [] = refl
before_from test (suc n) m (e ∷ es) = before_by (test e) m n (list_any test (take n es)) (first_place test (m + 1) es) (before_from test n (m + 1) es)

-- ---- an id that stood earlier

any_same : (s t : Element → Bool) (es : List Element) → ((e : Element) → s e ≡ t e) → list_any s es ≡ list_any t es
any_same s t es h = λ j. list_any (λ e. h e j) es

any_never : (es : List Element) → list_any (λ (e : Element). false) es ≡ false
any_never [] = refl
any_never (e ∷ es) = any_never es

-- an element with no id doubles none
pub double_none : (e : Element) (es : List Element) → id_of e.value ≡ None → list_any (is_double e) es ≡ false
unfolding is_double
double_none e es h =
    any_same (is_double e) (λ _. false) es
    (λ f. ap (λ b. (if is_edge e then is_edge f else not (is_edge f)) && b) (no_same (id_of e.value) (id_of f.value) h) ∙ and-false (if is_edge e then is_edge f else not (is_edge f)))
    ∙ any_never es

-- and any other doubles one before a place where its id stands first before it
double_first : (e : Element) (i : Id) (n : ℕ) (es : List Element) → id_of e.value ≡ Some i
    → list_any (is_double e) (take n es) ≡ option_map_or (λ k. nat_lt k n) (first_place (has_id (is_edge e) i) 0 es) false
unfolding is_double
double_first e i n es h =
    any_same (is_double e) (has_id (is_edge e) i) (take n es) (λ f. ap (λ o. (if is_edge e then is_edge f else not (is_edge f)) && is_some_same_id o (id_of f.value)) h)
    ∙ before_from (has_id (is_edge e) i) n 0 es
    ∙ ap (λ m. option_map_or (λ k. nat_lt k m) (first_place (has_id (is_edge e) i) 0 es) false) (let e : 0 + n ≡ n = omega arith in e)

-- what the table says of an element's id
pub double_there : (e : code.Element.Element) (l : Key) (n : ℕ) (es : List code.Element.Element) (edges : Bool) (first : Option ℕ) (r : Bool) → e.key ≡ Some l → edges ≡ is_edge (seen e)
    → first ≡ first_place (has_id edges (key_id l)) 0 (seen_list es) → r ≡ option_map_or (λ i. nat_lt i n) first false → r ≡ list_any (is_double (seen e)) (seen_list (take n es))
double_there e l n es edges first r key is found read =
    read
    ∙ ap (λ o. option_map_or (λ i. nat_lt i n) o false) (found ∙ ap (λ b. first_place (has_id b (key_id l)) 0 (seen_list es)) is)
    ∙ sym (double_first (seen e) (key_id l) n (seen_list es) (sym e.keyed ∙ ap (option_map key_id) key))
    ∙ ap (list_any (is_double (seen e))) (take-map seen n es)
