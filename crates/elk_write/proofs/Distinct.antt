-- An edge is found by its id, since no two edges have one id.
use Rattle.std.proofs.Common.{◌≡◌, ℕ, suc, ◌+◌, List, [], ◌∷◌, ◌++◌, length, map, filter, Bool, true, false, not, ◌&&◌, ◌||◌, bytes_eq, cond, refl, sym, ap, ◌∙◌, subst, Option, Some, None, arith, append_assoc, append-nil}
use Rattle.std.specs.Prelude.{codes, option_and_then, unwrap_or, if◌then◌else◌, pos}
use Rattle.std.specs.Option.{option_map_or}
use Rattle.std.specs.List.{list_any}
use Rattle.std.proofs.lemmas.Bool.{and_parts, or_parts}
use Rattle.std.proofs.lemmas.Bool.Decides.{Decides-int_eq}
use Rattle.std.proofs.lemmas.List.{length-append}
use Rattle.std.proofs.lemmas.Slice.Eq.{bytes_eq-Decides}
use Rattle.serde_json.specs.Data.{Data, Num, float, number, string}
use Rattle.serde_json.specs.Find.{get, is_float}
use Rattle.elk_doc.specs.declared.document.Id.{Id}
use Rattle.elk_doc.specs.declared.document.Id.TheVariants.{Text, Whole}
use Rattle.elk_doc.specs.declared.document.Edge.{Edge as DocEdge}
use Rattle.elk_json.specs.declared.elements.Kind.TheVariants.{Edge}
use Rattle.elk_json.specs.declared.fault.Rule.TheVariants as rules
use Rattle.elk_json.specs.Elements.{Element, elements}
use Rattle.elk_json.specs.Members.{kind_is_edge, is_edge, is_id, to_id, id_of, there_and, absent_or, is_object}
use Rattle.elk_json.specs.Shape.{is_good, is_good_edge, has_bad_shape, is_extended, has_ids, has_ends}
use Rattle.elk_json.specs.Whole.{all_whole}
use Rattle.elk_json.specs.Ends.{is_same_id, is_some_same_id, is_double, first_double}
use Rattle.elk_json.specs.Document.{edge_of, edges_of, sure_id}
use Rattle.elk_json.specs.Rules.{refused, edge_refusal, value_refusal, at}
use Rattle.elk_write.specs.Reading.{first_number}
use Rattle.elk_write.specs.Written.{AllFrom}
use Rattle.elk_write.proofs.Known.{not_false, or_left, or_right, not_true}
use Rattle.elk_write.proofs.Inherited.{Each, IsWhole, IfFound, whole_member}
use Rattle.elk_write.proofs.Alike.{good_as}
use Rattle.elk_write.proofs.Ready.{edge_kind}

-- ---- ids

pub same_bytes : (k : List ℕ) → bytes_eq k k ≡ true
same_bytes k = (bytes_eq-Decides k k).1 refl

pub same_itself : (i : Id) → is_same_id i i ≡ true
same_itself (Text s) = same_bytes s
same_itself (Whole z) = (Decides-int_eq z z).1 refl

-- an id that is there
pub record HasId (e : Element) : Type 0 where
  pub id : Id
  pub is : id_of e.value ≡ Some id

number_id : (n : Num) → is_float n ≡ false → (i : Id) × (to_id (number n) ≡ Some i)
number_id (float x) h = absurd (cc)
number_id n h = (_, refl)

id_there : (d : Data) → is_id d ≡ true → all_whole d ≡ true → (i : Id) × (to_id d ≡ Some i)
id_there (number n) h w = number_id n (not_true (is_float n) w)
id_there (string s) h w = (_, refl)
id_there d h w = absurd (cc)

found_id : (o : Option Data) → option_map_or is_id o false ≡ true → IfFound IsWhole o → (i : Id) × (option_and_then to_id o ≡ Some i)
found_id None h w = absurd (cc)
found_id (Some d) h w = id_there d h w

edge_id : (d : Data) → is_good_edge d ≡ true → all_whole d ≡ true → (i : Id) × (id_of d ≡ Some i)
edge_id d h w =
    let a = and_parts (is_object d && absent_or is_object (codes "layoutOptions") d && there_and is_id (codes "id") d) (if is_extended d then has_ids d else has_ends d) h in
    let b = and_parts (is_object d && absent_or is_object (codes "layoutOptions") d) (there_and is_id (codes "id") d) a.0 in
    found_id (get (codes "id") d) b.1 (whole_member (codes "id") d w)

-- ---- each edge of a list has an id

abbrev pub HaveIds : List Element → Type 0
HaveIds [] = Unit {0}
HaveIds (e ∷ es) = (kind_is_edge e.kind ≡ true → HasId e) × HaveIds es

pub have_ids : (es : List Element) → has_bad_shape es ≡ false → Each IsWhole es → HaveIds es
have_ids [] g w = tt
have_ids (e ∷ es) g w =
    let both = or_parts (not (is_good e)) (has_bad_shape es) g in
    (λ t. (let i = edge_id e.value (good_as e Edge (edge_kind e.kind t) (not_false (is_good e) both.0)) w.0 in record { id = i.0; is = i.1 }), have_ids es both.1 w.1)

-- ---- no edge has the id of an earlier one

-- whether an edge of the document has this id
abbrev pub has_id : Id → DocEdge → Bool
has_id id e = is_same_id id e.id

-- the edge of an element is found by its id at the number k
abbrev pub FoundAt : List DocEdge → ℕ → Element → Type 0
FoundAt edges k e = first_number (has_id (sure_id e.value)) 0 edges ≡ Some k

module _ (all : List Element) where
  -- the edges of the document that stand for those of a list
  abbrev stand : List Element → List DocEdge
  stand es = map (edge_of all) (filter is_edge es)

  -- none of the earlier edges has the id
  misses : (id : Id) (n : ℕ) (xs ys : List DocEdge) → list_any (has_id id) xs ≡ false → first_number (has_id id) n (xs ++ ys) ≡ first_number (has_id id) (n + length xs) ys
  misses id n [] ys h = let same : n ≡ n + 0 = omega arith in ap (λ m. first_number (has_id id) m ys) same
  misses id n (x ∷ xs) ys h =
      let both = or_parts (has_id id x) (list_any (has_id id) xs) h in
      let same : (n + 1) + length xs ≡ n + suc (length xs) = omega arith in
      ap (λ b. if b then Some n else first_number (has_id id) (n + 1) (xs ++ ys)) both.0
      ∙ misses id (n + 1) xs ys both.1
      ∙ ap (λ m. first_number (has_id id) m ys) same

  hits : (id : Id) (n : ℕ) (x : DocEdge) (ys : List DocEdge) → has_id id x ≡ true → first_number (has_id id) n (x ∷ ys) ≡ Some n
  hits id n x ys h = ap (λ b. if b then Some n else first_number (has_id id) (n + 1) ys) h

  sure : (e : Element) (h : HasId e) → sure_id e.value ≡ h.id
  sure e h = ap (λ o. unwrap_or o (Whole (pos 0))) h.is

  double_edges : (e f : Element) (a : HasId e) (b : HasId f) → kind_is_edge e.kind ≡ true → kind_is_edge f.kind ≡ true → is_double e f ≡ is_same_id (sure_id e.value) (edge_of all f).id
  unfolding is_double
  double_edges e f a b s t =
      ap (λ c. (if c then kind_is_edge f.kind else not (kind_is_edge f.kind)) && is_some_same_id (id_of e.value) (id_of f.value)) s
      ∙ ap (λ c. c && is_some_same_id (id_of e.value) (id_of f.value)) t
      ∙ ap (λ o. is_some_same_id o (id_of f.value)) a.is
      ∙ ap (λ o. is_some_same_id (Some a.id) o) b.is
      ∙ ap (λ i. is_same_id i b.id) (sym (sure e a))
      ∙ ap (λ i. is_same_id (sure_id e.value) i) (sym (sure f b))

  missed_if : (c : Bool) (e f : Element) (es : List Element) (a : HasId e) → kind_is_edge e.kind ≡ true → (kind_is_edge f.kind ≡ true → HasId f) → kind_is_edge f.kind ≡ c → is_double e f ≡ false
      → list_any (has_id (sure_id e.value)) (stand es) ≡ false → list_any (has_id (sure_id e.value)) (map (edge_of all) (cond c (f ∷ filter is_edge es) (filter is_edge es))) ≡ false
  missed_if true e f es a s b t d h =
      ap (λ c. c || list_any (has_id (sure_id e.value)) (stand es)) (sym (double_edges e f a (b t) s t) ∙ d) ∙ h
  missed_if false e f es a s b t d h = h

  missed : (e : Element) (es : List Element) (a : HasId e) → kind_is_edge e.kind ≡ true → HaveIds es → list_any (is_double e) es ≡ false → list_any (has_id (sure_id e.value)) (stand es) ≡ false
  missed e [] a s b d = refl
  missed e (f ∷ es) a s b d =
      let both = or_parts (is_double e f) (list_any (is_double e) es) d in
      missed_if (kind_is_edge f.kind) e f es a s b.0 refl both.0 (missed e es a s b.1 both.1)

  not_first : (b : Bool) (e : Element) (o : Option Element) → (if b then Some e else o) ≡ None → (b ≡ false) × (o ≡ None)
  not_first true e o h = let bad : Some e ≡ None = h in absurd (cc)
  not_first false e o h = (refl, h)

  ids_append : (xs : List Element) (e : Element) → HaveIds xs → (kind_is_edge e.kind ≡ true → HasId e) → HaveIds (xs ++ e ∷ [])
  ids_append [] e h k = (k, tt)
  ids_append (x ∷ xs) e h k = (h.0, ids_append xs e h.1 k)

  stand_append : (xs ys : List Element) → stand (xs ++ ys) ≡ stand xs ++ stand ys
  stand_append [] ys = refl
  stand_append (x ∷ xs) ys = stand_if (is_edge x) x xs ys (stand_append xs ys)
    where
      stand_if : (b : Bool) (x : Element) (xs ys : List Element) → stand (xs ++ ys) ≡ stand xs ++ stand ys
          → map (edge_of all) (cond b (x ∷ filter is_edge (xs ++ ys)) (filter is_edge (xs ++ ys))) ≡ map (edge_of all) (cond b (x ∷ filter is_edge xs) (filter is_edge xs)) ++ stand ys
      stand_if true x xs ys h = ap (λ zs. edge_of all x ∷ zs) h
      stand_if false x xs ys h = h

  stand_one : (e : Element) (es : List Element) → kind_is_edge e.kind ≡ true → stand (e ∷ es) ≡ edge_of all e ∷ stand es
  stand_one e es t = ap (λ b. map (edge_of all) (cond b (e ∷ filter is_edge es) (filter is_edge es))) t

  stand_none : (e : Element) (es : List Element) → kind_is_edge e.kind ≡ false → stand (e ∷ es) ≡ stand es
  stand_none e es t = ap (λ b. map (edge_of all) (cond b (e ∷ filter is_edge es) (filter is_edge es))) t

  found_here : (edges : List DocEdge) (earlier : List Element) (e : Element) (es : List Element) (a : HasId e) → kind_is_edge e.kind ≡ true → HaveIds earlier → list_any (is_double e) earlier ≡ false
      → edges ≡ stand (earlier ++ e ∷ es) → FoundAt edges (length (stand earlier)) e
  found_here edges earlier e es a t ids none is =
      let id = sure_id e.value in
      let same : 0 + length (stand earlier) ≡ length (stand earlier) = omega arith in
      ap (first_number (has_id id) 0) (is ∙ stand_append earlier (e ∷ es))
      ∙ misses id 0 (stand earlier) (stand (e ∷ es)) (missed e earlier a t ids none)
      ∙ ap (first_number (has_id id) (0 + length (stand earlier))) (stand_one e es t)
      ∙ hits id (0 + length (stand earlier)) (edge_of all e) (stand es) (same_itself id)
      ∙ ap (λ n. Some n) same

  count_push : (earlier : List Element) (e : Element) → kind_is_edge e.kind ≡ true → length (stand (earlier ++ e ∷ [])) ≡ length (stand earlier) + 1
  count_push earlier e t =
      ap (λ xs. length xs) (stand_append earlier (e ∷ []) ∙ ap (λ ys. stand earlier ++ ys) (stand_one e [] t)) ∙ length-append (stand earlier) (edge_of all e ∷ [])

  count_stay : (earlier : List Element) (e : Element) → kind_is_edge e.kind ≡ false → length (stand (earlier ++ e ∷ [])) ≡ length (stand earlier)
  count_stay earlier e t =
      ap (λ xs. length xs) (stand_append earlier (e ∷ []) ∙ ap (λ ys. stand earlier ++ ys) (stand_none e [] t) ∙ append-nil (stand earlier))

  found_if : (c : Bool) (edges : List DocEdge) (earlier es : List Element) (e : Element) → kind_is_edge e.kind ≡ c → HaveIds earlier → (kind_is_edge e.kind ≡ true → HasId e) → list_any (is_double e) earlier ≡ false
      → edges ≡ stand (earlier ++ e ∷ es) → AllFrom (FoundAt edges) (length (stand (earlier ++ e ∷ []))) (filter is_edge es)
      → AllFrom (FoundAt edges) (length (stand earlier)) (cond c (e ∷ filter is_edge es) (filter is_edge es))
  found_if true edges earlier es e t a b none is later =
      (found_here edges earlier e es (b t) t a none is, subst (λ n. AllFrom (FoundAt edges) n (filter is_edge es)) (count_push earlier e t) later)
  found_if false edges earlier es e t a b none is later = subst (λ n. AllFrom (FoundAt edges) n (filter is_edge es)) (count_stay earlier e t) later

  all_found : (edges : List DocEdge) (earlier es : List Element) → HaveIds earlier → HaveIds es → first_double earlier es ≡ None → edges ≡ stand (earlier ++ es)
      → AllFrom (FoundAt edges) (length (stand earlier)) (filter is_edge es)
  all_found edges earlier [] a b d is = tt
  all_found edges earlier (e ∷ es) a b d is =
      let parts = not_first (list_any (is_double e) earlier) e (first_double (earlier ++ e ∷ []) es) d in
      let later = all_found edges (earlier ++ e ∷ []) es (ids_append earlier e a b.0) b.1 parts.1 (is ∙ ap stand (sym (append_assoc earlier (e ∷ []) es))) in
      found_if (is_edge e) edges earlier es e refl a b.0 parts.0 is later

-- ---- of a value that no rule refuses

at_none : (o : Option Element) → at rules.DoubleId o ≡ None → o ≡ None
at_none None h = refl
at_none (Some e) h = let bad : Some _ ≡ None = h in absurd (cc)

pub none_double : (d : Data) → refused d ≡ None → first_double [] (elements d) ≡ None
unfolding refused edge_refusal
none_double d h = at_none (first_double [] (elements d)) (or_left (at rules.DoubleId (first_double [] (elements d))) _ (or_left _ _ (or_right (value_refusal d) _ h)))

pub edges_found : (d : Data) → refused d ≡ None → HaveIds (elements d) → AllFrom (FoundAt (edges_of (elements d))) 0 (filter is_edge (elements d))
edges_found d h ids = all_found (elements d) (edges_of (elements d)) [] (elements d) tt ids (none_double d h) refl
