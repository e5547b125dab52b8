-- What the rules that do not hold say where a document is built.
use Rattle.std.proofs.Common.{◌≡◌, ℕ, suc, ◌+◌, ◌<◌, ◌≤◌, ◌^◌, ℤ, pos, neg_ℤ, List, [], ◌∷◌, length, get_or, Bool, true, false, cond, T, Option, Some, None, refl, ap, sym, subst, ◌∙◌, arith, map, drop, append_assoc, append-nil, ◌++◌}
use Rattle.std.specs.Prelude.{All, slice_get, find, filter, option_map, codes}
use Rattle.std.proofs.lemmas.Bool.{and_from}
use Rattle.std.proofs.lemmas.List.{drop_more}
use Rattle.std.proofs.lemmas.List.Elements.{All-push}
use Rattle.std.proofs.lemmas.Int.{ints}
use Rattle.serde_json.specs.Data.{Data}
use Rattle.elk_doc.specs.Sound.{IsLength}
use Rattle.drawing_types.specs.Ranges.{IsWithin}
use Rattle.std.proofs.lemmas.Option.{slice_get-map, slice_get_read}
use Rattle.elk_json.specs.declared.elements.Element.{Element}
use Rattle.elk_json.specs.Elements as spec
use Rattle.elk_json.specs.Seen.{seen, seen_list}
use Rattle.elk_doc.specs.declared.document.Node.{Node}
use Rattle.elk_doc.specs.declared.document.Port.{Port}
use Rattle.elk_doc.specs.declared.document.Edge.{Edge}
use Rattle.elk_doc.specs.Document.{document}
use Rattle.elk_doc.specs.Sound.{IsSound}
use Rattle.elk_json.specs.declared.elements.Kind.{Kind}
use Rattle.elk_json.specs.declared.elements.Kind.TheVariants as kinds
use Rattle.elk_json.specs.Members.{is_node, is_port, is_edge, kind_is_node, kind_is_port, kind_is_edge, has_bad_option, whole_at}
use Rattle.elk_json.specs.Document.{IsReady, nodes_of, ports_of, edges_of}
use Rattle.elk_json.specs.Rules.{refused}
use Rattle.elk_json.specs.Ranges.{is_far, has_good_size, is_out_of_range, are_too_many}
use Rattle.elk_json.proofs.NodeLaws.{sound_size}
use Rattle.elk_json.proofs.PortLaws.{good_parts, far_place}
use Rattle.elk_json.proofs.Soundness.{port_no_node, few_parts, accepted, all_good, sound_document}
use Rattle.elk_json.proofs.Places.{none_found}

-- the element that a loop reads, among the elements as data
pub seen_at : (es : List Element) (i : ℕ) (e : Element) → i < length es → e ≡ get_or es i e → slice_get (seen_list es) i ≡ Some (seen e)
seen_at es i e h is = slice_get-map seen es i ∙ ap (option_map seen) (slice_get_read es (length es) i e refl h is)

-- what no element of a list passes, the element that is read does not pass
pub none_read : (test : spec.Element → Bool) (es : List Element) (i : ℕ) (e : Element) → find test (seen_list es) ≡ None → i < length es → e ≡ get_or es i e → test (seen e) ≡ false
none_read test es i e none h is = none_found test (seen_list es) i (seen e) none (seen_at es i e h is)

-- one more item of a list, of those that pass a test, each as its part of the document
kept_by : {E A : Type 0} (f : E → A) (passes : Bool) (x : E) (rest : List E) (old new all : List A) → old ++ map f (cond passes (x ∷ rest) rest) ≡ all
    → new ≡ old ++ cond passes (f x ∷ []) [] → new ++ map f rest ≡ all
kept_by f true x rest old new all before step = ap (λ l. l ++ map f rest) step ∙ append_assoc old (f x ∷ []) (map f rest) ∙ before
kept_by f false x rest old new all before step = ap (λ l. l ++ map f rest) step ∙ append_assoc old [] (map f rest) ∙ before

kept_next : {A : Type 0} (f : spec.Element → A) (test : spec.Element → Bool) (es : List Element) (i : ℕ) (e : Element) (old new all : List A) → i < length es → e ≡ get_or es i e
    → old ++ map f (filter test (seen_list (drop i es))) ≡ all → new ≡ old ++ cond (test (seen e)) (f (seen e) ∷ []) []
    → new ++ map f (filter test (seen_list (drop (i + 1) es))) ≡ all
kept_next f test es i e old new all h is before step =
    let here : drop i es ≡ e ∷ drop (i + 1) es = drop_more es i e h ∙ ap (λ x. x ∷ drop (i + 1) es) (sym is) in
    let first : old ++ map f (filter test (seen_list (e ∷ drop (i + 1) es))) ≡ all = ap (λ l. old ++ map f (filter test (seen_list l))) (sym here) ∙ before in
    kept_by f (test (seen e)) (seen e) (filter test (seen_list (drop (i + 1) es))) old new all first step

-- the parts of a document that a loop has made before a place of the list, and what each of them has
abbrev pub AreMade : {A : Type 0} → (spec.Element → A) → (spec.Element → Bool) → (A → Type 0) → List Element → ℕ → List A → Type 0
AreMade f test P es i made = (made ++ map f (filter test (seen_list (drop i es))) ≡ map f (filter test (seen_list es))) × All P made

-- one more, of an element that passes
pub made_next : {A : Type 0} (f : spec.Element → A) (test : spec.Element → Bool) (P : A → Type 0) (es : List Element) (i : ℕ) (e : Element) (old new : List A) (x : A) → i < length es → e ≡ get_or es i e
    → AreMade f test P es i old → test (seen e) ≡ true → new ≡ old ++ x ∷ [] → x ≡ f (seen e) → P x → AreMade f test P es (i + 1) new
made_next f test P es i e old new x h is before passed push value has = (
  kept_next f test es i e old new _ h is before.0 (push ∙ ap (λ y. old ++ y ∷ []) value ∙ ap (λ b. old ++ cond b (f (seen e) ∷ []) []) (sym passed)),
  subst (All P) (sym push) (All-push P old x before.1 has),
)

-- and none, of any other
pub made_same : {A : Type 0} (f : spec.Element → A) (test : spec.Element → Bool) (P : A → Type 0) (es : List Element) (i : ℕ) (e : Element) (old new : List A) → i < length es → e ≡ get_or es i e
    → AreMade f test P es i old → test (seen e) ≡ false → new ≡ old → AreMade f test P es (i + 1) new
made_same f test P es i e old new h is before failed same = (
  kept_next f test es i e old new _ h is before.0 (same ∙ sym (append-nil old) ∙ ap (λ b. old ++ cond b (f (seen e) ∷ []) []) (sym failed)),
  subst (All P) (sym same) before.1,
)

true_of : (b : Bool) → T b → b ≡ true
true_of true h = refl
true_of false h = absurd h

far_from : (z : ℤ) → IsWithin (neg_ℤ (pos (2 ^ 53))) (pos (2 ^ 53)) z → is_far z ≡ true
unfolding is_far
far_from z h = and_from _ _ (true_of _ h.above.le) (true_of _ h.below.le)

length_far : (z : ℤ) → IsLength z → IsWithin (neg_ℤ (pos (2 ^ 53))) (pos (2 ^ 53)) z
length_far z h = record { above = omega (arith, ints); below = omega (arith, ints) }

-- a good size and a good place can be held
pub width_far : (d : Data) → has_good_size d ≡ true → is_far (whole_at (codes "width") d) ≡ true
width_far d h = far_from _ (length_far _ (sound_size d h).width)

pub height_far : (d : Data) → has_good_size d ≡ true → is_far (whole_at (codes "height") d) ≡ true
height_far d h = far_from _ (length_far _ (sound_size d h).height)

pub port_size : (e : spec.Element) → is_port e ≡ true → is_out_of_range e ≡ false → has_good_size e.value ≡ true
port_size e p h = (good_parts e (port_no_node e.kind p) p h).0

pub x_far : (e : spec.Element) → is_port e ≡ true → is_out_of_range e ≡ false → is_far (whole_at (codes "x") e.value) ≡ true
x_far e p h = far_from _ (far_place e (good_parts e (port_no_node e.kind p) p h).1).x

pub y_far : (e : spec.Element) → is_port e ≡ true → is_out_of_range e ≡ false → is_far (whole_at (codes "y") e.value) ≡ true
y_far e p h = far_from _ (far_place e (good_parts e (port_no_node e.kind p) p h).1).y

-- ---- a whole list that no rule refuses

kinds_by : (k : Kind) (x : spec.Element) (xs : List spec.Element) → x.kind ≡ k → length xs ≡ length (filter is_node xs) + length (filter is_port xs) + length (filter is_edge xs)
    → length (x ∷ xs) ≡ length (cond (kind_is_node k) (x ∷ filter is_node xs) (filter is_node xs)) + length (cond (kind_is_port k) (x ∷ filter is_port xs) (filter is_port xs)) + length (cond (kind_is_edge k) (x ∷ filter is_edge xs) (filter is_edge xs))
kinds_by kinds.Node x xs e h = omega arith
kinds_by kinds.Port x xs e h = omega arith
kinds_by kinds.Edge x xs e h = omega arith

kinds_length : (xs : List spec.Element) → length xs ≡ length (filter is_node xs) + length (filter is_port xs) + length (filter is_edge xs)
kinds_length [] = omega arith
kinds_length (x ∷ xs) = kinds_by x.kind x xs refl (kinds_length xs)

none_by : (test : spec.Element → Bool) (x : spec.Element) (o : Option spec.Element) (b : Bool) → b ≡ false → o ≡ None → cond b (Some x) o ≡ None
none_by test x o true e h = absurd cc
none_by test x o false e h = h

none_at : (test : spec.Element → Bool) (xs : List spec.Element) → ((i : ℕ) (x : spec.Element) → slice_get xs i ≡ Some x → test x ≡ false) → find test xs ≡ None
none_at test [] h = refl
none_at test (x ∷ xs) h = none_by test x (find test xs) (test x) (h 0 x refl) (none_at test xs (λ i y at. h (suc i) y at))

few_elements : (es : List spec.Element) → are_too_many es ≡ false → length es ≤ 8192
few_elements es h =
    let few = few_parts es h in
    omega (arith, few.0, few.1, few.2, kinds_length es)

-- what no rule refuses can be built
pub ready : (es : List spec.Element) (d : Data) → es ≡ spec.elements d → refused d ≡ None → IsReady es
ready es d same none =
    let a = accepted d none in
    subst (λ xs. IsReady xs) (sym same) (record { few = few_elements _ a.few; in_range = a.in_range; good = none_at has_bad_option (spec.elements d) (all_good (spec.elements d) a) })

pub sound_built : (es : List Element) (d : Data) (ns : List Node) (ps : List Port) (qs : List Edge) → seen_list es ≡ spec.elements d → refused d ≡ None
    → ns ≡ nodes_of (seen_list es) → ps ≡ ports_of (seen_list es) → qs ≡ edges_of (seen_list es) → IsSound (document ns ps qs)
sound_built es d ns ps qs same none n p q =
    let a : ns ≡ nodes_of (spec.elements d) = n ∙ ap nodes_of same in
    let b : ps ≡ ports_of (spec.elements d) = p ∙ ap ports_of same in
    let c : qs ≡ edges_of (spec.elements d) = q ∙ ap edges_of same in
    subst (λ x. IsSound (document x ps qs)) (sym a)
    (subst (λ x. IsSound (document (nodes_of (spec.elements d)) x qs)) (sym b)
    (subst (λ x. IsSound (document (nodes_of (spec.elements d)) (ports_of (spec.elements d)) x)) (sym c) (sound_document d none)))
