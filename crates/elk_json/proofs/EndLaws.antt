-- The ends of edges that no rule refuses.
use Rattle.std.proofs.Common.{◌≡◌, ℕ, zero, suc, ◌+◌, ◌<◌, ◌⊎◌, ⊎_elim, inl, inr, List, [], ◌∷◌, length, Bool, true, false, not, ◌&&◌, ◌||◌, ◌==◌, Option, Some, None, if◌then◌else◌, refl, ap, sym, subst, ◌∙◌, arith}
use Rattle.std.specs.Prelude.{slice_get, option_map, option_and_then, unwrap_or, is_some, nat_eq, codes, filter}
use Rattle.std.specs.Option.{option_map_or, option_eq}
use Rattle.std.specs.List.{list_all}
use Rattle.std.proofs.lemmas.Bool.{cases_Bool, and_parts, and_cases, or_parts, not-false, not-true}
use Rattle.std.proofs.lemmas.List.{length-map}
use Rattle.std.proofs.lemmas.Option.{same_Some, none-some}
use Rattle.serde_json.specs.Data.{Data}
use Rattle.serde_json.specs.Find.{get}
use Rattle.elk_doc.specs.declared.document.End.TheVariants as end
use Rattle.elk_doc.specs.declared.document.Port.{Port}
use Rattle.elk_doc.specs.Document.{no_port, port_at}
use Rattle.elk_doc.specs.Level.{node_of_end}
use Rattle.elk_doc.specs.Sound.{IsEndIn}
use Rattle.elk_json.specs.declared.elements.Kind.{Kind}
use Rattle.elk_json.specs.declared.elements.Kind.TheVariants as kinds
use Rattle.elk_json.specs.Elements.{Element, listed}
use Rattle.elk_json.specs.Members.{is_node, is_port, is_edge, kind_is_node, kind_is_port, kind_is_edge}
use Rattle.elk_json.specs.Shape.{is_extended}
use Rattle.elk_json.specs.Ends.{first_place, is_named, named, node_at, port_at_node, primitive_end, extended_end, element_at, source_of, target_of, has_known_ends, is_hyperedge, source_node, target_node, parent_of as owner_of}
use Rattle.elk_json.specs.Document.{end_at, number_at, port_of, ports_of}
use Rattle.elk_json.proofs.Places.{number}
use Rattle.elk_json.proofs.Tree.{IsRooted}
use Rattle.elk_json.proofs.Accepted.{doc_of, value_at, number_within, node_in}

-- ---- what a reference names

-- a place that is found, with a node or port there
pub record IsFound (es : List Element) (i : ℕ) : Type 0 where
  pub element : Element
  pub at : slice_get es i ≡ Some element
  pub end_is : is_edge element ≡ false

named_by : (e : Element) (d : Data) → is_named d e ≡ true → is_edge e ≡ false
unfolding is_named
named_by e d h = not-true (is_edge e) (and_parts (not (is_edge e)) _ h).0

-- a list that ends as es does, from place n on
record IsTail (es xs : List Element) (n : ℕ) : Type 0 where
  same : (i : ℕ) (x : Element) → slice_get xs i ≡ Some x → slice_get es (n + i) ≡ Some x

tail_next : (es : List Element) (x : Element) (xs : List Element) (n : ℕ) → IsTail es (x ∷ xs) n → IsTail es xs (n + 1)
tail_next es x xs n t = record {
  same = λ i y at. (let e : n + suc i ≡ n + 1 + i = omega arith in subst (λ k. slice_get es k ≡ Some y) e (t.same (suc i) y at));
}

found_here : (es : List Element) (d : Data) (x : Element) (xs : List Element) (n i : ℕ) (b : Bool) → is_named d x ≡ b → IsTail es (x ∷ xs) n
    → (first_place (is_named d) (n + 1) xs ≡ Some i → IsFound es i) → (if b then Some n else first_place (is_named d) (n + 1) xs) ≡ Some i → IsFound es i
found_here es d x xs n i true e t rest h =
    let same : n ≡ i = same_Some n i h in
    let here : n + 0 ≡ i = omega arith in
    record { element = x; at = subst (λ k. slice_get es k ≡ Some x) here (t.same 0 x refl); end_is = named_by x d e }
found_here es d x xs n i false e t rest h = rest h

found_from : (es : List Element) (d : Data) (xs : List Element) (n i : ℕ) → IsTail es xs n → first_place (is_named d) n xs ≡ Some i → IsFound es i
found_from es d [] n i t h = absurd (none-some i h)
found_from es d (x ∷ xs) n i t h = found_here es d x xs n i (is_named d x) refl t (λ r. found_from es d xs (n + 1) i (tail_next es x xs n t) r) h

whole_tail : (es : List Element) → IsTail es es 0
whole_tail es = record { same = λ i x at. (let e : i ≡ 0 + i = omega arith in subst (λ k. slice_get es k ≡ Some x) e at) }

found_named : (es : List Element) (d : Data) (i : ℕ) → named es d ≡ Some i → IsFound es i
unfolding named
found_named es d i h = found_from es d es 0 i (whole_tail es) h

found_some : (es : List Element) (o : Option Data) (i : ℕ) → option_and_then (named es) o ≡ Some i → IsFound es i
found_some es None i h = absurd (none-some i h)
found_some es (Some d) i h = found_named es d i h

found_extended : (es : List Element) (ds : List Data) (i : ℕ) → extended_end es ds ≡ Some i → IsFound es i
found_extended es [] i h = absurd (none-some i h)
found_extended es (d ∷ ds) i h = found_named es d i h

port_is_no_edge : (k : Kind) → kind_is_port k ≡ true → kind_is_edge k ≡ false
port_is_no_edge kinds.Node h = absurd cc
port_is_no_edge kinds.Port h = refl
port_is_no_edge kinds.Edge h = absurd cc

found_if : (es : List Element) (o : Option Element) (n i : ℕ) → slice_get es i ≡ o → option_map_or (λ e. is_port e && option_eq nat_eq e.owner (Some n)) o false ≡ true → IsFound es i
found_if es None n i e h = absurd cc
found_if es (Some x) n i e h = record { element = x; at = e; end_is = port_is_no_edge x.kind (and_parts (is_port x) _ h).0 }

port_if : (b c : Bool) (i j : ℕ) → (if b && c then Some i else None) ≡ Some j → (c ≡ true) × (i ≡ j)
port_if true true i j h = (refl, same_Some i j h)
port_if true false i j h = absurd (none-some j h)
port_if false c i j h = absurd (none-some j h)

found_port : (es : List Element) (node port : Option ℕ) (i : ℕ) → port_at_node es node port ≡ Some i → IsFound es i
unfolding port_at_node
found_port es None port i h = absurd (none-some i h)
found_port es (Some n) None i h = absurd (none-some i h)
found_port es (Some n) (Some k) i h =
    let p = port_if (option_map_or is_node (element_at es n) false) (option_map_or (λ e. is_port e && option_eq nat_eq e.owner (Some n)) (element_at es k) false) k i h in
    subst (λ j. IsFound es j) p.1 (found_if es (element_at es k) n k refl p.0)

found_primitive : (es : List Element) (node port : Option Data) (i : ℕ) → primitive_end es node port ≡ Some i → IsFound es i
unfolding primitive_end
found_primitive es node None i h = found_some es node i h
found_primitive es node (Some d) i h = found_port es (option_and_then (named es) node) (named es d) i h

found_form : (es : List Element) (b : Bool) (ds : List Data) (node port : Option Data) (i : ℕ) → (if b then extended_end es ds else primitive_end es node port) ≡ Some i → IsFound es i
found_form es true ds at by i h = found_extended es ds i h
found_form es false ds at by i h = found_primitive es at by i h

found_source : (es : List Element) (d : Data) (i : ℕ) → source_of es d ≡ Some i → IsFound es i
unfolding source_of
found_source es d i h = found_form es (is_extended d) _ _ _ i h

found_target : (es : List Element) (d : Data) (i : ℕ) → target_of es d ≡ Some i → IsFound es i
unfolding target_of
found_target es d i h = found_form es (is_extended d) _ _ _ i h

-- ---- each end is found

some_is : {X : Type 0} (o : Option X) → is_some o ≡ true → (x : X) × (o ≡ Some x)
some_is None h = absurd cc
some_is (Some x) h = (x, refl)

one_named : (es : List Element) (ds : List Data) → list_all (λ r. is_some (named es r)) ds ≡ true → (length ds == 1) ≡ true → is_some (extended_end es ds) ≡ true
one_named es [] all one = absurd cc
one_named es (d ∷ ds) all one = (and_parts (is_some (named es d)) _ all).0

first_by : (es : List Element) (x : Bool) (ss ts : List Data) (p q : Option ℕ) → (if x then list_all (λ r. is_some (named es r)) ss && list_all (λ r. is_some (named es r)) ts else is_some (if x then extended_end es ss else p) && is_some (if x then extended_end es ts else q)) ≡ true
    → (x && not ((length ss == 1) && (length ts == 1))) ≡ false → (is_some (if x then extended_end es ss else p) ≡ true) × (is_some (if x then extended_end es ts else q) ≡ true)
first_by es true ss ts p q known hyper =
    let k = and_parts _ _ known in
    let l = and_parts _ _ (not-false _ hyper) in
    (one_named es ss k.0 l.0, one_named es ts k.1 l.1)
first_by es false ss ts p q known hyper = and_parts _ _ known

both_found : (es : List Element) (d : Data) → has_known_ends es d ≡ true → is_hyperedge d ≡ false → (is_some (source_of es d) ≡ true) × (is_some (target_of es d) ≡ true)
unfolding has_known_ends is_hyperedge source_of target_of
both_found es d known hyper = first_by es (is_extended d) (listed (codes "sources") d) (listed (codes "targets") d) (primitive_end es (get (codes "source") d) (get (codes "sourcePort") d)) (primitive_end es (get (codes "target") d) (get (codes "targetPort") d)) known hyper

-- ---- an end in the document

-- the end at a place, and the node at which it stands
pub record IsEnd (es : List Element) (i : ℕ) : Type 0 where
  pub inside : IsEndIn (doc_of es) (end_at es (Some i))
  pub place : ℕ
  pub element : Element
  pub at : slice_get es place ≡ Some element
  pub node_is : is_node element ≡ true
  pub stands : node_at es i ≡ Some place
  pub is : node_of_end (doc_of es) (end_at es (Some i)) ≡ number is_node es place

port_if_no_other : (k : Kind) → kind_is_node k ≡ false → kind_is_edge k ≡ false → kind_is_port k ≡ true
port_if_no_other kinds.Node n e = absurd cc
port_if_no_other kinds.Port n e = refl
port_if_no_other kinds.Edge n e = absurd cc

node_end : (es : List Element) (i : ℕ) (x : Element) → slice_get es i ≡ Some x → is_node x ≡ true → end_at es (Some i) ≡ end.Node (number is_node es i)
node_end es i x at is = rw (at, is) refl

port_end : (es : List Element) (i : ℕ) (x : Element) → slice_get es i ≡ Some x → is_node x ≡ false → end_at es (Some i) ≡ end.Port (number is_port es i)
port_end es i x at is = rw (at, is) refl

node_stands : (es : List Element) (i : ℕ) (x : Element) → slice_get es i ≡ Some x → is_node x ≡ true → node_at es i ≡ Some i
unfolding node_at
node_stands es i x at is = rw (at, is) refl

port_stands : (es : List Element) (i : ℕ) (x : Element) → slice_get es i ≡ Some x → is_node x ≡ false → node_at es i ≡ x.owner
unfolding node_at
port_stands es i x at is = rw (at, is) refl

pub port_value : (es : List Element) (i : ℕ) (x : Element) → slice_get es i ≡ Some x → is_port x ≡ true → port_at (doc_of es) (number is_port es i) ≡ port_of es x
port_value es i x at is = value_at is_port (port_of es) es i x no_port at is

pub port_in : (es : List Element) (i : ℕ) (x : Element) → slice_get es i ≡ Some x → is_port x ≡ true → number is_port es i < length (ports_of es)
port_in es i x at is =
    let long : length (ports_of es) ≡ length (filter is_port es) = length-map (filter is_port es) (port_of es) in
    let h : number is_port es i < length (filter is_port es) = number_within is_port es i x at is in omega arith

pub port_node : (es : List Element) (i : ℕ) (x : Element) (q : ℕ) → slice_get es i ≡ Some x → is_port x ≡ true → x.owner ≡ Some q → (port_at (doc_of es) (number is_port es i)).node ≡ number is_node es q
port_node es i x q at is own = ap (λ (p : Port). p.node) (port_value es i x at is) ∙ ap (λ o. unwrap_or (option_map (number_at is_node es) o) 0) own

end_of_node : (es : List Element) (i : ℕ) (x : Element) → slice_get es i ≡ Some x → is_node x ≡ true → IsEnd es i
end_of_node es i x at is =
    let e = node_end es i x at is in
    record {
      inside = subst (λ z. IsEndIn (doc_of es) z) (sym e) (node_in es i x at is);
      place = i;
      element = x;
      at = at;
      node_is = is;
      stands = node_stands es i x at is;
      is = ap (node_of_end (doc_of es)) e;
    }

-- an element that is no node has an owner
pub past_first : (es : List Element) (i : ℕ) (x : Element) → IsRooted es → slice_get es i ≡ Some x → is_node x ≡ false → 0 < i
past_first es zero x r at is =
    let same : r.root ≡ x = same_Some r.root x (sym r.first ∙ at) in
    let bad : is_node x ≡ true = ap is_node (sym same) ∙ r.root_is in absurd cc
past_first es (suc i) x r at is = omega arith

end_of_port : (es : List Element) (i : ℕ) (x : Element) → IsRooted es → slice_get es i ≡ Some x → is_node x ≡ false → is_edge x ≡ false → IsEnd es i
end_of_port es i x r at is edge =
    let e = port_end es i x at is in
    let port : is_port x ≡ true = port_if_no_other x.kind is edge in
    let p = r.placed i x (past_first es i x r at is) at in
    record {
      inside = subst (λ z. IsEndIn (doc_of es) z) (sym e) (port_in es i x at port);
      place = p.owner_place;
      element = p.keeper;
      at = p.kept;
      node_is = p.keeper_is;
      stands = port_stands es i x at is ∙ p.owned;
      is = ap (node_of_end (doc_of es)) e ∙ port_node es i x p.owner_place at port p.owned;
    }

end_found : (es : List Element) (i : ℕ) → IsRooted es → IsFound es i → IsEnd es i
end_found es i r f =
    ⊎_elim (λ (e : is_node f.element ≡ true). end_of_node es i f.element f.at e)
    (λ (e : is_node f.element ≡ false). end_of_port es i f.element r f.at e f.end_is)
    (cases_Bool (is_node f.element))

-- ---- both ends of an edge stand at nodes of one level

pub record HasEnds (es : List Element) (d : Data) : Type 0 where
  pub source_place : ℕ
  pub target_place : ℕ
  pub source_is : source_of es d ≡ Some source_place
  pub target_is : target_of es d ≡ Some target_place
  pub source_end : IsEnd es source_place
  pub target_end : IsEnd es target_place

pub has_ends : (es : List Element) (d : Data) → IsRooted es → has_known_ends es d ≡ true → is_hyperedge d ≡ false → HasEnds es d
has_ends es d r known hyper =
    let found = both_found es d known hyper in
    let s = some_is (source_of es d) found.0 in
    let t = some_is (target_of es d) found.1 in
    record {
      source_place = s.0;
      target_place = t.0;
      source_is = s.1;
      target_is = t.1;
      source_end = end_found es s.0 r (found_source es d s.0 s.1);
      target_end = end_found es t.0 r (found_target es d t.0 t.1);
    }

pub source_stands : (es : List Element) (d : Data) (h : HasEnds es d) → source_node es d ≡ Some h.source_end.place
unfolding source_node
source_stands es d h = ap (option_and_then (node_at es)) h.source_is ∙ h.source_end.stands

pub target_stands : (es : List Element) (d : Data) (h : HasEnds es d) → target_node es d ≡ Some h.target_end.place
unfolding target_node
target_stands es d h = ap (option_and_then (node_at es)) h.target_is ∙ h.target_end.stands

pub owner_is : (es : List Element) (i : ℕ) (x : Element) → slice_get es i ≡ Some x → owner_of es (Some i) ≡ x.owner
unfolding owner_of
owner_is es i x at = rw at refl

-- what it means not to cross levels
pub cross_by : (s t x y : Bool) → (not s && not t || x || y) ≡ false → (x ≡ false) × (y ≡ false) × ((s ≡ true) ⊎ (t ≡ true))
cross_by s t x y h =
    let p = or_parts (not s && not t || x) y h in
    let q = or_parts (not s && not t) x p.0 in
    (q.1, p.1, ⊎_elim (λ e. inl (not-false s e)) (λ e. inr (not-false t e)) (and_cases (not s) (not t) q.0))
