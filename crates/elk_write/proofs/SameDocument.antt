-- Elements that say the same have the same document, but for the places of ports.
use Rattle.std.proofs.Common.{◌≡◌, ℕ, zero, suc, ◌+◌, List, [], ◌∷◌, length, map, take, filter, Bool, true, false, not, ◌&&◌, ◌||◌, cond, refl, sym, ap, ◌∙◌, Option, Some, None, option_map, nat_eq}
use Rattle.std.specs.Prelude.{codes, is_some, option_and_then, slice_get, if◌then◌else◌, unwrap_or, ℤ, pos}
use Rattle.std.specs.Option.{option_map_or, option_eq}
use Rattle.serde_json.specs.Data.{Data}
use Rattle.serde_json.specs.Find.{get, as_array, as_number, as_integer}
use Rattle.elk_doc.specs.declared.document.Id.{Id}
use Rattle.elk_doc.specs.declared.document.Id.TheVariants.{Whole}
use Rattle.elk_doc.specs.declared.document.End.{End}
use Rattle.elk_doc.specs.declared.document.End.TheVariants as end
use Rattle.elk_doc.specs.declared.document.Node.{Node as DocNode}
use Rattle.elk_doc.specs.declared.document.Port.{Port as DocPort}
use Rattle.elk_doc.specs.declared.document.Edge.{Edge as DocEdge}
use Rattle.elk_doc.specs.declared.document.PortRule.{PortRule}
use Rattle.elk_doc.specs.declared.document.LevelOptions.{LevelOptions}
use Rattle.drawing_types.specs.declared.shape.Size.{Size}
use Rattle.drawing_types.specs.declared.shape.Side.{Side}
use Rattle.drawing_types.specs.Shapes.{no_size, origin}
use Rattle.elk_options.specs.declared.options.Role.TheVariants as role
use Rattle.elk_options.specs.Names.{or_empty}
use Rattle.elk_options.specs.Reading.{options_of}
use Rattle.elk_json.specs.declared.elements.Kind.{Kind}
use Rattle.elk_json.specs.declared.elements.Kind.TheVariants.{Node, Port, Edge}
use Rattle.elk_json.specs.Elements.{Element, items_list}
use Rattle.elk_json.specs.Members.{kind_is_node, kind_is_port, kind_is_edge, is_node, is_port, is_compound, has_children, to_id, id_of, whole_at, options_data, options_at, node_role, role_of}
use Rattle.elk_json.specs.Ends.{is_some_same_id, first_place, is_named, named, element_at, port_at_node, primitive_end, extended_end, source_of, target_of}
use Rattle.elk_json.specs.Document.{number_at, size_of, node_size, owner_number, node_of, sure_id, port_of, end_at, edge_of, nodes_of, ports_of, edges_of}
use Rattle.elk_write.specs.Keys.{is_flat_key}
use Rattle.elk_write.specs.ReadBack.{without_place}
use Rattle.elk_write.proofs.Alike.{Gets, Alike, AllAlike}
use Rattle.elk_write.proofs.Shape.{map_ext}

-- ---- options

pub and_ext : {A B : Type 0} (f g : A → Option B) (o : Option A) → ((x : A) → f x ≡ g x) → option_and_then f o ≡ option_and_then g o
and_ext f g None h = refl
and_ext f g (Some x) h = h x

-- ---- one element

module _ (e f : Element) (a : Alike e f) where
  pub same_id : id_of f.value ≡ id_of e.value
  same_id = ap (option_and_then to_id) a.id

  compound_by : (k : Kind) → e.kind ≡ k → is_compound f ≡ is_compound e
  compound_by Node is =
      let children : has_children f.value ≡ has_children e.value = a.children (ap kind_is_node is) in
      ap (λ k. kind_is_node k && (not (is_some f.owner) || has_children f.value)) a.kind
      ∙ ap (λ o. kind_is_node e.kind && (not (is_some o) || has_children f.value)) a.owner
      ∙ ap (λ b. kind_is_node e.kind && (not (is_some e.owner) || b)) children
  compound_by Port is =
      ap (λ k. kind_is_node k && (not (is_some f.owner) || has_children f.value)) (a.kind ∙ is)
      ∙ sym (ap (λ k. kind_is_node k && (not (is_some e.owner) || has_children e.value)) is)
  compound_by Edge is =
      ap (λ k. kind_is_node k && (not (is_some f.owner) || has_children f.value)) (a.kind ∙ is)
      ∙ sym (ap (λ k. kind_is_node k && (not (is_some e.owner) || has_children e.value)) is)

  pub same_compound : is_compound f ≡ is_compound e
  same_compound = compound_by e.kind refl

  pub same_options : options_at f ≡ options_at e
  same_options =
      ap (λ o. options_of (role_of f) (or_empty o)) a.options
      ∙ ap (λ k. options_of (if kind_is_node k then node_role (is_compound f) else (if kind_is_port k then role.Port else role.Edge)) (options_data e.value)) a.kind
      ∙ ap (λ b. options_of (if kind_is_node e.kind then node_role b else (if kind_is_port e.kind then role.Port else role.Edge)) (options_data e.value)) same_compound

  pub same_size : is_compound e ≡ false → size_of f.value ≡ size_of e.value
  same_size leaf =
      ap (λ o. let s : Size = record { width = unwrap_or (option_and_then as_integer (option_and_then as_number o)) (pos 0); height = whole_at (codes "height") f.value } in s) (a.width leaf)
      ∙ ap (λ o. let s : Size = record { width = whole_at (codes "width") e.value; height = unwrap_or (option_and_then as_integer (option_and_then as_number o)) (pos 0) } in s) (a.height leaf)

  size_if : (b : Bool) → is_compound e ≡ b → (if b then no_size else size_of f.value) ≡ (if b then no_size else size_of e.value)
  size_if true is = refl
  size_if false is = same_size is

  same_node_size : node_size f ≡ node_size e
  same_node_size = ap (λ b. if b then no_size else size_of f.value) same_compound ∙ size_if (is_compound e) refl

-- ---- lists of elements

take_alike : (n : ℕ) (es fs : List Element) → AllAlike es fs → AllAlike (take n es) (take n fs)
take_alike zero es fs h = tt
take_alike (suc n) [] [] h = tt
take_alike (suc n) (e ∷ es) (f ∷ fs) h = (h.0, take_alike n es fs h.1)
take_alike (suc n) es fs h = absurd h

module _ (test : Kind → Bool) where
  abbrev of : Element → Bool
  of e = test e.kind

  count_if : (b : Bool) (e f : Element) (es fs : List Element) → length fs ≡ length es → length (cond b (f ∷ fs) fs) ≡ length (cond b (e ∷ es) es)
  count_if true e f es fs h = ap suc h
  count_if false e f es fs h = h

  pub count_alike : (es fs : List Element) → AllAlike es fs → length (filter of fs) ≡ length (filter of es)
  count_alike [] [] h = refl
  count_alike (e ∷ es) (f ∷ fs) h =
      ap (λ k. length (cond (test k) (f ∷ filter of fs) (filter of fs))) h.0.kind
      ∙ count_if (test e.kind) e f (filter of es) (filter of fs) (count_alike es fs h.1)
  count_alike es fs h = absurd h

  pub number_alike : (es fs : List Element) → AllAlike es fs → (n : ℕ) → number_at of fs n ≡ number_at of es n
  number_alike es fs h n = count_alike (take n es) (take n fs) (take_alike n es fs h)

  -- what a map of both sides gives
  mapped_if : {Y : Type 0} (g h : Element → Y) (b : Bool) (e f : Element) (es fs : List Element) → (b ≡ true → g f ≡ h e) → map g fs ≡ map h es → map g (cond b (f ∷ fs) fs) ≡ map h (cond b (e ∷ es) es)
  mapped_if g h true e f es fs one rest = ap (λ y. y ∷ map g fs) (one refl) ∙ ap (λ ys. h e ∷ ys) rest
  mapped_if g h false e f es fs one rest = rest

  pub mapped : {Y : Type 0} (g h : Element → Y) → ((e f : Element) → Alike e f → test e.kind ≡ true → g f ≡ h e)
      → (es fs : List Element) → AllAlike es fs → map g (filter of fs) ≡ map h (filter of es)
  mapped g h one [] [] a = refl
  mapped g h one (e ∷ es) (f ∷ fs) a =
      ap (λ k. map g (cond (test k) (f ∷ filter of fs) (filter of fs))) a.0.kind
      ∙ mapped_if g h (test e.kind) e f (filter of es) (filter of fs) (one e f a.0) (mapped g h one es fs a.1)
  mapped g h one es fs a = absurd a

-- a test that comes out the same on both
pub found_alike : (test : Element → Bool) → ((e f : Element) → Alike e f → test f ≡ test e) → (es fs : List Element) → AllAlike es fs → (n : ℕ)
    → option_map_or test (slice_get fs n) false ≡ option_map_or test (slice_get es n) false
found_alike test same [] [] h n = refl
found_alike test same (e ∷ es) (f ∷ fs) h zero = same e f h.0
found_alike test same (e ∷ es) (f ∷ fs) h (suc n) = found_alike test same es fs h.1 n
found_alike test same es fs h n = absurd h

first_if : (t s : Bool) (n : ℕ) (x y : Option ℕ) → t ≡ s → x ≡ y → (if t then Some n else x) ≡ (if s then Some n else y)
first_if t s n x y e h = ap (λ b. if b then Some n else x) e ∙ ap (λ z. if s then Some n else z) h

first_alike : (test : Element → Bool) → ((e f : Element) → Alike e f → test f ≡ test e) → (es fs : List Element) → AllAlike es fs → (n : ℕ)
    → first_place test n fs ≡ first_place test n es
first_alike test same [] [] h n = refl
first_alike test same (e ∷ es) (f ∷ fs) h n = first_if (test f) (test e) n _ _ (same e f h.0) (first_alike test same es fs h.1 (n + 1))
first_alike test same es fs h n = absurd h

named_one : (d : Data) (e f : Element) → Alike e f → is_named d f ≡ is_named d e
unfolding is_named
named_one d e f a = ap (λ k. not (kind_is_edge k) && is_some_same_id (to_id d) (id_of f.value)) a.kind ∙ ap (λ i. not (kind_is_edge e.kind) && is_some_same_id (to_id d) i) (same_id e f a)

node_one : (e f : Element) → Alike e f → is_node f ≡ is_node e
node_one e f a = ap kind_is_node a.kind

port_one : (n : ℕ) (e f : Element) → Alike e f → (is_port f && option_eq nat_eq f.owner (Some n)) ≡ (is_port e && option_eq nat_eq e.owner (Some n))
port_one n e f a = ap (λ k. kind_is_port k && option_eq nat_eq f.owner (Some n)) a.kind ∙ ap (λ o. kind_is_port e.kind && option_eq nat_eq o (Some n)) a.owner

pub named_by : (es fs : List Element) → AllAlike es fs → (d : Data) → named fs d ≡ named es d
unfolding named
named_by es fs h d = first_alike (is_named d) (named_one d) es fs h 0

extended_by : (es fs : List Element) → AllAlike es fs → (ds : List Data) → extended_end fs ds ≡ extended_end es ds
extended_by es fs h [] = refl
extended_by es fs h (d ∷ ds) = named_by es fs h d

port_by : (es fs : List Element) → AllAlike es fs → (node port : Option ℕ) → port_at_node fs node port ≡ port_at_node es node port
unfolding port_at_node
port_by es fs h node port =
    and_ext _ _ node (λ n. and_ext _ _ port (λ i.
    ap (λ b. if b && option_map_or (λ e. is_port e && option_eq nat_eq e.owner (Some n)) (element_at fs i) false then Some i else None) (found_alike is_node node_one es fs h n)
    ∙ ap (λ b. if option_map_or is_node (element_at es n) false && b then Some i else None) (found_alike (λ e. is_port e && option_eq nat_eq e.owner (Some n)) (port_one n) es fs h i)))

primitive_by : (es fs : List Element) → AllAlike es fs → (node port : Option Data) → primitive_end fs node port ≡ primitive_end es node port
unfolding primitive_end
primitive_by es fs h node None = and_ext _ _ node (named_by es fs h)
primitive_by es fs h node (Some d) =
    port_by es fs h (option_and_then (named fs) node) (named fs d)
    ∙ ap (λ o. port_at_node es o (named fs d)) (and_ext (named fs) (named es) node (named_by es fs h))
    ∙ ap (port_at_node es (option_and_then (named es) node)) (named_by es fs h d)

-- an end, from what stands at the members of an edge
abbrev end_from : List Element → Bool → Option Data → Option Data → Option Data → Option ℕ
end_from es extended list node port = if extended then extended_end es (option_map_or items_list (option_and_then as_array list) []) else primitive_end es node port

end_if : (es fs : List Element) → AllAlike es fs → (b : Bool) (list node port : Option Data) → end_from fs b list node port ≡ end_from es b list node port
end_if es fs h true list first port = extended_by es fs h _
end_if es fs h false list first port = primitive_by es fs h first port

same_end_from : (es : List Element) (x y a b c d e f : Option Data) (s t : Option Data) → y ≡ x → t ≡ s → b ≡ a → d ≡ c → f ≡ e
    → end_from es (is_some y || is_some t) b d f ≡ end_from es (is_some x || is_some s) a c e
same_end_from es x y a b c d e f s t hx hs ha hc he =
    ap (λ o. end_from es (is_some o || is_some t) b d f) hx
    ∙ ap (λ o. end_from es (is_some x || is_some o) b d f) hs
    ∙ ap (λ o. end_from es (is_some x || is_some s) o d f) ha
    ∙ ap (λ o. end_from es (is_some x || is_some s) a o f) hc
    ∙ ap (λ o. end_from es (is_some x || is_some s) a c o) he

abbrev pub EdgeGets : Data → Data → Type 0
EdgeGets d w = (q : List ℕ) → is_flat_key true q ≡ false → Gets q d w

source_gets : (es fs : List Element) → AllAlike es fs → (d w : Data) → EdgeGets d w → source_of fs w ≡ source_of es d
unfolding source_of
source_gets es fs h d w g =
    end_if es fs h (is_some (get (codes "sources") w) || is_some (get (codes "targets") w)) (get (codes "sources") w) (get (codes "source") w) (get (codes "sourcePort") w)
    ∙ same_end_from es _ _ _ _ _ _ _ _ _ _ (g (codes "sources") refl) (g (codes "targets") refl) (g (codes "sources") refl) (g (codes "source") refl) (g (codes "sourcePort") refl)

target_gets : (es fs : List Element) → AllAlike es fs → (d w : Data) → EdgeGets d w → target_of fs w ≡ target_of es d
unfolding target_of
target_gets es fs h d w g =
    end_if es fs h (is_some (get (codes "sources") w) || is_some (get (codes "targets") w)) (get (codes "targets") w) (get (codes "target") w) (get (codes "targetPort") w)
    ∙ same_end_from es _ _ _ _ _ _ _ _ _ _ (g (codes "sources") refl) (g (codes "targets") refl) (g (codes "targets") refl) (g (codes "target") refl) (g (codes "targetPort") refl)

same_node : (i j : Option Id) (p q : Option ℕ) (s t : Size) (r u : PortRule) (v w : Option ℤ) (l m : Option LevelOptions)
    → i ≡ j → p ≡ q → s ≡ t → r ≡ u → v ≡ w → l ≡ m
    → (let x : DocNode = record { id = i; parent = p; size = s; rule = r; position = v; level = l } in x) ≡ (let x : DocNode = record { id = j; parent = q; size = t; rule = u; position = w; level = m } in x)
same_node i j p q s t r u v w l m a b c d e f =
    ap (λ z. let x : DocNode = record { id = z; parent = p; size = s; rule = r; position = v; level = l } in x) a
    ∙ ap (λ z. let x : DocNode = record { id = j; parent = z; size = s; rule = r; position = v; level = l } in x) b
    ∙ ap (λ z. let x : DocNode = record { id = j; parent = q; size = z; rule = r; position = v; level = l } in x) c
    ∙ ap (λ z. let x : DocNode = record { id = j; parent = q; size = t; rule = z; position = v; level = l } in x) d
    ∙ ap (λ z. let x : DocNode = record { id = j; parent = q; size = t; rule = u; position = z; level = l } in x) e
    ∙ ap (λ z. let x : DocNode = record { id = j; parent = q; size = t; rule = u; position = w; level = z } in x) f

same_port : (i j : Id) (n k : ℕ) (s t : Size) (r u : Option Side) (l m : ℤ) → i ≡ j → n ≡ k → s ≡ t → r ≡ u → l ≡ m
    → (let x : DocPort = record { id = i; node = n; size = s; place = origin; side = r; index = l } in x) ≡ (let x : DocPort = record { id = j; node = k; size = t; place = origin; side = u; index = m } in x)
same_port i j n k s t r u l m a b c d e =
    ap (λ z. let x : DocPort = record { id = z; node = n; size = s; place = origin; side = r; index = l } in x) a
    ∙ ap (λ z. let x : DocPort = record { id = j; node = z; size = s; place = origin; side = r; index = l } in x) b
    ∙ ap (λ z. let x : DocPort = record { id = j; node = k; size = z; place = origin; side = r; index = l } in x) c
    ∙ ap (λ z. let x : DocPort = record { id = j; node = k; size = t; place = origin; side = z; index = l } in x) d
    ∙ ap (λ z. let x : DocPort = record { id = j; node = k; size = t; place = origin; side = u; index = z } in x) e

same_edge : (i j : Id) (s t a b : End) (v w : ℕ) → i ≡ j → s ≡ t → a ≡ b → v ≡ w
    → (let x : DocEdge = record { id = i; source = s; target = a; weight = v } in x) ≡ (let x : DocEdge = record { id = j; source = t; target = b; weight = w } in x)
same_edge i j s t a b v w c d e f =
    ap (λ z. let x : DocEdge = record { id = z; source = s; target = a; weight = v } in x) c
    ∙ ap (λ z. let x : DocEdge = record { id = j; source = z; target = a; weight = v } in x) d
    ∙ ap (λ z. let x : DocEdge = record { id = j; source = t; target = z; weight = v } in x) e
    ∙ ap (λ z. let x : DocEdge = record { id = j; source = t; target = b; weight = z } in x) f

pub port_leaf : (e : Element) → kind_is_port e.kind ≡ true → is_compound e ≡ false
port_leaf e t = leaf_by e.kind t
  where
    leaf_by : (k : Kind) → kind_is_port k ≡ true → (kind_is_node k && (not (is_some e.owner) || has_children e.value)) ≡ false
    leaf_by Node t = absurd (cc)
    leaf_by Port t = refl
    leaf_by Edge t = absurd (cc)

module _ (es fs : List Element) (h : AllAlike es fs) (e f : Element) (a : Alike e f) where
  pub source_by : kind_is_edge e.kind ≡ true → source_of fs f.value ≡ source_of es e.value
  source_by t = source_gets es fs h e.value f.value (a.ends t)

  pub target_by : kind_is_edge e.kind ≡ true → target_of fs f.value ≡ target_of es e.value
  target_by t = target_gets es fs h e.value f.value (a.ends t)

  owner_by : owner_number fs f ≡ owner_number es e
  owner_by = ap (option_map (number_at is_node fs)) a.owner ∙ map_ext (number_at is_node fs) (number_at is_node es) e.owner (number_alike kind_is_node es fs h)

  sure_by : sure_id f.value ≡ sure_id e.value
  sure_by = ap (λ o. unwrap_or o (Whole (pos 0))) (same_id e f a)

  end_by : (place : Option ℕ) → end_at fs place ≡ end_at es place
  end_by place =
      let i = unwrap_or place 0 in
      ap (λ b. if b then end.Node (number_at is_node fs i) else end.Port (number_at is_port fs i)) (found_alike is_node node_one es fs h i)
      ∙ ap (λ n. if option_map_or is_node (element_at es i) false then end.Node n else end.Port (number_at is_port fs i)) (number_alike kind_is_node es fs h i)
      ∙ ap (λ n. if option_map_or is_node (element_at es i) false then end.Node (number_at is_node es i) else end.Port n) (number_alike kind_is_port es fs h i)

  node_by : kind_is_node e.kind ≡ true → node_of fs f ≡ node_of es e
  node_by t =
      same_node _ _ _ _ _ _ _ _ _ _ _ _ (same_id e f a) owner_by (same_node_size e f a)
      (ap (λ o. o.rule) (same_options e f a)) (ap (λ o. o.position) (same_options e f a)) (ap (λ o. o.level) (same_options e f a))

  port_one_by : kind_is_port e.kind ≡ true → without_place (port_of fs f) ≡ without_place (port_of es e)
  port_one_by t =
      same_port _ _ _ _ _ _ _ _ _ _ sure_by (ap (λ o. unwrap_or o 0) owner_by) (same_size e f a (port_leaf e t))
      (ap (λ o. o.side) (same_options e f a)) (ap (λ o. o.index) (same_options e f a))

  edge_by : kind_is_edge e.kind ≡ true → edge_of fs f ≡ edge_of es e
  edge_by t =
      same_edge _ _ _ _ _ _ _ _ sure_by
      (ap (end_at fs) (source_by t) ∙ end_by (source_of es e.value))
      (ap (end_at fs) (target_by t) ∙ end_by (target_of es e.value))
      (ap (λ o. o.weight) (same_options e f a))

-- ---- all of the document

pub same_nodes : (es fs : List Element) → AllAlike es fs → nodes_of fs ≡ nodes_of es
same_nodes es fs h = mapped kind_is_node (node_of fs) (node_of es) (λ e f a t. node_by es fs h e f a t) es fs h

pub same_edges : (es fs : List Element) → AllAlike es fs → edges_of fs ≡ edges_of es
same_edges es fs h = mapped kind_is_edge (edge_of fs) (edge_of es) (λ e f a t. edge_by es fs h e f a t) es fs h

pub same_ports : (es fs : List Element) → AllAlike es fs → map without_place (ports_of fs) ≡ map without_place (ports_of es)
same_ports es fs h =
    map_map without_place (port_of fs) (filter is_port fs)
    ∙ mapped kind_is_port (λ f. without_place (port_of fs f)) (λ e. without_place (port_of es e)) (λ e f a t. port_one_by es fs h e f a t) es fs h
    ∙ sym (map_map without_place (port_of es) (filter is_port es))
  where
    map_map : {A B C : Type 0} (g : B → C) (f : A → B) (xs : List A) → map g (map f xs) ≡ map (λ x. g (f x)) xs
    map_map g f [] = refl
    map_map g f (x ∷ xs) = ap (λ ys. g (f x) ∷ ys) (map_map g f xs)
