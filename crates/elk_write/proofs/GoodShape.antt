-- The elements of an answer have the shape that rule 3 asks for.
use Rattle.std.proofs.Common.{◌≡◌, ℕ, zero, suc, List, [], ◌∷◌, Bool, true, false, not, ◌&&◌, ◌||◌, if◌then◌else◌, bytes_eq, refl, sym, ap, ◌∙◌, subst, Option, Some, None, option_map}
use Rattle.std.specs.Prelude.{codes, is_some, option_and_then, slice_get}
use Rattle.std.specs.Option.{option_map_or}
use Rattle.std.specs.List.{list_all}
use Rattle.std.proofs.lemmas.Option.{same_Some, none-some}
use Rattle.std.proofs.lemmas.Bool.{or_parts}
use Rattle.std.specs.Prelude.{ℤ, pos, negsuc}
use Rattle.serde_json.specs.Data.{Data, array, object, Items, Members}
use Rattle.serde_json.specs.Find.{get, get_member, as_array}
use Rattle.elk_doc.specs.declared.drawing.Placed.{Placed}
use Rattle.elk_doc.specs.Document.{Document}
use Rattle.elk_json.specs.declared.elements.Kind.{Kind}
use Rattle.elk_json.specs.declared.elements.Kind.TheVariants.{Node, Port, Edge}
use Rattle.elk_json.specs.Elements.{Element, items_list}
use Rattle.elk_json.specs.Members.{kind_is_node, kind_is_edge, is_root, has_children, is_object, is_array, is_number, is_id, absent_or, there_and}
use Rattle.elk_json.specs.Shape.{is_good, is_good_node, is_good_port, is_good_edge, is_extended, has_ids, has_ends, has_bad_shape}
use Rattle.elk_json.specs.Keyed.{IsKeyed}
use Rattle.elk_write.specs.declared.numbers.Numbers.{Numbers}
use Rattle.elk_write.specs.Numbers.{past_own}
use Rattle.elk_write.specs.Values.{whole}
use Rattle.elk_write.specs.Answered.{with_node, with_point, with_sections, kept_into, answer_node, answer_member, port_answer, edge_answer}
use Rattle.elk_write.proofs.Puts.{sorted_keyed}
use Rattle.elk_write.proofs.Inherited.{Each}
use Rattle.elk_write.specs.Merged.{answered}
use Rattle.elk_write.proofs.Kept.{answer_sorted}
use Rattle.elk_write.proofs.Shape.{get_node, children_found, ports_found, edges_found}
use Rattle.elk_write.proofs.Pairs.{step_kind, Same, Pairs, value_answer}
use Rattle.elk_write.proofs.Known.{not_false, node_object, port_object, edge_object}
use Rattle.elk_write.proofs.Alike.{Alike, AllAlike, good_as}

-- ---- arrays stay arrays, objects objects

by_three : (a b c : Bool) (x y z u : Items) → is_array (if a then array x else (if b then array y else (if c then array z else array u))) ≡ true
by_three true b c x y z u = refl
by_three false true c x y z u = refl
by_three false false true x y z u = refl
by_three false false false x y z u = refl

array_stays : (doc : Document) (p : Placed) (at below : Numbers) (k : List ℕ) (o : Option Data) → option_map_or is_array o true ≡ true → option_map_or is_array (option_map (answer_member doc p at below k) o) true ≡ true
array_stays doc p at below k None h = refl
array_stays doc p at below k (Some (array ds)) h = by_three (bytes_eq k (codes "children")) (bytes_eq k (codes "ports")) (bytes_eq k (codes "edges")) _ _ _ _
array_stays doc p at below k o h = absurd (cc)

abbrev pub StaysArray : List ℕ → Element → Element → Type 0
StaysArray q e f = absent_or is_array q e.value ≡ true → absent_or is_array q f.value ≡ true

pub record Arrays (e f : Element) : Type 0 where
  pub children : StaysArray (codes "children") e f
  pub ports : StaysArray (codes "ports") e f
  pub edges : StaysArray (codes "edges") e f

pub record Shaped (e f : Element) : Type 0 where
  pub object_is : is_object f.value ≡ true
  pub arrays : kind_is_node e.kind ≡ true → Arrays e f

abbrev pub AllShaped : List Element → List Element → Type 0
AllShaped [] [] = Unit {0}
AllShaped (e ∷ es) (f ∷ fs) = Shaped e f × AllShaped es fs
AllShaped es fs = ⊥

module _ (doc : Document) (p : Placed) (a : Numbers) (e f : Element) (same : Same doc p a e f) (keyed : IsKeyed e.value) (ms : Members) (is : e.value ≡ object ms) where
  node_shaped : e.kind ≡ Node → Shaped e f
  node_shaped kind =
      let root = not (is_some e.owner) in
      let d = object ms in
      let compound = root || has_children d in
      let below = past_own a d in
      let inner = answered doc p a compound below ms in
      let eq : f.value ≡ object (with_node compound doc p a.node inner) =
      same.2 ∙ ap (λ k. value_answer doc p k a root e.value) kind ∙ ap (answer_node doc p a root) is
      ∙ ap (λ x. object (with_node compound doc p a.node x)) (answer_sorted doc p a compound ms below (sorted_keyed ms (subst IsKeyed is keyed))) in
      let stays = λ (q : List ℕ) (there : get q f.value ≡ option_map (answer_member doc p a below q) (get_member q ms)) (h : absent_or is_array q e.value ≡ true).
      ap (λ o. option_map_or is_array o true) there
      ∙ array_stays doc p a below q (get_member q ms) (ap (λ x. absent_or is_array q x) (sym is) ∙ h) in
      record {
        object_is = ap is_object eq;
        arrays = λ t. record {
          children = stays (codes "children") (ap (get (codes "children")) eq ∙ get_node (codes "children") compound doc p a.node inner refl ∙ children_found doc p a compound ms below);
          ports = stays (codes "ports") (ap (get (codes "ports")) eq ∙ get_node (codes "ports") compound doc p a.node inner refl ∙ ports_found doc p a compound ms below);
          edges = stays (codes "edges") (ap (get (codes "edges")) eq ∙ get_node (codes "edges") compound doc p a.node inner refl ∙ edges_found doc p a compound ms below);
        };
      }

  port_shaped : e.kind ≡ Port → Shaped e f
  port_shaped kind =
      let root = not (is_some e.owner) in
      let eq : f.value ≡ object (with_point (slice_get p.ports a.port) (kept_into false _ ms)) =
      same.2 ∙ ap (λ k. value_answer doc p k a root e.value) kind ∙ ap (port_answer (slice_get p.ports a.port)) is in
      record { object_is = ap is_object eq; arrays = λ t. let bad : false ≡ true = sym (ap kind_is_node kind) ∙ t in absurd (cc) }

  edge_shaped : e.kind ≡ Edge → Shaped e f
  edge_shaped kind =
      let root = not (is_some e.owner) in
      let eq : f.value ≡ object (with_sections (slice_get doc.edges a.edge) (slice_get p.sections a.edge) (kept_into true _ ms)) =
      same.2 ∙ ap (λ k. value_answer doc p k a root e.value) kind ∙ ap (edge_answer (slice_get doc.edges a.edge) (slice_get p.sections a.edge)) is in
      record { object_is = ap is_object eq; arrays = λ t. let bad : false ≡ true = sym (ap kind_is_node kind) ∙ t in absurd (cc) }

shaped_by_kind : (doc : Document) (p : Placed) (a : Numbers) (e f : Element) (k : Kind) → e.kind ≡ k → Same doc p a e f → IsKeyed e.value → is_good e ≡ true → Shaped e f
shaped_by_kind doc p a e f Node is same keyed good = let o = node_object (is_root e) e.value (good_as e Node is good) in node_shaped doc p a e f same keyed o.0 o.1 is
shaped_by_kind doc p a e f Port is same keyed good = let o = port_object e.value (good_as e Port is good) in port_shaped doc p a e f same keyed o.0 o.1 is
shaped_by_kind doc p a e f Edge is same keyed good = let o = edge_object e.value (good_as e Edge is good) in edge_shaped doc p a e f same keyed o.0 o.1 is

pub all_shaped : (doc : Document) (p : Placed) (a : Numbers) (es fs : List Element) → Pairs doc p a es fs → Each IsKeyed es → has_bad_shape es ≡ false → AllShaped es fs
all_shaped doc p a [] [] h k g = tt
all_shaped doc p a (e ∷ es) (f ∷ fs) h k g =
    let both = or_parts (not (is_good e)) (has_bad_shape es) g in
    (shaped_by_kind doc p a e f e.kind refl h.0 k.0 (not_false (is_good e) both.0), all_shaped doc p (step_kind e.kind a) es fs h.1 k.1 both.1)
all_shaped doc p a es fs h k g = absurd h

-- ---- what stands at a place of both lists

pub record Mate (es : List Element) (i : ℕ) (f : Element) : Type 0 where
  pub mate : Element
  pub at : slice_get es i ≡ Some mate
  pub alike : Alike mate f
  pub shaped : Shaped mate f
  pub good : is_good mate ≡ true

pub mate_at : (es fs : List Element) → AllAlike es fs → AllShaped es fs → has_bad_shape es ≡ false → (i : ℕ) (f : Element) → slice_get fs i ≡ Some f → Mate es i f
mate_at [] [] h s g i f at = absurd (none-some f at)
mate_at (e ∷ es) (x ∷ fs) h s g zero f at =
    let same : x ≡ f = same_Some x f at in
    let both = or_parts (not (is_good e)) (has_bad_shape es) g in
    record { mate = e; at = refl; alike = subst (Alike e) same h.0; shaped = subst (Shaped e) same s.0; good = not_false (is_good e) both.0 }
mate_at (e ∷ es) (x ∷ fs) h s g (suc i) f at =
    let both = or_parts (not (is_good e)) (has_bad_shape es) g in
    let m = mate_at es fs h.1 s.1 both.1 i f at in
    record { mate = m.mate; at = m.at; alike = m.alike; shaped = m.shaped; good = m.good }
mate_at es fs h s g i f at = absurd h

-- ---- the shape of one element

and_up : (a b c d : Bool) → (a ≡ true → c ≡ true) → (b ≡ true → d ≡ true) → (a && b) ≡ true → (c && d) ≡ true
and_up true true c d f g h = rw (f refl, g refl) refl
and_up true false c d f g h = absurd (cc)
and_up false b c d f g h = absurd (cc)

number_whole : (z : ℤ) → is_number (whole z) ≡ true
number_whole (pos n) = refl
number_whole (negsuc n) = refl

abbrev pub IsWritten : List ℕ → Data → Type 0
IsWritten q d = (z : ℤ) × (get q d ≡ Some (whole z))

pub number_there : (q : List ℕ) (d : Data) → IsWritten q d → absent_or is_number q d ≡ true
number_there q d h = ap (λ o. option_map_or is_number o true) h.1 ∙ number_whole h.0

if_up : (b c : Bool) (x y z u : Bool) → c ≡ b → z ≡ x → u ≡ y → (if b then x else y) ≡ true → (if c then z else u) ≡ true
if_up b c x y z u e f g h = rw (e, f, g) h

module _ (e f : Element) (a : Alike e f) (s : Shaped e f) where
  options_up : absent_or is_object (codes "layoutOptions") e.value ≡ true → absent_or is_object (codes "layoutOptions") f.value ≡ true
  options_up h = ap (λ o. option_map_or is_object o true) a.options ∙ h

  id_up : there_and is_id (codes "id") e.value ≡ true → there_and is_id (codes "id") f.value ≡ true
  id_up h = ap (λ o. option_map_or is_id o false) a.id ∙ h

  pub node_good : (root : Bool) → kind_is_node e.kind ≡ true → absent_or is_number (codes "width") f.value ≡ true → absent_or is_number (codes "height") f.value ≡ true → is_good_node root e.value ≡ true → is_good_node root f.value ≡ true
  node_good root node width height =
      let arrays = s.arrays node in
      and_up _ _ _ _
      (and_up _ _ _ _
      (and_up _ _ _ _
      (and_up _ _ _ _
      (and_up _ _ _ _
      (and_up _ _ _ _ (λ _. s.object_is) arrays.children)
      arrays.ports)
      arrays.edges)
      options_up)
      (if_up root root _ _ _ _ refl (ap (λ o. option_map_or is_id o true) a.id) (ap (λ o. option_map_or is_id o false) a.id)))
      (and_up (absent_or is_number (codes "width") e.value) (absent_or is_number (codes "height") e.value) _ _ (λ _. width) (λ _. height))

  pub port_good : absent_or is_number (codes "width") f.value ≡ true → absent_or is_number (codes "height") f.value ≡ true → absent_or is_number (codes "x") f.value ≡ true → absent_or is_number (codes "y") f.value ≡ true
      → is_good_port e.value ≡ true → is_good_port f.value ≡ true
  port_good width height x y =
      and_up _ (absent_or is_number (codes "y") e.value) _ _
      (and_up _ (absent_or is_number (codes "x") e.value) _ _
      (and_up _ _ _ _
      (and_up _ _ _ _
      (and_up _ _ _ _ (λ _. s.object_is) options_up)
      id_up)
      (and_up (absent_or is_number (codes "width") e.value) (absent_or is_number (codes "height") e.value) _ _ (λ _. width) (λ _. height)))
      (λ _. x))
      (λ _. y)

  abbrev List_of : Option Data → List Data
  List_of o = option_map_or items_list (option_and_then as_array o) []

  abbrev ids_of : Option Data → Option Data → Bool
  ids_of x y = option_map_or is_array x false && option_map_or is_array y false && list_all is_id (List_of x) && list_all is_id (List_of y)

  abbrev ends_of : Option Data → Option Data → Option Data → Option Data → Bool
  ends_of x y z u = option_map_or is_id x false && option_map_or is_id y false && option_map_or is_id z true && option_map_or is_id u true

  pub edge_good : kind_is_edge e.kind ≡ true → is_good_edge e.value ≡ true → is_good_edge f.value ≡ true
  edge_good edge =
      let g = a.ends edge in
      and_up _ _ _ _
      (and_up _ _ _ _
      (and_up _ _ _ _ (λ _. s.object_is) options_up)
      id_up)
      (if_up (is_extended e.value) (is_extended f.value) (has_ids e.value) (has_ends e.value) (has_ids f.value) (has_ends f.value)
      (ap (λ o. is_some o || is_some (get (codes "targets") f.value)) (g (codes "sources") refl) ∙ ap (λ o. is_some (get (codes "sources") e.value) || is_some o) (g (codes "targets") refl))
      (ap (λ o. ids_of o (get (codes "targets") f.value)) (g (codes "sources") refl) ∙ ap (λ o. ids_of (get (codes "sources") e.value) o) (g (codes "targets") refl))
      (ap (λ o. ends_of o (get (codes "target") f.value) (get (codes "sourcePort") f.value) (get (codes "targetPort") f.value)) (g (codes "source") refl)
      ∙ ap (λ o. ends_of (get (codes "source") e.value) o (get (codes "sourcePort") f.value) (get (codes "targetPort") f.value)) (g (codes "target") refl)
      ∙ ap (λ o. ends_of (get (codes "source") e.value) (get (codes "target") e.value) o (get (codes "targetPort") f.value)) (g (codes "sourcePort") refl)
      ∙ ap (λ o. ends_of (get (codes "source") e.value) (get (codes "target") e.value) (get (codes "sourcePort") e.value) o) (g (codes "targetPort") refl)))
