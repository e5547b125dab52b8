-- The document of a value that no rule refuses is sound.
use Rattle.std.proofs.Common.{◌≡◌, ◌≢◌, ℕ, zero, suc, ◌+◌, ◌<◌, ◌≤◌, ◌^◌, ◌⊎◌, ⊎_elim, List, [], ◌∷◌, length, Bool, true, false, not, ◌&&◌, ◌||◌, Option, Some, None, if◌then◌else◌, refl, ap, sym, subst, ◌∙◌, arith}
use Rattle.std.specs.Prelude.{slice_get, filter, find, max, is_none, IsTrue, IfSome, nat_eq}
use Rattle.std.specs.Option.{option_or, option_map_or, option_eq}
use Rattle.std.specs.List.{list_any}
use Rattle.std.proofs.lemmas.Bool.{cases_lt, eqb-true, eqb-false, eq-eqb, ne_eqb, ltb-false, not-false, or_parts, and_from}
use Rattle.std.proofs.lemmas.List.{length-map}
use Rattle.std.proofs.lemmas.Option.{none-some, same_Some}
use Rattle.serde_json.specs.Data.{Data}
use Rattle.elk_doc.specs.declared.document.Node.{Node}
use Rattle.elk_doc.specs.declared.document.Port.{Port}
use Rattle.elk_doc.specs.declared.document.Edge.{Edge}
use Rattle.elk_doc.specs.Document.{no_edge, node_at, port_at, edge_at, parent_of, node_of_port}
use Rattle.elk_doc.specs.Level.{node_of_end, source_node as doc_source, target_node as doc_target, level_of_edge as doc_level}
use Rattle.elk_doc.specs.Sides.{side_from, side_by_place}
use Rattle.elk_doc.specs.Sound.{IsSound, IsSoundNode, IsSoundPort, IsSoundLevel, IsSoundEdge, IsEndIn, HasLevels, HasPorts}
use Rattle.elk_options.specs.Reading.{options_of, level_of, weight_of}
use Rattle.elk_options.proofs.OptionBounds.{sound_weight}
use Rattle.elk_json.specs.declared.elements.Kind.{Kind}
use Rattle.elk_json.specs.declared.elements.Kind.TheVariants as kinds
use Rattle.elk_json.specs.declared.fault.Rule.{Rule}
use Rattle.elk_json.specs.Elements.{Element, elements}
use Rattle.elk_json.specs.Members.{is_node, is_port, is_edge, kind_is_node, kind_is_port, kind_is_edge, is_compound, is_at_compound, has_children, has_bad_option, options_at, options_data}
use Rattle.elk_json.specs.Ranges.{is_out_of_range, are_too_many, is_too_deep, levels}
use Rattle.elk_json.specs.Ends.{has_known_ends, is_hyperedge, is_cross_level, source_node, target_node, parent_of as owner_of, level_of_edge}
use Rattle.elk_json.specs.Rules.{if_so, at as at_rule, first_at, is_badly_optioned, has_boxes_and_edges, is_port_inside, value_refusal, edge_refusal, option_refusal, refused}
use Rattle.elk_json.specs.Document.{node_of, port_of, edge_of, end_at, nodes_of, ports_of, edges_of}
use Rattle.elk_json.proofs.Places.{number, number_rises, number_less, place_less, place_same, none_found}
use Rattle.elk_json.proofs.Tree.{IsRooted, IsPlaced, rooted}
use Rattle.elk_json.proofs.Accepted.{doc_of, Behind, behind, value_at, node_value, node_in, number_zero, below_root, parent_number, sound_tree, root_level, parent_level, only_children, deep_enough, root_compound}
use Rattle.elk_json.proofs.NodeLaws.{second, sound_node, sound_level, compound_level}
use Rattle.elk_json.proofs.EndLaws.{HasEnds, has_ends, source_stands, target_stands, owner_is, cross_by, past_first, port_value, port_node}
use Rattle.elk_json.proofs.PortLaws.{IsKept, IsFine, sound_port}

-- ---- what it means that no rule refuses

pub record IsAccepted (es : List Element) : Type 0 where
  pub in_range : find is_out_of_range es ≡ None
  pub few : are_too_many es ≡ false
  pub known : find (λ e. is_edge e && not (has_known_ends es e.value)) es ≡ None
  pub simple : find (λ e. is_edge e && is_hyperedge e.value) es ≡ None
  pub within : find (λ e. is_edge e && is_cross_level es e.value) es ≡ None
  pub good : first_at (is_badly_optioned es) 0 es ≡ None
  pub outer : find is_port_inside es ≡ None

or_none : {X : Type 0} (a b : Option X) → option_or a b ≡ None → (a ≡ None) × (b ≡ None)
or_none None b h = (refl, h)
or_none (Some x) b h = absurd (none-some x (sym h))

not_so : (r : Rule) (b : Bool) → if_so r b ≡ None → b ≡ false
not_so r true h = absurd (none-some _ (sym h))
not_so r false h = refl

not_at : (r : Rule) (o : Option Element) → at_rule r o ≡ None → o ≡ None
not_at r None h = refl
not_at r (Some e) h = absurd (none-some _ (sym h))

value_accepted : (d : Data) → value_refusal d ≡ None → (find is_out_of_range (elements d) ≡ None) × (are_too_many (elements d) ≡ false) × (is_too_deep d ≡ false)
unfolding value_refusal
value_accepted d h =
    let a = or_none _ _ h in
    let b = or_none _ _ a.1 in
    let c = or_none _ _ b.1 in
    let e = or_none _ _ c.1 in
    (not_at _ _ c.0, not_so _ _ e.0, not_so _ _ e.1)

edges_accepted : (es : List Element) → edge_refusal es ≡ None
    → (find (λ e. is_edge e && not (has_known_ends es e.value)) es ≡ None) × (find (λ e. is_edge e && is_hyperedge e.value) es ≡ None) × (find (λ e. is_edge e && is_cross_level es e.value) es ≡ None)
unfolding edge_refusal
edges_accepted es h =
    let a = or_none _ _ h in
    let b = or_none _ _ a.1 in
    let c = or_none _ _ b.1 in
    (not_at _ _ b.0, not_at _ _ c.0, not_at _ _ c.1)

options_accepted : (es : List Element) → option_refusal es ≡ None → (first_at (is_badly_optioned es) 0 es ≡ None) × (find is_port_inside es ≡ None)
unfolding option_refusal
options_accepted es h = let a = or_none _ _ h in (not_at _ _ a.0, not_at _ _ a.1)

parts_accepted : (d : Data) → refused d ≡ None → (value_refusal d ≡ None) × (edge_refusal (elements d) ≡ None) × (option_refusal (elements d) ≡ None)
unfolding refused
parts_accepted d h =
    let a = or_none (value_refusal d) _ h in
    let b = or_none (edge_refusal (elements d)) (option_refusal (elements d)) a.1 in
    (a.0, b.0, b.1)

pub accepted : (d : Data) → refused d ≡ None → IsAccepted (elements d)
accepted d h =
    let p = parts_accepted d h in
    let v = value_accepted d p.0 in
    let e = edges_accepted (elements d) p.1 in
    let o = options_accepted (elements d) p.2 in
    record { in_range = v.0; few = v.1; known = e.0; simple = e.1; within = e.2; good = o.0; outer = o.1 }

pub tree_accepted : (d : Data) → refused d ≡ None → IsRooted (elements d)
tree_accepted d h =
    let deep : max 1 (levels d) ≤ 50 = ltb-false 50 (max 1 (levels d)) (value_accepted d (parts_accepted d h).0).2 in
    rooted d (omega arith)

-- ---- what the rules say of each element

first_none_by : (test : ℕ → Element → Bool) (n : ℕ) (x : Element) (o : Option Element) (b : Bool) → test n x ≡ b → (if b then Some x else o) ≡ None → (test n x ≡ false) × (o ≡ None)
first_none_by test n x o true e h = absurd (none-some x (sym h))
first_none_by test n x o false e h = (e, h)

first_none : (test : ℕ → Element → Bool) (n : ℕ) (xs : List Element) (i : ℕ) (x : Element) → first_at test n xs ≡ None → slice_get xs i ≡ Some x → test (n + i) x ≡ false
first_none test n [] i x none at = absurd (none-some x at)
first_none test n (y ∷ ys) zero x none at =
    let same : y ≡ x = same_Some y x at in
    let here : n ≡ n + 0 = omega arith in
    let f : test n y ≡ false = (first_none_by test n y (first_at test (n + 1) ys) (test n y) refl none).0 in
    subst (λ k. test k x ≡ false) here (subst (λ z. test n z ≡ false) same f)
first_none test n (y ∷ ys) (suc i) x none at =
    let here : n + 1 + i ≡ n + suc i = omega arith in
    subst (λ k. test k x ≡ false) here (first_none test (n + 1) ys i x (first_none_by test n y (first_at test (n + 1) ys) (test n y) refl none).1 at)

optioned : (es : List Element) (i : ℕ) (x : Element) → IsAccepted es → slice_get es i ≡ Some x → (has_bad_option x ≡ false) × (has_boxes_and_edges es i x ≡ false)
unfolding is_badly_optioned
optioned es i x a at =
    let here : 0 + i ≡ i = omega arith in
    or_parts (has_bad_option x) (has_boxes_and_edges es i x) (subst (λ k. is_badly_optioned es k x ≡ false) here (first_none (is_badly_optioned es) 0 es i x a.good at))

pub all_good : (es : List Element) → IsAccepted es → (i : ℕ) (x : Element) → slice_get es i ≡ Some x → has_bad_option x ≡ false
all_good es a i x at = (optioned es i x a at).0

-- ---- edges

edge_no_node : (k : Kind) → kind_is_edge k ≡ true → kind_is_node k ≡ false
edge_no_node kinds.Node h = absurd cc
edge_no_node kinds.Port h = absurd cc
edge_no_node kinds.Edge h = refl

edge_no_port : (k : Kind) → kind_is_edge k ≡ true → kind_is_port k ≡ false
edge_no_port kinds.Node h = absurd cc
edge_no_port kinds.Port h = absurd cc
edge_no_port kinds.Edge h = refl

pub port_no_node : (k : Kind) → kind_is_port k ≡ true → kind_is_node k ≡ false
port_no_node kinds.Node h = absurd cc
port_no_node kinds.Port h = refl
port_no_node kinds.Edge h = absurd cc

weight_is : (e : Element) → is_edge e ≡ true → (options_at e).weight ≡ weight_of (options_data e.value)
unfolding options_of
weight_is e h = rw (edge_no_node e.kind h, edge_no_port e.kind h) refl

-- an edge of the document, with its ends
pub record IsLevelEdge (es : List Element) (k : ℕ) : Type 0 where
  pub element : Element
  pub place : ℕ
  pub at : slice_get es place ≡ Some element
  pub edge_is : is_edge element ≡ true
  pub value : edge_at (doc_of es) k ≡ edge_of es element
  pub ends : HasEnds es element.value
  pub crossing : is_cross_level es element.value ≡ false

level_edge : (es : List Element) (k : ℕ) → IsAccepted es → IsRooted es → k < length (edges_of es) → IsLevelEdge es k
level_edge es k a r h =
    let b = behind is_edge (edge_of es) es k h in
    let known = not-false (has_known_ends es b.element.value) (second (is_edge b.element) _ b.passes (none_found (λ e. is_edge e && not (has_known_ends es e.value)) es b.place b.element a.known b.at)) in
    let simple = second (is_edge b.element) _ b.passes (none_found (λ e. is_edge e && is_hyperedge e.value) es b.place b.element a.simple b.at) in
    let inner = second (is_edge b.element) _ b.passes (none_found (λ e. is_edge e && is_cross_level es e.value) es b.place b.element a.within b.at) in
    record {
      element = b.element;
      place = b.place;
      at = b.at;
      edge_is = b.passes;
      value = subst (λ n. edge_at (doc_of es) n ≡ edge_of es b.element) b.is (value_at is_edge (edge_of es) es b.place b.element no_edge b.at b.passes);
      ends = has_ends es b.element.value r known simple;
      crossing = inner;
    }

source_at : (es : List Element) (k : ℕ) (l : IsLevelEdge es k) → (edge_at (doc_of es) k).source ≡ end_at es (Some l.ends.source_place)
source_at es k l = ap (λ (e : Edge). e.source) l.value ∙ ap (end_at es) l.ends.source_is

target_at : (es : List Element) (k : ℕ) (l : IsLevelEdge es k) → (edge_at (doc_of es) k).target ≡ end_at es (Some l.ends.target_place)
target_at es k l = ap (λ (e : Edge). e.target) l.value ∙ ap (end_at es) l.ends.target_is

source_number : (es : List Element) (k : ℕ) (l : IsLevelEdge es k) → doc_source (doc_of es) k ≡ number is_node es l.ends.source_end.place
source_number es k l = ap (node_of_end (doc_of es)) (source_at es k l) ∙ l.ends.source_end.is

target_number : (es : List Element) (k : ℕ) (l : IsLevelEdge es k) → doc_target (doc_of es) k ≡ number is_node es l.ends.target_end.place
target_number es k l = ap (node_of_end (doc_of es)) (target_at es k l) ∙ l.ends.target_end.is

crossing_at : (es : List Element) (k s t : ℕ) (l : IsLevelEdge es k) → source_node es l.element.value ≡ Some s → target_node es l.element.value ≡ Some t
    → (nat_eq s 0 ≡ false) × (nat_eq t 0 ≡ false) × ((nat_eq s t ≡ true) ⊎ (option_eq nat_eq (owner_of es (Some s)) (owner_of es (Some t)) ≡ true))
unfolding is_cross_level
crossing_at es k s t l source target =
    let c = l.crossing in
    cross_by (nat_eq s t) (option_eq nat_eq (owner_of es (Some s)) (owner_of es (Some t))) (nat_eq s 0) (nat_eq t 0) (rw (source, target) at c)

-- both ends stand below the root, with one parent
pub record HasLevel (es : List Element) (k : ℕ) (l : IsLevelEdge es k) : Type 0 where
  pub source_past : 0 < l.ends.source_end.place
  pub target_past : 0 < l.ends.target_end.place
  pub source_placed : IsPlaced es 0 l.ends.source_end.place l.ends.source_end.element
  pub target_placed : IsPlaced es 0 l.ends.target_end.place l.ends.target_end.element
  pub one_parent : source_placed.owner_place ≡ target_placed.owner_place

not_zero : (n : ℕ) → nat_eq n 0 ≡ false → 0 < n
not_zero n h = let ne : n ≡ 0 → ⊥ = eqb-false n 0 h in omega arith

same_owner : (es : List Element) (s t p q : ℕ) (x y : Element) → slice_get es s ≡ Some x → slice_get es t ≡ Some y → x.owner ≡ Some p → y.owner ≡ Some q
    → option_eq nat_eq (owner_of es (Some s)) (owner_of es (Some t)) ≡ true → p ≡ q
same_owner es s t p q x y xat yat xown yown h = eqb-true p q (rw (owner_is es s x xat, owner_is es t y yat, xown, yown) at h)

same_place : (es : List Element) (s t p q : ℕ) (x y : Element) → slice_get es s ≡ Some x → slice_get es t ≡ Some y → x.owner ≡ Some p → y.owner ≡ Some q → s ≡ t → p ≡ q
same_place es s t p q x y xat yat xown yown e =
    let same : x ≡ y = same_Some x y (sym xat ∙ ap (slice_get es) e ∙ yat) in
    same_Some p q (sym xown ∙ ap (λ (z : Element). z.owner) same ∙ yown)

has_level : (es : List Element) (k : ℕ) → IsRooted es → (l : IsLevelEdge es k) → HasLevel es k l
has_level es k r l =
    let s = l.ends.source_end in
    let t = l.ends.target_end in
    let c = crossing_at es k s.place t.place l (source_stands es l.element.value l.ends) (target_stands es l.element.value l.ends) in
    let sp = r.placed s.place s.element (not_zero s.place c.0) s.at in
    let tp = r.placed t.place t.element (not_zero t.place c.1) t.at in
    record {
      source_past = not_zero s.place c.0;
      target_past = not_zero t.place c.1;
      source_placed = sp;
      target_placed = tp;
      one_parent =
          ⊎_elim (λ (e : nat_eq s.place t.place ≡ true). same_place es s.place t.place sp.owner_place tp.owner_place s.element t.element s.at t.at sp.owned tp.owned (eqb-true s.place t.place e))
          (λ (e : option_eq nat_eq (owner_of es (Some s.place)) (owner_of es (Some t.place)) ≡ true). same_owner es s.place t.place sp.owner_place tp.owner_place s.element t.element s.at t.at sp.owned tp.owned e)
          c.2;
    }

number_past : (es : List Element) (i : ℕ) → IsRooted es → 0 < i → 0 < number is_node es i
number_past es i r h =
    let z : number is_node es 0 ≡ 0 = number_zero is_node es in
    let less : number is_node es 0 < number is_node es i = number_less is_node es 0 i r.root r.first r.root_is h in omega arith

source_parent : (es : List Element) (k : ℕ) (l : IsLevelEdge es k) (h : HasLevel es k l) → parent_of (doc_of es) (doc_source (doc_of es) k) ≡ number is_node es h.source_placed.owner_place
source_parent es k l h =
    ap (parent_of (doc_of es)) (source_number es k l)
    ∙ parent_number es l.ends.source_end.place l.ends.source_end.element h.source_placed.owner_place l.ends.source_end.at l.ends.source_end.node_is h.source_placed.owned

target_parent : (es : List Element) (k : ℕ) (l : IsLevelEdge es k) (h : HasLevel es k l) → parent_of (doc_of es) (doc_target (doc_of es) k) ≡ number is_node es h.target_placed.owner_place
target_parent es k l h =
    ap (parent_of (doc_of es)) (target_number es k l)
    ∙ parent_number es l.ends.target_end.place l.ends.target_end.element h.target_placed.owner_place l.ends.target_end.at l.ends.target_end.node_is h.target_placed.owned

sound_edge : (es : List Element) (k : ℕ) → IsAccepted es → IsRooted es → k < length (edges_of es) → IsSoundEdge (doc_of es) k
sound_edge es k a r hi =
    let l = level_edge es k a r hi in
    let h = has_level es k r l in
    let w = sound_weight (options_data l.element.value) in
    let weight : (edge_at (doc_of es) k).weight ≡ weight_of (options_data l.element.value) = ap (λ (e : Edge). e.weight) l.value ∙ weight_is l.element l.edge_is in
    record {
      source_in = subst (λ x. IsEndIn (doc_of es) x) (sym (source_at es k l)) l.ends.source_end.inside;
      target_in = subst (λ x. IsEndIn (doc_of es) x) (sym (target_at es k l)) l.ends.target_end.inside;
      source_below = subst (λ n. 0 < n) (sym (source_number es k l)) (number_past es l.ends.source_end.place r h.source_past);
      target_below = subst (λ n. 0 < n) (sym (target_number es k l)) (number_past es l.ends.target_end.place r h.target_past);
      siblings = source_parent es k l h ∙ ap (number is_node es) h.one_parent ∙ sym (target_parent es k l h);
      weight_above = subst (λ n. 1 ≤ n) (sym weight) w.0;
      weight_below = subst (λ n. n ≤ 2 ^ 20) (sym weight) w.1;
    }

-- ---- levels of boxes

none_any : (test : Element → Bool) (xs : List Element) (i : ℕ) (x : Element) → list_any test xs ≡ false → slice_get xs i ≡ Some x → test x ≡ false
none_any test [] i x h at = absurd (none-some x at)
none_any test (y ∷ ys) zero x h at = ap test (sym (same_Some y x at)) ∙ (or_parts (test y) _ h).0
none_any test (y ∷ ys) (suc i) x h at = none_any test ys i x (or_parts (test y) _ h).1 at

no_level_edge : (es : List Element) (i : ℕ) (x : Element) → is_compound x ≡ true → option_map_or (λ l. l.boxes) (options_at x).level false ≡ true → has_boxes_and_edges es i x ≡ false
    → (j : ℕ) (f : Element) → slice_get es j ≡ Some f → is_edge f ≡ true → level_of_edge es f.value ≡ Some i → ⊥
unfolding has_boxes_and_edges
no_level_edge es i x c b h j f at edge level =
    let none = second _ _ (and_from _ _ c b) h in
    let here = none_any (λ g. is_edge g && option_eq nat_eq (level_of_edge es g.value) (Some i)) es j f none at in
    let other : option_eq nat_eq (level_of_edge es f.value) (Some i) ≡ false = second (is_edge f) _ edge here in
    let same : option_eq nat_eq (level_of_edge es f.value) (Some i) ≡ true = rw level (eq-eqb i i refl) in cc

level_is : (es : List Element) (k : ℕ) (l : IsLevelEdge es k) (h : HasLevel es k l) → level_of_edge es l.element.value ≡ Some h.source_placed.owner_place
unfolding level_of_edge
level_is es k l h =
    ap (owner_of es) (source_stands es l.element.value l.ends)
    ∙ owner_is es l.ends.source_end.place l.ends.source_end.element l.ends.source_end.at
    ∙ h.source_placed.owned

boxes_empty : (es : List Element) (n : ℕ) → IsAccepted es → IsRooted es → (b : Behind is_node es n) → is_compound b.element ≡ true → IsTrue (level_of (options_data b.element.value)).boxes
    → (k : ℕ) → k < length (edges_of es) → doc_level (doc_of es) k ≢ n
boxes_empty es n a r b c boxes k hi same =
    let l = level_edge es k a r hi in
    let h = has_level es k r l in
    let equal : number is_node es h.source_placed.owner_place ≡ number is_node es b.place = sym (source_parent es k l h) ∙ same ∙ sym b.is in
    let place : h.source_placed.owner_place ≡ b.place = place_same is_node es h.source_placed.owner_place b.place h.source_placed.keeper b.element h.source_placed.kept h.source_placed.keeper_is b.at b.passes equal in
    no_level_edge es b.place b.element c (ap (λ o. option_map_or (λ l. l.boxes) o false) (compound_level b.element b.passes c) ∙ boxes) (optioned es b.place b.element a b.at).1
    l.place l.element l.at l.edge_is (level_is es k l h ∙ ap Some place)

behind_value : (es : List Element) (n : ℕ) (b : Behind is_node es n) → node_at (doc_of es) n ≡ node_of es b.element
behind_value es n b = subst (λ m. node_at (doc_of es) m ≡ node_of es b.element) b.is (node_value es b.place b.element b.at b.passes)

node_options : (es : List Element) (n : ℕ) → IsAccepted es → IsRooted es → n < length (nodes_of es) → IfSome (node_at (doc_of es) n).level (IsSoundLevel (doc_of es) n)
node_options es n a r hi =
    let b = behind is_node (node_of es) es n hi in
    subst (λ (x : Node). IfSome x.level (IsSoundLevel (doc_of es) n)) (sym (behind_value es n b))
    (sound_level (doc_of es) n b.element b.passes (λ c boxes k less. boxes_empty es n a r b c boxes k less))

sound_levels : (es : List Element) → IsAccepted es → IsRooted es → HasLevels (doc_of es)
sound_levels es a r = record {
  root = root_level es r;
  parents = λ n lo hi. parent_level es n (below_root es n r lo hi);
  only = λ n lo hi some. only_children es n (below_root es n r lo hi) some;
  depth = λ n hi some. deep_enough es n r hi some;
  options = λ n hi. node_options es n a r hi;
}

each_node : (es : List Element) (n : ℕ) → IsAccepted es → n < length (nodes_of es) → IsSoundNode (node_at (doc_of es) n)
each_node es n a hi =
    let b = behind is_node (node_of es) es n hi in
    subst (λ x. IsSoundNode x) (sym (behind_value es n b)) (sound_node es b.element b.passes (none_found is_out_of_range es b.place b.element a.in_range b.at))

-- ---- ports

record StandsAt (es : List Element) (k : ℕ) : Type 0 where
  element : Element
  place : ℕ
  at : slice_get es place ≡ Some element
  port_is : is_port element ≡ true
  is : number is_port es place ≡ k
  value : port_at (doc_of es) k ≡ port_of es element
  placed : IsPlaced es 0 place element
  node_is : node_of_port (doc_of es) k ≡ number is_node es placed.owner_place

stands_at : (es : List Element) (k : ℕ) → IsRooted es → k < length (ports_of es) → StandsAt es k
stands_at es k r hi =
    let b = behind is_port (port_of es) es k hi in
    let p = r.placed b.place b.element (past_first es b.place b.element r b.at (port_no_node b.element.kind b.passes)) b.at in
    record {
      element = b.element;
      place = b.place;
      at = b.at;
      port_is = b.passes;
      is = b.is;
      value = subst (λ n. port_at (doc_of es) n ≡ port_of es b.element) b.is (port_value es b.place b.element b.at b.passes);
      placed = p;
      node_is = subst (λ n. node_of_port (doc_of es) n ≡ number is_node es p.owner_place) b.is (port_node es b.place b.element p.owner_place b.at b.passes p.owned);
    }

ports_order : (es : List Element) (j k : ℕ) → j < k → (s : StandsAt es j) (t : StandsAt es k) → node_of_port (doc_of es) j ≤ node_of_port (doc_of es) k
ports_order es j k less s t =
    let si : number is_port es s.place ≡ j = s.is in
    let ti : number is_port es t.place ≡ k = t.is in
    let order : s.place < t.place = place_less is_port es s.place t.place (omega arith) in
    let before : s.placed.owner_place < s.place = s.placed.before in
    let rises : s.placed.owner_place ≤ t.placed.owner_place =
    ⊎_elim
    (λ (h : t.placed.owner_place < s.placed.owner_place).
    let not_node : is_node s.placed.keeper ≡ false = t.placed.lone (port_no_node t.element.kind t.port_is) s.placed.owner_place s.placed.keeper h (omega arith) s.placed.kept in
    let node : is_node s.placed.keeper ≡ true = s.placed.keeper_is in absurd cc)
    (λ (h : s.placed.owner_place ≤ t.placed.owner_place). h)
    (cases_lt t.placed.owner_place s.placed.owner_place) in
    let numbers : number is_node es s.placed.owner_place ≤ number is_node es t.placed.owner_place = number_rises is_node es s.placed.owner_place t.placed.owner_place rises in
    let sn : node_of_port (doc_of es) j ≡ number is_node es s.placed.owner_place = s.node_is in
    let tn : node_of_port (doc_of es) k ≡ number is_node es t.placed.owner_place = t.node_is in
    omega arith

-- whether the owner is the root, by its place and by its own owner
compound_same : (es : List Element) (q : ℕ) (keeper : Element) → IsRooted es → slice_get es q ≡ Some keeper → is_node keeper ≡ true → (h : Data) → keeper.value ≡ h → is_compound keeper ≡ (nat_eq q 0 || has_children h)
compound_same es zero keeper r at is h same =
    let root : r.root ≡ keeper = same_Some r.root keeper (sym r.first ∙ at) in
    root_compound keeper is (ap (λ (e : Element). e.owner) (sym root) ∙ r.alone)
compound_same es (suc q) keeper r at is h same =
    let lo : 0 < suc q = omega arith in
    let past : nat_eq (suc q) 0 ≡ false = ne_eqb (suc q) 0 (λ (e : suc q ≡ 0). omega arith) in
    rw (is, (r.placed (suc q) keeper lo at).owned, same, past) refl

at_compound_is : (e : Element) (q : ℕ) → e.owner ≡ Some q → is_at_compound e ≡ (nat_eq q 0 || has_children e.holder)
at_compound_is e q own = rw own refl

is_kept : (es : List Element) (k : ℕ) → IsRooted es → (s : StandsAt es k) → IsKept s.placed.keeper s.element
is_kept es k r s = record {
  keeper_is = s.placed.keeper_is;
  same = s.placed.same;
  compound = compound_same es s.placed.owner_place s.placed.keeper r s.placed.kept s.placed.keeper_is s.element.holder s.placed.same ∙ sym (at_compound_is s.element s.placed.owner_place s.placed.owned);
}

is_fine : (es : List Element) (k : ℕ) → IsAccepted es → (s : StandsAt es k) → IsFine s.placed.keeper s.element
is_fine es k a s = record {
  port_is = s.port_is;
  node_no = port_no_node s.element.kind s.port_is;
  in_range = none_found is_out_of_range es s.place s.element a.in_range s.at;
  good = all_good es a s.place s.element s.at;
  keeper_good = all_good es a s.placed.owner_place s.placed.keeper s.placed.kept;
  outer = none_found is_port_inside es s.place s.element a.outer s.at;
}

keeper_value : (es : List Element) (k : ℕ) (s : StandsAt es k) → node_at (doc_of es) (node_of_port (doc_of es) k) ≡ node_of es s.placed.keeper
keeper_value es k s = ap (node_at (doc_of es)) s.node_is ∙ node_value es s.placed.owner_place s.placed.keeper s.placed.kept s.placed.keeper_is

-- a port beside its node
abbrev IsSoundPair : Node → Port → Type 0
IsSoundPair n p = IsSoundPort n p (side_from n.rule p.side (is_none n.level) (side_by_place n.size p.place p.size))

each_port : (es : List Element) (k : ℕ) → IsAccepted es → IsRooted es → (s : StandsAt es k) → IsSoundPair (node_at (doc_of es) (node_of_port (doc_of es) k)) (port_at (doc_of es) k)
each_port es k a r s =
    subst (λ n. IsSoundPair n (port_at (doc_of es) k)) (sym (keeper_value es k s))
    (subst (λ p. IsSoundPair (node_of es s.placed.keeper) p) (sym s.value) (sound_port es s.placed.keeper s.element (is_kept es k r s) (is_fine es k a s)))

sound_ports : (es : List Element) → IsAccepted es → IsRooted es → HasPorts (doc_of es)
sound_ports es a r = record {
  nodes = λ k hi. (let s = stands_at es k r hi in
      subst (λ n. n < length (nodes_of es)) (sym s.node_is) (node_in es s.placed.owner_place s.placed.keeper s.placed.kept s.placed.keeper_is));
  order = λ j k less hi. ports_order es j k less (stands_at es j r (omega arith)) (stands_at es k r hi);
  each = λ k hi. each_port es k a r (stands_at es k r hi);
}

-- ---- the whole

pub few_parts : (es : List Element) → are_too_many es ≡ false → (length (filter is_node es) ≤ 2048) × (length (filter is_port es) ≤ 4096) × (length (filter is_edge es) ≤ 2048)
few_parts es h =
    let a = or_parts _ _ h in
    let b = or_parts _ _ a.0 in
    (ltb-false 2048 _ b.0, ltb-false 4096 _ b.1, ltb-false 2048 _ a.1)

pub sound_elements : (es : List Element) → IsAccepted es → IsRooted es → IsSound (doc_of es)
sound_elements es a r =
    let few = few_parts es a.few in
    let n : length (nodes_of es) ≡ length (filter is_node es) = length-map (filter is_node es) (node_of es) in
    let p : length (ports_of es) ≡ length (filter is_port es) = length-map (filter is_port es) (port_of es) in
    let e : length (edges_of es) ≡ length (filter is_edge es) = length-map (filter is_edge es) (edge_of es) in
    record {
      few_nodes = subst (λ k. k ≤ 2048) (sym n) few.0;
      few_ports = subst (λ k. k ≤ 4096) (sym p) few.1;
      few_edges = subst (λ k. k ≤ 2048) (sym e) few.2;
      tree = sound_tree es r;
      levels = sound_levels es a r;
      nodes = λ k hi. each_node es k a hi;
      ports = sound_ports es a r;
      edges = λ k hi. sound_edge es k a r hi;
    }

-- the document of a value that no rule refuses is sound
pub sound_document : (d : Data) → refused d ≡ None → IsSound (doc_of (elements d))
sound_document d h = sound_elements (elements d) (accepted d h) (tree_accepted d h)
