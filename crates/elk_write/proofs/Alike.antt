-- The elements of an answer say the same as those of the value, but for the written members.
use Rattle.std.proofs.Common.{◌≡◌, ℕ, List, [], ◌∷◌, Bool, true, false, not, ◌&&◌, ◌||◌, bytes_eq, refl, sym, ap, ◌∙◌, subst, Option, Some, None, option_map}
use Rattle.std.proofs.lemmas.Bool.{or_parts}
use Rattle.std.specs.Prelude.{codes, is_some, slice_get, if◌then◌else◌}
use Rattle.serde_json.specs.Data.{Data, array, object, Members, no_members, member, put}
use Rattle.serde_json.specs.Find.{get, get_member}
use Rattle.serde_json.proofs.Views.{get_member-put_other}
use Rattle.drawing_types.specs.declared.shape.Point.{Point}
use Rattle.drawing_types.specs.declared.shape.Rect.{Rect}
use Rattle.elk_doc.specs.declared.document.Edge.{Edge as DocEdge}
use Rattle.drawing_types.specs.declared.section.Section.{Section}
use Rattle.elk_doc.specs.declared.drawing.Placed.{Placed}
use Rattle.elk_doc.specs.Document.{Document}
use Rattle.elk_json.specs.declared.elements.Kind.{Kind}
use Rattle.elk_json.specs.declared.elements.Kind.TheVariants.{Node, Port, Edge}
use Rattle.elk_json.specs.Elements.{Element, elements}
use Rattle.elk_json.specs.Members.{kind_is_node, kind_is_port, kind_is_edge, is_root, is_compound, has_children}
use Rattle.elk_json.specs.Shape.{is_good, is_good_node, is_good_port, is_good_edge, has_bad_shape}
use Rattle.elk_json.specs.Keyed.{IsKeyed, AreMembersKeyed}
use Rattle.elk_write.specs.declared.numbers.Numbers.{Numbers}
use Rattle.elk_write.specs.Keys.{is_node_key, is_flat_key}
use Rattle.elk_write.specs.Numbers.{from_zero, past_own}
use Rattle.elk_write.specs.Strip.{members_but}
use Rattle.elk_write.specs.Values.{whole, sections_data}
use Rattle.elk_write.specs.Answered.{kept_into, with_place, with_point, with_sections, with_node, answer_node, answer_member, port_answer, edge_answer}
use Rattle.elk_write.proofs.Puts.{sorted_keyed}
use Rattle.elk_write.proofs.Inherited.{Each, each_keyed}
use Rattle.elk_write.specs.Merged.{answered}
use Rattle.elk_write.proofs.Kept.{kept_sorted, answer_sorted}
use Rattle.elk_write.proofs.Shape.{found, get_node, get_here, get_later, equal_bytes}
use Rattle.elk_write.proofs.Pairs.{step_kind, Same, Pairs, Keeps, value_answer}
use Rattle.elk_write.proofs.Known.{not_false, node_object, port_object, edge_object}

-- ---- members that stay

-- the same member in both
abbrev pub Gets : List ℕ → Data → Data → Type 0
Gets q d w = get q w ≡ get q d

pub record Alike (e f : Element) : Type 0 where
  pub kind : f.kind ≡ e.kind
  pub owner : f.owner ≡ e.owner
  pub id : Gets (codes "id") e.value f.value
  pub options : Gets (codes "layoutOptions") e.value f.value
  pub children : kind_is_node e.kind ≡ true → has_children f.value ≡ has_children e.value
  pub width : is_compound e ≡ false → Gets (codes "width") e.value f.value
  pub height : is_compound e ≡ false → Gets (codes "height") e.value f.value
  pub ends : kind_is_edge e.kind ≡ true → (q : List ℕ) → is_flat_key true q ≡ false → Gets q e.value f.value

abbrev pub AllAlike : List Element → List Element → Type 0
AllAlike [] [] = Unit {0}
AllAlike (e ∷ es) (f ∷ fs) = Alike e f × AllAlike es fs
AllAlike es fs = ⊥

-- a member that is not removed is found
but_if : (b c : Bool) (gone : List ℕ → Bool) (q l : List ℕ) (d : Data) (ms : Members) → gone q ≡ false → gone l ≡ b → bytes_eq q l ≡ c
    → get_member q (members_but gone ms) ≡ get_member q ms → get_member q (members_but gone (member l d ms)) ≡ get_member q (member l d ms)
but_if true true gone q l d ms stays is same ih = let bad : true ≡ false = sym is ∙ ap gone (sym (equal_bytes q l same)) ∙ stays in absurd (cc)
but_if true false gone q l d ms stays is same ih = rw is (ih ∙ sym (get_later q l d ms same))
but_if false true gone q l d ms stays is same ih =
    rw is (subst (λ k. get_member q (member k d (members_but gone ms)) ≡ get_member q (member k d ms)) (equal_bytes q l same) (get_here q d (members_but gone ms) ∙ sym (get_here q d ms)))
but_if false false gone q l d ms stays is same ih = rw is (get_later q l d (members_but gone ms) same ∙ ih ∙ sym (get_later q l d ms same))

but_found : (gone : List ℕ → Bool) (q : List ℕ) (ms : Members) → gone q ≡ false → get_member q (members_but gone ms) ≡ get_member q ms
but_found gone q no_members stays = refl
but_found gone q (member l d ms) stays = but_if (gone l) (bytes_eq q l) gone q l d ms stays refl refl (but_found gone q ms stays)

point_found : (q : List ℕ) (at : Option Point) (ms : Members) → is_flat_key false q ≡ false → get_member q (with_point at ms) ≡ get_member q ms
point_found q None ms h = refl
point_found q (Some at) ms h =
    get_member-put_other q (codes "y") (whole at.y) (put (codes "x") (whole at.x) ms) (λ e. let bad : true ≡ false = sym (ap (is_flat_key false) e) ∙ h in absurd (cc))
    ∙ get_member-put_other q (codes "x") (whole at.x) ms (λ e. let bad : true ≡ false = sym (ap (is_flat_key false) e) ∙ h in absurd (cc))

sections_found : (q : List ℕ) (e : Option DocEdge) (s : Option Section) (ms : Members) → is_flat_key true q ≡ false → get_member q (with_sections e s ms) ≡ get_member q ms
sections_found q None s ms h = refl
sections_found q (Some e) None ms h = refl
sections_found q (Some e) (Some s) ms h = get_member-put_other q (codes "sections") (sections_data e.id s) ms (λ g. let bad : true ≡ false = sym (ap (is_flat_key true) g) ∙ h in absurd (cc))

place_found : (q : List ℕ) (box : Option Rect) (ms : Members) → is_flat_key false q ≡ false → get_member q (with_place box ms) ≡ get_member q ms
place_found q None ms h = refl
place_found q (Some box) ms h =
    get_member-put_other q (codes "y") (whole box.y) (put (codes "x") (whole box.x) ms) (λ e. let bad : true ≡ false = sym (ap (is_flat_key false) e) ∙ h in absurd (cc))
    ∙ get_member-put_other q (codes "x") (whole box.x) ms (λ e. let bad : true ≡ false = sym (ap (is_flat_key false) e) ∙ h in absurd (cc))

same_map : (f : Data → Data) (o : Option Data) → ((d : Data) → f d ≡ d) → option_map f o ≡ o
same_map f None h = refl
same_map f (Some d) h = ap (λ x. Some x) (h d)

-- an answered member of another key is as it was
other_member : (doc : Document) (p : Placed) (at below : Numbers) (q : List ℕ) (d : Data) → bytes_eq q (codes "children") ≡ false → bytes_eq q (codes "ports") ≡ false → bytes_eq q (codes "edges") ≡ false
    → answer_member doc p at below q d ≡ d
other_member doc p at below q (array ds) c r e = rw (c, r, e) refl
other_member doc p at below q d c r e = refl

module _ (doc : Document) (p : Placed) (a : Numbers) (compound : Bool) (ms : Members) (below : Numbers) where
  answered_found : (q : List ℕ) → is_node_key compound q ≡ false → bytes_eq q (codes "children") ≡ false → bytes_eq q (codes "ports") ≡ false → bytes_eq q (codes "edges") ≡ false
      → get_member q (answered doc p a compound below ms) ≡ get_member q ms
  answered_found q stays c r e =
      found doc p a compound q stays (λ l g b away d. other_member doc p a _ q d c r e ∙ sym (other_member doc p a b q d c r e)) ms below
      ∙ same_map (answer_member doc p a below q) (get_member q ms) (λ d. other_member doc p a below q d c r e)

stays_id : (compound : Bool) → is_node_key compound (codes "id") ≡ false
stays_id true = refl
stays_id false = refl

stays_options : (compound : Bool) → is_node_key compound (codes "layoutOptions") ≡ false
stays_options true = refl
stays_options false = refl

not_edge : (k : Kind) → k ≡ Node → kind_is_edge k ≡ true → ⊥
not_edge Node e h = absurd (cc)
not_edge k e h = absurd (cc)

module _ (doc : Document) (p : Placed) (a : Numbers) (e f : Element) (same : Same doc p a e f) (keyed : IsKeyed e.value) (ms : Members) (is : e.value ≡ object ms) where
  keyed_members : AreMembersKeyed ms
  keyed_members = subst IsKeyed is keyed

  node_alike : e.kind ≡ Node → Alike e f
  node_alike kind =
      let root = not (is_some e.owner) in
      let d = object ms in
      let compound = root || has_children d in
      let below = past_own a d in
      let inner = answered doc p a compound below ms in
      let eq : f.value ≡ object (with_node compound doc p a.node inner) =
      same.2 ∙ ap (λ k. value_answer doc p k a root e.value) kind ∙ ap (answer_node doc p a root) is
      ∙ ap (λ x. object (with_node compound doc p a.node x)) (answer_sorted doc p a compound ms below (sorted_keyed ms keyed_members)) in
      let was : is_compound e ≡ compound = ap (λ k. kind_is_node k && (root || has_children e.value)) kind ∙ ap (λ v. root || has_children v) is in
      let plain = λ (q : List ℕ) (written : is_node_key true q ≡ false) (stays : is_node_key compound q ≡ false) (c : bytes_eq q (codes "children") ≡ false) (r : bytes_eq q (codes "ports") ≡ false) (g : bytes_eq q (codes "edges") ≡ false).
      ap (get q) eq ∙ get_node q compound doc p a.node inner written ∙ answered_found doc p a compound ms below q stays c r g ∙ ap (get q) (sym is) in
      let sized = λ (q : List ℕ) (leaf : is_compound e ≡ false) (stays : is_node_key false q ≡ false) (flat : is_flat_key false q ≡ false) (c : bytes_eq q (codes "children") ≡ false) (r : bytes_eq q (codes "ports") ≡ false) (g : bytes_eq q (codes "edges") ≡ false).
      let no : compound ≡ false = sym was ∙ leaf in
      ap (get q) eq ∙ ap (λ b. get_member q (with_node b doc p a.node (answered doc p a b below ms))) no
      ∙ place_found q (slice_get p.boxes a.node) (answered doc p a false below ms) flat ∙ answered_found doc p a false ms below q stays c r g ∙ ap (get q) (sym is) in
      record {
        kind = same.0;
        owner = same.1;
        id = plain (codes "id") refl (stays_id compound) refl refl refl;
        options = plain (codes "layoutOptions") refl (stays_options compound) refl refl refl;
        children = λ t. subst (λ k. Keeps doc p k e.value f.value) kind same.3;
        width = λ leaf. sized (codes "width") leaf refl refl refl refl refl;
        height = λ leaf. sized (codes "height") leaf refl refl refl refl refl;
        ends = λ t. absurd (not_edge e.kind kind t);
      }

  flat_get : (edge : Bool) (q : List ℕ) → is_flat_key edge q ≡ false → get_member q (kept_into edge no_members ms) ≡ get_member q ms
  flat_get edge q stays = ap (get_member q) (kept_sorted edge ms (sorted_keyed ms keyed_members)) ∙ but_found (is_flat_key edge) q ms stays

  port_alike : e.kind ≡ Port → Alike e f
  port_alike kind =
      let root = not (is_some e.owner) in
      let at = slice_get p.ports a.port in
      let eq : f.value ≡ object (with_point at (kept_into false no_members ms)) =
      same.2 ∙ ap (λ k. value_answer doc p k a root e.value) kind ∙ ap (port_answer at) is in
      let plain = λ (q : List ℕ) (flat : is_flat_key false q ≡ false). ap (get q) eq ∙ point_found q at (kept_into false no_members ms) flat ∙ flat_get false q flat ∙ ap (get q) (sym is) in
      record {
        kind = same.0;
        owner = same.1;
        id = plain (codes "id") refl;
        options = plain (codes "layoutOptions") refl;
        children = λ t. let bad : false ≡ true = sym (ap kind_is_node kind) ∙ t in absurd (cc);
        width = λ leaf. plain (codes "width") refl;
        height = λ leaf. plain (codes "height") refl;
        ends = λ t. let bad : false ≡ true = sym (ap kind_is_edge kind) ∙ t in absurd (cc);
      }

  edge_alike : e.kind ≡ Edge → Alike e f
  edge_alike kind =
      let root = not (is_some e.owner) in
      let edge = slice_get doc.edges a.edge in
      let section = slice_get p.sections a.edge in
      let eq : f.value ≡ object (with_sections edge section (kept_into true no_members ms)) =
      same.2 ∙ ap (λ k. value_answer doc p k a root e.value) kind ∙ ap (edge_answer edge section) is in
      let plain = λ (q : List ℕ) (flat : is_flat_key true q ≡ false). ap (get q) eq ∙ sections_found q edge section (kept_into true no_members ms) flat ∙ flat_get true q flat ∙ ap (get q) (sym is) in
      record {
        kind = same.0;
        owner = same.1;
        id = plain (codes "id") refl;
        options = plain (codes "layoutOptions") refl;
        children = λ t. let bad : false ≡ true = sym (ap kind_is_node kind) ∙ t in absurd (cc);
        width = λ leaf. plain (codes "width") refl;
        height = λ leaf. plain (codes "height") refl;
        ends = λ t q flat. plain q flat;
      }

-- ---- all elements

pub good_as : (e : Element) (k : Kind) → e.kind ≡ k → is_good e ≡ true
    → (if kind_is_node k then is_good_node (is_root e) e.value else (if kind_is_port k then is_good_port e.value else is_good_edge e.value)) ≡ true
good_as e k is h = subst (λ k. (if kind_is_node k then is_good_node (is_root e) e.value else (if kind_is_port k then is_good_port e.value else is_good_edge e.value)) ≡ true) is h

alike_by : (doc : Document) (p : Placed) (a : Numbers) (e f : Element) (k : Kind) → e.kind ≡ k → Same doc p a e f → IsKeyed e.value → is_good e ≡ true → Alike e f
alike_by doc p a e f Node is same keyed good = let o = node_object (is_root e) e.value (good_as e Node is good) in node_alike doc p a e f same keyed o.0 o.1 is
alike_by doc p a e f Port is same keyed good = let o = port_object e.value (good_as e Port is good) in port_alike doc p a e f same keyed o.0 o.1 is
alike_by doc p a e f Edge is same keyed good = let o = edge_object e.value (good_as e Edge is good) in edge_alike doc p a e f same keyed o.0 o.1 is

all_alike : (doc : Document) (p : Placed) (a : Numbers) (es fs : List Element) → Pairs doc p a es fs → Each IsKeyed es → has_bad_shape es ≡ false → AllAlike es fs
all_alike doc p a [] [] h k g = tt
all_alike doc p a (e ∷ es) (f ∷ fs) h k g =
    let both = or_parts (not (is_good e)) (has_bad_shape es) g in
    (alike_by doc p a e f e.kind refl h.0 k.0 (not_false (is_good e) both.0), all_alike doc p (step_kind e.kind a) es fs h.1 k.1 both.1)
all_alike doc p a es fs h k g = absurd h

pub alike_whole : (doc : Document) (p : Placed) (v : Data) (fs : List Element) → IsKeyed v → has_bad_shape (elements v) ≡ false → Pairs doc p from_zero (elements v) fs → AllAlike (elements v) fs
alike_whole doc p v fs k g pairs = all_alike doc p from_zero (elements v) fs pairs (each_keyed v k) g
