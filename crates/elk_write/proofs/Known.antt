-- What is known of a value that no rule refuses, of its document, and of a drawing that fits it.
use Rattle.std.proofs.Common.{◌≡◌, ℕ, zero, suc, ◌+◌, ◌<◌, List, [], ◌∷◌, length, filter, Bool, true, false, not, cond, get_or, refl, sym, ap, ◌∙◌, subst, Option, Some, None, arith, T}
use Rattle.std.specs.Prelude.{if◌then◌else◌, IsSome, option_and_then, option_map}
use Rattle.std.specs.List.{list_any, slice_get}
use Rattle.std.specs.Option.{option_or}
use Rattle.std.proofs.lemmas.List.{length-map}
use Rattle.std.proofs.lemmas.Option.{slice_get_within, slice_get-get_or, slice_get-map, get_or_from_slice_get}
use Rattle.std.proofs.lemmas.Bool.{or_parts}
use Rattle.serde_json.specs.Data.{Data, object, Members}
use Rattle.elk_doc.specs.declared.document.LevelOptions.{LevelOptions}
use Rattle.elk_doc.specs.declared.drawing.Certificate.{Certificate}
use Rattle.elk_doc.specs.declared.drawing.Placed.{Placed}
use Rattle.elk_doc.specs.Document.{Document, node_at, no_node}
use Rattle.drawing_types.specs.Shapes.{origin}
use Rattle.elk_doc.specs.Drawing.{certificate_of, no_rect, no_section}
use Rattle.elk_doc.specs.Fits.{Fits, FitsLevel}
use Rattle.elk_options.specs.declared.options.Role.TheVariants as role
use Rattle.elk_options.specs.Reading.{options_of}
use Rattle.elk_json.specs.declared.fault.Rule.{Rule}
use Rattle.elk_json.specs.declared.fault.Rule.TheVariants as rules
use Rattle.elk_json.specs.declared.fault.Refusal.{Refusal}
use Rattle.elk_json.specs.Elements.{Element, elements}
use Rattle.elk_json.specs.Members.{kind_is_node, kind_is_port, is_node, is_port, is_edge, is_root, is_compound, node_role, options_at, options_data}
use Rattle.elk_json.specs.Whole.{all_whole}
use Rattle.elk_json.specs.Shape.{is_good, is_good_node, is_good_port, is_good_edge, has_bad_shape}
use Rattle.elk_json.specs.Rules.{refused, value_refusal, edge_refusal, option_refusal, if_so}
use Rattle.elk_json.specs.Document.{IsDocument, node_of, port_of, edge_of}
use Rattle.elk_write.specs.Written.{AllFrom}
use Rattle.elk_write.proofs.ReversedTokens.{all_from}
use Rattle.elk_write.proofs.Ready.{ReadyNode, ReadyPort, ReadyEdge, node_kind, port_kind, edge_kind}

-- ---- no rule refuses

pub or_left : (o r : Option Refusal) → option_or o r ≡ None → o ≡ None
or_left None r h = refl
or_left (Some x) r h = absurd (cc)

pub or_right : (o r : Option Refusal) → option_or o r ≡ None → r ≡ None
or_right None r h = h
or_right (Some x) r h = absurd (cc)

pub so_false : (rule : Rule) (b : Bool) → if_so rule b ≡ None → b ≡ false
so_false rule true h = absurd (cc)
so_false rule false h = refl

pub not_false : (b : Bool) → not b ≡ false → b ≡ true
not_false true h = refl
not_false false h = absurd (cc)

pub not_true : (b : Bool) → not b ≡ true → b ≡ false
not_true true h = absurd (cc)
not_true false h = refl

pub true_by : (b : Bool) → T b → b ≡ true
true_by true t = refl
true_by false t = absurd t

pub no_value_refusal : (d : Data) → refused d ≡ None → value_refusal d ≡ None
unfolding refused
no_value_refusal d h = or_left (value_refusal d) (option_or (edge_refusal (elements d)) (option_refusal (elements d))) h

pub whole_by : (d : Data) → refused d ≡ None → all_whole d ≡ true
unfolding value_refusal
whole_by d h = not_false (all_whole d) (so_false rules.NotWhole (not (all_whole d)) (or_left (if_so rules.NotWhole (not (all_whole d))) _ (no_value_refusal d h)))

pub shaped_by : (d : Data) → refused d ≡ None → has_bad_shape (elements d) ≡ false
unfolding value_refusal
shaped_by d h = so_false rules.BadShape (has_bad_shape (elements d)) (or_left (if_so rules.BadShape (has_bad_shape (elements d))) _ (or_right (if_so rules.NotWhole (not (all_whole d))) _ (no_value_refusal d h)))

-- ---- each element is an object

module _ (f test : Element → Bool) where
  abbrev Passes : List Element → ℕ → Element → Type 0
  Passes xs n x = slice_get (filter test xs) n ≡ Some x → (f x ≡ false) × (test x ≡ true)

  passes_head : (n : ℕ) (y x : Element) (ys : List Element) → f y ≡ false → test y ≡ true → ((n : ℕ) → Passes ys n x) → slice_get (y ∷ filter test ys) n ≡ Some x → (f x ≡ false) × (test x ≡ true)
  passes_head zero y x ys fy ty ih e = let same : y ≡ x = cc in subst (λ z. (f z ≡ false) × (test z ≡ true)) same (fy, ty)
  passes_head (suc n) y x ys fy ty ih e = ih n e

  passes_if : (b : Bool) (n : ℕ) (y x : Element) (ys : List Element) → test y ≡ b → f y ≡ false → ((n : ℕ) → Passes ys n x) → Passes (y ∷ ys) n x
  passes_if true n y x ys ty fy ih e = passes_head n y x ys fy ty ih (subst (λ b. slice_get (cond b (y ∷ filter test ys) (filter test ys)) n ≡ Some x) ty e)
  passes_if false n y x ys ty fy ih e = ih n (subst (λ b. slice_get (cond b (y ∷ filter test ys) (filter test ys)) n ≡ Some x) ty e)

  pub passes : (xs : List Element) (n : ℕ) (x : Element) → list_any f xs ≡ false → Passes xs n x
  passes [] n x h e = let bad : None ≡ Some x = e in absurd (cc)
  passes (y ∷ ys) n x h e = let both = or_parts (f y) (list_any f ys) h in passes_if (test y) n y x ys refl both.0 (λ m. passes ys m x both.1) e

pub node_object : (root : Bool) (d : Data) → is_good_node root d ≡ true → (ms : Members) × (d ≡ object ms)
node_object root (object ms) h = (ms, refl)
node_object root d h = absurd (cc)

pub port_object : (d : Data) → is_good_port d ≡ true → (ms : Members) × (d ≡ object ms)
port_object (object ms) h = (ms, refl)
port_object d h = absurd (cc)

pub edge_object : (d : Data) → is_good_edge d ≡ true → (ms : Members) × (d ≡ object ms)
edge_object (object ms) h = (ms, refl)
edge_object d h = absurd (cc)

-- ---- levels

level_of_compound : (x : Element) → is_node x ≡ true → is_compound x ≡ true → IsSome (options_at x).level
unfolding options_of
level_of_compound x node compound =
    subst (λ b. IsSome (options_of (if b then node_role (is_compound x) else (if is_port x then role.Port else role.Edge)) (options_data x.value)).level) (sym node)
    (subst (λ b. IsSome (options_of (node_role b) (options_data x.value)).level) (sym compound) refl)

certificate_there : (doc : Document) (n : ℕ) (o : Option LevelOptions) (c : Option Certificate) → IsSome o → FitsLevel doc n o c → (x : Certificate) × (c ≡ Some x)
certificate_there doc n None c s f = absurd (cc)
certificate_there doc n (Some o) None s f = absurd f
certificate_there doc n (Some o) (Some x) s f = (x, refl)

-- ---- each element of the value is ready

module _ (doc : Document) (p : Placed) (v : Data) (is : IsDocument doc v) (fits : Fits doc p) (shaped : has_bad_shape (elements v) ≡ false) where
  abbrev es : List Element
  es = elements v

  good : (test : Element → Bool) (n : ℕ) (x : Element) → slice_get (filter test es) n ≡ Some x → (is_good x ≡ true) × (test x ≡ true)
  good test n x e = let h = passes (λ e. not (is_good e)) test es n x shaped e in (not_false (is_good x) h.0, h.1)

  ready_node : (n : ℕ) (x : Element) → slice_get (filter is_node es) n ≡ Some x → ReadyNode p n x
  ready_node n x e =
      let xs = filter is_node es in
      let h = good is_node n x e in
      let kind = node_kind x.kind h.1 in
      let as_node : is_good x ≡ is_good_node (is_root x) x.value = ap (λ k. if kind_is_node k then is_good_node (is_root x) x.value else (if kind_is_port k then is_good_port x.value else is_good_edge x.value)) kind in
      let there = node_object (is_root x) x.value (sym as_node ∙ h.0) in
      let inside : n < length xs = slice_get_within xs n x e in
      let node_count : length doc.nodes ≡ length xs = ap length is.nodes_are ∙ length-map xs (node_of es) in
      let in_nodes : n < length doc.nodes = omega arith in
      let in_boxes : n < length p.boxes = let c = fits.counts.boxes in omega arith in
      let in_levels : n < length p.levels = let c = fits.counts.levels in omega arith in
      let here : slice_get doc.nodes n ≡ Some (node_of es x) = ap (λ ns. slice_get ns n) is.nodes_are ∙ slice_get-map (node_of es) xs n ∙ ap (option_map (node_of es)) e in
      let node : node_at doc n ≡ node_of es x = get_or_from_slice_get doc.nodes n (node_of es x) no_node here in
      record {
        members = there.0;
        object_is = there.1;
        box = get_or p.boxes n no_rect;
        box_is = slice_get-get_or p.boxes n no_rect in_boxes;
        levelled = λ t.
            let some : IsSome (node_at doc n).level = subst (λ m. IsSome m.level) (sym node) (level_of_compound x h.1 t) in
            let c = certificate_there doc n (node_at doc n).level (certificate_of p n) some (fits.certificates n in_nodes) in
            (c.0, ap (λ o. option_and_then (λ c. c) o) (slice_get-get_or p.levels n None in_levels) ∙ c.1);
      }

  ready_port : (n : ℕ) (x : Element) → slice_get (filter is_port es) n ≡ Some x → ReadyPort p n x
  ready_port n x e =
      let xs = filter is_port es in
      let h = good is_port n x e in
      let kind = port_kind x.kind h.1 in
      let as_port : is_good x ≡ is_good_port x.value = ap (λ k. if kind_is_node k then is_good_node (is_root x) x.value else (if kind_is_port k then is_good_port x.value else is_good_edge x.value)) kind in
      let there = port_object x.value (sym as_port ∙ h.0) in
      let inside : n < length xs = slice_get_within xs n x e in
      let port_count : length doc.ports ≡ length xs = ap length is.ports_are ∙ length-map xs (port_of es) in
      let in_ports : n < length p.ports = let c = fits.counts.ports in omega arith in
      record { members = there.0; object_is = there.1; place = get_or p.ports n origin; place_is = slice_get-get_or p.ports n origin in_ports }

  ready_edge : (n : ℕ) (x : Element) → slice_get (filter is_edge es) n ≡ Some x → ReadyEdge doc p n x
  ready_edge n x e =
      let xs = filter is_edge es in
      let h = good is_edge n x e in
      let kind = edge_kind x.kind h.1 in
      let as_edge : is_good x ≡ is_good_edge x.value = ap (λ k. if kind_is_node k then is_good_node (is_root x) x.value else (if kind_is_port k then is_good_port x.value else is_good_edge x.value)) kind in
      let there = edge_object x.value (sym as_edge ∙ h.0) in
      let inside : n < length xs = slice_get_within xs n x e in
      let edge_count : length doc.edges ≡ length xs = ap length is.edges_are ∙ length-map xs (edge_of es) in
      let in_sections : n < length p.sections = let c = fits.counts.sections in omega arith in
      record {
        members = there.0;
        object_is = there.1;
        edge = edge_of es x;
        edge_is = ap (λ ns. slice_get ns n) is.edges_are ∙ slice_get-map (edge_of es) xs n ∙ ap (option_map (edge_of es)) e;
        section = get_or p.sections n no_section;
        section_is = slice_get-get_or p.sections n no_section in_sections;
      }

  pub ready_nodes : AllFrom (ReadyNode p) 0 (filter is_node es)
  ready_nodes = all_from (ReadyNode p) (filter is_node es) 0 (λ i x e. let z : i ≡ 0 + i = omega arith in subst (λ n. ReadyNode p n x) z (ready_node i x e))

  pub ready_ports : AllFrom (ReadyPort p) 0 (filter is_port es)
  ready_ports = all_from (ReadyPort p) (filter is_port es) 0 (λ i x e. let z : i ≡ 0 + i = omega arith in subst (λ n. ReadyPort p n x) z (ready_port i x e))

  pub ready_edges : AllFrom (ReadyEdge doc p) 0 (filter is_edge es)
  ready_edges = all_from (ReadyEdge doc p) (filter is_edge es) 0 (λ i x e. let z : i ≡ 0 + i = omega arith in subst (λ n. ReadyEdge doc p n x) z (ready_edge i x e))
