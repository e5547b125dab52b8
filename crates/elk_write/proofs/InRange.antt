-- The ports of an answer stand where the drawing has them: in range, as rule 4 asks, and not inside a leaf with fixed
-- positions, as rule 12 asks.
use Rattle.std.proofs.Common.{◌≡◌, ℕ, zero, suc, ◌<◌, ◌^◌, List, length, filter, Bool, true, false, not, ◌&&◌, ◌||◌, refl, sym, ap, ◌∙◌, subst, Option, Some, None, option_map, ne_eqb, arith}
use Rattle.std.specs.Prelude.{codes, is_some, is_none, option_and_then, slice_get, unwrap_or, ℤ, pos, negsuc, neg_ℤ, ◌==◌}
use Rattle.std.specs.Option.{option_map_or}
use Rattle.std.proofs.lemmas.Option.{same_Some, get_or_from_slice_get}
use Rattle.std.proofs.lemmas.List.{length-map}
use Rattle.std.proofs.lemmas.Bool.{and_from}
use Rattle.serde_json.specs.Data.{Data}
use Rattle.serde_json.specs.Find.{get, as_number, as_integer}
use Rattle.drawing_types.specs.declared.shape.Point.{Point}
use Rattle.elk_doc.specs.declared.document.Node.{Node}
use Rattle.elk_doc.specs.declared.document.Port.{Port as DocPort}
use Rattle.elk_doc.specs.declared.document.PortRule.{PortRule}
use Rattle.elk_doc.specs.declared.document.PortRule.TheVariants as rule
use Rattle.elk_doc.specs.declared.drawing.Placed.{Placed}
use Rattle.elk_doc.specs.Document.{Document, node_at, port_at, node_of_port, no_port}
use Rattle.drawing_types.specs.Shapes.{origin}
use Rattle.elk_doc.specs.Drawing.{port_place}
use Rattle.elk_doc.specs.Sides.{is_leaf}
use Rattle.drawing_types.specs.Ranges.{IsWithin}
use Rattle.elk_options.specs.declared.options.Options.{Options}
use Rattle.elk_options.specs.Reading.{options_of}
use Rattle.elk_json.specs.Elements.{Element}
use Rattle.elk_json.specs.Members.{is_node, is_port, is_compound, is_at_compound, has_children, whole_at, node_role, options_data, options_at, has_bad_option, holder_role, holder_options, holder_has_bad_option}
use Rattle.elk_json.specs.Ranges.{is_near, is_far, is_fixed_pos, is_at_fixed_pos}
use Rattle.elk_json.specs.Document.{number_at, node_of, port_of, ports_of}
use Rattle.elk_json.proofs.Places.{number, at_number}
use Rattle.elk_json.proofs.Tree.{IsRooted, IsPlaced}
use Rattle.elk_json.proofs.Accepted.{doc_of, value_at, number_within, node_value}
use Rattle.elk_json.proofs.NodeLaws.{leaf_level}
use Rattle.elk_write.specs.Values.{whole}
use Rattle.elk_write.specs.Written.{Has, IfThere, AllFrom, IsPortWritten}
use Rattle.elk_write.proofs.Again.{from_zero_at}
use Rattle.elk_json.proofs.Soundness.{port_no_node}
use Rattle.elk_write.proofs.Known.{true_by}

-- ---- numbers in range

pub near_is : (z : ℤ) → IsWithin (neg_ℤ (pos (2 ^ 20))) (pos (2 ^ 20)) z → is_near z ≡ true
unfolding is_near
near_is z h = and_from _ _ (true_by _ h.above.le) (true_by _ h.below.le)

pub far_is : (z : ℤ) → IsWithin (neg_ℤ (pos (2 ^ 53))) (pos (2 ^ 53)) z → is_far z ≡ true
unfolding is_far
far_is z h = and_from _ _ (true_by _ h.above.le) (true_by _ h.below.le)

-- ---- a written place

pub whole_back : (q : List ℕ) (d : Data) (z : ℤ) → get q d ≡ Some (whole z) → whole_at q d ≡ z
whole_back q d (pos n) h = ap (λ o. unwrap_or (option_and_then as_integer (option_and_then as_number o)) (pos 0)) h
whole_back q d (negsuc n) h = ap (λ o. unwrap_or (option_and_then as_integer (option_and_then as_number o)) (pos 0)) h

-- x and y are written, with the values of a point
pub record StandsAt (d : Data) (at : Point) : Type 0 where
  pub x : get (codes "x") d ≡ Some (whole at.x)
  pub y : get (codes "y") d ≡ Some (whole at.y)

there_by : (p : Placed) (k : ℕ) (d : Data) (o : Option Point) → slice_get p.ports k ≡ o → IfThere o (λ at. Has d (codes "x") (whole at.x) × Has d (codes "y") (whole at.y)) → StandsAt d (port_place p k)
there_by p k d None is h = absurd h
there_by p k d (Some at) is h =
    let same : port_place p k ≡ at = get_or_from_slice_get p.ports k at origin is in
    subst (StandsAt d) (sym same) (record { x = h.0; y = h.1 })

pub port_stands : (p : Placed) (fs : List Element) (i : ℕ) (f : Element) → AllFrom (IsPortWritten p) 0 (filter is_port fs) → slice_get fs i ≡ Some f → is_port f ≡ true → StandsAt f.value (port_place p (number is_port fs i))
port_stands p fs i f written at is =
    there_by p (number is_port fs i) f.value (slice_get p.ports (number is_port fs i)) refl
    (from_zero_at (IsPortWritten p) (filter is_port fs) written (number is_port fs i) f (at_number is_port fs i f at is))

-- ---- an element and the node at which it stands

-- a port is not the first element
past_root : (es : List Element) (r : IsRooted es) (i : ℕ) (e : Element) → slice_get es i ≡ Some e → is_port e ≡ true → 0 < i
past_root es r zero e at is =
    let same : r.root ≡ e = same_Some r.root e (sym r.first ∙ at) in
    let node : is_node e ≡ true = subst (λ x. is_node x ≡ true) same r.root_is in
    let bad : true ≡ false = sym node ∙ port_no_node e.kind is in absurd (cc)
past_root es r (suc i) e at is = omega arith

pub port_placed : (es : List Element) (r : IsRooted es) (i : ℕ) (e : Element) → slice_get es i ≡ Some e → is_port e ≡ true → IsPlaced es 0 i e
port_placed es r i e at is = r.placed i e (past_root es r i e at is) at

compound_of : (n s : Bool) (c : Bool) → n ≡ true → (n && (not s || c)) ≡ (not s || c)
compound_of true s c h = refl
compound_of false s c h = absurd (cc)

-- the keeper of a port is compound where the port stands at a compound node
keeper_compound : (es : List Element) (r : IsRooted es) (q : ℕ) (keeper : Element) → slice_get es q ≡ Some keeper → is_node keeper ≡ true → is_compound keeper ≡ ((q == 0) || has_children keeper.value)
keeper_compound es r zero keeper at is =
    let root : r.root ≡ keeper = same_Some r.root keeper (sym r.first ∙ at) in
    compound_of (is_node keeper) (is_some keeper.owner) (has_children keeper.value) is
    ∙ ap (λ o. not (is_some o) || has_children keeper.value) (subst (λ x. x.owner ≡ None) root r.alone)
keeper_compound es r (suc q) keeper at is =
    let placed = r.placed (suc q) keeper (omega arith) at in
    compound_of (is_node keeper) (is_some keeper.owner) (has_children keeper.value) is
    ∙ ap (λ o. not (is_some o) || has_children keeper.value) placed.owned
    ∙ ap (λ b. b || has_children keeper.value) (sym (ne_eqb (suc q) 0 (λ (z : suc q ≡ 0). omega arith)))

fixed_rule : (r : PortRule) → is_fixed_pos r ≡ true → r ≡ rule.FixedPos
fixed_rule rule.FixedPos h = refl
fixed_rule r h = absurd (cc)

three_parts : (a b c : Bool) → (not a && not b && c) ≡ true → c ≡ true
three_parts true b c h = absurd (cc)
three_parts false true c h = absurd (cc)
three_parts false false c h = h

is_none_of : {X : Type 0} (o : Option X) → o ≡ None → is_none o ≡ true
is_none_of o h = rw h refl

-- ---- one port of the value: its number, and what the document says of its node

module _ (es : List Element) (r : IsRooted es) (i : ℕ) (e : Element) (at : slice_get es i ≡ Some e) (is : is_port e ≡ true) where
  abbrev pub d : Document
  d = doc_of es

  abbrev pub k : ℕ
  k = number is_port es i

  abbrev pub placed : IsPlaced es 0 i e
  placed = port_placed es r i e at is

  pub port_in : k < length (ports_of es)
  port_in = subst (λ n. k < n) (sym (length-map (filter is_port es) (port_of es))) (number_within is_port es i e at is)

  pub port_is : port_at d k ≡ port_of es e
  port_is = value_at is_port (port_of es) es i e no_port at is

  pub node_is : node_at d (node_of_port d k) ≡ node_of es placed.keeper
  node_is =
      ap (λ (q : DocPort). node_at d q.node) port_is
      ∙ ap (λ o. node_at d (unwrap_or o 0)) (ap (option_map (number_at is_node es)) placed.owned)
      ∙ node_value es placed.owner_place placed.keeper placed.kept placed.keeper_is

  pub compound_is : is_compound placed.keeper ≡ is_at_compound e
  compound_is =
      keeper_compound es r placed.owner_place placed.keeper placed.kept placed.keeper_is
      ∙ ap (λ v. (placed.owner_place == 0) || has_children v) placed.same
      ∙ ap (λ o. option_map_or (λ i. i == 0) o false || has_children e.holder) (sym placed.owned)

  rule_is : (node_at d (node_of_port d k)).rule ≡ (holder_options e).rule
  rule_is =
      ap (λ (n : Node). n.rule) node_is
      ∙ ap (λ (o : Options). o.rule) (options_kept placed.keeper e placed.keeper_is compound_is placed.same)
    where
      options_kept : (keeper e : Element) → is_node keeper ≡ true → is_compound keeper ≡ is_at_compound e → keeper.value ≡ e.holder → options_at keeper ≡ holder_options e
      options_kept keeper e node compound same =
          role_by (is_node keeper) node ∙ ap (λ b. options_of (node_role b) (options_data keeper.value)) compound ∙ ap (λ v. options_of (holder_role e) (options_data v)) same
        where
          role_by : (b : Bool) → b ≡ true → options_at keeper ≡ options_of (node_role (is_compound keeper)) (options_data keeper.value)
          role_by b h = rw node refl

  pub leaf_is : is_at_compound e ≡ false → is_leaf d (node_of_port d k) ≡ true
  leaf_is leaf = is_none_of _ (ap (λ (n : Node). n.level) node_is ∙ leaf_level placed.keeper placed.keeper_is (compound_is ∙ leaf))

  pub fixed_is : is_at_fixed_pos e ≡ true → (node_at d (node_of_port d k)).rule ≡ rule.FixedPos
  fixed_is h = fixed_rule _ (ap is_fixed_pos rule_is ∙ three_parts (holder_has_bad_option e) (has_bad_option e) (is_fixed_pos (holder_options e).rule) h)
