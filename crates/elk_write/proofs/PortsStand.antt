-- No port of an answer is out of range or inside its node.
use Rattle.std.proofs.Common.{◌≡◌, ℕ, ◌<◌, ◌^◌, inl, inr, List, length, filter, Bool, true, false, not, ◌&&◌, ◌||◌, if◌then◌else◌, refl, sym, ap, ◌∙◌, subst, Option, Some, None, arith}
use Rattle.std.specs.Prelude.{codes, is_some, slice_get, pos, neg_ℤ, ◌+ℤ◌, int_lt, IsSome, IfSome, ◌==◌}
use Rattle.std.specs.Option.{option_map_or}
use Rattle.std.proofs.lemmas.Option.{same_Some}
use Rattle.std.proofs.lemmas.Bool.{cases_Bool, and_from, or_right}
use Rattle.serde_json.specs.Data.{Data}
use Rattle.serde_json.specs.Find.{get}
use Rattle.drawing_types.specs.declared.shape.Point.{Point}
use Rattle.drawing_types.specs.declared.shape.Size.{Size}
use Rattle.drawing_types.specs.declared.shape.Side.{Side}
use Rattle.drawing_types.specs.declared.shape.Side.TheVariants as side
use Rattle.elk_doc.specs.declared.document.Node.{Node}
use Rattle.elk_doc.specs.declared.document.Port.{Port as DocPort}
use Rattle.elk_doc.specs.declared.document.Direction.{Direction}
use Rattle.elk_doc.specs.declared.document.PortRule.{PortRule}
use Rattle.elk_doc.specs.declared.document.PortRule.TheVariants as rule
use Rattle.elk_doc.specs.declared.drawing.Placed.{Placed}
use Rattle.elk_doc.specs.Document.{Document, node_at, port_at, node_of_port}
use Rattle.drawing_types.specs.Shapes.{origin}
use Rattle.elk_doc.specs.Drawing.{port_place}
use Rattle.elk_doc.specs.Sides.{side_from, side_or, side_of_port}
use Rattle.elk_doc.specs.Sound.{IsSound, along}
use Rattle.drawing_types.specs.Ranges.{IsWithin}
use Rattle.elk_doc.specs.PortsKept.{pins, is_pinned}
use Rattle.elk_doc.specs.Drawn.{Drawn}
use Rattle.elk_options.specs.declared.options.Options.{Options}
use Rattle.elk_options.specs.Names.{or_empty}
use Rattle.elk_options.specs.Reading.{first_bad, options_of}
use Rattle.elk_json.specs.Elements.{Element}
use Rattle.elk_json.specs.Members.{kind_is_port, is_port, is_at_compound, has_children, whole_at, node_role, options_data, options_at, has_bad_option, holder_role, holder_options, holder_has_bad_option}
use Rattle.elk_json.specs.Shape.{has_bad_shape}
use Rattle.elk_json.specs.Ranges.{is_near, is_far, has_good_place, has_good_pin, is_fixed_pos, is_at_fixed_pos, along as along_data}
use Rattle.elk_json.specs.Rules.{has_face_inside, lies_inside, is_side_inside, is_placed_inside, is_port_inside}
use Rattle.elk_json.specs.Document.{size_of, place_of}
use Rattle.elk_json.proofs.Places.{number}
use Rattle.elk_json.proofs.Tree.{IsRooted, IsPlaced}
use Rattle.elk_json.proofs.Accepted.{doc_of}
use Rattle.elk_json.proofs.NodeLaws.{compound_level}
use Rattle.elk_write.specs.Written.{AllFrom, IsPortWritten}
use Rattle.elk_write.proofs.Alike.{Alike, AllAlike}
use Rattle.elk_write.proofs.SameDocument.{same_options, same_size, number_alike, port_leaf}
use Rattle.elk_write.proofs.SameRules.{same_bad}
use Rattle.elk_write.proofs.GoodShape.{AllShaped, mate_at}
use Rattle.elk_write.proofs.Redrawn.{port_kept, pinned_place, pinned_leaf}
use Rattle.elk_write.proofs.Near.{leaf_near}
use Rattle.elk_write.proofs.InRange.{near_is, far_is, whole_back, StandsAt, port_stands, port_placed, port_in, port_is, node_is, compound_is, leaf_is, fixed_is}
use Rattle.drawing_types.proofs.SameShapes.{same_point}

asked_side : (r : PortRule) (o : Option Side) (leaf : Bool) (x : Option Side) (b : Bool) (frame : Direction) (t : Side) → r ≡ rule.FixedPos → o ≡ Some t → side_or (side_from r o leaf x) b frame ≡ t
asked_side r o leaf x b frame t e f = rw (e, f) refl

asked_pinned : (r : PortRule) (o : Option Side) (leaf : Bool) (t : Side) → r ≡ rule.FixedPos → o ≡ Some t → pins r leaf (is_some o) ≡ true
asked_pinned r o leaf t e f = rw (e, f) (or_right leaf true refl)

some_of : {X : Type 0} (o : Option X) (x : X) → o ≡ Some x → IsSome o
some_of o x h = rw h refl

along_stands : (t : Side) (v : Data) (at : Point) → StandsAt v at → along_data t v ≡ along t at
along_stands side.North v at h = whole_back (codes "x") v at.x h.x
along_stands side.South v at h = whole_back (codes "x") v at.x h.x
along_stands t v at h = whole_back (codes "y") v at.y h.y

inside_by : (p c x : Bool) → (c ≡ false → x ≡ false) → (p && (not c && x)) ≡ false
inside_by true true x h = refl
inside_by true false x h = h refl
inside_by false c x h = refl

inside_parts : (p c x : Bool) → p ≡ true → c ≡ false → (p && (not c && x)) ≡ false → x ≡ false
inside_parts p c x e f h = let g : (true && (not false && x)) ≡ false = subst (λ b. (b && (not false && x)) ≡ false) e (subst (λ b. (p && (not b && x)) ≡ false) f h) in g

face_same : (t : Side) (n m v w : Data) → size_of m ≡ size_of n → size_of w ≡ size_of v → place_of w ≡ place_of v → has_face_inside t m w ≡ has_face_inside t n v
unfolding has_face_inside
face_same side.West n m v w a b c = ap (λ (q : Point). int_lt (pos 0) q.x) c
face_same side.North n m v w a b c = ap (λ (q : Point). int_lt (pos 0) q.y) c
face_same side.East n m v w a b c =
    ap (λ (q : Point). int_lt (q.x +ℤ whole_at (codes "width") w) (whole_at (codes "width") m)) c
    ∙ ap (λ (z : Size). int_lt (whole_at (codes "x") v +ℤ z.width) (whole_at (codes "width") m)) b
    ∙ ap (λ (z : Size). int_lt (whole_at (codes "x") v +ℤ whole_at (codes "width") v) z.width) a
face_same side.South n m v w a b c =
    ap (λ (q : Point). int_lt (q.y +ℤ whole_at (codes "height") w) (whole_at (codes "height") m)) c
    ∙ ap (λ (z : Size). int_lt (whole_at (codes "y") v +ℤ z.height) (whole_at (codes "height") m)) b
    ∙ ap (λ (z : Size). int_lt (whole_at (codes "y") v +ℤ whole_at (codes "height") v) z.height) a

lies_same : (n m v w : Data) → size_of m ≡ size_of n → size_of w ≡ size_of v → place_of w ≡ place_of v → lies_inside m w ≡ lies_inside n v
unfolding lies_inside
lies_same n m v w a b c =
    ap (λ x. x && has_face_inside side.East m w && has_face_inside side.North m w && has_face_inside side.South m w) (face_same side.West n m v w a b c)
    ∙ ap (λ x. has_face_inside side.West n v && x && has_face_inside side.North m w && has_face_inside side.South m w) (face_same side.East n m v w a b c)
    ∙ ap (λ x. has_face_inside side.West n v && has_face_inside side.East n v && x && has_face_inside side.South m w) (face_same side.North n m v w a b c)
    ∙ ap (λ x. has_face_inside side.West n v && has_face_inside side.East n v && has_face_inside side.North n v && x) (face_same side.South n m v w a b c)

side_inside : (o : Option Side) (n m v w : Data) → size_of m ≡ size_of n → size_of w ≡ size_of v → place_of w ≡ place_of v
    → option_map_or (λ t. has_face_inside t m w) o (lies_inside m w) ≡ option_map_or (λ t. has_face_inside t n v) o (lies_inside n v)
side_inside None n m v w a b c = lies_same n m v w a b c
side_inside (Some t) n m v w a b c = face_same t n m v w a b c

module _ (es fs : List Element) (h : AllAlike es fs) (shaped : AllShaped es fs) (good : has_bad_shape es ≡ false) (r : IsRooted es) (s : IsRooted fs)
    (i : ℕ) (e f : Element) (a : Alike e f) (at : slice_get es i ≡ Some e) (there : slice_get fs i ≡ Some f) (is : is_port e ≡ true) where
  port_too : is_port f ≡ true
  port_too = ap kind_is_port a.kind ∙ is

  abbrev mine : IsPlaced es 0 i e
  mine = port_placed es r i e at is

  abbrev yours : IsPlaced fs 0 i f
  yours = port_placed fs s i f there port_too

  same_owner : yours.owner_place ≡ mine.owner_place
  same_owner = same_Some yours.owner_place mine.owner_place (sym yours.owned ∙ a.owner ∙ mine.owned)

  keepers : Alike mine.keeper yours.keeper
  keepers =
      let m = mate_at es fs h shaped good yours.owner_place yours.keeper yours.kept in
      subst (λ x. Alike x yours.keeper) (same_Some m.mate mine.keeper (sym m.at ∙ ap (slice_get es) same_owner ∙ mine.kept)) m.alike

  children_same : has_children f.holder ≡ has_children e.holder
  children_same = ap has_children (sym yours.same) ∙ keepers.children mine.keeper_is ∙ ap has_children mine.same

  at_compound : is_at_compound f ≡ is_at_compound e
  at_compound = ap (λ o. option_map_or (λ i. i == 0) o false || has_children f.holder) a.owner ∙ ap (λ b. option_map_or (λ i. i == 0) e.owner false || b) children_same

  holder_gets : get (codes "layoutOptions") f.holder ≡ get (codes "layoutOptions") e.holder
  holder_gets = ap (get (codes "layoutOptions")) (sym yours.same) ∙ keepers.options ∙ ap (get (codes "layoutOptions")) mine.same

  holder_options_same : holder_options f ≡ holder_options e
  holder_options_same = ap (λ b. options_of (node_role b) (options_data f.holder)) at_compound ∙ ap (λ o. options_of (holder_role e) (or_empty o)) holder_gets

  holder_bad_same : holder_has_bad_option f ≡ holder_has_bad_option e
  holder_bad_same = ap (λ b. is_some (first_bad (node_role b) (options_data f.holder))) at_compound ∙ ap (λ o. is_some (first_bad (holder_role e) (or_empty o))) holder_gets

  fixed_same : is_at_fixed_pos f ≡ is_at_fixed_pos e
  fixed_same =
      ap (λ b. not b && not (has_bad_option f) && is_fixed_pos (holder_options f).rule) holder_bad_same
      ∙ ap (λ b. not (holder_has_bad_option e) && not b && is_fixed_pos (holder_options f).rule) (same_bad es fs h e f a)
      ∙ ap (λ (o : Options). not (holder_has_bad_option e) && not (has_bad_option e) && is_fixed_pos o.rule) holder_options_same

  side_same : (options_at f).side ≡ (options_at e).side
  side_same = ap (λ (o : Options). o.side) (same_options e f a)

  holder_size : is_at_compound e ≡ false → size_of f.holder ≡ size_of e.holder
  holder_size leaf =
      ap size_of (sym yours.same) ∙ same_size mine.keeper yours.keeper keepers (compound_is es r i e at is ∙ leaf) ∙ ap size_of mine.same

  own_size : size_of f.value ≡ size_of e.value
  own_size = same_size e f a (port_leaf e is)

  abbrev d : Document
  d = doc_of es

  abbrev k : ℕ
  k = number is_port es i

  module _ (p : Placed) (sound : IsSound (doc_of es)) (drawn : Drawn (doc_of es) p) (written : AllFrom (IsPortWritten p) 0 (filter is_port fs)) where
    pub stands : StandsAt f.value (port_place p k)
    stands = subst (λ n. StandsAt f.value (port_place p n)) (number_alike kind_is_port es fs h i) (port_stands p fs i f written there port_too)

    x_is : whole_at (codes "x") f.value ≡ (port_place p k).x
    x_is = whole_back (codes "x") f.value (port_place p k).x stands.x

    y_is : whole_at (codes "y") f.value ≡ (port_place p k).y
    y_is = whole_back (codes "y") f.value (port_place p k).y stands.y

    inside : k < length d.ports
    inside = port_in es r i e at is

    -- ---- rule 4

    asked_near : (t : Side) → (options_at e).side ≡ Some t → is_at_compound e ≡ true → is_at_fixed_pos e ≡ true → is_near (along_data t f.value) ≡ true
    asked_near t asked compound fixed =
        let m = node_of_port d k in
        let rule = fixed_is es r i e at is fixed in
        let own : (port_at d k).side ≡ Some t = ap (λ (q : DocPort). q.side) (port_is es r i e at is) ∙ asked in
        let lies : side_of_port d p k ≡ t = asked_side _ _ _ _ _ _ t rule own in
        let pinned : is_pinned d k ≡ true = asked_pinned _ _ _ t rule own in
        let level : IsSome (node_at d m).level = some_of _ _ (ap (λ (n : Node). n.level) (node_is es r i e at is) ∙ compound_level mine.keeper mine.keeper_is (compound_is es r i e at is ∙ compound)) in
        let kept : along t (port_place p k) ≡ along t (port_at d k).place = subst (λ u. along u (port_place p k) ≡ along u (port_at d k).place) lies ((port_kept d p sound drawn k inside).along_kept pinned) in
        let given : IsWithin (neg_ℤ (pos (2 ^ 20))) (pos (2 ^ 20)) (along t (port_at d k).place) =
        subst (λ o. IfSome o (λ u. IsWithin (neg_ℤ (pos (2 ^ 20))) (pos (2 ^ 20)) (along u (port_at d k).place))) own ((sound.ports.each k inside).pinned level rule) in
        ap is_near (along_stands t f.value (port_place p k) stands ∙ kept) ∙ near_is _ given

    pin_by : (o : Option Side) → (options_at e).side ≡ o → is_at_compound e ≡ true → is_at_fixed_pos e ≡ true → option_map_or (λ t. is_near (along_data t f.value)) o true ≡ true
    pin_by None asked compound fixed = refl
    pin_by (Some t) asked compound fixed = asked_near t asked compound fixed

    good_pin : is_at_compound e ≡ true → has_good_pin f ≡ true
    unfolding has_good_pin
    good_pin compound =
        elim (cases_Bool (is_at_fixed_pos e)) [
          | inl fixed ↦ or_right (not (is_at_fixed_pos f)) (option_map_or (λ t. is_near (along_data t f.value)) (options_at f).side true)
              (ap (λ o. option_map_or (λ t. is_near (along_data t f.value)) o true) side_same ∙ pin_by (options_at e).side refl compound fixed)
          | inr free ↦ ap (λ b. not b || option_map_or (λ t. is_near (along_data t f.value)) (options_at f).side true) (fixed_same ∙ free)
        ]

    pub good_place : has_good_place f ≡ true
    unfolding has_good_place
    good_place =
        elim (cases_Bool (is_at_compound e)) [
          | inl compound ↦ (
              let near = drawn.fits.range.ports k origin (let c = drawn.fits.counts.ports in let l = inside in omega arith) in
              ap (λ b. if b then is_far (whole_at (codes "x") f.value) && is_far (whole_at (codes "y") f.value) && has_good_pin f else is_near (whole_at (codes "x") f.value) && is_near (whole_at (codes "y") f.value)) (at_compound ∙ compound)
              ∙ and_from _ _ (and_from _ _ (ap is_far x_is ∙ far_is _ near.x) (ap is_far y_is ∙ far_is _ near.y)) (good_pin compound))
          | inr leaf ↦ (
              let near = leaf_near d p k sound drawn inside (leaf_is es r i e at is leaf) in
              ap (λ b. if b then is_far (whole_at (codes "x") f.value) && is_far (whole_at (codes "y") f.value) && has_good_pin f else is_near (whole_at (codes "x") f.value) && is_near (whole_at (codes "y") f.value)) (at_compound ∙ leaf)
              ∙ and_from _ _ (ap is_near x_is ∙ near_is _ near.x) (ap is_near y_is ∙ near_is _ near.y))
        ]

    -- ---- rule 12

    same_place : is_at_compound e ≡ false → is_at_fixed_pos e ≡ true → place_of f.value ≡ place_of e.value
    same_place leaf fixed =
        let rule = fixed_is es r i e at is fixed in
        let own = leaf_is es r i e at is leaf in
        let pinned : is_pinned d k ≡ true = pinned_leaf _ _ _ rule own in
        same_point (place_of f.value) (port_place p k) x_is y_is
        ∙ pinned_place d p k (port_kept d p sound drawn k inside) pinned own
        ∙ ap (λ (q : DocPort). q.place) (port_is es r i e at is)

    fixed_outside : is_placed_inside e ≡ false → is_at_compound e ≡ false → is_placed_inside f ≡ false
    fixed_outside out leaf =
        elim (cases_Bool (is_at_fixed_pos e)) [
          | inl fixed ↦
              ap (λ b. b && is_side_inside (options_at f).side f) fixed_same
              ∙ ap (λ o. is_at_fixed_pos e && option_map_or (λ t. has_face_inside t f.holder f.value) o (lies_inside f.holder f.value)) side_same
              ∙ ap (λ b. is_at_fixed_pos e && b) (side_inside (options_at e).side e.holder f.holder e.value f.value (holder_size leaf) own_size (same_place leaf fixed))
              ∙ out
          | inr free ↦ ap (λ b. b && is_side_inside (options_at f).side f) (fixed_same ∙ free)
        ]

    pub not_inside : is_port_inside e ≡ false → is_port_inside f ≡ false
    unfolding is_port_inside
    not_inside out =
        inside_by (is_port f) (is_at_compound f) (is_placed_inside f)
        (λ leaf. let own : is_at_compound e ≡ false = sym at_compound ∙ leaf in fixed_outside (inside_parts (is_port e) (is_at_compound e) (is_placed_inside e) is own out) own)
