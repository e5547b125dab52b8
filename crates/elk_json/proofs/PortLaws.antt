-- Ports that no rule refuses.
use Rattle.std.proofs.Common.{◌≡◌, List, inl, inr, ◌-◌, ◌^◌, ℤ, pos, neg_ℤ, ◌+ℤ◌, ◌≤ℤ◌, Bool, true, false, ◌&&◌, Option, Some, None, if◌then◌else◌, refl, ap, sym, subst, ◌∙◌, arith}
use Rattle.std.specs.Prelude.{codes, is_some, is_none, IsSome, IsNone, IfSome, IsSomeAnd, int_lt}
use Rattle.std.specs.Ordering.{int_eq}
use Rattle.std.specs.Option.{option_map_or}
use Rattle.std.proofs.lemmas.Bool.{and_parts, and_from, or_parts, not-false, not_from_false, true_from_ne_false, both_ways, cond-true, cases_Bool}
use Rattle.std.proofs.lemmas.Bool.Decides.{Decides-int_eq}
use Rattle.std.proofs.lemmas.Int.{ints}
use Rattle.serde_json.specs.Data.{Data}
use Rattle.drawing_types.specs.declared.shape.Point.{Point}
use Rattle.drawing_types.specs.declared.shape.Size.{Size}
use Rattle.drawing_types.specs.declared.shape.Side.{Side}
use Rattle.drawing_types.specs.declared.shape.Side.TheVariants as side
use Rattle.elk_doc.specs.declared.document.PortRule.TheVariants as rule
use Rattle.elk_doc.specs.Sides.{side_by_place, side_by_touch, side_from}
use Rattle.elk_doc.specs.Sound.{IsOutside, IsSoundPort, along}
use Rattle.drawing_types.specs.Ranges.{IsWithin, IsPlaceWithin}
use Rattle.elk_options.specs.declared.names.OptionName.TheVariants as name
use Rattle.elk_options.specs.declared.options.Role.TheVariants.{Port}
use Rattle.elk_options.specs.declared.options.Options.{Options}
use Rattle.elk_options.specs.Reading.{options_of, first_bad}
use Rattle.elk_options.proofs.OptionBounds.{sound_index}
use Rattle.elk_json.specs.Elements.{Element}
use Rattle.elk_json.specs.Members.{is_node, is_port, is_compound, is_at_compound, node_role, role_of, options_at, options_data, holder_options, holder_role, has_bad_option, holder_has_bad_option, whole_at}
use Rattle.elk_json.specs.Ranges.{is_near, is_far, has_good_size, has_good_place, has_good_pin, is_at_fixed_pos, is_fixed_pos, is_out_of_range, along as along_data}
use Rattle.elk_json.specs.Rules.{has_face_inside, lies_inside, is_side_inside, is_port_inside}
use Rattle.elk_json.specs.Document.{node_of, port_of, node_size, size_of, place_of}
use Rattle.elk_json.proofs.NodeLaws.{second, sound_size, near_within, far_within, leaf_level, compound_level, not_none, not_some}

-- ---- ranges

-- what is near is far
pub near_far : (z : ℤ) → IsWithin (neg_ℤ (pos (2 ^ 20))) (pos (2 ^ 20)) z → IsWithin (neg_ℤ (pos (2 ^ 53))) (pos (2 ^ 53)) z
near_far z h = record { above = omega (arith, ints); below = omega (arith, ints) }

pub good_parts : (e : Element) → is_node e ≡ false → is_port e ≡ true → is_out_of_range e ≡ false → (has_good_size e.value ≡ true) × (has_good_place e ≡ true)
unfolding is_out_of_range
good_parts e n p h = and_parts _ _ (not-false (has_good_size e.value && has_good_place e) (second _ _ p (or_parts _ _ h).1))

near_place : (e : Element) → is_at_compound e ≡ false → has_good_place e ≡ true → IsPlaceWithin (2 ^ 20) (place_of e.value)
unfolding has_good_place
near_place e c h =
    let p = and_parts (is_near (whole_at (codes "x") e.value)) (is_near (whole_at (codes "y") e.value)) (rw c at h) in
    record { x = near_within _ p.0; y = near_within _ p.1 }

far_parts : (e : Element) → is_at_compound e ≡ true → has_good_place e ≡ true → (is_far (whole_at (codes "x") e.value) ≡ true) × (is_far (whole_at (codes "y") e.value) ≡ true) × (has_good_pin e ≡ true)
unfolding has_good_place
far_parts e c h =
    let p = and_parts (is_far (whole_at (codes "x") e.value) && is_far (whole_at (codes "y") e.value)) (has_good_pin e) (rw c at h) in
    let q = and_parts _ _ p.0 in
    (q.0, q.1, p.1)

pub far_place : (e : Element) → has_good_place e ≡ true → IsPlaceWithin (2 ^ 53) (place_of e.value)
far_place e h =
    elim (cases_Bool (is_at_compound e)) [
      | inl c ↦ (let p = far_parts e c h in record { x = far_within _ p.0; y = far_within _ p.1 })
      | inr c ↦ (let p = near_place e c h in record { x = near_far _ p.x; y = near_far _ p.y })
    ]

-- ---- the options of a port and of its node

port_role : (e : Element) → is_node e ≡ false → is_port e ≡ true → role_of e ≡ Port
port_role e n p = rw (n, p) refl

port_index : (d : Data) → IsWithin (neg_ℤ (pos (2 ^ 31))) (pos (2 ^ 31 - 1)) (options_of Port d).index
unfolding options_of
port_index d = sound_index name.PortIndex d

-- an element and the node at which it stands
pub record IsKept (keeper e : Element) : Type 0 where
  pub keeper_is : is_node keeper ≡ true
  pub same : keeper.value ≡ e.holder
  pub compound : is_compound keeper ≡ is_at_compound e

role_kept : (keeper e : Element) → IsKept keeper e → role_of keeper ≡ holder_role e
role_kept keeper e k = cond-true (is_node keeper) (node_role (is_compound keeper)) _ k.keeper_is ∙ ap node_role k.compound

options_kept : (keeper e : Element) → IsKept keeper e → options_at keeper ≡ holder_options e
options_kept keeper e k = ap (λ r. options_of r (options_data keeper.value)) (role_kept keeper e k) ∙ ap (λ d. options_of (holder_role e) (options_data d)) k.same

bad_kept : (keeper e : Element) → IsKept keeper e → has_bad_option keeper ≡ holder_has_bad_option e
bad_kept keeper e k = ap (λ r. is_some (first_bad r (options_data keeper.value))) (role_kept keeper e k) ∙ ap (λ d. is_some (first_bad (holder_role e) (options_data d))) k.same

-- a port of a node with fixed positions, where no option is bad
at_fixed_pos : (keeper e : Element) → IsKept keeper e → has_bad_option keeper ≡ false → has_bad_option e ≡ false → (options_at keeper).rule ≡ rule.FixedPos → is_at_fixed_pos e ≡ true
at_fixed_pos keeper e k bad own fixed =
    and_from _ _ (and_from _ _ (not_from_false (holder_has_bad_option e) (sym (bad_kept keeper e k) ∙ bad)) (not_from_false (has_bad_option e) own))
    (ap (λ (o : Options). is_fixed_pos o.rule) (sym (options_kept keeper e k)) ∙ ap is_fixed_pos fixed)

-- ---- pinned at a compound node

pin_parts : (e : Element) → is_at_fixed_pos e ≡ true → has_good_pin e ≡ true → option_map_or (λ s. is_near (along_data s e.value)) (options_at e).side true ≡ true
unfolding has_good_pin
pin_parts e f h = rw f at h

same_along : (s : Side) (d : Data) → along s (place_of d) ≡ along_data s d
same_along side.North d = refl
same_along side.East d = refl
same_along side.South d = refl
same_along side.West d = refl

pinned_by : (s : Option Side) (d : Data) → option_map_or (λ t. is_near (along_data t d)) s true ≡ true → IfSome s (λ t. IsWithin (neg_ℤ (pos (2 ^ 20))) (pos (2 ^ 20)) (along t (place_of d)))
pinned_by None d h = tt
pinned_by (Some t) d h = near_within (along t (place_of d)) (ap is_near (same_along t d) ∙ h)

-- ---- outside at a leaf

not_below : (a b : ℤ) → int_lt a b ≡ false → b ≤ℤ a
not_below a b h = omega (arith, ints)

is_below : (a b : ℤ) → int_lt a b ≡ true → a ≤ℤ b
is_below a b h = omega (arith, ints)

same_at : (a b : ℤ) → a ≡ b → a ≤ℤ b
same_at a b h = omega (arith, ints)

-- numbers of which neither the first is less nor both are equal
past : (a b : ℤ) → int_lt a b ≡ false → (a ≡ b → ⊥) → int_lt b a ≡ true
past a b l n = true_from_ne_false (int_lt b a) (λ f. n (omega (arith, ints)))

differ : (a b : ℤ) → int_eq a b ≡ false → a ≡ b → ⊥
differ a b e same = both_ways (int_eq a b) e ((Decides-int_eq a b).1 same)

face_by : (s : Side) (node port : Data) → has_face_inside s node port ≡ false → IsOutside (size_of node) (place_of port) (size_of port) s
unfolding has_face_inside
face_by side.West node port h = not_below _ _ h
face_by side.East node port h = not_below _ _ h
face_by side.North node port h = not_below _ _ h
face_by side.South node port h = not_below _ _ h

-- an optional side that is there and passes, chosen by a test
chosen : (P : Side → Type 0) (b : Bool) (s : Side) (o : Option Side) → (b ≡ true → P s) → (b ≡ false → IsSomeAnd o P) → IsSomeAnd (if b then Some s else o) P
chosen P true s o on off = on refl
chosen P false s o on off = off refl

-- not all four faces lie inside
abbrev SomeFaceOut : Size → Point → Size → Type 0
SomeFaceOut box place size =
    int_lt (pos 0) place.x ≡ true → int_lt (place.x +ℤ size.width) box.width ≡ true → int_lt (pos 0) place.y ≡ true → int_lt (place.y +ℤ size.height) box.height ≡ true → ⊥

some_out : (node port : Data) → lies_inside node port ≡ false → SomeFaceOut (size_of node) (place_of port) (size_of port)
unfolding lies_inside has_face_inside
some_out node port h a b c d = both_ways _ h (and_from _ _ (and_from _ _ (and_from _ _ a b) c) d)

touched : (box : Size) (place : Point) (size : Size) → SomeFaceOut box place size → int_lt place.x (pos 0) ≡ false → int_lt box.width (place.x +ℤ size.width) ≡ false
    → int_lt place.y (pos 0) ≡ false → int_lt box.height (place.y +ℤ size.height) ≡ false → IsSomeAnd (side_by_touch box place size) (IsOutside box place size)
touched box place size out a b c d =
    let P = IsOutside box place size in
    let right = place.x +ℤ size.width in
    let low = place.y +ℤ size.height in
    chosen P (int_eq place.x (pos 0)) side.West _ (λ e. same_at place.x (pos 0) ((Decides-int_eq place.x (pos 0)).0 e))
    (λ e1. chosen P (int_eq right box.width) side.East _ (λ e. same_at box.width right (sym ((Decides-int_eq right box.width).0 e)))
    (λ e2. chosen P (int_eq place.y (pos 0)) side.North _ (λ e. same_at place.y (pos 0) ((Decides-int_eq place.y (pos 0)).0 e))
    (λ e3. chosen P (int_eq low box.height) side.South _ (λ e. same_at box.height low (sym ((Decides-int_eq low box.height).0 e)))
    (λ e4. absurd (out (past place.x (pos 0) a (differ _ _ e1)) (past box.width right b (λ s. differ right box.width e2 (sym s)))
    (past place.y (pos 0) c (differ _ _ e3)) (past box.height low d (λ s. differ low box.height e4 (sym s))))))))

placed : (box : Size) (place : Point) (size : Size) → SomeFaceOut box place size → IsSomeAnd (side_by_place box place size) (IsOutside box place size)
placed box place size out =
    let P = IsOutside box place size in
    chosen P (int_lt place.x (pos 0)) side.West _ (λ e. is_below place.x (pos 0) e)
    (λ e1. chosen P (int_lt box.width (place.x +ℤ size.width)) side.East _ (λ e. is_below box.width (place.x +ℤ size.width) e)
    (λ e2. chosen P (int_lt place.y (pos 0)) side.North _ (λ e. is_below place.y (pos 0) e)
    (λ e3. chosen P (int_lt box.height (place.y +ℤ size.height)) side.South _ (λ e. is_below box.height (place.y +ℤ size.height) e)
    (λ e4. touched box place size out e1 e2 e3 e4))))

outside_by : (s : Option Side) (node port : Data) → option_map_or (λ t. has_face_inside t node port) s (lies_inside node port) ≡ false
    → IsSomeAnd (side_from rule.FixedPos s true (side_by_place (size_of node) (place_of port) (size_of port))) (IsOutside (size_of node) (place_of port) (size_of port))
outside_by None node port h = placed (size_of node) (place_of port) (size_of port) (some_out node port h)
outside_by (Some s) node port h = face_by s node port h

side_parts : (e : Element) → is_port e ≡ true → is_at_compound e ≡ false → is_at_fixed_pos e ≡ true → is_port_inside e ≡ false → is_side_inside (options_at e).side e ≡ false
unfolding is_port_inside
side_parts e p c f h = second _ _ f (second _ _ (not_from_false (is_at_compound e) c) (second _ _ p h))

-- ---- the whole port

pub record IsFine (keeper e : Element) : Type 0 where
  pub port_is : is_port e ≡ true
  pub node_no : is_node e ≡ false
  pub in_range : is_out_of_range e ≡ false
  pub good : has_bad_option e ≡ false
  pub keeper_good : has_bad_option keeper ≡ false
  pub outer : is_port_inside e ≡ false

leaf_from : (keeper : Element) → is_node keeper ≡ true → IsNone (options_at keeper).level → is_compound keeper ≡ false
leaf_from keeper is none =
    elim (cases_Bool (is_compound keeper)) [
      | inl c ↦ absurd (not_none _ _ (compound_level keeper is c) none)
      | inr c ↦ c
    ]

compound_from : (keeper : Element) → is_node keeper ≡ true → IsSome (options_at keeper).level → is_compound keeper ≡ true
compound_from keeper is some =
    elim (cases_Bool (is_compound keeper)) [
      | inl c ↦ c
      | inr c ↦ absurd (not_some _ (leaf_level keeper is c) some)
    ]

leaf_outside : (es : List Element) (keeper e : Element) → IsKept keeper e → IsFine keeper e → IsNone (options_at keeper).level → (options_at keeper).rule ≡ rule.FixedPos
    → IsSomeAnd (side_from (options_at keeper).rule (options_at e).side (is_none (options_at keeper).level) (side_by_place (node_size keeper) (place_of e.value) (size_of e.value))) (IsOutside (node_size keeper) (place_of e.value) (size_of e.value))
leaf_outside es keeper e k f none fixed =
    let leaf : is_compound keeper ≡ false = leaf_from keeper k.keeper_is none in
    let at_leaf : is_at_compound e ≡ false = sym k.compound ∙ leaf in
    let pos : is_at_fixed_pos e ≡ true = at_fixed_pos keeper e k f.keeper_good f.good fixed in
    let out : is_side_inside (options_at e).side e ≡ false = side_parts e f.port_is at_leaf pos f.outer in
    rw (fixed, leaf_level keeper k.keeper_is leaf, leaf, k.same) (outside_by (options_at e).side e.holder e.value out)

pub sound_port : (es : List Element) (keeper e : Element) → IsKept keeper e → IsFine keeper e
    → IsSoundPort (node_of es keeper) (port_of es e)
    (side_from (options_at keeper).rule (options_at e).side (is_none (options_at keeper).level) (side_by_place (node_size keeper) (place_of e.value) (size_of e.value)))
sound_port es keeper e k f =
    let g = good_parts e f.node_no f.port_is f.in_range in
    record {
      size = sound_size e.value g.0;
      index = subst (λ r. IsWithin (neg_ℤ (pos (2 ^ 31))) (pos (2 ^ 31 - 1)) (options_of r (options_data e.value)).index) (sym (port_role e f.node_no f.port_is)) (port_index (options_data e.value));
      near = λ none. near_place e (sym k.compound ∙ leaf_from keeper k.keeper_is none) g.1;
      outside = λ none fixed. leaf_outside es keeper e k f none fixed;
      far = far_place e g.1;
      pinned = λ some fixed.
          (let c : is_at_compound e ≡ true = sym k.compound ∙ compound_from keeper k.keeper_is some in
          pinned_by (options_at e).side e.value (pin_parts e (at_fixed_pos keeper e k f.keeper_good f.good fixed) (far_parts e c g.1).2));
    }
