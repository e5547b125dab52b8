-- Options keep their ranges, whatever is asked.
use Rattle.std.proofs.Common.{◌≡◌, ℕ, ◌-◌, ◌^◌, ◌≤◌, ℤ, pos, neg_ℤ, List, [], ◌∷◌, Bool, true, false, ◌&&◌, T, Option, Some, None, if◌then◌else◌, refl, arith}
use Rattle.std.specs.Prelude.{◌==◌, length, option_map, option_and_then, unwrap_or, IfSome, int_le, nat_le, nat_abs, bytes_eq, codes}
use Rattle.serde_json.specs.Find.{as_str}
use Rattle.std.specs.Int.{int_max}
use Rattle.std.specs.Int.Signed.{le_z_yes}
use Rattle.std.proofs.lemmas.Bool.{leb-true}
use Rattle.std.proofs.lemmas.Int.{ints, clamps}
use Rattle.serde_json.specs.Data.{Data}
use Rattle.elk_doc.specs.Sound.{IsLength, IsDistance, IsSoundSpacing, IsSoundPadding}
use Rattle.drawing_types.specs.Ranges.{IsWithin}
use Rattle.elk_options.specs.declared.names.OptionName.{OptionName}
use Rattle.elk_options.specs.declared.names.OptionName.TheVariants as name
use Rattle.elk_options.specs.declared.padding.Given.{Given}
use Rattle.elk_options.specs.Names.{asked}
use Rattle.elk_options.specs.Values.{if_within, whole_of}
use Rattle.elk_options.specs.PaddingText.{once, with_side, length_text, part_of, with_part, with_parts, padding_of, nothing_given, given_within, pieces, bare, cut, between_brackets, padding_text}
use Rattle.elk_options.specs.Table.{to_distance, to_padding, to_index, to_shortness}
use Rattle.elk_options.specs.Reading.{value_or, distance_or, usual_padding, spacing_of, weight_of}
use Rattle.elk_options.specs.Values.{unsigned_text}

pub holds : (b : Bool) → b ≡ true → T b
holds b e = rw e tt

within_by : (low high z : ℤ) (a b : Bool) → int_le low z ≡ a → int_le z high ≡ b → IfSome (if a && b then Some z else None) (IsWithin low high)
within_by low high z true true l h = record { above = le_z_yes (holds _ l); below = le_z_yes (holds _ h) }
within_by low high z true false l h = tt
within_by low high z false b l h = tt

within : (low high : ℤ) (o : Option ℤ) → IfSome (option_and_then (if_within low high) o) (IsWithin low high)
within low high None = tt
within low high (Some z) = within_by low high z (int_le low z) (int_le z high) refl refl

-- a value that is there passes, and so does the default
or_usual : {X : Type 0} (P : X → Type 0) (o : Option X) (usual : X) → IfSome o P → P usual → P (unwrap_or o usual)
or_usual P None usual h u = u
or_usual P (Some x) usual h u = h

or_default : {X : Type 0} (P : X → Type 0) (to : Data → Option X) (usual : X) (o : Option Data) → ((d : Data) → IfSome (to d) P) → P usual → P (unwrap_or (option_and_then to o) usual)
or_default P to usual None reads u = u
or_default P to usual (Some d) reads u = or_usual P (to d) usual (reads d) u

then_some : {X Y : Type 0} (Q : X → Type 0) (P : Y → Type 0) (f : X → Option Y) (o : Option X) → IfSome o Q → ((x : X) → Q x → IfSome (f x) P) → IfSome (option_and_then f o) P
then_some Q P f None h step = tt
then_some Q P f (Some x) h step = step x h

-- ---- distances

at_least_one : (z : ℤ) → IsWithin (pos 0) (pos (2 ^ 20)) z → IsDistance (int_max z (pos 1))
at_least_one z h = record { above = omega (arith, ints, clamps); below = omega (arith, ints, clamps) }

pub distance : (usual : ℕ) (option : OptionName) (d : Data) → IsWithin (pos 0) (pos (2 ^ 20)) (pos usual) → IsDistance (distance_or usual option d)
distance usual option d u = at_least_one _ (or_default (IsWithin (pos 0) (pos (2 ^ 20))) to_distance (pos usual) (asked option d) (λ v. within (pos 0) (pos (2 ^ 20)) (whole_of v)) u)

ten : IsWithin (pos 0) (pos (2 ^ 20)) (pos 10)
ten = record { above = le_z_yes tt; below = le_z_yes tt }

pub twenty : IsWithin (pos 0) (pos (2 ^ 20)) (pos 20)
twenty = record { above = le_z_yes tt; below = le_z_yes tt }

pub sound_spacing : (d : Data) → IsSoundSpacing (spacing_of d)
unfolding spacing_of
sound_spacing d = record {
  node_node = distance 20 name.NodeNode d twenty;
  edge_node = distance 10 name.EdgeNode d ten;
  edge_edge = distance 10 name.EdgeEdge d ten;
  node_layers = distance 20 name.NodeLayers d twenty;
  edge_node_layers = distance 10 name.EdgeNodeLayers d ten;
  edge_edge_layers = distance 10 name.EdgeEdgeLayers d ten;
}

-- ---- padding

abbrev IsShort : Option ℕ → Type 0
IsShort o = IfSome o (λ n. n ≤ 2 ^ 20)

record AreShort (g : Given) : Type 0 where
  pub top_short : IsShort g.top
  pub left_short : IsShort g.left
  pub bottom_short : IsShort g.bottom
  pub right_short : IsShort g.right

short_by : (n : ℕ) (b : Bool) → nat_le n (2 ^ 20) ≡ b → IfSome (if b then Some n else None) (λ m. m ≤ 2 ^ 20)
short_by n true e = leb-true n (2 ^ 20) e
short_by n false e = tt

short_from : (o : Option ℕ) → IfSome (option_and_then (λ n. if nat_le n (2 ^ 20) then Some n else None) o) (λ m. m ≤ 2 ^ 20)
short_from None = tt
short_from (Some n) = short_by n (nat_le n (2 ^ 20)) refl

short_once : (o : Option ℕ) (n : ℕ) → n ≤ 2 ^ 20 → IfSome (once o n) IsShort
short_once None n h = h
short_once (Some m) n h = tt

with_top : (g : Given) (o : Option (Option ℕ)) → AreShort g → IfSome o IsShort → IfSome (option_map (λ x. record g { top = x }) o) AreShort
with_top g None s h = tt
with_top g (Some x) s h = record { top_short = h; left_short = s.left_short; bottom_short = s.bottom_short; right_short = s.right_short }

with_left : (g : Given) (o : Option (Option ℕ)) → AreShort g → IfSome o IsShort → IfSome (option_map (λ x. record g { left = x }) o) AreShort
with_left g None s h = tt
with_left g (Some x) s h = record { top_short = s.top_short; left_short = h; bottom_short = s.bottom_short; right_short = s.right_short }

with_bottom : (g : Given) (o : Option (Option ℕ)) → AreShort g → IfSome o IsShort → IfSome (option_map (λ x. record g { bottom = x }) o) AreShort
with_bottom g None s h = tt
with_bottom g (Some x) s h = record { top_short = s.top_short; left_short = s.left_short; bottom_short = h; right_short = s.right_short }

with_right : (g : Given) (o : Option (Option ℕ)) → AreShort g → IfSome o IsShort → IfSome (option_map (λ x. record g { right = x }) o) AreShort
with_right g None s h = tt
with_right g (Some x) s h = record { top_short = s.top_short; left_short = s.left_short; bottom_short = s.bottom_short; right_short = h }

either : {X : Type 0} (P : X → Type 0) (b : Bool) (o rest : Option X) → IfSome o P → IfSome rest P → IfSome (if b then o else rest) P
either P true o rest h r = h
either P false o rest h r = r

short_side : (name : List ℕ) (n : ℕ) (g : Given) → n ≤ 2 ^ 20 → AreShort g → IfSome (with_side name n g) AreShort
short_side name n g h s =
    either AreShort (bytes_eq name (codes "top")) _ _ (with_top g (once g.top n) s (short_once g.top n h))
    (either AreShort (bytes_eq name (codes "left")) _ _ (with_left g (once g.left n) s (short_once g.left n h))
    (either AreShort (bytes_eq name (codes "bottom")) _ _ (with_bottom g (once g.bottom n) s (short_once g.bottom n h))
    (either AreShort (bytes_eq name (codes "right")) _ _ (with_right g (once g.right n) s (short_once g.right n h)) tt)))

short_part : (g : Given) (o : Option (List ℕ × List ℕ)) → AreShort g → IfSome (option_and_then (part_of g) o) AreShort
short_part g None s = tt
short_part g (Some p) s = then_some (λ n. n ≤ 2 ^ 20) AreShort (λ n. with_side (bare p.0) n g) (length_text (bare p.1)) (short_from (unsigned_text (bare p.1))) (λ n h. short_side (bare p.0) n g h s)

short_parts : (ps : List (List ℕ)) (g : Given) → AreShort g → IfSome (with_parts ps g) AreShort
short_parts [] g s = s
short_parts (p ∷ ps) g s = then_some AreShort AreShort (with_parts ps) (with_part p g) (short_part g (cut 61 p) s) (λ x h. short_parts ps x h)

short_nothing : AreShort nothing_given
short_nothing = record { top_short = tt; left_short = tt; bottom_short = tt; right_short = tt }

short_given : (s : List ℕ) → IfSome (given_within s) AreShort
short_given s = either AreShort (length (bare s) == 0) (Some nothing_given) (with_parts (pieces s) nothing_given) short_nothing (short_parts (pieces s) nothing_given short_nothing)

short_length : (o : Option ℕ) → IsShort o → IsLength (pos (unwrap_or o 0))
short_length None h = record { above = le_z_yes tt; below = le_z_yes tt }
short_length (Some n) h = record { above = omega (arith, ints); below = omega (arith, ints) }

padding_some : (o : Option Given) → IfSome o AreShort → IfSome (option_map padding_of o) IsSoundPadding
padding_some None h = tt
padding_some (Some g) h = record {
  top = short_length g.top h.top_short;
  left = short_length g.left h.left_short;
  bottom = short_length g.bottom h.bottom_short;
  right = short_length g.right h.right_short;
}

given_some : (o : Option (List ℕ)) → IfSome (option_and_then given_within o) AreShort
given_some None = tt
given_some (Some s) = short_given s

text_some : (o : Option (List ℕ)) → IfSome (option_and_then padding_text o) IsSoundPadding
text_some None = tt
text_some (Some s) = padding_some (option_and_then given_within (between_brackets (bare s))) (given_some (between_brackets (bare s)))

usual : IsSoundPadding usual_padding
usual =
    let twelve : IsLength (pos 12) = record { above = le_z_yes tt; below = le_z_yes tt } in
    record { top = twelve; left = twelve; bottom = twelve; right = twelve }

pub sound_padding : (option : OptionName) (d : Data) → IsSoundPadding (value_or to_padding usual_padding option d)
sound_padding option d = or_default IsSoundPadding to_padding usual_padding (asked option d) (λ v. text_some (as_str v)) usual

-- ---- the index of a port and the weight of an edge

pub sound_index : (option : OptionName) (d : Data) → IsWithin (neg_ℤ (pos (2 ^ 31))) (pos (2 ^ 31 - 1)) (value_or to_index (pos 0) option d)
sound_index option d = or_default (IsWithin (neg_ℤ (pos (2 ^ 31))) (pos (2 ^ 31 - 1))) to_index (pos 0) (asked option d) (λ v. within (neg_ℤ (pos (2 ^ 31))) (pos (2 ^ 31 - 1)) (whole_of v)) (record { above = le_z_yes tt; below = le_z_yes tt })

shortness : (option : OptionName) (d : Data) → IsWithin (neg_ℤ (pos (2 ^ 31))) (pos (2 ^ 20)) (value_or to_shortness (pos 0) option d)
shortness option d = or_default (IsWithin (neg_ℤ (pos (2 ^ 31))) (pos (2 ^ 20))) to_shortness (pos 0) (asked option d) (λ v. within (neg_ℤ (pos (2 ^ 31))) (pos (2 ^ 20)) (whole_of v)) (record { above = le_z_yes tt; below = le_z_yes tt })

weight_by : (z : ℤ) → IsWithin (neg_ℤ (pos (2 ^ 31))) (pos (2 ^ 20)) z → (1 ≤ nat_abs (int_max z (pos 1))) × (nat_abs (int_max z (pos 1)) ≤ 2 ^ 20)
weight_by z h = (omega (arith, ints, clamps), omega (arith, ints, clamps))

pub sound_weight : (d : Data) → (1 ≤ weight_of d) × (weight_of d ≤ 2 ^ 20)
unfolding weight_of
sound_weight d = weight_by (value_or to_shortness (pos 0) name.Shortness d) (shortness name.Shortness d)
