-- What the rules that do not hold say of a node.
use Rattle.std.proofs.Common.{◌≡◌, ◌≢◌, ℕ, ◌<◌, ◌^◌, ℤ, pos, neg_ℤ, List, length, Bool, true, false, not, ◌&&◌, Option, Some, None, refl, subst, rules}
use Rattle.std.specs.Prelude.{IsSome, IsNone, IfSome, IsTrue, IsFalse}
use Rattle.std.specs.Int.Signed.{le_z_yes}
use Rattle.std.proofs.lemmas.Bool.{and_parts, and_from, or_parts, not-false, not_from_false}
use Rattle.serde_json.specs.Data.{Data}
use Rattle.elk_doc.specs.Document.{Document}
use Rattle.elk_doc.specs.Level.{level_of_edge}
use Rattle.elk_doc.specs.Sound.{IsSoundSize, IsSoundNode, IsSoundLevel}
use Rattle.drawing_types.specs.Ranges.{IsWithin}
use Rattle.elk_options.specs.declared.names.OptionName.TheVariants as name
use Rattle.elk_options.specs.Reading.{options_of, level_of}
use Rattle.elk_json.specs.Elements.{Element}
use Rattle.elk_json.specs.Members.{is_node, is_compound, is_between, options_at, options_data}
use Rattle.elk_json.specs.Ranges.{is_size, is_near, is_far, has_good_size, is_out_of_range}
use Rattle.elk_json.specs.Document.{node_of, size_of}
use Rattle.elk_options.proofs.OptionBounds.{holds, distance, twenty, sound_spacing, sound_padding}

pub second : (a b : Bool) → a ≡ true → (a && b) ≡ false → b ≡ false
second true b a h = h
second false b a h = absurd cc

pub between_parts : (low high z : ℤ) → is_between low high z ≡ true → IsWithin low high z
between_parts low high z h =
    let p = and_parts _ _ h in
    record { above = le_z_yes (holds _ p.0); below = le_z_yes (holds _ p.1) }

pub size_within : (z : ℤ) → is_size z ≡ true → IsWithin (pos 0) (pos (2 ^ 20)) z
unfolding is_size
size_within z h = between_parts _ _ z h

pub near_within : (z : ℤ) → is_near z ≡ true → IsWithin (neg_ℤ (pos (2 ^ 20))) (pos (2 ^ 20)) z
unfolding is_near
near_within z h = between_parts _ _ z h

pub far_within : (z : ℤ) → is_far z ≡ true → IsWithin (neg_ℤ (pos (2 ^ 53))) (pos (2 ^ 53)) z
unfolding is_far
far_within z h = between_parts _ _ z h

pub sound_size : (d : Data) → has_good_size d ≡ true → IsSoundSize (size_of d)
unfolding has_good_size
sound_size d h =
    let p = and_parts _ _ h in
    record { width = size_within _ p.0; height = size_within _ p.1 }

-- ---- levels

-- a node has a level exactly where it is compound
pub compound_level : (e : Element) → is_node e ≡ true → is_compound e ≡ true → (options_at e).level ≡ Some (level_of (options_data e.value))
unfolding options_of
compound_level e n c = rw (c, n) refl

pub leaf_level : (e : Element) → is_node e ≡ true → is_compound e ≡ false → (options_at e).level ≡ None
unfolding options_of
leaf_level e n c = rw (c, n) refl

-- ---- sizes

pub leaf_size : (e : Element) → is_node e ≡ true → is_compound e ≡ false → is_out_of_range e ≡ false → has_good_size e.value ≡ true
unfolding is_out_of_range
leaf_size e n c h = not-false (has_good_size e.value) (second _ _ (and_from _ _ n (not_from_false (is_compound e) c)) (or_parts _ _ h).0)

pub not_none : {X : Type 0} (o : Option X) (x : X) → o ≡ Some x → IsNone o → ⊥
not_none o x e h = let bad : IsNone (Some x) = subst (λ v. IsNone v) e h in search rules

pub not_some : {X : Type 0} (o : Option X) → o ≡ None → IsSome o → ⊥
not_some o e h = let bad = subst (λ v. IsSome v) e h in search rules

sound_by : (es : List Element) (e : Element) (c : Bool) → is_compound e ≡ c → is_node e ≡ true → is_out_of_range e ≡ false → IsSoundNode (node_of es e)
sound_by es e true c n h =
    record {
      leaf = λ none. absurd (not_none (options_at e).level (level_of (options_data e.value)) (compound_level e n c) none);
      compound = λ some. rw c refl;
    }
sound_by es e false c n h =
    record {
      leaf = λ none. rw c (sound_size e.value (leaf_size e n c h));
      compound = λ some. absurd (not_some (options_at e).level (leaf_level e n c) some);
    }

pub sound_node : (es : List Element) (e : Element) → is_node e ≡ true → is_out_of_range e ≡ false → IsSoundNode (node_of es e)
sound_node es e n h = sound_by es e (is_compound e) refl n h

-- ---- options of levels

unsplit : (b s : Bool) → IsTrue b → IsFalse (not b && s)
unsplit true s h = refl
unsplit false s h = absurd (search rules)

sound_options : (doc : Document) (n : ℕ) (d : Data)
    → (IsTrue (level_of d).boxes → (e : ℕ) → e < length doc.edges → level_of_edge doc e ≢ n) → IsSoundLevel doc n (level_of d)
unfolding level_of
sound_options doc n d none = record {
  spacing = sound_spacing d;
  padding = sound_padding name.Padding d;
  component = distance 20 name.ComponentComponent d twenty;
  boxes_not_split = λ b. unsplit _ _ b;
  boxes_no_edge = none;
}

level_some : (doc : Document) (n : ℕ) (e : Element) (c : Bool) → is_compound e ≡ c → is_node e ≡ true
    → (is_compound e ≡ true → IsTrue (level_of (options_data e.value)).boxes → (k : ℕ) → k < length doc.edges → level_of_edge doc k ≢ n) → IfSome (options_at e).level (IsSoundLevel doc n)
level_some doc n e true c is none = rw (compound_level e is c) (sound_options doc n (options_data e.value) (none c))
level_some doc n e false c is none = rw (leaf_level e is c) tt

-- the options of a node's level, where one of boxes has no edge
pub sound_level : (doc : Document) (n : ℕ) (e : Element) → is_node e ≡ true
    → (is_compound e ≡ true → IsTrue (level_of (options_data e.value)).boxes → (k : ℕ) → k < length doc.edges → level_of_edge doc k ≢ n) → IfSome (options_at e).level (IsSoundLevel doc n)
sound_level doc n e is none = level_some doc n e (is_compound e) refl is none
