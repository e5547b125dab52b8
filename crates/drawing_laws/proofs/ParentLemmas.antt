-- What the level of a node's parent says of the node.
use Rattle.std.proofs.Common.{◌≡◌, ℕ, ◌<◌, ◌^◌, length, Option, Some, None, unwrap_or, IsTrue, IsSome, IfSome, pos, refl, subst, eq-eqb, arith, rules}
use Rattle.std.proofs.lemmas.Int.{ints}
use Rattle.drawing_types.specs.declared.shape.Rect.{Rect}
use Rattle.elk_doc.specs.declared.document.LevelOptions.{LevelOptions}
use Rattle.elk_doc.specs.declared.document.Padding.{Padding}
use Rattle.elk_doc.specs.declared.drawing.Placed.{Placed}
use Rattle.elk_doc.specs.Document.{Document, node_at, parent_of}
use Rattle.elk_doc.specs.Drawing.{box_of}
use Rattle.elk_doc.specs.Inside.{IsWithinPadding}
use Rattle.elk_doc.specs.Level.{IsChild, is_number}
use Rattle.drawing_types.specs.Shapes.{Holds}
use Rattle.elk_doc.specs.Sound.{IsSound, IsSoundLevel, IsSoundPadding}
use Rattle.drawing_laws.specs.Held.{IsHeld, IsModest}

-- the square in which every box that is no larger than 2^51 holds what lies within its padding
abbrev pub reach : Rect
reach = record { x = pos 0; y = pos 0; width = pos (2 ^ 51); height = pos (2 ^ 51) }

padding_in_reach : (outer : Rect) (room : Padding) (r : Rect) → IsModest outer → IsSoundPadding room → IsWithinPadding outer room r → Holds reach r
padding_in_reach outer room r modest sound inside = omega (arith, ints)

number_there : (o : Option ℕ) → IsSome o → IsTrue (is_number o (unwrap_or o 0))
number_there None h = absurd (search rules)
number_there (Some m) h = eq-eqb m m refl

-- a node that is not the root is a child of its parent
pub child_of_parent : (d : Document) (c : ℕ) → IsSound d → 0 < c → c < length d.nodes → IsChild d (parent_of d c) c
child_of_parent d c sound above there =
    record { node_in = there; child = number_there (node_at d c).parent (sound.tree.parents c above there).parent }

-- a level, by its options
pub options_there : (o : Option LevelOptions) → IsSome o → (x : LevelOptions) × (o ≡ Some x)
options_there None h = absurd (search rules)
options_there (Some x) h = (x, refl)

sound_options : (d : Document) (n : ℕ) (o : LevelOptions) → IsSound d → n < length d.nodes → (node_at d n).level ≡ Some o → IsSoundLevel d n o
sound_options d n o sound there compound = subst (λ level. IfSome level (IsSoundLevel d n)) compound (sound.levels.options n there)

-- what lies within a node's padding lies from 0 to 2^51
pub level_in_reach : (d : Document) (p : Placed) (n : ℕ) (o : LevelOptions) (r : Rect) → IsSound d → IsHeld d p → n < length d.nodes → (node_at d n).level ≡ Some o → IsWithinPadding (box_of p n) o.padding r → Holds reach r
level_in_reach d p n o r sound held there compound inside =
    padding_in_reach (box_of p n) o.padding r (held.sizes n there) (sound_options d n o sound there compound).padding inside
