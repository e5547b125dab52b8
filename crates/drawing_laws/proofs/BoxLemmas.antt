-- The boxes of a drawing are in range, and small.
use Rattle.std.proofs.Common.{ℕ, zero, suc, ◌<◌, length, All, arith}
use Rattle.std.proofs.lemmas.Int.{ints}
use Rattle.std.proofs.lemmas.List.Elements.{All-from_get_or}
use Rattle.drawing_types.specs.declared.shape.Rect.{Rect}
use Rattle.elk_doc.specs.declared.drawing.Placed.{Placed}
use Rattle.elk_doc.specs.Document.{Document, parent_of}
use Rattle.elk_doc.specs.Drawing.{box_of, no_rect}
use Rattle.elk_doc.specs.Fits.{FitsBox, IsRooted}
use Rattle.elk_doc.specs.Places.{outline_of}
use Rattle.drawing_types.specs.Shapes.{Holds}
use Rattle.elk_doc.specs.Sound.{IsSound}
use Rattle.elk_doc.proofs.PlaceLaws.{outline_to-least}
use Rattle.elk_doc.proofs.SoundLaws.{parent_of-in}
use Rattle.drawing_laws.specs.Held.{IsHeld, IsModest, IsSmallBox}
use Rattle.drawing_laws.proofs.ParentLemmas.{reach, child_of_parent, options_there, level_in_reach}

-- the outline of a node that is not the root lies from 0 to 2^51
pub outline_in_reach : (d : Document) (p : Placed) (c : ℕ) → IsSound d → IsHeld d p → 0 < c → c < length d.nodes → Holds reach (outline_of d p c)
outline_in_reach d p c sound held above there =
    let n = parent_of d c in
    let parent_there = parent_of-in d c sound there in
    let compound = options_there _ (sound.levels.parents c above there) in
    let inside = held.inside n compound.0 parent_there compound.1 in
    level_in_reach d p n compound.0 (outline_of d p c) sound held parent_there compound.1 (inside.outlines c (child_of_parent d c sound above there) tt)

held_box_fits : (outline r : Rect) → IsModest r → Holds reach outline → Holds outline r → FitsBox r
held_box_fits outline r modest inside held = omega (arith, ints)

root_box_fits : (p : Placed) → IsRooted p → IsModest (box_of p 0) → FitsBox (box_of p 0)
root_box_fits p root modest = omega (arith, ints, root.x, root.y)

box_fits : (d : Document) (p : Placed) → IsSound d → IsHeld d p → (n : ℕ) → n < length d.nodes → FitsBox (box_of p n)
box_fits d p sound held zero there = root_box_fits p held.root (held.sizes 0 there)
box_fits d p sound held (suc n) there =
    let c = suc n in
    held_box_fits (outline_of d p c) (box_of p c) (held.sizes c there) (outline_in_reach d p c sound held (omega arith) there) (outline_to-least d p c (length d.ports)).box

pub boxes_fit : (d : Document) (p : Placed) → IsSound d → IsHeld d p → All FitsBox p.boxes
boxes_fit d p sound held =
    All-from_get_or FitsBox p.boxes no_rect (λ n there. box_fits d p sound held n (omega (arith, held.counts.boxes)))

held_box_small : (outline r : Rect) → IsModest r → Holds reach outline → Holds outline r → IsSmallBox r
held_box_small outline r modest inside held = omega (arith, ints)

root_box_small : (p : Placed) → IsRooted p → IsModest (box_of p 0) → IsSmallBox (box_of p 0)
root_box_small p root modest = omega (arith, ints, root.x, root.y)

box_small : (d : Document) (p : Placed) → IsSound d → IsHeld d p → (n : ℕ) → n < length d.nodes → IsSmallBox (box_of p n)
box_small d p sound held zero there = root_box_small p held.root (held.sizes 0 there)
box_small d p sound held (suc n) there =
    let c = suc n in
    held_box_small (outline_of d p c) (box_of p c) (held.sizes c there) (outline_in_reach d p c sound held (omega arith) there) (outline_to-least d p c (length d.ports)).box

pub boxes_small : (d : Document) (p : Placed) → IsSound d → IsHeld d p → All IsSmallBox p.boxes
boxes_small d p sound held =
    All-from_get_or IsSmallBox p.boxes no_rect (λ n there. box_small d p sound held n (omega (arith, held.counts.boxes)))
