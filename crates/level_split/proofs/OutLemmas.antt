-- The layouts of the parts, by number.
use Rattle.std.proofs.Common.{◌≡◌, ℕ, zero, suc, ◌<◌, List, [], ◌∷◌, length, get_or, arith}
use Rattle.std.proofs.lemmas.List.{get_or-map}
use Rattle.box_pack.specs.Boxes.{size_at}
use Rattle.drawing_types.specs.Shapes.{no_size}
use Rattle.level_draw.specs.declared.drawing.LevelOut.{LevelOut}
use Rattle.level_split.specs.Gathered.{certificate_at, drawing_at, drawing_of, extents_of, no_certificate, no_drawing}

-- an element of a list
pub pick : {X : Type 0} (xs : List X) (k : ℕ) → k < length xs → X
pick [] k h = absurd (omega (arith, h))
pick (x ∷ xs) zero h = x
pick (x ∷ xs) (suc k) h = pick xs k (omega (arith, h))

abbrev pub out_at : (outs : List LevelOut) (k : ℕ) → k < length outs → LevelOut
out_at outs k h = get_or outs k (pick outs k h)

pub drawing_is : (outs : List LevelOut) (k : ℕ) (h : k < length outs) → drawing_at outs k ≡ drawing_of (out_at outs k h)
drawing_is outs k h = get_or-map drawing_of outs k (pick outs k h) no_drawing h

pub certificate_is : (outs : List LevelOut) (k : ℕ) (h : k < length outs) → certificate_at outs k ≡ (out_at outs k h).certificate
certificate_is outs k h = get_or-map (λ (v : LevelOut). v.certificate) outs k (pick outs k h) no_certificate h

pub extent_is : (outs : List LevelOut) (k : ℕ) (h : k < length outs) → size_at (extents_of outs) k ≡ (out_at outs k h).extent
extent_is outs k h = get_or-map (λ (v : LevelOut). v.extent) outs k (pick outs k h) no_size h
