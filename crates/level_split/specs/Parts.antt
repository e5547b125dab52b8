-- The layout of a level whose connected parts stand apart.
use Rattle.std.specs.Prelude.{◌<◌, ℕ, [], ℤ, pos, length, slice_index_or}
use Rattle.box_pack.specs.Boxes.{point_at}
use Rattle.box_pack.specs.Packed.{AreRows}
use Rattle.rotated_levels.specs.CertificateJoined as certificates
use Rattle.rotated_levels.specs.Joined as drawings
use Rattle.level_draw.specs.declared.drawing.LevelOut.{LevelOut}
use Rattle.level_layout.specs.Layout.{IsLaidOut}
use Rattle.level_model.specs.declared.level.LevelIn.{LevelIn}
use Rattle.level_model.specs.Conditions.{IsLevel, plain_level}
use Rattle.level_model.specs.FromPlan.{LevelDrawing}
use Rattle.network_parts.specs.Dividing.{AreCounted}
use Rattle.level_parts.specs.Parts.{AreParts}
use Rattle.level_parts.specs.Split.{part_in}
use Rattle.level_split.specs.declared.layout.PartsOut.{PartsOut}
use Rattle.level_split.specs.Gathered.{certificate_at, drawing_at, extents_of}
use Rattle.level_split.specs.Limits.{IsRowLimit}

-- the drawing of the whole
abbrev pub whole_drawing : PartsOut → LevelDrawing
whole_drawing v =
    record { gaps = []; traces = []; boxes = v.boxes; ports = v.ports; sections = v.sections; extent = v.extent; left = pos 0; top = pos 0 }

-- Children have the numbers of their parts. Each part is laid out by itself, as a level of its own. The extents of the parts
-- stand in rows, in the order of their numbers, with the gap `component`; boxes, ports and sections are those of the parts, moved
-- to their places; and the certificate is put together from theirs.
pub record IsPartsLayout (level : LevelIn) (component : ℤ) (v : PartsOut) : Type 0 where
  pub sound : IsLevel (plain_level level)
  pub numbered : AreParts (plain_level level) v.parts
  pub counted : AreCounted v.parts (length v.parts) (length v.outs)
  pub laid_out : (k : ℕ) (out : LevelOut) → k < length v.outs → IsLaidOut (part_in level v.parts k) (slice_index_or v.outs k out)
  pub limit : ℤ
  pub is_limit : IsRowLimit (extents_of v.outs) component limit
  pub rows : AreRows (extents_of v.outs) component limit (record { at = v.at; extent = v.extent })
  pub drawing : drawings.IsJoinedDrawing (plain_level level) v.parts (point_at v.at) (drawing_at v.outs) (whole_drawing v)
  pub certificate : certificates.IsJoinedCertificate (plain_level level) v.parts (length v.outs) (certificate_at v.outs) v.certificate
