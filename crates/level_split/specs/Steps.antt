-- What the steps of a layout by parts come to.
use Rattle.std.specs.Prelude.{◌≡◌, ◌<◌, ◌≤◌, ◌^◌, ℕ, List, ℤ, length, slice_index}
use Rattle.std.specs.List.{filter, range_with_len}
use Rattle.elk_doc.specs.declared.drawing.Certificate.{Certificate}
use Rattle.drawing_types.specs.declared.shape.Point.{Point}
use Rattle.box_pack.specs.declared.packing.Rows.{Rows}
use Rattle.box_pack.specs.Packed.{AreRows}
use Rattle.rotated_levels.specs.CertificateJoined.{spans_to}
use Rattle.level_draw.specs.declared.drawing.LevelOut.{LevelOut}
use Rattle.level_model.specs.Level.{holds}
use Rattle.level_parts.specs.declared.levels.PartLevels.{PartLevels}
use Rattle.level_parts.specs.Split.{part_at}
use Rattle.level_split.specs.declared.layout.Joined.{Joined}
use Rattle.level_split.specs.Gathered.{AreBoxes, AreFlows, AreLayers, ArePorts, AreSeated, AreSections, certificate_at, extents_of}
use Rattle.level_split.specs.Limits.{IsRowLimit}

-- rows of the extents of layouts
pub record IsStanding (outs : List LevelOut) (component : ℤ) (rows : Rows) : Type 0 where
  pub limit : ℤ
  pub is_limit : IsRowLimit (extents_of outs) component limit
  pub rows_are : AreRows (extents_of outs) component limit rows

-- boxes and ports of all children, and sections of all edges, from those of their parts
pub record IsDrawingIn (split : PartLevels) (outs : List LevelOut) (at : List Point) (v : Joined) : Type 0 where
  pub boxes : AreBoxes outs at split.children.parts split.children.places (length split.children.parts) v.boxes.items
  pub ports : ArePorts outs split.children.parts split.children.places (length split.children.parts) v.ports.items
  pub sections : AreSections outs at split.edges.parts split.edges.places (length split.edges.parts) v.sections.items

-- the certificates of parts can be put together
pub record CanCertify (split : PartLevels) (outs : List LevelOut) : Type 0 where
  pub as_many : length outs ≡ length split.parts
  pub few : length split.edges.parts ≤ 2048
  pub layers : AreSeated split.children.parts split.children.places (length outs) (λ k. length (certificate_at outs k).layers)
  pub flow : AreSeated split.edges.parts split.edges.places (length outs) (λ k. length (certificate_at outs k).flow)
  pub edges : AreSeated split.edges.parts split.edges.places (length outs) (λ k. length (part_at split.parts k).edges)
  pub listed : (k i : ℕ) → k < length outs → i < length (certificate_at outs k).reversed
      → slice_index (certificate_at outs k).reversed i < length (part_at split.parts k).edges
  pub spans : spans_to (certificate_at outs) (length outs) < 2 ^ 64

-- the certificate of the whole: edges are reversed where their parts' certificates say so
pub record IsCertificateIn (split : PartLevels) (outs : List LevelOut) (c : Certificate) : Type 0 where
  pub layers : AreLayers outs split.children.parts split.children.places (length split.children.parts) c.layers
  pub flow : AreFlows outs split.edges.parts split.edges.places (length split.edges.parts) c.flow
  pub reversed : c.reversed
      ≡ filter (λ e. holds (certificate_at outs (slice_index split.edges.parts e)).reversed (slice_index split.edges.places e))
      (range_with_len 0 (length split.edges.parts))
  pub span : c.span ≡ spans_to (certificate_at outs) (length outs)
  pub parts : c.parts ≡ split.children.parts
