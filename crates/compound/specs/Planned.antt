-- The drawing of a document comes, level by level, from layouts of its levels.
use Rattle.std.specs.Prelude.{◌≡◌, ℕ, ◌<◌, ◌≤◌, [], ◌∷◌, length, ℤ, IsFalse, IsNone, IsTrue, Some, slice_index_or}
use Rattle.elk_doc.specs.declared.document.LevelOptions.{LevelOptions}
use Rattle.elk_doc.specs.declared.drawing.Placed.{Placed}
use Rattle.elk_doc.specs.Document.{Document, node_at, port_at}
use Rattle.elk_doc.specs.Drawing.{port_place}
use Rattle.elk_doc.specs.Fits.{KeepsSize}
use Rattle.level_model.specs.declared.level.LevelIn.{LevelIn}
use Rattle.level_model.specs.Conditions.{plain_level}
use Rattle.level_model.specs.FromPlan.{point_or}
use Rattle.level_model.specs.Level.{PlainLevel}
use Rattle.level_draw.specs.declared.drawing.LevelOut.{LevelOut}
use Rattle.level_draw.specs.Drawing.{drawn_in}
use Rattle.level_layout.specs.Layout.{IsLaidOut}
use Rattle.working_frame.specs.Rotated.{box_size, level_child, level_of, port_number, ports_of, rotated_place}
use Rattle.working_frame.specs.Drawing.{IsRotatedDrawing}
use Rattle.rotated_levels.specs.Framed.{start_of}
use Rattle.level_io.specs.Sizes.{IsSizeRound}
use Rattle.level_io.specs.Written.{HasCertificate}
use Rattle.compound.specs.Boxed.{IsBoxedPlan}
use Rattle.compound.specs.Parted.{IsPartedPlan}

-- The level of n, which has these options, comes from a layout of its children, with their sizes in the drawing, and its edges,
-- in the frame of its direction: its boxes, ports and routes are those of the layout, rotated back and moved to begin at the
-- padding; its certificate is the layout's, with the document's numbers of edges; and the node has the size that this content
-- and its pinned ports need.
pub record IsLayeredPlan (d : Document) (p : Placed) (n : ℕ) (o : LevelOptions) : Type 0 where
  pub level : LevelIn
  pub out : LevelOut
  pub is : plain_level level ≡ level_of d p n o
  pub fixed : level.fixed ≡ o.fixed
  pub placing : level.placing ≡ o.placing
  pub laid_out : IsLaidOut level out
  pub certificate : HasCertificate d n p out.certificate
  pub drawn : (left top : ℤ) → IsRotatedDrawing d p n o.direction (drawn_in out left top) (start_of o.direction o.padding out.extent)
  pub size : IsSizeRound d n o out.extent (box_size p n)

-- The level of n, which has these options, comes from a layout of it: as a level of boxes where it is one, and part by part where
-- its connected parts are to stand apart.
pub record IsPlannedLevel (d : Document) (p : Placed) (n : ℕ) (o : LevelOptions) : Type 0 where
  pub layered : IsFalse o.boxes → IsFalse o.split → IsLayeredPlan d p n o
  pub parted : IsTrue o.split → IsPartedPlan d p n o
  pub boxed : IsTrue o.boxes → IsBoxedPlan d p n o

-- the root as a child: alone in a level of its own direction, without edges
abbrev pub root_level : Document → Placed → LevelOptions → PlainLevel
root_level d p o = record { children = level_child d p o.direction 0 ∷ []; edges = []; spacing = o.spacing; choices = o.choices }

-- The ports of the root stand at it as those of this child do in a layout of that level, rotated back.
pub record RootPortsStand (d : Document) (p : Placed) (o : LevelOptions) : Type 0 where
  pub level : LevelIn
  pub out : LevelOut
  pub is : plain_level level ≡ root_level d p o
  pub laid_out : IsLaidOut level out
  pub ports : (j : ℕ) → j < length (ports_of d 0)
      → rotated_place o.direction (box_size p 0) (port_at d (port_number d 0 j)).size (port_place p (port_number d 0 j))
      ≡ point_or (slice_index_or out.ports 0 []) j

-- every level comes from a layout, and so do the ports of the root
pub record Planned (d : Document) (p : Placed) : Type 0 where
  pub levels : (n : ℕ) (o : LevelOptions) → n < length d.nodes → (node_at d n).level ≡ Some o → IsPlannedLevel d p n o
  pub root : (o : LevelOptions) → (node_at d 0).level ≡ Some o → RootPortsStand d p o

-- The nodes from m on have their sizes: leaves keep theirs, and levels come from layouts.
pub record ArePlannedFrom (d : Document) (p : Placed) (m : ℕ) : Type 0 where
  pub leaves : (n : ℕ) → m ≤ n → n < length d.nodes → IsNone (node_at d n).level → KeepsSize d p n
  pub levels : (n : ℕ) (o : LevelOptions) → m ≤ n → n < length d.nodes → (node_at d n).level ≡ Some o → IsPlannedLevel d p n o
