-- What is gathered from the layouts of parts.
use Rattle.std.specs.Prelude.{◌≡◌, ℕ, ◌<◌, ◌^◌, Bool, true, false, List, [], length, map, pos, slice_index, slice_index_or, Vec}
use Rattle.std.specs.Global.{Global}
use Rattle.std.specs.List.{All}
use Rattle.drawing_types.specs.declared.shape.Point.{Point}
use Rattle.drawing_types.specs.declared.shape.Size.{Size}
use Rattle.elk_doc.specs.declared.drawing.Certificate.{Certificate}
use Rattle.drawing_types.specs.declared.section.Section.{Section}
use Rattle.drawing_types.specs.Shapes.{no_size}
use Rattle.drawing_types.specs.Ranges.{IsWithin}
use Rattle.box_pack.specs.Boxes.{point_at}
use Rattle.rotated_levels.specs.Joined.{moved_section}
use Rattle.level_draw.specs.declared.drawing.LevelOut.{LevelOut}
use Rattle.level_draw.specs.Drawing.{drawn_in}
use Rattle.level_layout.specs.Layout.{IsLaidOut}
use Rattle.level_model.specs.FromPlan.{LevelDrawing, point_or, section_at}
use Rattle.level_model.specs.Level.{holds}
use Rattle.level_parts.specs.declared.levels.PartLevel.{PartLevel}
use Rattle.level_parts.specs.Split.{part_at}
use Rattle.working_frame.specs.Drawing.{plus}

-- the drawing, the certificate and the extent of part k
abbrev pub no_drawing : LevelDrawing
no_drawing = record { gaps = []; traces = []; boxes = []; ports = []; sections = []; extent = no_size; left = pos 0; top = pos 0 }

abbrev pub no_certificate : Certificate
no_certificate = record { layers = []; reversed = []; flow = []; span = 0; parts = [] }

abbrev pub drawing_of : LevelOut → LevelDrawing
drawing_of v = drawn_in v (pos 0) (pos 0)

abbrev pub drawing_at : List LevelOut → ℕ → LevelDrawing
drawing_at outs k = slice_index_or (map drawing_of outs) k no_drawing

abbrev pub certificate_at : List LevelOut → ℕ → Certificate
certificate_at outs k = slice_index_or (map (λ (v : LevelOut). v.certificate) outs) k no_certificate

abbrev pub extents_of : List LevelOut → List Size
extents_of outs = map (λ (v : LevelOut). v.extent) outs

-- the first n parts are laid out, each as a level of its own
pub record AreLayouts (parts : List PartLevel) (n : ℕ) (outs : List LevelOut) : Type 0 where
  pub as_many : length outs ≡ n
  pub each : (k : ℕ) (v : LevelOut) → k < n → IsLaidOut (part_at parts k).level (slice_index_or outs k v)

-- points that lie within a part, and places of parts
pub record IsInPart (p : Point) : Type 0 where
  pub x : IsWithin (pos 0) (pos (2 ^ 48)) p.x
  pub y : IsWithin (pos 0) (pos (2 ^ 48)) p.y

pub record IsPartPlace (p : Point) : Type 0 where
  pub x : IsWithin (pos 0) (pos (2 ^ 59)) p.x
  pub y : IsWithin (pos 0) (pos (2 ^ 59)) p.y

-- a section all of whose points lie within a part
pub record IsSectionInPart (s : Section) : Type 0 where
  pub start : IsInPart s.start
  pub bends : All IsInPart s.bends
  pub end : IsInPart s.end

-- Each thing has a part, which is there, and there its place.
pub record AreSeated (parts places : List ℕ) (count : ℕ) (many : ℕ → ℕ) : Type 0 where
  pub as_many : length places ≡ length parts
  pub part : (i : ℕ) → i < length parts → slice_index parts i < count
  pub place : (i : ℕ) → i < length parts → slice_index places i < many (slice_index parts i)

-- the drawings of parts have their boxes and sections within the parts, and there is a place for each part
pub record ArePartDrawings (outs : List LevelOut) (at : List Point) : Type 0 where
  pub as_many : length at ≡ length outs
  pub places : (k : ℕ) → k < length outs → IsPartPlace (point_at at k)
  pub boxes : (k i : ℕ) → k < length outs → i < length (drawing_at outs k).boxes → IsInPart (point_or (drawing_at outs k).boxes i)
  pub sections : (k i : ℕ) → k < length outs → i < length (drawing_at outs k).sections → IsSectionInPart (section_at (drawing_at outs k) i)

-- the boxes, the ports and the sections of the first n things
pub record AreBoxes (outs : List LevelOut) (at : List Point) (parts places : List ℕ) (n : ℕ) (boxes : List Point) : Type 0 where
  pub as_many : length boxes ≡ n
  pub each : (i : ℕ) → i < n
      → point_or boxes i
      ≡ plus (point_at at (slice_index parts i)) (point_or (drawing_at outs (slice_index parts i)).boxes (slice_index places i))

pub record ArePorts (outs : List LevelOut) (parts places : List ℕ) (n : ℕ) (ports : List (List Point)) : Type 0 where
  pub as_many : length ports ≡ n
  pub each : (i : ℕ) → i < n
      → slice_index_or ports i [] ≡ slice_index_or (drawing_at outs (slice_index parts i)).ports (slice_index places i) []

abbrev pub section_in : List Section → ℕ → Section
section_in sections i = slice_index_or sections i (record {
  start = record { x = pos 0; y = pos 0 };
  bends = [];
  end = record { x = pos 0; y = pos 0 };
})

pub record AreSections (outs : List LevelOut) (at : List Point) (parts places : List ℕ) (n : ℕ) (sections : List Section) : Type 0 where
  pub as_many : length sections ≡ n
  pub each : (i : ℕ) → i < n
      → section_in sections i
      ≡ moved_section (point_at at (slice_index parts i)) (section_at (drawing_at outs (slice_index parts i)) (slice_index places i))

-- the layers of the first n children, and the flows of the first n edges
pub record AreLayers (outs : List LevelOut) (parts places : List ℕ) (n : ℕ) (layers : List ℕ) : Type 0 where
  pub as_many : length layers ≡ n
  pub each : (i : ℕ) → i < n → slice_index layers i ≡ slice_index (certificate_at outs (slice_index parts i)).layers (slice_index places i)

pub record AreFlows (outs : List LevelOut) (parts places : List ℕ) (n : ℕ) (flow : List ℕ) : Type 0 where
  pub as_many : length flow ≡ n
  pub each : (i : ℕ) → i < n → slice_index flow i ≡ slice_index (certificate_at outs (slice_index parts i)).flow (slice_index places i)

-- a mark for each number below a count: whether it is among the first n of those that are listed
pub record AreMarked (listed : List ℕ) (count n : ℕ) (marks : List Bool) : Type 0 where
  pub as_many : length marks ≡ count
  pub held : (q : ℕ) → q < count → (i : ℕ) → i < n → slice_index listed i ≡ q → slice_index_or marks q false ≡ true
  pub found : (q : ℕ) → q < count → slice_index_or marks q false ≡ true → (i : ℕ) × (i < n) × (slice_index listed i ≡ q)

-- so for each part the edges that are reversed
pub record AreReversals (outs : List LevelOut) (many : ℕ → ℕ) (n : ℕ) (marks : List (List Bool)) : Type 0 where
  pub as_many : length marks ≡ n
  pub long : (k : ℕ) → k < n → length (slice_index_or marks k []) ≡ many k
  pub each : (k q : ℕ) → k < n → q < many k → slice_index_or (slice_index_or marks k []) q false ≡ holds (certificate_at outs k).reversed q

abbrev pub marks_in : List (Vec Bool Global) → List (List Bool)
marks_in marks = map (λ row. row.items) marks

-- whether a thing is marked, by its part and its place there
abbrev pub is_marked : List (List Bool) → List ℕ → List ℕ → ℕ → Bool
is_marked marks parts places i = slice_index_or (slice_index_or marks (slice_index parts i) []) (slice_index places i) false
