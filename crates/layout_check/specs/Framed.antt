-- Children in the frame of their level's direction, in the order of parts and layers, and how far those before reach.
use Rattle.std.specs.Prelude.{◌≡◌, ◌⊎◌, ℕ, ◌<◌, ◌≤◌, ◌+ℤ◌, ◌≤ℤ◌, pos, List, length, slice_index_or, if◌then◌else◌}
use Rattle.elk_doc.specs.declared.document.LevelOptions.{LevelOptions}
use Rattle.elk_doc.specs.declared.drawing.Certificate.{Certificate}
use Rattle.elk_doc.specs.declared.drawing.Placed.{Placed}
use Rattle.elk_doc.specs.Document.{Document}
use Rattle.elk_doc.specs.Drawing.{layer_in, part_in}
use Rattle.elk_doc.specs.Apart.{framed}
use Rattle.drawing_types.specs.Shapes.{bottom_of, right_of}
use Rattle.layout_check.specs.declared.framed.FramedChild.{FramedChild}
use Rattle.layout_check.specs.declared.framed.Front.{Front}

-- the written part of a child, and 0 where the level is not split
abbrev pub part_of : Document → ℕ → LevelOptions → Certificate → ℕ → ℕ
part_of d n o c a = (if o.split then part_in d n c a else 0)

-- a child in the frame of its level's direction, with the asked room right of it and below
abbrev pub framed_child : Document → Placed → ℕ → LevelOptions → Certificate → ℕ → FramedChild
framed_child d p n o c a =
    record {
      node = a;
      part = part_of d n o c a;
      layer = layer_in d n c a;
      left = (framed d p o a).x;
      right = right_of (framed d p o a) +ℤ o.spacing.node_layers;
      top = (framed d p o a).y;
      bottom = bottom_of (framed d p o a) +ℤ o.spacing.node_node;
    }

-- two children of one part keep their distances
pub record AreSpaced (s t : FramedChild) : Type 0 where
  pub same_layer : s.part ≡ t.part → s.layer ≡ t.layer → (s.bottom ≤ℤ t.top) ⊎ (t.bottom ≤ℤ s.top)
  pub before : s.part ≡ t.part → s.layer < t.layer → s.right ≤ℤ t.left
  pub after : s.part ≡ t.part → t.layer < s.layer → t.right ≤ℤ s.left

-- a child stands behind the front: its part is no greater, and in the front's part its layer is no greater, and its borders
-- lie no further than those of the front
pub record IsBehind (f : Front) (t : FramedChild) : Type 0 where
  pub part : t.part ≤ f.part
  pub layer : t.part ≡ f.part → t.layer ≤ f.layer
  pub behind : t.part ≡ f.part → t.layer < f.layer → t.right ≤ℤ f.behind
  pub right : t.part ≡ f.part → t.right ≤ℤ f.right
  pub bottom : t.part ≡ f.part → t.layer ≡ f.layer → t.bottom ≤ℤ f.bottom

-- the next front has behind it a child, and all that the front had behind it, which keep their distances from that child
pub record Advances (front : Front) (child : FramedChild) (next : Front) : Type 0 where
  pub kept : (t : FramedChild) → IsBehind front t → IsBehind next t
  pub held : IsBehind next child
  pub spaced : (t : FramedChild) → IsBehind front t → AreSpaced t child

abbrev pub no_child : FramedChild
no_child = record { node = 0; part = 0; layer = 0; left = pos 0; right = pos 0; top = pos 0; bottom = pos 0 }

abbrev pub child_at : List FramedChild → ℕ → FramedChild
child_at xs i = slice_index_or xs i no_child

-- any two children of the list keep their distances
abbrev pub ArePairsApart : List FramedChild → Type 0
ArePairsApart xs = (i j : ℕ) → i < j → j < length xs → AreSpaced (child_at xs i) (child_at xs j)
