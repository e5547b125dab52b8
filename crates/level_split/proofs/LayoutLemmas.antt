-- What the steps of a layout as boxes come to.
use Rattle.std.proofs.Common.{◌≡◌, ℕ, ◌<◌, ◌≤◌, List, map, length, refl, sym, ap, ◌∙◌, subst, arith}
use Rattle.std.proofs.lemmas.List.{get_or_default, length-map}
use Rattle.drawing_types.specs.declared.shape.Point.{Point}
use Rattle.drawing_types.specs.declared.shape.Rect.{Rect}
use Rattle.drawing_types.specs.declared.shape.Size.{Size}
use Rattle.elk_doc.specs.declared.document.Direction.{Direction}
use Rattle.elk_doc.specs.declared.document.Direction.TheVariants.{Right, Left, Down, Up}
use Rattle.drawing_types.specs.Shapes.{no_size, origin}
use Rattle.elk_doc.specs.Sound.{IsDistance}
use Rattle.box_pack.specs.declared.squarest.Squarest.{Squarest}
use Rattle.box_pack.specs.Boxes.{AreSizes}
use Rattle.box_pack.specs.Squareness.{IsSquarest}
use Rattle.level_model.specs.declared.level.LevelIn.{LevelIn}
use Rattle.level_model.specs.Conditions.{IsLevel, plain_level}
use Rattle.level_draw.specs.declared.drawing.LevelOut.{LevelOut}
use Rattle.level_layout.specs.Layout.{IsLaidOut}
use Rattle.working_frame.specs.Ranges.{IsFarPoint}
use Rattle.working_frame.specs.Rotated.{rotated_size}
use Rattle.level_split.specs.Boxes.{HasRoom, IsBoxesLayout, alone}
use Rattle.level_split.specs.Outlines.{AreOutlines, outline_size}
use Rattle.level_split.specs.Placing.{StandInRows, AreRoomy, IsBroad}
use Rattle.level_split.proofs.BoxesOutLemmas.{high_small, wide_small}
use Rattle.level_split.proofs.RoomLemmas.{roomy, sizes_small}

rotated_broad : (way : Direction) (s : Size) → IsBroad s → IsBroad (rotated_size way s)
rotated_broad Right s h = h
rotated_broad Left s h = h
rotated_broad Down s h = record { width = h.height; height = h.width }
rotated_broad Up s h = record { width = h.height; height = h.width }

-- a level, what it is without edges, a layout of that, and outlines by the children and ports that are handed on
module _ (level own : LevelIn) (way : Direction) (out : LevelOut) (outlines : List Rect) (whole : IsLevel (plain_level level)) (is : own ≡ alone level) (laid : IsLaidOut own out)
    (are : AreOutlines own.children out.ports (length own.children) outlines) where
  same_children : length own.children ≡ length level.children
  same_children = ap (λ (l : LevelIn). length l.children) is

  count : length outlines ≡ length own.children
  count = are.as_many

  inside : (i : ℕ) → i < length outlines → i < length own.children
  inside i h = subst (λ m. i < m) count h

  pub few : length outlines ≤ 2048
  few = let many = whole.few_children in omega (arith, many, same_children, count)

  pub sizes : AreSizes (map (outline_size way) outlines)
  sizes =
      sizes_small way outlines (λ i h. are.near i (inside i h)) (λ i h. wide_small own out laid outlines are i (inside i h)) (λ i h. high_small own out laid outlines are i (inside i h))

  pub distance : IsDistance own.spacing.node_node
  distance = subst (λ (l : LevelIn). IsDistance l.spacing.node_node) (sym is) whole.spacing.node_node

  module _ (squarest : Squarest) (best : IsSquarest (map (outline_size way) outlines) own.spacing.node_node squarest) where
    pub rows_roomy : AreRoomy squarest.rows outlines
    rows_roomy =
        let many = length-map outlines (outline_size way) in
        roomy (map (outline_size way) outlines) own.spacing.node_node squarest.limit squarest.rows (omega (arith, many, few)) (λ i h. sizes i no_size h) distance best.rows
        outlines many (λ i h. are.near i (inside i h))

    module _ (boxes : List Point) (extent : Size) (placed : StandInRows way squarest.rows outlines (length outlines) boxes) (rotated : extent ≡ rotated_size way squarest.rows.extent) where
      pub laid_out : IsBoxesLayout level way (record { boxes = boxes; ports = out.ports; extent = extent })
      laid_out =
          let there : (i : ℕ) → i < length level.children → i < length outlines = λ i h. omega (arith, h, same_children, count) in
          record {
            out = out;
            laid_out = subst (λ l. IsLaidOut l out) is laid;
            ports = refl;
            outlines = outlines;
            are_outlines = subst (λ (l : LevelIn). AreOutlines l.children out.ports (length l.children) outlines) is are;
            squarest = squarest;
            is_squarest = subst (λ (l : LevelIn). IsSquarest (map (outline_size way) outlines) l.spacing.node_node squarest) is best;
            box_count = placed.as_many ∙ count ∙ same_children;
            boxes = λ i h. (placed.each i (there i h)).stands;
            extent = rotated;
          }

      pub has_room : HasRoom (record { boxes = boxes; ports = out.ports; extent = extent })
      has_room =
          let many = placed.as_many in
          record {
            boxes = λ i z h. subst IsFarPoint (get_or_default boxes i origin z h) (placed.each i (omega (arith, h, many))).far;
            extent = subst IsBroad (sym rotated) (rotated_broad way squarest.rows.extent rows_roomy.extent);
          }
