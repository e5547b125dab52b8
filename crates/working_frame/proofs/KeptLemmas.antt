-- What the level of a node and its drawing read of a document's drawing.
use Rattle.std.proofs.Common.{◌≡◌, ℕ, suc, ◌<◌, List, [], ◌∷◌, map, length, get_or, is_some, refl, sym, ap, ap₂, ◌∙◌, subst, arith}
use Rattle.drawing_types.specs.declared.shape.Point.{Point}
use Rattle.drawing_types.specs.declared.shape.Size.{Size}
use Rattle.drawing_types.specs.declared.shape.Rect.{Rect}
use Rattle.elk_doc.specs.declared.document.Direction.{Direction}
use Rattle.elk_doc.specs.declared.document.LevelOptions.{LevelOptions}
use Rattle.drawing_types.specs.declared.section.Section.{Section}
use Rattle.elk_doc.specs.declared.drawing.Placed.{Placed}
use Rattle.elk_doc.specs.Document.{Document, node_at, port_at}
use Rattle.elk_doc.specs.Level.{children, IsChild}
use Rattle.elk_doc.specs.Shapes.{rotated}
use Rattle.drawing_types.specs.Shapes.{rect_at}
use Rattle.port_order.specs.declared.children.Child.{Child}
use Rattle.level_model.specs.Level.{PlainLevel}
use Rattle.level_model.specs.FromPlan.{LevelDrawing, point_or, section_at}
use Rattle.working_frame.specs.Rotated.{child_number, edge_number, port_number, ports_of, rotated_size, rotated_place, box_size, level_port, level_child, level_of}
use Rattle.working_frame.specs.Drawing.{IsRotatedChild, IsRotatedDrawing, IsRotatedSection, plus}
use Rattle.working_frame.specs.Kept.{AgreeAt}
use Rattle.working_frame.proofs.NumberedLemmas.{numbers_match}

map_same : (f g : ℕ → Child) (xs : List ℕ) → ((i : ℕ) → i < length xs → f (get_or xs i 0) ≡ g (get_or xs i 0)) → map f xs ≡ map g xs
map_same f g [] same = refl
map_same f g (x ∷ xs) same = ap₂ (λ y ys. y ∷ ys) (same 0 (omega arith)) (map_same f g xs (λ i h. same (suc i) (omega (arith, h))))

-- a child of a level by the size of its box
abbrev sized : Document → Direction → ℕ → Size → Child
sized d way c s =
    record {
      size = rotated_size way s;
      compound = is_some (node_at d c).level;
      rule = (node_at d c).rule;
      direction = way;
      position = (node_at d c).position;
      ports = map (level_port d way s) (ports_of d c);
    }

pub levels_read_sizes : (d : Document) (p q : Placed) (n : ℕ) (o : LevelOptions)
    → ((c : ℕ) → IsChild d n c → box_size p c ≡ box_size q c) → level_of d p n o ≡ level_of d q n o
levels_read_sizes d p q n o same =
    let f : List Child → PlainLevel = λ cs. record { children = cs; edges = (level_of d p n o).edges; spacing = o.spacing; choices = o.choices } in
    ap f (map_same (level_child d p o.direction) (level_child d q o.direction) (children d n)
    (λ i h. ap (sized d o.direction (child_number d n i)) (same (child_number d n i) ((numbers_match d n).children.meant i h))))

child_kept : (d : Document) (p q : Placed) (n : ℕ) (way : Direction) (v : LevelDrawing) (by : Point) → AgreeAt d p q n
    → (i c : ℕ) → IsChild d n c → IsRotatedChild d p way v by i c → IsRotatedChild d q way v by i c
child_kept d p q n way v by a i c h t =
    let same = a.boxes c h in
    let of_rect : Rect → Size = λ r. record { width = r.width; height = r.height } in
    let size : box_size p c ≡ box_size q c = ap of_rect same in
    record {
      box = ap (rotated way) (sym same) ∙ t.box ∙ ap (λ s. rect_at (plus by (point_or v.boxes i)) (rotated_size way s)) size;
      ports = λ j k.
          let m = port_number d c j in
          ap₂ (λ s z. rotated_place way s (port_at d m).size z) (sym size) (sym (a.ports c m h ((numbers_match d c).ports.meant j k))) ∙ t.ports j k;
    }

pub drawings_read_levels : (d : Document) (p q : Placed) (n : ℕ) (way : Direction) (v : LevelDrawing) (by : Point)
    → AgreeAt d p q n → IsRotatedDrawing d p n way v by → IsRotatedDrawing d q n way v by
drawings_read_levels d p q n way v by a t =
    record {
      children = λ i h. child_kept d p q n way v by a i (child_number d n i) ((numbers_match d n).children.meant i h) (t.children i h);
      sections = λ i h. subst (λ (s : Section). IsRotatedSection way by s (section_at v i)) (a.sections (edge_number d n i) ((numbers_match d n).edges.meant i h)) (t.sections i h);
    }
