-- A drawing in which nothing is placed is one in work of which no node is laid out.
use Rattle.std.proofs.Common.{◌≡◌, ℕ, ◌<◌, List, length, map, None, sym, ap, ◌∙◌, subst, arith}
use Rattle.std.proofs.lemmas.List.{get_or-map, length-map}
use Rattle.std.proofs.Math.ListN.{get_or-map as get_or-map_all}
use Rattle.drawing_types.specs.declared.shape.Rect.{Rect}
use Rattle.drawing_types.specs.declared.shape.Size.{Size}
use Rattle.elk_doc.specs.declared.document.Node.{Node}
use Rattle.elk_doc.specs.declared.drawing.Placed.{Placed}
use Rattle.elk_doc.specs.Document.{Document, no_node, node_at}
use Rattle.drawing_types.specs.Shapes.{no_size}
use Rattle.elk_doc.specs.Drawing.{box_of, certificate_of, no_rect}
use Rattle.elk_doc.specs.Sound.{IsSound}
use Rattle.working_frame.specs.Rotated.{box_size}
use Rattle.level_io.specs.Back.{size_of}
use Rattle.level_io.specs.Canvas.{IsDrawingOf, blank_box, blank_drawing}
use Rattle.compound.specs.Work.{IsWork, given_size}

blank_at : (d : Document) (n : ℕ) → n < length d.nodes → box_of (blank_drawing d) n ≡ blank_box (node_at d n)
blank_at d n h = get_or-map blank_box d.nodes n no_node no_rect h

blank_size : (d : Document) (n : ℕ) → n < length d.nodes → box_size (blank_drawing d) n ≡ (node_at d n).size
blank_size d n h = ap size_of (blank_at d n h)

bare : (d : Document) (n : ℕ) → certificate_of (blank_drawing d) n ≡ None
bare d n = get_or-map_all (λ (m : Node). None) d.nodes n no_node

blank_work : (d : Document) → IsSound d → IsDrawingOf d (blank_drawing d) → IsWork d (blank_drawing d) (map given_size d.nodes) (length d.nodes)
blank_work d sound complete =
    record {
      complete = complete;
      as_many = length-map d.nodes given_size;
      known = λ n h. blank_size d n h ∙ sym (get_or-map given_size d.nodes n no_node no_size h);
      planned = record { leaves = λ n from h leaf. absurd (omega (arith, from, h)); levels = λ n o from h is. absurd (omega (arith, from, h)) };
      given = λ n below h. blank_size d n h;
      bare = λ n below. bare d n;
      bare_leaves = λ n h leaf. bare d n;
      rooted = record { x = ap (λ (r : Rect). r.x) (blank_at d 0 sound.tree.root); y = ap (λ (r : Rect). r.y) (blank_at d 0 sound.tree.root) };
    }

pub started : (d : Document) (p : Placed) (sizes : List Size) → IsSound d → IsDrawingOf d p → p ≡ blank_drawing d → sizes ≡ map given_size d.nodes
    → IsWork d p sizes (length d.nodes)
started d p sizes sound complete is given =
    subst (λ (q : Placed). IsWork d q sizes (length d.nodes)) (sym is)
    (subst (λ (s : List Size). IsWork d (blank_drawing d) s (length d.nodes)) (sym given) (blank_work d sound (subst (IsDrawingOf d) is complete)))
