-- A drawing all of whose nodes are laid out, with the ports of its root, is one of the whole document.
use Rattle.std.proofs.Common.{◌≡◌, ℕ, List, get_or, None, sym, ap, ◌∙◌, arith}
use Rattle.std.proofs.lemmas.Int.{ints}
use Rattle.drawing_types.specs.declared.shape.Rect.{Rect}
use Rattle.drawing_types.specs.declared.shape.Size.{Size}
use Rattle.elk_doc.specs.declared.drawing.Placed.{Placed}
use Rattle.elk_doc.specs.Document.{Document}
use Rattle.elk_doc.specs.Drawing.{box_of, certificate_of, no_rect, no_section}
use Rattle.elk_doc.specs.Fits.{KeepsSize}
use Rattle.elk_doc.specs.Sound.{IsSound}
use Rattle.working_frame.specs.Kept.{AgreeAt}
use Rattle.working_frame.specs.Rotated.{box_size}
use Rattle.level_io.specs.Back.{size_of}
use Rattle.compound.proofs.PlanLemmas.{plans_stay}
use Rattle.compound.proofs.NestedLemmas.{planned_boxes_are_small}
use Rattle.compound.specs.Rooted.{AreRootPortsPlaced, IsRootBox}
use Rattle.compound.specs.Whole.{IsLaidOutDocument, IsWellDrawnDocument}
use Rattle.compound.proofs.WholeLemmas.{documents_are_drawn}
use Rattle.compound.specs.Work.{IsWork}
use Rattle.compound.proofs.TreeLemmas.{child_after}

-- the box of the root has its size
pub root_box : (d : Document) (p : Placed) (sizes : List Size) → IsSound d → IsWork d p sizes 0 → IsRootBox (box_of p 0)
root_box d p sizes sound work =
    let small = planned_boxes_are_small d p 0 sound sound.tree.root work.planned in
    let wide = small.width.below in
    let high = small.height.below in
    record { width = record { above = small.width.above; below = omega (arith, ints, wide) }; height = record { above = small.height.above; below = omega (arith, ints, high) } }

module _ (d : Document) (p q : Placed) (sizes : List Size) (sound : IsSound d) (work : IsWork d p sizes 0) (root : AreRootPortsPlaced d p q) where
  box_kept : (n : ℕ) → box_of q n ≡ box_of p n
  box_kept n = ap (λ bs. get_or bs n no_rect) root.boxes

  certificate_kept : (n : ℕ) → certificate_of q n ≡ certificate_of p n
  certificate_kept n = ap (λ levels. get_or levels n None) root.levels

  size_kept : (n : ℕ) → box_size p n ≡ box_size q n
  size_kept n = ap size_of (sym (box_kept n))

  agree : (n : ℕ) → AgreeAt d p q n
  agree n =
      record {
        boxes = λ c h. sym (box_kept c);
        ports = λ c k h of.
            let own = of.of_node in
            let after = child_after d n c sound h in
            sym (root.others k (λ first. omega (arith, after, own, first)));
        sections = λ e h. ap (λ ss. get_or ss e no_section) (sym root.sections);
      }

  leaf_kept : (n : ℕ) → KeepsSize d p n → KeepsSize d q n
  leaf_kept n h = record { width = ap (λ (r : Rect). r.width) (box_kept n) ∙ h.width; height = ap (λ (r : Rect). r.height) (box_kept n) ∙ h.height }

  pub laid_out : IsLaidOutDocument d q
  laid_out =
      record {
        complete = root.complete;
        rooted = record { x = ap (λ (r : Rect). r.x) (box_kept 0) ∙ work.rooted.x; y = ap (λ (r : Rect). r.y) (box_kept 0) ∙ work.rooted.y };
        leaves = λ n there leaf. leaf_kept n (work.planned.leaves n (omega arith) there leaf);
        bare = λ n there leaf. certificate_kept n ∙ work.bare_leaves n there leaf;
        planned = record {
          levels = λ n o there is. plans_stay d p q n o (agree n) (sym (certificate_kept n)) (size_kept n) (work.planned.levels n o (omega arith) there is);
          root = root.stand;
        };
      }

  pub well_drawn : IsWellDrawnDocument d q
  well_drawn = documents_are_drawn d q sound laid_out
