-- Lists that grow by one element.
use Rattle.std.proofs.Common.{◌≡◌, ⊎_elim, ℕ, ◌+◌, ◌<◌, ◌≤◌, List, [], ◌∷◌, ◌++◌, length, get_or, sym, ap, ◌∙◌, subst, arith}
use Rattle.std.proofs.lemmas.Bool.{cases_lt}
use Rattle.std.proofs.lemmas.List.{get_or_append_left, length-append}
use Rattle.std.proofs.Math.Seq.{get_or-append_seam}
use Rattle.drawing_types.specs.declared.shape.Point.{Point}
use Rattle.drawing_types.specs.declared.shape.Rect.{Rect}
use Rattle.elk_doc.specs.declared.document.Direction.{Direction}
use Rattle.drawing_types.specs.Shapes.{origin}
use Rattle.elk_doc.specs.Drawing.{no_rect}
use Rattle.port_order.specs.declared.children.Child.{Child}
use Rattle.box_pack.specs.declared.packing.Rows.{Rows}
use Rattle.box_pack.specs.Boxes.{point_at}
use Rattle.dock_table.specs.Narrow.{IsNearRect}
use Rattle.level_split.specs.Outlines.{AreOutlines, child_in, outline_of, ports_in, rect_in}
use Rattle.level_split.specs.Placing.{StandInRows, IsBoxAt}

-- what holds of each element by its number holds with one more
pushed : {X : Type 0} (P : ℕ → X → Type 0) (z : X) (old new : List X) (x : X) (i : ℕ) → length old ≡ i → new ≡ old ++ x ∷ [] → ((j : ℕ) → j < i → P j (get_or old j z)) → P i x
    → (j : ℕ) → j < i + 1 → P j (get_or new j z)
pushed P z old new x i many is before last j h =
    subst (λ xs. P j (get_or xs j z)) (sym is)
    (⊎_elim
    (λ (less : j < i). subst (P j) (sym (get_or_append_left old (x ∷ []) z j (omega (arith, less, many)))) (before j less))
    (λ (more : i ≤ j).
    let e : length old ≡ j = omega (arith, many, more, h) in
    subst (λ m. P m (get_or (old ++ x ∷ []) m z)) e
    (subst (P (length old)) (sym (get_or-append_seam old x [] z)) (subst (λ m. P m x) (sym many) last)))
    (cases_lt j i))

one_longer : {X : Type 0} (old new : List X) (x : X) (i : ℕ) → length old ≡ i → new ≡ old ++ x ∷ [] → length new ≡ i + 1
one_longer old new x i many is = ap length is ∙ length-append old (x ∷ []) ∙ ap (λ m. m + 1) many

-- the next outline
pub outlines_more : (children : List Child) (ports : List (List Point)) (i : ℕ) (old new : List Rect) (r : Rect) (c : Child) (ps : List Point)
    → AreOutlines children ports i old → new ≡ old ++ r ∷ [] → r ≡ outline_of c ps → c ≡ child_in children i → ps ≡ ports_in ports i → IsNearRect r → AreOutlines children ports (i + 1) new
outlines_more children ports i old new r c ps are is value child places near =
    record {
      as_many = one_longer old new r i are.as_many is;
      each = pushed (λ j s. s ≡ outline_of (child_in children j) (ports_in ports j)) no_rect old new r i are.as_many is are.each
          (value ∙ ap (λ x. outline_of x ps) child ∙ ap (outline_of (child_in children i)) places);
      near = pushed (λ j s. IsNearRect s) no_rect old new r i are.as_many is are.near near;
    }

-- the next box
pub boxes_more : (way : Direction) (rows : Rows) (outlines : List Rect) (i : ℕ) (old new : List Point) (q place : Point) (r : Rect)
    → StandInRows way rows outlines i old → new ≡ old ++ q ∷ [] → IsBoxAt way rows.extent place r q → place ≡ point_at rows.at i → r ≡ rect_in outlines i → StandInRows way rows outlines (i + 1) new
boxes_more way rows outlines i old new q place r are is stands at outline =
    record {
      as_many = one_longer old new q i are.as_many is;
      each = pushed (λ j b. IsBoxAt way rows.extent (point_at rows.at j) (rect_in outlines j) b) origin old new q i are.as_many is are.each
          (subst (λ s. IsBoxAt way rows.extent (point_at rows.at i) s q) outline (subst (λ p. IsBoxAt way rows.extent p r q) at stands));
    }
