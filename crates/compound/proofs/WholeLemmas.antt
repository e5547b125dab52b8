-- All levels of a drawing that comes from layouts, and that it fits its document.
use Rattle.std.proofs.Common.{◌≡◌, ℕ, zero, suc, ◌+◌, ◌<◌, ◌^◌, true, false, ℤ, pos, length, refl, sym, subst, ◌∙◌, arith, eq-eqb, rules}
use Rattle.std.proofs.lemmas.Int.{ints}
use Rattle.std.specs.Prelude.{Option, None, Some, IsSome, IsNone, unwrap_or}
use Rattle.elk_doc.specs.declared.document.LevelOptions.{LevelOptions}
use Rattle.elk_doc.specs.declared.drawing.Certificate.{Certificate}
use Rattle.elk_doc.specs.declared.drawing.Placed.{Placed}
use Rattle.elk_doc.specs.Document.{Document, node_at, parent_of}
use Rattle.elk_doc.specs.Level.{IsChild, is_number}
use Rattle.elk_doc.specs.Drawing.{box_of, certificate_of}
use Rattle.elk_doc.specs.Fits.{FitsLevel, HasCertificates, IsSolid}
use Rattle.elk_doc.specs.PortsKept.{KeepsPorts}
use Rattle.elk_doc.specs.Sound.{IsSound}
use Rattle.drawing_types.specs.Ranges.{IsWithin}
use Rattle.rotated_levels.specs.Levels.{IsWellDrawn}
use Rattle.drawing_laws.specs.Held.{IsHeld}
use Rattle.drawing_laws.proofs.HeldLemmas.{held_drawings_are_small, held_drawings_fit}
use Rattle.compound.proofs.NestedLemmas.{planned_boxes_are_small}
use Rattle.compound.proofs.KeptLemmas.{root_ports_are_kept}
use Rattle.compound.specs.Planned.{ArePlannedFrom}
use Rattle.compound.specs.Whole.{DocumentsAreDrawn, IsLaidOutDocument}
use Rattle.compound.proofs.RuleLemmas.{IsPlannedDrawing, planned_drawing}

-- a node that is not the root is a child of its parent
some_number : (o : Option ℕ) → IsSome o → is_number o (unwrap_or o 0) ≡ true
some_number None h = absurd (let bad : false ≡ true = h in cc)
some_number (Some n) h = eq-eqb n n refl

module _ (d : Document) (p : Placed) (sound : IsSound d) (laid : IsLaidOutDocument d p) where
  planned_from : (m : ℕ) → ArePlannedFrom d p m
  planned_from m =
      record { leaves = λ n h there leaf. laid.leaves n there leaf; levels = λ n o h there options. laid.planned.levels n o there options }

  own_child : (n : ℕ) → 0 < n → n < length d.nodes → IsChild d (parent_of d n) n
  own_child n above there = record { node_in = there; child = some_number (node_at d n).parent (sound.tree.parents n above there).parent }

  child_after : (n c : ℕ) → IsChild d n c → c < length d.nodes
  child_after n c h = h.node_in

  solid : (c : ℕ) → c < length d.nodes → IsSolid (box_of p c)
  solid c h =
      let small = planned_boxes_are_small d p c sound h (planned_from c) in
      record { width = small.width.above; height = small.height.above }

  level_drawn : (n : ℕ) (o : LevelOptions) → n < length d.nodes → (node_at d n).level ≡ Some o → IsPlannedDrawing d p n o
  level_drawn n o there options = planned_drawing d p n o sound laid.leaves there options (laid.planned.levels n o there options)

  -- the ports of every node are kept
  kept : (n : ℕ) → n < length d.nodes → KeepsPorts d p n
  kept zero h = root_kept (node_at d 0).level refl sound.levels.root
    where
      root_kept : (level : Option LevelOptions) → (node_at d 0).level ≡ level → IsSome level → KeepsPorts d p 0
      root_kept None e some = absurd (let bad : false ≡ true = some in cc)
      root_kept (Some o) e some = root_ports_are_kept d p o sound e (laid.planned.root o e)
  kept (suc n) h = by_parent (node_at d (parent_of d (suc n))).level refl (sound.levels.parents (suc n) (omega arith) h)
    where
      by_parent : (level : Option LevelOptions) → (node_at d (parent_of d (suc n))).level ≡ level → IsSome level → KeepsPorts d p (suc n)
      by_parent None e some = absurd (let bad : false ≡ true = some in cc)
      by_parent (Some o) e some =
          let before = (sound.tree.parents (suc n) (omega arith) h).before in
          let there : parent_of d (suc n) < length d.nodes = omega (arith, before, h) in
          (level_drawn (parent_of d (suc n)) o there e).ports (suc n) (own_child (suc n) (omega arith) h)

  same_some : (a b : Certificate) → Some a ≡ Some b → a ≡ b
  same_some a b e = search rules

  drawn_level : (n : ℕ) (o : LevelOptions) (c : Certificate) → n < length d.nodes → (node_at d n).level ≡ Some o → certificate_of p n ≡ Some c → IsWellDrawn d p n o c
  drawn_level n o c there options is =
      let level = level_drawn n o there options in
      subst (IsWellDrawn d p n o) (same_some level.certificate c (sym level.is_written ∙ is)) (level.drawn (λ c h. solid c h.node_in) (kept n there))

  -- ---- the form of the drawing

  certificates : HasCertificates d p
  certificates n there = by_level (node_at d n).level refl
    where
      by_level : (level : Option LevelOptions) → (node_at d n).level ≡ level → FitsLevel d n level (certificate_of p n)
      by_level None e = subst (FitsLevel d n None) (sym (laid.bare n there (subst IsNone (sym e) refl))) tt
      by_level (Some o) e =
          let level = level_drawn n o there e in subst (FitsLevel d n (Some o)) (sym level.is_written) level.fits

  held : IsHeld d p
  held =
      record {
        counts = record { boxes = laid.complete.boxes; ports = laid.complete.ports; sections = laid.complete.sections; levels = laid.complete.levels };
        root = laid.rooted;
        leaves = laid.leaves;
        certificates = certificates;
        sizes = λ n there.
            let small = planned_boxes_are_small d p n sound there (planned_from n) in
            record { width = wider _ small.width; height = wider _ small.height };
        inside = λ n o there options.
            let level = level_drawn n o there options in (level.drawn (λ c h. solid c h.node_in) (kept n there)).drawn.inside;
        root_ports = kept 0 sound.tree.root;
      }
    where
      wider : (z : ℤ) → IsWithin (pos 0) (pos (2 ^ 45 + 2 ^ 37)) z → IsWithin (pos 0) (pos (2 ^ 51)) z
      wider z h = let low = h.above in let high = h.below in record { above = low; below = omega (arith, ints, high) }

pub documents_are_drawn : DocumentsAreDrawn
documents_are_drawn d p sound laid =
    record {
      drawn = record { fits = held_drawings_fit d p sound (held d p sound laid); levels = λ n o c there options is. (drawn_level d p sound laid n o c there options is).drawn };
      fitted = λ n o c there options is. (drawn_level d p sound laid n o c there options is).fitted;
      small = held_drawings_are_small d p sound (held d p sound laid);
    }
