-- Each sentence follows from Apart.
use Rattle.std.proofs.Common.{◌≡◌, ℕ, ◌<◌, arith, refl, sym, inl, inr}
use Rattle.elk_doc.specs.declared.document.LevelOptions.{LevelOptions}
use Rattle.elk_doc.specs.declared.drawing.Certificate.{Certificate}
use Rattle.elk_doc.specs.declared.drawing.Placed.{Placed}
use Rattle.elk_doc.specs.Document.{Document}
use Rattle.elk_doc.specs.Drawing.{part_in}
use Rattle.elk_doc.specs.Apart.{Apart}
use Rattle.layout_check.specs.FirstApart.{BoxesHold, FaultBreaksApart, LayersHold, PartHolds, PartsHold}

ascending_differ : (a b : ℕ) → a < b → a ≡ b → ⊥
ascending_differ a b l e = absurd (omega (arith, l, e))

module _ (d : Document) (p : Placed) (n : ℕ) (o : LevelOptions) (c : Certificate) (apart : Apart d p n o c) where
  part_right : (a : ℕ) → PartHolds d n o c a
  part_right a split child =
      let numbers = apart.numbered split in
      (part_in d n c, record { same = numbers.same; in_order = numbers.in_order }, refl)

  layers_right : (a b : ℕ) → LayersHold d p n o c a b
  layers_right a b layered ca cb l part =
      (apart.layers layered a b ca cb (ascending_differ a b l) part, apart.layers layered b a cb ca (λ e. ascending_differ a b l (sym e)) (λ split. sym (part split)))

  parts_right : (a b : ℕ) → PartsHold d p n o c a b
  parts_right a b split la lb l =
      apart.parts split a b la.child lb.child (λ same. let back = lb.least a la.child same in absurd (omega (arith, back, l)))

  boxes_right : (a b : ℕ) → BoxesHold d p n o a b
  boxes_right a b boxes ca cb l = apart.boxes boxes a b ca cb (ascending_differ a b l)

pub fault_breaks : FaultBreaksApart
fault_breaks d p n o c x (inl f) apart = f.first.fails (part_right d p n o c apart f.child)
fault_breaks d p n o c x (inr (_, inl f)) apart = f.first.fails (layers_right d p n o c apart f.one f.other)
fault_breaks d p n o c x (inr (_, inr (_, inl f))) apart = f.first.fails (parts_right d p n o c apart f.one f.other)
fault_breaks d p n o c x (inr (_, inr (_, inr (_, f)))) apart = f.first.fails (boxes_right d p n o c apart f.one f.other)
