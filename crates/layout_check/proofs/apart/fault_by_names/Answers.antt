use Rattle.std.proofs.Common.{ℕ, Option, Some, None, MatchOption, inl, inr}
use Rattle.layout_check.specs.declared.fault.Fault.{Fault}
use Rattle.elk_doc.specs.Apart.{Apart}
use Rattle.layout_check.specs.FirstApart.{FirstApart, PartHolds, LayersHold, PartsHold}
use Rattle.layout_check.specs.Levels.{at_level}
use Rattle.layout_check.proofs.PartLaws.{apart_by_sentences}
use Rattle.layout_check.proofs.apart.fault_by_names.Goals as goal

weaker : (r : Option Fault) (P Q : Type 0) (R S : Fault → Type 0) → (P → Q) → ((x : Fault) → R x → S x) → MatchOption r P R → MatchOption r Q S
weaker None P Q R S f g h = f h
weaker (Some x) P Q R S f g h = g x h

pub returns-in-Some-part_fault_unless : goal.returns-in-Some-part_fault_unless
returns-in-Some-part_fault_unless c =
    let right : (a : ℕ) → PartHolds c.args.level.now.scene.now.doc.now c.args.level.now.node c.args.level.now.options.now c.args.level.now.certificate.now a = c.in_default.ensures in
    let near : (a b : ℕ) → at_level LayersHold c.args.level.now a b = c.in_default-near_fault_unless.ensures in
    inr (right, inr (near, inl c.in-Some-part_fault_unless.ensures))

pub returns : goal.returns
returns c =
    let d = c.args.level.now.scene.now.doc.now in
    let p = c.args.level.now.scene.now.placed.now in
    let n = c.args.level.now.node in
    let o = c.args.level.now.options.now in
    let x = c.args.level.now.certificate.now in
    let right : (a : ℕ) → PartHolds d n o x a = c.in_default.ensures in
    let near : (a b : ℕ) → LayersHold d p n o x a b = c.in_default-near_fault_unless.ensures in
    let far : (a b : ℕ) → PartsHold d p n o x a b = c.in_default-part_fault_unless.ensures in
    weaker c.box_fault.result _ (Apart d p n o x) _ (FirstApart d p n o x)
    (λ boxes. apart_by_sentences d p n o x c.args.names.now c.requires.sound c.requires.names right near far boxes)
    (λ f first. inr (right, inr (near, inr (far, first))))
    c.box_fault.ensures
