use Rattle.std.proofs.Common.{◌≡◌, ℕ, ◌+◌, ◌<◌, List, MatchOption, Option, arith, ap, length, refl, slice_index_or, subst, sym, below_more}
use Rattle.elk_doc.specs.declared.drawing.Placed.{Placed}
use Rattle.elk_doc.specs.Document.{Document}
use Rattle.layout_check.specs.declared.fault.Fault.{Fault}
use Rattle.layout_check.specs.declared.definition.Definition.{Definition}
use Rattle.layout_check.specs.declared.definition.Definition.TheVariants.{Apart}
use Rattle.layout_check.specs.Definitions.{Everywhere, FailsFirst, definition_at, definitions}
use Rattle.layout_check.specs.declared.verdict.Verdict.TheVariants.{No}
use Rattle.layout_check.specs.Judged.{Needs}
use Rattle.layout_check.specs.Verdicts.{IsVerdict}
use Rattle.layout_check.proofs.DrawnLaws.{needs_met, yes_by_all}
use Rattle.layout_check.proofs.verdict.first_no.Goals as goal

-- the definition that stands at a place of the list
item : (order : List Definition) (place : ℕ) → order ≡ definitions → slice_index_or order place Apart ≡ definition_at place
item order place all = ap (λ (xs : List Definition). slice_index_or xs place Apart) all

abbrev Says : Document → Placed → Option Fault → Definition → Type 0
Says d p found t = MatchOption found (Everywhere t d p) (FailsFirst t d p)

nine : (order : List Definition) (place : ℕ) → order ≡ definitions → place < length order → place < 9
nine order place all l = subst (λ (xs : List Definition). place < length xs) all l

pub first_fault-requires-clause-needs : goal.first_fault-requires-clause-needs
first_fault-requires-clause-needs c =
    let d = c.args.scene.now.doc.now in
    let p = c.args.scene.now.placed.now in
    let place = c.loop-place.place in
    let within = nine c.args.order.now place c.requires.all c.loop-place-test.true in
    subst (λ (t : Definition). Needs t d p) (sym (item c.args.order.now place c.requires.all)) (needs_met d p place within c.loop-place.invariant)

pub loop-place-preserved : goal.loop-place-preserved
loop-place-preserved c =
    let d = c.args.scene.now.doc.now in
    let p = c.args.scene.now.placed.now in
    let place = c.loop-place.place in
    let none = subst (λ (r : Option Fault). Says d p r (slice_index_or c.args.order.now place Apart)) c.in_default.is c.in_ok-found.ensures in
    below_more (λ i. Everywhere (definition_at i) d p) place c.loop-place.invariant (subst (λ (t : Definition). Everywhere t d p) (item c.args.order.now place c.requires.all) none)

-- what the definition at a place says of the first fault that it finds
refused : (d : Document) (p : Placed) (place : ℕ) (fault : Fault) → place < 9 → FailsFirst (definition_at place) d p fault → ((i : ℕ) → i < place → Everywhere (definition_at i) d p) → IsVerdict d p (No (place + 6) fault.first fault.second)
refused d p place fault within fails lower =
    record { place = place; place_in = within; number_is = refl; fails = fails; lower = lower }

pub returns-in-Some : goal.returns-in-Some
returns-in-Some c =
    let d = c.args.scene.now.doc.now in
    let p = c.args.scene.now.placed.now in
    let place = c.loop-place.place in
    let fault = c.in-Some.fault in
    let within = nine c.args.order.now place c.requires.all c.loop-place-test.true in
    let here = subst (λ (r : Option Fault). Says d p r (slice_index_or c.args.order.now place Apart)) c.in-Some.is c.in_ok-found.ensures in
    let fails = subst (λ (t : Definition). FailsFirst t d p fault) (item c.args.order.now place c.requires.all) here in
    subst (IsVerdict d p) (sym c.no_at.ensures) (refused d p place fault within fails c.loop-place.invariant)

pub returns : goal.returns
returns c =
    let up : 9 ≡ length c.args.order.now = ap (λ (xs : List Definition). length xs) (sym c.requires.all) in
    let end = c.loop-place-test.false in
    yes_by_all c.args.scene.now.doc.now c.args.scene.now.placed.now c.nodes-nodes.ensures.sound c.requires.scene.fits (λ i l. c.loop-place.invariant i (omega (arith, l, up, end)))
