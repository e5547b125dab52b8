use Rattle.std.proofs.Common.{◌↔◌, List, IsTrue, subst, inr}
use Rattle.std.proofs.lemmas.Bool.{both_ways}
use Rattle.std.proofs.lemmas.List.Elements.{Contains-get_or}
use Rattle.layout_check.specs.Faults.{IsFirst}
use Rattle.layout_check.specs.declared.paths.Step.{Step}
use Rattle.layout_check.specs.FirstLevels.{AreSteps, ClosesAt, NeverRound}
use Rattle.layout_check.proofs.ListedLaws.{acyclic_by_steps, steps_by_acyclic}
use Rattle.layout_check.proofs.reversed.reversed_fault.Goals as goal

pub returns-then-never : goal.returns-then-never
returns-then-never c =
    let d = c.args.doc.now in
    let n = c.args.node in
    let x = c.args.certificate.now in
    let steps : AreSteps d n x c.in_ok-steps.steps.items = c.in_ok-steps.ensures in
    let first : IsFirst (ClosesAt d n x) c.in_ok-open.open = c.in_ok-open.ensures in
    let closes = subst (IsFirst (ClosesAt d n x)) c.in_default.is first in
    let P : List Step → Type 0 = λ xs. IsTrue c.in_ok-never.never ↔ NeverRound xs in
    let says = subst P c.as_slice-2.ensures.value c.in_ok-never.ensures in
    record {
      closes = λ k other l. closes _ (Contains-get_or x.reversed k other l);
      acyclic = acyclic_by_steps d n x c.in_ok-steps.steps.items steps (says.0 c.if-never.true);
    }

pub returns : goal.returns
returns c =
    let d = c.args.doc.now in
    let n = c.args.node in
    let x = c.args.certificate.now in
    let steps : AreSteps d n x c.in_ok-steps.steps.items = c.in_ok-steps.ensures in
    let first : IsFirst (ClosesAt d n x) c.in_ok-open.open = c.in_ok-open.ensures in
    let closes = subst (IsFirst (ClosesAt d n x)) c.in_default.is first in
    let P : List Step → Type 0 = λ xs. IsTrue c.in_ok-never.never ↔ NeverRound xs in
    let says = subst P c.as_slice-2.ensures.value c.in_ok-never.ensures in
    inr (closes, c.lone-2.ensures, λ a. both_ways c.in_ok-never.never c.if-never.false (says.1 (steps_by_acyclic d n x c.in_ok-steps.steps.items steps a)))
