use Rattle.std.proofs.Common.{◌↔◌, ℕ, List, Contains, IsTrue, subst}
use Rattle.elk_doc.specs.Paths.{Reaches}
use Rattle.layout_check.specs.declared.paths.Step.{Step}
use Rattle.layout_check.specs.Steps.{HasStep}
use Rattle.layout_check.proofs.ListedLaws.{reach_listed, reach_unlisted}
use Rattle.layout_check.proofs.reversed.closes_at.Goals as goal

pub returns : goal.returns
returns c =
    let P : Step → Type 0 = λ s. IsTrue c.in_ok-found.found ↔ Reaches (HasStep c.args.steps.now) s.to s.from in
    let says = subst P c.step_of-step.ensures.value c.in_ok-found.ensures in
    let L : List ℕ → Type 0 = λ xs. IsTrue c.contains.result ↔ Contains xs c.args.edge in
    let has = (subst L c.as_slice.ensures.value c.contains.ensures).0 c.if-not-contains.false in (
      λ t _. reach_unlisted c.args.doc.now c.args.node c.args.certificate.now c.args.steps.now c.requires.steps _ _ (says.0 t),
      λ h. says.1 (reach_listed c.args.doc.now c.args.node c.args.certificate.now c.args.steps.now c.requires.steps _ _ (h has)),
    )
