use Rattle.std.proofs.Common.{◌≡◌, ℕ, Bool, ap, sym, ◌∙◌}
use Rattle.level_split.specs.Gathered.{is_marked, marks_in}
use Rattle.level_split.proofs.StepLemmas.{mark_read, reversed_no, reversed_yes}
use Rattle.level_split.proofs.certificate.reversed_of.Goals.{then-index+in_ok-push, else-index}
use Rattle.level_split.proofs.certificate.reversed_of.Goals as goal

pub loop-i-preserved : goal.loop-i-preserved
loop-i-preserved c =
    let marks = c.args.marks.now in
    let parts = c.args.parts.now in
    let places = c.args.places.now in
    let i = c.loop-i.i in
    let test : ℕ → Bool = is_marked (marks_in marks) parts places in
    let read : c.index.result.now ≡ test i =
    mark_read marks parts places i c.index-marks-parts.result c.index.result.now (c.requires.seats.part i c.loop-i-test.true) (c.requires.seats.place i c.loop-i-test.true) c.index-marks-parts.is c.index.ensures
    in
    elim c.if-index.branch [
      | then-index+in_ok-push w ↦ reversed_yes test i c.loop-i.found.items c.if-index.found.items c.loop-i.invariant (sym read ∙ w.if-index.true) (ap (λ x. x.items) w.found-is ∙ w.in_ok-push.ensures.items)
      | else-index w ↦ ap (λ x. x.items) w.found-is ∙ reversed_no test i c.loop-i.found.items c.loop-i.invariant (sym read ∙ w.if-index.false)
    ]
