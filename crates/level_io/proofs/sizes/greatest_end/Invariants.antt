use Rattle.elk_doc.specs.Fitted.{IsGreatestOf}
use Rattle.level_io.specs.Sizes.{AsksListed}
use Rattle.level_io.proofs.sizes.greatest_end.Given as goal

abbrev pub invariant-loop-i : goal.invariant-loop-i
invariant-loop-i l = IsGreatestOf (AsksListed l.doc l.across l.base l.ports l.i) l.greatest
