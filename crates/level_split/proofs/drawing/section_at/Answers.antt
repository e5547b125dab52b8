use Rattle.std.proofs.Common.{subst}
use Rattle.level_split.specs.Gathered.{IsSectionInPart}
use Rattle.level_split.proofs.StepLemmas.{section_read}
use Rattle.level_split.proofs.drawing.section_at.Goals as goal

pub moved_section-requires-clause-section : goal.moved_section-requires-clause-section
moved_section-requires-clause-section c =
    subst IsSectionInPart
    (section_read c.args.outs.now c.args.part c.args.place c.index-outs-part.result c.as_slice-sections.result.now c.index-sections-place.result c.requires.part c.as_slice-sections.ensures.value c.requires.place c.index-sections-place.is)
    (c.requires.drawings.sections c.args.part c.args.place c.requires.part c.requires.place)
