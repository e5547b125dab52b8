use Rattle.std.proofs.Common.{◌∙◌, ◌∷◌, [], length-append, arith}
use Rattle.std.proofs.lemmas.Iterator.Adapters.{YieldsList-from_vec}
use Rattle.std.proofs.lemmas.Iterator.Consumers.{YieldsList-turn}
use Rattle.level_io.proofs.PartLemmas.{one_more_section}
use Rattle.level_io.proofs.writing.write_sections.Goals as goal

pub loop-section-preserved : goal.loop-section-preserved
loop-section-preserved c =
    let long = c.loop-section.invariant.0 in
    let more = length-append c.loop-section.yielded (c.in-Some.section ∷ []) in
    let few = c.requires.as_many in
    let into = c.into_iter-section-iterator.ensures.into_iter_gives in
    let turn = YieldsList-turn (YieldsList-from_vec c.args.sections.items into.0 (into.1 ∙ c.args.sections.ok.0)) c.loop-section.yielded c.loop-section.section-iterator c.loop-section.yielded_by c.next.result c.next.new.self c.in-Some.section c.in-Some.is c.next.ensures.steps in
    let here = turn.0 in
    (omega (arith, long, more), one_more_section c.args.way c.args.by c.args.edges.now c.loop-section.yielded c.in-Some.section c.section_back.result c.args.written.now c.loop-section.written c.loop-section.i c.requires.edges c.loop-section.invariant.1 long (omega (arith, here, long, few)) c.section_back.ensures)
