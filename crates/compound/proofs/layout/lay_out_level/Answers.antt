use Rattle.std.proofs.Common.{ap, subst, set}
use Rattle.std.specs.Prelude.{Option, IfSome}
use Rattle.elk_doc.specs.declared.document.LevelOptions.{LevelOptions}
use Rattle.level_io.specs.Canvas.{drawing_of}
use Rattle.compound.specs.Work.{IsFramedRound}
use Rattle.compound.proofs.FrameLemmas.{worked}
use Rattle.compound.proofs.LayoutLemmas.{figure_writable}
use Rattle.compound.proofs.layout.lay_out_level.Goals as goal

pub write_layout-requires-clause-out : goal.write_layout-requires-clause-out
write_layout-requires-clause-out c =
    figure_writable c.args.doc.now (drawing_of c.args.work.now.canvas) c.args.work.now.sizes.items c.args.node c.args.options.now c.requires.sound c.requires.node c.requires.options c.requires.work
    c.in_ok-out.out c.in_ok-out.ensures

pub returns : goal.returns
returns c =
    let d = c.args.doc.now in
    let old = drawing_of c.args.work.now.canvas in
    let now = drawing_of c.write_layout.new.canvas in
    let sizes = c.args.work.now.sizes.items in
    let n = c.args.node in
    let o = c.args.options.now in
    let v = c.in_ok-out.out in
    let round : IsFramedRound d n o v old now =
    subst (λ (level : Option LevelOptions). IfSome level (λ q. IsFramedRound d n q v old now)) c.requires.options c.write_layout.ensures
    in
    worked d old now sizes n o v c.requires.sound c.requires.node c.requires.options c.requires.work c.in_ok-out.ensures round _ (ap (λ s. set sizes n s) c.size_of-size.ensures)
