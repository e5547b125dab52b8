use Rattle.std.proofs.Common.{sym, subst}
use Rattle.std.proofs.lemmas.Result.{IfOk-weaker}
use Rattle.level_io.specs.Read.{AreSizes}
use Rattle.level_io.specs.Canvas.{drawing_of}
use Rattle.compound.proofs.LayoutLemmas.{are_sizes, component, is_level, level_read}
use Rattle.compound.proofs.layout.figure_of.Goals as goal

pub level_in-requires-clause-sizes : goal.level_in-requires-clause-sizes
level_in-requires-clause-sizes c =
    subst (AreSizes c.args.doc.now c.args.node) (sym c.as_slice.ensures.value)
    (are_sizes c.args.doc.now (drawing_of c.args.work.now.canvas) c.args.work.now.sizes.items c.args.node c.args.options.now c.requires.sound c.requires.node c.requires.options c.requires.work)

pub figure_in-requires-clause-level : goal.figure_in-requires-clause-level
figure_in-requires-clause-level c =
    let d = c.args.doc.now in
    let p = drawing_of c.args.work.now.canvas in
    let sizes = c.args.work.now.sizes.items in
    let n = c.args.node in
    let o = c.args.options.now in
    is_level d p sizes n o c.requires.sound c.requires.node c.requires.options c.requires.work c.in_ok-level.level
    (level_read d p sizes n o c.requires.sound c.requires.node c.requires.options c.requires.work c.in_ok-level.level c.as_slice.result.now c.as_slice.ensures.value c.in_ok-level.ensures.level)

pub figure_in-requires-clause-component : goal.figure_in-requires-clause-component
figure_in-requires-clause-component c =
    component c.args.doc.now (drawing_of c.args.work.now.canvas) c.args.work.now.sizes.items c.args.node c.args.options.now c.requires.sound c.requires.node c.requires.options c.requires.work

pub returns : goal.returns
returns c =
    let d = c.args.doc.now in
    let p = drawing_of c.args.work.now.canvas in
    let sizes = c.args.work.now.sizes.items in
    let n = c.args.node in
    let o = c.args.options.now in
    let read = c.in_ok-level.ensures in
    IfOk-weaker c.figure_in.result _ _
    (λ v figure. record {
      level = c.in_ok-level.level;
      is = level_read d p sizes n o c.requires.sound c.requires.node c.requires.options c.requires.work c.in_ok-level.level c.as_slice.result.now c.as_slice.ensures.value read.level;
      fixed = read.fixed;
      placing = read.placing;
      figure = figure;
    })
    c.figure_in.ensures
