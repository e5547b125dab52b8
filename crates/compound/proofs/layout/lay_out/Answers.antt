use Rattle.std.proofs.Common.{◌∙◌, ap, map, subst, sym}
use Rattle.elk_doc.specs.Drawn.{Drawn}
use Rattle.elk_doc.specs.Fitted.{Fitted}
use Rattle.level_io.specs.Canvas.{drawing_of}
use Rattle.compound.specs.Planned.{Planned}
use Rattle.drawing_laws.specs.Held.{HasSmallCoordinates}
use Rattle.compound.specs.Work.{given_size}
use Rattle.compound.proofs.EndLemmas.{laid_out, root_box, well_drawn}
use Rattle.compound.proofs.StartLemmas.{started}
use Rattle.compound.proofs.layout.lay_out.Goals as goal

pub lay_out_levels-requires-clause-work : goal.lay_out_levels-requires-clause-work
lay_out_levels-requires-clause-work c =
    let blank = c.in_ok-blank.ensures in
    started c.args.doc.now (drawing_of c.in_ok-blank.field-0) c.in_ok-given_sizes.field-0.items c.nodes.ensures.sound blank.complete blank.value
    (c.in_ok-given_sizes.ensures ∙ ap (map given_size) c.nodes.ensures.value)

pub place_root_ports-requires-clause-size : goal.place_root_ports-requires-clause-size
place_root_ports-requires-clause-size c =
    root_box c.args.doc.now (drawing_of c.lay_out_levels.new.work.canvas) c.lay_out_levels.new.work.sizes.items c.nodes.ensures.sound c.in_ok-lay_out_levels.ensures

pub returns-clause-drawn : goal.returns-clause-drawn
returns-clause-drawn c =
    let d = c.args.doc.now in
    subst (Drawn d) (sym c.placed.ensures)
    (well_drawn d (drawing_of c.lay_out_levels.new.work.canvas) (drawing_of c.place_root_ports.new.canvas) c.lay_out_levels.new.work.sizes.items
    c.nodes.ensures.sound c.in_ok-lay_out_levels.ensures c.in_ok-place_root_ports.ensures.placed).drawn

pub returns-clause-fitted : goal.returns-clause-fitted
returns-clause-fitted c =
    let d = c.args.doc.now in
    subst (Fitted d) (sym c.placed.ensures)
    (well_drawn d (drawing_of c.lay_out_levels.new.work.canvas) (drawing_of c.place_root_ports.new.canvas) c.lay_out_levels.new.work.sizes.items
    c.nodes.ensures.sound c.in_ok-lay_out_levels.ensures c.in_ok-place_root_ports.ensures.placed).fitted

pub returns-clause-planned : goal.returns-clause-planned
returns-clause-planned c =
    let d = c.args.doc.now in
    subst (Planned d) (sym c.placed.ensures)
    (laid_out d (drawing_of c.lay_out_levels.new.work.canvas) (drawing_of c.place_root_ports.new.canvas) c.lay_out_levels.new.work.sizes.items
    c.nodes.ensures.sound c.in_ok-lay_out_levels.ensures c.in_ok-place_root_ports.ensures.placed).planned

pub returns-clause-small : goal.returns-clause-small
returns-clause-small c =
    let d = c.args.doc.now in
    subst HasSmallCoordinates (sym c.placed.ensures)
    (well_drawn d (drawing_of c.lay_out_levels.new.work.canvas) (drawing_of c.place_root_ports.new.canvas) c.lay_out_levels.new.work.sizes.items
    c.nodes.ensures.sound c.in_ok-lay_out_levels.ensures c.in_ok-place_root_ports.ensures.placed).small
