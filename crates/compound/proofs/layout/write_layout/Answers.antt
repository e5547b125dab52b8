use Rattle.elk_doc.specs.Document.{node_at}
use Rattle.level_io.specs.Canvas.{drawing_of}
use Rattle.compound.proofs.WrittenLemmas.{framed_round, still_complete}
use Rattle.compound.proofs.layout.write_layout.Goals as goal

pub frame_node-requires-clause-canvas : goal.frame_node-requires-clause-canvas
frame_node-requires-clause-canvas c =
    still_complete c.args.doc.now c.args.node c.args.out (drawing_of c.args.canvas.now) (drawing_of c.write_level.new.canvas)
    (node_at c.args.doc.now c.args.node).level c.requires.compound c.write_level.ensures

pub returns : goal.returns
returns c =
    framed_round c.args.doc.now c.args.node c.args.out (drawing_of c.args.canvas.now) (drawing_of c.write_level.new.canvas) (drawing_of c.frame_node.new.canvas)
    (node_at c.args.doc.now c.args.node).level c.write_level.ensures c.frame_node.ensures
