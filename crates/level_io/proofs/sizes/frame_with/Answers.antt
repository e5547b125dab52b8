use Rattle.std.proofs.Common.{◌≡◌, ◌∙◌, ap, length, refl, sym}
use Rattle.std.specs.Vec.{with_items}
use Rattle.std.proofs.lemmas.List.{length-set, with_items_is}
use Rattle.working_frame.specs.Rotated.{ports_of}
use Rattle.level_io.specs.Canvas.{drawing_of}
use Rattle.level_io.specs.Sizes.{resized}
use Rattle.level_io.proofs.FramedLemmas.{resized_node}
use Rattle.level_io.proofs.WrittenLevelLemmas.{distinct_listed}
use Rattle.level_io.proofs.NumberLemmas.{distinct_ports}
use Rattle.level_io.proofs.PartLemmas.{listed_ports}
use Rattle.level_io.proofs.SizeLemmas.{size_round}
use Rattle.level_io.proofs.sizes.frame_with.Goals as goal

pub size_round-size-requires-clause-ports : goal.size_round-size-requires-clause-ports
size_round-size-requires-clause-ports c =
    distinct_listed _ _ _ _ (distinct_ports c.args.doc.now c.args.node)
    (listed_ports c.args.doc.now c.args.numbers.now.ports.now c.args.node c.as_slice-ports.result.now c.index-numbers-node.result c.requires.numbers.ports c.requires.node c.as_slice-ports.ensures.value) refl

pub returns : goal.returns
returns c =
    let d = c.args.doc.now in
    let old = c.args.canvas.now in
    let listed : c.as_slice-ports.result.now ≡ ports_of d c.args.node =
    listed_ports d c.args.numbers.now.ports.now c.args.node c.as_slice-ports.result.now c.index-numbers-node.result c.requires.numbers.ports c.requires.node c.as_slice-ports.ensures.value in
    let written : c.resize.new.boxes ≡ resized old.boxes.items c.args.node c.size_round-size.result =
    c.resize.ensures ∙ ap (λ bs. resized bs c.args.node c.size_round-size.result) c.as_mut_slice.ensures.value in
    let boxes : (with_items old.boxes c.resize.new.boxes).items ≡ c.resize.new.boxes =
    with_items_is old.boxes c.resize.new.boxes (ap length written ∙ length-set old.boxes.items c.args.node _ ∙ sym old.boxes.ok.0) in
    resized_node d c.args.node c.args.options.now c.args.extent c.size_round-size.result (drawing_of old) _ (rw c.requires.canvas.boxes c.requires.node) c.requires.canvas
    (size_round d c.args.node c.as_slice-ports.result.now c.args.options.now c.args.extent c.size_round-size.result listed c.size_round-size.ensures)
    (boxes ∙ written) refl refl refl
