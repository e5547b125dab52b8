use Rattle.std.proofs.Common.{◌≡◌, ◌∙◌, Some, length, set, refl, sym, ap}
use Rattle.std.specs.Vec.{with_items}
use Rattle.std.proofs.lemmas.List.{with_items_is}
use Rattle.elk_doc.specs.declared.drawing.Certificate.{Certificate}
use Rattle.level_io.specs.Canvas.{drawing_of}
use Rattle.level_io.specs.Written.{numbered_by}
use Rattle.level_io.proofs.WrittenLevelLemmas.{boxes_listed, distinct_listed, long_listed, ports_listed, sections_listed, still_long}
use Rattle.level_io.proofs.NumberLemmas.{distinct_children, distinct_edges}
use Rattle.level_io.proofs.WrittenLemmas.{is_written}
use Rattle.level_io.proofs.writing.write_with.Goals as goal

pub write_boxes-requires-clause-children : goal.write_boxes-requires-clause-children
write_boxes-requires-clause-children c =
    distinct_listed _ _ _ _ (distinct_children c.args.doc.now c.args.node) c.requires.numbers.children (ap length c.as_mut_slice.ensures.value ∙ c.requires.canvas.boxes)

pub write_boxes-requires-clause-sizes : goal.write_boxes-requires-clause-sizes
write_boxes-requires-clause-sizes c =
    long_listed c.args.doc.now (drawing_of c.args.canvas.now) c.args.node c.args.numbers.now.children.now c.as_mut_slice.result.now c.requires.numbers.children c.as_mut_slice.ensures.value c.requires.out.sizes

pub write_ports-requires-clause-children : goal.write_ports-requires-clause-children
write_ports-requires-clause-children c =
    distinct_listed _ _ _ _ (distinct_children c.args.doc.now c.args.node) c.requires.numbers.children refl

pub write_ports-requires-clause-sizes : goal.write_ports-requires-clause-sizes
write_ports-requires-clause-sizes c =
    let v = c.args.canvas.now.boxes in
    let now : (with_items v c.write_boxes.new.boxes).items ≡ c.write_boxes.new.boxes =
    with_items_is v c.write_boxes.new.boxes (c.write_boxes.ensures.as_many ∙ ap length c.as_mut_slice.ensures.value ∙ sym v.ok.0) in
    still_long c.args.options.now.direction c.start_of-by.result c.as_slice-places.result.now c.args.numbers.now.children.now c.as_mut_slice.result.now c.write_boxes.new.boxes c.as_slice-boxes.result.now
    c.write_boxes.ensures (c.as_slice-boxes.ensures.value ∙ now)
    (long_listed c.args.doc.now (drawing_of c.args.canvas.now) c.args.node c.args.numbers.now.children.now c.as_mut_slice.result.now c.requires.numbers.children c.as_mut_slice.ensures.value c.requires.out.sizes)

pub write_sections-requires-clause-edges : goal.write_sections-requires-clause-edges
write_sections-requires-clause-edges c =
    distinct_listed _ _ _ _ (distinct_edges c.args.doc.now c.args.node) c.requires.numbers.edges (ap length c.as_mut_slice-written.ensures.value ∙ c.requires.canvas.sections)

pub returns : goal.returns
returns c =
    let way = c.args.options.now.direction in
    let old = c.args.canvas.now in
    let out = c.args.out in
    let boxes : (with_items old.boxes c.write_boxes.new.boxes).items ≡ c.write_boxes.new.boxes =
    with_items_is old.boxes c.write_boxes.new.boxes (c.write_boxes.ensures.as_many ∙ ap length c.as_mut_slice.ensures.value ∙ sym old.boxes.ok.0) in
    let ports : (with_items old.ports c.write_ports.new.ports).items ≡ c.write_ports.new.ports =
    with_items_is old.ports c.write_ports.new.ports (c.write_ports.ensures.as_many ∙ ap length c.as_mut_slice-ports.ensures.value ∙ sym old.ports.ok.0) in
    let sections : (with_items old.sections c.write_sections.new.written).items ≡ c.write_sections.new.written =
    with_items_is old.sections c.write_sections.new.written (c.write_sections.ensures.as_many ∙ ap length c.as_mut_slice-written.ensures.value ∙ sym old.sections.ok.0) in
    is_written c.args.doc.now c.args.node c.args.options.now out (drawing_of old) _
    (record {
      boxes = boxes_listed way _ _ _ _ _ _ _ _ _ _ c.start_of-by.ensures.value c.as_slice-places.ensures.value c.requires.numbers.children c.as_mut_slice.ensures.value (sym boxes) c.write_boxes.ensures;
      ports = ports_listed c.args.doc.now way _ _ _ _ _ _ _ _ _ _ c.as_slice-boxes.ensures.value c.as_slice.ensures.value c.requires.numbers.children c.as_mut_slice-ports.ensures.value (sym ports) c.write_ports.ensures;
      sections = sections_listed way _ _ _ _ _ _ _ _ _ _ c.start_of-by.ensures.value c.into_vec-sections.ensures c.requires.numbers.edges c.as_mut_slice-written.ensures.value (sym sections) c.write_sections.ensures;
      levels = ap (λ (k : Certificate). set old.levels.items c.args.node (Some k)) (c.numbered.ensures ∙ ap (λ es. numbered_by es out.certificate) c.requires.numbers.edges);
    })
    c.requires.canvas (rw c.requires.canvas.levels c.requires.node)
