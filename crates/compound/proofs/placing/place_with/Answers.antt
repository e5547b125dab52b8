use Rattle.std.proofs.Common.{◌≡◌, ◌∙◌, List, length, get_or, arith, sym, ap, subst}
use Rattle.std.specs.List.{All}
use Rattle.std.specs.Vec.{with_items}
use Rattle.std.proofs.lemmas.List.{with_items_is}
use Rattle.drawing_types.specs.declared.shape.Point.{Point}
use Rattle.elk_doc.specs.Drawing.{no_rect}
use Rattle.level_model.specs.Conditions.{IsLevel}
use Rattle.working_frame.specs.Ranges.{IsFarPoint}
use Rattle.level_io.specs.Canvas.{drawing_of}
use Rattle.level_io.specs.Ranges.{IsLongBox}
use Rattle.level_io.proofs.WrittenLevelLemmas.{distinct_listed}
use Rattle.level_io.proofs.NumberLemmas.{distinct_ports}
use Rattle.compound.proofs.LevelLemmas.{root_is_level, root_long}
use Rattle.compound.proofs.PlacedLemmas.{are_placed, as_many, box_read, far, one_list, places_read, size_read}
use Rattle.compound.proofs.placing.place_with.Goals as goal

pub layout_level-requires : goal.layout_level-requires
layout_level-requires c =
    let d = c.args.doc.now in
    let old = drawing_of c.args.canvas.now in
    let o = c.args.options.now in
    let is = c.in_ok-level.ensures old (size_read old c.as_slice.result.now c.as_slice.ensures.value ∙ sym c.size_of-size.ensures) in
    subst IsLevel (sym is) (root_is_level d old o c.requires.sound c.requires.options c.requires.size)

pub bounds-as_slice-0-2 : goal.bounds-as_slice-0-2
bounds-as_slice-0-2 c =
    let d = c.args.doc.now in
    let old = drawing_of c.args.canvas.now in
    let is = c.in_ok-level.ensures old (size_read old c.as_slice.result.now c.as_slice.ensures.value ∙ sym c.size_of-size.ensures) in
    let one = one_list d c.args.options.now c.in_ok-level.level c.in_ok-out.out old is c.in_ok-out.ensures in
    let many = ap length c.as_slice-2.ensures.value in
    omega (arith, one, many)

pub write_ports_of-requires-clause-numbers : goal.write_ports_of-requires-clause-numbers
write_ports_of-requires-clause-numbers c =
    let numbers = c.row-numbers.ensures ∙ c.requires.index.ports.each 0 c.requires.sound.tree.root in
    distinct_listed _ _ _ _ (distinct_ports c.args.doc.now 0) numbers (ap length c.as_mut_slice-ports.ensures.value ∙ c.requires.canvas.ports)

pub write_ports_of-requires-clause-as_many : goal.write_ports_of-requires-clause-as_many
write_ports_of-requires-clause-as_many c =
    let d = c.args.doc.now in
    let old = drawing_of c.args.canvas.now in
    let o = c.args.options.now in
    let l = c.in_ok-level.level in
    let v = c.in_ok-out.out in
    let is = c.in_ok-level.ensures old (size_read old c.as_slice.result.now c.as_slice.ensures.value ∙ sym c.size_of-size.ensures) in
    let numbers = c.row-numbers.ensures ∙ c.requires.index.ports.each 0 c.requires.sound.tree.root in
    let places = places_read v c.as_slice-2.result.now c.as_slice-places.result.now _ c.as_slice-2.ensures.value (one_list d o l v old is c.in_ok-out.ensures) (c.as_slice-places.ensures.value ∙ c.index-as_slice-0.is) in
    ap length places ∙ as_many d o l v old is c.in_ok-out.ensures ∙ sym (ap length numbers)

pub write_ports_of-requires-clause-places : goal.write_ports_of-requires-clause-places
write_ports_of-requires-clause-places c =
    let d = c.args.doc.now in
    let old = drawing_of c.args.canvas.now in
    let o = c.args.options.now in
    let l = c.in_ok-level.level in
    let v = c.in_ok-out.out in
    let is = c.in_ok-level.ensures old (size_read old c.as_slice.result.now c.as_slice.ensures.value ∙ sym c.size_of-size.ensures) in
    let places = places_read v c.as_slice-2.result.now c.as_slice-places.result.now _ c.as_slice-2.ensures.value (one_list d o l v old is c.in_ok-out.ensures) (c.as_slice-places.ensures.value ∙ c.index-as_slice-0.is) in
    subst (λ (qs : List Point). All IsFarPoint qs) (sym places) (far d o l v old is c.in_ok-out.ensures)

pub write_ports_of-requires-clause-long : goal.write_ports_of-requires-clause-long
write_ports_of-requires-clause-long c =
    let old = drawing_of c.args.canvas.now in
    subst IsLongBox (sym (box_read old c.as_slice.result.now c.as_slice.ensures.value)) (root_long old c.requires.size)

pub returns-clause-placed : goal.returns-clause-placed
returns-clause-placed c =
    let d = c.args.doc.now in
    let canvas = c.args.canvas.now in
    let old = drawing_of c.args.canvas.now in
    let o = c.args.options.now in
    let l = c.in_ok-level.level in
    let v = c.in_ok-out.out in
    let is = c.in_ok-level.ensures old (size_read old c.as_slice.result.now c.as_slice.ensures.value ∙ sym c.size_of-size.ensures) in
    let numbers = c.row-numbers.ensures ∙ c.requires.index.ports.each 0 c.requires.sound.tree.root in
    let places = places_read v c.as_slice-2.result.now c.as_slice-places.result.now _ c.as_slice-2.ensures.value (one_list d o l v old is c.in_ok-out.ensures) (c.as_slice-places.ensures.value ∙ c.index-as_slice-0.is) in
    let ports : (with_items canvas.ports c.write_ports_of.new.ports).items ≡ c.write_ports_of.new.ports =
    with_items_is canvas.ports c.write_ports_of.new.ports (c.write_ports_of.ensures.as_many ∙ ap length c.as_mut_slice-ports.ensures.value ∙ sym canvas.ports.ok.0) in
    are_placed d o l v old is c.in_ok-out.ensures c.row-numbers.result.now c.as_slice-places.result.now (get_or c.as_slice.result.now 0 no_rect)
    c.as_mut_slice-ports.result.now c.write_ports_of.new.ports _ c.requires.options c.requires.canvas
    numbers places (box_read old c.as_slice.result.now c.as_slice.ensures.value) c.as_mut_slice-ports.ensures.value ports c.write_ports_of.ensures
