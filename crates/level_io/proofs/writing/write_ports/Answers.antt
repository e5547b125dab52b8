use Rattle.std.proofs.Common.{◌≡◌, ◌∙◌, [], ℕ, List, length, get_or, arith, sym, subst}
use Rattle.drawing_types.specs.declared.shape.Point.{Point}
use Rattle.drawing_types.specs.Shapes.{origin}
use Rattle.elk_doc.specs.Drawing.{no_rect}
use Rattle.working_frame.specs.Rotated.{ports_of}
use Rattle.level_io.specs.Changed.{AreChangedTo, AreDistinct, number_at}
use Rattle.level_io.specs.Written.{port_change}
use Rattle.level_io.proofs.NumberLemmas.{distinct_ports}
use Rattle.level_io.proofs.PartLemmas.{any_default, listed_ports, no_ports, one_more_child}
use Rattle.level_io.proofs.writing.write_ports.Goals as goal

pub loop-i-init : goal.loop-i-init
loop-i-init c =
    no_ports c.args.doc.now c.args.way c.args.numbers.now.children.now c.args.boxes.now c.args.places.now c.args.ports.now

pub write_ports_of-requires-clause-numbers : goal.write_ports_of-requires-clause-numbers
write_ports_of-requires-clause-numbers c =
    let d = c.args.doc.now in
    let child = number_at c.args.numbers.now.children.now c.loop-i.i in
    let listed : c.as_slice-listed.result.now ≡ ports_of d child =
    listed_ports d c.args.numbers.now.ports.now child c.as_slice-listed.result.now c.index-numbers-child.result c.requires.by_node (c.requires.children.below c.loop-i.i c.loop-i-test.true) c.as_slice-listed.ensures.value in
    subst (λ (xs : List ℕ). AreDistinct xs (length c.loop-i.ports)) (sym listed)
    (subst (λ m. AreDistinct (ports_of d child) m) (sym (c.loop-i.invariant.as_many ∙ c.requires.all)) (distinct_ports d child))

pub loop-i-preserved : goal.loop-i-preserved
loop-i-preserved c =
    let d = c.args.doc.now in
    let i = c.loop-i.i in
    let children = c.args.numbers.now.children.now in
    let child = number_at children i in
    let outer = get_or c.args.boxes.now child no_rect in
    let few = c.requires.places.as_many in
    let test = c.loop-i-test.true in
    let listed : c.as_slice-listed.result.now ≡ ports_of d child =
    listed_ports d c.args.numbers.now.ports.now child c.as_slice-listed.result.now c.index-numbers-child.result c.requires.by_node (c.requires.children.below i test) c.as_slice-listed.ensures.value in
    let places : c.as_slice.result.now ≡ get_or c.args.places.now i [] =
    c.as_slice.ensures.value ∙ c.index-places-i.is ∙ any_default c.args.places.now i _ [] (omega (arith, few, test)) in
    one_more_child d c.args.way children c.args.boxes.now c.args.places.now c.args.ports.now c.loop-i.ports c.write_ports_of.new.ports i c.requires.children test c.loop-i.invariant
    (subst (λ (ps : List Point). AreChangedTo (length (ports_of d child)) (ports_of d child) (port_change d c.args.way outer (ports_of d child) ps) origin c.loop-i.ports c.write_ports_of.new.ports) places
    (subst (λ (xs : List ℕ). AreChangedTo (length xs) xs (port_change d c.args.way outer xs c.as_slice.result.now) origin c.loop-i.ports c.write_ports_of.new.ports) listed c.write_ports_of.ensures))
