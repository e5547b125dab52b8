use Rattle.std.proofs.Common.{◌≡◌, subst, ℕ, rules}
use Rattle.drawing_types.specs.declared.section.Section.{Section}
use Rattle.elk_doc.specs.Drawing.{part_in, section_of}
use Rattle.elk_doc.specs.Level.{source_node}
use Rattle.layout_check.specs.BoxBounds.{SectionHeld}
use Rattle.layout_check.proofs.box_bounds.add_route.Goals as goal

pub returns-clause-held : goal.returns-clause-held
returns-clause-held c =
    let d = c.args.level.now.scene.now.doc.now in
    let n = c.args.level.now.node in
    let x = c.args.level.now.certificate.now in
    let part : c.part_at-part.result ≡ part_in d n x (source_node d c.args.edge) = search rules in
    let P : ℕ → Type 0 = λ k. SectionHeld c.args.level.now.options.now c.add_section.new.bounds k (section_of c.args.level.now.scene.now.placed.now c.args.edge) in
    let Q : Section → Type 0 = λ s. SectionHeld c.args.level.now.options.now c.add_section.new.bounds c.part_at-part.result s in
    λ t _. subst P part (subst Q c.section.ensures (c.add_section.ensures.held t))
