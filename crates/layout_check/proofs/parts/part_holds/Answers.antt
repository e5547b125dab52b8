use Rattle.std.proofs.Common.{◌∙◌, sym, rules}
use Rattle.std.proofs.lemmas.Bool.{eqb-true, eq-eqb}
use Rattle.elk_doc.specs.Level.{IsChild}
use Rattle.layout_check.specs.FirstApart.{number_by}
use Rattle.layout_check.proofs.NumberingLaws.{number_by_names, numberings_agree}
use Rattle.layout_check.proofs.parts.part_holds.Goals as goal

pub returns : goal.returns
returns c =
    let d = c.args.level.now.scene.now.doc.now in
    let n = c.args.level.now.node in
    let a = c.args.child in
    let r = c.requires in
    let part = r.level.parts.each a 0 r.child_in in
    let number = c.number_of.ensures in
    let good = number_by_names d n c.args.names.now r.sound r.names in
    let child : IsChild d n a = record { node_in = r.child_in; child = search rules } in (
      λ t _ _. (number_by d n c.args.names.now, good, sym number ∙ sym (eqb-true _ _ t) ∙ part),
      λ h.
          let x = h (search rules) child in
          eq-eqb _ _ (part ∙ sym x.2 ∙ numberings_agree d n x.0 (number_by d n c.args.names.now) a x.1 good child ∙ sym number),
    )
