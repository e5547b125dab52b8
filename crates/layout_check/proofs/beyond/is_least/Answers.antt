use Rattle.std.proofs.Common.{sym, ◌∙◌}
use Rattle.layout_check.proofs.PartLaws.{least_leads, leader_least}
use Rattle.layout_check.proofs.beyond.is_least.Goals as goal

pub returns : goal.returns
returns c =
    let d = c.args.level.now.scene.now.doc.now in
    let n = c.args.level.now.node in
    let x = c.args.level.now.certificate.now in
    let r = c.requires in (
      λ t. leader_least d n c.args.level.now.options.now x c.args.names.now r.sound r.names r.split r.right c.args.child r.child_in (sym c.is_leader.ensures ∙ t),
      λ h. c.is_leader.ensures ∙ least_leads d n c.args.level.now.options.now x c.args.names.now r.sound r.names r.split r.right c.args.child h,
    )
