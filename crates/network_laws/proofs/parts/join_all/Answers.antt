use Rattle.std.proofs.Common.{length, arith, sym, subst, ◌∙◌}
use Rattle.network_laws.specs.Parts.{AreNames, HaveOneName}
use Rattle.network_laws.proofs.Naming.{join_falls}
use Rattle.network_laws.proofs.parts.join_all.Goals as goal

pub loop-changed-preserved : goal.loop-changed-preserved
loop-changed-preserved c =
    let n = c.loop-changed.invariant.0 in
    let edges = c.args.edges.now in
    let flat = c.flatten.new.names in
    let j = c.join_once-changed.ensures in (
      (let a = j.names.name_for_each in let b = c.flatten.ensures.names.name_for_each in omega (arith, a, b, n)),
      subst (λ x. AreNames x edges c.join_once-changed.new.names) (let b = c.flatten.ensures.names.name_for_each in b ∙ n) j.names,
      λ h. let u = j.unchanged h in subst (λ x. HaveOneName edges x (length edges)) (sym u.0) u.1,
    )

pub loop-changed-smaller : goal.loop-changed-smaller
loop-changed-smaller c =
    join_falls c.args.edges.now (length c.args.edges.now) c.loop-changed.names c.flatten.new.names c.join_once-changed.new.names c.loop-changed.changed c.join_once-changed.result c.loop-changed-test.true c.flatten.ensures.less c.join_once-changed.ensures
