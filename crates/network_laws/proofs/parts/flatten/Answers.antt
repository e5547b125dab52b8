use Rattle.std.proofs.Common.{length, arith}
use Rattle.network_laws.proofs.Naming.{flat_more}
use Rattle.network_laws.proofs.parts.flatten.Goals as goal

pub loop-v-preserved : goal.loop-v-preserved
loop-v-preserved c =
    let more = flat_more (length c.args.names.now) c.args.edges.now c.loop-v.names c.loop-v.v c.loop-v.invariant.0 (omega arith) in
    (more.0, (let a = more.1 in let b = c.loop-v.invariant.1 in omega (arith, a, b)))
