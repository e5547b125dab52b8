use Rattle.std.proofs.Common.{sym}
use Rattle.level_split.specs.Gathered.{certificate_at}
use Rattle.level_split.proofs.StepLemmas.{span_fits, span_more, spans_none}
use Rattle.level_split.proofs.certificate.total_span.Goals as goal

pub loop-i-init : goal.loop-i-init
loop-i-init c = sym (spans_none (certificate_at c.args.outs.now))

pub overflow_add-total : goal.overflow_add-total
overflow_add-total c =
    record { fits = span_fits c.args.outs.now c.loop-i.i c.loop-i.total c.index-outs-i.result c.loop-i-test.true c.loop-i.invariant c.requires }

pub loop-i-preserved : goal.loop-i-preserved
loop-i-preserved c = span_more c.args.outs.now c.loop-i.i c.loop-i.total c.index-outs-i.result c.loop-i-test.true c.loop-i.invariant
