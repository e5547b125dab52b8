use Rattle.std.proofs.Common.{◌≡◌, false, ◌≤◌, ◌+◌, ◌-◌, ◌^◌, ℕ, length}
use Rattle.elk_engine.specs.Batch.{longest}
use Rattle.elk_engine.specs.Lines.{AreAnswered}
use Rattle.elk_engine.proofs.batch.reply_to_lines.Given as goal

abbrev pub invariant-lines : goal.invariant-lines
invariant-lines g l =
    record {
      spent : l.reader.spent ≡ false;
      longest : l.reader.longest ≡ longest;
      limit : l.reader.limit ≡ 2 ^ 32;
      answered : AreAnswered (g.S.Source.left l.fn.source) (g.S.Source.left l.source) (g.K.Sink.taken l.fn.out) (g.K.Sink.taken l.out) l.reader.held l.reader.taken;
      source_later : g.S.Source.faults l.fn.source ≤ g.S.Source.faults l.source;
      out_later : g.K.Sink.faults l.fn.out ≤ g.K.Sink.faults l.out;
      sure : (room : ℕ) → g.K.Sink.sure l.fn.out room → g.K.Sink.sure l.out room;
    }

abbrev pub decreases-lines : goal.decreases-lines
decreases-lines g l = (2 ^ 32 + 1 - l.reader.taken) + length l.reader.held
