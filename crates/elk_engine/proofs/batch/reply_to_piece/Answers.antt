use Rattle.std.proofs.Common.{refl}
use Rattle.elk_lines.specs.declared.answer.Piece.TheVariants.{Long}
use Rattle.elk_engine.specs.Notes.{too_long_note}
use Rattle.elk_engine.proofs.BatchLemmas.{reply_put}
use Rattle.elk_engine.proofs.batch.reply_to_piece.Goals as goal

pub returns-in-Long-clause-put : goal.returns-in-Long-clause-put
returns-in-Long-clause-put g c = rw c.in-Long.is (reply_put Long c.args.reader.now.line c.args.reader.now.ended _ _ too_long_note c.put-in-Long.result (λ e. cc) refl c.put-in-Long.ensures.put)
