use Rattle.std.proofs.Common.{◌≡◌, ◌≢◌, ◌<◌, sym, ◌∙◌, arith, length, get_or, below_more, get_or-set_other, get_or-set_same}
use Rattle.std.proofs.Math.Seq.{map-set_same}
use Rattle.elk_shell.specs.Line.{in_line}
use Rattle.elk_shell.proofs.Blanks.{byte_again, line_again}
use Rattle.elk_shell.proofs.line.blank_feeds.Goals as goal

pub loop-byte-preserved : goal.loop-byte-preserved
loop-byte-preserved c =
    let i = c.loop-byte.byte-index in
    let bytes = c.loop-byte.bytes in
    let byte = c.in_line.result in
    let stays : in_line byte ≡ byte = byte_again (get_or bytes i 0) byte c.in_line.ensures in (
      map-set_same in_line bytes i byte 0 (stays ∙ c.in_line.ensures) ∙ c.loop-byte.invariant.0,
      below_more _ _
          (λ k h. let ne : k ≢ i = omega arith in rw get_or-set_other (c.loop-byte.invariant.1 k h))
          (let lt : i < length bytes = omega arith in rw get_or-set_same stays),
    )

pub returns : goal.returns
returns c =
    sym (line_again c.loop-byte.bytes (λ k h. c.loop-byte.invariant.1 k (omega arith))) ∙ c.loop-byte.invariant.0
