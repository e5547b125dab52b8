use Rattle.std.proofs.Common.{All, subst, ◌<◌, ◌^◌}
use Rattle.elk_write.proofs.answer.certificate_is_held.Goals as goal

pub returns : goal.returns
returns c = record {
  layers = subst (All (λ n. n < 2 ^ 32)) c.as_slice.ensures.value c.small_numbers_are_held.ensures;
  parts = subst (All (λ n. n < 2 ^ 32)) c.as_slice-2.ensures.value c.small_numbers_are_held-2.ensures;
  flow = subst (All (λ n. n < 2 ^ 64)) c.as_slice-3.ensures.value c.large_numbers_are_held.ensures;
  span = c.number_is_held.ensures;
}
