use Rattle.std.proofs.Common.{◌≡◌, ℕ, ◌+◌, ◌*◌, ◌/◌, ◌<◌, arith, nat_lt, take, length}
use Rattle.std.specs.List.{count_by}
use Rattle.std.proofs.lemmas.List.Sums.{count_by-le-length}
use Rattle.std.proofs.lemmas.List.{length-take}
use Rattle.lane_count.proofs.Lanes.{count_chunk_more, count_rest}
use Rattle.lane_count.proofs.counting.count_above.Goals as goal

stepped : (c : goal.After-count_in-total) → c.loop-block.total + c.count_in-total.result ≡ count_by (λ x. nat_lt c.args.bound x) (take ((c.loop-block.block-index + 1) * 16) c.args.list.now)
stepped c =
    let l : c.loop-block.block-index < length c.args.list.now / 16 = omega (arith, c.as_chunks.ensures.front_len) in
    rw (c.count_in-total.ensures, c.as_chunks.ensures.front) (count_chunk_more (λ x. nat_lt c.args.bound x) c.args.list.now c.loop-block.block-index c.loop-block.total _ _ l c.loop-block.invariant)

pub overflow_add-total : goal.overflow_add-total
overflow_add-total c =
    let e = stepped c in
    let a = count_by-le-length (λ x. nat_lt c.args.bound x) (take ((c.loop-block.block-index + 1) * 16) c.args.list.now) in
    rw e (omega (arith, a, length-take {A = ℕ}))

pub loop-block-preserved : goal.loop-block-preserved
loop-block-preserved c = stepped c

pub returns : goal.returns
returns c = count_rest (λ x. nat_lt c.args.bound x) c.args.list.now c.as_chunks.result.1.now _ _ _ c.as_chunks.ensures.back c.loop-number-test.false c.loop-number.invariant
