use Rattle.std.proofs.Common.{◌≡◌, ap, sym, arith, length, append-nil}
use Rattle.elk_layers.specs.Layered.{plain}
use Rattle.bk_place.proofs.SpokeLemmas.{spokes_more}
use Rattle.bk_place.proofs.spokes.push_spokes.Goals as goal

pub loop-k-init : goal.loop-k-init
loop-k-init c = sym (append-nil _)

pub loop-k-preserved : goal.loop-k-preserved
loop-k-preserved c = spokes_more (plain c.args.layered.now) c.args.sweep c.args.place.now c.args.lanes _ _ _ c.loop-k.k c.loop-k.invariant c.in_ok-push_spoke.ensures

pub returns : goal.returns
returns c =
    let end : c.loop-k.k ≡ length (plain c.args.layered.now).links = let a = c.loop-k-test.false in let b = c.loop-k.auto.k-end in let same = ap length c.as_slice-count.ensures.value in omega (arith, a, b, same) in
    rw end at c.loop-k.invariant
