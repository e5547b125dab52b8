use Rattle.std.proofs.Common.{◌+ℤ◌, FitsSigned, w64, true, false, refl, ap, arith, rules}
use Rattle.std.proofs.lemmas.Int.{ints}
use Rattle.elk_layers.specs.declared.units.Link.{Link}
use Rattle.elk_layers.specs.Layered.{link_at}
use Rattle.elk_layers.specs.Lines.{top_of}
use Rattle.level_nets.specs.Read.{net_named}
use Rattle.level_nets.specs.Reach.{parts_in}
use Rattle.level_nets.proofs.PinLemmas.{pin_is, net_from}
use Rattle.level_nets.proofs.reading.link_net.Goals as goal

pub returns : goal.returns
unfolding net_named
returns c =
    let s = parts_in c.args.sheet.now in
    let k = c.args.number in
    let tail = ap (λ (l : Link). top_of s.tops l.tail) c.link_at-link.ensures in
    let head = ap (λ (l : Link). top_of s.tops l.head) c.link_at-link.ensures in
    let tail_at = ap (λ (l : Link). l.tail_at) c.link_at-link.ensures in
    let head_at = ap (λ (l : Link). l.head_at) c.link_at-link.ensures in
    let fa : FitsSigned w64 c.below_top.result = search rules in
    let fb : FitsSigned w64 c.below_top-2.result = search rules in
    net_from _ _ _ _
    (pin_is true true c.below_top.result (top_of s.tops (link_at s.layered.links k).tail +ℤ (link_at s.layered.links k).tail_at) fa refl (omega (arith, ints, c.below_top.ensures, tail, tail_at)))
    (pin_is false false c.below_top-2.result (top_of s.tops (link_at s.layered.links k).head +ℤ (link_at s.layered.links k).head_at) fb refl (omega (arith, ints, c.below_top-2.ensures, head, head_at)))
