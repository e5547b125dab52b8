use Rattle.std.proofs.Common.{FitsSigned, w64, to_z-of_z, arith}
use Rattle.std.proofs.lemmas.Int.{ints}
use Rattle.elk_layers.specs.Layered.{plain, rows_of}
use Rattle.bk_place.proofs.HeightLemmas.{first_alone, ends_small}
use Rattle.bk_place.proofs.placing.measured.Goals as goal

pub extent-height-requires-clause-within : goal.extent-height-requires-clause-within
extent-height-requires-clause-within c = ends_small (plain c.args.layered.now) c.in_ok-lines.lines.top.items c.requires.can.can.sound c.in_ok-lines.ensures.within

pub returns : goal.returns
returns c =
    let fits : FitsSigned w64 c.extent-height.result = let low = c.extent-height.ensures.low in let high = c.extent-height.ensures.high in omega (arith, ints, low, high) in
    rw (to_z-of_z fits)
    (first_alone (plain c.args.layered.now) (rows_of c.args.order.now) c.args.sweep c.in_ok-lines.lines.top.items c.extent-height.result c.in_ok-lines.ensures.least c.in_ok-lines.ensures.within c.extent-height.ensures.extent)
