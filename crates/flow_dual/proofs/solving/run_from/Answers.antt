use Rattle.std.proofs.Common.{pos, length, ◌∙◌, ap}
use Rattle.std.proofs.lemmas.List.{length-replicate}
use Rattle.flow_dual.proofs.Finishing.{same_everywhere}
use Rattle.flow_dual.proofs.solving.run_from.Goals as goal

pub run-requires : goal.run-requires
run-requires c =
    let n = length c.args.layer.now in
    let e = c.as_mut_slice.ensures.value ∙ c.in_ok-excess.ensures.items_if_clones_equal (λ y e. e) in
    record {
      network = c.requires.network;
      layering = c.requires.layering;
      from_zero = c.requires.from_zero;
      low = c.requires.low;
      flow = c.requires.flow;
      no_flow = c.requires.no_flow;
      excess = ap length e ∙ length-replicate n (pos 0);
      no_excess = λ v. same_everywhere n v (pos 0) c.as_mut_slice.result.now e;
      cleared = c.in_ok-marks.ensures.cleared;
      dist = c.in_ok-marks.ensures.dist;
    }
