use Rattle.layout_check.proofs.SumLaws.{sums_by_ends}
use Rattle.layout_check.proofs.sums.level_sums.Goals as goal

pub returns : goal.returns
returns c =
    let d = c.args.scene.now.doc.now in
    let n = c.args.node in
    let r = c.requires in
    let heads = c.args.scene.now.heads.now in
    let tails = c.args.scene.now.tails.now in
    let flows = c.args.flows.now in
    let weights = c.args.scene.now.weights.now in
    record {
      flow_in = sums_by_ends d n heads flows _ _ _ r.scene.heads r.flows c.in_ok-sums.ensures;
      flow_out = sums_by_ends d n tails flows _ _ _ r.scene.tails r.flows c.in_ok-sums-2.ensures;
      weight_in = sums_by_ends d n heads weights _ _ _ r.scene.heads r.scene.weights c.in_ok-sums-3.ensures;
      weight_out = sums_by_ends d n tails weights _ _ _ r.scene.tails r.scene.weights c.in_ok-sums-4.ensures;
    }
