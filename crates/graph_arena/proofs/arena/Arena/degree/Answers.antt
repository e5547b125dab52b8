use Rattle.std.proofs.Common.{◌≡◌, ◌+◌, length, arith, ap, subst}
use Rattle.graph_arena.specs.declared.slots.Flank.TheVariants.{Outward, Inward}
use Rattle.graph_arena.specs.Graph.{Graph, out_list, in_list}
use Rattle.graph_arena.proofs.Moves.{row_count}
use Rattle.graph_arena.proofs.Views.{outs_are, ins_are}
use Rattle.graph_arena.proofs.Readers.{count_is}
use Rattle.graph_arena.proofs.arena.Arena.degree.Goals as goal

pub overflow_add-result : goal.overflow_add-result
overflow_add-result c =
    let a = row_count Outward c.self.inside.nodes c.self.inside.edges c.args.node.at c.row_at-outward.result (c.self.invariant.flanks Outward) c.row_at-outward.ensures in
    let b = row_count Inward c.self.inside.nodes c.self.inside.edges c.args.node.at c.row_at-inward.result (c.self.invariant.flanks Inward) c.row_at-inward.ensures in
    omega (arith, a, b, c.self.invariant.small)

pub returns : goal.returns
returns c =
    let a = count_is Outward c.self.inside.nodes c.self.inside.edges c.args.node.at c.row_at-outward.result (c.self.invariant.flanks Outward) c.row_at-outward.ensures in
    let b = count_is Inward c.self.inside.nodes c.self.inside.edges c.args.node.at c.row_at-inward.result (c.self.invariant.flanks Inward) c.row_at-inward.ensures in
    let x = ap length (outs_are c.self.inside.nodes c.self.inside.edges c.args.node.at) in
    let y = ap length (ins_are c.self.inside.nodes c.self.inside.edges c.args.node.at) in
    subst (λ (g : Graph). c.row_at-outward.result.count + c.row_at-inward.result.count ≡ length (out_list g c.args.node.at) + length (in_list g c.args.node.at)) c.self.view_is (omega (arith, a, b, x, y))
