use Rattle.std.proofs.Common.{List, arith, slice_index, subst, sym, ℕ}
use Rattle.std.proofs.lemmas.List.{length-map}
use Rattle.network_laws.specs.declared.network.NetEdge.{NetEdge}
use Rattle.network_laws.specs.declared.network.Network.{Network}
use Rattle.network_parts.specs.Answers.{IsWhole}
use Rattle.network_parts.specs.Dividing.{rows_of, sizes_of}
use Rattle.network_parts.proofs.AnswerLemmas.{none_solved, solved_more}
use Rattle.network_parts.proofs.FillLemmas.{row_read, size_read}
use Rattle.network_parts.proofs.solving.solve_each.Goals as goal

pub loop-net-init : goal.loop-net-init
loop-net-init c = none_solved (sizes_of c.args.networks.now) (rows_of c.args.networks.now) c.in_ok-solutions.solutions.items c.in_ok-solutions.ensures.items

pub solve_alone-requires : goal.solve_alone-requires
solve_alone-requires c =
    let networks = c.args.networks.now in
    let k = c.loop-net.net-index in
    let net = c.net-item.result in
    let less = c.loop-net-test.true in
    let many = length-map networks (λ (n : Network). n.nodes) in
    let whole = c.requires k (omega (arith, less, many)) in
    subst (λ (n : ℕ). IsWhole n net.edges.items) (sym (size_read networks k net less c.net-item.is))
    (subst (λ (es : List NetEdge). IsWhole (slice_index (sizes_of networks) k) es) (sym (row_read networks k net less c.net-item.is)) whole)

pub loop-net-preserved : goal.loop-net-preserved
loop-net-preserved c =
    let networks = c.args.networks.now in
    let k = c.loop-net.net-index in
    let net = c.net-item.result in
    let less = c.loop-net-test.true in
    solved_more (sizes_of networks) (rows_of networks) k net.nodes net.edges.items c.loop-net.solutions.items c.push.new.self.items c.in_ok-solve_alone.field-0 (size_read networks k net less c.net-item.is) (row_read networks k net less c.net-item.is) c.in_ok-solve_alone.ensures c.in_ok-push.ensures.items
    c.loop-net.invariant
