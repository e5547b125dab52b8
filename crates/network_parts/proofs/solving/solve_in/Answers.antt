use Rattle.std.proofs.Common.{◌≡◌, ◌∙◌, List, arith, length, subst, sym, ℕ}
use Rattle.std.proofs.lemmas.List.{length-map}
use Rattle.network_laws.specs.declared.network.Network.{Network}
use Rattle.network_laws.specs.declared.network.Solution.{Solution}
use Rattle.network_parts.specs.Answers.{ArePartsSolved, AreSolved}
use Rattle.network_parts.specs.Dividing.{AreCounted, ArePlaces, HoldNodes, rows_of, sizes_of}
use Rattle.network_parts.proofs.AnswerLemmas.{are_whole, parts_solved}
use Rattle.network_parts.proofs.solving.solve_in.Goals as goal

pub solve_each-requires : goal.solve_each-requires
solve_each-requires c =
    let numbers = c.args.numbers.now in
    let networks = c.give_edges.new.networks in
    let many = length-map networks (λ (n : Network). n.nodes) in
    let rows = length-map networks (λ (n : Network). n.edges.items) in
    let long = c.give_edges.auto.networks in
    let before = c.place_nodes.auto.networks in
    are_whole numbers c.args.edges.now (sizes_of networks) (rows_of networks) c.requires.network c.requires.parts (subst (AreCounted numbers (length numbers)) (omega (arith, many, long, before)) c.requires.count) (rows ∙ sym many)
    (subst (HoldNodes numbers (length numbers)) (sym c.in_ok-give_edges.ensures.nodes) c.in_ok-places.ensures.nodes) c.in_ok-give_edges.ensures.edges

pub join_all-requires : goal.join_all-requires
join_all-requires c =
    let numbers = c.args.numbers.now in
    let edges = c.args.edges.now in
    let networks = c.give_edges.new.networks in
    let solutions = c.in_ok-solutions.solutions.items in
    let sizes_many = length-map networks (λ (n : Network). n.nodes) in
    let rows_many = length-map networks (λ (n : Network). n.edges.items) in
    let many = c.in_ok-solutions.ensures.as_many in
    let long = c.give_edges.auto.networks in
    let before = c.place_nodes.auto.networks in
    let nodes : HoldNodes numbers (length numbers) (sizes_of networks) = subst (HoldNodes numbers (length numbers)) (sym c.in_ok-give_edges.ensures.nodes) c.in_ok-places.ensures.nodes in
    let count : length c.args.networks.now ≡ length solutions = omega (arith, many, long, before) in
    record {
      network = c.requires.network;
      parts = c.requires.parts;
      count = subst (λ (xs : List Solution). AreCounted numbers (length numbers) (length xs)) (sym c.as_slice-3.ensures.value) (subst (AreCounted numbers (length numbers)) count c.requires.count);
      places = subst (ArePlaces numbers (length numbers)) (sym c.as_slice-2.ensures.value) c.in_ok-places.ensures.places;
      solved = subst (ArePartsSolved numbers edges) (sym c.as_slice-3.ensures.value)
          (parts_solved numbers edges (sizes_of networks) (rows_of networks) solutions (sizes_many ∙ sym many) (rows_many ∙ sym many) nodes c.in_ok-give_edges.ensures.edges
          (subst (λ (n : ℕ). AreSolved (sizes_of networks) (rows_of networks) n solutions) (sym many) c.in_ok-solutions.ensures));
    }
