use Rattle.std.proofs.Common.{◌≡◌, refl, rules, w64}
use mir.Val.{to_z, of_z}
use Rattle.elk_options.specs.declared.names.OptionName.TheVariants as name
use Rattle.elk_options.specs.Reading.{given, distance_or, spacing_of, spacing_names}
use Rattle.elk_options.proofs.options.spacing.Goals as goal

pub returns : goal.returns
unfolding spacing_of spacing_names
returns c =
    let node_node : to_z w64 (of_z w64 c.in_ok-node_node.node_node) ≡ distance_or 20 name.NodeNode (given c.args.options) = search rules in
    let edge_node : to_z w64 (of_z w64 c.in_ok-edge_node.edge_node) ≡ distance_or 10 name.EdgeNode (given c.args.options) = search rules in
    let edge_edge : to_z w64 (of_z w64 c.in_ok-edge_edge.edge_edge) ≡ distance_or 10 name.EdgeEdge (given c.args.options) = search rules in
    let node_layers : to_z w64 (of_z w64 c.in_ok-node_layers.node_layers) ≡ distance_or 20 name.NodeLayers (given c.args.options) = search rules in
    let edge_node_layers : to_z w64 (of_z w64 c.in_ok-edge_node_layers.edge_node_layers) ≡ distance_or 10 name.EdgeNodeLayers (given c.args.options) = search rules in
    let edge_edge_layers : to_z w64 (of_z w64 c.in_ok-edge_edge_layers.edge_edge_layers) ≡ distance_or 10 name.EdgeEdgeLayers (given c.args.options) = search rules in
    (search rules, rw (node_node, edge_node, edge_edge, node_layers, edge_node_layers, edge_edge_layers) refl)
