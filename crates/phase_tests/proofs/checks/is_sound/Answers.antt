use Rattle.std.proofs.Common.{◌≤◌, length, rules}
use Rattle.elk_layers.specs.Layered.{plain, IsSpacing}
use Rattle.bk_place.specs.Checked.{AreGoodUnits, AreGoodLinks}
use Rattle.bk_place.proofs.CheckLemmas.{sound_from}
use Rattle.phase_tests.proofs.checks.is_sound.Goals as goal

pub returns : goal.returns
returns c = λ yes.
    let l = plain c.args.layered.now in
    let node_node : IsSpacing l.node_node = search rules in
    let edge_node : IsSpacing l.edge_node = search rules in
    let edge_edge : IsSpacing l.edge_edge = search rules in
    let units_few : length l.units ≤ 4096 = search rules in
    let links_few : length l.links ≤ 4096 = search rules in
    let units : AreGoodUnits l.layers l.units = search rules in
    let links : AreGoodLinks l.units l.links = search rules in
    sound_from l node_node edge_node edge_edge units_few links_few units links
