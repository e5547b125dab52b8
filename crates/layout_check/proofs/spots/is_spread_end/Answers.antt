use Rattle.std.proofs.Common.{◌≡◌, ◌≢◌, ap, sym, ◌∙◌, rules}
use Rattle.drawing_types.specs.declared.shape.Dock.{Dock}
use Rattle.elk_doc.specs.Places.{dock_of}
use Rattle.layout_check.proofs.SpotLaws.{elsewhere}
use Rattle.layout_check.proofs.spots.is_spread_end.Goals as goal

pub returns-then-dock-node : goal.returns-then-dock-node
returns-then-dock-node c =
    let d = c.args.scene.now.doc.now in
    let p = c.args.scene.now.placed.now in
    let e = c.args.edge in
    let there = ap (λ (x : Dock). x.node) c.dock_of-dock.ensures in
    let away : (dock_of d p e c.args.at_source).node ≢ c.args.node = λ same. let here : c.dock_of-dock.result.node ≡ c.args.node = there ∙ same in absurd (search rules) in
    sym (elsewhere d p e c.args.at_source c.args.node _ away)
