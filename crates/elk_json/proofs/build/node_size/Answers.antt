use Rattle.std.proofs.Common.{◌∙◌, sym}
use Rattle.elk_json.specs.Seen.{seen}
use Rattle.serde_json.specs.View.{view}
use Rattle.elk_json.proofs.BuildLaws.{width_far, height_far}
use Rattle.elk_json.proofs.NodeLaws.{leaf_size}
use Rattle.elk_json.proofs.build.node_size.Goals as goal

pub size_of-requires-clause-width : goal.size_of-requires-clause-width
size_of-requires-clause-width c =
    width_far (view c.args.element.now.value.now)
    (leaf_size (seen c.args.element.now) c.requires.node (sym c.is_compound.ensures ∙ c.if-is_compound.false) c.requires.in_range)

pub size_of-requires-clause-height : goal.size_of-requires-clause-height
size_of-requires-clause-height c =
    height_far (view c.args.element.now.value.now)
    (leaf_size (seen c.args.element.now) c.requires.node (sym c.is_compound.ensures ∙ c.if-is_compound.false) c.requires.in_range)
