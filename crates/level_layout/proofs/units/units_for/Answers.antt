use Rattle.std.proofs.Common.{List, Option, length, subst, sym}
use Rattle.graph_arena.specs.declared.keys.EdgeKey.{EdgeKey}
use Rattle.level_model.specs.Conditions.{plain_level}
use Rattle.layer_units.specs.Layering.{layering}
use Rattle.layer_units.specs.Chained.{AreChained}
use Rattle.layer_units.specs.Marks.{listed}
use Rattle.layer_units.proofs.MarkLemmas.{marks_listed}
use Rattle.level_layout.proofs.ChainLemmas.{lengths, onward}
use Rattle.level_layout.proofs.units.units_for.Goals as goal

pub chains_of-requires-clause-onward : goal.chains_of-requires-clause-onward
chains_of-requires-clause-onward c = onward (plain_level c.args.level.now) (listed c.args.is_reversed.now) c.args.layers.now c.args.is_reversed.now c.requires.level c.requires.layering (marks_listed c.args.is_reversed.now (length c.args.level.now.edges) c.requires.marks)

pub units_of-requires-clause-chained : goal.units_of-requires-clause-chained
units_of-requires-clause-chained c =
    subst (λ (ks : List (Option EdgeKey)). AreChained (layering (plain_level c.args.level.now) (listed c.args.is_reversed.now) c.args.layers.now) ks c.in_ok-split.split.chains) (sym c.as_slice-keys.ensures.value)
    (lengths (plain_level c.args.level.now) (listed c.args.is_reversed.now) c.args.layers.now c.args.is_reversed.now c.requires.level c.requires.layering (marks_listed c.args.is_reversed.now (length c.args.level.now.edges) c.requires.marks)
    c.in_ok-split.split.keys.items c.in_ok-split.split.chains c.in_ok-split.ensures)
