use Rattle.std.proofs.Common.{[], length, sym}
use Rattle.elk_layers.specs.Layered.{plain, rows_of}
use Rattle.level_model.specs.Conditions.{plain_level}
use Rattle.layer_units.specs.Marks.{listed}
use Rattle.layer_units.proofs.MarkLemmas.{marks_listed}
use Rattle.level_layout.proofs.LayerLemmas.{layers_from}
use Rattle.level_layout.proofs.UnitsLemmas.{started, units_ranked}
use Rattle.level_layout.proofs.phases.start_for.Goals as goal

pub units_for-requires-clause-layering : goal.units_for-requires-clause-layering
units_for-requires-clause-layering c =
    rw (sym c.requires.listed, c.as_slice-layers.ensures.value) (layers_from (plain_level c.args.level.now) c.args.certificate.now c.requires.level c.requires.certificate)

pub ranked-requires-clause-is_reversed : goal.ranked-requires-clause-is_reversed
ranked-requires-clause-is_reversed c = record {
  marks = marks_listed c.args.is_reversed.now (length c.args.level.now.edges) c.requires.marks;
  layers = c.as_slice-layers.result.now;
  linked = c.in_ok-blank.ensures.linked (rows_of c.in_ok-rows.rows) [];
}

pub returns-clause-units : goal.returns-clause-units
returns-clause-units c =
    units_ranked (plain_level c.args.level.now) c.args.certificate.now c.in_ok-blank.blank c.in_ok-layered.layered (listed c.args.is_reversed.now) c.as_slice-layers.result.now
    (sym c.requires.listed) c.as_slice-layers.ensures.value c.in_ok-blank.ensures.linked c.in_ok-blank.ensures.numbered c.in_ok-blank.ensures.few_layers c.in_ok-blank.ensures.layers
    c.in_ok-blank.ensures.node_node c.in_ok-blank.ensures.edge_node c.in_ok-blank.ensures.edge_edge c.in_ok-layered.ensures.ranks c.in_ok-layered.ensures.kept c.in_ok-layered.ensures.sound

pub returns-clause-rows : goal.returns-clause-rows
returns-clause-rows c = c.in_ok-layered.ensures.rows (rows_of c.in_ok-rows.rows) c.in_ok-rows.ensures.rows

pub returns-clause-start : goal.returns-clause-start
returns-clause-start c = started (plain c.in_ok-blank.blank) (plain c.in_ok-layered.layered) (rows_of c.in_ok-rows.rows) c.in_ok-layered.ensures.kept c.in_ok-rows.ensures.ascending
