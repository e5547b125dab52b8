use Rattle.std.proofs.Common.{sym, subst}
use Rattle.level_model.specs.declared.table.EndAt.{EndAt}
use Rattle.level_model.specs.Level.{end_at}
use Rattle.level_model.specs.Table.{end_number}
use Rattle.level_draw.specs.Reach.{IsNearPoint}
use Rattle.level_draw.proofs.RangeLemmas.{end_there}
use Rattle.level_draw.proofs.places.anchor_at.Goals as goal

pub point_from-requires-clause-by : goal.point_from-requires-clause-by
point_from-requires-clause-by c =
    subst (λ (v : EndAt). IsNearPoint v.anchor) (sym c.end_at.ensures)
    (c.requires.numbers.anchors (end_number (end_at c.args.edge c.args.at_source)) (end_there c.args.edge c.args.at_source _ _ c.requires.edge c.requires.sheet.reach.as_many_ends))
