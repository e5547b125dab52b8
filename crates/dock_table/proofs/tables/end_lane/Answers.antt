use Rattle.dock_table.proofs.EntryLemmas.{height_near}
use Rattle.dock_table.proofs.TimesLemmas.{height_kept}
use Rattle.dock_table.proofs.tables.end_lane.Goals as goal

pub lane_height-requires-clause-height : goal.lane_height-requires-clause-height
lane_height-requires-clause-height c = height_kept c.args.entry.now.outline.height (height_near c.args.entry.now.outline c.requires.near)
