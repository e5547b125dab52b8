use Rattle.dock_table.proofs.EntryLemmas.{height_near}
use Rattle.dock_table.proofs.TimesLemmas.{height_kept}
use Rattle.dock_table.proofs.tables.loop_entry.Goals as goal

pub lane_height-above-requires-clause-height : goal.lane_height-above-requires-clause-height
lane_height-above-requires-clause-height c = height_kept c.args.entry.now.outline.height (height_near c.args.entry.now.outline c.requires.near)

pub lane_height-below-requires-clause-height : goal.lane_height-below-requires-clause-height
lane_height-below-requires-clause-height c = height_kept c.args.entry.now.outline.height (height_near c.args.entry.now.outline c.requires.near)
