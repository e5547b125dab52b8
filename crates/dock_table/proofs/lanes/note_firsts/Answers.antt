use Rattle.std.proofs.Common.{◌<◌, subst, sym, ◌∙◌}
use Rattle.std.specs.Ordering.{int_cmp}
use Rattle.std.specs.BTreeMap.{get}
use Rattle.drawing_types.specs.declared.shape.Dock.{Dock}
use Rattle.dock_table.specs.Lanes.{NotesFirstSpot}
use Rattle.dock_table.specs.Outlines.{dock_in}
use Rattle.dock_table.proofs.FirstLemmas.{kept_more, long_more, noted_more, seen_more}
use Rattle.dock_table.proofs.lanes.note_firsts.Goals as goal
use Rattle.dock_table.proofs.LoopLemmas.{dock_kept}

pub loop-i-preserved : goal.loop-i-preserved
loop-i-preserved c =
    let docks = c.args.docks.now in
    let i = c.loop-i.i in
    let step : NotesFirstSpot (dock_in c.args.docks.now c.loop-i.i) c.args.side c.loop-i.i c.loop-i.firsts c.note_first.new.firsts (get int_cmp c.loop-i.seen) (get int_cmp c.note_first.new.seen) =
    subst (λ (d : Dock). NotesFirstSpot d c.args.side c.loop-i.i c.loop-i.firsts c.note_first.new.firsts (get int_cmp c.loop-i.seen) (get int_cmp c.note_first.new.seen)) (dock_kept docks i _ c.loop-i-test.true) c.in_ok-note_first.ensures
    in
    record {
      as_long = long_more docks c.args.side i c.loop-i.firsts c.note_first.new.firsts _ _ step ∙ c.loop-i.invariant.as_long;
      seen = seen_more docks c.args.side i c.loop-i.firsts c.note_first.new.firsts (get int_cmp c.loop-i.seen) (get int_cmp c.note_first.new.seen) step c.loop-i.invariant.seen;
      noted = noted_more docks c.args.side i c.loop-i.firsts c.note_first.new.firsts (get int_cmp c.loop-i.seen) (get int_cmp c.note_first.new.seen) step (subst (λ n. c.loop-i.i < n) (sym c.loop-i.invariant.as_long) c.loop-i-test.true) c.loop-i.invariant.seen c.loop-i.invariant.noted;
      kept = kept_more docks c.args.side i c.args.firsts.now c.loop-i.firsts c.note_first.new.firsts (get int_cmp c.loop-i.seen) (get int_cmp c.note_first.new.seen) step c.loop-i.invariant.kept;
    }
