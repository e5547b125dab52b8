use Rattle.level_model.specs.Conditions.{plain_level}
use Rattle.dock_table.specs.Ends.{AreEndDocks}
use Rattle.dock_table.specs.Sides.{dock_lists, orders_in}
use Rattle.std.proofs.Common.{ap, ◌≡◌, arith, ◌∙◌, ◌<◌, ◌++◌, ◌∷◌, [], List, length, subst, sym}
use Rattle.std.proofs.lemmas.List.Elements.{All-push, All-same}
use Rattle.level_model.specs.declared.level.LevelEdge.{LevelEdge}
use Rattle.dock_table.specs.Narrow.{IsOffset}
use Rattle.dock_table.proofs.ChainLemmas.{edge_read}
use Rattle.drawing_types.specs.declared.shape.Dock.{Dock}
use Rattle.dock_table.proofs.LoopLemmas.{ends_pushed, sources_read, targets_read}
use Rattle.dock_table.proofs.loops.end_docks.Goals as goal

pub dock_at-requires-clause-number : goal.dock_at-requires-clause-number
dock_at-requires-clause-number c =
    (sources_read (plain_level c.args.level.now) c.requires.spots.0 c.requires.docks.0 c.args.spots.now (dock_lists c.args.docks.now) c.as_slice-edges.result.now c.loop-e.e _ c.index-source.result.now c.as_slice-edges.ensures.value c.loop-e-test.true c.requires.level c.requires.spots.1 c.requires.docks.1 c.index-source.ensures).0

pub dock_at-requires-in-loop-e-clause-number : goal.dock_at-requires-in-loop-e-clause-number
dock_at-requires-in-loop-e-clause-number c =
    (targets_read (plain_level c.args.level.now) c.requires.spots.0 c.requires.docks.0 c.args.spots.now (dock_lists c.args.docks.now) c.as_slice-edges.result.now c.loop-e.e _ c.index-target.result.now c.as_slice-edges.ensures.value c.loop-e-test.true c.requires.level c.requires.spots.1 c.requires.docks.1 c.index-target.ensures).0

pub dock_at-requires-clause-offsets : goal.dock_at-requires-clause-offsets
dock_at-requires-clause-offsets c =
    let at = edge_read (plain_level c.args.level.now) c.as_slice-edges.result.now c.loop-e.e _ c.as_slice-edges.ensures.value c.loop-e-test.true in
    c.requires.docks.1.offsets _ (subst (λ (x : LevelEdge). x.source.child < length c.args.level.now.children) (sym at.0) (c.requires.level.edges c.loop-e.e at.1).source.child)

pub dock_at-requires-in-loop-e-clause-offsets : goal.dock_at-requires-in-loop-e-clause-offsets
dock_at-requires-in-loop-e-clause-offsets c =
    let at = edge_read (plain_level c.args.level.now) c.as_slice-edges.result.now c.loop-e.e _ c.as_slice-edges.ensures.value c.loop-e-test.true in
    c.requires.docks.1.offsets _ (subst (λ (x : LevelEdge). x.target.child < length c.args.level.now.children) (sym at.0) (c.requires.level.edges c.loop-e.e at.1).target.child)

pub loop-e-preserved : goal.loop-e-preserved
loop-e-preserved c =
    let pushed = c.in_ok-push-2.ensures.items ∙ ap (λ (xs : List Dock). xs ++ c.dock_at-in-loop-e.result ∷ []) c.in_ok-push.ensures.items in
    record {
      offsets = All-same (λ (d : Dock). IsOffset d.offset) c.push-in-loop-e.new.self.items _ pushed
          (All-push (λ (d : Dock). IsOffset d.offset) (c.loop-e.ends.items ++ c.dock_at.result ∷ []) c.dock_at-in-loop-e.result
          (All-push (λ (d : Dock). IsOffset d.offset) c.loop-e.ends.items c.dock_at.result c.loop-e.invariant.offsets c.dock_at.ensures.offset) c.dock_at-in-loop-e.ensures.offset);
      docks = λ p vs spots docks.
          let source = (sources_read (plain_level c.args.level.now) p vs c.args.spots.now (dock_lists c.args.docks.now) c.as_slice-edges.result.now c.loop-e.e _ c.index-source.result.now c.as_slice-edges.ensures.value c.loop-e-test.true c.requires.level spots docks c.index-source.ensures).1 in
          let target = (targets_read (plain_level c.args.level.now) p vs c.args.spots.now (dock_lists c.args.docks.now) c.as_slice-edges.result.now c.loop-e.e _ c.index-target.result.now c.as_slice-edges.ensures.value c.loop-e-test.true c.requires.level spots docks c.index-target.ensures).1 in
          ends_pushed (plain_level c.args.level.now) p vs c.loop-e.e c.dock_at.result c.dock_at-in-loop-e.result c.loop-e.ends.items c.push-in-loop-e.new.self.items (c.dock_at.ensures.value ∙ source) (c.dock_at-in-loop-e.ensures.value ∙ target) pushed (c.loop-e.invariant.docks p vs spots docks);
    }

pub returns-clause-docks : goal.returns-clause-docks
returns-clause-docks c p vs spots docks =
    let end = c.loop-e.auto.e-end in
    let stop = c.loop-e-test.false in
    let same = ap length c.as_slice-edges.ensures.value in
    let whole : c.loop-e.e ≡ length c.args.level.now.edges = omega (arith, end, stop, same) in
    subst (λ n. AreEndDocks (plain_level c.args.level.now) p (orders_in vs) n c.loop-e.ends.items) whole (c.loop-e.invariant.docks p vs spots docks)
