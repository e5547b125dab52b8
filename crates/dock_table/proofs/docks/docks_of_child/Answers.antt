use Rattle.std.proofs.Common.{refl}
use Rattle.std.proofs.lemmas.List.Elements.{All-push, All-same}
use Rattle.drawing_types.specs.declared.shape.Dock.{Dock}
use Rattle.port_order.specs.Child.{spot_at}
use Rattle.dock_table.specs.Narrow.{IsOffset}
use Rattle.dock_table.specs.Sides.{four_of}
use Rattle.dock_table.proofs.PartLemmas.{docks_more, spot_ready}
use Rattle.dock_table.proofs.docks.docks_of_child.Goals as goal

pub dock_at-requires-clause-few : goal.dock_at-requires-clause-few
dock_at-requires-clause-few c =
    (spot_ready c.args.child.now c.args.spots.now (four_of c.args.orders.now) c.in_ok-place.place.items c.loop-i.i c.index.result.now (spot_at c.args.spots.now c.loop-i.i) c.requires.spots c.requires.numbers c.requires.few c.requires.orders c.in_ok-place.ensures c.loop-i-test.true refl c.index.ensures).1

pub loop-i-preserved : goal.loop-i-preserved
loop-i-preserved c =
    record {
      docks = docks_more c.args.child.now c.args.node (four_of c.args.orders.now) c.args.spots.now c.loop-i.i (spot_at c.args.spots.now c.loop-i.i) c.dock_at.result c.loop-i.docks.items c.push.new.self.items c.loop-i-test.true refl c.dock_at.ensures.value c.in_ok-push.ensures.items c.loop-i.invariant.docks;
      offsets = All-same (λ (d : Dock). IsOffset d.offset) c.push.new.self.items _ c.in_ok-push.ensures.items (All-push (λ (d : Dock). IsOffset d.offset) c.loop-i.docks.items c.dock_at.result c.loop-i.invariant.offsets c.dock_at.ensures.offset);
    }
