use Rattle.std.proofs.Common.{◌≡◌, drop}
use Rattle.std.specs.List.{list_all}
use Rattle.elk_write.specs.Reading.{is_listable}
use Rattle.elk_write.proofs.levels.are_listable.Given as goal

abbrev pub invariant-loop-edge : goal.invariant-loop-edge
invariant-loop-edge l = list_all (is_listable l.doc l.node) l.edges ≡ list_all (is_listable l.doc l.node) (drop l.edge-index l.edges)
