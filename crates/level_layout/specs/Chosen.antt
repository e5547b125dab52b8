-- The rows of a level's plan, and its lines.
use Rattle.std.specs.Prelude.{◌≡◌, ℕ, List, ℤ, pos, map, min, Option, None, Some, option_and_then}
use Rattle.elk_doc.specs.declared.document.Placing.{Placing}
use Rattle.elk_doc.specs.declared.document.Placing.TheVariants.{BrandesKoepf, NetworkSimplex}
use Rattle.level_choices.specs.Choices.{order_of, straightness_of}
use Rattle.level_choices.specs.declared.choices.RowOrder.{RowOrder}
use Rattle.level_choices.specs.declared.choices.RowOrder.TheVariants.{Document, Kept, Swept}
use Rattle.drawing_types.specs.declared.sweep.Sweep.{Sweep}
use Rattle.elk_layers.specs.declared.units.Unit.{Unit as LayerUnit}
use Rattle.elk_layers.specs.Layered.{Plain}
use Rattle.elk_layers.specs.Crossings.{HasSameRows}
use Rattle.elk_layers.specs.Lines.{AreApart}
use Rattle.cross_reduce.specs.Held.{AreHeldRows, NoBetterFreeSwap}
use Rattle.cross_reduce.specs.Reduced.{IsReduced}
use Rattle.unit_blocks.specs.Constraints.{EndsWithinStack}
use Rattle.bk_place.specs.Placement.{AreLinesOf}
use Rattle.ns_place.specs.declared.least.PairFlow.{PairFlow}
use Rattle.ns_place.specs.Straight.{IsStraightPlacing}
use Rattle.ns_place.specs.Weighed.{greatest_weight}
use Rattle.level_model.specs.declared.level.LevelIn.{LevelIn}
use Rattle.level_model.specs.Level.{PlainLevel, child_at}

-- The key by which a child is held among those of its layer: its number where the order of the document is asked for, and its
-- position, if it has one, where its order is kept.
abbrev pub key_for : RowOrder → PlainLevel → ℕ → Option ℤ
key_for Swept level c = None
key_for Document level c = Some (pos c)
key_for Kept level c = (child_at level c).position

-- the key of a unit by the order that its level asks for: that of its child; lanes of long edges have none
abbrev pub unit_key : PlainLevel → LayerUnit → Option ℤ
unit_key level u = option_and_then (key_for (order_of level.choices) level) u.child

-- the keys of all units
abbrev pub held_keys : PlainLevel → Plain → List (Option ℤ)
held_keys level l = map (unit_key level) l.units

-- The rows of a start in an order in which, in each row, the held children ascend, and which no exchange of two neighbours makes
-- better, unless both are held.
pub record IsHeldOrder (l : Plain) (held : List (Option ℤ)) (start rows : List (List ℕ)) : Type 0 where
  pub same_rows : HasSameRows start rows
  pub ascends : AreHeldRows held rows
  pub settled : NoBetterFreeSwap l held rows

-- The rows of a plan: ones that reduce the crossings of its start, or, where an order of children is asked for, ones that hold it.
pub record AreChosenRows (level : PlainLevel) (l : Plain) (start rows : List (List ℕ)) : Type 0 where
  pub swept : order_of level.choices ≡ Swept → IsReduced l start rows
  pub document : order_of level.choices ≡ Document → IsHeldOrder l (held_keys level l) start rows
  pub kept : order_of level.choices ≡ Kept → IsHeldOrder l (held_keys level l) start rows

-- What a link weighs that alignment keeps straight; what is above the greatest weight counts as this.
abbrev pub straightness_for : LevelIn → ℕ
straightness_for level = min (straightness_of level.choices) greatest_weight

-- No tops that keep the distances have links that are together less high than at these, where links that alignment keeps straight
-- weigh so much and all others 1, and a flow shows it.
pub record AreLeastHigh (l : Plain) (rows : List (List ℕ)) (straightness : ℕ) (tops : List ℤ) : Type 0 where
  pub height : ℕ
  pub link_flow : List ℤ
  pub pairs : List PairFlow
  pub is : IsStraightPlacing l rows straightness tops height link_flow pairs

-- Lines that keep the distances, and no unit of which ends lower than all units stacked with the greatest of the distances. By
-- alignment they are those of the fixed sweep, or of the first of the four that needs the least height; by network simplex their
-- links are least high together by their weights.
pub record AreChosenLines (l : Plain) (rows : List (List ℕ)) (placing : Placing) (fixed : Option Sweep) (straightness : ℕ)
    (tops : List ℤ) : Type 0 where
  pub apart : AreApart l rows tops
  pub within : EndsWithinStack l tops
  pub aligned : placing ≡ BrandesKoepf → AreLinesOf l rows fixed tops
  pub least_high : placing ≡ NetworkSimplex → AreLeastHigh l rows straightness tops
