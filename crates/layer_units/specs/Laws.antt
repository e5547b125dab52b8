-- Ranks do not depend on the order of the rows, and with heights and pins they make a level's units.
use Rattle.std.specs.Prelude.{◌≡◌, ℕ, ◌<◌, List, length, IsFalse}
use Rattle.elk_layers.specs.Layered.{Plain}
use Rattle.level_model.specs.Conditions.{IsLevel}
use Rattle.level_model.specs.Level.{End, Orders, PlainLevel, PlainPlan, is_loop}
use Rattle.level_model.specs.Units.{AreOrders, AreUnits, rank_of_end}
use Rattle.layer_units.specs.Fitted.{AreFitted, AreKept}
use Rattle.layer_units.specs.Ranked.{AreRanked}

-- the rank of a link's end is the same for all plans that turn the same edges round, under any orders of their sides
abbrev pub NeedNoRows : Type 0
NeedNoRows =
    (l : PlainLevel) (p q : PlainPlan) (o r : Orders) (n : End) → IsLevel l → p.reversed ≡ q.reversed → AreOrders l p o → AreOrders l q r
    → n.edge < length l.edges → IsFalse (is_loop l n.edge) → rank_of_end l p o n ≡ rank_of_end l q r n

-- Ranks hold after heights and pins are known, and then all is known that a drawing asks of units and links.
pub record MakeUnits : Type 0 where
  pub kept : (l : PlainLevel) (a b : Plain) (reversed : List ℕ) → AreKept a b → AreRanked l a reversed → AreRanked l b reversed
  pub units : (l : PlainLevel) (p : PlainPlan) (o : Orders) (layers : List ℕ) → AreFitted l p o layers
      → AreRanked l p.layered p.reversed → AreUnits l p o layers
