-- Lines of either placing are those that the level asks for.
use Rattle.std.proofs.Common.{◌≡◌, sym, ◌∙◌, ℕ, List, ℤ, None, Some}
use Rattle.std.specs.Prelude.{Option}
use Rattle.elk_doc.specs.declared.document.Placing.{Placing}
use Rattle.elk_doc.specs.declared.document.Placing.TheVariants.{BrandesKoepf, NetworkSimplex}
use Rattle.drawing_types.specs.declared.sweep.Sweep.{Sweep}
use Rattle.elk_layers.specs.Layered.{Plain}
use Rattle.elk_layers.specs.Lines.{AreApart}
use Rattle.unit_blocks.specs.Constraints.{EndsWithinStack}
use Rattle.bk_place.specs.Placement.{AreLinesOf}
use Rattle.level_layout.specs.Chosen.{AreLeastHigh, AreChosenLines}

lines_apart : (l : Plain) (rows : List (List ℕ)) (fixed : Option Sweep) (tops : List ℤ) → AreLinesOf l rows fixed tops → AreApart l rows tops
lines_apart l rows None tops h = h.are_least.are_lines.apart
lines_apart l rows (Some s) tops h = h.are_lines.apart

one_placing : (placing : Placing) → placing ≡ BrandesKoepf → placing ≡ NetworkSimplex → ⊥
one_placing placing a b = let same : BrandesKoepf ≡ NetworkSimplex = sym a ∙ b in absurd cc

pub by_alignment : (l : Plain) (rows : List (List ℕ)) (placing : Placing) (fixed : Option Sweep) (straightness : ℕ) (tops : List ℤ) → placing ≡ BrandesKoepf → AreLinesOf l rows fixed tops → EndsWithinStack l tops
    → AreChosenLines l rows placing fixed straightness tops
by_alignment l rows placing fixed straightness tops is lines ends =
    record { apart = lines_apart l rows fixed tops lines; within = ends; aligned = λ _. lines; least_high = λ other. absurd (one_placing placing is other) }

pub by_height : (l : Plain) (rows : List (List ℕ)) (placing : Placing) (fixed : Option Sweep) (straightness : ℕ) (tops : List ℤ) → placing ≡ NetworkSimplex → AreLeastHigh l rows straightness tops → EndsWithinStack l tops
    → AreChosenLines l rows placing fixed straightness tops
by_height l rows placing fixed straightness tops is lines ends =
    record { apart = lines.is.placing.apart; within = ends; aligned = λ other. absurd (one_placing placing other is); least_high = λ _. lines }
