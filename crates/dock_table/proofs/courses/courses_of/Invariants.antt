use Rattle.std.proofs.Common.{[], List, ℕ}
use Rattle.level_model.specs.Conditions.{plain_level, plain_plan}
use Rattle.dock_table.specs.Courses.{AreCourses, ReversedAreMarked}
use Rattle.dock_table.proofs.courses.courses_of.Given as goal

abbrev pub invariant-loop-e : goal.invariant-loop-e
invariant-loop-e l =
    (reversed : List ℕ) → ReversedAreMarked (plain_level l.level) l.is_reversed (plain_plan l.layered l.order [] reversed)
    → AreCourses (plain_level l.level) (plain_plan l.layered l.order [] reversed) l.e l.courses.items
