use Rattle.std.proofs.Common.{length, ◌≤◌}
use Rattle.elk_layers.specs.Layered.{plain}
use Rattle.dock_table.specs.Courses.{AreFirstFrom, is_near}
use Rattle.dock_table.proofs.courses.note_links.Given as goal

abbrev pub invariant-links : goal.invariant-links
invariant-links l =
    record {
      within : l.link ≤ length (plain l.layered).links;
      firsts : AreFirstFrom (is_near (plain l.layered) l.at_head) l.link (length (plain l.layered).links) (length l.initial.firsts) l.firsts;
    }

abbrev pub decreases-links : goal.decreases-links
decreases-links l = l.link
