use Rattle.std.proofs.Common.{◌≡◌, length}
use Rattle.elk_doc.specs.Drawing.{no_section}
use Rattle.level_io.specs.Changed.{AreChangedTo}
use Rattle.level_io.specs.Written.{section_change}
use Rattle.level_io.proofs.writing.write_sections.Given as goal

abbrev pub invariant-loop-section : goal.invariant-loop-section
invariant-loop-section l =
    (l.i ≡ length l.yielded) × AreChangedTo l.i l.edges (section_change l.way l.by l.yielded) no_section l.initial.written l.written
