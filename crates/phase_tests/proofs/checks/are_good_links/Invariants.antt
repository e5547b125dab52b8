use Rattle.std.proofs.Common.{ℕ, ◌<◌}
use Rattle.elk_layers.specs.Layered.{link_at}
use Rattle.bk_place.specs.Checked.{IsGoodLink}
use Rattle.phase_tests.proofs.checks.are_good_links.Given as goal

abbrev pub invariant-loop-link : goal.invariant-loop-link
invariant-loop-link l = (j : ℕ) → j < l.link-index → IsGoodLink l.units (link_at l.links j)
