use Rattle.std.proofs.Common.{◌≡◌, ◌≤◌, ◌*◌, ◌^◌, take}
use Rattle.std.specs.List.{sum_by, count_by}
use Rattle.cross_reduce.specs.Pins.{is_under, IsBegin, EndsBelow}
use Rattle.cross_reduce.proofs.counting.crossed_links.Given as goal

abbrev pub invariant-loop-i : goal.invariant-loop-i
invariant-loop-i l =
    record {
      value : l.total ≡ sum_by (λ a. count_by (λ b. is_under b a) l.pins) (take l.i l.pins);
      bound : l.total ≤ l.i * 2 ^ 24;
      gap : IsBegin l.pins l.gap.place l.gap.count;
      highest : EndsBelow l.heads l.gap.count l.i l.gap.highest;
    }
