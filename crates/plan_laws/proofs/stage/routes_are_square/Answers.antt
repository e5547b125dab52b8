use Rattle.std.proofs.Common.{true, false}
use Rattle.level_model.specs.Law.{outward}
use Rattle.plan_laws.proofs.Paths.{square_orthogonal}
use Rattle.route_lines.specs.Tidied.{opposite}
use Rattle.route_lines.proofs.Dropping.{starts_all, ends_all}
use Rattle.route_lines.proofs.Headings.{square}
use Rattle.plan_laws.proofs.stage.routes_are_square.Goals as goal

pub returns : goal.returns
returns c = λ s e ps x.
    record {
      starts = starts_all (s.anchor e true) x.fine ps x.tidied.dropped x.starts;
      ends = ends_all (s.anchor e false) x.fine ps x.tidied.dropped x.ends;
      orthogonal = λ n. square_orthogonal (s.dock e true).side (s.dock e false).side ps
          (square (outward (s.dock e true).side) (opposite (outward (s.dock e false).side)) x.fine ps x.tidied (x.runs n));
    }
