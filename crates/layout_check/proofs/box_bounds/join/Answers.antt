use Rattle.std.proofs.Common.{rules}
use Rattle.layout_check.proofs.BoxBoundsLaws.{above, below}
use Rattle.layout_check.proofs.box_bounds.join.Goals as goal

pub returns-clause-one : goal.returns-clause-one
returns-clause-one c =
    record {
      left = below c.lower.result c.args.one.left (search rules) (search rules) c.lower.ensures.one;
      top = below c.lower-2.result c.args.one.top (search rules) (search rules) c.lower-2.ensures.one;
      right = above c.upper.result c.args.one.right (search rules) (search rules) c.upper.ensures.one;
      bottom = above c.upper-2.result c.args.one.bottom (search rules) (search rules) c.upper-2.ensures.one;
    }

pub returns-clause-other : goal.returns-clause-other
returns-clause-other c =
    record {
      left = below c.lower.result c.args.other.left (search rules) (search rules) c.lower.ensures.other;
      top = below c.lower-2.result c.args.other.top (search rules) (search rules) c.lower-2.ensures.other;
      right = above c.upper.result c.args.other.right (search rules) (search rules) c.upper.ensures.other;
      bottom = above c.upper-2.result c.args.other.bottom (search rules) (search rules) c.upper-2.ensures.other;
    }
