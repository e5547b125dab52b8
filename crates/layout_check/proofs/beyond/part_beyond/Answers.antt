use Rattle.std.proofs.Common.{rules}
use Rattle.std.proofs.lemmas.Bool.{both_ways}
use Rattle.layout_check.proofs.beyond.part_beyond.Goals as goal

pub returns-then-not-outlines_beyond : goal.returns-then-not-outlines_beyond
returns-then-not-outlines_beyond c =
    (λ h. absurd (search rules), λ h. absurd (both_ways c.outlines_beyond.result c.if-not-outlines_beyond.true (c.outlines_beyond.ensures.1 (λ b x y. h.outlines b x y))))

pub returns : goal.returns
returns c =
    let first = c.outlines_beyond.ensures.0 c.if-not-outlines_beyond.false in (
      λ t. record { outlines = λ b x y. first b x y; points = λ e i x y l. c.routes_beyond.ensures.0 t e x y i l },
      λ h. c.routes_beyond.ensures.1 (λ e x y i l. h.points e i x y l),
    )
