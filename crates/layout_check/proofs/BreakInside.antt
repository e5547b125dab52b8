-- What each child and each edge owes follows from Inside.
use Rattle.std.proofs.Common.{inl, inr}
use Rattle.layout_check.specs.FirstInside.{FaultBreaksInside}

pub fault_breaks : FaultBreaksInside
fault_breaks d p n o x (inl (a, _, first)) inside = first.fails (λ child. inside.outlines a child tt)
fault_breaks d p n o x (inr (_, (e, _, first))) inside = first.fails (λ edge i l. inside.points e i edge tt l)
