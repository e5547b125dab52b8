-- Linear programming duality between layerings and flows.
use Rattle.std.specs.Prelude.{ℕ}
use Rattle.elk_doc.specs.declared.drawing.Certificate.{Certificate}
use Rattle.elk_doc.specs.declared.drawing.Placed.{Placed}
use Rattle.elk_doc.specs.Document.{Document}
use Rattle.elk_doc.specs.Sound.{IsSound}
use Rattle.elk_doc.specs.Layering.{Least}
use Rattle.elk_doc.specs.FlowProof.{FlowProof}

-- The written flow of a level bounds the span of every layering of its orientation from below. (Gansner, Koutsofios,
-- North, Vo 1993, section 2.)
abbrev pub FlowShowsLeast : Type 0
FlowShowsLeast =
    (d : Document) (p : Placed) (n : ℕ) (c : Certificate) → IsSound d → FlowProof d p n c → Least d p n c
