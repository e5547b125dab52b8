-- A level that is written is framed.
use Rattle.std.proofs.Common.{ℕ, rules}
use Rattle.std.specs.Prelude.{Option, None, Some, IfSome, IsSome}
use Rattle.elk_doc.specs.declared.document.LevelOptions.{LevelOptions}
use Rattle.elk_doc.specs.declared.drawing.Placed.{Placed}
use Rattle.elk_doc.specs.Document.{Document}
use Rattle.level_io.specs.declared.figure.LevelFigure.{LevelFigure}
use Rattle.level_io.specs.Canvas.{IsDrawingOf}
use Rattle.level_io.specs.Sizes.{IsNodeFramed}
use Rattle.level_io.specs.Written.{IsWritten}
use Rattle.compound.specs.Work.{IsFramedRound}

module _ (d : Document) (n : ℕ) (v : LevelFigure) (old between : Placed) where
  pub still_complete : (level : Option LevelOptions) → IsSome level → IfSome level (λ o. IsWritten d n o v old between) → IsDrawingOf d between
  still_complete None some written = absurd (search rules)
  still_complete (Some o) some written = written.complete

  pub framed_round : (now : Placed) (level : Option LevelOptions)
      → IfSome level (λ o. IsWritten d n o v old between) → IfSome level (λ o. IsNodeFramed d n o v.extent between now) → IfSome level (λ o. IsFramedRound d n o v old now)
  framed_round now None written framed = written
  framed_round now (Some o) written framed = record { between = between; written = written; framed = framed }
