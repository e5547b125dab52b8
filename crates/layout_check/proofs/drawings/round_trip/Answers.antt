use Rattle.layout_check.proofs.RoundTripDrawing.{round_trip_is_drawn, round_trip_is_spoilt}
use Rattle.layout_check.proofs.drawings.round_trip.Goals as goal

pub returns-clause-drawn : goal.returns-clause-drawn
returns-clause-drawn c = round_trip_is_drawn

pub returns-clause-spoilt : goal.returns-clause-spoilt
returns-clause-spoilt c = round_trip_is_spoilt
