use Rattle.level_io.proofs.RoomLemmas.{writable}
use Rattle.level_io.proofs.writable.tight_drawings_are_writable.Goals as goal

pub returns : goal.returns
returns c = λ d p n o v gaps traces left top sound drawn tight long sizes reversed.
    writable d p n o v gaps traces left top sound drawn tight long sizes reversed
