use Rattle.level_io.proofs.FramedLemmas.{framed}
use Rattle.level_io.proofs.writable.sizes_frame.Goals as goal

pub returns : goal.returns
returns c = λ d p n o v compound count solid kept size. framed d p n o compound kept v count solid size
