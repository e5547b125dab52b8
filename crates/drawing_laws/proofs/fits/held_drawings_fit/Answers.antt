use Rattle.drawing_laws.proofs.HeldLemmas.{held_drawings_are_small, held_drawings_fit}
use Rattle.drawing_laws.proofs.fits.held_drawings_fit.Goals as goal

pub returns-clause-fits : goal.returns-clause-fits
returns-clause-fits c = held_drawings_fit

pub returns-clause-small : goal.returns-clause-small
returns-clause-small c = held_drawings_are_small
