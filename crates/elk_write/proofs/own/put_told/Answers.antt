use Rattle.elk_write.proofs.own.put_told.Goals as goal

pub returns-in-Layering : goal.returns-in-Layering
returns-in-Layering c = rw c.in-Layering.is c.put_layering.ensures
