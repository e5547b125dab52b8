use Rattle.std.proofs.Common.{◌^◌, sym, subst}
use Rattle.elk_doc.specs.declared.document.Port.{Port}
use Rattle.elk_doc.specs.Sound.{IsSoundSize}
use Rattle.drawing_types.specs.Ranges.{IsPlaceWithin}
use Rattle.level_io.proofs.ReadLemmas.{rotated_sound}
use Rattle.level_io.proofs.reading.read_port.Goals as goal

pub rotated_place-requires-clause-size : goal.rotated_place-requires-clause-size
rotated_place-requires-clause-size c =
    subst (λ (q : Port). IsSoundSize q.size) (sym c.port-found.ensures.value) (c.port-found.ensures.sound.ports.each c.args.port c.requires.port).size

pub rotated_place-requires-clause-far : goal.rotated_place-requires-clause-far
rotated_place-requires-clause-far c =
    subst (λ (q : Port). IsPlaceWithin (2 ^ 53) q.place) (sym c.port-found.ensures.value) (c.port-found.ensures.sound.ports.each c.args.port c.requires.port).far

pub half_along-requires : goal.half_along-requires
half_along-requires c =
    subst IsSoundSize (sym c.rotated_size-size.ensures)
    (rotated_sound c.args.way c.port-found.result.now.size
    (subst (λ (q : Port). IsSoundSize q.size) (sym c.port-found.ensures.value) (c.port-found.ensures.sound.ports.each c.args.port c.requires.port).size))
