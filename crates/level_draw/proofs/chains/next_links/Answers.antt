use Rattle.std.proofs.Common.{◌<◌, length, rules}
use Rattle.level_nets.specs.Reach.{parts_in}
use Rattle.level_draw.proofs.NextLemmas.{next_start, next_more}
use Rattle.level_draw.proofs.chains.next_links.Goals as goal

pub loop-number-init : goal.loop-number-init
loop-number-init c = next_start (parts_in c.args.sheet.now) _ _ (record { by_edge = search rules; by_unit = search rules })

pub loop-number-preserved : goal.loop-number-preserved
loop-number-preserved c =
    let s = parts_in c.args.sheet.now in
    let less : c.loop-number.number < length c.args.sheet.now.layered.now.links.items = search rules in
    next_more s c.requires.single (λ k h. (c.requires.sheet.sound.links_are k h).tail) c.loop-number.number less c.loop-number.next.firsts.items c.loop-number.next.outs.items
    c.loop-number.invariant _ _ c.note_link.ensures.firsts c.note_link.ensures.outs
