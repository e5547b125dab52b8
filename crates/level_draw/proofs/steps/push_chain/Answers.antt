use Rattle.std.proofs.Common.{◌∙◌, ◌<◌, [], ◌∷◌, ◌++◌, length, arith, sym, subst, ap}
use Rattle.std.proofs.lemmas.Grind.{get_or_default_zero}
use Rattle.route_lines.specs.declared.Step.{Step}
use Rattle.level_nets.specs.Reach.{parts_in}
use Rattle.level_draw.specs.Read.{links_of}
use Rattle.level_draw.proofs.Walking.{walk_start, walk_more, walk_end, chain_of, first_link, first_steps, link_there, link_after}
use Rattle.level_draw.proofs.steps.push_chain.Goals as goal

pub link_leg-requires-clause-link : goal.link_leg-requires-clause-link
link_leg-requires-clause-link c =
    let s = parts_in c.args.sheet.now in
    let e = c.args.edge in
    let firsts = c.args.next.now.firsts.items in
    let outs = c.args.next.now.outs.items in
    let edge = c.requires.edge in
    let many = c.requires.next.room.by_edge in
    let chain = chain_of s c.requires.linked firsts outs c.requires.next e edge c.requires.no_loop in
    let some = chain.some in
    link_there s c.requires.linked firsts outs c.requires.next e edge c.requires.no_loop c.index-link.result.now 1 (omega arith) (omega (arith, some))
    (c.index-link.ensures ∙ get_or_default_zero firsts e _ (omega (arith, edge, many)) ∙ first_link s c.requires.linked firsts outs c.requires.next e edge c.requires.no_loop)

pub loop-init : goal.loop-init
loop-init c =
    let s = parts_in c.args.sheet.now in
    let e = c.args.edge in
    let firsts = c.args.next.now.firsts.items in
    let outs = c.args.next.now.outs.items in
    let edge = c.requires.edge in
    let many = c.requires.next.room.by_edge in
    let chain = chain_of s c.requires.linked firsts outs c.requires.next e edge c.requires.no_loop in
    walk_start s c.args.routing.now (links_of s e) _ c.index-link.result.now chain.some
    (c.index-link.ensures ∙ get_or_default_zero firsts e _ (omega (arith, edge, many)) ∙ first_link s c.requires.linked firsts outs c.requires.next e edge c.requires.no_loop)

pub push_next-requires-clause-link : goal.push_next-requires-clause-link
push_next-requires-clause-link c =
    let s = parts_in c.args.sheet.now in
    let walk = c.loop.invariant in
    link_there s c.requires.linked c.args.next.now.firsts.items c.args.next.now.outs.items c.requires.next c.args.edge c.requires.edge c.requires.no_loop c.loop.link c.loop.counter walk.some walk.inside walk.link_is

pub push_next-requires-clause-out : goal.push_next-requires-clause-out
push_next-requires-clause-out c =
    let s = parts_in c.args.sheet.now in
    let e = c.args.edge in
    let firsts = c.args.next.now.firsts.items in
    let outs = c.args.next.now.outs.items in
    let walk = c.loop.invariant in
    let test = c.loop-test.true in
    let long = c.chain_length-end.ensures in
    let less : c.loop.counter < length (links_of s e) = omega (arith, test, long) in
    let chain = chain_of s c.requires.linked firsts outs c.requires.next e c.requires.edge c.requires.no_loop in
    subst (λ k. k < length s.layered.links) (sym (link_after s c.requires.linked firsts outs c.requires.next e c.requires.edge c.requires.no_loop c.loop.link c.loop.counter walk.some less walk.link_is))
    (chain.there c.loop.counter less)

pub loop-preserved : goal.loop-preserved
loop-preserved c =
    let s = parts_in c.args.sheet.now in
    let e = c.args.edge in
    let firsts = c.args.next.now.firsts.items in
    let outs = c.args.next.now.outs.items in
    let walk = c.loop.invariant in
    let test = c.loop-test.true in
    let long = c.chain_length-end.ensures in
    let less : c.loop.counter < length (links_of s e) = omega (arith, test, long) in
    walk_more s c.args.routing.now (links_of s e) _ c.loop.steps.items c.push_next.new.steps.items c.loop.counter c.loop.link c.in_ok-link.link walk less
    (c.in_ok-link.ensures.value ∙ link_after s c.requires.linked firsts outs c.requires.next e c.requires.edge c.requires.no_loop c.loop.link c.loop.counter walk.some less walk.link_is)
    c.in_ok-link.ensures.steps

pub returns : goal.returns
returns c =
    let s = parts_in c.args.sheet.now in
    let e = c.args.edge in
    let firsts = c.args.next.now.firsts.items in
    let outs = c.args.next.now.outs.items in
    let edge = c.requires.edge in
    let many = c.requires.next.room.by_edge in
    let chain = chain_of s c.requires.linked firsts outs c.requires.next e edge c.requires.no_loop in
    let test = c.loop-test.false in
    let long = c.chain_length-end.ensures in
    let old = c.args.steps.now.items in
    walk_end s c.args.routing.now (links_of s e) _ c.loop.steps.items c.loop.counter c.loop.link c.loop.invariant (omega (arith, test, long)) old
    (c.in_ok-push.ensures.items
    ∙ ap (λ (x : Step). old ++ (x ∷ [])) c.link_leg.ensures
    ∙ ap (λ xs. old ++ xs) (first_steps s c.args.routing.now (links_of s e) c.index-link.result.now chain.some
    (c.index-link.ensures ∙ get_or_default_zero firsts e _ (omega (arith, edge, many)) ∙ first_link s c.requires.linked firsts outs c.requires.next e edge c.requires.no_loop)))
