use Rattle.std.proofs.Common.{◌≡◌, sym, ◌∙◌, subst, arith}
use Rattle.std.proofs.lemmas.List.{get_or_default}
use Rattle.port_order.specs.declared.children.Child.{Child}
use Rattle.level_split.specs.Outlines.{IsPorted, child_in, ports_in}
use Rattle.level_split.proofs.PushLemmas.{outlines_more}
use Rattle.level_split.proofs.outlines.outlines_of.Goals as goal

pub outline_of-requires : goal.outline_of-requires
outline_of-requires c =
    let i = c.loop-i.i in
    let test = c.loop-i-test.true in
    let many = c.requires.as_many in
    let child : c.index-children-i.result ≡ child_in c.args.children.now i = c.index-children-i.is ∙ get_or_default c.args.children.now i _ _ test in
    let places : c.as_slice.result.now ≡ ports_in c.args.ports.now i = c.as_slice.ensures.value ∙ c.index-ports-i.is ∙ get_or_default c.args.ports.now i _ _ (omega (arith, many, test)) in
    subst (λ (x : Child). IsPorted x c.as_slice.result.now) (sym child)
    (subst (IsPorted (child_in c.args.children.now i)) (sym places) (c.requires.each i test))

pub loop-i-preserved : goal.loop-i-preserved
loop-i-preserved c =
    let i = c.loop-i.i in
    let test = c.loop-i-test.true in
    let many = c.requires.as_many in
    outlines_more c.args.children.now c.args.ports.now i c.loop-i.outlines.items c.push.new.self.items c.outline_of.result c.index-children-i.result c.as_slice.result.now
    c.loop-i.invariant c.in_ok-push.ensures.items c.outline_of.ensures.value
    (c.index-children-i.is ∙ get_or_default c.args.children.now i _ _ test)
    (c.as_slice.ensures.value ∙ c.index-ports-i.is ∙ get_or_default c.args.ports.now i _ _ (omega (arith, many, test)))
    c.outline_of.ensures.near
