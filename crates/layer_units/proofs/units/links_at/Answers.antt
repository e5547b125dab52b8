use Rattle.std.proofs.Common.{Option, ap, arith, length, subst, sym}
use Rattle.std.proofs.lemmas.List.{length-map}
use Rattle.graph_arena.specs.declared.keys.EdgeKey.{EdgeKey}
use Rattle.layer_units.specs.Chained.{IsLength}
use Rattle.layer_units.proofs.units.links_at.Goals as goal

pub returns-in-None : goal.returns-in-None
returns-in-None c = λ n is. sym (subst (λ (k : Option EdgeKey). IsLength c.args.chains.now k n) c.in-None.is is)

pub chain_of-requires : goal.chain_of-requires
chain_of-requires c = (subst (λ (k : Option EdgeKey). IsLength c.args.chains.now k c.requires.few.0) c.in-Some.is c.requires.few.1).0

pub overflow_cast-result : goal.overflow_cast-result
overflow_cast-result c =
    let is = subst (λ (k : Option EdgeKey). IsLength c.args.chains.now k c.requires.few.0) c.in-Some.is c.requires.few.1 in
    let same = ap length c.chain_of.ensures in
    let long = length-map c.chain_of.result.now (λ (k : EdgeKey). k.at) in
    let few = c.requires.few.2 in
    omega (arith, same, long, is.1, few)

pub returns-in-Some : goal.returns-in-Some
returns-in-Some c = λ n length_is.
    let is = subst (λ (k : Option EdgeKey). IsLength c.args.chains.now k n) c.in-Some.is length_is in
    let same = ap length c.chain_of.ensures in
    let long = length-map c.chain_of.result.now (λ (k : EdgeKey). k.at) in
    omega (arith, same, long, is.1)
