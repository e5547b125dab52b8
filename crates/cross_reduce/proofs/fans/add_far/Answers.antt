use Rattle.std.proofs.Common.{◌∷◌, [], ◌++◌, List, length, arith, ap, ◌∙◌, set, ◌<◌}
use Rattle.std.proofs.lemmas.List.{map-set, length-map}
use Rattle.cross_reduce.specs.declared.fans.Far.{Far}
use Rattle.cross_reduce.specs.Fans.{fan_lists}
use Rattle.cross_reduce.proofs.PlaceLemmas.{row_read}
use Rattle.cross_reduce.proofs.fans.add_far.Goals as goal

pub returns : goal.returns
returns c =
    let long = length-map c.args.fans.now.lists.items (λ v. v.items) in
    let inside : c.args.unit < length c.args.fans.now.lists.items = omega (arith, long, c.requires) in
    let old = row_read (λ v. v.items) c.args.fans.now.lists.items c.args.unit c.index_mut.result.now c.index_mut.ensures.value inside in
    map-set (λ v. v.items) c.args.fans.now.lists.items c.args.unit c.push.new.self
    ∙ ap (λ (xs : List Far). set (fan_lists c.args.fans.now) c.args.unit xs) (c.in_ok-push.ensures.ok ∙ ap (λ (xs : List Far). xs ++ c.args.far ∷ []) old)
