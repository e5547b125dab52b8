use Rattle.std.proofs.Common.{rules, map, ◌≡◌, ◌≤◌, ◌∙◌, length, ap, subst, arith}
use Rattle.std.specs.List.Sorted.{IsPermutation}
use Rattle.std.proofs.lemmas.List.Sorted.{IsNonDecreasingBy-from_sort_by_key}
use Rattle.std.proofs.lemmas.List.{take_all}
use Rattle.elk_layers.specs.Layered.{plain}
use Rattle.cross_reduce.specs.Pins.{start_of, pin_from}
use Rattle.cross_reduce.proofs.WindowLemmas.{pins_fit}
use Rattle.cross_reduce.proofs.counting.sorted_pins.Goals as goal

pub returns-clause-sorted : goal.returns-clause-sorted
returns-clause-sorted c = IsNonDecreasingBy-from_sort_by_key start_of _ c.in_ok-sort_by_key.ensures.sorted (λ a r q k. search rules)

pub returns-clause-fits : goal.returns-clause-fits
returns-clause-fits c =
    let same = ap length c.as_slice-link-items.ensures.value in
    let long : length (plain c.args.layered.now).links ≤ c.loop-link.link-index = omega (arith, same, c.loop-link-test.false) in
    let all : c.loop-link.pins.items ≡ map (pin_from (plain c.args.layered.now) c.args.place.now) (plain c.args.layered.now).links =
    c.loop-link.invariant ∙ ap (map (pin_from (plain c.args.layered.now) c.args.place.now)) (take_all c.loop-link.link-index (plain c.args.layered.now).links long)
    in
    let p : IsPermutation (map (pin_from (plain c.args.layered.now) c.args.place.now) (plain c.args.layered.now).links) c.sort_by_key.new.self.items =
    subst (λ xs. IsPermutation xs c.sort_by_key.new.self.items) all c.in_ok-sort_by_key.ensures.permutation
    in
    pins_fit (plain c.args.layered.now) c.args.place.now c.sort_by_key.new.self.items c.requires.sound c.requires.places p
