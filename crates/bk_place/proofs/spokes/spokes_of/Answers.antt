use Rattle.std.proofs.Common.{◌≡◌, ◌++◌, subst, sym, rules, Bool, true, false, not, refl}
use Rattle.std.specs.List.{filter}
use Rattle.std.specs.List.Sorted.{IsPermutation}
use Rattle.std.proofs.lemmas.List.Sorted.{IsNonDecreasingBy-from_sort_by_key, IsPermutation-filter_both, IsPermutation-trans}
use Rattle.elk_layers.specs.Layered.{plain}
use Rattle.bk_place.specs.declared.spokes.Spoke.{Spoke}
use Rattle.bk_place.specs.Spokes.{all_spokes, is_at, is_at_lane}
use Rattle.bk_place.proofs.spokes.spokes_of.Goals as goal

twice : (b : Bool) → b ≡ not (not b)
twice true = refl
twice false = refl

pub returns : goal.returns
returns c =
    let both = IsPermutation-filter_both (is_at (plain c.args.layered.now) c.args.sweep false) (is_at (plain c.args.layered.now) c.args.sweep true)
    (λ s. twice (is_at_lane (plain c.args.layered.now) c.args.sweep s.number)) (all_spokes (plain c.args.layered.now) c.args.sweep c.args.place.now) in
    let first : c.push_spokes.new.spokes.items ≡ filter (is_at (plain c.args.layered.now) c.args.sweep false) (all_spokes (plain c.args.layered.now) c.args.sweep c.args.place.now) =
    rw c.in_ok-spokes.ensures.items at c.in_ok-push_spokes.ensures in
    let pushed : c.push_spokes-2.new.spokes.items ≡ filter (is_at (plain c.args.layered.now) c.args.sweep false) (all_spokes (plain c.args.layered.now) c.args.sweep c.args.place.now)
    ++ filter (is_at (plain c.args.layered.now) c.args.sweep true) (all_spokes (plain c.args.layered.now) c.args.sweep c.args.place.now) =
    rw first at c.in_ok-push_spokes-2.ensures in
    record {
      same = IsPermutation-trans _ _ _ (subst (λ xs. IsPermutation (all_spokes (plain c.args.layered.now) c.args.sweep c.args.place.now) xs) (sym pushed) both) c.in_ok-sort_by_key.ensures.permutation;
      sorted = IsNonDecreasingBy-from_sort_by_key (λ (s : Spoke). s.key) _ c.in_ok-sort_by_key.ensures.sorted (λ a r q k. search rules);
    }
