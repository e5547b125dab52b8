use Rattle.std.proofs.Common.{rules, refl, w64, FitsSigned, to_z-of_z}
use Rattle.ns_place.proofs.FirstLemmas.{joint_fits, pin_fits, sum_fits}
use Rattle.ns_place.proofs.start.joint_layer.Goals as goal

pub overflow_sub-result : goal.overflow_sub-result
overflow_sub-result c =
    let a = c.requires.tail_top in
    let b = c.requires.head_top in
    let p = c.requires.tail_at in
    let q = c.requires.head_at in
    let least : FitsSigned w64 c.higher.result = search rules in
    let is = rw (to_z-of_z (pin_fits b), to_z-of_z (pin_fits q), to_z-of_z (pin_fits a), to_z-of_z (pin_fits p), to_z-of_z (sum_fits b q), to_z-of_z (sum_fits a p)) at c.higher.ensures in
    rw (to_z-of_z least, to_z-of_z (pin_fits p), to_z-of_z (pin_fits q), to_z-of_z (sum_fits p q), is) (joint_fits a b p q)

pub returns : goal.returns
returns c =
    let a = c.requires.tail_top in
    let b = c.requires.head_top in
    let p = c.requires.tail_at in
    let q = c.requires.head_at in
    let least : FitsSigned w64 c.higher.result = search rules in
    let is = rw (to_z-of_z (pin_fits b), to_z-of_z (pin_fits q), to_z-of_z (pin_fits a), to_z-of_z (pin_fits p), to_z-of_z (sum_fits b q), to_z-of_z (sum_fits a p)) at c.higher.ensures in
    rw (to_z-of_z least, to_z-of_z (pin_fits p), to_z-of_z (pin_fits q), to_z-of_z (sum_fits p q), is, to_z-of_z (joint_fits a b p q)) refl
