use Rattle.std.proofs.Common.{FitsSigned, w64, arith, refl, to_z-of_z, subst}
use Rattle.std.proofs.lemmas.Int.{ints}
use Rattle.level_split.specs.Parts.{IsPartsLayout}
use Rattle.compound.proofs.figures.parted_figure.Goals as goal

pub returns : goal.returns
returns c =
    let low = c.requires.component.above in
    let high = c.requires.component.below in
    let fits : FitsSigned w64 c.args.options.now.component = omega (arith, ints, low, high) in
    record {
      out = c.in_ok-out.out;
      laid_out = subst (λ z. IsPartsLayout c.args.level.now z c.in_ok-out.out) (to_z-of_z fits) c.in_ok-out.ensures;
      is = refl;
    }
