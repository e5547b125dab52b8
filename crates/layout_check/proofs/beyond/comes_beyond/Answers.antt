use Rattle.std.proofs.Common.{◌↔◌, ℤ, IsTrue, SFits, subst, w64, rules}
use Rattle.std.proofs.lemmas.Int.{to_z-of_z}
use Rattle.layout_check.specs.FirstApart.{IsBeyond}
use Rattle.layout_check.proofs.beyond.comes_beyond.Goals as goal

pub returns : goal.returns
returns c =
    let gap = c.args.options.now.component in
    let fits : SFits w64 gap = search rules in
    let P : ℤ → Type 0 = λ z. IsTrue c.is_beyond.result ↔ IsBeyond c.args.across z c.args.options.now.direction c.args.r c.args.s in
    subst P (to_z-of_z w64 gap fits) c.is_beyond.ensures
