use Rattle.std.proofs.Common.{◌≡◌, ◌∙◌, FitsSigned, ap, arith, rules, w64}
use Rattle.std.proofs.lemmas.Int.{ints, to_z-of_z}
use Rattle.drawing_types.specs.declared.shape.Size.{Size}
use Rattle.level_io.specs.Sizes.{padded_height, padded_width}
use Rattle.level_io.proofs.SizeLemmas.{listed_size}
use Rattle.level_io.proofs.sizes.size_round.Goals as goal

pub returns : goal.returns
returns c =
    let o = c.args.options.now in
    let left = c.requires.padding.left in
    let right = c.requires.padding.right in
    let top = c.requires.padding.top in
    let bottom = c.requires.padding.bottom in
    let long = c.content_size-content.ensures.long in
    let across = ap (λ (s : Size). s.width) c.content_size-content.ensures.value in
    let down = ap (λ (s : Size). s.height) c.content_size-content.ensures.value in
    let wide = c.padded-width.ensures in
    let high = c.padded-height.ensures in
    let width : c.padded-width.result ≡ padded_width o c.args.extent = omega (arith, ints) in
    let height : c.padded-height.result ≡ padded_height o c.args.extent = omega (arith, ints) in
    let fits_width : FitsSigned w64 c.padded-width.result = search rules in
    let fits_height : FitsSigned w64 c.padded-height.result = search rules in
    let fits : FitsSigned w64 c.greatest_end.result = search rules in
    let fits_too : FitsSigned w64 c.greatest_end-2.result = search rules in
    listed_size c.args.doc.now c.args.ports.now o c.args.extent _ _ c.greatest_end.result c.greatest_end-2.result _ _
    (to_z-of_z w64 c.padded-width.result fits_width ∙ width) (to_z-of_z w64 c.padded-height.result fits_height ∙ height) (to_z-of_z w64 c.greatest_end.result fits) (to_z-of_z w64 c.greatest_end-2.result fits_too) c.greatest_end.ensures c.greatest_end-2.ensures
