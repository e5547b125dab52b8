use Rattle.std.proofs.Common.{◌≡◌, ◌∙◌, sym, ap, subst, length, List, w64}
use Rattle.std.proofs.lemmas.Int.{to_z-of_z}
use Rattle.drawing_types.specs.declared.shape.Point.{Point}
use Rattle.box_pack.specs.declared.walk.Measured.{Measured}
use Rattle.box_pack.specs.declared.walk.Page.{Page}
use Rattle.box_pack.specs.Walk.{measured_to, page_of, AreSpots, IsPage}
use Rattle.box_pack.proofs.Filling.{each_size, same_page}
use Rattle.box_pack.proofs.Standing.{rows_are}
use Rattle.box_pack.proofs.packing.pack.Goals as goal

pub returns : goal.returns
returns c =
    let sizes = c.args.sizes.now in
    let page = same_page _ _ c.args.gap c.args.limit (to_z-of_z w64 c.args.gap c.ranges.gap) (to_z-of_z w64 c.args.limit c.ranges.limit) in
    let r = page_of c.args.gap c.args.limit in
    let is : IsPage r = (c.requires.gap.0, c.requires.gap.1, c.requires.limit) in
    let extent : c.measure.result.extent ≡ (measured_to sizes r (length sizes)).extent =
    ap (λ (m : Measured). m.extent) c.measure.ensures ∙ ap (λ (z : Page). (measured_to sizes z (length sizes)).extent) page in
    let items = c.in_ok-places.field-0.items in
    let spots : AreSpots sizes r (length sizes) items = subst (λ (z : Page). AreSpots sizes z (length sizes) items) page c.in_ok-places.ensures.at in
    let at : c.from_vec-at.result ≡ items = c.from_vec-at.ensures in
    rows_are sizes r c.from_vec-at.result c.measure.result.extent is (each_size sizes c.requires.sizes) (ap length at ∙ c.in_ok-places.ensures.count)
    (subst (λ (z : List Point). AreSpots sizes r (length sizes) z) (sym at) spots) extent

pub measure-requires-clause-sizes : goal.measure-requires-clause-sizes
measure-requires-clause-sizes c = each_size c.args.sizes.now c.requires.sizes

pub places-requires-clause-sizes : goal.places-requires-clause-sizes
places-requires-clause-sizes c = each_size c.args.sizes.now c.requires.sizes
