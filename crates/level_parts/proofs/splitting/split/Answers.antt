use Rattle.std.proofs.Common.{◌≡◌, ◌<◌, ◌∙◌, ℕ, List, ap, arith, length, slice_index, subst, sym}
use Rattle.level_model.specs.Conditions.{plain_level, IsLevel}
use Rattle.network_parts.specs.Dividing.{AreCounted}
use Rattle.level_parts.specs.declared.levels.PartLevel.{PartLevel}
use Rattle.level_parts.specs.Divided.{edge_keys}
use Rattle.level_parts.specs.Parts.{AreParts}
use Rattle.level_parts.specs.Split.{part_at}
use Rattle.level_parts.proofs.SplitLemmas.{keys_below, part_is_level}
use Rattle.level_parts.proofs.splitting.split.Goals as goal

pub groups_of-requires-2-clause-below : goal.groups_of-requires-2-clause-below
groups_of-requires-2-clause-below c =
    let l = plain_level c.args.level.now in
    let numbers = c.in_ok-numbers.numbers.items in
    let count = c.count_parts-count.result in
    let keys : c.in_ok-keys.keys.items ≡ edge_keys l numbers = c.in_ok-keys.ensures ∙ ap (edge_keys l) c.as_slice.ensures.value in
    let counted : AreCounted numbers (length numbers) count = subst (λ (ns : List ℕ). AreCounted ns (length ns) count) c.as_slice-2.ensures.value c.count_parts-count.ensures in
    subst (λ (ks : List ℕ). (i : ℕ) → i < length ks → slice_index ks i < count) (sym keys) (keys_below l numbers count c.requires c.in_ok-numbers.ensures counted)

pub returns-clause-levels : goal.returns-clause-levels
returns-clause-levels c =
    let level = c.args.level.now in
    let numbers = c.in_ok-children.children.keys.items in
    let parts : AreParts (plain_level level) numbers = subst (AreParts (plain_level level)) (sym c.in_ok-children.ensures.keys) c.in_ok-numbers.ensures in
    let are = c.in_ok-parts.ensures in
    let many = are.as_many in
    subst (λ (ps : List PartLevel). (k : ℕ) → k < length ps → IsLevel (plain_level (part_at ps k).level)) (sym c.from_vec.ensures)
    (λ k h. part_is_level level numbers k (part_at c.in_ok-parts.parts.items k) c.requires parts (are.each k (omega (arith, h, many))))
