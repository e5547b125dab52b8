use Rattle.std.proofs.Common.{◌≡◌, ◌<◌, ◌∙◌, ℕ, List, length, rules, slice_index, subst, sym}
use Rattle.network_parts.specs.Dividing.{ArePlaces}
use Rattle.level_model.specs.Conditions.{plain_level}
use Rattle.level_parts.specs.Divided.{edge_keys, members}
use Rattle.level_parts.proofs.GroupLemmas.{row_found}
use Rattle.level_parts.proofs.LevelLemmas.{child_in, edge_in}
use Rattle.level_parts.proofs.SplitLemmas.{part_levels_more, part_made}
use Rattle.level_parts.proofs.splitting.parts_from.Goals as goal

pub part_from-requires-clause-children : goal.part_from-requires-clause-children
part_from-requires-clause-children c =
    let l = plain_level c.args.level.now in
    let numbers = c.args.children.now.keys.items in
    let k = c.loop-k.k in
    let row : c.as_slice.result.now ≡ members numbers k =
    c.as_slice.ensures.value
    ∙ row_found numbers (length numbers) k c.as_slice-row-items.result.now c.args.children.now.rows.items c.row-item.result c.as_slice-row-items.ensures.value c.loop-k-test.true c.row-item.is c.requires.children.rows
    in
    subst (λ (xs : List ℕ). (i : ℕ) → i < length xs → slice_index xs i < length l.children) (sym row) (λ i h. (child_in l numbers k c.requires.level c.requires.numbers i h).0)

pub part_from-requires-clause-edges : goal.part_from-requires-clause-edges
part_from-requires-clause-edges c =
    let l = plain_level c.args.level.now in
    let numbers = c.args.children.now.keys.items in
    let keys = c.args.edges.now.keys.items in
    let k = c.loop-k.k in
    let read : c.as_slice-in-loop-k.result.now ≡ c.index-edge_rows-k.result.items = c.as_slice-in-loop-k.ensures.value in
    let less : k < length c.as_slice-edge_rows.result.now = search rules in
    let row : c.as_slice-in-loop-k.result.now ≡ members keys k =
    read
    ∙ row_found keys (length keys) k c.as_slice-edge_rows.result.now c.args.edges.now.rows.items c.index-edge_rows-k.result c.as_slice-edge_rows.ensures.value less c.index-edge_rows-k.is c.requires.edges.rows
    in
    subst (λ (xs : List ℕ). (i : ℕ) → i < length xs → slice_index xs i < length l.edges) (sym row)
    (subst (λ (ks : List ℕ). (i : ℕ) → i < length (members ks k) → slice_index (members ks k) i < length l.edges) (sym c.requires.keys) (λ j h. edge_in l numbers k c.requires.level c.requires.numbers j h))

pub loop-k-preserved : goal.loop-k-preserved
loop-k-preserved c =
    let level = c.args.level.now in
    let numbers = c.args.children.now.keys.items in
    let keys = c.args.edges.now.keys.items in
    let k = c.loop-k.k in
    let children : c.as_slice.result.now ≡ members numbers k =
    c.as_slice.ensures.value
    ∙ row_found numbers (length numbers) k c.as_slice-row-items.result.now c.args.children.now.rows.items c.row-item.result c.as_slice-row-items.ensures.value c.loop-k-test.true c.row-item.is c.requires.children.rows
    in
    let read : c.as_slice-in-loop-k.result.now ≡ c.index-edge_rows-k.result.items = c.as_slice-in-loop-k.ensures.value in
    let less : k < length c.as_slice-edge_rows.result.now = search rules in
    let edges : c.as_slice-in-loop-k.result.now ≡ members (edge_keys (plain_level level) numbers) k =
    subst (λ (ks : List ℕ). c.as_slice-in-loop-k.result.now ≡ members ks k) c.requires.keys
    (read
    ∙ row_found keys (length keys) k c.as_slice-edge_rows.result.now c.args.edges.now.rows.items c.index-edge_rows-k.result c.as_slice-edge_rows.ensures.value less c.index-edge_rows-k.is c.requires.edges.rows)
    in
    let places : ArePlaces numbers (length numbers) c.as_slice-places.result.now = subst (ArePlaces numbers (length numbers)) (sym c.as_slice-places.ensures.value) c.requires.children.places in
    part_levels_more level numbers k c.loop-k.parts.items c.push.new.self.items c.in_ok-part.part c.in_ok-push.ensures.items
    (part_made level numbers c.as_slice-places.result.now c.as_slice.result.now c.as_slice-in-loop-k.result.now k c.in_ok-part.part c.requires.level c.requires.numbers places children edges c.in_ok-part.ensures) c.loop-k.invariant
