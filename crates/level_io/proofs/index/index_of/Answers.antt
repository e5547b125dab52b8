use Rattle.std.proofs.Common.{◌≡◌, ℕ, List, Option, length, ap, subst}
use Rattle.level_io.specs.declared.grouping.Groups.{Groups}
use Rattle.level_io.specs.Grouping.{IsGrouping}
use Rattle.level_io.proofs.IndexLemmas.{is_index}
use Rattle.level_io.proofs.index.index_of.Goals as goal

grouped : (keys slice : List (Option ℕ)) (count nodes : ℕ) (g : Groups) → slice ≡ keys → count ≡ nodes → IsGrouping slice count g → IsGrouping keys nodes g
grouped keys slice count nodes g same many is =
    subst (λ (n : ℕ). IsGrouping keys n g) many (subst (λ (ks : List (Option ℕ)). IsGrouping ks count g) same is)

pub returns : goal.returns
returns c =
    let count = ap length c.nodes-count.ensures.value in
    is_index c.args.doc.now _ c.in_ok-parents.parents.items c.in_ok-levels.levels.items c.in_ok-nodes.nodes.items c.in_ok-parents.ensures c.in_ok-levels.ensures c.in_ok-nodes.ensures
    (grouped c.in_ok-parents.parents.items _ _ _ c.in_ok-children.children c.as_slice.ensures.value count c.in_ok-children.ensures)
    (grouped c.in_ok-levels.levels.items _ _ _ c.in_ok-edges.edges c.as_slice-2.ensures.value count c.in_ok-edges.ensures)
    (grouped c.in_ok-nodes.nodes.items _ _ _ c.in_ok-ports.ports c.as_slice-3.ensures.value count c.in_ok-ports.ensures)
