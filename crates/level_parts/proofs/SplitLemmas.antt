-- Parts as they are made.
use Rattle.std.proofs.Common.{◌≡◌, ℕ, ◌+◌, ◌<◌, ◌==◌, List, [], ◌∷◌, ◌++◌, length, map, slice_index, arith, sym, ap, subst, inl, inr, ◌∙◌}
use Rattle.std.specs.Prelude.{Option}
use Rattle.std.proofs.lemmas.Bool.{cases_lt}
use Rattle.std.proofs.lemmas.List.{get_or_append_left, get_or_push, length_push}
use Rattle.elk_doc.specs.declared.document.Choices.{Choices}
use Rattle.elk_doc.specs.declared.document.Placing.{Placing}
use Rattle.elk_doc.specs.declared.document.Spacing.{Spacing}
use Rattle.drawing_types.specs.declared.sweep.Sweep.{Sweep}
use Rattle.port_order.specs.declared.children.Child.{Child}
use Rattle.level_model.specs.declared.level.LevelEdge.{LevelEdge}
use Rattle.level_model.specs.declared.level.LevelIn.{LevelIn}
use Rattle.level_model.specs.Conditions.{plain_level, IsLevel}
use Rattle.level_model.specs.Level.{PlainLevel, child_at, edge_at}
use Rattle.network_parts.specs.Divided.{place_of}
use Rattle.network_parts.specs.Dividing.{AreCounted, ArePlaces}
use Rattle.network_parts.proofs.RangeLemmas.{map_same}
use Rattle.level_parts.specs.declared.levels.PartLevel.{PartLevel}
use Rattle.level_parts.specs.Divided.{edge_keys, members, placed_at}
use Rattle.level_parts.specs.Parts.{AreParts}
use Rattle.level_parts.specs.Split.{ArePartLevels, IsPartFrom, IsPartLevel, no_level, part_at, part_in}
use Rattle.level_parts.proofs.LevelLemmas.{edge_part, is_level, many_keys}

same_level : (a b : LevelIn) → a.children ≡ b.children → a.edges ≡ b.edges → a.spacing ≡ b.spacing → a.fixed ≡ b.fixed → a.placing ≡ b.placing → a.choices ≡ b.choices → a ≡ b
same_level a b c e s f p h =
    let g1 : List Child → LevelIn = λ z. record { children = z; edges = a.edges; spacing = a.spacing; fixed = a.fixed; placing = a.placing; choices = a.choices } in
    let g2 : List LevelEdge → LevelIn = λ z. record { children = b.children; edges = z; spacing = a.spacing; fixed = a.fixed; placing = a.placing; choices = a.choices } in
    let g3 : Spacing → LevelIn = λ z. record { children = b.children; edges = b.edges; spacing = z; fixed = a.fixed; placing = a.placing; choices = a.choices } in
    let g4 : Option Sweep → LevelIn = λ z. record { children = b.children; edges = b.edges; spacing = b.spacing; fixed = z; placing = a.placing; choices = a.choices } in
    let g5 : Placing → LevelIn = λ z. record { children = b.children; edges = b.edges; spacing = b.spacing; fixed = b.fixed; placing = z; choices = a.choices } in
    let g6 : Choices → LevelIn = λ z. record { children = b.children; edges = b.edges; spacing = b.spacing; fixed = b.fixed; placing = b.placing; choices = z } in
    ap g1 c ∙ ap g2 e ∙ ap g3 s ∙ ap g4 f ∙ ap g5 p ∙ ap g6 h

-- an edge by listed places is one by the places that are meant
edge_same : (l : PlainLevel) (numbers places : List ℕ) → IsLevel l → AreParts l numbers → ArePlaces numbers (length numbers) places → (e : ℕ) → e < length l.edges
    → placed_at (slice_index places) (edge_at l e) ≡ placed_at (place_of numbers) (edge_at l e)
edge_same l numbers places level parts are e h =
    let x = edge_at l e in
    let f : ℕ → LevelEdge = λ i. record { source = record { child = i; port = x.source.port }; target = record { child = slice_index places x.target.child; port = x.target.port }; weight = x.weight } in
    let g : ℕ → LevelEdge = λ i. record { source = record { child = place_of numbers x.source.child; port = x.source.port }; target = record { child = i; port = x.target.port }; weight = x.weight } in
    ap f (are.each x.source.child (subst (λ n. x.source.child < n) (sym parts.as_many) (level.edges e h).source.child))
    ∙ ap g (are.each x.target.child (subst (λ n. x.target.child < n) (sym parts.as_many) (level.edges e h).target.child))

pub part_made : (level : LevelIn) (numbers places children edges : List ℕ) (k : ℕ) (v : PartLevel) → IsLevel (plain_level level) → AreParts (plain_level level) numbers → ArePlaces numbers (length numbers) places
    → children ≡ members numbers k → edges ≡ members (edge_keys (plain_level level) numbers) k → IsPartFrom level places children edges v → IsPartLevel level numbers k v
part_made level numbers places children edges k v sound parts are some many from =
    let l = plain_level level in
    let keys = edge_keys l numbers in
    record {
      children = from.children_are ∙ some;
      edges = from.edges_are ∙ many;
      level_is = same_level v.level (part_in level numbers k)
          (from.has_children ∙ ap (map (child_at l)) some)
          (from.has_edges ∙ ap (map (λ e. placed_at (slice_index places) (edge_at l e))) many
          ∙ map_same (λ e. slice_index keys e == k) (λ e. placed_at (slice_index places) (edge_at l e)) (λ e. placed_at (place_of numbers) (edge_at l e)) (length keys)
          (λ e h t. edge_same l numbers places sound parts are e (subst (λ n. e < n) (many_keys l numbers k sound parts) h)))
          from.spacing from.fixed from.placing from.choices;
    }

pub part_levels_more : (level : LevelIn) (numbers : List ℕ) (n : ℕ) (parts new : List PartLevel) (part : PartLevel) → new ≡ parts ++ part ∷ [] → IsPartLevel level numbers n part
    → ArePartLevels level numbers n parts → ArePartLevels level numbers (n + 1) new
part_levels_more level numbers n parts new part pushed is are =
    let many = are.as_many in
    let blank : PartLevel = record { level = no_level; children = []; edges = [] } in
    record {
      as_many = ap length pushed ∙ length_push parts part ∙ ap (λ m. m + 1) many;
      each = λ k h. elim (cases_lt k n) [
        | inl less ↦
            subst (IsPartLevel level numbers k) (sym (ap (λ ps. part_at ps k) pushed ∙ get_or_append_left parts (part ∷ []) blank k (omega (arith, less, many)))) (are.each k less)
        | inr most ↦
            let same : k ≡ n = omega (arith, h, most) in
            subst (IsPartLevel level numbers k) (sym (ap (λ ps. part_at ps k) pushed ∙ get_or_push parts part blank k (many ∙ sym same))) (subst (λ i. IsPartLevel level numbers i part) (sym same) is)
      ];
    }

pub part_is_level : (level : LevelIn) (numbers : List ℕ) (k : ℕ) (v : PartLevel) → IsLevel (plain_level level) → AreParts (plain_level level) numbers → IsPartLevel level numbers k v → IsLevel (plain_level v.level)
part_is_level level numbers k v sound parts is = subst (λ (z : LevelIn). IsLevel (plain_level z)) (sym is.level_is) (is_level (plain_level level) numbers k sound parts)

-- the part of each edge is one of those that are counted
pub keys_below : (l : PlainLevel) (numbers : List ℕ) (count : ℕ) → IsLevel l → AreParts l numbers → AreCounted numbers (length numbers) count → (e : ℕ) → e < length (edge_keys l numbers) → slice_index (edge_keys l numbers) e < count
keys_below l numbers count level parts counted e h =
    let inside : e < length l.edges = subst (λ n. e < n) (many_keys l numbers 0 level parts) h in
    let c = (edge_at l e).source.child in
    subst (λ n. n < count) (sym (edge_part l numbers 0 level parts e inside)) (counted.below c (subst (λ n. c < n) (sym parts.as_many) (level.edges e inside).source.child))
