-- The chains of a level's edges have an edge for each gap between the layers of their ends.
use Rattle.std.proofs.Common.{◌≡◌, ◌∙◌, ◌<◌, ℕ, Bool, true, List, Option, None, Some, length, ap, arith, inl, inr, sym, true≢false}
use Rattle.std.proofs.lemmas.Bool.{cases_lt}
use Rattle.std.specs.Prelude.{IsFalse, slice_index}
use Rattle.graph_arena.specs.declared.keys.EdgeKey.{EdgeKey}
use Rattle.long_edges.specs.Chains.{Table}
use Rattle.level_model.specs.Conditions.{IsLevel}
use Rattle.level_model.specs.Level.{PlainLevel, edge_at, holds, is_loop}
use Rattle.level_model.specs.Marks.{AreMarks}
use Rattle.level_layout.specs.Certificate.{oriented}
use Rattle.level_layout.specs.Chained.{IsChainAt, head_by, tail_by}
use Rattle.level_layout.specs.Chained as split
use Rattle.layer_units.specs.Layering.{AreLayersOf, head_child, layering, layer_in, tail_child}
use Rattle.layer_units.specs.Numbered.{gaps_of}
use Rattle.layer_units.specs.Chained.{AreChained, IsLength, key_in}
use Rattle.layer_units.proofs.RunLemmas.{no_loop}
use Rattle.level_layout.proofs.LayerLemmas.{head_is, tail_is}

module _ (l : PlainLevel) (rs layers : List ℕ) (marks : List Bool) (level : IsLevel l) (are : AreLayersOf l rs layers) (marked : AreMarks rs (length l.edges) marks) where
  tail_same : (e : ℕ) → e < length l.edges → layer_in layers (tail_by l marks e) ≡ layer_in layers (tail_child l (holds rs e) e)
  tail_same e h = ap (λ b. layer_in layers (oriented b (edge_at l e)).tail) (marked.each e h) ∙ ap (layer_in layers) (tail_is l rs e)

  head_same : (e : ℕ) → e < length l.edges → layer_in layers (head_by l marks e) ≡ layer_in layers (head_child l (holds rs e) e)
  head_same e h = ap (λ b. layer_in layers (oriented b (edge_at l e)).head) (marked.each e h) ∙ ap (layer_in layers) (head_is l rs e)

  pub onward : (e : ℕ) → e < length l.edges → IsFalse (is_loop l e) → slice_index layers (tail_by l marks e) < slice_index layers (head_by l marks e)
  onward e h loop =
      let up = are.onward e h loop in
      let low = tail_same e h in
      let high = head_same e h in
      omega (arith, up, low, high)

  no_gaps : (e : ℕ) → is_loop l e ≡ true → gaps_of (layering l rs layers) e ≡ 0
  no_gaps e loop =
      elim (cases_lt 0 (gaps_of (layering l rs layers) e)) [
        | inl some ↦ absurd (true≢false (sym loop ∙ no_loop (layering l rs layers) level are e 0 some))
        | inr none ↦ omega (arith, none)
      ]

  length_of : (chains : Table) (e : ℕ) (o : Option EdgeKey) → e < length l.edges → IsChainAt l layers marks chains e o → IsLength chains o (gaps_of (layering l rs layers) e)
  length_of chains e None h is = no_gaps e is
  length_of chains e (Some k) h is =
      let climbs = is.climbs in
      let low = tail_same e h in
      let high = head_same e h in
      (is.some, omega (arith, climbs, low, high))

  pub lengths : (keys : List (Option EdgeKey)) (chains : Table) → split.AreChained l layers marks keys chains → AreChained (layering l rs layers) keys chains
  lengths keys chains is = record { as_many = is.as_many; each = λ e h. length_of chains e (key_in keys e) h (is.each e h) }
