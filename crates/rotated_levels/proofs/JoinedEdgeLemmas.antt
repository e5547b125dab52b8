-- An edge of a part, in its part and in the level.
use Rattle.std.proofs.Common.{◌≡◌, ℕ, ◌<◌, List, length, slice_index, sym, ap, ap₂, ◌∙◌, subst, arith, inl, inr, eq-eqb}
use Rattle.std.proofs.lemmas.Bool.{cases_eq, ne_eqb}
use Rattle.elk_doc.specs.declared.drawing.Certificate.{Certificate}
use Rattle.level_model.specs.declared.level.LevelEdge.{LevelEdge}
use Rattle.level_model.specs.Level.{PlainLevel, holds, is_loop}
use Rattle.level_layout.specs.Certificate.{source_of, target_of}
use Rattle.layer_units.proofs.MarkLemmas.{holds_at}
use Rattle.network_parts.specs.Divided.{place_of}
use Rattle.network_parts.proofs.PlaceLemmas.{node_in, node_place, place_less, place_node}
use Rattle.level_parts.specs.Divided.{child_number, edge_keys, edge_number, members, part_level}
use Rattle.level_parts.proofs.LevelLemmas.{edge_in, edge_is, edge_part, many_edges, many_keys, place_back, source_in, target_in}
use Rattle.level_parts.proofs.SplitLemmas.{keys_below}
use Rattle.rotated_levels.specs.CertificateJoined.{AreCertificates, IsJoinedCertificate, rotates}

module _ (l : PlainLevel) (numbers : List ℕ) (count : ℕ) (own : ℕ → Certificate) (c : Certificate) (are : AreCertificates l numbers count own) (joined : IsJoinedCertificate l numbers count own c) where
  abbrev pub keys : List ℕ
  keys = edge_keys l numbers

  abbrev pub part : ℕ → PlainLevel
  part k = part_level l numbers k

  abbrev pub many : ℕ → ℕ
  many k = length (members keys k)

  abbrev pub child_of : ℕ → ℕ → ℕ
  child_of k i = child_number numbers k i

  abbrev pub edge_of : ℕ → ℕ → ℕ
  edge_of k j = edge_number l numbers k j

  pub as_many : length keys ≡ length l.edges
  as_many = many_keys l numbers 0 are.level are.numbered

  pub part_edges : (k : ℕ) → length (part k).edges ≡ many k
  part_edges k = many_edges l numbers k are.level are.numbered

  -- an edge by its part and its place there
  pub inside : (k e : ℕ) → e < length l.edges → slice_index keys e ≡ k → place_of keys e < many k
  inside k e h is = place_less keys k e (subst (λ n. e < n) (sym as_many) h) is

  pub back : (k e : ℕ) → e < length l.edges → slice_index keys e ≡ k → edge_of k (place_of keys e) ≡ e
  back k e h is = node_place keys k e (subst (λ n. e < n) (sym as_many) h) is

  pub key_below : (e : ℕ) → e < length l.edges → slice_index keys e < count
  key_below e h = keys_below l numbers count are.level are.numbered are.counted e (subst (λ n. e < n) (sym as_many) h)

  pub key_is : (e : ℕ) → e < length l.edges → slice_index keys e ≡ slice_index numbers (source_of l e)
  key_is e h = edge_part l numbers 0 are.level are.numbered e h

  pub child_in : (a : ℕ) → a < length l.children → a < length numbers
  child_in a h = subst (λ n. a < n) (sym are.numbered.as_many) h

  pub part_below : (a : ℕ) → a < length l.children → slice_index numbers a < count
  part_below a h = are.counted.below a (child_in a h)

  pub source_below : (e : ℕ) → e < length l.edges → source_of l e < length l.children
  source_below e h = (are.level.edges e h).source.child

  pub target_below : (e : ℕ) → e < length l.edges → target_of l e < length l.children
  target_below e h = (are.level.edges e h).target.child

  module _ (k j : ℕ) (h : j < many k) where
    pub here : edge_of k j < length l.edges
    here = edge_in l numbers k are.level are.numbered j h

    pub rotated_at : holds c.reversed (edge_of k j) ≡ holds (own k).reversed j
    rotated_at =
        ap (λ (r : List ℕ). holds r (edge_of k j)) joined.reversed
        ∙ holds_at (rotates l numbers own) 0 (length l.edges) (edge_of k j) (omega arith) (let low = here in omega (arith, low))
        ∙ ap₂ (λ q i. holds (own q).reversed i) (node_in keys k j h).1 (place_node keys k j h)

    pub source : source_of (part k) j ≡ place_of numbers (source_of l (edge_of k j))
    source = ap (λ (x : LevelEdge). x.source.child) (edge_is l numbers k are.level are.numbered j h)

    pub target : target_of (part k) j ≡ place_of numbers (target_of l (edge_of k j))
    target = ap (λ (x : LevelEdge). x.target.child) (edge_is l numbers k are.level are.numbered j h)

    pub source_part : slice_index numbers (source_of l (edge_of k j)) ≡ k
    source_part = source_in l numbers k are.level are.numbered j h

    pub target_part : slice_index numbers (target_of l (edge_of k j)) ≡ k
    target_part = target_in l numbers k are.level are.numbered j h

    pub source_up : child_of k (source_of (part k) j) ≡ source_of l (edge_of k j)
    source_up = ap (child_of k) source ∙ place_back l numbers k are.level are.numbered (source_of l (edge_of k j)) (source_below (edge_of k j) here) source_part

    pub target_up : child_of k (target_of (part k) j) ≡ target_of l (edge_of k j)
    target_up = ap (child_of k) target ∙ place_back l numbers k are.level are.numbered (target_of l (edge_of k j)) (target_below (edge_of k j) here) target_part

    pub loop_at : is_loop (part k) j ≡ is_loop l (edge_of k j)
    loop_at =
        let s = source_of l (edge_of k j) in
        let t = target_of l (edge_of k j) in
        elim (cases_eq s t) [
          | inl same ↦ eq-eqb (source_of (part k) j) (target_of (part k) j) (source ∙ ap (place_of numbers) same ∙ sym target) ∙ sym (eq-eqb s t same)
          | inr other ↦ ne_eqb (source_of (part k) j) (target_of (part k) j) (λ e. other (sym source_up ∙ ap (child_of k) e ∙ target_up)) ∙ sym (ne_eqb s t other)
        ]
