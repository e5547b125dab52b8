-- The edges that are reversed in the parts close cycles in the level, and leave none.
use Rattle.std.proofs.Common.{◌≡◌, ℕ, ◌<◌, true, List, length, slice_index, refl, sym, ap, ◌∙◌, subst, subst₂, arith, inl, inr, true≢false}
use Rattle.std.proofs.lemmas.Bool.{cases_lt}
use Rattle.elk_doc.specs.declared.drawing.Certificate.{Certificate}
use Rattle.elk_doc.specs.Fits.{IsAscending}
use Rattle.elk_doc.specs.Paths.{Reaches, stay, go}
use Rattle.level_model.specs.Level.{PlainLevel, holds}
use Rattle.level_layout.specs.Certificate.{AreReversed, ClosesCycle, UnlistedStep, source_of, target_of}
use Rattle.layer_units.proofs.MarkLemmas.{filter_rises, holds_above}
use Rattle.network_parts.specs.Divided.{place_of}
use Rattle.level_parts.proofs.LevelLemmas.{place_back}
use Rattle.level_parts.proofs.PartLemmas.{one_part}
use Rattle.rotated_levels.proofs.ReversedLemmas.{reaches_map}
use Rattle.rotated_levels.specs.CertificateJoined.{AreCertificates, IsJoinedCertificate, rotates}
use Rattle.rotated_levels.proofs.JoinedEdgeLemmas as edges

module _ (l : PlainLevel) (numbers : List ℕ) (count : ℕ) (own : ℕ → Certificate) (c : Certificate) (are : AreCertificates l numbers count own) (joined : IsJoinedCertificate l numbers count own c) where
  abbrev part : ℕ → PlainLevel
  part k = edges.part l numbers count own c are joined k

  abbrev many : ℕ → ℕ
  many k = edges.many l numbers count own c are joined k

  abbrev child_of : ℕ → ℕ → ℕ
  child_of k i = edges.child_of l numbers count own c are joined k i

  abbrev edge_of : ℕ → ℕ → ℕ
  edge_of k j = edges.edge_of l numbers count own c are joined k j

  abbrev Outer : ℕ → ℕ → Type 0
  Outer a b = UnlistedStep l c.reversed a b

  abbrev Inner : ℕ → ℕ → ℕ → Type 0
  Inner k a b = UnlistedStep (part k) (own k).reversed a b

  -- ---- from a part to the level

  step_up : (k a b : ℕ) → Inner k a b → Outer (child_of k a) (child_of k b)
  step_up k a b s =
      let j = s.edge in
      let h : j < many k = subst (λ n. j < n) (edges.part_edges l numbers count own c are joined k) s.of_level in
      let from = sym (edges.source_up l numbers count own c are joined k j h) ∙ ap (child_of k) s.source in
      let to = sym (edges.target_up l numbers count own c are joined k j h) ∙ ap (child_of k) s.target in
      record {
        edge = edge_of k j;
        of_level = edges.here l numbers count own c are joined k j h;
        unlisted = edges.rotated_at l numbers count own c are joined k j h ∙ s.unlisted;
        source = from;
        target = to;
        no_loop = λ same. s.no_loop
            (sym s.source ∙ edges.source l numbers count own c are joined k j h ∙ ap (place_of numbers) (from ∙ same ∙ sym to) ∙ sym (edges.target l numbers count own c are joined k j h) ∙ s.target);
      }

  closes_at : (k j : ℕ) → k < count → j < many k → holds c.reversed (edge_of k j) ≡ true → ClosesCycle l c.reversed (edge_of k j)
  closes_at k j less h on =
      let cycle = (are.each k less).reversed.closes j (sym (edges.rotated_at l numbers count own c are joined k j h) ∙ on) in
      record {
        of_level = edges.here l numbers count own c are joined k j h;
        no_loop = sym (edges.loop_at l numbers count own c are joined k j h) ∙ cycle.no_loop;
        leads_back = subst₂ (λ x y. Reaches Outer x y) (edges.target_up l numbers count own c are joined k j h) (edges.source_up l numbers count own c are joined k j h)
            (reaches_map (Inner k) Outer (child_of k) (step_up k) (target_of (part k) j) (source_of (part k) j) cycle.leads_back);
      }

  below : (e : ℕ) → holds c.reversed e ≡ true → e < length l.edges
  below e on =
      elim (cases_lt e (length l.edges)) [
        | inl less ↦ less
        | inr most ↦
            absurd (true≢false (sym on ∙ ap (λ (r : List ℕ). holds r e) joined.reversed ∙ holds_above (rotates l numbers own) 0 (length l.edges) e (omega (arith, most))))
      ]

  closes : (e : ℕ) → holds c.reversed e ≡ true → ClosesCycle l c.reversed e
  closes e on =
      let h = below e on in
      let k = slice_index (edges.keys l numbers count own c are joined) e in
      let back = edges.back l numbers count own c are joined k e h refl in
      subst (λ x. ClosesCycle l c.reversed x) back
      (closes_at k (place_of (edges.keys l numbers count own c are joined) e) (edges.key_below l numbers count own c are joined e h) (edges.inside l numbers count own c are joined k e h refl)
      (subst (λ x. holds c.reversed x ≡ true) (sym back) on))

  -- ---- from the level to a part

  next_part : (k a b : ℕ) → slice_index numbers a ≡ k → Outer a b → slice_index numbers b ≡ k
  next_part k a b is s =
      sym (ap (slice_index numbers) s.target) ∙ sym (one_part l numbers are.level are.numbered s.edge s.of_level) ∙ ap (slice_index numbers) s.source ∙ is

  step_down : (k a b : ℕ) → slice_index numbers a ≡ k → Outer a b → Inner k (place_of numbers a) (place_of numbers b)
  step_down k a b is s =
      let e = s.edge in
      let h = s.of_level in
      let key = edges.key_is l numbers count own c are joined e h ∙ ap (slice_index numbers) s.source ∙ is in
      let j = place_of (edges.keys l numbers count own c are joined) e in
      let there = edges.inside l numbers count own c are joined k e h key in
      let back = edges.back l numbers count own c are joined k e h key in
      let a_below = subst (λ x. x < length l.children) s.source (edges.source_below l numbers count own c are joined e h) in
      let b_below = subst (λ x. x < length l.children) s.target (edges.target_below l numbers count own c are joined e h) in
      record {
        edge = j;
        of_level = subst (λ n. j < n) (sym (edges.part_edges l numbers count own c are joined k)) there;
        unlisted = sym (edges.rotated_at l numbers count own c are joined k j there) ∙ ap (holds c.reversed) back ∙ s.unlisted;
        source = edges.source l numbers count own c are joined k j there ∙ ap (λ x. place_of numbers (source_of l x)) back ∙ ap (place_of numbers) s.source;
        target = edges.target l numbers count own c are joined k j there ∙ ap (λ x. place_of numbers (target_of l x)) back ∙ ap (place_of numbers) s.target;
        no_loop = λ same. s.no_loop
            (sym (place_back l numbers k are.level are.numbered a a_below is) ∙ ap (child_of k) same ∙ place_back l numbers k are.level are.numbered b b_below (next_part k a b is s));
      }

  down : (k a b : ℕ) → slice_index numbers a ≡ k → Reaches Outer a b → Reaches (Inner k) (place_of numbers a) (place_of numbers b)
  down k a b is (stay _) = stay (place_of numbers a)
  down k a b is (go _ m _ s r) = go (place_of numbers a) (place_of numbers m) (place_of numbers b) (step_down k a m is s) (down k m b (next_part k a m is s) r)

  acyclic : (a b : ℕ) → Outer a b → Reaches Outer b a → ⊥
  acyclic a b s r =
      let k = slice_index numbers a in
      let a_below = subst (λ x. x < length l.children) s.source (edges.source_below l numbers count own c are joined s.edge s.of_level) in
      (are.each k (edges.part_below l numbers count own c are joined a a_below)).reversed.acyclic (place_of numbers a) (place_of numbers b) (step_down k a b refl s) (down k b a (next_part k a b refl s) r)

  pub are_reversed : AreReversed l c.reversed
  are_reversed =
      record { ascending = subst IsAscending (sym joined.reversed) (filter_rises (rotates l numbers own) 0 (length l.edges)); closes = closes; acyclic = acyclic }
