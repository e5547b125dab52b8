-- Edges that are reversed close cycles in the document, and no cycle is left.
use Rattle.std.proofs.Common.{◌≡◌, ℕ, ◌+◌, ◌<◌, ⊎_elim, true, false, eqb, List, map, length, get_or, All, Contains, sym, ap, ◌∙◌, subst, subst₂, arith, eqb-true, eq-eqb}
use Rattle.std.proofs.lemmas.Bool.{false_from_ne_true, both_ways, cases_lt}
use Rattle.std.proofs.lemmas.List.{get_or-map, length-map}
use Rattle.std.proofs.lemmas.List.Elements.{All-map, All-same}
use Rattle.elk_doc.specs.declared.document.LevelOptions.{LevelOptions}
use Rattle.elk_doc.specs.declared.drawing.Certificate.{Certificate}
use Rattle.elk_doc.specs.declared.drawing.Placed.{Placed}
use Rattle.elk_doc.specs.Document.{Document}
use Rattle.elk_doc.specs.Level.{edges_of, IsChild, is_edge_of, is_loop, place_of_child, place_of_edge, source_node, target_node}
use Rattle.elk_doc.specs.Paths.{Reaches, stay, go}
use Rattle.elk_doc.specs.Sound.{IsSound}
use Rattle.elk_doc.specs.Fits.{IsAscending, MayBeListed}
use Rattle.elk_doc.specs.Reversed.{Reversed, UnlistedStep}
use Rattle.elk_doc.proofs.NumberLaws.{count_below-le}
use Rattle.level_model.specs.Level as plan
use Rattle.level_layout.specs.Certificate.{source_of, target_of, UnlistedStep as LevelStep}
use Rattle.level_model.proofs.Lists.{Has, any_has, has_at, has_map, map_has}
use Rattle.working_frame.specs.Rotated.{child_number, edge_number, level_of}
use Rattle.working_frame.proofs.NumberedLemmas.{numbers_match, levels_are_listed, same_place, stands}
use Rattle.rotated_levels.specs.Certified.{IsCertified}
use Rattle.rotated_levels.proofs.EdgeLemmas.{IsEdgeAt, edge_known, listed_in, same_edge, contains_has, has_contains, has_holds}

pub reaches_map : (S T : ℕ → ℕ → Type 0) (f : ℕ → ℕ) → ((a b : ℕ) → S a b → T (f a) (f b)) → (a b : ℕ) → Reaches S a b → Reaches T (f a) (f b)
reaches_map S T f step a b (stay _) = stay (f a)
reaches_map S T f step a b (go _ c _ s r) = go (f a) (f c) (f b) (step a c s) (reaches_map S T f step c b r)

-- the child at the place of a child
pub at_place : (d : Document) (n c i : ℕ) → IsChild d n c → i ≡ place_of_child d n c → child_number d n i ≡ c
at_place d n c i h e = ap (child_number d n) e ∙ (numbers_match d n).children.found c h

holds_has : (xs : List ℕ) (x : ℕ) → plan.holds xs x ≡ true → Has xs x
holds_has xs x h = let f = any_has (λ m. eqb m x) xs h in subst (λ y. Has xs y) (eqb-true f.0 x f.2) f.1

module _ (d : Document) (p : Placed) (n : ℕ) (o : LevelOptions) (made written : Certificate) (s : IsSound d) (c : IsCertified d p n o made written) where
  -- an edge is listed in the document where its number is listed for the level
  unlisted_there : (i : ℕ) → i < length (edges_of d n) → plan.holds made.reversed i ≡ false → Contains written.reversed (edge_number d n i) → ⊥
  unlisted_there i h off k =
      let found = map_has (edge_number d n) made.reversed (edge_number d n i) (subst (λ xs. Has xs (edge_number d n i)) c.numbered.reversed (contains_has written.reversed (edge_number d n i) k)) in
      let on = has_holds made.reversed found.0 found.1 in
      let same = same_edge d n found.0 i (listed_in d p n o made written c found.0 on) h found.2 in
      both_ways (plan.holds made.reversed i) off (subst (λ m. plan.holds made.reversed m ≡ true) same on)

  unlisted_here : (i : ℕ) → (Contains written.reversed (edge_number d n i) → ⊥) → plan.holds made.reversed i ≡ false
  unlisted_here i off =
      false_from_ne_true (plan.holds made.reversed i)
      (λ on. off (has_contains written.reversed (edge_number d n i) (subst (λ xs. Has xs (edge_number d n i)) (sym c.numbered.reversed) (has_map (edge_number d n) made.reversed i (holds_has made.reversed i on)))))

  step_there : (a b : ℕ) → LevelStep (level_of d p n o) made.reversed a b → UnlistedStep d n written (child_number d n a) (child_number d n b)
  step_there a b t =
      let inside : t.edge < length (edges_of d n) = subst (λ m. t.edge < m) (levels_are_listed d p n o).edge_count t.of_level in
      let k = edge_known d p n o made written s c t.edge inside in
      let from = at_place d n (source_node d (edge_number d n t.edge)) a k.source_child (sym t.source ∙ k.source) in
      let to = at_place d n (target_node d (edge_number d n t.edge)) b k.target_child (sym t.target ∙ k.target) in
      record {
        edge = edge_number d n t.edge;
        of_level = k.edge;
        unlisted = unlisted_there t.edge inside t.unlisted;
        source = sym from;
        target = sym to;
        no_loop = λ same. t.no_loop (sym t.source ∙ k.source ∙ ap (place_of_child d n) (sym from ∙ same ∙ to) ∙ sym k.target ∙ t.target);
      }

  step_here : (a b : ℕ) → UnlistedStep d n written a b → LevelStep (level_of d p n o) made.reversed (place_of_child d n a) (place_of_child d n b)
  step_here a b t =
      let m = (numbers_match d n).edges in
      let i = place_of_edge d n t.edge in
      let inside = m.place_in t.edge t.of_level in
      let found : edge_number d n i ≡ t.edge = m.found t.edge t.of_level in
      let k = subst (λ e. IsEdgeAt d p n o made i e) found (edge_known d p n o made written s c i inside) in
      record {
        edge = i;
        of_level = subst (λ q. i < q) (sym (levels_are_listed d p n o).edge_count) inside;
        unlisted = unlisted_here i (subst (λ e. Contains written.reversed e → ⊥) (sym found) t.unlisted);
        source = k.source ∙ ap (place_of_child d n) t.source;
        target = k.target ∙ ap (place_of_child d n) t.target;
        no_loop = λ same. t.no_loop (same_place d n a b (subst (IsChild d n) t.source k.source_child) (subst (IsChild d n) t.target k.target_child) same);
      }

  closes_there : (i : ℕ) → plan.holds made.reversed i ≡ true
      → Reaches (UnlistedStep d n written) (target_node d (edge_number d n i)) (source_node d (edge_number d n i))
  closes_there i on =
      let cycle = c.of_level.reversed.closes i on in
      let k = edge_known d p n o made written s c i (listed_in d p n o made written c i on) in
      let l = level_of d p n o in
      subst₂ (λ a b. Reaches (UnlistedStep d n written) a b)
      (at_place d n (target_node d (edge_number d n i)) (target_of l i) k.target_child k.target)
      (at_place d n (source_node d (edge_number d n i)) (source_of l i) k.source_child k.source)
      (reaches_map (LevelStep l made.reversed) (UnlistedStep d n written) (child_number d n) step_there (target_of l i) (source_of l i) cycle.leads_back)

  -- what holds of each edge that is listed for the level holds of each listed edge
  listed_all : (P : ℕ → Type 0) → ((i : ℕ) → plan.holds made.reversed i ≡ true → P (edge_number d n i)) → All P written.reversed
  listed_all P each =
      All-same P written.reversed (map (edge_number d n) made.reversed) c.numbered.reversed
      (All-map P (edge_number d n) made.reversed (λ k z h. each (get_or made.reversed k z) (has_holds made.reversed (get_or made.reversed k z) (has_at made.reversed k z h))))

  pub reversed_there : Reversed d n written
  reversed_there =
      record {
        closes = listed_all (λ e. Reaches (UnlistedStep d n written) (target_node d e) (source_node d e)) closes_there;
        acyclic = λ a b t back. c.of_level.reversed.acyclic (place_of_child d n a) (place_of_child d n b) (step_here a b t)
            (reaches_map (UnlistedStep d n written) (LevelStep (level_of d p n o) made.reversed) (place_of_child d n) step_here b a back);
      }

  may_be_listed : (i : ℕ) → plan.holds made.reversed i ≡ true → MayBeListed d n (edge_number d n i)
  may_be_listed i on =
      let k = edge_known d p n o made written s c i (listed_in d p n o made written c i on) in
      record {
        edge_in = k.edge.edge_in;
        of_level = eqb-true _ _ k.edge.edge;
        no_loop = λ same. both_ways (is_loop d (edge_number d n i)) (sym k.loop ∙ (c.of_level.reversed.closes i on).no_loop) (eq-eqb _ _ same);
      }

  pub listed_there : All (MayBeListed d n) written.reversed
  listed_there = listed_all (MayBeListed d n) may_be_listed

  -- later edges have greater numbers
  rises : (i j : ℕ) → i < j → j < length (edges_of d n) → edge_number d n i < edge_number d n j
  rises i j less h =
      let x = stands (is_edge_of d n) (length d.edges) i (omega (arith, less, h)) in
      let y = stands (is_edge_of d n) (length d.edges) j h in
      ⊎_elim
      (λ up. up)
      (λ down. let q = count_below-le (is_edge_of d n) (edge_number d n j) (edge_number d n i) down in absurd (omega (arith, q, x.counted, y.counted, less)))
      (cases_lt (edge_number d n i) (edge_number d n j))

  pub ascending_there : IsAscending written.reversed
  ascending_there =
      subst IsAscending (sym c.numbered.reversed)
      (λ i h.
      let inside : i + 1 < length made.reversed = subst (λ m. i + 1 < m) (length-map made.reversed (edge_number d n)) h in
      let before : i < length made.reversed = omega (arith, inside) in
      let less = c.of_level.reversed.ascending i inside in
      let on = has_holds made.reversed (get_or made.reversed (i + 1) 0) (has_at made.reversed (i + 1) 0 inside) in
      subst₂ (λ a b. a < b)
      (sym (get_or-map (edge_number d n) made.reversed i 0 0 before))
      (sym (get_or-map (edge_number d n) made.reversed (i + 1) 0 0 inside))
      (rises (get_or made.reversed i 0) (get_or made.reversed (i + 1) 0) less (listed_in d p n o made written c (get_or made.reversed (i + 1) 0) on)))
