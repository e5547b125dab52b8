-- A drawing of the document of `demo` turns no edge round, so its span is the least of the level as it is given.
use Rattle.std.proofs.Common.{◌≡◌, ℕ, zero, suc, ◌<◌, ◌≤◌, inl, inr, Bool, true, false, List, length, Option, None, Some, IfSome, refl, sym, ◌∙◌, ap, subst, arith}
use Rattle.std.specs.Prelude.{ℤ, pos, ◌*ℤ◌, ◌-ℤ◌, ◌≤ℤ◌, Contains, ◌==◌}
use Rattle.std.specs.List.{list_any}
use Rattle.std.proofs.lemmas.Bool.{cases_Bool, eqb-true}
use Rattle.std.proofs.lemmas.List.Elements.{All-contains}
use Rattle.std.proofs.lemmas.Map.Views.{Contains-from_any}
use Rattle.elk_doc.specs.declared.document.LevelOptions.{LevelOptions}
use Rattle.elk_doc.specs.declared.drawing.Certificate.{Certificate}
use Rattle.elk_doc.specs.declared.drawing.Placed.{Placed}
use Rattle.elk_doc.specs.Document.{Document, edge_at}
use Rattle.elk_doc.specs.Level.{is_edge_of, source_node, target_node}
use Rattle.elk_doc.specs.Drawing.{certificate_of, is_listed, lists, tail_node, head_node}
use Rattle.elk_doc.specs.Paths.{Reaches, stay, go}
use Rattle.elk_doc.specs.Fits.{FitsLevel}
use Rattle.elk_doc.specs.Numbers.{total_below}
use Rattle.elk_doc.specs.Reversed.{Reversed, UnlistedStep}
use Rattle.elk_doc.specs.Layering.{IsLayering, span_of, written_layer}
use Rattle.elk_doc.specs.Drawn.{Drawn}
use Rattle.drawing_laws.proofs.DualityLaw.{flow_shows_least}
use Rattle.elk_doc.specs.declared.document.Direction.TheVariants.{Right}
use Rattle.elk_doc.specs.Defaults.{default_options}
use Rattle.elk_engine.specs.DemoDocument.{demo_document, edge_count, total_weight}
use Rattle.elk_engine.proofs.DemoLaws.{demo_sound, edges_lead_on}
use Rattle.elk_engine.specs.Demo.{no_drawing, demo_text, IsDemoLine, IsLeastSpan}

listed_in : (e : ℕ) (xs : List ℕ) → list_any (λ x. x == e) xs ≡ true → Contains xs e
listed_in e xs h = Contains-from_any {eq = λ a b. b == a} (λ x y is. sym (eqb-true y x is)) e xs h

-- sums whose terms are the same
total_same : (passes : ℕ → Bool) (f g : ℕ → ℤ) (m : ℕ) → ((e : ℕ) → e < m → f e ≡ g e) → total_below passes f m ≡ total_below passes g m
unfolding total_below
total_same passes f g zero same = refl
total_same passes f g (suc m) same =
    rw (total_same passes f g m (λ e h. same e (omega arith)), same m (omega arith)) refl

-- a level whose root has these options has a certificate
has_certificate : (d : Document) (n : ℕ) (o : LevelOptions) (found : Option Certificate) → FitsLevel d n (Some o) found → (c : Certificate) × (found ≡ Some c)
has_certificate d n o None fits = absurd fits
has_certificate d n o (Some c) fits = (c, refl)

module _ (n : ℕ) where
  abbrev d : Document
  d = demo_document n

  step_rises : (c : Certificate) (a b : ℕ) → UnlistedStep d 0 c a b → a < b
  step_rises c a b s =
      let onward = (edges_lead_on n s.edge s.of_level.edge_in).onward in
      subst (λ t. a < t) s.target (subst (λ x. x < target_node d s.edge) s.source onward)

  path_rises : (c : Certificate) (a b : ℕ) → Reaches (UnlistedStep d 0 c) a b → a ≤ b
  path_rises c a b (stay _) = omega arith
  path_rises c a b (go _ m _ s rest) = let first = step_rises c a m s in let later = path_rises c m b rest in omega arith

  module _ (p : Placed) (c : Certificate) (has : certificate_of p 0 ≡ Some c) (turns : Reversed d 0 c) where
    lists_is : (e : ℕ) → e < length d.edges → is_listed d p e ≡ list_any (λ x. x == e) c.reversed
    lists_is e h = ap (λ m. lists (certificate_of p m) e) (edges_lead_on n e h).level ∙ ap (λ o. lists o e) has

    unlisted : (e : ℕ) → e < length d.edges → is_listed d p e ≡ false
    unlisted e h = elim (cases_Bool (is_listed d p e)) [
      | inl is ↦
          let back = All-contains (λ x. Reaches (UnlistedStep d 0 c) (target_node d x) (source_node d x)) c.reversed e turns.closes (listed_in e c.reversed (sym (lists_is e h) ∙ is)) in
          let down = path_rises c (target_node d e) (source_node d e) back in
          let up = (edges_lead_on n e h).onward in
          absurd (omega arith)
      | inr none ↦ none
    ]

    tail_is : (e : ℕ) → e < length d.edges → tail_node d p e ≡ tail_node d no_drawing e
    tail_is e h = rw (unlisted e h) refl

    head_is : (e : ℕ) → e < length d.edges → head_node d p e ≡ head_node d no_drawing e
    head_is e h = rw (unlisted e h) refl

    as_given : (layer : ℕ → ℤ) → IsLayering d p 0 layer → IsLayering d no_drawing 0 layer
    as_given layer is e h loop = rw (← tail_is e h.edge_in, ← head_is e h.edge_in) (is e h loop)

    as_drawn : (layer : ℕ → ℤ) → IsLayering d no_drawing 0 layer → IsLayering d p 0 layer
    as_drawn layer is e h loop = rw (tail_is e h.edge_in, head_is e h.edge_in) (is e h loop)

    span_is : (layer : ℕ → ℤ) → span_of d p 0 layer ≡ span_of d no_drawing 0 layer
    span_is layer =
        total_same (is_edge_of d 0) _ _ (length d.edges)
        (λ e h. ap (λ z. pos (edge_at d e).weight *ℤ (layer z -ℤ layer (tail_node d p e))) (head_is e h) ∙ ap (λ z. pos (edge_at d e).weight *ℤ (layer (head_node d no_drawing e) -ℤ layer z)) (tail_is e h))

  -- the span of a drawing is the least
  pub least_span : (p : Placed) (c : Certificate) → 1 ≤ n → n ≤ 1024 → certificate_of p 0 ≡ Some c → Drawn d p → IsLeastSpan d 0 c.span
  least_span p c some few has drawn =
      let level = drawn.levels 0 (default_options Right) c (omega arith) refl has in
      record {
        layer = written_layer d 0 c;
        layering = as_given p c has level.reversed (written_layer d 0 c) level.layering.layers;
        itself = sym (span_is p c has level.reversed (written_layer d 0 c)) ∙ level.layering.span;
        least = λ other is. subst (λ z. pos c.span ≤ℤ z) (span_is p c has level.reversed other) (flow_shows_least d p 0 c (demo_sound n some few) level.flow other (as_drawn p c has level.reversed other is));
      }

  pub demo_line : (p : Placed) (span : ℕ) (text : List ℕ) → 1 ≤ n → n ≤ 1024 → Drawn d p → IfSome (certificate_of p 0) (λ c. span ≡ c.span) → text ≡ demo_text n (edge_count n) (total_weight n) span → IsDemoLine n text
  demo_line p span text some few drawn read is =
      let found = has_certificate d 0 (default_options Right) (certificate_of p 0) (drawn.fits.certificates 0 (omega arith)) in
      let same : span ≡ found.0.span = subst (λ (o : Option Certificate). IfSome o (λ c. span ≡ c.span)) found.1 read in
      record {
        span = span;
        least = subst (λ s. IsLeastSpan d 0 s) (sym same) (least_span p found.0 some few found.1 drawn);
        text_is = is;
      }
