-- Lawful routes keep the rules.
use Rattle.std.proofs.Common.{◌≡◌, ◌≢◌, ℕ, zero, suc, ◌+◌, ◌<◌, ◌≤◌, cond, Bool, true, false, List, [], ◌∷◌, ◌++◌, length, arith, refl, sym, ◌∙◌, ap, subst, subst₂, eq-eqb}
use Rattle.std.proofs.lemmas.List.{length-append}
use Rattle.drawing_types.specs.declared.shape.Point.{Point}
use Rattle.drawing_types.specs.declared.shape.Rect.{Rect}
use Rattle.drawing_types.specs.declared.shape.Dock.{Dock}
use Rattle.drawing_types.specs.declared.section.Section.{Section}
use Rattle.elk_doc.specs.Drawing.{point_in, points_of}
use Rattle.drawing_types.specs.Shapes.{rect_at}
use Rattle.drawing_types.specs.Segments.{MeetsRect, EntersRect, Share}
use Rattle.elk_doc.specs.Route.{IsOrthogonal}
use Rattle.elk_doc.specs.Clear.{IsClear}
use Rattle.elk_doc.specs.Sharing.{PathsShare}
use Rattle.route_lines.specs.declared.Step.{Step}
use Rattle.route_lines.specs.Points.{trace_points}
use Rattle.route_lines.specs.Tidied.{IsSectionOf, one, many, RunsSquare, StartsAt, EndsAt, Heading, opposite}
use Rattle.route_lines.proofs.Dropping.{starts_all, ends_all}
use Rattle.route_lines.proofs.Headings.{square}
use Rattle.level_model.specs.Stage.{Stage, Stands, ChildStands}
use Rattle.level_model.specs.Law.{outward}
use Rattle.plan_laws.proofs.Clearing.{clear_law}
use Rattle.plan_laws.proofs.Paths.{square_orthogonal, drops_shorter}
use Rattle.plan_laws.proofs.Sharing.{sharing_law}
use Rattle.level_model.proofs.Zones.{reversed_share}
use Rattle.level_model.specs.Level.{PlainLevel, PlainPlan, Orders, end_at, dock_of, child_at, edge_at, is_loop}
use Rattle.level_model.specs.Lanes.{has_one_dock, dock_eq}
use Rattle.level_model.specs.FromPlan.{LevelDrawing, IsDrawnFrom, anchor, section_at, trace_at}
use Rattle.level_model.specs.Drawing.{stage}
use Rattle.level_model.specs.Traces.{steps_of}
use Rattle.level_model.specs.Apart.{drawn_box, drawn_outline}
use Rattle.plan_laws.proofs.ApartLemmas.{outlines_are_drawn}
use Rattle.level_model.proofs.SameLines.{dock_eq-self}
use Rattle.plan_laws.specs.Routes.{route_path, end_child, end_dock, KeepsClear, KeepsSharing, RoutesKept}
use Rattle.plan_laws.specs.Lawful.{HasLawfulRoutes}
use Rattle.plan_laws.proofs.PointLoops.{one_point, anchor_meets, anchor_enters}

-- sections by their points

start_is : (p : Point) (ps : List Point) (s : Section) → IsSectionOf ps s → StartsAt p ps → s.start ≡ p
start_is p _ _ (one q s a b c) h = a ∙ h
start_is p _ _ (many s) h = h

last_is : (p a : Point) (bs : List Point) (e : Point) → EndsAt p (a ∷ (bs ++ e ∷ [])) → e ≡ p
last_is p a [] e h = h
last_is p a (b ∷ bs) e h = last_is p b bs e h

end_is : (p : Point) (ps : List Point) (s : Section) → IsSectionOf ps s → EndsAt p ps → s.end ≡ p
end_is p _ _ (one q s a b c) h = c ∙ h
end_is p _ _ (many s) h = last_is p s.start s.bends s.end h

none_left : (xs : List Point) → length xs ≤ 0 → xs ≡ []
none_left [] h = refl
none_left (x ∷ xs) h = absurd (omega (arith, h))

few_bends : (ps : List Point) (s : Section) → IsSectionOf ps s → length ps ≤ 2 → s.bends ≡ []
few_bends _ _ (one q s a b c) h = b
few_bends _ _ (many s) h = let l = length-append s.bends (s.end ∷ []) in none_left s.bends (omega (arith, h, l))

-- a section at one single point goes from there to there
two_same : (Q : Point → Point → Type 0) (q : Point) (i : ℕ) → i + 1 < length (q ∷ q ∷ []) → Q (point_in (q ∷ q ∷ []) i) (point_in (q ∷ q ∷ []) (i + 1)) → Q q q
two_same Q q zero h v = v
two_same Q q (suc i) h v = absurd (omega (arith, h))

stays : (Q : Point → Point → Type 0) (q : Point) (s : Section) → s.start ≡ q → s.bends ≡ [] → s.end ≡ q → (i : ℕ) → i + 1 < length (points_of s)
    → Q (point_in (points_of s) i) (point_in (points_of s) (i + 1)) → Q q q
stays Q q s a b c i h v =
    let same : points_of s ≡ q ∷ q ∷ [] = ap (λ z. z ∷ (s.bends ++ s.end ∷ [])) a ∙ ap (λ zs. q ∷ (zs ++ s.end ∷ [])) b ∙ ap (λ z. q ∷ z ∷ []) c in
    subst (λ zs. i + 1 < length zs → Q (point_in zs i) (point_in zs (i + 1)) → Q q q) (sym same) (two_same Q q i) h v

-- so it keeps clear where its path does, and where the path is one single point, if that point does
clear_section : (ps : List Point) (s : Section) → IsSectionOf ps s → (source target c : ℕ) (outline box : Rect) → IsClear ps source target c outline box
    → ((q : Point) → s.start ≡ q → source ≢ c → MeetsRect q q outline → ⊥) → ((q : Point) → s.start ≡ q → EntersRect q q box → ⊥)
    → IsClear (points_of s) source target c outline box
clear_section _ _ (one q s a b z) source target c outline box h meets enters =
    record {
      foreign = λ x y i k m. meets q a x (stays (λ v w. MeetsRect v w outline) q s a b z i k m);
      own = λ at i k m. enters q a (stays (λ v w. EntersRect v w box) q s a b z i k m);
    }
clear_section _ _ (many s) source target c outline box h meets enters = h

-- sections that share a piece have paths that do
paths_share : (ps qs : List Point) (s t : Section) → IsSectionOf ps s → IsSectionOf qs t → PathsShare (points_of s) (points_of t) → PathsShare ps qs
paths_share _ qs _ t (one q s a b c) y m =
    absurd (one_point q _ _ (stays (λ v w. Share v w (point_in (points_of t) m.j) (point_in (points_of t) (m.j + 1))) q s a b c m.i m.i_in m.piece))
paths_share _ _ _ _ (many s) (one q t a b c) m =
    absurd (one_point q _ _ (reversed_share _ _ q q (stays (λ v w. Share (point_in (points_of s) m.i) (point_in (points_of s) (m.i + 1)) v w) q t a b c m.j m.j_in m.piece)))
paths_share _ _ _ _ (many s) (many t) m = m

square_points : (h k : Heading) (ps : List Point) (s : Section) → IsSectionOf ps s → RunsSquare h k ps → RunsSquare h k (points_of s)
square_points h k _ _ (one q s a b c) r = absurd r
square_points h k _ _ (many s) r = r

neither : (a b : Bool) (x y : List Step) → a ≡ true → b ≡ true → cond a (cond b [] x) y ≡ []
neither a b x y p q = rw (p, q) refl

module _ (l : PlainLevel) (p : PlainPlan) (o : Orders) (d : LevelDrawing) (drawn : IsDrawnFrom l p o d) (st : Stands (stage l p o d)) (children : (c : ℕ) → c < length l.children → ChildStands (stage l p o d) c) (lawful : HasLawfulRoutes l p o d) where
  abbrev s : Stage
  s = stage l p o d

  abbrev section : ℕ → Section
  section e = section_at d e

  from_source : (e : ℕ) → e < length l.edges → (section e).start ≡ anchor l p o d (end_at e true)
  from_source e h =
      let r = lawful e h in
      start_is (anchor l p o d (end_at e true)) r.0 (section e) r.1 (starts_all (anchor l p o d (end_at e true)) r.2.fine r.0 r.2.tidied.dropped r.2.starts)

  to_target : (e : ℕ) → e < length l.edges → (section e).end ≡ anchor l p o d (end_at e false)
  to_target e h =
      let r = lawful e h in
      end_is (anchor l p o d (end_at e false)) r.0 (section e) r.1 (ends_all (anchor l p o d (end_at e false)) r.2.fine r.0 r.2.tidied.dropped r.2.ends)

  no_steps : (e : ℕ) → end_dock l p o e true ≡ end_dock l p o e false → steps_of l p o d.top e ≡ []
  no_steps e same =
      let child = ap (λ (k : Dock). k.node) same in
      let is_one : has_one_dock l p o e ≡ true = subst (λ k. dock_eq (dock_of l p o (end_at e true)) k ≡ true) same (dock_eq-self (dock_of l p o (end_at e true))) in
      neither (is_loop l e) (has_one_dock l p o e) _ _ (eq-eqb (edge_at l e).source.child (edge_at l e).target.child child) is_one

  one_dock : (e : ℕ) → e < length l.edges → end_dock l p o e true ≡ end_dock l p o e false → (section e).bends ≡ []
  one_dock e h same =
      let r = drawn.routes e h in
      let none : (trace_at d e).steps ≡ [] = r.steps ∙ no_steps e same in
      let two : length (trace_points d.gaps (trace_at d e).start (trace_at d e).steps (trace_at d e).end) ≡ 2 =
      ap (λ steps. length (trace_points d.gaps (trace_at d e).start steps (trace_at d e).end)) none in
      let few = drops_shorter (trace_points d.gaps (trace_at d e).start (trace_at d e).steps (trace_at d e).end) r.points r.tidied.dropped in
      few_bends r.points (section e) r.section (omega (arith, two, few))

  orthogonal : (e : ℕ) → e < length l.edges → (end_dock l p o e true ≡ end_dock l p o e false → ⊥) → IsOrthogonal (route_path d e) (end_dock l p o e true).side (end_dock l p o e false).side
  orthogonal e h differ =
      let r = lawful e h in
      let out = outward (end_dock l p o e true).side in
      let into = opposite (outward (end_dock l p o e false).side) in
      square_orthogonal (end_dock l p o e true).side (end_dock l p o e false).side (route_path d e)
      (square_points out into r.0 (section e) r.1 (square out into r.2.fine r.0 r.2.tidied (r.2.runs differ)))

  clear : (e c : ℕ) → e < length l.edges → c < length l.children → KeepsClear l d e c
  clear e c he hc =
      let r = lawful e he in
      let k = children c hc in
      let keeps = clear_law s e c r.0 st r.2 k in
      let box : drawn_box l d c ≡ s.box c = ap (λ q. rect_at q (child_at l c).size) (drawn.children c hc).box in
      let out : drawn_outline l d c ≡ s.outline c = outlines_are_drawn l p o d c (drawn.children c hc) in
      subst₂ (IsClear (route_path d e) (end_child l e true) (end_child l e false) c) (sym out) (sym box)
      (clear_section r.0 (section e) r.1 (end_child l e true) (end_child l e false) c (s.outline c) (s.box c) keeps
      (λ q at source m. anchor_meets s st e true he c k source (subst (λ z. MeetsRect z z (s.outline c)) (sym at ∙ from_source e he) m))
      (λ q at m. anchor_enters s st e true he c k (subst (λ z. EntersRect z z (s.box c)) (sym at ∙ from_source e he) m)))

  sharing : (e f : ℕ) → e < length l.edges → f < length l.edges → e ≢ f → KeepsSharing l p o d e f
  sharing e f he hf ne share =
      let a = lawful e he in
      let b = lawful f hf in
      sharing_law s e f a.0 b.0 st a.2 b.2 ne (paths_share a.0 b.0 (section e) (section f) a.1 b.1 share)

  pub routes_kept : RoutesKept l p o d
  routes_kept =
      record {
        routes = λ e h. record { from_source = from_source e h; to_target = to_target e h; one_dock = one_dock e h; orthogonal = orthogonal e h };
        clear = clear;
        sharing = sharing;
      }
