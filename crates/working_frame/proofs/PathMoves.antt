-- Paths and the points of traces that are moved.
use Rattle.std.proofs.Common.{◌≡◌, ⊎_elim, inl, inr, ℕ, ◌<◌, Bool, true, false, List, [], ◌∷◌, ◌++◌, map, length, ℤ, pos, ◌+ℤ◌, ◌-ℤ◌, ◌*ℤ◌, ◌≤ℤ◌, neg_ℤ, arith, refl, sym, ◌∙◌, ap, ap₂, subst}
use Rattle.std.proofs.lemmas.Int.{ints, clamps}
use Rattle.std.proofs.lemmas.Bool.{cases_lt}
use Rattle.std.specs.Int.{int_max}
use Rattle.std.proofs.lemmas.List.{get_or-map, get_or_past, length-map, map-append, map_push}
use Rattle.drawing_types.specs.declared.shape.Point.{Point}
use Rattle.drawing_types.specs.declared.section.Section.{Section}
use Rattle.drawing_types.specs.Segments.{IsBetween}
use Rattle.drawing_types.proofs.SameShapes.{same_point}
use Rattle.net_routes.specs.declared.NetRoute.{NetRoute}
use Rattle.net_routes.specs.declared.NetRoute.TheVariants.{Straight, One, Two}
use Rattle.net_routes.specs.Pieces.{slot, route_at}
use Rattle.route_lines.specs.declared.Step.{Step}
use Rattle.route_lines.specs.declared.Step.TheVariants.{Lane, Leg}
use Rattle.route_lines.specs.Points.{PlainGap, gap_in, stand, point_at, leg_points, net_leg, height_next, last_point, points_on, step_points, trace_points}
use Rattle.route_lines.specs.Tidied.{IsMiddle, Drops, equal, middle, later, DropsSome, none, more, IsTidied, IsSectionOf, one, many}
use Rattle.working_frame.specs.Moved.{moved_point, moved_route, moved_gap, moved_step, moved_section}
use Rattle.net_routes.proofs.GapMoves.{less_min}
use Rattle.net_routes.proofs.SlotMoves.{route_moves}

-- dropping points

between_moves : (a b z x : ℤ) → IsBetween a b z → IsBetween (a -ℤ x) (b -ℤ x) (z -ℤ x)
between_moves a b z x h = (less_min a b z x h.0, high a b z x h.1)
  where
    high : (a b z x : ℤ) → z ≤ℤ int_max a b → (z -ℤ x) ≤ℤ int_max (a -ℤ x) (b -ℤ x)
    high a b z x h = omega (arith, ints, clamps, h)

middle_moves : (x y : ℤ) (a b c : Point) → IsMiddle a b c → IsMiddle (moved_point x y a) (moved_point x y b) (moved_point x y c)
middle_moves x y a b c m =
    record {
      line = ⊎_elim (λ e. inl (ap (λ z. z -ℤ x) e)) (λ e. inr (ap (λ z. z -ℤ y) e)) m.line;
      between = record {
        across = between_moves a.x c.x b.x x m.between.across;
        along = between_moves a.y c.y b.y y m.between.along;
      };
    }

drop_moves : (x y : ℤ) (ps qs : List Point) → Drops ps qs → Drops (map (moved_point x y) ps) (map (moved_point x y) qs)
drop_moves x y _ _ (equal a b ps e) = equal (moved_point x y a) (moved_point x y b) (map (moved_point x y) ps) (ap (moved_point x y) e)
drop_moves x y _ _ (middle a b c ps m) =
    middle (moved_point x y a) (moved_point x y b) (moved_point x y c) (map (moved_point x y) ps) (middle_moves x y a b c m)
drop_moves x y _ _ (later a ps qs d) =
    later (moved_point x y a) (map (moved_point x y) ps) (map (moved_point x y) qs) (drop_moves x y ps qs d)

drops_move : (x y : ℤ) (ps qs : List Point) → DropsSome ps qs → DropsSome (map (moved_point x y) ps) (map (moved_point x y) qs)
drops_move x y _ _ (none ps) = none (map (moved_point x y) ps)
drops_move x y _ _ (more ps qs rs d ds) =
    more (map (moved_point x y) ps) (map (moved_point x y) qs) (map (moved_point x y) rs) (drop_moves x y ps qs d) (drops_move x y qs rs ds)

there_and_back : (x y : ℤ) (ps : List Point) → map (moved_point (neg_ℤ x) (neg_ℤ y)) (map (moved_point x y) ps) ≡ ps
there_and_back x y [] = refl
there_and_back x y (p ∷ ps) = ap₂ (λ (q : Point) (qs : List Point). q ∷ qs) (same_point _ _ (omega (arith, ints)) (omega (arith, ints))) (there_and_back x y ps)

pub tidied_moves : (x y : ℤ) (ps qs : List Point) → IsTidied ps qs → IsTidied (map (moved_point x y) ps) (map (moved_point x y) qs)
tidied_moves x y ps qs t =
    record {
      dropped = drops_move x y ps qs t.dropped;
      tidy = λ rs d. t.tidy (map (moved_point (neg_ℤ x) (neg_ℤ y)) rs)
          (subst (λ z. Drops z (map (moved_point (neg_ℤ x) (neg_ℤ y)) rs)) (there_and_back x y qs)
          (drop_moves (neg_ℤ x) (neg_ℤ y) (map (moved_point x y) qs) rs d));
    }

pub section_moves : (x y : ℤ) (ps : List Point) (s : Section) → IsSectionOf ps s → IsSectionOf (map (moved_point x y) ps) (moved_section x y s)
section_moves x y _ _ (one p s a b c) =
    one (moved_point x y p) (moved_section x y s) (ap (moved_point x y) a) (ap (map (moved_point x y)) b) (ap (moved_point x y) c)
section_moves x y _ _ (many s) =
    subst (λ ps. IsSectionOf (moved_point x y s.start ∷ ps) (moved_section x y s)) (sym (map_push (moved_point x y) s.bends s.end)) (many (moved_section x y s))

-- the points of a trace

stand_moves : (x y : ℤ) (g : PlainGap) (s : ℕ) → stand (moved_gap x y g) (slot s) ≡ stand g (slot s) -ℤ x
stand_moves x y g s = plus g.first (pos s *ℤ g.step) x
  where
    plus : (a b x : ℤ) → (a -ℤ x) +ℤ b ≡ (a +ℤ b) -ℤ x
    plus a b x = omega (arith, ints)

slot_moves : (x y : ℤ) (g : PlainGap) (s : ℕ) (h : ℤ) → point_at (stand (moved_gap x y g) (slot s)) (h -ℤ y) ≡ moved_point x y (point_at (stand g (slot s)) h)
slot_moves x y g s h = ap (λ a. point_at a (h -ℤ y)) (stand_moves x y g s)

four : (a b c d a' b' c' d' : Point) → a ≡ a' → b ≡ b' → c ≡ c' → d ≡ d' → a ∷ b ∷ c ∷ d ∷ [] ≡ a' ∷ b' ∷ c' ∷ d' ∷ []
four a b c d a' b' c' d' e f g h = rw (e, f, g, h) refl

leg_moves : (x y : ℤ) (g : PlainGap) (r : NetRoute) (from_a : Bool) (before after : ℤ)
    → leg_points (moved_gap x y g) (moved_route y r) from_a (before -ℤ y) (after -ℤ y) ≡ map (moved_point x y) (leg_points g r from_a before after)
leg_moves x y g Straight from_a before after = refl
leg_moves x y g (One s) from_a before after =
    ap₂ (λ (a b : Point). a ∷ b ∷ []) (slot_moves x y g s before) (slot_moves x y g s after)
leg_moves x y g (Two s h t) true before after =
    four _ _ _ _ _ _ _ _ (slot_moves x y g s before) (slot_moves x y g s h) (slot_moves x y g t h) (slot_moves x y g t after)
leg_moves x y g (Two s h t) false before after =
    four _ _ _ _ _ _ _ _ (slot_moves x y g t before) (slot_moves x y g t h) (slot_moves x y g s h) (slot_moves x y g s after)

module _ (x y : ℤ) (gs : List PlainGap) where
  abbrev gs' : List PlainGap
  gs' = map (moved_gap x y) gs

  pub gap_is : (g : ℕ) → g < length gs → gap_in gs' g ≡ moved_gap x y (gap_in gs g)
  gap_is g h = get_or-map (moved_gap x y) gs g _ _ h

  net_leg_moves : (g n : ℕ) (from_a : Bool) (before after : ℤ) → net_leg gs' g n from_a (before -ℤ y) (after -ℤ y) ≡ map (moved_point x y) (net_leg gs g n from_a before after)
  net_leg_moves g n from_a before after = elim (cases_lt g (length gs)) [
    | inl h ↦
        ap (λ k. leg_points k (route_at k.routes n) from_a (before -ℤ y) (after -ℤ y)) (gap_is g h)
        ∙ ap (λ r. leg_points (moved_gap x y (gap_in gs g)) r from_a (before -ℤ y) (after -ℤ y)) (route_moves y (gap_in gs g).routes n)
        ∙ leg_moves x y (gap_in gs g) (route_at (gap_in gs g).routes n) from_a before after
    | inr h ↦
        let m = length-map gs (moved_gap x y) in
        let past : gap_in gs g ≡ empty = get_or_past gs g empty h in
        let past' : gap_in gs' g ≡ empty = get_or_past gs' g empty (omega (arith, h, m)) in
        rw (past, past') refl
  ]
    where
      empty : PlainGap
      empty = record { left = pos 0; first = pos 0; step = pos 0; right = pos 0; nets = []; count = 0; routes = [] }

  next_moves : (end : Point) (steps : List Step) → height_next (moved_point x y end) (map (moved_step y) steps) ≡ height_next end steps -ℤ y
  next_moves end [] = refl
  next_moves end (Lane h ∷ steps) = refl
  next_moves end (Leg g n from_a ∷ steps) = refl

  last_moves : (end : Point) (h : ℤ) (steps : List Step) → last_point (moved_point x y end) (h -ℤ y) (map (moved_step y) steps) ≡ map (moved_point x y) (last_point end h steps)
  last_moves end h [] = refl
  last_moves end h (s ∷ steps) = refl

  on_moves : (end : Point) (before : ℤ) (steps : List Step)
      → points_on gs' (moved_point x y end) (before -ℤ y) (map (moved_step y) steps) ≡ map (moved_point x y) (points_on gs end before steps)
  on_moves end before [] = refl
  on_moves end before (Lane h ∷ steps) =
      ap₂ (λ (ps qs : List Point). ps ++ qs) (last_moves end h steps) (on_moves end h steps)
      ∙ sym (map-append (moved_point x y) (last_point end h steps) (points_on gs end h steps))
  on_moves end before (Leg g n from_a ∷ steps) =
      ap (λ a. net_leg gs' g n from_a (before -ℤ y) a ++ points_on gs' (moved_point x y end) a (map (moved_step y) steps)) (next_moves end steps)
      ∙ ap₂ (λ (ps qs : List Point). ps ++ qs) (net_leg_moves g n from_a before (height_next end steps)) (on_moves end (height_next end steps) steps)
      ∙ sym (map-append (moved_point x y) (net_leg gs g n from_a before (height_next end steps)) (points_on gs end (height_next end steps) steps))

  steps_move : (start : Point) (steps : List Step) (end : Point)
      → step_points gs' (moved_point x y start) (map (moved_step y) steps) (moved_point x y end) ≡ map (moved_point x y) (step_points gs start steps end)
  steps_move start [] end = on_moves end start.y []
  steps_move start (Lane h ∷ steps) end = ap (λ ps. point_at (start.x -ℤ x) (h -ℤ y) ∷ ps) (on_moves end h (Lane h ∷ steps))
  steps_move start (Leg g n from_a ∷ steps) end = on_moves end start.y (Leg g n from_a ∷ steps)

  pub points_move : (start : Point) (steps : List Step) (end : Point)
      → trace_points gs' (moved_point x y start) (map (moved_step y) steps) (moved_point x y end) ≡ map (moved_point x y) (trace_points gs start steps end)
  points_move start steps end =
      ap (λ ps. moved_point x y start ∷ (ps ++ moved_point x y end ∷ [])) (steps_move start steps end)
      ∙ ap (λ ps. moved_point x y start ∷ ps) (sym (map-append (moved_point x y) (step_points gs start steps end) (end ∷ [])))
