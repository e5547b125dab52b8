-- The route of a self-loop at one dock: from anchor to anchor, without a bend.
use Rattle.std.proofs.Common.{◌≡◌, ⊎_elim, inl, inr, ℕ, ◌<◌, Bool, true, false, List, [], ◌∷◌, ℤ, ◌≤ℤ◌, refl, sym, subst, ◌∙◌}
use Rattle.drawing_types.specs.declared.shape.Point.{Point}
use Rattle.drawing_types.specs.declared.shape.Side.{Side}
use Rattle.drawing_types.specs.declared.shape.Side.TheVariants.{North, East, South, West}
use Rattle.drawing_types.specs.declared.shape.Dock.{Dock}
use Rattle.drawing_types.specs.declared.shape.Rect.{Rect}
use Rattle.route_lines.specs.Points.{trace_points}
use Rattle.route_lines.specs.Tidied.{IsTidied}
use Rattle.level_model.specs.Stage.{Stage, Stands, IsOutward, offset_along}
use Rattle.level_model.specs.Law.{IsNorthOrSouth, IsEastOrWest, IsPart, stub, border_part, IsLawful}
use Rattle.level_model.proofs.Zones.{le_trans}
use Rattle.plan_laws.proofs.Doors.{side_at}
use Rattle.plan_laws.proofs.Ends.{IsPlainEnd, between_ends, level_side}

-- where the target's anchor stands, at the source's dock
record IsOther (s : Stage) (e : ℕ) (k : Dock) : Type 0 where
  left : s.col_left (s.layer (s.unit_of k.node)) ≤ℤ (s.anchor e false).x
  right : (s.anchor e false).x ≤ℤ s.col_right (s.layer (s.unit_of k.node))
  top : s.top (s.unit_of k.node) ≤ℤ (s.anchor e false).y
  bottom : (s.anchor e false).y ≤ℤ s.bottom (s.unit_of k.node)
  outward : IsOutward k.side (s.box k.node) (s.anchor e false)
  offset : offset_along k.side (s.box k.node) (s.anchor e false) k.offset

other_end : (s : Stage) (e : ℕ) → Stands s → e < s.edges → IsOther s e (s.dock e false)
other_end s e st h =
    let w = st.ends e false h in
    record {
      left = le_trans _ _ _ w.child.left w.in_outline.left;
      right = le_trans _ _ _ w.in_outline.right w.child.right;
      top = le_trans _ _ _ w.child.top w.in_outline.top;
      bottom = le_trans _ _ _ w.in_outline.bottom w.child.bottom;
      outward = w.outward;
      offset = w.offset;
    }

-- the anchors of the two ends, on the north or south side and on the east or west side
upright_part : (s : Stage) (e : ℕ) → Stands s → e < s.edges → s.dock e true ≡ s.dock e false → IsNorthOrSouth (s.dock e true).side → IsPart s e (s.anchor e true) (s.anchor e false)
upright_part s e st h same lies =
    let w = subst (λ k. IsOther s e k) (sym same) (other_end s e st h) in
    let ends = between_ends (s.anchor e true).y (s.anchor e false).y in
    stub (record {
      edge_in = h;
      at_source = true;
      upright = lies;
      reach = (s.anchor e false).y;
      reach_top = w.top;
      reach_bottom = w.bottom;
      outside_north = λ n. subst (λ q. IsOutward q (s.box (s.dock e true).node) (s.anchor e false)) n w.outward;
      outside_south = λ n. subst (λ q. IsOutward q (s.box (s.dock e true).node) (s.anchor e false)) n w.outward;
      a_x = refl;
      b_x = one_x _ _ _ _ _ lies w.offset (st.ends e true h).offset;
      a_y = ends.0;
      b_y = ends.1;
    })
  where
    one_x : (side : Side) (box : Rect) (a b : Point) (offset : ℤ) → IsNorthOrSouth side → offset_along side box a offset → offset_along side box b offset → a.x ≡ b.x
    one_x North box a b offset lies x y = x ∙ sym y
    one_x South box a b offset lies x y = x ∙ sym y
    one_x East box a b offset lies x y = absurd (⊎_elim (λ bad. absurd cc) (λ bad. absurd cc) lies)
    one_x West box a b offset lies x y = absurd (⊎_elim (λ bad. absurd cc) (λ bad. absurd cc) lies)

level_part : (s : Stage) (e : ℕ) (b : Bool) → Stands s → e < s.edges → s.dock e true ≡ s.dock e false → IsPlainEnd s e true b → IsPart s e (s.anchor e true) (s.anchor e false)
level_part s e b st h same end =
    let w = subst (λ k. IsOther s e k) (sym same) (other_end s e st h) in
    let ends = between_ends (s.anchor e true).x (s.anchor e false).x in
    border_part (record {
      edge_in = h;
      at_source = true;
      in_use = end.in_use;
      height = end.height;
      level = level_side b _ end.side;
      reach = (s.anchor e false).x;
      reach_left = w.left;
      reach_right = w.right;
      outside_east = λ n. subst (λ q. IsOutward q (s.box (s.dock e true).node) (s.anchor e false)) n w.outward;
      outside_west = λ n. subst (λ q. IsOutward q (s.box (s.dock e true).node) (s.anchor e false)) n w.outward;
      a_y = refl;
      b_y = one_y _ _ _ _ _ (level_side b _ end.side) w.offset (st.ends e true h).offset;
      a_x = ends.0;
      b_x = ends.1;
    })
  where
    one_y : (side : Side) (box : Rect) (a b : Point) (offset : ℤ) → IsEastOrWest side → offset_along side box a offset → offset_along side box b offset → a.y ≡ b.y
    one_y East box a b offset lies x y = x ∙ sym y
    one_y West box a b offset lies x y = x ∙ sym y
    one_y North box a b offset lies x y = absurd (⊎_elim (λ bad. absurd cc) (λ bad. absurd cc) lies)
    one_y South box a b offset lies x y = absurd (⊎_elim (λ bad. absurd cc) (λ bad. absurd cc) lies)

point_part : (s : Stage) (e : ℕ) → Stands s → e < s.edges → s.dock e true ≡ s.dock e false → ((b : Bool) → (s.dock e true).side ≡ side_at b → IsPlainEnd s e true b)
    → (side : Side) → (s.dock e true).side ≡ side → IsPart s e (s.anchor e true) (s.anchor e false)
point_part s e st h same plain North side = upright_part s e st h same (inl side)
point_part s e st h same plain South side = upright_part s e st h same (inr side)
point_part s e st h same plain East side = level_part s e true st h same (plain true side)
point_part s e st h same plain West side = level_part s e false st h same (plain false side)

pub point_lawful : (s : Stage) (e : ℕ) (points : List Point) → Stands s → e < s.edges → s.dock e true ≡ s.dock e false → ((b : Bool) → (s.dock e true).side ≡ side_at b → IsPlainEnd s e true b)
    → IsTidied (trace_points s.gaps (s.anchor e true) [] (s.anchor e false)) points → IsLawful s e points
point_lawful s e points st h same plain t =
    record {
      fine = s.anchor e true ∷ s.anchor e false ∷ [];
      parts = (point_part s e st h same plain (s.dock e true).side refl, tt);
      tidied = t;
      starts = refl;
      ends = refl;
      runs = λ n. absurd (n same);
    }
