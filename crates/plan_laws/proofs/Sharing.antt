-- Routes share a piece only where their edges share a dock.
use Rattle.std.proofs.Common.{◌≡◌, ◌≢◌, ⊎_elim, inl, inr, ℕ, ◌+◌, ℤ, pos, ◌+ℤ◌, ◌≤ℤ◌, List, [], ◌∷◌, refl, subst, sym, ap, ◌∙◌, arith}
use Rattle.std.proofs.lemmas.Int.{ints}
use Rattle.std.proofs.lemmas.Bool.{cases_eq}
use Rattle.drawing_types.specs.declared.shape.Point.{Point}
use Rattle.drawing_types.specs.declared.shape.Side.{Side}
use Rattle.drawing_types.specs.declared.shape.Side.TheVariants.{North, East, South}
use Rattle.drawing_types.specs.declared.shape.Dock.{Dock}
use Rattle.elk_doc.specs.Drawing.{point_in}
use Rattle.drawing_types.specs.Segments.{Share}
use Rattle.elk_doc.specs.Sharing.{DocksShare, PathsShare}
use Rattle.drawing_types.proofs.SegmentBounds.{Share-piece}
use Rattle.level_model.specs.Stage.{Stage, anchor_line, HasDock, unit_of_line, Stands}
use Rattle.drawing_types.specs.Shapes.{right_of, bottom_of}
use Rattle.route_lines.specs.Tidied.{SomeSegment, EachSegment}
use Rattle.route_lines.proofs.Dropping.{some_all, shares_split}
use Rattle.level_model.specs.Law.{IsStub, IsLanePart, IsBorderPart, IsPart, stub, lane_part, border_part, net_part, IsNorthOrSouth, IsLawful}
use Rattle.plan_laws.proofs.Paths.{some_at}
use Rattle.level_model.proofs.Zones.{InUnit, stub_in, lane_in, border_in, units_apart, unit_net_apart, reversed_share}
use Rattle.plan_laws.proofs.NetPieces.{level_same, nets_share, lane_reaches, one_height, no_cross, same_end}
use Rattle.plan_laws.proofs.AtDocks.{same_stub, no_opposite, no_facing, north_above, south_below, east_right, west_left}

-- pieces at one dock
one_dock : (s : Stage) (e f : ℕ) (d k : Dock) → HasDock s e d → HasDock s f k → d ≡ k → DocksShare (s.dock e) (s.dock f)
one_dock s e f d k x y h = (x.0, y.0, x.1 ∙ h ∙ sym y.1)

-- two stubs
stubs_share : (s : Stage) (e f : ℕ) (a b c d : Point) → Stands s → (p : IsStub s e a b) → (q : IsStub s f c d)
    → s.unit_of (s.dock e p.at_source).node ≡ s.unit_of (s.dock f q.at_source).node → Share a b c d → DocksShare (s.dock e) (s.dock f)
stubs_share s e f a b c d st p q same m =
    let ds = st.ends e p.at_source p.edge_in in
    let ks = st.ends f q.at_source q.edge_in in
    let node : (s.dock e p.at_source).node ≡ (s.dock f q.at_source).node = st.one_child _ _ ds.child ks.child same in
    let piece = Share-piece a b c d m in
    let one_x : (s.anchor e p.at_source).x ≡ (s.anchor f q.at_source).x = level_same a.x b.x c.x d.x _ _ p.a_x p.b_x q.a_x q.b_x piece.across in
    let both = λ (side : Side) (up : IsNorthOrSouth side) (h : (s.dock e p.at_source).side ≡ side) (k : (s.dock f q.at_source).side ≡ side).
    one_dock s e f (s.dock e p.at_source) (s.dock f q.at_source) (p.at_source, refl) (q.at_source, refl) (same_stub s e f p.at_source q.at_source side st p.edge_in q.edge_in up node h k one_x) in
    ⊎_elim
    (λ h. ⊎_elim
    (λ k. both North (inl refl) h k)
    (λ k. let u = north_above s e a b st p h in let v = south_below s f c d st q k in
    let w = subst (λ z. bottom_of (s.box z) ≤ℤ c.y × bottom_of (s.box z) ≤ℤ d.y) (sym node) v in
    let high = ds.child.high in
    absurd (no_opposite a b c d (s.box (s.dock e p.at_source).node).y (p.a_x ∙ sym p.b_x) (q.a_x ∙ sym q.b_x) u.0 u.1 (over _ _ _ high w.0) (over _ _ _ high w.1) m))
    q.upright)
    (λ h. ⊎_elim
    (λ k. let u = south_below s e a b st p h in let v = north_above s f c d st q k in
    let w = subst (λ z. c.y ≤ℤ (s.box z).y × d.y ≤ℤ (s.box z).y) (sym node) v in
    let high = ds.child.high in
    absurd (no_opposite c d a b (s.box (s.dock e p.at_source).node).y (q.a_x ∙ sym q.b_x) (p.a_x ∙ sym p.b_x) w.0 w.1 (over _ _ _ high u.0) (over _ _ _ high u.1) (reversed_share a b c d m)))
    (λ k. both South (inr refl) h k)
    q.upright)
    p.upright
  where
    over : (y h z : ℤ) → pos 0 ≤ℤ h → (y +ℤ h) ≤ℤ z → y ≤ℤ z
    over y h z k l = omega (arith, ints)

-- two parts of lanes
lanes_share : (s : Stage) (e f : ℕ) (a b c d : Point) → Stands s → e ≢ f → (p : IsLanePart s e a b) → (q : IsLanePart s f c d)
    → unit_of_line s p.lane ≡ unit_of_line s q.lane → Share a b c d → DocksShare (s.dock e) (s.dock f)
lanes_share s e f a b c d st n p q same m =
    same_end s e f p.lane q.lane East st n p.in_use q.in_use (lane_reaches p.lane East p.is_lane) (lane_reaches q.lane East q.is_lane)
    (ap (λ u. s.layer u) same) (one_height a b c d _ _ p.a_y p.b_y q.a_y q.b_y m)

-- a part of a lane, and a piece from an anchor to its border
lane_border_share : (s : Stage) (e f : ℕ) (a b c d : Point) → Stands s → e ≢ f → (p : IsLanePart s e a b) → (q : IsBorderPart s f c d)
    → unit_of_line s p.lane ≡ s.unit_of (s.dock f q.at_source).node → Share a b c d → DocksShare (s.dock e) (s.dock f)
lane_border_share s e f a b c d st n p q same m =
    same_end s e f p.lane (anchor_line (s.dock f q.at_source)) (s.dock f q.at_source).side st n p.in_use q.in_use (lane_reaches p.lane (s.dock f q.at_source).side p.is_lane) refl
    (ap (λ u. s.layer u) same) (one_height a b c d _ _ p.a_y p.b_y (q.a_y ∙ sym q.height) (q.b_y ∙ sym q.height) m)

reversed_docks : (s : Stage) (e f : ℕ) → DocksShare (s.dock e) (s.dock f) → DocksShare (s.dock f) (s.dock e)
reversed_docks s e f h = (h.1, h.0, sym h.2)

-- two pieces from anchors to their borders
borders_share : (s : Stage) (e f : ℕ) (a b c d : Point) → Stands s → e ≢ f → (p : IsBorderPart s e a b) → (q : IsBorderPart s f c d)
    → s.unit_of (s.dock e p.at_source).node ≡ s.unit_of (s.dock f q.at_source).node → Share a b c d → DocksShare (s.dock e) (s.dock f)
borders_share s e f a b c d st n p q same m =
    let ds = st.ends e p.at_source p.edge_in in
    let ks = st.ends f q.at_source q.edge_in in
    let node : (s.dock e p.at_source).node ≡ (s.dock f q.at_source).node = st.one_child _ _ ds.child ks.child same in
    let both = λ (h : (s.dock e p.at_source).side ≡ (s.dock f q.at_source).side).
    same_end s e f (anchor_line (s.dock e p.at_source)) (anchor_line (s.dock f q.at_source)) (s.dock f q.at_source).side st n p.in_use q.in_use h refl
    (ap (λ u. s.layer u) same)
    (one_height a b c d _ _ (p.a_y ∙ sym p.height) (p.b_y ∙ sym p.height) (q.a_y ∙ sym q.height) (q.b_y ∙ sym q.height) m) in
    let wide = ds.child.wide in
    ⊎_elim
    (λ h. ⊎_elim
    (λ k. both (h ∙ sym k))
    (λ k. let u = east_right s e a b st p h in let v = west_left s f c d st q k in
    let w = subst (λ z. c.x ≤ℤ (s.box z).x × d.x ≤ℤ (s.box z).x) (sym node) v in
    absurd (no_facing c d a b (s.box (s.dock e p.at_source).node).x (q.a_y ∙ sym q.b_y) (p.a_y ∙ sym p.b_y) w.0 w.1 (over _ _ _ wide u.0) (over _ _ _ wide u.1) (reversed_share a b c d m)))
    q.level)
    (λ h. ⊎_elim
    (λ k. let u = west_left s e a b st p h in let v = east_right s f c d st q k in
    let w = subst (λ z. right_of (s.box z) ≤ℤ c.x × right_of (s.box z) ≤ℤ d.x) (sym node) v in
    absurd (no_facing a b c d (s.box (s.dock e p.at_source).node).x (p.a_y ∙ sym p.b_y) (q.a_y ∙ sym q.b_y) u.0 u.1 (over _ _ _ wide w.0) (over _ _ _ wide w.1) m))
    (λ k. both (h ∙ sym k))
    q.level)
    p.level
  where
    over : (y h z : ℤ) → pos 0 ≤ℤ h → (y +ℤ h) ≤ℤ z → y ≤ℤ z
    over y h z k l = omega (arith, ints)

-- two pieces in units: in different ones they share nothing
in_units : (s : Stage) (e f u v : ℕ) (a b c d : Point) → Stands s → InUnit s u a b → InUnit s v c d → (u ≡ v → DocksShare (s.dock e) (s.dock f)) → Share a b c d → DocksShare (s.dock e) (s.dock f)
in_units s e f u v a b c d st x y h m =
    elim (cases_eq u v) [
      | inl same ↦ h same
      | inr differ ↦ absurd (units_apart s u v a b c d st x y differ m)
    ]

-- two pieces of routes of different edges share something only where the edges share a dock
pub parts_share : (s : Stage) (e f : ℕ) (a b c d : Point) → Stands s → e ≢ f → IsPart s e a b → IsPart s f c d → Share a b c d → DocksShare (s.dock e) (s.dock f)
parts_share s e f a b c d st n (stub p) (stub q) m =
    in_units s e f _ _ a b c d st (stub_in s e a b st p) (stub_in s f c d st q) (λ h. stubs_share s e f a b c d st p q h m) m
parts_share s e f a b c d st n (stub p) (lane_part q) m = absurd (no_cross a b c d (p.a_x ∙ sym p.b_x) (q.a_y ∙ sym q.b_y) m)
parts_share s e f a b c d st n (stub p) (border_part q) m = absurd (no_cross a b c d (p.a_x ∙ sym p.b_x) (q.a_y ∙ sym q.b_y) m)
parts_share s e f a b c d st n (stub p) (net_part q) m = absurd (unit_net_apart s _ f a b c d st (stub_in s e a b st p) q m)
parts_share s e f a b c d st n (lane_part p) (stub q) m =
    absurd (no_cross c d a b (q.a_x ∙ sym q.b_x) (p.a_y ∙ sym p.b_y) (reversed_share a b c d m))
parts_share s e f a b c d st n (lane_part p) (lane_part q) m =
    in_units s e f _ _ a b c d st (lane_in s e a b st p) (lane_in s f c d st q) (λ h. lanes_share s e f a b c d st n p q h m) m
parts_share s e f a b c d st n (lane_part p) (border_part q) m =
    in_units s e f _ _ a b c d st (lane_in s e a b st p) (border_in s f c d st q) (λ h. lane_border_share s e f a b c d st n p q h m) m
parts_share s e f a b c d st n (lane_part p) (net_part q) m = absurd (unit_net_apart s _ f a b c d st (lane_in s e a b st p) q m)
parts_share s e f a b c d st n (border_part p) (stub q) m =
    absurd (no_cross c d a b (q.a_x ∙ sym q.b_x) (p.a_y ∙ sym p.b_y) (reversed_share a b c d m))
parts_share s e f a b c d st n (border_part p) (lane_part q) m =
    in_units s e f _ _ a b c d st (border_in s e a b st p) (lane_in s f c d st q)
    (λ h. reversed_docks s f e (lane_border_share s f e c d a b st (λ k. n (sym k)) q p (sym h) (reversed_share a b c d m))) m
parts_share s e f a b c d st n (border_part p) (border_part q) m =
    in_units s e f _ _ a b c d st (border_in s e a b st p) (border_in s f c d st q) (λ h. borders_share s e f a b c d st n p q h m) m
parts_share s e f a b c d st n (border_part p) (net_part q) m = absurd (unit_net_apart s _ f a b c d st (border_in s e a b st p) q m)
parts_share s e f a b c d st n (net_part p) (stub q) m = absurd (unit_net_apart s _ e c d a b st (stub_in s f c d st q) p (reversed_share a b c d m))
parts_share s e f a b c d st n (net_part p) (lane_part q) m = absurd (unit_net_apart s _ e c d a b st (lane_in s f c d st q) p (reversed_share a b c d m))
parts_share s e f a b c d st n (net_part p) (border_part q) m = absurd (unit_net_apart s _ e c d a b st (border_in s f c d st q) p (reversed_share a b c d m))
parts_share s e f a b c d st n (net_part p) (net_part q) m = nets_share s e f a b c d st n p q m

-- what each segment does and some segment does, some segment does together
pub together : {G : Type 0} (P Q : Point → Point → Type 0) (ps : List Point) → ((a b : Point) → P a b → Q a b → G) → EachSegment P ps → SomeSegment Q ps → G
together P Q [] h x y = absurd y
together P Q (a ∷ []) h x y = absurd y
together P Q (a ∷ b ∷ ps) h x y = ⊎_elim (λ z. h a b x.0 z) (λ z. together P Q (b ∷ ps) h x.1 z) y

pub some_map : (P Q : Point → Point → Type 0) (ps : List Point) → ((a b : Point) → P a b → Q a b) → SomeSegment P ps → SomeSegment Q ps
some_map P Q [] h y = absurd y
some_map P Q (a ∷ []) h y = absurd y
some_map P Q (a ∷ b ∷ ps) h y = ⊎_elim (λ z. inl (h a b z)) (λ z. inr (some_map P Q (b ∷ ps) h z)) y

-- a segment of the first path that shares something with some piece, and that piece
abbrev Met : (Point → Point → Type 0) → Point → Point → Type 0
Met P a b = (c : Point) × (d : Point) × P c d × Share a b c d

-- the first segment that meets a piece, and its piece
pick : (P : Point → Point → Type 0) (ps : List Point) → SomeSegment (Met P) ps → (c : Point) × (d : Point) × P c d × SomeSegment (λ a b. Share a b c d) ps
pick P [] y = absurd y
pick P (a ∷ []) y = absurd y
pick P (a ∷ b ∷ ps) y =
    ⊎_elim
    (λ (w : Met P a b). (w.0, w.1, w.2, inl w.3))
    (λ z. let w = pick P (b ∷ ps) z in (w.0, w.1, w.2, inr w.3))
    y

segments_share : (s : Stage) (e f : ℕ) (ps qs : List Point) → Stands s → IsLawful s e ps → IsLawful s f qs → e ≢ f → SomeSegment (λ a b. SomeSegment (λ c d. Share a b c d) qs) ps
    → DocksShare (s.dock e) (s.dock f)
segments_share s e f ps qs st x y n m =
    let on_second : SomeSegment (Met (IsPart s f)) ps =
    some_map (λ a b. SomeSegment (λ c d. Share a b c d) qs) (Met (IsPart s f)) ps
    (λ a b k.
    let is_reversed : SomeSegment (λ c d. Share c d a b) y.fine =
    some_all (λ c d. Share c d a b) y.fine qs (shares_split a b) y.tidied.dropped
    (some_map (λ c d. Share a b c d) (λ c d. Share c d a b) qs (λ c d. reversed_share a b c d) k) in
    together (IsPart s f) (λ c d. Share c d a b) y.fine (λ c d u v. (c, d, u, reversed_share c d a b v)) y.parts is_reversed)
    m in
    let found = pick (IsPart s f) ps on_second in
    together (IsPart s e) (λ a b. Share a b found.0 found.1) x.fine (λ a b u v. parts_share s e f a b found.0 found.1 st n u found.2 v) x.parts
    (some_all (λ a b. Share a b found.0 found.1) x.fine ps (shares_split found.0 found.1) x.tidied.dropped found.3)

pub sharing_law : (s : Stage) (e f : ℕ) (ps qs : List Point) → Stands s → IsLawful s e ps → IsLawful s f qs → e ≢ f → PathsShare ps qs → DocksShare (s.dock e) (s.dock f)
sharing_law s e f ps qs st x y n m =
    segments_share s e f ps qs st x y n
    (some_at (λ a b. SomeSegment (λ c d. Share a b c d) qs) ps m.i m.i_in (some_at (λ c d. Share (point_in ps m.i) (point_in ps (m.i + 1)) c d) qs m.j m.j_in m.piece))
