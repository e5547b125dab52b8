-- Pieces of nets that share something in the drawing, share it in their gap, and so have a pin in common.
use Rattle.std.proofs.Common.{◌≡◌, ◌≢◌, ⊎_elim, inl, inr, ℕ, ◌+◌, ◌<◌, ℤ, ◌≤ℤ◌, ◌<ℤ◌, subst, sym, ap, ◌∙◌, arith, length}
use Rattle.std.proofs.lemmas.Int.{ints, clamps, by_lt_z}
use Rattle.std.proofs.lemmas.Bool.{cases_Bool, cases_eq}
use Rattle.std.specs.Int.{int_min, int_max}
use Rattle.drawing_types.specs.declared.shape.Point.{Point}
use Rattle.drawing_types.specs.declared.shape.Side.{Side}
use Rattle.drawing_types.specs.declared.shape.Side.TheVariants.{East, West}
use Rattle.drawing_types.specs.Segments.{Share}
use Rattle.elk_doc.specs.Sharing.{DocksShare}
use Rattle.drawing_types.proofs.SegmentBounds.{Share-piece}
use Rattle.net_routes.specs.declared.Pin.{Pin}
use Rattle.net_routes.specs.Pieces.{Abscissa, Corner, slot, rank, Overlap, HorizontalOverlap, UprightOverlap, IsAbscissa, IsPieceOf, corners, net_at, route_at}
use Rattle.net_routes.specs.GapFree.{CommonPin}
use Rattle.net_routes.proofs.Flipping.{pieces_overlap}
use Rattle.route_lines.specs.Points.{gap_in as gap_at, stand}
use Rattle.level_model.specs.Stage.{Stage, Line, anchor_line, dock_lane, loop_lane, long_lane, InUse, Uses, Reaches, unit_of_line, Stands, InGap, IsPinOf, IsLane}
use Rattle.level_model.specs.Law.{IsNetPart}
use Rattle.level_model.proofs.Zones.{gaps_apart, three_ways, reversed_share, x_of, y_of}

-- two edges that use one line have a common dock
shared_line : (s : Stage) (e f : ℕ) (l : Line) → e ≢ f → Uses s e l → Uses s f l → DocksShare (s.dock e) (s.dock f)
shared_line s e f (anchor_line d) n h k = (h.0, k.0, h.1 ∙ sym k.1)
shared_line s e f (dock_lane d) n h k = (h.0, k.0, h.1 ∙ sym k.1)
shared_line s e f (loop_lane g side) n h k = absurd (n (sym h ∙ k))
shared_line s e f (long_lane u) n h k = absurd (n (sym h ∙ k))

-- two lines in use that reach one border of a column at one height are one, so their edges have a common dock
pub same_end : (s : Stage) (e f : ℕ) (l m : Line) (side : Side) → Stands s → e ≢ f → InUse s e l → InUse s f m → Reaches side l → Reaches side m
    → s.layer (unit_of_line s l) ≡ s.layer (unit_of_line s m) → s.height l ≡ s.height m → DocksShare (s.dock e) (s.dock f)
same_end s e f l m side st n ul um rl rm layers heights =
    let lt = st.lines.top e l ul in
    let lb = st.lines.bottom e l ul in
    let mt = st.lines.top f m um in
    let mb = st.lines.bottom f m um in
    elim (cases_eq (unit_of_line s l) (unit_of_line s m)) [
      | inl same ↦
          let one : l ≡ m = st.lines.differ e f l m side ul um rl rm same heights in
          shared_line s e f l n (st.lines.used e l ul) (subst (λ z. Uses s f z) (sym one) (st.lines.used f m um))
      | inr differ ↦
          absurd (⊎_elim
          (λ less. clash (s.height l) (s.height m) (s.bottom (unit_of_line s l)) (s.top (unit_of_line s m)) heights lb less mt)
          (λ less. clash (s.height m) (s.height l) (s.bottom (unit_of_line s m)) (s.top (unit_of_line s l)) (sym heights) mb less lt)
          (st.column _ _ (st.lines.unit e l ul) (st.lines.unit f m um) differ layers))
    ]
  where
    clash : (h k b t : ℤ) → h ≡ k → h ≤ℤ b → b <ℤ t → t ≤ℤ k → ⊥
    clash h k b t e x y z = absurd (omega (arith, ints))

-- nets with a common pin belong to edges with a common dock
pub pin_docks : (s : Stage) (e f g : ℕ) (p : Pin) → Stands s → e ≢ f → IsPinOf s e g p → IsPinOf s f g p → DocksShare (s.dock e) (s.dock f)
pin_docks s e f g p st n x y =
    elim (cases_Bool p.on_left) [
      | inl l ↦
          let a = x.left l in
          let b = y.left l in
          same_end s e f x.line y.line East st n x.in_use y.in_use a.1 b.1 (suc_same _ _ g a.0 b.0) (x.height ∙ sym y.height)
      | inr r ↦
          let a = x.right r in
          let b = y.right r in
          same_end s e f x.line y.line West st n x.in_use y.in_use a.1 b.1 (a.0 ∙ sym b.0) (x.height ∙ sym y.height)
    ]
  where
    suc_same : (m n k : ℕ) → m + 1 ≡ k → n + 1 ≡ k → m ≡ n
    suc_same m n k h j = omega arith

-- what four borders of stretches in the drawing say of the ranks of their abscissae
rank_lt : (s : Stage) (g : ℕ) (a b c d : Abscissa) → InGap s g
    → IsAbscissa (gap_at s.gaps g).count a → IsAbscissa (gap_at s.gaps g).count b → IsAbscissa (gap_at s.gaps g).count c → IsAbscissa (gap_at s.gaps g).count d
    → int_min (stand (gap_at s.gaps g) a) (stand (gap_at s.gaps g) b) <ℤ int_max (stand (gap_at s.gaps g) c) (stand (gap_at s.gaps g) d)
    → int_min (rank (gap_at s.gaps g).count a) (rank (gap_at s.gaps g).count b) <ℤ int_max (rank (gap_at s.gaps g).count c) (rank (gap_at s.gaps g).count d)
rank_lt s g a b c d gap ia ib ic id h =
    let n = (gap_at s.gaps g).count in
    by_lt_z (int_min (rank n a) (rank n b)) (int_max (rank n c) (rank n d))
    (λ x. x)
    (λ x.
    let ca = gap.rising c a ic ia (omega (arith, ints, clamps)) in
    let cb = gap.rising c b ic ib (omega (arith, ints, clamps)) in
    let da = gap.rising d a id ia (omega (arith, ints, clamps)) in
    let db = gap.rising d b id ib (omega (arith, ints, clamps)) in
    absurd (crossed _ _ _ _ ca cb da db h))
  where
    crossed : (x y z w : ℤ) → z ≤ℤ x → z ≤ℤ y → w ≤ℤ x → w ≤ℤ y → int_min x y <ℤ int_max z w → ⊥
    crossed x y z w p q r t h = absurd (omega (arith, ints, clamps))

max_lt_min : (a b c d : ℤ) → a <ℤ c → a <ℤ d → b <ℤ c → b <ℤ d → int_max a b <ℤ int_min c d
max_lt_min a b c d h k l m = omega (arith, ints, clamps)

-- the four parts of a stretch that is not empty
four : (a b c d : ℤ) → int_max a b <ℤ int_min c d → (a <ℤ c) × (a <ℤ d) × (b <ℤ c) × (b <ℤ d)
four a b c d h = (omega (arith, ints, clamps), omega (arith, ints, clamps), omega (arith, ints, clamps), omega (arith, ints, clamps))

-- stretches of which both ends are one
flat : (a b c d h k : ℤ) → a ≡ h → b ≡ h → c ≡ k → d ≡ k → int_max (int_min a b) (int_min c d) <ℤ int_min (int_max a b) (int_max c d) → ⊥
flat a b c d h k x y z w l = absurd (omega (arith, ints, clamps))

pub level_same : (a b c d h k : ℤ) → a ≡ h → b ≡ h → c ≡ k → d ≡ k → int_max (int_min a b) (int_min c d) ≤ℤ int_min (int_max a b) (int_max c d) → h ≡ k
level_same a b c d h k x y z w l = omega (arith, ints, clamps)

moved : (a b c d a' b' c' d' : ℤ) → a ≡ a' → b ≡ b' → c ≡ c' → d ≡ d'
    → int_max (int_min a b) (int_min c d) <ℤ int_min (int_max a b) (int_max c d) → int_max (int_min a' b') (int_min c' d') <ℤ int_min (int_max a' b') (int_max c' d')
moved a b c d a' b' c' d' x y z w l = rw (← x, ← y, ← z, ← w) l

-- what pieces of nets of one gap share in the drawing, they share in the gap
pub level_overlap : (s : Stage) (e f : ℕ) (a b c d : Point) → Stands s → (p : IsNetPart s e a b) → (q : IsNetPart s f c d) → p.gap ≡ q.gap
    → p.from.height ≡ p.to.height → q.from.height ≡ q.to.height → Share a b c d → HorizontalOverlap (gap_at s.gaps p.gap).count p.from p.to q.from q.to
level_overlap s e f a b c d st p q same hp hq m =
    let g = gap_at s.gaps p.gap in
    let n = g.count in
    let piece = Share-piece a b c d m in
    let along = piece.along in
    let qfrom : IsAbscissa n q.from.at = subst (λ z. IsAbscissa (gap_at s.gaps z).count q.from.at) (sym same) q.from_in in
    let qto : IsAbscissa n q.to.at = subst (λ z. IsAbscissa (gap_at s.gaps z).count q.to.at) (sym same) q.to_in in
    let ay : a.y ≡ p.from.height = y_of a _ _ p.a_is in
    let by : b.y ≡ p.from.height = y_of b _ _ p.b_is ∙ sym hp in
    let cy : c.y ≡ q.from.height = y_of c _ _ q.a_is in
    let dy : d.y ≡ q.from.height = y_of d _ _ q.b_is ∙ sym hq in
    let ax : a.x ≡ stand g p.from.at = x_of a _ _ p.a_is in
    let bx : b.x ≡ stand g p.to.at = x_of b _ _ p.b_is in
    let cx : c.x ≡ stand g q.from.at = subst (λ z. c.x ≡ stand (gap_at s.gaps z) q.from.at) (sym same) (x_of c _ _ q.a_is) in
    let dx : d.x ≡ stand g q.to.at = subst (λ z. d.x ≡ stand (gap_at s.gaps z) q.to.at) (sym same) (x_of d _ _ q.b_is) in
    let long : int_max (int_min a.x b.x) (int_min c.x d.x) <ℤ int_min (int_max a.x b.x) (int_max c.x d.x) =
    ⊎_elim (λ l. l) (λ l. absurd (flat a.y b.y c.y d.y _ _ ay by cy dy l)) piece.long in
    let parts = four _ _ _ _ (moved a.x b.x c.x d.x _ _ _ _ ax bx cx dx long) in
    let gap = st.gap p.gap p.gap_there in
    record {
      first = hp;
      second = hq;
      same = level_same a.y b.y c.y d.y p.from.height q.from.height ay by cy dy along;
      over =
          max_lt_min _ _ _ _
          (rank_lt s p.gap p.from.at p.to.at p.from.at p.to.at gap p.from_in p.to_in p.from_in p.to_in parts.0)
          (rank_lt s p.gap p.from.at p.to.at q.from.at q.to.at gap p.from_in p.to_in qfrom qto parts.1)
          (rank_lt s p.gap q.from.at q.to.at p.from.at p.to.at gap qfrom qto p.from_in p.to_in parts.2)
          (rank_lt s p.gap q.from.at q.to.at q.from.at q.to.at gap qfrom qto qfrom qto parts.3);
    }

-- a horizontal piece and an upright one share nothing
pub no_cross : (a b c d : Point) → a.x ≡ b.x → c.y ≡ d.y → Share a b c d → ⊥
no_cross a b c d h k m =
    let p = Share-piece a b c d m in
    ⊎_elim (λ l. absurd (omega (arith, ints, clamps))) (λ l. absurd (omega (arith, ints, clamps))) p.long

-- upright pieces of one x stand in one slot
same_slot : (s : Stage) (g i j : ℕ) → InGap s g → i < (gap_at s.gaps g).count → j < (gap_at s.gaps g).count
    → stand (gap_at s.gaps g) (slot i) ≡ stand (gap_at s.gaps g) (slot j) → i ≡ j
same_slot s g i j gap hi hj e =
    ⊎_elim
    (λ l. absurd (differ _ _ e (gap.slots i j l hj)))
    (λ r. ⊎_elim (λ x. x) (λ l. absurd (differ _ _ (sym e) (gap.slots j i l hi))) r)
    (three_ways i j)
  where
    differ : (x y : ℤ) → x ≡ y → x <ℤ y → ⊥
    differ x y h l = absurd (omega (arith, ints))

abbrev InSlot : Corner → Corner → ℕ → Type 0
InSlot a b i = (a.at ≡ slot i) × (b.at ≡ slot i)

upright_overlap : (s : Stage) (e f : ℕ) (a b c d : Point) → Stands s → (p : IsNetPart s e a b) → (q : IsNetPart s f c d) → p.gap ≡ q.gap
    → (i j : ℕ) → InSlot p.from p.to i → InSlot q.from q.to j → Share a b c d → UprightOverlap p.from p.to q.from q.to
upright_overlap s e f a b c d st p q same i j hp hq m =
    let g = gap_at s.gaps p.gap in
    let piece = Share-piece a b c d m in
    let across = piece.across in
    let ax : a.x ≡ stand g (slot i) = x_of a _ _ p.a_is ∙ ap (λ z. stand g z) hp.0 in
    let bx : b.x ≡ stand g (slot i) = x_of b _ _ p.b_is ∙ ap (λ z. stand g z) hp.1 in
    let cx : c.x ≡ stand g (slot j) = subst (λ z. c.x ≡ stand (gap_at s.gaps z) (slot j)) (sym same) (x_of c _ _ q.a_is ∙ ap (λ z. stand (gap_at s.gaps q.gap) z) hq.0) in
    let dx : d.x ≡ stand g (slot j) = subst (λ z. d.x ≡ stand (gap_at s.gaps z) (slot j)) (sym same) (x_of d _ _ q.b_is ∙ ap (λ z. stand (gap_at s.gaps q.gap) z) hq.1) in
    let ii : i < g.count = subst (λ z. IsAbscissa g.count z) hp.0 p.from_in in
    let jj : j < g.count = subst (λ z. IsAbscissa (gap_at s.gaps z).count (slot j)) (sym same) (subst (λ z. IsAbscissa (gap_at s.gaps q.gap).count z) hq.0 q.from_in) in
    let one : i ≡ j = same_slot s p.gap i j (st.gap p.gap p.gap_there) ii jj (level_same a.x b.x c.x d.x _ _ ax bx cx dx across) in
    let long : int_max (int_min a.y b.y) (int_min c.y d.y) <ℤ int_min (int_max a.y b.y) (int_max c.y d.y) =
    ⊎_elim (λ l. absurd (flat a.x b.x c.x d.x _ _ ax bx cx dx l)) (λ l. l) piece.long in
    record {
      in_slot = i;
      a_there = hp.0;
      b_there = hp.1;
      c_there = subst (λ z. q.from.at ≡ slot z) (sym one) hq.0;
      d_there = subst (λ z. q.to.at ≡ slot z) (sym one) hq.1;
      over = moved a.y b.y c.y d.y _ _ _ _ (y_of a _ _ p.a_is) (y_of b _ _ p.b_is) (y_of c _ _ q.a_is) (y_of d _ _ q.b_is) long;
    }

-- what two pieces of nets of one gap share in the drawing, they share in the gap
net_overlap : (s : Stage) (e f : ℕ) (a b c d : Point) → Stands s → (p : IsNetPart s e a b) → (q : IsNetPart s f c d) → p.gap ≡ q.gap
    → Share a b c d → Overlap (gap_at s.gaps p.gap).count p.from p.to q.from q.to
net_overlap s e f a b c d st p q same m =
    ⊎_elim
    (λ hp. ⊎_elim
    (λ hq. inl (level_overlap s e f a b c d st p q same hp hq m))
    (λ (hq : (j : ℕ) × (q.from.at ≡ slot j) × (q.to.at ≡ slot j)).
    absurd (no_cross c d a b (upright s f c d q hq.0 (hq.1, hq.2)) (level s e a b p hp) (reversed_share a b c d m)))
    q.straight)
    (λ (hp : (i : ℕ) × (p.from.at ≡ slot i) × (p.to.at ≡ slot i)). ⊎_elim
    (λ hq. absurd (no_cross a b c d (upright s e a b p hp.0 (hp.1, hp.2)) (level s f c d q hq) m))
    (λ (hq : (j : ℕ) × (q.from.at ≡ slot j) × (q.to.at ≡ slot j)).
    inr (upright_overlap s e f a b c d st p q same hp.0 hq.0 (hp.1, hp.2) (hq.1, hq.2) m))
    q.straight)
    p.straight
  where
    upright : (s : Stage) (e : ℕ) (a b : Point) (p : IsNetPart s e a b) (i : ℕ) → InSlot p.from p.to i → a.x ≡ b.x
    upright s e a b p i h =
        x_of a _ _ p.a_is ∙ ap (λ z. stand (gap_at s.gaps p.gap) z) (h.0 ∙ sym h.1) ∙ sym (x_of b _ _ p.b_is)

    level : (s : Stage) (e : ℕ) (a b : Point) (p : IsNetPart s e a b) → p.from.height ≡ p.to.height → a.y ≡ b.y
    level s e a b p h = y_of a _ _ p.a_is ∙ h ∙ sym (y_of b _ _ p.b_is)

-- pieces of nets of two edges that share something
pub nets_share : (s : Stage) (e f : ℕ) (a b c d : Point) → Stands s → e ≢ f → IsNetPart s e a b → IsNetPart s f c d → Share a b c d → DocksShare (s.dock e) (s.dock f)
nets_share s e f a b c d st n p q m =
    ⊎_elim
    (λ l. absurd (gaps_apart s e f a b c d st p q l m))
    (λ r. ⊎_elim
    (λ same. one_gap s e f a b c d st n p q same m)
    (λ l. absurd (gaps_apart s f e c d a b st q p l (reversed_share a b c d m)))
    r)
    (three_ways p.gap q.gap)
  where
    one_gap : (s : Stage) (e f : ℕ) (a b c d : Point) → Stands s → e ≢ f → (p : IsNetPart s e a b) → (q : IsNetPart s f c d) → p.gap ≡ q.gap → Share a b c d → DocksShare (s.dock e) (s.dock f)
    one_gap s e f a b c d st n p q same m =
        let nets = st.nets p.gap p.gap_there in
        let q_in : q.net < length (gap_at s.gaps p.gap).nets = subst (λ z. q.net < length (gap_at s.gaps z).nets) (sym same) q.net_there in
        let q_owner : s.net_edge p.gap q.net ≡ f = subst (λ z. s.net_edge z q.net ≡ f) (sym same) q.owner in
        let differ : p.net ≢ q.net = λ h. n (sym p.owner ∙ ap (λ z. s.net_edge p.gap z) h ∙ q_owner) in
        let q_piece = subst (λ z. IsPieceOf (corners (net_at (gap_at s.gaps z).nets q.net) (route_at (gap_at s.gaps z).routes q.net)) q.from q.to) (sym same) q.piece in
        let common : CommonPin (net_at (gap_at s.gaps p.gap).nets p.net) (net_at (gap_at s.gaps p.gap).nets q.net) =
        nets.free.free p.net q.net p.net_there q_in differ
        (pieces_overlap _ _ _ p.from p.to q.from q.to p.piece q_piece (net_overlap s e f a b c d st p q same m)) in
        pin_docks s e f p.gap common.pin st n
        (subst (λ z. IsPinOf s z p.gap common.pin) p.owner (nets.pins p.net common.pin p.net_there common.in_first))
        (subst (λ z. IsPinOf s z p.gap common.pin) q_owner (nets.pins q.net common.pin q_in common.in_second))

pub lane_reaches : (l : Line) (side : Side) → IsLane l → Reaches side l
lane_reaches (anchor_line d) side h = absurd h
lane_reaches (dock_lane d) side h = tt
lane_reaches (loop_lane g s) side h = tt
lane_reaches (long_lane u) side h = tt

-- two level pieces that share something have one height
pub one_height : (a b c d : Point) (h k : ℤ) → a.y ≡ h → b.y ≡ h → c.y ≡ k → d.y ≡ k → Share a b c d → h ≡ k
one_height a b c d h k x y z w m =
    let p = Share-piece a b c d m in
    let along = p.along in
    level_same a.y b.y c.y d.y h k x y z w along
