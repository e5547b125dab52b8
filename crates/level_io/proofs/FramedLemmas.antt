-- A node that has its size is framed round the drawing of its level.
use Rattle.std.proofs.Common.{◌≡◌, ◌≢◌, ◌⊎◌, inl, inr, ⊎_elim, ℕ, ◌<◌, Bool, true, false, not, ◌&&◌, length, ℤ, ◌+ℤ◌, Option, Some, None, IsTrue, is_some, is_none, get_or, rules, refl, sym, ap, ap₂, ◌∙◌, subst}
use Rattle.std.proofs.lemmas.List.{get_or-set_same, get_or-set_other, length-set}
use Rattle.drawing_types.specs.declared.shape.Point.{Point}
use Rattle.drawing_types.specs.declared.shape.Size.{Size}
use Rattle.drawing_types.specs.declared.shape.Rect.{Rect}
use Rattle.drawing_types.specs.declared.shape.Side.{Side}
use Rattle.drawing_types.specs.declared.shape.Side.TheVariants.{North, East, South, West}
use Rattle.elk_doc.specs.declared.document.PortRule.{PortRule}
use Rattle.elk_doc.specs.declared.document.PortRule.TheVariants.{Free, FixedSide, FixedOrder, FixedPos}
use Rattle.elk_doc.specs.declared.document.LevelOptions.{LevelOptions}
use Rattle.elk_doc.specs.declared.drawing.Placed.{Placed}
use Rattle.elk_doc.specs.Document.{Document, frame_of, node_at, node_of_port, port_at}
use Rattle.drawing_types.specs.Shapes.{origin}
use Rattle.elk_doc.specs.Drawing.{box_of, no_rect, no_section, port_place}
use Rattle.elk_doc.specs.Fitted.{IsGreatestOf, IsPinnedOn}
use Rattle.elk_doc.specs.Level.{edges_of, IsChild}
use Rattle.elk_doc.specs.Fits.{IsSolid}
use Rattle.elk_doc.specs.PortsKept.{is_pinned, pins}
use Rattle.elk_doc.specs.Sides.{given_side, is_entered, is_leaf, is_left, side_by_place, side_from, side_of_port, side_or}
use Rattle.elk_doc.specs.Sound.{along}
use Rattle.level_model.specs.FromPlan.{LevelDrawing}
use Rattle.working_frame.specs.Numbered.{IsPortOf}
use Rattle.working_frame.specs.Rotated.{box_size, rotated_size}
use Rattle.rotated_levels.specs.Framed.{AsksHeight, AsksWidth, IsFramed, start_of}
use Rattle.level_io.specs.Sizes.{Asks, IsNodeFramed, IsSizeRound, KeepsPinned, end_across, end_down, end_of, padded_height, padded_width, pinned_side, pinned_under, resized}
use Rattle.level_io.specs.Canvas.{IsDrawingOf}

-- ---- pinned ports of compound nodes

abbrev IsPinnedTo : PortRule → Option Side → Side → Type 0
IsPinnedTo rule asked s = (rule ≡ FixedPos) × (asked ≡ Some s)

pinned_is : (rule : PortRule) (asked : Option Side) (s : Side) → pinned_under rule asked ≡ Some s → IsPinnedTo rule asked s
pinned_is Free asked s e = absurd cc
pinned_is FixedSide asked s e = absurd cc
pinned_is FixedOrder asked s e = absurd cc
pinned_is FixedPos asked s e = (refl, e)

pins_is : (rule : PortRule) (asked : Option Side) → IsTrue (pins rule false (is_some asked)) → (s : Side) × IsPinnedTo rule asked s
pins_is Free asked h = absurd (search rules)
pins_is FixedSide asked h = absurd (search rules)
pins_is FixedOrder asked h = absurd (search rules)
pins_is FixedPos None h = absurd (search rules)
pins_is FixedPos (Some s) h = (s, (refl, refl))

-- a port of a compound node that is pinned on this side
record IsPinnedTight (d : Document) (p : Placed) (k : ℕ) (s : Side) : Type 0 where
  pub pinned : is_pinned d k ≡ true
  pub to : pinned_side d k ≡ Some s
  pub side : side_of_port d p k ≡ s

pins_either : (leaf : Bool) → pins FixedPos leaf true ≡ true
pins_either true = refl
pins_either false = refl

given : (d : Document) (k : ℕ) (s : Side) → IsPinnedTo (node_at d (node_of_port d k)).rule (port_at d k).side s → given_side d k ≡ Some s
given d k s t =
    let leaf = is_leaf d (node_of_port d k) in
    let by_place = side_by_place (node_at d (node_of_port d k)).size (port_at d k).place (port_at d k).size in
    ap₂ (λ r a. side_from r a leaf by_place) t.0 t.1

tight : (d : Document) (p : Placed) (k : ℕ) (s : Side) → IsPinnedTo (node_at d (node_of_port d k)).rule (port_at d k).side s → IsPinnedTight d p k s
tight d p k s t =
    let leaf = is_leaf d (node_of_port d k) in
    record {
      pinned = ap₂ (λ r a. pins r leaf (is_some a)) t.0 t.1 ∙ pins_either leaf;
      to = ap₂ (λ r a. pinned_under r a) t.0 t.1;
      side = ap (λ g. side_or g (is_entered d p k && not (is_left d p k)) (frame_of d (node_of_port d k))) (given d k s t);
    }

-- where a port ends by its side
same_end : (a b : ℤ) → Some a ≡ Some b → b ≡ a
same_end a b e = cc

across_at : (o : Option Side) (q : Point) (s : Size) (z : ℤ) → end_across o q s ≡ Some z → ((o ≡ Some North) ⊎ (o ≡ Some South)) × (z ≡ q.x +ℤ s.width)
across_at None q s z e = absurd cc
across_at (Some North) q s z e = (inl refl, same_end _ _ e)
across_at (Some East) q s z e = absurd cc
across_at (Some South) q s z e = (inr refl, same_end _ _ e)
across_at (Some West) q s z e = absurd cc

down_at : (o : Option Side) (q : Point) (s : Size) (z : ℤ) → end_down o q s ≡ Some z → ((o ≡ Some East) ⊎ (o ≡ Some West)) × (z ≡ q.y +ℤ s.height)
down_at None q s z e = absurd cc
down_at (Some North) q s z e = absurd cc
down_at (Some East) q s z e = (inl refl, same_end _ _ e)
down_at (Some South) q s z e = absurd cc
down_at (Some West) q s z e = (inr refl, same_end _ _ e)

-- the lengths that are asked for by given places and by those of a drawing
module _ (d : Document) (p : Placed) (n : ℕ) (o : LevelOptions) (compound : (node_at d n).level ≡ Some o) (kept : KeepsPinned d p n) where
  -- a pinned port on a side, by its given place
  record StandsOn (k : ℕ) (s : Side) : Type 0 where
    pub port : IsPortOf d n k
    pub pinned : IsTrue (is_pinned d k)
    pub to : pinned_side d k ≡ Some s
    pub side : side_of_port d p k ≡ s
    pub place : along s (port_place p k) ≡ along s (port_at d k).place

  stands : (k : ℕ) (s : Side) → IsPortOf d n k → IsPinnedTight d p k s → StandsOn k s
  stands k s port t =
      let pinned : IsTrue (is_pinned d k) = rw t.pinned (search rules) in
      record { port = port; pinned = pinned; to = t.to; side = t.side; place = subst (λ z. along z (port_place p k) ≡ along z (port_at d k).place) t.side (kept k port pinned) }

  from_side : (k : ℕ) (s : Side) → IsPortOf d n k → pinned_side d k ≡ Some s → StandsOn k s
  from_side k s port to = stands k s port (tight d p k s (pinned_is (node_at d (node_of_port d k)).rule (port_at d k).side s to))

  from_pinned : (k : ℕ) (s : Side) → IsPortOf d n k → IsTrue (is_pinned d k) → side_of_port d p k ≡ s → StandsOn k s
  from_pinned k s port h side =
      let no_leaf : is_leaf d (node_of_port d k) ≡ false = ap (is_leaf d) port.of_node ∙ ap is_none compound in
      let t = pins_is (node_at d (node_of_port d k)).rule (port_at d k).side (subst (λ b. IsTrue (pins (node_at d (node_of_port d k)).rule b (is_some (port_at d k).side))) no_leaf h) in
      let there = tight d p k t.0 t.1 in
      stands k s port (subst (IsPinnedTight d p k) (sym there.side ∙ side) there)

  pinned_on : (k : ℕ) (s a b : Side) → (s ≡ a) ⊎ (s ≡ b) → StandsOn k s → IsPinnedOn d p n a b k
  pinned_on k s a b which t =
      record { port_in = t.port.port_in; of_node = t.port.of_node; pinned = t.pinned; side = ⊎_elim (λ e. inl (t.side ∙ e)) (λ e. inr (t.side ∙ e)) which }

  abbrev by_x : ℕ → ℤ → Type 0
  by_x k z = z ≡ (port_place p k).x +ℤ (port_at d k).size.width

  abbrev by_y : ℕ → ℤ → Type 0
  by_y k z = z ≡ (port_place p k).y +ℤ (port_at d k).size.height

  x_from : (k : ℕ) (z : ℤ) → (port_place p k).x ≡ (port_at d k).place.x → z ≡ (port_at d k).place.x +ℤ (port_at d k).size.width → by_x k z
  x_from k z e h = h ∙ ap (λ a. a +ℤ (port_at d k).size.width) (sym e)

  y_from : (k : ℕ) (z : ℤ) → (port_place p k).y ≡ (port_at d k).place.y → z ≡ (port_at d k).place.y +ℤ (port_at d k).size.height → by_y k z
  y_from k z e h = h ∙ ap (λ a. a +ℤ (port_at d k).size.height) (sym e)

  across_from : (k : ℕ) (z : ℤ) → IsPortOf d n k → end_of d true k ≡ Some z → IsPinnedOn d p n North South k × by_x k z
  across_from k z port e =
      let a = across_at (pinned_side d k) (port_at d k).place (port_at d k).size z e in
      ⊎_elim
      (λ (to : pinned_side d k ≡ Some North). let t = from_side k North port to in (pinned_on k North North South (inl refl) t, x_from k z t.place a.1))
      (λ (to : pinned_side d k ≡ Some South). let t = from_side k South port to in (pinned_on k South North South (inr refl) t, x_from k z t.place a.1))
      a.0

  down_from : (k : ℕ) (z : ℤ) → IsPortOf d n k → end_of d false k ≡ Some z → IsPinnedOn d p n East West k × by_y k z
  down_from k z port e =
      let a = down_at (pinned_side d k) (port_at d k).place (port_at d k).size z e in
      ⊎_elim
      (λ (to : pinned_side d k ≡ Some East). let t = from_side k East port to in (pinned_on k East East West (inl refl) t, y_from k z t.place a.1))
      (λ (to : pinned_side d k ≡ Some West). let t = from_side k West port to in (pinned_on k West East West (inr refl) t, y_from k z t.place a.1))
      a.0

  port_of : (k : ℕ) (a b : Side) → IsPinnedOn d p n a b k → IsPortOf d n k
  port_of k a b h = record { port_in = h.port_in; of_node = h.of_node }

  x_end : (k : ℕ) (z x : ℤ) → (port_place p k).x ≡ x → by_x k z → Some (x +ℤ (port_at d k).size.width) ≡ Some z
  x_end k z x e h = ap Some (ap (λ a. a +ℤ (port_at d k).size.width) (sym e) ∙ sym h)

  y_end : (k : ℕ) (z y : ℤ) → (port_place p k).y ≡ y → by_y k z → Some (y +ℤ (port_at d k).size.height) ≡ Some z
  y_end k z y e h = ap Some (ap (λ a. a +ℤ (port_at d k).size.height) (sym e) ∙ sym h)

  across_to : (k : ℕ) (z : ℤ) → IsPinnedOn d p n North South k → by_x k z → end_of d true k ≡ Some z
  across_to k z h e =
      let port = port_of k North South h in
      let ends : Option Side → Option ℤ = λ s. end_across s (port_at d k).place (port_at d k).size in
      ⊎_elim
      (λ side. let t = from_pinned k North port h.pinned side in ap ends t.to ∙ x_end k z (port_at d k).place.x t.place e)
      (λ side. let t = from_pinned k South port h.pinned side in ap ends t.to ∙ x_end k z (port_at d k).place.x t.place e)
      h.side

  down_to : (k : ℕ) (z : ℤ) → IsPinnedOn d p n East West k → by_y k z → end_of d false k ≡ Some z
  down_to k z h e =
      let port = port_of k East West h in
      let ends : Option Side → Option ℤ = λ s. end_down s (port_at d k).place (port_at d k).size in
      ⊎_elim
      (λ side. let t = from_pinned k East port h.pinned side in ap ends t.to ∙ y_end k z (port_at d k).place.y t.place e)
      (λ side. let t = from_pinned k West port h.pinned side in ap ends t.to ∙ y_end k z (port_at d k).place.y t.place e)
      h.side

  abbrev EndsAt : Bool → ℤ → Type 0
  EndsAt across z = (k : ℕ) × IsPortOf d n k × (end_of d across k ≡ Some z)

  abbrev PinnedAcross : ℤ → Type 0
  PinnedAcross z = (k : ℕ) × IsPinnedOn d p n North South k × by_x k z

  abbrev PinnedDown : ℤ → Type 0
  PinnedDown z = (k : ℕ) × IsPinnedOn d p n East West k × by_y k z

  greatest_width : (extent : Size) (z : ℤ) → IsGreatestOf (Asks d true (padded_width o extent) n) z → IsGreatestOf (AsksWidth d p n o (rotated_size o.direction extent)) z
  greatest_width extent z g =
      record {
        itself =
            ⊎_elim
            (λ (e : z ≡ padded_width o extent). inl e)
            (λ (s : EndsAt true z). let a = across_from s.0 z s.1 s.2 in inr (s.0, a.0, a.1))
            g.itself;
        bound = λ y asks.
            ⊎_elim
            (λ (e : y ≡ padded_width o extent). g.bound y (inl e))
            (λ (s : PinnedAcross y). g.bound y (inr (s.0, port_of s.0 North South s.1, across_to s.0 y s.1 s.2)))
            asks;
      }

  greatest_height : (extent : Size) (z : ℤ) → IsGreatestOf (Asks d false (padded_height o extent) n) z → IsGreatestOf (AsksHeight d p n o (rotated_size o.direction extent)) z
  greatest_height extent z g =
      record {
        itself =
            ⊎_elim
            (λ (e : z ≡ padded_height o extent). inl e)
            (λ (s : EndsAt false z). let a = down_from s.0 z s.1 s.2 in inr (s.0, a.0, a.1))
            g.itself;
        bound = λ y asks.
            ⊎_elim
            (λ (e : y ≡ padded_height o extent). g.bound y (inl e))
            (λ (s : PinnedDown y). g.bound y (inr (s.0, port_of s.0 East West s.1, down_to s.0 y s.1 s.2)))
            asks;
      }

  pub framed : (v : LevelDrawing) → length v.sections ≡ length (edges_of d n) → ((c : ℕ) → IsChild d n c → IsSolid (box_of p c))
      → IsSizeRound d n o v.extent (box_size p n) → IsFramed d p n o v (start_of o.direction o.padding v.extent)
  framed v count solid size =
      record {
        section_count = count;
        move = refl;
        width = greatest_width v.extent (box_of p n).width size.width;
        height = greatest_height v.extent (box_of p n).height size.height;
        solid = solid;
      }

-- a node that gets its size
pub resized_node : (d : Document) (n : ℕ) (o : LevelOptions) (extent s : Size) (old now : Placed) → n < length old.boxes → IsDrawingOf d old
    → IsSizeRound d n o extent s → now.boxes ≡ resized old.boxes n s → now.ports ≡ old.ports → now.sections ≡ old.sections → now.levels ≡ old.levels
    → IsNodeFramed d n o extent old now
resized_node d n o extent s old now h was size boxes ports sections levels =
    let was_box = get_or old.boxes n no_rect in
    let new_box : Rect = record { x = was_box.x; y = was_box.y; width = s.width; height = s.height } in
    let here : box_of now n ≡ new_box = ap (λ bs. get_or bs n no_rect) boxes ∙ get_or-set_same old.boxes n new_box no_rect h in
    let others : (m : ℕ) → m ≢ n → box_of now m ≡ box_of old m = λ m other. ap (λ bs. get_or bs m no_rect) boxes ∙ get_or-set_other old.boxes n m new_box no_rect other in
    record {
      size = subst (λ (r : Rect). IsSizeRound d n o extent (record { width = r.width; height = r.height })) (sym here) size;
      x = ap (λ (r : Rect). r.x) here;
      y = ap (λ (r : Rect). r.y) here;
      boxes = others;
      ports = ports;
      sections = sections;
      levels = levels;
      agree = λ m no.
          record {
            boxes = λ c child. sym (others c (λ e. no (subst (IsChild d m) e child)));
            ports = λ c k child port. ap (λ ps. get_or ps k origin) (sym ports);
            sections = λ e edge. ap (λ ss. get_or ss e no_section) (sym sections);
          };
      complete = record {
        boxes = ap length boxes ∙ length-set old.boxes n new_box ∙ was.boxes;
        ports = ap length ports ∙ was.ports;
        sections = ap length sections ∙ was.sections;
        levels = ap length levels ∙ was.levels;
      };
    }
