-- Where a frame holds the columns, the gaps and the units of a stage, it holds all outlines and all routes.
use Rattle.std.proofs.Common.{◌≡◌, inl, inr, ⊎_elim, ℕ, zero, suc, ◌+◌, ◌<◌, ◌≤◌, Bool, true, List, [], ◌∷◌, length, ℤ, pos, ◌+ℤ◌, ◌≤ℤ◌, refl, sym, subst, arith}
use Rattle.std.proofs.lemmas.Int.{clamps, ints}
use Rattle.std.specs.Int.{int_max, int_min}
use Rattle.drawing_types.specs.declared.shape.Point.{Point}
use Rattle.drawing_types.specs.Ranges.{IsWithin}
use Rattle.net_routes.specs.declared.Pin.{Pin}
use Rattle.net_routes.specs.declared.Net.{Net}
use Rattle.net_routes.specs.declared.NetRoute.{NetRoute}
use Rattle.net_routes.specs.declared.NetRoute.TheVariants.{Straight, One, Two}
use Rattle.net_routes.specs.Pieces.{Abscissa, Corner, IsAbscissa, corner_at, corners, net_at, route_at}
use Rattle.net_routes.specs.GapFree.{HasPin}
use Rattle.route_lines.specs.Points.{gap_in, stand}
use Rattle.route_lines.specs.Tidied.{EachSegment, StartsAt}
use Rattle.level_model.specs.Stage.{ChildStands, IsInOutline, Stage, Stands, unit_of_line}
use Rattle.level_model.specs.Law.{IsBorderPart, IsLanePart, IsLawful, IsNetPart, IsPart, IsStub, border_part, lane_part, net_part, stub}
use Rattle.rotated_levels.proofs.Sums.{le_le}
use Rattle.rotated_levels.proofs.Framing.{Each, Frame, Holds, between, drops_each}

-- The frame holds the columns and the gaps, and the units with room for the nets of a gap below.
pub record Spans (s : Stage) (f : Frame) (most : ℕ) : Type 0 where
  pub left : (r : ℕ) → r < s.layers → f.left ≤ℤ s.col_left r
  pub right : (r : ℕ) → r < s.layers → s.col_right r ≤ℤ f.right
  pub gap : (g : ℕ) (a : Abscissa) → g < length s.gaps → IsAbscissa (gap_in s.gaps g).count a → IsWithin f.left f.right (stand (gap_in s.gaps g) a)
  pub top : (u : ℕ) → u < s.units → f.top ≤ℤ s.top u
  pub bottom : (u : ℕ) → u < s.units → (s.bottom u +ℤ pos most) ≤ℤ f.bottom
  pub few : (g : ℕ) → g < length s.gaps → length (gap_in s.gaps g).nets ≤ most

inside : (low high a b z : ℤ) → low ≤ℤ a → a ≤ℤ z → z ≤ℤ b → b ≤ℤ high → IsWithin low high z
inside low high a b z h k m n = record { above = omega (arith, ints, h, k); below = omega (arith, ints, m, n) }

inside_below : (low high a b z : ℤ) (most : ℕ) → low ≤ℤ a → a ≤ℤ z → z ≤ℤ b → (b +ℤ pos most) ≤ℤ high → IsWithin low high z
inside_below low high a b z most h k m n = record { above = omega (arith, ints, h, k); below = omega (arith, ints, m, n) }

module _ (s : Stage) (f : Frame) (most : ℕ) (stands : Stands s) (spans : Spans s f most) where
  -- ---- outlines and anchors

  less_most : (a b c : ℤ) (n : ℕ) → a ≤ℤ b → (b +ℤ pos n) ≤ℤ c → a ≤ℤ c
  less_most a b c n h k = omega (arith, ints, h, k)

  -- a point of a child's outline
  pub in_outline : (c : ℕ) (p : Point) → ChildStands s c → IsInOutline (s.outline c) p → Holds f p
  in_outline c p child at =
      record {
        x = record {
          above = le_le _ _ _ (spans.left (s.layer (s.unit_of c)) child.column) (le_le _ _ _ child.left at.left);
          below = le_le _ _ _ at.right (le_le _ _ _ child.right (spans.right (s.layer (s.unit_of c)) child.column));
        };
        y = record {
          above = le_le _ _ _ (spans.top (s.unit_of c) child.unit) (le_le _ _ _ child.top at.top);
          below = less_most _ _ _ most (le_le _ _ _ at.bottom child.bottom) (spans.bottom (s.unit_of c) child.unit);
        };
      }

  anchor_in : (e : ℕ) (t : Bool) → e < s.edges → Holds f (s.anchor e t)
  anchor_in e t h = let end = stands.ends e t h in in_outline (s.dock e t).node (s.anchor e t) end.child end.in_outline

  -- a height in a unit, and an x in a column
  in_unit : (u : ℕ) (z : ℤ) → u < s.units → s.top u ≤ℤ z → z ≤ℤ s.bottom u → IsWithin f.top f.bottom z
  in_unit u z h low high = inside_below f.top f.bottom (s.top u) (s.bottom u) z most (spans.top u h) low high (spans.bottom u h)

  columns_within : (r : ℕ) → r < s.layers → s.col_left r ≤ℤ s.col_right r → IsWithin f.left f.right (s.col_left r) × IsWithin f.left f.right (s.col_right r)
  columns_within r h wide =
      let low = spans.left r h in
      let high = spans.right r h in
      (record { above = low; below = le_le _ _ _ wide high }, record { above = le_le _ _ _ low wide; below = high })

  column_is : (r : ℕ) → r < s.layers → s.col_left r ≤ℤ s.col_right r
  column_is r h = stands.row.columns r h

  -- ---- pieces of routes

  stub_in : (e : ℕ) (a b : Point) → IsStub s e a b → Holds f b
  stub_in e a b h =
      let end = anchor_in e h.at_source h.edge_in in
      let child = (stands.ends e h.at_source h.edge_in).child in
      record {
        x = subst (IsWithin f.left f.right) (sym h.b_x) end.x;
        y = between f.top f.bottom (s.anchor e h.at_source).y h.reach b.y end.y (in_unit (s.unit_of (s.dock e h.at_source).node) h.reach child.unit h.reach_top h.reach_bottom) h.b_y;
      }

  lane_in : (e : ℕ) (a b : Point) → IsLanePart s e a b → Holds f b
  lane_in e a b h =
      let u = unit_of_line s h.lane in
      let column = stands.lines.column e h.lane h.in_use in
      let both = columns_within (s.layer u) column (column_is (s.layer u) column) in
      record {
        x = between f.left f.right (s.col_left (s.layer u)) (s.col_right (s.layer u)) b.x both.0 both.1 h.b_x;
        y = subst (IsWithin f.top f.bottom) (sym h.b_y)
            (in_unit u (s.height h.lane) (stands.lines.unit e h.lane h.in_use) (stands.lines.top e h.lane h.in_use) (stands.lines.bottom e h.lane h.in_use));
      }

  border_in : (e : ℕ) (a b : Point) → IsBorderPart s e a b → Holds f b
  border_in e a b h =
      let end = anchor_in e h.at_source h.edge_in in
      let child = (stands.ends e h.at_source h.edge_in).child in
      let r = s.layer (s.unit_of (s.dock e h.at_source).node) in
      record {
        x = between f.left f.right (s.anchor e h.at_source).x h.reach b.x end.x
            (inside f.left f.right (s.col_left r) (s.col_right r) h.reach (spans.left r child.column) h.reach_left h.reach_right (spans.right r child.column)) h.b_x;
        y = subst (IsWithin f.top f.bottom) (sym h.b_y) end.y;
      }

  -- the heights of pins lie in units
  pin_in : (g k : ℕ) (p : Pin) → g < length s.gaps → k < length (gap_in s.gaps g).nets → HasPin (net_at (gap_in s.gaps g).nets k) p
      → (f.top ≤ℤ p.height) × ((p.height +ℤ pos most) ≤ℤ f.bottom)
  pin_in g k p hg hk has =
      let pin = (stands.nets g hg).pins k p hk has in
      let e = s.net_edge g k in
      let unit = stands.lines.unit e pin.line pin.in_use in
      let low = spans.top (unit_of_line s pin.line) unit in
      let high = spans.bottom (unit_of_line s pin.line) unit in
      pin_between (s.top (unit_of_line s pin.line)) (s.bottom (unit_of_line s pin.line)) (s.height pin.line) p.height pin.height (stands.lines.top e pin.line pin.in_use) (stands.lines.bottom e pin.line pin.in_use) low high
    where
      pin_between : (a b z y : ℤ) → z ≡ y → a ≤ℤ z → z ≤ℤ b → f.top ≤ℤ a → (b +ℤ pos most) ≤ℤ f.bottom → (f.top ≤ℤ y) × ((y +ℤ pos most) ≤ℤ f.bottom)
      pin_between a b z y e h k m n = (omega (arith, ints, e, h, m), omega (arith, ints, e, k, n))

  pin_height : (z : ℤ) → (f.top ≤ℤ z) × ((z +ℤ pos most) ≤ℤ f.bottom) → IsWithin f.top f.bottom z
  pin_height z h = let a = h.0 in let b = h.1 in record { above = a; below = omega (arith, ints, b) }

  -- so does the height of a split net, but for the number of nets
  split_in : (g k i : ℕ) (z : ℤ) (t : ℕ) → g < length s.gaps → k < length (gap_in s.gaps g).nets → route_at (gap_in s.gaps g).routes k ≡ Two i z t → IsWithin f.top f.bottom z
  split_in g k i z t hg hk is =
      let near = ((stands.nets g hg).free.fresh k i z t hk is).near in
      let low = net_at (gap_in s.gaps g).nets near.i in
      let high = net_at (gap_in s.gaps g).nets near.j in
      let la = (pin_in g near.i low.a hg near.i_in (inl refl)).0 in
      let lb = (pin_in g near.i low.b hg near.i_in (inr refl)).0 in
      let ha = (pin_in g near.j high.a hg near.j_in (inl refl)).1 in
      let hb = (pin_in g near.j high.b hg near.j_in (inr refl)).1 in
      record {
        above = low_end f.top low.a.height low.b.height z la lb near.low;
        below = high_end f.bottom high.a.height high.b.height z most (length (gap_in s.gaps g).nets) ha hb (spans.few g hg) near.high;
      }
    where
      low_end : (t a b z : ℤ) → t ≤ℤ a → t ≤ℤ b → int_min a b ≤ℤ z → t ≤ℤ z
      low_end t a b z h k m = omega (arith, ints, clamps, h, k, m)

      high_end : (t a b z : ℤ) (n m : ℕ) → (a +ℤ pos n) ≤ℤ t → (b +ℤ pos n) ≤ℤ t → m ≤ n → z ≤ℤ (int_max a b +ℤ pos m) → z ≤ℤ t
      high_end t a b z n m h k less l = omega (arith, ints, clamps, h, k, less, l)

  -- a corner of a net
  corner_high : (n : Net) (r : NetRoute) (j : ℕ) → IsWithin f.top f.bottom n.a.height → IsWithin f.top f.bottom n.b.height
      → ((i : ℕ) (z : ℤ) (t : ℕ) → r ≡ Two i z t → IsWithin f.top f.bottom z) → j < length (corners n r) → IsWithin f.top f.bottom (corner_at (corners n r) j).height
  corner_high n Straight zero a b split h = a
  corner_high n Straight (suc zero) a b split h = b
  corner_high n Straight (suc (suc j)) a b split h = absurd (omega (arith, h))
  corner_high n (One s) zero a b split h = a
  corner_high n (One s) (suc zero) a b split h = a
  corner_high n (One s) (suc (suc zero)) a b split h = b
  corner_high n (One s) (suc (suc (suc zero))) a b split h = b
  corner_high n (One s) (suc (suc (suc (suc j)))) a b split h = absurd (omega (arith, h))
  corner_high n (Two s z t) zero a b split h = a
  corner_high n (Two s z t) (suc zero) a b split h = a
  corner_high n (Two s z t) (suc (suc zero)) a b split h = split s z t refl
  corner_high n (Two s z t) (suc (suc (suc zero))) a b split h = split s z t refl
  corner_high n (Two s z t) (suc (suc (suc (suc zero)))) a b split h = b
  corner_high n (Two s z t) (suc (suc (suc (suc (suc zero))))) a b split h = b
  corner_high n (Two s z t) (suc (suc (suc (suc (suc (suc j)))))) a b split h = absurd (omega (arith, h))

  net_in : (e : ℕ) (a b : Point) → IsNetPart s e a b → Holds f b
  net_in e a b h =
      let n = net_at (gap_in s.gaps h.gap).nets h.net in
      let r = route_at (gap_in s.gaps h.gap).routes h.net in
      let all : (j : ℕ) → j < length (corners n r) → IsWithin f.top f.bottom (corner_at (corners n r) j).height =
      λ j less. corner_high n r j
      (pin_height n.a.height (pin_in h.gap h.net n.a h.gap_there h.net_there (inl refl)))
      (pin_height n.b.height (pin_in h.gap h.net n.b h.gap_there h.net_there (inr refl)))
      (λ i z t is. split_in h.gap h.net i z t h.gap_there h.net_there is) less in
      let within = h.piece.i_in in
      let high : IsWithin f.top f.bottom h.to.height =
      ⊎_elim
      (λ (both : (corner_at (corners n r) h.piece.i ≡ h.from) × (corner_at (corners n r) (h.piece.i + 1) ≡ h.to)). subst (λ (c : Corner). IsWithin f.top f.bottom c.height) both.1 (all (h.piece.i + 1) within))
      (λ (both : (corner_at (corners n r) h.piece.i ≡ h.to) × (corner_at (corners n r) (h.piece.i + 1) ≡ h.from)). subst (λ (c : Corner). IsWithin f.top f.bottom c.height) both.0 (all h.piece.i (omega (arith, within))))
      h.piece.ends in
      subst (Holds f) (sym h.b_is) (record { x = spans.gap h.gap h.to.at h.gap_there h.to_in; y = high })

  part_in : (e : ℕ) (a b : Point) → IsPart s e a b → Holds f b
  part_in e a b (stub h) = stub_in e a b h
  part_in e a b (lane_part h) = lane_in e a b h
  part_in e a b (border_part h) = border_in e a b h
  part_in e a b (net_part h) = net_in e a b h

  -- ---- routes

  path_in : (e : ℕ) (a : Point) (ps : List Point) → Holds f a → EachSegment (IsPart s e) (a ∷ ps) → Each (Holds f) (a ∷ ps)
  path_in e a [] h parts = (h, tt)
  path_in e a (b ∷ ps) h parts = (h, path_in e b ps (part_in e a b parts.0) parts.1)

  whole_path : (e : ℕ) (ps : List Point) → e < s.edges → StartsAt (s.anchor e true) ps → EachSegment (IsPart s e) ps → Each (Holds f) ps
  whole_path e [] h starts parts = tt
  whole_path e (a ∷ ps) h starts parts = path_in e a ps (subst (Holds f) (sym starts) (anchor_in e true h)) parts

  pub route_in : (e : ℕ) (points : List Point) → e < s.edges → IsLawful s e points → Each (Holds f) points
  route_in e points h lawful = drops_each (Holds f) lawful.fine points lawful.tidied.dropped (whole_path e lawful.fine h lawful.starts lawful.parts)
