-- The lanes of a child lie between the borders of its unit and its outline, no two of them at one height.
use Rattle.std.proofs.Common.{◌≡◌, ⊎_elim, ℕ, ◌+◌, ◌<◌, ℤ, pos, ◌+ℤ◌, ◌-ℤ◌, ◌≤ℤ◌, ◌<ℤ◌, length, sym, subst, arith}
use Rattle.std.proofs.lemmas.Int.{ints}
use Rattle.drawing_types.specs.declared.shape.Side.{Side}
use Rattle.drawing_types.specs.declared.shape.Side.TheVariants.{North, South}
use Rattle.level_model.specs.Stage.{Line}
use Rattle.level_model.specs.Level.{PlainLevel, PlainPlan, Orders, outline}
use Rattle.level_model.specs.Lanes.{lanes, lanes_room, place_of_line, body_top, unit_height}
use Rattle.level_model.specs.Nets.{below_top}
use Rattle.level_model.specs.Conditions.{IsLevel}
use Rattle.level_model.specs.Units.{AreOrders}
use Rattle.level_model.proofs.Places.{place_within, one_place, room_some, room_within, room_one}
use Rattle.level_model.proofs.EndLemmas.{lanes_from_zero, outline_deep}
use Rattle.level_model.proofs.LaneLemmas.{IsLaneOf}

-- a height from the top of a unit to its bottom
abbrev pub IsUpTo : ℤ → ℤ → Type 0
IsUpTo height z = (pos 0 ≤ℤ z) × (z ≤ℤ height)

-- a height above the outline that begins at b, or below it
pub record IsAbove (b r z : ℤ) : Type 0 where
  pub height : z ≡ b -ℤ r
  pub some : pos 0 <ℤ r
  pub within : r ≤ℤ b

pub record IsBelow (b h most r z : ℤ) : Type 0 where
  pub height : z ≡ b +ℤ h +ℤ r
  pub some : pos 0 <ℤ r
  pub within : r ≤ℤ most

same_up : (b r s y z : ℤ) → y ≡ b -ℤ r → z ≡ b -ℤ s → y ≡ z → r ≡ s
same_up b r s y z h k e = omega (arith, ints, h, k, e)

same_down : (b r s y z : ℤ) → y ≡ b +ℤ r → z ≡ b +ℤ s → y ≡ z → r ≡ s
same_down b r s y z h k e = omega (arith, ints, h, k, e)

far : (b h r s y z : ℤ) → pos 0 ≤ℤ h → y ≡ b -ℤ r → pos 0 <ℤ r → z ≡ b +ℤ h +ℤ s → pos 0 <ℤ s → y ≡ z → ⊥
far b h r s y z d k u n v e = absurd (omega (arith, ints, d, k, u, n, v, e))

module _ (l : PlainLevel) (p : PlainPlan) (o : Orders) (level : IsLevel l) (orders : AreOrders l p o) where
  some_room : (i : ℕ) → pos 0 <ℤ lanes_room l (i + 1)
  some_room i = room_some i l.spacing.edge_node l.spacing.edge_edge level.spacing.edge_node.above level.spacing.edge_edge.above

  room_in : (i n : ℕ) → i < n → lanes_room l (i + 1) ≤ℤ lanes_room l n
  room_in i n h = room_within i n l.spacing.edge_node l.spacing.edge_edge level.spacing.edge_node.above level.spacing.edge_edge.above h

  pub above : (c : ℕ) (m : Line) → IsLaneOf l p o c North m → IsAbove (body_top l p o c) (lanes_room l (place_of_line (lanes l p o c North) m + 1)) (below_top l p o m)
  above c m h =
      record {
        height = h.height;
        some = some_room (place_of_line (lanes l p o c North) m);
        within = room_in (place_of_line (lanes l p o c North) m) (length (lanes l p o c North)) (place_within (lanes l p o c North) m h.has);
      }

  pub below : (c : ℕ) (m : Line) → IsLaneOf l p o c South m
      → IsBelow (body_top l p o c) (outline l p o c).height (lanes_room l (length (lanes l p o c South))) (lanes_room l (place_of_line (lanes l p o c South) m + 1)) (below_top l p o m)
  below c m h =
      record {
        height = h.height;
        some = some_room (place_of_line (lanes l p o c South) m);
        within = room_in (place_of_line (lanes l p o c South) m) (length (lanes l p o c South)) (place_within (lanes l p o c South) m h.has);
      }

  one_room : (i j : ℕ) → lanes_room l (i + 1) ≡ lanes_room l (j + 1) → i ≡ j
  one_room i j e = room_one i j l.spacing.edge_node l.spacing.edge_edge level.spacing.edge_node.above level.spacing.edge_edge.above e

  -- two lanes of one child at one height are one
  pub one_lane : (c : ℕ) (s t : Side) (m n : Line) → IsLaneOf l p o c s m → IsLaneOf l p o c t n → below_top l p o m ≡ below_top l p o n → m ≡ n
  one_lane c s t m n h k e =
      ⊎_elim
      (λ (sn : s ≡ North). ⊎_elim (λ (tn : t ≡ North). both_above (subst (λ z. IsLaneOf l p o c z m) sn h) (subst (λ z. IsLaneOf l p o c z n) tn k) e) (λ (ts : t ≡ South). absurd (apart m n (subst (λ z. IsLaneOf l p o c z m) sn h) (subst (λ z. IsLaneOf l p o c z n) ts k) e)) k.upright)
      (λ (ss : s ≡ South). ⊎_elim (λ (tn : t ≡ North). absurd (apart n m (subst (λ z. IsLaneOf l p o c z n) tn k) (subst (λ z. IsLaneOf l p o c z m) ss h) (sym e))) (λ (ts : t ≡ South). both_below (subst (λ z. IsLaneOf l p o c z m) ss h) (subst (λ z. IsLaneOf l p o c z n) ts k) e) k.upright)
      h.upright
    where
      both_above : IsLaneOf l p o c North m → IsLaneOf l p o c North n → below_top l p o m ≡ below_top l p o n → m ≡ n
      both_above h k e =
          let a = above c m h in
          let b = above c n k in
          one_place (lanes l p o c North) m n h.has k.has (one_room (place_of_line (lanes l p o c North) m) (place_of_line (lanes l p o c North) n) (same_up (body_top l p o c) (lanes_room l (place_of_line (lanes l p o c North) m + 1)) (lanes_room l (place_of_line (lanes l p o c North) n + 1)) (below_top l p o m) (below_top l p o n) a.height b.height e))

      both_below : IsLaneOf l p o c South m → IsLaneOf l p o c South n → below_top l p o m ≡ below_top l p o n → m ≡ n
      both_below h k e =
          let a = below c m h in
          let b = below c n k in
          one_place (lanes l p o c South) m n h.has k.has (one_room (place_of_line (lanes l p o c South) m) (place_of_line (lanes l p o c South) n) (same_down (body_top l p o c +ℤ (outline l p o c).height) (lanes_room l (place_of_line (lanes l p o c South) m + 1)) (lanes_room l (place_of_line (lanes l p o c South) n + 1)) (below_top l p o m) (below_top l p o n) a.height b.height e))

      apart : (m n : Line) → IsLaneOf l p o c North m → IsLaneOf l p o c South n → below_top l p o m ≡ below_top l p o n → ⊥
      apart m n h k e =
          let a = above c m h in
          let b = below c n k in
          far (body_top l p o c) (outline l p o c).height (lanes_room l (place_of_line (lanes l p o c North) m + 1)) (lanes_room l (place_of_line (lanes l p o c South) n + 1)) (below_top l p o m) (below_top l p o n) (outline_deep l p o level orders c h.there) a.height a.some b.height b.some e

  -- a lane lies in its unit
  pub lane_within : (c : ℕ) (s : Side) (m : Line) → IsLaneOf l p o c s m → IsUpTo (unit_height l p o c) (below_top l p o m)
  lane_within c s m h =
      let deep = outline_deep l p o level orders c h.there in
      ⊎_elim
      (λ (sn : s ≡ North). let a = above c m (subst (λ z. IsLaneOf l p o c z m) sn h) in up (body_top l p o c) (outline l p o c).height (lanes_room l (length (lanes l p o c South))) _ _ deep (lanes_from_zero l p o level orders (length (lanes l p o c South))) a.height a.some a.within)
      (λ (ss : s ≡ South). let a = below c m (subst (λ z. IsLaneOf l p o c z m) ss h) in down (body_top l p o c) (outline l p o c).height (lanes_room l (length (lanes l p o c South))) _ _ (lanes_from_zero l p o level orders (length (lanes l p o c North))) deep a.height a.some a.within)
      h.upright
    where
      up : (b h s r z : ℤ) → pos 0 ≤ℤ h → pos 0 ≤ℤ s → z ≡ b -ℤ r → pos 0 <ℤ r → r ≤ℤ b → (pos 0 ≤ℤ z) × (z ≤ℤ (b +ℤ h +ℤ s))
      up b h s r z d u e k w = (omega (arith, ints, e, w), omega (arith, ints, d, u, e, k))

      down : (b h s r z : ℤ) → pos 0 ≤ℤ b → pos 0 ≤ℤ h → z ≡ b +ℤ h +ℤ r → pos 0 <ℤ r → r ≤ℤ s → (pos 0 ≤ℤ z) × (z ≤ℤ (b +ℤ h +ℤ s))
      down b h s r z c d e k w = (omega (arith, ints, c, d, e, k), omega (arith, ints, e, w))
