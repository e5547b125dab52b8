-- The ports that a layout places are near their children, and outlines are hardly larger than all children together.
use Rattle.std.proofs.Common.{◌≡◌, inl, inr, ⊎_elim, ℕ, ◌+◌, ◌<◌, ◌≤◌, ◌^◌, not, ◌&&◌, Bool, true, false, List, [], ◌∷◌, length, get_or, ℤ, pos, ◌≤ℤ◌, Some, refl, sym, ap, ap₂, ◌∙◌, subst, arith}
use Rattle.std.proofs.lemmas.Int.{ints}
use Rattle.std.specs.List.{range_with_len}
use Rattle.drawing_types.specs.declared.shape.Rect.{Rect}
use Rattle.drawing_types.specs.declared.shape.Side.{Side}
use Rattle.elk_doc.specs.PortsKept.{size_along}
use Rattle.drawing_types.specs.Shapes.{hull, rect_at}
use Rattle.drawing_types.specs.Ranges.{IsWithin}
use Rattle.port_order.specs.Child.{is_pinned, port_at}
use Rattle.port_order.specs.Places.{offset_of}
use Rattle.port_order.specs.Sides.{side_of}
use Rattle.port_order.proofs.KeptLemmas.{dock_inside}
use Rattle.level_model.specs.declared.level.LevelIn.{LevelIn}
use Rattle.level_model.specs.Conditions.{plain_level}
use Rattle.level_model.specs.FromPlan.{IsDrawnFrom, point_or}
use Rattle.level_model.specs.Level.{Orders, PlainLevel, PlainPlan, child_at, dock_of_spot, outline, outline_from as planned_from, port_place, port_spot}
use Rattle.level_model.proofs.Lists.{Has, below_has, has_range}
use Rattle.level_model.proofs.SpotLemmas.{held_once, port_spot_there}
use Rattle.dock_table.specs.Narrow.{IsNarrow, IsNearRect, IsOffset}
use Rattle.dock_table.proofs.NarrowLemmas.{box_near, given_near, narrow, pinned_side, port_near, spread_near}
use Rattle.level_draw.specs.declared.drawing.LevelOut.{LevelOut}
use Rattle.level_draw.specs.Drawing.{drawn_in, plan_from}
use Rattle.level_layout.specs.Layout.{IsLaidOut}
use Rattle.rotated_levels.proofs.SizeLemmas.{heights_low, widths_low}
use Rattle.rotated_levels.proofs.Sums.{over, over_least}
use Rattle.level_split.specs.Outlines.{AreOutlines, ArePorted, child_in, outline_from, outline_of, ports_in, rect_in}

-- a part of a sum
over_part : {X : Type 0} (f : X → ℤ) (xs : List X) (x : X) → Has xs x → ((y : X) → Has xs y → pos 0 ≤ℤ f y) → f x ≤ℤ over f xs
over_part f [] x h least = absurd h
over_part f (y ∷ ys) x h least =
    let here = least y (inl refl) in
    let rest = over_least f ys (λ z k. least z (inr k)) in
    ⊎_elim
    (λ (e : y ≡ x). let same : f y ≡ f x = ap f e in omega (arith, ints, rest, same))
    (λ k. let part = over_part f ys x k (λ z m. least z (inr m)) in omega (arith, ints, part, here))
    h

module _ (a : LevelIn) (v : LevelOut) (laid : IsLaidOut a v) where
  abbrev l : PlainLevel
  l = plain_level a

  abbrev plan : PlainPlan
  plan = plan_from v.certificate v.plan.layered v.plan.order v.plan.lines

  abbrev o : Orders
  o = laid.orders

  drawn : IsDrawnFrom l plan o (drawn_in v laid.drawn.left laid.drawn.top)
  drawn = laid.drawn.drawing.from_plan laid.orders laid.ready

  is_narrow : (i : ℕ) → i < length l.children → IsNarrow (child_at l i)
  is_narrow i h = narrow l i laid.ready.level h

  abbrev side_at : ℕ → ℕ → Side
  side_at i k = side_of (child_at l i) (port_spot l plan i k)

  dock_near : (i k : ℕ) → i < length l.children → k < length (child_at l i).ports → IsOffset (dock_of_spot l o i (port_spot l plan i k)).offset
  dock_near i k h less = step (is_pinned (child_at l i) k) refl
    where
      step : (b : Bool) → is_pinned (child_at l i) k ≡ b → IsOffset (offset_of (child_at l i) (side_at i k) b (Some k) (o i (side_at i k)) k)
      step true pinned =
          let is = laid.ready.level.children i h in
          given_near (child_at l i) (side_at i k) k (is_narrow i h) less pinned
          (pinned_side (child_at l i) k ((port_spot l plan i k).enters && not (port_spot l plan i k).leaves) (is.sound.ports k less) pinned)
      step false free =
          let is = laid.ready.level.children i h in
          let inside = dock_inside (child_at l i) (port_spot l plan i k) (o i (side_at i k)) is.sound (held_once l plan o i (port_spot l plan i k) laid.ready.units.orders h (port_spot_there l plan i k less)) free in
          spread_near (child_at l i) (side_at i k) (offset_of (child_at l i) (side_at i k) false (Some k) (o i (side_at i k)) k) (is_narrow i h)
          (subst (λ b. IsWithin (pos 0) (size_along (side_at i k) (child_at l i).size) (offset_of (child_at l i) (side_at i k) b (Some k) (o i (side_at i k)) k)) free inside)

  port_is : (i k : ℕ) → i < length l.children → k < length (child_at l i).ports → point_or (get_or v.ports i []) k ≡ port_place l plan o i k
  port_is i k h less = (drawn.children i h).ports k less

  -- ports are near enough for outlines to be joined
  pub ported : ArePorted a.children v.ports
  ported =
      record {
        as_many = drawn.port_lists;
        each = λ i h. record {
          as_many = (drawn.children i h).as_many;
          box_near = box_near (child_at l i) (is_narrow i h);
          ports_near = λ k less.
              subst (λ q. IsNearRect (rect_at q (port_at (child_at l i) k).size)) (sym (port_is i k h less))
              (port_near (child_at l i) (side_at i k) k (dock_of_spot l o i (port_spot l plan i k)).offset (is_narrow i h) less (dock_near i k h less));
        };
      }

  -- outlines are those of the plan
  planned_of : (i : ℕ) → i < length l.children → (ks : List ℕ) → ((k : ℕ) → Has ks k → k < length (child_at l i).ports) → outline_from (child_at l i) (get_or v.ports i []) ks ≡ planned_from l plan o i ks
  planned_of i h [] below = refl
  planned_of i h (k ∷ ks) below =
      ap₂ hull (planned_of i h ks (λ j has. below j (inr has))) (ap (λ q. rect_at q (port_at (child_at l i) k).size) (port_is i k h (below k (inl refl))))

  pub outline_planned : (i : ℕ) → i < length l.children → outline_of (child_in a.children i) (ports_in v.ports i) ≡ outline l plan o i
  outline_planned i h = planned_of i h (range_with_len 0 (length (child_at l i).ports)) (λ k has. below_has (length (child_at l i).ports) k has)

  module _ (outlines : List Rect) (are : AreOutlines a.children v.ports (length a.children) outlines) where
    planned_is : (i : ℕ) → i < length l.children → outline l plan o i ≡ rect_in outlines i
    planned_is i h = sym (are.each i h ∙ outline_planned i h)

    wide_least : (i : ℕ) → i < length l.children → pos 0 ≤ℤ (outline l plan o i).width
    wide_least i h = subst (λ (r : Rect). pos 0 ≤ℤ r.width) (sym (planned_is i h)) (are.near i h).across.solid

    high_least : (i : ℕ) → i < length l.children → pos 0 ≤ℤ (outline l plan o i).height
    high_least i h = subst (λ (r : Rect). pos 0 ≤ℤ r.height) (sym (planned_is i h)) (are.near i h).along.solid

    pub wide_small : (i : ℕ) → i < length l.children → (rect_in outlines i).width ≤ℤ pos (2 ^ 33 + 2 ^ 47)
    wide_small i h =
        let part = over_part (λ c. (outline l plan o c).width) (range_with_len 0 (length l.children)) i (has_range 0 (length l.children) i (omega arith) (omega (arith, h)))
        (λ c has. wide_least c (below_has (length l.children) c has)) in
        let all = widths_low l plan o v.certificate.layers laid.ready in
        subst (λ (r : Rect). r.width ≤ℤ pos (2 ^ 33 + 2 ^ 47)) (planned_is i h) (omega (arith, ints, part, all))

    pub high_small : (i : ℕ) → i < length l.children → (rect_in outlines i).height ≤ℤ pos (2 ^ 33 + 2 ^ 47)
    high_small i h =
        let part = over_part (λ c. (outline l plan o c).height) (range_with_len 0 (length l.children)) i (has_range 0 (length l.children) i (omega arith) (omega (arith, h)))
        (λ c has. high_least c (below_has (length l.children) c has)) in
        let all = heights_low l plan o v.certificate.layers laid.ready in
        subst (λ (r : Rect). r.height ≤ℤ pos (2 ^ 33 + 2 ^ 47)) (planned_is i h) (omega (arith, ints, part, all))
