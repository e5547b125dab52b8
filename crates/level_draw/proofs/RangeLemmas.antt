-- Numbers of ends, borders of gaps and places of boxes in range.
use Rattle.std.proofs.Common.{◌≡◌, ℕ, ◌+◌, ◌*◌, ◌<◌, ◌^◌, Bool, true, false, List, length, get_or, ℤ, pos, ◌+ℤ◌, ◌-ℤ◌, ◌≤ℤ◌, ◌<ℤ◌, arith, subst}
use Rattle.std.proofs.lemmas.Int.{ints}
use Rattle.std.proofs.lemmas.List.{get_or-map}
use Rattle.elk_layers.specs.Layered.{IsFromZero, IsSound, unit_at, layer_of}
use Rattle.elk_layers.specs.Lines.{top_of}
use Rattle.route_lines.specs.declared.Gap.{Gap}
use Rattle.route_lines.specs.Points.{PlainGap, plain_gap, gap_in}
use Rattle.level_model.specs.Level.{end_at}
use Rattle.level_model.specs.Table.{child_in, end_number}
use Rattle.level_nets.specs.Parts.{Parts}
use Rattle.level_nets.specs.Held.{plain_gaps}
use Rattle.level_nets.specs.Reach.{AreInReach, IsBelow}
use Rattle.level_nets.specs.Routed.{AreGapsIn}
use Rattle.level_draw.specs.Read as read
use Rattle.level_draw.specs.Reach.{AreNumbersIn, IsBoxPoint, IsLinked}

pub end_there : (e : ℕ) (t : Bool) (n m : ℕ) → e < n → m ≡ 2 * n → end_number (end_at e t) < m
end_there e true n m h k = omega (arith, h, k)
end_there e false n m h k = omega (arith, h, k)

pub right_in : (gaps : List Gap) (g : ℕ) (d : Gap) → g < length gaps → AreGapsIn gaps → IsFromZero (get_or gaps g d).right (pos (2 ^ 51))
right_in gaps g d h are = subst (λ (v : PlainGap). IsFromZero v.right (pos (2 ^ 51))) (get_or-map plain_gap gaps g d _ h) (are g h).right

-- the numbers that place the box of a child
pub record AreBoxNumbers (s : Parts) (gaps : List Gap) (c : ℕ) : Type 0 where
  pub unit : (child_in s.table.children c).unit < length s.layered.units
  pub right : IsFromZero (gap_in (plain_gaps gaps) (layer_of s.layered (child_in s.table.children c).unit)).right (pos (2 ^ 51))
  pub top : IsFromZero (top_of s.tops (child_in s.table.children c).unit) (pos (2 ^ 49))
  pub body : IsFromZero (unit_at s.layered.units (child_in s.table.children c).unit).body_top (pos (2 ^ 49))
  pub x : IsBelow (child_in s.table.children c).outline.x
  pub y : IsBelow (child_in s.table.children c).outline.y

top_in : (t h : ℤ) → pos 0 ≤ℤ t → pos 0 ≤ℤ h → (t +ℤ h) <ℤ pos (2 ^ 49) → IsFromZero t (pos (2 ^ 49))
top_in t h low deep end = (low, omega (arith, ints, deep, end))

pub box_numbers : (s : Parts) (gaps : List Gap) (c : ℕ) → IsSound s.layered → AreInReach s → AreNumbersIn s.table → IsLinked s → AreGapsIn gaps → length gaps ≡ s.layered.layers + 1 → c < length s.level.children
    → AreBoxNumbers s gaps c
box_numbers s gaps c sound reach numbers linked are many h =
    let u = (child_in s.table.children c).unit in
    let there = reach.children c h in
    let layer = sound.layers_are u there in
    let count = reach.as_many_children in
    let inside : c < length s.table.children = omega (arith, h, count) in
    record {
      unit = there;
      right = (are (layer_of s.layered u) (omega (arith, layer, many))).right;
      top = top_in (top_of s.tops u) (unit_at s.layered.units u).height (reach.tops u there) (sound.heights u there) (reach.bottoms u there);
      body = linked.bodies c h;
      x = numbers.outlines_x c inside;
      y = numbers.outlines_y c inside;
    }

box_point : (r o t b y : ℤ) → IsFromZero r (pos (2 ^ 51)) → IsBelow o → IsFromZero t (pos (2 ^ 49)) → IsFromZero b (pos (2 ^ 49)) → IsBelow y
    → IsBoxPoint (record { x = r -ℤ o; y = t +ℤ (b -ℤ y) })
box_point r o t b y fr fo ft fb fy =
    let r0 = fr.0 in let r1 = fr.1 in let o0 = fo.above in let o1 = fo.below in
    let t0 = ft.0 in let t1 = ft.1 in let b0 = fb.0 in let b1 = fb.1 in let y0 = fy.above in let y1 = fy.below in
    record {
      x = record { above = omega (arith, ints, r0, o1); below = omega (arith, ints, r1, o0) };
      y = record { above = omega (arith, ints, t0, b0, y1); below = omega (arith, ints, t1, b1, y0) };
    }

pub box_in : (s : Parts) (gaps : List Gap) (c : ℕ) → AreBoxNumbers s gaps c → IsBoxPoint (read.box_at s (plain_gaps gaps) c)
box_in s gaps c f = box_point _ _ _ _ _ f.right f.x f.top f.body f.y
