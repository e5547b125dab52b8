-- A level that is laid out part by part is hardly larger than its children.
use Rattle.std.proofs.Common.{◌≡◌, ℕ, ◌+◌, ◌*◌, ◌<◌, ◌^◌, [], length, ℤ, pos, ◌+ℤ◌, ◌≤ℤ◌, sym, ap, subst, subst₂, arith}
use Rattle.std.proofs.lemmas.Int.{ints}
use Rattle.drawing_types.specs.declared.shape.Rect.{Rect}
use Rattle.elk_doc.specs.Sound.{IsDistance}
use Rattle.port_order.specs.declared.children.Child.{Child}
use Rattle.box_pack.specs.Boxes.{point_at}
use Rattle.rotated_levels.proofs.PartLemmas as parts
use Rattle.rotated_levels.proofs.JoinedReachLemmas as reach
use Rattle.rotated_levels.specs.Extents.{outline_heights, outline_widths}
use Rattle.rotated_levels.proofs.Sums.{over}
use Rattle.level_model.specs.declared.level.LevelIn.{LevelIn}
use Rattle.level_model.specs.Conditions.{plain_level}
use Rattle.level_model.specs.Level.{PlainLevel, child_at}
use Rattle.level_model.specs.Apart.{drawn_outline}
use Rattle.level_parts.specs.Divided.{child_number, part_level}
use Rattle.level_parts.proofs.LevelLemmas.{child_in, child_is, many_children}
use Rattle.level_split.specs.declared.layout.PartsOut.{PartsOut}
use Rattle.level_split.specs.Parts.{IsPartsLayout, whole_drawing}
use Rattle.level_split.proofs.BoundLemmas.{parts_are_bounded}
use Rattle.level_split.proofs.WholeLemmas as whole
use Rattle.compound.proofs.ExtentLemmas.{AllShort, high, high_at, wide, wide_at}
use Rattle.compound.proofs.ListLemmas.{sum_most}
use Rattle.compound.proofs.OutlineLemmas.{HasShortPorts}
use Rattle.compound.proofs.SumLemmas.{room}

module _ (level : LevelIn) (component : ℤ) (v : PartsOut) (apart : IsDistance component) (laid : IsPartsLayout level component v) (short : AllShort (plain_level level)) where
  abbrev l : PlainLevel
  l = plain_level level

  abbrev count : ℕ
  count = length v.outs

  abbrev no_child : Child
  no_child = child_at (record { children = []; edges = []; spacing = l.spacing; choices = l.choices }) 0

  part_short : (k : ℕ) → AllShort (part_level l v.parts k)
  part_short k i h =
      let inside = subst (λ n. i < n) (many_children l v.parts k laid.sound laid.numbered) h in
      subst HasShortPorts (sym (child_is l v.parts k laid.sound laid.numbered i inside)) (short (child_number v.parts k i) (child_in l v.parts k laid.sound laid.numbered i inside).0)

  abbrev Hardly : ℕ → Type 0
  Hardly c =
      ((drawn_outline l (whole_drawing v) c).width ≤ℤ ((child_at l c).size.width +ℤ pos (2 ^ 23))) × ((drawn_outline l (whole_drawing v) c).height ≤ℤ ((child_at l c).size.height +ℤ pos (2 ^ 23)))

  hardly : (c : ℕ) → c < length l.children → Hardly c
  hardly =
      parts.by_child l v.parts (point_at v.at) (whole.own level component v laid) (whole_drawing v) laid.sound laid.numbered (whole.joined level component v laid) Hardly
      (λ k i is h.
      let less = reach.part_below l v.parts count (whole.plans level component v laid) (whole.orders level component v laid) (whole.layers level component v laid) (whole.own level component v laid) v.certificate.reversed component laid.limit (record { at = v.at; extent = v.extent }) (whole_drawing v)
      (whole.are_drawn level component v laid) (whole.in_rows level component v laid apart.above) (whole.joined level component v laid) k i is h in
      let ready = (whole.are_drawn level component v laid).ready k less in
      let drawn = ((whole.are_drawn level component v laid).drawing k less).from_plan (whole.orders level component v laid k) ready in
      let inside = parts.in_part l v.parts (point_at v.at) (whole.own level component v laid) (whole_drawing v) laid.sound laid.numbered (whole.joined level component v laid) k i h in
      let at = sym (parts.outline_at l v.parts (point_at v.at) (whole.own level component v laid) (whole_drawing v) laid.sound laid.numbered (whole.joined level component v laid) k i h) in
      let child = child_is l v.parts k laid.sound laid.numbered i h in
      let start : i ≡ 0 + i = omega arith in
      let w = wide_at (part_level l v.parts k) (whole.plans level component v laid k) (whole.orders level component v laid k) (whole.layers level component v laid k) (whole.own level component v laid k) ready drawn (part_short k) i i start inside in
      let t = high_at (part_level l v.parts k) (whole.plans level component v laid k) (whole.orders level component v laid k) (whole.layers level component v laid k) (whole.own level component v laid k) ready drawn (part_short k) i i start inside in (
        subst₂ (λ (a : ℤ) (c : Child). a ≤ℤ (c.size.width +ℤ pos (2 ^ 23))) (ap (λ (r : Rect). r.width) at) child w,
        subst₂ (λ (a : ℤ) (c : Child). a ≤ℤ (c.size.height +ℤ pos (2 ^ 23))) (ap (λ (r : Rect). r.height) at) child t,
      ))

  widths_most : outline_widths l (whole_drawing v) ≤ℤ (over wide l.children +ℤ pos (length l.children * 2 ^ 23))
  widths_most =
      sum_most (λ (r : Rect). r.width) (drawn_outline l (whole_drawing v)) wide l.children 0 no_child
      (λ m i e h. let same : i ≡ m = omega (arith, e) in subst (λ j. (drawn_outline l (whole_drawing v) j).width ≤ℤ ((child_at l i).size.width +ℤ pos (2 ^ 23))) same (hardly i h).0)

  heights_most : outline_heights l (whole_drawing v) ≤ℤ (over high l.children +ℤ pos (length l.children * 2 ^ 23))
  heights_most =
      sum_most (λ (r : Rect). r.height) (drawn_outline l (whole_drawing v)) high l.children 0 no_child
      (λ m i e h. let same : i ≡ m = omega (arith, e) in subst (λ j. (drawn_outline l (whole_drawing v) j).height ≤ℤ ((child_at l i).size.height +ℤ pos (2 ^ 23))) same (hardly i h).1)

  pub parts_most : (v.extent.width +ℤ v.extent.height) ≤ℤ ((over wide l.children +ℤ over high l.children) +ℤ pos (room (length l.children) (length l.edges)))
  parts_most =
      let bounded = parts_are_bounded level component v apart laid in
      sides v.extent.width v.extent.height (outline_widths l (whole_drawing v)) (outline_heights l (whole_drawing v)) (over wide l.children) (over high l.children) (length l.children) (length l.edges) (length l.children * length l.edges)
      bounded.width bounded.height widths_most heights_most
    where
      sides : (w h a b x y : ℤ) (c e n : ℕ) → w ≤ℤ (a +ℤ pos (2 ^ 22 * (3 * c + e + n + 1))) → h ≤ℤ (b +ℤ pos (2 ^ 22 * (3 * c + e + n + 1))) → a ≤ℤ (x +ℤ pos (c * 2 ^ 23)) → b ≤ℤ (y +ℤ pos (c * 2 ^ 23))
          → (w +ℤ h) ≤ℤ ((x +ℤ y) +ℤ pos (c * 2 ^ 25 + 2 ^ 23 * (c + e + n + 1)))
      sides w h a b x y c e n p q r s = omega (arith, ints, p, q, r, s)
