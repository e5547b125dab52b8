-- How large a level is that is laid out part by part.
use Rattle.std.proofs.Common.{◌≡◌, ℕ, zero, suc, ◌+◌, ◌*◌, ◌<◌, ◌≤◌, ◌==◌, ◌^◌, cond, Bool, List, [], ◌∷◌, length, get_or, map, slice_index, ℤ, pos, ◌+ℤ◌, ◌≤ℤ◌, inl, inr, ⊎_elim, refl, sym, ap, ◌∙◌, subst, subst₂, arith}
use Rattle.std.specs.List.{filter, range_with_len}
use Rattle.std.proofs.lemmas.Bool.{cases_Bool, cases_lt}
use Rattle.std.proofs.lemmas.Int.{ints}
use Rattle.std.proofs.lemmas.List.{length-map}
use Rattle.std.proofs.lemmas.List.FromFn.{fill_by_all, length-range_with_len}
use Rattle.std.proofs.Math.Nat.{mul-le-mul_left}
use Rattle.drawing_types.specs.declared.shape.Point.{Point}
use Rattle.drawing_types.specs.declared.shape.Rect.{Rect}
use Rattle.drawing_types.specs.declared.shape.Size.{Size}
use Rattle.drawing_types.specs.Shapes.{Holds}
use Rattle.elk_doc.specs.Sound.{IsDistance}
use Rattle.box_pack.specs.Boxes.{EachSize, IsSize, point_at}
use Rattle.box_pack.specs.Spaced.{AreSpaced, gapped, height_at, width_at}
use Rattle.rotated_levels.proofs.PartLemmas.{outline_at}
use Rattle.rotated_levels.proofs.JoinedReachLemmas as reach
use Rattle.rotated_levels.specs.Extents.{IsBounded, outline_heights, outline_widths, room_between}
use Rattle.rotated_levels.proofs.Sums.{first_le, over, over_same, part, parts_within}
use Rattle.level_draw.specs.declared.drawing.LevelOut.{LevelOut}
use Rattle.layer_units.proofs.TotalLemmas.{first}
use Rattle.level_model.specs.declared.level.LevelIn.{LevelIn}
use Rattle.level_model.specs.Conditions.{plain_level, sum_of_ints}
use Rattle.level_model.specs.FromPlan.{LevelDrawing}
use Rattle.level_model.specs.Level.{PlainLevel}
use Rattle.level_model.specs.Apart.{drawn_box, drawn_outline}
use Rattle.level_model.proofs.Lists.{Has, below_has}
use Rattle.network_parts.proofs.RangeLemmas.{few_picked}
use Rattle.level_parts.specs.Divided.{child_number, edge_keys, members, part_level}
use Rattle.level_parts.specs.Split.{part_in}
use Rattle.level_parts.proofs.LevelLemmas.{many_children, many_edges, many_keys}
use Rattle.rotated_levels.specs.Outlines.{shifted}
use Rattle.level_split.specs.declared.layout.PartsOut.{PartsOut}
use Rattle.level_split.specs.Gathered.{extents_of}
use Rattle.level_split.specs.Laws.{PartsAreBounded, room_apart}
use Rattle.level_split.specs.Parts.{IsPartsLayout, whole_drawing}
use Rattle.level_split.proofs.OutLemmas.{extent_is, pick}
use Rattle.level_split.proofs.RowLemmas.{high_most, part_size, sum_is, wide_most}
use Rattle.level_split.proofs.WholeLemmas as whole

-- ---- sums

over_map : (w : ℕ → ℤ) (f : ℕ → ℕ) (xs : List ℕ) → over w (map f xs) ≡ over (λ x. w (f x)) xs
over_map w f [] = refl
over_map w f (x ∷ xs) = ap (λ z. w (f x) +ℤ z) (over_map w f xs)

over_filter : (w : ℕ → ℤ) (t : ℕ → Bool) (xs : List ℕ) → over w (filter t xs) ≡ over (λ x. cond (t x) (w x) (pos 0)) xs
over_filter w t [] = refl
over_filter w t (x ∷ xs) =
    let rest = over_filter w t xs in
    ⊎_elim (λ p. rw p (omega (arith, ints, rest))) (λ q. rw q (omega (arith, ints, rest))) (cases_Bool (t x))

over_ones : (m : ℕ) (xs : List ℕ) → over (λ _. pos m) xs ≡ pos (length xs * m)
over_ones m [] = omega (arith, ints)
over_ones m (x ∷ xs) = let rest = over_ones m xs in omega (arith, ints, rest)

over_add : (w : ℕ → ℤ) (m : ℕ) (xs : List ℕ) → over (λ x. w x +ℤ pos m) xs ≡ over w xs +ℤ pos (length xs * m)
over_add w m [] = omega (arith, ints)
over_add w m (x ∷ xs) = let rest = over_add w m xs in omega (arith, ints, rest)

gapped_first : (gap : ℤ) (value : ℕ → ℤ) (n : ℕ) → gapped gap value n ≡ first (λ k. value k +ℤ gap) n
unfolding gapped
gapped_first gap value zero = refl
gapped_first gap value (suc n) = ap (λ z. z +ℤ (value n +ℤ gap)) (gapped_first gap value n)

first_sum : (a b : ℕ → ℤ) (m n : ℕ) → first (λ k. (a k +ℤ b k) +ℤ pos m) n ≡ (first a n +ℤ first b n) +ℤ pos (n * m)
first_sum a b m zero = omega (arith, ints)
first_sum a b m (suc n) = let rest = first_sum a b m n in omega (arith, ints, rest)

-- the members of a part by their numbers
over_members : (w : ℕ → ℤ) (keys : List ℕ) (k : ℕ) → over w (members keys k) ≡ part (slice_index keys) w (range_with_len 0 (length keys)) k
over_members w keys k = over_filter w (λ v. slice_index keys v == k) (range_with_len 0 (length keys))

listed_members : (keys : List ℕ) (k : ℕ) → members keys k ≡ map (λ i. slice_index (members keys k) i) (range_with_len 0 (length (members keys k)))
listed_members keys k = fill_by_all (λ i. slice_index (members keys k) i) (members keys k) (length (members keys k)) 0 refl (λ i h. refl)

module _ (level : LevelIn) (component : ℤ) (v : PartsOut) (apart : IsDistance component) (laid : IsPartsLayout level component v) where
  abbrev l : PlainLevel
  l = plain_level level

  abbrev count : ℕ
  count = length v.outs

  abbrev own : ℕ → LevelDrawing
  own k = whole.own level component v laid k

  abbrev keys : List ℕ
  keys = edge_keys l v.parts

  abbrev some : ℕ → ℕ
  some k = length (members v.parts k)

  abbrev many : ℕ → ℕ
  many k = length (members keys k)

  abbrev child_list : List ℕ
  child_list = range_with_len 0 (length v.parts)

  abbrev edge_list : List ℕ
  edge_list = range_with_len 0 (length keys)

  parts_long : length v.parts ≡ length l.children
  parts_long = laid.numbered.as_many

  keys_long : length keys ≡ length l.edges
  keys_long = many_keys l v.parts 0 laid.sound laid.numbered

  -- there are no more parts than children
  few_parts : count ≤ length l.children
  few_parts =
      elim (cases_lt 0 count) [
        | inl some_part ↦
            (let found = laid.counted.last some_part in
            let last = found.2 in
            let less = found.1 in
            let same = parts_long in
            let low = laid.numbered.below found.0 (omega (arith, less, same)) in
            omega (arith, last, low))
        | inr none ↦ omega (arith, none)
      ]

  spaced : AreSpaced (extents_of v.outs) component (record { at = v.at; extent = v.extent })
  spaced = whole.spaced level component v laid apart.above

  -- no part is too large
  sizes_small : EachSize (extents_of v.outs)
  sizes_small k h =
      let less : k < count = subst (λ n. k < n) (length-map v.outs (λ (x : LevelOut). x.extent)) h in
      subst IsSize (sym (extent_is v.outs k less)) (part_size (part_in level v.parts k) (get_or v.outs k (pick v.outs k less)) (laid.laid_out k (pick v.outs k less) less))

  few_sizes : length (extents_of v.outs) ≤ 2048
  few_sizes =
      let many = length-map v.outs (λ (x : LevelOut). x.extent) in
      let few = few_parts in
      let children = laid.sound.few_children in
      omega (arith, many, few, children)

  widest : (v.extent.width ≤ℤ pos (2 ^ 59)) × (v.extent.height ≤ℤ pos (2 ^ 59))
  widest = (
    wide_most (extents_of v.outs) component laid.limit (record { at = v.at; extent = v.extent }) few_sizes sizes_small apart laid.rows,
    high_most (extents_of v.outs) component laid.limit (record { at = v.at; extent = v.extent }) few_sizes sizes_small apart laid.rows,
  )

  least : (pos 0 ≤ℤ v.extent.width) × (pos 0 ≤ℤ v.extent.height)
  least =
      reach.extent_least l v.parts count (whole.plans level component v laid) (whole.orders level component v laid) (whole.layers level component v laid) own v.certificate.reversed component laid.limit (record { at = v.at; extent = v.extent }) (whole_drawing v)
      (whole.are_drawn level component v laid) (whole.in_rows level component v laid apart.above) (whole.joined level component v laid)

  -- ---- a part

  bounded : (k : ℕ) → k < count → IsBounded (part_level l v.parts k) (own k)
  bounded k h = whole.bounded_by level component v laid k (cases_lt k count) h

  -- the outlines of a part have the sizes that they have in the whole
  module _ (side : Rect → ℤ) (kept : (by : Point) (r : Rect) → side (shifted by r) ≡ side r) (solid : (c : ℕ) → c < length l.children → pos 0 ≤ℤ side (drawn_outline l (whole_drawing v) c)) where
    abbrev size_in : ℕ → ℤ
    size_in c = side (drawn_outline l (whole_drawing v) c)

    part_sum : (k : ℕ) → k < count
        → sum_of_ints (map side (map (drawn_outline (part_level l v.parts k) (own k)) (range_with_len 0 (length (part_level l v.parts k).children)))) ≡ part (slice_index v.parts) size_in child_list k
    part_sum k h =
        sum_is side (drawn_outline (part_level l v.parts k) (own k)) (range_with_len 0 (length (part_level l v.parts k).children))
        ∙ ap (λ n. over (λ i. side (drawn_outline (part_level l v.parts k) (own k) i)) (range_with_len 0 n)) (many_children l v.parts k laid.sound laid.numbered)
        ∙ over_same (λ i. side (drawn_outline (part_level l v.parts k) (own k) i)) (λ i. size_in (child_number v.parts k i)) (range_with_len 0 (some k))
        (λ i has. sym (ap side (outline_at l v.parts (point_at v.at) own (whole_drawing v) laid.sound laid.numbered (whole.joined level component v laid) k i (below_has (some k) i has)) ∙ kept (point_at v.at k) _))
        ∙ sym (over_map size_in (child_number v.parts k) (range_with_len 0 (some k)))
        ∙ ap (over size_in) (sym (listed_members v.parts k))
        ∙ over_members size_in v.parts k

    -- the room of a part is that of its children, of its edges, and one for itself
    abbrev child_room : ℕ → ℤ
    child_room c = size_in c +ℤ pos (2 ^ 22 * (1 + length l.edges))

    abbrev edge_room : ℕ → ℤ
    edge_room e = pos (2 ^ 22)

    few_many : (k : ℕ) → many k ≤ length l.edges
    few_many k = let all = few_picked (λ e. slice_index keys e == k) (length keys) in let same = keys_long in omega (arith, all, same)

    children_are : (k : ℕ) → part (slice_index v.parts) child_room child_list k ≡ part (slice_index v.parts) size_in child_list k +ℤ pos (some k * (2 ^ 22 * (1 + length l.edges)))
    children_are k =
        sym (over_members child_room v.parts k)
        ∙ over_add size_in (2 ^ 22 * (1 + length l.edges)) (members v.parts k)
        ∙ ap (λ z. z +ℤ pos (some k * (2 ^ 22 * (1 + length l.edges)))) (over_members size_in v.parts k)

    edges_are : (k : ℕ) → part (slice_index keys) edge_room edge_list k ≡ pos (many k * 2 ^ 22)
    edges_are k = sym (over_members edge_room keys k) ∙ over_ones (2 ^ 22) (members keys k)

    -- a part with its gap
    part_most : (k : ℕ) (z : ℤ) → k < count → z ≤ℤ (part (slice_index v.parts) size_in child_list k +ℤ pos (room_between (part_level l v.parts k)))
        → (z +ℤ component) ≤ℤ ((part (slice_index v.parts) child_room child_list k +ℤ part (slice_index keys) edge_room edge_list k) +ℤ pos (2 ^ 22 + 2 ^ 20))
    part_most k z h low =
        let few = few_many k in
        let pairs = mul-le-mul_left (some k) few in
        let children = children_are k in
        let edges = edges_are k in
        let first_count = many_children l v.parts k laid.sound laid.numbered in
        let second_count = many_edges l v.parts k laid.sound laid.numbered in
        let gap = apart.below in
        sums z component _ _ _ (length (part_level l v.parts k).children) (length (part_level l v.parts k).edges) (some k) (many k) (some k * many k) (some k * length l.edges) low gap first_count second_count pairs children edges
      where
        split : (s e : ℕ) → s * (2 ^ 22 * (1 + e)) ≡ 2 ^ 22 * s + 2 ^ 22 * (s * e)
        split s e = omega arith

        last : (z g a b c : ℤ) (s m sm se : ℕ) → z ≤ℤ (a +ℤ pos (2 ^ 22 * (s + m + sm + 1))) → g ≤ℤ pos (2 ^ 20) → sm ≤ se → b ≡ a +ℤ pos (2 ^ 22 * s + 2 ^ 22 * se) → c ≡ pos (m * 2 ^ 22)
            → (z +ℤ g) ≤ℤ ((b +ℤ c) +ℤ pos (2 ^ 22 + 2 ^ 20))
        last z g a b c s m sm se h1 h2 h3 h4 h5 = omega (arith, ints, h1, h2, h3, h4, h5)

        sums : (z g a b c : ℤ) (x y s m sm se : ℕ) → z ≤ℤ (a +ℤ pos (2 ^ 22 * (x + y + x * y + 1))) → g ≤ℤ pos (2 ^ 20) → x ≡ s → y ≡ m → s * m ≤ s * length l.edges
            → b ≡ a +ℤ pos (s * (2 ^ 22 * (1 + length l.edges))) → c ≡ pos (m * 2 ^ 22) → (z +ℤ g) ≤ℤ ((b +ℤ c) +ℤ pos (2 ^ 22 + 2 ^ 20))
        sums z g a b c x y s m sm se low gap e f pairs p q = last z g a b c s m (s * m) (s * length l.edges) (subst (λ n. z ≤ℤ (a +ℤ pos (2 ^ 22 * (n + m + n * m + 1)))) e (subst (λ n. z ≤ℤ (a +ℤ pos (2 ^ 22 * (x + n + x * n + 1)))) f low)) gap pairs
            (p ∙ ap (λ n. a +ℤ pos n) (split s (length l.edges))) q

    -- all parts with their gaps
    all_most : (value : ℕ → ℤ) → ((k : ℕ) → k < count → value k ≤ℤ (part (slice_index v.parts) size_in child_list k +ℤ pos (room_between (part_level l v.parts k))))
        → gapped component value count ≤ℤ (over size_in (range_with_len 0 (length l.children)) +ℤ pos (room_apart l))
    all_most value each =
        let few = few_parts in
        let parts = subst (λ n. over child_room (range_with_len 0 n) ≡ over size_in (range_with_len 0 n) +ℤ pos (length (range_with_len 0 n) * (2 ^ 22 * (1 + length l.edges)))) parts_long
        (child_rooms child_list) in
        let edge_sum = subst (λ n. over edge_room (range_with_len 0 n) ≡ pos (length (range_with_len 0 n) * 2 ^ 22)) keys_long (edge_rooms edge_list) in
        let rows = gapped_first component value count in
        let most = first_le (λ k. value k +ℤ component) (λ k. (part (slice_index v.parts) child_room child_list k +ℤ part (slice_index keys) edge_room edge_list k) +ℤ pos (2 ^ 22 + 2 ^ 20)) count
        (λ k h. part_most k (value k) h (each k h)) in
        let sum = first_sum (part (slice_index v.parts) child_room child_list) (part (slice_index keys) edge_room edge_list) (2 ^ 22 + 2 ^ 20) count in
        let low = subst (λ n. first (part (slice_index v.parts) child_room child_list) count ≤ℤ over child_room (range_with_len 0 n)) parts_long (parts_within (slice_index v.parts) child_room child_list count child_least) in
        let edge_low = subst (λ n. first (part (slice_index keys) edge_room edge_list) count ≤ℤ over edge_room (range_with_len 0 n)) keys_long (parts_within (slice_index keys) edge_room edge_list count edge_least) in
        sums _ _ _ _ _ _ _ _ count (length l.children) (length l.edges) (length (range_with_len 0 (length l.children))) (length (range_with_len 0 (length l.edges)))
        rows most sum low edge_low parts edge_sum few (length-range_with_len 0 (length l.children)) (length-range_with_len 0 (length l.edges))
      where
        child_rooms : (xs : List ℕ) → over child_room xs ≡ over size_in xs +ℤ pos (length xs * (2 ^ 22 * (1 + length l.edges)))
        child_rooms xs = over_add size_in (2 ^ 22 * (1 + length l.edges)) xs

        edge_rooms : (xs : List ℕ) → over edge_room xs ≡ pos (length xs * 2 ^ 22)
        edge_rooms xs = over_ones (2 ^ 22) xs

        child_least : (c : ℕ) → Has child_list c → pos 0 ≤ℤ child_room c
        child_least c has = let low = solid c (subst (λ n. c < n) parts_long (below_has (length v.parts) c has)) in omega (arith, ints, low)

        edge_least : (e : ℕ) → Has edge_list e → pos 0 ≤ℤ edge_room e
        edge_least e has = omega (arith, ints)

        joined : (g f s a b x y o : ℤ) (n ne k : ℕ) → g ≡ f → f ≤ℤ s → s ≡ (a +ℤ b) +ℤ pos (n * (2 ^ 22 + 2 ^ 20)) → a ≤ℤ x → b ≤ℤ y → x ≡ o +ℤ pos k → y ≡ pos (ne * 2 ^ 22) → g ≤ℤ (o +ℤ pos (k + ne * 2 ^ 22 + n * (2 ^ 22 + 2 ^ 20)))
        joined g f s a b x y o n ne k h1 h2 h3 h4 h5 h6 h7 = omega (arith, ints, h1, h2, h3, h4, h5, h6, h7)

        split : (c e : ℕ) → c * (2 ^ 22 * (1 + e)) ≡ 2 ^ 22 * c + 2 ^ 22 * (c * e)
        split c e = omega arith

        last : (g o : ℤ) (n c e ce ne k : ℕ) → g ≤ℤ (o +ℤ pos (k + ne * 2 ^ 22 + n * (2 ^ 22 + 2 ^ 20))) → n ≤ c → ne ≡ e → k ≡ 2 ^ 22 * c + 2 ^ 22 * ce → g ≤ℤ (o +ℤ pos (2 ^ 22 * (3 * c + e + ce + 1)))
        last g o n c e ce ne k h1 h2 h3 h4 = omega (arith, ints, h1, h2, h3, h4)

        sums : (g f s a b x y o : ℤ) (n c e nc ne : ℕ) → g ≡ f → f ≤ℤ s → s ≡ (a +ℤ b) +ℤ pos (n * (2 ^ 22 + 2 ^ 20)) → a ≤ℤ x → b ≤ℤ y → x ≡ o +ℤ pos (nc * (2 ^ 22 * (1 + e))) → y ≡ pos (ne * 2 ^ 22) → n ≤ c → nc ≡ c → ne ≡ e
            → g ≤ℤ (o +ℤ pos (2 ^ 22 * (3 * c + e + c * e + 1)))
        sums g f s a b x y o n c e nc ne h1 h2 h3 h4 h5 h6 h7 h8 h9 h10 =
            last g o n c e (c * e) ne (c * (2 ^ 22 * (1 + e)))
            (joined g f s a b x y o n ne (c * (2 ^ 22 * (1 + e))) h1 h2 h3 h4 h5 (h6 ∙ ap (λ m. o +ℤ pos (m * (2 ^ 22 * (1 + e)))) h9) h7)
            h8 h10 (split c e)

  -- ---- the two sides

  solid_box : (c : ℕ) → c < length l.children → Holds (drawn_outline l (whole_drawing v) c) (drawn_box l (whole_drawing v) c)
  solid_box c h = reach.box_held l (whole_drawing v) c _

  wide_least : (c : ℕ) → c < length l.children → pos 0 ≤ℤ (drawn_outline l (whole_drawing v) c).width
  wide_least c h =
      let held = solid_box c h in
      let a = held.left in
      let b = held.right in
      let own_least = (laid.sound.children c h).sound.size.width.above in
      omega (arith, ints, a, b, own_least)

  high_least : (c : ℕ) → c < length l.children → pos 0 ≤ℤ (drawn_outline l (whole_drawing v) c).height
  high_least c h =
      let held = solid_box c h in
      let a = held.top in
      let b = held.bottom in
      let own_least = (laid.sound.children c h).sound.size.height.above in
      omega (arith, ints, a, b, own_least)

  sizes_count : length (extents_of v.outs) ≡ count
  sizes_count = length-map v.outs (λ (x : LevelOut). x.extent)

  wide : Rect → ℤ
  wide r = r.width

  high : Rect → ℤ
  high r = r.height

  width_bounded : v.extent.width ≤ℤ (outline_widths l (whole_drawing v) +ℤ pos (room_apart l))
  unfolding wide
  width_bounded =
      let rows = subst (λ n. v.extent.width ≤ℤ gapped component (width_at (extents_of v.outs)) n) sizes_count spaced.width in
      let most = all_most wide (λ by r. refl) wide_least (width_at (extents_of v.outs))
      (λ k h. subst₂ (λ a b. a ≤ℤ (b +ℤ pos (room_between (part_level l v.parts k)))) (ap (λ (s : Size). s.width) (sym (whole.same_extent level component v laid k (cases_lt k count) h))) (part_sum wide (λ by r. refl) wide_least k h) (bounded k h).width)
      in
      let sum = sum_is wide (drawn_outline l (whole_drawing v)) (range_with_len 0 (length l.children)) in
      joined _ _ _ _ (room_apart l) rows most sum
    where
      joined : (w g o z : ℤ) (r : ℕ) → w ≤ℤ g → g ≤ℤ (o +ℤ pos r) → z ≡ o → w ≤ℤ (z +ℤ pos r)
      joined w g o z r a b c = omega (arith, ints, a, b, c)

  height_bounded : v.extent.height ≤ℤ (outline_heights l (whole_drawing v) +ℤ pos (room_apart l))
  unfolding high
  height_bounded =
      let rows = subst (λ n. v.extent.height ≤ℤ gapped component (height_at (extents_of v.outs)) n) sizes_count spaced.height in
      let most = all_most high (λ by r. refl) high_least (height_at (extents_of v.outs))
      (λ k h. subst₂ (λ a b. a ≤ℤ (b +ℤ pos (room_between (part_level l v.parts k)))) (ap (λ (s : Size). s.height) (sym (whole.same_extent level component v laid k (cases_lt k count) h))) (part_sum high (λ by r. refl) high_least k h) (bounded k h).height)
      in
      let sum = sum_is high (drawn_outline l (whole_drawing v)) (range_with_len 0 (length l.children)) in
      joined _ _ _ _ (room_apart l) rows most sum
    where
      joined : (w g o z : ℤ) (r : ℕ) → w ≤ℤ g → g ≤ℤ (o +ℤ pos r) → z ≡ o → w ≤ℤ (z +ℤ pos r)
      joined w g o z r a b c = omega (arith, ints, a, b, c)

pub parts_are_bounded : PartsAreBounded
parts_are_bounded level component v apart laid =
    record {
      wide = record { above = (least level component v apart laid).0; below = (widest level component v apart laid).0 };
      high = record { above = (least level component v apart laid).1; below = (widest level component v apart laid).1 };
      width = width_bounded level component v apart laid;
      height = height_bounded level component v apart laid;
    }
