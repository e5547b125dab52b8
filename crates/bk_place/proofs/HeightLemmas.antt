-- The greatest end of a list of lines, and lines of one sweep.
use Rattle.std.proofs.Common.{◌≡◌, ℕ, suc, ◌+◌, ◌<◌, ◌≤◌, ◌^◌, ℤ, pos, ◌+ℤ◌, ◌≤ℤ◌, ◌<ℤ◌, List, [], ◌∷◌, length, get_or, drop, arith, refl, sym, ◌∙◌, ap, subst, inl, inr}
use Rattle.std.proofs.lemmas.Int.{ints, clamps}
use Rattle.std.proofs.lemmas.Bool.{cases_lt}
use Rattle.std.specs.Int.{int_max}
use Rattle.std.proofs.lemmas.List.{drop_more, drop_all}
use Rattle.drawing_types.specs.declared.sweep.Sweep.{Sweep}
use Rattle.drawing_types.specs.declared.sweep.Sweep.TheVariants.{LeftUp, LeftDown, RightUp, RightDown}
use Rattle.elk_layers.specs.declared.units.Unit.{Unit as LayerUnit}
use Rattle.elk_layers.specs.Layered.{Plain, IsSound, unit_at}
use Rattle.elk_layers.specs.Lines.{top_of, extent, extent_from, AreLeastLines, AreLines}
use Rattle.elk_layers.specs.Alignment.{aligned}
use Rattle.unit_blocks.specs.Constraints.{EndsWithinStack, AreLeast, greatest_spacing}
use Rattle.unit_blocks.proofs.SumLemmas.{stacked_bound}
use Rattle.bk_place.specs.Placement.{rank_of, IsFirstAmong, IsFirstLowest}

pub extent_from_zero : (units : List LayerUnit) (tops : List ℤ) → pos 0 ≤ℤ extent_from units tops
extent_from_zero [] tops = omega (arith, ints)
extent_from_zero (u ∷ units) [] = omega (arith, ints)
extent_from_zero (u ∷ units) (t ∷ tops) = let h = extent_from_zero units tops in omega (arith, ints, clamps, h)

-- the greatest so far, and what is still to come
pub extent_start : (units : List LayerUnit) (tops : List ℤ) → int_max (pos 0) (extent_from units tops) ≡ extent_from units tops
extent_start units tops = let h = extent_from_zero units tops in omega (arith, ints, clamps, h)

max_on : (a b c : ℤ) → int_max (int_max a b) c ≡ int_max a (int_max b c)
max_on a b c = omega (arith, ints, clamps)

pub extent_next : (units : List LayerUnit) (tops : List ℤ) (i : ℕ) (now next : ℤ) (d : LayerUnit) → i < length units → length tops ≡ length units → next ≡ int_max now (top_of tops i +ℤ (get_or units i d).height)
    → int_max now (extent_from (drop i units) (drop i tops)) ≡ extent_from units tops → int_max next (extent_from (drop (i + 1) units) (drop (i + 1) tops)) ≡ extent_from units tops
extent_next units tops i now next d h long e so =
    let u : drop i units ≡ get_or units i d ∷ drop (i + 1) units = drop_more units i d h in
    let t : drop i tops ≡ top_of tops i ∷ drop (i + 1) tops = drop_more tops i (pos 0) (omega (arith, h, long)) in
    let cut : int_max now (extent_from (drop i units) (drop i tops)) ≡ int_max now (int_max (top_of tops i +ℤ (get_or units i d).height) (extent_from (drop (i + 1) units) (drop (i + 1) tops))) =
    ap (λ xs. int_max now (extent_from xs (drop i tops))) u ∙ ap (λ ys. int_max now (extent_from (get_or units i d ∷ drop (i + 1) units) ys)) t in
    ap (λ z. int_max z (extent_from (drop (i + 1) units) (drop (i + 1) tops))) e
    ∙ max_on now (top_of tops i +ℤ (get_or units i d).height) (extent_from (drop (i + 1) units) (drop (i + 1) tops))
    ∙ sym cut ∙ so

pub extent_end : (units : List LayerUnit) (tops : List ℤ) (i : ℕ) (now : ℤ) → length units ≤ i → pos 0 ≤ℤ now → int_max now (extent_from (drop i units) (drop i tops)) ≡ extent_from units tops → now ≡ extent_from units tops
extent_end units tops i now h low so =
    let none : int_max now (extent_from (drop i units) (drop i tops)) ≡ int_max now (pos 0) = ap (λ xs. int_max now (extent_from xs (drop i tops))) (drop_all i units h) in
    omega (arith, ints, clamps, low, so, none)

-- a greater height of two that lie below a bound
pub greater_step : (a b : ℤ) → pos 0 ≤ℤ a → a ≤ℤ pos (2 ^ 60) → b ≤ℤ pos (2 ^ 60) → (pos 0 ≤ℤ int_max a b) × (int_max a b ≤ℤ pos (2 ^ 60))
greater_step a b low high other = (omega (arith, ints, clamps, low), omega (arith, ints, clamps, high, other))

-- lines of one height at each unit have one extent
same_extent : (units : List LayerUnit) (a b : List ℤ) → length a ≡ length units → length b ≡ length units → ((u : ℕ) → u < length units → top_of a u ≡ top_of b u) → extent_from units a ≡ extent_from units b
same_extent [] a b la lb h = refl
same_extent (u ∷ units) [] b la lb h = absurd (omega (arith, la))
same_extent (u ∷ units) (x ∷ a) [] la lb h = absurd (omega (arith, lb))
same_extent (u ∷ units) (x ∷ a) (y ∷ b) la lb h =
    let first : x ≡ y = h 0 (omega arith) in
    let rest = same_extent units a b (omega (arith, la)) (omega (arith, lb)) (λ v k. h (suc v) (omega (arith, k))) in
    ap (λ z. int_max (z +ℤ u.height) (extent_from units a)) first ∙ ap (λ z. int_max (y +ℤ u.height) z) rest

-- the least lines of a sweep have one height
pub one_extent : (l : Plain) (rows : List (List ℕ)) (sweep : Sweep) (a b : List ℤ) → AreLeastLines l rows sweep a → AreLeastLines l rows sweep b → extent l a ≡ extent l b
one_extent l rows sweep a b la lb =
    same_extent l.units a b la.are_lines.apart.as_many lb.are_lines.apart.as_many
    (λ u h. let p = la.least b lb.are_lines u h in let q = lb.least a la.are_lines u h in omega (arith, ints, p, q))

rank_one : (s t : Sweep) → rank_of s ≤ rank_of t → rank_of t < rank_of s + 1 → t ≡ s
rank_one LeftUp LeftUp a b = refl
rank_one LeftDown LeftDown a b = refl
rank_one RightUp RightUp a b = refl
rank_one RightDown RightDown a b = refl
rank_one LeftUp LeftDown a b = absurd (omega (arith, b))
rank_one LeftUp RightUp a b = absurd (omega (arith, b))
rank_one LeftUp RightDown a b = absurd (omega (arith, b))
rank_one LeftDown LeftUp a b = absurd (omega (arith, a))
rank_one LeftDown RightUp a b = absurd (omega (arith, b))
rank_one LeftDown RightDown a b = absurd (omega (arith, b))
rank_one RightUp LeftUp a b = absurd (omega (arith, a))
rank_one RightUp LeftDown a b = absurd (omega (arith, a))
rank_one RightUp RightDown a b = absurd (omega (arith, b))
rank_one RightDown LeftUp a b = absurd (omega (arith, a))
rank_one RightDown LeftDown a b = absurd (omega (arith, a))
rank_one RightDown RightUp a b = absurd (omega (arith, a))

-- a sweep is the first among itself
pub first_alone : (l : Plain) (rows : List (List ℕ)) (sweep : Sweep) (tops : List ℤ) (height : ℤ) → AreLeastLines l rows sweep tops → EndsWithinStack l tops → height ≡ extent l tops → IsFirstAmong l rows (rank_of sweep) (rank_of sweep + 1) tops height
first_alone l rows sweep tops height least within e =
    record {
      sweep = sweep;
      low = omega arith;
      high = omega arith;
      are_least = least;
      within = within;
      height_is = e;
      lowest = λ other others a b least'.
          let is : other ≡ sweep = rank_one sweep other a b in
          let same = one_extent l rows sweep tops others least (subst (λ s. AreLeastLines l rows s others) is least') in
          omega (arith, ints, e, same);
      earliest = λ other others a least' b. absurd (omega (arith, a, b));
    }

-- the first among some sweeps and the first among those after them: the latter where it is lower
pub first_of_both : (l : Plain) (rows : List (List ℕ)) (a b c : ℕ) (s t : List ℤ) (h k : ℤ) → IsFirstAmong l rows a b s h → IsFirstAmong l rows b c t k → k <ℤ h → IsFirstAmong l rows a c t k
first_of_both l rows a b c s t h k p q less =
    record {
      sweep = q.sweep;
      low = let u = p.low in let v = p.high in let w = q.low in omega (arith, u, v, w);
      high = q.high;
      are_least = q.are_least;
      within = q.within;
      height_is = q.height_is;
      lowest = λ other others low high least. elim (cases_lt (rank_of other) b) [
        | inl x ↦ let r = p.lowest other others low x least in omega (arith, ints, r, less)
        | inr x ↦ q.lowest other others x high least
      ];
      earliest = λ other others low least before. elim (cases_lt (rank_of other) b) [
        | inl x ↦ let r = p.lowest other others low x least in omega (arith, ints, r, less)
        | inr x ↦ q.earliest other others x least before
      ];
    }

pub first_stays : (l : Plain) (rows : List (List ℕ)) (a b c : ℕ) (s t : List ℤ) (h k : ℤ) → IsFirstAmong l rows a b s h → IsFirstAmong l rows b c t k → h ≤ℤ k → IsFirstAmong l rows a c s h
first_stays l rows a b c s t h k p q le =
    record {
      sweep = p.sweep;
      low = p.low;
      high = let u = p.high in let v = q.low in let w = q.high in omega (arith, u, v, w);
      are_least = p.are_least;
      within = p.within;
      height_is = p.height_is;
      lowest = λ other others low high least. elim (cases_lt (rank_of other) b) [
        | inl x ↦ p.lowest other others low x least
        | inr x ↦ let r = q.lowest other others x high least in omega (arith, ints, r, le)
      ];
      earliest = p.earliest;
    }

rank_small : (s : Sweep) → rank_of s < 4
rank_small LeftUp = omega arith
rank_small LeftDown = omega arith
rank_small RightUp = omega arith
rank_small RightDown = omega arith

pub first_of_all : (l : Plain) (rows : List (List ℕ)) (tops : List ℤ) (height : ℤ) → IsFirstAmong l rows 0 4 tops height → IsFirstLowest l rows tops
first_of_all l rows tops height p =
    record {
      sweep = p.sweep;
      are_least = p.are_least;
      lowest = λ other others least. let e = p.height_is in let r = p.lowest other others (omega arith) (rank_small other) least in omega (arith, ints, e, r);
      earliest = λ other others least before. let e = p.height_is in let r = p.earliest other others (omega arith) least before in omega (arith, ints, e, r);
    }

-- all ends lie below 2 ^ 60
pub ends_small : (l : Plain) (tops : List ℤ) → IsSound l → EndsWithinStack l tops → (u : ℕ) → u < length l.units → (top_of tops u +ℤ (unit_at l.units u).height) ≤ℤ pos (2 ^ 60)
ends_small l tops sound within u h =
    let e = within u h in
    let a = sound.node_node_is.high in
    let b = sound.edge_node_is.high in
    let c = sound.edge_edge_is.high in
    let g : greatest_spacing l ≤ℤ pos (2 ^ 20) = omega (arith, ints, clamps, a, b, c) in
    let s = stacked_bound (greatest_spacing l) l.units g in
    let t = sound.together in
    let n = sound.few_units in
    omega (arith, ints, e, s, t, n)

pub least_from : (l : Plain) (rows : List (List ℕ)) (sweep : Sweep) (chosen : List ℕ) (tops : List ℤ) → chosen ≡ aligned l rows sweep → AreLeast l rows chosen tops → AreLeastLines l rows sweep tops
least_from l rows sweep chosen tops e least =
    record {
      are_lines = subst (λ xs. AreLines l rows xs tops) e least.are_lines;
      least = λ other lines. least.least other (subst (λ xs. AreLines l rows xs other) (sym e) lines);
    }
