-- The steps of a placement put together: names, offsets, floors and bounds make a question about blocks.
use Rattle.std.proofs.Common.{◌≡◌, ℕ, suc, ◌+◌, ◌*◌, ◌<◌, ◌≤◌, ◌^◌, ℤ, pos, ◌+ℤ◌, ◌≤ℤ◌, List, [], ◌∷◌, ◌++◌, length, get_or, arith, refl, sym, ◌∙◌, ap, subst, inl, inr, Option, Some, None, Bool, length-append}
use Rattle.std.proofs.lemmas.Int.{ints}
use Rattle.std.proofs.lemmas.Bool.{cases_lt, cases_Bool}
use Rattle.std.specs.List.{All, filter, concat}
use Rattle.std.proofs.lemmas.List.{get_or_past}
use Rattle.std.proofs.lemmas.List.Elements.{All-get_or, All-from_get_or}
use Rattle.elk_layers.specs.Layered.{Plain, IsSound, AreRows, layer_of, link_at, row_at, is_child, place_in}
use Rattle.elk_layers.specs.Lines.{room, body_room}
use Rattle.separation.specs.declared.bounds.Bound.{Bound}
use Rattle.separation.specs.Lines.{value_at, Settled, IsSolvable}
use Rattle.elk_layers.specs.Occurring.{occurs}
use Rattle.elk_layers.specs.Straight.{chosen_link, AreStraight}
use Rattle.elk_layers.proofs.OccursLemmas.{occurs_at, occurs-append, length_below, no_repeat_from}
use Rattle.elk_layers.proofs.PlaceLemmas.{place_below, place_reads}
use Rattle.unit_blocks.specs.Blocks.{name_at, AreNames, IsBlockOrder, block_order}
use Rattle.unit_blocks.specs.Constraints.{block_at, offset_at, bounds_along, row_bounds, all_bounds, AreBlocks, AreOffsets, AreFloors, IsPosed, AreTops, AreLeast, EndsWithinStack, CanBePlaced}
use Rattle.unit_blocks.proofs.LeastLemmas.{least_lines_from}
use Rattle.unit_blocks.proofs.StackLemmas.{can_be_placed}
use Rattle.unit_blocks.specs.Entries.{AreLinksInto}
use Rattle.unit_blocks.specs.Joining.{name_for, offset_for, HaveHeads, AreAllJoined}
use Rattle.unit_blocks.specs.Phases.{AreSmall, AreFloorsSoFar, AreConstraints}
use Rattle.unit_blocks.proofs.HeightSums.{heights_small}
use Rattle.unit_blocks.specs.Chains.{CanWeaveRows}
use Rattle.unit_blocks.proofs.BlockLemmas.{name_low, block_order_is, in_order, blocks_from}
use Rattle.unit_blocks.proofs.EntryLemmas.{entries_from}
use Rattle.unit_blocks.proofs.JoinLemmas.{names_from, horizontal_from}

pub heads_of : (l : Plain) (rows : List (List ℕ)) (chosen : List ℕ) (into : List (Option ℕ)) → AreStraight l rows chosen → AreLinksInto l chosen (length chosen) into → HaveHeads l into
heads_of l rows chosen into straight are =
    record {
      as_many = are.as_many;
      known = λ u k e. let p = are.only u k e in subst (λ m. m < length l.links) p.2 (straight.known p.0 p.1);
      head_is = λ u k e. let p = are.only u k e in subst (λ m. (link_at l.links m).head ≡ u) p.2 p.3;
    }

pub offsets_small : (l : Plain) (into : List (Option ℕ)) (names : List ℕ) (offsets : List ℤ) → IsSound l → AreAllJoined l into names offsets → AreSmall offsets
offsets_small l into names offsets sound all u = elim (cases_lt u (length l.units)) [
  | inl h ↦
      let near = all.near u h in
      let low = near.low in
      let high = near.high in
      let small = heights_small l sound (layer_of l u) in
      let z = sound.heights u h in
      record { low = omega (arith, ints, low, small); high = omega (arith, ints, high, small, z) }
  | inr h ↦
      let is : offset_at offsets u ≡ pos 0 = get_or_past offsets u (pos 0) (let long = all.offsets_long in omega (arith, long, h)) in
      record { low = omega (arith, ints, is); high = omega (arith, ints, is) }
]

-- a unit that gives its block its name stands at offset 0
pub own_offset : (l : Plain) (rows : List (List ℕ)) (chosen : List ℕ) (into : List (Option ℕ)) (names : List ℕ) (offsets : List ℤ) → IsSound l → AreRows l rows → AreStraight l rows chosen → AreNames l chosen names
    → HaveHeads l into → AreAllJoined l into names offsets → (n : ℕ) → n < length l.units → name_at names n ≡ n → offset_at offsets n ≡ pos 0
own_offset l rows chosen into names offsets sound are straight named heads all n h own = by_entry (get_or into n None) refl
  where
    by_entry : (entry : Option ℕ) → get_or into n None ≡ entry → offset_at offsets n ≡ pos 0
    by_entry None e = (all.joined n h).offset_is ∙ ap (offset_for l offsets) e
    by_entry (Some k) e =
        let s = sound.links_are k (heads.known n k e) in
        let head : layer_of l (link_at l.links k).head ≡ layer_of l n = ap (layer_of l) (heads.head_is n k e) in
        let next = s.next_layer in
        let is : name_at names n ≡ name_at names (link_at l.links k).tail = (all.joined n h).name_is ∙ ap (λ o. name_for l names o n) e in
        let same : layer_of l n ≡ layer_of l (name_at names (link_at l.links k).tail) = ap (layer_of l) (sym own ∙ is) in
        let low = name_low l rows chosen names sound are straight named (layer_of l (link_at l.links k).tail) (link_at l.links k).tail s.tail refl in
        absurd (omega (arith, head, next, same, low))

pub offsets_from : (l : Plain) (rows : List (List ℕ)) (chosen : List ℕ) (into : List (Option ℕ)) (names roots : List ℕ) (offsets : List ℤ) → IsSound l → AreRows l rows → AreStraight l rows chosen → AreNames l chosen names
    → HaveHeads l into → AreAllJoined l into names offsets → IsBlockOrder l rows names roots
    → ((j : ℕ) → j < length chosen → offset_at offsets (chosen_link l chosen j).tail +ℤ (chosen_link l chosen j).tail_at ≡ offset_at offsets (chosen_link l chosen j).head +ℤ (chosen_link l chosen j).head_at)
    → AreOffsets l chosen roots offsets
offsets_from l rows chosen into names roots offsets sound are straight named heads all is horizontal =
    record {
      as_many = all.offsets_long;
      at_roots = λ b h.
          let own = is.own (get_or roots b 0) (occurs_at roots b h) in
          own_offset l rows chosen into names offsets sound are straight named heads all (get_or roots b 0) own.0 own.1;
      horizontal = horizontal;
    }

pub order_short : (l : Plain) (rows : List (List ℕ)) (names roots : List ℕ) → IsBlockOrder l rows names roots → length roots ≤ length l.units
order_short l rows names roots is = length_below (length l.units) roots is.no_repeat (λ m k. (is.own m k).0)

pub floors_from : (l : Plain) (rows : List (List ℕ)) (chosen blocks roots : List ℕ) (offsets floor : List ℤ) → AreBlocks l rows chosen blocks roots → AreOffsets l chosen roots offsets
    → AreFloorsSoFar blocks offsets (length roots) (length l.units) floor → AreFloors l blocks roots offsets floor
floors_from l rows chosen blocks roots offsets floor are off so =
    record {
      as_many = so.as_many;
      from_zero = so.from_zero;
      held = λ b h. elim (so.held b h) [
        | inl z ↦
            let o = off.at_roots b h in
            record { unit = get_or roots b 0; in_range = are.roots_in_range b h; in_block = are.of_roots b h; at_zero = omega (arith, ints, z, o) }
        | inr p ↦ record { unit = p.0; in_range = p.1; in_block = p.2; at_zero = p.3 }
      ];
    }

-- there are fewer bounds than twice the units

along_few : (d : ℕ → ℕ → ℤ) (blocks : List ℕ) (offsets : List ℤ) (units : List ℕ) → length (bounds_along d blocks offsets units) ≤ length units
along_few d blocks offsets [] = omega arith
along_few d blocks offsets (u ∷ []) = omega arith
along_few d blocks offsets (u ∷ v ∷ units) = let h = along_few d blocks offsets (v ∷ units) in omega (arith, h)

filter_few : (test : ℕ → Bool) (xs : List ℕ) → length (filter test xs) ≤ length xs
filter_few test [] = omega arith
filter_few test (x ∷ xs) = let h = filter_few test xs in elim (cases_Bool (test x)) [
  | inl t ↦ rw t (omega (arith, h))
  | inr f ↦ rw f (omega (arith, h))
]

bounds_few : (d e : ℕ → ℕ → ℤ) (test : ℕ → Bool) (blocks : List ℕ) (offsets : List ℤ) (row : List ℕ) → length (bounds_along d blocks offsets row ++ bounds_along e blocks offsets (filter test row)) ≤ 2 * length row
bounds_few d e test blocks offsets row =
    let a = along_few d blocks offsets row in
    let b = along_few e blocks offsets (filter test row) in
    let c = filter_few test row in
    let all = length-append (bounds_along d blocks offsets row) (bounds_along e blocks offsets (filter test row)) in
    omega (arith, a, b, c, all)

all_few : (l : Plain) (blocks : List ℕ) (offsets : List ℤ) (rows : List (List ℕ)) → length (all_bounds l blocks offsets rows) ≤ 2 * length (concat rows)
all_few l blocks offsets [] = omega arith
all_few l blocks offsets (row ∷ rows) =
    let here = bounds_few (room l) (body_room l) (is_child l) blocks offsets row in
    let rest = all_few l blocks offsets rows in
    let all = length-append (row_bounds l blocks offsets row) (all_bounds l blocks offsets rows) in
    let joined = length-append row (concat rows) in
    omega (arith, here, rest, all, joined)

module _ (l : Plain) (rows : List (List ℕ)) (are : AreRows l rows) where
  in_row : (g n : ℕ) → g < length rows → 1 ≤ occurs n (row_at rows g) → (n < length l.units) × (layer_of l n ≡ g)
  in_row g n h k =
      let within = place_below n (row_at rows g) k in
      let is = place_reads n (row_at rows g) k in (
        subst (λ m. m < length l.units) is (are.in_range g h (place_in (row_at rows g) n) within),
        subst (λ m. layer_of l m ≡ g) is (are.in_layer g h (place_in (row_at rows g) n) within),
      )

  abbrev StandsOnce : ℕ → List (List ℕ) → ℕ → Type 0
  StandsOnce g rest n = (occurs n (concat rest) ≤ 1) × (1 ≤ occurs n (concat rest) → (n < length l.units) × (g ≤ layer_of l n))

  joined_once : (rest : List (List ℕ)) (g : ℕ) → ((i : ℕ) → row_at rest i ≡ row_at rows (g + i)) → length rest + g ≡ length rows → (n : ℕ) → StandsOnce g rest n
  joined_once [] g are_rest long n = (omega arith, λ k. absurd (omega (arith, k)))
  joined_once (row ∷ rest) g are_rest long n =
      let h : g < length rows = omega (arith, long) in
      let row_is : row ≡ row_at rows g = are_rest 0 ∙ ap (row_at rows) (omega arith) in
      let more = joined_once rest (g + 1) (λ i. are_rest (suc i) ∙ ap (row_at rows) (omega arith)) (omega (arith, long)) n in
      let all = occurs-append n row (concat rest) in
      let few = no_repeat_from (row_at rows g) (are.once g h) n in
      let same : occurs n row ≡ occurs n (row_at rows g) = ap (occurs n) row_is in
      elim (cases_lt 0 (occurs n (row_at rows g))) [
        | inl some ↦
            let is = in_row g n h (omega (arith, some)) in
            elim (cases_lt 0 (occurs n (concat rest))) [
              | inl again ↦ let r = more.1 (omega (arith, again)) in let a = r.1 in let b = is.1 in absurd (omega (arith, a, b))
              | inr none ↦ (omega (arith, all, few, same, none), λ k. (is.0, (let b = is.1 in omega (arith, b))))
            ]
        | inr none ↦
            let one = more.0 in
            (omega (arith, all, same, none, one), λ k. let r = more.1 (omega (arith, all, same, none, k)) in (r.0, (let a = r.1 in omega (arith, a))))
      ]

  pub few_bounds : IsSound l → (blocks : List ℕ) (offsets : List ℤ) → length (all_bounds l blocks offsets rows) < 2 ^ 32
  few_bounds sound blocks offsets =
      let each = joined_once rows 0 (λ i. ap (row_at rows) (omega arith)) (omega arith) in
      let short = length_below (length l.units) (concat rows) (λ n. (each n).0) (λ n k. ((each n).1 k).0) in
      let few = all_few l blocks offsets rows in
      let units = sound.few_units in
      omega (arith, short, few, units)

pub values_bounded : (order : List ℕ) (floor values : List ℤ) (bounds : List Bound) (holds : List (Option ℕ)) → IsSolvable order floor bounds → Settled floor bounds values holds
    → (b : ℕ) → b < length floor → (pos 0 ≤ℤ (value_at values b +ℤ pos (2 ^ 61))) × (value_at values b ≤ℤ pos (2 ^ 61))
values_bounded order floor values bounds holds can settled b h =
    let low = settled.keeps.floors b h in
    let f = (can.floors b h).low in
    let high = settled.least can.can_keep.values can.can_keep.kept b h in
    let small = can.can_keep.small b h in
    (omega (arith, ints, low, f), omega (arith, ints, high, small))

pub posed_from : (l : Plain) (rows : List (List ℕ)) (chosen blocks roots order : List ℕ) (offsets floor : List ℤ) (bounds : List Bound) → AreBlocks l rows chosen blocks roots → AreOffsets l chosen roots offsets
    → AreConstraints l rows blocks roots offsets order floor bounds → IsPosed l rows chosen blocks roots offsets floor bounds
posed_from l rows chosen blocks roots order offsets floor bounds are off c =
    record { blocks_are = are; offsets_are = off; floors_are = floors_from l rows chosen blocks roots offsets floor are off c.floors; bounds_are = c.bounds_are }

-- what is known of names and offsets, and of the order of the blocks
pub record AreWoven (l : Plain) (rows : List (List ℕ)) (chosen : List ℕ) (into : List (Option ℕ)) (names : List ℕ) (offsets : List ℤ) (roots : List ℕ) : Type 0 where
  pub heads : HaveHeads l into
  pub all : AreAllJoined l into names offsets
  pub named : AreNames l chosen names
  pub is : IsBlockOrder l rows names roots

pub names_joined : (l : Plain) (rows : List (List ℕ)) (chosen : List ℕ) (into : List (Option ℕ)) (names : List ℕ) (offsets : List ℤ) → IsSound l → AreStraight l rows chosen → AreLinksInto l chosen (length chosen) into → AreAllJoined l into names offsets → AreNames l chosen names
names_joined l rows chosen into names offsets sound straight links all = names_from l rows chosen into names offsets sound straight links all.names_long all.joined

pub can_weave_rows : (l : Plain) (rows : List (List ℕ)) (chosen : List ℕ) (into : List (Option ℕ)) (names : List ℕ) (offsets : List ℤ) → IsSound l → AreRows l rows → AreStraight l rows chosen → AreLinksInto l chosen (length chosen) into → AreAllJoined l into names offsets → CanWeaveRows l rows into names
can_weave_rows l rows chosen into names offsets sound are straight links all =
    record { chosen = chosen; sound = sound; are_rows = are; straight = straight; entries = entries_from l chosen into links; named = names_joined l rows chosen into names offsets sound straight links all }

pub woven_from : (l : Plain) (rows : List (List ℕ)) (chosen : List ℕ) (into : List (Option ℕ)) (names : List ℕ) (offsets : List ℤ) (roots : List ℕ) → IsSound l → AreRows l rows → AreStraight l rows chosen → AreLinksInto l chosen (length chosen) into → AreAllJoined l into names offsets
    → roots ≡ block_order l rows names → AreWoven l rows chosen into names offsets roots
woven_from l rows chosen into names offsets roots sound are straight links all e =
    let named = names_joined l rows chosen into names offsets sound straight links all in
    record {
      heads = heads_of l rows chosen into straight links;
      all = all;
      named = named;
      is = subst (λ xs. IsBlockOrder l rows names xs) (sym e) (block_order_is l rows chosen names sound are straight named);
    }

pub roots_in_range : (l : Plain) (rows : List (List ℕ)) (names roots : List ℕ) → IsBlockOrder l rows names roots → All (λ u. u < length l.units) roots
roots_in_range l rows names roots is = All-from_get_or (λ u. u < length l.units) roots 0 (λ i h. (is.own (get_or roots i 0) (occurs_at roots i h)).0)

pub names_known : (l : Plain) (rows : List (List ℕ)) (chosen : List ℕ) (into : List (Option ℕ)) (names : List ℕ) (offsets : List ℤ) (roots : List ℕ) → IsSound l → AreRows l rows → AreStraight l rows chosen → AreWoven l rows chosen into names offsets roots
    → All (λ n. (n < length l.units) × (1 ≤ occurs n roots)) names
names_known l rows chosen into names offsets roots sound are straight w =
    All-from_get_or (λ n. (n < length l.units) × (1 ≤ occurs n roots)) names 0
    (λ i h.
    (All-get_or (λ n. n < length l.units) names i 0 h w.all.in_range, in_order l rows chosen names sound are straight w.named roots w.is i (let long = w.all.names_long in omega (arith, h, long))))

pub blocks_are : (l : Plain) (rows : List (List ℕ)) (chosen : List ℕ) (into : List (Option ℕ)) (names : List ℕ) (offsets : List ℤ) (roots blocks : List ℕ) → IsSound l → AreRows l rows → AreStraight l rows chosen → AreWoven l rows chosen into names offsets roots
    → length blocks ≡ length names → ((u : ℕ) → u < length names → get_or blocks u 0 ≡ place_in roots (get_or names u 0)) → AreBlocks l rows chosen blocks roots
blocks_are l rows chosen into names offsets roots blocks sound are straight w long number =
    blocks_from l rows chosen names sound are straight w.named roots blocks w.is
    (record { as_many = long ∙ w.all.names_long; number_is = λ u h. number u (let n = w.all.names_long in omega (arith, h, n)) })

pub offsets_are : (l : Plain) (rows : List (List ℕ)) (chosen : List ℕ) (into : List (Option ℕ)) (names : List ℕ) (offsets : List ℤ) (roots : List ℕ) → IsSound l → AreRows l rows → AreStraight l rows chosen → AreLinksInto l chosen (length chosen) into → AreWoven l rows chosen into names offsets roots → AreOffsets l chosen roots offsets
offsets_are l rows chosen into names offsets roots sound are straight links w =
    offsets_from l rows chosen into names roots offsets sound are straight w.named w.heads w.all w.is (horizontal_from l rows chosen into names offsets sound straight links w.all.joined)

-- the question of these constraints, and its answer as lines
module _ (l : Plain) (rows : List (List ℕ)) (chosen blocks roots order : List ℕ) (offsets floor : List ℤ) (bounds : List Bound) (sound : IsSound l) (are : AreRows l rows) (straight : AreStraight l rows chosen)
    (b : AreBlocks l rows chosen blocks roots) (o : AreOffsets l chosen roots offsets) (c : AreConstraints l rows blocks roots offsets order floor bounds) where
  posed : IsPosed l rows chosen blocks roots offsets floor bounds
  posed = posed_from l rows chosen blocks roots order offsets floor bounds b o c

  can : CanBePlaced l blocks offsets floor bounds order
  can = can_be_placed l rows chosen blocks roots offsets floor bounds sound are straight posed order c.counts (subst (λ bs. length bs < 2 ^ 32) (sym c.bounds_are) (few_bounds l rows are sound blocks offsets))

  pub solvable : IsSolvable order floor bounds
  solvable = can.solvable

  pub blocks_in_range : (values : List ℤ) (holds : List (Option ℕ)) → Settled floor bounds values holds → All (λ k. k < length values) blocks
  blocks_in_range values holds settled =
      All-from_get_or (λ k. k < length values) blocks 0
      (λ u h. let n = b.numbers u (rw b.as_many at h) in let f = c.floors.as_many in let v = settled.as_long in omega (arith, n, f, v))

  pub values_within : (values : List ℤ) (holds : List (Option ℕ)) → Settled floor bounds values holds → (k : ℕ) → k < length values → (pos 0 ≤ℤ (value_at values k +ℤ pos (2 ^ 61))) × (value_at values k ≤ℤ pos (2 ^ 61))
  values_within values holds settled k h = values_bounded order floor values bounds holds can.solvable settled k (let v = settled.as_long in omega (arith, h, v))

  tops_of : (values tops : List ℤ) → length tops ≡ length blocks → ((u : ℕ) → u < length blocks → value_at tops u ≡ value_at values (block_at blocks u) +ℤ offset_at offsets u) → AreTops l blocks offsets values tops
  tops_of values tops long is = record { as_many = long ∙ b.as_many; top_is = λ u h. is u (let n = b.as_many in omega (arith, h, n)) }

  pub least_tops : (values tops : List ℤ) (holds : List (Option ℕ)) → Settled floor bounds values holds → length tops ≡ length blocks → ((u : ℕ) → u < length blocks → value_at tops u ≡ value_at values (block_at blocks u) +ℤ offset_at offsets u)
      → AreLeast l rows chosen tops
  least_tops values tops holds settled long is = least_lines_from l rows chosen blocks roots offsets floor bounds sound are straight posed values tops holds settled (tops_of values tops long is)

  pub tops_within : (values tops : List ℤ) (holds : List (Option ℕ)) → Settled floor bounds values holds → length tops ≡ length blocks → ((u : ℕ) → u < length blocks → value_at tops u ≡ value_at values (block_at blocks u) +ℤ offset_at offsets u)
      → EndsWithinStack l tops
  tops_within values tops holds settled long is = can.within values tops holds settled (tops_of values tops long is)
