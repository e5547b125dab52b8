-- The nets of each gap are those of the plan, and there are few of them; widths and borders are those of the plan.
use Rattle.std.proofs.Common.{◌≡◌, inl, inr, ⊎_elim, ℕ, zero, suc, ◌+◌, ◌*◌, ◌<◌, ◌≤◌, ◌^◌, eqb, cond, Bool, List, [], ◌∷◌, ◌++◌, map, length, ℤ, pos, ◌+ℤ◌, ◌-ℤ◌, refl, sym, subst, ap, ◌∙◌, arith}
use Rattle.std.proofs.lemmas.Bool.{eqb-true, eq-eqb, cases_Bool}
use Rattle.std.proofs.lemmas.Int.{ints}
use Rattle.std.proofs.lemmas.List.{length-append, length-map}
use Rattle.std.proofs.lemmas.List.FromFn.{length-range_with_len}
use Rattle.std.specs.Int.{int_max}
use Rattle.std.specs.List.{All, filter, range_with_len}
use Rattle.drawing_types.specs.declared.shape.Rect.{Rect}
use Rattle.elk_layers.specs.Layered.{link_at, layer_of}
use Rattle.net_routes.specs.GapFree.{IsNet, AreHeights}
use Rattle.route_lines.specs.Points.{PlainGap, gap_in}
use Rattle.level_model.specs.Level.{Orders, all_ends, outline}
use Rattle.level_model.specs.Nets.{Name, of_link, layer_of_child, gap_of, net_of, all_names, names_in, nets_in, place_of_name, widest, column_width, gap_left, gap_width}
use Rattle.level_model.specs.FromPlan.{IsGap}
use Rattle.level_model.specs.Table.{child_in}
use Rattle.level_model.proofs.Lists.{Has, has_left, has_right, filter_has, range_has}
use Rattle.level_model.proofs.NameLemmas.{IsName, name_is}
use Rattle.level_nets.specs.Parts.{Parts, plan_of, ArePlanned, EndAbove}
use Rattle.level_nets.specs.Read.{HoldNets, link_names, dock_names, passing_names, names_of, gap_named, net_named, in_gap, nets_named, leg_behind, widest_of, width_of, left_of}
use Rattle.level_nets.specs.Reach.{AreNetsIn}
use Rattle.level_nets.specs.Placed.{IsPlaced, counts_of}
use Rattle.level_nets.specs.Routed.{drawn_with, place_in_gap}
use Rattle.level_nets.proofs.ListLemmas.{filter_same, map_same, filter_append, filter_short, all_mapped, few_named}
use Rattle.level_nets.proofs.Chains.{one_link}
use Rattle.level_nets.proofs.Names.{names_are, gap_is}
use Rattle.level_nets.proofs.Nets.{net_is, is_net, are_heights}
use Rattle.level_nets.proofs.Holding.{docks_short, passing_short, ends_long}
use Rattle.level_nets.proofs.Splits.{Splits, place_at}

-- a filter of what a function gives
pub filter_mapped : {X Y : Type 0} (f : Y → Bool) (h : X → Y) (xs : List X) → length (filter f (map h xs)) ≡ length (filter (λ x. f (h x)) xs)
filter_mapped f h [] = refl
filter_mapped f h (x ∷ xs) =
    let rest = filter_mapped f h xs in
    ⊎_elim (λ t. rw t (ap suc rest)) (λ n. rw n rest) (cases_Bool (f (h x)))

three_few : (a b c d e n : ℕ) → a ≤ 2048 → b ≤ 2 * n → c ≤ 2 * n → n ≤ 2048 → d ≡ a + b → e ≡ d + c → e ≤ 2 ^ 14
three_few a b c d e n ha hb hc hn hd he = omega (arith, ha, hb, hc, hn, hd, he)

module _ (s : Parts) (rows : List (List ℕ)) (o : Orders) (layers : List ℕ) (planned : ArePlanned s rows o layers) where
  -- gaps and nets of all names
  pub gaps_are : (names : List Name) (g : ℕ) → ((n : Name) → Has names n → Has (all_names s.level (plan_of s rows) o) n)
      → in_gap s names g ≡ filter (λ n. eqb (gap_of s.level (plan_of s rows) o n) g) names
  unfolding in_gap
  gaps_are names g there =
      filter_same (λ n. eqb (gap_named s n) g) (λ n. eqb (gap_of s.level (plan_of s rows) o n) g) names
      (λ n has. ap (λ k. eqb k g) (gap_is s rows o layers planned n (name_is s.level (plan_of s rows) o n (there n has))))

  pub nets_are : (g : ℕ) → nets_named s (names_of s) g ≡ nets_in s.level (plan_of s rows) o (pos 0) g
  nets_are g =
      ap (λ names. nets_named s names g) (names_are s rows o layers planned)
      ∙ ap (map (net_named s)) (gaps_are (all_names s.level (plan_of s rows) o) g (λ n has. has))
      ∙ map_same (net_named s) (net_of s.level (plan_of s rows) o (pos 0)) (names_in s.level (plan_of s rows) o g)
      (λ n has. net_is s rows o layers planned n (name_is s.level (plan_of s rows) o n (filter_has (λ m. eqb (gap_of s.level (plan_of s rows) o m) g) (all_names s.level (plan_of s rows) o) n has).0))

  -- there are few nets in a gap
  links_few : (g : ℕ) → length (filter (λ n. eqb (gap_named s n) g) (link_names (length s.layered.links))) ≤ 2048
  unfolding gap_named
  links_few g =
      subst (λ m. m ≤ 2048) (sym (filter_mapped (λ n. eqb (gap_named s n) g) of_link (range_with_len 0 (length s.layered.links))))
      (few_named (λ k. eqb (layer_of s.layered (link_at s.layered.links k).head) g) (λ k. (link_at s.layered.links k).edge) (length s.layered.links) 2048
      (λ k h here. let edge = (planned.ready.units.linked.links k h).edge_in in let few = planned.ready.level.few_edges in omega (arith, edge, few))
      (λ j k hj hk aj ak same. one_link s.level (plan_of s rows) o layers planned.ready j k hj hk same
      (eqb-true (layer_of s.layered (link_at s.layered.links j).head) g aj ∙ sym (eqb-true (layer_of s.layered (link_at s.layered.links k).head) g ak))))

  pub names_few : (g : ℕ) → length (in_gap s (names_of s) g) ≤ 2 ^ 14
  unfolding in_gap
  names_few g =
      let f : Name → Bool = λ n. eqb (gap_named s n) g in
      let links = link_names (length s.layered.links) in
      let docks = dock_names s (all_ends s.level) in
      let loops = passing_names s (range_with_len 0 (length s.level.edges)) in
      let split : filter f (links ++ docks ++ loops) ≡ filter f links ++ filter f docks ++ filter f loops =
      filter_append f (links ++ docks) loops ∙ ap (λ (ns : List Name). ns ++ filter f loops) (filter_append f links docks) in
      let a = links_few g in
      let b0 = filter_short f docks in
      let b1 = docks_short s (all_ends s.level) in
      let b2 = ends_long (range_with_len 0 (length s.level.edges)) in
      let range = length-range_with_len 0 (length s.level.edges) in
      let c0 = filter_short f loops in
      let c1 = passing_short s (range_with_len 0 (length s.level.edges)) in
      let two = length-append (filter f links) (filter f docks) in
      let all = length-append (filter f links ++ filter f docks) (filter f loops) in
      let few = planned.ready.level.few_edges in
      subst (λ (ns : List Name). length ns ≤ 2 ^ 14) (sym split)
      (three_few (length (filter f links)) (length (filter f docks)) (length (filter f loops)) _ _ (length s.level.edges)
      a (omega (arith, b0, b1, b2, range)) (omega (arith, c0, c1, range)) few two all)

  module _ (ends : EndAbove s) where
    pub are_nets : (g : ℕ) → AreNetsIn (nets_named s (names_of s) g)
    are_nets g =
        let same = nets_are g in
        record {
          few = let few = names_few g in let long = length-map (in_gap s (names_of s) g) (net_named s) in omega (arith, few, long);
          pins = subst (All IsNet) (sym same)
              (all_mapped IsNet (net_of s.level (plan_of s rows) o (pos 0)) (of_link 0) (names_in s.level (plan_of s rows) o g)
              (λ n has. is_net s rows o layers planned n (name_is s.level (plan_of s rows) o n (filter_has (λ m. eqb (gap_of s.level (plan_of s rows) o m) g) (all_names s.level (plan_of s rows) o) n has).0)));
          heights = subst (All AreHeights) (sym same)
              (all_mapped AreHeights (net_of s.level (plan_of s rows) o (pos 0)) (of_link 0) (names_in s.level (plan_of s rows) o g)
              (λ n has. are_heights s rows o layers planned ends n (name_is s.level (plan_of s rows) o n (filter_has (λ m. eqb (gap_of s.level (plan_of s rows) o m) g) (all_names s.level (plan_of s rows) o) n has).0)));
        }

  -- the place of a name in its gap
  pub place_is : (before : List Name) (n : Name) → Splits (names_of s) before n → leg_behind s before n ≡ place_in_gap s.level (plan_of s rows) o n
  place_is before n splits =
      let l = s.level in
      let p = plan_of s rows in
      let all : all_names l p o ≡ before ++ n ∷ splits.after = sym (names_are s rows o layers planned) ∙ splits.is in
      let there : (m : Name) → Has (before ++ n ∷ splits.after) m → Has (all_names l p o) m = λ m has. subst (λ (ns : List Name). Has ns m) (sym all) has in
      let known : IsName l p o n = name_is l p o n (there n (has_right before (n ∷ splits.after) n (inl refl))) in
      let g = gap_of l p o n in
      let f : Name → Bool = λ m. eqb (gap_of l p o m) g in
      let front : length (in_gap s before (gap_named s n)) ≡ length (filter f before) =
      ap (λ k. length (in_gap s before k)) (gap_is s rows o layers planned n known) ∙ ap length (gaps_are before g (λ m has. there m (has_left before (n ∷ splits.after) m has))) in
      let names : names_in l p o g ≡ filter f before ++ n ∷ filter f splits.after =
      ap (filter f) all ∙ filter_append f before (n ∷ splits.after)
      ∙ ap (λ (b : Bool). filter f before ++ cond b (n ∷ filter f splits.after) (filter f splits.after)) (eq-eqb g g refl) in
      front
      ∙ sym (place_at (filter f before) (filter f splits.after) n (λ m has. splits.other m (filter_has f before m has).0) splits.self)
      ∙ ap (λ (ns : List Name). place_of_name ns n) (sym names)

  -- widths and borders
  widest_is : (r : ℕ) (cs : List ℕ) → ((c : ℕ) → Has cs c → c < length s.level.children) → widest_of s r cs ≡ widest s.level (plan_of s rows) o r cs
  widest_is r [] there = refl
  widest_is r (c ∷ cs) there =
      let h = there c (inl refl) in
      let rest = widest_is r cs (λ d k. there d (inr k)) in
      let unit = (planned.table.children c h).unit in
      let width = ap (λ (q : Rect). q.width) (planned.table.children c h).outline_is in
      ap (λ u. cond (eqb (layer_of s.layered u) r) (int_max (child_in s.table.children c).outline.width (widest_of s r cs)) (widest_of s r cs)) unit
      ∙ ap (λ w. cond (eqb (layer_of_child (plan_of s rows) c) r) (int_max w (widest_of s r cs)) (widest_of s r cs)) width
      ∙ ap (λ z. cond (eqb (layer_of_child (plan_of s rows) c) r) (int_max (outline s.level (plan_of s rows) o c).width z) z) rest

  pub width_is : (r : ℕ) → width_of s r ≡ column_width s.level (plan_of s rows) o r
  unfolding width_of
  width_is r = widest_is r (range_with_len 0 (length s.level.children)) (λ c has. let low = (range_has 0 (length s.level.children) c has).1 in omega (arith, low))

  pub left_is : (count : ℕ → ℕ) (g : ℕ) → left_of s count g ≡ gap_left s.level (plan_of s rows) o count g
  unfolding left_of gap_left
  left_is count zero = refl
  left_is count (suc g) =
      ap (λ z. z +ℤ gap_width s.level (plan_of s rows) g (count g) +ℤ width_of s g) (left_is count g)
      ∙ ap (λ z. gap_left s.level (plan_of s rows) o count g +ℤ gap_width s.level (plan_of s rows) g (count g) +ℤ z) (width_is g)

  unmoved : (z : ℤ) → z ≡ z -ℤ pos 0
  unmoved z = omega (arith, ints)

  pub gap_of_plan : (gaps : List PlainGap) (g : ℕ) → HoldNets s (names_of s) gaps → g < length gaps → IsPlaced s g (left_of s (counts_of gaps) g) (gap_in gaps g)
      → IsGap s.level (plan_of s rows) o (drawn_with gaps (pos 0) (pos 0)) g
  gap_of_plan gaps g held h placed =
      record {
        left = placed.left_is ∙ left_is (counts_of gaps) g ∙ unmoved _;
        first = placed.first ∙ ap (λ z. z +ℤ Rattle.level_model.specs.Nets.first_slot s.level g) (sym placed.left_is);
        step = placed.step;
        right = placed.right ∙ ap (λ z. z +ℤ gap_width s.level (plan_of s rows) g (counts_of gaps g)) (sym placed.left_is);
        nets = held.nets g h ∙ nets_are g;
        slots = placed.slots;
      }
