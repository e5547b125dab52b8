-- How many links and nets a level has, and how many slots its gaps.
use Rattle.std.proofs.Common.{◌≡◌, inl, inr, ℕ, zero, suc, ◌+◌, ◌*◌, ◌<◌, ◌≤◌, ◌==◌, ◌&&◌, Bool, true, false, List, [], ◌∷◌, ◌++◌, map, length, refl, sym, ap, ◌∙◌, arith}
use Rattle.std.proofs.Math.Nat.{mul-le-mul_left}
use Rattle.std.proofs.lemmas.Bool.{cases_order}
use Rattle.std.proofs.lemmas.List.{length-append, length-map}
use Rattle.std.proofs.lemmas.List.FromFn.{length-range_with_len}
use Rattle.std.specs.List.{filter, range_with_len}
use Rattle.drawing_types.specs.declared.shape.Side.TheVariants.{East, West}
use Rattle.elk_layers.specs.Layered.{layer_of, link_at}
use Rattle.self_loops.specs.Loops.{passes_left, passes_right}
use Rattle.net_routes.specs.declared.Net.{Net}
use Rattle.route_lines.specs.Points.{gap_in}
use Rattle.level_model.specs.Level.{Orders, PlainLevel, PlainPlan, all_ends, dock_of, end_at, is_loop}
use Rattle.level_model.specs.Lanes.{has_one_dock}
use Rattle.level_model.specs.Nets.{Name, all_names, gap_of, if_passed, is_inverted, loop_names, names_in, net_of, of_dock, of_link}
use Rattle.level_model.specs.FromPlan.{LevelDrawing, IsDrawnFrom}
use Rattle.level_model.specs.Ready.{IsReady}
use Rattle.level_model.proofs.GapLemmas.{gap_free}
use Rattle.level_nets.proofs.Chains.{one_link}
use Rattle.level_nets.proofs.Holding.{ends_long, passed_short}
use Rattle.level_nets.proofs.ListLemmas.{few_named, filter_short}
use Rattle.level_nets.proofs.Slots.{few_slots}

-- ---- pairs of numbers as one number

times_more : (a b m : ℕ) → a < b → a * m + m ≤ b * m
times_more a b m h = let up : m * suc a ≤ m * b = mul-le-mul_left m h in omega (arith, up)

pair_below : (e a m t : ℕ) → a < e → t < m → a * m + t < e * m
pair_below e a m t h k = let up = times_more a e m h in omega (arith, up, k)

pair_one : (a b m s t : ℕ) → s < m → t < m → a * m + s ≡ b * m + t → (a ≡ b) × (s ≡ t)
pair_one a b m s t hs ht e =
    elim (cases_order a b) [
      | inl same ↦ (same, (let times = ap (λ n. n * m) same in omega (arith, times, e)))
      | inr (inl less) ↦ (let up = times_more a b m less in absurd (omega (arith, up, e, hs)))
      | inr (inr more) ↦ (let up = times_more b a m more in absurd (omega (arith, up, e, ht)))
    ]

all_pass : (xs : List ℕ) → length (filter (λ k. true) xs) ≡ length xs
all_pass [] = refl
all_pass (x ∷ xs) = ap suc (all_pass xs)

-- ---- links

module _ (l : PlainLevel) (p : PlainPlan) (o : Orders) (layers : List ℕ) (ready : IsReady l p o layers) where
  no_edge : (e : ℕ) → e < length l.edges → 0 < length l.children
  no_edge e h = let less = (ready.level.edges e h).source.child in omega (arith, less)

  links_below : (m : ℕ) → p.layers ≤ suc m → length p.layered.links ≤ length l.edges * m
  links_below m low =
      let tail : ℕ → ℕ = λ k. layer_of p.layered (link_at p.layered.links k).tail in
      let edge : ℕ → ℕ = λ k. (link_at p.layered.links k).edge in
      let next : (k : ℕ) → k < length p.layered.links → layer_of p.layered (link_at p.layered.links k).head ≡ tail k + 1 = λ k h. (ready.sound.links_are k h).next_layer in
      let less : (k : ℕ) → k < length p.layered.links → tail k < m =
      λ k h. let top = ready.sound.layers_are (link_at p.layered.links k).head (ready.sound.links_are k h).head in let up = next k h in let same = ready.layers_are in omega (arith, top, up, same, low) in
      let long = length-range_with_len 0 (length p.layered.links) in
      let pass = all_pass (range_with_len 0 (length p.layered.links)) in
      let few = few_named (λ k. true) (λ k. edge k * m + tail k) (length p.layered.links) (length l.edges * m)
      (λ k h on. pair_below (length l.edges) (edge k) m (tail k) (ready.units.linked.links k h).edge_in (less k h))
      (λ j k hj hk onj onk same.
      let both = pair_one (edge j) (edge k) m (tail j) (tail k) (less j hj) (less k hk) same in
      one_link l p o layers ready j k hj hk both.0 (next j hj ∙ ap (λ n. n + 1) both.1 ∙ sym (next k hk)))
      in
      omega (arith, few, long, pass)

  -- a link for each edge and each layer but one, at most
  pub few_links : p.layers ≤ length l.children → length p.layered.links + length l.edges ≤ length l.edges * length l.children
  few_links low = step (length l.children) (length l.edges) refl refl low
    where
      step : (c e : ℕ) → length l.children ≡ c → length l.edges ≡ e → p.layers ≤ c → length p.layered.links + e ≤ e * c
      step zero zero hc he h = let few = links_below 0 (omega (arith, h)) in omega (arith, few, he)
      step zero (suc e) hc he h = absurd (let some = no_edge 0 (omega (arith, he)) in omega (arith, some, hc))
      step (suc m) e hc he h = let few = links_below m h in let times = ap (λ n. n * m) he in omega (arith, few, times)

-- ---- nets

three_long : (a b c : List Name) → length (a ++ b ++ c) ≡ length a + length b + length c
three_long a b c = let front = length-append a b in let all = length-append (a ++ b) c in omega (arith, front, all)

loops_short : (l : PlainLevel) (p : PlainPlan) (o : Orders) (es : List ℕ) → length (loop_names l p o es) ≤ 2 * length es
loops_short l p o [] = omega arith
loops_short l p o (e ∷ es) =
    let left : Bool = is_loop l e && passes_left (dock_of l p o (end_at e true)).side (dock_of l p o (end_at e false)).side (has_one_dock l p o e) in
    let right : Bool = is_loop l e && passes_right (dock_of l p o (end_at e true)).side (dock_of l p o (end_at e false)).side (has_one_dock l p o e) in
    one_more _ _ _ _ (length es) (three_long (if_passed left e West) (if_passed right e East) (loop_names l p o es)) (passed_short left e West) (passed_short right e East) (loops_short l p o es)
  where
    one_more : (n a b c m : ℕ) → n ≡ a + b + c → a ≤ 1 → b ≤ 1 → c ≤ 2 * m → n ≤ 2 * suc m
    one_more n a b c m e h k r = omega (arith, e, h, k, r)

-- a net for each link, and four for each edge, at most
pub few_names : (l : PlainLevel) (p : PlainPlan) (o : Orders) → length (all_names l p o) ≤ length p.layered.links + 4 * length l.edges
few_names l p o =
    let range : List ℕ = range_with_len 0 (length l.edges) in
    together _ _ _ _ (length (all_ends l)) (length p.layered.links) (length range) (length l.edges)
    (three_long (map of_link (range_with_len 0 (length p.layered.links))) (map of_dock (filter (is_inverted l p o) (all_ends l))) (loop_names l p o range))
    (length-map (range_with_len 0 (length p.layered.links)) of_link ∙ length-range_with_len 0 (length p.layered.links))
    (length (filter (is_inverted l p o) (all_ends l)))
    (length-map (filter (is_inverted l p o) (all_ends l)) of_dock)
    (filter_short (is_inverted l p o) (all_ends l))
    (ends_long range)
    (length-range_with_len 0 (length l.edges))
    (loops_short l p o range)
  where
    together : (n a b c ends x range e : ℕ) → n ≡ a + b + c → a ≡ x → (f : ℕ) → b ≡ f → f ≤ ends → ends ≡ 2 * range → range ≡ e → c ≤ 2 * range → n ≤ x + 4 * e
    together n a b c ends x range e h k f m r s t u = omega (arith, h, k, m, r, s, t, u)

-- ---- gaps

module _ (l : PlainLevel) (p : PlainPlan) (o : Orders) (d : LevelDrawing) (drawn : IsDrawnFrom l p o d) where
  nets_long : (g : ℕ) → g < length d.gaps → length (gap_in d.gaps g).nets ≡ length (names_in l p o g)
  nets_long g h = ap (λ (ns : List Net). length ns) (drawn.gaps g h).nets ∙ length-map (names_in l p o g) (net_of l p o d.top)

  -- a gap has no more nets than the level, and no more slots than two for each of its nets
  pub few_nets : (g : ℕ) → g < length d.gaps → length (gap_in d.gaps g).nets ≤ length (all_names l p o)
  few_nets g h = let same = nets_long g h in let short = filter_short (λ n. gap_of l p o n == g) (all_names l p o) in omega (arith, same, short)

  pub count_few : (g : ℕ) → g < length d.gaps → (gap_in d.gaps g).count ≤ length (names_in l p o g) + length (names_in l p o g)
  count_few g h =
      let same = nets_long g h in
      let few = few_slots (gap_in d.gaps g).nets (gap_in d.gaps g).count (gap_in d.gaps g).routes (gap_free l p o d g (drawn.gaps g h)) in
      omega (arith, same, few)
