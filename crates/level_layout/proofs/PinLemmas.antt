-- The pins of an edge's links are together at most the heights of its two children.
use Rattle.std.proofs.Common.{◌≡◌, ◌≢◌, ◌∙◌, ⊎_elim, ℕ, ◌+◌, ◌-◌, ◌*◌, ◌<◌, ◌≤◌, ◌^◌, not, ℤ, pos, ◌+ℤ◌, ◌≤ℤ◌, ◌<ℤ◌, length, sym, ap, subst, arith}
use Rattle.std.proofs.lemmas.Bool.{cases_lt}
use Rattle.std.proofs.lemmas.Int.{ints}
use Rattle.std.specs.Prelude.{is_some}
use Rattle.elk_layers.specs.declared.units.Unit.{Unit as LayerUnit}
use Rattle.elk_layers.specs.declared.units.Link.{Link}
use Rattle.elk_layers.specs.Layered.{IsSound, Plain, link_at, total_height, unit_at}
use Rattle.unit_blocks.proofs.SumLemmas.{sum_to}
use Rattle.level_model.specs.Level.{holds}
use Rattle.layer_units.specs.Layering.{Layering, head_child, layer_in, layering, tail_child}
use Rattle.layer_units.specs.Numbered.{AreNumberedUnits, first_lane, first_link, gaps_of, lanes_of, run_of, stop_of}
use Rattle.layer_units.proofs.RunLemmas.{Stop, at_head, at_lane, at_tail, stop_last, stop_where}
use Rattle.layer_units.proofs.SumLemmas.{before_below}
use Rattle.layer_units.specs.Alike.{AreAlike}
use Rattle.ns_place.specs.Heights.{pins_together}
use Rattle.level_layout.specs.Bounds.{PinsAreLow}
use Rattle.level_layout.proofs.PinSums.{groups_small, one_counts, pins_added, pins_of, sum_of_both, two_within}

module _ (s : Layering) (b v : Plain) (n : AreNumberedUnits s b) (alike : AreAlike b v) (sound : IsSound v) where
  abbrev height : ℕ → ℤ
  height u = (unit_at v.units u).height

  abbrev tail : ℕ → ℕ
  tail e = tail_child s.level (holds s.reversed e) e

  abbrev head : ℕ → ℕ
  head e = head_child s.level (holds s.reversed e) e

  -- a lane has no height
  lane_flat : (e i : ℕ) → e < length s.level.edges → i < lanes_of s e → height (first_lane s e + i) ≡ pos 0
  lane_flat e i he hi =
      sound.lanes_are_flat (first_lane s e + i)
      (let many = n.as_many_units in let same = alike.as_many_units in let below = before_below (lanes_of s) e (length s.level.edges) he in omega (arith, many, same, below, hi))
      (ap (λ k. not (is_some k)) (alike.child_is (first_lane s e + i) ∙ ap (λ (x : LayerUnit). x.child) (n.lanes e i he hi)))

  link_there : (e i : ℕ) → e < length s.level.edges → i < gaps_of s e → first_link s e + i < length v.links
  link_there e i he hi =
      let many = n.as_many_links in let same = alike.as_many_links in let below = before_below (gaps_of s) e (length s.level.edges) he in omega (arith, many, same, below, hi)

  tail_at_stop : (e i : ℕ) → e < length s.level.edges → i < gaps_of s e → (link_at v.links (first_link s e + i)).tail ≡ stop_of (run_of s e) i
  tail_at_stop e i he hi = alike.tail_is (first_link s e + i) ∙ ap (λ (x : Link). x.tail) (n.links e i he hi)

  head_at_stop : (e i : ℕ) → e < length s.level.edges → i < gaps_of s e → (link_at v.links (first_link s e + i)).head ≡ stop_of (run_of s e) (i + 1)
  head_at_stop e i he hi = alike.head_is (first_link s e + i) ∙ ap (λ (x : Link). x.head) (n.links e i he hi)

  tail_pin : (e i : ℕ) → e < length s.level.edges → i < gaps_of s e → (link_at v.links (first_link s e + i)).tail_at ≤ℤ height (stop_of (run_of s e) i)
  tail_pin e i he hi =
      subst (λ u. (link_at v.links (first_link s e + i)).tail_at ≤ℤ height u) (tail_at_stop e i he hi) (sound.links_are (first_link s e + i) (link_there e i he hi)).tail_at.1

  head_pin : (e i : ℕ) → e < length s.level.edges → i < gaps_of s e → (link_at v.links (first_link s e + i)).head_at ≤ℤ height (stop_of (run_of s e) (i + 1))
  head_pin e i he hi =
      subst (λ u. (link_at v.links (first_link s e + i)).head_at ≤ℤ height u) (head_at_stop e i he hi) (sound.links_are (first_link s e + i) (link_there e i he hi)).head_at.1

  -- the run of an edge meets no other child between its ends
  flat_inside : (e i : ℕ) → e < length s.level.edges → i ≤ gaps_of s e → i ≢ 0 → i ≢ gaps_of s e → height (stop_of (run_of s e) i) ≡ pos 0
  flat_inside e i he hi first last = step (stop_where (run_of s e) i hi)
    where
      step : Stop (run_of s e) i → height (stop_of (run_of s e) i) ≡ pos 0
      step (at_tail none at) = absurd (first none)
      step (at_head all at) = absurd (last all)
      step (at_lane j next less at) = ap height at ∙ lane_flat e j he less

  last_stop : (e : ℕ) → 0 < gaps_of s e → stop_of (run_of s e) (gaps_of s e - 1 + 1) ≡ head e
  last_stop e some = let on : gaps_of s e - 1 + 1 ≡ gaps_of s e = omega (arith, some) in ap (stop_of (run_of s e)) on ∙ stop_last (run_of s e) some

  head_there : (e : ℕ) → e < length s.level.edges → 0 < gaps_of s e → head e < length v.units
  head_there e he some =
      let last : gaps_of s e - 1 < gaps_of s e = omega (arith, some) in
      subst (λ u. u < length v.units) (head_at_stop e (gaps_of s e - 1) he last ∙ last_stop e some)
      (sound.links_are (first_link s e + (gaps_of s e - 1)) (link_there e (gaps_of s e - 1) he last)).head

  tail_there : (e : ℕ) → e < length s.level.edges → 0 < gaps_of s e → tail e < length v.units
  tail_there e he some = subst (λ u. u < length v.units) (tail_at_stop e 0 he some) (sound.links_are (first_link s e + 0) (link_there e 0 he some)).tail

  tails_low : (e : ℕ) → e < length s.level.edges → 0 < gaps_of s e → sum_to (gaps_of s e) (λ i. (link_at v.links (first_link s e + i)).tail_at) ≤ℤ height (tail e)
  tails_low e he some =
      one_counts (gaps_of s e) 0 (λ i. (link_at v.links (first_link s e + i)).tail_at) (height (tail e)) (sound.heights (tail e) (tail_there e he some))
      (λ i l other. let pin = tail_pin e i he l in let flat = flat_inside e i he (omega (arith, l)) other (λ k. absurd (omega (arith, k, l))) in omega (arith, ints, pin, flat))
      (λ l. tail_pin e 0 he l)

  heads_low : (e : ℕ) → e < length s.level.edges → 0 < gaps_of s e → sum_to (gaps_of s e) (λ i. (link_at v.links (first_link s e + i)).head_at) ≤ℤ height (head e)
  heads_low e he some =
      one_counts (gaps_of s e) (gaps_of s e - 1) (λ i. (link_at v.links (first_link s e + i)).head_at) (height (head e)) (sound.heights (head e) (head_there e he some))
      (λ i l other.
      let pin = head_pin e i he l in
      let flat = flat_inside e (i + 1) he (omega (arith, l)) (λ k. absurd (omega (arith, k))) (λ k. absurd (other (omega (arith, k)))) in
      omega (arith, ints, pin, flat))
      (λ l. subst (λ u. (link_at v.links (first_link s e + (gaps_of s e - 1))).head_at ≤ℤ height u) (last_stop e some) (head_pin e (gaps_of s e - 1) he l))

  -- the two children differ, since they lie in different layers
  ends_differ : (e : ℕ) → 0 < gaps_of s e → tail e ≢ head e
  ends_differ e some same = let layers = ap (layer_in s.layers) same in absurd (omega (arith, some, layers))

  edge_low : (e h : ℕ) → total_height v.units ≤ℤ pos h → e < length s.level.edges → sum_to (gaps_of s e) (λ i. pins_of v.links (first_link s e + i)) ≤ℤ pos h
  edge_low e h low he =
      ⊎_elim
      (λ (some : 0 < gaps_of s e).
      let split = sum_of_both (gaps_of s e) (λ i. (link_at v.links (first_link s e + i)).tail_at) (λ i. (link_at v.links (first_link s e + i)).head_at) in
      let tails = tails_low e he some in
      let heads = heads_low e he some in
      let both = two_within v.units (tail e) (head e) (tail_there e he some) (head_there e he some) (ends_differ e some) sound.heights in
      omega (arith, ints, split, tails, heads, both, low))
      (λ none. let zero_gaps : gaps_of s e ≡ 0 = omega (arith, none) in subst (λ g. sum_to g (λ i. pins_of v.links (first_link s e + i)) ≤ℤ pos h) (sym zero_gaps) (omega (arith, ints)))
      (cases_lt 0 (gaps_of s e))

  together_low : (h : ℕ) → total_height v.units ≤ℤ pos h → pins_together v.links ≤ℤ pos (length s.level.edges * h)
  together_low h low =
      let added = pins_added v.links in
      let many : length v.links ≡ first_link s (length s.level.edges) = alike.as_many_links ∙ n.as_many_links in
      let groups = groups_small (gaps_of s) (pins_of v.links) h (length s.level.edges) (λ e he. edge_low e h low he) in
      let sums = ap (λ m. sum_to m (pins_of v.links)) many in
      omega (arith, ints, added, groups, sums)

small : (t p : ℤ) (n : ℕ) → t ≤ℤ pos (3 * 2 ^ 47) → p ≤ℤ pos (n * (3 * 2 ^ 47)) → n ≤ 2048 → (t +ℤ p) <ℤ pos (2 ^ 60)
small t p n low pins few = omega (arith, ints, low, pins, few)

pub pins_low : PinsAreLow
pins_low l reversed layers blank v level n alike sound low =
    small (total_height v.units) (pins_together v.links) (length l.edges) low
    (together_low (layering l reversed layers) blank v n alike sound (3 * 2 ^ 47) low) level.few_edges
