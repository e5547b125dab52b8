-- The tops of an alignment, lowered and completed, are layers of the network.
use Rattle.std.proofs.Common.{◌≡◌, ℕ, suc, ◌+◌, ◌<◌, ◌≤◌, ◌^◌, ◌-◌, ℤ, pos, ◌+ℤ◌, ◌-ℤ◌, ◌≤ℤ◌, ◌<ℤ◌, List, [], ◌∷◌, ◌++◌, length, map, get_or, arith, refl, sym, ◌∙◌, ap, subst, inl, inr, length-append, append_assoc, w64, FitsSigned}
use Rattle.std.proofs.lemmas.Int.{ints, clamps}
use Rattle.std.proofs.lemmas.Bool.{cases_lt}
use Rattle.std.specs.List.{All}
use Rattle.std.specs.Int.{int_min}
use Rattle.std.proofs.lemmas.List.{length-map, get_or-map}
use Rattle.std.proofs.lemmas.List.Elements.{All-from_get_or}
use Rattle.elk_layers.specs.Layered.{Plain, IsSound, AreRows, IsFromZero, link_at}
use Rattle.elk_layers.proofs.HeightLemmas.{height_below}
use Rattle.elk_layers.specs.Lines.{top_of, AreApart}
use Rattle.network_laws.specs.Layering.{layer_of}
use Rattle.unit_blocks.specs.Constraints.{EndsWithinStack}
use Rattle.ns_place.specs.declared.least.PairFlow.{PairFlow}
use Rattle.ns_place.specs.Pairs.{all_pairs}
use Rattle.ns_place.specs.Heights.{IsNearLink}
use Rattle.ns_place.specs.Network.{alone_of}
use Rattle.ns_place.specs.Start.{joint_layer, lowest, completed, lowered, AreStartTops, AreFirst}
use Rattle.ns_place.proofs.PairLemmas.{IsApart, are_pairs, kept_distances}
use Rattle.ns_place.proofs.NetworkLemmas.{link_ends, have_pins}
use Rattle.ns_place.proofs.CostLemmas.{HasEndsBelow, at_unit, at_joint, at_alone, is_layering}
use Rattle.ns_place.proofs.TopLemmas.{stack_small}

-- a link's own node, between its ends and their pins
joint_bounds : (t h a b far : ℤ) → far ≤ℤ t → far ≤ℤ h → pos 0 ≤ℤ a → pos 0 ≤ℤ b → (a +ℤ b) ≤ℤ far → (int_min (t +ℤ a) (h +ℤ b) -ℤ (a +ℤ b)) ≤ℤ t
joint_bounds t h a b far lt lh la lb small = omega (arith, ints, clamps, lb)

joint_from_zero : (t h a b far : ℤ) → far ≤ℤ t → far ≤ℤ h → pos 0 ≤ℤ a → pos 0 ≤ℤ b → (a +ℤ b) ≤ℤ far → pos 0 ≤ℤ (int_min (t +ℤ a) (h +ℤ b) -ℤ (a +ℤ b))
joint_from_zero t h a b far lt lh la lb small = omega (arith, ints, clamps, lt, lh, la, lb, small)

-- numbers that are near fit, and so do their sums
pub pin_fits : {z : ℤ} → IsFromZero z (pos (2 ^ 61)) → FitsSigned w64 z
pin_fits h = omega (arith, ints, h.0, h.1)

pub sum_fits : {y z : ℤ} → IsFromZero y (pos (2 ^ 61)) → IsFromZero z (pos (2 ^ 61)) → FitsSigned w64 (y +ℤ z)
sum_fits h k = omega (arith, ints, h.0, h.1, k.0, k.1)

pub joint_fits : {t h a b : ℤ} → IsFromZero t (pos (2 ^ 61)) → IsFromZero h (pos (2 ^ 61)) → IsFromZero a (pos (2 ^ 61)) → IsFromZero b (pos (2 ^ 61)) → FitsSigned w64 (int_min (t +ℤ a) (h +ℤ b) -ℤ (a +ℤ b))
joint_fits t h a b = omega (arith, ints, clamps, t.0, t.1, h.0, h.1, a.0, a.1, b.0, b.1)

-- no top stands above 0, so the lowest one that is no higher than 0 is 0
none_lowest : (ts : List ℤ) → ((u : ℕ) → u < length ts → pos 0 ≤ℤ top_of ts u) → lowest ts ≡ pos 0
none_lowest [] h = refl
none_lowest (t ∷ ts) h =
    let rest = none_lowest ts (λ u l. h (suc u) (omega (arith, l))) in
    let first : pos 0 ≤ℤ t = h 0 (omega arith) in
    omega (arith, ints, clamps, rest, first)

pub start_tops : (l : Plain) (rows : List (List ℕ)) (tops : List ℤ) → AreApart l rows tops → EndsWithinStack l tops → AreStartTops l tops
start_tops l rows tops apart within = record { as_many = apart.as_many; from_zero = apart.from_zero; within = within }

module _ (l : Plain) (tops : List ℤ) (sound : IsSound l) (start : AreStartTops l tops) where
  abbrev low : List ℤ
  low = map lowered tops

  pub top_small : (u : ℕ) → u < length l.units → IsFromZero (top_of tops u) (pos (2 ^ 57))
  top_small u h =
      let a = start.from_zero u h in
      let b = start.within u h in
      let c = stack_small l sound in
      let d = sound.heights u h in
      (a, omega (arith, ints, b, c, d))

  pub tops_small : All (λ t. IsFromZero t (pos (2 ^ 57))) tops
  tops_small = All-from_get_or (λ t. IsFromZero t (pos (2 ^ 57))) tops (pos 0) (λ u h. let n = start.as_many in top_small u (omega (arith, n, h)))

  long : length (map lowered tops) ≡ length l.units
  long = length-map tops lowered ∙ start.as_many

  low_top : (u : ℕ) → u < length l.units → top_of (map lowered tops) u ≡ lowered (top_of tops u)
  low_top u h = let n = start.as_many in get_or-map lowered tops u (pos 0) (pos 0) (omega (arith, n, h))

  low_within : (u : ℕ) → u < length l.units → (pos (2 ^ 57) ≤ℤ top_of (map lowered tops) u) × (top_of (map lowered tops) u ≤ℤ pos (2 ^ 58))
  low_within u h =
      let e = low_top u h in
      let s = top_small u h in
      (omega (arith, ints, e, s.0), omega (arith, ints, e, s.1))

  pub low_near : All (IsNearLink (map lowered tops)) l.links
  low_near =
      All-from_get_or (IsNearLink (map lowered tops)) l.links (record { edge = 0; tail = 0; head = 0; tail_rank = 0; head_rank = 0; tail_at = pos 0; head_at = pos 0 })
      (λ k h.
      let e = sound.links_are k h in
      let n = long in
      let t = e.tail in
      let u = e.head in
      let at = low_within (link_at l.links k).tail t in
      let au = low_within (link_at l.links k).head u in
      let bt = height_below l sound (link_at l.links k).tail t in
      let bu = height_below l sound (link_at l.links k).head u in
      let p = e.tail_at.1 in
      let q = e.head_at.1 in
      record {
        tail = omega (arith, n, t);
        head = omega (arith, n, u);
        tail_top = (omega (arith, ints, at.0), omega (arith, ints, at.1));
        head_top = (omega (arith, ints, au.0), omega (arith, ints, au.1));
        tail_at = (e.tail_at.0, omega (arith, ints, p, bt));
        head_at = (e.head_at.0, omega (arith, ints, q, bu));
      })

  -- the ends of links are near also where the tops aren't lowered
  pub tops_near : All (IsNearLink tops) l.links
  tops_near =
      All-from_get_or (IsNearLink tops) l.links (record { edge = 0; tail = 0; head = 0; tail_rank = 0; head_rank = 0; tail_at = pos 0; head_at = pos 0 })
      (λ k h.
      let e = sound.links_are k h in
      let n = start.as_many in
      let t = e.tail in
      let u = e.head in
      let at = top_small (link_at l.links k).tail t in
      let au = top_small (link_at l.links k).head u in
      let bt = height_below l sound (link_at l.links k).tail t in
      let bu = height_below l sound (link_at l.links k).head u in
      let p = e.tail_at.1 in
      let q = e.head_at.1 in
      record {
        tail = omega (arith, n, t);
        head = omega (arith, n, u);
        tail_top = (at.0, omega (arith, ints, at.1));
        head_top = (au.0, omega (arith, ints, au.1));
        tail_at = (e.tail_at.0, omega (arith, ints, p, bt));
        head_at = (e.head_at.0, omega (arith, ints, q, bu));
      })

  unit_in_range : (v : ℕ) → v < length l.units → (pos 0 ≤ℤ layer_of (completed (map lowered tops) l.links) v) × (layer_of (completed (map lowered tops) l.links) v <ℤ pos (2 ^ 62))
  unit_in_range v h =
      let n = long in
      let e = at_unit (map lowered tops) l.links v (omega (arith, n, h)) in
      let w = low_within v h in
      let a = w.0 in
      let b = w.1 in
      (omega (arith, ints, e, a), omega (arith, ints, e, b))

  joint_in_range : (k : ℕ) → k < length l.links → (pos 0 ≤ℤ layer_of (completed (map lowered tops) l.links) (length l.units + k)) × (layer_of (completed (map lowered tops) l.links) (length l.units + k) <ℤ pos (2 ^ 62))
  joint_in_range k h =
      let e = sound.links_are k h in
      let at = low_within (link_at l.links k).tail e.tail in
      let au = low_within (link_at l.links k).head e.head in
      let bt = height_below l sound (link_at l.links k).tail e.tail in
      let bu = height_below l sound (link_at l.links k).head e.head in
      let p = e.tail_at in
      let q = e.head_at in
      let small : ((link_at l.links k).tail_at +ℤ (link_at l.links k).head_at) ≤ℤ pos (2 ^ 57) = omega (arith, ints, p.1, q.1, bt, bu) in
      let is = subst (λ n. layer_of (completed (map lowered tops) l.links) (n + k) ≡ joint_layer (map lowered tops) (link_at l.links k)) long (at_joint (map lowered tops) l.links k h) in
      let a = joint_from_zero (top_of (map lowered tops) (link_at l.links k).tail) (top_of (map lowered tops) (link_at l.links k).head) (link_at l.links k).tail_at (link_at l.links k).head_at (pos (2 ^ 57)) at.0 au.0 p.0 q.0 small in
      let b = joint_bounds (top_of (map lowered tops) (link_at l.links k).tail) (top_of (map lowered tops) (link_at l.links k).head) (link_at l.links k).tail_at (link_at l.links k).head_at (pos (2 ^ 57)) at.0 au.0 p.0 q.0 small in
      let c = at.1 in
      (omega (arith, ints, is, a), omega (arith, ints, is, b, c))

  low_lowest : lowest (map lowered tops) ≡ pos 0
  low_lowest = none_lowest (map lowered tops) (λ u h. let n = long in let w = low_within u (omega (arith, n, h)) in let a = w.0 in omega (arith, ints, a))

  in_range : (v : ℕ) → v < alone_of l + 1 → (pos 0 ≤ℤ layer_of (completed (map lowered tops) l.links) v) × (layer_of (completed (map lowered tops) l.links) v <ℤ pos (2 ^ 62))
  in_range v h =
      elim (cases_lt v (length l.units)) [
        | inl unit ↦ unit_in_range v unit
        | inr past ↦ elim (cases_lt v (length l.units + length l.links)) [
          | inl joint ↦ one_joint v past joint
          | inr last ↦
              let alone : layer_of (completed (map lowered tops) l.links) (length l.units + length l.links) ≡ lowest (map lowered tops) = subst (λ n. layer_of (completed (map lowered tops) l.links) (n + length l.links) ≡ lowest (map lowered tops)) long (at_alone (map lowered tops) l.links) in
              let is : v ≡ length l.units + length l.links = omega (arith, last, h) in
              let here = ap (layer_of (completed (map lowered tops) l.links)) is in
              let none = low_lowest in
              (omega (arith, ints, alone, here, none), omega (arith, ints, alone, here, none))
        ]
      ]
    where
      one_joint : (w : ℕ) → length l.units ≤ w → w < length l.units + length l.links → (pos 0 ≤ℤ layer_of (completed (map lowered tops) l.links) w) × (layer_of (completed (map lowered tops) l.links) w <ℤ pos (2 ^ 62))
      one_joint w past joint =
          let k : ℕ = w - length l.units in
          let is : w ≡ length l.units + k = omega (arith, past) in
          subst (λ n. (pos 0 ≤ℤ layer_of (completed (map lowered tops) l.links) n) × (layer_of (completed (map lowered tops) l.links) n <ℤ pos (2 ^ 62))) (sym is) (joint_in_range k (omega (arith, past, joint)))

  -- the tops, lowered, with the links' own nodes, and a layer 0 for the node that nothing holds
  pub completed_are : (map lowered tops ++ map (joint_layer (map lowered tops)) l.links) ++ pos 0 ∷ [] ≡ completed (map lowered tops) l.links
  completed_are =
      append_assoc (map lowered tops) (map (joint_layer (map lowered tops)) l.links) (pos 0 ∷ [])
      ∙ ap (λ z. map lowered tops ++ (map (joint_layer (map lowered tops)) l.links ++ z ∷ [])) (sym low_lowest)

  module _ (rows : List (List ℕ)) (are : AreRows l rows) (apart : AreApart l rows tops) where
    low_apart : All (IsApart l (map lowered tops)) (all_pairs l rows)
    low_apart = λ k d h.
        let p : PairFlow = get_or (all_pairs l rows) k d in
        let is = are_pairs l rows are k d h in
        let a = kept_distances l rows tops (record { as_many = apart.as_many; rooms = apart.room; body_rooms = apart.body_room }) k d h in
        let b = low_top p.upper is.upper_is in
        let c = low_top p.lower is.lower_is in
        omega (arith, ints, a, b, c)

    ends_below : All (HasEndsBelow (length l.units)) l.links
    ends_below = All-from_get_or (HasEndsBelow (length l.units)) l.links (record { edge = 0; tail = 0; head = 0; tail_rank = 0; head_rank = 0; tail_at = pos 0; head_at = pos 0 }) (link_ends l rows sound are)

    pub first_are : AreFirst l rows (completed (map lowered tops) l.links)
    first_are =
        record {
          as_many =
              let a = length-append (map lowered tops) (map (joint_layer (map lowered tops)) l.links ++ lowest (map lowered tops) ∷ []) in
              let b = length-append (map (joint_layer (map lowered tops)) l.links) (lowest (map lowered tops) ∷ []) in
              let c = length-map l.links (joint_layer (map lowered tops)) in
              let d = long in
              omega (arith, a, b, c, d);
          layering = is_layering l (all_pairs l rows) (map lowered tops) long ends_below (have_pins l rows sound are) (are_pairs l rows are) low_apart;
          from_zero = λ v h. (in_range v h).0;
          low = λ v h. (in_range v h).1;
        }
