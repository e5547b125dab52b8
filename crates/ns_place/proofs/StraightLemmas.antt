-- Links that are horizontal have no height, and weigh by it.
use Rattle.std.proofs.Common.{◌≡◌, ◌≢◌, ℕ, ◌<◌, ◌≤◌, cond, ℤ, pos, ◌-ℤ◌, List, length, map, replicate, Bool, true, false, None, arith, refl, ◌∙◌, inl, inr, eq-eqb, ne_eqb}
use Rattle.std.proofs.lemmas.Int.{ints}
use Rattle.std.proofs.lemmas.Bool.{cases_eq}
use Rattle.std.proofs.lemmas.List.{length-map, get_or-map}
use Rattle.std.proofs.lemmas.List.Elements.{All-from_get_or}
use Rattle.elk_layers.specs.declared.units.Link.{Link}
use Rattle.elk_layers.specs.Layered.{Plain, link_at}
use Rattle.bk_place.specs.Placement.{AreLinesOf}
use Rattle.ns_place.specs.Heights.{size, link_height}
use Rattle.ns_place.specs.Weighed.{greatest_weight, weight_at, AreWeights}
use Rattle.ns_place.specs.Straight.{weight_for, WeighStraight, AreStraightWeights}
use Rattle.ns_place.proofs.CostLemmas.{size_is}
use Rattle.ns_place.proofs.PlacingLemmas.{even_one, even_weigh}

flat_ends : (t h : ℤ) → size (h -ℤ t) ≡ 0 → t ≡ h
flat_ends t h e = elim (size_is (h -ℤ t)) [
  | inl s ↦ omega (arith, ints, e, s)
  | inr s ↦ omega (arith, ints, e, s)
]

horizontal_ends : (t h : ℤ) → t ≡ h → size (h -ℤ t) ≡ 0
horizontal_ends t h e = elim (size_is (h -ℤ t)) [
  | inl s ↦ omega (arith, ints, e, s)
  | inr s ↦ omega (arith, ints, e, s)
]

horizontal_weight : (straightness : ℕ) (tops : List ℤ) (link : Link) → link_height tops link ≡ 0 → weight_for straightness tops link ≡ straightness
horizontal_weight straightness tops link e = rw (eq-eqb (link_height tops link) 0 e) refl

other_weight : (straightness : ℕ) (tops : List ℤ) (link : Link) → link_height tops link ≢ 0 → weight_for straightness tops link ≡ 1
other_weight straightness tops link ne = rw (ne_eqb (link_height tops link) 0 ne) refl

small_weight : (straightness : ℕ) (flat : Bool) → straightness ≤ greatest_weight → cond flat straightness 1 ≤ greatest_weight
small_weight straightness true h = h
small_weight straightness false h = omega arith

module _ (l : Plain) (straightness : ℕ) (tops : List ℤ) where
  abbrev weights : List ℕ
  weights = map (weight_for straightness tops) l.links

  weight_is : (k : ℕ) → k < length l.links → weight_at (map (weight_for straightness tops) l.links) k ≡ weight_for straightness tops (link_at l.links k)
  weight_is k h = get_or-map (weight_for straightness tops) l.links k (record { edge = 0; tail = 0; head = 0; tail_rank = 0; head_rank = 0; tail_at = pos 0; head_at = pos 0 }) 0 h

  weigh_straight : WeighStraight l straightness tops (map (weight_for straightness tops) l.links)
  weigh_straight k h = elim (cases_eq (link_height tops (link_at l.links k)) 0) [
    | inl e ↦ record {
      horizontal = λ _. weight_is k h ∙ horizontal_weight straightness tops (link_at l.links k) e;
      other = λ n. absurd (n (flat_ends _ _ e));
    }
    | inr ne ↦ record {
      horizontal = λ e. absurd (ne (horizontal_ends _ _ e));
      other = λ _. weight_is k h ∙ other_weight straightness tops (link_at l.links k) ne;
    }
  ]

  pub small_weights : straightness ≤ greatest_weight → AreWeights l (map (weight_for straightness tops) l.links)
  small_weights small =
      record {
        one_each = length-map l.links (weight_for straightness tops);
        small = All-from_get_or (λ w. w ≤ greatest_weight) (map (weight_for straightness tops) l.links) 0
            (λ k h.
            let e = length-map l.links (weight_for straightness tops) in
            let is = weight_is k (omega (arith, e, h)) in
            rw is (small_weight straightness _ small));
      }

  pub aligned_weights : (rows : List (List ℕ)) → straightness ≢ 1 → AreLinesOf l rows None tops → AreStraightWeights l rows straightness (map (weight_for straightness tops) l.links)
  aligned_weights rows ne lines =
      record {
        one_each = length-map l.links (weight_for straightness tops);
        by_one = λ e. absurd (ne e);
        by_more = λ _. record { aligned = tops; are_lines = lines; by_straightness = weigh_straight };
      }

pub even_weights_are : (l : Plain) (rows : List (List ℕ)) (straightness : ℕ) → straightness ≡ 1 → AreStraightWeights l rows straightness (replicate (length l.links) 1)
even_weights_are l rows straightness e =
    record {
      one_each = (even_weigh l).one_each;
      by_one = λ _. even_one l.links;
      by_more = λ ne. absurd (ne e);
    }
