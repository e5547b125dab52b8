-- Outlines of which no end meets a stretch lie off it.
use Rattle.std.proofs.Common.{◌≡◌, ◌⊎◌, Bool, ⊎_elim, inl, inr, List, [], ◌∷◌, ◌++◌, length-append, subst, sym, ◌∙◌, ap, ℕ, ◌+◌, ◌-◌, ◌<◌, ◌≤◌, ◌^◌, ℤ, pos, ◌≤ℤ◌, ◌<ℤ◌, length, take, drop, arith}
use Rattle.std.proofs.lemmas.Bool.{cases_lt, cases_eq}
use Rattle.std.proofs.lemmas.List.{get_or_push, get_or_append_left, get_or-take, get_or-drop, length-take, length-drop}
use Rattle.std.proofs.lemmas.Int.{ints, by_lt_z}
use Rattle.elk_doc.specs.Document.{Document}
use Rattle.elk_doc.specs.Drawing.{section_of}
use Rattle.elk_doc.specs.Level.{source_node, target_node}
use Rattle.elk_doc.specs.Places.{outline_of}
use Rattle.elk_doc.specs.declared.drawing.Placed.{Placed}
use Rattle.lane_count.specs.Meets.{Meets}
use Rattle.layout_check.specs.declared.bounds.RouteBounds.{RouteBounds}
use Rattle.layout_check.specs.Bounds.{HoldsRoute, LieOff}
use Rattle.layout_check.specs.Ends.{AreHighEnds, AreLowEnds, Each, EndsClear, IsHighEnd, MeetNone, end_along, low_along, number_in}
use Rattle.layout_check.specs.FirstRoutes.{ChildClear}
use Rattle.layout_check.proofs.BoundsLaws.{route_off}

-- a list with one number more
pub each_push : (P : ℕ → ℤ → Type 0) (n : ℕ) (xs ys : List ℤ) (v : ℤ) → Each P n xs → P n v → ys ≡ xs ++ v ∷ [] → Each P (n + 1) ys
each_push P n xs ys v h held grown =
    rw grown
    (record {
      count = omega (arith, length-append xs (v ∷ []), h.count);
      each = λ i l.
          elim (cases_lt i n) [
            | inl under ↦
                let was : number_in (xs ++ v ∷ []) i ≡ number_in xs i = get_or_append_left xs (v ∷ []) (pos 0) i (omega (arith, h.count)) in
                subst (λ z. P i z) (sym was) (h.each i under)
            | inr over ↦
                let same : i ≡ n = omega arith in
                let now : number_in (xs ++ v ∷ []) n ≡ v = get_or_push xs v (pos 0) n h.count in
                let last : P n (number_in (xs ++ v ∷ []) n) = subst (λ z. P n z) (sym now) held in
                subst (λ k. P k (number_in (xs ++ v ∷ []) k)) (sym same) last
          ];
    })

-- a part of a list
part_at : (xs : List ℤ) (from to i : ℕ) → from ≤ i → i < to → number_in (take (to - from) (drop from xs)) (i - from) ≡ number_in xs i
part_at xs from to i above below =
    let inside : i - from < to - from = omega arith in
    let there : from + (i - from) ≡ i = omega arith in
    get_or-take (to - from) (drop from xs) (i - from) (pos 0) inside ∙ get_or-drop from xs (i - from) (pos 0) ∙ ap (number_in xs) there

pub none_in_part : (lo hi : List ℤ) (from to : ℕ) (a b : ℤ) → to ≤ length lo → (Meets (take (to - from) (drop from lo)) (take (to - from) (drop from hi)) a b → ⊥) → MeetNone lo hi from to a b
none_in_part lo hi from to a b inside none i above below low high =
    let l : i - from < length (take (to - from) (drop from lo)) = omega (arith, length-take (to - from) (drop from lo), length-drop from lo) in
    let P : ℤ → Type 0 = λ z. z ≤ℤ b in
    let Q : ℤ → Type 0 = λ z. a ≤ℤ z in
    none (i - from, l, subst P (sym (part_at lo from to i above below)) low, subst Q (sym (part_at hi from to i above below)) high)

-- a stretch that another doesn't meet ends before it, or begins behind it
pub off_along : (low end lo hi a b : ℤ) → lo ≡ low → IsHighEnd end hi → a ≤ℤ pos (2 ^ 63 - 1) → (lo ≤ℤ b → a ≤ℤ hi → ⊥) → (b <ℤ low) ⊎ (end <ℤ a)
off_along low end lo hi a b same high fits none =
    by_lt_z b low
    (λ less. inl less)
    (λ not_less.
    by_lt_z hi a
    (λ under. inr (high a fits under))
    (λ not_under.
    let first : lo ≤ℤ b = omega (arith, ints, same, not_less) in
    let second : a ≤ℤ hi = omega (arith, ints, not_under) in
    absurd (none first second)))

-- a route that is clear of its end nodes is clear of all else that lies off its bounds
pub clear_if_off : (d : Document) (p : Placed) (n e a : ℕ) (b : RouteBounds) → EndsClear d p n e → HoldsRoute b (section_of p e) → LieOff b (outline_of d p a) → ChildClear d p n e a
clear_if_off d p n e a b own held off =
    elim (cases_eq (source_node d e) a) [
      | inl source ↦ subst (ChildClear d p n e) source own.source
      | inr no_source ↦
          elim (cases_eq (target_node d e) a) [
            | inl target ↦ subst (ChildClear d p n e) target own.target
            | inr no_target ↦ λ _.
                let no_end : (source_node d e ≡ a) ⊎ (target_node d e ≡ a) → ⊥ = ⊎_elim no_source no_target in
                record { foreign = λ _ _. route_off b (section_of p e) (outline_of d p a) held off; own = λ o. absurd (no_end o) }
          ]
    ]

-- the outlines of a part of the nodes, of which none meets a stretch along y, or along x
pub off_in_part : (d : Document) (p : Placed) (down : Bool) (lo hi : List ℤ) (from to : ℕ) (a b : ℤ) → AreLowEnds d p down (length d.nodes) lo → AreHighEnds d p down (length d.nodes) hi → to ≤ length d.nodes → a ≤ℤ pos (2 ^ 63 - 1) → MeetNone lo hi from to a b → (k : ℕ) → from ≤ k → k < to → (b <ℤ low_along down (outline_of d p k)) ⊎ (end_along down (outline_of d p k) <ℤ a)
off_in_part d p down lo hi from to a b low high inside fits none k above below =
    let l : k < length d.nodes = omega (arith, inside, below) in
    off_along (low_along down (outline_of d p k)) (end_along down (outline_of d p k)) (number_in lo k) (number_in hi k) a b (low.each k l) (high.each k l) fits (none k above below)
