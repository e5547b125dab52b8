-- The reach of points that are taken one after another.
use Rattle.std.proofs.Common.{◌≡◌, List, [], ◌∷◌, ◌++◌, sym, ap, ◌∙◌, refl, ℕ, ◌+◌, ◌<◌, length, get_or, drop, Option, Some, None}
use Rattle.std.proofs.lemmas.List.{drop_more}
use Rattle.drawing_types.specs.declared.shape.Point.{Point}
use Rattle.drawing_types.specs.declared.shape.Rect.{Rect}
use Rattle.drawing_types.specs.declared.section.Section.{Section}
use Rattle.working_frame.specs.declared.spanning.Reach.{Reach}
use Rattle.working_frame.specs.Reach.{corners, corners_of, points_along, points_of}
use Rattle.working_frame.specs.Walk.{joined, reach_over}

pub same_reach : (p q : Reach) → p.low ≡ q.low → p.high ≡ q.high → p ≡ q
same_reach p q low high =
    let f : Point → Reach = λ z. record { low = z; high = p.high } in
    let g : Point → Reach = λ z. record { low = q.low; high = z } in
    ap f low ∙ ap g high

pub over_append : (o : Option Reach) (ps qs : List Point) → reach_over o (ps ++ qs) ≡ reach_over (reach_over o ps) qs
unfolding reach_over
over_append o [] qs = refl
over_append None (p ∷ ps) qs = over_append (Some (record { low = p; high = p })) ps qs
over_append (Some r) (p ∷ ps) qs = over_append (Some (joined r p)) ps qs

-- what is still to come after some points
pub over_more : (o next : Option Reach) (ps qs : List Point) → next ≡ reach_over o ps → reach_over next qs ≡ reach_over o (ps ++ qs)
over_more o next ps qs e = ap (λ z. reach_over z qs) e ∙ sym (over_append o ps qs)

-- the same for two points
pub over_two : (o next last : Option Reach) (low high p q : Point) → next ≡ reach_over o (p ∷ []) → last ≡ reach_over next (q ∷ []) → p ≡ low → q ≡ high
    → last ≡ reach_over o (low ∷ (high ∷ []))
over_two o next last low high p q n l ep eq =
    l ∙ ap (λ z. reach_over next (z ∷ [])) eq ∙ over_more o next (low ∷ []) (high ∷ []) (n ∙ ap (λ z. reach_over o (z ∷ [])) ep)

taken : {X : Type 0} (xs : List X) (i : ℕ) (x d : X) → i < length xs → x ≡ get_or xs i d → drop i xs ≡ x ∷ drop (i + 1) xs
taken xs i x d h e = drop_more xs i d h ∙ ap (λ z. z ∷ drop (i + 1) xs) (sym e)

pub point_taken : (o next : Option Reach) (ps : List Point) (i : ℕ) (p d : Point) → i < length ps → p ≡ get_or ps i d → next ≡ reach_over o (p ∷ [])
    → reach_over next (drop (i + 1) ps) ≡ reach_over o (drop i ps)
point_taken o next ps i p d h e n =
    over_more o next (p ∷ []) (drop (i + 1) ps) n ∙ ap (reach_over o) (sym (taken ps i p d h e))

pub outline_taken : (o next : Option Reach) (rs : List Rect) (i : ℕ) (r d : Rect) → i < length rs → r ≡ get_or rs i d → next ≡ reach_over o (corners r)
    → reach_over next (corners_of (drop (i + 1) rs)) ≡ reach_over o (corners_of (drop i rs))
unfolding corners_of
outline_taken o next rs i r d h e n =
    over_more o next (corners r) (corners_of (drop (i + 1) rs)) n ∙ ap (λ z. reach_over o (corners_of z)) (sym (taken rs i r d h e))

pub section_taken : (o next : Option Reach) (ss : List Section) (i : ℕ) (s d : Section) → i < length ss → s ≡ get_or ss i d → next ≡ reach_over o (points_along s)
    → reach_over next (points_of (drop (i + 1) ss)) ≡ reach_over o (points_of (drop i ss))
unfolding points_of
section_taken o next ss i s d h e n =
    over_more o next (points_along s) (points_of (drop (i + 1) ss)) n ∙ ap (λ z. reach_over o (points_of z)) (sym (taken ss i s d h e))
