-- The links that a sweep chooses: at each unit, in the order of visits, the first of its medians that is free.
use Rattle.std.specs.Prelude.{ℕ, ◌-◌, ◌/◌, ◌==◌, cond, List, [], ◌∷◌, ◌++◌, reverse, length, drop, Bool, true, false, not, ◌&&◌, ◌||◌}
use Rattle.std.specs.Prelude.{nat_le, nat_lt, slice_index, map}
use Rattle.std.specs.List.{filter, list_any, list_all, range_with_len, concat}
use Rattle.elk_layers.specs.declared.units.Link.{Link}
use Rattle.drawing_types.specs.declared.sweep.Sweep.{Sweep}
use Rattle.drawing_types.specs.declared.sweep.Sweep.TheVariants.{LeftUp, LeftDown, RightUp, RightDown}
use Rattle.elk_layers.specs.Layered.{Plain, link_at, gap_of, tail_key, head_key, place_of, is_lane}
use Rattle.elk_layers.specs.Crossings.{cross}
use Rattle.elk_layers.specs.Sweeps.{sorted_by}

abbrev pub goes_left : Sweep → Bool
goes_left LeftUp = true
goes_left LeftDown = true
goes_left RightUp = false
goes_left RightDown = false

abbrev pub goes_up : Sweep → Bool
goes_up LeftUp = true
goes_up LeftDown = false
goes_up RightUp = true
goes_up RightDown = false

-- the visited unit's end of a link, the other end, and that end's key
abbrev pub near_end : Sweep → Link → ℕ
near_end sweep l = cond (goes_left sweep) l.head l.tail

abbrev pub far_end : Sweep → Link → ℕ
far_end sweep l = cond (goes_left sweep) l.tail l.head

abbrev pub far_key : Plain → List (List ℕ) → Sweep → Link → ℕ
far_key layered rows sweep l = cond (goes_left sweep) (tail_key layered rows l) (head_key layered rows l)

abbrev pub far_place : Plain → List (List ℕ) → Sweep → Link → ℕ
far_place layered rows sweep l = place_of layered rows (far_end sweep l)

-- the units in the order in which the sweep visits them
abbrev pub visited_row : Sweep → List ℕ → List ℕ
visited_row sweep row = cond (goes_up sweep) row (reverse row)

abbrev pub visits : Sweep → List (List ℕ) → List ℕ
visits sweep rows =
    concat (map (visited_row sweep) (cond (goes_left sweep) (drop 1 rows) (drop 1 (reverse rows))))

abbrev pub is_inner : Plain → Link → Bool
is_inner layered l = is_lane layered l.tail && is_lane layered l.head

-- a link that is not inner and crosses an inner one
abbrev pub is_marked : Plain → List (List ℕ) → Link → Bool
is_marked layered rows l =
    not (is_inner layered l) && list_any (λ other. is_inner layered other && cross layered rows l other) layered.links

-- the numbers of a unit's links on the side that the sweep looks to, by the far end's key and then by number
abbrev pub sorted_links : Plain → List (List ℕ) → Sweep → ℕ → List ℕ
sorted_links layered rows sweep u =
    sorted_by
    (λ j k. nat_le (far_key layered rows sweep (link_at layered.links j)) (far_key layered rows sweep (link_at layered.links k)))
    (filter (λ k. near_end sweep (link_at layered.links k) == u) (range_with_len 0 (length layered.links)))

-- the one or two in the middle, in the order in which they are tried
abbrev pub medians_in : Bool → List ℕ → List ℕ
medians_in up [] = []
medians_in up (k ∷ ks) =
    let m = length (k ∷ ks) in
    let low = slice_index (k ∷ ks) ((m - 1) / 2) in
    let high = slice_index (k ∷ ks) (m / 2) in
    cond up (low ∷ high ∷ []) (high ∷ low ∷ [])

-- the far place lies strictly beyond another, in the direction of the visits
abbrev pub is_beyond : Sweep → ℕ → ℕ → Bool
is_beyond sweep here other = cond (goes_up sweep) (nat_lt other here) (nat_lt here other)

-- a link that may be chosen after these
abbrev pub is_free : Plain → List (List ℕ) → Sweep → List ℕ → ℕ → Bool
is_free layered rows sweep chosen k =
    let l = link_at layered.links k in
    not (is_marked layered rows l)
    && list_all
    (λ j. let other = link_at layered.links j in
    not (far_end sweep other == far_end sweep l)
    && (not (gap_of layered other == gap_of layered l)
    || is_beyond sweep (far_place layered rows sweep l) (far_place layered rows sweep other)))
    chosen

-- the first that passes, alone, or nothing
abbrev pub first_of : (ℕ → Bool) → List ℕ → List ℕ
first_of passes [] = []
first_of passes (k ∷ ks) = cond (passes k) (k ∷ []) (first_of passes ks)

-- what a visit adds to the links chosen before it
abbrev pub chosen_at : Plain → List (List ℕ) → Sweep → List ℕ → ℕ → List ℕ
chosen_at layered rows sweep chosen u =
    first_of (is_free layered rows sweep chosen) (medians_in (goes_up sweep) (sorted_links layered rows sweep u))

abbrev pub chosen_after : Plain → List (List ℕ) → Sweep → List ℕ → List ℕ → List ℕ
chosen_after layered rows sweep chosen [] = chosen
chosen_after layered rows sweep chosen (u ∷ us) =
    chosen_after layered rows sweep (chosen ++ chosen_at layered rows sweep chosen u) us

abbrev pub aligned : Plain → List (List ℕ) → Sweep → List ℕ
aligned layered rows sweep = chosen_after layered rows sweep [] (visits sweep rows)
