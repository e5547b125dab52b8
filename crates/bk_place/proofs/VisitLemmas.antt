-- The units in the order of the visits.
use Rattle.std.proofs.Common.{◌≡◌, ℕ, ◌+◌, ◌-◌, ◌<◌, ◌≤◌, cond, List, [], ◌∷◌, ◌++◌, length, map, take, drop, reverse, get_or, Bool, arith, refl, sym, ◌∙◌, ap, append-nil, append_assoc, take_all}
use Rattle.std.specs.List.{concat}
use Rattle.std.proofs.lemmas.List.{get_or-reverse, length-reverse, get_or-drop, length-drop, take_more, map-append}
use Rattle.std.proofs.lemmas.List.Folds.{concat-append}
use Rattle.drawing_types.specs.declared.sweep.Sweep.{Sweep}
use Rattle.drawing_types.specs.declared.sweep.Sweep.TheVariants.{LeftUp, LeftDown, RightUp, RightDown}
use Rattle.elk_layers.specs.Layered.{row_at}
use Rattle.elk_layers.specs.Alignment.{goes_left, goes_up, visited_row, visits}
use Rattle.bk_place.specs.Visits.{rows_in_order}

visited_long : (s : Sweep) (row : List ℕ) → length (visited_row s row) ≡ length row
visited_long LeftUp row = refl
visited_long RightUp row = refl
visited_long LeftDown row = length-reverse row
visited_long RightDown row = length-reverse row

visited_at : (s : Sweep) (row : List ℕ) (i : ℕ) → i < length row → get_or (visited_row s row) i 0 ≡ get_or row (cond (goes_up s) i (length row - 1 - i)) 0
visited_at LeftUp row i h = refl
visited_at RightUp row i h = refl
visited_at LeftDown row i h = get_or-reverse row i 0 h
visited_at RightDown row i h = get_or-reverse row i 0 h

pub row_next : (s : Sweep) (row start now : List ℕ) (i at : ℕ) (up : Bool) → i < length row → up ≡ goes_up s → at ≡ cond up i (length row - 1 - i) → now ≡ start ++ take i (visited_row s row)
    → now ++ get_or row at 0 ∷ [] ≡ start ++ take (i + 1) (visited_row s row)
row_next s row start now i at up h e f so =
    let long = visited_long s row in
    let is : at ≡ cond (goes_up s) i (length row - 1 - i) = f ∙ ap (λ b. cond b i (length row - 1 - i)) e in
    let here : get_or row at 0 ≡ get_or (visited_row s row) i 0 = ap (λ p. get_or row p 0) is ∙ sym (visited_at s row i h) in
    rw (so, here, take_more (visited_row s row) i 0 (omega (arith, h, long))) (append_assoc start (take i (visited_row s row)) (get_or (visited_row s row) i 0 ∷ []))

pub row_whole : (s : Sweep) (row : List ℕ) (i : ℕ) → length row ≤ i → take i (visited_row s row) ≡ visited_row s row
row_whole s row i h = let long = visited_long s row in take_all i (visited_row s row) (omega (arith, h, long))

order_long : (s : Sweep) (rows : List (List ℕ)) → length (rows_in_order s rows) ≡ length rows - 1
order_long LeftUp rows = length-drop 1 rows
order_long LeftDown rows = length-drop 1 rows
order_long RightUp rows = let a : length (drop 1 (reverse rows)) ≡ length (reverse rows) - 1 = length-drop 1 (reverse rows) in let b : length (reverse rows) ≡ length rows = length-reverse rows in omega (arith, a, b)
order_long RightDown rows = let a : length (drop 1 (reverse rows)) ≡ length (reverse rows) - 1 = length-drop 1 (reverse rows) in let b : length (reverse rows) ≡ length rows = length-reverse rows in omega (arith, a, b)

order_at : (s : Sweep) (rows : List (List ℕ)) (i : ℕ) → 1 ≤ i → i < length rows → row_at (rows_in_order s rows) (i - 1) ≡ row_at rows (cond (goes_left s) i (length rows - 1 - i))
order_at s rows i low h = by_side s
  where
    on : 1 + (i - 1) ≡ i
    on = omega (arith, low)

    right : row_at (drop 1 rows) (i - 1) ≡ row_at rows i
    right = get_or-drop 1 rows (i - 1) [] ∙ ap (row_at rows) on

    left : row_at (drop 1 (reverse rows)) (i - 1) ≡ row_at rows (length rows - 1 - i)
    left = get_or-drop 1 (reverse rows) (i - 1) [] ∙ ap (row_at (reverse rows)) on ∙ get_or-reverse rows i [] h

    by_side : (s : Sweep) → row_at (rows_in_order s rows) (i - 1) ≡ row_at rows (cond (goes_left s) i (length rows - 1 - i))
    by_side LeftUp = right
    by_side LeftDown = right
    by_side RightUp = left
    by_side RightDown = left

pub rows_next : (s : Sweep) (rows : List (List ℕ)) (i at : ℕ) (left : Bool) (row now next : List ℕ) → 1 ≤ i → i < length rows → left ≡ goes_left s → at ≡ cond left i (length rows - 1 - i) → row_at rows at ≡ row
    → now ≡ concat (map (visited_row s) (take (i - 1) (rows_in_order s rows))) → next ≡ now ++ visited_row s row
    → next ≡ concat (map (visited_row s) (take (i + 1 - 1) (rows_in_order s rows)))
rows_next s rows i at left row now next low h e f is so more =
    let long = order_long s rows in
    let on : i + 1 - 1 ≡ i - 1 + 1 = omega (arith, low) in
    let at_is : at ≡ cond (goes_left s) i (length rows - 1 - i) = f ∙ ap (λ b. cond b i (length rows - 1 - i)) e in
    let here : row ≡ row_at (rows_in_order s rows) (i - 1) = sym is ∙ ap (row_at rows) at_is ∙ sym (order_at s rows i low h) in
    let rs : List (List ℕ) = rows_in_order s rows in
    rw (on, take_more (rows_in_order s rows) (i - 1) [] (omega (arith, long, low, h)), map-append (visited_row s) (take (i - 1) (rows_in_order s rows)) (row_at (rows_in_order s rows) (i - 1) ∷ []), concat-append (map (visited_row s) (take (i - 1) (rows_in_order s rows))) (visited_row s (row_at (rows_in_order s rows) (i - 1)) ∷ []))
    (more ∙ ap (λ xs. xs ++ visited_row s row) so ∙ ap (λ xs. concat (map (visited_row s) (take (i - 1) (rows_in_order s rows))) ++ visited_row s xs) here
    ∙ ap (λ xs. concat (map (visited_row s) (take (i - 1) (rows_in_order s rows))) ++ xs) (sym (append-nil (visited_row s (row_at (rows_in_order s rows) (i - 1))))))

pub rows_whole : (s : Sweep) (rows : List (List ℕ)) (i : ℕ) (now : List ℕ) → length rows ≤ i → now ≡ concat (map (visited_row s) (take (i - 1) (rows_in_order s rows))) → now ≡ visits s rows
rows_whole s rows i now h so =
    let long = order_long s rows in
    so ∙ ap (λ rs. concat (map (visited_row s) rs)) (take_all (i - 1) (rows_in_order s rows) (omega (arith, long, h)))
