-- How many members of a list pass a test before each place.
use Rattle.std.proofs.Common.{◌≡◌, ℕ, ◌+◌, ◌-◌, ◌<◌, ◌≤◌, ⊎_elim, List, [], ◌∷◌, ◌++◌, length, min, map, take, get_or, Bool, true, false, cond, refl, ap, sym, ◌∙◌, arith}
use Rattle.std.specs.Prelude.{filter, not}
use Rattle.std.specs.List.{range_with_len}
use Rattle.std.proofs.lemmas.Bool.{cases_lt}
use Rattle.std.proofs.lemmas.List.{length-take, take_all}
use Rattle.std.proofs.lemmas.List.Filters.{length-filter_more, length-filter_both}
use Rattle.std.proofs.lemmas.List.FromFn.{map-range_with_len_more, get_or-map-range_with_len, length-map-range_with_len}
use Rattle.std.proofs.lemmas.Option.{get_or_from_slice_get}
use Rattle.elk_json.specs.declared.elements.Element.{Element}
use Rattle.elk_json.specs.Elements as spec
use Rattle.elk_json.specs.Counts.{counts}
use Rattle.elk_json.specs.Seen.{seen, seen_list}
use Rattle.elk_json.proofs.BuildLaws.{seen_at}
use Rattle.elk_json.proofs.Collected.{length_seen}
use Rattle.elk_json.proofs.Places.{number}

-- the number of the next place
pub number_more : (test : spec.Element → Bool) (es : List Element) (i : ℕ) (e : Element) → i < length es → e ≡ get_or es i e
    → number test (seen_list es) (i + 1) ≡ number test (seen_list es) i + cond (test (seen e)) 1 0
number_more test es i e h is =
    let long : length (seen_list es) ≡ length es = length_seen es in
    let here : get_or (seen_list es) i (seen e) ≡ seen e = get_or_from_slice_get (seen_list es) i (seen e) (seen e) (seen_at es i e h is) in
    length-filter_more test (seen_list es) i (seen e) (omega arith) ∙ ap (λ x. number test (seen_list es) i + cond (test x) 1 0) here

pub number_within : {X : Type 0} (test : X → Bool) (xs : List X) (i : ℕ) → number test xs i ≤ length xs
number_within test xs i =
    let both : length (filter test (take i xs)) + length (filter (λ x. not (test x)) (take i xs)) ≡ length (take i xs) = length-filter_both test (λ x. not (test x)) (λ _. refl) (take i xs) in
    let front : length (take i xs) ≡ min i (length xs) = length-take i xs in
    omega arith

number_past : {X : Type 0} (test : X → Bool) (xs : List X) (i : ℕ) → number test xs (min i (length xs)) ≡ number test xs i
number_past test xs i =
    ⊎_elim
    (λ (h : i < length xs). ap (number test xs) (let e : min i (length xs) ≡ i = omega arith in e))
    (λ (h : length xs ≤ i). ap (λ ys. length (filter test ys))
    (let e : min i (length xs) ≡ length xs = omega arith in ap (λ n. take n xs) e ∙ take_all (length xs) xs (omega arith) ∙ sym (take_all i xs h)))
    (cases_lt i (length xs))

-- the list of counts, one on
pub counts_more : (test : spec.Element → Bool) (es : List spec.Element) (i : ℕ) → map (number test es) (range_with_len 0 (i + 1)) ≡ map (number test es) (range_with_len 0 i) ++ number test es i ∷ []
counts_more test es i = map-range_with_len_more (number test es) 0 i i (omega arith)

pub length_counts : (test : spec.Element → Bool) (es : List spec.Element) → length (counts test es) ≡ length es + 1
length_counts test es = length-map-range_with_len (number test es) 0 (length es + 1)

-- the count at a place, or at the end
pub count_there : (test : spec.Element → Bool) (es : List spec.Element) (ns : List ℕ) (i : ℕ) → ns ≡ counts test es → get_or ns (min i (length ns - 1)) 0 ≡ number test es i
count_there test es ns i is =
    let long : length ns ≡ length es + 1 = ap length is ∙ length_counts test es in
    let at : min i (length ns - 1) ≡ min i (length es) = omega arith in
    ap (λ l. get_or l (min i (length ns - 1)) 0) is ∙ ap (λ n. get_or (counts test es) n 0) at
    ∙ get_or-map-range_with_len (number test es) 0 (length es + 1) (min i (length es)) (min i (length es)) 0 (omega arith) (omega arith)
    ∙ number_past test es i

small_step : (b : Bool) (old new i : ℕ) → old ≤ i → new ≡ old + cond b 1 0 → new ≤ i + 1
small_step true old new i h e = omega arith
small_step false old new i h e = omega arith

-- what a loop has counted, one on
pub counted_next : (test : spec.Element → Bool) (es : List Element) (i : ℕ) (e : Element) (old new : ℕ) → i < length es → e ≡ get_or es i e
    → old ≡ number test (seen_list es) i → old ≤ i → new ≡ old + cond (test (seen e)) 1 0 → (new ≡ number test (seen_list es) (i + 1)) × (new ≤ i + 1)
counted_next test es i e old new h is before small step =
    let next = number_more test es i e h is in
    let same : new ≡ number test (seen_list es) (i + 1) = step ∙ ap (λ n. n + cond (test (seen e)) 1 0) before ∙ sym next in
    (same, small_step (test (seen e)) old new i small step)

pub items_next : (test : spec.Element → Bool) (es : List spec.Element) (i count : ℕ) (old new : List ℕ) → new ≡ old ++ count ∷ [] → old ≡ map (number test es) (range_with_len 0 i) → count ≡ number test es i
    → new ≡ map (number test es) (range_with_len 0 (i + 1))
items_next test es i count old new push before is =
    push ∙ ap (λ l. l ++ count ∷ []) before ∙ ap (λ n. map (number test es) (range_with_len 0 i) ++ n ∷ []) is ∙ sym (counts_more test es i)

-- at the end of the elements
pub items_last : (test : spec.Element → Bool) (es : List Element) (i count : ℕ) (old new : List ℕ) → length es ≤ i → i ≤ length es → new ≡ old ++ count ∷ [] → old ≡ map (number test (seen_list es)) (range_with_len 0 i) → count ≡ number test (seen_list es) i
    → new ≡ counts test (seen_list es)
items_last test es i count old new past end push before is =
    let long : length (seen_list es) ≡ length es = length_seen es in
    let at : i ≡ length (seen_list es) = omega arith in
    items_next test (seen_list es) i count old new push before is ∙ ap (λ n. map (number test (seen_list es)) (range_with_len 0 (n + 1))) at

-- what a look-up gives
pub number_there : (test : spec.Element → Bool) (es : List spec.Element) (items ns : List ℕ) (i n : ℕ) → ns ≡ items → items ≡ counts test es → n ≡ get_or ns (min i (length ns - 1)) 0 → n ≡ number test es i
number_there test es items ns i n slice is read = read ∙ count_there test es ns i (slice ∙ is)

pub few_there : (test : spec.Element → Bool) (es : List spec.Element) (i n : ℕ) → n ≡ number test es i → length es ≤ 8192 → n ≤ 8192
few_there test es i n is few =
    let within : number test es i ≤ length es = number_within test es i in
    omega arith
