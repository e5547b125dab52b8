-- The links that one crosses stand together in the order by gap and tail key.
use Rattle.std.proofs.Common.{◌≡◌, ◌≢◌, ℕ, ◌+◌, ◌-◌, ◌*◌, ◌<◌, ◌≤◌, List, length, get_or, take, drop, map, Bool, false, ◌&&◌, refl, arith, sym, ◌∙◌, ap, subst, inl, inr, ltb, eqb, eq-eqb}
use Rattle.std.proofs.lemmas.Bool.{cases_eq, cases_lt, ne_eqb, le-ltb, lt-ltb, and_right}
use Rattle.std.specs.List.{All, count_by}
use Rattle.std.specs.List.Sorted.{IsPermutation}
use Rattle.std.proofs.lemmas.List.{drop_all, get_or-drop, get_or-take, length-drop, length-take, drop-map, take-map}
use Rattle.std.proofs.lemmas.List.Elements.{All-get_or, All-from_get_or, All-map, All-weaker}
use Rattle.std.proofs.lemmas.List.Sorted.{length_permutation, All-permutation}
use Rattle.elk_layers.specs.Layered.{Plain, IsSound, IsSoundLink}
use Rattle.elk_layers.specs.Crossings.{crossings}
use Rattle.cross_reduce.specs.declared.counting.LinkEnd.{LinkEnd}
use Rattle.elk_layers.specs.Places.{ArePlaces}
use Rattle.cross_reduce.specs.Places.{FitPlaces}
use Rattle.cross_reduce.specs.Pins.{pin_at, pin_of, pin_from, pins_of, start_of, is_under, crossed, HasSmallTail, IsBegin, EndsBelow}
use Rattle.cross_reduce.proofs.CrossingLemmas.{count_drop, count_take, count_same, crossed_is, crossed_permuted}
use Rattle.cross_reduce.proofs.PlaceLemmas.{map_same, links_sound}

other_gap : (b a : LinkEnd) → b.gap ≢ a.gap → is_under b a ≡ false
other_gap b a n = rw (ne_eqb b.gap a.gap n) refl

not_above : (b a : LinkEnd) → a.tail ≤ b.tail → is_under b a ≡ false
not_above b a h = rw (le-ltb b.tail a.tail h) (and_right (eqb b.gap a.gap) (false && (ltb a.head b.head)) refl)

earlier : (b a : LinkEnd) → start_of b < a.gap * 4294967296 → is_under b a ≡ false
earlier b a h = other_gap b a (λ e. let f : b.gap * 4294967296 ≡ a.gap * 4294967296 = ap (λ g. g * 4294967296) e in omega (arith, h, f))

later : (b a : LinkEnd) → start_of a ≤ start_of b → is_under b a ≡ false
later b a h =
    elim (cases_eq b.gap a.gap) [
      | inl e ↦ not_above b a (let f : b.gap * 4294967296 ≡ a.gap * 4294967296 = ap (λ g. g * 4294967296) e in omega (arith, h, f))
      | inr n ↦ other_gap b a n
    ]

within : (b a : LinkEnd) → HasSmallTail b → HasSmallTail a → a.gap * 4294967296 ≤ start_of b → start_of b < start_of a → is_under b a ≡ ltb a.head b.head
within b a hb ha low high =
    let same : b.gap ≡ a.gap = omega (arith, hb, ha, low, high) in
    let less : b.tail < a.tail = omega (arith, same, high) in
    rw (eq-eqb b.gap a.gap same, lt-ltb b.tail a.tail less) refl

pub window : (pins : List LinkEnd) (pin : LinkEnd) (first end : ℕ) → All HasSmallTail pins → HasSmallTail pin → end ≤ length pins
    → ((j : ℕ) → j < first → start_of (pin_at pins j) < pin.gap * 4294967296)
    → ((j : ℕ) → first ≤ j → j < length pins → pin.gap * 4294967296 ≤ start_of (pin_at pins j))
    → ((j : ℕ) → j < end → start_of (pin_at pins j) < start_of pin)
    → ((j : ℕ) → end ≤ j → j < length pins → start_of pin ≤ start_of (pin_at pins j))
    → count_by (λ x. ltb pin.head x) (take (end - first) (drop first (map (λ (p : LinkEnd). p.head) pins))) ≡ count_by (λ b. is_under b pin) pins
window pins pin first end all small bound before from below behind =
    let d : LinkEnd = record { gap = 0; tail = 0; head = 0 } in
    let test : LinkEnd → Bool = λ b. is_under b pin in
    let one : count_by (λ b. is_under b pin) pins ≡ count_by (λ b. is_under b pin) (drop first pins) =
    count_drop (λ b. is_under b pin) d first pins (λ j less l. earlier (get_or pins j d) pin (before j less))
    in
    let two : count_by (λ b. is_under b pin) (drop first pins) ≡ count_by (λ b. is_under b pin) (take (end - first) (drop first pins)) =
    count_take (λ b. is_under b pin) d (end - first) (drop first pins)
    (λ j less l. subst (λ (x : LinkEnd). is_under x pin ≡ false) (sym (get_or-drop first pins j d))
    (later (get_or pins (first + j) d) pin (behind (first + j) (omega (arith, less)) (omega (arith, l, length-drop first pins)))))
    in
    let three : count_by (λ b. is_under b pin) (take (end - first) (drop first pins)) ≡ count_by (λ x. ltb pin.head x) (map (λ (p : LinkEnd). p.head) (take (end - first) (drop first pins))) =
    count_same (λ b. is_under b pin) (λ x. ltb pin.head x) (λ (p : LinkEnd). p.head) d (take (end - first) (drop first pins))
    (λ j l. let short : j < end - first = omega (arith, l, length-take (end - first) (drop first pins)) in
    let inside : first + j < length pins = omega (arith, short, bound) in
    subst (λ (x : LinkEnd). is_under x pin ≡ ltb pin.head x.head) (sym (get_or-take (end - first) (drop first pins) j d short ∙ get_or-drop first pins j d))
    (within (get_or pins (first + j) d) pin (All-get_or HasSmallTail pins (first + j) d inside all) small (from (first + j) (omega arith) inside) (below (first + j) (omega (arith, short)))))
    in
    sym (one ∙ two ∙ three ∙ ap (count_by (λ x. ltb pin.head x)) (sym (take-map (λ (p : LinkEnd). p.head) (end - first) (drop first pins)) ∙ ap (take (end - first)) (sym (drop-map (λ (p : LinkEnd). p.head) first pins))))

pub pins_are : (l : Plain) (rows : List (List ℕ)) (place : List ℕ) → IsSound l → ArePlaces l rows place → map (pin_from l place) l.links ≡ pins_of l rows
pins_are l rows place sound s =
    map_same (IsSoundLink l) (pin_from l place) (pin_of l rows) l.links (links_sound l sound) (λ x k. rw (s.place_is x.tail k.tail, s.place_is x.head k.head) refl)

pub pins_fit : (l : Plain) (place : List ℕ) (pins : List LinkEnd) → IsSound l → FitPlaces l place → IsPermutation (map (pin_from l place) l.links) pins → All HasSmallTail pins
pins_fit l place pins sound fit p =
    All-permutation HasSmallTail (map (pin_from l place) l.links) pins p
    (All-map HasSmallTail (pin_from l place) l.links (All-weaker (IsSoundLink l) (λ x. HasSmallTail (pin_from l place x))
    (λ x k. let a = fit.small x.tail k.tail in omega (arith, a, k.tail_rank)) l.links (links_sound l sound)))

pub crossed_sorted : (l : Plain) (rows : List (List ℕ)) (place : List ℕ) (pins : List LinkEnd) → IsSound l → ArePlaces l rows place → IsPermutation (map (pin_from l place) l.links) pins → crossed pins ≡ crossings l rows
crossed_sorted l rows place pins sound s p =
    crossed_permuted (map (pin_from l place) l.links) pins p ∙ ap crossed (pins_are l rows place sound s) ∙ crossed_is l rows

pub few_pins : (l : Plain) (place : List ℕ) (pins : List LinkEnd) → IsSound l → IsPermutation (map (pin_from l place) l.links) pins → length pins ≤ 16777216
few_pins l place pins sound p =
    let a = length_permutation (map (pin_from l place) l.links) pins p in
    let b = Rattle.std.proofs.lemmas.List.length-map l.links (pin_from l place) in
    omega (arith, a, b, sound.few_links)

-- the window of a pin, by the counts of pins that begin before its gap and before it
pub window_of : (pins : List LinkEnd) (i gap first end : ℕ) → All HasSmallTail pins → i < length pins → gap ≡ (pin_at pins i).gap * 4294967296
    → IsBegin pins gap first → IsBegin pins (start_of (pin_at pins i)) end
    → count_by (λ x. ltb (pin_at pins i).head x) (take (end - first) (drop first (map (λ (p : LinkEnd). p.head) pins))) ≡ count_by (λ b. is_under b (pin_at pins i)) pins
window_of pins i gap first end all h same begin start =
    window pins (pin_at pins i) first end all (All-get_or HasSmallTail pins i (record { gap = 0; tail = 0; head = 0 }) h all) start.bound
    (subst (λ n. (j : ℕ) → j < first → start_of (pin_at pins j) < n) same begin.before)
    (subst (λ n. (j : ℕ) → first ≤ j → j < length pins → n ≤ start_of (pin_at pins j)) same begin.behind)
    start.before start.behind

-- one more head
pub ends_more : (heads : List ℕ) (first i top top' : ℕ) → top ≤ top' → get_or heads i 0 ≤ top' → EndsBelow heads first i top → EndsBelow heads first (i + 1) top'
ends_more heads first i top top' up new so = λ j low high. elim (cases_eq j i) [
  | inl is ↦ subst (λ k. get_or heads k 0 ≤ top') (sym is) new
  | inr ne ↦ let old = so j low (omega (arith, high, ne)) in omega (arith, old, up)
]

ends_window : (heads : List ℕ) (first end j : ℕ) → first ≤ j → j < end → end ≤ length heads
    → (j - first < length (take (end - first) (drop first heads))) × (get_or (take (end - first) (drop first heads)) (j - first) 0 ≡ get_or heads j 0)
ends_window heads first end j low high bound =
    let k : ℕ = j - first in
    let same : first + (j - first) ≡ j = omega (arith, low) in
    let short : j - first < end - first = omega (arith, low, high) in
    let long = length-take (end - first) (drop first heads) in
    let rest = length-drop first heads in
    (omega (arith, long, rest, low, high, bound), get_or-take (end - first) (drop first heads) (j - first) 0 short ∙ get_or-drop first heads (j - first) 0 ∙ ap (λ n. get_or heads n 0) same)

-- the greatest of a window of heads
pub ends_from : (heads : List ℕ) (first end top : ℕ) → end ≤ length heads → ((j : ℕ) → j < length (take (end - first) (drop first heads)) → get_or (take (end - first) (drop first heads)) j 0 ≤ top) → EndsBelow heads first end top
ends_from heads first end top bound all = λ j low high.
    let at = ends_window heads first end j low high bound in
    subst (λ n. n ≤ top) at.1 (all (j - first) at.0)

pub ends_all : (heads : List ℕ) (first end i top : ℕ) → end ≤ i → end ≤ length heads → EndsBelow heads first i top → All (λ h. h ≤ top) (take (end - first) (drop first heads))
ends_all heads first end i top short bound so =
    All-from_get_or (λ h. h ≤ top) (take (end - first) (drop first heads)) 0
    (λ j h.
    let long = length-take (end - first) (drop first heads) in
    let less : j < end - first = omega (arith, h, long) in
    subst (λ n. n ≤ top) (sym (get_or-take (end - first) (drop first heads) j 0 less ∙ get_or-drop first heads j 0)) (so (first + j) (omega arith) (omega (arith, less, short))))

pub count_none : (xs : List ℕ) (key top : ℕ) → top ≤ key → All (λ h. h ≤ top) xs → 0 ≡ count_by (λ x. ltb key x) xs
count_none xs key top low all =
    sym (count_drop (λ x. ltb key x) 0 (length xs) xs (λ j less l. le-ltb key (get_or xs j 0) (let h = All-get_or (λ h. h ≤ top) xs j 0 l all in omega (arith, h, low)))
    ∙ ap (count_by (λ x. ltb key x)) (drop_all (length xs) xs (omega arith)))

-- no link begins before itself
pub begin_at_most : (pins : List LinkEnd) (i place count : ℕ) → place ≤ start_of (pin_at pins i) → IsBegin pins place count → count ≤ i
begin_at_most pins i place count reached begin =
    elim (cases_lt i count) [
      | inl less ↦ absurd (let a = begin.before i less in omega (arith, a, reached))
      | inr more ↦ more
    ]
