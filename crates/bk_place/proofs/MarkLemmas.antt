-- Marked links are those that overtake an inner link, or that an inner link overtakes.
use Rattle.std.proofs.Common.{◌≡◌, ℕ, suc, ◌+◌, ◌-◌, ◌*◌, ◌<◌, ◌≤◌, ◌^◌, ◌==◌, ◌&&◌, ◌||◌, not, nat_lt, pos, List, [], ◌∷◌, ◌++◌, length, map, take, get_or, Bool, true, false, arith, refl, sym, ◌∙◌, ap, subst, inl, inr, eq-eqb, ne_eqb, lt-ltb, le-ltb}
use Rattle.std.proofs.lemmas.Bool.{cases_lt, cases_order, cases_Bool}
use Rattle.std.specs.List.{filter, list_any}
use Rattle.std.proofs.lemmas.List.Elements.{All-get_or}
use Rattle.std.proofs.lemmas.List.Sorted.{list_any-IsPermutation}
use Rattle.elk_layers.specs.declared.units.Link.{Link}
use Rattle.elk_layers.specs.Layered.{Plain, IsSound, IsSoundLink, AreRows, gap_of, link_at, place_of, tail_key, head_key}
use Rattle.elk_layers.specs.Crossings.{cross}
use Rattle.elk_layers.specs.Alignment.{is_inner, is_marked}
use Rattle.elk_layers.specs.Places.{ArePlaces}
use Rattle.elk_layers.proofs.RowLemmas.{place_small}
use Rattle.bk_place.specs.declared.reaching.LinkEnd.{LinkEnd}
use Rattle.bk_place.specs.Keys.{key_at}
use Rattle.bk_place.specs.Marks.{pin_of, overtakes, mirrored, is_crossed, IsLow, HoldBoth, AreMarkedLinks}
use Rattle.std.proofs.lemmas.List.{get_or-map, length-map, map-append, take_more}

-- one more element of a list that is mapped
pub map_next : {X Y : Type 0} (f : X → Y) (xs ys : List X) (done : List Y) (i : ℕ) (d : X) (y : Y) → ys ≡ xs → done ≡ map f (take i xs) → i < length ys → y ≡ f (get_or ys i d) → done ++ y ∷ [] ≡ map f (take (i + 1) xs)
map_next f xs ys done i d y e so h is =
    let here : i < length xs = subst (λ zs. i < length zs) e h in
    let same : y ≡ f (get_or xs i d) = is ∙ ap (λ zs. f (get_or zs i d)) e in
    rw (take_more xs i d here, map-append f (take i xs) (get_or xs i d ∷ []), so, same) refl

pub any_same : {X : Type 0} (p q : X → Bool) (d : X) (xs : List X) → ((k : ℕ) → k < length xs → p (get_or xs k d) ≡ q (get_or xs k d)) → list_any p xs ≡ list_any q xs
any_same p q d [] h = refl
any_same p q d (x ∷ xs) h =
    let first : p x ≡ q x = h 0 (omega arith) in
    let rest = any_same p q d xs (λ k l. h (suc k) (omega (arith, l))) in
    rw (first, rest) refl

pub any_kept : {X Y : Type 0} (test : X → Bool) (f : X → Y) (p : Y → Bool) (xs : List X) → list_any p (map f (filter test xs)) ≡ list_any (λ x. test x && p (f x)) xs
any_kept test f p [] = refl
any_kept test f p (x ∷ xs) =
    let rest = any_kept test f p xs in
    elim (cases_Bool (test x)) [
      | inl t ↦ rw (t, rest) refl
      | inr e ↦ rw (e, rest) refl
    ]

pub any_map : {X Y : Type 0} (f : X → Y) (p : Y → Bool) (xs : List X) → list_any p (map f xs) ≡ list_any (λ x. p (f x)) xs
any_map f p [] = refl
any_map f p (x ∷ xs) = ap (λ b. p (f x) || b) (any_map f p xs)

or_split : (a b c d : Bool) → ((a || b) || (c || d)) ≡ ((a || c) || (b || d))
or_split true b c d = refl
or_split false true true d = refl
or_split false true false d = refl
or_split false false true d = refl
or_split false false false d = refl

pub any_either : {X : Type 0} (p q : X → Bool) (xs : List X) → (list_any p xs || list_any q xs) ≡ list_any (λ x. p x || q x) xs
any_either p q [] = refl
any_either p q (x ∷ xs) = or_split (p x) (list_any p xs) (q x) (list_any q xs) ∙ ap (λ b. (p x || q x) || b) (any_either p q xs)

less_mirrored : (a b : ℕ) → a ≤ 2 ^ 100 → b ≤ 2 ^ 100 → nat_lt (2 ^ 100 - a) (2 ^ 100 - b) ≡ nat_lt b a
less_mirrored a b ha hb = elim (cases_lt b a) [
  | inl l ↦ lt-ltb (2 ^ 100 - a) (2 ^ 100 - b) (omega (arith, l, ha)) ∙ sym (lt-ltb b a l)
  | inr g ↦ le-ltb (2 ^ 100 - a) (2 ^ 100 - b) (omega (arith, g, hb)) ∙ sym (le-ltb b a g)
]

-- seen from the other side, what overtook is overtaken
overtakes_mirrored : (a b : LinkEnd) → IsLow a → IsLow b → overtakes (mirrored a) (mirrored b) ≡ overtakes b a
overtakes_mirrored a b ha hb =
    rw (less_mirrored a.start b.start ha.0 hb.0, less_mirrored b.finish a.finish hb.1 ha.1) refl

-- the two searches together look at all inner links, both ways
pub either_way : (inner above below : List LinkEnd) (pin : LinkEnd) → IsLow pin → HoldBoth inner above below
    → (list_any (λ other. overtakes other pin) above || list_any (λ other. overtakes other (mirrored pin)) below) ≡ list_any (λ other. overtakes other pin || overtakes pin other) inner
either_way inner above below pin low both =
    let a : list_any (λ other. overtakes other pin) above ≡ list_any (λ other. overtakes other pin) inner = sym (list_any-IsPermutation (λ other. overtakes other pin) inner above both.as_above) in
    let b : list_any (λ other. overtakes other (mirrored pin)) below ≡ list_any (λ other. overtakes pin other) inner =
    sym (list_any-IsPermutation (λ other. overtakes other (mirrored pin)) (map mirrored inner) below both.as_below)
    ∙ any_map mirrored (λ other. overtakes other (mirrored pin)) inner
    ∙ any_same (λ other. overtakes (mirrored other) (mirrored pin)) (λ other. overtakes pin other) (record { start = 0; finish = 0 }) inner
    (λ k h. overtakes_mirrored (get_or inner k (record { start = 0; finish = 0 })) pin (All-get_or IsLow inner k (record { start = 0; finish = 0 }) h both.low) low)
    in
    rw (a, b) (any_either (λ other. overtakes other pin) (λ other. overtakes pin other) inner)

less_in_gap : (g s t : ℕ) → nat_lt (g * 2 ^ 64 + s) (g * 2 ^ 64 + t) ≡ nat_lt s t
less_in_gap g s t = elim (cases_lt s t) [
  | inl l ↦ lt-ltb (g * 2 ^ 64 + s) (g * 2 ^ 64 + t) (omega (arith, l)) ∙ sym (lt-ltb s t l)
  | inr k ↦ le-ltb (g * 2 ^ 64 + s) (g * 2 ^ 64 + t) (omega (arith, k)) ∙ sym (le-ltb s t k)
]

or_flipped : (a b : Bool) → (a || b) ≡ (b || a)
or_flipped true true = refl
or_flipped true false = refl
or_flipped false true = refl
or_flipped false false = refl

-- links cross where, counted through all gaps, one begins before the other and ends behind it
numbers_cross : (ga gb ta tb ha hb : ℕ) → ta < 2 ^ 64 → tb < 2 ^ 64 → ha < 2 ^ 64 → hb < 2 ^ 64
    → ((ga == gb) && ((nat_lt ta tb && nat_lt hb ha) || (nat_lt tb ta && nat_lt ha hb)))
    ≡ ((nat_lt (gb * 2 ^ 64 + tb) (ga * 2 ^ 64 + ta) && nat_lt (ga * 2 ^ 64 + ha) (gb * 2 ^ 64 + hb)) || (nat_lt (ga * 2 ^ 64 + ta) (gb * 2 ^ 64 + tb) && nat_lt (gb * 2 ^ 64 + hb) (ga * 2 ^ 64 + ha)))
numbers_cross ga gb ta tb ha hb lta ltb' lha lhb = elim (cases_order ga gb) [
  | inl e ↦
      rw (eq-eqb ga gb e, e, less_in_gap gb tb ta, less_in_gap gb ha hb, less_in_gap gb ta tb, less_in_gap gb hb ha)
      (or_flipped (nat_lt ta tb && nat_lt hb ha) (nat_lt tb ta && nat_lt ha hb))
  | inr (inl l) ↦
      rw (
        ne_eqb ga gb (λ e. omega (arith, l, e)),
        le-ltb (gb * 2 ^ 64 + tb) (ga * 2 ^ 64 + ta) (omega (arith, l, lta)),
        le-ltb (gb * 2 ^ 64 + hb) (ga * 2 ^ 64 + ha) (omega (arith, l, lha)),
        lt-ltb (ga * 2 ^ 64 + ta) (gb * 2 ^ 64 + tb) (omega (arith, l, lta)),
      ) refl
  | inr (inr l) ↦
      rw (
        ne_eqb ga gb (λ e. omega (arith, l, e)),
        le-ltb (ga * 2 ^ 64 + ha) (gb * 2 ^ 64 + hb) (omega (arith, l, lhb)),
        le-ltb (ga * 2 ^ 64 + ta) (gb * 2 ^ 64 + tb) (omega (arith, l, ltb')),
        lt-ltb (gb * 2 ^ 64 + tb) (ga * 2 ^ 64 + ta) (omega (arith, l, ltb')),
      ) refl
]

module _ (l : Plain) (rows : List (List ℕ)) (place : List ℕ) (sound : IsSound l) (are : AreRows l rows) (places : ArePlaces l rows place) where
  key_is : (u rank : ℕ) → u < length l.units → key_at place u rank ≡ place_of l rows u * 65536 + rank
  key_is u rank h = ap (λ p. p * 65536 + rank) (places.place_is u h)

  key_small : (u rank : ℕ) → u < length l.units → rank < 65536 → (place_of l rows u * 65536 + rank) < 2 ^ 64
  key_small u rank h k =
      let p = place_small l rows u sound are h in
      let few = sound.few_units in
      omega (arith, p, few, k)

  cross_is : (a b : Link) → IsSoundLink l a → IsSoundLink l b → cross l rows a b ≡ (overtakes (pin_of l place b) (pin_of l place a) || overtakes (pin_of l place a) (pin_of l place b))
  cross_is a b sa sb =
      rw (key_is a.tail a.tail_rank sa.tail, key_is a.head a.head_rank sa.head, key_is b.tail b.tail_rank sb.tail, key_is b.head b.head_rank sb.head)
      (numbers_cross (gap_of l a) (gap_of l b) (tail_key l rows a) (tail_key l rows b) (head_key l rows a) (head_key l rows b)
      (key_small a.tail a.tail_rank sa.tail sa.tail_rank) (key_small b.tail b.tail_rank sb.tail sb.tail_rank) (key_small a.head a.head_rank sa.head sa.head_rank) (key_small b.head b.head_rank sb.head sb.head_rank))

  marked_is : (link : Link) → IsSoundLink l link → is_crossed l place link ≡ is_marked l rows link
  marked_is link s =
      ap (λ b. not (is_inner l link) && b)
      (any_kept (is_inner l) (pin_of l place) (λ other. overtakes other (pin_of l place link) || overtakes (pin_of l place link) other) l.links
      ∙ any_same (λ other. is_inner l other && (overtakes (pin_of l place other) (pin_of l place link) || overtakes (pin_of l place link) (pin_of l place other))) (λ other. is_inner l other && cross l rows link other)
      (record { edge = 0; tail = 0; head = 0; tail_rank = 0; head_rank = 0; tail_at = pos 0; head_at = pos 0 }) l.links
      (λ k h. ap (λ b. is_inner l (link_at l.links k) && b) (sym (cross_is link (link_at l.links k) s (sound.links_are k h)))))

  pub marks_from : (marked : List Bool) → marked ≡ map (is_crossed l place) l.links → AreMarkedLinks l rows marked
  marks_from marked e =
      record {
        as_many = ap length e ∙ length-map l.links (is_crossed l place);
        mark_is = λ k h.
            ap (λ xs. get_or xs k false) e
            ∙ get_or-map (is_crossed l place) l.links k (record { edge = 0; tail = 0; head = 0; tail_rank = 0; head_rank = 0; tail_at = pos 0; head_at = pos 0 }) false h
            ∙ marked_is (link_at l.links k) (sound.links_are k h);
      }
