-- An edge's two ends, added to the spots of children.
use Rattle.std.proofs.Common.{◌≡◌, ℕ, zero, suc, ◌+◌, ◌*◌, ◌<◌, ◌≤◌, ◌^◌, List, [], ◌∷◌, ◌++◌, length, get_or, set, Bool, true, false, not, cond, Option, None, Some, refl, sym, ◌∙◌, ap, subst, inl, inr, arith, IfSome}
use Rattle.std.specs.List.{filter, range_with_len}
use Rattle.std.proofs.lemmas.Bool.{cases_eq, cases_lt, cases_order, cases_Bool}
use Rattle.std.proofs.lemmas.List.{get_or-set_same, get_or-set_other, get_or_append_left, get_or_push, get_or_past, set_past, length_push}
use Rattle.std.proofs.lemmas.List.FromFn.{length-range_with_len}
use Rattle.elk_layers.specs.Layered.{Plain, link_at, place_of}
use Rattle.port_order.specs.declared.spots.Spot.{Spot}
use Rattle.port_order.specs.declared.spots.Mean.{Mean}
use Rattle.port_order.specs.declared.children.Child.{Child}
use Rattle.port_order.specs.Child.{spot_at, no_spot}
use Rattle.level_model.specs.declared.level.EdgeEnd.{EdgeEnd}
use Rattle.level_model.specs.Conditions.{IsLevel, IsSpoke, total_ports}
use Rattle.level_model.specs.Level.{PlainLevel, PlainPlan, End, child_at, end_at, ends_of_edges, enters}
use Rattle.dock_table.specs.declared.courses.Course.{Course}
use Rattle.dock_table.specs.declared.spots.Told.{Told}
use Rattle.dock_table.specs.Courses.{IsCourse, first_link}
use Rattle.dock_table.specs.Rows.{AreNumbers, AreRowsOf, HasPlace, IsCounted, at_child, bare, ends_to, more_mean, number_by, number_in, number_of, row_at, row_of, row_with, told_by, with_end, with_link}
use Rattle.dock_table.proofs.SpotLemmas.{IsTold}
use Rattle.dock_table.proofs.RowLemmas.{row_long}

far_is : (l : Plain) (rows : List (List ℕ)) (e before after : ℕ) (b : Bool)
    → before ≡ place_of l rows (link_at l.links (first_link l true e)).tail → after ≡ place_of l rows (link_at l.links (first_link l false e)).head
    → cond b before after ≡ place_of l rows (cond b (link_at l.links (first_link l b e)).tail (link_at l.links (first_link l b e)).head)
far_is l rows e before after true b_is a_is = b_is
far_is l rows e before after false b_is a_is = a_is

-- what an edge's flow tells of its ends
pub told_true : (l : PlainLevel) (p : PlainPlan) (e : ℕ) (f : Course) (t : Bool) → IsCourse l p e f → IsTold l p (end_at e t) (told_by f t)
told_true l p e f t course =
    let enters_is : cond t f.is_reversed (not f.is_reversed) ≡ enters p (end_at e t) = ap (λ b. cond t b (not b)) course.is_reversed in
    record {
      looped = course.looped;
      enters_is = enters_is;
      place = λ no_loop.
          ap (λ b. cond b f.before f.after) enters_is
          ∙ far_is p.layered p.rows e f.before f.after (enters p (end_at e t)) (course.before no_loop) (course.after no_loop);
    }

small_of : (b : Bool) (m n most : ℕ) → m ≤ most → n ≤ most → cond b m n ≤ most
small_of true m n most a c = a
small_of false m n most a c = c

pub told_small : (l : PlainLevel) (p : PlainPlan) (e : ℕ) (f : Course) (t : Bool) → IsCourse l p e f → (told_by f t).place ≤ 2 ^ 24
told_small l p e f t course = small_of (cond t f.is_reversed (not f.is_reversed)) f.before f.after (2 ^ 24) course.before_small course.after_small

-- ---- how much the means count

counted_more : (most place : ℕ) (mean : Option Mean) → IsCounted most mean → place ≤ 2 ^ 24 → IsCounted (most + 1) (Some (more_mean mean place))
counted_more most place None h small = (omega arith, omega (arith, small))
counted_more most place (Some m) h small = (omega (arith, h.0), omega (arith, h.1, small))

pub counted_weaker : (most more : ℕ) (mean : Option Mean) → most ≤ more → IsCounted most mean → IsCounted more mean
counted_weaker most more None le h = tt
counted_weaker most more (Some m) le h = (omega (arith, h.0, le), omega (arith, h.1, le))

counted_end : (most : ℕ) (t : Told) (s : Spot) (b : Bool) → t.place ≤ 2 ^ 24 → IsCounted most s.mean → IsCounted (most + 1) (cond b s (with_link t s)).mean
counted_end most t s true small h = counted_weaker most (most + 1) s.mean (omega arith) h
counted_end most t s false small h = counted_more most t.place s.mean h small

abbrev AllCounted : ℕ → List Spot → Type 0
AllCounted most row = (k : ℕ) → IsCounted most (spot_at row k).mean

counted_row : (most : ℕ) (port : Option ℕ) (t : Told) (row : List Spot) → t.place ≤ 2 ^ 24 → AllCounted most row → AllCounted (most + 1) (row_with port t row)
counted_row most None t row small h k = elim (cases_order k (length row)) [
  | inl e ↦ subst (λ (s : Spot). IsCounted (most + 1) s.mean) (sym (get_or_push row (with_end t (bare None (length row))) no_spot k (sym e))) (counted_end most t (bare None (length row)) t.looped small tt)
  | inr other ↦ elim other [
    | inl less ↦ subst (λ (s : Spot). IsCounted (most + 1) s.mean) (sym (get_or_append_left row (with_end t (bare None (length row)) ∷ []) no_spot k less)) (counted_weaker most (most + 1) (spot_at row k).mean (omega arith) (h k))
    | inr more ↦
        let long = length_push row (with_end t (bare None (length row))) in
        subst (λ (s : Spot). IsCounted (most + 1) s.mean) (sym (get_or_past (row ++ with_end t (bare None (length row)) ∷ []) k no_spot (omega (arith, more, long)))) tt
  ]
]
counted_row most (Some j) t row small h k = elim (cases_eq k j) [
  | inr n ↦ subst (λ (s : Spot). IsCounted (most + 1) s.mean) (sym (get_or-set_other row j k (with_end t (spot_at row j)) no_spot n)) (counted_weaker most (most + 1) (spot_at row k).mean (omega arith) (h k))
  | inl e ↦ elim (cases_lt j (length row)) [
    | inl inside ↦ subst (λ (s : Spot). IsCounted (most + 1) s.mean) (sym (ap (λ i. get_or (row_with (Some j) t row) i no_spot) e ∙ get_or-set_same row j (with_end t (spot_at row j)) no_spot inside)) (counted_end most t (spot_at row j) t.looped small (h j))
    | inr past ↦ subst (λ (xs : List Spot). IsCounted (most + 1) (spot_at xs k).mean) (sym (set_past row j (with_end t (spot_at row j)) past)) (counted_weaker most (most + 1) (spot_at row k).mean (omega arith) (h k))
  ]
]

-- all rows with one more end
pub counted_rows : (most : ℕ) (c : ℕ) (port : Option ℕ) (t : Told) (rows : List (List Spot)) → t.place ≤ 2 ^ 24 → ((d : ℕ) → AllCounted most (row_at rows d))
    → (d : ℕ) → AllCounted (most + 1) (row_at (set rows c (row_with port t (row_at rows c))) d)
counted_rows most c port t rows small h d k = elim (cases_eq d c) [
  | inr n ↦ subst (λ (xs : List Spot). IsCounted (most + 1) (spot_at xs k).mean) (sym (get_or-set_other rows c d (row_with port t (row_at rows c)) [] n)) (counted_weaker most (most + 1) (spot_at (row_at rows d) k).mean (omega arith) (h d k))
  | inl e ↦ elim (cases_lt c (length rows)) [
    | inl inside ↦ subst (λ (xs : List Spot). IsCounted (most + 1) (spot_at xs k).mean) (sym (ap (λ i. row_at (set rows c (row_with port t (row_at rows c))) i) e ∙ get_or-set_same rows c (row_with port t (row_at rows c)) [] inside)) (counted_row most port t (row_at rows c) small (h c) k)
    | inr past ↦ subst (λ (xs : List (List Spot)). IsCounted (most + 1) (spot_at (row_at xs d) k).mean) (sym (set_past rows c (row_with port t (row_at rows c)) past)) (counted_weaker most (most + 1) (spot_at (row_at rows d) k).mean (omega arith) (h d k))
  ]
]

-- ---- there is room

filter_short : (test : End → Bool) (ns : List End) → length (filter test ns) ≤ length ns
filter_short test [] = omega arith
filter_short test (n ∷ ns) = let h = filter_short test ns in elim (cases_Bool (test n)) [ inl t ↦ rw t (omega (arith, h)) | inr f ↦ rw f (omega (arith, h)) ]

ends_long : (es : List ℕ) → length (ends_of_edges es) ≡ 2 * length es
ends_long [] = refl
ends_long (e ∷ es) = let h = ends_long es in omega (arith, h)

pub ends_to_long : (e : ℕ) → length (ends_to e) ≡ 2 * e
ends_to_long e = let a = ends_long (range_with_len 0 e) in let b = length-range_with_len 0 e in omega (arith, a, b)

ports_within : (cs : List Child) (c : ℕ) (d : Child) → d.ports ≡ [] → length (get_or cs c d).ports ≤ total_ports cs
ports_within [] c d e = rw e (omega arith)
ports_within (x ∷ cs) zero d e = omega arith
ports_within (x ∷ cs) (suc c) d e = let h = ports_within cs c d e in omega (arith, h)

pub ports_few : (l : PlainLevel) (c : ℕ) → IsLevel l → length (child_at l c).ports ≤ 4096
ports_few l c level = let h = ports_within l.children c (child_at (record { children = []; edges = []; spacing = l.spacing; choices = l.choices }) 0) refl in let t = level.few_ports in omega (arith, h, t)

pub row_few : (l : PlainLevel) (p : PlainPlan) (c : ℕ) (ns : List End) → IsLevel l → length ns ≤ 4096 → length (row_of l p c ns) ≤ 8192
row_few l p c ns level few =
    let long = row_long l p c ns in
    let ports = ports_few l c level in
    let short = filter_short (at_child l c) ns in
    omega (arith, long, ports, short, few)

port_inside : (port : Option ℕ) (m n : ℕ) → m ≤ n → IfSome port (λ k. k < m) → IfSome port (λ k. k < n)
port_inside None m n le h = tt
port_inside (Some k) m n le h = omega (arith, le, h)

pub has_place : (l : PlainLevel) (p : PlainPlan) (s : EdgeEnd) (ns : List End) (rows : List (List Spot)) (most : ℕ) → IsLevel l → IsSpoke l s → AreRowsOf l p ns rows → length ns ≤ 4096 → most ≤ 4096
    → ((c k : ℕ) → IsCounted most (spot_at (row_at rows c) k).mean) → HasPlace s.port (row_at rows s.child)
has_place l p s ns rows most level spoke_in are few most_few counted =
    let row = are.row_is s.child spoke_in.child in
    let same = ap length row in
    let long = row_long l p s.child ns in
    let short = row_few l p s.child ns level few in
    record {
      port_in = port_inside s.port (length (child_at l s.child).ports) (length (row_at rows s.child)) (omega (arith, same, long)) spoke_in.port;
      short = omega (arith, same, short);
      counted = λ k h. counted_weaker most (2 ^ 16) (spot_at (row_at rows s.child) k).mean (omega (arith, most_few)) (counted s.child k);
    }

-- ---- the numbers of spots

pub number_is : (l : PlainLevel) (p : PlainPlan) (s : EdgeEnd) (ns : List End) (row : List Spot) → row ≡ row_of l p s.child ns → number_in s.port row ≡ number_by l s ns
number_is l p s ns row e = by_port s.port (ap length e ∙ row_long l p s.child ns)
  where
    by_port : (port : Option ℕ) → length row ≡ length (child_at l s.child).ports + length (filter (at_child l s.child) ns) → number_in port row ≡ number_by l (record { child = s.child; port = port }) ns
    by_port None long = long
    by_port (Some k) long = refl

two_pushed : (xs : List ℕ) (a b m : ℕ) → length xs ≡ 2 * m → (length ((xs ++ a ∷ []) ++ b ∷ []) ≡ 2 * (m + 1)) × (get_or ((xs ++ a ∷ []) ++ b ∷ []) (2 * m) 0 ≡ a) × (get_or ((xs ++ a ∷ []) ++ b ∷ []) (2 * m + 1) 0 ≡ b)
two_pushed xs a b m long =
    let one = length_push xs a in
    let two = length_push (xs ++ a ∷ []) b in (
      omega (arith, long, one, two),
      get_or_append_left (xs ++ a ∷ []) (b ∷ []) 0 (2 * m) (omega (arith, one, long)) ∙ get_or_push xs a 0 (2 * m) long,
      get_or_push (xs ++ a ∷ []) b 0 (2 * m + 1) (omega (arith, one, long)),
    )

old_read : (xs : List ℕ) (a b i : ℕ) → i < length xs → get_or ((xs ++ a ∷ []) ++ b ∷ []) i 0 ≡ get_or xs i 0
old_read xs a b i h =
    let one = length_push xs a in
    get_or_append_left (xs ++ a ∷ []) (b ∷ []) 0 i (omega (arith, h, one)) ∙ get_or_append_left xs (a ∷ []) 0 i h

pub numbers_more : (l : PlainLevel) (e : ℕ) (xs : List ℕ) (a b : ℕ) → AreNumbers l e xs → a ≡ number_of l e true → b ≡ number_of l e false → AreNumbers l (e + 1) ((xs ++ a ∷ []) ++ b ∷ [])
numbers_more l e xs a b are first second =
    let two = two_pushed xs a b e are.as_long in
    record {
      as_long = two.0;
      source = λ i h. elim (cases_eq i e) [
        | inl q ↦ subst (λ x. get_or ((xs ++ a ∷ []) ++ b ∷ []) (2 * x) 0 ≡ number_of l x true) (sym q) (two.1 ∙ first)
        | inr n ↦ old_read xs a b (2 * i) (omega (arith, h, n, are.as_long)) ∙ are.source i (omega (arith, h, n))
      ];
      target = λ i h. elim (cases_eq i e) [
        | inl q ↦ subst (λ x. get_or ((xs ++ a ∷ []) ++ b ∷ []) (2 * x + 1) 0 ≡ number_of l x false) (sym q) (two.2 ∙ second)
        | inr n ↦ old_read xs a b (2 * i + 1) (omega (arith, h, n, are.as_long)) ∙ are.target i (omega (arith, h, n))
      ];
    }
