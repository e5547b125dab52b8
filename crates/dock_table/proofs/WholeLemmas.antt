-- The spots of children, once all ends are added.
use Rattle.std.proofs.Common.{◌≡◌, ℕ, zero, suc, ◌+◌, ◌-◌, ◌*◌, ◌<◌, ◌≤◌, ◌==◌, List, [], ◌∷◌, ◌++◌, length, get_or, Bool, true, false, not, ◌&&◌, cond, Option, None, Some, is_none, IfSome, refl, sym, ◌∙◌, ap, subst, inl, inr, arith, eq-eqb, append_assoc, length-append}
use Rattle.std.specs.List.{filter, list_any, range_with_len}
use Rattle.std.proofs.lemmas.Bool.{cases_lt, and_from}
use Rattle.std.proofs.lemmas.List.{get_or-append_right, get_or_at}
use Rattle.std.proofs.lemmas.List.Elements.{filter-append}
use Rattle.port_order.specs.declared.spots.Spot.{Spot}
use Rattle.port_order.specs.declared.spots.Mean.{Mean}
use Rattle.port_order.specs.Child.{spot_at, no_spot}
use Rattle.port_order.specs.Conditions.{AreSpots, IsSpot}
use Rattle.level_model.specs.declared.level.EdgeEnd.{EdgeEnd}
use Rattle.level_model.specs.Conditions.{IsLevel, IsSpoke}
use Rattle.level_model.specs.Level.{PlainLevel, PlainPlan, End, all_ends, child_at, end_at, ends_of_edges, enters, implicit_ends, implicit_spot, is_loop, linked, mean_of, place_of_end, port_spot, spoke, spot, spot_at_port, spots}
use Rattle.dock_table.specs.declared.courses.Course.{Course}
use Rattle.dock_table.specs.declared.spots.Spots.{Spots}
use Rattle.dock_table.specs.Courses.{AreCourses}
use Rattle.dock_table.specs.Rows.{AreCounted, AreSpotsOf, AreSpotsTo, HasNumber, at_child, at_port, ends_before, ends_to, implicit_spots, number_by, number_of, port_spots_of, row_at, row_lists, row_of}
use Rattle.dock_table.proofs.RowLemmas.{implicit_numbered, port_spots_long, port_there, row_long}
use Rattle.dock_table.proofs.EndLemmas.{Differ, differ_filter, ends_differ, ends_split, place_there}
use Rattle.dock_table.proofs.AddLemmas.{ends_to_long, row_few}

-- the spots of a child are the row of all ends
pub spots_row : (l : PlainLevel) (p : PlainPlan) (c : ℕ) → spots l p c ≡ row_of l p c (all_ends l)
spots_row l p c =
    let ports : ℕ = length (child_at l c).ports in
    let e : length (child_at l c).ports + 0 ≡ length (child_at l c).ports = omega arith in
    ap (λ ss. port_spots_of l p c (all_ends l) ++ ss)
    (implicit_numbered l p (length (child_at l c).ports) [] (implicit_ends l c) (implicit_ends l c) (differ_filter (at_child l c) (all_ends l) (ends_differ 0 (length l.edges))) refl
    ∙ ap (λ i. implicit_spots l p i (implicit_ends l c)) e)

implicit_there : (l : PlainLevel) (p : PlainPlan) (i j : ℕ) (ns : List End) (d : End) → j < length ns → spot_at (implicit_spots l p i ns) j ≡ spot l p None (i + j) (get_or ns j d ∷ [])
implicit_there l p i j [] d h = absurd (omega (arith, h))
implicit_there l p i zero (n ∷ ns) d h = let e : i + 0 ≡ i = omega arith in ap (λ x. spot l p None x (n ∷ [])) (sym e)
implicit_there l p i (suc j) (n ∷ ns) d h =
    let e : i + 1 + j ≡ i + suc j = omega arith in
    implicit_there l p (i + 1) j ns d (omega (arith, h)) ∙ ap (λ x. spot l p None x (get_or ns j d ∷ [])) e

abbrev pub no_end : End
no_end = end_at 0 true

abbrev pub first_implicit : PlainLevel → ℕ → ℕ
first_implicit l c = length (child_at l c).ports

pub row_implicit_there : (l : PlainLevel) (p : PlainPlan) (c k : ℕ) (ns : List End) → first_implicit l c ≤ k → k < length (row_of l p c ns)
    → spot_at (row_of l p c ns) k ≡ spot l p None k (get_or (filter (at_child l c) ns) (k - first_implicit l c) no_end ∷ [])
row_implicit_there l p c k ns low high =
    let ports = port_spots_long l p c ns in
    let long = row_long l p c ns in
    let e : length (child_at l c).ports + (k - length (child_at l c).ports) ≡ k = omega (arith, low) in
    get_or-append_right (port_spots_of l p c ns) (implicit_spots l p (length (child_at l c).ports) (filter (at_child l c) ns)) (length (child_at l c).ports) k no_spot ports low
    ∙ implicit_there l p (length (child_at l c).ports) (k - length (child_at l c).ports) (filter (at_child l c) ns) no_end (omega (arith, low, high, long))
    ∙ ap (λ x. spot l p None x (get_or (filter (at_child l c) ns) (k - length (child_at l c).ports) no_end ∷ [])) e

row_numbered : (l : PlainLevel) (p : PlainPlan) (c : ℕ) (ns : List End) → AreCounted (row_of l p c ns)
row_numbered l p c ns k h = elim (cases_lt k (length (child_at l c).ports)) [
  | inl less ↦ ap (λ (s : Spot). s.number) (port_there l p c k ns less)
  | inr more ↦ ap (λ (s : Spot). s.number) (row_implicit_there l p c k ns more h)
]

mean_counts : (p : PlainPlan) (ms : List End) → IfSome (mean_of p ms) (λ (m : Mean). 1 ≤ m.count)
mean_counts p [] = tt
mean_counts p (m ∷ ms) = omega arith

one_way : (b : Bool) → (list_any (λ (x : Bool). not x) (b ∷ []) && list_any (λ (x : Bool). x) (b ∷ [])) ≡ false
one_way true = refl
one_way false = refl

implicit_one_way : (p : PlainPlan) (b : Bool) (n : End) → (list_any (λ m. not (enters p m)) (cond b (n ∷ []) []) && list_any (λ m. enters p m) (cond b (n ∷ []) [])) ≡ false
implicit_one_way p false n = refl
implicit_one_way p true n = by (enters p n)
  where
    by : (x : Bool) → (list_any (λ (y : Bool). not y) (x ∷ []) && list_any (λ (y : Bool). y) (x ∷ [])) ≡ false
    by true = refl
    by false = refl

spot_port : (l : PlainLevel) (p : PlainPlan) (c k : ℕ) (ns : List End) → k < length (child_at l c).ports → IsSpot (child_at l c) (spot l p (Some k) k ns)
spot_port l p c k ns h = record { port = h; mean = mean_counts p (linked l ns); implicit = λ bad. absurd cc }

spot_implicit : (l : PlainLevel) (p : PlainPlan) (c k : ℕ) (n : End) → IsSpot (child_at l c) (spot l p None k (n ∷ []))
spot_implicit l p c k n = record { port = tt; mean = mean_counts p (linked l (n ∷ [])); implicit = λ none. implicit_one_way p (not (is_loop l n.edge)) n }

row_sound : (l : PlainLevel) (p : PlainPlan) (c : ℕ) (ns : List End) → AreSpots (child_at l c) (row_of l p c ns)
row_sound l p c ns =
    record {
      each = λ k h. elim (cases_lt k (length (child_at l c).ports)) [
        | inl less ↦ subst (IsSpot (child_at l c)) (sym (port_there l p c k ns less)) (spot_port l p c k (filter (at_port l c k) ns) less)
        | inr more ↦ subst (IsSpot (child_at l c)) (sym (row_implicit_there l p c k ns more h)) (spot_implicit l p c k (get_or (filter (at_child l c) ns) (k - length (child_at l c).ports) no_end))
      ];
      differ = λ i j hi hj e. sym (row_numbered l p c ns i hi) ∙ e ∙ row_numbered l p c ns j hj;
    }

pub spots_are : (l : PlainLevel) (p : PlainPlan) (c : ℕ) → AreSpots (child_at l c) (spots l p c)
spots_are l p c = subst (AreSpots (child_at l c)) (sym (spots_row l p c)) (row_sound l p c (all_ends l))

-- ---- the number of an end

abbrev after : ℕ → Bool → ℕ → List End
after e true m = end_at e false ∷ ends_of_edges (range_with_len (e + 1) m)
after e false m = ends_of_edges (range_with_len (e + 1) m)

around : (e m : ℕ) (t : Bool) → ends_of_edges (range_with_len 0 (e + suc m)) ≡ ends_before e t ++ end_at e t ∷ after e t m
around e m true = ends_split e m
around e m false = ends_split e m ∙ sym (append_assoc (ends_to e) (end_at e true ∷ []) (end_at e false ∷ ends_of_edges (range_with_len (e + 1) m)))

filter_around : (test : End → Bool) (pre : List End) (n : End) (post : List End) → test n ≡ true → filter test (pre ++ n ∷ post) ≡ filter test pre ++ n ∷ filter test post
filter_around test pre n post t = filter-append test pre (n ∷ post) ∙ ap (λ b. filter test pre ++ cond b (n ∷ filter test post) (filter test post)) t

-- an implicit end of a child
number_implicit : (l : PlainLevel) (p : PlainPlan) (c : ℕ) (n : End) (pre post : List End) → all_ends l ≡ pre ++ n ∷ post → at_child l c n ≡ true
    → (first_implicit l c + length (filter (at_child l c) pre) < length (spots l p c)) × (spot_at (spots l p c) (first_implicit l c + length (filter (at_child l c) pre)) ≡ implicit_spot l p c n)
number_implicit l p c n pre post e here =
    let before : List End = filter (at_child l c) pre in
    let split : implicit_ends l c ≡ filter (at_child l c) pre ++ n ∷ filter (at_child l c) post = ap (filter (at_child l c)) e ∙ filter_around (at_child l c) pre n post here in
    let long = row_long l p c (all_ends l) in
    let both = ap length split ∙ length-append (filter (at_child l c) pre) (n ∷ filter (at_child l c) post) in
    let number : ℕ = first_implicit l c + length (filter (at_child l c) pre) in
    let within : first_implicit l c + length (filter (at_child l c) pre) < length (row_of l p c (all_ends l)) = omega (arith, long, both) in
    let less : first_implicit l c + length (filter (at_child l c) pre) - first_implicit l c ≡ length (filter (at_child l c) pre) = omega arith in
    let found : get_or (implicit_ends l c) (first_implicit l c + length (filter (at_child l c) pre) - first_implicit l c) no_end ≡ n =
    ap (λ i. get_or (implicit_ends l c) i no_end) less
    ∙ ap (λ ns. get_or ns (length (filter (at_child l c) pre)) no_end) split
    ∙ get_or_at (filter (at_child l c) pre) n (filter (at_child l c) post) no_end (length (filter (at_child l c) pre)) refl
    in
    let place : place_of_end (implicit_ends l c) n ≡ length (filter (at_child l c) pre) =
    ap (λ ns. place_of_end ns n) split
    ∙ place_there (filter (at_child l c) pre) n (filter (at_child l c) post) (subst Differ split (differ_filter (at_child l c) (all_ends l) (ends_differ 0 (length l.edges))))
    in
    let row = spots_row l p c in (
      subst (λ ss. first_implicit l c + length (filter (at_child l c) pre) < length ss) (sym row) within,
      ap (λ ss. spot_at ss (first_implicit l c + length (filter (at_child l c) pre))) row
          ∙ row_implicit_there l p c (first_implicit l c + length (filter (at_child l c) pre)) (all_ends l) (omega arith) within
          ∙ ap (λ m. spot l p None (first_implicit l c + length (filter (at_child l c) pre)) (m ∷ [])) found
          ∙ ap (λ i. spot l p None (first_implicit l c + i) (n ∷ [])) (sym place),
    )

pub number_port : (l : PlainLevel) (p : PlainPlan) (c k : ℕ) → k < length (child_at l c).ports → (k < length (spots l p c)) × (spot_at (spots l p c) k ≡ port_spot l p c k)
number_port l p c k inside =
    let row = spots_row l p c in
    let long = row_long l p c (all_ends l) in (
      subst (λ ss. k < length ss) (sym row) (omega (arith, inside, long)),
      ap (λ ss. spot_at ss k) row ∙ port_there l p c k (all_ends l) inside,
    )

number_at : (l : PlainLevel) (p : PlainPlan) (c : ℕ) (port : Option ℕ) (n : End) (pre post : List End) → all_ends l ≡ pre ++ n ∷ post → spoke l n ≡ record { child = c; port = port } → IfSome port (λ k. k < length (child_at l c).ports)
    → (number_by l (record { child = c; port = port }) pre < length (spots l p c)) × (spot_at (spots l p c) (number_by l (record { child = c; port = port }) pre) ≡ spot_at_port l p c n port)
number_at l p c None n pre post e is inside =
    number_implicit l p c n pre post e (ap (λ (s : EdgeEnd). (s.child == c) && is_none s.port) is ∙ and_from (c == c) true (eq-eqb c c refl) refl)
number_at l p c (Some k) n pre post e is inside = number_port l p c k inside

-- the number of an edge's end is that of its spot
pub has_number : (l : PlainLevel) (p : PlainPlan) (e : ℕ) (t : Bool) → e < length l.edges → IsSpoke l (spoke l (end_at e t)) → HasNumber l p (end_at e t) (number_of l e t)
has_number l p e t h spoke_in =
    let m : ℕ = length l.edges - (e + 1) in
    let count : length l.edges ≡ e + suc (length l.edges - (e + 1)) = omega (arith, h) in
    let whole : all_ends l ≡ ends_before e t ++ end_at e t ∷ after e t (length l.edges - (e + 1)) =
    ap (λ x. ends_of_edges (range_with_len 0 x)) count ∙ around e (length l.edges - (e + 1)) t
    in
    let is = number_at l p (spoke l (end_at e t)).child (spoke l (end_at e t)).port (end_at e t) (ends_before e t) (after e t (length l.edges - (e + 1))) whole refl spoke_in.port in
    record { within = is.0; spot_is = is.1 }

spoke_at : (l : PlainLevel) (e : ℕ) (t : Bool) → IsLevel l → e < length l.edges → IsSpoke l (spoke l (end_at e t))
spoke_at l e true level h = (level.edges e h).source
spoke_at l e false level h = (level.edges e h).target

-- the spots of all edges' ends are those of the level
pub spots_whole : (l : PlainLevel) (p : PlainPlan) (courses : List Course) (count : ℕ) (v : Spots) → IsLevel l → AreCourses l p (length l.edges) courses → count ≡ length l.edges → AreSpotsTo l courses count v → AreSpotsOf l p v
spots_whole l p courses count v level are all s =
    let rows = s.rows p are in
    let few_edges = level.few_edges in
    let long = ends_to_long (length l.edges) in
    let few : length (all_ends l) ≤ 4096 = omega (arith, long, few_edges) in
    let row : (c : ℕ) → c < length l.children → row_at (row_lists v.rows) c ≡ spots l p c = λ c h. rows.row_is c h ∙ ap (λ x. row_of l p c (ends_to x)) all ∙ sym (spots_row l p c) in
    record {
      as_many = rows.as_many;
      row_is = row;
      few = λ c h. let short = row_few l p c (all_ends l) level few in let same = ap length (spots_row l p c) in omega (arith, short, same);
      numbered = λ c h. subst AreCounted (sym (spots_row l p c)) (row_numbered l p c (all_ends l));
      sound = λ c h. spots_are l p c;
      two_each = s.numbers.as_long ∙ ap (λ x. 2 * x) all;
      sources = λ e h. subst (HasNumber l p (end_at e true)) (sym (s.numbers.source e (omega (arith, h, all)))) (has_number l p e true h (spoke_at l e true level h));
      targets = λ e h. subst (HasNumber l p (end_at e false)) (sym (s.numbers.target e (omega (arith, h, all)))) (has_number l p e false h (spoke_at l e false level h));
    }
