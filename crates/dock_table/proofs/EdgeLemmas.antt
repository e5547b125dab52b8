-- The spots of children, edge by edge.
use Rattle.std.proofs.Common.{◌≡◌, ℕ, ◌+◌, ◌*◌, ◌<◌, List, [], ◌∷◌, ◌++◌, length, map, get_or, set, Bool, true, false, Some, refl, sym, ◌∙◌, ap, subst, inl, inr, arith, append-nil, length-append}
use Rattle.std.specs.List.{range_with_len}
use Rattle.std.proofs.lemmas.Bool.{cases_eq, cases_lt}
use Rattle.std.proofs.lemmas.List.{get_or_append_left, get_or_default, get_or_past, get_or_push, get_or_read, length_push}
use Rattle.std.proofs.lemmas.List.FromFn.{get_or-map-range_with_len, length-map-range_with_len}
use Rattle.port_order.specs.declared.spots.Spot.{Spot}
use Rattle.port_order.specs.declared.children.Child.{Child}
use Rattle.port_order.specs.Child.{spot_at, no_spot}
use Rattle.level_model.specs.declared.level.LevelEdge.{LevelEdge}
use Rattle.level_model.specs.declared.level.EdgeEnd.{EdgeEnd}
use Rattle.level_model.specs.Conditions.{IsLevel, IsSpoke}
use Rattle.level_model.specs.Level.{PlainLevel, PlainPlan, child_at, edge_at, end_at}
use Rattle.dock_table.specs.declared.courses.Course.{Course}
use Rattle.dock_table.specs.declared.spots.Spots.{Spots}
use Rattle.dock_table.specs.declared.spots.Told.{Told}
use Rattle.dock_table.specs.Courses.{AreCourses, IsCourse, course_at}
use Rattle.dock_table.specs.Rows.{AreNumbers, ArePortRows, AreRowsOf, AreSpotsTo, HasPlace, IsCounted, bare, ends_to, number_by, number_in, number_of, row_at, row_lists, row_of, row_with, told_by}
use Rattle.dock_table.proofs.AddLemmas.{counted_rows, ends_to_long, has_place, number_is, numbers_more, told_small, told_true}
use Rattle.dock_table.proofs.RowLemmas.{rows_more}
use Rattle.dock_table.proofs.EndLemmas.{ends_more}

-- ---- no ends yet

port_row_of : (l : PlainLevel) (p : PlainPlan) (c : ℕ) → row_of l p c [] ≡ map (λ k. bare (Some k) k) (range_with_len 0 (length (child_at l c).ports))
port_row_of l p c = append-nil (map (λ k. bare (Some k) k) (range_with_len 0 (length (child_at l c).ports)))

pub port_rows_pushed : (l : PlainLevel) (count : ℕ) (rows : List (List Spot)) (row : List Spot) → row ≡ map (λ k. bare (Some k) k) (range_with_len 0 (length (child_at l count).ports)) → ArePortRows l count rows → ArePortRows l (count + 1) (rows ++ row ∷ [])
port_rows_pushed l count rows row is are =
    let long = are.as_many in
    let more = length_push rows row in
    record {
      as_many = omega (arith, long, more);
      row_is = λ c h. elim (cases_eq c count) [
        | inl e ↦ subst (λ x. row_at (rows ++ row ∷ []) x ≡ map (λ k. bare (Some k) k) (range_with_len 0 (length (child_at l x).ports))) (sym e) (get_or_push rows row [] count long ∙ is)
        | inr ne ↦ get_or_append_left rows (row ∷ []) [] c (omega (arith, h, ne, long)) ∙ are.row_is c (omega (arith, h, ne))
      ];
    }

bare_mean : (most m k : ℕ) → IsCounted most (spot_at (map (λ k. bare (Some k) k) (range_with_len 0 m)) k).mean
bare_mean most m k = elim (cases_lt k m) [
  | inl h ↦ subst (λ (s : Spot). IsCounted most s.mean) (sym (get_or-map-range_with_len (λ k. bare (Some k) k) 0 m k k no_spot h (omega arith))) tt
  | inr past ↦
      let long = length-map-range_with_len (λ k. bare (Some k) k) 0 m in
      subst (λ (s : Spot). IsCounted most s.mean) (sym (get_or_past (map (λ k. bare (Some k) k) (range_with_len 0 m)) k no_spot (omega (arith, past, long)))) tt
]

port_counted : (l : PlainLevel) (count : ℕ) (rows : List (List Spot)) → ArePortRows l count rows → (c k : ℕ) → IsCounted 0 (spot_at (row_at rows c) k).mean
port_counted l count rows are c k = elim (cases_lt c count) [
  | inl h ↦ subst (λ (row : List Spot). IsCounted 0 (spot_at row k).mean) (sym (are.row_is c h)) (bare_mean 0 (length (child_at l c).ports) k)
  | inr past ↦
      let long = are.as_many in
      subst (λ (row : List Spot). IsCounted 0 (spot_at row k).mean) (sym (get_or_past rows c [] (omega (arith, past, long)))) tt
]

pub spots_start : (l : PlainLevel) (courses : List Course) (v : Spots) → ArePortRows l (length l.children) (row_lists v.rows) → v.numbers.items ≡ [] → AreSpotsTo l courses 0 v
spots_start l courses v are none =
    record {
      rows = λ p course. record { as_many = are.as_many; row_is = λ c h. are.row_is c h ∙ sym (port_row_of l p c) };
      counted = port_counted l (length l.children) (row_lists v.rows) are;
      numbers = subst (AreNumbers l 0) (sym none) (record { as_long = refl; source = λ e h. absurd (omega (arith, h)); target = λ e h. absurd (omega (arith, h)) });
    }

-- ---- the two ends of an edge

-- an edge whose ends are added: what was read of it is what the level has
pub record IsAdded (l : PlainLevel) (courses : List Course) (e : ℕ) (edge : LevelEdge) (course : Course) : Type 0 where
  pub level : IsLevel l
  pub plan : PlainPlan
  pub courses_are : AreCourses l plan (length l.edges) courses
  pub inside : e < length l.edges
  pub edge_is : edge ≡ edge_at l e
  pub course_is : course ≡ course_at courses e

spoke_source : (l : PlainLevel) (courses : List Course) (e : ℕ) (edge : LevelEdge) (course : Course) → IsAdded l courses e edge course → IsSpoke l edge.source
spoke_source l courses e edge course is = subst (λ (x : LevelEdge). IsSpoke l x.source) (sym is.edge_is) (is.level.edges e is.inside).source

spoke_target : (l : PlainLevel) (courses : List Course) (e : ℕ) (edge : LevelEdge) (course : Course) → IsAdded l courses e edge course → IsSpoke l edge.target
spoke_target l courses e edge course is = subst (λ (x : LevelEdge). IsSpoke l x.target) (sym is.edge_is) (is.level.edges e is.inside).target

course_of : (l : PlainLevel) (p : PlainPlan) (courses : List Course) (e : ℕ) (edge : LevelEdge) (course : Course) → IsAdded l courses e edge course → AreCourses l p (length l.edges) courses → IsCourse l p e course
course_of l p courses e edge course is are = subst (IsCourse l p e) (sym is.course_is) (are.course_is e is.inside)

abbrev with_source : LevelEdge → Course → List (List Spot) → List (List Spot)
with_source edge course rows = set rows edge.source.child (row_with edge.source.port (told_by course true) (row_at rows edge.source.child))

abbrev with_target : LevelEdge → Course → List (List Spot) → List (List Spot)
with_target edge course rows = set rows edge.target.child (row_with edge.target.port (told_by course false) (row_at rows edge.target.child))

source_rows : (l : PlainLevel) (p : PlainPlan) (courses : List Course) (e : ℕ) (edge : LevelEdge) (course : Course) (rows : List (List Spot)) → IsAdded l courses e edge course → AreCourses l p (length l.edges) courses → AreRowsOf l p (ends_to e) rows
    → AreRowsOf l p (ends_to e ++ end_at e true ∷ []) (with_source edge course rows)
source_rows l p courses e edge course rows is courses_are are =
    let spoke_in = spoke_source l courses e edge course is in
    rows_more l p (ends_to e) (end_at e true) edge.source (told_by course true) rows (told_true l p e course true (course_of l p courses e edge course is courses_are)) (ap (λ (x : LevelEdge). x.source) (sym is.edge_is)) spoke_in.child spoke_in.port are

target_rows : (l : PlainLevel) (p : PlainPlan) (courses : List Course) (e : ℕ) (edge : LevelEdge) (course : Course) (rows : List (List Spot)) → IsAdded l courses e edge course → AreCourses l p (length l.edges) courses → AreRowsOf l p (ends_to e ++ end_at e true ∷ []) rows
    → AreRowsOf l p (ends_to (e + 1)) (with_target edge course rows)
target_rows l p courses e edge course rows is courses_are are =
    let spoke_in = spoke_target l courses e edge course is in
    subst (λ ns. AreRowsOf l p ns (with_target edge course rows)) (sym (ends_more e))
    (rows_more l p (ends_to e ++ end_at e true ∷ []) (end_at e false) edge.target (told_by course false) rows (told_true l p e course false (course_of l p courses e edge course is courses_are)) (ap (λ (x : LevelEdge). x.target) (sym is.edge_is)) spoke_in.child spoke_in.port are)

source_counted : (l : PlainLevel) (courses : List Course) (e : ℕ) (edge : LevelEdge) (course : Course) (rows : List (List Spot)) → IsAdded l courses e edge course → ((c k : ℕ) → IsCounted (2 * e) (spot_at (row_at rows c) k).mean) → (c k : ℕ) → IsCounted (2 * e + 1) (spot_at (row_at (with_source edge course rows) c) k).mean
source_counted l courses e edge course rows is counted =
    counted_rows (2 * e) edge.source.child edge.source.port (told_by course true) rows (told_small l is.plan e course true (course_of l is.plan courses e edge course is is.courses_are)) counted

target_counted : (l : PlainLevel) (courses : List Course) (e : ℕ) (edge : LevelEdge) (course : Course) (rows : List (List Spot)) → IsAdded l courses e edge course → ((c k : ℕ) → IsCounted (2 * e + 1) (spot_at (row_at rows c) k).mean) → (c k : ℕ) → IsCounted (2 * (e + 1)) (spot_at (row_at (with_target edge course rows) c) k).mean
target_counted l courses e edge course rows is counted c k =
    let twice : 2 * e + 1 + 1 ≡ 2 * (e + 1) = omega arith in
    subst (λ m. IsCounted m (spot_at (row_at (with_target edge course rows) c) k).mean) twice
    (counted_rows (2 * e + 1) edge.target.child edge.target.port (told_by course false) rows (told_small l is.plan e course false (course_of l is.plan courses e edge course is is.courses_are)) counted c k)

-- there is room for the first end, and then for the second
pub source_place : (l : PlainLevel) (courses : List Course) (e : ℕ) (edge : LevelEdge) (course : Course) (v : Spots) → IsAdded l courses e edge course → AreSpotsTo l courses e v → (edge.source.child < length (row_lists v.rows)) × HasPlace edge.source.port (row_at (row_lists v.rows) edge.source.child)
source_place l courses e edge course v is s =
    let rows = s.rows is.plan is.courses_are in
    let spoke_in = spoke_source l courses e edge course is in
    let child = spoke_in.child in
    let many = rows.as_many in
    let long = ends_to_long e in
    let inside = is.inside in
    let few = is.level.few_edges in (
      omega (arith, child, many),
      has_place l is.plan edge.source (ends_to e) (row_lists v.rows) (2 * e) is.level spoke_in rows (omega (arith, long, inside, few)) (omega (arith, inside, few)) s.counted,
    )

pub target_place : (l : PlainLevel) (courses : List Course) (e : ℕ) (edge : LevelEdge) (course : Course) (v : Spots) (mid : List (List Spot)) → IsAdded l courses e edge course → AreSpotsTo l courses e v → mid ≡ with_source edge course (row_lists v.rows) → (edge.target.child < length mid) × HasPlace edge.target.port (row_at mid edge.target.child)
target_place l courses e edge course v mid is s q =
    let rows = subst (AreRowsOf l is.plan (ends_to e ++ end_at e true ∷ [])) (sym q) (source_rows l is.plan courses e edge course (row_lists v.rows) is is.courses_are (s.rows is.plan is.courses_are)) in
    let spoke_in = spoke_target l courses e edge course is in
    let child = spoke_in.child in
    let many = rows.as_many in
    let long = ends_to_long e in
    let more = length-append (ends_to e) (end_at e true ∷ []) in
    let inside = is.inside in
    let few = is.level.few_edges in (
      omega (arith, child, many),
      has_place l is.plan edge.target (ends_to e ++ end_at e true ∷ []) mid (2 * e + 1) is.level spoke_in rows (omega (arith, long, more, inside, few)) (omega (arith, inside, few))
          (subst (λ xs. (c k : ℕ) → IsCounted (2 * e + 1) (spot_at (row_at xs c) k).mean) (sym q) (source_counted l courses e edge course (row_lists v.rows) is s.counted)),
    )

-- both ends are added
pub edge_added : (l : PlainLevel) (courses : List Course) (e : ℕ) (edge : LevelEdge) (course : Course) (v w : Spots) (mid : List (List Spot)) (a b : ℕ) → IsAdded l courses e edge course → AreSpotsTo l courses e v → mid ≡ with_source edge course (row_lists v.rows) → row_lists w.rows ≡ with_target edge course mid
    → a ≡ number_in edge.source.port (row_at (row_lists v.rows) edge.source.child) → b ≡ number_in edge.target.port (row_at mid edge.target.child) → w.numbers.items ≡ (v.numbers.items ++ a ∷ []) ++ b ∷ [] → AreSpotsTo l courses (e + 1) w
edge_added l courses e edge course v w mid a b is s q r na nb pushed =
    let after : row_lists w.rows ≡ with_target edge course (with_source edge course (row_lists v.rows)) = r ∙ ap (with_target edge course) q in
    let mid_rows : (p : PlainPlan) → AreCourses l p (length l.edges) courses → AreRowsOf l p (ends_to e ++ end_at e true ∷ []) (with_source edge course (row_lists v.rows)) = λ p are. source_rows l p courses e edge course (row_lists v.rows) is are (s.rows p are) in
    let first_row = (s.rows is.plan is.courses_are).row_is edge.source.child (spoke_source l courses e edge course is).child in
    let mid_row = (mid_rows is.plan is.courses_are).row_is edge.target.child (spoke_target l courses e edge course is).child in
    let first : a ≡ number_of l e true = na ∙ number_is l is.plan edge.source (ends_to e) (row_at (row_lists v.rows) edge.source.child) first_row ∙ ap (λ (x : LevelEdge). number_by l x.source (ends_to e)) is.edge_is in
    let second : b ≡ number_of l e false = nb ∙ ap (λ xs. number_in edge.target.port (row_at xs edge.target.child)) q ∙ number_is l is.plan edge.target (ends_to e ++ end_at e true ∷ []) (row_at (with_source edge course (row_lists v.rows)) edge.target.child) mid_row ∙ ap (λ (x : LevelEdge). number_by l x.target (ends_to e ++ end_at e true ∷ [])) is.edge_is in
    record {
      rows = λ p are. subst (AreRowsOf l p (ends_to (e + 1))) (sym after) (target_rows l p courses e edge course (with_source edge course (row_lists v.rows)) is are (mid_rows p are));
      counted = subst (λ xs. (c k : ℕ) → IsCounted (2 * (e + 1)) (spot_at (row_at xs c) k).mean) (sym after) (target_counted l courses e edge course (with_source edge course (row_lists v.rows)) is (source_counted l courses e edge course (row_lists v.rows) is s.counted));
      numbers = subst (AreNumbers l (e + 1)) (sym pushed) (numbers_more l e v.numbers.items a b s.numbers first second);
    }

-- a child that is read from the level's
pub child_read : (l : PlainLevel) (cs : List Child) (c : ℕ) (x : Child) → cs ≡ l.children → x ≡ get_or cs c x → c < length cs → x ≡ child_at l c
child_read l cs c x q is h = get_or_read cs c x h is (child_at (record { children = []; edges = []; spacing = l.spacing; choices = l.choices }) 0) ∙ ap (λ (ys : List Child). child_at (record { children = ys; edges = l.edges; spacing = l.spacing; choices = l.choices }) c) q

-- what is read of an edge
pub added : (l : PlainLevel) (courses : List Course) (e : ℕ) (edge : LevelEdge) → IsLevel l → ((p : PlainPlan) × AreCourses l p (length l.edges) courses) → e < length l.edges → edge ≡ get_or l.edges e edge → IsAdded l courses e edge (course_at courses e)
added l courses e edge level courses_are h is =
    record { level = level; plan = courses_are.0; courses_are = courses_are.1; inside = h; edge_is = get_or_read l.edges e edge h is (edge_at (record { children = []; edges = []; spacing = l.spacing; choices = l.choices }) 0); course_is = refl }

-- what was told of an edge
pub told_read : (l : PlainLevel) (courses : List Course) (e : ℕ) (edge : LevelEdge) (d : Course) (t : Bool) (told : Told) → IsAdded l courses e edge (course_at courses e) → told ≡ told_by (get_or courses e d) t → told ≡ told_by (course_at courses e) t
told_read l courses e edge d t told is q =
    let long = is.courses_are.as_long in
    let inside = is.inside in
    q ∙ ap (λ (f : Course). told_by f t) (get_or_default courses e d (course_at [] 0) (omega (arith, long, inside)))

-- rows that were changed by what was told
pub rows_told : (rows after : List (List Spot)) (s : EdgeEnd) (told told' : Told) → told ≡ told' → after ≡ set rows s.child (row_with s.port told (row_at rows s.child)) → after ≡ set rows s.child (row_with s.port told' (row_at rows s.child))
rows_told rows after s told told' q e = e ∙ ap (λ (t : Told). set rows s.child (row_with s.port t (row_at rows s.child))) q
