-- Each edge that is no self-loop has links at both its ends.
use Rattle.std.proofs.Common.{◌≡◌, ◌≢◌, ℕ, zero, suc, ◌+◌, ◌-◌, ◌<◌, ◌≤◌, ◌^◌, ◌==◌, List, [], ◌∷◌, ◌++◌, length, get_or, Bool, true, false, not, ◌&&◌, cond, Option, is_some, IsFalse, refl, sym, ◌∙◌, ap, subst, inl, inr, arith, eq-eqb, ne_eqb, true≢false}
use Rattle.std.specs.List.{filter, range_with_len, All}
use Rattle.std.proofs.lemmas.Bool.{cases_eq, cases_Bool, and_from, and_parts, eqb-true}
use Rattle.std.proofs.lemmas.List.{get_or_append_left, get_or_default, get_or_push, get_or_read, length_push}
use Rattle.std.proofs.lemmas.List.Elements.{All-nil, All-cons, All-append, All-filter, All-get_or, All-head, All-tail, filter_passes}
use Rattle.elk_layers.specs.Layered.{Plain, IsSound, AreRows, link_at, is_child, place_of, layer_of}
use Rattle.elk_layers.specs.Places.{ArePlaces}
use Rattle.elk_layers.proofs.RowLemmas.{place_small}
use Rattle.elk_layers.specs.declared.units.Link.{Link}
use Rattle.level_model.specs.declared.level.LevelEdge.{LevelEdge}
use Rattle.level_model.specs.Conditions.{IsLevel, IsSpoke}
use Rattle.level_model.specs.Level.{PlainLevel, PlainPlan, edge_at, first_or, head_end, holds, is_loop, spoke, tail_end}
use Rattle.level_model.specs.Nets.{unit_of}
use Rattle.level_model.specs.Traces.{chain, links_at, links_from}
use Rattle.level_model.specs.Units.{AreLinked, chain_at}
use Rattle.dock_table.specs.declared.courses.Course.{Course}
use Rattle.dock_table.specs.Courses.{AreFirst, AreCourses, IsCourse, IsReadable, ReversedAreMarked, first_link, course_at, is_near, near_unit}

first_exists : (test : ℕ → Bool) (a m k : ℕ) → a ≤ k → k < a + m → test k ≡ true → first_or (filter test (range_with_len a m)) 0 < a + m
first_exists test a zero k low high t = absurd (omega (arith, low, high))
first_exists test a (suc m) k low high t = elim (cases_Bool (test a)) [
  | inl passed ↦ rw passed (omega arith)
  | inr no_test ↦
      let ne : a ≢ k = λ e. true≢false (sym t ∙ ap test (sym e) ∙ no_test) in
      let rest = first_exists test (a + 1) m k (omega (arith, low, ne)) (omega (arith, high)) t in
      rw no_test (omega (arith, rest))
]

abbrev IsOf : PlainPlan → ℕ → ℕ → Type 0
IsOf p e k = (k < length p.layered.links) × ((link_at p.layered.links k).edge ≡ e)

range_all : (P : ℕ → Type 0) (a m : ℕ) → ((k : ℕ) → k < a + m → P k) → All P (range_with_len a m)
range_all P a zero h = All-nil P
range_all P a (suc m) h = All-cons P a (range_with_len (a + 1) m) (h a (omega arith)) (range_all P (a + 1) m (λ k less. h k (omega (arith, less))))

both : (P Q R : ℕ → Type 0) → ((k : ℕ) → P k → Q k → R k) → (ks : List ℕ) → All P ks → All Q ks → All R ks
both P Q R f [] a b = All-nil R
both P Q R f (k ∷ ks) a b = All-cons R k ks (f k (All-head P k ks a) (All-head Q k ks b)) (both P Q R f ks (All-tail P k ks a) (All-tail Q k ks b))

links_of : (p : PlainPlan) (e r : ℕ) → All (IsOf p e) (links_at p e r)
links_of p e r =
    let test : ℕ → Bool = λ k. ((link_at p.layered.links k).edge == e) && (layer_of p.layered (link_at p.layered.links k).tail == r) in
    both (λ k. k < length p.layered.links) (λ k. (((link_at p.layered.links k).edge == e) && (layer_of p.layered (link_at p.layered.links k).tail == r)) ≡ true) (IsOf p e)
    (λ k h t. (h, eqb-true (link_at p.layered.links k).edge e (and_parts ((link_at p.layered.links k).edge == e) (layer_of p.layered (link_at p.layered.links k).tail == r) t).0))
    (links_at p e r)
    (All-filter (λ k. ((link_at p.layered.links k).edge == e) && (layer_of p.layered (link_at p.layered.links k).tail == r)) (λ k. k < length p.layered.links) (range_with_len 0 (length p.layered.links))
    (range_all (λ k. k < length p.layered.links) 0 (length p.layered.links) (λ k h. omega (arith, h))))
    (filter_passes (λ k. ((link_at p.layered.links k).edge == e) && (layer_of p.layered (link_at p.layered.links k).tail == r)) (range_with_len 0 (length p.layered.links)))

chain_of : (p : PlainPlan) (e : ℕ) (rs : List ℕ) → All (IsOf p e) (links_from p e rs)
chain_of p e [] = All-nil (IsOf p e)
chain_of p e (r ∷ rs) = All-append (IsOf p e) (links_at p e r) (links_from p e rs) (links_of p e r) (chain_of p e rs)

-- a link of the edge that has a child at its head or its tail
near_there : (p : PlainPlan) (at_head : Bool) (e k : ℕ) → IsOf p e k → is_child p.layered (near_unit (link_at p.layered.links k) at_head) ≡ true → first_link p.layered at_head e < length p.layered.links
near_there p at_head e k of child =
    let near : is_near p.layered at_head e k ≡ true = and_from ((link_at p.layered.links k).edge == e) (is_child p.layered (near_unit (link_at p.layered.links k) at_head)) (eq-eqb (link_at p.layered.links k).edge e of.1) child in
    let found = first_exists (is_near p.layered at_head e) 0 (length p.layered.links) k (omega arith) (omega (arith, of.0)) near in
    omega (arith, found)

child_there : (l : PlainLevel) (p : PlainPlan) (layers : List ℕ) (c u : ℕ) → AreLinked l p layers → c < length l.children → u ≡ unit_of p c → is_child p.layered u ≡ true
child_there l p layers c u linked h e = ap (λ x. is_child p.layered x) e ∙ ap (λ (o : Option ℕ). is_some o) (linked.children c h).child

pub first_there : (l : PlainLevel) (p : PlainPlan) (layers : List ℕ) (e : ℕ) → AreLinked l p layers → e < length l.edges → IsFalse (is_loop l e) → IsSpoke l (spoke l (tail_end p e)) → first_link p.layered false e < length p.layered.links
first_there l p layers e linked h no_loop spoke_in =
    let has = linked.chains e h no_loop in
    near_there p false e (chain_at p e 0) (All-get_or (IsOf p e) (chain p e) 0 0 has.some (chain_of p e (range_with_len 0 p.layers)))
    (child_there l p layers (spoke l (tail_end p e)).child (link_at p.layered.links (chain_at p e 0)).tail linked spoke_in.child has.from)

pub last_there : (l : PlainLevel) (p : PlainPlan) (layers : List ℕ) (e : ℕ) → AreLinked l p layers → e < length l.edges → IsFalse (is_loop l e) → IsSpoke l (spoke l (head_end p e)) → first_link p.layered true e < length p.layered.links
last_there l p layers e linked h no_loop spoke_in =
    let has = linked.chains e h no_loop in
    let some = has.some in
    near_there p true e (chain_at p e (length (chain p e) - 1)) (All-get_or (IsOf p e) (chain p e) (length (chain p e) - 1) 0 (omega (arith, some)) (chain_of p e (range_with_len 0 p.layers)))
    (child_there l p layers (spoke l (head_end p e)).child (link_at p.layered.links (chain_at p e (length (chain p e) - 1))).head linked spoke_in.child has.to)

-- a spoke at either end
pub either_spoke : (l : PlainLevel) (e : ℕ) (t : Bool) → IsLevel l → e < length l.edges → IsSpoke l (cond t (edge_at l e).source (edge_at l e).target)
either_spoke l e true level h = (level.edges e h).source
either_spoke l e false level h = (level.edges e h).target

pub readable : (l : Plain) (rows : List (List ℕ)) (place : List ℕ) (k : ℕ) → IsSound l → ArePlaces l rows place → k < length l.links → IsReadable l.links place k
readable l rows place k sound places h =
    let link = sound.links_are k h in
    record { link = h; tail = rw places.as_long link.tail; head = rw places.as_long link.head }

-- what is known of the tables that an edge's flow is read from
pub record AreRead (l : PlainLevel) (p : PlainPlan) (place : List ℕ) (marks : List Bool) (firsts lasts : List ℕ) : Type 0 where
  pub level : IsLevel l
  pub sound : IsSound p.layered
  pub rows : AreRows p.layered p.rows
  pub is_reversed : ReversedAreMarked l marks p
  pub places : ArePlaces p.layered p.rows place
  pub firsts_are : AreFirst (is_near p.layered false) (length p.layered.links) (length l.edges) firsts
  pub lasts_are : AreFirst (is_near p.layered true) (length p.layered.links) (length l.edges) lasts

pub read_first : (l : PlainLevel) (p : PlainPlan) (place : List ℕ) (marks : List Bool) (firsts lasts : List ℕ) (e : ℕ) → AreRead l p place marks firsts lasts → e < length l.edges → IsFalse (is_loop l e) → IsReadable p.layered.links place (get_or firsts e 0)
read_first l p place marks firsts lasts e are h no_loop =
    rw (are.firsts_are.first_is e h) (readable p.layered p.rows place (first_link p.layered false e) are.sound are.places (first_there l p are.is_reversed.layers e are.is_reversed.linked h no_loop (either_spoke l e (not (holds p.reversed e)) are.level h)))

pub read_last : (l : PlainLevel) (p : PlainPlan) (place : List ℕ) (marks : List Bool) (firsts lasts : List ℕ) (e : ℕ) → AreRead l p place marks firsts lasts → e < length l.edges → IsFalse (is_loop l e) → IsReadable p.layered.links place (get_or lasts e 0)
read_last l p place marks firsts lasts e are h no_loop =
    rw (are.lasts_are.first_is e h) (readable p.layered p.rows place (first_link p.layered true e) are.sound are.places (last_there l p are.is_reversed.layers e are.is_reversed.linked h no_loop (either_spoke l e (holds p.reversed e) are.level h)))

-- what is read of an edge
pub record IsRead (l : PlainLevel) (p : PlainPlan) (place : List ℕ) (marks : List Bool) (firsts lasts : List ℕ) (e : ℕ) (v : Course) : Type 0 where
  pub looped : v.looped ≡ is_loop l e
  pub is_reversed : v.is_reversed ≡ get_or marks e false
  pub after : v.after ≡ cond (is_loop l e) 0 (get_or place (link_at p.layered.links (get_or firsts e 0)).head 0)
  pub before : v.before ≡ cond (is_loop l e) 0 (get_or place (link_at p.layered.links (get_or lasts e 0)).tail 0)

small_cond : (b : Bool) (n most : ℕ) → (b ≡ false → n ≤ most) → cond b 0 n ≤ most
small_cond true n most h = omega arith
small_cond false n most h = h refl

pub course_read : (l : PlainLevel) (p : PlainPlan) (place : List ℕ) (marks : List Bool) (firsts lasts : List ℕ) (e : ℕ) (v : Course) → AreRead l p place marks firsts lasts → e < length l.edges → IsRead l p place marks firsts lasts e v → IsCourse l p e v
course_read l p place marks firsts lasts e v are h is =
    let units = are.sound.few_units in
    let placed : (u : ℕ) → u < length place → (get_or place u 0 ≡ place_of p.layered p.rows u) × (get_or place u 0 ≤ 2 ^ 24) = λ u less.
    let inside : u < length p.layered.units = omega (arith, less, are.places.as_long) in
    let at = are.places.place_is u inside in
    let small = place_small p.layered p.rows u are.sound are.rows inside in
    (at, omega (arith, at, small, units))
    in
    let head : IsFalse (is_loop l e) → get_or place (link_at p.layered.links (get_or firsts e 0)).head 0 ≡ place_of p.layered p.rows (link_at p.layered.links (first_link p.layered false e)).head = λ no_loop.
    (placed (link_at p.layered.links (get_or firsts e 0)).head (read_first l p place marks firsts lasts e are h no_loop).head).0
    ∙ ap (λ k. place_of p.layered p.rows (link_at p.layered.links k).head) (are.firsts_are.first_is e h)
    in
    let tail : IsFalse (is_loop l e) → get_or place (link_at p.layered.links (get_or lasts e 0)).tail 0 ≡ place_of p.layered p.rows (link_at p.layered.links (first_link p.layered true e)).tail = λ no_loop.
    (placed (link_at p.layered.links (get_or lasts e 0)).tail (read_last l p place marks firsts lasts e are h no_loop).tail).0
    ∙ ap (λ k. place_of p.layered p.rows (link_at p.layered.links k).tail) (are.lasts_are.first_is e h)
    in
    record {
      looped = is.looped;
      is_reversed = is.is_reversed ∙ are.is_reversed.marks.each e h;
      after = λ no_loop. is.after ∙ ap (λ b. cond b 0 (get_or place (link_at p.layered.links (get_or firsts e 0)).head 0)) no_loop ∙ head no_loop;
      before = λ no_loop. is.before ∙ ap (λ b. cond b 0 (get_or place (link_at p.layered.links (get_or lasts e 0)).tail 0)) no_loop ∙ tail no_loop;
      after_small = rw is.after (small_cond (is_loop l e) (get_or place (link_at p.layered.links (get_or firsts e 0)).head 0) (2 ^ 24) (λ no_loop. (placed (link_at p.layered.links (get_or firsts e 0)).head (read_first l p place marks firsts lasts e are h no_loop).head).1));
      before_small = rw is.before (small_cond (is_loop l e) (get_or place (link_at p.layered.links (get_or lasts e 0)).tail 0) (2 ^ 24) (λ no_loop. (placed (link_at p.layered.links (get_or lasts e 0)).tail (read_last l p place marks firsts lasts e are h no_loop).tail).1));
    }

-- ---- as an edge is read from the tables

pub tables : (l : PlainLevel) (p : PlainPlan) (place : List ℕ) (marks : List Bool) (firsts lasts : List ℕ) (es : List LevelEdge) → es ≡ l.edges → IsLevel l → IsSound p.layered → AreRows p.layered p.rows → ReversedAreMarked l marks p
    → ArePlaces p.layered p.rows place → AreFirst (is_near p.layered false) (length p.layered.links) (length es) firsts → AreFirst (is_near p.layered true) (length p.layered.links) (length es) lasts
    → AreRead l p place marks firsts lasts
tables l p place marks firsts lasts es e level sound rows is_reversed places firsts_are lasts_are =
    record {
      level = level;
      sound = sound;
      rows = rows;
      is_reversed = is_reversed;
      places = places;
      firsts_are = subst (λ (xs : List LevelEdge). AreFirst (is_near p.layered false) (length p.layered.links) (length xs) firsts) e firsts_are;
      lasts_are = subst (λ (xs : List LevelEdge). AreFirst (is_near p.layered true) (length p.layered.links) (length xs) lasts) e lasts_are;
    }

pub edge_read : (l : PlainLevel) (es : List LevelEdge) (e : ℕ) (d : LevelEdge) → es ≡ l.edges → e < length es → (get_or es e d ≡ edge_at l e) × (e < length l.edges)
edge_read l es e d q h =
    let inside : e < length l.edges = subst (λ (xs : List LevelEdge). e < length xs) q h in (
      ap (λ (xs : List LevelEdge). get_or xs e d) q ∙ get_or_default l.edges e d (edge_at (record { children = []; edges = []; spacing = l.spacing; choices = l.choices }) 0) inside,
      inside,
    )

loop_no : (l : PlainLevel) (e : ℕ) (x : LevelEdge) → x ≡ edge_at l e → x.source.child ≢ x.target.child → IsFalse (is_loop l e)
loop_no l e x q ne = ap (λ (y : LevelEdge). y.source.child == y.target.child) (sym q) ∙ ne_eqb x.source.child x.target.child ne

moved_read : (links links' : List Link) (place place' : List ℕ) (k k' : ℕ) → links' ≡ links → place' ≡ place → k' ≡ k → IsReadable links place k → IsReadable links' place' k'
moved_read links links' place place' k k' a b c is =
    subst (λ xs. IsReadable xs place' k') (sym a) (subst (λ ps. IsReadable links ps k') (sym b) (subst (IsReadable links place) (sym c) is))

pub first_read : (l : PlainLevel) (p : PlainPlan) (place : List ℕ) (marks : List Bool) (firsts lasts : List ℕ) (es : List LevelEdge) (e : ℕ) (d : LevelEdge) (links' : List Link) (place' : List ℕ) (k : ℕ) → AreRead l p place marks firsts lasts
    → es ≡ l.edges → e < length es → links' ≡ p.layered.links → place' ≡ place → k ≡ get_or firsts e k → (get_or es e d).source.child ≢ (get_or es e d).target.child → IsReadable links' place' k
first_read l p place marks firsts lasts es e d links' place' k are q h a b c ne =
    let at = edge_read l es e d q h in
    let long = are.firsts_are.as_long in
    let in_table : e < length firsts = omega (arith, long, at.1) in
    moved_read p.layered.links links' place place' (get_or firsts e 0) k a b (get_or_read firsts e k in_table c 0)
    (read_first l p place marks firsts lasts e are at.1 (loop_no l e (get_or es e d) at.0 ne))

pub last_read : (l : PlainLevel) (p : PlainPlan) (place : List ℕ) (marks : List Bool) (firsts lasts : List ℕ) (es : List LevelEdge) (e : ℕ) (d : LevelEdge) (links' : List Link) (place' : List ℕ) (k : ℕ) → AreRead l p place marks firsts lasts
    → es ≡ l.edges → e < length es → links' ≡ p.layered.links → place' ≡ place → k ≡ get_or lasts e k → (get_or es e d).source.child ≢ (get_or es e d).target.child → IsReadable links' place' k
last_read l p place marks firsts lasts es e d links' place' k are q h a b c ne =
    let at = edge_read l es e d q h in
    let long = are.lasts_are.as_long in
    let in_table : e < length lasts = omega (arith, long, at.1) in
    moved_read p.layered.links links' place place' (get_or lasts e 0) k a b (get_or_read lasts e k in_table c 0)
    (read_last l p place marks firsts lasts e are at.1 (loop_no l e (get_or es e d) at.0 ne))

cond_link : (b c : Bool) (links links' : List Link) (place place' : List ℕ) (k k' : ℕ) (near : Link → ℕ) → b ≡ c → links' ≡ links → place' ≡ place → k' ≡ k → cond b 0 (get_or place' (near (link_at links' k')) 0) ≡ cond c 0 (get_or place (near (link_at links k)) 0)
cond_link b c links links' place place' k k' near q x y z =
    ap (λ t. cond t 0 (get_or place' (near (link_at links' k')) 0)) q
    ∙ ap (λ xs. cond c 0 (get_or place' (near (link_at xs k')) 0)) x
    ∙ ap (λ ps. cond c 0 (get_or ps (near (link_at links k')) 0)) y
    ∙ ap (λ n. cond c 0 (get_or place (near (link_at links n)) 0)) z

-- a flow that was read, behind those that were
pub course_pushed : (l : PlainLevel) (p : PlainPlan) (place : List ℕ) (marks : List Bool) (firsts lasts : List ℕ) (es : List LevelEdge) (e : ℕ) (d : LevelEdge) (links' : List Link) (place' : List ℕ) (first last : ℕ) (v : Course) (old new : List Course)
    → AreRead l p place marks firsts lasts → es ≡ l.edges → e < length es → links' ≡ p.layered.links → place' ≡ place → first ≡ get_or firsts e first → last ≡ get_or lasts e last
    → v.looped ≡ ((get_or es e d).source.child == (get_or es e d).target.child) → v.is_reversed ≡ get_or marks e false
    → v.after ≡ cond ((get_or es e d).source.child == (get_or es e d).target.child) 0 (get_or place' (link_at links' first).head 0)
    → v.before ≡ cond ((get_or es e d).source.child == (get_or es e d).target.child) 0 (get_or place' (link_at links' last).tail 0)
    → new ≡ old ++ v ∷ [] → AreCourses l p e old → AreCourses l p (e + 1) new
course_pushed l p place marks firsts lasts es e d links' place' first last v old new are q h a b f t looped is_reversed after before pushed s =
    let at = edge_read l es e d q h in
    let loop : ((get_or es e d).source.child == (get_or es e d).target.child) ≡ is_loop l e = ap (λ (y : LevelEdge). y.source.child == y.target.child) at.0 in
    let long_f = are.firsts_are.as_long in
    let long_l = are.lasts_are.as_long in
    let first_is = get_or_read firsts e first (omega (arith, long_f, at.1)) f 0 in
    let last_is = get_or_read lasts e last (omega (arith, long_l, at.1)) t 0 in
    let is : IsCourse l p e v = course_read l p place marks firsts lasts e v are at.1 (record {
      looped = looped ∙ loop;
      is_reversed = is_reversed;
      after = after ∙ cond_link ((get_or es e d).source.child == (get_or es e d).target.child) (is_loop l e) p.layered.links links' place place' (get_or firsts e 0) first (λ x. x.head) loop a b first_is;
      before = before ∙ cond_link ((get_or es e d).source.child == (get_or es e d).target.child) (is_loop l e) p.layered.links links' place place' (get_or lasts e 0) last (λ x. x.tail) loop a b last_is;
    }) in
    let old_long = s.as_long in
    let more = length_push old v in
    subst (AreCourses l p (e + 1)) (sym pushed) (record {
      as_long = omega (arith, old_long, more);
      course_is = λ i less. elim (cases_eq i e) [
        | inl same ↦ subst (λ x. IsCourse l p x (course_at (old ++ v ∷ []) x)) (sym same) (subst (IsCourse l p e) (sym (get_or_push old v (course_at [] 0) e old_long)) is)
        | inr ne ↦ subst (IsCourse l p i) (sym (get_or_append_left old (v ∷ []) (course_at [] 0) i (omega (arith, less, ne, old_long)))) (s.course_is i (omega (arith, less, ne)))
      ];
    })
