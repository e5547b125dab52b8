-- What the ends of an edge need to know of it: whether it is reversed, and the places of the units that its links join.
use Rattle.std.specs.Prelude.{◌≡◌, ℕ, ◌-◌, ◌<◌, ◌≤◌, ◌^◌, ◌==◌, cond, Bool, true, false, ◌&&◌, List, length, slice_index, slice_index_or}
use Rattle.std.specs.Prelude.{IsFalse}
use Rattle.std.specs.List.{filter, range_with_len}
use Rattle.elk_layers.specs.declared.units.Link.{Link}
use Rattle.elk_layers.specs.Layered.{Plain, link_at, is_child, place_of}
use Rattle.level_model.specs.Level.{PlainLevel, PlainPlan, holds, is_loop, first_or}
use Rattle.level_model.specs.Marks.{AreMarks}
use Rattle.level_model.specs.Units.{AreLinked}
use Rattle.dock_table.specs.declared.courses.Course.{Course}

-- the unit of a link at its head or its tail
abbrev pub near_unit : Link → Bool → ℕ
near_unit link at_head = cond at_head link.head link.tail

-- the link of an edge that has a child there
abbrev pub is_near : Plain → Bool → ℕ → ℕ → Bool
is_near l at_head e k = ((link_at l.links k).edge == e) && is_child l (near_unit (link_at l.links k) at_head)

abbrev pub first_link : Plain → Bool → ℕ → ℕ
first_link l at_head e = first_or (filter (is_near l at_head e) (range_with_len 0 (length l.links))) 0

-- the first number from k on, below a bound, that passes a test
abbrev pub first_from : (ℕ → Bool) → ℕ → ℕ → ℕ
first_from test k bound = first_or (filter test (range_with_len k (bound - k))) 0

-- by number, the first that passes that number's test, from k on and of all
pub record AreFirstFrom (test : ℕ → ℕ → Bool) (k bound count : ℕ) (firsts : List ℕ) : Type 0 where
  pub as_long : length firsts ≡ count
  pub first_is : (e : ℕ) → e < count → slice_index firsts e ≡ first_from (test e) k bound

pub record AreFirst (test : ℕ → ℕ → Bool) (bound count : ℕ) (firsts : List ℕ) : Type 0 where
  pub as_long : length firsts ≡ count
  pub first_is : (e : ℕ) → e < count → slice_index firsts e ≡ first_or (filter (test e) (range_with_len 0 bound)) 0

-- a plan whose reversed edges are the marked ones, and whose units are linked as those of the level in some layers
pub record ReversedAreMarked (l : PlainLevel) (is_reversed : List Bool) (p : PlainPlan) : Type 0 where
  pub marks : AreMarks p.reversed (length l.edges) is_reversed
  pub layers : List ℕ
  pub linked : AreLinked l p layers

-- all links are those of edges below a bound
abbrev pub HaveEdges : Plain → ℕ → Type 0
HaveEdges l count = (k : ℕ) → k < length l.links → (link_at l.links k).edge < count

-- a link with units whose places are known
pub record IsReadable (links : List Link) (place : List ℕ) (k : ℕ) : Type 0 where
  pub link : k < length links
  pub tail : (link_at links k).tail < length place
  pub head : (link_at links k).head < length place

-- An edge as its ends see it. The unit after its tail is the one to which its first link leads, the unit before its head
-- the one from which its last link comes.
pub record IsCourse (l : PlainLevel) (p : PlainPlan) (e : ℕ) (v : Course) : Type 0 where
  pub looped : v.looped ≡ is_loop l e
  pub is_reversed : v.is_reversed ≡ holds p.reversed e
  pub after : IsFalse (is_loop l e) → v.after ≡ place_of p.layered p.rows (link_at p.layered.links (first_link p.layered false e)).head
  pub before : IsFalse (is_loop l e) → v.before ≡ place_of p.layered p.rows (link_at p.layered.links (first_link p.layered true e)).tail
  pub after_small : v.after ≤ 2 ^ 24
  pub before_small : v.before ≤ 2 ^ 24

abbrev pub course_at : List Course → ℕ → Course
course_at courses e = slice_index_or courses e (record { looped = true; is_reversed = false; after = 0; before = 0 })

-- the first of a level's edges
pub record AreCourses (l : PlainLevel) (p : PlainPlan) (count : ℕ) (courses : List Course) : Type 0 where
  pub as_long : length courses ≡ count
  pub course_is : (e : ℕ) → e < count → IsCourse l p e (course_at courses e)
