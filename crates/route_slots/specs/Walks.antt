-- A search in depth.
use Rattle.std.specs.Prelude.{◌≡◌, ◌≢◌, ◌⊎◌, ℕ, ◌+◌, ◌-◌, ◌<◌, ◌≤◌, max, Bool, true, List, [], ◌∷◌, ◌++◌, length, take, slice_set}
use Rattle.std.specs.Prelude.{slice_index_or}
use Rattle.std.specs.List.{sum_by}
use Rattle.route_slots.specs.declared.links.Link.{Link}
use Rattle.route_slots.specs.declared.walking.Walk.{Walk}
use Rattle.route_slots.specs.declared.walking.Place.{Place}
use Rattle.route_slots.specs.declared.walking.Place.TheVariants.{New, Open, Done}
use Rattle.route_slots.specs.Links.{link_at, is_marked, number_at, ClosesCycle, IsHeld}

abbrev pub place_in : List Place → ℕ → Place
place_in places v = slice_index_or places v New

-- how many nodes were left
abbrev pub done_mark : Place → ℕ
done_mark New = 0
done_mark Open = 0
done_mark Done = 1

abbrev pub done_count : List Place → ℕ
done_count places = sum_by done_mark places

-- some link leads from u to v
pub record HasLink (links : List Link) (u v : ℕ) : Type 0 where
  pub number : ℕ
  pub is_there : number < length links
  pub tail_is : (link_at links number).tail ≡ u
  pub head_is : (link_at links number).head ≡ v

-- the link's head was left, and lies less deep than its tail
pub record IsSettled (places : List Place) (depths : List ℕ) (link : Link) : Type 0 where
  pub done : place_in places link.head ≡ Done
  pub less : number_at depths link.head < number_at depths link.tail

-- a link that was looked at holds the node at its depth
pub record IsHeldSoFar (links : List Link) (ahead : List ℕ) (places : List Place) (depths : List ℕ) (marks : List Bool)
    (v : ℕ) : Type 0 where
  pub link : IsHeld links marks depths v
  pub before : link.number < number_at ahead v
  pub done : place_in places (link_at links link.number).head ≡ Done

-- The nodes on the way are open, and follow each other by links. Links before the next one of their tail are cut, or their
-- heads lie less deep than their tails. A link that is cut closes a cycle. A node lies at depth 0 or is held by a link.
pub record IsSearch (links : List Link) (ahead : List ℕ) (places : List Place) (depths : List ℕ) (marks : List Bool)
    (way : List ℕ) : Type 0 where
  pub places_len : length places ≡ length ahead
  pub depths_len : length depths ≡ length ahead
  pub marks_len : length marks ≡ length links
  pub tails : (v : ℕ) → v < length ahead → number_at ahead v < length links → (link_at links (number_at ahead v)).tail ≡ v
  pub on_way : (i : ℕ) → i < length way → number_at way i < length ahead
  pub opened : (i : ℕ) → i < length way → place_in places (number_at way i) ≡ Open
  pub once : (i j : ℕ) → i < j → j < length way → number_at way i ≢ number_at way j
  pub listed : (v : ℕ) → v < length ahead → place_in places v ≡ Open → (i : ℕ) × (i < length way) × (number_at way i ≡ v)
  pub linked : (i : ℕ) → i + 1 < length way → HasLink links (number_at way i) (number_at way (i + 1))
  pub passed : (k : ℕ) → k < length links → k < number_at ahead (link_at links k).tail
      → (is_marked marks k ≡ true) ⊎ IsSettled places depths (link_at links k)
  pub over : (v : ℕ) → v < length ahead → place_in places v ≡ Done → length links ≤ number_at ahead v
  pub cycles : (k : ℕ) → k < length links → is_marked marks k ≡ true → ClosesCycle links k
  pub shallow : (v : ℕ) → v < length ahead → number_at depths v ≤ done_count places
  pub below : (v : ℕ) → v < length ahead → place_in places v ≡ Done → number_at depths v < done_count places
  pub held : (v : ℕ) → v < length ahead → (number_at depths v ≡ 0) ⊎ IsHeldSoFar links ahead places depths marks v
  pub cut_before : (k : ℕ) → k < length links → is_marked marks k ≡ true → k < number_at ahead (link_at links k).tail

abbrev pub IsWalk : List Link → Walk → Type 0
IsWalk links w = IsSearch links w.ahead.items w.places.items w.depths.items w.cut.items w.way.items

-- the last node on the way
pub record IsTop (way : List ℕ) (v : ℕ) : Type 0 where
  pub some : 0 < length way
  pub last : number_at way (length way - 1) ≡ v

-- how much is left to do
abbrev pub weight : Place → ℕ
weight New = 2
weight Open = 1
weight Done = 0

abbrev pub to_do : List Link → Walk → ℕ
to_do links w = sum_by weight w.places.items + sum_by (λ a. length links - a) w.ahead.items

-- nodes that were left stay so, and none becomes new
pub record KeepsDone (old new : Walk) : Type 0 where
  pub as_many : length new.ahead.items ≡ length old.ahead.items
  pub still_done : (v : ℕ) → place_in old.places.items v ≡ Done → place_in new.places.items v ≡ Done
  pub still_seen : (v : ℕ) → place_in old.places.items v ≢ New → place_in new.places.items v ≢ New

pub record Enters (old new : Walk) (v : ℕ) : Type 0 where
  pub way : new.way.items ≡ old.way.items ++ v ∷ []
  pub places : new.places.items ≡ slice_set old.places.items v Open
  pub ahead : new.ahead.items ≡ old.ahead.items
  pub depths : new.depths.items ≡ old.depths.items
  pub cut : new.cut.items ≡ old.cut.items

pub record Leaves (old new : Walk) (v : ℕ) : Type 0 where
  pub way : new.way.items ≡ take (length old.way.items - 1) old.way.items
  pub places : new.places.items ≡ slice_set old.places.items v Done
  pub ahead : new.ahead.items ≡ old.ahead.items
  pub depths : new.depths.items ≡ old.depths.items
  pub cut : new.cut.items ≡ old.cut.items

pub record CutsLink (old new : Walk) (v k after : ℕ) : Type 0 where
  pub way : new.way.items ≡ old.way.items
  pub places : new.places.items ≡ old.places.items
  pub ahead : new.ahead.items ≡ slice_set old.ahead.items v after
  pub depths : new.depths.items ≡ old.depths.items
  pub cut : new.cut.items ≡ slice_set old.cut.items k true

pub record Sinks (old new : Walk) (v u after : ℕ) : Type 0 where
  pub way : new.way.items ≡ old.way.items
  pub places : new.places.items ≡ old.places.items
  pub ahead : new.ahead.items ≡ slice_set old.ahead.items v after
  pub depths : new.depths.items ≡ slice_set old.depths.items v (max (number_at old.depths.items v) (number_at old.depths.items u + 1))
  pub cut : new.cut.items ≡ old.cut.items

-- all nodes were left
pub record IsOver (nodes : ℕ) (links : List Link) (w : Walk) : Type 0 where
  pub walk : IsWalk links w
  pub as_many : length w.ahead.items ≡ nodes
  pub all_done : (v : ℕ) → v < nodes → place_in w.places.items v ≡ Done
