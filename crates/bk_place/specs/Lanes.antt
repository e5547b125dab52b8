-- Long edges come out straight: where no two links between lanes cross, every sweep makes all of them horizontal.
use Rattle.std.specs.Prelude.{◌≡◌, ℕ, ◌<◌, List, length, slice_index, IsTrue, IsFalse}
use Rattle.drawing_types.specs.declared.sweep.Sweep.{Sweep}
use Rattle.elk_layers.specs.Layered.{Plain, IsSound, AreRows, link_at, is_lane}
use Rattle.elk_layers.specs.Crossings.{cross}
use Rattle.elk_layers.specs.Alignment.{is_inner, aligned}

-- a lane is the head of one link at most, and the tail of one at most
pub record HaveOneLink (l : Plain) : Type 0 where
  pub heads : (j k : ℕ) → j < length l.links → k < length l.links → IsTrue (is_lane l (link_at l.links k).head)
      → (link_at l.links j).head ≡ (link_at l.links k).head → j ≡ k
  pub tails : (j k : ℕ) → j < length l.links → k < length l.links → IsTrue (is_lane l (link_at l.links k).tail)
      → (link_at l.links j).tail ≡ (link_at l.links k).tail → j ≡ k

-- no two links between lanes cross
abbrev pub LanesKeepOrder : Plain → List (List ℕ) → Type 0
LanesKeepOrder l rows =
    (j k : ℕ) → j < length l.links → k < length l.links → IsTrue (is_inner l (link_at l.links j)) → IsTrue (is_inner l (link_at l.links k))
    → IsFalse (cross l rows (link_at l.links j) (link_at l.links k))

-- a list holds a number
abbrev pub Holds : List ℕ → ℕ → Type 0
Holds xs k = (i : ℕ) × (i < length xs) × (slice_index xs i ≡ k)

-- each sweep chooses every link between lanes
abbrev pub LanesStayStraight : Type 0
LanesStayStraight =
    (l : Plain) (rows : List (List ℕ)) (sweep : Sweep) → IsSound l → AreRows l rows → HaveOneLink l → LanesKeepOrder l rows
    → (k : ℕ) → k < length l.links → IsTrue (is_inner l (link_at l.links k)) → Holds (aligned l rows sweep) k
