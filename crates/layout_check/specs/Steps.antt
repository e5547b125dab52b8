-- Steps between numbered nodes, in a list, and the marks of the nodes that they reach.
use Rattle.std.specs.Prelude.{◌≡◌, ℕ, ◌+◌, ◌<◌, Bool, true, false, List, [], ◌∷◌, length, set, slice_index_or}
use Rattle.layout_check.specs.declared.paths.Step.{Step}
use Rattle.elk_doc.specs.Paths.{Reaches}

abbrev pub no_step : Step
no_step = record { from = 0; to = 0 }

abbrev pub step_at : List Step → ℕ → Step
step_at steps i = slice_index_or steps i no_step

-- some step of the list leads from a to b
pub record HasStep (steps : List Step) (a b : ℕ) : Type 0 where
  pub place : ℕ
  pub place_in : place < length steps
  pub from_is : (step_at steps place).from ≡ a
  pub to_is : (step_at steps place).to ≡ b

-- the ends of all steps are below this number
pub record AreBelow (nodes : ℕ) (steps : List Step) : Type 0 where
  pub from : (i : ℕ) → i < length steps → (step_at steps i).from < nodes
  pub to : (i : ℕ) → i < length steps → (step_at steps i).to < nodes

abbrev pub mark_at : List Bool → ℕ → Bool
mark_at marks v = slice_index_or marks v false

-- how many marks are set
unfoldable pub marked : List Bool → ℕ
marked [] = 0
marked (true ∷ bs) = marked bs + 1
marked (false ∷ bs) = marked bs

-- each marked node is reached from a
abbrev pub AreReached : List Step → ℕ → List Bool → Type 0
AreReached steps a marks = (v : ℕ) → mark_at marks v ≡ true → Reaches (HasStep steps) a v

-- the first steps lead from marked nodes to marked ones
abbrev pub AreClosed : List Step → List Bool → ℕ → Type 0
AreClosed steps marks n = (i : ℕ) → i < n → mark_at marks (step_at steps i).from ≡ true → mark_at marks (step_at steps i).to ≡ true

-- one step is followed: it marks its end, or has nothing to mark
pub record FollowsStep (old : List Bool) (s : Step) (new : List Bool) (changed : Bool) : Type 0 where
  pub marks : changed ≡ true → new ≡ set old s.to true
  pub from_marked : changed ≡ true → mark_at old s.from ≡ true
  pub to_free : changed ≡ true → mark_at old s.to ≡ false
  pub stays : changed ≡ false → new ≡ old
  pub closed : changed ≡ false → mark_at old s.from ≡ true → mark_at old s.to ≡ true

-- the first n steps are followed once
pub record FollowsOnce (steps : List Step) (a n : ℕ) (old new : List Bool) (changed : Bool) : Type 0 where
  pub as_long : length new ≡ length old
  pub reached : AreReached steps a new
  pub stays : changed ≡ false → new ≡ old
  pub closed : changed ≡ false → AreClosed steps old n
  pub more : changed ≡ true → marked old < marked new
  pub kept : mark_at new a ≡ true
