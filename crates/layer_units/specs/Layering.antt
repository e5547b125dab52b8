-- The layers of a level's children.
use Rattle.std.specs.Prelude.{◌≡◌, ◌⊎◌, ℕ, ◌+◌, ◌<◌, Bool, not, List, length, slice_index_or, IsFalse, ℤ}
use Rattle.elk_layers.specs.Layered.{plain}
use Rattle.elk_layers.specs.declared.units.Layered.{Layered}
use Rattle.level_model.specs.Level.{PlainLevel, PlainPlan, end_at, spoke, holds, is_loop}

-- the children at which an edge begins and ends, where it may be reversed
abbrev pub tail_child : PlainLevel → Bool → ℕ → ℕ
tail_child l is_reversed e = (spoke l (end_at e (not is_reversed))).child

abbrev pub head_child : PlainLevel → Bool → ℕ → ℕ
head_child l is_reversed e = (spoke l (end_at e is_reversed)).child

abbrev pub layer_in : List ℕ → ℕ → ℕ
layer_in layers c = slice_index_or layers c 0

-- One layer for each child, below 2,048; each oriented edge that is no self-loop leads to a greater one.
pub record AreLayersOf (l : PlainLevel) (reversed layers : List ℕ) : Type 0 where
  pub as_many : length layers ≡ length l.children
  pub below : (c : ℕ) → c < length layers → layer_in layers c < 2048
  pub onward : (e : ℕ) → e < length l.edges → IsFalse (is_loop l e)
      → layer_in layers (tail_child l (holds reversed e) e) < layer_in layers (head_child l (holds reversed e) e)

-- a level, the edges that are reversed, and the layers of its children
pub record Layering : Type 0 where
  pub level : PlainLevel
  pub reversed : List ℕ
  pub layers : List ℕ

abbrev pub layering : PlainLevel → List ℕ → List ℕ → Layering
layering l reversed layers = record { level = l; reversed = reversed; layers = layers }

-- one more than the greatest of the first k of these layers, 0 where there is none
pub record IsCountTo (layers : List ℕ) (k n : ℕ) : Type 0 where
  pub above : (c : ℕ) → c < k → layer_in layers c < n
  pub reached : (n ≡ 0) ⊎ ((c : ℕ) × (c < k) × (layer_in layers c + 1 ≡ n))

abbrev pub IsLayerCount : List ℕ → ℕ → Type 0
IsLayerCount layers n = IsCountTo layers (length layers) n

-- the plan of these units and links with any rows and tops
abbrev pub plan_with : Layered → List (List ℕ) → List ℤ → List ℕ → PlainPlan
plan_with v rows tops reversed = record { layers = v.layers; layered = plain v; rows = rows; tops = tops; reversed = reversed }
