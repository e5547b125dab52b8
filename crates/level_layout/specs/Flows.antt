-- Flows of the first edges of a level.
use Rattle.std.specs.Prelude.{◌≡◌, ◌<◌, ℕ, List, length, map, take, IsTrue}
use Rattle.level_model.specs.Level.{PlainLevel, is_loop}
use Rattle.level_layout.specs.Certificate.{flow_at, links_to}

-- of the first n edges, self-loops have no flow, and the others the first ones of a list, of which `next` are taken
pub record AreFlows (l : PlainLevel) (flow : List ℕ) (n next : ℕ) (flows : List ℕ) : Type 0 where
  pub as_many : length flows ≡ n
  pub next_is : next ≡ length (links_to l n)
  pub loops : (e : ℕ) → e < n → IsTrue (is_loop l e) → flow_at flows e ≡ 0
  pub links_are : map (flow_at flows) (links_to l n) ≡ take next flow
