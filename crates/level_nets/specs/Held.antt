-- Gaps as plain data while nets are put into them, and the places that the nets have there.
use Rattle.std.specs.Prelude.{◌≡◌, ℕ, ◌*◌, ◌<◌, ◌^◌, Bool, true, false, List, [], ◌∷◌, ◌++◌, map, length, slice_index, slice_index_or}
use Rattle.std.specs.Prelude.{IsTrue}
use Rattle.std.specs.List.{range_with_len}
use Rattle.drawing_types.specs.declared.shape.Side.TheVariants.{East, West}
use Rattle.net_routes.specs.declared.Net.{Net}
use Rattle.route_lines.specs.declared.Gap.{Gap}
use Rattle.route_lines.specs.Points.{PlainGap, plain_gap, gap_in}
use Rattle.level_model.specs.Level.{end_at, ends_of_edges, all_ends}
use Rattle.level_model.specs.Nets.{Name, of_link, of_dock, of_loop, if_passed}
use Rattle.level_nets.specs.declared.pushing.LoopLegs.{LoopLegs}
use Rattle.level_nets.specs.Parts.{Parts}
use Rattle.level_model.specs.Table.{end_number}
use Rattle.level_nets.specs.Read.{link_names, dock_names, passing_names, passes_west, passes_east, dock_inverts, leg_behind}

abbrev pub plain_gaps : List Gap → List PlainGap
plain_gaps gaps = map plain_gap gaps

-- a gap with one net more
abbrev pub with_net : PlainGap → Net → PlainGap
with_net g n =
    record { left = g.left; first = g.first; step = g.step; right = g.right; nets = g.nets ++ n ∷ []; count = g.count; routes = g.routes }

abbrev pub AreFew : List PlainGap → Type 0
AreFew gaps = (g : ℕ) → g < length gaps → length (gap_in gaps g).nets < 2 ^ 32

-- the names before those of an edge's docks, and before those of an edge as a self-loop
unfoldable pub behind_docks : Parts → ℕ → List Name
behind_docks s e = link_names (length s.layered.links) ++ dock_names s (ends_of_edges (range_with_len 0 e))

unfoldable pub behind_loops : Parts → ℕ → List Name
behind_loops s e =
    link_names (length s.layered.links) ++ dock_names s (all_ends s.level) ++ passing_names s (range_with_len 0 e)

-- the names before that of an end's dock
abbrev pub before_dock : Parts → ℕ → Bool → List Name
before_dock s e true = behind_docks s e
before_dock s e false = behind_docks s e ++ dock_names s (end_at e true ∷ [])

-- the numbers of the first n links
pub record AreLinkLegs (s : Parts) (n : ℕ) (legs : List ℕ) : Type 0 where
  pub as_many : length legs ≡ n
  pub each : (k : ℕ) → k < n → slice_index legs k ≡ leg_behind s (link_names k) (of_link k)

-- the numbers of the inverted docks of the first n edges, by end
pub record AreDockLegs (s : Parts) (n : ℕ) (legs : List ℕ) : Type 0 where
  pub as_many : length legs ≡ 2 * n
  pub each : (e : ℕ) (at_source : Bool) → e < n → IsTrue (dock_inverts s (end_at e at_source))
      → slice_index legs (end_number (end_at e at_source)) ≡ leg_behind s (before_dock s e at_source) (of_dock (end_at e at_source))

-- the numbers of an edge's passages
pub record IsLoopLegs (s : Parts) (e : ℕ) (legs : LoopLegs) : Type 0 where
  pub west : IsTrue (passes_west s e) → legs.west ≡ leg_behind s (behind_loops s e) (of_loop e West)
  pub east : IsTrue (passes_east s e) → legs.east ≡ leg_behind s (behind_loops s e ++ if_passed (passes_west s e) e West) (of_loop e East)

abbrev pub legs_at : List LoopLegs → ℕ → LoopLegs
legs_at legs e = slice_index_or legs e (record { west = 0; east = 0 })

pub record AreLoopLegs (s : Parts) (n : ℕ) (legs : List LoopLegs) : Type 0 where
  pub as_many : length legs ≡ n
  pub each : (e : ℕ) → e < n → IsLoopLegs s e (legs_at legs e)
