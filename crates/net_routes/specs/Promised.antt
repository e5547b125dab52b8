-- All that is promised of the slots of a gap: one record for few slots, and one for few crossings.
use Rattle.std.specs.Prelude.{ℕ, ◌≤◌, List, length}
use Rattle.net_routes.specs.declared.Net.{Net}
use Rattle.net_routes.specs.declared.NetRoute.{NetRoute}
use Rattle.net_routes.specs.GapFree.{GapFree}
use Rattle.net_routes.specs.Limits.{exchange_limit}
use Rattle.net_routes.specs.Conflicts.{HasNoConflict, HasAtMostOneConflict, SplitsOnCycles}
use Rattle.net_routes.specs.Density.{IsDensity}
use Rattle.net_routes.specs.Standing.{AreApart}
use Rattle.net_routes.specs.Exchanges.{NoBetterExchange}
use Rattle.net_routes.specs.Uncrossed.{IsOrderable, CrossAsAsked}

-- The routes keep apart, and only nets on cycles of conflicts are split. Without conflicts there are as many slots as pieces
-- contain one height. In a gap of at most `exchange_limit` nets no exchange of two neighbouring slots gives fewer crossings.
pub record AreFewest (nets : List Net) (count : ℕ) (routes : List NetRoute) : Type 0 where
  pub free : GapFree nets count routes
  pub apart : AreApart nets routes
  pub splits : SplitsOnCycles nets routes
  pub density : HasNoConflict nets → IsDensity nets count
  pub exchanges : length nets ≤ exchange_limit → NoBetterExchange nets count routes

-- The routes keep apart, and only nets on cycles of conflicts are split. If the nets can be ranked so that each ranks behind
-- those that precede it, or if there is at most one conflict, each two nets cross once if their pins alternate, and otherwise not
-- at all. In a gap of at most `exchange_limit` nets no exchange of two neighbouring slots gives fewer crossings.
pub record AreUncrossed (nets : List Net) (count : ℕ) (routes : List NetRoute) : Type 0 where
  pub free : GapFree nets count routes
  pub apart : AreApart nets routes
  pub splits : SplitsOnCycles nets routes
  pub uncrossed : IsOrderable nets → CrossAsAsked nets routes
  pub one_conflict : HasAtMostOneConflict nets → CrossAsAsked nets routes
  pub exchanges : length nets ≤ exchange_limit → NoBetterExchange nets count routes
