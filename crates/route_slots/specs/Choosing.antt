-- Other depths for the segments of nets, and slots that are chosen by them.
use Rattle.std.specs.Prelude.{◌≡◌, ℕ, ◌+◌, ◌<◌, ◌≤◌, true, false, List, length}
use Rattle.net_routes.specs.declared.Pin.{Pin}
use Rattle.net_routes.specs.declared.Net.{Net}
use Rattle.net_routes.specs.declared.NetRoute.{NetRoute}
use Rattle.route_slots.specs.declared.marks.Mark.{Mark}
use Rattle.net_routes.specs.GapFree.{GapFree}
use Rattle.net_routes.specs.Standing.{AreApart}
use Rattle.route_slots.specs.Marks.{mark_at, SplitsByMarks}

-- the mark of the same net with other depths
pub record IsMovedMark (old new : Mark) : Type 0 where
  pub straight : new.straight ≡ old.straight
  pub split : new.split ≡ old.split
  pub whole : new.split ≡ false → new.at_a ≡ new.at_b

pub record AreMovedMarks (old new : List Mark) : Type 0 where
  pub len : length new ≡ length old
  pub each : (k : ℕ) → k < length old → IsMovedMark (mark_at old k) (mark_at new k)

-- a segment with the first pin on the left has a lower depth than one with the second on the right at its height
abbrev pub KeepsOrder : Pin → ℕ → Pin → ℕ → Type 0
KeepsOrder p x q y = p.on_left ≡ true → q.on_left ≡ false → p.height ≡ q.height → x < y

pub record KeepOrder (n : Net) (m : Mark) (o : Net) (k : Mark) : Type 0 where
  pub aa : KeepsOrder n.a m.at_a o.a k.at_a
  pub ab : KeepsOrder n.a m.at_a o.b k.at_b
  pub ba : KeepsOrder n.b m.at_b o.a k.at_a
  pub bb : KeepsOrder n.b m.at_b o.b k.at_b

-- the same, unless one of the nets is straight
abbrev pub AreInOrder : Net → Mark → Net → Mark → Type 0
AreInOrder n m o k = m.straight ≡ false → k.straight ≡ false → KeepOrder n m o k

-- all that is said of slots, whichever depths they are by
pub record AreGood (nets : List Net) (ms : List Mark) (count : ℕ) (routes : List NetRoute) : Type 0 where
  pub free : GapFree nets count routes
  pub splits : SplitsByMarks nets ms routes
  pub apart : AreApart nets routes
  pub few : count ≤ length nets + length nets
