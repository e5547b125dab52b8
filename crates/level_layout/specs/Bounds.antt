-- How many units and links a level has, and how far the pins of its links lie below the tops of their units.
use Rattle.std.specs.Prelude.{ℕ, ◌≤◌, ◌^◌, ◌*◌, List, pos, ◌+ℤ◌, ◌≤ℤ◌, ◌<ℤ◌, length}
use Rattle.elk_doc.specs.declared.drawing.Certificate.{Certificate}
use Rattle.elk_layers.specs.Layered.{Plain, IsSound, total_height}
use Rattle.level_model.specs.Conditions.{IsLevel}
use Rattle.level_model.specs.Level.{PlainLevel}
use Rattle.level_layout.specs.Certificate.{IsCertificateOf}
use Rattle.layer_units.specs.Layering.{layering}
use Rattle.layer_units.specs.Numbered.{AreNumberedUnits}
use Rattle.layer_units.specs.Alike.{AreAlike}
use Rattle.ns_place.specs.Heights.{pins_together}

-- at most 2^21 units and 2^21 links
pub record AreFew (v : Plain) : Type 0 where
  pub units : length v.units ≤ 2 ^ 21
  pub links : length v.links ≤ 2 ^ 21

-- Units and links that are numbered by the layers of a certificate are few, since its layers have the least span.
abbrev pub LinksAreFew : Type 0
LinksAreFew =
    (l : PlainLevel) (c : Certificate) (blank v : Plain)
    → IsLevel l → IsCertificateOf l c → AreNumberedUnits (layering l c.reversed c.layers) blank → AreAlike blank v → AreFew v

-- a limit of the heights of all units of a level together
abbrev pub height_limit : ℕ
height_limit = 3 * 2 ^ 47

-- Whatever the layers of the level, the heights of all units and the pins of all links are together below 2^60.
abbrev pub PinsAreLow : Type 0
PinsAreLow =
    (l : PlainLevel) (reversed layers : List ℕ) (blank v : Plain)
    → IsLevel l → AreNumberedUnits (layering l reversed layers) blank → AreAlike blank v → IsSound v
    → total_height v.units ≤ℤ pos height_limit
    → (total_height v.units +ℤ pins_together v.links) <ℤ pos (2 ^ 60)
