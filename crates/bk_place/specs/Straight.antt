-- Long edges come out straight.
use Rattle.std.specs.Prelude.{ℕ, ℤ, ◌<◌, List, length, IsTrue}
use Rattle.drawing_types.specs.declared.sweep.Sweep.{Sweep}
use Rattle.elk_layers.specs.Layered.{Plain, IsSound, AreRows, link_at}
use Rattle.elk_layers.specs.Alignment.{is_inner, aligned}
use Rattle.elk_layers.specs.Lines.{IsHorizontal, AreLines}
use Rattle.bk_place.specs.Lanes.{HaveOneLink, LanesKeepOrder}

-- where no two links between lanes cross, the lines of a sweep make each of them horizontal
abbrev pub LanesAreHorizontal : Type 0
LanesAreHorizontal =
    (l : Plain) (rows : List (List ℕ)) (sweep : Sweep) (tops : List ℤ) → IsSound l → AreRows l rows → HaveOneLink l → LanesKeepOrder l rows
    → AreLines l rows (aligned l rows sweep) tops
    → (k : ℕ) → k < length l.links → IsTrue (is_inner l (link_at l.links k)) → IsHorizontal l tops k
