-- Keys of the ends of links, where a list has the places of the units.
use Rattle.std.specs.Prelude.{ℕ, ◌+◌, ◌*◌, cond, List, slice_index}
use Rattle.elk_layers.specs.declared.units.Link.{Link}
use Rattle.drawing_types.specs.declared.sweep.Sweep.{Sweep}
use Rattle.elk_layers.specs.Alignment.{goes_left}

abbrev pub key_at : List ℕ → ℕ → ℕ → ℕ
key_at place unit rank = slice_index place unit * 65536 + rank

abbrev pub far_key_at : List ℕ → Sweep → Link → ℕ
far_key_at place sweep l = cond (goes_left sweep) (key_at place l.tail l.tail_rank) (key_at place l.head l.head_rank)
