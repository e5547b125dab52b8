-- Small layered drawings.
use Rattle.std.specs.Prelude.{ℕ, pos, List, [], ◌∷◌, Some}
use Rattle.elk_layers.specs.declared.units.Unit.{Unit as LayerUnit}
use Rattle.elk_layers.specs.declared.units.Link.{Link}
use Rattle.elk_layers.specs.Layered.{Plain}

-- a child 10 high without lanes
abbrev pub child : ℕ → LayerUnit
child layer = record { layer = layer; child = Some 0; height = pos 10; body_top = pos 0; body_height = pos 10; north = 0; south = 0 }

abbrev pub joins : ℕ → ℕ → Link
joins a b = record { edge = 0; tail = a; head = b; tail_rank = 0; head_rank = 0; tail_at = pos 5; head_at = pos 5 }

abbrev pub drawing : List LayerUnit → List Link → Plain
drawing units links =
    record { layers = 2; units = units; links = links; node_node = pos 20; edge_node = pos 10; edge_edge = pos 7 }

-- two units over two, of which the links cross
abbrev pub two_by_two : Plain
two_by_two = drawing (child 0 ∷ child 0 ∷ child 1 ∷ child 1 ∷ []) (joins 0 3 ∷ joins 1 2 ∷ [])

abbrev pub two_rows : List (List ℕ)
two_rows = (0 ∷ 1 ∷ []) ∷ (2 ∷ 3 ∷ []) ∷ []

-- five units beside five with six links
abbrev pub five_by_five : Plain
five_by_five =
    drawing (child 0 ∷ child 0 ∷ child 0 ∷ child 0 ∷ child 0 ∷ child 1 ∷ child 1 ∷ child 1 ∷ child 1 ∷ child 1 ∷ [])
    (joins 0 7 ∷ joins 1 8 ∷ joins 2 5 ∷ joins 2 9 ∷ joins 3 6 ∷ joins 4 7 ∷ [])

abbrev pub five_rows : List (List ℕ)
five_rows = (0 ∷ 1 ∷ 2 ∷ 3 ∷ 4 ∷ []) ∷ (5 ∷ 6 ∷ 7 ∷ 8 ∷ 9 ∷ []) ∷ []

-- the second row of the five by five after the first forward sweep
abbrev pub five_swept : List (List ℕ)
five_swept = (0 ∷ 1 ∷ 2 ∷ 3 ∷ 4 ∷ []) ∷ (8 ∷ 5 ∷ 7 ∷ 9 ∷ 6 ∷ []) ∷ []
