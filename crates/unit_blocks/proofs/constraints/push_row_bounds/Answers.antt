use Rattle.std.proofs.Common.{ℕ, ◌<◌, length}
use Rattle.std.proofs.lemmas.List.Elements.{All-filter, filter_passes}
use Rattle.elk_layers.specs.Layered.{plain, is_child}
use Rattle.unit_blocks.proofs.constraints.push_row_bounds.Goals as goal

pub push_bounds-requires-2-clause-units : goal.push_bounds-requires-2-clause-units
push_bounds-requires-2-clause-units c =
    let l = plain c.args.layered.now in
    rw (c.as_slice.ensures.value, c.in_ok-inner.ensures)
    (λ k d h. (All-filter (is_child l) (λ (u : ℕ). u < length l.units) c.args.row.now c.requires.units k d h, λ e. filter_passes (is_child l) c.args.row.now k d h))
