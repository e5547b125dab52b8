use Rattle.std.proofs.Common.{◌+◌, ◌<◌, arith, refl, subst, sym, ◌∙◌}
use Rattle.std.proofs.lemmas.Bool.{both_ways}
use Rattle.elk_layers.specs.Layered.{plain, rows_of, row_at}
use Rattle.elk_layers.specs.Crossings.{crossings}
use Rattle.cross_reduce.specs.Fans.{fan_lists}
use Rattle.cross_reduce.specs.Held.{are_both_held}
use Rattle.cross_reduce.proofs.RowLemmas.{row_of}
use Rattle.cross_reduce.proofs.LoweringLemmas.{pair_lowers, pair_stays}
use Rattle.cross_reduce.proofs.StateLemmas.{left_fits, right_fits, same_refl, same_exchanged, try_then, try_else}
use Rattle.cross_reduce.proofs.SettledLemmas.{others_exchanged}
use Rattle.cross_reduce.proofs.HeldLemmas.{both_read, held_exchanged, none_both}
use Rattle.cross_reduce.proofs.exchanging.try_exchange.Goals as goal

pub is_better-requires-clause-upper_left_fits : goal.is_better-requires-clause-upper_left_fits
is_better-requires-clause-upper_left_fits c =
    let row = row_of (plain c.args.layered.now) (rows_of c.args.state.now.order) c.args.r c.requires.state.are_rows c.requires.row in
    rw (c.as_slice-place.ensures.value, c.neighbours-upper.ensures.upper) (left_fits (plain c.args.layered.now) (rows_of c.args.state.now.order) c.args.state.now.place.items (fan_lists c.args.state.now.left) (fan_lists c.args.state.now.right) c.requires.state _ (row.in_range c.args.i (omega (arith, c.requires.place))))

pub is_better-requires-clause-upper_right_fits : goal.is_better-requires-clause-upper_right_fits
is_better-requires-clause-upper_right_fits c =
    let row = row_of (plain c.args.layered.now) (rows_of c.args.state.now.order) c.args.r c.requires.state.are_rows c.requires.row in
    rw (c.as_slice-place.ensures.value, c.neighbours-upper.ensures.upper) (right_fits (plain c.args.layered.now) (rows_of c.args.state.now.order) c.args.state.now.place.items (fan_lists c.args.state.now.left) (fan_lists c.args.state.now.right) c.requires.state _ (row.in_range c.args.i (omega (arith, c.requires.place))))

pub is_better-requires-clause-lower_left_fits : goal.is_better-requires-clause-lower_left_fits
is_better-requires-clause-lower_left_fits c =
    let row = row_of (plain c.args.layered.now) (rows_of c.args.state.now.order) c.args.r c.requires.state.are_rows c.requires.row in
    rw (c.as_slice-place.ensures.value, c.neighbours-upper.ensures.lower) (left_fits (plain c.args.layered.now) (rows_of c.args.state.now.order) c.args.state.now.place.items (fan_lists c.args.state.now.left) (fan_lists c.args.state.now.right) c.requires.state _ (row.in_range (c.args.i + 1) c.requires.place))

pub is_better-requires-clause-lower_right_fits : goal.is_better-requires-clause-lower_right_fits
is_better-requires-clause-lower_right_fits c =
    let row = row_of (plain c.args.layered.now) (rows_of c.args.state.now.order) c.args.r c.requires.state.are_rows c.requires.row in
    rw (c.as_slice-place.ensures.value, c.neighbours-upper.ensures.lower) (right_fits (plain c.args.layered.now) (rows_of c.args.state.now.order) c.args.state.now.place.items (fan_lists c.args.state.now.left) (fan_lists c.args.state.now.right) c.requires.state _ (row.in_range (c.args.i + 1) c.requires.place))

pub returns-then-better-clause-same : goal.returns-then-better-clause-same
returns-then-better-clause-same c = rw c.exchange.ensures.rows (same_exchanged (rows_of c.args.state.now.order) c.args.r c.args.i c.requires.row c.requires.place)

pub returns-then-better-clause-tried : goal.returns-then-better-clause-tried
returns-then-better-clause-tried c =
    rw c.if-better.true
    (subst (λ rows. crossings (plain c.args.layered.now) rows < crossings (plain c.args.layered.now) (rows_of c.args.state.now.order)) (sym c.exchange.ensures.rows)
    (try_then (plain c.args.layered.now) (rows_of c.args.state.now.order) c.args.state.now.place.items (fan_lists c.args.state.now.left) (fan_lists c.args.state.now.right) c.args.r c.args.i c.in_ok-better.better c.requires.state c.requires.row c.requires.place
    (rw (c.as_slice-place.ensures.value, c.neighbours-upper.ensures.upper, c.neighbours-upper.ensures.lower) at c.in_ok-better.ensures) c.if-better.true))

pub returns-else-better-clause-tried : goal.returns-else-better-clause-tried
returns-else-better-clause-tried c =
    rw c.if-better.false (
      refl,
      λ free. try_else (plain c.args.layered.now) (rows_of c.args.state.now.order) c.args.state.now.place.items (fan_lists c.args.state.now.left) (fan_lists c.args.state.now.right) c.args.r c.args.i c.in_ok-better.better c.requires.state c.requires.row c.requires.place
          (rw (c.as_slice-place.ensures.value, c.neighbours-upper.ensures.upper, c.neighbours-upper.ensures.lower) at c.in_ok-better.ensures) c.if-better.false,
    )

pub returns-then-better-clause-after : goal.returns-then-better-clause-after
returns-then-better-clause-after c = λ none.
    c.exchange.ensures.rows
    ∙ pair_lowers (plain c.args.layered.now) (rows_of c.args.state.now.order) c.args.r c.args.i
    (try_then (plain c.args.layered.now) (rows_of c.args.state.now.order) c.args.state.now.place.items (fan_lists c.args.state.now.left) (fan_lists c.args.state.now.right) c.args.r c.args.i c.in_ok-better.better c.requires.state c.requires.row c.requires.place
    (rw (c.as_slice-place.ensures.value, c.neighbours-upper.ensures.upper, c.neighbours-upper.ensures.lower) at c.in_ok-better.ensures) c.if-better.true)

pub returns-else-better-clause-after : goal.returns-else-better-clause-after
returns-else-better-clause-after c = λ none.
    pair_stays (plain c.args.layered.now) (rows_of c.args.state.now.order) c.args.r c.args.i
    (try_else (plain c.args.layered.now) (rows_of c.args.state.now.order) c.args.state.now.place.items (fan_lists c.args.state.now.left) (fan_lists c.args.state.now.right) c.args.r c.args.i c.in_ok-better.better c.requires.state c.requires.row c.requires.place
    (rw (c.as_slice-place.ensures.value, c.neighbours-upper.ensures.upper, c.neighbours-upper.ensures.lower) at c.in_ok-better.ensures) c.if-better.false)

pub returns-then-better-clause-others : goal.returns-then-better-clause-others
returns-then-better-clause-others c = rw c.exchange.ensures.rows (others_exchanged (rows_of c.args.state.now.order) c.args.r c.args.i)

pub returns-else-better-clause-others : goal.returns-else-better-clause-others
returns-else-better-clause-others c = λ g n. refl

pub returns-then-better-clause-ascends : goal.returns-then-better-clause-ascends
returns-then-better-clause-ascends c = λ before.
    rw c.exchange.ensures.rows
    (held_exchanged c.args.held.now (rows_of c.args.state.now.order) c.args.r c.args.i c.requires.row c.requires.place (sym (both_read c.args.held.now (row_at (rows_of c.args.state.now.order) c.args.r) c.args.i c.neighbours-upper.result.0 c.neighbours-upper.result.1 c.are_both_held.result c.neighbours-upper.ensures.upper c.neighbours-upper.ensures.lower c.are_both_held.ensures) ∙ c.if-are_both_held.false) before)

pub returns-then-are_both_held-clause-same : goal.returns-then-are_both_held-clause-same
returns-then-are_both_held-clause-same c = same_refl (rows_of c.args.state.now.order)

pub returns-then-are_both_held-clause-after : goal.returns-then-are_both_held-clause-after
returns-then-are_both_held-clause-after c = λ none.
    absurd (both_ways (are_both_held c.args.held.now (row_at (rows_of c.args.state.now.order) c.args.r) c.args.i) (none_both c.args.held.now (row_at (rows_of c.args.state.now.order) c.args.r) c.args.i none) (sym (both_read c.args.held.now (row_at (rows_of c.args.state.now.order) c.args.r) c.args.i c.neighbours-upper.result.0 c.neighbours-upper.result.1 c.are_both_held.result c.neighbours-upper.ensures.upper c.neighbours-upper.ensures.lower c.are_both_held.ensures) ∙ c.if-are_both_held.true))

pub returns-then-are_both_held-clause-tried : goal.returns-then-are_both_held-clause-tried
returns-then-are_both_held-clause-tried c =
    (refl, λ free. absurd (both_ways (are_both_held c.args.held.now (row_at (rows_of c.args.state.now.order) c.args.r) c.args.i) free (sym (both_read c.args.held.now (row_at (rows_of c.args.state.now.order) c.args.r) c.args.i c.neighbours-upper.result.0 c.neighbours-upper.result.1 c.are_both_held.result c.neighbours-upper.ensures.upper c.neighbours-upper.ensures.lower c.are_both_held.ensures) ∙ c.if-are_both_held.true)))

pub returns-then-are_both_held-clause-others : goal.returns-then-are_both_held-clause-others
returns-then-are_both_held-clause-others c = λ g n. refl
