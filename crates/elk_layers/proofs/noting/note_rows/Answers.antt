use Rattle.std.proofs.Common.{◌≡◌, ◌<◌, length, arith, ap, sym, subst, ◌∙◌}
use Rattle.std.specs.List.{All}
use Rattle.std.proofs.lemmas.List.{length-map}
use Rattle.elk_layers.specs.Layered.{plain, rows_of, row_at}
use Rattle.elk_layers.specs.Places.{NotesFirst, IsOnce}
use Rattle.elk_layers.proofs.RowLemmas.{row_read, row_short, row_in_range, placed_more, placed_all}
use Rattle.elk_layers.proofs.noting.note_rows.Goals as goal

read : (c : goal.After-as_slice) → (row_at (rows_of c.args.order.now) c.loop-row.row-index ≡ c.as_slice.result.now) × (c.loop-row.row-index < length (rows_of c.args.order.now))
read c =
    let r = row_read (λ v. v.items) c.deref-row-items.result.now c.args.order.now.rows.items c.loop-row.row-index c.row-item.result c.deref-row-items.ensures.value c.row-item.is c.loop-row-test.true in
    (r.0 ∙ sym c.as_slice.ensures.value, r.1)

pub note_places-requires-clause-units : goal.note_places-requires-clause-units
note_places-requires-clause-units c =
    let r = read c in
    subst (λ n. All (λ u. u < n) c.as_slice.result.now) (sym c.loop-row.invariant.as_long)
    (row_in_range (plain c.args.layered.now) (rows_of c.args.order.now) c.loop-row.row-index c.as_slice.result.now c.requires.rows r.1 r.0)

pub note_places-requires-clause-once : goal.note_places-requires-clause-once
note_places-requires-clause-once c = let r = read c in subst IsOnce r.0 (c.requires.rows.once c.loop-row.row-index r.1)

pub note_places-requires-clause-few : goal.note_places-requires-clause-few
note_places-requires-clause-few c =
    let r = read c in
    let short = row_short (plain c.args.layered.now) (rows_of c.args.order.now) c.loop-row.row-index c.requires.rows r.1 in
    let same = ap length r.0 in
    let few = c.requires.sound.few_units in
    omega (arith, short, same, few)

pub loop-row-preserved : goal.loop-row-preserved
loop-row-preserved c =
    let r = row_read (λ v. v.items) c.deref-row-items.result.now c.args.order.now.rows.items c.loop-row.row-index c.row-item.result c.deref-row-items.ensures.value c.row-item.is c.loop-row-test.true in
    placed_more (plain c.args.layered.now) (rows_of c.args.order.now) c.loop-row.row-index c.loop-row.place c.note_places.new.place c.requires.rows r.1
    (subst (λ xs. NotesFirst c.loop-row.place xs (length xs) c.note_places.new.place) (c.as_slice.ensures.value ∙ sym r.0) c.note_places.ensures) c.loop-row.invariant

pub returns : goal.returns
returns c =
    let long = length-map c.args.order.now.rows.items (λ v. v.items) in
    let same = ap length c.deref-row-items.ensures.value in
    placed_all (plain c.args.layered.now) (rows_of c.args.order.now) c.loop-row.row-index c.loop-row.place c.requires.sound c.requires.rows (omega (arith, long, same, c.loop-row-test.false)) c.loop-row.invariant
