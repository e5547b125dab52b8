use Rattle.std.proofs.Common.{◌+◌, ◌<◌, ℕ, List, length, arith, ap, ◌∙◌, set, subst, sym}
use Rattle.std.specs.List.{swap}
use Rattle.std.proofs.lemmas.List.{map-set, length-map}
use Rattle.elk_layers.specs.Layered.{rows_of}
use Rattle.cross_reduce.proofs.PlaceLemmas.{row_read}
use Rattle.cross_reduce.proofs.exchanging.swap_in.Goals as goal

pub swap_neighbours-requires : goal.swap_neighbours-requires
swap_neighbours-requires c =
    let long = length-map c.args.order.now.rows.items (λ v. v.items) in
    let inside : c.args.r < length c.args.order.now.rows.items = omega (arith, long, c.requires.row) in
    let old = row_read (λ v. v.items) c.args.order.now.rows.items c.args.r c.index_mut.result.now c.index_mut.ensures.value inside in
    subst (λ (xs : List ℕ). c.args.i + 1 < length xs) (sym old) c.requires.place

pub returns : goal.returns
returns c =
    let long = length-map c.args.order.now.rows.items (λ v. v.items) in
    let inside : c.args.r < length c.args.order.now.rows.items = omega (arith, long, c.requires.row) in
    let old = row_read (λ v. v.items) c.args.order.now.rows.items c.args.r c.index_mut.result.now c.index_mut.ensures.value inside in
    map-set (λ v. v.items) c.args.order.now.rows.items c.args.r c.swap_neighbours.new.row
    ∙ ap (λ (xs : List ℕ). set (rows_of c.args.order.now) c.args.r xs) (c.swap_neighbours.ensures ∙ ap (λ (xs : List ℕ). swap xs c.args.i (c.args.i + 1)) old)
