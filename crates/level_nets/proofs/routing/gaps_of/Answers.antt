use Rattle.std.proofs.Common.{◌≡◌, ◌∙◌, List, length, sym, subst, ap}
use Rattle.route_lines.specs.declared.Gap.{Gap}
use Rattle.level_nets.specs.Reach.{parts_in}
use Rattle.level_nets.proofs.WidthLemmas.{columns_in}
use Rattle.level_nets.specs.Routed.{AreGapsOf, AreGapsIn}
use Rattle.level_nets.proofs.Reaching.{given_sheet}
use Rattle.level_nets.proofs.RoutedLemmas.{routed_gaps, routed_legs, routed_range, written}
use Rattle.level_nets.proofs.routing.gaps_of.Goals as goal

pub fill_and_place-requires-clause-sheet : goal.fill_and_place-requires-clause-sheet
fill_and_place-requires-clause-sheet c = given_sheet c.args.sheet.now c.requires.given c.requires.marked

pub fill_and_place-requires-clause-columns : goal.fill_and_place-requires-clause-columns
fill_and_place-requires-clause-columns c =
    let plan = c.requires.given.plan in
    columns_in (parts_in c.args.sheet.now) plan.rows plan.orders plan.layers plan.planned

pub returns-clause-gaps : goal.returns-clause-gaps
returns-clause-gaps c =
    let s = parts_in c.args.sheet.now in
    let whole = ap length c.as_mut_slice.ensures.value in
    let gaps : c.from_vec.result ≡ c.fill_and_place.new.gaps =
    c.from_vec.ensures ∙ written c.in_ok-gaps.gaps.items c.fill_and_place.new.gaps c.in_ok-gaps.gaps.len (sym c.as_mut_slice.ensures.len ∙ whole) (c.fill_and_place.auto.gaps ∙ whole) in
    subst (λ (gs : List Gap). AreGapsOf s gs) (sym gaps) (routed_gaps s c.fill_and_place.new.gaps c.in_ok-places.ensures.routed)

pub returns-clause-legs : goal.returns-clause-legs
returns-clause-legs c =
    routed_legs (parts_in c.args.sheet.now) c.in_ok-places.places (record { gaps = c.from_vec.result; links = c.from_vec-2.result; docks = c.from_vec-3.result; loops = c.from_vec-4.result }) c.in_ok-places.ensures.places c.from_vec-2.ensures c.from_vec-3.ensures c.from_vec-4.ensures

pub returns-clause-range : goal.returns-clause-range
returns-clause-range c =
    let s = parts_in c.args.sheet.now in
    let plan = c.requires.given.plan in
    let whole = ap length c.as_mut_slice.ensures.value in
    let gaps : c.from_vec.result ≡ c.fill_and_place.new.gaps =
    c.from_vec.ensures ∙ written c.in_ok-gaps.gaps.items c.fill_and_place.new.gaps c.in_ok-gaps.gaps.len (sym c.as_mut_slice.ensures.len ∙ whole) (c.fill_and_place.auto.gaps ∙ whole) in
    subst (λ (gs : List Gap). AreGapsIn gs) (sym gaps) (routed_range s c.fill_and_place.new.gaps c.requires.given (columns_in s plan.rows plan.orders plan.layers plan.planned) c.in_ok-places.ensures.routed)
