use Rattle.std.proofs.Common.{ℤ, refl, sym, subst, ap, ◌∙◌, List, length}
use Rattle.elk_layers.specs.Layered.{rows_of}
use Rattle.drawing_types.specs.declared.shape.Point.{Point}
use Rattle.route_lines.specs.declared.Gap.{Gap}
use Rattle.route_lines.specs.declared.Trace.{Trace}
use Rattle.level_model.specs.declared.table.ChildAt.{ChildAt}
use Rattle.level_nets.specs.Parts.{parts, IsGiven}
use Rattle.level_nets.specs.Routed.{AreGapsOf, AreLegsOf}
use Rattle.level_draw.specs.Traced.{AreRoutesOf}
use Rattle.level_draw.specs.Joined.{AreJoinable, AreJoined}
use Rattle.level_draw.specs.Outlines.{AreNearby, AreOutlines}
use Rattle.level_draw.specs.Parts.{ports_in}
use Rattle.level_draw.proofs.Planned.{is_given}
use Rattle.level_draw.proofs.Nearness.{numbers_below}
use Rattle.level_draw.proofs.PartsMade.{are_parts, boxes_nearby, traces_joinable}
use Rattle.level_draw.proofs.parts.parts_of.Goals as goal

pub gaps_of-requires-clause-given : goal.gaps_of-requires-clause-given
gaps_of-requires-clause-given c =
    let d = c.args.draft.now in
    subst (λ (tops : List ℤ). IsGiven (parts d.level.now d.layered.now tops d.reversed.now c.args.table)) (sym c.as_slice.ensures.value)
    (is_given (parts d.level.now d.layered.now d.lines.now.top.items d.reversed.now c.args.table) (rows_of d.order.now) c.requires.drawable.0 c.requires.drawable.1 c.requires.table)

pub routes_of-requires-clause-given : goal.routes_of-requires-clause-given
routes_of-requires-clause-given c =
    let d = c.args.draft.now in
    subst (λ (tops : List ℤ). IsGiven (parts d.level.now d.layered.now tops d.reversed.now c.args.table)) (sym c.as_slice.ensures.value)
    (is_given (parts d.level.now d.layered.now d.lines.now.top.items d.reversed.now c.args.table) (rows_of d.order.now) c.requires.drawable.0 c.requires.drawable.1 c.requires.table)

pub routes_of-requires-clause-numbers : goal.routes_of-requires-clause-numbers
routes_of-requires-clause-numbers c = numbers_below c.args.table c.requires.table.numbers

pub sections_of-requires : goal.sections_of-requires
sections_of-requires c =
    let d = c.args.draft.now in
    let s = parts d.level.now d.layered.now d.lines.now.top.items d.reversed.now c.args.table in
    let r = c.in_ok-routing.routing in
    let gaps = subst (λ (tops : List ℤ). AreGapsOf (parts d.level.now d.layered.now tops d.reversed.now c.args.table) r.gaps) c.as_slice.ensures.value c.in_ok-routing.ensures.gaps in
    let legs = subst (λ (tops : List ℤ). AreLegsOf (parts d.level.now d.layered.now tops d.reversed.now c.args.table) r) c.as_slice.ensures.value c.in_ok-routing.ensures.legs in
    let routes = subst (λ (tops : List ℤ). AreRoutesOf (parts d.level.now d.layered.now tops d.reversed.now c.args.table) r c.in_ok-routes.routes) c.as_slice.ensures.value c.in_ok-routes.ensures.routes in
    subst (λ (gs : List Gap). AreJoinable gs c.as_slice-3.result.now) (sym (c.as_slice-2.ensures.value ∙ c.into_vec-gaps.ensures))
    (subst (λ (ts : List Trace). AreJoinable r.gaps ts) (sym c.as_slice-3.ensures.value)
    (traces_joinable s (rows_of d.order.now) c.requires.drawable.0 c.requires.drawable.1 c.requires.table r c.in_ok-routing.ensures.count gaps legs c.in_ok-routing.ensures.range c.in_ok-routes.routes routes))

pub outlines_of-requires : goal.outlines_of-requires
outlines_of-requires c =
    let d = c.args.draft.now in
    let s = parts d.level.now d.layered.now d.lines.now.top.items d.reversed.now c.args.table in
    let r = c.in_ok-routing.routing in
    let gaps = subst (λ (tops : List ℤ). AreGapsOf (parts d.level.now d.layered.now tops d.reversed.now c.args.table) r.gaps) c.as_slice.ensures.value c.in_ok-routing.ensures.gaps in
    let legs = subst (λ (tops : List ℤ). AreLegsOf (parts d.level.now d.layered.now tops d.reversed.now c.args.table) r) c.as_slice.ensures.value c.in_ok-routing.ensures.legs in
    let routes = subst (λ (tops : List ℤ). AreRoutesOf (parts d.level.now d.layered.now tops d.reversed.now c.args.table) r c.in_ok-routes.routes) c.as_slice.ensures.value c.in_ok-routes.ensures.routes in
    subst (λ (cs : List ChildAt). AreNearby cs c.as_slice-5.result.now) (sym c.as_slice-4.ensures.value)
    (subst (λ (qs : List Point). AreNearby c.args.table.children qs) (sym c.as_slice-5.ensures.value)
    (boxes_nearby s (rows_of d.order.now) c.requires.drawable.0 c.requires.drawable.1 c.requires.table r c.in_ok-routing.ensures.count gaps legs c.in_ok-routing.ensures.range c.in_ok-routes.routes routes c.in_ok-routes.ensures.near))

pub returns : goal.returns
returns c =
    let d = c.args.draft.now in
    let s = parts d.level.now d.layered.now d.lines.now.top.items d.reversed.now c.args.table in
    let r = c.in_ok-routing.routing in
    let gaps = subst (λ (tops : List ℤ). AreGapsOf (parts d.level.now d.layered.now tops d.reversed.now c.args.table) r.gaps) c.as_slice.ensures.value c.in_ok-routing.ensures.gaps in
    let legs = subst (λ (tops : List ℤ). AreLegsOf (parts d.level.now d.layered.now tops d.reversed.now c.args.table) r) c.as_slice.ensures.value c.in_ok-routing.ensures.legs in
    let routes = subst (λ (tops : List ℤ). AreRoutesOf (parts d.level.now d.layered.now tops d.reversed.now c.args.table) r c.in_ok-routes.routes) c.as_slice.ensures.value c.in_ok-routes.ensures.routes in
    let v = c.in_ok-routes.routes in
    let gaps_are = c.as_slice-2.ensures.value ∙ c.into_vec-gaps.ensures in
    are_parts s (rows_of d.order.now) c.requires.drawable.0 c.requires.drawable.1 c.requires.table r c.in_ok-routing.ensures.count gaps legs c.in_ok-routing.ensures.range v routes c.in_ok-routes.ensures.near
    c.in_ok-sections.sections.items
    (subst (λ (gs : List Gap). AreJoined gs v.traces.items (length v.traces.items) c.in_ok-sections.sections.items) gaps_are
    (subst (λ (ts : List Trace). AreJoined c.as_slice-2.result.now ts (length ts) c.in_ok-sections.sections.items) c.as_slice-3.ensures.value c.in_ok-sections.ensures))
    c.in_ok-outlines.outlines.items
    (subst (λ (cs : List ChildAt). AreOutlines cs v.boxes.items (length cs) c.in_ok-outlines.outlines.items) c.as_slice-4.ensures.value
    (subst (λ (qs : List Point). AreOutlines c.as_slice-4.result.now qs (length c.as_slice-4.result.now) c.in_ok-outlines.outlines.items) c.as_slice-5.ensures.value c.in_ok-outlines.ensures))
    _ c.into_vec-gaps.ensures refl refl (c.in_ok-ports.ensures ∙ ap ports_in c.into_vec.ensures) refl refl
