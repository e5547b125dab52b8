-- What is asked of a level gives what the walk along its edges needs.
use Rattle.level_nets.specs.declared.routing.Routing.{Routing}
use Rattle.level_nets.specs.Parts.{Parts, IsGiven}
use Rattle.level_nets.specs.Routed.{AreLegsOf}
use Rattle.level_draw.specs.Reach.{HaveLegs, IsLinked}
use Rattle.level_draw.proofs.Linking.{is_linked}

pub given_linked : (s : Parts) → IsGiven s → IsLinked s
given_linked s given = is_linked s given.plan.rows given.plan.orders given.plan.layers given.plan.planned given.bottoms

pub given_legs : (s : Parts) (r : Routing) → IsGiven s → AreLegsOf s r → HaveLegs s r
given_legs s r given legs =
    let are = legs given.plan.rows given.plan.orders given.plan.layers given.plan.planned in
    record { links = are.link_count; docks = are.dock_count; loops = are.loop_count }
