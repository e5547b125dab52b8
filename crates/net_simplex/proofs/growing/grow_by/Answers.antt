use Rattle.std.proofs.Common.{◌∙◌, rules, FitsSigned, w64, arith, sym}
use Rattle.std.proofs.lemmas.Int.{to_z-of_z}
use Rattle.net_simplex.proofs.FirstTree.{attached_joined, edge_there, each_small, least_small, small_tail, small_head, none_left, attached_grown, attached_once}
use Rattle.net_simplex.proofs.growing.grow_by.Goals as goal

pub bounds-edges-k : goal.bounds-edges-k
bounds-edges-k c = edge_there _ _ c.requires.network c.requires.connected _ _ _ _ _ _ _ _ c.requires.grown c.requires.room _ (sym c.requires.choice ∙ c.in-Some.is)

pub attach-requires-clause-marks : goal.attach-requires-clause-marks
attach-requires-clause-marks c =
    let l = edge_there _ _ c.requires.network c.requires.connected _ _ _ _ _ _ _ _ c.requires.grown c.requires.room _ (sym c.requires.choice ∙ c.in-Some.is) in
    let n = c.requires.grown.growing.mark_for_each in
    omega (arith, l, n)

pub attach-requires-clause-least : goal.attach-requires-clause-least
attach-requires-clause-least c = least_small _ _ c.requires.network c.requires.connected _ _ _ _ _ _ _ _ c.requires.grown c.requires.room _ (sym c.requires.choice ∙ c.in-Some.is)

pub attach-requires-clause-small : goal.attach-requires-clause-small
attach-requires-clause-small c = each_small _ _ c.requires.network c.requires.connected _ _ _ _ _ _ _ _ c.requires.grown c.requires.room

pub attach-requires-clause-above : goal.attach-requires-clause-above
attach-requires-clause-above c = λ a. small_tail _ _ c.requires.network c.requires.connected _ _ _ _ _ _ _ _ c.requires.grown c.requires.room _ (sym c.requires.choice ∙ c.in-Some.is) a

pub attach-requires-clause-below : goal.attach-requires-clause-below
attach-requires-clause-below c = λ a. small_head _ _ c.requires.network c.requires.connected _ _ _ _ _ _ _ _ c.requires.grown c.requires.room _ (sym c.requires.choice ∙ c.in-Some.is) a

pub returns-in-Some : goal.returns-in-Some
returns-in-Some c =
    let z = c.attach.result in
    let fz : FitsSigned w64 z = search rules in
    let is = sym c.requires.choice ∙ c.in-Some.is in
    record {
      grown = rw (to_z-of_z w64 z fz) (attached_grown _ _ c.requires.network c.requires.connected _ _ _ _ _ _ _ _ c.requires.grown c.requires.room _ is _ _ _ _ _ _ _ c.attach.ensures);
      once = rw (to_z-of_z w64 z fz) (attached_once _ _ c.requires.network c.requires.connected _ _ _ _ _ _ _ _ c.requires.grown c.requires.room _ is _ _ _ _ _ _ _ c.attach.ensures);
      joined = attached_joined _ _ c.requires.network c.requires.connected _ _ _ _ _ _ _ _ c.requires.grown c.requires.room _ is _ _ _ _ _ _ _ c.attach.ensures;
    }

pub returns-in-None : goal.returns-in-None
returns-in-None c = absurd (none_left _ _ c.requires.network c.requires.connected _ _ _ _ _ _ _ _ c.requires.grown c.requires.room (sym c.requires.choice ∙ c.in-None.is))
