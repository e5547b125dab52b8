use Rattle.std.proofs.Common.{◌≡◌, ◌++◌, ◌∷◌, [], pos, map, sym, ap, subst, ◌∙◌}
use Rattle.std.specs.List.{All}
use Rattle.elk_layers.specs.Layered.{plain}
use Rattle.ns_place.specs.Heights.{IsNearLink}
use Rattle.ns_place.specs.Start.{lowered, joint_layer}
use Rattle.ns_place.proofs.FirstLemmas.{tops_small, low_near, completed_are}
use Rattle.ns_place.proofs.start.layers_at.Goals as goal

pub lower_all-requires : goal.lower_all-requires
lower_all-requires c = tops_small (plain c.args.layered.now) c.args.top.now c.requires.sound c.requires.tops

pub push_joint_layers-requires : goal.push_joint_layers-requires
push_joint_layers-requires c =
    let l = plain c.args.layered.now in
    let tops = c.args.top.now in
    let is : c.as_slice-2.result.now ≡ map lowered tops = c.as_slice-2.ensures.value ∙ c.in_ok-low.ensures in
    record {
      near = subst (λ ts. All (IsNearLink ts) c.as_slice-3.result.now) (sym is)
          (subst (All (IsNearLink (map lowered tops))) (sym c.as_slice-3.ensures.value) (low_near l tops c.requires.sound c.requires.tops));
    }

pub returns : goal.returns
returns c =
    let l = plain c.args.layered.now in
    let tops = c.args.top.now in
    let is : c.as_slice-2.result.now ≡ map lowered tops = c.as_slice-2.ensures.value ∙ c.in_ok-low.ensures in
    let copied : c.in_ok-layers.layers.items ≡ map lowered tops = c.in_ok-layers.ensures.items ∙ c.as_slice.ensures.value ∙ c.in_ok-low.ensures in
    let joints = ap (λ ts. map (joint_layer ts) c.as_slice-3.result.now) is ∙ ap (map (joint_layer (map lowered tops))) c.as_slice-3.ensures.value in
    let before = c.in_ok-push_joint_layers.ensures ∙ ap (λ xs. xs ++ map (joint_layer c.as_slice-2.result.now) c.as_slice-3.result.now) copied ∙ ap (λ ys. map lowered tops ++ ys) joints in
    c.in_ok-push.ensures.items ∙ ap (λ xs. xs ++ pos 0 ∷ []) before ∙ completed_are l tops c.requires.sound c.requires.tops
