-- The certificate of a level gives its children layers that its units can be made from.
use Rattle.std.proofs.Common.{◌≡◌, ◌∙◌, ◌<◌, ℕ, Bool, true, false, not, cond, List, ℤ, pos, ◌+ℤ◌, ◌≤ℤ◌, length, map, refl, ap, subst, arith}
use Rattle.std.proofs.Math.ListN.{get_or-map}
use Rattle.std.proofs.lemmas.Int.{ints}
use Rattle.std.specs.List.{range_with_len}
use Rattle.std.specs.Prelude.{IsFalse}
use Rattle.elk_doc.specs.declared.drawing.Certificate.{Certificate}
use Rattle.network_laws.specs.declared.network.NetEdge.{NetEdge}
use Rattle.network_laws.specs.Layering.{layer_of}
use Rattle.level_model.specs.Conditions.{IsLevel}
use Rattle.level_model.specs.Level.{PlainLevel, edge_at, holds, is_loop}
use Rattle.level_model.proofs.Lists.{Has, at_has, has_filter, has_map, has_range}
use Rattle.level_layout.specs.Certificate.{IsCertificateOf, links, network_edge, network}
use Rattle.layer_units.specs.Layering.{AreLayersOf, head_child, layer_in, tail_child}

-- an edge that is no self-loop is one of the network
in_network : (l : PlainLevel) (rs : List ℕ) (e : ℕ) → e < length l.edges → is_loop l e ≡ false → Has (network l rs) (network_edge l rs e)
in_network l rs e h loop =
    has_map (network_edge l rs) (links l) e
    (has_filter (λ k. not (is_loop l k)) (range_with_len 0 (length l.edges)) e (has_range 0 (length l.edges) e (omega arith) (omega (arith, h))) (ap not loop))

pub tail_is : (l : PlainLevel) (rs : List ℕ) (e : ℕ) → (network_edge l rs e).tail ≡ tail_child l (holds rs e) e
tail_is l rs e = step (holds rs e)
  where
    step : (b : Bool) → cond b (edge_at l e).target.child (edge_at l e).source.child ≡ tail_child l b e
    step true = refl
    step false = refl

pub head_is : (l : PlainLevel) (rs : List ℕ) (e : ℕ) → (network_edge l rs e).head ≡ head_child l (holds rs e) e
head_is l rs e = step (holds rs e)
  where
    step : (b : Bool) → cond b (edge_at l e).source.child (edge_at l e).target.child ≡ head_child l b e
    step true = refl
    step false = refl

pub layer_is : (layers : List ℕ) (v : ℕ) → layer_of (map pos layers) v ≡ pos (layer_in layers v)
layer_is layers v = get_or-map pos layers v 0

rises : (a b : ℕ) (x y : ℤ) → x ≡ pos a → y ≡ pos b → (x +ℤ pos 1) ≤ℤ y → a < b
rises a b x y e f h = omega (arith, ints, e, f, h)

pub layers_from : (l : PlainLevel) (c : Certificate) → IsLevel l → IsCertificateOf l c → AreLayersOf l c.reversed c.layers
layers_from l c level is =
    record {
      as_many = is.layer_for_each;
      below = λ v h. let low = is.low v 0 h in let few = level.few_children in omega (arith, low, few);
      onward = onward;
    }
  where
    onward : (e : ℕ) → e < length l.edges → IsFalse (is_loop l e) → layer_in c.layers (tail_child l (holds c.reversed e) e) < layer_in c.layers (head_child l (holds c.reversed e) e)
    onward e h loop =
        let at = at_has (network l c.reversed) (record { tail = 0; head = 0; least = 0; weight = 0 }) (network_edge l c.reversed e) (in_network l c.reversed e h loop) in
        let up = is.solves.layering at.0 at.1 in
        rises _ _ _ _
        (layer_is c.layers (network_edge l c.reversed e).tail ∙ ap (λ v. pos (layer_in c.layers v)) (tail_is l c.reversed e))
        (layer_is c.layers (network_edge l c.reversed e).head ∙ ap (λ v. pos (layer_in c.layers v)) (head_is l c.reversed e))
        (subst (λ (x : NetEdge). (layer_of (map pos c.layers) x.tail +ℤ pos x.least) ≤ℤ layer_of (map pos c.layers) x.head) at.2 up)
