-- The steps that are read off the table are those of the plan.
use Rattle.std.proofs.Common.{◌≡◌, ℕ, ◌<◌, ◌&&◌, ◌||◌, not, Bool, true, false, cond, List, [], ◌∷◌, ◌++◌, length, ℤ, pos, ◌+ℤ◌, ◌-ℤ◌, arith, refl, ◌∙◌, ap, ap₂, inl, inr}
use Rattle.std.proofs.lemmas.Bool.{or_right, or_left}
use Rattle.std.proofs.lemmas.Int.{ints}
use Rattle.drawing_types.specs.declared.shape.Dock.{Dock}
use Rattle.elk_layers.specs.Layered.{link_at, layer_of}
use Rattle.elk_layers.specs.Lines.{top_of}
use Rattle.self_loops.specs.Loops.{is_upright}
use Rattle.route_lines.specs.declared.Step.{Step}
use Rattle.route_lines.specs.declared.Step.TheVariants.{Lane, Leg}
use Rattle.level_model.specs.Stage.{dock_lane, long_lane}
use Rattle.level_model.specs.Level.{PlainLevel, PlainPlan, Orders, End, is_loop, enters, tail_end, head_end, dock_of, holds}
use Rattle.level_model.specs.Nets.{of_link, of_dock, is_inverted, inverts}
use Rattle.level_model.specs.Traces as plan
use Rattle.level_model.proofs.Lists.{Has}
use Rattle.level_model.proofs.LaneLemmas.{end_has_lane}
use Rattle.level_nets.specs.declared.routing.Routing.{Routing}
use Rattle.level_nets.specs.Parts.{Parts, plan_of, ArePlanned}
use Rattle.level_nets.specs.Read.{gap_named}
use Rattle.level_nets.specs.Routed.{AreLegs}
use Rattle.level_nets.proofs.Names.{end_is, dock_is, inverted_is, gap_is}
use Rattle.level_nets.proofs.Nets.{top_is}
use Rattle.level_draw.specs.Read as read
use Rattle.level_draw.proofs.Linking.{chain_same}

pub lane_sum : (a b c d : ℤ) → a ≡ c → b ≡ d → a +ℤ b ≡ (c +ℤ d) -ℤ pos 0
lane_sum a b c d e f = rw (e, f) (whole c d)
  where
    whole : (c d : ℤ) → c +ℤ d ≡ (c +ℤ d) -ℤ pos 0
    whole c d = omega (arith, ints)

module _ (s : Parts) (rows : List (List ℕ)) (o : Orders) (layers : List ℕ) (planned : ArePlanned s rows o layers) (r : Routing) (legs : AreLegs s.level (plan_of s rows) o r) where
  abbrev l : PlainLevel
  l = s.level

  abbrev p : PlainPlan
  p = plan_of s rows

  -- the lane of a dock that lies on the north or south side or is inverted
  dock_lane_is : (n : End) → n.edge < length s.level.edges → is_loop s.level n.edge ≡ false
      → (is_upright (dock_of s.level (plan_of s rows) o n).side || inverts (dock_of s.level (plan_of s rows) o n).side (enters (plan_of s rows) n)) ≡ true
      → read.dock_lane_step s n ≡ plan.lane_step l p o (pos 0) (dock_lane (dock_of l p o n))
  dock_lane_is n h loop lies =
      ap Lane (lane_sum _ _ _ _ (top_is s rows o layers planned n h)
      ((end_is s rows o layers planned n h).lane (end_has_lane s.level (plan_of s rows) o n.edge n.at_source planned.ready.level h loop lies)))

  dock_leg_is : (n : End) (from_a : Bool) → n.edge < length s.level.edges → is_inverted s.level (plan_of s rows) o n ≡ true
      → read.dock_leg s r n from_a ≡ plan.leg_step l p o (of_dock n) from_a
  unfolding gap_named
  dock_leg_is n from_a h inverted =
      ap₂ (λ (g k : ℕ). Leg g k from_a) (gap_is s rows o layers planned (of_dock n) (h, inverted)) (legs.docks n.edge n.at_source h inverted)

  inverted_parts : (n : End) → is_inverted l p o n ≡ true → (is_loop l n.edge ≡ false) × (inverts (dock_of l p o n).side (enters p n) ≡ true)
  inverted_parts n h = parts (is_loop l n.edge) (inverts (dock_of l p o n).side (enters p n)) h
    where
      parts : (a b : Bool) → (not a && b) ≡ true → (a ≡ false) × (b ≡ true)
      parts true b h = absurd cc
      parts false b h = (refl, h)

  leaving_is : (n : End) → n.edge < length s.level.edges → is_loop l n.edge ≡ false → (inverted upright : Bool) → is_inverted l p o n ≡ inverted → is_upright (dock_of l p o n).side ≡ upright
      → read.leaving s r n inverted upright ≡ plan.leaving l p o (pos 0) n inverted upright
  leaving_is n h loop true upright e f =
      let q = inverted_parts n e in
      ap₂ (λ (a b : Step). a ∷ b ∷ []) (dock_leg_is n false h e) (dock_lane_is n h loop (or_right _ _ q.1))
  leaving_is n h loop false true e f = ap (λ a. a ∷ []) (dock_lane_is n h loop (or_left _ _ f))
  leaving_is n h loop false false e f = refl

  entering_is : (n : End) → n.edge < length s.level.edges → is_loop l n.edge ≡ false → (inverted upright : Bool) → is_inverted l p o n ≡ inverted → is_upright (dock_of l p o n).side ≡ upright
      → read.entering s r n inverted upright ≡ plan.entering l p o (pos 0) n inverted upright
  entering_is n h loop true upright e f =
      let q = inverted_parts n e in
      ap₂ (λ (a b : Step). a ∷ b ∷ []) (dock_lane_is n h loop (or_right _ _ q.1)) (dock_leg_is n true h e)
  entering_is n h loop false true e f = ap (λ a. a ∷ []) (dock_lane_is n h loop (or_left _ _ f))
  entering_is n h loop false false e f = refl

  out_is : (n : End) → n.edge < length s.level.edges → is_loop l n.edge ≡ false
      → read.steps_out s r n ≡ plan.leaving l p o (pos 0) n (is_inverted l p o n) (is_upright (dock_of l p o n).side)
  out_is n h loop =
      ap₂ (read.leaving s r n) (inverted_is s rows o layers planned n h) (ap (λ (d : Dock). is_upright d.side) (dock_is s rows o layers planned n h))
      ∙ leaving_is n h loop (is_inverted l p o n) (is_upright (dock_of l p o n).side) refl refl

  in_is : (n : End) → n.edge < length s.level.edges → is_loop l n.edge ≡ false
      → read.steps_in s r n ≡ plan.entering l p o (pos 0) n (is_inverted l p o n) (is_upright (dock_of l p o n).side)
  in_is n h loop =
      ap₂ (read.entering s r n) (inverted_is s rows o layers planned n h) (ap (λ (d : Dock). is_upright d.side) (dock_is s rows o layers planned n h))
      ∙ entering_is n h loop (is_inverted l p o n) (is_upright (dock_of l p o n).side) refl refl

  -- the links between
  link_leg_is : (k : ℕ) → k < length s.layered.links → read.link_leg s r k ≡ plan.leg_step l p o (of_link k) true
  link_leg_is k h = ap (λ i. Leg (layer_of s.layered (link_at s.layered.links k).head) i true) (legs.links k h)

  long_lane_is : (k : ℕ) → read.long_lane_step s k ≡ plan.lane_step l p o (pos 0) (long_lane (link_at s.layered.links k).head)
  long_lane_is k = ap Lane (none (top_of s.tops (link_at s.layered.links k).head))
    where
      none : (z : ℤ) → z ≡ (z +ℤ pos 0) -ℤ pos 0
      none z = omega (arith, ints)

  chain_is : (ks : List ℕ) → ((k : ℕ) → Has ks k → k < length s.layered.links) → read.chain_steps s r ks ≡ plan.chain_steps l p o (pos 0) ks
  chain_is [] there = refl
  chain_is (k ∷ []) there = ap (λ a. a ∷ []) (link_leg_is k (there k (inl refl)))
  chain_is (k ∷ j ∷ ks) there =
      ap₂ (λ (a b : Step). a ∷ b ∷ read.chain_steps s r (j ∷ ks)) (link_leg_is k (there k (inl refl))) (long_lane_is k)
      ∙ ap (λ rest. plan.leg_step l p o (of_link k) true ∷ plan.lane_step l p o (pos 0) (long_lane (link_at s.layered.links k).head) ∷ rest) (chain_is (j ∷ ks) (λ i h. there i (inr h)))

  oriented_is : (e : ℕ) → e < length s.level.edges → is_loop l e ≡ false → ((k : ℕ) → Has (plan.chain (plan_of s rows) e) k → k < length s.layered.links)
      → read.oriented_steps s r e ≡ plan.oriented_steps l p o (pos 0) e
  oriented_is e h loop there =
      ap₂ (λ (a b : List Step). a ++ b)
      (ap₂ (λ (a b : List Step). a ++ b) (out_is (tail_end p e) h loop) (ap (read.chain_steps s r) (chain_same s rows o layers planned e) ∙ chain_is (plan.chain (plan_of s rows) e) there))
      (in_is (head_end p e) h loop)

  pub edge_steps_are : (e : ℕ) → e < length s.level.edges → is_loop l e ≡ false → ((k : ℕ) → Has (plan.chain (plan_of s rows) e) k → k < length s.layered.links)
      → cond (holds s.reversed e) (plan.reversed_steps (read.oriented_steps s r e)) (read.oriented_steps s r e)
      ≡ cond (holds s.reversed e) (plan.reversed_steps (plan.oriented_steps l p o (pos 0) e)) (plan.oriented_steps l p o (pos 0) e)
  edge_steps_are e h loop there =
      ap₂ (λ (a b : List Step). cond (holds s.reversed e) a b) (ap plan.reversed_steps (oriented_is e h loop there)) (oriented_is e h loop there)
