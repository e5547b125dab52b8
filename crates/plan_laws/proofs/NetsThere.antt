-- Each net of the level lies in its gap: there is a gap of that number, and the net's number is below that of the gap's nets.
use Rattle.std.proofs.Common.{ℕ, ◌+◌, ◌<◌, eqb, Bool, true, List, ℤ, length, refl, sym, subst, ap, ◌∙◌, arith}
use Rattle.std.proofs.lemmas.List.{length-map}
use Rattle.std.proofs.lemmas.Bool.{eq-eqb}
use Rattle.drawing_types.specs.declared.shape.Side.{Side}
use Rattle.drawing_types.specs.declared.shape.Side.TheVariants.{North, East, South, West}
use Rattle.elk_layers.specs.Layered.{link_at, layer_of}
use Rattle.route_lines.specs.Points.{PlainGap, IsStepIn}
use Rattle.level_model.specs.Level.{PlainLevel, PlainPlan, Orders}
use Rattle.level_model.specs.Nets.{Name, of_link, of_dock, of_loop, name_eq, gap_beside, gap_of, all_names, names_in, net_of, place_of_name, unit_of}
use Rattle.level_model.specs.Traces.{leg_step}
use Rattle.level_model.specs.Ready.{IsReady}
use Rattle.level_model.proofs.SpotLemmas.{spoke_there}
use Rattle.level_model.proofs.Lists.{Has, has_filter}
use Rattle.level_model.proofs.FirstPlaces as places
use Rattle.plan_laws.proofs.NetNames.{name_eq-same, name_eq-self}
use Rattle.level_model.proofs.EndLemmas.{column_there, child_unit}
use Rattle.level_model.proofs.NameLemmas.{IsName, name_is}
use Rattle.plan_laws.specs.Joins.{HoldNets}

module _ (l : PlainLevel) (p : PlainPlan) (o : Orders) where
  number_within : (n : Name) → Has (all_names l p o) n → place_of_name (names_in l p o (gap_of l p o n)) n < length (names_in l p o (gap_of l p o n))
  number_within n h =
      places.place_within name_eq name_eq-same name_eq-self place_of_name (λ m ms k. refl) (names_in l p o (gap_of l p o n)) n
      (has_filter (λ k. eqb (gap_of l p o k) (gap_of l p o n)) (all_names l p o) n h (eq-eqb (gap_of l p o n) (gap_of l p o n) refl))

  module _ (layers : List ℕ) (ready : IsReady l p o layers) where
    child_gap : (c : ℕ) (side : Side) → c < length l.children → gap_beside p c side < p.layers + 1
    child_gap c side h =
        let column : layer_of p.layered (unit_of p c) < p.layers = column_there l p o layers ready (unit_of p c) (child_unit l p o layers ready c h) in
        step side column
      where
        step : (side : Side) → layer_of p.layered (unit_of p c) < p.layers → gap_beside p c side < p.layers + 1
        step North less = omega (arith, less)
        step East less = omega (arith, less)
        step South less = omega (arith, less)
        step West less = omega (arith, less)

    gap_there : (n : Name) → IsName l p o n → gap_of l p o n < p.layers + 1
    gap_there (of_link k) h =
        let less : layer_of p.layered (link_at p.layered.links k).head < p.layers = column_there l p o layers ready (link_at p.layered.links k).head (ready.sound.links_are k h).head in
        omega (arith, less)
    gap_there (of_dock n) h = child_gap _ _ (spoke_there l n.edge n.at_source ready.level h.0).child
    gap_there (of_loop e side) h = child_gap _ side (spoke_there l e true ready.level h.0).child

    pub leg_there : (shift : ℤ) (gaps : List PlainGap) → HoldNets l p o shift gaps → (n : Name) (from_a : Bool) → Has (all_names l p o) n → IsStepIn gaps (leg_step l p o n from_a)
    leg_there shift gaps hold n from_a h =
        let g = gap_of l p o n in
        let there : g < length gaps = let less = gap_there n (name_is l p o n h) in let many = hold.as_many in omega (arith, less, many) in (
          there,
          subst (λ z. place_of_name (names_in l p o g) n < z) (sym (ap length (hold.nets g there) ∙ length-map (names_in l p o g) (net_of l p o shift))) (number_within n h),
          hold.routes g there,
        )
