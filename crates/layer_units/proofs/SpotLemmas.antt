-- The spots of a level's children begin with those of their ports, and their sides are those of any plan that turns the same
-- edges round.
use Rattle.std.proofs.Common.{◌≡◌, inl, inr, ℕ, ◌+◌, ◌<◌, ◌≤◌, true, List, [], ◌∷◌, get_or, length, ◌-◌, pos, sym, subst, ap, ◌∙◌, arith}
use Rattle.std.specs.Prelude.{Option, None, Some}
use Rattle.std.proofs.lemmas.Bool.{cases_lt}
use Rattle.port_order.specs.declared.children.Child.{Child}
use Rattle.port_order.specs.declared.spots.Spot.{Spot}
use Rattle.port_order.specs.Child.{spot_at}
use Rattle.port_order.specs.Sides.{side_of}
use Rattle.level_model.specs.Level.{End, PlainLevel, PlainPlan, all_ends, child_at, end_at, ends_at_port, enters, implicit_ends, spot, spots}
use Rattle.dock_table.proofs.RowLemmas.{row_long}
use Rattle.dock_table.proofs.WholeLemmas.{number_port, row_implicit_there, spots_are, spots_row}
use Rattle.layer_units.specs.Sides.{HavePorts, SamePorts, SameSpots}

-- a plan of which nothing is known but the edges that are reversed
abbrev pub passing_plan : List ℕ → PlainPlan
passing_plan reversed =
    record {
      layers = 0;
      layered = record { layers = 0; units = []; links = []; node_node = pos 0; edge_node = pos 0; edge_edge = pos 0 };
      rows = [];
      tops = [];
      reversed = reversed;
    }

-- the implicit end at a spot behind those of ports
abbrev pub implicit_at : PlainLevel → ℕ → ℕ → List End
implicit_at l c k = get_or (implicit_ends l c) (k - length (child_at l c).ports) (end_at 0 true) ∷ []

module _ (l : PlainLevel) (p : PlainPlan) (c : ℕ) where
  pub spots_long : length (spots l p c) ≡ length (child_at l c).ports + length (implicit_ends l c)
  spots_long = ap (λ (ss : List Spot). length ss) (spots_row l p c) ∙ row_long l p c (all_ends l)

  pub implicit_there : (k : ℕ) → length (child_at l c).ports ≤ k → k < length (spots l p c) → spot_at (spots l p c) k ≡ spot l p None k (implicit_at l c k)
  implicit_there k more h =
      let row = spots_row l p c in
      ap (λ (ss : List Spot). spot_at ss k) row ∙ row_implicit_there l p c k (all_ends l) more (subst (λ (ss : List Spot). k < length ss) row h)

  pub have_ports : HavePorts (child_at l c) (spots l p c)
  have_ports =
      record {
        sound = spots_are l p c;
        long = let long = spots_long in omega (arith, long);
        port_is = λ k h. ap (λ (s : Spot). s.port) (number_port l p c k h).1;
        number_is = λ k h. ap (λ (s : Spot). s.number) (number_port l p c k h).1;
        behind = λ k more h. ap (λ (s : Spot). s.port) (implicit_there k more h);
      }

module _ (l : PlainLevel) (p q : PlainPlan) (is_reversed : p.reversed ≡ q.reversed) where
  pub enters_same : (n : End) → enters p n ≡ enters q n
  enters_same n = ap (λ r. enters (passing_plan r) n) is_reversed

  -- the side of a spot by the edges that are reversed
  pub side_same : (c : Child) (port : Option ℕ) (number : ℕ) (ns : List End) → side_of c (spot l p port number ns) ≡ side_of c (spot l q port number ns)
  side_same c port number ns = ap (λ r. side_of c (spot l (passing_plan r) port number ns)) is_reversed

  pub same_spots : (c : ℕ) → SameSpots (child_at l c) (spots l p c) (spots l q c)
  same_spots c =
      let one = spots_long l p c in
      let two = spots_long l q c in
      let at : (k : ℕ) → k < length (spots l p c) → (port : Option ℕ) × (number : ℕ) × (ns : List End) × (spot_at (spots l p c) k ≡ spot l p port number ns) × (spot_at (spots l q c) k ≡ spot l q port number ns) =
      λ k h. elim (cases_lt k (length (child_at l c).ports)) [
        | inl less ↦ (Some k, k, ends_at_port l c k, (number_port l p c k less).1, (number_port l q c k less).1)
        | inr more ↦ (None, k, implicit_at l c k, implicit_there l p c k more h, implicit_there l q c k more (omega (arith, h, one, two)))
      ]
      in
      record {
        as_many = one ∙ sym two;
        port_is = λ k h. let a = at k h in ap (λ (s : Spot). s.port) a.3 ∙ sym (ap (λ (s : Spot). s.port) a.4);
        number_is = λ k h. let a = at k h in ap (λ (s : Spot). s.number) a.3 ∙ sym (ap (λ (s : Spot). s.number) a.4);
        side_is = λ k h. let a = at k h in ap (λ (s : Spot). side_of (child_at l c) s) a.3 ∙ side_same (child_at l c) a.0 a.1 a.2 ∙ sym (ap (λ (s : Spot). side_of (child_at l c) s) a.4);
      }

  pub same_ports : (c : ℕ) → SamePorts (child_at l c) (spots l p c) (spots l q c)
  same_ports c k h = (same_spots c).side_is k (let long = spots_long l p c in omega (arith, h, long))
