-- What is read off the table are the names of the plan, and their gaps.
use Rattle.std.proofs.Common.{◌≡◌, inl, inr, ℕ, ◌+◌, ◌<◌, Bool, true, false, not, ◌&&◌, List, [], ◌∷◌, ◌++◌, map, length, refl, sym, ap, ◌∙◌, arith}
use Rattle.std.specs.Ordering.{int_eq}
use Rattle.std.specs.List.{filter, range_with_len}
use Rattle.drawing_types.specs.declared.shape.Side.{Side}
use Rattle.drawing_types.specs.declared.shape.Side.TheVariants.{North, East, South, West}
use Rattle.drawing_types.specs.declared.shape.Dock.{Dock}
use Rattle.drawing_types.specs.Shapes.{is_side}
use Rattle.elk_layers.specs.Layered.{layer_of}
use Rattle.self_loops.specs.Loops.{passes_left, passes_right}
use Rattle.level_model.specs.Level.{PlainLevel, Orders, End, end_at, edge_at, all_ends, spoke, enters, is_loop, dock_of}
use Rattle.level_model.specs.Lanes.{has_one_dock}
use Rattle.level_model.specs.Nets.{Name, of_link, of_dock, of_loop, unit_of, inverts, is_inverted, if_passed, loop_names, all_names, gap_beside, gap_of}
use Rattle.level_model.specs.Table.{IsEndAt, child_in}
use Rattle.level_model.proofs.Lists.{Has, range_has}
use Rattle.level_model.proofs.SpotLemmas.{spoke_there}
use Rattle.level_nets.specs.Parts.{Parts, plan_of, ArePlanned}
use Rattle.level_nets.specs.Read.{at_end, dock_at, unit_of_dock, dock_inverts, is_one_dock, passes_west, passes_east, link_names, dock_names, passing_names, names_of, gap_at, gap_named}
use Rattle.level_nets.specs.Routed.{is_passing_left, is_passing_right}
use Rattle.level_model.proofs.NameLemmas.{IsName, ends_edge}
use Rattle.level_nets.proofs.ListLemmas.{filter_same}

and_first : (a b : Bool) → a ≡ true → (a && b) ≡ b
and_first a b e = rw e refl

-- the edge of an end is there
pub end_below : (l : PlainLevel) (n : End) → Has (all_ends l) n → n.edge < length l.edges
end_below l n h = let low = (range_has 0 (length l.edges) n.edge (ends_edge (range_with_len 0 (length l.edges)) n h)).1 in omega (arith, low)

module _ (s : Parts) (rows : List (List ℕ)) (o : Orders) (layers : List ℕ) (planned : ArePlanned s rows o layers) where
  pub end_is : (n : End) → n.edge < length s.level.edges → IsEndAt s.level (plan_of s rows) o n (at_end s n)
  end_is n h = step n.at_source
    where
      step : (t : Bool) → IsEndAt s.level (plan_of s rows) o (end_at n.edge t) (at_end s (end_at n.edge t))
      step true = planned.table.sources n.edge h
      step false = planned.table.targets n.edge h

  pub dock_is : (n : End) → n.edge < length s.level.edges → dock_at s n ≡ dock_of s.level (plan_of s rows) o n
  dock_is n h = (end_is n h).dock

  pub inverted_is : (n : End) → n.edge < length s.level.edges → dock_inverts s n ≡ is_inverted s.level (plan_of s rows) o n
  inverted_is n h = ap (λ (d : Dock). not (is_loop s.level n.edge) && inverts d.side (enters (plan_of s rows) n)) (dock_is n h)

  -- the two docks of a self-loop are one where their sides and offsets are
  pub one_dock_is : (e : ℕ) → e < length s.level.edges → is_loop s.level e ≡ true → is_one_dock s e ≡ has_one_dock s.level (plan_of s rows) o e
  one_dock_is e h loop =
      let a : Dock = dock_of s.level (plan_of s rows) o (end_at e true) in
      let b : Dock = dock_of s.level (plan_of s rows) o (end_at e false) in
      ap (λ (d : Dock). is_side d.side (dock_at s (end_at e false)).side && int_eq d.offset (dock_at s (end_at e false)).offset) (dock_is (end_at e true) h)
      ∙ ap (λ (d : Dock). is_side a.side d.side && int_eq a.offset d.offset) (dock_is (end_at e false) h)
      ∙ sym (and_first (is_loop s.level e) (is_side a.side b.side && int_eq a.offset b.offset) loop)

  pub west_is : (e : ℕ) → e < length s.level.edges → passes_west s e ≡ is_passing_left s.level (plan_of s rows) o e
  west_is e h = step (is_loop s.level e) refl
    where
      step : (b : Bool) → is_loop s.level e ≡ b
          → (b && passes_left (dock_at s (end_at e true)).side (dock_at s (end_at e false)).side (is_one_dock s e))
          ≡ (b && passes_left (dock_of s.level (plan_of s rows) o (end_at e true)).side (dock_of s.level (plan_of s rows) o (end_at e false)).side (has_one_dock s.level (plan_of s rows) o e))
      step false loop = refl
      step true loop =
          ap (λ (d : Dock). passes_left d.side (dock_at s (end_at e false)).side (is_one_dock s e)) (dock_is (end_at e true) h)
          ∙ ap (λ (d : Dock). passes_left (dock_of s.level (plan_of s rows) o (end_at e true)).side d.side (is_one_dock s e)) (dock_is (end_at e false) h)
          ∙ ap (passes_left (dock_of s.level (plan_of s rows) o (end_at e true)).side (dock_of s.level (plan_of s rows) o (end_at e false)).side) (one_dock_is e h loop)

  pub east_is : (e : ℕ) → e < length s.level.edges → passes_east s e ≡ is_passing_right s.level (plan_of s rows) o e
  east_is e h = step (is_loop s.level e) refl
    where
      step : (b : Bool) → is_loop s.level e ≡ b
          → (b && passes_right (dock_at s (end_at e true)).side (dock_at s (end_at e false)).side (is_one_dock s e))
          ≡ (b && passes_right (dock_of s.level (plan_of s rows) o (end_at e true)).side (dock_of s.level (plan_of s rows) o (end_at e false)).side (has_one_dock s.level (plan_of s rows) o e))
      step false loop = refl
      step true loop =
          ap (λ (d : Dock). passes_right d.side (dock_at s (end_at e false)).side (is_one_dock s e)) (dock_is (end_at e true) h)
          ∙ ap (λ (d : Dock). passes_right (dock_of s.level (plan_of s rows) o (end_at e true)).side d.side (is_one_dock s e)) (dock_is (end_at e false) h)
          ∙ ap (passes_right (dock_of s.level (plan_of s rows) o (end_at e true)).side (dock_of s.level (plan_of s rows) o (end_at e false)).side) (one_dock_is e h loop)

  pub dock_names_are : (ns : List End) → ((n : End) → Has ns n → n.edge < length s.level.edges) → dock_names s ns ≡ map of_dock (filter (is_inverted s.level (plan_of s rows) o) ns)
  dock_names_are ns below = ap (map of_dock) (filter_same (dock_inverts s) (is_inverted s.level (plan_of s rows) o) ns (λ n k. inverted_is n (below n k)))

  pub passing_names_are : (es : List ℕ) → ((e : ℕ) → Has es e → e < length s.level.edges) → passing_names s es ≡ loop_names s.level (plan_of s rows) o es
  passing_names_are [] below = refl
  passing_names_are (e ∷ es) below =
      ap (λ b. if_passed b e West ++ if_passed (passes_east s e) e East ++ passing_names s es) (west_is e (below e (inl refl)))
      ∙ ap (λ b. if_passed (is_passing_left s.level (plan_of s rows) o e) e West ++ if_passed b e East ++ passing_names s es) (east_is e (below e (inl refl)))
      ∙ ap (λ (ns : List Name). if_passed (is_passing_left s.level (plan_of s rows) o e) e West ++ if_passed (is_passing_right s.level (plan_of s rows) o e) e East ++ ns) (passing_names_are es (λ f k. below f (inr k)))

  pub names_are : names_of s ≡ all_names s.level (plan_of s rows) o
  names_are =
      ap (λ (ns : List Name). link_names (length s.layered.links) ++ ns ++ passing_names s (range_with_len 0 (length s.level.edges))) (dock_names_are (all_ends s.level) (end_below s.level))
      ∙ ap (λ (ns : List Name). link_names (length s.layered.links) ++ map of_dock (filter (is_inverted s.level (plan_of s rows) o) (all_ends s.level)) ++ ns)
      (passing_names_are (range_with_len 0 (length s.level.edges)) (λ e k. let low = (range_has 0 (length s.level.edges) e k).1 in omega (arith, low)))

  -- gaps
  pub child_below : (n : End) → n.edge < length s.level.edges → (spoke s.level n).child < length s.level.children
  child_below n h = (spoke_there s.level n.edge n.at_source planned.ready.level h).child

  pub unit_is : (d : Dock) (c : ℕ) → d.node ≡ c → c < length s.level.children → unit_of_dock s d ≡ unit_of (plan_of s rows) c
  unit_is d c e h = ap (λ m. (child_in s.table.children m).unit) e ∙ (planned.table.children c h).unit

  gap_side : (side : Side) (d : Dock) (c : ℕ) → d.node ≡ c → c < length s.level.children → gap_at s d side ≡ gap_beside (plan_of s rows) c side
  gap_side North d c e h = ap (λ u. layer_of s.layered u) (unit_is d c e h)
  gap_side East d c e h = ap (λ u. layer_of s.layered u + 1) (unit_is d c e h)
  gap_side South d c e h = ap (λ u. layer_of s.layered u) (unit_is d c e h)
  gap_side West d c e h = ap (λ u. layer_of s.layered u) (unit_is d c e h)

  pub gap_is : (n : Name) → IsName s.level (plan_of s rows) o n → gap_named s n ≡ gap_of s.level (plan_of s rows) o n
  unfolding gap_named
  gap_is (of_link k) h = refl
  gap_is (of_dock n) h =
      ap (λ (d : Dock). gap_at s d d.side) (dock_is n h.0)
      ∙ gap_side (dock_of s.level (plan_of s rows) o n).side (dock_of s.level (plan_of s rows) o n) (spoke s.level n).child refl (child_below n h.0)
  gap_is (of_loop e side) h =
      gap_side side (dock_at s (end_at e true)) (edge_at s.level e).source.child (ap (λ (d : Dock). d.node) (dock_is (end_at e true) h.0)) (child_below (end_at e true) h.0)
