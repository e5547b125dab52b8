-- Planned nodes are small, and levels of planned children have room.
use Rattle.std.proofs.Common.{◌≡◌, ℕ, suc, ◌+◌, ◌*◌, ◌<◌, ◌≤◌, ◌^◌, List, [], ◌∷◌, length, get_or, ℤ, pos, ◌+ℤ◌, ◌≤ℤ◌, Option, Some, None, refl, sym, subst, arith, rules}
use Rattle.std.proofs.lemmas.Int.{ints}
use Rattle.std.specs.Prelude.{IsNone}
use Rattle.elk_doc.specs.declared.document.LevelOptions.{LevelOptions}
use Rattle.elk_doc.specs.declared.drawing.Placed.{Placed}
use Rattle.elk_doc.specs.Document.{Document, node_at}
use Rattle.elk_doc.specs.Drawing.{box_of}
use Rattle.elk_doc.specs.Fits.{IsSolid}
use Rattle.elk_doc.specs.Level.{IsChild, children, is_child}
use Rattle.elk_doc.specs.Numbers.{total_below}
use Rattle.elk_doc.specs.Sound.{IsSound}
use Rattle.elk_doc.proofs.NumberLaws.{is_true}
use Rattle.port_order.specs.declared.children.Child.{Child}
use Rattle.level_model.specs.Conditions.{total_height, total_ports, total_width}
use Rattle.level_model.specs.Level.{child_at}
use Rattle.working_frame.specs.Rotated.{box_size, child_number, level_of}
use Rattle.working_frame.proofs.NumberedLemmas.{levels_are_listed, numbers_match}
use Rattle.level_io.specs.Levels.{HasRoom}
use Rattle.level_io.proofs.CountLemmas.{few_ports}
use Rattle.level_io.proofs.TotalLemmas.{ArePortsShort, Measure, ports_short}
use Rattle.compound.specs.Planned.{ArePlannedFrom}
use Rattle.compound.specs.Nested.{PlannedBoxesAreSmall, PlannedLevelsHaveRoom}
use Rattle.compound.proofs.ExtentLemmas.{high, wide}
use Rattle.rotated_levels.proofs.Sums.{over}
use Rattle.compound.proofs.ListLemmas.{over_least}
use Rattle.compound.proofs.BoundBoxLemmas.{level_most, level_solid}
use Rattle.compound.proofs.NodeLemmas.{children_sum, leaf_most, leaf_solid, level_short, size_sum, rotated_least}
use Rattle.compound.proofs.SumLemmas.{AreCosts, child_behind, children_small, cost, total_least}

-- ---- the sizes of planned nodes

module _ (d : Document) (p : Placed) (m : ℕ) (s : IsSound d) (planned : ArePlannedFrom d p m) where
  solid : (n : ℕ) → m ≤ n → n < length d.nodes → IsSolid (box_of p n)
  solid n late h = by_level (node_at d n).level refl
    where
      by_level : (l : Option LevelOptions) → (node_at d n).level ≡ l → IsSolid (box_of p n)
      by_level None e = let leaf : IsNone (node_at d n).level = subst IsNone (sym e) (search rules) in leaf_solid d p n s h leaf (planned.leaves n late h leaf)
      by_level (Some o) e = level_solid d p n o s h e (planned.levels n o late h e)

  sum_least : (n : ℕ) → m ≤ n → n < length d.nodes → pos 0 ≤ℤ size_sum p n
  sum_least n late h = let box = solid n late h in let a = box.width in let b = box.height in omega (arith, ints, a, b)

  children_least : (n : ℕ) → m ≤ suc n → pos 0 ≤ℤ total_below (is_child d n) (size_sum p) (length d.nodes)
  children_least n late =
      total_least (is_child d n) (size_sum p) (length d.nodes) (λ k h is. let behind = child_behind d n k s h is in sum_least k (omega (arith, late, behind)) h)

  planned_costs : AreCosts d (size_sum p) m
  planned_costs n late h = by_level (node_at d n).level refl
    where
      by_level : (l : Option LevelOptions) → (node_at d n).level ≡ l → size_sum p n ≤ℤ (total_below (is_child d n) (size_sum p) (length d.nodes) +ℤ pos (cost d n))
      by_level None e =
          let leaf : IsNone (node_at d n).level = subst IsNone (sym e) (search rules) in
          leaf_most d p n (total_below (is_child d n) (size_sum p) (length d.nodes)) s h leaf (planned.leaves n late h leaf) (children_least n (omega (arith, late)))
      by_level (Some o) e = level_most d p n o s h e (planned.levels n o late h e)

later : (d : Document) (p : Placed) (n : ℕ) → ArePlannedFrom d p n → ArePlannedFrom d p (suc n)
later d p n planned = record { leaves = λ k late. planned.leaves k (omega (arith, late)); levels = λ k o late. planned.levels k o (omega (arith, late)) }

-- the children of a node behind which all are planned, and its cost
small_children : (d : Document) (p : Placed) (n : ℕ) → IsSound d → n < length d.nodes → ArePlannedFrom d p (suc n)
    → (total_below (is_child d n) (size_sum p) (length d.nodes) +ℤ pos (cost d n)) ≤ℤ pos (2 ^ 45 + 2 ^ 37)
small_children d p n s h planned =
    children_small d (size_sum p) n s h (λ k late there. sum_least d p (suc n) s planned k (omega (arith, late)) there) (planned_costs d p (suc n) s planned)

pub planned_boxes_are_small : PlannedBoxesAreSmall
planned_boxes_are_small d p n s h planned =
    let most = small_children d p n s h (later d p n planned) in
    let own = planned_costs d p n s planned n (omega arith) h in
    let box = solid d p n s planned n (omega arith) h in
    let small = both (box_of p n).width (box_of p n).height (total_below (is_child d n) (size_sum p) (length d.nodes)) (cost d n) own most box.width box.height in
    record { width = record { above = box.width; below = small.0 }; height = record { above = box.height; below = small.1 } }
  where
    both : (w h t : ℤ) (c : ℕ) → (w +ℤ h) ≤ℤ (t +ℤ pos c) → (t +ℤ pos c) ≤ℤ pos (2 ^ 45 + 2 ^ 37) → pos 0 ≤ℤ w → pos 0 ≤ℤ h → (w ≤ℤ pos (2 ^ 45 + 2 ^ 37)) × (h ≤ℤ pos (2 ^ 45 + 2 ^ 37))
    both w h t c own most x y = (omega (arith, ints, own, most, y), omega (arith, ints, own, most, x))

-- ---- room

-- children and their ports, where these are short
abbrev width_of : Measure
width_of s = s.width

abbrev height_of : Measure
height_of s = s.height

widths_low : (cs : List Child) (z : Child) → ((i : ℕ) → i < length cs → ArePortsShort width_of (get_or cs i z).ports) → total_width cs ≤ℤ (over wide cs +ℤ pos (total_ports cs * 2 ^ 20))
widths_low [] z h = omega (arith, ints)
widths_low (c ∷ cs) z h =
    let own = (ports_short width_of c.ports (h 0 (omega arith))).below in
    let rest = widths_low cs z (λ i l. h (suc i) (omega (arith, l))) in
    omega (arith, ints, own, rest)

heights_low : (cs : List Child) (z : Child) → ((i : ℕ) → i < length cs → ArePortsShort height_of (get_or cs i z).ports) → total_height cs ≤ℤ (over high cs +ℤ pos (total_ports cs * 2 ^ 20))
heights_low [] z h = omega (arith, ints)
heights_low (c ∷ cs) z h =
    let own = (ports_short height_of c.ports (h 0 (omega arith))).below in
    let rest = heights_low cs z (λ i l. h (suc i) (omega (arith, l))) in
    omega (arith, ints, own, rest)

module _ (d : Document) (p : Placed) (n : ℕ) (o : LevelOptions) (s : IsSound d) (there : n < length d.nodes) (planned : ArePlannedFrom d p (suc n)) where
  behind : (c : ℕ) → IsChild d n c → suc n ≤ c
  behind c is = let late = child_behind d n c s is.node_in (is_true (is_child d n c) is.child) in omega (arith, late)

  child_solid : (c : ℕ) → IsChild d n c → IsSolid (box_of p c)
  child_solid c is = solid d p (suc n) s planned c (behind c is) is.node_in

  sides_least : (i : ℕ) → i < length (level_of d p n o).children → (pos 0 ≤ℤ wide (child_at (level_of d p n o) i)) × (pos 0 ≤ℤ high (child_at (level_of d p n o) i))
  sides_least i h =
      let listed = levels_are_listed d p n o in
      let many = listed.child_count in
      let inside : i < length (children d n) = omega (arith, h, many) in
      let box = child_solid (child_number d n i) ((numbers_match d n).children.meant i inside) in
      subst (λ (c : Child). (pos 0 ≤ℤ wide c) × (pos 0 ≤ℤ high c)) (sym (listed.child i inside)) (rotated_least o.direction (box_size p (child_number d n i)) box.width box.height)

  few : total_ports (level_of d p n o).children ≤ length d.ports
  few = few_ports d p o.direction (is_child d n) (length d.nodes)

  sides_room : (a b t : ℤ) (c q k : ℕ) (z : ℤ) → z ≤ℤ (a +ℤ pos (q * 2 ^ 20)) → (a +ℤ b) ≡ t → pos 0 ≤ℤ b → (t +ℤ pos c) ≤ℤ pos (2 ^ 45 + 2 ^ 37) → q ≤ k → k ≤ 4096 → z ≤ℤ pos (2 ^ 46)
  sides_room a b t c q k z h e least most less all = omega (arith, ints, h, e, least, most, less, all)

  level_room : HasRoom d p n o
  level_room =
      let cs = (level_of d p n o).children in
      let short = level_short d p n o s in
      let sum = children_sum d p n o.direction in
      let most = small_children d p n s there planned in
      record {
        leaves = λ c is leaf. planned.leaves c (behind c is) is.node_in leaf;
        solid = child_solid;
        widths = sides_room (over wide cs) (over high cs) _ (cost d n) (total_ports cs) (length d.ports) (total_width cs)
            (widths_low cs (child_at (record { children = []; edges = []; spacing = o.spacing; choices = o.choices }) 0) (λ i h j l. (short i h j l).width)) sum
            (over_least high cs (child_at (record { children = []; edges = []; spacing = o.spacing; choices = o.choices }) 0) (λ i h. (sides_least i h).1)) most few s.few_ports;
        heights = sides_room (over high cs) (over wide cs) _ (cost d n) (total_ports cs) (length d.ports) (total_height cs)
            (heights_low cs (child_at (record { children = []; edges = []; spacing = o.spacing; choices = o.choices }) 0) (λ i h j l. (short i h j l).height)) (swapped (over wide cs) (over high cs) _ sum)
            (over_least wide cs (child_at (record { children = []; edges = []; spacing = o.spacing; choices = o.choices }) 0) (λ i h. (sides_least i h).0)) most few s.few_ports;
      }
    where
      swapped : (a b t : ℤ) → (a +ℤ b) ≡ t → (b +ℤ a) ≡ t
      swapped a b t e = omega (arith, ints, e)

pub planned_levels_have_room : PlannedLevelsHaveRoom
planned_levels_have_room d p n o s there is planned = level_room d p n o s there planned
