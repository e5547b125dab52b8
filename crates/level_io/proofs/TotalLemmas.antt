-- The lengths of children and ports together.
use Rattle.std.proofs.Common.{◌≡◌, ℕ, zero, suc, ◌+◌, ◌*◌, ◌<◌, ◌^◌, ℤ, pos, ◌+ℤ◌, ◌≤ℤ◌, List, [], ◌∷◌, map, length, get_or, arith, refl, ap}
use Rattle.std.proofs.lemmas.Int.{ints}
use Rattle.drawing_types.specs.declared.shape.Size.{Size}
use Rattle.drawing_types.specs.Ranges.{IsWithin}
use Rattle.port_order.specs.declared.children.ChildPort.{ChildPort}
use Rattle.port_order.specs.declared.children.Child.{Child}
use Rattle.port_order.specs.Child.{no_port}
use Rattle.level_model.specs.Conditions.{sizes_of, sum_of_ints, total_height, total_ports, total_width}

-- a length of sizes: their widths or their heights
abbrev pub Measure : Type 0
Measure = Size → ℤ

abbrev pub port_sum : Measure → List ChildPort → ℤ
port_sum m qs = sum_of_ints (map m (map (λ (q : ChildPort). q.size) qs))

pub total_by : Measure → List Child → ℤ
total_by m [] = pos 0
total_by m (c ∷ cs) = sum_of_ints (map m (sizes_of c)) +ℤ total_by m cs

pub width_by : (cs : List Child) → total_width cs ≡ total_by (λ (s : Size). s.width) cs
unfolding total_by
width_by [] = refl
width_by (c ∷ cs) = ap (λ z. sum_of_ints (map (λ (s : Size). s.width) (sizes_of c)) +ℤ z) (width_by cs)

pub height_by : (cs : List Child) → total_height cs ≡ total_by (λ (s : Size). s.height) cs
unfolding total_by
height_by [] = refl
height_by (c ∷ cs) = ap (λ z. sum_of_ints (map (λ (s : Size). s.height) (sizes_of c)) +ℤ z) (height_by cs)

-- the ports of a child have lengths that a document may give
abbrev pub ArePortsShort : Measure → List ChildPort → Type 0
ArePortsShort m qs = (j : ℕ) → j < length qs → IsWithin (pos 0) (pos (2 ^ 20)) (m (get_or qs j no_port).size)

pub ports_short : (m : Measure) (qs : List ChildPort) → ArePortsShort m qs → IsWithin (pos 0) (pos (length qs * 2 ^ 20)) (port_sum m qs)
ports_short m [] h = record { above = omega (arith, ints); below = omega (arith, ints) }
ports_short m (q ∷ qs) h =
    let first : IsWithin (pos 0) (pos (2 ^ 20)) (m q.size) = h 0 (omega arith) in
    let rest = ports_short m qs (λ j l. h (suc j) (omega (arith, l))) in
    record { above = omega (arith, ints, first.above, rest.above); below = omega (arith, ints, first.below, rest.below) }

-- a child counts with a length from 0, and so do its ports
pub record IsCounted (m : Measure) (c : Child) : Type 0 where
  pub box : pos 0 ≤ℤ m c.size
  pub ports : ArePortsShort m c.ports

-- every child of the list counts so
abbrev pub AreCounted : Measure → Child → List Child → Type 0
AreCounted m d cs = (i : ℕ) → i < length cs → IsCounted m (get_or cs i d)

pub total_above : (m : Measure) (d : Child) (cs : List Child) → AreCounted m d cs → pos 0 ≤ℤ total_by m cs
unfolding total_by
total_above m d [] h = omega (arith, ints)
total_above m d (c ∷ cs) h =
    let first : IsCounted m c = h 0 (omega arith) in
    let own = ports_short m c.ports first.ports in
    let rest = total_above m d cs (λ i l. h (suc i) (omega (arith, l))) in
    omega (arith, ints, first.box, own.above, rest)

-- no child is longer than all are together
pub part_below : (m : Measure) (d : Child) (cs : List Child) → AreCounted m d cs → (i : ℕ) → i < length cs → m (get_or cs i d).size ≤ℤ total_by m cs
unfolding total_by
part_below m d [] h i l = absurd (omega (arith, l))
part_below m d (c ∷ cs) h zero l =
    let first : IsCounted m c = h 0 (omega arith) in
    let own = ports_short m c.ports first.ports in
    let rest = total_above m d cs (λ i l. h (suc i) (omega (arith, l))) in
    omega (arith, ints, own.above, rest)
part_below m d (c ∷ cs) h (suc i) l =
    let first : IsCounted m c = h 0 (omega arith) in
    let own = ports_short m c.ports first.ports in
    let rest = part_below m d cs (λ i l. h (suc i) (omega (arith, l))) i (omega (arith, l)) in
    omega (arith, ints, first.box, own.above, rest)

-- short children with short ports are short together
pub total_short : (m : Measure) (d : Child) (cs : List Child) → AreCounted m d cs → ((i : ℕ) → i < length cs → m (get_or cs i d).size ≤ℤ pos (2 ^ 20))
    → total_by m cs ≤ℤ pos (length cs * 2 ^ 20 + total_ports cs * 2 ^ 20)
unfolding total_by
total_short m d [] h k = omega (arith, ints)
total_short m d (c ∷ cs) h k =
    let first : IsCounted m c = h 0 (omega arith) in
    let short : m c.size ≤ℤ pos (2 ^ 20) = k 0 (omega arith) in
    let own = ports_short m c.ports first.ports in
    let rest = total_short m d cs (λ i l. h (suc i) (omega (arith, l))) (λ i l. k (suc i) (omega (arith, l))) in
    omega (arith, ints, short, own.below, rest)
