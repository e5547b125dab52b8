-- The children of a level are few, and so are their ports.
use Rattle.std.proofs.Common.{◌≡◌, ℕ, zero, suc, ◌+◌, ◌≤◌, Bool, true, false, nat_lt, ◌==◌, List, [], ◌∷◌, ◌++◌, map, length, arith, refl, ap, inl, inr, ◌∙◌, eq-eqb, ne_eqb, lt-ltb, le-ltb}
use Rattle.std.proofs.lemmas.Bool.{cases_Bool, cases_order}
use Rattle.std.proofs.lemmas.List.{length-map, map-append}
use Rattle.elk_doc.specs.declared.document.Direction.{Direction}
use Rattle.elk_doc.specs.declared.drawing.Placed.{Placed}
use Rattle.elk_doc.specs.Document.{Document, node_of_port}
use Rattle.elk_doc.specs.Numbers.{numbers_below, count_below}
use Rattle.elk_doc.proofs.NumberLaws.{numbers_below-more, numbers_below-same, length-numbers_below}
use Rattle.port_order.specs.declared.children.Child.{Child}
use Rattle.level_model.specs.Conditions.{total_ports}
use Rattle.working_frame.specs.Rotated.{box_size, level_child, level_port, ports_of, is_port_of}
use Rattle.level_io.proofs.GroupLemmas.{count_few}

-- the numbers whose key is below N + 1 are those whose key is below N, and those whose key is N
count_split : (key : ℕ → ℕ) (N m : ℕ) → count_below (λ k. nat_lt (key k) (suc N)) m ≡ count_below (λ k. nat_lt (key k) N) m + count_below (λ k. key k == N) m
unfolding count_below
count_split key N zero = refl
count_split key N (suc m) =
    let before = count_split key N m in
    elim (cases_order (key m) N) [
      | inl same ↦
          let a : nat_lt (key m) (suc N) ≡ true = lt-ltb (key m) (suc N) (omega (arith, same)) in
          let b : nat_lt (key m) N ≡ false = le-ltb (key m) N (omega (arith, same)) in
          let e : (key m == N) ≡ true = eq-eqb (key m) N same in
          rw (a, b, e) (omega (arith, before))
      | inr (inl less) ↦
          let a : nat_lt (key m) (suc N) ≡ true = lt-ltb (key m) (suc N) (omega (arith, less)) in
          let b : nat_lt (key m) N ≡ true = lt-ltb (key m) N less in
          let e : (key m == N) ≡ false = ne_eqb (key m) N (λ s. absurd (omega (arith, less, s))) in
          rw (a, b, e) (omega (arith, before))
      | inr (inr more) ↦
          let a : nat_lt (key m) (suc N) ≡ false = le-ltb (key m) (suc N) (omega (arith, more)) in
          let b : nat_lt (key m) N ≡ false = le-ltb (key m) N (omega (arith, more)) in
          let e : (key m == N) ≡ false = ne_eqb (key m) N (λ s. absurd (omega (arith, more, s))) in
          rw (a, b, e) (omega (arith, before))
    ]

ports_append : (xs ys : List Child) → total_ports (xs ++ ys) ≡ total_ports xs + total_ports ys
ports_append [] ys = omega arith
ports_append (x ∷ xs) ys = let h = ports_append xs ys in omega (arith, h)

port_count : (d : Document) (p : Placed) (way : Direction) (c : ℕ) → length (level_child d p way c).ports ≡ count_below (is_port_of d c) (length d.ports)
port_count d p way c = length-map (ports_of d c) (level_port d way (box_size p c)) ∙ length-numbers_below (is_port_of d c) (length d.ports)

none_below : (test : ℕ → Bool) → numbers_below test zero ≡ []
unfolding numbers_below
none_below test = refl

-- the ports of children below N are among those of nodes below N
ports_below : (d : Document) (p : Placed) (way : Direction) (test : ℕ → Bool) (N : ℕ)
    → total_ports (map (level_child d p way) (numbers_below test N)) ≤ count_below (λ k. nat_lt (node_of_port d k) N) (length d.ports)
ports_below d p way test zero = rw (none_below test) (omega arith)
ports_below d p way test (suc N) =
    let f : ℕ → Child = level_child d p way in
    let before = ports_below d p way test N in
    let split = count_split (node_of_port d) N (length d.ports) in
    let own = port_count d p way N in
    elim (cases_Bool (test N)) [
      | inl e ↦
          let xs = numbers_below test N in
          let more : total_ports (map f (numbers_below test (suc N))) ≡ total_ports (map f xs) + total_ports (f N ∷ []) =
          ap (λ ns. total_ports (map f ns)) (numbers_below-more test N e) ∙ ap total_ports (map-append f xs (N ∷ [])) ∙ ports_append (map f xs) (f N ∷ []) in
          omega (arith, before, split, own, more)
      | inr e ↦
          let same : total_ports (map f (numbers_below test (suc N))) ≡ total_ports (map f (numbers_below test N)) = ap (λ ns. total_ports (map f ns)) (numbers_below-same test N e) in
          omega (arith, before, split, same)
    ]

pub few_ports : (d : Document) (p : Placed) (way : Direction) (test : ℕ → Bool) (N : ℕ) → total_ports (map (level_child d p way) (numbers_below test N)) ≤ length d.ports
few_ports d p way test N =
    let h = ports_below d p way test N in
    let k = count_few (λ k. nat_lt (node_of_port d k) N) (length d.ports) in
    omega (arith, h, k)

pub few_numbers : (test : ℕ → Bool) (N : ℕ) → length (numbers_below test N) ≤ N
few_numbers test N = let a = length-numbers_below test N in let b = count_few test N in omega (arith, a, b)
