-- Two links cross in the slots of a gap as often as in the rows.
use Rattle.std.proofs.Common.{◌≡◌, ℕ, Bool, true, false, ◌&&◌, ◌||◌, length, ℤ, ◌-ℤ◌, ◌≤ℤ◌, refl, sym, ap, ap₂, ◌∙◌, inl, inr, arith}
use Rattle.std.proofs.lemmas.Bool.{cases_Bool, eq-eqb}
use Rattle.std.proofs.lemmas.Int.{ints}
use Rattle.std.proofs.lemmas.List.{get_or-map, length-map}
use Rattle.std.specs.Prelude.{int_lt, nat_lt, ◌==◌}
use Rattle.elk_layers.specs.Layered.{head_key, layer_of, link_at, tail_key}
use Rattle.elk_layers.specs.Crossings.{cross}
use Rattle.route_lines.specs.Points.{gap_in}
use Rattle.net_routes.specs.declared.Net.{Net}
use Rattle.net_routes.specs.Crossings.{one}
use Rattle.net_routes.specs.Pieces.{net_at}
use Rattle.net_routes.specs.Uncrossed.{alternate, asked, first_pin, is_before, last_pin, take_turns}
use Rattle.net_routes.proofs.Turns.{lt_false, lt_less, lt_true}
use Rattle.level_model.specs.Level.{PlainLevel, PlainPlan, Orders}
use Rattle.level_model.specs.Nets.{head_line, height_of, names_in, net_of, of_link, tail_line}
use Rattle.plan_laws.specs.Crossed.{IsNetOfLink, LinksCrossAsInRows, StandAsInRows}

-- heights compare alike wherever they are moved to
lt_moves : (x y t : ℤ) → int_lt (x -ℤ t) (y -ℤ t) ≡ int_lt x y
lt_moves x y t = elim (cases_Bool (int_lt x y)) [
  | inl e ↦ let less = lt_less x y e in lt_true (x -ℤ t) (y -ℤ t) (omega (arith, ints, less)) ∙ sym e
  | inr e ↦ lt_false (x -ℤ t) (y -ℤ t) (most x y t e) ∙ sym e
]
  where
    most : (x y t : ℤ) → int_lt x y ≡ false → (y -ℤ t) ≤ℤ (x -ℤ t)
    most x y t e = omega (arith, ints, e)

-- a net from the left border to the right one
abbrev between : ℤ → ℤ → Net
between x y = record { a = record { on_left = true; height = x }; b = record { on_left = false; height = y } }

turns_between : (x y z w : ℤ) → take_turns (between x y) (between z w) ≡ ((int_lt x z && true) && int_lt w y)
unfolding take_turns first_pin last_pin is_before
turns_between x y z w = refl

alternate_between : (x y z w : ℤ) → alternate (between x y) (between z w) ≡ (((int_lt x z && true) && int_lt w y) || ((int_lt z x && true) && int_lt y w))
unfolding alternate
alternate_between x y z w = ap₂ (λ (s t : Bool). s || t) (turns_between x y z w) (turns_between z w x y)

and_true : (s : Bool) → (s && true) ≡ s
and_true true = refl
and_true false = refl

same_layer : (m n : ℕ) → m ≡ n → (m == n) ≡ true
same_layer m n e = eq-eqb m n e

module _ (l : PlainLevel) (p : PlainPlan) (o : Orders) (top : ℤ) (a b : ℕ) (ab : StandAsInRows l p o a b) (ba : StandAsInRows l p o b a) where
  abbrev tail_key_of : ℕ → ℕ
  tail_key_of k = tail_key p.layered p.rows (link_at p.layered.links k)

  links_alternate : layer_of p.layered (link_at p.layered.links a).tail ≡ layer_of p.layered (link_at p.layered.links b).tail
      → alternate (net_of l p o top (of_link a)) (net_of l p o top (of_link b)) ≡ cross p.layered p.rows (link_at p.layered.links a) (link_at p.layered.links b)
  links_alternate same =
      let x = height_of l p o (tail_line l p o a) in
      let y = height_of l p o (head_line l p o a) in
      let z = height_of l p o (tail_line l p o b) in
      let w = height_of l p o (head_line l p o b) in
      alternate_between (x -ℤ top) (y -ℤ top) (z -ℤ top) (w -ℤ top)
      ∙ ap₂ (λ (s t : Bool). s || t)
      (ap₂ (λ (s t : Bool). s && t) (and_true (int_lt (x -ℤ top) (z -ℤ top)) ∙ lt_moves x z top ∙ ab.tails) (lt_moves w y top ∙ ba.heads))
      (ap₂ (λ (s t : Bool). s && t) (and_true (int_lt (z -ℤ top) (x -ℤ top)) ∙ lt_moves z x top ∙ ba.tails) (lt_moves y w top ∙ ab.heads))
      ∙ ap (λ (s : Bool). s && ((nat_lt (tail_key_of a) (tail_key_of b)
      && nat_lt (head_key p.layered p.rows (link_at p.layered.links b)) (head_key p.layered p.rows (link_at p.layered.links a)))
      || (nat_lt (tail_key_of b) (tail_key_of a)
      && nat_lt (head_key p.layered p.rows (link_at p.layered.links a)) (head_key p.layered p.rows (link_at p.layered.links b)))))
      (sym (same_layer _ _ same))

pub links_cross_as_in_rows : LinksCrossAsInRows
unfolding asked
links_cross_as_in_rows l p o d g i j a b sound gap crosses differ na nb ab ba =
    let nets = (gap_in d.gaps g).nets in
    let many : length nets ≡ length (names_in l p o g) = ap length gap.nets ∙ length-map (names_in l p o g) (net_of l p o d.top) in
    let i_in = na.net_in in
    let j_in = nb.net_in in
    let one_next = (sound.links_are a na.link_in).next_layer in
    let other_next = (sound.links_are b nb.link_in).next_layer in
    let one_gap = na.gap_is in
    let other_gap = nb.gap_is in
    crosses i j (omega (arith, many, i_in)) (omega (arith, many, j_in)) differ
    ∙ ap one (ap₂ alternate (net_is i a na) (net_is j b nb) ∙ links_alternate l p o d.top a b ab ba (omega (arith, one_next, other_next, one_gap, other_gap)))
  where
    net_is : (i k : ℕ) → IsNetOfLink l p o g i k → net_at (gap_in d.gaps g).nets i ≡ net_of l p o d.top (of_link k)
    net_is i k is =
        ap (λ ns. net_at ns i) gap.nets ∙ get_or-map (net_of l p o d.top) (names_in l p o g) i (of_link k) _ is.net_in ∙ ap (net_of l p o d.top) is.name_is
