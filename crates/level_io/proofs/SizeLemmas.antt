-- The greatest of the lengths that are asked for.
use Rattle.std.proofs.Common.{◌≡◌, ◌⊎◌, inl, inr, ⊎_elim, ℕ, ◌+◌, ◌<◌, ◌≤◌, Bool, true, false, List, length, ℤ, Option, Some, None, arith, refl, sym, ap, ◌∙◌, subst}
use Rattle.std.specs.Int.{int_max}
use Rattle.std.proofs.lemmas.Bool.{cases_lt}
use Rattle.std.proofs.lemmas.Int.{ints, clamps, by_lt_z}
use Rattle.drawing_types.specs.declared.shape.Size.{Size}
use Rattle.elk_doc.specs.declared.document.Direction.{Direction}
use Rattle.elk_doc.specs.declared.document.Direction.TheVariants.{Down, Left, Right, Up}
use Rattle.elk_doc.specs.declared.document.LevelOptions.{LevelOptions}
use Rattle.elk_doc.specs.Document.{Document}
use Rattle.elk_doc.specs.Fitted.{IsGreatestOf}
use Rattle.working_frame.specs.Numbered.{IsPortOf}
use Rattle.working_frame.specs.Rotated.{place_of_port, ports_of, rotated_size}
use Rattle.working_frame.proofs.NumberedLemmas.{numbers_match}
use Rattle.level_io.specs.Changed.{number_at}
use Rattle.level_io.specs.Ranges.{IsLongSize}
use Rattle.level_io.specs.Sizes.{Asks, AsksListed, IsSizeListed, IsSizeRound, end_of, padded_height, padded_width, raised}

-- a size that is long in the frame is long in the document
pub rotated_long : (way : Direction) (s : Size) → IsLongSize s → IsLongSize (rotated_size way s)
rotated_long Right s h = h
rotated_long Left s h = h
rotated_long Down s h = record { width = h.height; height = h.width }
rotated_long Up s h = record { width = h.height; height = h.width }

-- a port among the first of a list that ends here
abbrev Ends : Document → Bool → List ℕ → ℕ → ℤ → Type 0
Ends d across ports count z = (i : ℕ) × (i < count) × (end_of d across (number_at ports i) ≡ Some z)

abbrev EndsOf : Document → Bool → ℕ → ℤ → Type 0
EndsOf d across n z = (k : ℕ) × IsPortOf d n k × (end_of d across k ≡ Some z)

max_is : (g z : ℤ) → (int_max g z ≡ g) ⊎ (int_max g z ≡ z)
max_is g z = by_lt_z g z (λ less. inr (omega (arith, ints, clamps, less))) (λ more. inl (omega (arith, ints, clamps, more)))

same_some : (a b : ℤ) → Some a ≡ Some b → a ≡ b
same_some a b e = cc

some_none : (z : ℤ) → None ≡ Some z → ⊥
some_none z e = cc

module _ (d : Document) (across : Bool) (base : ℤ) (ports : List ℕ) where
  pub no_end : IsGreatestOf (AsksListed d across base ports 0) base
  no_end =
      record {
        itself = inl refl;
        bound = λ y asks.
            ⊎_elim
            (λ (e : y ≡ base). omega (arith, ints, e))
            (λ (s : Ends d across ports 0 y). let h = s.1 in absurd (omega (arith, h)))
            asks;
      }

  earlier : (i : ℕ) (z : ℤ) → AsksListed d across base ports i z → AsksListed d across base ports (i + 1) z
  earlier i z asks =
      ⊎_elim
      (λ (e : z ≡ base). inl e)
      (λ (s : Ends d across ports i z). let h = s.1 in inr (s.0, omega (arith, h), s.2))
      asks

  skipped : (i : ℕ) (g : ℤ) → IsGreatestOf (AsksListed d across base ports i) g → end_of d across (number_at ports i) ≡ None
      → IsGreatestOf (AsksListed d across base ports (i + 1)) g
  skipped i g so_far none =
      record {
        itself = earlier i g so_far.itself;
        bound = λ y asks.
            ⊎_elim
            (λ (e : y ≡ base). so_far.bound y (inl e))
            (λ (s : Ends d across ports (i + 1) y).
            let h = s.1 in
            ⊎_elim
            (λ before. so_far.bound y (inr (s.0, before, s.2)))
            (λ (late : i ≤ s.0). let e : s.0 ≡ i = omega (arith, h, late) in
            absurd (some_none y (sym none ∙ ap (λ k. end_of d across (number_at ports k)) (sym e) ∙ s.2)))
            (cases_lt s.0 i))
            asks;
      }

  taken : (i : ℕ) (g z : ℤ) → IsGreatestOf (AsksListed d across base ports i) g → end_of d across (number_at ports i) ≡ Some z
      → IsGreatestOf (AsksListed d across base ports (i + 1)) (int_max g z)
  taken i g z so_far here =
      record {
        itself =
            ⊎_elim
            (λ (e : int_max g z ≡ g). subst (AsksListed d across base ports (i + 1)) (sym e) (earlier i g so_far.itself))
            (λ (e : int_max g z ≡ z). inr (i, omega arith, here ∙ ap Some (sym e)))
            (max_is g z);
        bound = λ y asks.
            ⊎_elim
            (λ (e : y ≡ base). let f = so_far.bound y (inl e) in omega (arith, ints, clamps, f))
            (λ (s : Ends d across ports (i + 1) y).
            let h = s.1 in
            ⊎_elim
            (λ before. let f = so_far.bound y (inr (s.0, before, s.2)) in omega (arith, ints, clamps, f))
            (λ (late : i ≤ s.0). let e : s.0 ≡ i = omega (arith, h, late) in
            let same : z ≡ y = same_some z y (sym here ∙ ap (λ k. end_of d across (number_at ports k)) (sym e) ∙ s.2) in
            omega (arith, ints, clamps, same))
            (cases_lt s.0 i))
            asks;
      }

  pub one_more_end : (i : ℕ) (g : ℤ) (o : Option ℤ) → IsGreatestOf (AsksListed d across base ports i) g → end_of d across (number_at ports i) ≡ o
      → IsGreatestOf (AsksListed d across base ports (i + 1)) (raised g o)
  one_more_end i g None so_far e = skipped i g so_far e
  one_more_end i g (Some z) so_far e = taken i g z so_far e

-- the greatest among the ports that are listed is that among all ports of the node
all_ends : (d : Document) (across : Bool) (base : ℤ) (n : ℕ) (z : ℤ)
    → IsGreatestOf (AsksListed d across base (ports_of d n) (length (ports_of d n))) z → IsGreatestOf (Asks d across base n) z
all_ends d across base n z g =
    let m = (numbers_match d n).ports in
    record {
      itself =
          ⊎_elim
          (λ (e : z ≡ base). inl e)
          (λ (s : Ends d across (ports_of d n) (length (ports_of d n)) z). inr (number_at (ports_of d n) s.0, m.meant s.0 s.1, s.2))
          g.itself;
      bound = λ y asks.
          ⊎_elim
          (λ (e : y ≡ base). g.bound y (inl e))
          (λ (s : EndsOf d across n y).
          g.bound y (inr (place_of_port d s.0, m.place_in s.0 s.1, ap (end_of d across) (m.found s.0 s.1) ∙ s.2)))
          asks;
    }

pub size_round : (d : Document) (n : ℕ) (ports : List ℕ) (o : LevelOptions) (extent s : Size) → ports ≡ ports_of d n
    → IsSizeListed d ports o extent s → IsSizeRound d n o extent s
size_round d n ports o extent s e listed =
    let l : IsSizeListed d (ports_of d n) o extent s = subst (λ ps. IsSizeListed d ps o extent s) e listed in
    record { width = all_ends d true (padded_width o extent) n s.width l.width; height = all_ends d false (padded_height o extent) n s.height l.height }

-- a size by the greatest width and height, and by what they are the greatest of
pub listed_size : (d : Document) (ports : List ℕ) (o : LevelOptions) (extent : Size) (across down w h width height : ℤ)
    → across ≡ padded_width o extent → down ≡ padded_height o extent → width ≡ w → height ≡ h
    → IsGreatestOf (AsksListed d true across ports (length ports)) w → IsGreatestOf (AsksListed d false down ports (length ports)) h
    → IsSizeListed d ports o extent (record { width = width; height = height })
listed_size d ports o extent across down w h width height a b e f by_width by_height =
    record {
      width = subst (λ (z : ℤ). IsGreatestOf (AsksListed d true (padded_width o extent) ports (length ports)) z) (sym e)
          (subst (λ (z : ℤ). IsGreatestOf (AsksListed d true z ports (length ports)) w) a by_width);
      height = subst (λ (z : ℤ). IsGreatestOf (AsksListed d false (padded_height o extent) ports (length ports)) z) (sym f)
          (subst (λ (z : ℤ). IsGreatestOf (AsksListed d false z ports (length ports)) h) b by_height);
    }
