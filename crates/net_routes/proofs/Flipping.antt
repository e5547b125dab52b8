-- Overlaps of pieces, whichever way these are run through, and whichever is named first.
use Rattle.std.proofs.Common.{arith, sym, ◌∙◌, ◌≡◌, subst, inl, inr, ℕ, List, ⊎_elim}
use Rattle.std.proofs.lemmas.Int.{ints, clamps}
use Rattle.net_routes.specs.Pieces.{Corner, Overlap, HorizontalOverlap, UprightOverlap, IsPieceOf, RoutesOverlap}

pub horizontal_flipped : (count : ℕ) (a b c d : Corner) → HorizontalOverlap count a b c d → HorizontalOverlap count b a c d
horizontal_flipped count a b c d o =
    let over = o.over in
    record { first = sym o.first; second = o.second; same = sym o.first ∙ o.same; over = omega (arith, ints, clamps) }

pub upright_flipped : (a b c d : Corner) → UprightOverlap a b c d → UprightOverlap b a c d
upright_flipped a b c d o =
    let over = o.over in
    record { in_slot = o.in_slot; a_there = o.b_there; b_there = o.a_there; c_there = o.c_there; d_there = o.d_there; over = omega (arith, ints, clamps) }

pub horizontal_exchanged : (count : ℕ) (a b c d : Corner) → HorizontalOverlap count a b c d → HorizontalOverlap count c d a b
horizontal_exchanged count a b c d o =
    let over = o.over in
    record { first = o.second; second = o.first; same = sym o.same; over = omega (arith, ints, clamps) }

pub upright_exchanged : (a b c d : Corner) → UprightOverlap a b c d → UprightOverlap c d a b
upright_exchanged a b c d o =
    let over = o.over in
    record { in_slot = o.in_slot; a_there = o.c_there; b_there = o.d_there; c_there = o.a_there; d_there = o.b_there; over = omega (arith, ints, clamps) }

pub flipped : (count : ℕ) (a b c d : Corner) → Overlap count a b c d → Overlap count b a c d
flipped count a b c d o = ⊎_elim (λ l. inl (horizontal_flipped count a b c d l)) (λ u. inr (upright_flipped a b c d u)) o

pub exchanged : (count : ℕ) (a b c d : Corner) → Overlap count a b c d → Overlap count c d a b
exchanged count a b c d o = ⊎_elim (λ l. inl (horizontal_exchanged count a b c d l)) (λ u. inr (upright_exchanged a b c d u)) o

pub flipped_second : (count : ℕ) (a b c d : Corner) → Overlap count a b c d → Overlap count a b d c
flipped_second count a b c d o = exchanged count d c a b (flipped count c d a b (exchanged count a b c d o))

ends_are : (count : ℕ) (a b c d a' b' c' d' : Corner) → a' ≡ a → b' ≡ b → c' ≡ c → d' ≡ d → Overlap count a b c d → Overlap count a' b' c' d'
ends_are count a b c d a' b' c' d' p q r s o =
    subst (λ z. Overlap count z b' c' d') (sym p)
    (subst (λ z. Overlap count a z c' d') (sym q)
    (subst (λ z. Overlap count a b z d') (sym r)
    (subst (λ z. Overlap count a b c z) (sym s) o)))

-- pieces that overlap are pieces of nets that overlap
pub pieces_overlap : (count : ℕ) (cs ds : List Corner) (a b c d : Corner) → IsPieceOf cs a b → IsPieceOf ds c d → Overlap count a b c d → RoutesOverlap count cs ds
pieces_overlap count cs ds a b c d p q o =
    record {
      i = p.i;
      j = q.i;
      i_in = p.i_in;
      j_in = q.i_in;
      over =
          ⊎_elim
          (λ x. ⊎_elim
          (λ y. ends_are count a b c d _ _ _ _ x.0 x.1 y.0 y.1 o)
          (λ y. ends_are count a b d c _ _ _ _ x.0 x.1 y.0 y.1 (flipped_second count a b c d o))
          q.ends)
          (λ x. ⊎_elim
          (λ y. ends_are count b a c d _ _ _ _ x.0 x.1 y.0 y.1 (flipped count a b c d o))
          (λ y. ends_are count b a d c _ _ _ _ x.0 x.1 y.0 y.1 (flipped_second count b a c d (flipped count a b c d o)))
          q.ends)
          p.ends;
    }
