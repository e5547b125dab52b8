-- Marks with other depths that keep all conflicts.
use Rattle.std.proofs.Common.{◌≡◌, ◌∙◌, ⊎_elim, ℕ, ◌<◌, Bool, true, List, ℤ, length, sym, subst}
use Rattle.net_routes.specs.declared.Pin.{Pin}
use Rattle.net_routes.specs.declared.Net.{Net}
use Rattle.net_routes.specs.declared.NetRoute.{NetRoute}
use Rattle.route_slots.specs.declared.marks.Mark.{Mark}
use Rattle.net_routes.specs.Pieces.{net_at}
use Rattle.net_routes.specs.Conflicts.{LiesOnCycle}
use Rattle.route_slots.specs.Depths.{is_split}
use Rattle.route_slots.specs.Exchanges.{AreLaid}
use Rattle.route_slots.specs.Marks.{mark_at, DepthAt, AreNetMarks, AreMarked}
use Rattle.route_slots.specs.Choosing.{AreMovedMarks, KeepsOrder, KeepOrder, AreInOrder, AreGood}

by_pins : (p q p' q' : Pin) (x y x' y' : ℕ) → p ≡ p' → x ≡ x' → q ≡ q' → y ≡ y' → KeepsOrder p x q y → KeepsOrder p' x' q' y'
by_pins p q p' q' x y x' y' e f g h k =
    subst (λ z. KeepsOrder z x' q' y') e (subst (λ z. KeepsOrder p z q' y') f (subst (λ z. KeepsOrder p x z y') g (subst (λ z. KeepsOrder p x q z) h k)))

in_order : (n : Net) (m : Mark) (o : Net) (k : Mark) (p q : Pin) (x y : ℕ) → KeepOrder n m o k → DepthAt n m p x → DepthAt o k q y → KeepsOrder p x q y
in_order n m o k p q x y keep u v =
    ⊎_elim
    (λ (a : (n.a ≡ p) × (m.at_a ≡ x)). ⊎_elim
    (λ (b : (o.a ≡ q) × (k.at_a ≡ y)). by_pins n.a o.a p q m.at_a k.at_a x y a.0 a.1 b.0 b.1 keep.aa)
    (λ (b : (o.b ≡ q) × (k.at_b ≡ y)). by_pins n.a o.b p q m.at_a k.at_b x y a.0 a.1 b.0 b.1 keep.ab)
    v)
    (λ (a : (n.b ≡ p) × (m.at_b ≡ x)). ⊎_elim
    (λ (b : (o.a ≡ q) × (k.at_a ≡ y)). by_pins n.b o.a p q m.at_b k.at_a x y a.0 a.1 b.0 b.1 keep.ba)
    (λ (b : (o.b ≡ q) × (k.at_b ≡ y)). by_pins n.b o.b p q m.at_b k.at_b x y a.0 a.1 b.0 b.1 keep.bb)
    v)
    u

module _ (nets : List Net) (old new : List Mark) (marks : AreNetMarks nets old) (same : AreMovedMarks old new) where
  inside : (k : ℕ) → k < length nets → k < length old
  inside k l = subst (λ z. k < z) (sym marks.len) l

  pub other_marks : ((j k : ℕ) → j < length nets → k < length nets → AreInOrder (net_at nets j) (mark_at new j) (net_at nets k) (mark_at new k)) → AreNetMarks nets new
  other_marks keep =
      record {
        len = same.len ∙ marks.len;
        straight = λ k l.
            let e = (same.each k (inside k l)).straight in (
              λ f. (marks.straight k l).0 (sym e ∙ f),
              λ v. e ∙ (marks.straight k l).1 v,
            );
        whole = λ k l f. (same.each k (inside k l)).whole f;
        split = λ k l f.
            let s = same.each k (inside k l) in s.straight ∙ marks.split k l (sym s.split ∙ f);
        order = λ j k p q x y jl kl sj sk u v. in_order (net_at nets j) (mark_at new j) (net_at nets k) (mark_at new k) p q x y (keep j k jl kl sj sk) u v;
      }

  pub good_marks : (count : ℕ) (routes : List NetRoute) → AreGood nets new count routes → AreGood nets old count routes
  good_marks count routes good =
      record {
        free = good.free;
        splits = λ k s h t l e. sym (same.each k (inside k l)).split ∙ good.splits k s h t l e;
        apart = good.apart;
        few = good.few;
      }

-- slots by marks are laid, where nets with marks of two segments lie on cycles
pub laid : (nets : List Net) (bs : List Bool) (d : ℤ → ℕ) (ms : List Mark) (count : ℕ) (routes : List NetRoute) → AreMarked nets bs d ms (length nets)
    → ((k : ℕ) → k < length nets → is_split bs k ≡ true → LiesOnCycle nets k) → AreGood nets ms count routes → AreLaid nets count routes
laid nets bs d ms count routes marked cycles good =
    record {
      free = good.free;
      apart = good.apart;
      splits = λ k s h t l e. cycles k l (sym (marked.each k l).split ∙ good.splits k s h t l e);
    }
