-- Documents that are the same but for the places of ports, where the sides that they give ports are the same too: a drawing
-- has as little room for the one as for the other.
use Rattle.std.proofs.Common.{◌≡◌, ℕ, ◌<◌, List, map, ◌⊎◌, ⊎_elim, inl, inr, sym, ap, ◌∙◌, subst}
use Rattle.std.specs.Prelude.{ℤ, ◌+ℤ◌, IsTrue}
use Rattle.drawing_types.specs.declared.shape.Point.{Point}
use Rattle.drawing_types.specs.declared.shape.Rect.{Rect}
use Rattle.drawing_types.specs.declared.shape.Size.{Size}
use Rattle.drawing_types.specs.declared.shape.Side.{Side}
use Rattle.drawing_types.specs.declared.shape.Side.TheVariants.{North, East, South, West}
use Rattle.elk_doc.specs.declared.document.Node.{Node}
use Rattle.elk_doc.specs.declared.document.Port.{Port}
use Rattle.elk_doc.specs.declared.document.Edge.{Edge}
use Rattle.elk_doc.specs.declared.document.LevelOptions.{LevelOptions}
use Rattle.elk_doc.specs.declared.drawing.Certificate.{Certificate}
use Rattle.elk_doc.specs.declared.drawing.Placed.{Placed}
use Rattle.elk_doc.specs.Document.{Document, document, port_at}
use Rattle.elk_doc.specs.Drawing.{port_place}
use Rattle.drawing_types.specs.Shapes.{right_of, bottom_of}
use Rattle.elk_doc.specs.Sides.{given_side}
use Rattle.elk_doc.specs.Content.{SomeShape}
use Rattle.elk_doc.specs.Fitted.{IsLeastOf, IsGreatestOf, HasNoChild, IsPinnedOn, NeedsWidth, NeedsHeight, LevelFitted}
use Rattle.elk_write.specs.ReadBack.{without_place}
use Rattle.elk_write.proofs.OtherPlaces.{same_count, owner_same, size_same, sides, outlines}
use Rattle.elk_write.proofs.OtherLevels.{child_over, edge_over, part_over}
use Rattle.elk_write.proofs.OtherPorts.{pinned_same}

least_by : (P Q : ℤ → Type 0) (z : ℤ) → ((y : ℤ) → P y → Q y) → ((y : ℤ) → Q y → P y) → IsLeastOf P z → IsLeastOf Q z
least_by P Q z over back h = record { itself = over z h.itself; bound = λ y q. h.bound y (back y q) }

greatest_by : (P Q : ℤ → Type 0) (z : ℤ) → ((y : ℤ) → P y → Q y) → ((y : ℤ) → Q y → P y) → IsGreatestOf P z → IsGreatestOf Q z
greatest_by P Q z over back h = record { itself = over z h.itself; bound = λ y q. h.bound y (back y q) }

module _ (ns : List Node) (es : List Edge) (ps qs : List Port) (same : map without_place qs ≡ map without_place ps) (p : Placed)
    (given : (k : ℕ) → given_side (document ns qs es) k ≡ given_side (document ns ps es) k) where
  abbrev doc : Document
  doc = document ns ps es

  abbrev other : Document
  other = document ns qs es

  shape_over : (n : ℕ) (Q : Rect → Type 0) → SomeShape doc p n Q → SomeShape other p n Q
  shape_over n Q h =
      ⊎_elim
      (λ x. inl (x.0, child_over ns es ps qs same n x.0 x.1, subst Q (sym (outlines ns es ps qs same p given x.0)) x.2))
      (λ x. inr (x.0, x.1, edge_over ns es ps qs same n x.0 x.2, x.3, x.4))
      h

  childless_over : (n : ℕ) → HasNoChild doc n → HasNoChild other n
  childless_over n h c x = h c (child_over ns es qs ps (sym same) n c x)

  pinned_over : (n : ℕ) (s t : Side) (k : ℕ) → IsPinnedOn doc p n s t k → IsPinnedOn other p n s t k
  pinned_over n s t k h =
      let side = ap (λ f. f k) (sides ns es ps qs same p given) in
      record {
        port_in = subst (λ m. k < m) (sym (same_count ns es ps qs same)) h.port_in;
        of_node = owner_same ns es ps qs same k ∙ h.of_node;
        pinned = subst IsTrue (sym (pinned_same ns es ps qs same p given k)) h.pinned;
        side = ⊎_elim (λ x. inl (side ∙ x)) (λ y. inr (side ∙ y)) h.side;
      }

  -- what content, the padding alone or a pinned port needs
  abbrev Needs : Document → ℕ → (Rect → Type 0) → Type 0 → Side → Side → (Point → Size → Type 0) → Type 0
  Needs d n Q Bare s t At =
      SomeShape d p n Q ⊎ ((HasNoChild d n × Bare) ⊎ ((k : ℕ) × IsPinnedOn d p n s t k × At (port_place p k) (port_at d k).size))

  needs_over : (n : ℕ) (Q : Rect → Type 0) (Bare : Type 0) (s t : Side) (At : Point → Size → Type 0) → Needs doc n Q Bare s t At → Needs other n Q Bare s t At
  needs_over n Q Bare s t At h =
      ⊎_elim
      (λ x. inl (shape_over n Q x))
      (λ x. inr (⊎_elim
      (λ y. inl (childless_over n y.0, y.1))
      (λ y. inr (y.0, pinned_over n s t y.0 y.1, subst (At (port_place p y.0)) (sym (size_same ns es ps qs same y.0)) y.2)) x))
      h

  width_over : (n : ℕ) (o : LevelOptions) (w : ℤ) → NeedsWidth doc p n o w → NeedsWidth other p n o w
  width_over n o w h =
      needs_over n (λ r. w ≡ right_of r +ℤ o.padding.right) (w ≡ o.padding.left +ℤ o.padding.right) North South (λ at size. w ≡ at.x +ℤ size.width) h

  height_over : (n : ℕ) (o : LevelOptions) (w : ℤ) → NeedsHeight doc p n o w → NeedsHeight other p n o w
  height_over n o w h =
      needs_over n (λ r. w ≡ bottom_of r +ℤ o.padding.bottom) (w ≡ o.padding.top +ℤ o.padding.bottom) East West (λ at size. w ≡ at.y +ℤ size.height) h

  starts_over : (n : ℕ) (edge : Rect → ℤ) (y : ℤ) → SomeShape doc p n (λ r. y ≡ edge r) → SomeShape other p n (λ r. y ≡ edge r)
  starts_over n edge y h = shape_over n (λ r. y ≡ edge r) h

module _ (ns : List Node) (es : List Edge) (ps qs : List Port) (same : map without_place qs ≡ map without_place ps) (p : Placed)
    (given : (k : ℕ) → given_side (document ns qs es) k ≡ given_side (document ns ps es) k) where
  back : (k : ℕ) → given_side (document ns ps es) k ≡ given_side (document ns qs es) k
  back k = sym (given k)

  pub fitted_over : (n : ℕ) (o : LevelOptions) (c : Certificate) → LevelFitted (document ns ps es) p n o c → LevelFitted (document ns qs es) p n o c
  fitted_over n o c h = record {
    left = λ some. least_by _ _ _ (starts_over ns es ps qs same p given n (λ r. r.x)) (starts_over ns es qs ps (sym same) p back n (λ r. r.x)) (h.left (λ none. some (childless_over ns es ps qs same p given n none)));
    top = λ some. least_by _ _ _ (starts_over ns es ps qs same p given n (λ r. r.y)) (starts_over ns es qs ps (sym same) p back n (λ r. r.y)) (h.top (λ none. some (childless_over ns es ps qs same p given n none)));
    width = greatest_by _ _ _ (width_over ns es ps qs same p given n o) (width_over ns es qs ps (sym same) p back n o) h.width;
    height = greatest_by _ _ _ (height_over ns es ps qs same p given n o) (height_over ns es qs ps (sym same) p back n o) h.height;
    layers = λ a x. let b = h.layers a (child_over ns es qs ps (sym same) n a x) in (b.0, child_over ns es ps qs same n b.0 b.1, part_over ns es ps qs same n a b.0 b.2, b.3);
  }
