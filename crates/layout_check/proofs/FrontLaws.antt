-- The front moves on by a child, and lists whose pairs keep their distances.
use Rattle.std.proofs.Common.{◌≡◌, ◌≢◌, ◌∙◌, sym, subst, inl, inr, ⊎_elim, ℕ, ◌+◌, ◌<◌, ◌≤◌, ◌≤ℤ◌, List, [], ◌∷◌, ◌++◌, IsTrue, Contains, if◌then◌else◌, true, false, Bool, ap, arith, refl}
use Rattle.std.specs.List.Sorted.{IsPermutation}
use Rattle.std.proofs.lemmas.Bool.{cases_lt}
use Rattle.std.proofs.lemmas.Int.{ints}
use Rattle.std.proofs.lemmas.List.{get_or_default}
use Rattle.std.proofs.lemmas.List.Elements.{Contains-append_left, Contains-push}
use Rattle.std.proofs.lemmas.List.Sorted.{Contains-permutation}
use Rattle.elk_doc.specs.declared.document.LevelOptions.{LevelOptions}
use Rattle.elk_doc.specs.declared.drawing.Certificate.{Certificate}
use Rattle.elk_doc.specs.declared.drawing.Placed.{Placed}
use Rattle.elk_doc.specs.Document.{Document}
use Rattle.elk_doc.specs.Drawing.{part_in}
use Rattle.elk_doc.specs.Level.{IsChild}
use Rattle.layout_check.specs.declared.framed.FramedChild.{FramedChild}
use Rattle.layout_check.specs.declared.framed.Front.{Front}
use Rattle.layout_check.specs.FirstApart.{LayersHold}
use Rattle.layout_check.specs.Framed.{Advances, ArePairsApart, AreSpaced, child_at, framed_child, no_child, part_of}

-- by a child of a greater layer
pub in_new_layer : (f n : Front) (c : FramedChild) → f.part ≡ c.part → f.layer < c.layer → f.right ≤ℤ c.left → n.part ≡ c.part → n.layer ≡ c.layer → n.behind ≡ f.right → n.bottom ≡ c.bottom → f.right ≤ℤ n.right → c.right ≤ℤ n.right → Advances f c n
in_new_layer f n c part layer near np nl behind bottom right held =
    record {
      kept = λ t h.
          let of : t.part ≡ n.part → t.part ≡ f.part = λ e. e ∙ np ∙ sym part in
          record {
            part = let x = h.part in omega (arith, x, part, np);
            layer = λ e. let x = h.layer (of e) in omega (arith, x, layer, nl);
            behind = λ e l. let x = h.right (of e) in omega (arith, ints, x, behind);
            right = λ e. let x = h.right (of e) in omega (arith, ints, x, right);
            bottom = λ e l. let x = h.layer (of e) in absurd (omega (arith, x, layer, nl, l));
          };
      held =
          record {
            part = omega (arith, np);
            layer = λ e. omega (arith, nl);
            behind = λ e l. absurd (omega (arith, nl, l));
            right = λ e. held;
            bottom = λ e l. omega (arith, ints, bottom);
          };
      spaced = λ t h.
          record {
            same_layer = λ e l. let x = h.layer (e ∙ sym part) in absurd (omega (arith, x, layer, l));
            before = λ e l. let x = h.right (e ∙ sym part) in omega (arith, ints, x, near);
            after = λ e l. let x = h.layer (e ∙ sym part) in absurd (omega (arith, x, layer, l));
          };
    }

-- by a child of its layer
pub in_layer : (f n : Front) (c : FramedChild) → f.part ≡ c.part → f.layer ≡ c.layer → f.behind ≤ℤ c.left → f.bottom ≤ℤ c.top → n.part ≡ c.part → n.layer ≡ c.layer → n.behind ≡ f.behind → f.right ≤ℤ n.right → c.right ≤ℤ n.right → f.bottom ≤ℤ n.bottom → c.bottom ≤ℤ n.bottom → Advances f c n
in_layer f n c part layer near under np nl behind right held_right bottom held_bottom =
    record {
      kept = λ t h.
          let of : t.part ≡ n.part → t.part ≡ f.part = λ e. e ∙ np ∙ sym part in
          record {
            part = let x = h.part in omega (arith, x, part, np);
            layer = λ e. let x = h.layer (of e) in omega (arith, x, layer, nl);
            behind = λ e l. let x = h.behind (of e) (omega (arith, layer, nl, l)) in omega (arith, ints, x, behind);
            right = λ e. let x = h.right (of e) in omega (arith, ints, x, right);
            bottom = λ e l. let x = h.bottom (of e) (l ∙ nl ∙ sym layer) in omega (arith, ints, x, bottom);
          };
      held =
          record {
            part = omega (arith, np);
            layer = λ e. omega (arith, nl);
            behind = λ e l. absurd (omega (arith, nl, l));
            right = λ e. held_right;
            bottom = λ e l. held_bottom;
          };
      spaced = λ t h.
          record {
            same_layer = λ e l. let x = h.bottom (e ∙ sym part) (l ∙ sym layer) in inl (omega (arith, ints, x, under));
            before = λ e l. let x = h.behind (e ∙ sym part) (omega (arith, l, layer)) in omega (arith, ints, x, near);
            after = λ e l. let x = h.layer (e ∙ sym part) in absurd (omega (arith, x, layer, l));
          };
    }

turned_round : (s t : FramedChild) → AreSpaced s t → AreSpaced t s
turned_round s t h =
    record {
      same_layer = λ e l. ⊎_elim inr inl (h.same_layer (sym e) (sym l));
      before = λ e l. h.after (sym e) l;
      after = λ e l. h.before (sym e) l;
    }

-- two children of a list whose pairs keep their distances
spaced_in : (xs : List FramedChild) (s t : FramedChild) → ArePairsApart xs → Contains xs s → Contains xs t → s.node ≢ t.node → AreSpaced s t
spaced_in xs s t pairs (i, li, at_i) (j, lj, at_j) other =
    let one : child_at xs i ≡ s = get_or_default xs i no_child s li ∙ at_i in
    let two : child_at xs j ≡ t = get_or_default xs j no_child t lj ∙ at_j in
    let here : AreSpaced (child_at xs i) (child_at xs j) → AreSpaced s t = λ h. subst (λ y. AreSpaced s y) two (subst (λ x. AreSpaced x (child_at xs j)) one h) in
    elim (cases_lt i j) [
      | inl before ↦ here (pairs i j before lj)
      | inr after ↦
          elim (cases_lt j i) [
            | inl less ↦ here (turned_round (child_at xs j) (child_at xs i) (pairs j i less li))
            | inr same ↦
                let e : i ≡ j = omega (arith, after, same) in
                absurd (other (ap (λ (x : FramedChild). x.node) (sym one ∙ ap (child_at xs) e ∙ two)))
          ]
    ]

-- one child more, which is in the list if it is a child
pub one_more : (d : Document) (p : Placed) (n : ℕ) (o : LevelOptions) (c : Certificate) (xs : List FramedChild) (m : ℕ) → ((a : ℕ) → a < m → IsChild d n a → Contains xs (framed_child d p n o c a)) → (a : ℕ) → a < m + 1 → IsChild d n a → Contains (xs ++ framed_child d p n o c m ∷ []) (framed_child d p n o c a)
one_more d p n o c xs m known a less child =
    let last = framed_child d p n o c m in
    elim (cases_lt a m) [
      | inl before ↦ Contains-append_left xs (last ∷ []) (framed_child d p n o c a) (known a before child)
      | inr after ↦
          let same : a ≡ m = omega (arith, after, less) in
          subst (λ k. Contains (xs ++ last ∷ []) (framed_child d p n o c k)) (sym same) (Contains-push xs last)
    ]

pub none_more : (d : Document) (p : Placed) (n : ℕ) (o : LevelOptions) (c : Certificate) (xs : List FramedChild) (m : ℕ) → (IsChild d n m → ⊥) → ((a : ℕ) → a < m → IsChild d n a → Contains xs (framed_child d p n o c a)) → (a : ℕ) → a < m + 1 → IsChild d n a → Contains xs (framed_child d p n o c a)
none_more d p n o c xs m none known a less child =
    elim (cases_lt a m) [
      | inl before ↦ known a before child
      | inr after ↦
          let same : a ≡ m = omega (arith, after, less) in
          absurd (none (subst (IsChild d n) same child))
    ]

-- the parts of two children, as the level is split
one_part : (o : LevelOptions) (b : Bool) (i j : ℕ) → (IsTrue b → i ≡ j) → (if b then i else 0) ≡ (if b then j else 0)
one_part o true i j h = h refl
one_part o false i j h = refl

-- children that keep their distances in a list of all, in whatever order
pub spaced_by_list : (d : Document) (p : Placed) (n : ℕ) (o : LevelOptions) (c : Certificate) (xs ys : List FramedChild) → ((a : ℕ) → IsChild d n a → Contains xs (framed_child d p n o c a)) → IsPermutation xs ys → ArePairsApart ys → (a b : ℕ) → LayersHold d p n o c a b
spaced_by_list d p n o c xs ys all order pairs a b layered child other less part =
    let fa = framed_child d p n o c a in
    let fb = framed_child d p n o c b in
    let in_a = Contains-permutation xs ys fa order (all a child) in
    let in_b = Contains-permutation xs ys fb order (all b other) in
    let h : AreSpaced fa fb = spaced_in ys fa fb pairs in_a in_b (λ e. omega (arith, e, less)) in
    let same : part_of d n o c a ≡ part_of d n o c b = one_part o o.split (part_in d n c a) (part_in d n c b) part in (
      record { same_layer = λ l. h.same_layer same l; earlier_layer = λ l. h.before same l },
      record { same_layer = λ l. ⊎_elim inr inl (h.same_layer same (sym l)); earlier_layer = λ l. h.after same l },
    )
