-- Parts whose written numbers are right.
use Rattle.std.proofs.Common.{◌≡◌, ◌≢◌, ◌↔◌, ℕ, ◌<◌, true, eq-eqb, List, length, arith, sym, ap, ◌∙◌, inl, inr, ⊎_elim, subst, IsTrue}
use Rattle.std.proofs.lemmas.Bool.{cases_order, and_parts, and_from, eqb-true}
use Rattle.elk_doc.specs.declared.document.LevelOptions.{LevelOptions}
use Rattle.elk_doc.specs.declared.drawing.Certificate.{Certificate}
use Rattle.elk_doc.specs.declared.drawing.Placed.{Placed}
use Rattle.elk_doc.specs.Document.{Document}
use Rattle.elk_doc.specs.Drawing.{part_in}
use Rattle.elk_doc.specs.Level.{IsChild}
use Rattle.elk_doc.specs.Sound.{IsSound}
use Rattle.elk_doc.specs.Apart.{Apart, NumbersParts, InOnePart, PartsApart}
use Rattle.layout_check.specs.Names.{AreNames, name_of}
use Rattle.layout_check.specs.FirstApart.{IsNumbering, IsLeastOfPart, PartHolds, LayersHold, PartsHold, BoxesHold, is_leader, number_by}
use Rattle.layout_check.proofs.NumberingLaws.{number_by_names, numberings_agree, same_name, leader_of, part_child}

module _ (d : Document) (n : ℕ) (o : LevelOptions) (c : Certificate) (names : List ℕ) (sound : IsSound d) (named : AreNames d n names) (split : IsTrue o.split) (right : (a : ℕ) → PartHolds d n o c a) where
  number : ℕ → ℕ
  number = number_by d n names

  good : IsNumbering d n (number_by d n names)
  good = number_by_names d n names sound named

  -- the written part is the number by names
  pub part_is : (a : ℕ) → IsChild d n a → part_in d n c a ≡ number_by d n names a
  part_is a child =
      let x = right a split child in
      sym x.2 ∙ numberings_agree d n x.0 (number_by d n names) a x.1 good child

  pub same_part : (a b : ℕ) → IsChild d n a → IsChild d n b → (part_in d n c a ≡ part_in d n c b) ↔ InOnePart d n a b
  same_part a b ca cb =
      let s = good.same a b ca cb in (
        λ e. s.0 (sym (part_is a ca) ∙ e ∙ part_is b cb),
        λ r. part_is a ca ∙ s.1 r ∙ sym (part_is b cb),
      )

  pub numbers_parts : NumbersParts d n c
  numbers_parts =
      record {
        same = same_part;
        in_order = λ a i ca l.
            let below = part_is a ca in
            let b = good.in_order a i ca (omega (arith, below, l)) in
            (b.0, b.1, b.2, part_is b.0 b.1 ∙ b.3);
      }

  -- the name of a child, as a child of its part
  pub name_child : (a : ℕ) → IsChild d n a → IsChild d n (name_of names a)
  name_child a ca = part_child d n a (name_of names a) sound (named.linked a ca.node_in) ca

  pub name_part : (a : ℕ) → IsChild d n a → part_in d n c a ≡ part_in d n c (name_of names a)
  name_part a ca = (same_part a (name_of names a) ca (name_child a ca)).1 (named.linked a ca.node_in)

  pub least_leads : (a : ℕ) → IsLeastOfPart d n c a → is_leader d n names a ≡ true
  least_leads a h =
      let low = named.low a h.child.node_in in
      let up = h.least (name_of names a) (name_child a h.child) (sym (name_part a h.child)) in
      and_from _ _ h.child.child (eq-eqb _ _ (omega (arith, low, up)))

  pub leader_least : (a : ℕ) → a < length d.nodes → is_leader d n names a ≡ true → IsLeastOfPart d n c a
  leader_least a l h =
      let both = and_parts _ _ h in
      let child : IsChild d n a = record { node_in = l; child = both.0 } in
      let itself : name_of names a ≡ a = eqb-true _ _ both.1 in
      record {
        child = child;
        least = λ b cb e.
            let part = (same_part b a cb child).0 e in
            let one = same_name d n names b a named part in
            let low = named.low b cb.node_in in
            omega (arith, one, low, itself);
      }

  pub name_least : (a : ℕ) → IsChild d n a → IsLeastOfPart d n c (name_of names a)
  name_least a ca = leader_least (name_of names a) (name_child a ca).node_in (leader_of d n names a sound named ca)

-- the parts of any two children that are not in one part
pub parts_by_least : (d : Document) (p : Placed) (n : ℕ) (o : LevelOptions) (c : Certificate) (names : List ℕ) (sound : IsSound d) (named : AreNames d n names) (split : IsTrue o.split) (right : (a : ℕ) → PartHolds d n o c a) → ((a b : ℕ) → PartsHold d p n o c a b) → (a b : ℕ) → IsChild d n a → IsChild d n b → part_in d n c a ≢ part_in d n c b → PartsApart d p n o c (part_in d n c a) (part_in d n c b)
parts_by_least d p n o c names sound named split right holds a b ca cb differ =
    let x = name_of names a in
    let y = name_of names b in
    let lx = name_least d n o c names sound named split right a ca in
    let ly = name_least d n o c names sound named split right b cb in
    let px = name_part d n o c names sound named split right a ca in
    let py = name_part d n o c names sound named split right b cb in
    let P : ℕ → Type 0 = λ i. PartsApart d p n o c i (part_in d n c y) in
    let Q : ℕ → Type 0 = λ j. PartsApart d p n o c (part_in d n c a) j in
    let apart : PartsApart d p n o c (part_in d n c x) (part_in d n c y) =
    elim (cases_order x y) [
      | inl e ↦ absurd (differ (px ∙ ap (part_in d n c) e ∙ sym py))
      | inr (inl l) ↦ holds x y split lx ly l
      | inr (inr l) ↦ ⊎_elim (λ h. inr h) (λ h. inl h) (holds y x split ly lx l)
    ]
    in
    subst Q (sym py) (subst P (sym px) apart)

-- all that the sentences say, together
pub apart_by_sentences : (d : Document) (p : Placed) (n : ℕ) (o : LevelOptions) (c : Certificate) (names : List ℕ) → IsSound d → AreNames d n names → ((a : ℕ) → PartHolds d n o c a) → ((a b : ℕ) → LayersHold d p n o c a b) → ((a b : ℕ) → PartsHold d p n o c a b) → ((a b : ℕ) → BoxesHold d p n o a b) → Apart d p n o c
apart_by_sentences d p n o c names sound named right layers parts boxes =
    record {
      numbered = λ split. numbers_parts d n o c names sound named split right;
      layers = λ f a b ca cb differ same.
          elim (cases_order a b) [
            | inl e ↦ absurd (differ e)
            | inr (inl l) ↦ (layers a b f ca cb l same).0
            | inr (inr l) ↦ (layers b a f cb ca l (λ s. sym (same s))).1
          ];
      parts = λ split a b ca cb differ. parts_by_least d p n o c names sound named split right parts a b ca cb differ;
      boxes = λ t a b ca cb differ.
          elim (cases_order a b) [
            | inl e ↦ absurd (differ e)
            | inr (inl l) ↦ boxes a b t ca cb l
            | inr (inr l) ↦ ⊎_elim (λ h. inr h) (λ h. inl h) (boxes b a t cb ca l)
          ];
    }
