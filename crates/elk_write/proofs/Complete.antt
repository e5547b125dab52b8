-- Where the elements give a whole drawing, none of them lacks a member.
use Rattle.std.proofs.Common.{◌≡◌, ℕ, ◌+◌, List, [], ◌∷◌, ◌++◌, length, map, take, filter, Bool, true, false, cond, Option, Some, None, if◌then◌else◌, refl, sym, ap, ◌∙◌, subst, append_assoc, append-nil}
use Rattle.std.specs.Prelude.{is_none}
use Rattle.std.proofs.lemmas.List.{length-append}
use Rattle.std.proofs.lemmas.Bool.{or_from}
use Rattle.elk_doc.specs.declared.drawing.Placed.{Placed}
use Rattle.elk_doc.specs.Document.{Document}
use Rattle.elk_json.specs.declared.elements.Kind.{Kind}
use Rattle.elk_json.specs.declared.elements.Kind.TheVariants as kind
use Rattle.elk_json.specs.Elements.{Element}
use Rattle.elk_json.specs.Members.{kind_is_node, kind_is_port, kind_is_edge, is_node, is_port, is_edge}
use Rattle.elk_json.specs.Document.{number_at}
use Rattle.elk_json.specs.Rules.{first_at}
use Rattle.elk_write.specs.Placing.{box_at, level_at, place_at, section_at, given, IsGiven, lacks, number_of, of_kind, is_unplaced, first_unplaced}
use Rattle.elk_write.proofs.Growing.{filter_push}

abbrev AllThere : {A : Type 0} → List (Option A) → Type 0
AllThere [] = Unit {0}
AllThere (o ∷ os) = (is_none o ≡ false) × AllThere os

there_map : {A : Type 0} (xs : List A) → AllThere (map (λ x. Some x) xs)
there_map [] = tt
there_map (x ∷ xs) = (refl, there_map xs)

module _ {A : Type 0} (read : ℕ → Element → Option A) (test : Element → Bool) where
  -- what is still to be read, after some elements
  abbrev Left : List Element → List Element → Type 0
  Left done rest = AllThere (given read (length (filter test done)) (filter test rest))

  record Step (done : List Element) (e : Element) (rest : List Element) : Type 0 where
    pub here : test e ≡ true → is_none (read (length (filter test done)) e) ≡ false
    pub left : Left (done ++ e ∷ []) rest

  step_if : (b : Bool) (done : List Element) (e : Element) (rest : List Element) → test e ≡ b
      → AllThere (given read (length (filter test done)) (cond b (e ∷ filter test rest) (filter test rest))) → Step done e rest
  step_if true done e rest is h =
      let count : length (filter test (done ++ e ∷ [])) ≡ length (filter test done) + 1 =
      ap (λ xs. length xs) (filter_push test done e) ∙ ap (λ b. length (filter test done ++ (if b then e ∷ [] else []))) is ∙ length-append (filter test done) (e ∷ []) in
      record { here = λ t. h.0; left = subst (λ n. AllThere (given read n (filter test rest))) (sym count) h.1 }
  step_if false done e rest is h =
      let count : length (filter test (done ++ e ∷ [])) ≡ length (filter test done) =
      ap (λ xs. length xs) (filter_push test done e) ∙ ap (λ b. length (filter test done ++ (if b then e ∷ [] else []))) is ∙ ap (λ xs. length xs) (append-nil (filter test done)) in
      record { here = λ t. let bad : false ≡ true = sym is ∙ t in absurd (cc); left = subst (λ n. AllThere (given read n (filter test rest))) (sym count) h }

  step : (done : List Element) (e : Element) (rest : List Element) → Left done (e ∷ rest) → Step done e rest
  step done e rest h = step_if (test e) done e rest refl h

take_front : {X : Type 0} (xs ys : List X) → take (length xs) (xs ++ ys) ≡ xs
take_front [] ys = refl
take_front (x ∷ xs) ys = ap (λ zs. x ∷ zs) (take_front xs ys)

module _ (doc : Document) (all : List Element) where
  unplaced_by : (k : Kind) (n m e : ℕ) (x : Element)
      → (kind_is_node k ≡ true → is_none (box_at doc n x) ≡ false) → (kind_is_node k ≡ true → is_none (level_at doc n x) ≡ false)
      → (kind_is_port k ≡ true → is_none (place_at m x) ≡ false) → (kind_is_edge k ≡ true → is_none (section_at doc e x) ≡ false)
      → lacks doc k (of_kind k n m e) x ≡ false
  unplaced_by kind.Node n m e x a b c d = or_from (is_none (box_at doc n x)) (is_none (level_at doc n x)) (a refl) (b refl)
  unplaced_by kind.Port n m e x a b c d = c refl
  unplaced_by kind.Edge n m e x a b c d = d refl

  number_front : (test : Element → Bool) (done rest : List Element) → all ≡ done ++ rest → number_at test all (length done) ≡ length (filter test done)
  number_front test done rest is = ap (λ xs. length (filter test (take (length done) xs))) is ∙ ap (λ xs. length (filter test xs)) (take_front done rest)

  not_here : (done rest : List Element) (x : Element) → all ≡ done ++ rest
      → (is_node x ≡ true → is_none (box_at doc (length (filter is_node done)) x) ≡ false) → (is_node x ≡ true → is_none (level_at doc (length (filter is_node done)) x) ≡ false)
      → (is_port x ≡ true → is_none (place_at (length (filter is_port done)) x) ≡ false) → (is_edge x ≡ true → is_none (section_at doc (length (filter is_edge done)) x) ≡ false)
      → lacks doc x.kind (number_of x.kind all (length done)) x ≡ false
  not_here done rest x is a b c d =
      ap (λ n. lacks doc x.kind (of_kind x.kind n (number_at is_port all (length done)) (number_at is_edge all (length done))) x) (number_front is_node done rest is)
      ∙ ap (λ n. lacks doc x.kind (of_kind x.kind (length (filter is_node done)) n (number_at is_edge all (length done))) x) (number_front is_port done rest is)
      ∙ ap (λ n. lacks doc x.kind (of_kind x.kind (length (filter is_node done)) (length (filter is_port done)) n) x) (number_front is_edge done rest is)
      ∙ unplaced_by x.kind _ _ _ x a b c d

  unplaced_is : (place : ℕ) (x : Element) → lacks doc x.kind (number_of x.kind all place) x ≡ false → is_unplaced doc all place x ≡ false
  unfolding is_unplaced
  unplaced_is place x h = h

  none_from : (done rest : List Element) → all ≡ done ++ rest
      → Left (box_at doc) is_node done rest → Left (level_at doc) is_node done rest → Left place_at is_port done rest → Left (section_at doc) is_edge done rest
      → first_at (is_unplaced doc all) (length done) rest ≡ None
  none_from done [] is a b c d = refl
  none_from done (x ∷ rest) is a b c d =
      let boxes = step (box_at doc) is_node done x rest a in
      let levels = step (level_at doc) is_node done x rest b in
      let places = step place_at is_port done x rest c in
      let sections = step (section_at doc) is_edge done x rest d in
      let next : length (done ++ x ∷ []) ≡ length done + 1 = length-append done (x ∷ []) in
      ap (λ b. if b then Some x else first_at (is_unplaced doc all) (length done + 1) rest)
      (unplaced_is (length done) x (not_here done (x ∷ rest) x is boxes.here levels.here places.here sections.here))
      ∙ ap (λ n. first_at (is_unplaced doc all) n rest) (sym next)
      ∙ none_from (done ++ x ∷ []) rest (is ∙ sym (append_assoc done (x ∷ []) rest)) boxes.left levels.left places.left sections.left

pub none_unplaced : (doc : Document) (all : List Element) (p : Placed) → IsGiven doc all p → first_unplaced doc all ≡ None
none_unplaced doc all p g =
    none_from doc all [] all refl (subst AllThere g.boxes (there_map p.boxes)) (subst AllThere g.levels (there_map p.levels)) (subst AllThere g.ports (there_map p.ports)) (subst AllThere g.sections (there_map p.sections))
