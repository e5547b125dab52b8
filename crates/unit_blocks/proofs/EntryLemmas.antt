-- The chosen link into each unit.
use Rattle.std.proofs.Common.{◌≡◌, ◌≢◌, ℕ, ◌<◌, ◌+◌, List, length, get_or, set, arith, refl, sym, ◌∙◌, ap, inl, inr, Option, Some, None, length-set, get_or-set_same, get_or-set_other, Bool, true, false, is_some, true≢false, ⊎_elim}
use Rattle.std.proofs.lemmas.Bool.{cases_eq}
use borrow.Author.Count.{below_more}
use Rattle.elk_layers.specs.Layered.{Plain, IsSound, layer_of, place_of}
use Rattle.unit_blocks.specs.Chains.{AreEntries}
use Rattle.unit_blocks.specs.Entries.{HaveOwnHeads, AreLinksInto, AreChosenMarks}
use Rattle.elk_layers.specs.Straight.{chosen_link, AreStraight}

pub marks_more : (chosen : List ℕ) (done count : ℕ) (marks : List Bool) → get_or chosen done 0 < count → AreChosenMarks chosen done count marks
    → AreChosenMarks chosen (done + 1) count (set marks (get_or chosen done 0) true)
marks_more chosen done count marks h so =
    let new : ℕ = get_or chosen done 0 in
    let here : get_or (set marks new true) new false ≡ true = get_or-set_same marks new true false (rw so.as_many h) in
    record {
      as_many = length-set marks new true ∙ so.as_many;
      marked = below_more (λ j. get_or (set marks new true) (get_or chosen j 0) false ≡ true) done
          (λ j less. elim (cases_eq (get_or chosen j 0) new) [
            | inl is ↦ ap (λ k. get_or (set marks new true) k false) is ∙ here
            | inr ne ↦ get_or-set_other marks new (get_or chosen j 0) true false ne ∙ so.marked j less
          ])
          here;
      only = λ k e. elim (cases_eq k new) [
        | inl is ↦ (done, omega arith, sym is)
        | inr ne ↦
            let p = so.only k (sym (get_or-set_other marks new k true false ne) ∙ e) in
            (p.0, (let q = p.1 in omega (arith, q)), p.2)
      ];
    }

-- chosen links that neither cross nor meet end at different units
pub own_heads : (l : Plain) (rows : List (List ℕ)) (chosen : List ℕ) → IsSound l → AreStraight l rows chosen → HaveOwnHeads l chosen
own_heads l rows chosen sound straight =
    record {
      known = straight.known;
      in_range = λ j h. (sound.links_are _ (straight.known j h)).head;
      differ = λ i j less h e.
          let hi : i < length chosen = omega (arith, less, h) in
          let a = (sound.links_are _ (straight.known i hi)).next_layer in
          let b = (sound.links_are _ (straight.known j h)).next_layer in
          let same : layer_of l (chosen_link l chosen i).head ≡ layer_of l (chosen_link l chosen j).head = ap (layer_of l) e in
          let gap : layer_of l (chosen_link l chosen i).tail ≡ layer_of l (chosen_link l chosen j).tail = omega (arith, a, b, same) in
          let place : place_of l rows (chosen_link l chosen i).head ≡ place_of l rows (chosen_link l chosen j).head = ap (place_of l rows) e in
          ⊎_elim (λ x. omega (arith, place, x.1)) (λ x. omega (arith, place, x.1)) (straight.beside i j less h gap);
    }

some_of : (o : Option ℕ) → is_some o ≡ true → (k : ℕ) × (o ≡ Some k)
some_of None e = absurd (true≢false (sym e))
some_of (Some k) e = (k, refl)

-- the units with a link are those that a chosen link enters
pub entries_from : (l : Plain) (chosen : List ℕ) (into : List (Option ℕ)) → AreLinksInto l chosen (length chosen) into → AreEntries l chosen into
entries_from l chosen into are =
    record {
      as_many = are.as_many;
      entered = λ u h e. ap is_some (ap (λ v. get_or into v None) (sym e.head_is) ∙ are.there e.number e.within);
      only = λ u h e.
          let s = some_of (get_or into u None) e in
          let p = are.only u s.0 s.1 in
          record { number = p.0; within = p.1; head_is = p.3 };
    }
