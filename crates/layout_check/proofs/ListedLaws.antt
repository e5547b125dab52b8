-- Steps of unlisted edges.
use Rattle.std.proofs.Common.{◌≡◌, ℕ, ◌+◌, ◌<◌, ◌≤◌, ⊎_elim, List, [], ◌∷◌, ◌++◌, length, slice_index, arith, refl, sym, ap, ◌∙◌, subst, length-append}
use Rattle.std.proofs.lemmas.Bool.{cases_lt}
use Rattle.std.proofs.lemmas.List.{get_or_push, get_or_append_left}
use Rattle.elk_doc.specs.declared.drawing.Certificate.{Certificate}
use Rattle.elk_doc.specs.Document.{Document}
use Rattle.elk_doc.specs.Level.{source_node, target_node}
use Rattle.elk_doc.specs.Paths.{Reaches, stay, go}
use Rattle.elk_doc.specs.Reversed.{UnlistedStep}
use Rattle.layout_check.specs.declared.paths.Step.{Step}
use Rattle.layout_check.specs.Steps.{HasStep, step_at, no_step}
use Rattle.layout_check.specs.FirstLevels.{IsUnlisted, AreStepsBelow, AreSteps, IsAcyclic, NeverRound, step_of}
use Rattle.layout_check.proofs.StepLaws.{reach_by}

kept : (xs : List Step) (s : Step) (i : ℕ) → i < length xs → step_at (xs ++ s ∷ []) i ≡ step_at xs i
kept xs s i l = get_or_append_left xs (s ∷ []) no_step i l

last : (xs : List Step) (s : Step) → step_at (xs ++ s ∷ []) (length xs) ≡ s
last xs s = get_or_push xs s no_step (length xs) refl

has_kept : (xs : List Step) (s : Step) (a b : ℕ) → HasStep xs a b → HasStep (xs ++ s ∷ []) a b
has_kept xs s a b h =
    record {
      place = h.place;
      place_in = let l = h.place_in in omega (arith, length-append xs (s ∷ []), l);
      from_is = ap (λ (x : Step). x.from) (kept xs s h.place h.place_in) ∙ h.from_is;
      to_is = ap (λ (x : Step). x.to) (kept xs s h.place h.place_in) ∙ h.to_is;
    }

has_last : (xs : List Step) (s : Step) → HasStep (xs ++ s ∷ []) s.from s.to
has_last xs s =
    record {
      place = length xs;
      place_in = omega (arith, length-append xs (s ∷ []));
      from_is = ap (λ (x : Step). x.from) (last xs s);
      to_is = ap (λ (x : Step). x.to) (last xs s);
    }

-- each step of a grown list is an old one or the last
each_step : (xs : List Step) (s : Step) (P : Step → Type 0) → ((i : ℕ) → i < length xs → P (step_at xs i)) → P s → (i : ℕ) → i < length (xs ++ s ∷ []) → P (step_at (xs ++ s ∷ []) i)
each_step xs s P old new i l =
    ⊎_elim
    (λ b. subst P (sym (kept xs s i b)) (old i b))
    (λ b. let e : i ≡ length xs = omega (arith, length-append xs (s ∷ [])) in
    let Q : ℕ → Type 0 = λ i. P (step_at (xs ++ s ∷ []) i) in
    subst Q (sym e) (subst P (sym (last xs s)) new))
    (cases_lt i (length xs))

-- one edge more, which is unlisted or not
pub steps_more : (d : Document) (n : ℕ) (c : Certificate) (e : ℕ) (xs : List Step) → AreStepsBelow d n c e xs → IsUnlisted d n c e → source_node d e < length d.nodes → target_node d e < length d.nodes → AreStepsBelow d n c (e + 1) (xs ++ step_of d e ∷ [])
steps_more d n c e xs h u from to =
    let here : UnlistedStep d n c (source_node d e) (target_node d e) = record { edge = e; of_level = u.of_level; unlisted = u.unlisted; source = refl; target = refl; no_loop = u.no_loop } in
    let P : Step → Type 0 = λ s. UnlistedStep d n c s.from s.to in
    let each = each_step xs (step_of d e) P (λ i l. h.sound (step_at xs i).from (step_at xs i).to (record { place = i; place_in = l; from_is = refl; to_is = refl })) here in
    record {
      sound = λ a b k.
          let A : ℕ → Type 0 = λ a. UnlistedStep d n c a b in
          let B : ℕ → Type 0 = λ b. UnlistedStep d n c (step_at (xs ++ step_of d e ∷ []) k.place).from b in
          subst A k.from_is (subst B k.to_is (each k.place k.place_in));
      complete = λ k l v.
          ⊎_elim
          (λ b. has_kept xs (step_of d e) (source_node d k) (target_node d k) (h.complete k b v))
          (λ b. let same : e ≡ k = omega arith in
          let Q : ℕ → Type 0 = λ k. HasStep (xs ++ step_of d e ∷ []) (source_node d k) (target_node d k) in
          subst Q same (has_last xs (step_of d e)))
          (cases_lt k e);
      below =
          record {
            from = each_step xs (step_of d e) (λ s. s.from < length d.nodes) h.below.from from;
            to = each_step xs (step_of d e) (λ s. s.to < length d.nodes) h.below.to to;
          };
    }

pub steps_same : (d : Document) (n : ℕ) (c : Certificate) (e : ℕ) (xs : List Step) → AreStepsBelow d n c e xs → (IsUnlisted d n c e → ⊥) → AreStepsBelow d n c (e + 1) xs
steps_same d n c e xs h no_one =
    record {
      sound = h.sound;
      complete = λ k l v.
          ⊎_elim
          (λ b. h.complete k b v)
          (λ b. let same : k ≡ e = omega arith in
          let Q : ℕ → Type 0 = λ k. IsUnlisted d n c k in
          absurd (no_one (subst Q same v)))
          (cases_lt k e);
      below = h.below;
    }

-- steps of the list are the unlisted ones
pub listed_step : (d : Document) (n : ℕ) (c : Certificate) (xs : List Step) → AreSteps d n c xs → (a b : ℕ) → UnlistedStep d n c a b → HasStep xs a b
listed_step d n c xs h a b s =
    let u : IsUnlisted d n c s.edge = record { of_level = s.of_level; unlisted = s.unlisted; no_loop = λ e. s.no_loop (sym s.source ∙ e ∙ s.target) } in
    let A : ℕ → Type 0 = λ a. HasStep xs a b in
    let B : ℕ → Type 0 = λ b. HasStep xs (source_node d s.edge) b in
    subst A s.source (subst B s.target (h.complete s.edge s.of_level.edge_in u))

pub reach_unlisted : (d : Document) (n : ℕ) (c : Certificate) (xs : List Step) → AreSteps d n c xs → (a b : ℕ) → Reaches (HasStep xs) a b → Reaches (UnlistedStep d n c) a b
reach_unlisted d n c xs h a b = reach_by (HasStep xs) (UnlistedStep d n c) h.sound a b

pub reach_listed : (d : Document) (n : ℕ) (c : Certificate) (xs : List Step) → AreSteps d n c xs → (a b : ℕ) → Reaches (UnlistedStep d n c) a b → Reaches (HasStep xs) a b
reach_listed d n c xs h a b = reach_by (UnlistedStep d n c) (HasStep xs) (listed_step d n c xs h) a b

pub acyclic_by_steps : (d : Document) (n : ℕ) (c : Certificate) (xs : List Step) → AreSteps d n c xs → NeverRound xs → IsAcyclic d n c
acyclic_by_steps d n c xs h never a b s r = never a b (listed_step d n c xs h a b s) (reach_listed d n c xs h b a r)

pub steps_by_acyclic : (d : Document) (n : ℕ) (c : Certificate) (xs : List Step) → AreSteps d n c xs → IsAcyclic d n c → NeverRound xs
steps_by_acyclic d n c xs h never a b s r = never a b (h.sound a b s) (reach_unlisted d n c xs h b a r)

-- where each step rises, none leads round
reach_rises : (xs : List Step) (heights : List ℕ) → ((i : ℕ) → i < length xs → slice_index heights (step_at xs i).from < slice_index heights (step_at xs i).to) → (a b : ℕ) → Reaches (HasStep xs) a b → slice_index heights a ≤ slice_index heights b
reach_rises xs heights up a b (stay _) = omega arith
reach_rises xs heights up a b (go _ x _ s r) =
    let rest = reach_rises xs heights up x b r in
    let here = up s.place s.place_in in
    let from = ap (slice_index heights) s.from_is in
    let to = ap (slice_index heights) s.to_is in
    omega (arith, rest, here, from, to)

pub rising_never : (xs : List Step) (heights : List ℕ) → ((i : ℕ) → i < length xs → slice_index heights (step_at xs i).from < slice_index heights (step_at xs i).to) → NeverRound xs
rising_never xs heights up a b s r =
    let back = reach_rises xs heights up b a r in
    let here = up s.place s.place_in in
    let from = ap (slice_index heights) s.from_is in
    let to = ap (slice_index heights) s.to_is in
    omega (arith, back, here, from, to)
