-- Ends of edges that are picked by a test, where those of a part stand for those of the level.
use Rattle.std.proofs.Common.{◌≡◌, ℕ, suc, ◌+◌, ◌<◌, cond, Bool, true, false, ◌||◌, List, [], ◌∷◌, length, map, get_or, arith, refl, sym, ap, inl, inr, ◌∙◌, eq-eqb, true≢false}
use Rattle.std.specs.List.{filter, list_any}
use Rattle.std.proofs.lemmas.Bool.{cases_eq, ne_eqb, false_from_ne_true}
use Rattle.level_model.specs.Level.{End, end_at, end_eq, ends_of_edges, place_of_end}

-- all numbers of a list are below a bound
abbrev pub AllBelow : ℕ → List ℕ → Type 0
AllBelow n [] = Unit {0}
AllBelow n (x ∷ xs) = (x < n) × AllBelow n xs

-- and so are the edges of all ends of a list
abbrev pub EndsBelow : ℕ → List End → Type 0
EndsBelow n [] = Unit {0}
EndsBelow n (m ∷ ms) = (m.edge < n) × EndsBelow n ms

pub ends_below : (n : ℕ) (xs : List ℕ) → AllBelow n xs → EndsBelow n (ends_of_edges xs)
ends_below n [] h = tt
ends_below n (x ∷ xs) h = (h.0, (h.0, ends_below n xs h.1))

pub kept_below : (n : ℕ) (test : End → Bool) (ms : List End) → EndsBelow n ms → EndsBelow n (filter test ms)
kept_below n test [] h = tt
kept_below n test (m ∷ ms) h = step (test m) (kept_below n test ms h.1)
  where
    step : (b : Bool) → EndsBelow n (filter test ms) → EndsBelow n (cond b (m ∷ filter test ms) (filter test ms))
    step true rest = (h.0, rest)
    step false rest = rest

pub all_below : (n : ℕ) (xs : List ℕ) → ((i : ℕ) → i < length xs → get_or xs i 0 < n) → AllBelow n xs
all_below n [] h = tt
all_below n (x ∷ xs) h = (h 0 (omega arith), all_below n xs (λ i l. h (suc i) (omega (arith, l))))

-- ---- the ends of a test lie at edges that pass another

both_out : (a b : Bool) (x y : End) (rest : List End) → a ≡ false → b ≡ false → cond a (x ∷ cond b (y ∷ rest) rest) (cond b (y ∷ rest) rest) ≡ rest
both_out a b x y rest e f = ap (λ c. cond c (x ∷ cond b (y ∷ rest) rest) (cond b (y ∷ rest) rest)) e ∙ ap (λ c. cond c (y ∷ rest) rest) f

pub only_there : (test : End → Bool) (passes : ℕ → Bool) (es : List ℕ) (n : ℕ) → AllBelow n es → ((e : ℕ) (t : Bool) → e < n → test (end_at e t) ≡ true → passes e ≡ true)
    → filter test (ends_of_edges es) ≡ filter test (ends_of_edges (filter passes es))
only_there test passes [] n below only = refl
only_there test passes (e ∷ es) n below only = step (only_there test passes es n below.1 only) (passes e) refl
  where
    step : filter test (ends_of_edges es) ≡ filter test (ends_of_edges (filter passes es))
        → (b : Bool) → passes e ≡ b → filter test (ends_of_edges (e ∷ es)) ≡ filter test (ends_of_edges (cond b (e ∷ filter passes es) (filter passes es)))
    step rest true is =
        ap (λ (xs : List End). cond (test (end_at e true)) (end_at e true ∷ cond (test (end_at e false)) (end_at e false ∷ xs) xs) (cond (test (end_at e false)) (end_at e false ∷ xs) xs)) rest
    step rest false is =
        both_out (test (end_at e true)) (test (end_at e false)) (end_at e true) (end_at e false) (filter test (ends_of_edges es))
        (false_from_ne_true (test (end_at e true)) (λ h. true≢false (sym (only e true below.0 h) ∙ is)))
        (false_from_ne_true (test (end_at e false)) (λ h. true≢false (sym (only e false below.0 h) ∙ is)))
        ∙ rest

-- ---- ends by other numbers of their edges

module _ (number : ℕ → ℕ) where
  abbrev pub up : End → End
  up n = end_at (number n.edge) n.at_source

  pub ends_up : (js : List ℕ) → ends_of_edges (map number js) ≡ map up (ends_of_edges js)
  ends_up [] = refl
  ends_up (j ∷ js) = ap (λ (xs : List End). end_at (number j) true ∷ end_at (number j) false ∷ xs) (ends_up js)

  map_cond : (b : Bool) (a : End) (xs : List End) → cond b (up a ∷ map up xs) (map up xs) ≡ map up (cond b (a ∷ xs) xs)
  map_cond true a xs = refl
  map_cond false a xs = refl

  pub filter_up : (outer inner : End → Bool) (n : ℕ) (ms : List End) → EndsBelow n ms → ((m : End) → m.edge < n → inner m ≡ outer (up m)) → filter outer (map up ms) ≡ map up (filter inner ms)
  filter_up outer inner n [] below same = refl
  filter_up outer inner n (m ∷ ms) below same =
      ap (λ (xs : List End). cond (outer (up m)) (up m ∷ xs) xs) (filter_up outer inner n ms below.1 same)
      ∙ ap (λ b. cond b (up m ∷ map up (filter inner ms)) (map up (filter inner ms))) (sym (same m below.0))
      ∙ map_cond (inner m) m (filter inner ms)

  pub any_up : (outer inner : End → Bool) (n : ℕ) (ms : List End) → EndsBelow n ms → ((m : End) → m.edge < n → inner m ≡ outer (up m)) → list_any outer (map up ms) ≡ list_any inner ms
  any_up outer inner n [] below same = refl
  any_up outer inner n (m ∷ ms) below same =
      ap (λ b. b || list_any outer (map up ms)) (sym (same m below.0)) ∙ ap (λ b. inner m || b) (any_up outer inner n ms below.1 same)

  end_eq_up : (n : ℕ) → ((i j : ℕ) → i < n → j < n → number i ≡ number j → i ≡ j) → (a b : End) → a.edge < n → b.edge < n → end_eq (up a) (up b) ≡ end_eq a b
  end_eq_up n once a b less lesser =
      elim (cases_eq a.edge b.edge) [
        | inl same ↦ rw (eq-eqb a.edge b.edge same, eq-eqb (number a.edge) (number b.edge) (ap number same)) refl
        | inr other ↦ rw (ne_eqb a.edge b.edge other, ne_eqb (number a.edge) (number b.edge) (λ e. other (once a.edge b.edge less lesser e))) refl
      ]

  pub place_up : (n : ℕ) → ((i j : ℕ) → i < n → j < n → number i ≡ number j → i ≡ j) → (ms : List End) (m : End) → EndsBelow n ms → m.edge < n → place_of_end (map up ms) (up m) ≡ place_of_end ms m
  place_up n once [] m below less = refl
  place_up n once (x ∷ ms) m below less =
      ap (λ b. cond b 0 (1 + place_of_end (map up ms) (up m))) (end_eq_up n once x m below.0 less)
      ∙ ap (λ i. cond (end_eq x m) 0 (1 + i)) (place_up n once ms m below.1 less)
