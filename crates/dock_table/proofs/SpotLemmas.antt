-- A spot with one more end.
use Rattle.std.proofs.Common.{◌≡◌, ℕ, ◌+◌, List, [], ◌∷◌, ◌++◌, length, map, Bool, true, false, not, cond, ◌||◌, Option, Some, IsFalse, refl, sym, ◌∙◌, ap, inl, inr, arith, append-nil, length-append}
use Rattle.std.specs.List.{filter, list_any}
use Rattle.std.proofs.lemmas.Bool.{cases_Bool, not_from_true, not_from_false}
use Rattle.std.proofs.lemmas.List.{map-append}
use Rattle.std.proofs.lemmas.List.Elements.{filter-append}
use Rattle.std.proofs.lemmas.List.Folds.{list_any-append}
use Rattle.elk_layers.specs.Layered.{place_of}
use Rattle.port_order.specs.declared.spots.Mean.{Mean}
use Rattle.port_order.specs.declared.spots.Spot.{Spot}
use Rattle.level_model.specs.Level.{PlainLevel, PlainPlan, End, is_loop, enters, far_unit, linked, mean_of, spot, sum_of}
use Rattle.dock_table.specs.declared.spots.Told.{Told}
use Rattle.dock_table.specs.Rows.{bare, more_mean, with_end, with_link}

-- what is told is true of the end
pub record IsTold (l : PlainLevel) (p : PlainPlan) (n : End) (t : Told) : Type 0 where
  pub looped : t.looped ≡ is_loop l n.edge
  pub enters_is : t.enters ≡ enters p n
  pub place : IsFalse (is_loop l n.edge) → t.place ≡ place_of p.layered p.rows (far_unit p n)

pub same_spot : (s t : Spot) → s.port ≡ t.port → s.number ≡ t.number → s.leaves ≡ t.leaves → s.enters ≡ t.enters → s.mean ≡ t.mean → s ≡ t
same_spot s t port number leaves enters mean =
    ap (λ x. record { port = x; number = s.number; leaves = s.leaves; enters = s.enters; mean = s.mean }) port
    ∙ ap (λ x. record { port = t.port; number = x; leaves = s.leaves; enters = s.enters; mean = s.mean }) number
    ∙ ap (λ x. record { port = t.port; number = t.number; leaves = x; enters = s.enters; mean = s.mean }) leaves
    ∙ ap (λ x. record { port = t.port; number = t.number; leaves = t.leaves; enters = x; mean = s.mean }) enters
    ∙ ap (λ x. record { port = t.port; number = t.number; leaves = t.leaves; enters = t.enters; mean = x }) mean

pub filter_yes : {X : Type 0} (test : X → Bool) (x : X) → test x ≡ true → filter test (x ∷ []) ≡ x ∷ []
filter_yes test x t = rw t refl

pub filter_no : {X : Type 0} (test : X → Bool) (x : X) → test x ≡ false → filter test (x ∷ []) ≡ []
filter_no test x f = rw f refl

pub or_false : (b : Bool) → (b || false) ≡ b
or_false true = refl
or_false false = refl

any_more : {X : Type 0} (test : X → Bool) (xs : List X) (x : X) → list_any test (xs ++ x ∷ []) ≡ (list_any test xs || test x)
any_more test xs x = list_any-append test xs (x ∷ []) ∙ ap (λ b. list_any test xs || b) (or_false (test x))

abbrev place_at : PlainPlan → End → ℕ
place_at p n = place_of p.layered p.rows (far_unit p n)

sum_more : (ns : List ℕ) (n : ℕ) → sum_of (ns ++ n ∷ []) ≡ sum_of ns + n
sum_more [] n = omega arith
sum_more (m ∷ ns) n = let h = sum_more ns n in omega (arith, h)

same_mean : (a b c d : ℕ) → a ≡ c → b ≡ d → (let m : Mean = record { sum = a; count = b } in m) ≡ record { sum = c; count = d }
same_mean a b c d e f = ap (λ x. record { sum = x; count = b }) e ∙ ap (λ x. record { sum = c; count = x }) f

mean_more : (p : PlainPlan) (ns : List End) (n : End) (place : ℕ) → place ≡ place_at p n → mean_of p (ns ++ n ∷ []) ≡ Some (more_mean (mean_of p ns) place)
mean_more p [] n place is = ap (λ m. Some m) (same_mean _ _ _ _ (let e : place_at p n + 0 ≡ place_at p n = omega arith in e ∙ sym is) refl)
mean_more p (m ∷ ns) n place is =
    let long : length (ns ++ n ∷ []) ≡ length ns + 1 = length-append ns (n ∷ []) in
    let split : map (place_at p) (ns ++ n ∷ []) ≡ map (place_at p) ns ++ place_at p n ∷ [] = map-append (place_at p) ns (n ∷ []) in
    let sum : sum_of (map (place_at p) (ns ++ n ∷ [])) ≡ sum_of (map (place_at p) ns) + place_at p n = ap sum_of split ∙ sum_more (map (place_at p) ns) (place_at p n) in
    ap (λ x. Some x) (same_mean _ _ _ _ (omega (arith, sum, is)) (omega (arith, long)))

abbrev spot_from : PlainPlan → Option ℕ → ℕ → List End → Spot
spot_from p port number ms =
    record {
      port = port;
      number = number;
      leaves = list_any (λ n. not (enters p n)) ms;
      enters = list_any (λ n. enters p n) ms;
      mean = mean_of p ms;
    }

link_more : (p : PlainPlan) (port : Option ℕ) (number : ℕ) (ms : List End) (n : End) (t : Told) → t.enters ≡ enters p n → t.place ≡ place_at p n
    → spot_from p port number (ms ++ n ∷ []) ≡ with_link t (spot_from p port number ms)
link_more p port number ms n t enters_is place =
    same_spot (spot_from p port number (ms ++ n ∷ [])) (with_link t (spot_from p port number ms)) refl refl
    (any_more (λ m. not (enters p m)) ms n ∙ ap (λ b. list_any (λ m. not (enters p m)) ms || not b) (sym enters_is))
    (any_more (λ m. enters p m) ms n ∙ ap (λ b. list_any (λ m. enters p m) ms || b) (sym enters_is))
    (mean_more p ms n t.place place)

-- a spot's ends with one more
pub spot_more : (l : PlainLevel) (p : PlainPlan) (port : Option ℕ) (number : ℕ) (ns : List End) (n : End) (t : Told) → IsTold l p n t
    → spot l p port number (ns ++ n ∷ []) ≡ with_end t (spot l p port number ns)
spot_more l p port number ns n t told =
    let test : End → Bool = λ m. not (is_loop l m.edge) in
    let split : linked l (ns ++ n ∷ []) ≡ linked l ns ++ linked l (n ∷ []) = filter-append (λ m. not (is_loop l m.edge)) ns (n ∷ []) in
    elim (cases_Bool (is_loop l n.edge)) [
      | inl passed ↦
          let none : linked l (n ∷ []) ≡ [] = filter_no (λ m. not (is_loop l m.edge)) n (not_from_true (is_loop l n.edge) passed) in
          let ends : linked l (ns ++ n ∷ []) ≡ linked l ns = split ∙ ap (λ ms. linked l ns ++ ms) none ∙ append-nil (linked l ns) in
          ap (spot_from p port number) ends ∙ sym (ap (λ b. cond b (spot l p port number ns) (with_link t (spot l p port number ns))) (told.looped ∙ passed))
      | inr no_loop ↦
          let one : linked l (n ∷ []) ≡ n ∷ [] = filter_yes (λ m. not (is_loop l m.edge)) n (not_from_false (is_loop l n.edge) no_loop) in
          let ends : linked l (ns ++ n ∷ []) ≡ linked l ns ++ n ∷ [] = split ∙ ap (λ ms. linked l ns ++ ms) one in
          ap (spot_from p port number) ends
          ∙ link_more p port number (linked l ns) n t told.enters_is (told.place no_loop)
          ∙ sym (ap (λ b. cond b (spot l p port number ns) (with_link t (spot l p port number ns))) (told.looped ∙ no_loop))
    ]

pub spot_one : (l : PlainLevel) (p : PlainPlan) (port : Option ℕ) (number : ℕ) (n : End) (t : Told) → IsTold l p n t → spot l p port number (n ∷ []) ≡ with_end t (bare port number)
spot_one l p port number n t told = spot_more l p port number [] n t told
