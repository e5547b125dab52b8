use Rattle.std.proofs.Common.{◌≡◌, ◌≢◌, ℕ, ◌+◌, ◌<◌, ◌≤◌, ℤ, pos, ◌+ℤ◌, ◌≤ℤ◌, ◌<ℤ◌, List, length, get_or, set, arith, refl, sym, ◌∙◌, inl, inr, subst, Option, Some, None}
use Rattle.std.proofs.lemmas.Int.{ints}
use Rattle.std.proofs.lemmas.Bool.{cases_eq}
use Rattle.std.proofs.lemmas.List.{get_or-set_same, get_or-set_other, length-set}
use Rattle.std.proofs.lemmas.List.Elements.{All-from_get_or, All-contains}
use Rattle.std.specs.List.{All}
use borrow.Author.Count.{below_more}
use Rattle.separation.specs.declared.bounds.Bound.{Bound}
use Rattle.separation.specs.declared.walk.Due.{Due}
use Rattle.separation.specs.Order.{bound_at}
use Rattle.separation.specs.Due.{IsReady, HoldsNothing, due_at, bound_of}
use Rattle.separation.specs.Lines.{value_at, KeepsBound, Below, IsTight, Relaxed, Settled}

-- a holder is a bound that was looked at
abbrev pub IsSeen : List Due → ℕ → Option ℕ → Type 0
IsSeen due done None = Unit {0}
IsSeen due done (Some k) = (j : ℕ) × (j < done) × ((due_at due j).bound ≡ k)

-- what holds after the first bounds were looked at
pub record LinesSoFar (floor : List ℤ) (bounds : List Bound) (due : List Due) (done : ℕ) (values : List ℤ) (holds : List (Option ℕ)) : Type 0 where
  pub as_long : length values ≡ length floor
  pub holds_as_long : length holds ≡ length floor
  pub floors : (i : ℕ) → i < length floor → value_at floor i ≤ℤ value_at values i
  pub met : (j : ℕ) → j < done → KeepsBound values (bound_of bounds due j)
  pub least : Below floor bounds values
  pub tight : (i : ℕ) → i < length floor → IsTight floor bounds values i (get_or holds i None)
  pub seen : (i : ℕ) → i < length floor → IsSeen due done (get_or holds i None)

≤ℤ_refl : (z : ℤ) → z ≤ℤ z
≤ℤ_refl z = omega (arith, ints)

none_tight : (floor : List ℤ) (bounds : List Bound) (i : ℕ) (o : Option ℕ) → o ≡ None → IsTight floor bounds floor i o
none_tight floor bounds i None e = refl
none_tight floor bounds i (Some k) e = cc

none_seen : (due : List Due) (done : ℕ) (o : Option ℕ) → o ≡ None → IsSeen due done o
none_seen due done None e = tt
none_seen due done (Some k) e = cc

pub lines_start : (floor : List ℤ) (bounds : List Bound) (due : List Due) (holds : List (Option ℕ)) → HoldsNothing floor holds → LinesSoFar floor bounds due 0 floor holds
lines_start floor bounds due holds h =
    record {
      as_long = refl;
      holds_as_long = h.as_long;
      floors = λ i l. ≤ℤ_refl _;
      met = λ j l. absurd (omega arith);
      least = λ other k i l. k.floors i l;
      tight = λ i l. none_tight floor bounds i _ (h.nothing i l);
      seen = λ i l. none_seen due 0 _ (h.nothing i l);
    }

seen_more : (due : List Due) (done : ℕ) (o : Option ℕ) → IsSeen due done o → IsSeen due (done + 1) o
seen_more due done None e = tt
seen_more due done (Some k) e = (e.0, omega arith, e.2)

-- a holder other than at the raised place stays one
tight_kept : (floor : List ℤ) (bounds : List Bound) (due : List Due) (done : ℕ) (values : List ℤ) (at : ℕ) (low : ℤ) (i : ℕ) (o : Option ℕ) → i ≢ at → ((j : ℕ) → j < done → (bound_of bounds due j).before ≢ at) → IsTight floor bounds values i o → IsSeen due done o → IsTight floor bounds (set values at low) i o
tight_kept floor bounds due done values at low i None ne apart t s = rw get_or-set_other t
tight_kept floor bounds due done values at low i (Some k) ne apart t s =
    let ne2 : (bound_at bounds k).before ≢ at = subst (λ (x : ℕ). (bound_at bounds x).before ≢ at) s.2 (apart s.0 s.1) in
    let e1 : value_at (set values at low) i ≡ value_at values i = get_or-set_other values at i low (pos 0) ne in
    let e2 : value_at (set values at low) (bound_at bounds k).before ≡ value_at values (bound_at bounds k).before =
    get_or-set_other values at _ low (pos 0) ne2
    in
    (t.0, rw e1 t.1, t.2, rw (e1, e2) t.3)

lines_raised : (floor : List ℤ) (bounds : List Bound) (due : List Due) (done : ℕ) (values : List ℤ) (holds : List (Option ℕ)) (low : ℤ) → IsReady floor bounds due → done < length due → LinesSoFar floor bounds due done values holds → low ≡ value_at values (bound_of bounds due done).before +ℤ (bound_of bounds due done).gap → value_at values (bound_of bounds due done).after <ℤ low → LinesSoFar floor bounds due (done + 1) (set values (bound_of bounds due done).after low) (set holds (bound_of bounds due done).after (Some (due_at due done).bound))
lines_raised floor bounds due done values holds low r l s is up =
    let at : ℕ = (bound_of bounds due done).after in
    let in_values : at < length values = rw s.as_long (r.after done l) in
    let in_holds : at < length holds = rw s.holds_as_long (r.after done l) in
    let here : value_at (set values at low) at ≡ low = get_or-set_same values at low (pos 0) in_values in
    let other : (i : ℕ) → i ≢ at → value_at (set values at low) i ≡ value_at values i =
    λ i ne. get_or-set_other values at i low (pos 0) ne
    in
    let higher : (i : ℕ) → value_at values i ≤ℤ value_at (set values at low) i =
    λ i. elim (cases_eq i at) [
      | inl e ↦ subst (λ (x : ℕ). value_at values x ≤ℤ value_at (set values at low) x) (sym e) (rw here (omega (arith, ints)))
      | inr ne ↦ rw (other i ne) (≤ℤ_refl _)
    ]
    in
    let source : value_at (set values at low) (bound_of bounds due done).before ≡ value_at values (bound_of bounds due done).before =
    other _ (r.final done done (omega arith) l)
    in
    record {
      as_long = length-set values at low ∙ s.as_long;
      holds_as_long = length-set holds at _ ∙ s.holds_as_long;
      floors = λ i il. let a = s.floors i il in let b = higher i in omega (arith, ints, a, b);
      met = below_more (λ j. KeepsBound (set values at low) (bound_of bounds due j)) done
          (λ j jl. let a = s.met j jl in let b = higher (bound_of bounds due j).after in
          let e = other (bound_of bounds due j).before (r.final j done (omega arith) l) in
          rw e (omega (arith, ints, a, b)))
          (rw (source, here) (subst (λ (x : ℤ). x ≤ℤ low) is (≤ℤ_refl low)));
      least = λ o k i il. elim (cases_eq i at) [
        | inl e ↦ subst (λ (x : ℕ). value_at (set values at low) x ≤ℤ value_at o x) (sym e) (rw here (
            let a = k.bounds (due_at due done).bound (r.numbers done l) in
            let b = s.least o k _ (r.before done l) in
            omega (arith, ints, a, b, is)))
        | inr ne ↦ rw (other i ne) (s.least o k i il)
      ];
      tight = λ i il. elim (cases_eq i at) [
        | inl e ↦ subst (λ (x : ℕ). IsTight floor bounds (set values at low) x (get_or (set holds at (Some (due_at due done).bound)) x None)) (sym e)
            (rw (get_or-set_same holds at (Some (due_at due done).bound) None in_holds) (r.numbers done l, rw here (let f = s.floors at (r.after done l) in omega (arith, ints, f, up)), refl, rw (here, source) is))
        | inr ne ↦ rw (get_or-set_other holds at i _ None ne) (tight_kept floor bounds due done values at low i _ ne (λ j jl. r.final j done (omega arith) l) (s.tight i il) (s.seen i il))
      ];
      seen = λ i il. elim (cases_eq i at) [
        | inl e ↦ subst (λ (x : ℕ). IsSeen due (done + 1) (get_or (set holds at (Some (due_at due done).bound)) x None)) (sym e)
            (rw (get_or-set_same holds at (Some (due_at due done).bound) None in_holds) (done, omega arith, refl))
        | inr ne ↦ rw (get_or-set_other holds at i _ None ne) (seen_more due done _ (s.seen i il))
      ];
    }

pub lines_more : (floor : List ℤ) (bounds : List Bound) (due : List Due) (done : ℕ) (values : List ℤ) (holds : List (Option ℕ)) (values' : List ℤ) (holds' : List (Option ℕ)) → IsReady floor bounds due → done < length due → LinesSoFar floor bounds due done values holds → Relaxed values holds (bound_of bounds due done) (due_at due done).bound values' holds' → LinesSoFar floor bounds due (done + 1) values' holds'
lines_more floor bounds due done values holds values' holds' r l s step =
    elim step [
      | inl k ↦ rw (k.1, k.2) (record {
        as_long = s.as_long;
        holds_as_long = s.holds_as_long;
        floors = s.floors;
        met = below_more (λ j. KeepsBound values (bound_of bounds due j)) done s.met k.0;
        least = s.least;
        tight = s.tight;
        seen = λ i il. seen_more due done _ (s.seen i il);
      })
      | inr k ↦ rw (k.1, k.2) (lines_raised floor bounds due done values holds _ r l s refl k.0)
    ]

pub lines_end : (floor : List ℤ) (bounds : List Bound) (due : List Due) (done : ℕ) (values : List ℤ) (holds : List (Option ℕ)) → IsReady floor bounds due → length due ≤ done → LinesSoFar floor bounds due done values holds → Settled floor bounds values holds
lines_end floor bounds due done values holds r l s =
    record {
      as_long = s.as_long;
      keeps = record {
        floors = s.floors;
        bounds = λ k kl.
            let h = r.complete k kl in
            let all : All (λ (d : Due). KeepsBound values (bound_at bounds d.bound)) due =
            All-from_get_or (λ (d : Due). KeepsBound values (bound_at bounds d.bound)) due (record { position = 0; bound = 0 }) (λ j jl. s.met j (omega arith))
            in
            subst (λ (x : ℕ). KeepsBound values (bound_at bounds x)) h.number_is (All-contains (λ (d : Due). KeepsBound values (bound_at bounds d.bound)) due h.entry all h.is_there);
      };
      least = s.least;
      holds_as_long = s.holds_as_long;
      tight = s.tight;
    }
