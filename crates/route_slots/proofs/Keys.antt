-- Keys of segments in a set, as one is added or taken.
use Rattle.std.proofs.Common.{◌≡◌, ◌⊎◌, ⊎_elim, inl, inr, ℕ, ℤ, ◌≤ℤ◌, ◌<ℤ◌, ◌+◌, ◌<◌, ◌≤◌, Bool, true, false, cond, ap, sym, ◌∙◌, refl, subst, arith}
use Rattle.std.proofs.lemmas.Bool.{cases_lt}
use Rattle.std.specs.Ordering.{int_cmp, nat_cmp, ordering_then, is_eq, is_gt}
use Rattle.std.specs.declared.cmp.Ordering.{Ordering}
use Rattle.std.specs.declared.cmp.Ordering.TheVariants.{Less, Equal, Greater}
use Rattle.std.proofs.lemmas.Map.Lookups.{exact_pairs, exact_signed, exact_unsigned}
use Rattle.std.proofs.lemmas.Cmp.{ranked, int_ranked}
use Rattle.std.proofs.lemmas.Int.{ints}
use Rattle.std.specs.BTreeSet.{Updates}
use Rattle.route_slots.specs.declared.slotting.Segment.{Segment}
use Rattle.route_slots.specs.declared.slotting.Row.{Row}
use Rattle.route_slots.specs.Slotting.{Key, key_cmp, End, end_cmp, has_end, Takes, fresh, reuse, Picks, added, freed}

is_equal : (o : Ordering) → is_eq o ≡ true → o ≡ Equal
is_equal Less e = absurd (cc)
is_equal Equal e = refl
is_equal Greater e = absurd (cc)

pub same_key : (k q : Key) → is_eq (key_cmp k q) ≡ true → k ≡ q
same_key k q e =
    exact_pairs nat_cmp (λ (x y : ℤ × ℕ). ordering_then (int_cmp x.0 y.0) (nat_cmp x.1 y.1)) exact_unsigned
    (exact_pairs int_cmp nat_cmp exact_signed exact_unsigned) k q (is_equal (key_cmp k q) e)

pub added_from : (t new old : Bool) → new ≡ cond t true old → new ≡ true → (old ≡ true) ⊎ (t ≡ true)
added_from true new old e h = inr refl
added_from false new old e h = inl (sym e ∙ h)

pub added_kept : (t new old : Bool) → new ≡ cond t true old → old ≡ true → new ≡ true
added_kept true new old e h = e
added_kept false new old e h = e ∙ h

pub taken_from : (t new old : Bool) → new ≡ cond t false old → new ≡ true → old ≡ true
taken_from true new old e h = absurd (let bad : true ≡ false = sym h ∙ e in cc)
taken_from false new old e h = sym e ∙ h

pub taken_other : (t new old : Bool) → new ≡ cond t false old → new ≡ false → (t ≡ true) ⊎ (old ≡ false)
taken_other true new old e h = inl refl
taken_other false new old e h = inr (sym e ∙ h)

pub taken_kept : (t new old : Bool) → new ≡ cond t false old → old ≡ true → (t ≡ true) ⊎ (new ≡ true)
taken_kept true new old e h = inl refl
taken_kept false new old e h = inr (e ∙ h)

first_least : (a b : ℕ) (o : Ordering) → is_gt (ordering_then (nat_cmp a b) o) ≡ false → a ≤ b
first_least a b o e = ⊎_elim (λ l. omega arith) (λ (ge : b ≤ a). at_order (nat_cmp a b) refl) (cases_lt a b)
  where
    at_order : (r : Ordering) → r ≡ nat_cmp a b → a ≤ b
    at_order Less er = let h : a < b = ranked a b Less er in omega arith
    at_order Equal er = let h : a ≡ b = ranked a b Equal er in omega arith
    at_order Greater er =
        absurd (let bad : is_gt (ordering_then Greater o) ≡ false = subst (λ z. is_gt (ordering_then z o) ≡ false) (sym er) e in cc)

pub least_depth : (k q : Key) → is_gt (key_cmp k q) ≡ false → k.0 ≤ q.0
least_depth k q e = first_least k.0 q.0 (ordering_then (int_cmp k.1.0 q.1.0) (nat_cmp k.1.1 q.1.1)) e

-- the least of two signed numbers
first_least_signed : (a b : ℤ) (o : Ordering) → is_gt (ordering_then (int_cmp a b) o) ≡ false → a ≤ℤ b
first_least_signed a b o e = at_order (int_cmp a b) refl
  where
    at_order : (r : Ordering) → r ≡ int_cmp a b → a ≤ℤ b
    at_order Less er = let h : a <ℤ b = int_ranked a b Less er in omega (arith, ints)
    at_order Equal er = let h : a ≡ b = int_ranked a b Equal er in omega (arith, ints)
    at_order Greater er =
        absurd (let bad : is_gt (ordering_then Greater o) ≡ false = subst (λ z. is_gt (ordering_then z o) ≡ false) (sym er) e in cc)

-- the least key of a depth has the least low end
pub least_low : (k q : Key) → is_gt (key_cmp k q) ≡ false → k.0 ≡ q.0 → k.1.0 ≤ℤ q.1.0
least_low k q e same = at_order (nat_cmp k.0 q.0) refl
  where
    at_order : (r : Ordering) → r ≡ nat_cmp k.0 q.0 → k.1.0 ≤ℤ q.1.0
    at_order Less er = let h : k.0 < q.0 = ranked k.0 q.0 Less er in absurd (omega arith)
    at_order Equal er = first_least_signed k.1.0 q.1.0 (nat_cmp k.1.1 q.1.1) (subst (λ z. is_gt (ordering_then z (ordering_then (int_cmp k.1.0 q.1.0) (nat_cmp k.1.1 q.1.1))) ≡ false) (sym er) e)
    at_order Greater er = let h : q.0 < k.0 = ranked k.0 q.0 Greater er in absurd (omega arith)

pub same_end : (k q : End) → is_eq (end_cmp k q) ≡ true → k ≡ q
same_end k q e = exact_pairs int_cmp nat_cmp exact_signed exact_unsigned k q (is_equal (end_cmp k q) e)

pub least_end : (k q : End) → is_gt (end_cmp k q) ≡ false → k.0 ≤ℤ q.0
least_end k q e = first_least_signed k.0 q.0 (nat_cmp k.1 q.1) e

-- a slot that is picked once the depth is begun, and taken
pub takes_by : (old mid less new : Row) (p : Segment) (s : ℕ) → mid.count ≡ old.count
    → ((q : End) → has_end mid.busy q ≡ true → (p.depth ≡ old.depth) × (has_end old.busy q ≡ true))
    → (p.depth ≡ old.depth → (q : End) → has_end old.busy q ≡ true → has_end mid.busy q ≡ true)
    → Picks mid less p s → Updates end_cmp less.busy new.busy (p.high, s) true → new.count ≡ less.count → Takes old new p s
takes_by old mid less new p s c from stays (added e d same full) u n =
    fresh (e ∙ c) (n ∙ d ∙ ap (λ z. z + 1) c)
    (λ q h. ⊎_elim
    (λ b. inr (from q (subst (λ z. has_end z q ≡ true) same b)))
    (λ k. inl (sym (same_end (p.high, s) q k)))
    (added_from _ _ _ (u.0 q) h))
    (λ depth q h. full q (stays depth q h))
    (λ depth q h. added_kept _ _ _ (u.0 q) (subst (λ z. has_end z q ≡ true) (sym same) (stays depth q h)))
    u.1
takes_by old mid less new p s c from stays (freed f) u n =
    let was = from (f.end, s) f.there in
    reuse f.end was.0 was.1 f.above (n ∙ f.count ∙ c)
    (λ q h. ⊎_elim
    (λ b. let old_end = f.from q b in inr ((from q old_end.0).1, old_end.1))
    (λ k. inl (sym (same_end (p.high, s) q k)))
    (added_from _ _ _ (u.0 q) h))
    (λ q h ne. added_kept _ _ _ (u.0 q) (f.kept q (stays was.0 q h) ne))
    u.1
