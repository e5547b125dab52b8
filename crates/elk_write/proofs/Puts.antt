-- Members put into an object, one after the other.
use Rattle.std.proofs.Common.{◌≡◌, ℕ, List, Ordering, Less, Equal, Greater, Bool, true, false, is_eq, bytes_eq, refl, sym, ap, ◌∙◌, nat_cmp, inl, inr}
use Rattle.std.proofs.lemmas.Cmp.{nat_list_cmp_total}
use Rattle.std.proofs.lemmas.Map.Text.{is_eq-slice_cmp}
use Rattle.std.proofs.lemmas.Slice.Eq.{bytes_eq-Decides}
use Rattle.std.proofs.lemmas.Bool.{cases_Bool}
use Rattle.std.specs.Prelude.{if◌then◌else◌}
use Rattle.std.specs.Ordering.{match_ordering, ordering_reverse}
use Rattle.std.specs.Cmp.Lexicographic.{slice_cmp}
use Rattle.serde_json.specs.Data.{Data, Members, no_members, member, put}
use Rattle.elk_json.specs.Keyed.{IsBelow, AreMembersKeyed}
use Rattle.elk_write.specs.Strip.{members_but, strip_members, strip_member}
use Rattle.elk_write.specs.Merged.{append, IsSorted}

abbrev pub cmp : List ℕ → List ℕ → Ordering
cmp = slice_cmp nat_cmp

-- keys that compare equal are equal
pub same_key : (k l : List ℕ) → cmp k l ≡ Equal → k ≡ l
same_key k l e = (bytes_eq-Decides k l).0 (sym (is_eq-slice_cmp k l) ∙ ap is_eq e)

pub apart : (k l : List ℕ) → bytes_eq k l ≡ false → k ≡ l → ⊥
apart k l h e = let d : bytes_eq k l ≡ true = (bytes_eq-Decides k l).1 e in let bad : true ≡ false = sym d ∙ h in absurd (cc)

-- all members put, from the first to the last
abbrev pub put_all : Members → Members → Members
put_all into no_members = into
put_all into (member k d ms) = put_all (put k d into) ms

pub append_none : (ms : Members) → append ms no_members ≡ ms
append_none no_members = refl
append_none (member k d ms) = ap (member k d) (append_none ms)

pub append_append : (a b c : Members) → append (append a b) c ≡ append a (append b c)
append_append no_members b c = refl
append_append (member k d a) b c = ap (member k d) (append_append a b c)

pub sorted_keyed : (ms : Members) → AreMembersKeyed ms → IsSorted ms
sorted_keyed no_members h = tt
sorted_keyed (member k d ms) h = (h.0, sorted_keyed ms h.2)

-- each key of the one stands below each of the other
abbrev pub AreBelow : Members → Members → Type 0
AreBelow no_members ms = Unit {0}
AreBelow (member k d rest) ms = IsBelow k ms × AreBelow rest ms

below_rest : (into : Members) (k : List ℕ) (d : Data) (ms : Members) → AreBelow into (member k d ms) → AreBelow into ms
below_rest no_members k d ms h = tt
below_rest (member l e into) k d ms h = (h.0.1, below_rest into k d ms h.1)

below_more : (into : Members) (k : List ℕ) (d : Data) (ms : Members) → AreBelow into ms → IsBelow k ms → AreBelow (append into (member k d no_members)) ms
below_more no_members k d ms h b = (b, tt)
below_more (member l e into) k d ms h b = (h.0, below_more into k d ms h.1 b)

put_above : (into : Members) (k : List ℕ) (d e : Data) (ms : Members) → AreBelow into (member k e ms) → put k d into ≡ append into (member k d no_members)
put_above no_members k d e ms h = refl
put_above (member l x into) k d e ms h =
    let above : cmp k l ≡ Greater = nat_list_cmp_total.antisymm k l ∙ ap ordering_reverse h.0.0 in
    rw above (ap (member l x) (put_above into k d e ms h.1))

put_all_after : (into ms : Members) → AreBelow into ms → IsSorted ms → put_all into ms ≡ append into ms
put_all_after into no_members b h = sym (append_none into)
put_all_after into (member k d ms) b h =
    ap (λ i. put_all i ms) (put_above into k d d ms b)
    ∙ put_all_after (append into (member k d no_members)) ms (below_more into k d ms (below_rest into k d ms b) h.0) h.1
    ∙ append_append into (member k d no_members) ms

-- members in order, put one after the other, are themselves
pub put_all_sorted : (ms : Members) → IsSorted ms → put_all no_members ms ≡ ms
put_all_sorted ms h = put_all_after no_members ms tt h

-- ---- a member that is not looked at may be put

strip_by : (o : Ordering) (gone : List ℕ → Bool) (k l : List ℕ) (d e : Data) (ms : Members) → cmp k l ≡ o → gone k ≡ true → strip_members gone (put k d ms) ≡ strip_members gone ms
    → strip_members gone (match_ordering o (member k d (member l e ms)) (member l d ms) (member l e (put k d ms))) ≡ strip_members gone (member l e ms)
strip_by Less gone k l d e ms is g ih = rw g refl
strip_by Equal gone k l d e ms is g ih =
    let gl : gone l ≡ true = ap gone (sym (same_key k l is)) ∙ g in
    rw gl refl
strip_by Greater gone k l d e ms is g ih = ap (λ s. if gone l then s else member l (strip_member l e) s) ih

pub strip_put : (gone : List ℕ → Bool) (k : List ℕ) (d : Data) (ms : Members) → gone k ≡ true → strip_members gone (put k d ms) ≡ strip_members gone ms
strip_put gone k d no_members g = rw g refl
strip_put gone k d (member l e ms) g = strip_by (cmp k l) gone k l d e ms refl g (strip_put gone k d ms g)

but_by : (o : Ordering) (gone : List ℕ → Bool) (k l : List ℕ) (d e : Data) (ms : Members) → cmp k l ≡ o → gone k ≡ true → members_but gone (put k d ms) ≡ members_but gone ms
    → members_but gone (match_ordering o (member k d (member l e ms)) (member l d ms) (member l e (put k d ms))) ≡ members_but gone (member l e ms)
but_by Less gone k l d e ms is g ih = rw g refl
but_by Equal gone k l d e ms is g ih =
    let gl : gone l ≡ true = ap gone (sym (same_key k l is)) ∙ g in
    rw gl refl
but_by Greater gone k l d e ms is g ih = ap (λ s. if gone l then s else member l e s) ih

pub but_put : (gone : List ℕ → Bool) (k : List ℕ) (d : Data) (ms : Members) → gone k ≡ true → members_but gone (put k d ms) ≡ members_but gone ms
but_put gone k d no_members g = rw g refl
but_put gone k d (member l e ms) g = but_by (cmp k l) gone k l d e ms refl g (but_put gone k d ms g)

-- ---- what is kept

pub below_but : (gone : List ℕ → Bool) (k : List ℕ) (ms : Members) → IsBelow k ms → IsBelow k (members_but gone ms)
below_but gone k no_members h = tt
below_but gone k (member l d ms) h = elim (cases_Bool (gone l)) [ inl is ↦ rw is (below_but gone k ms h.1) | inr is ↦ rw is (h.0, below_but gone k ms h.1) ]

pub sorted_but : (gone : List ℕ → Bool) (ms : Members) → IsSorted ms → IsSorted (members_but gone ms)
sorted_but gone no_members h = tt
sorted_but gone (member l d ms) h = elim (cases_Bool (gone l)) [ inl is ↦ rw is (sorted_but gone ms h.1) | inr is ↦ rw is (below_but gone l ms h.0, sorted_but gone ms h.1) ]

pub but_but : (gone : List ℕ → Bool) (ms : Members) → members_but gone (members_but gone ms) ≡ members_but gone ms
but_but gone no_members = refl
but_but gone (member l d ms) = elim (cases_Bool (gone l)) [ inl is ↦ rw is (but_but gone ms) | inr is ↦ rw (is, is) (ap (member l d) (but_but gone ms)) ]
