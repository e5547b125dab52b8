-- Sums over numbers below a bound are sums over lists, and so are those of networks.
use Rattle.std.proofs.Common.{◌≡◌, ℕ, zero, suc, ◌+◌, ◌*◌, ◌<◌, inl, inr, ⊎_elim, Bool, true, false, ◌&&◌, cond, eqb, List, [], ◌∷◌, ◌++◌, map, length, get_or, ℤ, pos, ◌+ℤ◌, refl, ap, ap₂, ◌∙◌, arith, add-zero}
use Rattle.std.specs.List.{filter, range_with_len}
use Rattle.std.proofs.lemmas.Bool.{cases_Bool}
use Rattle.elk_doc.specs.Numbers.{numbers_below, sum_below, total_below}
use Rattle.elk_doc.proofs.NumberLaws.{numbers_below-more, numbers_below-same}
use Rattle.network_laws.specs.declared.network.NetEdge.{NetEdge}
use Rattle.network_laws.specs.Layering.{weighed, weights, at_node}
use Rattle.level_model.proofs.Lists.{Has}

-- the sum over a list
unfoldable pub total : (ℕ → ℕ) → List ℕ → ℕ
total f [] = 0
total f (x ∷ xs) = f x + total f xs

total_push : (f : ℕ → ℕ) (xs : List ℕ) (x : ℕ) → total f (xs ++ x ∷ []) ≡ total f xs + f x
unfolding total
total_push f [] x = omega arith
total_push f (y ∷ ys) x = let rest = total_push f ys x in omega (arith, rest)

pub sum_listed : (p : ℕ → Bool) (f : ℕ → ℕ) (m : ℕ) → sum_below p f m ≡ total f (numbers_below p m)
unfolding sum_below numbers_below total
sum_listed p f zero = refl
sum_listed p f (suc m) =
    ⊎_elim
    (λ t. rw (numbers_below-more p m t, total_push f (numbers_below p m) m, t) (ap (λ s. s + f m) (sum_listed p f m)))
    (λ e. rw (numbers_below-same p m e, e) (add-zero (sum_below p f m) ∙ sum_listed p f m))
    (cases_Bool (p m))

both : (b c : Bool) (n : ℕ) → cond (b && c) n 0 ≡ cond b (cond c n 0) 0
both true c n = refl
both false c n = refl

-- a sum under two tests
pub sum_and : (p q : ℕ → Bool) (f : ℕ → ℕ) (m : ℕ) → sum_below (λ e. p e && q e) f m ≡ sum_below p (λ e. cond (q e) (f e) 0) m
unfolding sum_below
sum_and p q f zero = refl
sum_and p q f (suc m) = ap₂ (λ s t. s + t) (sum_and p q f m) (both (p m) (q m) (f m))

pub total_same : (f g : ℕ → ℕ) (xs : List ℕ) → ((x : ℕ) → Has xs x → f x ≡ g x) → total f xs ≡ total g xs
unfolding total
total_same f g [] same = refl
total_same f g (x ∷ xs) same = ap₂ (λ s t. s + t) (same x (inl refl)) (total_same f g xs (λ y h. same y (inr h)))

-- what a list's numbers give is what the numbers of a range give
pub total_range : (f g : ℕ → ℕ) (xs : List ℕ) (a : ℕ) → ((j : ℕ) → j < length xs → f (get_or xs j 0) ≡ g (a + j))
    → total f xs ≡ total g (range_with_len a (length xs))
unfolding total
total_range f g [] a same = refl
total_range f g (x ∷ xs) a same =
    ap₂ (λ s t. s + t)
    (same 0 (omega arith) ∙ ap g (add-zero a))
    (total_range f g xs (a + 1) (λ j h. same (suc j) (omega (arith, h)) ∙ ap g (omega arith)))

-- numbers that give nothing may be left out
pub total_filter : (test : ℕ → Bool) (f : ℕ → ℕ) (xs : List ℕ) → ((x : ℕ) → Has xs x → test x ≡ false → f x ≡ 0) → total f xs ≡ total f (filter test xs)
unfolding total
total_filter test f [] none = refl
total_filter test f (x ∷ xs) none =
    let rest = total_filter test f xs (λ y h. none y (inr h)) in
    ⊎_elim
    (λ t. rw t (ap (λ s. f x + s) rest))
    (λ e. rw e (ap (λ s. s + total f xs) (none x (inl refl) e) ∙ omega (arith, rest)))
    (cases_Bool (test x))

-- ---- networks

pub weights_listed : (net : ℕ → NetEdge) (ks : List ℕ) → weights (map net ks) ≡ map (λ k. (net k).weight) ks
weights_listed net [] = refl
weights_listed net (k ∷ ks) = ap (λ ws. (net k).weight ∷ ws) (weights_listed net ks)

pub weighed_listed : (g : NetEdge → ℕ) (net : ℕ → NetEdge) (amount : ℕ → ℕ) (ks : List ℕ)
    → weighed g (map net ks) (map amount ks) ≡ total (λ k. amount k * g (net k)) ks
unfolding total
weighed_listed g net amount [] = refl
weighed_listed g net amount (k ∷ ks) = ap (λ s. amount k * g (net k) + s) (weighed_listed g net amount ks)

pub at_node_listed : (end : NetEdge → ℕ) (net : ℕ → NetEdge) (amount : ℕ → ℕ) (ks : List ℕ) (v : ℕ)
    → at_node end (map net ks) (map amount ks) v ≡ total (λ k. cond (eqb (end (net k)) v) (amount k) 0) ks
unfolding total
at_node_listed end net amount [] v = refl
at_node_listed end net amount (k ∷ ks) v = ap (λ s. cond (eqb (end (net k)) v) (amount k) 0 + s) (at_node_listed end net amount ks v)

-- ---- signed sums

signed : (b : Bool) (z : ℤ) (n : ℕ) → (b ≡ true → z ≡ pos n) → cond b z (pos 0) ≡ pos (cond b n 0)
signed true z n h = h refl
signed false z n h = refl

pub total_natural : (p : ℕ → Bool) (f : ℕ → ℤ) (g : ℕ → ℕ) (m : ℕ) → ((e : ℕ) → e < m → p e ≡ true → f e ≡ pos (g e)) → total_below p f m ≡ pos (sum_below p g m)
unfolding total_below sum_below
total_natural p f g zero same = refl
total_natural p f g (suc m) same =
    ap₂ (λ s t. s +ℤ t) (total_natural p f g m (λ e h t. same e (omega (arith, h)) t)) (signed (p m) (f m) (g m) (same m (omega arith)))
