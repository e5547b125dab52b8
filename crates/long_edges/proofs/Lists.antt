-- Keys in lists.
use Rattle.std.proofs.Common.{◌≡◌, ◌≢◌, ℕ, ◌+◌, ◌<◌, ◌↔◌, eqb, eq-eqb, cond, Bool, true, false, List, [], ◌∷◌, ◌++◌, map, Option, IsSome, is_some, arith, refl, sym, ap, ◌∙◌, inl, inr}
use Rattle.std.proofs.lemmas.Bool.{cases_Bool}
use Rattle.std.proofs.lemmas.Bool.Decides.{nat_tests}
use Rattle.graph_arena.specs.Graph.{occurs}
use Rattle.long_edges.specs.declared.chains.Lane.{Lane}
use Rattle.long_edges.specs.Chains.{last_of, tip, lanes_on, lane_nodes, one_if_some}

pub eqb_other : (m n : ℕ) → m ≢ n → eqb m n ≡ false
eqb_other m n h = grind (arith, nat_tests, h)

pub occurs-append : (k : ℕ) (xs ys : List ℕ) → occurs k (xs ++ ys) ≡ occurs k xs + occurs k ys
occurs-append k [] ys = omega arith
occurs-append k (x ∷ xs) ys = let i = occurs-append k xs ys in omega (arith, i)

pub occurs_one : (k : ℕ) → occurs k (k ∷ []) ≡ 1
occurs_one k = rw (eq-eqb k k refl) refl

pub occurs_none : (k j : ℕ) → j ≢ k → occurs k (j ∷ []) ≡ 0
occurs_none k j h = rw (eqb_other j k h) refl

pub occurs_head : (k : ℕ) (ks : List ℕ) → 0 < occurs k (k ∷ ks)
occurs_head k ks = rw (eq-eqb k k refl) (omega arith)

-- ---- the last of a chain

pub last_more : (k : ℕ) (ks : List ℕ) (f : ℕ) → last_of k (ks ++ f ∷ []) ≡ f
last_more k [] f = refl
last_more k (j ∷ ks) f = last_more j ks f

pub last_occurs : (k : ℕ) (ks : List ℕ) → 0 < occurs (last_of k ks) (k ∷ ks)
last_occurs k [] = occurs_head k []
last_occurs k (j ∷ ks) = let i = last_occurs j ks in omega (arith, i)

pub tip_more : (ks : List ℕ) (f : ℕ) → tip (ks ++ f ∷ []) ≡ f
tip_more [] f = refl
tip_more (k ∷ ks) f = last_more k ks f

-- ---- equal at what stands in the list

pub map_same : (f g : ℕ → ℕ) (xs : List ℕ) → ((j : ℕ) → 0 < occurs j xs → f j ≡ g j) → map f xs ≡ map g xs
map_same f g [] h = refl
map_same f g (x ∷ xs) h =
    let i = map_same f g xs (λ j o. h j (omega (arith, o))) in
    let s = h x (occurs_head x xs) in
    ap (λ (z : ℕ). z ∷ map f xs) s ∙ ap (λ (l : List ℕ). g x ∷ l) i

pub map_twice : (f g : ℕ → ℕ) (xs : List ℕ) → map f (map g xs) ≡ map (λ j. f (g j)) xs
map_twice f g [] = refl
map_twice f g (x ∷ xs) = ap (λ (l : List ℕ). f (g x) ∷ l) (map_twice f g xs)

-- ---- one more lane

pub lanes_more : (lanes : List Lane) (l : Lane) (e : ℕ) → l.edge.at ≡ e → lanes_on (lanes ++ l ∷ []) e ≡ lanes_on lanes e ++ l ∷ []
lanes_more [] l e h = rw (eq-eqb l.edge.at e h) refl
lanes_more (x ∷ xs) l e h =
    let i = lanes_more xs l e h in
    elim (cases_Bool (eqb x.edge.at e)) [ inl t ↦ rw t (ap (λ (z : List Lane). x ∷ z) i) | inr n ↦ rw n i ]

pub lanes_same : (lanes : List Lane) (l : Lane) (e : ℕ) → l.edge.at ≢ e → lanes_on (lanes ++ l ∷ []) e ≡ lanes_on lanes e
lanes_same [] l e h = rw (eqb_other l.edge.at e h) refl
lanes_same (x ∷ xs) l e h =
    let i = lanes_same xs l e h in
    elim (cases_Bool (eqb x.edge.at e)) [ inl t ↦ rw t (ap (λ (z : List Lane). x ∷ z) i) | inr n ↦ rw n i ]

pub nodes_more : (lanes : List Lane) (l : Lane) (v : ℕ) → occurs v (lane_nodes (lanes ++ l ∷ [])) ≡ occurs v (lane_nodes lanes) + occurs v (l.node.at ∷ [])
nodes_more [] l v = omega arith
nodes_more (x ∷ xs) l v = let i = nodes_more xs l v in omega (arith, i)

-- ---- nodes

both_some : (a b : Bool) → (a ≡ true → b ≡ true) → (b ≡ true → a ≡ true) → a ≡ b
both_some true b f g = sym (f refl)
both_some false true f g = let q = g refl in absurd cc
both_some false false f g = refl

pub same_live : {A B : Type 0} (a : Option A) (b : Option B) → (IsSome a ↔ IsSome b) → one_if_some a ≡ one_if_some b
same_live a b h = ap (λ (t : Bool). cond t 1 0) (both_some (is_some a) (is_some b) h.0 h.1)
