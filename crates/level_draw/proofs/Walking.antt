-- The walk along the links of an edge.
use Rattle.std.proofs.Common.{◌≡◌, ℕ, zero, suc, ◌+◌, ◌-◌, ◌<◌, ◌≤◌, List, [], ◌∷◌, ◌++◌, length, take, slice_index, IsFalse, arith, refl, sym, subst, ap, ap₂, ◌∙◌}
use Rattle.std.proofs.lemmas.List.{append_assoc, take_all}
use Rattle.elk_layers.specs.Layered.{link_at}
use Rattle.route_lines.specs.declared.Step.{Step}
use Rattle.level_model.specs.Level.{is_loop}
use Rattle.level_nets.specs.declared.routing.Routing.{Routing}
use Rattle.level_nets.specs.Parts.{Parts}
use Rattle.level_draw.specs.Chains.{IsChain, AreNext}
use Rattle.level_draw.specs.Read.{links_of, tail_of, head_of, link_leg, long_lane_step, next_steps, chain_steps}
use Rattle.level_draw.specs.Reach.{IsLinked}

-- the steps of the first n links of a chain have been pushed, and the n-th is at hand
pub record IsWalk (s : Parts) (r : Routing) (ks : List ℕ) (first now : List Step) (n link : ℕ) : Type 0 where
  pub some : 1 ≤ n
  pub inside : n ≤ length ks
  pub link_is : link ≡ slice_index ks (n - 1)
  pub steps : (old : List Step) → first ≡ old ++ chain_steps s r (take 1 ks) → now ≡ old ++ chain_steps s r (take n ks)

pub first_steps : (s : Parts) (r : Routing) (ks : List ℕ) (link : ℕ) → 0 < length ks → link ≡ slice_index ks 0 → link_leg s r link ∷ [] ≡ chain_steps s r (take 1 ks)
first_steps s r [] link h e = absurd (omega (arith, h))
first_steps s r (k ∷ ks) link h e = ap (λ j. link_leg s r j ∷ []) e

chain_more : (s : Parts) (r : Routing) (ks : List ℕ) (i : ℕ) → suc i < length ks
    → chain_steps s r (take (suc (suc i)) ks) ≡ chain_steps s r (take (suc i) ks) ++ next_steps s r (slice_index ks i) (slice_index ks (suc i))
chain_more s r [] i h = absurd (omega (arith, h))
chain_more s r (k ∷ []) i h = absurd (omega (arith, h))
chain_more s r (k ∷ j ∷ ks) zero h = refl
chain_more s r (k ∷ j ∷ ks) (suc i) h = ap (λ rest. link_leg s r k ∷ long_lane_step s k ∷ rest) (chain_more s r (j ∷ ks) i (omega (arith, h)))

pub walk_start : (s : Parts) (r : Routing) (ks : List ℕ) (first : List Step) (link : ℕ) → 0 < length ks → link ≡ slice_index ks 0 → IsWalk s r ks first first 1 link
walk_start s r ks first link h e =
    record { some = omega arith; inside = omega (arith, h); link_is = e; steps = λ old is. is }

-- two steps more
pub two_more : (xs ys zs : List Step) (a b a' b' : Step) → ys ≡ xs ++ (a ∷ []) → zs ≡ ys ++ (b ∷ []) → a ≡ a' → b ≡ b' → zs ≡ xs ++ (a' ∷ b' ∷ [])
two_more xs ys zs a b a' b' e f g h =
    f ∙ ap (λ l. l ++ (b ∷ [])) e ∙ append_assoc xs (a ∷ []) (b ∷ []) ∙ ap₂ (λ (x y : Step). xs ++ (x ∷ y ∷ [])) g h

pub three_more : (a b c d x y z x' z' : List Step) → b ≡ a ++ x → c ≡ b ++ y → d ≡ c ++ z → x ≡ x' → z ≡ z' → d ≡ a ++ ((x' ++ y) ++ z')
three_more a b c d x y z x' z' e f g h i =
    g ∙ ap (λ l. l ++ z) (f ∙ ap (λ l. l ++ y) e ∙ append_assoc a x y) ∙ append_assoc a (x ++ y) z ∙ ap₂ (λ (l m : List Step). a ++ ((l ++ y) ++ m)) h i

step_more : (s : Parts) (r : Routing) (ks : List ℕ) (old now now' : List Step) (m link link' : ℕ) → suc m < length ks → now ≡ old ++ chain_steps s r (take (suc m) ks)
    → link ≡ slice_index ks m → link' ≡ slice_index ks (suc m) → now' ≡ now ++ next_steps s r link link' → now' ≡ old ++ chain_steps s r (take (suc (suc m)) ks)
step_more s r ks old now now' m link link' h before e f pushed =
    pushed
    ∙ ap (λ xs. xs ++ next_steps s r link link') before
    ∙ append_assoc old (chain_steps s r (take (suc m) ks)) (next_steps s r link link')
    ∙ ap₂ (λ (i j : ℕ). old ++ (chain_steps s r (take (suc m) ks) ++ next_steps s r i j)) e f
    ∙ ap (λ xs. old ++ xs) (sym (chain_more s r ks m h))

pub walk_more : (s : Parts) (r : Routing) (ks : List ℕ) (first now now' : List Step) (n link link' : ℕ) → IsWalk s r ks first now n link → n < length ks → link' ≡ slice_index ks n → now' ≡ now ++ next_steps s r link link'
    → IsWalk s r ks first now' (n + 1) link'
walk_more s r ks first now now' zero link link' walk h e pushed = let some = walk.some in absurd (omega (arith, some))
walk_more s r ks first now now' (suc m) link link' walk h e pushed =
    let next : suc (suc m) ≡ suc m + 1 = omega arith in
    let before : suc m - 1 ≡ m = omega arith in
    let back : suc m ≡ suc m + 1 - 1 = omega arith in
    record {
      some = omega arith;
      inside = omega (arith, h);
      link_is = e ∙ ap (slice_index ks) back;
      steps = λ old is.
          step_more s r ks old now now' m link link' h (walk.steps old is) (walk.link_is ∙ ap (slice_index ks) before) e pushed
          ∙ ap (λ n. old ++ chain_steps s r (take n ks)) next;
    }

pub walk_end : (s : Parts) (r : Routing) (ks : List ℕ) (first now : List Step) (n link : ℕ) → IsWalk s r ks first now n link → length ks ≤ n → (old : List Step) → first ≡ old ++ chain_steps s r (take 1 ks) → now ≡ old ++ chain_steps s r ks
walk_end s r ks first now n link walk h old is = walk.steps old is ∙ ap (λ js. old ++ chain_steps s r js) (take_all n ks h)

module _ (s : Parts) (linked : IsLinked s) (firsts outs : List ℕ) (next : AreNext s (length s.layered.links) firsts outs) (e : ℕ) (h : e < length s.level.edges) (no_loop : IsFalse (is_loop s.level e)) where
  pub chain_of : IsChain s e (tail_of s e) (head_of s e) (links_of s e)
  chain_of = linked.chains e h no_loop

  pub first_link : slice_index firsts e ≡ slice_index (links_of s e) 0
  first_link =
      ap (slice_index firsts) (sym chain_of.first_edge) ∙ next.first_is (slice_index (links_of s e) 0) (chain_of.there 0 chain_of.some) chain_of.first_leaves

  pub link_there : (link n : ℕ) → 1 ≤ n → n ≤ length (links_of s e) → link ≡ slice_index (links_of s e) (n - 1) → link < length s.layered.links
  link_there link n some inside is = subst (λ k. k < length s.layered.links) (sym is) (chain_of.there (n - 1) (omega (arith, some, inside)))

  next_link : (i : ℕ) → i + 1 < length (links_of s e) → slice_index outs (link_at s.layered.links (slice_index (links_of s e) i)).head ≡ slice_index (links_of s e) (i + 1)
  next_link i inside =
      ap (slice_index outs) (chain_of.joined i inside) ∙ next.out_is (slice_index (links_of s e) (i + 1)) (chain_of.there (i + 1) inside) (chain_of.lanes i inside)

  pub link_after : (link n : ℕ) → 1 ≤ n → n < length (links_of s e) → link ≡ slice_index (links_of s e) (n - 1) → slice_index outs (link_at s.layered.links link).head ≡ slice_index (links_of s e) n
  link_after link n some inside is =
      let back : n - 1 + 1 ≡ n = omega (arith, some) in
      ap (λ k. slice_index outs (link_at s.layered.links k).head) is ∙ next_link (n - 1) (omega (arith, some, inside)) ∙ ap (slice_index (links_of s e)) back
