-- The rows woven one after the other into the linked list.
use Rattle.std.proofs.Common.{◌≡◌, ℕ, ◌+◌, ◌<◌, ◌≤◌, List, [], length, get_or, Bool, false, refl, sym, ◌∙◌, ap, subst, inl, inr, Option, true≢false}
use Rattle.std.proofs.lemmas.List.{drop_more, drop_all}
use Rattle.std.proofs.lemmas.Bool.{cases_Bool}
use Rattle.elk_layers.specs.Layered.{Plain, row_at}
use Rattle.unit_blocks.specs.Weaving.{woven}
use Rattle.unit_blocks.specs.Blocks.{names_of, name_at, is_before, woven_rows, block_order}
use Rattle.unit_blocks.specs.Chains.{IsChain, IsWeavable, has_entry, IsWovenThrough, CanWeaveRows, HoldList}
use Rattle.unit_blocks.proofs.BlockLemmas.{weave_on, can_weave, nothing_woven, is_known, is_new, block_order_is}

module _ (l : Plain) (rows : List (List ℕ)) (into : List (Option ℕ)) (names : List ℕ) (c : CanWeaveRows l rows into names) where
  own_name : (u : ℕ) → u < length l.units → has_entry into u ≡ false → name_at names u ≡ u
  own_name u h e = elim (c.named.first u h) [
    | inl own ↦ own
    | inr d ↦ absurd (true≢false (sym (c.entries.entered u h d) ∙ e))
  ]

  weavable : (g : ℕ) (next : List ℕ) → g < length rows → (w : IsWovenThrough l rows names g next) → IsWeavable (is_before l g) w.order (row_at rows g) into names (length l.units)
  weavable g next h w =
      let on = weave_on l rows c.chosen names c.sound c.are_rows c.straight c.named g w.order h w.so_far in
      record {
        can = can_weave l rows c.chosen names c.sound c.are_rows c.straight c.named g w.order h w.so_far;
        no_repeat = on.once;
        below = λ n k. (on.own n k).0;
        entered = λ i k. let u = get_or (row_at rows g) i 0 in let hu = c.are_rows.in_range g h i k in elim (cases_Bool (has_entry into u)) [
          | inl t ↦ is_known l rows c.chosen names c.sound c.are_rows c.straight c.named g i h k (c.entries.only u hu t) ∙ sym t
          | inr f ↦ is_new l rows c.chosen names c.sound c.are_rows c.straight c.named g i h k (own_name u hu f) ∙ sym f
        ];
        own = λ i k e. own_name (get_or (row_at rows g) i 0) (c.are_rows.in_range g h i k) e;
      }

  pub rows_start : (next : List ℕ) → get_or next (length l.units) 0 ≡ length l.units → IsWovenThrough l rows names 0 next
  rows_start next e =
      record { order = []; chain = e; so_far = nothing_woven l rows c.chosen names c.sound c.are_rows c.straight c.named; rest = refl }

  pub rows_more : (g : ℕ) (next next' row : List ℕ) → g < length rows → row_at rows g ≡ row → IsWovenThrough l rows names g next
      → ((known : ℕ → Bool) (order : List ℕ) → IsWeavable known order row into names (length l.units) → IsChain next (length l.units) order (length l.units) → IsChain next' (length l.units) (woven known order (names_of names row)) (length l.units))
      → IsWovenThrough l rows names (g + 1) next'
  rows_more g next next' row h e w step =
      record {
        order = woven (is_before l g) w.order (names_of names (row_at rows g));
        chain = subst (λ xs. IsChain next' (length l.units) (woven (is_before l g) w.order (names_of names xs)) (length l.units)) (sym e)
            (step (is_before l g) w.order (subst (λ xs. IsWeavable (is_before l g) w.order xs into names (length l.units)) e (weavable g next h w)) w.chain);
        so_far = weave_on l rows c.chosen names c.sound c.are_rows c.straight c.named g w.order h w.so_far;
        rest = sym (ap (woven_rows l names g w.order) (drop_more rows g [] h)) ∙ w.rest;
      }

  pub rows_end : (g : ℕ) (next : List ℕ) → length rows ≤ g → IsWovenThrough l rows names g next → IsChain next (length l.units) (block_order l rows names) (length l.units)
  rows_end g next h w =
      let e : w.order ≡ block_order l rows names = sym (ap (woven_rows l names g w.order) (drop_all g rows h)) ∙ w.rest in
      subst (λ xs. IsChain next (length l.units) xs (length l.units)) e w.chain

-- what weaving a row into the links does, whatever they hold
abbrev pub Weaves : List (Option ℕ) → List ℕ → ℕ → List ℕ → List ℕ → List ℕ → Type 0
Weaves into names end next next' row =
    (known : ℕ → Bool) (order : List ℕ) → IsWeavable known order row into names end → IsChain next end order end → IsChain next' end (woven known order (names_of names row)) end

pub weaves_same : (into : List (Option ℕ)) (names : List ℕ) (end end' : ℕ) (next next' row row' : List ℕ) → end ≡ end' → row ≡ row' → Weaves into names end next next' row → Weaves into names end' next next' row'
weaves_same into names end end' next next' row row' e r w =
    subst (λ n. Weaves into names n next next' row') e (subst (λ xs. Weaves into names end next next' xs) r w)

pub holds_order : (l : Plain) (rows : List (List ℕ)) (into : List (Option ℕ)) (names : List ℕ) (next : List ℕ) (end : ℕ) → CanWeaveRows l rows into names → end ≡ length l.units → IsChain next end (block_order l rows names) end → HoldList next end (block_order l rows names)
holds_order l rows into names next end c e chain =
    let is = block_order_is l rows c.chosen names c.sound c.are_rows c.straight c.named in
    record { chain = chain; once = is.no_repeat; below = λ n k. rw e (is.own n k).0 }
