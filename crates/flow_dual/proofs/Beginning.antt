-- How a search begins, and what is kept where it ends.
use Rattle.std.proofs.Common.{◌≡◌, ℕ, zero, suc, ◌<◌, ◌≤◌, cond, Bool, true, false, ℤ, List, [], ◌∷◌, length, get_or, set, replicate, arith, sym, ap, subst, ◌∙◌, inl, inr}
use Rattle.std.proofs.lemmas.Int.{ints}
use Rattle.std.proofs.lemmas.Bool.{cases_eq, cases_lt}
use Rattle.std.proofs.lemmas.List.{get_or-set_same, get_or-set_other, get_or_past, get_or-replicate, length-set, length-replicate}
use Rattle.std.proofs.lemmas.List.Sums.{sum_by-set, sum_by-cons}
use Rattle.network_laws.specs.declared.network.NetEdge.{NetEdge}
use Rattle.network_laws.specs.Layering.{layer_of}
use Rattle.network_laws.specs.Tight.{given, asked}
use Rattle.network_laws.specs.Linked.{is_marked}
use Rattle.network_laws.proofs.Tightness.{none_below}
use Rattle.flow_dual.specs.declared.Label.{Label}
use Rattle.flow_dual.specs.State.{marked}
use Rattle.flow_dual.specs.Labels.{label_at}
use Rattle.flow_dual.specs.Rounds.{unreached, IsRound, IsWithin, SearchEnds}
use Rattle.flow_dual.specs.Searching.{IsCleared}

-- a list of one value has it everywhere where that is the default
all_default : {A : Type 0} (n i : ℕ) (d : A) → get_or (replicate n d) i d ≡ d
all_default n i d =
    elim (cases_lt i n) [
      | inl l ↦ get_or-replicate n i d d l
      | inr p ↦ get_or_past (replicate n d) i d (let e = length-replicate n d in omega (arith, e, p))
    ]

clash : {P : Type 0} (b : Bool) → b ≡ true → b ≡ false → P
clash b t f = let bad : true ≡ false = sym t ∙ f in absurd cc

none_reached : (n : ℕ) (xs : List Bool) → length xs ≡ n → ((i : ℕ) → get_or xs i false ≡ false) → unreached xs ≡ n
none_reached n [] l h = l
none_reached zero (x ∷ xs) l h = absurd (omega arith)
none_reached (suc n) (x ∷ xs) l h =
    let r = none_reached n xs (omega arith) (λ i. h (suc i)) in
    let one : Bool → ℕ = λ b. cond b 0 1 in
    let o : one x ≡ 1 = ap one (h 0) in
    let c = sum_by-cons (λ b. cond b 0 1) x xs in
    omega (arith, r, o, c)

module _ (nodes : ℕ) (edges : List NetEdge) (layers : List ℤ) (flow : List ℕ) (most source room : ℕ) (r : IsRound nodes edges layers flow most) (there : source < nodes) (some : 0 < room) (more : asked edges flow source < given edges flow source) (before : List Bool) (blanks : List Label) (clear : IsCleared nodes before blanks) where
  abbrev first : Label
  first = record { parent = 0; depth = 0; room = room }

  abbrev reached : List Bool
  reached = set before source true

  abbrev labels : List Label
  labels = set blanks source first

  abbrev tree : List Bool
  tree = replicate (length edges) false

  long : length before ≡ nodes
  long = clear.mark_for_each

  at_source : label_at labels source ≡ first
  at_source = let n = clear.label_for_each in get_or-set_same blanks source first (record { parent = 0; depth = 0; room = 0 }) (omega (arith, n, there))

  no_depth : (v : ℕ) → (label_at labels v).depth ≡ 0
  no_depth v =
      elim (cases_eq v source) [
        | inl e ↦ ap (λ x. (label_at labels x).depth) e ∙ ap (λ (l : Label). l.depth) at_source
        | inr ne ↦ ap (λ (l : Label). l.depth) (get_or-set_other blanks source v first (record { parent = 0; depth = 0; room = 0 }) ne) ∙ clear.no_depth v
      ]

  source_in : marked reached source ≡ true
  source_in = let n = long in get_or-set_same before source true false (omega (arith, n, there))

  only_source : (v : ℕ) → marked reached v ≡ true → v ≡ source
  only_source v m =
      elim (cases_eq v source) [
        | inl e ↦ e
        | inr ne ↦ clash (marked reached v) m (get_or-set_other before source v true false ne ∙ clear.none_reached v)
      ]

  no_mark : (k : ℕ) → is_marked tree k ≡ false
  no_mark k = all_default (length edges) k false

  pub begun : IsWithin nodes edges flow source 1 layers reached labels tree
  begun = record {
    searched = record {
      label_for_each = length-set blanks source first ∙ (clear.label_for_each ∙ sym (length-set before source true ∙ long));
      mark_for_each = length-replicate (length edges) false;
      steps = λ v d. let z = no_depth v in absurd (omega (arith, z, d));
      source_in = source_in;
      source_first = no_depth source;
      told = λ v m. inl (only_source v m);
      found = λ v h. elim h [
        | inl e ↦ ap (marked reached) e ∙ source_in
        | inr d ↦ let z = no_depth v in absurd (omega (arith, z, d))
      ];
      room = λ v m. let e = ap (λ x. (label_at labels x).room) (only_source v m) in let f = ap (λ (l : Label). l.room) at_source in omega (arith, e, f, some);
      earlier = λ v. let z = no_depth v in omega (arith, z);
      parent_in = λ v d. let z = no_depth v in absurd (omega (arith, z, d));
      ends_in = λ k l m. clash (is_marked tree k) m (no_mark k);
      tree_tight = λ k l m. clash (is_marked tree k) m (no_mark k);
      close = λ v w mv mw. let e = ap (layer_of layers) (only_source v mv ∙ sym (only_source w mw)) in omega (arith, ints, e);
    };
    low = record {
      outside = λ v l _. r.low v l;
      all = λ v l. let b = r.low v l in omega (arith, ints, b);
      lacking = r.lacking;
      none_lacks = λ v m. subst (λ x. asked edges flow x ≤ given edges flow x) (sym (only_source v m)) (omega (arith, more));
    };
    layer_for_each = r.layer_for_each;
    mark_for_each = length-set before source true ∙ long;
    layering = r.layering;
    from_zero = none_below nodes layers r.layer_for_each r.from_zero;
    on_tight = r.on_tight;
    count =
        let n = long in
        let s = sum_by-set (λ b. cond b 0 1) before source true false (omega (arith, n, there)) in
        let u = none_reached nodes before long clear.none_reached in
        let one : Bool → ℕ = λ b. cond b 0 1 in
        let o : one (get_or before source false) ≡ 1 = ap one (clear.none_reached source) in
        omega (arith, s, u, o);
    begun = omega arith;
  }

pub search_ends : SearchEnds
search_ends nodes edges layers layers' flow most source to _ _ _ r f = record {
  layer_for_each = f.layer_for_each;
  flow_for_each = r.flow_for_each;
  layering = f.layering;
  on_tight = f.on_tight;
  from_zero = λ v l. f.from_zero v;
  low = f.low;
  lacking = f.lacking;
  flow_low = r.flow_low;
}
