-- One turn of a search: the nearest step is taken, all reached nodes are raised as far, and its node is reached.
use Rattle.std.proofs.Common.{◌≡◌, ◌≢◌, ℕ, zero, suc, ◌+◌, ◌-◌, ◌^◌, ◌<◌, ◌≤◌, cond, Bool, true, false, ◌⊎◌, ℤ, pos, ◌+ℤ◌, ◌≤ℤ◌, ◌<ℤ◌, replicate, List, [], ◌∷◌, ◌++◌, length, get_or, set, Some, arith, refl, sym, ap, subst, ◌∙◌, inl, inr}
use Rattle.std.specs.List.{All, Contains}
use Rattle.std.proofs.lemmas.Int.{ints}
use Rattle.std.proofs.lemmas.Bool.{cases_eq, cases_lt, cases_Bool}
use Rattle.std.proofs.lemmas.List.{get_or-set_same, get_or-set_other, get_or_append_left, get_or_push, get_or_default, length-set, length-append}
use Rattle.std.proofs.lemmas.List.Elements.{All-contains, All-push, All-cons, All-nil}
use Rattle.network_laws.specs.declared.network.NetEdge.{NetEdge}
use Rattle.network_laws.specs.declared.links.End.{End}
use Rattle.network_laws.specs.declared.links.End.TheVariants.{Tail, Head}
use Rattle.network_laws.specs.Network.{edge_at, EndsBelow}
use Rattle.network_laws.specs.Layering.{layer_of, IsLayering}
use Rattle.network_laws.specs.Links.{end_of}
use Rattle.network_laws.specs.Tight.{given, asked}
use Rattle.network_laws.proofs.PathSums.{marked_le}
use Rattle.flow_dual.specs.declared.Label.{Label}
use Rattle.flow_dual.specs.declared.queue.Step.{Step}
use Rattle.flow_dual.specs.State.{marked, Leaves, LeadsOn, IsClosed, IsRaised, IsLeastSlack}
use Rattle.flow_dual.specs.Search.{Reaches}
use Rattle.flow_dual.specs.Rounds.{all_least, IsRound, IsWithin}
use Rattle.flow_dual.specs.Queue.{nearness, Crosses, TakesStep, HasNoStep, IsOpen, IsStepFrom, Offers, OffersBoth}
use Rattle.flow_dual.specs.Searching.{IsRisen, IsOffered, IsSearching, IsSearched, IsCleared, Begins, TellsExcess}
use Rattle.flow_dual.proofs.Leading.{raised_layering, raised_from_zero}
use Rattle.flow_dual.proofs.Beginning.{begun}
use Rattle.flow_dual.proofs.Within.{within_leaves, lead_within, what, turn_more, turn_last}

clash : {P : Type 0} (b : Bool) → b ≡ true → b ≡ false → P
clash b t f = let bad : true ≡ false = sym t ∙ f in absurd cc

-- a list with the places of a set raised
abbrev pub raise_places : List ℤ → (ℕ → Bool) → ℕ → List ℤ
raise_places [] set by = []
raise_places (x ∷ xs) set by = cond (set 0) (x +ℤ pos by) x ∷ raise_places xs (λ i. set (suc i)) by

length_raised : (xs : List ℤ) (set : ℕ → Bool) (by : ℕ) → length (raise_places xs set by) ≡ length xs
length_raised [] set by = refl
length_raised (x ∷ xs) set by = ap suc (length_raised xs (λ i. set (suc i)) by)

raised_in : (xs : List ℤ) (set : ℕ → Bool) (by v : ℕ) → v < length xs → set v ≡ true → layer_of (raise_places xs set by) v ≡ layer_of xs v +ℤ pos by
raised_in [] set by v l m = absurd (omega (arith, l))
raised_in (x ∷ xs) set by zero l m = ap (λ b. cond b (x +ℤ pos by) x) m
raised_in (x ∷ xs) set by (suc v) l m = raised_in xs (λ i. set (suc i)) by v (omega (arith, l)) m

raised_out : (xs : List ℤ) (set : ℕ → Bool) (by v : ℕ) → v < length xs → set v ≡ false → layer_of (raise_places xs set by) v ≡ layer_of xs v
raised_out [] set by v l m = absurd (omega (arith, l))
raised_out (x ∷ xs) set by zero l m = ap (λ b. cond b (x +ℤ pos by) x) m
raised_out (x ∷ xs) set by (suc v) l m = raised_out xs (λ i. set (suc i)) by v (omega (arith, l)) m

is_raised : (xs : List ℤ) (set : ℕ → Bool) (by : ℕ) → IsRaised xs set by (raise_places xs set by)
is_raised xs set by = record { as_long = length_raised xs set by; within = raised_in xs set by; outside = raised_out xs set by }

-- membership of a longer list
pub in_front : {X : Type 0} (xs ys : List X) (x : X) → Contains xs x → Contains (xs ++ ys) x
in_front xs ys x c = (c.0, (let l = c.1 in let n = length-append xs ys in omega (arith, l, n)), get_or_append_left xs ys x c.0 c.1 ∙ c.2)

pub at_end : {X : Type 0} (xs : List X) (x : X) → Contains (xs ++ x ∷ []) x
at_end xs x = (length xs, (let n = length-append xs (x ∷ []) in omega (arith, n)), get_or_push xs x x (length xs) refl)

-- an edge of which this end is in the set and the other is not
crosses_from : (set : ℕ → Bool) (end : End) (e : NetEdge) (amount : ℕ) → set (end_of end e) ≡ true → IsOpen set end e amount → Crosses set e
crosses_from set Tail e amount a b = inl (a, b)
crosses_from set Head e amount a b = inr (a, b.0)

-- a step from one end is from the end that is in the set
step_tail : (layers : List ℤ) (set : ℕ → Bool) (dist : List ℕ) (e : NetEdge) (amount d : ℕ) (end : End) → set e.head ≡ false → set (end_of end e) ≡ true → IsStepFrom layers e amount (get_or dist (end_of end e) 0) end d → IsStepFrom layers e amount (get_or dist e.tail 0) Tail d
step_tail layers set dist e amount d Tail out m s = s
step_tail layers set dist e amount d Head out m s = clash (set e.head) m out

step_head : (layers : List ℤ) (set : ℕ → Bool) (dist : List ℕ) (e : NetEdge) (amount d : ℕ) (end : End) → set e.tail ≡ false → set (end_of end e) ≡ true → IsStepFrom layers e amount (get_or dist (end_of end e) 0) end d → (0 < amount) × (d ≡ get_or dist e.head 0)
step_head layers set dist e amount d Tail out m s = clash (set e.tail) m out
step_head layers set dist e amount d Head out m s = s

step_no_nearer : (layers : List ℤ) (e : NetEdge) (amount near d : ℕ) (end : End) → (layer_of layers e.tail +ℤ pos e.least) ≤ℤ layer_of layers e.head → IsStepFrom layers e amount near end d → near ≤ d
step_no_nearer layers e amount near d Tail up s = omega (arith, ints, up, s)
step_no_nearer layers e amount near d Head up s = let q = s.1 in omega (arith, q)

-- what comes of a raise
pub record Rises (nodes : ℕ) (edges : List NetEdge) (layers : List ℤ) (flow : List ℕ) (source turn : ℕ) (reached : List Bool) (labels : List Label) (tree : List Bool) (dist : List ℕ) (now : ℕ) : Type 0 where
  pub layers' : List ℤ
  pub within : IsWithin nodes edges flow source turn layers' reached labels tree
  pub rise : IsRisen layers (marked reached) dist now layers'

module _ (nodes : ℕ) (edges : List NetEdge) (layers : List ℤ) (flow : List ℕ) (source turn now : ℕ) (reached : List Bool) (labels : List Label) (dist order : List ℕ) (queue : List Step) (ends : EndsBelow nodes edges) (long : length layers ≡ nodes) (up : IsLayering edges layers) (st : IsSearching nodes edges layers flow source turn now reached labels dist order queue) where
  abbrev inside : ℕ → Bool
  inside = marked reached

  abbrev low : ℕ → ℤ
  low v = layer_of layers v

  below : (v : ℕ) → v < nodes → v < length layers
  below v l = omega (arith, l, long)

  edge_low : (k : ℕ) → k < length edges → ((edge_at edges k).tail < length layers) × ((edge_at edges k).head < length layers)
  edge_low k l = let b = ends k l in (below (edge_at edges k).tail b.0, below (edge_at edges k).head b.1)

  -- a queue without a step of use is not the queue of a search
  pub some_step : source < nodes → asked edges flow source < given edges flow source → HasNoStep edges inside queue → ⊥
  some_step there more none =
      let no_way : (k : ℕ) (end : End) → k < length edges → inside (end_of end (edge_at edges k)) ≡ true → IsOpen inside end (edge_at edges k) (get_or flow k 0) → ⊥ =
      λ k end l m o.
      let t = st.complete k end l m o in
      none t.0 t.1 (subst (λ i. Crosses inside (edge_at edges i)) (sym t.2) (crosses_from inside end (edge_at edges k) (get_or flow k 0) m o))
      in
      let s = within_leaves nodes edges flow source turn st.risen reached labels st.tree ends st.within there more (record {
        forward = λ k l tight a. elim (cases_Bool (inside (edge_at edges k).head)) [
          | inl b ↦ b
          | inr b ↦ absurd (no_way k Tail l a b)
        ];
        back = λ k l used a. elim (cases_Bool (inside (edge_at edges k).tail)) [
          | inl b ↦ b
          | inr b ↦ absurd (no_way k Head l a (b, used))
        ];
      }) in
      no_way s.0 Tail s.1 s.2.0 s.2.1

  pub all_there : All (λ (t : Step). t.edge < length edges) queue
  all_there k d l = (st.sound (get_or queue k d) (k, l, get_or_default queue k (get_or queue k d) d l)).is_there

  module _ (s : Step) (rest : List Step) (tk : TakesStep edges inside queue s rest) where
    abbrev d : ℕ
    d = nearness s

    abbrev e : NetEdge
    e = edge_at edges s.edge

    pub is_there : s.edge < length edges
    is_there = (st.sound s tk.was).is_there

    pub later : now ≤ d
    later = (st.sound s tk.was).no_earlier

    least : (t : Step) → Contains queue t → Crosses inside (edge_at edges t.edge) → d ≤ nearness t
    least t c x =
        elim (tk.kept t c x) [
          | inl same ↦ let q = ap nearness same in omega (arith, q)
          | inr in_rest ↦ All-contains (λ t. d ≤ nearness t) rest t tk.nearest in_rest
        ]

    -- an edge that leaves has this slack from where its tail was reached
    slack : (k : ℕ) → k < length edges → inside (edge_at edges k).tail ≡ true → inside (edge_at edges k).head ≡ false → (low (edge_at edges k).tail +ℤ pos (edge_at edges k).least +ℤ pos d) ≤ℤ (low (edge_at edges k).head +ℤ pos (get_or dist (edge_at edges k).tail 0))
    slack k l a b =
        let t = st.complete k Tail l a b in
        let o = st.sound t.0 t.1 in
        let b' : inside (edge_at edges t.0.edge).head ≡ false = subst (λ i. inside (edge_at edges i).head ≡ false) (sym t.2) b in
        let a' : inside (edge_at edges t.0.edge).tail ≡ true = subst (λ i. inside (edge_at edges i).tail ≡ true) (sym t.2) a in
        let step = step_tail layers inside dist (edge_at edges t.0.edge) (get_or flow t.0.edge 0) (nearness t.0) o.end b' o.from_reached o.is_step in
        let near = least t.0 t.1 (inl (a', b')) in
        let fact : (low (edge_at edges t.0.edge).tail +ℤ pos (edge_at edges t.0.edge).least +ℤ pos d) ≤ℤ (low (edge_at edges t.0.edge).head +ℤ pos (get_or dist (edge_at edges t.0.edge).tail 0)) = omega (arith, ints, step, near) in
        subst (λ i. (low (edge_at edges i).tail +ℤ pos (edge_at edges i).least +ℤ pos d) ≤ℤ (low (edge_at edges i).head +ℤ pos (get_or dist (edge_at edges i).tail 0))) t.2 fact

    -- a used edge that enters is stepped over at once
    at_once : (k : ℕ) → k < length edges → 0 < get_or flow k 0 → inside (edge_at edges k).head ≡ true → inside (edge_at edges k).tail ≡ false → d ≤ now
    at_once k l used a b =
        let t = st.complete k Head l a (b, used) in
        let o = st.sound t.0 t.1 in
        let b' : inside (edge_at edges t.0.edge).tail ≡ false = subst (λ i. inside (edge_at edges i).tail ≡ false) (sym t.2) b in
        let a' : inside (edge_at edges t.0.edge).head ≡ true = subst (λ i. inside (edge_at edges i).head ≡ true) (sym t.2) a in
        let step = step_head layers inside dist (edge_at edges t.0.edge) (get_or flow t.0.edge 0) (nearness t.0) o.end b' o.from_reached o.is_step in
        let near = least t.0 t.1 (inr (a', b')) in
        let is = step.1 in
        let q = st.rise.earlier (edge_at edges t.0.edge).head a' in
        omega (arith, near, is, q)

    -- the popped step's own edge
    own : ((inside e.tail ≡ true) × (inside e.head ≡ false) × (low e.tail +ℤ pos e.least +ℤ pos d ≡ low e.head +ℤ pos (get_or dist e.tail 0))) ⊎ ((inside e.head ≡ true) × (inside e.tail ≡ false) × (0 < get_or flow s.edge 0) × (d ≤ now))
    own =
        let o = st.sound s tk.was in
        elim tk.crosses [
          | inl c ↦ inl (c.0, c.1, step_tail layers inside dist e (get_or flow s.edge 0) d o.end c.1 o.from_reached o.is_step)
          | inr c ↦
              let step = step_head layers inside dist e (get_or flow s.edge 0) d o.end c.1 o.from_reached o.is_step in
              inr (c.0, c.1, step.0, (let is = step.1 in let q = st.rise.earlier e.head c.0 in omega (arith, is, q)))
        ]

    raise_now : now < d → Rises nodes edges layers flow source turn reached labels st.tree dist d
    raise_now less =
        let by = d - now in
        let v' = raise_places st.risen inside by in
        let n = st.rise.as_long in
        let ends' : EndsBelow (length st.risen) edges = subst (λ x. EndsBelow x edges) (sym st.within.layer_for_each) ends in
        let r = is_raised st.risen inside by in
        let all_slack : (k : ℕ) → k < length edges → Leaves inside (edge_at edges k) → (layer_of st.risen (edge_at edges k).tail +ℤ pos (edge_at edges k).least +ℤ pos by) ≤ℤ layer_of st.risen (edge_at edges k).head =
        λ k l c.
        let b = edge_low k l in
        let x = st.rise.within (edge_at edges k).tail b.0 c.0 in
        let y = st.rise.outside (edge_at edges k).head b.1 c.1 in
        let z = slack k l c.0 c.1 in
        let p : by + now ≡ d = omega (arith, less) in
        omega (arith, ints, x, y, z, p)
        in
        let is_least : IsLeastSlack edges st.risen inside (length edges) (Some by) = (
          all_slack,
          elim own [
            | inl c ↦ (
              s.edge,
              is_there,
              (c.0, c.1),
              (
                  let b = edge_low s.edge is_there in
                  let x = st.rise.within e.tail b.0 c.0 in
                  let y = st.rise.outside e.head b.1 c.1 in
                  let z = c.2 in
                  let p : by + now ≡ d = omega (arith, less) in
                  omega (arith, ints, x, y, z, p)
                  ),
            )
            | inr c ↦ let q = c.3 in absurd (omega (arith, q, less))
          ],
        )
        in
        let closed : IsClosed edges st.risen flow inside = record {
          forward = λ k l tight a. elim (cases_Bool (inside (edge_at edges k).head)) [
            | inl b ↦ b
            | inr b ↦ let z = all_slack k l (a, b) in let p : by + now ≡ d = omega (arith, less) in absurd (omega (arith, ints, z, tight, p, less))
          ];
          back = λ k l used a. elim (cases_Bool (inside (edge_at edges k).tail)) [
            | inl b ↦ b
            | inr b ↦ let q = at_once k l used a b in absurd (omega (arith, q, less))
          ];
        }
        in
        record {
          layers' = v';
          within = lead_within nodes edges flow source turn st.risen reached labels st.tree ends st.within v' (inr (record { by = by; closed = closed; slack = is_least; raise = r })) (raised_layering edges st.risen v' inside by ends' is_least r st.within.layering) (raised_from_zero edges st.risen v' inside by ends' is_least r st.within.from_zero);
          rise = record {
            as_long = r.as_long ∙ n;
            earlier = λ v m. let q = st.rise.earlier v m in omega (arith, q, less);
            within = λ v l m. let x = st.rise.within v l m in let y = r.within v (omega (arith, l, n)) m in let p : by + now ≡ d = omega (arith, less) in omega (arith, ints, x, y, p);
            outside = λ v l m. let x = st.rise.outside v l m in let y = r.outside v (omega (arith, l, n)) m in omega (arith, ints, x, y);
          };
        }

    pub rises : Rises nodes edges layers flow source turn reached labels st.tree dist d
    rises =
        elim (cases_lt now d) [
          | inl less ↦ raise_now less
          | inr le ↦
              let is : now ≡ d = let q = later in omega (arith, q, le) in
              record { layers' = st.risen; within = st.within; rise = subst (λ x. IsRisen layers inside dist x st.risen) is st.rise }
        ]

    pub leads : LeadsOn rises.layers' inside e (get_or flow s.edge 0)
    leads =
        elim own [
          | inl c ↦ inl (
            c.0,
            c.1,
            (
                let b = edge_low s.edge is_there in
                let x = rises.rise.within e.tail b.0 c.0 in
                let y = rises.rise.outside e.head b.1 c.1 in
                let z = c.2 in
                omega (arith, ints, x, y, z)
                ),
          )
          | inr c ↦ inr (c.0, c.1, c.2)
        ]

    module _ (v : ℕ) (reached' : List Bool) (labels' : List Label) (g : Reaches reached labels e s.edge (get_or flow s.edge 0) turn reached' labels' v) where
      pub new_node : (v < nodes) × (marked reached v ≡ false) × (reached' ≡ set reached v true)
      new_node = what nodes edges flow source turn rises.layers' reached labels st.tree ends rises.within s.edge v reached' labels' is_there leads g

      pub mark_each : length reached' ≡ nodes
      mark_each = ap length new_node.2 ∙ (length-set reached v true ∙ st.within.mark_for_each)

      abbrev dist' : List ℕ
      dist' = set dist v d

      other_mark : (u : ℕ) → u ≢ v → marked reached' u ≡ marked reached u
      other_mark u ne = ap (λ xs. marked xs u) new_node.2 ∙ get_or-set_other reached v u true false ne

      v_in : v < length reached
      v_in = let n = rises.within.mark_for_each in let l = new_node.0 in omega (arith, n, l)

      new_mark : marked reached' v ≡ true
      new_mark = ap (λ xs. marked xs v) new_node.2 ∙ get_or-set_same reached v true false v_in

      new_dist : get_or dist' v 0 ≡ d
      new_dist = let n = st.dist_each in let l = new_node.0 in get_or-set_same dist v d 0 (omega (arith, n, l))

      other_dist : (u : ℕ) → u ≢ v → get_or dist' u 0 ≡ get_or dist u 0
      other_dist u ne = get_or-set_other dist v u d 0 ne

      was_in : (u : ℕ) → u ≢ v → marked reached' u ≡ true → marked reached u ≡ true
      was_in u ne m = sym (other_mark u ne) ∙ m

      was_out : (u : ℕ) → marked reached' u ≡ false → (u ≢ v) × (marked reached u ≡ false)
      was_out u m =
          elim (cases_eq u v) [
            | inl same ↦ clash (marked reached' v) new_mark (subst (λ x. marked reached' x ≡ false) same m)
            | inr ne ↦ (ne, sym (other_mark u ne) ∙ m)
          ]

      was_other : (u : ℕ) → marked reached u ≡ true → u ≢ v
      was_other u m same = clash (marked reached v) (subst (λ x. marked reached x ≡ true) same m) new_node.1

      still_in : (u : ℕ) → marked reached u ≡ true → marked reached' u ≡ true
      still_in u m = other_mark u (was_other u m) ∙ m

      new_rise : IsRisen layers (marked reached') dist' d rises.layers'
      new_rise = record {
        as_long = rises.rise.as_long;
        earlier = λ u m. elim (cases_eq u v) [
          | inl same ↦ let q = ap (λ x. get_or dist' x 0) same ∙ new_dist in omega (arith, q)
          | inr ne ↦ let q = rises.rise.earlier u (was_in u ne m) in let o = other_dist u ne in omega (arith, q, o)
        ];
        within = λ u l m. elim (cases_eq u v) [
          | inl same ↦
              let q = ap (λ x. get_or dist' x 0) same ∙ new_dist in
              let x = rises.rise.outside u l (subst (λ y. marked reached y ≡ false) (sym same) new_node.1) in
              omega (arith, ints, q, x)
          | inr ne ↦ let x = rises.rise.within u l (was_in u ne m) in let o = other_dist u ne in omega (arith, ints, x, o)
        ];
        outside = λ u l m. rises.rise.outside u l (was_out u m).1;
      }

      new_listed : (u : ℕ) → marked reached' u ≡ true → Contains (order ++ v ∷ []) u
      new_listed u m =
          elim (cases_eq u v) [
            | inl same ↦ subst (λ x. Contains (order ++ v ∷ []) x) (sym same) (at_end order v)
            | inr ne ↦ in_front order (v ∷ []) u (st.listed u (was_in u ne m))
          ]

      new_range : All (λ u. u < nodes) (order ++ v ∷ [])
      new_range = All-push (λ u. u < nodes) order v st.in_range new_node.0

      -- the source was raised as far, and the new node stands no further below it than the edges between ask
      pub near_low : asked edges flow v ≤ given edges flow v → all_least edges < 2 ^ 62 → source < nodes → pos 0 ≤ℤ low source → pos d ≤ℤ (low v +ℤ pos (2 ^ 62))
      near_low enough small there zero_up =
          let tree = set st.tree s.edge true in
          let w = turn_more nodes edges flow source turn rises.layers' reached labels st.tree ends rises.within s.edge v reached' labels' is_there leads g enough in
          let c = w.searched.close source v (still_in source st.within.searched.source_in) new_mark in
          let t = marked_le edges tree in
          let x = rises.rise.within source (below source there) st.within.searched.source_in in
          let y = rises.rise.outside v (below v new_node.0) new_node.1 in
          let z = st.first in
          omega (arith, ints, c, t, x, y, z, zero_up, small)

      pub found : given edges flow v < asked edges flow v → IsSearched nodes edges layers flow source v d reached' labels' dist' (order ++ v ∷ [])
      found lacks = record {
        risen = rises.layers';
        tree = set st.tree s.edge true;
        found = turn_last nodes edges flow source turn rises.layers' reached labels st.tree ends rises.within s.edge v reached' labels' is_there leads g lacks;
        rise = new_rise;
        mark_for_each = mark_each;
        dist_each = length-set dist v d ∙ st.dist_each;
        listed = new_listed;
        in_range = new_range;
      }

      ends_in : (marked reached' e.tail ≡ true) × (marked reached' e.head ≡ true)
      ends_in =
          elim g [
            | inl x ↦ (still_in e.tail x.0, subst (λ y. marked reached' y ≡ true) x.1 new_mark)
            | inr x ↦
                elim tk.crosses [
                  | inl c ↦ clash (marked reached e.tail) c.0 x.0
                  | inr c ↦ (subst (λ y. marked reached' y ≡ true) x.1 new_mark, still_in e.head c.0)
                ]
          ]

      -- an open edge from an earlier node was open before, and its step is still there
      still_open : (end : End) (f : NetEdge) (amount : ℕ) → IsOpen (marked reached') end f amount → IsOpen (marked reached) end f amount
      still_open Tail f amount o = (was_out f.head o).1
      still_open Head f amount o = ((was_out f.tail o.0).1, o.1)

      not_open : (end : End) (amount : ℕ) → IsOpen (marked reached') end e amount → ⊥
      not_open Tail amount o = clash (marked reached' e.head) ends_in.1 o
      not_open Head amount o = clash (marked reached' e.tail) ends_in.0 o.0

      more : asked edges flow v ≤ given edges flow v → (q2 q3 : List Step) → Offers edges layers flow (marked reached') Tail v d (length edges) rest q2 → Offers edges layers flow (marked reached') Head v d (length edges) q2 q3 → IsSearching nodes edges layers flow source (turn + 1) d reached' labels' dist' (order ++ v ∷ []) q3
      more enough q2 q3 o1 o2 =
          let keep : (t : Step) → Contains rest t → Contains q3 t = λ t c. o2.kept t (o1.kept t c) in
          let sourced : source ≢ v = was_other source st.within.searched.source_in in
          let old_sound : (t : Step) → Contains rest t → IsOffered edges layers flow (marked reached') dist' d t =
          λ t c.
          let o = st.sound t (tk.fewer t c) in
          let u = end_of o.end (edge_at edges t.edge) in
          let ne = was_other u o.from_reached in record {
            is_there = o.is_there;
            no_earlier = All-contains (λ t. d ≤ nearness t) rest t tk.nearest c;
            end = o.end;
            from_reached = still_in u o.from_reached;
            is_step = subst (λ x. IsStepFrom layers (edge_at edges t.edge) (get_or flow t.edge 0) x o.end (nearness t)) (sym (other_dist u ne)) o.is_step;
          }
          in
          let new_sound : (end : End) (t : Step) → t.edge < length edges → end_of end (edge_at edges t.edge) ≡ v → IsStepFrom layers (edge_at edges t.edge) (get_or flow t.edge 0) d end (nearness t) → IsOffered edges layers flow (marked reached') dist' d t =
          λ end t l is step. record {
            is_there = l;
            no_earlier = step_no_nearer layers (edge_at edges t.edge) (get_or flow t.edge 0) d (nearness t) end (up t.edge l) step;
            end = end;
            from_reached = subst (λ x. marked reached' x ≡ true) (sym is) new_mark;
            is_step = subst (λ x. IsStepFrom layers (edge_at edges t.edge) (get_or flow t.edge 0) x end (nearness t)) (sym (ap (λ x. get_or dist' x 0) is ∙ new_dist)) step;
          }
          in
          record {
            risen = rises.layers';
            tree = set st.tree s.edge true;
            within = turn_more nodes edges flow source turn rises.layers' reached labels st.tree ends rises.within s.edge v reached' labels' is_there leads g enough;
            rise = new_rise;
            dist_each = length-set dist v d ∙ st.dist_each;
            first = other_dist source sourced ∙ st.first;
            sound = λ t c. elim (o2.only t c) [
              | inl c2 ↦ elim (o1.only t c2) [
                | inl c1 ↦ old_sound t c1
                | inr n ↦ new_sound Tail t n.0 n.1 n.2
              ]
              | inr n ↦ new_sound Head t n.0 n.1 n.2
            ];
            complete = λ k end l m o. elim (cases_eq (end_of end (edge_at edges k)) v) [
              | inl same ↦ from_new o1 o2 k end l same o
              | inr ne ↦
                  let m' = was_in (end_of end (edge_at edges k)) ne m in
                  let o' = still_open end (edge_at edges k) (get_or flow k 0) o in
                  let t = st.complete k end l m' o' in
                  let x = subst (λ i. Crosses inside (edge_at edges i)) (sym t.2) (crosses_from inside end (edge_at edges k) (get_or flow k 0) m' o') in
                  elim (tk.kept t.0 t.1 x) [
                    | inl is_s ↦
                        let same_edge : k ≡ s.edge = sym t.2 ∙ ap (λ (y : Step). y.edge) is_s in
                        absurd (not_open end (get_or flow s.edge 0) (subst (λ i. IsOpen (marked reached') end (edge_at edges i) (get_or flow i 0)) same_edge o))
                    | inr c ↦ (t.0, keep t.0 c, t.2)
                  ]
            ];
            listed = new_listed;
            in_range = new_range;
          }
        where
          from_new : Offers edges layers flow (marked reached') Tail v d (length edges) rest q2 → Offers edges layers flow (marked reached') Head v d (length edges) q2 q3 → (k : ℕ) (end : End) → k < length edges → end_of end (edge_at edges k) ≡ v → IsOpen (marked reached') end (edge_at edges k) (get_or flow k 0) → (t : Step) × Contains q3 t × (t.edge ≡ k)
          from_new o1 o2 k Tail l same o = let t = o1.offered k l same o in (t.0, o2.kept t.0 t.1, t.2)
          from_new o1 o2 k Head l same o = o2.offered k l same o

      -- the search goes on from the steps as they are after the turn
      pub turned : asked edges flow v ≤ given edges flow v → (m n : ℕ) (dists orders : List ℕ) (steps : List Step) → m ≡ d → n ≡ m → dists ≡ dist' → orders ≡ order ++ v ∷ [] → OffersBoth edges layers flow (marked reached') v m rest steps → IsSearching nodes edges layers flow source (turn + 1) n reached' labels' dists orders steps
      turned enough m n dists orders steps at still is_dist is_order offers =
          let o = subst (λ x. OffersBoth edges layers flow (marked reached') v x rest steps) at offers in
          subst (λ x. IsSearching nodes edges layers flow source (turn + 1) x reached' labels' dists orders steps) (sym (still ∙ at))
          (subst (λ xs. IsSearching nodes edges layers flow source (turn + 1) d reached' labels' xs orders steps) (sym is_dist)
          (subst (λ xs. IsSearching nodes edges layers flow source (turn + 1) d reached' labels' dist' xs steps) (sym is_order)
          (more enough o.0 steps o.1 o.2)))

-- the search as it begins
module _ (nodes : ℕ) (edges : List NetEdge) (layers : List ℤ) (flow : List ℕ) (source room : ℕ) (before reached : List Bool) (blanks labels : List Label) (old dist : List ℕ) (r : IsRound nodes edges layers flow (2 ^ 62)) (there : source < nodes) (some : 0 < room) (surplus : asked edges flow source < given edges flow source) (clear : IsCleared nodes before blanks) (long : length old ≡ nodes) (b : Begins before blanks old source room reached labels dist) where
  source_in : marked reached source ≡ true
  source_in = let n = clear.mark_for_each in ap (λ xs. marked xs source) b.marks ∙ get_or-set_same before source true false (omega (arith, n, there))

  only_source : (v : ℕ) → marked reached v ≡ true → v ≡ source
  only_source v m =
      elim (cases_eq v source) [
        | inl e ↦ e
        | inr ne ↦ clash (marked reached v) m (ap (λ xs. marked xs v) b.marks ∙ (get_or-set_other before source v true false ne ∙ clear.none_reached v))
      ]

  at_source : get_or dist source 0 ≡ 0
  at_source = ap (λ xs. get_or xs source 0) b.first ∙ get_or-set_same old source 0 0 (omega (arith, long, there))

  from_offers : (order : List ℕ) (q0 q1 q2 : List Step) → order ≡ source ∷ [] → q0 ≡ [] → Offers edges layers flow (marked reached) Tail source 0 (length edges) q0 q1 → Offers edges layers flow (marked reached) Head source 0 (length edges) q1 q2 → IsSearching nodes edges layers flow source 1 0 reached labels dist order q2
  from_offers order q0 q1 q2 is none o1 o2 =
      let new_sound : (end : End) (t : Step) → t.edge < length edges → end_of end (edge_at edges t.edge) ≡ source → IsStepFrom layers (edge_at edges t.edge) (get_or flow t.edge 0) 0 end (nearness t) → IsOffered edges layers flow (marked reached) dist 0 t =
      λ end t l at step. record {
        is_there = l;
        no_earlier = omega arith;
        end = end;
        from_reached = subst (λ x. marked reached x ≡ true) (sym at) source_in;
        is_step = subst (λ x. IsStepFrom layers (edge_at edges t.edge) (get_or flow t.edge 0) x end (nearness t)) (sym (ap (λ x. get_or dist x 0) at ∙ at_source)) step;
      }
      in
      record {
        risen = layers;
        tree = replicate (length edges) false;
        within =
            subst (λ x. IsWithin nodes edges flow source 1 layers x labels (replicate (length edges) false)) (sym b.marks)
            (subst (λ x. IsWithin nodes edges flow source 1 layers (set before source true) x (replicate (length edges) false)) (sym b.label)
            (begun nodes edges layers flow (2 ^ 62) source room r there some surplus before blanks clear));
        rise = record {
          as_long = refl;
          earlier = λ v m. let z = ap (λ x. get_or dist x 0) (only_source v m) ∙ at_source in omega (arith, z);
          within = λ v l m. let z = ap (λ x. get_or dist x 0) (only_source v m) ∙ at_source in omega (arith, ints, z);
          outside = λ v l m. refl;
        };
        dist_each = ap length b.first ∙ (length-set old source 0 ∙ long);
        first = at_source;
        sound = λ t c. elim (o2.only t c) [
          | inl c2 ↦ elim (o1.only t c2) [
            | inl c1 ↦ let e = subst (λ xs. Contains xs t) none c1 in let l = e.1 in absurd (omega (arith, l))
            | inr n ↦ new_sound Tail t n.0 n.1 n.2
          ]
          | inr n ↦ new_sound Head t n.0 n.1 n.2
        ];
        complete = λ k end l m o. from_source o1 o2 k end l (only_source (end_of end (edge_at edges k)) m) o;
        listed = λ v m. subst (λ xs. Contains xs v) (sym is) (subst (λ x. Contains (source ∷ []) x) (sym (only_source v m)) (0, omega arith, refl));
        in_range = subst (λ xs. All (λ v. v < nodes) xs) (sym is) (All-cons (λ v. v < nodes) source [] there (All-nil (λ v. v < nodes)));
      }
    where
      from_source : Offers edges layers flow (marked reached) Tail source 0 (length edges) q0 q1 → Offers edges layers flow (marked reached) Head source 0 (length edges) q1 q2 → (k : ℕ) (end : End) → k < length edges → end_of end (edge_at edges k) ≡ source → IsOpen (marked reached) end (edge_at edges k) (get_or flow k 0) → (t : Step) × Contains q2 t × (t.edge ≡ k)
      from_source o1 o2 k Tail l same o = let t = o1.offered k l same o in (t.0, o2.kept t.0 t.1, t.2)
      from_source o1 o2 k Head l same o = o2.offered k l same o

  pub search_begun : (order : List ℕ) (none steps : List Step) (m n : ℕ) → order ≡ source ∷ [] → none ≡ [] → m ≡ 0 → n ≡ m → OffersBoth edges layers flow (marked reached) source m none steps → IsSearching nodes edges layers flow source 1 n reached labels dist order steps
  search_begun order none steps m n is empty at still offers =
      let o = subst (λ x. OffersBoth edges layers flow (marked reached) source x none steps) at offers in
      subst (λ x. IsSearching nodes edges layers flow source 1 x reached labels dist order steps) (sym (still ∙ at)) (from_offers order none o.0 steps is empty o.1 o.2)

pub tells_lack : (nodes : ℕ) (edges : List NetEdge) (flow : List ℕ) (excess : List ℤ) (v : ℕ) → TellsExcess nodes edges flow excess → v < nodes → layer_of excess v <ℤ pos 0 → given edges flow v < asked edges flow v
tells_lack nodes edges flow excess v t l less = let e = t v l in omega (arith, ints, e, less)

pub tells_surplus : (nodes : ℕ) (edges : List NetEdge) (flow : List ℕ) (excess : List ℤ) (v : ℕ) → TellsExcess nodes edges flow excess → v < nodes → pos 0 <ℤ layer_of excess v → asked edges flow v < given edges flow v
tells_surplus nodes edges flow excess v t l more = let e = t v l in omega (arith, ints, e, more)

pub tells_enough : (nodes : ℕ) (edges : List NetEdge) (flow : List ℕ) (excess : List ℤ) (v : ℕ) → TellsExcess nodes edges flow excess → v < nodes → pos 0 ≤ℤ layer_of excess v → asked edges flow v ≤ given edges flow v
tells_enough nodes edges flow excess v t l le = let e = t v l in omega (arith, ints, e, le)
