-- The turns of a search.
use Rattle.std.proofs.Common.{◌≡◌, ℕ, ◌+◌, ◌<◌, ◌≤◌, cond, Bool, true, false, ℤ, pos, ◌≤ℤ◌, List, length, get_or, set, arith, sym, ap, subst, ◌∙◌, inl, inr}
use Rattle.std.proofs.lemmas.Bool.{cases_eq}
use Rattle.std.proofs.lemmas.List.{get_or-set_same, get_or-set_other, length-set}
use Rattle.std.proofs.lemmas.List.Sums.{sum_by-set}
use Rattle.network_laws.specs.declared.network.NetEdge.{NetEdge}
use Rattle.network_laws.specs.Network.{edge_at, EndsBelow}
use Rattle.network_laws.specs.Layering.{layer_of, IsLayering}
use Rattle.network_laws.specs.Tight.{given, asked}
use Rattle.flow_dual.specs.declared.Label.{Label}
use Rattle.flow_dual.specs.State.{marked, LeadsOn, IsClosed, SomeLeaves, IsLed}
use Rattle.flow_dual.specs.Search.{IsSearch, Reaches}
use Rattle.flow_dual.specs.Rounds.{unreached, IsWithin, IsFound}
use Rattle.flow_dual.proofs.Raises.{raise_keeps_tight}
use Rattle.flow_dual.proofs.Searching.{search_grows, raise_keeps_search}
use Rattle.flow_dual.proofs.Augmenting.{raise_stays_low, found_is_low, some_edge_leaves}

clash : {P : Type 0} (b : Bool) → b ≡ true → b ≡ false → P
clash b t f = let bad : true ≡ false = sym t ∙ f in absurd cc

module _ (nodes : ℕ) (edges : List NetEdge) (flow : List ℕ) (source turn : ℕ) (layers : List ℤ) (reached : List Bool) (labels : List Label) (tree : List Bool) (ends : EndsBelow nodes edges) (w : IsWithin nodes edges flow source turn layers reached labels tree) where
  pub within_leaves : source < nodes → asked edges flow source < given edges flow source → IsClosed edges layers flow (marked reached) → SomeLeaves edges (marked reached)
  within_leaves there more c = some_edge_leaves nodes edges layers flow source (marked reached) ends there w.searched.source_in more w.low.none_lacks c

  pub lead_within : (layers' : List ℤ) → IsLed edges layers flow (marked reached) layers' → IsLayering edges layers' → ((v : ℕ) → pos 0 ≤ℤ layer_of layers' v) → IsWithin nodes edges flow source turn layers' reached labels tree
  lead_within layers' (inl same) up zero_up = subst (λ x. IsWithin nodes edges flow source turn x reached labels tree) (sym same) w
  lead_within layers' (inr r) up zero_up =
      let n = w.layer_for_each in
      let m = w.mark_for_each in
      let ends' : EndsBelow (length layers) edges = subst (λ x. EndsBelow x edges) (sym n) ends in
      let a = r.slack.1 in
      record {
        searched = raise_keeps_search edges layers layers' flow source turn r.by reached labels tree ends' (m ∙ sym n) r.raise w.searched;
        low = raise_stays_low nodes edges layers layers' flow source turn r.by a.0 reached labels tree n ends w.searched r.raise a.1 a.2 a.3 w.low;
        layer_for_each = r.raise.as_long ∙ n;
        mark_for_each = m;
        layering = up;
        from_zero = zero_up;
        on_tight = raise_keeps_tight edges layers layers' (marked reached) r.by ends' r.raise (λ k l x y. r.slack.0 k l (x, y)) flow r.closed w.on_tight;
        count = w.count;
        begun = w.begun;
      }

  module _ (k v : ℕ) (reached' : List Bool) (labels' : List Label) (there : k < length edges) (on : LeadsOn layers (marked reached) (edge_at edges k) (get_or flow k 0)) (g : Reaches reached labels (edge_at edges k) k (get_or flow k 0) turn reached' labels' v) where
    pub what : (v < nodes) × (marked reached v ≡ false) × (reached' ≡ set reached v true)
    what =
        elim g [
          | inl x ↦ elim on [
            | inl l ↦ (rw x.1 (ends k there).1, rw x.1 l.1, rw x.1 x.2)
            | inr l ↦ clash (marked reached (edge_at edges k).tail) x.0 l.1
          ]
          | inr x ↦ elim on [
            | inl l ↦ clash (marked reached (edge_at edges k).tail) l.0 x.0
            | inr l ↦ (rw x.1 (ends k there).0, rw x.1 l.1, rw x.1 x.2)
          ]
        ]

    new_search : IsSearch edges layers flow source (turn + 1) reached' labels' (set tree k true)
    new_search =
        let m = w.mark_for_each in
        search_grows edges layers flow source turn k v reached reached' labels labels' tree (subst (λ x. EndsBelow x edges) (sym m) ends) w.on_tight w.searched w.begun there on g

    -- what was not reached after was not before
    before : (x : ℕ) → marked reached' x ≡ false → marked reached x ≡ false
    before x h =
        let i = ap (λ xs. marked xs x) what.2 in
        elim (cases_eq x v) [
          | inl e ↦ ap (marked reached) e ∙ what.1
          | inr ne ↦ sym (get_or-set_other reached v x true false ne) ∙ (sym i ∙ h)
        ]

    pub turn_more : asked edges flow v ≤ given edges flow v → IsWithin nodes edges flow source (turn + 1) layers reached' labels' (set tree k true)
    turn_more enough =
        let m = w.mark_for_each in
        let inside : v < length reached = let l = what.0 in omega (arith, m, l) in
        record {
          searched = new_search;
          low = record {
            outside = λ x l h. w.low.outside x l (before x h);
            all = w.low.all;
            lacking = w.low.lacking;
            none_lacks = λ x h. elim (cases_eq x v) [
              | inl e ↦ subst (λ y. asked edges flow y ≤ given edges flow y) (sym e) enough
              | inr ne ↦ w.low.none_lacks x (sym (get_or-set_other reached v x true false ne) ∙ (sym (ap (λ xs. marked xs x) what.2) ∙ h))
            ];
          };
          layer_for_each = w.layer_for_each;
          mark_for_each = ap length what.2 ∙ (length-set reached v true ∙ m);
          layering = w.layering;
          from_zero = w.from_zero;
          on_tight = w.on_tight;
          count =
              let c = w.count in
              let s = sum_by-set (λ b. cond b 0 1) reached v true false inside in
              let out_one : Bool → ℕ = λ b. cond b 0 1 in
              let o : out_one (marked reached v) ≡ 1 = ap out_one what.1 in
              let i = ap unreached what.2 in
              omega (arith, c, s, o, i);
          begun = omega arith;
        }

    pub turn_last : given edges flow v < asked edges flow v → IsFound nodes edges flow source v layers reached' labels' (set tree k true)
    turn_last lacks =
        let m = w.mark_for_each in
        let inside : v < length reached = let l = what.0 in omega (arith, m, l) in
        let in_now : marked reached' v ≡ true = ap (λ xs. marked xs v) what.2 ∙ get_or-set_same reached v true false inside in
        record {
          turn = turn + 1;
          searched = new_search;
          is_node = what.0;
          reached_to = in_now;
          lacks = lacks;
          layer_for_each = w.layer_for_each;
          layering = w.layering;
          from_zero = w.from_zero;
          on_tight = w.on_tight;
          low = found_is_low nodes edges layers flow source (turn + 1) v reached' labels' (set tree k true) (marked reached) new_search w.low before what.0 in_now lacks;
          lacking = w.low.lacking;
        }
