-- What an augmentation keeps, and that no surplus comes back.
use Rattle.std.proofs.Common.{◌≡◌, ◌≢◌, ℕ, zero, suc, ◌+◌, ◌-◌, ◌*◌, ◌^◌, ◌<◌, ◌≤◌, eqb, Bool, true, false, ℤ, pos, ◌+ℤ◌, ◌≤ℤ◌, ◌<ℤ◌, List, length, get_or, set, arith, refl, sym, ap, subst, ◌∙◌, inl, inr}
use Rattle.std.proofs.lemmas.Int.{ints}
use Rattle.std.proofs.lemmas.Bool.{cases_eq, cases_lt, eq-eqb, ne_eqb}
use Rattle.std.proofs.lemmas.List.{get_or-set_same, get_or-set_other, length-set}
use Rattle.network_laws.specs.declared.network.NetEdge.{NetEdge}
use Rattle.network_laws.specs.Network.{EndsBelow}
use Rattle.network_laws.specs.Layering.{layer_of, Balances}
use Rattle.network_laws.specs.Tight.{given, asked}
use Rattle.flow_dual.specs.declared.Label.{Label}
use Rattle.flow_dual.specs.State.{marked}
use Rattle.flow_dual.specs.Labels.{label_at, at_one, PushedFrom, IsLabelled, IsPushed}
use Rattle.flow_dual.specs.Rounds.{all_least, surplus, IsRound}
use Rattle.flow_dual.specs.Searching.{IsSearched, TellsExcess, IsBetween, RiseFits, IsSettled}
use Rattle.flow_dual.specs.Augmented.{MovesExcess, IsAugmented, AreDrained}
use Rattle.flow_dual.proofs.Beginning.{search_ends}
use Rattle.flow_dual.proofs.Augmenting.{push_keeps, no_surplus_balances}
use Rattle.flow_dual.proofs.Settling.{all_out, settled_is}

clash : {P : Type 0} (b : Bool) → b ≡ true → b ≡ false → P
clash b t f = let bad : true ≡ false = sym t ∙ f in absurd cc

pub moves : (old : List ℤ) (s t amount : ℕ) (a b : ℤ) → s < length old → t < length old → s ≢ t → a +ℤ pos amount ≡ layer_of old s → b ≡ layer_of old t +ℤ pos amount → MovesExcess old s t amount (set (set old s a) t b)
moves old s t amount a b ls lt ne is_a is_b =
    let n = length-set old s a in
    record {
      as_long = length-set (set old s a) t b ∙ n;
      at_source = let x = get_or-set_other (set old s a) t s b (pos 0) ne in let y = get_or-set_same old s a (pos 0) ls in omega (arith, ints, x, y, is_a);
      at_end = get_or-set_same (set old s a) t b (pos 0) (omega (arith, n, lt)) ∙ is_b;
      others = λ v no_source no_end. get_or-set_other (set old s a) t v b (pos 0) no_end ∙ get_or-set_other old s v a (pos 0) no_source;
    }

-- one node's surplus is part of all
pub surplus_at : (edges : List NetEdge) (flow : List ℕ) (n v : ℕ) → v < n → given edges flow v - asked edges flow v ≤ surplus edges flow n
surplus_at edges flow zero v l = absurd (omega (arith, l))
surplus_at edges flow (suc n) v l =
    elim (cases_eq v n) [
      | inl e ↦
          let a = ap (given edges flow) e in
          let b = ap (asked edges flow) e in
          omega (arith, a, b)
      | inr ne ↦ let r = surplus_at edges flow n v (omega (arith, l, ne)) in omega (arith, r)
    ]

one_here : (v d : ℕ) → at_one v v * d ≡ d
one_here v d = let e : eqb v v ≡ true = eq-eqb v v refl in rw e (omega arith)

none_there : (w v d : ℕ) → w ≢ v → at_one w v * d ≡ 0
none_there w v d ne = let e : eqb w v ≡ false = ne_eqb w v ne in rw e (omega arith)

module _ (nodes : ℕ) (edges : List NetEdge) (layers : List ℤ) (flow : List ℕ) (excess : List ℤ) (before : List Bool) (blanks : List Label) (old dist order : List ℕ) (source to now : ℕ) (reached : List Bool) (labels : List Label) (b : IsBetween nodes edges layers flow excess before blanks old) (f : IsSearched nodes edges layers flow source to now reached labels dist order) (there : source < nodes) (more : pos 0 <ℤ layer_of excess source) where
  pub lacks : layer_of excess to <ℤ pos 0
  lacks = let a = b.tells to f.found.is_node in let l = f.found.lacks in omega (arith, ints, a, l)

  pub other : source ≢ to
  other e = let a = ap (layer_of excess) e in let l = lacks in omega (arith, ints, a, l, more)

  pub has_room : 0 < (label_at labels to).room
  has_room = f.found.searched.room to f.found.reached_to

  pub label_way : (amount : ℕ) → amount ≤ (label_at labels to).room → IsLabelled edges flow labels to amount
  label_way amount le = record { source = source; steps = f.found.searched.steps; reached = f.found.searched.told to f.found.reached_to; enough = le }

  pub pushed : (amount : ℕ) (flow' : List ℕ) → amount ≤ (label_at labels to).room → IsPushed edges flow labels to amount flow' → PushedFrom edges labels flow to amount source flow'
  pushed amount flow' le p = p source f.found.searched.steps (f.found.searched.told to f.found.reached_to) le

  pub flow_fits : (amount : ℕ) → pos amount ≤ℤ layer_of excess source → (k : ℕ) → get_or flow k 0 + amount < 2 ^ 63
  flow_fits amount le k =
      let a = b.tells source there in
      let s = surplus_at edges flow nodes source there in
      let l = b.round.flow_low k in
      omega (arith, ints, a, s, l, le)

  pub rise_fits : all_least edges < 2 ^ 62 → RiseFits layers (marked reached) dist now
  rise_fits small v l m =
      let n = b.round.layer_for_each in
      let x = f.rise.within v l m in
      let y = f.found.low v (omega (arith, l, n)) in
      omega (arith, ints, x, y, small)

  module _ (amount : ℕ) (flow' : List ℕ) (excess' : List ℤ) (layers' : List ℤ) (reached' : List Bool) (labels' : List Label) (le : pos amount ≤ℤ layer_of excess source) (some : 0 < amount) (fits : (layer_of excess to +ℤ pos amount) ≤ℤ pos 0) (ends : EndsBelow nodes edges) (p : PushedFrom edges labels flow to amount source flow') (m : MovesExcess excess source to amount excess') (s : IsSettled layers reached labels dist now order (length order) layers' reached' labels') where
    new_round : IsRound nodes edges layers' flow' (2 ^ 62)
    new_round =
        let r = search_ends nodes edges layers f.risen flow (2 ^ 62) source to reached labels f.tree b.round f.found in
        let x = b.tells source there in
        let y = b.tells to f.found.is_node in
        let k = (push_keeps nodes edges f.risen flow flow' (2 ^ 62) source f.found.turn to amount reached labels f.tree ends r f.found.searched there (omega (arith, ints, y, fits)) (omega (arith, ints, x, le)) p).0 in
        subst (λ z. IsRound nodes edges z flow' (2 ^ 62)) (sym (settled_is layers reached labels dist now order layers' reached' labels' s f.listed f.risen f.rise)) k

    new_tells : TellsExcess nodes edges flow' excess'
    new_tells v l =
        let g = p.moved v in
        let t = b.tells v l in
        elim (cases_eq v source) [
          | inl e ↦
              let x = ap (layer_of excess') e in
              let y = ap (layer_of excess) e in
              let o : at_one source v * amount ≡ amount = ap (λ i. at_one source i * amount) e ∙ one_here source amount in
              let z : at_one to v * amount ≡ 0 = none_there to v amount (λ q. other (sym (q ∙ e))) in
              let w = m.at_source in
              omega (arith, ints, g, t, x, y, o, z, w)
          | inr ne ↦
              let z : at_one source v * amount ≡ 0 = none_there source v amount (λ q. ne (sym q)) in
              elim (cases_eq v to) [
                | inl e ↦
                    let x = ap (layer_of excess') e in
                    let y = ap (layer_of excess) e in
                    let o : at_one to v * amount ≡ amount = ap (λ i. at_one to i * amount) e ∙ one_here to amount in
                    let w = m.at_end in
                    omega (arith, ints, g, t, x, y, o, z, w)
                | inr no_end ↦
                    let o : at_one to v * amount ≡ 0 = none_there to v amount (λ q. no_end (sym q)) in
                    let w = m.others v ne no_end in
                    omega (arith, ints, g, t, o, z, w)
              ]
        ]

    old_depth : (v : ℕ) → marked reached v ≡ false → (label_at labels v).depth ≡ 0
    old_depth v out =
        elim (cases_lt 0 (label_at labels v).depth) [
          | inl deep ↦ clash (marked reached v) (f.found.searched.found v (inr deep)) out
          | inr none ↦ omega (arith, none)
        ]

    pub augmented : length reached ≡ nodes → length labels ≡ nodes → IsAugmented nodes edges source excess layers' flow' excess' reached' labels' dist
    augmented marks names =
        let a = m.at_source in
        let out = all_out layers reached labels dist now order layers' reached' labels' s f.listed in
        record {
          between = record {
            round = new_round;
            excess_each = m.as_long ∙ b.excess_each;
            tells = new_tells;
            cleared = record {
              mark_for_each = s.mark_each ∙ marks;
              label_for_each = s.label_each ∙ names;
              none_reached = out;
              no_depth = λ v. s.no_depth old_depth v (out v);
            };
            dist_each = f.dist_each;
          };
          falls = omega (arith, ints, a, some);
          from_zero = omega (arith, ints, a, le);
          others = λ v ne none. elim (cases_eq v to) [
            | inl e ↦ let x = ap (layer_of excess') e in let w = m.at_end in omega (arith, ints, x, w, fits)
            | inr no_end ↦ let w = m.others v ne no_end in omega (arith, ints, w, none)
          ];
        }

-- no node with a surplus, so the flow balances
no_surplus : (edges : List NetEdge) (flow : List ℕ) (n : ℕ) → ((v : ℕ) → v < n → given edges flow v ≤ asked edges flow v) → surplus edges flow n ≡ 0
no_surplus edges flow zero h = refl
no_surplus edges flow (suc n) h = let r = no_surplus edges flow n (λ v l. h v (omega (arith, l))) in let a = h n (omega arith) in omega (arith, r, a)

pub drained_balances : (nodes : ℕ) (edges : List NetEdge) (layers : List ℤ) (flow : List ℕ) (excess : List ℤ) (reached : List Bool) (labels : List Label) (dist : List ℕ) → EndsBelow nodes edges → AreDrained nodes edges layers flow excess reached labels dist → Balances nodes edges flow
drained_balances nodes edges layers flow excess reached labels dist ends d =
    no_surplus_balances nodes edges flow ends (no_surplus edges flow nodes (λ v l. let t = d.between.tells v l in let n = d.none_left v l in omega (arith, ints, t, n)))
