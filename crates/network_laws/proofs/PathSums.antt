-- Sums over paths of a network without cycles.
use Rattle.std.proofs.Common.{◌≡◌, ℕ, zero, suc, ◌+◌, ◌-◌, ◌*◌, ◌<◌, ◌≤◌, ◌^◌, ◌||◌, cond, Bool, true, false, pos, List, [], ◌∷◌, length, map, set, get_or, replicate, arith, refl, sym, ap, subst, ◌∙◌, inl, inr}
use Rattle.std.specs.List.{sum, sum_by}
use Rattle.std.proofs.lemmas.Bool.{cases_eq, cases_Bool}
use Rattle.std.proofs.lemmas.Int.{ints}
use Rattle.std.proofs.lemmas.List.{get_or-map, length-map, get_or-set_same, get_or-set_other, length-set, get_or-replicate, length-replicate}
use Rattle.std.proofs.lemmas.List.Sums.{sum_by-cons, get_or-le-sum_by}
use borrow.Author.Count.{below_more}
use Rattle.network_laws.specs.declared.network.NetEdge.{NetEdge}
use Rattle.network_laws.specs.Network.{edge_at, EndsBelow, HasEdge, Walk, IsAcyclic, IsNetwork}
use Rattle.network_laws.specs.Layering.{layer_of, IsLayering}
use Rattle.network_laws.specs.Linked.{is_marked}
use Rattle.network_laws.specs.Paths.{Path, AreGreatestSums, sum_at, ArePathSums, KeepLeast, RaisesHead, RaisedOnce, marked_sum}
use Rattle.network_laws.proofs.Naming.{sum_after}

abbrev pub all_least : List NetEdge → ℕ
all_least edges = sum_by (λ (e : NetEdge). e.least) edges

pub cond_le : (b : Bool) (n : ℕ) → cond b n 0 ≤ n
cond_le true n = omega arith
cond_le false n = omega arith

pub marked_le : (edges : List NetEdge) (marks : List Bool) → marked_sum edges marks ≤ all_least edges
marked_le [] marks = omega arith
marked_le (e ∷ es) [] = omega arith
marked_le (e ∷ es) (b ∷ bs) =
    let r = marked_le es bs in
    let s = sum_by-cons (λ (e : NetEdge). e.least) e es in
    let c = cond_le b e.least in
    omega (arith, r, s, c)

pub marked_more : (edges : List NetEdge) (marks : List Bool) (k : ℕ) → k < length edges → length marks ≡ length edges → is_marked marks k ≡ false → marked_sum edges (set marks k true) ≡ marked_sum edges marks + (edge_at edges k).least
marked_more [] marks k l h m = absurd (omega arith)
marked_more (e ∷ es) [] k l h m = absurd (omega arith)
marked_more (e ∷ es) (b ∷ bs) zero l h m = rw m (omega arith)
marked_more (e ∷ es) (b ∷ bs) (suc k) l h m =
    let r = marked_more es bs k (omega arith) (omega arith) m in omega (arith, r)

abbrev pub no_marks : List NetEdge → List Bool
no_marks edges = map (λ e. false) edges

pub none_marked : (edges : List NetEdge) → marked_sum edges (no_marks edges) ≡ 0
none_marked [] = refl
none_marked (e ∷ es) = let r = none_marked es in omega (arith, r)

-- the edges of a path are marked: each leads on to the path's end
pub record Trail (edges : List NetEdge) (b total : ℕ) : Type 0 where
  pub marks : List Bool
  pub as_long : length marks ≡ length edges
  pub sum_is : marked_sum edges marks ≡ total
  pub leads : (k : ℕ) → k < length edges → is_marked marks k ≡ true → (m : ℕ) × Walk edges (edge_at edges k).head b m

trail : (edges : List NetEdge) → IsAcyclic edges → (a b total n : ℕ) → Path edges a b total n → Trail edges b total
trail edges acyclic a b total zero p = record {
  marks = no_marks edges;
  as_long = length-map edges (λ e. false);
  sum_is = none_marked edges ∙ sym p.1;
  leads = λ k l m. let z : is_marked (no_marks edges) k ≡ false = get_or-map (λ e. false) edges k (edge_at [] 0) false l in let bad : false ≡ true = sym z ∙ m in absurd cc;
}
trail edges acyclic a b total (suc n) p =
    let t = trail edges acyclic a p.0 p.1 n p.3 in
    let h = p.4 in
    let step : HasEdge edges p.0 b = record { number = h.number; is_there = h.is_there; from_is = h.from_is; to_is = h.to_is } in
    let fresh : is_marked t.marks h.number ≡ false =
    elim (cases_Bool (is_marked t.marks h.number)) [
      | inl y ↦
          let w = t.leads h.number h.is_there y in
          absurd (acyclic b w.0 (p.0, subst (λ x. Walk edges x p.0 w.0) h.to_is w.1, step))
      | inr z ↦ z
    ]
    in
    let more = marked_more edges t.marks h.number h.is_there t.as_long fresh in
    record {
      marks = set t.marks h.number true;
      as_long = length-set t.marks h.number true ∙ t.as_long;
      sum_is = let s = t.sum_is in let z = h.size_is in let i = p.5 in omega (arith, more, s, z, i);
      leads = λ k l m. elim (cases_eq k h.number) [
        | inl e ↦ (0, subst (λ x. (edge_at edges x).head ≡ b) (sym e) h.to_is)
        | inr ne ↦
            let w = t.leads k l (sym (get_or-set_other t.marks h.number k true false ne) ∙ m) in
            (suc w.0, (p.0, w.1, step))
      ];
    }

pub least_le : (edges : List NetEdge) (k : ℕ) → k < length edges → (edge_at edges k).least ≤ all_least edges
least_le edges k l = get_or-le-sum_by (λ (e : NetEdge). e.least) edges k (record { tail = 0; head = 0; least = 0; weight = 0 }) l

-- no path's sum is above that of all edges
pub path_le : (edges : List NetEdge) → IsAcyclic edges → (a b total n : ℕ) → Path edges a b total n → total ≤ all_least edges
path_le edges acyclic a b total n p =
    let t = trail edges acyclic a b total n p in
    let l = marked_le edges t.marks in
    let s = t.sum_is in
    omega (arith, l, s)

-- numbers that keep each `least` are above each path's sum
above : (edges : List NetEdge) (sums : List ℕ) → KeepLeast edges sums (length edges) → (a b total n : ℕ) → Path edges a b total n → total ≤ sum_at sums b
above edges sums keep a b total zero p = let z = p.1 in omega (arith, z)
above edges sums keep a b total (suc n) p =
    let r = above edges sums keep a p.0 p.1 n p.3 in
    let h = p.4 in
    let k = keep h.number h.is_there in
    let t = ap (sum_at sums) h.from_is in
    let d = ap (sum_at sums) h.to_is in
    let s = h.size_is in
    let i = p.5 in
    omega (arith, r, k, t, d, s, i)

layer_is : (sums : List ℕ) (v : ℕ) → v < length sums → layer_of (map pos sums) v ≡ pos (sum_at sums v)
layer_is sums v l = get_or-map pos sums v 0 (pos 0) l

same_nat : (m n : ℕ) → pos m ≡ pos n → m ≡ n
same_nat m n h = omega (arith, ints)

pub greatest : (nodes : ℕ) (edges : List NetEdge) (sums : List ℕ) → length sums ≡ nodes → ArePathSums edges sums → KeepLeast edges sums (length edges) → AreGreatestSums nodes edges (map pos sums)
greatest nodes edges sums n paths keep = record {
  layer_for_each = length-map sums pos ∙ n;
  attained = λ v l. let p = paths v (omega (arith, n, l)) in (p.0, p.1, sum_at sums v, p.2, layer_is sums v (omega (arith, n, l)));
  none_above = λ v a m total s l p h.
      let x = above edges sums keep a v total m p in
      let y = same_nat (sum_at sums v) s (sym (layer_is sums v (omega (arith, n, l))) ∙ h) in
      omega (arith, x, y);
}

pub keeps_layering : (nodes : ℕ) (edges : List NetEdge) (sums : List ℕ) → length sums ≡ nodes → EndsBelow nodes edges → KeepLeast edges sums (length edges) → IsLayering edges (map pos sums)
keeps_layering nodes edges sums n ends keep k l =
    let t = layer_is sums (edge_at edges k).tail (let b = (ends k l).0 in omega (arith, n, b)) in
    let h = layer_is sums (edge_at edges k).head (let b = (ends k l).1 in omega (arith, n, b)) in
    let x = keep k l in
    rw (t, h) (omega (arith, ints, x))

-- zeros are the sums of empty paths
pub zeros : (edges : List NetEdge) (n : ℕ) → ArePathSums edges (replicate n 0)
zeros edges n v l =
    let e = length-replicate {A = ℕ} n 0 in (v, 0, (refl, get_or-replicate n v 0 0 (omega (arith, e, l))))

pub sum_below : (xs : List ℕ) (m : ℕ) → ((v : ℕ) → v < length xs → get_or xs v 0 ≤ m) → sum xs ≤ length xs * m
sum_below [] m h = omega arith
sum_below (x ∷ xs) m h =
    let r = sum_below xs m (λ v l. h (suc v) (omega arith)) in
    let a = sum_by-cons (λ n. n) x xs in
    let z : x ≤ m = h 0 (omega arith) in
    omega (arith, r, a, z)

-- one edge more
pub pass_start : (edges : List NetEdge) (old : List ℕ) → ArePathSums edges old → RaisedOnce edges 0 old old false
pass_start edges old p = record { as_long = refl; paths = p; unchanged = λ _. (refl, λ k l. absurd (omega arith)); more = λ h. absurd cc }

raised_paths : (edges : List NetEdge) (old : List ℕ) (i : ℕ) → i < length edges → EndsBelow (length old) edges → ArePathSums edges old → ArePathSums edges (set old (edge_at edges i).head (sum_at old (edge_at edges i).tail + (edge_at edges i).least))
raised_paths edges old i l ends paths v lv =
    let e = edge_at edges i in
    let n = length-set old e.head (sum_at old e.tail + e.least) in
    elim (cases_eq v e.head) [
      | inl same ↦
          let p = paths e.tail (ends i l).0 in
          let is : sum_at (set old e.head (sum_at old e.tail + e.least)) v ≡ sum_at old e.tail + e.least = rw same (get_or-set_same old e.head (sum_at old e.tail + e.least) 0 (ends i l).1) in
          (p.0, suc p.1, (e.tail, sum_at old e.tail, e.least, p.2, record { number = i; is_there = l; from_is = refl; to_is = sym same; size_is = refl }, is))
      | inr ne ↦
          let p = paths v (omega (arith, n, lv)) in
          let is = get_or-set_other old e.head v (sum_at old e.tail + e.least) 0 ne in
          (p.0, p.1, subst (λ x. Path edges p.0 v x p.1) (sym is) p.2)
    ]

pub raised_any : (edges : List NetEdge) (i : ℕ) (old new : List ℕ) (now : Bool) → i < length edges → EndsBelow (length old) edges → ArePathSums edges old → RaisesHead old (edge_at edges i) new now → (length new ≡ length old) × ArePathSums edges new
raised_any edges i old new true l ends paths s =
    (ap length s.0 ∙ length-set old (edge_at edges i).head (sum_at old (edge_at edges i).tail + (edge_at edges i).least), subst (λ x. ArePathSums edges x) (sym s.0) (raised_paths edges old i l ends paths))
raised_any edges i old new false l ends paths s = (ap length s.0, subst (λ x. ArePathSums edges x) (sym s.0) paths)

pub pass_more : (edges : List NetEdge) (i : ℕ) (first old new : List ℕ) (changed now : Bool) → i < length edges → EndsBelow (length first) edges → RaisedOnce edges i first old changed → RaisesHead old (edge_at edges i) new now → RaisedOnce edges (i + 1) first new (changed || now)
pass_more edges i first old new changed true l ends r s =
    let e = edge_at edges i in
    let n = r.as_long in
    let long : length new ≡ length old = ap length s.0 ∙ length-set old e.head (sum_at old e.tail + e.least) in
    let there : e.head < length old = omega (arith, n, (ends i l).1) in
    let total = sum_after old e.head (sum_at old e.tail + e.least) there in
    let is = ap sum s.0 in
    let less = s.1 in
    let up : sum old < sum new = omega (arith, total, is, less) in
    record {
      as_long = long ∙ n;
      paths = subst (λ x. ArePathSums edges x) (sym s.0) (raised_paths edges old i l (λ k j. let b = ends k j in (omega (arith, n, b.0), omega (arith, n, b.1))) r.paths);
      unchanged = λ h. absurd (either_true changed h);
      more = λ _. from_either changed (λ c. let m = r.more c in omega (arith, m, up)) (λ c. let m = ap sum (r.unchanged c).0 in omega (arith, m, up));
    }
  where
    either_true : (c : Bool) → (c || true) ≡ false → ⊥
    either_true true h = absurd cc
    either_true false h = absurd cc

    from_either : {P : Type 0} (c : Bool) → (c ≡ true → P) → (c ≡ false → P) → P
    from_either true f g = f refl
    from_either false f g = g refl
pass_more edges i first old new changed false l ends r s =
    record {
      as_long = ap length s.0 ∙ r.as_long;
      paths = subst (λ x. ArePathSums edges x) (sym s.0) r.paths;
      unchanged = λ h.
          let c = left_false changed h in
          let u = r.unchanged c in
          (s.0 ∙ u.0, below_more (λ k. sum_at first (edge_at edges k).tail + (edge_at edges k).least ≤ sum_at first (edge_at edges k).head) i u.1 (subst (λ x. sum_at x (edge_at edges i).tail + (edge_at edges i).least ≤ sum_at x (edge_at edges i).head) u.0 s.1));
      more = λ h. let m = r.more (left_true changed h) in let e = ap sum s.0 in omega (arith, m, e);
    }
  where
    left_false : (c : Bool) → (c || false) ≡ false → c ≡ false
    left_false true h = h
    left_false false h = refl

    left_true : (c : Bool) → (c || false) ≡ true → c ≡ true
    left_true true h = refl
    left_true false h = h

-- what is left to raise falls
falls : (n a b : ℕ) (c : Bool) → b ≤ n → (c ≡ true → a < b) → (c ≡ false → b ≡ a) → cond c 1 0 + 2 * (n - b) < 1 + 2 * (n - a)
falls n a b true m h g = let u = h refl in omega (arith, u)
falls n a b false m h g = let u = g refl in omega (arith, u)

pub pass_falls : (nodes : ℕ) (edges : List NetEdge) (i : ℕ) (old new : List ℕ) (b c : Bool) → b ≡ true → IsNetwork nodes edges → RaisedOnce edges i old new c → cond c 1 0 + 2 * (length new * 2 ^ 62 - sum new) < cond b 1 0 + 2 * (length old * 2 ^ 62 - sum old)
pass_falls nodes edges i old new b c is net r =
    let f = net.least_fits in
    let total : sum new ≤ length new * 2 ^ 62 =
    sum_below new (2 ^ 62) (λ v l. let p = r.paths v l in let t = path_le edges net.acyclic p.0 v (sum_at new v) p.1 p.2 in omega (arith, t, f))
    in
    let n = r.as_long in
    rw (is, ← n) (falls (length new * 2 ^ 62) (sum old) (sum new) c total r.more (λ h. ap sum (r.unchanged h).0))
