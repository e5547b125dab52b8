-- The oriented edges of a level that are no self-loops are a network.
use Rattle.std.proofs.Common.{◌≡◌, ◌≢◌, ℕ, zero, suc, ◌+◌, ◌*◌, ◌^◌, ◌<◌, ◌≤◌, ◌==◌, Bool, true, false, not, List, [], ◌∷◌, ◌++◌, length, map, get_or, arith, refl, sym, ap, subst, ◌∙◌, true≢false, eq-eqb, IsTrue, IsFalse}
use Rattle.std.specs.List.{sum_by}
use Rattle.std.proofs.lemmas.List.{get_or-map, get_or_default, length-map, map_push}
use Rattle.std.proofs.lemmas.List.Sums.{sum_by-le}
use Rattle.elk_doc.specs.Paths.{Reaches, stay, go}
use Rattle.network_laws.specs.declared.network.NetEdge.{NetEdge}
use Rattle.network_laws.specs.Network.{edge_at as net_at, EndsBelow, HasEdge, IsAcyclic, IsNetwork, Walk}
use Rattle.level_model.specs.declared.level.LevelEdge.{LevelEdge}
use Rattle.level_model.specs.Conditions.{IsLevel}
use Rattle.level_model.specs.Level.{PlainLevel, edge_at, holds, is_loop}
use Rattle.level_layout.specs.Certificate.{AreReversed, UnlistedStep, links, links_to, network_edge, network, oriented, source_of, target_of}
use Rattle.layer_units.specs.Marks.{is_marked, listed}
use Rattle.level_layout.specs.Low.{IsPlainNetwork}
use Rattle.network_parts.proofs.RangeLemmas.{few_picked, filter_no, filter_yes, pick}
use Rattle.layer_units.proofs.MarkLemmas.{listed_at}
use Rattle.std.proofs.lemmas.Bool.{not_from_true, not_from_false}

-- ---- one edge after the other

true_not : (b : Bool) → not b ≡ true → b ≡ false
true_not true h = absurd cc
true_not false h = refl

-- whether an edge of a slice is a self-loop
pub loop_read : (l : PlainLevel) (e : ℕ) (x : LevelEdge) (b c : Bool) → x ≡ edge_at l e → b ≡ (x.source.child == x.target.child) → b ≡ c → is_loop l e ≡ c
loop_read l e x b c read is value = ap (λ (y : LevelEdge). y.source.child == y.target.child) (sym read) ∙ sym is ∙ value

pub link_yes : (l : PlainLevel) (n : ℕ) → IsFalse (is_loop l n) → links_to l (n + 1) ≡ links_to l n ++ n ∷ []
link_yes l n h = filter_yes (λ e. not (is_loop l e)) n (not_from_false (is_loop l n) h)

pub link_no : (l : PlainLevel) (n : ℕ) → IsTrue (is_loop l n) → links_to l (n + 1) ≡ links_to l n
link_no l n h = filter_no (λ e. not (is_loop l e)) n (not_from_true (is_loop l n) h)

pub network_more : (l : PlainLevel) (marks : List Bool) (n : ℕ) (edges more : List NetEdge) (x : NetEdge) (edge : LevelEdge) (mark : Bool) → n < length marks → edge ≡ edge_at l n → mark ≡ is_marked marks n → IsFalse (is_loop l n)
    → x ≡ oriented mark edge → edges ≡ map (network_edge l (listed marks)) (links_to l n) → more ≡ edges ++ x ∷ [] → more ≡ map (network_edge l (listed marks)) (links_to l (n + 1))
network_more l marks n edges more x edge mark inside read on no_loop is before pushed =
    let last : x ≡ network_edge l (listed marks) n = is ∙ ap (λ b. oriented b edge) (on ∙ sym (listed_at marks n inside)) ∙ ap (oriented (holds (listed marks) n)) read in
    pushed ∙ ap (λ (es : List NetEdge). es ++ x ∷ []) before ∙ ap (λ (y : NetEdge). map (network_edge l (listed marks)) (links_to l n) ++ y ∷ []) last
    ∙ sym (map_push (network_edge l (listed marks)) (links_to l n) n) ∙ ap (map (network_edge l (listed marks))) (sym (link_yes l n no_loop))

pub network_same : (l : PlainLevel) (marks : List Bool) (n : ℕ) (edges : List NetEdge) → IsTrue (is_loop l n) → edges ≡ map (network_edge l (listed marks)) (links_to l n) → edges ≡ map (network_edge l (listed marks)) (links_to l (n + 1))
network_same l marks n edges loop before = before ∙ ap (map (network_edge l (listed marks))) (sym (link_no l n loop))

-- ---- each edge of the network is one of the level

pub record IsLink (l : PlainLevel) (rs : List ℕ) (x : NetEdge) : Type 0 where
  pub edge : ℕ
  pub of_level : edge < length l.edges
  pub no_loop : IsFalse (is_loop l edge)
  pub is : x ≡ network_edge l rs edge

pub link_at : (l : PlainLevel) (rs : List ℕ) (k : ℕ) → k < length (network l rs) → IsLink l rs (net_at (network l rs) k)
link_at l rs k h =
    let long = length-map (links l) (network_edge l rs) in
    let inside : k < length (links l) = omega (arith, h, long) in
    let found = pick (λ e. not (is_loop l e)) 0 (length l.edges) k inside in
    let high = found.1 in
    record {
      edge = get_or (links l) k 0;
      of_level = omega (arith, high);
      no_loop = true_not (is_loop l (get_or (links l) k 0)) found.2;
      is = get_or-map (network_edge l rs) (links l) k 0 (record { tail = 0; head = 0; least = 0; weight = 0 }) inside;
    }

pub few_links : (l : PlainLevel) → length (links l) ≤ length l.edges
few_links l = few_picked (λ e. not (is_loop l e)) (length l.edges)

pub few_network : (l : PlainLevel) (rs : List ℕ) → length (network l rs) ≤ length l.edges
few_network l rs =
    let long = length-map (links l) (network_edge l rs) in
    let few = few_links l in
    omega (arith, long, few)

oriented_below : (b : Bool) (e : LevelEdge) (n : ℕ) → e.source.child < n → e.target.child < n → ((oriented b e).tail < n) × ((oriented b e).head < n)
oriented_below true e n h g = (g, h)
oriented_below false e n h g = (h, g)

pub ends_below : (l : PlainLevel) (rs : List ℕ) → IsLevel l → EndsBelow (length l.children) (network l rs)
ends_below l rs level k h =
    let x = link_at l rs k h in
    let e = level.edges x.edge x.of_level in
    subst (λ (y : NetEdge). (y.tail < length l.children) × (y.head < length l.children)) (sym x.is) (oriented_below (holds rs x.edge) (edge_at l x.edge) (length l.children) e.source.child e.target.child)

pub weight_low : (l : PlainLevel) (rs : List ℕ) → IsLevel l → (k : ℕ) → k < length (network l rs) → (1 ≤ (net_at (network l rs) k).weight) × ((net_at (network l rs) k).weight ≤ 2 ^ 20)
weight_low l rs level k h =
    let x = link_at l rs k h in
    let e = level.edges x.edge x.of_level in
    subst (λ (y : NetEdge). (1 ≤ y.weight) × (y.weight ≤ 2 ^ 20)) (sym x.is) (e.weight_above, e.weight_below)

pub is_plain : (l : PlainLevel) (rs : List ℕ) → IsLevel l → IsPlainNetwork (network l rs)
is_plain l rs level =
    record {
      unit = λ k h. ap (λ (y : NetEdge). y.least) (link_at l rs k h).is;
      weighs = λ k h. (weight_low l rs level k h).0;
    }

-- ---- no cycle

way_on : (P : ℕ → ℕ → Type 0) (a b c : ℕ) → Reaches P a b → Reaches P b c → Reaches P a c
way_on P a b c (stay _) q = q
way_on P a b c (go _ m _ s r) q = go a m c s (way_on P m b c r q)

-- a way that isn't empty has a first step
first_step : (P : ℕ → ℕ → Type 0) (a b : ℕ) → a ≢ b → Reaches P a b → (m : ℕ) × P a m × Reaches P m b
first_step P a b other (stay _) = absurd (other refl)
first_step P a b other (go _ m _ s r) = (m, s, r)

loop_other : (l : PlainLevel) (e : ℕ) → IsFalse (is_loop l e) → source_of l e ≢ target_of l e
loop_other l e h same = true≢false (sym (eq-eqb (source_of l e) (target_of l e) same) ∙ h)

-- along an edge of the network unlisted edges lead, at least one
leads_by : (l : PlainLevel) (rs : List ℕ) → AreReversed l rs → (e : ℕ) → e < length l.edges → IsFalse (is_loop l e) → (b : Bool) → holds rs e ≡ b
    → (m : ℕ) × UnlistedStep l rs (oriented b (edge_at l e)).tail m × Reaches (UnlistedStep l rs) m (oriented b (edge_at l e)).head
leads_by l rs reversed e inside no_loop false is =
    (target_of l e, record { edge = e; of_level = inside; unlisted = is; source = refl; target = refl; no_loop = loop_other l e no_loop }, stay (target_of l e))
leads_by l rs reversed e inside no_loop true is =
    first_step (UnlistedStep l rs) (target_of l e) (source_of l e) (λ q. loop_other l e no_loop (sym q)) (reversed.closes e is).leads_back

leads : (l : PlainLevel) (rs : List ℕ) → AreReversed l rs → (a b : ℕ) → HasEdge (network l rs) a b → (m : ℕ) × UnlistedStep l rs a m × Reaches (UnlistedStep l rs) m b
leads l rs reversed a b edge =
    let x = link_at l rs edge.number edge.is_there in
    let from = ap (λ (y : NetEdge). y.tail) (sym x.is) ∙ edge.from_is in
    let to = ap (λ (y : NetEdge). y.head) (sym x.is) ∙ edge.to_is in
    let found = leads_by l rs reversed x.edge x.of_level x.no_loop (holds rs x.edge) refl in
    (found.0, subst (λ v. UnlistedStep l rs v found.0) from found.1, subst (Reaches (UnlistedStep l rs) found.0) to found.2)

walks : (l : PlainLevel) (rs : List ℕ) → AreReversed l rs → (a b n : ℕ) → Walk (network l rs) a b n → Reaches (UnlistedStep l rs) a b
walks l rs reversed a b zero w = subst (Reaches (UnlistedStep l rs) a) w (stay a)
walks l rs reversed a b (suc n) w =
    let last = leads l rs reversed w.0 b w.2 in
    way_on (UnlistedStep l rs) a w.0 b (walks l rs reversed a w.0 n w.1) (go w.0 last.0 b last.1 last.2)

no_cycle : (l : PlainLevel) (rs : List ℕ) → AreReversed l rs → IsAcyclic (network l rs)
no_cycle l rs reversed a n w =
    let last = leads l rs reversed w.0 a w.2 in
    reversed.acyclic w.0 last.0 last.1 (way_on (UnlistedStep l rs) last.0 a w.0 last.2 (walks l rs reversed a w.0 n w.1))

-- ---- the network

sum_low : (g : NetEdge → ℕ) (edges : List NetEdge) (m : ℕ) → ((k : ℕ) → k < length edges → g (net_at edges k) ≤ m) → sum_by g edges ≤ length edges * m
sum_low g edges m low =
    sum_by-le g m edges (λ k d h. subst (λ (x : NetEdge). g x ≤ m) (get_or_default edges k (record { tail = 0; head = 0; least = 0; weight = 0 }) d h) (low k h))

pub is_network : (l : PlainLevel) (rs : List ℕ) → IsLevel l → AreReversed l rs → IsNetwork (length l.children) (network l rs)
is_network l rs level reversed =
    let few = few_network l rs in
    let edges = level.few_edges in
    let children = level.few_children in
    let plain = is_plain l rs level in
    let least = sum_low (λ (e : NetEdge). e.least) (network l rs) 1 (λ k h. let u = plain.unit k h in omega (arith, u)) in
    let weight = sum_low (λ (e : NetEdge). e.weight) (network l rs) (2 ^ 20) (λ k h. (weight_low l rs level k h).1) in
    record {
      few_nodes = omega (arith, children);
      few_edges = omega (arith, few, edges);
      ends = ends_below l rs level;
      acyclic = no_cycle l rs reversed;
      least_fits = omega (arith, few, edges, least);
      weight_fits = omega (arith, few, edges, weight);
    }
