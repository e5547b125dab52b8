-- The parts of a level are those of the network of its edges.
use Rattle.std.proofs.Common.{◌≡◌, ◌⊎◌, ℕ, zero, suc, ◌<◌, List, [], length, map, slice_index, refl, sym, ap, subst, inl, inr, ◌∙◌}
use Rattle.std.proofs.lemmas.List.{get_or-map, length-map}
use Rattle.elk_doc.specs.Paths.{Reaches}
use Rattle.elk_doc.specs.Paths.Reaches.{stay, go}
use Rattle.network_laws.specs.declared.network.NetEdge.{NetEdge}
use Rattle.network_laws.specs.Network.{edge_at as net_at, EndsBelow, HasEdge, InOnePart as InOneNetPart, Joined}
use Rattle.network_laws.specs.Parts.{ArePartNumbers}
use Rattle.level_model.specs.Conditions.{IsLevel}
use Rattle.level_model.specs.Level.{PlainLevel, edge_at}
use Rattle.level_parts.specs.Parts.{AreParts, InOnePart, AreJoined, join}

pub many_joins : (l : PlainLevel) → length (map join l.edges) ≡ length l.edges
many_joins l = length-map l.edges join

pub join_at : (l : PlainLevel) (e : ℕ) → e < length l.edges → net_at (map join l.edges) e ≡ join (edge_at l e)
join_at l e h = get_or-map join l.edges e (edge_at (record { children = l.children; edges = []; spacing = l.spacing; choices = l.choices }) 0) (record { tail = 0; head = 0; least = 0; weight = 0 }) h

pub ends_below : (l : PlainLevel) → IsLevel l → EndsBelow (length l.children) (map join l.edges)
ends_below l level e h =
    let inside : e < length l.edges = subst (λ n. e < n) (many_joins l) h in
    subst (λ (x : NetEdge). (x.tail < length l.children) × (x.head < length l.children)) (sym (join_at l e inside)) ((level.edges e inside).source.child, (level.edges e inside).target.child)

-- ---- steps and walks

step_forth : (l : PlainLevel) (a b : ℕ) → (HasEdge (map join l.edges) a b ⊎ HasEdge (map join l.edges) b a) → AreJoined l a b
step_forth l a b (inl has) =
    let inside : has.number < length l.edges = subst (λ n. has.number < n) (many_joins l) has.is_there in
    let is = join_at l has.number inside in
    (has.number, inside, inl (ap (λ (x : NetEdge). x.tail) (sym is) ∙ has.from_is, ap (λ (x : NetEdge). x.head) (sym is) ∙ has.to_is))
step_forth l a b (inr has) =
    let inside : has.number < length l.edges = subst (λ n. has.number < n) (many_joins l) has.is_there in
    let is = join_at l has.number inside in
    (has.number, inside, inr (ap (λ (x : NetEdge). x.tail) (sym is) ∙ has.from_is, ap (λ (x : NetEdge). x.head) (sym is) ∙ has.to_is))

one_edge : (l : PlainLevel) (e a b : ℕ) → e < length l.edges → (edge_at l e).source.child ≡ a → (edge_at l e).target.child ≡ b → HasEdge (map join l.edges) a b
one_edge l e a b h from to =
    record {
      number = e;
      is_there = subst (λ n. e < n) (sym (many_joins l)) h;
      from_is = ap (λ (x : NetEdge). x.tail) (join_at l e h) ∙ from;
      to_is = ap (λ (x : NetEdge). x.head) (join_at l e h) ∙ to;
    }

step_back : (l : PlainLevel) (a b : ℕ) → AreJoined l a b → HasEdge (map join l.edges) a b ⊎ HasEdge (map join l.edges) b a
step_back l a b joined = pick joined.2
  where
    pick : ((((edge_at l joined.0).source.child ≡ a) × ((edge_at l joined.0).target.child ≡ b)) ⊎ (((edge_at l joined.0).source.child ≡ b) × ((edge_at l joined.0).target.child ≡ a)))
        → HasEdge (map join l.edges) a b ⊎ HasEdge (map join l.edges) b a
    pick (inl is) = inl (one_edge l joined.0 a b joined.1 is.0 is.1)
    pick (inr is) = inr (one_edge l joined.0 b a joined.1 is.0 is.1)

-- a path goes on by another
joined_more : (l : PlainLevel) (a b c : ℕ) → Reaches (AreJoined l) a b → Reaches (AreJoined l) b c → Reaches (AreJoined l) a c
joined_more l a b c (stay _) r = r
joined_more l a b c (go _ m _ s p) r = go a m c s (joined_more l m b c p r)

walk_forth : (l : PlainLevel) (a b n : ℕ) → Joined (map join l.edges) a b n → InOnePart l a b
walk_forth l a b zero w = subst (InOnePart l a) w (stay a)
walk_forth l a b (suc n) w = joined_more l a w.0 b (walk_forth l a w.0 n w.1) (go w.0 b b (step_forth l w.0 b w.2) (stay b))

-- a walk with one step before it
walk_before : (edges : List NetEdge) (a b c n : ℕ) → (HasEdge edges a b ⊎ HasEdge edges b a) → Joined edges b c n → Joined edges a c (suc n)
walk_before edges a b c zero s w = (a, refl, subst (λ x. HasEdge edges a x ⊎ HasEdge edges x a) w s)
walk_before edges a b c (suc n) s w = (w.0, walk_before edges a b w.0 n s w.1, w.2)

walk_back : (l : PlainLevel) (a b : ℕ) → InOnePart l a b → InOneNetPart (map join l.edges) a b
walk_back l a b (stay _) = (0, refl)
walk_back l a b (go _ m _ s p) = let rest = walk_back l m b p in (suc rest.0, walk_before (map join l.edges) a m b rest.0 (step_back l a m s) rest.1)

-- ---- parts

pub are_parts : (l : PlainLevel) (numbers : List ℕ) → ArePartNumbers (length l.children) (map join l.edges) numbers → AreParts l numbers
are_parts l numbers are =
    record {
      as_many = are.number_for_each;
      below = are.in_range;
      same = λ a b h g. let both = are.same_part a b h g in (λ e. let joined = both.0 e in walk_forth l a b joined.0 joined.1, λ p. both.1 (walk_back l a b p));
      in_order = are.by_least;
    }

-- both ends of an edge lie in one part
pub one_part : (l : PlainLevel) (numbers : List ℕ) → IsLevel l → AreParts l numbers → (e : ℕ) → e < length l.edges → slice_index numbers (edge_at l e).source.child ≡ slice_index numbers (edge_at l e).target.child
one_part l numbers level parts e h =
    let a = (edge_at l e).source.child in
    let b = (edge_at l e).target.child in
    (parts.same a b (level.edges e h).source.child (level.edges e h).target.child).1 (go a b b (e, h, inl (refl, refl)) (stay b))
