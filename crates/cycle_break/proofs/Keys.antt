-- Keys as the program reads them.
use Rattle.std.proofs.Common.{◌≡◌, ℕ, List, [], ◌∷◌, ◌++◌, length, get_or, take, drop, zero, suc, ◌<◌, ◌+◌, arith, Option, Some, None, is_some, refl, sym, ap}
use Rattle.std.proofs.lemmas.List.{map-append, map_more, drop_more}
use Rattle.graph_arena.specs.declared.keys.EdgeKey.{EdgeKey}
use Rattle.graph_arena.specs.declared.keys.NodeKey.{NodeKey}
use Rattle.graph_arena.specs.Graph.{edge_key}
use Rattle.cycle_break.specs.Ways.{node_keys, edge_keys}

pub key_some : (o : Option ℕ) (k : EdgeKey) → Some k ≡ edge_key o → o ≡ Some k.at
key_some None k h = cc
key_some (Some e) k h = let q : k ≡ record { at = e } = (cc) in ap (λ (z : EdgeKey). Some z.at) (sym q)

pub key_none : (o : Option ℕ) → None ≡ edge_key o → o ≡ None
key_none None h = refl
key_none (Some e) h = cc

pub key_is : (o : Option ℕ) (k : Option EdgeKey) → k ≡ edge_key o → is_some k ≡ is_some o
key_is None k h = rw h refl
key_is (Some e) k h = rw h refl

pub node_push : (xs : List NodeKey) (k : NodeKey) → node_keys (xs ++ k ∷ []) ≡ node_keys xs ++ k.at ∷ []
node_push xs k = map-append (λ (z : NodeKey). z.at) xs (k ∷ [])

pub edge_push : (xs : List EdgeKey) (k : EdgeKey) → edge_keys (xs ++ k ∷ []) ≡ edge_keys xs ++ k.at ∷ []
edge_push xs k = map-append (λ (z : EdgeKey). z.at) xs (k ∷ [])

-- ---- the keys up to a place, and from there on

pub keys_more : (xs : List EdgeKey) (i : ℕ) → i < length xs → edge_keys (take (i + 1) xs) ≡ edge_keys (take i xs) ++ (get_or xs i (record { at = 0 })).at ∷ []
keys_more xs i h = map_more (λ (z : EdgeKey). z.at) xs i (record { at = 0 }) h

pub keys_rest : (xs : List EdgeKey) (i : ℕ) → i < length xs → edge_keys (drop i xs) ≡ (get_or xs i (record { at = 0 })).at ∷ edge_keys (drop (i + 1) xs)
keys_rest xs i h = ap edge_keys (drop_more xs i (record { at = 0 }) h)

pub key_at : (xs : List EdgeKey) (i : ℕ) → i < length xs → get_or (edge_keys xs) i 0 ≡ (get_or xs i (record { at = 0 })).at
key_at [] i h = absurd (omega (arith, h))
key_at (x ∷ xs) zero h = refl
key_at (x ∷ xs) (suc i) h = key_at xs i (omega (arith, h))
