-- What a contract sees of an arena: a set of nodes, each with the list of its edges out and in, and a map
-- from edges to their ends. Both are read by key.
use Rattle.std.specs.Prelude.{◌≡◌, ℕ, ◌+◌, ◌==◌, cond, List, [], ◌∷◌, Option, Some, None, IsSome, slice_index_or}
use Rattle.graph_arena.specs.declared.keys.EdgeKey.{EdgeKey}

pub record Ends : Type 0 where
  pub tail : ℕ
  pub head : ℕ

pub record Lists : Type 0 where
  pub outward : List ℕ
  pub inward : List ℕ

-- the rooms are how many more nodes and edges can be added without fail
pub record Graph : Type 0 where
  pub nodes : List (Option Lists)
  pub edges : List (Option Ends)
  pub node_room : ℕ
  pub edge_room : ℕ

abbrev pub lists_at : Graph → ℕ → Option Lists
lists_at g v = slice_index_or g.nodes v None

abbrev pub ends_at : Graph → ℕ → Option Ends
ends_at g e = slice_index_or g.edges e None

abbrev pub IsNode : Graph → ℕ → Type 0
IsNode g v = IsSome (lists_at g v)

abbrev pub IsEdge : Graph → ℕ → Type 0
IsEdge g e = IsSome (ends_at g e)

abbrev pub outward_of : Option Lists → List ℕ
outward_of None = []
outward_of (Some l) = l.outward

abbrev pub inward_of : Option Lists → List ℕ
inward_of None = []
inward_of (Some l) = l.inward

-- the edges that leave a node, and those that enter it, in order
abbrev pub out_list : Graph → ℕ → List ℕ
out_list g v = outward_of (lists_at g v)

abbrev pub in_list : Graph → ℕ → List ℕ
in_list g v = inward_of (lists_at g v)

-- the first of a list
abbrev pub front : List ℕ → Option ℕ
front [] = None
front (k ∷ ks) = Some k

-- what follows the key in a list
abbrev pub after : List ℕ → ℕ → Option ℕ
after [] e = None
after (k ∷ ks) e = cond (k == e) (front ks) (after ks e)

-- how often a key stands in a list
abbrev pub occurs : ℕ → List ℕ → ℕ
occurs e [] = 0
occurs e (k ∷ ks) = cond (k == e) 1 0 + occurs e ks

-- 1 where the node is that end, else 0
abbrev pub if_end : Option ℕ → ℕ → ℕ
if_end None v = 0
if_end (Some u) v = cond (u == v) 1 0

abbrev pub tail_in : Option Ends → Option ℕ
tail_in None = None
tail_in (Some e) = Some e.tail

abbrev pub head_in : Option Ends → Option ℕ
head_in None = None
head_in (Some e) = Some e.head

-- An edge stands once in its tail's out-list, once in its head's in-list, and nowhere else. Its ends are nodes.
pub record IsIncidence (g : Graph) : Type 0 where
  pub outs : (v e : ℕ) → occurs e (out_list g v) ≡ if_end (tail_in (ends_at g e)) v
  pub ins : (v e : ℕ) → occurs e (in_list g v) ≡ if_end (head_in (ends_at g e)) v
  pub tails : (e : ℕ) (x : Ends) → ends_at g e ≡ Some x → IsNode g x.tail
  pub heads : (e : ℕ) (x : Ends) → ends_at g e ≡ Some x → IsNode g x.head

abbrev pub edge_key : Option ℕ → Option EdgeKey
edge_key None = None
edge_key (Some e) = Some (record { at = e })
