-- The links that leave each node, one after the other.
use Rattle.std.specs.Prelude.{◌≡◌, ℕ, ◌<◌, ◌≤◌, List, length, slice_set}
use Rattle.route_slots.specs.declared.links.Link.{Link}
use Rattle.route_slots.specs.declared.chains.Chains.{Chains}
use Rattle.route_slots.specs.Links.{link_at, number_at}

-- of each node the first link, from number `low` on, that leaves it
pub record AreFirsts (nodes : ℕ) (links : List Link) (low : ℕ) (first : List ℕ) : Type 0 where
  pub as_many : length first ≡ nodes
  pub from : (v : ℕ) → v < nodes → number_at first v < length links → low ≤ number_at first v
  pub tails : (v : ℕ) → v < nodes → number_at first v < length links → (link_at links (number_at first v)).tail ≡ v
  pub least : (j : ℕ) → low ≤ j → j < length links → number_at first (link_at links j).tail ≤ j

-- of each link, from number `low` on, the next that leaves the same node
pub record AreNexts (links : List Link) (low : ℕ) (next : List ℕ) : Type 0 where
  pub as_many : length next ≡ length links
  pub after : (k : ℕ) → low ≤ k → k < length links → k < number_at next k
  pub tails : (k : ℕ) → low ≤ k → k < length links → number_at next k < length links
      → (link_at links (number_at next k)).tail ≡ (link_at links k).tail
  pub least : (k j : ℕ) → low ≤ k → k < j → j < length links → (link_at links j).tail ≡ (link_at links k).tail → number_at next k ≤ j

-- a link is put before the others that leave its tail
pub record Puts (old new : Chains) (v k : ℕ) : Type 0 where
  pub next : new.next.items ≡ slice_set old.next.items k (number_at old.first.items v)
  pub first : new.first.items ≡ slice_set old.first.items v k
