-- Links by what they leave, and the chain of an edge.
use Rattle.std.specs.Prelude.{◌≡◌, ℕ, ◌+◌, ◌<◌, Bool, true, false, List, length, slice_index}
use Rattle.elk_layers.specs.Layered.{link_at, is_child, layer_of}
use Rattle.level_model.specs.Level.{End}
use Rattle.level_nets.specs.Parts.{Parts}
use Rattle.level_nets.specs.Read.{dock_at, unit_of_dock}

-- whether a link leaves the unit of a child
unfoldable pub leaves_child : Parts → ℕ → Bool
leaves_child s k = is_child s.layered (link_at s.layered.links k).tail

-- an edge has one link that leaves a child, and a lane has one link that leaves it
pub record AreSingle (s : Parts) : Type 0 where
  pub edges : (k : ℕ) → k < length s.layered.links → (link_at s.layered.links k).edge < length s.level.edges
  pub firsts : (j k : ℕ) → j < length s.layered.links → k < length s.layered.links → leaves_child s j ≡ true → leaves_child s k ≡ true
      → (link_at s.layered.links j).edge ≡ (link_at s.layered.links k).edge → j ≡ k
  pub outs : (j k : ℕ) → j < length s.layered.links → k < length s.layered.links → leaves_child s j ≡ false → leaves_child s k ≡ false
      → (link_at s.layered.links j).tail ≡ (link_at s.layered.links k).tail → j ≡ k

-- a place for each edge, and one for each unit
pub record HaveRoom (s : Parts) (firsts outs : List ℕ) : Type 0 where
  pub by_edge : length firsts ≡ length s.level.edges
  pub by_unit : length outs ≡ length s.layered.units

-- the first n links are noted
pub record AreNext (s : Parts) (n : ℕ) (firsts outs : List ℕ) : Type 0 where
  pub room : HaveRoom s firsts outs
  pub first_is : (k : ℕ) → k < n → leaves_child s k ≡ true → slice_index firsts (link_at s.layered.links k).edge ≡ k
  pub out_is : (k : ℕ) → k < n → leaves_child s k ≡ false → slice_index outs (link_at s.layered.links k).tail ≡ k

-- the layer of the child at an end
abbrev pub end_layer : Parts → End → ℕ
end_layer s n = layer_of s.layered (unit_of_dock s (dock_at s n))

-- these links lead from the child of one end of an edge over lanes to the child of the other
pub record IsChain (s : Parts) (e : ℕ) (tail head : End) (ks : List ℕ) : Type 0 where
  pub long : end_layer s tail + length ks ≡ end_layer s head
  pub some : 0 < length ks
  pub there : (i : ℕ) → i < length ks → slice_index ks i < length s.layered.links
  pub first_edge : (link_at s.layered.links (slice_index ks 0)).edge ≡ e
  pub first_leaves : leaves_child s (slice_index ks 0) ≡ true
  pub joined : (i : ℕ) → i + 1 < length ks
      → (link_at s.layered.links (slice_index ks i)).head ≡ (link_at s.layered.links (slice_index ks (i + 1))).tail
  pub lanes : (i : ℕ) → i + 1 < length ks → leaves_child s (slice_index ks (i + 1)) ≡ false
