-- The connected parts of a level, numbered by their least children.
use Rattle.std.specs.Prelude.{◌≡◌, ◌⊎◌, ◌↔◌, ◌<◌, ℕ, List, length, slice_index}
use Rattle.elk_doc.specs.Paths.{Reaches}
use Rattle.network_laws.specs.declared.network.NetEdge.{NetEdge}
use Rattle.level_model.specs.declared.level.LevelEdge.{LevelEdge}
use Rattle.level_model.specs.Level.{PlainLevel, edge_at}

-- an edge as one of a network; only its ends count where parts are looked for
abbrev pub join : LevelEdge → NetEdge
join e = record { tail = e.source.child; head = e.target.child; least = 1; weight = e.weight }

-- an edge of the level joins a and b, in either direction
abbrev pub AreJoined : PlainLevel → ℕ → ℕ → Type 0
AreJoined l a b =
    (e : ℕ) × (e < length l.edges)
    × ((((edge_at l e).source.child ≡ a) × ((edge_at l e).target.child ≡ b))
    ⊎ (((edge_at l e).source.child ≡ b) × ((edge_at l e).target.child ≡ a)))

-- a and b lie in one part: edges lead from the one to the other, in whatever direction
abbrev pub InOnePart : PlainLevel → ℕ → ℕ → Type 0
InOnePart l a b = Reaches (AreJoined l) a b

-- A number for each child: children have one number exactly where they lie in one part, and each smaller number was given to an
-- earlier child. So the parts are numbered 0, 1, 2 in the order of their least children.
pub record AreParts (l : PlainLevel) (numbers : List ℕ) : Type 0 where
  pub as_many : length numbers ≡ length l.children
  pub below : (a : ℕ) → a < length l.children → slice_index numbers a < length l.children
  pub same : (a b : ℕ) → a < length l.children → b < length l.children → (slice_index numbers a ≡ slice_index numbers b) ↔ InOnePart l a b
  pub in_order : (a i : ℕ) → a < length l.children → i < slice_index numbers a → (b : ℕ) × (b < a) × (slice_index numbers b ≡ i)
