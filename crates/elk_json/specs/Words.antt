-- Whole ids fit 64 bits.
use Rattle.std.specs.Prelude.{◌^◌, pos, neg_ℤ, ◌≤ℤ◌, ◌<ℤ◌, All, Option, IfSome}
use Rattle.elk_doc.specs.declared.document.Id.{Id}
use Rattle.elk_doc.specs.declared.document.Id.TheVariants.{Text, Whole}
use Rattle.elk_doc.specs.declared.document.Node.{Node}
use Rattle.elk_doc.specs.declared.document.Port.{Port}
use Rattle.elk_doc.specs.declared.document.Edge.{Edge}
use Rattle.elk_doc.specs.Document.{Document}

-- a whole id is a number of 64 bits, with a sign or without
abbrev pub IsWord : Id → Type 0
IsWord (Text s) = Unit {0}
IsWord (Whole z) = (neg_ℤ (pos (2 ^ 63)) ≤ℤ z) × (z <ℤ pos (2 ^ 64))

abbrev pub IsWordIfAny : Option Id → Type 0
IsWordIfAny id = IfSome id IsWord

-- each whole id of the document is
pub record HasWords (doc : Document) : Type 0 where
  pub nodes_have : All (λ (n : Node). IsWordIfAny n.id) doc.nodes
  pub ports_have : All (λ (p : Port). IsWord p.id) doc.ports
  pub edges_have : All (λ (e : Edge). IsWord e.id) doc.edges
