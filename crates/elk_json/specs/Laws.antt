-- Laws of the definitions.
use Rattle.std.specs.Prelude.{◌≡◌, None}
use Rattle.serde_json.specs.Data.{Data}
use Rattle.elk_doc.specs.Document.{document}
use Rattle.elk_doc.specs.Sound.{IsSound}
use Rattle.elk_json.specs.Elements.{elements}
use Rattle.elk_json.specs.Document.{nodes_of, ports_of, edges_of}
use Rattle.elk_json.specs.Rules.{refused}

-- the document of a value that no rule refuses is sound
abbrev pub AcceptedAreSound : Type 0
AcceptedAreSound =
    (d : Data) → refused d ≡ None → IsSound (document (nodes_of (elements d)) (ports_of (elements d)) (edges_of (elements d)))
