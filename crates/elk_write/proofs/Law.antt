-- The answer is the value placed by the drawing.
use Rattle.std.proofs.Common.{◌≡◌, true, None}
use Rattle.serde_json.specs.Data.{Data}
use Rattle.elk_doc.specs.declared.drawing.Placed.{Placed}
use Rattle.elk_doc.specs.Document.{Document}
use Rattle.elk_doc.specs.Fits.{Fits}
use Rattle.elk_json.specs.Document.{IsDocument}
use Rattle.elk_json.specs.Elements.{elements}
use Rattle.elk_json.specs.Keyed.{IsKeyed}
use Rattle.elk_json.specs.Rules.{refused}
use Rattle.elk_write.specs.Numbers.{from_zero}
use Rattle.elk_write.specs.Written.{IsPlacedBy}
use Rattle.elk_write.specs.Answered.{answer_node}
use Rattle.elk_write.proofs.Stripped.{strip_answer}
use Rattle.elk_write.proofs.Pairs.{pairs_whole}
use Rattle.elk_write.proofs.Ready.{nodes_written, ports_written, edges_written}
use Rattle.elk_write.proofs.Known.{whole_by, shaped_by, ready_nodes, ready_ports, ready_edges}
use Rattle.elk_write.proofs.Clean.{IsClean, float_whole, answer_clean}

abbrev pub answer_of : Document → Placed → Data → Data
answer_of doc p v = answer_node doc p from_zero true v

pub answer_placed : (doc : Document) (p : Placed) (v : Data) → IsKeyed v → refused v ≡ None → IsDocument doc v → Fits doc p → IsPlacedBy v doc p (answer_of doc p v)
answer_placed doc p v keyed accepted is fits =
    let shaped = shaped_by v accepted in
    let pairs = pairs_whole doc p v keyed in (
      strip_answer doc p from_zero true v keyed,
      nodes_written doc p (elements v) (elements (answer_of doc p v)) pairs (ready_nodes doc p v is fits shaped),
      ports_written doc p (elements v) (elements (answer_of doc p v)) pairs (ready_ports doc p v is fits shaped),
      edges_written doc p (elements v) (elements (answer_of doc p v)) pairs (ready_edges doc p v is fits shaped),
    )

pub answer_whole : (doc : Document) (p : Placed) (v : Data) → IsKeyed v → refused v ≡ None → IsClean (answer_of doc p v)
answer_whole doc p v keyed accepted = answer_clean v doc p from_zero true (float_whole v (whole_by v accepted), keyed)
