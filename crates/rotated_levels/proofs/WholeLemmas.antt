-- A certificate of a level is one of the document.
use Rattle.std.proofs.Common.{ℕ, length, ap, ◌∙◌}
use Rattle.elk_doc.specs.declared.document.LevelOptions.{LevelOptions}
use Rattle.elk_doc.specs.declared.drawing.Certificate.{Certificate}
use Rattle.elk_doc.specs.declared.drawing.Placed.{Placed}
use Rattle.elk_doc.specs.Document.{Document}
use Rattle.elk_doc.specs.Level.{is_child, is_edge_of}
use Rattle.elk_doc.specs.Sound.{IsSound}
use Rattle.elk_doc.proofs.NumberLaws.{length-numbers_below}
use Rattle.working_frame.proofs.NumberedLemmas.{levels_are_listed}
use Rattle.rotated_levels.specs.Certified.{IsCertified, IsSoundCertificate}
use Rattle.rotated_levels.proofs.ReversedLemmas.{reversed_there, listed_there, ascending_there}
use Rattle.rotated_levels.proofs.LayerLemmas.{layering_there, begins_there}
use Rattle.rotated_levels.proofs.FlowLemmas.{flow_proof_there}

pub certificates_rotate_back : (d : Document) (p : Placed) (n : ℕ) (o : LevelOptions) (made written : Certificate)
    → IsSound d → IsCertified d p n o made written → IsSoundCertificate d p n o written
certificates_rotate_back d p n o made written s c =
    let l = levels_are_listed d p n o in
    record {
      reversed = reversed_there d p n o made written s c;
      layering = layering_there d p n o made written s c;
      flow = flow_proof_there d p n o made written s c;
      begins = begins_there d p n o made written s c;
      fits = λ parts. record {
        layers = ap length c.numbered.layers ∙ c.of_level.layer_for_each ∙ l.child_count ∙ length-numbers_below (is_child d n) (length d.nodes);
        flow = ap length c.numbered.flow ∙ c.of_level.flow_for_each ∙ l.edge_count ∙ length-numbers_below (is_edge_of d n) (length d.edges);
        parts = parts;
        ascending = ascending_there d p n o made written s c;
        listed = listed_there d p n o made written s c;
      };
    }
