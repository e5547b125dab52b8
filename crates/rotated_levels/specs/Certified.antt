-- The certificate of a level is one of the document.
use Rattle.std.specs.Prelude.{◌≡◌, ◌<◌, ℕ, pos, length, map, Some, IsTrue, if◌then◌else◌}
use Rattle.elk_doc.specs.declared.document.LevelOptions.{LevelOptions}
use Rattle.elk_doc.specs.declared.drawing.Certificate.{Certificate}
use Rattle.elk_doc.specs.declared.drawing.Placed.{Placed}
use Rattle.elk_doc.specs.Document.{Document}
use Rattle.elk_doc.specs.Level.{IsChild}
use Rattle.elk_doc.specs.Drawing.{certificate_of, layer_in}
use Rattle.elk_doc.specs.Sound.{IsSound}
use Rattle.elk_doc.specs.Fits.{FitsCertificate, child_count}
use Rattle.elk_doc.specs.Apart.{InOnePart}
use Rattle.elk_doc.specs.Reversed.{Reversed}
use Rattle.elk_doc.specs.Layering.{Layering}
use Rattle.elk_doc.specs.FlowProof.{FlowProof}
use Rattle.network_laws.specs.Layering.{IsSolution}
use Rattle.level_model.specs.Level.{PlainLevel, is_loop}
use Rattle.level_layout.specs.Certificate.{AreReversed, flow_at, link_flows, network}
use Rattle.working_frame.specs.Rotated.{level_of}
use Rattle.working_frame.specs.Drawing.{IsNumberedAs}

-- What is read of a level's certificate: the edges that are reversed close cycles, and none is left; there is a layer for
-- each child and a flow for each edge, 0 at self-loops; and layers, flow and span are a solution of the level's network. However
-- the solution was found, and whatever parts are named, it proves the same.
pub record IsProofOf (l : PlainLevel) (c : Certificate) : Type 0 where
  pub reversed : AreReversed l c.reversed
  pub layer_for_each : length c.layers ≡ length l.children
  pub flow_for_each : length c.flow ≡ length l.edges
  pub loops : (e : ℕ) → e < length l.edges → IsTrue (is_loop l e) → flow_at c.flow e ≡ 0
  pub solves : IsSolution (length l.children) (network l c.reversed) (map pos c.layers) (link_flows l c.flow) c.span

-- What is written for the level of n is a certificate of that level, with the document's numbers of its edges.
pub record IsCertified (d : Document) (p : Placed) (n : ℕ) (o : LevelOptions) (made written : Certificate) : Type 0 where
  pub of_level : IsProofOf (level_of d p n o) made
  pub numbered : IsNumberedAs d n written made
  pub is_written : certificate_of p n ≡ Some written

-- each part of the level has a child in layer 0
abbrev pub PartsBeginAtZero : Document → ℕ → Certificate → Type 0
PartsBeginAtZero d n c =
    (a : ℕ) → IsChild d n a → (b : ℕ) × IsChild d n b × InOnePart d n a b × (layer_in d n c b ≡ 0)

-- What a certificate must be in the document: its edges that are reversed, its layers with their span, and its flow prove
-- what they should, each part begins in layer 0, and its lists have their lengths, but for the parts, which may be added.
pub record IsSoundCertificate (d : Document) (p : Placed) (n : ℕ) (o : LevelOptions) (c : Certificate) : Type 0 where
  pub reversed : Reversed d n c
  pub layering : Layering d p n c
  pub flow : FlowProof d p n c
  pub begins : PartsBeginAtZero d n c
  pub fits : length c.parts ≡ (if o.split then child_count d n else 0) → FitsCertificate d n o c

abbrev pub CertificatesRotateBack : Type 0
CertificatesRotateBack =
    (d : Document) (p : Placed) (n : ℕ) (o : LevelOptions) (made written : Certificate)
    → IsSound d → IsCertified d p n o made written → IsSoundCertificate d p n o written
