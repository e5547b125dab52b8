-- The certificates of a level's connected parts, put together.
use Rattle.std.specs.Prelude.{◌≡◌, ℕ, zero, suc, ◌+◌, ◌<◌, Bool, List, length, slice_index}
use Rattle.std.specs.List.{filter, range_with_len}
use Rattle.elk_doc.specs.declared.drawing.Certificate.{Certificate}
use Rattle.level_layout.specs.Certificate.{IsCertificateOf}
use Rattle.level_model.specs.Conditions.{IsLevel}
use Rattle.level_model.specs.Level.{PlainLevel, holds}
use Rattle.network_parts.specs.Divided.{place_of}
use Rattle.network_parts.specs.Dividing.{AreCounted}
use Rattle.level_parts.specs.Divided.{edge_keys, part_level}
use Rattle.level_parts.specs.Parts.{AreParts}
use Rattle.rotated_levels.specs.Certified.{IsProofOf}

-- the spans of the first n certificates together
unfoldable pub spans_to : (ℕ → Certificate) → ℕ → ℕ
spans_to own zero = 0
spans_to own (suc k) = spans_to own k + (own k).span

-- whether the certificate of its part says of an edge of the level that it is reversed
abbrev pub rotates : PlainLevel → List ℕ → (ℕ → Certificate) → ℕ → Bool
rotates l numbers own e = holds (own (slice_index (edge_keys l numbers) e)).reversed (place_of (edge_keys l numbers) e)

-- The parts have these numbers, by child, and there are so many, each with a certificate of its own. Each child has its layer,
-- and each edge its flow, from the certificate of its part; the edges that are reversed are those that are in their parts,
-- in ascending order; the spans add up; and the numbers of the parts are written.
pub record IsJoinedCertificate (l : PlainLevel) (numbers : List ℕ) (count : ℕ) (own : ℕ → Certificate) (c : Certificate) : Type 0 where
  pub layer_for_each : length c.layers ≡ length l.children
  pub layers : (a : ℕ) → a < length l.children
      → slice_index c.layers a ≡ slice_index (own (slice_index numbers a)).layers (place_of numbers a)
  pub flow_for_each : length c.flow ≡ length l.edges
  pub flow : (e : ℕ) → e < length l.edges
      → slice_index c.flow e ≡ slice_index (own (slice_index (edge_keys l numbers) e)).flow (place_of (edge_keys l numbers) e)
  pub reversed : c.reversed ≡ filter (rotates l numbers own) (range_with_len 0 (length l.edges))
  pub span : c.span ≡ spans_to own count
  pub parts : c.parts ≡ numbers

-- these are the certificates of the parts, each of a level of its own
pub record AreCertificates (l : PlainLevel) (numbers : List ℕ) (count : ℕ) (own : ℕ → Certificate) : Type 0 where
  pub level : IsLevel l
  pub numbered : AreParts l numbers
  pub counted : AreCounted numbers (length numbers) count
  pub each : (k : ℕ) → k < count → IsCertificateOf (part_level l numbers k) (own k)

-- So they are a certificate of the whole.
abbrev pub CertificatesJoin : Type 0
CertificatesJoin =
    (l : PlainLevel) (numbers : List ℕ) (count : ℕ) (own : ℕ → Certificate) (c : Certificate)
    → AreCertificates l numbers count own → IsJoinedCertificate l numbers count own c → IsProofOf l c
