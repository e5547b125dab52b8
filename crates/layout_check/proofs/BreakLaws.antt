-- Where first places are named, the definition fails.
use Rattle.std.proofs.Common.{◌≢◌, ℕ, ◌<◌, List, Option, Some, None, MatchOption, arith, sym, inl, inr}
use Rattle.std.proofs.lemmas.Bool.{cases_order}
use Rattle.std.proofs.lemmas.List.Elements.{All-contains}
use Rattle.elk_doc.specs.declared.document.LevelOptions.{LevelOptions}
use Rattle.elk_doc.specs.declared.drawing.Certificate.{Certificate}
use Rattle.elk_doc.specs.declared.drawing.Placed.{Placed}
use Rattle.elk_doc.specs.Document.{Document}
use Rattle.elk_doc.specs.Level.{source_node, target_node}
use Rattle.elk_doc.specs.Paths.{Reaches}
use Rattle.elk_doc.specs.Reversed.{UnlistedStep}
use Rattle.elk_doc.specs.Drawing.{path_of}
use Rattle.elk_doc.specs.Sharing.{PathsShare, Sharing as SharesRightly}
use Rattle.drawing_types.specs.declared.shape.Point.{Point}
use Rattle.elk_doc.specs.Sound.{IsSound}
use Rattle.layout_check.specs.declared.fault.Fault.{Fault}
use Rattle.layout_check.proofs.BoxBreakLaws.{fault_breaks as apart_breaks}
use Rattle.layout_check.proofs.BreakInside.{fault_breaks as inside_breaks}
use Rattle.layout_check.proofs.PortBreakLaws.{fault_breaks as ports_breaks}
use Rattle.layout_check.specs.FirstRoutes.{FirstSharing, SharingHolds}
use Rattle.layout_check.specs.declared.definition.Definition.{Definition}
use Rattle.layout_check.specs.declared.definition.Definition.TheVariants.{Apart, Inside, PortsKept, Route, Clear, Sharing, Reversed, Layering, FlowProof}
use Rattle.layout_check.specs.Definitions.{FirstPlaces, Holds}
use Rattle.layout_check.specs.Judged.{Judges}

ascending_differ : (a b : ℕ) → a < b → a ≢ b
ascending_differ a b l e = absurd (omega (arith, l, e))

places_break : (t : Definition) (d : Document) (p : Placed) (n : ℕ) (o : LevelOptions) (c : Certificate) (x : Fault) → IsSound d → FirstPlaces t d p n o c x → Holds t d p n o c → ⊥
places_break Apart d p n o c x sound places holds = apart_breaks d p n o c x places holds
places_break Inside d p n o c x sound places holds = inside_breaks d p n o x places holds
places_break PortsKept d p n o c x sound places holds = ports_breaks d p n x sound places holds
places_break Route d p n o c x sound (e, _, first) holds = first.fails (holds e)
places_break Clear d p n o c x sound (e, a, _, first) holds = first.fails (holds e a)
places_break Sharing d p n o c x sound (e, f, _, first) holds =
    first.fails (λ one other l. holds e f one other (ascending_differ e f l))
places_break Reversed d p n o c x sound (inl (e, _, first)) holds =
    first.fails (λ listed. All-contains (λ e. Reaches (UnlistedStep d n c) (target_node d e) (source_node d e)) c.reversed e holds.closes listed)
places_break Reversed d p n o c x sound (inr (_, _, round)) holds = round holds.acyclic
places_break Layering d p n o c x sound (inl (e, _, first)) holds = first.fails (holds.layers e)
places_break Layering d p n o c x sound (inr (_, _, wrong)) holds = wrong holds.span
places_break FlowProof d p n o c x sound (_, wrong) holds = wrong holds

-- a test that names the first places judges the definition
pub judged : (t : Definition) (d : Document) (p : Placed) (n : ℕ) (o : LevelOptions) (c : Certificate) (fault : Option Fault) → IsSound d → MatchOption fault (Holds t d p n o c) (FirstPlaces t d p n o c) → Judges t d p n o c fault
judged t d p n o c None sound holds = holds
judged t d p n o c (Some x) sound places = record { breaks = places_break t d p n o c x sound places; places = places }

-- sharing is even-handed, so that it may be asked of the lower number first
turned_round : (path other : List Point) → PathsShare path other → PathsShare other path
turned_round path other r =
    record {
      i = r.j;
      j = r.i;
      i_in = r.j_in;
      j_in = r.i_in;
      piece =
          record {
            one = r.piece.one;
            other = r.piece.other;
            differ = r.piece.differ;
            one_on_first = r.piece.one_on_second;
            one_on_second = r.piece.one_on_first;
            other_on_first = r.piece.other_on_second;
            other_on_second = r.piece.other_on_first;
          };
    }

other_way : (d : Document) (p : Placed) (e f : ℕ) → SharesRightly d p f e → SharesRightly d p e f
other_way d p e f h share =
    let found = h (turned_round (path_of p e) (path_of p f) share) in
    (found.1, found.0, sym found.2)

sharing_by_order : (d : Document) (p : Placed) (n : ℕ) (o : LevelOptions) (c : Certificate) → ((e f : ℕ) → SharingHolds d p n e f) → Holds Sharing d p n o c
sharing_by_order d p n o c holds e f one other differ =
    elim (cases_order e f) [
      | inl same ↦ absurd (differ same)
      | inr (inl l) ↦ holds e f one other l
      | inr (inr l) ↦ other_way d p e f (holds f e other one l)
    ]

pub sharing_judged : (d : Document) (p : Placed) (n : ℕ) (o : LevelOptions) (c : Certificate) (fault : Option Fault) → IsSound d → MatchOption fault ((e f : ℕ) → SharingHolds d p n e f) (FirstSharing d p n) → Judges Sharing d p n o c fault
sharing_judged d p n o c None sound holds = sharing_by_order d p n o c holds
sharing_judged d p n o c (Some x) sound places = record { breaks = places_break Sharing d p n o c x sound places; places = places }
