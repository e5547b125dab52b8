-- Each reply of `batch` is one line.
use Rattle.std.proofs.Common.{◌≡◌, inl, inr, ℕ, ◌<◌, List, [], ◌∷◌, ◌++◌, length, codes, Option, None, Some, refl, sym, ◌∙◌, ap, subst, arith}
use Rattle.std.specs.Fmt.{decimal}
use Rattle.std.specs.Io.KnownBytes.{Appends, Consumes}
use Rattle.elk_doc.specs.declared.document.Id.{Id}
use Rattle.elk_json.specs.declared.fault.Rule.{Rule}
use Rattle.elk_json.specs.declared.fault.Rule.TheVariants as rules
use Rattle.elk_json.specs.declared.fault.Refusal.{Refusal}
use Rattle.elk_json.specs.Refused.{rule_name, rule_number}
use Rattle.elk_write.specs.Text.{line_feeds, IsOneLine}
use Rattle.elk_write.proofs.OneLine.{decimal_feeds, feeds-append, id_feeds, no_feeds, one_feed}
use Rattle.elk_engine.specs.declared.words.Command.{Command}
use Rattle.elk_engine.specs.declared.words.Command.TheVariants.{Batch}
use Rattle.elk_engine.specs.Notes.{place_text, refused_note, too_long_note}
use Rattle.elk_engine.specs.Batch.{IsReply, AreReplies, AreAllReplies, with_last, GainsLines}
use Rattle.elk_engine.specs.Command.{Answers}
use Rattle.elk_engine.specs.Outcome.{Outcome, Run, Stream}
use Rattle.elk_engine.proofs.Outcomes.{Noted}

-- ---- the line of a refusal

name_feeds : (r : Rule) → line_feeds (rule_name r) ≡ 0
name_feeds rules.NotJson = refl
name_feeds rules.NotWhole = refl
name_feeds rules.BadShape = refl
name_feeds rules.OutOfRange = refl
name_feeds rules.TooMany = refl
name_feeds rules.TooDeep = refl
name_feeds rules.DoubleId = refl
name_feeds rules.UnknownEnd = refl
name_feeds rules.Hyperedge = refl
name_feeds rules.CrossLevel = refl
name_feeds rules.OptionValue = refl
name_feeds rules.PortInside = refl
name_feeds rules.NotPlaced = refl

place_feeds : (place : Option Id) → line_feeds (place_text place) ≡ 0
place_feeds None = refl
place_feeds (Some id) = id_feeds id

-- all of it but the line feed
abbrev before_feed : Refusal → List ℕ
before_feed r = codes "refused " ++ decimal (rule_number r.rule) ++ codes " " ++ rule_name r.rule ++ codes " " ++ place_text r.place

before_feeds : (r : Refusal) → line_feeds (before_feed r) ≡ 0
before_feeds r =
    let number : List ℕ = decimal (rule_number r.rule) in
    let one : List ℕ = codes "refused " ++ number in
    let two : List ℕ = one ++ codes " " in
    let three : List ℕ = two ++ rule_name r.rule in
    let four : List ℕ = three ++ codes " " in
    no_feeds four (place_text r.place)
    (no_feeds three (codes " ") (no_feeds two (rule_name r.rule) (no_feeds one (codes " ") (no_feeds (codes "refused ") number refl (decimal_feeds (rule_number r.rule))) refl) (name_feeds r.rule)) refl) (place_feeds r.place)

pub note_is_line : (r : Refusal) (bytes : List ℕ) → bytes ≡ refused_note r → IsOneLine bytes
note_is_line r bytes is = record { line = before_feed r; none_before = before_feeds r; ended = is }

pub long_is_line : (bytes : List ℕ) → bytes ≡ too_long_note → IsOneLine bytes
long_is_line bytes is = record { line = codes "refused 0 TooLong -"; none_before = refl; ended = is }

-- ---- as many line feeds as replies

reply_is_line : (line reply : List ℕ) → IsReply line reply → IsOneLine reply
unfolding IsReply
reply_is_line line reply (one, is) = one

feeds_of : (lines : List (List ℕ)) (text : List ℕ) → AreReplies lines text → line_feeds text ≡ length lines
feeds_of [] text none = ap line_feeds none
feeds_of (line ∷ lines) text (reply, rest, parted, is, others) =
    let whole = ap line_feeds parted in
    let sum = feeds-append reply rest in
    let one = one_feed reply (reply_is_line line reply is) in
    let more = feeds_of lines rest others in
    omega (arith, whole, sum, one, more)

gains_by : (before left out new_out : Option (List ℕ)) (bytes text : List ℕ) → Consumes before left bytes → AreAllReplies bytes text → Appends out new_out text → GainsLines before left out new_out
gains_by before left out new_out bytes text took (lines, last, parted, replies) gained =
    record {
      bytes = bytes;
      text = text;
      lines = lines;
      last = last;
      consumed = took;
      parted = parted;
      replies = replies;
      gained = gained;
      as_many = feeds_of (with_last lines last) text replies;
    }

all_replies : (taken : List ℕ) (status : ℕ) (text : List ℕ) → Answers Batch taken status text → AreAllReplies taken text
all_replies taken status text (zero, replies) = replies

batch_lines : (run : Run) (before : Option (List ℕ)) → Consumes before run.source.new run.taken → Outcome Batch run → run.status ≡ 0 → GainsLines before run.source.new run.out.old run.out.new
batch_lines run before took o zero =
    let a = o.answered (omega (arith, zero)) in
    gains_by before run.source.new run.out.old run.out.new run.taken a.2 took (all_replies run.taken run.status a.2 a.3) a.4.out_gained

same_command : (a b : Command) (asked : Option Command) → asked ≡ Some a → asked ≡ Some b → a ≡ b
same_command a b asked is also = let e : Some a ≡ Some b = sym is ∙ also in cc

pub run_lines : (asked : Option Command) (command : Command) (run : Run) (before : Option (List ℕ)) → asked ≡ Some command → Consumes before run.source.new run.taken → Outcome command run → asked ≡ Some Batch → run.status ≡ 0 → GainsLines before run.source.new run.out.old run.out.new
run_lines asked command run before is took o batch = batch_lines run before took (subst (λ (k : Command). Outcome k run) (same_command command Batch asked is batch) o)

-- a run that only writes a note doesn't end with 0
pub noted_otherwise : {goal : Type 0} (status : ℕ) (note : List ℕ) (result : ℕ) (notes : Stream) → Noted status note result notes → 0 < status → result ≡ 0 → goal
noted_otherwise status note result notes (inl (is, appends)) some zero = absurd (omega (arith, is, some, zero))
noted_otherwise status note result notes (inr (is, rose, part)) some zero = absurd (omega (arith, is, zero))
