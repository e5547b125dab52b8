-- Lines and their replies.
use Rattle.std.proofs.Common.{◌≡◌, ◌≢◌, inl, inr, ℕ, ◌+◌, ◌-◌, ◌<◌, ◌≤◌, ◌^◌, Bool, true, false, List, [], ◌∷◌, ◌++◌, length, take, Some, Result, Ok, Err, refl, sym, ◌∙◌, ap, subst, arith, append_assoc, length-append}
use Rattle.std.specs.Prelude.{All}
use Rattle.std.specs.declared.option.Option.{Option}
use Rattle.std.proofs.lemmas.List.{append-nil, take-append-le, take_all}
use Rattle.std.proofs.lemmas.List.Elements.{All-append, All-cons, All-nil}
use Rattle.std.specs.Io.KnownBytes.{Appends, Consumes, IsAtEnd}
use Rattle.std.proofs.KnownBytes.{Appends-trans, Appends-nil, Consumes-nil, Consumes-trans}
use Rattle.elk_outer.specs.Whole.{AppendsPart}
use Rattle.elk_lines.specs.Reader.{HasNoFeed}
use Rattle.elk_lines.specs.Answers.{IsAnswer, IsFirstLine, IsOnePast}
use Rattle.elk_lines.specs.declared.answer.Piece.{Piece}
use Rattle.elk_lines.specs.declared.answer.Piece.TheVariants.{Line, Long, End}
use Rattle.elk_lines.specs.declared.answer.LineFault.{LineFault}
use Rattle.elk_lines.specs.declared.answer.LineFault.TheVariants.{Fault, TooLong as PastLimit, Memory as NoMemory}
use Rattle.elk_engine.specs.declared.words.Command.TheVariants.{Batch}
use Rattle.elk_engine.specs.declared.batch.Halt.{Halt}
use Rattle.elk_engine.specs.declared.batch.Halt.TheVariants.{Read, TooLong, Write, Memory}
use Rattle.elk_json.specs.declared.fault.Refusal.{Refusal}
use Rattle.elk_answer.specs.Answer as answer
use Rattle.elk_engine.specs.Notes.{refused_note, too_long_note}
use Rattle.elk_engine.specs.Batch.{longest, IsReply, IsShortReply, AreReplies, AreAllReplies, fed, with_last}
use Rattle.elk_engine.specs.Outcome.{HasFailed, Outcome, Run, Stream}
use Rattle.elk_engine.specs.Lines.{AreAnswered, IsDone, IsHalted, IsPut, IsPieceReply, IsReplyPut, AfterLine, halt_of, note_of, status_of}
use Rattle.elk_write.proofs.OneLine.{text_is_line}
use Rattle.elk_engine.proofs.OneLine.{long_is_line, note_is_line}
use Rattle.elk_engine.proofs.Outcomes.{Noted, answer_written, read_failed, memory_failed, refused, write_failed}

-- ---- the reply to a line

pub long_reply : (line reply : List ℕ) → longest < length line → reply ≡ too_long_note → IsReply line reply
unfolding IsReply
long_reply line reply long is = (long_is_line reply is, inl (long, is))

pub answered_reply : (line reply : List ℕ) → length line ≤ longest → answer.IsAccepted line → answer.IsAnswer line reply → IsReply line reply
unfolding IsReply IsShortReply
answered_reply line reply fits accepted answered = (text_is_line answered.good.answer reply answered.good.written, inr (fits, inl (accepted, answered)))

pub refused_reply : (line reply : List ℕ) (r : Refusal) → length line ≤ longest → answer.Refuses line r → reply ≡ refused_note r → IsReply line reply
unfolding IsReply IsShortReply
refused_reply line reply r fits refuses is = (note_is_line r reply is, inr (fits, inr (r, refuses, is)))

-- ---- lines one after the other

-- one more line
fed_more : (lines : List (List ℕ)) (line rest : List ℕ) → fed (lines ++ line ∷ []) ++ rest ≡ fed lines ++ (line ++ 10 ∷ rest)
fed_more [] line rest = append_assoc line (10 ∷ []) rest
fed_more (first ∷ lines) line rest =
    append_assoc first (10 ∷ fed (lines ++ line ∷ [])) rest ∙ ap (λ (l : List ℕ). first ++ 10 ∷ l) (fed_more lines line rest) ∙ sym (append_assoc first (10 ∷ fed lines) (line ++ 10 ∷ rest))

-- one more reply
replies_more : (lines : List (List ℕ)) (text line reply : List ℕ) → AreReplies lines text → IsReply line reply → AreReplies (lines ++ line ∷ []) (text ++ reply)
replies_more [] text line reply none is = (reply, [], ap (λ (l : List ℕ). l ++ reply) none ∙ sym (append-nil reply), is, refl)
replies_more (first ∷ lines) text line reply (head, rest, parted, is_first, others) is =
    (head, rest ++ reply, ap (λ (l : List ℕ). l ++ reply) parted ∙ append_assoc head rest reply, is_first, replies_more lines rest line reply others is)

no_feeds_more : (lines : List (List ℕ)) (line : List ℕ) → All HasNoFeed lines → HasNoFeed line → All HasNoFeed (lines ++ line ∷ [])
no_feeds_more lines line all one = All-append HasNoFeed lines (line ∷ []) all (All-cons HasNoFeed line [] one (All-nil HasNoFeed))

-- the last line isn't empty
with_last_line : (lines : List (List ℕ)) (line : List ℕ) → line ≢ [] → with_last lines line ≡ lines ++ line ∷ []
with_last_line lines [] some = absurd (some refl)
with_last_line lines (b ∷ bs) some = refl

-- a part of the last piece comes after the pieces before
appends_more : (a b c : Option (List ℕ)) (text piece : List ℕ) → Appends a b text → AppendsPart b c piece → AppendsPart a c (text ++ piece)
appends_more a b c text piece first (part, rest, parted, next) =
    (text ++ part, rest, append_assoc text part rest ∙ ap (λ (l : List ℕ). text ++ l) parted, Appends-trans a b c text part first next)

-- ---- the example: a line, another and the first again

example : (a b ra rb : List ℕ) → a ≢ [] → HasNoFeed a → HasNoFeed b → IsReply a ra → IsReply b rb → AreAllReplies (a ++ 10 ∷ (b ++ 10 ∷ a)) (ra ++ (rb ++ ra))
example a b ra rb some no_a no_b is_a is_b =
    let lines : List (List ℕ) = a ∷ b ∷ [] in
    let parted : a ++ 10 ∷ (b ++ 10 ∷ a) ≡ fed lines ++ a = sym (append_assoc a (10 ∷ (b ++ 10 ∷ [])) a ∙ ap (λ (l : List ℕ). a ++ 10 ∷ l) (append_assoc b (10 ∷ []) a)) in
    let replies : AreReplies (a ∷ b ∷ a ∷ []) (ra ++ (rb ++ ra)) = (ra, rb ++ ra, refl, is_a, (rb, ra, refl, is_b, (ra, [], sym (append-nil ra), is_a, refl))) in
    (lines, a, record { no_feeds = All-cons HasNoFeed a (b ∷ []) no_a (All-cons HasNoFeed b [] no_b (All-nil HasNoFeed)); none_after = no_a; parted = parted }, subst (λ l. AreReplies l (ra ++ (rb ++ ra))) (sym (with_last_line lines a some)) replies)

-- ---- at first

pub answered_none : (left out : Option (List ℕ)) (held : List ℕ) (taken : ℕ) → held ≡ [] → taken ≡ 0 → AreAnswered left left out out held taken
answered_none left out held taken none zero = record {
  lines = [];
  text = [];
  no_feeds = All-nil HasNoFeed;
  consumed = subst (λ (l : List ℕ). Consumes left left l) (sym none) (Consumes-nil left);
  count = zero ∙ ap length (sym none);
  replies = refl;
  written = Appends-nil out;
}

some_same : (a b : List ℕ) → Some a ≡ Some b → a ≡ b
some_same a b e = cc

-- all but the last of one byte more than these
take_front : (n : ℕ) (bytes first front : List ℕ) (last : ℕ) → bytes ≡ first ++ (front ++ last ∷ []) → length bytes ≡ n + 1 → take n bytes ≡ first ++ front
take_front n bytes first front last parted past =
    let all : List ℕ = first ++ front in
    let whole : bytes ≡ all ++ last ∷ [] = parted ∙ sym (append_assoc first front (last ∷ [])) in
    let size : length all ≡ n = (let e = ap length whole in let l = length-append all (last ∷ []) in omega (arith, e, l, past)) in
    ap (take n) whole ∙ take-append-le n all (last ∷ []) (omega (arith, size)) ∙ take_all n all (omega (arith, size))

-- nothing more was written
done_more : {before left out0 out : Option (List ℕ)} → IsDone before left out0 out → (out' : Option (List ℕ)) → Appends out out' [] → IsDone before left out0 out'
done_more {out0 = out0} {out = out} d out' none = record {
  bytes = d.bytes;
  text = d.text;
  consumed = d.consumed;
  at_end = d.at_end;
  within = d.within;
  replies = d.replies;
  written = subst (λ (l : List ℕ). Appends out0 out' l) (append-nil d.text) (Appends-trans out0 out out' d.text [] d.written none);
}

-- ---- after more bytes

module _ (before left left' out0 out : Option (List ℕ)) (held more : List ℕ) (taken taken' : ℕ) (s : AreAnswered before left out0 out held taken) (took : Consumes left left' more) (count : taken' ≡ taken + length more) where
  abbrev bytes : List ℕ
  bytes = fed s.lines ++ (held ++ more)

  consumes : Consumes before left' bytes
  consumes = subst (Consumes before left') (append_assoc (fed s.lines) held more) (Consumes-trans before left left' (fed s.lines ++ held) more s.consumed took)

  counts : taken' ≡ length bytes
  counts = let a = s.count in let b = length-append (fed s.lines) held in let c = length-append (fed s.lines) (held ++ more) in let d = length-append held more in omega (arith, a, b, c, d, count)

  pub no_more : held ++ more ≡ [] → IsAtEnd left' → taken' ≤ 2 ^ 32 → IsDone before left' out0 out
  no_more none end within = record {
    bytes = bytes;
    text = s.text;
    consumed = consumes;
    at_end = end;
    within = subst (λ (n : ℕ). n ≤ 2 ^ 32) counts within;
    replies = (s.lines, [], record { no_feeds = s.no_feeds; none_after = All-nil (λ (b : ℕ). b ≢ 10); parted = ap (λ (l : List ℕ). fed s.lines ++ l) none }, s.replies);
    written = s.written;
  }

  pub read_halt : HasNoFeed (held ++ more) → IsHalted before left' out0 out Read
  read_halt none = record {
    bytes = bytes;
    consumed = consumes;
    halted = (s.text, (s.lines, held ++ more, record { no_feeds = s.no_feeds; none_after = none; parted = refl }, s.replies), s.written);
  }

  pub memory_halt : IsHalted before left' out0 out Memory
  memory_halt = record {
    bytes = bytes;
    consumed = consumes;
    halted = (s.text, record { part = fed s.lines; first = record { rest = held ++ more; parted = refl }; begun = (s.lines, [], record { no_feeds = s.no_feeds; none_after = All-nil (λ (b : ℕ). b ≢ 10); parted = sym (append-nil (fed s.lines)) }, s.replies) }, s.written);
  }

  -- without the byte past the limit
  front_taken : (p : IsOnePast (held ++ more)) → taken' ≡ 2 ^ 32 + 1 → take (2 ^ 32) bytes ≡ fed s.lines ++ p.front
  front_taken p past =
      take_front (2 ^ 32) bytes (fed s.lines) p.front p.last (ap (λ (l : List ℕ). fed s.lines ++ l) p.parted) (sym counts ∙ past)

  pub long_halt : IsOnePast (held ++ more) → taken' ≡ 2 ^ 32 + 1 → IsHalted before left' out0 out TooLong
  long_halt p past = record {
    bytes = bytes;
    consumed = consumes;
    halted = (sym counts ∙ past, s.text, (s.lines, p.front, record { no_feeds = s.no_feeds; none_after = p.no_feed; parted = front_taken p past }, s.replies), s.written);
  }

  -- a reply to the next line
  module _ (line held' reply : List ℕ) (is : IsReply line reply) where
    abbrev replied : AreReplies (s.lines ++ line ∷ []) (s.text ++ reply)
    replied = replies_more s.lines s.text line reply s.replies is

    -- with its line feed
    module _ (first : IsFirstLine (held ++ more) line held' left' false) where
      abbrev with_feed : fed (s.lines ++ line ∷ []) ++ held' ≡ bytes
      with_feed = fed_more s.lines line held' ∙ ap (λ (l : List ℕ). fed s.lines ++ l) (sym first.parted)

      goes_on : (out' : Option (List ℕ)) → Appends out out' reply → AreAnswered before left' out0 out' held' taken'
      goes_on out' appends = record {
        lines = s.lines ++ line ∷ [];
        text = s.text ++ reply;
        no_feeds = no_feeds_more s.lines line s.no_feeds first.no_feed;
        consumed = subst (Consumes before left') (sym with_feed) consumes;
        count = counts ∙ ap length (sym with_feed);
        replies = replied;
        written = Appends-trans out0 out out' s.text reply s.written appends;
      }

      fed_failed : (out' : Option (List ℕ)) → AppendsPart out out' reply → IsHalted before left' out0 out' Write
      fed_failed out' part = record {
        bytes = bytes;
        consumed = consumes;
        halted = inl (
          s.text ++ reply,
          record {
            part = fed (s.lines ++ line ∷ []);
            first = record { rest = held'; parted = with_feed };
            begun = (s.lines ++ line ∷ [], [], record { no_feeds = no_feeds_more s.lines line s.no_feeds first.no_feed; none_after = All-nil (λ (b : ℕ). b ≢ 10); parted = sym (append-nil (fed (s.lines ++ line ∷ []))) }, replied);
          },
          appends_more out0 out out' s.text reply s.written part,
        );
      }

    -- to the end
    module _ (first : IsFirstLine (held ++ more) line held' left' true) (within : taken' ≤ 2 ^ 32) where
      abbrev all_replied : AreAllReplies bytes (s.text ++ reply)
      all_replied = (s.lines, line, record { no_feeds = s.no_feeds; none_after = first.no_feed; parted = ap (λ (l : List ℕ). fed s.lines ++ l) first.parted.0 }, subst (λ l. AreReplies l (s.text ++ reply)) (sym (with_last_line s.lines line first.parted.2)) replied)

      short : length bytes ≤ 2 ^ 32
      short = subst (λ (n : ℕ). n ≤ 2 ^ 32) counts within

      ends : (out' : Option (List ℕ)) → Appends out out' reply → IsDone before left' out0 out'
      ends out' appends = record {
        bytes = bytes;
        text = s.text ++ reply;
        consumed = consumes;
        at_end = first.parted.3;
        within = short;
        replies = all_replied;
        written = Appends-trans out0 out out' s.text reply s.written appends;
      }

      end_failed : (out' : Option (List ℕ)) → AppendsPart out out' reply → IsHalted before left' out0 out' Write
      end_failed out' part = record {
        bytes = bytes;
        consumed = consumes;
        halted = inr (first.parted.3, record { not_long = λ long. (let n = short in omega (arith, long, n)); not_refused = λ note refuses. refuses }, 0, s.text ++ reply, (refl, all_replied), appends_more out0 out out' s.text reply s.written part);
      }

    -- after a reply that was written, or written in part
    after_put : (ended : Bool) → IsFirstLine (held ++ more) line held' left' ended → taken' ≤ 2 ^ 32 → (out' : Option (List ℕ)) → Appends out out' reply → AfterLine before left' out0 out' held' taken' (Ok ended)
    after_put true first within out' appends = ends first within out' appends
    after_put false first within out' appends = goes_on first out' appends

    after_part : (ended : Bool) → IsFirstLine (held ++ more) line held' left' ended → taken' ≤ 2 ^ 32 → (out' : Option (List ℕ)) → AppendsPart out out' reply → IsHalted before left' out0 out' Write
    after_part true first within out' part = end_failed first within out' part
    after_part false first within out' part = fed_failed first out' part

  module _ (held' : List ℕ) (told : Option (List ℕ)) (ended : Bool) (out' : Option (List ℕ)) (within : taken' ≤ 2 ^ 32) where
    put_line : (piece : Piece) (last : Bool) → IsAnswer (2 ^ 24) (held ++ more) held' told left' ended (Ok piece) → IsPut piece told ended out out' (Ok last) → AfterLine before left' out0 out' held' taken' (Ok ended)
    put_line Line last (line, first, fits, told_is) (reply, (same, is_told, is), (_, appends)) =
        after_put line held' reply (subst (λ (l : List ℕ). IsReply l reply) (some_same same line (sym is_told ∙ told_is)) is) ended first within out' appends
    put_line Long last (line, first, longer) (reply, is, (_, appends)) = after_put line held' reply (long_reply line reply longer is) ended first within out' appends
    put_line End last (none, rest, end, on) (reply, is, (_, appends)) = subst (λ (e : Bool). AfterLine before left' out0 out' held' taken' (Ok e)) (sym on) (done_more (no_more none end within) out' (subst (λ (l : List ℕ). Appends out out' l) is appends))

    put_part : (piece : Piece) → IsAnswer (2 ^ 24) (held ++ more) held' told left' ended (Ok piece) → IsPut piece told ended out out' (Err Write) → IsHalted before left' out0 out' Write
    put_part Line (line, first, fits, told_is) (reply, (same, is_told, is), _, part) =
        after_part line held' reply (subst (λ (l : List ℕ). IsReply l reply) (some_same same line (sym is_told ∙ told_is)) is) ended first within out' part
    put_part Long (line, first, longer) (reply, is, _, part) = after_part line held' reply (long_reply line reply longer is) ended first within out' part
    put_part End answer (reply, is, other, part) = absurd (other refl)

    pub after_piece : (piece : Piece) (r : Result Bool Halt) → IsAnswer (2 ^ 24) (held ++ more) held' told left' ended (Ok piece) → IsPut piece told ended out out' r → AfterLine before left' out0 out' held' taken' r
    after_piece piece (Ok last) answer put = subst (λ (e : Bool). AfterLine before left' out0 out' held' taken' (Ok e)) (sym put.2.0) (put_line piece last answer put)
    after_piece piece (Err Write) answer put = put_part piece answer put
    after_piece piece (Err Memory) answer put = subst (λ (o : Option (List ℕ)). IsHalted before left' out0 o Memory) (sym put) memory_halt
    after_piece piece (Err Read) answer put = absurd put
    after_piece piece (Err TooLong) answer put = absurd put

  pub after_fault : (rest : List ℕ) (told : Option (List ℕ)) (ended : Bool) (fault : LineFault) → (fault ≡ PastLimit → taken' ≡ 2 ^ 32 + 1) → IsAnswer (2 ^ 24) (held ++ more) rest told left' ended (Err fault) → IsHalted before left' out0 out (halt_of fault)
  after_fault rest told ended Fault past answer = read_halt answer
  after_fault rest told ended PastLimit past answer = long_halt answer (past refl)
  after_fault rest told ended NoMemory past answer = memory_halt

-- a line with its feed leaves less to come
pub less_left : (held more line held' : List ℕ) (left : Option (List ℕ)) (taken taken' : ℕ) (ended : Bool) → IsFirstLine (held ++ more) line held' left ended → ended ≡ false → taken' ≡ taken + length more → taken' ≤ 2 ^ 32 → (2 ^ 32 + 1 - taken') + length held' < (2 ^ 32 + 1 - taken) + length held
less_left held more line held' left taken taken' true first on count within = cc
less_left held more line held' left taken taken' false first on count within =
    let a = ap length first.parted in let b = length-append held more in let c = length-append line (10 ∷ held') in omega (arith, a, b, c, count, within)

pub less_after : (piece : Piece) (r : Result Bool Halt) (held more held' : List ℕ) (told left out out' : Option (List ℕ)) (taken taken' : ℕ) (ended : Bool) → IsAnswer (2 ^ 24) (held ++ more) held' told left ended (Ok piece) → IsPut piece told ended out out' r → r ≡ Ok false → taken' ≡ taken + length more → taken' ≤ 2 ^ 32 → (2 ^ 32 + 1 - taken') + length held' < (2 ^ 32 + 1 - taken) + length held
less_after piece (Err halt) held more held' told left out out' taken taken' ended answer put on count within = cc
less_after Line (Ok last) held more held' told left out out' taken taken' ended answer put on count within = less_left held more answer.0 held' left taken taken' ended answer.1 (let e = put.2.0 in cc) count within
less_after Long (Ok last) held more held' told left out out' taken taken' ended answer put on count within = less_left held more answer.0 held' left taken taken' ended answer.1 (let e = put.2.0 in cc) count within
less_after End (Ok last) held more held' told left out out' taken taken' ended answer put on count within = (let e = put.2.0 in let yes_ended = answer.3 in cc)

-- a reply to what the reader gave out was written, or not
pub reply_put : (piece : Piece) (told : Option (List ℕ)) (ended : Bool) (out out' : Option (List ℕ)) (reply : List ℕ) (r : Result Bool Halt) → piece ≢ End → IsPieceReply piece told reply → IsReplyPut reply ended out out' r → IsPut piece told ended out out' r
reply_put piece told ended out out' reply (Ok last) other is put = (reply, is, put)
reply_put piece told ended out out' reply (Err Write) other is put = (reply, is, other, put)
reply_put piece told ended out out' reply (Err Memory) other is put = put
reply_put piece told ended out out' reply (Err Read) other is put = put
reply_put piece told ended out out' reply (Err TooLong) other is put = put

-- ---- the whole run

pub done_outcome : (before : Option (List ℕ)) (source out notes : Stream) → IsDone before source.new out.old out.new → Appends notes.old notes.new [] → (taken : List ℕ) × Consumes before source.new taken × Outcome Batch (record { status = 0; taken = taken; source = source; out = out; notes = notes })
done_outcome before source out notes d none = (
  d.bytes,
  d.consumed,
  answer_written Batch _ d.text d.at_end (record { not_long = λ long. (let n = d.within in omega (arith, long, n)); not_refused = λ note refuses. refuses }) (refl, d.replies) (record { out_gained = d.written; notes_gained = none }),
)

-- the run ended at the halt, and this was noted
module _ (status : ℕ) (before : Option (List ℕ)) (source out notes : Stream) where
  abbrev run_of : List ℕ → Run
  run_of taken = record { status = status; taken = taken; source = source; out = out; notes = notes }

  pub halted_outcome : (halt : Halt) → IsHalted before source.new out.old out.new halt → (halt ≡ Read → HasFailed source) → (halt ≡ Write → HasFailed out) → Noted (status_of halt) (note_of halt) status notes → (taken : List ℕ) × Consumes before source.new taken × Outcome Batch (run_of taken)
  halted_outcome Read h reads writes noted =
      let (text, begun, gained) = h.halted in
      (h.bytes, h.consumed, read_failed Batch (run_of h.bytes) text (note_of Read) gained (record { failed = reads refl; begun = begun; note_is = refl }) noted)
  halted_outcome TooLong h reads writes noted =
      let (past, text, begun, gained) = h.halted in
      (h.bytes, h.consumed, refused Batch (run_of h.bytes) text (note_of TooLong) gained (record { refused = inl (omega (arith, past), past, refl); begun = begun }) noted)
  halted_outcome Write h reads writes noted = (h.bytes, h.consumed, write_failed Batch (run_of h.bytes) (writes refl) h.halted noted)
  halted_outcome Memory h reads writes noted =
      let (text, begun, gained) = h.halted in
      (h.bytes, h.consumed, memory_failed Batch (run_of h.bytes) text (note_of Memory) gained (record { begun = begun; note_is = refl }) noted)
