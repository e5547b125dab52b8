-- How far a line has been read.
use Rattle.std.specs.Prelude.{◌≡◌, ℕ, ◌+◌, ◌<◌, ◌≤◌, ◌^◌, Bool, true, false, List, [], ◌∷◌, ◌++◌, length, Option, None, Some, Result, Ok}
use Rattle.std.specs.Prelude.{Err, vec_len, slice_range, cond}
use Rattle.std.specs.Io.KnownBytes.{Consumes}
use Rattle.elk_lines.specs.Reader.{Reader, HasNoFeed}
use Rattle.elk_lines.specs.Answers.{IsAnswer}
use Rattle.elk_lines.specs.declared.answer.Piece.{Piece}
use Rattle.elk_lines.specs.declared.answer.LineFault.{LineFault}
use Rattle.elk_lines.specs.declared.store.Store.{Store}
use Rattle.elk_lines.specs.declared.draft.Draft.{Draft}

-- the bytes of a store that were taken and not given out
abbrev pub held : Store → List ℕ
held s = slice_range s.bytes.items s.start s.end

-- what is held lies in the store, which has the size of one piece at most
pub record IsStore (s : Store) : Type 0 where
  pub ordered : s.start ≤ s.end
  pub inside : s.end ≤ vec_len s.bytes
  pub small : vec_len s.bytes ≤ 2 ^ 14

-- the draft has these bytes, or they are too many
pub record IsDraft (longest : ℕ) (bytes : List ℕ) (d : Draft) : Type 0 where
  pub short : d.long ≡ false → d.bytes.items ≡ bytes
  pub fits : d.long ≡ false → length bytes ≤ longest
  pub long : d.long ≡ true → longest < length bytes

-- the first of the bytes, up to their first line feed, went into the draft, or all of them
abbrev pub MovesHeld : ℕ → List ℕ → List ℕ → List ℕ → Draft → Bool → Type 0
MovesHeld longest bytes before now d true =
    (line : List ℕ) × HasNoFeed line × (before ≡ line ++ 10 ∷ now) × IsDraft longest (bytes ++ line) d
MovesHeld longest bytes before now d false = HasNoFeed before × (now ≡ []) × IsDraft longest (bytes ++ before) d

-- what a draft tells as a line
abbrev pub told_by : Draft → Option (List ℕ)
told_by d = Some d.bytes.items

-- So far these bytes went into the draft, and these more were taken.
pub record IsUnderWay (longest : ℕ) (held0 : List ℕ) (left0 left : Option (List ℕ)) (taken0 taken : ℕ) (now : List ℕ)
    (d : Draft) : Type 0 where
  pub bytes : List ℕ
  pub more : List ℕ
  pub consumed : Consumes left0 left more
  pub count : taken ≡ taken0 + length more
  pub joined : held0 ++ more ≡ bytes ++ now
  pub no_feed : HasNoFeed bytes
  pub draft : IsDraft longest bytes d

-- What one turn leaves, where these bytes were there before it or taken in it, the first of them in the draft.
abbrev pub AfterTurn : ℕ → List ℕ → List ℕ → Draft → List ℕ → Option (List ℕ) → Result (Option Piece) LineFault → Type 0
AfterTurn longest before more d rest left (Ok None) = HasNoFeed before × IsDraft longest before d × (rest ≡ more)
AfterTurn longest before more d rest left (Ok (Some piece)) = IsAnswer longest (before ++ more) rest (told_by d) left d.ended (Ok piece)
AfterTurn longest before more d rest left (Err fault) = IsAnswer longest (before ++ more) rest (told_by d) left d.ended (Err fault)

-- ---- the whole reader

abbrev pub reader_of : Store → Draft → Bool → Bool → ℕ → ℕ → Reader
reader_of store draft has_line spent longest limit =
    record {
      held = held store;
      line = cond has_line (told_by draft) None;
      taken = store.taken;
      longest = longest;
      limit = limit;
      spent = spent;
      ended = draft.ended;
      kept = vec_len draft.bytes + vec_len store.bytes;
    }

-- what a reader keeps
pub record IsReader (s : Store) (d : Draft) (spent : Bool) (longest limit : ℕ) : Type 0 where
  pub store : IsStore s
  pub within : vec_len d.bytes ≤ longest
  pub small : limit ≤ 2 ^ 32
  pub taken : spent ≡ false → s.taken ≤ limit
