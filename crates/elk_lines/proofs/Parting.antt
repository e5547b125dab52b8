-- Lines as parts of bytes.
use Rattle.std.proofs.Common.{◌≡◌, ◌≢◌, ◌⊎◌, ℕ, ◌+◌, ◌-◌, ◌<◌, ◌≤◌, Bool, true, false, List, [], ◌∷◌, ◌++◌, length, get_or, take, drop, slice_range, cond, Option, None, Some, Ok, IsTrue, append_assoc, arith, refl, sym, ap, ◌∙◌, subst, inl, inr, ⊎_elim}
use Rattle.std.proofs.lemmas.Bool.{cases_Bool, cases_lt}
use Rattle.std.proofs.lemmas.List.{append-nil, take-append-drop, drop_more, drop-take, drop-drop, length-take, take-append-le, drop-append-le, length-drop, length-append}
use Rattle.std.proofs.lemmas.List.Elements.{All-append}
use Rattle.std.specs.List.{slice_index}
use Rattle.std.proofs.KnownBytes.{Consumes-trans}
use Rattle.std.specs.Io.KnownBytes.{IsAtEnd, Consumes}
use Rattle.elk_lines.specs.Reader.{HasNoFeed}
use Rattle.elk_lines.specs.Answers.{IsFirstLine, IsOnePast, IsAnswer}
use Rattle.elk_lines.specs.Steps.{IsDraft, MovesHeld, told_by, IsUnderWay}
use Rattle.elk_lines.specs.declared.answer.Piece.{Piece}
use Rattle.elk_lines.specs.declared.answer.Piece.TheVariants.{Line, Long, End}
use Rattle.elk_lines.specs.declared.draft.Draft.{Draft}

pub range_kept : (xs ys : List ℕ) (a b : ℕ) → a ≤ b → b ≤ length xs → slice_range (xs ++ ys) a b ≡ slice_range xs a b
range_kept xs ys a b o i =
    let d : drop a (xs ++ ys) ≡ drop a xs ++ ys = drop-append-le a xs ys (omega arith) in
    let n : b - a ≤ length (drop a xs) = (let l = length-drop a xs in omega (arith, l)) in
    ap (λ (l : List ℕ). take (b - a) l) d ∙ take-append-le (b - a) (drop a xs) ys n

-- the part up to a line feed, and what comes after it
pub parted_at : (xs : List ℕ) (start end at : ℕ) → at < length (slice_range xs start end) → slice_index (slice_range xs start end) at ≡ 10 → slice_range xs start end ≡ take at (slice_range xs start end) ++ 10 ∷ slice_range xs (start + (at + 1)) end
parted_at xs start end at b f =
    let part : List ℕ = slice_range xs start end in
    let whole = sym (take-append-drop at part) in
    let here : drop at part ≡ get_or part at 0 ∷ drop (at + 1) part = drop_more part at 0 b in
    let fits : at + 1 ≤ end - start = (let l = length-take (end - start) (drop start xs) in omega (arith, b, l)) in
    let n : end - start ≡ (at + 1) + (end - (start + (at + 1))) = omega (arith, fits) in
    let cut : drop (at + 1) part ≡ take (end - (start + (at + 1))) (drop (at + 1) (drop start xs)) =
    ap (λ (k : ℕ). drop (at + 1) (take k (drop start xs))) n ∙ drop-take (at + 1) (end - (start + (at + 1))) (drop start xs)
    in
    let rest : drop (at + 1) part ≡ slice_range xs (start + (at + 1)) end = cut ∙ ap (λ (l : List ℕ). take (end - (start + (at + 1))) l) (drop-drop (at + 1) start xs) in
    whole ∙ (ap (λ (l : List ℕ). take at part ++ l) (here ∙ (ap (λ (k : ℕ). k ∷ drop (at + 1) part) f ∙ ap (λ (l : List ℕ). 10 ∷ l) rest)))

pub no_feed_both : (xs ys : List ℕ) → HasNoFeed xs → HasNoFeed ys → HasNoFeed (xs ++ ys)
no_feed_both xs ys p q = All-append (λ (b : ℕ). b ≢ 10) xs ys p q

pub one_past : (bytes x : List ℕ) → HasNoFeed bytes → length x ≡ 1 → IsOnePast (bytes ++ x)
one_past bytes [] h l = absurd (omega (arith, l))
one_past bytes (b ∷ []) h l = record { front = bytes; last = b; parted = refl; no_feed = h }
one_past bytes (b ∷ c ∷ x) h l = absurd (omega (arith, l))

-- where a read passes the limit it gave one byte
pub only_one : (old limit room n new : ℕ) → old ≤ limit → (old < limit → old + room ≤ limit) → (old ≡ limit → room ≡ 1) → n ≤ room → new ≡ old + n → limit < new → n ≡ 1
only_one old limit room n new below within one many is past =
    ⊎_elim (λ less. (let w = within less in absurd (omega (arith, w, many, is, past)))) (λ above. (let same : old ≡ limit = omega (arith, above, below) in let r = one same in omega (arith, r, many, is, past, same))) (cases_lt old limit)

longer : (n : ℕ) (xs : List ℕ) → n < length xs → xs ≢ []
longer n [] h e = omega (arith, h)
longer n (x ∷ xs) h e = cc

is_empty_or : (xs : List ℕ) → (xs ≡ []) ⊎ (xs ≢ [])
is_empty_or [] = inl refl
is_empty_or (x ∷ xs) = inr (λ e. cc)

-- what a draft is at the end of the source
pub last_answer : (longest : ℕ) (bytes x : List ℕ) (d : Draft) (left : Option (List ℕ)) (piece : Piece) → HasNoFeed bytes → IsDraft longest bytes d → length x ≡ 0 → IsAtEnd left → (d.long ≡ true → piece ≡ Long) → (d.long ≡ false → d.bytes.items ≢ [] → piece ≡ Line) → (d.long ≡ false → d.bytes.items ≡ [] → piece ≡ End) → IsAnswer longest (bytes ++ x) x (told_by d) left true (Ok piece)
last_answer longest bytes (b ∷ x) d left piece h dr none end long short empty = absurd (omega (arith, none))
last_answer longest bytes [] d left piece h dr none end long short empty =
    elim (cases_Bool d.long) [
      | inl t ↦
          subst (λ (p : Piece). IsAnswer longest (bytes ++ []) [] (told_by d) left true (Ok p)) (sym (long t))
          (bytes, record { no_feed = h; parted = (append-nil bytes, refl, longer longest bytes (dr.long t), end) }, dr.long t)
      | inr f ↦
          elim (is_empty_or d.bytes.items) [
            | inl e ↦
                subst (λ (p : Piece). IsAnswer longest (bytes ++ []) [] (told_by d) left true (Ok p)) (sym (empty f e))
                (append-nil bytes ∙ (sym (dr.short f) ∙ e), refl, end, refl)
            | inr n ↦
                subst (λ (p : Piece). IsAnswer longest (bytes ++ []) [] (told_by d) left true (Ok p)) (sym (short f n))
                (bytes, record { no_feed = h; parted = (append-nil bytes, refl, (λ e. n (dr.short f ∙ e)), end) }, dr.fits f, ap Some (dr.short f))
          ]
    ]

-- what a draft is at a line feed
pub found_answer : (longest : ℕ) (bytes before now : List ℕ) (d : Draft) (left : Option (List ℕ)) (piece : Piece) → HasNoFeed bytes → MovesHeld longest bytes before now d true → (d.long ≡ false → piece ≡ Line) → (d.long ≡ true → piece ≡ Long) → d.ended ≡ false → IsAnswer longest ((bytes ++ before) ++ []) now (told_by d) left d.ended (Ok piece)
found_answer longest bytes before now d left piece h m short long on =
    let line = m.0 in
    let whole : List ℕ = bytes ++ line in
    let clean : HasNoFeed whole = no_feed_both bytes line h m.1 in
    let parted : (bytes ++ before) ++ [] ≡ whole ++ 10 ∷ now = append-nil (bytes ++ before) ∙ (ap (λ (l : List ℕ). bytes ++ l) m.2 ∙ sym (append_assoc bytes line (10 ∷ now))) in
    let first : IsFirstLine ((bytes ++ before) ++ []) whole now left false = record { no_feed = clean; parted = parted } in
    subst (λ (e : Bool). IsAnswer longest ((bytes ++ before) ++ []) now (told_by d) left e (Ok piece)) (sym on)
    (elim (cases_Bool d.long) [
      | inl t ↦ subst (λ (p : Piece). IsAnswer longest ((bytes ++ before) ++ []) now (told_by d) left false (Ok p)) (sym (long t)) (whole, first, m.3.long t)
      | inr f ↦ subst (λ (p : Piece). IsAnswer longest ((bytes ++ before) ++ []) now (told_by d) left false (Ok p)) (sym (short f)) (whole, first, m.3.fits f, ap Some (m.3.short f))
    ])

-- a reader tells its draft where it answers a line
pub told_answer : (longest : ℕ) (bytes rest : List ℕ) (d : Draft) (left : Option (List ℕ)) (ended : Bool) (piece : Piece) (is_line : Bool) → (piece ≡ Line → IsTrue is_line) → IsAnswer longest bytes rest (told_by d) left ended (Ok piece) → IsAnswer longest bytes rest (cond is_line (told_by d) None) left ended (Ok piece)
told_answer longest bytes rest d left ended Line true shown a = a
told_answer longest bytes rest d left ended Line false shown a = (let bad = shown refl in cc)
told_answer longest bytes rest d left ended Long is_line shown a = a
told_answer longest bytes rest d left ended End is_line shown a = a

module _ (longest : ℕ) (held0 : List ℕ) (left0 left left' : Option (List ℕ)) (taken0 taken taken' : ℕ) (now rest more : List ℕ) (d d' : Draft) (u : IsUnderWay longest held0 left0 left taken0 taken now d) (took : Consumes left left' more) (count : taken' ≡ taken + length more) where
  pub all_took : Consumes left0 left' (u.more ++ more)
  all_took = Consumes-trans left0 left left' u.more more u.consumed took

  pub all_count : taken' ≡ taken0 + length (u.more ++ more)
  all_count = (let l = length-append u.more more in let c = u.count in omega (arith, count, l, c))

  pub all_joined : (u.bytes ++ now) ++ more ≡ held0 ++ (u.more ++ more)
  all_joined = ap (λ (l : List ℕ). l ++ more) (sym u.joined) ∙ append_assoc held0 u.more more

  pub way_on : HasNoFeed (u.bytes ++ now) → IsDraft longest (u.bytes ++ now) d' → rest ≡ more → IsUnderWay longest held0 left0 left' taken0 taken' rest d'
  way_on h dr same =
      record {
        bytes = u.bytes ++ now;
        more = u.more ++ more;
        consumed = all_took;
        count = all_count;
        joined = sym all_joined ∙ ap (λ (l : List ℕ). (u.bytes ++ now) ++ l) (sym same);
        no_feed = h;
        draft = dr;
      }
