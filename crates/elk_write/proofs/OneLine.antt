-- The text of a value has no line feed: strings and keys have escapes in place of it, and numbers are digits.
use Rattle.std.proofs.Common.{◌≡◌, ◌≢◌, ℕ, zero, suc, ◌+◌, ◌<◌, ◌/◌, ◌%◌, ℤ, pos, negsuc, Bool, true, false, ◌&&◌, ◌==◌, eqb, eqb-true, nat_lt, List, [], ◌∷◌, ◌++◌, append_assoc, arith, refl, sym, ap, ◌∙◌, inl, inr}
use Rattle.std.specs.Fmt.{digits, digits_onto, digit_glyph, decimal, signed_decimal}
use Rattle.std.proofs.lemmas.Bool.{and_parts, cases_Bool, cases_eq, cases_lt}
use Rattle.std.proofs.lemmas.Bool.Decides.{nat_tests}
use Rattle.json.specs.Print.{escape_byte, escape, quoted}
use Rattle.json.proofs.Printed.Strings.{escape_byte_plain}
use Rattle.serde_json.specs.Data.{Num, unsigned, negative, float, Data, null, boolean, number, string, array, object, Items, no_items, item, Members, no_members, member}
use Rattle.serde_json.specs.Written.{compact_text, items_text, members_text, comma_if, number_text}
use Rattle.elk_doc.specs.declared.document.Id.{Id}
use Rattle.elk_doc.specs.declared.document.Id.TheVariants.{Text, Whole}
use Rattle.elk_write.specs.Text.{text, id_spelling, line_feeds, IsOneLine}

pub feeds-append : (xs ys : List ℕ) → line_feeds (xs ++ ys) ≡ line_feeds xs + line_feeds ys
feeds-append [] ys = omega arith
feeds-append (x ∷ xs) ys = let i = feeds-append xs ys in omega (arith, i)

pub no_feeds : (xs ys : List ℕ) → line_feeds xs ≡ 0 → line_feeds ys ≡ 0 → line_feeds (xs ++ ys) ≡ 0
no_feeds xs ys h k = let sum = feeds-append xs ys in omega (arith, sum, h, k)

-- one line has one line feed
pub one_feed : (bytes : List ℕ) → IsOneLine bytes → line_feeds bytes ≡ 1
one_feed bytes s =
    let here = ap line_feeds s.ended in
    let sum = feeds-append s.line (10 ∷ []) in
    let last : line_feeds (10 ∷ []) ≡ 1 = refl in
    let none = s.none_before in
    omega (arith, here, sum, last, none)

-- bytes without a line feed before a line are part of it
pub longer_line : (xs ys : List ℕ) → line_feeds xs ≡ 0 → IsOneLine ys → IsOneLine (xs ++ ys)
longer_line xs ys none s =
    record { line = xs ++ s.line; none_before = no_feeds xs s.line none s.none_before; ended = ap (λ (l : List ℕ). xs ++ l) s.ended ∙ sym (append_assoc xs s.line (10 ∷ [])) }

-- a byte that is no line feed
other_byte : (x : ℕ) (xs : List ℕ) → x ≢ 10 → line_feeds xs ≡ 0 → line_feeds (x ∷ xs) ≡ 0
other_byte x xs other h = let e : eqb x 10 ≡ false = grind (arith, nat_tests, other) in rw e (omega (arith, h))

-- ---- numbers

glyph_other : (d : ℕ) → digit_glyph false d ≢ 10
glyph_other d = elim (cases_Bool (nat_lt d 10)) [
  | inl t ↦ (λ e. let same = rw t at e in omega (arith, same))
  | inr f ↦ (λ e. let same = rw f at e in omega (arith, same))
]

digits_feeds : (k n : ℕ) (acc : List ℕ) → line_feeds acc ≡ 0 → line_feeds (digits_onto k 10 false n acc) ≡ 0
digits_feeds zero n acc h = h
digits_feeds (suc k) n acc h =
    let more = other_byte (digit_glyph false (n % 10)) acc (glyph_other (n % 10)) h in
    elim (cases_Bool (n / 10 == 0)) [
      | inl t ↦ rw t more
      | inr f ↦ rw f (digits_feeds k (n / 10) (digit_glyph false (n % 10) ∷ acc) more)
    ]

pub decimal_feeds : (n : ℕ) → line_feeds (decimal n) ≡ 0
unfolding digits
decimal_feeds n = digits_feeds 64 n [] refl

signed_feeds : (z : ℤ) → line_feeds (signed_decimal z) ≡ 0
signed_feeds (pos n) = decimal_feeds n
signed_feeds (negsuc n) = other_byte 45 (decimal (suc n)) (λ e. omega (arith, e)) (decimal_feeds (suc n))

-- ---- strings

-- the escapes of the bytes below n have none
abbrev none_below : ℕ → Bool
none_below zero = true
none_below (suc n) = (line_feeds (escape_byte n) == 0) && none_below n

escape_below : (n : ℕ) → none_below n ≡ true → (x : ℕ) → x < n → line_feeds (escape_byte x) ≡ 0
escape_below zero e x h = absurd (omega arith)
escape_below (suc n) e x h =
    let p = and_parts _ _ e in
    elim (cases_eq x n) [ inl same ↦ rw same (eqb-true _ _ p.0) | inr other ↦ escape_below n p.1 x (omega arith) ]

all_below : none_below 128 ≡ true
unfolding escape_byte
all_below = refl

byte_feeds : (x : ℕ) → line_feeds (escape_byte x) ≡ 0
byte_feeds x =
    elim (cases_lt x 128) [
      | inl small ↦ escape_below 128 all_below x small
      | inr big ↦
          rw (escape_byte_plain x (λ e. omega (arith, e, big)) (λ e. omega (arith, e, big)) (omega (arith, big)))
          (other_byte x [] (λ e. omega (arith, e, big)) refl)
    ]

escape_feeds : (s : List ℕ) → line_feeds (escape s) ≡ 0
escape_feeds [] = refl
escape_feeds (x ∷ s) = no_feeds (escape_byte x) (escape s) (byte_feeds x) (escape_feeds s)

quoted_feeds : (s : List ℕ) → line_feeds (quoted s) ≡ 0
quoted_feeds s = other_byte 34 (escape s ++ 34 ∷ []) (λ e. omega (arith, e)) (no_feeds (escape s) (34 ∷ []) (escape_feeds s) refl)

pub id_feeds : (id : Id) → line_feeds (id_spelling id) ≡ 0
id_feeds (Text s) = quoted_feeds s
id_feeds (Whole z) = signed_feeds z

-- ---- values

number_feeds : (n : Num) → line_feeds (number_text n) ≡ 0
number_feeds (unsigned n) = decimal_feeds n
number_feeds (negative z) = signed_feeds z
number_feeds (float x) = refl

comma_feeds : (later : Bool) → line_feeds (comma_if later) ≡ 0
comma_feeds true = refl
comma_feeds false = refl

mutual
  pub value_feeds : (d : Data) → line_feeds (compact_text d) ≡ 0
  value_feeds null = refl
  value_feeds (boolean true) = refl
  value_feeds (boolean false) = refl
  value_feeds (number n) = number_feeds n
  value_feeds (string s) = quoted_feeds s
  value_feeds (array ds) = other_byte 91 (items_text false ds) (λ e. omega (arith, e)) (items_feeds false ds)
  value_feeds (object ms) = other_byte 123 (members_text false ms) (λ e. omega (arith, e)) (members_feeds false ms)

  items_feeds : (later : Bool) (ds : Items) → line_feeds (items_text later ds) ≡ 0
  items_feeds later no_items = refl
  items_feeds later (item d ds) =
      no_feeds (comma_if later) (compact_text d ++ items_text true ds) (comma_feeds later) (no_feeds (compact_text d) (items_text true ds) (value_feeds d) (items_feeds true ds))

  members_feeds : (later : Bool) (ms : Members) → line_feeds (members_text later ms) ≡ 0
  members_feeds later no_members = refl
  members_feeds later (member k d ms) =
      no_feeds (comma_if later) (quoted k ++ 58 ∷ (compact_text d ++ members_text true ms)) (comma_feeds later)
      (no_feeds (quoted k) (58 ∷ (compact_text d ++ members_text true ms)) (quoted_feeds k)
      (other_byte 58 (compact_text d ++ members_text true ms) (λ e. omega (arith, e)) (no_feeds (compact_text d) (members_text true ms) (value_feeds d) (members_feeds true ms))))

-- the text of a value is one line
pub text_is_line : (d : Data) (bytes : List ℕ) → bytes ≡ text d → IsOneLine bytes
text_is_line d bytes is = record { line = compact_text d; none_before = value_feeds d; ended = is }
