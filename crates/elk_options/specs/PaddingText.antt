-- The text of a padding.
use Rattle.std.specs.Prelude.{ℕ, ◌^◌, List, [], ◌∷◌, length, take, drop, slice_index, not, ◌&&◌, ◌-◌, ◌==◌, nat_le, bytes_eq, codes}
use Rattle.std.specs.Prelude.{if◌then◌else◌, Option, Some, None, option_map, option_and_then, unwrap_or, pos}
use Rattle.elk_doc.specs.declared.document.Padding.{Padding}
use Rattle.elk_options.specs.Values.{unsigned_text}
use Rattle.elk_options.specs.declared.padding.Given.{Given}

-- without the spaces at the front
abbrev pub after_spaces : List ℕ → List ℕ
after_spaces [] = []
after_spaces (x ∷ s) = if x == 32 then after_spaces s else x ∷ s

-- a space goes where nothing follows it
abbrev pub kept : ℕ → List ℕ → List ℕ
kept x [] = if x == 32 then [] else x ∷ []
kept x (y ∷ s) = x ∷ y ∷ s

-- without the spaces at the end
abbrev pub before_spaces : List ℕ → List ℕ
before_spaces [] = []
before_spaces (x ∷ s) = kept x (before_spaces s)

-- without the spaces at both ends
abbrev pub bare : List ℕ → List ℕ
bare s = before_spaces (after_spaces s)

-- what stands before and after the first c, if there is one
abbrev pub cut : ℕ → List ℕ → Option (List ℕ × List ℕ)
cut c [] = None
cut c (x ∷ s) = if x == c then Some ([], s) else option_map (λ p. (x ∷ p.0, p.1)) (cut c s)

-- the pieces of a text that begins with x, by those of the rest
abbrev pub grown : ℕ → List (List ℕ) → List (List ℕ)
grown x [] = (x ∷ []) ∷ []
grown x (piece ∷ more) = (x ∷ piece) ∷ more

-- what stands between commas; a text without one is one piece
abbrev pub pieces : List ℕ → List (List ℕ)
pieces [] = [] ∷ []
pieces (x ∷ s) = if x == 44 then [] ∷ pieces s else grown x (pieces s)

abbrev pub nothing_given : Given
nothing_given = record { top = None; left = None; bottom = None; right = None }

-- a side that is given for the first time
abbrev pub once : Option ℕ → ℕ → Option (Option ℕ)
once None n = Some (Some n)
once (Some m) n = None

abbrev pub with_side : List ℕ → ℕ → Given → Option Given
with_side name n g =
    if bytes_eq name (codes "top") then option_map (λ x. record g { top = x }) (once g.top n)
    else (if bytes_eq name (codes "left") then option_map (λ x. record g { left = x }) (once g.left n)
    else (if bytes_eq name (codes "bottom") then option_map (λ x. record g { bottom = x }) (once g.bottom n)
    else (if bytes_eq name (codes "right") then option_map (λ x. record g { right = x }) (once g.right n)
    else None)))

-- a length from 0 to 2^20
abbrev pub length_text : List ℕ → Option ℕ
length_text s = option_and_then (λ n. if nat_le n (2 ^ 20) then Some n else None) (unsigned_text s)

-- one part: a name, an equals sign and a length
abbrev pub part_of : Given → List ℕ × List ℕ → Option Given
part_of g p = option_and_then (λ n. with_side (bare p.0) n g) (length_text (bare p.1))

abbrev pub with_part : List ℕ → Given → Option Given
with_part piece g = option_and_then (part_of g) (cut 61 piece)

-- part after part
abbrev pub with_parts : List (List ℕ) → Given → Option Given
with_parts [] g = Some g
with_parts (piece ∷ more) g = option_and_then (with_parts more) (with_part piece g)

abbrev pub padding_of : Given → Padding
padding_of g =
    record {
      top = pos (unwrap_or g.top 0);
      left = pos (unwrap_or g.left 0);
      bottom = pos (unwrap_or g.bottom 0);
      right = pos (unwrap_or g.right 0);
    }

-- between the brackets
abbrev pub given_within : List ℕ → Option Given
given_within s = if length (bare s) == 0 then Some nothing_given else with_parts (pieces s) nothing_given

-- a text without its last byte, if that is a closing bracket
abbrev pub before_bracket : List ℕ → Option (List ℕ)
before_bracket s = if not (length s == 0) && (slice_index s (length s - 1) == 93) then Some (take (length s - 1) s) else None

-- what stands between an opening bracket in front and a closing one at the end
abbrev pub between_brackets : List ℕ → Option (List ℕ)
between_brackets s = if not (length s == 0) && (slice_index s 0 == 91) then before_bracket (drop 1 s) else None

abbrev pub padding_text : List ℕ → Option Padding
padding_text s = option_map padding_of (option_and_then given_within (between_brackets (bare s)))
