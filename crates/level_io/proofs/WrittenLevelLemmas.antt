-- The parts of a level that are written, by the lists of its document.
use Rattle.std.proofs.Common.{◌≡◌, ℕ, ◌<◌, List, length, get_or, sym, subst}
use Rattle.drawing_types.specs.declared.shape.Point.{Point}
use Rattle.drawing_types.specs.declared.shape.Rect.{Rect}
use Rattle.elk_doc.specs.declared.document.Direction.{Direction}
use Rattle.elk_doc.specs.declared.document.Direction.TheVariants.{Right, Left, Down, Up}
use Rattle.drawing_types.specs.declared.section.Section.{Section}
use Rattle.elk_doc.specs.declared.drawing.Placed.{Placed}
use Rattle.elk_doc.specs.Document.{Document}
use Rattle.elk_doc.specs.Drawing.{box_of, no_rect, no_section}
use Rattle.elk_doc.specs.Level.{children, IsChild}
use Rattle.level_model.specs.FromPlan.{point_or}
use Rattle.working_frame.specs.Drawing.{plus}
use Rattle.working_frame.proofs.NumberedLemmas.{numbers_match}
use Rattle.level_io.specs.Back.{box_back}
use Rattle.level_io.specs.Changed.{AreChanged, AreDistinct, number_at}
use Rattle.level_io.specs.Ranges.{IsLongBox}
use Rattle.level_io.specs.Written.{ArePortsWritten, box_change, section_change}

pub distinct_listed : (xs ys : List ℕ) (m k : ℕ) → AreDistinct ys k → xs ≡ ys → m ≡ k → AreDistinct xs m
distinct_listed xs ys m k distinct e f = rw (e, f) distinct

long_back : (way : Direction) (at : Point) (r : Rect) → IsLongBox r → IsLongBox (box_back way at r)
long_back Right at r l = record { width = l.width; height = l.height }
long_back Left at r l = record { width = l.width; height = l.height }
long_back Down at r l = record { width = l.width; height = l.height }
long_back Up at r l = record { width = l.width; height = l.height }

-- boxes of children are long where those of the drawing are, and still when they are moved
pub long_listed : (d : Document) (p : Placed) (n : ℕ) (xs : List ℕ) (boxes : List Rect) → xs ≡ children d n → boxes ≡ p.boxes
    → ((c : ℕ) → IsChild d n c → IsLongBox (box_of p c)) → (i : ℕ) → i < length xs → IsLongBox (get_or boxes (number_at xs i) no_rect)
long_listed d p n xs boxes e f long i h =
    let k : i < length (children d n) = subst (λ ys. i < length ys) e h in
    rw (e, f) (long (number_at (children d n) i) ((numbers_match d n).children.meant i k))

pub still_long : (way : Direction) (by : Point) (places : List Point) (xs : List ℕ) (old now boxes : List Rect)
    → AreChanged xs (box_change way by places) no_rect old now → boxes ≡ now
    → ((i : ℕ) → i < length xs → IsLongBox (get_or old (number_at xs i) no_rect))
    → (i : ℕ) → i < length xs → IsLongBox (get_or boxes (number_at xs i) no_rect)
still_long way by places xs old now boxes c e long i h =
    subst (λ (bs : List Rect). IsLongBox (get_or bs (number_at xs i) no_rect)) (sym e)
    (subst IsLongBox (sym (c.at i h)) (long_back way (plus by (point_or places i)) (get_or old (number_at xs i) no_rect) (long i h)))

pub boxes_listed : (way : Direction) (by by' : Point) (places places' : List Point) (xs ys : List ℕ) (old old' now now' : List Rect)
    → by ≡ by' → places ≡ places' → xs ≡ ys → old ≡ old' → now ≡ now'
    → AreChanged xs (box_change way by places) no_rect old now → AreChanged ys (box_change way by' places') no_rect old' now'
boxes_listed way by by' places places' xs ys old old' now now' a b c e f w = rw (sym a, sym b, sym c, sym e, sym f) w

pub sections_listed : (way : Direction) (by by' : Point) (sections sections' : List Section) (xs ys : List ℕ) (old old' now now' : List Section)
    → by ≡ by' → sections ≡ sections' → xs ≡ ys → old ≡ old' → now ≡ now'
    → AreChanged xs (section_change way by sections) no_section old now → AreChanged ys (section_change way by' sections') no_section old' now'
sections_listed way by by' sections sections' xs ys old old' now now' a b c e f w = rw (sym a, sym b, sym c, sym e, sym f) w

pub ports_listed : (d : Document) (way : Direction) (boxes boxes' : List Rect) (places places' : List (List Point)) (xs ys : List ℕ) (old old' now now' : List Point)
    → boxes ≡ boxes' → places ≡ places' → xs ≡ ys → old ≡ old' → now ≡ now'
    → ArePortsWritten (length xs) d way xs boxes places old now → ArePortsWritten (length ys) d way ys boxes' places' old' now'
ports_listed d way boxes boxes' places places' xs ys old old' now now' a b c e f w = rw (sym a, sym b, sym c, sym e, sym f) w
