-- The members that are written among those that an object keeps, in the ascending order of their keys.
use Rattle.std.specs.Prelude.{◌≡◌, ℕ, List, [], ◌∷◌, drop, codes, Bool, true, false, if◌then◌else◌, Option, Some, None}
use Rattle.std.specs.Prelude.{option_and_then, slice_get}
use Rattle.std.specs.Ordering.{nat_cmp, is_lt}
use Rattle.std.specs.Cmp.Lexicographic.{slice_cmp}
use Rattle.json.specs.Written.{Written}
use Rattle.serde_json.specs.Data.{Data, Members, no_members, member, put}
use Rattle.drawing_types.specs.declared.shape.Point.{Point}
use Rattle.drawing_types.specs.declared.shape.Rect.{Rect}
use Rattle.elk_doc.specs.declared.document.Edge.{Edge}
use Rattle.drawing_types.specs.declared.section.Section.{Section}
use Rattle.elk_doc.specs.declared.drawing.Certificate.{Certificate}
use Rattle.elk_doc.specs.declared.drawing.Placed.{Placed}
use Rattle.elk_doc.specs.Document.{Document}
use Rattle.elk_json.specs.Keyed.{IsBelow}
use Rattle.elk_write.specs.declared.own.Told.{Told}
use Rattle.elk_write.specs.declared.own.Told.TheVariants.{Whole, Sections, Layering}
use Rattle.elk_write.specs.declared.own.Own.{Own}
use Rattle.elk_write.specs.Values.{whole, sections_data, layering_data}
use Rattle.elk_write.specs.declared.numbers.Numbers.{Numbers}
use Rattle.elk_write.specs.Keys.{is_node_key}
use Rattle.elk_write.specs.Numbers.{past_member}
use Rattle.elk_write.specs.Answered.{answer_member}
use Rattle.elk_write.specs.Written.{is_split}
use Rattle.elk_write.specs.Tokens.{tokens_of_members, Leaves}

-- ---- what is written

abbrev pub told_data : Told → Data
told_data (Whole z) = whole z
told_data (Sections id s) = sections_data id.now s.now
told_data (Layering doc split c) = layering_data doc.now split c.now

abbrev pub own_members : List Own → Members
own_members [] = no_members
own_members (o ∷ os) = member o.key.now (told_data o.told) (own_members os)

-- the one members and then the others
abbrev pub append : Members → Members → Members
append no_members ms = ms
append (member k d rest) ms = member k d (append rest ms)

abbrev pub point_members : Option Point → Members
point_members None = no_members
point_members (Some p) = member (codes "x") (whole p.x) (member (codes "y") (whole p.y) no_members)

abbrev pub edge_members : Option Edge → Option Section → Members
edge_members None s = no_members
edge_members (Some e) None = no_members
edge_members (Some e) (Some s) = member (codes "sections") (sections_data e.id s) no_members

abbrev pub corner : Rect → Point
corner box = record { x = box.x; y = box.y }

abbrev pub height_members : Option Rect → Members
height_members None = no_members
height_members (Some box) = member (codes "height") (whole box.height) no_members

abbrev pub width_members : Option Rect → Members
width_members None = no_members
width_members (Some box) = member (codes "width") (whole box.width) no_members

abbrev pub layering_members : Document → Bool → Option Certificate → Members
layering_members doc split None = no_members
layering_members doc split (Some c) = member (codes "layering") (layering_data doc split c) no_members

-- of a compound node before its place
abbrev pub level_members : Document → Placed → ℕ → Members
level_members doc p n =
    append
    (append (height_members (slice_get p.boxes n))
    (layering_members doc (is_split doc n) (option_and_then (λ c. c) (slice_get p.levels n))))
    (width_members (slice_get p.boxes n))

abbrev pub place_members : Option Rect → Members
place_members None = no_members
place_members (Some box) = point_members (Some (corner box))

abbrev pub node_members : Bool → Document → Placed → ℕ → Members
node_members compound doc p n =
    append (if compound then level_members doc p n else no_members) (place_members (slice_get p.boxes n))

-- ---- what is kept

-- the members that a node keeps, in their order
abbrev pub answered : Document → Placed → Numbers → Bool → Numbers → Members → Members
answered doc p at compound below no_members = no_members
answered doc p at compound below (member k d ms) =
    if is_node_key compound k then answered doc p at compound below ms
    else member k (answer_member doc p at below k d) (answered doc p at compound (past_member k below d) ms)

-- ---- where it stands

-- keys ascend
abbrev pub IsSorted : Members → Type 0
IsSorted no_members = Unit {0}
IsSorted (member k d ms) = IsBelow k ms × IsSorted ms

-- none of these members is kept
abbrev pub AreGone : (List ℕ → Bool) → Members → Type 0
AreGone gone no_members = Unit {0}
AreGone gone (member k d ms) = (gone k ≡ true) × AreGone gone ms

-- written members, put into others
abbrev pub puts : Members → Members → Members
puts no_members ms = ms
puts (member k d own) ms = put k d (puts own ms)

abbrev pub is_before : List ℕ → List ℕ → Bool
is_before k l = is_lt (slice_cmp nat_cmp k l)

-- From a written member on, those were written that stand before a key that is kept, up to another one: the key and what
-- comes behind it are still to come.
abbrev pub IsPutBefore : List Own → ℕ → List ℕ → Written → Written → ℕ → Type 0
IsPutBefore own next key old new after =
    (gone : List ℕ → Bool) (d : Data) (ms : Members) → IsSorted (own_members own) → AreGone gone (own_members own)
    → gone key ≡ false → IsBelow key ms
    → Leaves old (tokens_of_members (puts (own_members (drop next own)) (member key d ms)))
    new (tokens_of_members (member key d (puts (own_members (drop after own)) ms)))
