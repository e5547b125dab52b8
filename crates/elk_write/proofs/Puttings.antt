-- The written members stand in the answer.
use Rattle.std.proofs.Common.{◌≡◌, ℕ, List, Bool, true, false, bytes_eq, refl, sym, ap, ◌∙◌, Option, Some, None, inl, inr}
use Rattle.std.proofs.lemmas.Bool.{cases_Bool}
use Rattle.std.specs.Prelude.{codes, option_and_then, slice_get}
use Rattle.serde_json.specs.Data.{Data, no_members, Members, member, put}
use Rattle.serde_json.specs.Find.{get_member}
use Rattle.serde_json.proofs.Views.{get_member-put, get_member-put_other}
use Rattle.drawing_types.specs.declared.shape.Point.{Point}
use Rattle.drawing_types.specs.declared.shape.Rect.{Rect}
use Rattle.elk_doc.specs.declared.document.Edge.{Edge}
use Rattle.drawing_types.specs.declared.section.Section.{Section}
use Rattle.elk_doc.specs.declared.drawing.Certificate.{Certificate}
use Rattle.elk_doc.specs.declared.drawing.Placed.{Placed}
use Rattle.elk_doc.specs.Document.{Document}
use Rattle.elk_write.specs.Keys.{is_flat_key}
use Rattle.elk_write.specs.Values.{whole, sections_data, layering_data}
use Rattle.elk_write.specs.Answered.{kept_into, with_point, with_sections, with_place, with_size, with_layering, with_node}
use Rattle.elk_write.specs.Written.{is_split}
use Rattle.elk_write.proofs.Puts.{apart}

-- ---- of a point and of a box

point_x : (x y : Data) (ms : Members) → get_member (codes "x") (put (codes "y") y (put (codes "x") x ms)) ≡ Some x
point_x x y ms = get_member-put_other (codes "x") (codes "y") y (put (codes "x") x ms) (apart (codes "x") (codes "y") refl) ∙ get_member-put (codes "x") x ms

point_y : (x y : Data) (ms : Members) → get_member (codes "y") (put (codes "y") y (put (codes "x") x ms)) ≡ Some y
point_y x y ms = get_member-put (codes "y") y (put (codes "x") x ms)

pub port_x : (at : Point) (ms : Members) → get_member (codes "x") (with_point (Some at) ms) ≡ Some (whole at.x)
port_x at ms = point_x (whole at.x) (whole at.y) ms

pub port_y : (at : Point) (ms : Members) → get_member (codes "y") (with_point (Some at) ms) ≡ Some (whole at.y)
port_y at ms = point_y (whole at.x) (whole at.y) ms

layering_other : (q : List ℕ) (doc : Document) (split : Bool) (c : Option Certificate) (ms : Members) → bytes_eq q (codes "layering") ≡ false → get_member q (with_layering doc split c ms) ≡ get_member q ms
layering_other q doc split None ms h = refl
layering_other q doc split (Some c) ms h = get_member-put_other q (codes "layering") (layering_data doc split c) ms (apart q (codes "layering") h)

size_other : (q : List ℕ) (box : Rect) (ms : Members) → bytes_eq q (codes "width") ≡ false → bytes_eq q (codes "height") ≡ false → get_member q (with_size (Some box) ms) ≡ get_member q ms
size_other q box ms w h =
    get_member-put_other q (codes "height") (whole box.height) (put (codes "width") (whole box.width) ms) (apart q (codes "height") h)
    ∙ get_member-put_other q (codes "width") (whole box.width) ms (apart q (codes "width") w)

module _ (doc : Document) (p : Placed) (n : ℕ) (box : Rect) (at : slice_get p.boxes n ≡ Some box) (ms : Members) where
  -- the members of a node, with its box
  abbrev boxed : Bool → Members
  boxed false = with_place (Some box) ms
  boxed true = with_layering doc (is_split doc n) (option_and_then (λ c. c) (slice_get p.levels n)) (with_size (Some box) (with_place (Some box) ms))

  pub node_boxed : (compound : Bool) → with_node compound doc p n ms ≡ boxed compound
  node_boxed false = ap (λ o. with_place o ms) at
  node_boxed true = ap (λ o. with_layering doc (is_split doc n) (option_and_then (λ c. c) (slice_get p.levels n)) (with_size o (with_place o ms))) at

  boxed_place : (q : List ℕ) (compound : Bool) → bytes_eq q (codes "width") ≡ false → bytes_eq q (codes "height") ≡ false → bytes_eq q (codes "layering") ≡ false
      → get_member q (boxed compound) ≡ get_member q (with_place (Some box) ms)
  boxed_place q false w h l = refl
  boxed_place q true w h l =
      layering_other q doc (is_split doc n) (option_and_then (λ c. c) (slice_get p.levels n)) (with_size (Some box) (with_place (Some box) ms)) l
      ∙ size_other q box (with_place (Some box) ms) w h

  pub node_x : (compound : Bool) → get_member (codes "x") (with_node compound doc p n ms) ≡ Some (whole box.x)
  node_x compound = ap (get_member (codes "x")) (node_boxed compound) ∙ boxed_place (codes "x") compound refl refl refl ∙ point_x (whole box.x) (whole box.y) ms

  pub node_y : (compound : Bool) → get_member (codes "y") (with_node compound doc p n ms) ≡ Some (whole box.y)
  node_y compound = ap (get_member (codes "y")) (node_boxed compound) ∙ boxed_place (codes "y") compound refl refl refl ∙ point_y (whole box.x) (whole box.y) ms

  pub node_width : get_member (codes "width") (with_node true doc p n ms) ≡ Some (whole box.width)
  node_width =
      ap (get_member (codes "width")) (node_boxed true)
      ∙ layering_other (codes "width") doc (is_split doc n) (option_and_then (λ c. c) (slice_get p.levels n)) (with_size (Some box) (with_place (Some box) ms)) refl
      ∙ get_member-put_other (codes "width") (codes "height") (whole box.height) (put (codes "width") (whole box.width) (with_place (Some box) ms)) (apart (codes "width") (codes "height") refl)
      ∙ get_member-put (codes "width") (whole box.width) (with_place (Some box) ms)

  pub node_height : get_member (codes "height") (with_node true doc p n ms) ≡ Some (whole box.height)
  node_height =
      ap (get_member (codes "height")) (node_boxed true)
      ∙ layering_other (codes "height") doc (is_split doc n) (option_and_then (λ c. c) (slice_get p.levels n)) (with_size (Some box) (with_place (Some box) ms)) refl
      ∙ get_member-put (codes "height") (whole box.height) (put (codes "width") (whole box.width) (with_place (Some box) ms))

  pub node_layering : (c : Certificate) → option_and_then (λ c. c) (slice_get p.levels n) ≡ Some c → get_member (codes "layering") (with_node true doc p n ms) ≡ Some (layering_data doc (is_split doc n) c)
  node_layering c e =
      ap (get_member (codes "layering")) (node_boxed true)
      ∙ ap (λ o. get_member (codes "layering") (with_layering doc (is_split doc n) o (with_size (Some box) (with_place (Some box) ms)))) e
      ∙ get_member-put (codes "layering") (layering_data doc (is_split doc n) c) (with_size (Some box) (with_place (Some box) ms))

-- ---- of an edge

pub edge_sections : (e : Edge) (s : Section) (ms : Members) → get_member (codes "sections") (with_sections (Some e) (Some s) ms) ≡ Some (sections_data e.id s)
edge_sections e s ms = get_member-put (codes "sections") (sections_data e.id s) ms

kept_without : (q : List ℕ) (ms into : Members) → is_flat_key true q ≡ true → get_member q into ≡ None → get_member q (kept_into true into ms) ≡ None
kept_without q no_members into gone none = none
kept_without q (member k d ms) into gone none = elim (cases_Bool (is_flat_key true k)) [
  | inl is ↦ rw is (kept_without q ms into gone none)
  | inr is ↦ rw is (kept_without q ms (put k d into) gone (get_member-put_other q k d into (λ (e : q ≡ k). let bad : true ≡ false = sym gone ∙ ap (is_flat_key true) e ∙ is in absurd (cc)) ∙ none))
]

-- what another layout wrote is gone
pub edge_without : (q : List ℕ) (e : Option Edge) (s : Option Section) (ms : Members) → is_flat_key true q ≡ true → bytes_eq q (codes "sections") ≡ false → get_member q (with_sections e s (kept_into true no_members ms)) ≡ None
edge_without q None s ms gone other = kept_without q ms no_members gone refl
edge_without q (Some e) None ms gone other = kept_without q ms no_members gone refl
edge_without q (Some e) (Some s) ms gone other =
    get_member-put_other q (codes "sections") (sections_data e.id s) (kept_into true no_members ms) (apart q (codes "sections") other) ∙ kept_without q ms no_members gone refl
