-- What is written of a drawing's parts is read again.
use Rattle.std.proofs.Common.{◌≡◌, ℕ, suc, ◌+◌, ◌<◌, ◌^◌, List, [], ◌∷◌, ◌++◌, length, map, Bool, true, false, not, ◌&&◌, Option, Some, None, option_map, if◌then◌else◌, ℤ, pos, negsuc, refl, ap, ◌∙◌, subst, arith, All, lt-ltb, le-leb, eq-eqb, ne_eqb, ◌≤◌}
use Rattle.std.specs.Prelude.{option_and_then, int_le, nat_lt, nat_le, codes, slice_index, slice_get}
use Rattle.std.specs.Option.{option_map_or}
use Rattle.std.specs.List.{list_all}
use Rattle.std.proofs.lemmas.List.Elements.{All-head, All-tail}
use Rattle.std.proofs.lemmas.Option.{slice_get-get_or}
use Rattle.std.proofs.lemmas.Bool.{and_from}
use Rattle.serde_json.specs.Data.{Data, string, array, object, Members}
use Rattle.serde_json.specs.Find.{get, get_member}
use Rattle.serde_json.specs.View.{items_of}
use Rattle.drawing_types.specs.declared.shape.Point.{Point}
use Rattle.drawing_types.specs.declared.shape.Size.{Size}
use Rattle.elk_doc.specs.declared.document.Id.{Id}
use Rattle.elk_doc.specs.declared.document.Id.TheVariants.{Text, Whole}
use Rattle.elk_doc.specs.declared.document.LevelOptions.{LevelOptions}
use Rattle.drawing_types.specs.declared.section.Section.{Section}
use Rattle.elk_doc.specs.declared.drawing.Certificate.{Certificate}
use Rattle.elk_doc.specs.Document.{Document, no_edge, edge_at}
use Rattle.elk_doc.specs.Level.{is_loop, is_edge_of}
use Rattle.drawing_types.specs.Ranges.{IsWithin}
use Rattle.elk_doc.specs.Fits.{FitsSection, FitsCertificate, IsAscending, MayBeListed, child_count, edge_count}
use Rattle.drawing_types.specs.Ranges.{IsNear}
use Rattle.elk_options.specs.Values.{if_within}
use Rattle.elk_json.specs.Members.{to_id}
use Rattle.elk_write.specs.Values.{whole, wholes, point_data, section_id, end_members, with_bends, sections_data, id_data, edge_id, edge_ids, layering_data}
use Rattle.elk_write.specs.Reading.{integer_in, coordinate_in, length_in, large_in, small_in, point_in, size_in, all_in, list_in, counted, is_text, bends_in, route_in, sole_section_in, sections_in, first_number, edge_named, are_from, is_ascending, is_listable, listable, flow_in, layers_in, reversed_in, parts_in, span_in, certificate_with, certificate_in}
use Rattle.elk_write.specs.Written.{Has}
use Rattle.elk_write.specs.ReadBack.{IsHeld}
use Rattle.elk_write.proofs.Distinct.{has_id, same_bytes}
use Rattle.elk_write.proofs.Known.{true_by}

-- ---- numbers

within_yes : (low high z : ℤ) → IsWithin low high z → if_within low high z ≡ Some z
within_yes low high z h = ap (λ b. if b then Some z else None) (and_from (int_le low z) (int_le z high) (true_by _ h.above.le) (true_by _ h.below.le))

integer_whole : (z : ℤ) → integer_in (whole z) ≡ Some z
integer_whole (pos n) = refl
integer_whole (negsuc n) = refl

bounded_whole : (low high z : ℤ) → IsWithin low high z → option_and_then (if_within low high) (integer_in (whole z)) ≡ Some z
bounded_whole low high z h = ap (option_and_then (if_within low high)) (integer_whole z) ∙ within_yes low high z h

natural_whole : (high n : ℕ) → n < high → (if nat_lt n high then Some n else None) ≡ Some n
natural_whole high n h = ap (λ b. if b then Some n else None) (lt-ltb n high h)

large_whole : (n : ℕ) → n < 2 ^ 64 → large_in (whole (pos n)) ≡ Some n
large_whole n h = natural_whole (2 ^ 64) n h

small_whole : (n : ℕ) → n < 2 ^ 32 → small_in (whole (pos n)) ≡ Some n
small_whole n h = natural_whole (2 ^ 32) n h

-- ---- points and sizes

pub point_back : (d : Data) (p : Point) → IsNear p → Has d (codes "x") (whole p.x) → Has d (codes "y") (whole p.y) → point_in d ≡ Some p
point_back d p near hx hy =
    let make = λ (x y : ℤ). (let q : Point = record { x = x; y = y } in q) in
    ap (λ o. option_and_then (λ x. option_map (make x) (option_and_then coordinate_in (get (codes "y") d))) (option_and_then coordinate_in o)) hx
    ∙ ap (λ o. option_and_then (λ x. option_map (make x) (option_and_then coordinate_in o)) (coordinate_in (whole p.x))) hy
    ∙ ap (λ o. option_and_then (λ x. option_map (make x) (coordinate_in (whole p.y))) o) (bounded_whole _ _ p.x near.x)
    ∙ ap (λ o. option_map (make p.x) o) (bounded_whole _ _ p.y near.y)

pub size_back : (d : Data) (s : Size) → IsWithin (pos 0) (pos (2 ^ 53)) s.width → IsWithin (pos 0) (pos (2 ^ 53)) s.height
    → Has d (codes "width") (whole s.width) → Has d (codes "height") (whole s.height) → size_in d ≡ Some s
size_back d s w h hw hh =
    let make = λ (x y : ℤ). (let q : Size = record { width = x; height = y } in q) in
    ap (λ o. option_and_then (λ x. option_map (make x) (option_and_then length_in (get (codes "height") d))) (option_and_then length_in o)) hw
    ∙ ap (λ o. option_and_then (λ x. option_map (make x) (option_and_then length_in o)) (length_in (whole s.width))) hh
    ∙ ap (λ o. option_and_then (λ x. option_map (make x) (length_in (whole s.height))) o) (bounded_whole _ _ s.width w)
    ∙ ap (λ o. option_map (make s.width) o) (bounded_whole _ _ s.height h)

point_data_back : (p : Point) → IsNear p → point_in (point_data p) ≡ Some p
point_data_back p near = point_back (point_data p) p near refl refl

-- ---- lists

module _ {A : Type 0} (P : A → Type 0) (read : Data → Option A) (write : A → Data) (one : (x : A) → P x → read (write x) ≡ Some x) where
  pub all_back : (xs : List A) → All P xs → all_in read (items_of (map write xs)) ≡ Some xs
  all_back [] h = refl
  all_back (x ∷ xs) h =
      ap (option_and_then (λ y. option_map (λ ys. y ∷ ys) (all_in read (items_of (map write xs))))) (one x (All-head P x xs h))
      ∙ ap (λ o. option_map (λ ys. x ∷ ys) o) (all_back xs (All-tail P x xs h))

counted_yes : {A : Type 0} (n : ℕ) (xs : List A) → length xs ≡ n → counted n xs ≡ Some xs
counted_yes n xs h = ap (λ b. if b then Some xs else None) (eq-eqb _ _ h)

-- ---- sections

text_itself : (id : Id) → is_text (section_id id) (string (section_id id)) ≡ true
text_itself id = same_bytes (section_id id)

bends_back : (ps : List Point) (ms : Members) → All IsNear ps → get_member (codes "bendPoints") ms ≡ None → bends_in (get_member (codes "bendPoints") (with_bends ps ms)) ≡ Some ps
bends_back [] ms h none = ap bends_in none
bends_back (p ∷ ps) ms h none = all_back IsNear point_in point_data point_data_back (p ∷ ps) h

start_there : (bends : List Point) (id : Id) (s : Section) → get_member (codes "startPoint") (with_bends bends (end_members id s)) ≡ Some (point_data s.start)
start_there [] id s = refl
start_there (p ∷ ps) id s = refl

end_there : (bends : List Point) (id : Id) (s : Section) → get_member (codes "endPoint") (with_bends bends (end_members id s)) ≡ Some (point_data s.end)
end_there [] id s = refl
end_there (p ∷ ps) id s = refl

id_stands : (bends : List Point) (id : Id) (s : Section) → get_member (codes "id") (with_bends bends (end_members id s)) ≡ Some (string (section_id id))
id_stands [] id s = refl
id_stands (p ∷ ps) id s = refl

route_back : (id : Id) (s : Section) → FitsSection s → route_in (object (with_bends s.bends (end_members id s))) ≡ Some s
route_back id s fits =
    let ms = with_bends s.bends (end_members id s) in
    let make = λ (a : Point) (bends : List Point) (z : Point). (let q : Section = record { start = a; bends = bends; end = z } in q) in
    let last = option_and_then point_in (get_member (codes "endPoint") ms) in
    ap (λ o. option_and_then (λ a. option_and_then (λ bends. option_map (make a bends) last) (bends_in (get_member (codes "bendPoints") ms))) (option_and_then point_in o)) (start_there s.bends id s)
    ∙ ap (λ o. option_and_then (λ a. option_and_then (λ bends. option_map (make a bends) last) (bends_in (get_member (codes "bendPoints") ms))) o) (point_data_back s.start fits.start)
    ∙ ap (λ o. option_and_then (λ bends. option_map (make s.start bends) last) o) (bends_back s.bends (end_members id s) fits.bends refl)
    ∙ ap (λ o. option_map (make s.start s.bends) (option_and_then point_in o)) (end_there s.bends id s)
    ∙ ap (λ o. option_map (make s.start s.bends) o) (point_data_back s.end fits.end)

pub sections_back : (id : Id) (s : Section) (d : Data) → FitsSection s → Has d (codes "sections") (sections_data id s) → sections_in id d ≡ Some s
sections_back id s d fits h =
    ap (option_and_then (sole_section_in id)) h
    ∙ ap (λ o. if option_map_or (is_text (section_id id)) o false then route_in (object (with_bends s.bends (end_members id s))) else None) (id_stands s.bends id s)
    ∙ ap (λ b. if b then route_in (object (with_bends s.bends (end_members id s))) else None) (text_itself id)
    ∙ route_back id s fits

-- ---- edges that are listed

integer_id : (z : ℤ) → to_id (whole z) ≡ Some (Whole z)
integer_id (pos n) = refl
integer_id (negsuc n) = refl

id_back : (id : Id) → to_id (id_data id) ≡ Some id
id_back (Text s) = refl
id_back (Whole z) = integer_id z

-- each edge of the document is found by its id
abbrev pub AreFound : Document → Type 0
AreFound doc = (n : ℕ) → n < length doc.edges → first_number (has_id (edge_at doc n).id) 0 doc.edges ≡ Some n

named_back : (doc : Document) → AreFound doc → (n : ℕ) → n < length doc.edges → edge_named doc (id_data (edge_at doc n).id) ≡ Some n
named_back doc found n h = ap (option_and_then (λ id. first_number (λ e. has_id id e) 0 doc.edges)) (id_back (edge_at doc n).id) ∙ found n h

edges_back : (doc : Document) → AreFound doc → (ns : List ℕ) → All (λ n. n < length doc.edges) ns → all_in (edge_named doc) (items_of (edge_ids doc ns)) ≡ Some ns
edges_back doc found [] h = refl
edges_back doc found (n ∷ ns) h =
    let inside = All-head (λ n. n < length doc.edges) n ns h in
    let there : slice_get doc.edges n ≡ Some (edge_at doc n) = slice_get-get_or doc.edges n no_edge inside in
    ap (λ o. all_in (edge_named doc) (items_of (edge_id o ++ edge_ids doc ns))) there
    ∙ ap (option_and_then (λ y. option_map (λ ys. y ∷ ys) (all_in (edge_named doc) (items_of (edge_ids doc ns))))) (named_back doc found n inside)
    ∙ ap (λ o. option_map (λ ys. n ∷ ys) o) (edges_back doc found ns (All-tail (λ n. n < length doc.edges) n ns h))

rising_back : (low n : ℕ) (ns : List ℕ) → low ≤ n → ((i : ℕ) → i + 1 < length (n ∷ ns) → slice_index (n ∷ ns) i < slice_index (n ∷ ns) (i + 1)) → are_from low (n ∷ ns) ≡ true
rising_back low n [] le h = and_from (nat_le low n) true (le-leb low n le) refl
rising_back low n (m ∷ ms) le h =
    let more : n < m = h 0 (omega arith) in
    and_from (nat_le low n) (are_from (n + 1) (m ∷ ms)) (le-leb low n le) (rising_back (n + 1) m ms (omega arith) (λ i lt.
    let at : suc i + 1 ≡ suc (i + 1) = omega arith in
    subst (λ k. slice_index (n ∷ m ∷ ms) (suc i) < slice_index (n ∷ m ∷ ms) k) at (h (suc i) (omega arith))))

ascending_back : (ns : List ℕ) → IsAscending ns → is_ascending ns ≡ true
ascending_back [] h = refl
ascending_back (n ∷ ns) h = rising_back 0 n ns (omega arith) h

listable_back : (doc : Document) (n e : ℕ) → MayBeListed doc n e → is_listable doc n e ≡ true
listable_back doc n e h =
    and_from (nat_lt e (length doc.edges) && is_edge_of doc n e) (not (is_loop doc e))
    (and_from (nat_lt e (length doc.edges)) (is_edge_of doc n e) (lt-ltb e (length doc.edges) h.edge_in) (eq-eqb _ _ h.of_level))
    (ap not (ne_eqb _ _ h.no_loop))

all_listable : (doc : Document) (n : ℕ) (es : List ℕ) → All (MayBeListed doc n) es → list_all (is_listable doc n) es ≡ true
all_listable doc n [] h = refl
all_listable doc n (e ∷ es) h =
    and_from (is_listable doc n e) (list_all (is_listable doc n) es)
    (listable_back doc n e (All-head (MayBeListed doc n) e es h)) (all_listable doc n es (All-tail (MayBeListed doc n) e es h))

listed_inside : (doc : Document) (n : ℕ) (es : List ℕ) → All (MayBeListed doc n) es → All (λ e. e < length doc.edges) es
listed_inside doc n es h k d lt = (h k d lt).edge_in

-- ---- certificates

small_back : (count : ℕ) (ns : List ℕ) → All (λ n. n < 2 ^ 32) ns → length ns ≡ count → option_and_then (counted count) (list_in small_in (wholes ns)) ≡ Some ns
small_back count ns small h =
    ap (option_and_then (counted count)) (all_back (λ n. n < 2 ^ 32) small_in (λ n. whole (pos n)) small_whole ns small) ∙ counted_yes count ns h

large_back : (count : ℕ) (ns : List ℕ) → All (λ n. n < 2 ^ 64) ns → length ns ≡ count → option_and_then (counted count) (list_in large_in (wholes ns)) ≡ Some ns
large_back count ns large h =
    ap (option_and_then (counted count)) (all_back (λ n. n < 2 ^ 64) large_in (λ n. whole (pos n)) large_whole ns large) ∙ counted_yes count ns h

no_parts : {A : Type 0} (ns : List A) → length ns ≡ 0 → [] ≡ ns
no_parts [] h = refl
no_parts (n ∷ ns) h = absurd (omega arith)

module _ (doc : Document) (found : AreFound doc) (n : ℕ) (o : LevelOptions) (c : Certificate) (fits : FitsCertificate doc n o c) (held : IsHeld c) where
  layers_there : (split : Bool) → get (codes "layers") (layering_data doc split c) ≡ Some (wholes c.layers)
  layers_there true = refl
  layers_there false = refl

  flow_there : (split : Bool) → get (codes "flow") (layering_data doc split c) ≡ Some (wholes c.flow)
  flow_there true = refl
  flow_there false = refl

  reversed_there : (split : Bool) → get (codes "reversed") (layering_data doc split c) ≡ Some (array (items_of (edge_ids doc c.reversed)))
  reversed_there true = refl
  reversed_there false = refl

  span_there : (split : Bool) → get (codes "span") (layering_data doc split c) ≡ Some (whole (pos c.span))
  span_there true = refl
  span_there false = refl

  parts_back : (split : Bool) → length c.parts ≡ (if split then child_count doc n else 0) → parts_in doc n split (layering_data doc split c) ≡ Some c.parts
  parts_back true h = small_back (child_count doc n) c.parts held.parts h
  parts_back false h = ap (λ ns. Some ns) (no_parts c.parts h)

  flow_back : flow_in doc n (layering_data doc o.split c) ≡ Some c.flow
  flow_back =
      ap (λ d. option_and_then (counted (edge_count doc n)) (option_and_then (list_in large_in) d)) (flow_there o.split)
      ∙ large_back (edge_count doc n) c.flow held.flow fits.flow

  layers_back : layers_in doc n (layering_data doc o.split c) ≡ Some c.layers
  layers_back =
      ap (λ d. option_and_then (counted (child_count doc n)) (option_and_then (list_in small_in) d)) (layers_there o.split)
      ∙ small_back (child_count doc n) c.layers held.layers fits.layers

  reversed_back : reversed_in doc n (layering_data doc o.split c) ≡ Some c.reversed
  reversed_back =
      ap (λ d. option_and_then (listable doc n) (option_and_then (list_in (edge_named doc)) d)) (reversed_there o.split)
      ∙ ap (option_and_then (listable doc n)) (edges_back doc found c.reversed (listed_inside doc n c.reversed fits.listed))
      ∙ ap (λ b. if b then Some c.reversed else None) (and_from (is_ascending c.reversed) (list_all (is_listable doc n) c.reversed) (ascending_back c.reversed fits.ascending) (all_listable doc n c.reversed fits.listed))

  span_back : span_in (layering_data doc o.split c) ≡ Some c.span
  span_back = ap (option_and_then large_in) (span_there o.split) ∙ large_whole c.span held.span

  pub certificate_back : certificate_in doc n o.split (layering_data doc o.split c) ≡ Some c
  certificate_back =
      let d = layering_data doc o.split c in
      ap (λ f. certificate_with f (layers_in doc n d) (parts_in doc n o.split d) (reversed_in doc n d) (span_in d)) flow_back
      ∙ ap (λ l. certificate_with (Some c.flow) l (parts_in doc n o.split d) (reversed_in doc n d) (span_in d)) layers_back
      ∙ ap (λ p. certificate_with (Some c.flow) (Some c.layers) p (reversed_in doc n d) (span_in d)) (parts_back o.split fits.parts)
      ∙ ap (λ r. certificate_with (Some c.flow) (Some c.layers) (Some c.parts) r (span_in d)) reversed_back
      ∙ ap (λ s. certificate_with (Some c.flow) (Some c.layers) (Some c.parts) (Some c.reversed) s) span_back
