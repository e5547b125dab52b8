-- The value that is written says the drawing again, and the same document but for the places of ports.
use Rattle.std.proofs.Common.{◌≡◌, ℕ, zero, suc, ◌+◌, ◌<◌, List, [], ◌∷◌, length, map, filter, Bool, true, false, not, ◌&&◌, cond, Option, Some, None, option_map, if◌then◌else◌, pos, refl, sym, ap, ◌∙◌, subst, arith, IsNone, ne_eqb}
use Rattle.std.specs.Prelude.{option_and_then, codes, slice_get, IsTrue, is_some}
use Rattle.std.specs.Option.{option_map_or}
use Rattle.std.specs.Ordering.{int_eq}
use Rattle.std.proofs.lemmas.Bool.Decides.{Decides-int_eq}
use Rattle.std.proofs.lemmas.List.{length-map}
use Rattle.std.proofs.lemmas.Option.{slice_get_within, slice_get-get_or, slice_get-map, get_or_from_slice_get}
use Rattle.drawing_types.specs.declared.shape.Point.{Point}
use Rattle.drawing_types.specs.declared.shape.Size.{Size}
use Rattle.elk_doc.specs.declared.document.Node.{Node}
use Rattle.elk_doc.specs.declared.document.Edge.{Edge as DocEdge}
use Rattle.elk_doc.specs.declared.document.LevelOptions.{LevelOptions}
use Rattle.elk_doc.specs.declared.drawing.Certificate.{Certificate}
use Rattle.elk_doc.specs.declared.drawing.Placed.{Placed}
use Rattle.elk_doc.specs.Document.{Document, node_at, no_node}
use Rattle.drawing_types.specs.Shapes.{origin}
use Rattle.elk_doc.specs.Drawing.{box_of as drawn_box, certificate_of, section_of, port_place, no_rect, no_section}
use Rattle.elk_doc.specs.Fits.{Fits, FitsBox, FitsLevel, FitsCertificate}
use Rattle.elk_json.specs.Elements.{Element}
use Rattle.elk_json.specs.Members.{is_node, is_port, is_edge, is_compound, options_at}
use Rattle.elk_json.specs.Document.{node_of, edge_of, nodes_of, edges_of}
use Rattle.elk_write.specs.Values.{whole, sections_data, layering_data}
use Rattle.elk_write.specs.Written.{AllFrom, IfThere, Has, HasLevel, IsNodeWritten, IsPortWritten, IsEdgeWritten, is_split}
use Rattle.elk_write.specs.Reading.{sections_in, certificate_in}
use Rattle.elk_write.specs.Placing.{is_origin, rooted, node_size_in, box_of, box_in, level_in, box_at, level_at, place_at, section_at, given, IsGiven}
use Rattle.elk_write.specs.ReadBack.{IsHeld, IsHeldLevel, AreHeld}
use Rattle.elk_write.proofs.Returned.{AreFound, point_back, size_back, sections_back, certificate_back}
use Rattle.elk_json.proofs.NodeLaws.{leaf_level}

-- ---- lists

-- a fact of each index
all_at : (P : ℕ → Element → Type 0) (m : ℕ) (xs : List Element) → AllFrom P m xs → (i : ℕ) (x : Element) → slice_get xs i ≡ Some x → P (m + i) x
all_at P m [] h i x e = let bad : None ≡ Some x = e in absurd (cc)
all_at P m (y ∷ xs) h zero x e =
    let same : y ≡ x = (let s : Some y ≡ Some x = e in cc) in
    let n : m ≡ m + 0 = omega arith in
    subst (λ k. P k x) n (subst (P m) same h.0)
all_at P m (y ∷ xs) h (suc i) x e =
    let n : (m + 1) + i ≡ m + suc i = omega arith in
    subst (λ k. P k x) n (all_at P (m + 1) xs h.1 i x e)

pub from_zero_at : (P : ℕ → Element → Type 0) (xs : List Element) → AllFrom P 0 xs → (i : ℕ) (x : Element) → slice_get xs i ≡ Some x → P i x
from_zero_at P xs h i x e = let n : 0 + i ≡ i = omega arith in subst (λ k. P k x) n (all_at P 0 xs h i x e)

given_all : {A : Type 0} (read : ℕ → Element → Option A) (m : ℕ) (xs : List A) (es : List Element) → length xs ≡ length es
    → ((i : ℕ) (e : Element) → slice_get es i ≡ Some e → read (m + i) e ≡ slice_get xs i) → map (λ x. Some x) xs ≡ given read m es
given_all read m [] [] l h = refl
given_all read m (x ∷ xs) (e ∷ es) l h =
    let n : m + 0 ≡ m = omega arith in
    let here : read m e ≡ Some x = sym (ap (λ k. read k e) n) ∙ h 0 e refl in
    let rest = given_all read (m + 1) xs es (omega arith) (λ i f at. let k : (m + 1) + i ≡ m + suc i = omega arith in ap (λ k. read k f) k ∙ h (suc i) f at) in
    ap (λ o. o ∷ map (λ x. Some x) xs) (sym here) ∙ ap (λ os. read m e ∷ os) rest
given_all read m xs es l h = absurd (omega arith)

given_from_zero : {A : Type 0} (read : ℕ → Element → Option A) (xs : List A) (es : List Element) → length xs ≡ length es
    → ((i : ℕ) (e : Element) → slice_get es i ≡ Some e → read i e ≡ slice_get xs i) → map (λ x. Some x) xs ≡ given read 0 es
given_from_zero read xs es l h = given_all read 0 xs es l (λ i e at. let n : 0 + i ≡ i = omega arith in ap (λ k. read k e) n ∙ h i e at)

pub some_same : {A : Type 0} (xs ys : List A) → map (λ x. Some x) xs ≡ map (λ x. Some x) ys → xs ≡ ys
some_same [] [] h = refl
some_same (x ∷ xs) (y ∷ ys) h =
    let head : x ≡ y = (let s : Some x ≡ Some y = cc in cc) in
    let tail : map (λ x. Some x) xs ≡ map (λ x. Some x) ys = cc in
    ap (λ z. z ∷ xs) head ∙ ap (λ zs. y ∷ zs) (some_same xs ys tail)
some_same xs ys h = absurd (cc)

filter_if : (b : Bool) (test : Element → Bool) (n : ℕ) (y x : Element) (ys : List Element) → test y ≡ b → ((n : ℕ) → slice_get (filter test ys) n ≡ Some x → test x ≡ true)
    → slice_get (cond b (y ∷ filter test ys) (filter test ys)) n ≡ Some x → test x ≡ true
filter_if true test zero y x ys t ih e = let same : y ≡ x = (let s : Some y ≡ Some x = e in cc) in sym (ap test same) ∙ t
filter_if true test (suc n) y x ys t ih e = ih n e
filter_if false test n y x ys t ih e = ih n e

filter_passes : (test : Element → Bool) (xs : List Element) (n : ℕ) (x : Element) → slice_get (filter test xs) n ≡ Some x → test x ≡ true
filter_passes test [] n x e = let bad : None ≡ Some x = e in absurd (cc)
filter_passes test (y ∷ xs) n x e = filter_if (test y) test n y x xs refl (λ m. filter_passes test xs m x) e

-- ---- levels

compound_if : (b : Bool) (x : Element) (o : LevelOptions) → is_node x ≡ true → is_compound x ≡ b → (options_at x).level ≡ Some o → b ≡ true
compound_if true x o node is h = refl
compound_if false x o node is h = let bad : None ≡ Some o = sym (leaf_level x node is) ∙ h in absurd (cc)

no_level : (doc : Document) (n : ℕ) (c : Option Certificate) → FitsLevel doc n None c → None ≡ c
no_level doc n None h = refl
no_level doc n (Some c) h = absurd h

some_level : (doc : Document) (n : ℕ) (o : LevelOptions) (c : Option Certificate) → FitsLevel doc n (Some o) c → (x : Certificate) × (c ≡ Some x) × FitsCertificate doc n o x
some_level doc n o None h = absurd h
some_level doc n o (Some x) h = (x, refl, h)

rooted_back : (n : ℕ) (q : Point) → (n ≡ 0 → (q.x ≡ pos 0) × (q.y ≡ pos 0)) → rooted n q ≡ Some q
rooted_back zero q h =
    let both = h refl in
    let x : int_eq q.x (pos 0) ≡ true = (Decides-int_eq q.x (pos 0)).1 both.0 in
    let y : int_eq q.y (pos 0) ≡ true = (Decides-int_eq q.y (pos 0)).1 both.1 in
    ap (λ b. if not (b && int_eq q.y (pos 0)) then None else Some q) x ∙ ap (λ b. if not b then None else Some q) y
rooted_back (suc n) q h = ap (λ b. if b && not (is_origin q) then None else Some q) (ne_eqb (suc n) 0 (λ e. absurd (omega arith)))

module _ (doc : Document) (p : Placed) (fits : Fits doc p) (held : AreHeld p) (found : AreFound doc) (fs : List Element) (nodes : doc.nodes ≡ nodes_of fs) (edges : doc.edges ≡ edges_of fs) where
  module _ (n : ℕ) (e : Element) (at : slice_get (filter is_node fs) n ≡ Some e) where
    node_here : slice_get doc.nodes n ≡ Some (node_of fs e)
    node_here = ap (λ ns. slice_get ns n) nodes ∙ slice_get-map (node_of fs) (filter is_node fs) n ∙ ap (option_map (node_of fs)) at

    inside : n < length doc.nodes
    inside = slice_get_within doc.nodes n (node_of fs e) node_here

    node_is : node_at doc n ≡ node_of fs e
    node_is = get_or_from_slice_get doc.nodes n (node_of fs e) no_node node_here

    box_there : slice_get p.boxes n ≡ Some (drawn_box p n)
    box_there = let c = fits.counts.boxes in let i = inside in slice_get-get_or p.boxes n no_rect (omega arith)

    box_fits : FitsBox (drawn_box p n)
    box_fits = let c = fits.counts.boxes in let i = inside in fits.range.boxes n no_rect (omega arith)

    level_there : slice_get p.levels n ≡ Some (certificate_of p n)
    level_there = let c = fits.counts.levels in let i = inside in slice_get-get_or p.levels n None (omega arith)

    level_held : IsHeldLevel (certificate_of p n)
    level_held = let c = fits.counts.levels in let i = inside in held n None (omega arith)

    compound_by_level : (o : LevelOptions) → (node_of fs e).level ≡ Some o → is_compound e ≡ true
    compound_by_level o h = compound_if (is_compound e) e o (filter_passes is_node fs n e at) refl h

    module _ (written : IsNodeWritten doc p n e) where
      members : Has e.value (codes "x") (whole (drawn_box p n).x) × Has e.value (codes "y") (whole (drawn_box p n).y) × (IsTrue (is_compound e) → HasLevel doc p n e.value (drawn_box p n))
      members = subst (λ o. IfThere o (λ box. Has e.value (codes "x") (whole box.x) × Has e.value (codes "y") (whole box.y) × (IsTrue (is_compound e) → HasLevel doc p n e.value box))) box_there written

      abbrev corner : Point
      corner = record { x = (drawn_box p n).x; y = (drawn_box p n).y }

      abbrev own : Size
      own = record { width = (drawn_box p n).width; height = (drawn_box p n).height }

      size_by : (o : Option LevelOptions) → (node_of fs e).level ≡ o → node_size_in o (node_of fs e).size e.value ≡ Some own
      size_by None is =
          let none : IsNone (node_at doc n).level = ap (λ (o : Option LevelOptions). is_some o) (ap (λ (v : Node). v.level) node_is ∙ is) in
          let kept = fits.leaves n inside none in
          let same : (node_at doc n).size ≡ (node_of fs e).size = ap (λ (v : Node). v.size) node_is in
          let width : (drawn_box p n).width ≡ (node_of fs e).size.width = kept.width ∙ ap (λ (s : Size). s.width) same in
          let height : (drawn_box p n).height ≡ (node_of fs e).size.height = kept.height ∙ ap (λ (s : Size). s.height) same in
          sym (ap (λ w. (let s : Size = record { width = w; height = (drawn_box p n).height } in Some s)) width ∙ ap (λ h. (let s : Size = record { width = (node_of fs e).size.width; height = h } in Some s)) height)
      size_by (Some o) is =
          let level = members.2 (compound_by_level o is) in
          size_back e.value own box_fits.width box_fits.height level.0 level.1

      root_by : n ≡ 0 → (corner.x ≡ pos 0) × (corner.y ≡ pos 0)
      root_by is = subst (λ k. ((drawn_box p k).x ≡ pos 0) × ((drawn_box p k).y ≡ pos 0)) (sym is) (fits.root.x, fits.root.y)

      box_back : box_at doc n e ≡ slice_get p.boxes n
      box_back =
          let v = node_of fs e in
          let size = node_size_in v.level v.size e.value in
          ap (option_and_then (λ v. box_in n v e.value)) node_here
          ∙ ap (λ o. option_and_then (λ at. option_map (box_of at) size) (option_and_then (rooted n) o)) (point_back e.value corner box_fits.place members.0 members.1)
          ∙ ap (λ o. option_and_then (λ at. option_map (box_of at) size) o) (rooted_back n corner root_by)
          ∙ ap (option_map (box_of corner)) (size_by v.level refl)
          ∙ sym box_there

      split_is : (o : LevelOptions) → (node_of fs e).level ≡ Some o → is_split doc n ≡ o.split
      split_is o is = ap (λ v. option_map_or (λ (v : Node). option_map_or (λ (l : LevelOptions). l.split) v.level false) v false) node_here ∙ ap (λ l. option_map_or (λ (l : LevelOptions). l.split) l false) is

      level_by : (o : Option LevelOptions) → (node_of fs e).level ≡ o → FitsLevel doc n o (certificate_of p n) → level_in doc n o e.value ≡ Some (certificate_of p n)
      level_by None is h = ap (λ c. Some c) (no_level doc n (certificate_of p n) h)
      level_by (Some o) is h =
          let c = some_level doc n o (certificate_of p n) h in
          let slot : option_and_then (λ c. c) (slice_get p.levels n) ≡ Some c.0 = ap (option_and_then (λ c. c)) level_there ∙ c.1 in
          let layering = (members.2 (compound_by_level o is)).2 in
          let has : Has e.value (codes "layering") (layering_data doc o.split c.0) =
          subst (λ b. Has e.value (codes "layering") (layering_data doc b c.0)) (split_is o is)
          (subst (λ o. IfThere o (λ c. Has e.value (codes "layering") (layering_data doc (is_split doc n) c))) slot layering) in
          let numbers : IsHeld c.0 = subst IsHeldLevel c.1 level_held in
          ap (λ d. option_map (λ c. Some c) (option_and_then (certificate_in doc n o.split) d)) has
          ∙ ap (option_map (λ c. Some c)) (certificate_back doc found n o c.0 c.2 numbers)
          ∙ ap (λ c. Some c) (sym c.1)

      level_back : level_at doc n e ≡ slice_get p.levels n
      level_back =
          ap (option_and_then (λ v. level_in doc n v.level e.value)) node_here
          ∙ level_by (node_of fs e).level refl (subst (λ l. FitsLevel doc n l (certificate_of p n)) (ap (λ (v : Node). v.level) node_is) (fits.certificates n inside))
          ∙ sym level_there

  port_back : length doc.ports ≡ length (filter is_port fs) → (n : ℕ) (e : Element) → slice_get (filter is_port fs) n ≡ Some e → IsPortWritten p n e → place_at n e ≡ slice_get p.ports n
  port_back count n e at written =
      let c = fits.counts.ports in
      let i = slice_get_within (filter is_port fs) n e at in
      let there : slice_get p.ports n ≡ Some (port_place p n) = slice_get-get_or p.ports n origin (omega arith) in
      let members = subst (λ o. IfThere o (λ at. Has e.value (codes "x") (whole at.x) × Has e.value (codes "y") (whole at.y))) there written in
      point_back e.value (port_place p n) (fits.range.ports n origin (omega arith)) members.0 members.1 ∙ sym there

  edge_back : (n : ℕ) (e : Element) → slice_get (filter is_edge fs) n ≡ Some e → IsEdgeWritten doc p n e → section_at doc n e ≡ slice_get p.sections n
  edge_back n e at written =
      let here : slice_get doc.edges n ≡ Some (edge_of fs e) = ap (λ ns. slice_get ns n) edges ∙ slice_get-map (edge_of fs) (filter is_edge fs) n ∙ ap (option_map (edge_of fs)) at in
      let i = slice_get_within doc.edges n (edge_of fs e) here in
      let c = fits.counts.sections in
      let there : slice_get p.sections n ≡ Some (section_of p n) = slice_get-get_or p.sections n no_section (omega arith) in
      let first = subst (λ o. IfThere o (λ (edge : DocEdge). IfThere (slice_get p.sections n) (λ s. Has e.value (codes "sections") (sections_data edge.id s)))) here written.0 in
      let has = subst (λ o. IfThere o (λ s. Has e.value (codes "sections") (sections_data (edge_of fs e).id s))) there first in
      ap (option_and_then (λ (v : DocEdge). sections_in v.id e.value)) here
      ∙ sections_back (edge_of fs e).id (section_of p n) e.value (fits.range.sections n no_section (omega arith)) has
      ∙ sym there

  pub given_back : length doc.ports ≡ length (filter is_port fs) → AllFrom (IsNodeWritten doc p) 0 (filter is_node fs) → AllFrom (IsPortWritten p) 0 (filter is_port fs) → AllFrom (IsEdgeWritten doc p) 0 (filter is_edge fs) → IsGiven doc fs p
  given_back count ns ps es =
      let node_count : length doc.nodes ≡ length (filter is_node fs) = ap (λ xs. length xs) nodes ∙ length-map (filter is_node fs) (node_of fs) in
      let edge_total : length doc.edges ≡ length (filter is_edge fs) = ap (λ xs. length xs) edges ∙ length-map (filter is_edge fs) (edge_of fs) in
      record {
        boxes = given_from_zero (box_at doc) p.boxes (filter is_node fs) (fits.counts.boxes ∙ node_count) (λ n e at. box_back n e at (from_zero_at (IsNodeWritten doc p) (filter is_node fs) ns n e at));
        levels = given_from_zero (level_at doc) p.levels (filter is_node fs) (fits.counts.levels ∙ node_count) (λ n e at. level_back n e at (from_zero_at (IsNodeWritten doc p) (filter is_node fs) ns n e at));
        ports = given_from_zero place_at p.ports (filter is_port fs) (fits.counts.ports ∙ count) (λ n e at. port_back count n e at (from_zero_at (IsPortWritten p) (filter is_port fs) ps n e at));
        sections = given_from_zero (section_at doc) p.sections (filter is_edge fs) (fits.counts.sections ∙ edge_total) (λ n e at. edge_back n e at (from_zero_at (IsEdgeWritten doc p) (filter is_edge fs) es n e at));
      }
