-- The drawing that the elements of a value give fits its document.
use Rattle.std.proofs.Common.{◌≡◌, ℕ, zero, suc, ◌+◌, ◌<◌, ◌^◌, List, [], ◌∷◌, length, map, filter, Bool, true, false, not, ◌&&◌, Option, Some, None, option_map, if◌then◌else◌, ℤ, pos, refl, sym, ap, ◌∙◌, subst, arith, All, IsNone}
use Rattle.std.specs.Prelude.{option_and_then, ◌==◌, codes, slice_get, slice_index_or}
use Rattle.std.specs.Ordering.{int_eq}
use Rattle.std.proofs.lemmas.Bool.{and_parts}
use Rattle.std.proofs.lemmas.Bool.Decides.{Decides-int_eq}
use Rattle.std.proofs.lemmas.Int.{ints}
use Rattle.std.proofs.lemmas.List.{length-map}
use Rattle.std.proofs.lemmas.List.Elements.{All-nil, All-cons}
use Rattle.std.proofs.lemmas.Option.{slice_get_within, get_or_from_slice_get}
use Rattle.serde_json.specs.Data.{Data}
use Rattle.serde_json.specs.Find.{get}
use Rattle.drawing_types.specs.declared.shape.Point.{Point}
use Rattle.drawing_types.specs.declared.shape.Rect.{Rect}
use Rattle.drawing_types.specs.declared.shape.Size.{Size}
use Rattle.elk_doc.specs.declared.document.Node.{Node}
use Rattle.elk_doc.specs.declared.document.LevelOptions.{LevelOptions}
use Rattle.drawing_types.specs.declared.section.Section.{Section}
use Rattle.elk_doc.specs.declared.drawing.Certificate.{Certificate}
use Rattle.elk_doc.specs.declared.drawing.Placed.{Placed}
use Rattle.elk_doc.specs.Document.{Document, node_at, no_node}
use Rattle.elk_doc.specs.Drawing.{box_of as drawn_box, certificate_of, no_rect}
use Rattle.elk_doc.specs.Sound.{IsSound, IsSoundNode, IsSoundSize}
use Rattle.drawing_types.specs.Ranges.{IsWithin}
use Rattle.elk_doc.specs.Fits.{Fits, FitsBox, FitsSection, FitsLevel, HasCounts}
use Rattle.drawing_types.specs.Ranges.{IsNear}
use Rattle.elk_json.specs.Elements.{Element}
use Rattle.elk_json.specs.Members.{is_node, is_port, is_edge}
use Rattle.elk_json.specs.Document.{node_of, port_of, edge_of, nodes_of, ports_of, edges_of}
use Rattle.elk_write.specs.Reading.{point_in, sections_in, certificate_in}
use Rattle.elk_write.specs.Placing.{is_origin, rooted, node_size_in, box_of, box_in, level_in, box_at, level_at, place_at, section_at, given, IsGiven}
use Rattle.elk_write.proofs.Fitting.{and_some, map_some, near, FitsSize, fits_size, sections_fit, certificate_fits}
use Rattle.elk_write.proofs.Known.{not_false}

-- ---- lists that are given

pub length_given : {A : Type 0} (read : ℕ → Element → Option A) (n : ℕ) (es : List Element) → length (given read n es) ≡ length es
length_given read n [] = refl
length_given read n (e ∷ es) = ap suc (length_given read (n + 1) es)

given_count : {A : Type 0} (read : ℕ → Element → Option A) (xs : List A) (es : List Element) → map (λ x. Some x) xs ≡ given read 0 es → length xs ≡ length es
given_count read xs es h = sym (length-map xs (λ x. Some x)) ∙ ap (λ os. length os) h ∙ length_given read 0 es

all_given : {A : Type 0} (P : A → Type 0) (read : ℕ → Element → Option A) → ((n : ℕ) (e : Element) (x : A) → read n e ≡ Some x → P x)
    → (xs : List A) (n : ℕ) (es : List Element) → map (λ x. Some x) xs ≡ given read n es → All P xs
all_given P read good [] n es h = All-nil P
all_given P read good (x ∷ xs) n [] h = absurd (cc)
all_given P read good (x ∷ xs) n (e ∷ es) h =
    let head : Some x ≡ read n e = cc in
    let tail : map (λ x. Some x) xs ≡ given read (n + 1) es = cc in
    All-cons P x xs (good n e x (sym head)) (all_given P read good xs (n + 1) es tail)

-- the element that gives an entry
given_at : {A : Type 0} (read : ℕ → Element → Option A) (d : A) (xs : List A) (n : ℕ) (es : List Element) → map (λ x. Some x) xs ≡ given read n es
    → (k : ℕ) → k < length xs → (e : Element) × (read (n + k) e ≡ Some (slice_index_or xs k d))
given_at read d [] n es h k lt = absurd (omega arith)
given_at read d (x ∷ xs) n [] h k lt = absurd (cc)
given_at read d (x ∷ xs) n (e ∷ es) h zero lt =
    let head : Some x ≡ read n e = cc in
    let same : n + 0 ≡ n = omega arith in
    (e, ap (λ m. read m e) same ∙ sym head)
given_at read d (x ∷ xs) n (e ∷ es) h (suc k) lt =
    let tail : map (λ x. Some x) xs ≡ given read (n + 1) es = cc in
    let there = given_at read d xs (n + 1) es tail k (omega arith) in
    let same : n + suc k ≡ (n + 1) + k = omega arith in
    (there.0, ap (λ m. read m there.0) same ∙ there.1)

-- ---- nodes

origin_by : (p : Point) → is_origin p ≡ true → (p.x ≡ pos 0) × (p.y ≡ pos 0)
origin_by p h =
    let both = and_parts (int_eq p.x (pos 0)) (int_eq p.y (pos 0)) h in
    ((Decides-int_eq p.x (pos 0)).0 both.0, (Decides-int_eq p.y (pos 0)).0 both.1)

unless : {A : Type 0} (b : Bool) (z y : A) → (if b then None else Some z) ≡ Some y → (b ≡ false) × (z ≡ y)
unless true z y e = let bad : None ≡ Some y = e in absurd (cc)
unless false z y e = let h : Some z ≡ Some y = e in (refl, cc)

pub rooted_same : (n : ℕ) (p q : Point) → rooted n p ≡ Some q → p ≡ q
rooted_same n p q e = (unless (n == 0 && not (is_origin p)) p q e).1

root_origin : (p q : Point) → rooted 0 p ≡ Some q → (q.x ≡ pos 0) × (q.y ≡ pos 0)
root_origin p q e =
    let h = unless (not (is_origin p)) p q e in
    subst (λ (r : Point). (r.x ≡ pos 0) × (r.y ≡ pos 0)) h.1 (origin_by p (not_false (is_origin p) h.0))

wider : (z : ℤ) → IsWithin (pos 0) (pos (2 ^ 20)) z → IsWithin (pos 0) (pos (2 ^ 53)) z
wider z h = let low = h.above in let high = h.below in record { above = low; below = omega (arith, ints) }

record SizeFacts (o : Option LevelOptions) (own s : Size) : Type 0 where
  pub fits : FitsSize s
  pub kept : IsNone o → s ≡ own

size_facts : (o : Option LevelOptions) (own : Size) (d : Data) (s : Size) → (IsNone o → IsSoundSize own) → node_size_in o own d ≡ Some s → SizeFacts o own s
size_facts None own d s sound e =
    let h : Some own ≡ Some s = e in
    let same : own ≡ s = cc in
    let size = sound refl in
    subst (SizeFacts None own) same (record { fits = record { width = wider own.width size.width; height = wider own.height size.height }; kept = λ n. refl })
size_facts (Some o) own d s sound e = record { fits = fits_size d s e; kept = λ n. absurd (cc) }

record BoxFacts (v : Node) (n : ℕ) (r : Rect) : Type 0 where
  pub fits : FitsBox r
  pub root : n ≡ 0 → (r.x ≡ pos 0) × (r.y ≡ pos 0)
  pub width : IsNone v.level → r.width ≡ v.size.width
  pub height : IsNone v.level → r.height ≡ v.size.height

box_facts : (n : ℕ) (v : Node) (d : Data) (r : Rect) → IsSoundNode v → box_in n v d ≡ Some r → BoxFacts v n r
box_facts n v d r sound e =
    let a = and_some (λ at. option_map (box_of at) (node_size_in v.level v.size d)) (option_and_then (rooted n) (point_in d)) r e in
    let b = map_some (box_of a.0) (node_size_in v.level v.size d) r a.2 in
    let c = and_some (rooted n) (point_in d) a.0 a.1 in
    let same : c.0 ≡ a.0 = rooted_same n c.0 a.0 c.2 in
    let size = size_facts v.level v.size d b.0 sound.leaf b.1 in
    subst (BoxFacts v n) b.2 (record {
      fits = record { place = subst IsNear same (near d c.0 c.1); width = size.fits.width; height = size.fits.height };
      root = λ is. root_origin c.0 a.0 (subst (λ k. rooted k c.0 ≡ Some a.0) is c.2);
      width = λ none. ap (λ (z : Size). z.width) (size.kept none);
      height = λ none. ap (λ (z : Size). z.height) (size.kept none);
    })

level_fits : (doc : Document) (n : ℕ) (o : Option LevelOptions) (d : Data) (c : Option Certificate) → level_in doc n o d ≡ Some c → FitsLevel doc n o c
level_fits doc n None d c e = let h : Some None ≡ Some c = e in let same : None ≡ c = cc in subst (FitsLevel doc n None) same tt
level_fits doc n (Some o) d c e =
    let a = map_some (λ c. Some c) (option_and_then (certificate_in doc n o.split) (get (codes "layering") d)) c e in
    let b = and_some (certificate_in doc n o.split) (get (codes "layering") d) a.0 a.1 in
    subst (FitsLevel doc n (Some o)) a.2 (certificate_fits doc n o b.0 a.0 b.2)

-- ---- all of a drawing

module _ (doc : Document) (sound : IsSound doc) where
  node_here : (n : ℕ) (v : Node) → slice_get doc.nodes n ≡ Some v → node_at doc n ≡ v
  node_here n v e = get_or_from_slice_get doc.nodes n v no_node e

  facts_at : (n : ℕ) (e : Element) (r : Rect) → box_at doc n e ≡ Some r → BoxFacts (node_at doc n) n r
  facts_at n e r h =
      let a = and_some (λ v. box_in n v e.value) (slice_get doc.nodes n) r h in
      let is = node_here n a.0 a.1 in
      box_facts n (node_at doc n) e.value r (sound.nodes n (slice_get_within doc.nodes n a.0 a.1)) (ap (λ v. box_in n v e.value) is ∙ a.2)

  level_here : (n : ℕ) (e : Element) (c : Option Certificate) → level_at doc n e ≡ Some c → FitsLevel doc n (node_at doc n).level c
  level_here n e c h =
      let a = and_some (λ v. level_in doc n v.level e.value) (slice_get doc.nodes n) c h in
      let is = node_here n a.0 a.1 in
      level_fits doc n (node_at doc n).level e.value c (ap (λ (v : Node). level_in doc n v.level e.value) is ∙ a.2)

  section_here : (n : ℕ) (e : Element) (s : Section) → section_at doc n e ≡ Some s → FitsSection s
  section_here n e s h = let a = and_some (λ v. sections_in v.id e.value) (slice_get doc.edges n) s h in sections_fit a.0.id e.value s a.2

  module _ (es : List Element) (nodes : doc.nodes ≡ nodes_of es) (ports : doc.ports ≡ ports_of es) (edges : doc.edges ≡ edges_of es) (p : Placed) (g : IsGiven doc es p) where
    node_count : length doc.nodes ≡ length (filter is_node es)
    node_count = ap (λ xs. length xs) nodes ∙ length-map (filter is_node es) (node_of es)

    port_count : length doc.ports ≡ length (filter is_port es)
    port_count = ap (λ xs. length xs) ports ∙ length-map (filter is_port es) (port_of es)

    edge_total : length doc.edges ≡ length (filter is_edge es)
    edge_total = ap (λ xs. length xs) edges ∙ length-map (filter is_edge es) (edge_of es)

    counts : HasCounts doc p
    counts = record {
      boxes = given_count (box_at doc) p.boxes (filter is_node es) g.boxes ∙ sym node_count;
      ports = given_count place_at p.ports (filter is_port es) g.ports ∙ sym port_count;
      sections = given_count (section_at doc) p.sections (filter is_edge es) g.sections ∙ sym edge_total;
      levels = given_count (level_at doc) p.levels (filter is_node es) g.levels ∙ sym node_count;
    }

    box_facts_of : (n : ℕ) → n < length doc.nodes → BoxFacts (node_at doc n) n (drawn_box p n)
    box_facts_of n lt =
        let count = counts.boxes in
        let there = given_at (box_at doc) no_rect p.boxes 0 (filter is_node es) g.boxes n (omega arith) in
        let same : 0 + n ≡ n = omega arith in
        facts_at n there.0 (drawn_box p n) (sym (ap (λ m. box_at doc m there.0) same) ∙ there.1)

    level_of_node : (n : ℕ) → n < length doc.nodes → FitsLevel doc n (node_at doc n).level (certificate_of p n)
    level_of_node n lt =
        let count = counts.levels in
        let there = given_at (level_at doc) None p.levels 0 (filter is_node es) g.levels n (omega arith) in
        let same : 0 + n ≡ n = omega arith in
        level_here n there.0 (certificate_of p n) (sym (ap (λ m. level_at doc m there.0) same) ∙ there.1)

    pub given_fits : Fits doc p
    given_fits = record {
      counts = counts;
      root = record { x = ((box_facts_of 0 sound.tree.root).root refl).0; y = ((box_facts_of 0 sound.tree.root).root refl).1 };
      range = record {
        boxes = all_given FitsBox (box_at doc) (λ n e r h. (facts_at n e r h).fits) p.boxes 0 (filter is_node es) g.boxes;
        ports = all_given IsNear place_at (λ n e x h. near e.value x h) p.ports 0 (filter is_port es) g.ports;
        sections = all_given FitsSection (section_at doc) section_here p.sections 0 (filter is_edge es) g.sections;
      };
      leaves = λ n lt none. record { width = (box_facts_of n lt).width none; height = (box_facts_of n lt).height none };
      certificates = level_of_node;
    }
