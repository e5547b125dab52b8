-- A drawing that the elements of a value give fits the document of the value.
use Rattle.std.proofs.Common.{◌≡◌, ◌≢◌, ℕ, zero, suc, ◌+◌, ◌<◌, ◌^◌, List, [], ◌∷◌, length, Bool, true, false, not, ◌&&◌, T, Option, Some, None, option_map, if◌then◌else◌, ℤ, pos, neg_ℤ, refl, sym, ap, ◌∙◌, subst, arith, eqb-true, All, ltb-true, leb-true, eq-eqb, ◌≤◌}
use Rattle.std.specs.Prelude.{option_and_then, int_le, ◌==◌, nat_lt, nat_le, codes, slice_index}
use Rattle.std.specs.List.{list_all}
use Rattle.std.specs.Int.Signed.{le_z_yes}
use Rattle.std.proofs.lemmas.Bool.{and_parts}
use Rattle.std.proofs.lemmas.List.Elements.{All-nil, All-cons}
use Rattle.serde_json.specs.Data.{Data, Items, no_items, item}
use Rattle.serde_json.specs.Find.{get, at, as_array}
use Rattle.drawing_types.specs.declared.shape.Point.{Point}
use Rattle.drawing_types.specs.declared.shape.Size.{Size}
use Rattle.elk_doc.specs.declared.document.Id.{Id}
use Rattle.elk_doc.specs.declared.document.LevelOptions.{LevelOptions}
use Rattle.drawing_types.specs.declared.section.Section.{Section}
use Rattle.elk_doc.specs.declared.drawing.Certificate.{Certificate}
use Rattle.elk_doc.specs.Document.{Document}
use Rattle.elk_doc.specs.Level.{level_of_edge, is_loop, is_edge_of}
use Rattle.drawing_types.specs.Ranges.{IsWithin}
use Rattle.elk_doc.specs.Fits.{FitsSection, FitsCertificate, IsAscending, MayBeListed, child_count, edge_count}
use Rattle.drawing_types.specs.Ranges.{IsNear}
use Rattle.elk_options.specs.Values.{if_within}
use Rattle.elk_write.specs.Reading.{coordinate_in, length_in, integer_in, point_in, size_in, all_in, list_in, bends_in, route_in, section_in, is_sole, sole_section_in, sections_in, counted, are_from, is_ascending, is_listable, are_listable, listable, flow_in, layers_in, parts_in, reversed_in, span_in, certificate_in, edge_named}
use Rattle.elk_write.proofs.Known.{not_true}

-- ---- values that are there

holds : (b : Bool) → b ≡ true → T b
holds b e = rw e tt

pub and_some : {A B : Type 0} (f : A → Option B) (o : Option A) (y : B) → option_and_then f o ≡ Some y → (x : A) × (o ≡ Some x) × (f x ≡ Some y)
and_some f None y e = let bad : None ≡ Some y = e in absurd (cc)
and_some f (Some x) y e = (x, refl, e)

pub map_some : {A B : Type 0} (f : A → B) (o : Option A) (y : B) → option_map f o ≡ Some y → (x : A) × (o ≡ Some x) × (f x ≡ y)
map_some f None y e = let bad : None ≡ Some y = e in absurd (cc)
map_some f (Some x) y e = let h : Some (f x) ≡ Some y = e in (x, refl, cc)

pub if_some : {A : Type 0} (b : Bool) (z y : A) → (if b then Some z else None) ≡ Some y → (b ≡ true) × (z ≡ y)
if_some true z y e = let h : Some z ≡ Some y = e in (refl, cc)
if_some false z y e = let bad : None ≡ Some y = e in absurd (cc)

-- ---- numbers and points

within : (low high z y : ℤ) → if_within low high z ≡ Some y → IsWithin low high y
within low high z y e =
    let h = if_some (int_le low z && int_le z high) z y e in
    let both = and_parts (int_le low z) (int_le z high) h.0 in
    subst (IsWithin low high) h.1 (record { above = le_z_yes (holds _ both.0); below = le_z_yes (holds _ both.1) })

bounded : (low high : ℤ) (key : List ℕ) (d : Data) (y : ℤ) → option_and_then (λ e. option_and_then (if_within low high) (integer_in e)) (get key d) ≡ Some y → IsWithin low high y
bounded low high key d y e =
    let a = and_some (λ e. option_and_then (if_within low high) (integer_in e)) (get key d) y e in
    let b = and_some (if_within low high) (integer_in a.0) y a.2 in
    within low high b.0 y b.2

pub near : (d : Data) (p : Point) → point_in d ≡ Some p → IsNear p
near d p e =
    let over = option_and_then coordinate_in (get (codes "y") d) in
    let a = and_some (λ x. option_map (λ y. record { x = x; y = y }) over) (option_and_then coordinate_in (get (codes "x") d)) p e in
    let b = map_some (λ y. record { x = a.0; y = y }) over p a.2 in
    subst IsNear b.2 (record {
      x = bounded (neg_ℤ (pos (2 ^ 53))) (pos (2 ^ 53)) (codes "x") d a.0 a.1;
      y = bounded (neg_ℤ (pos (2 ^ 53))) (pos (2 ^ 53)) (codes "y") d b.0 b.1;
    })

pub record FitsSize (s : Size) : Type 0 where
  pub width : IsWithin (pos 0) (pos (2 ^ 53)) s.width
  pub height : IsWithin (pos 0) (pos (2 ^ 53)) s.height

pub fits_size : (d : Data) (s : Size) → size_in d ≡ Some s → FitsSize s
fits_size d s e =
    let high = option_and_then length_in (get (codes "height") d) in
    let a = and_some (λ w. option_map (λ h. record { width = w; height = h }) high) (option_and_then length_in (get (codes "width") d)) s e in
    let b = map_some (λ h. record { width = a.0; height = h }) high s a.2 in
    subst FitsSize b.2 (record {
      width = bounded (pos 0) (pos (2 ^ 53)) (codes "width") d a.0 a.1;
      height = bounded (pos 0) (pos (2 ^ 53)) (codes "height") d b.0 b.1;
    })

-- ---- sections

all_near : (ds : Items) (ps : List Point) → all_in point_in ds ≡ Some ps → All IsNear ps
all_near no_items ps e = let none : [] ≡ ps = (let h : Some [] ≡ Some ps = e in cc) in subst (All IsNear) none (All-nil IsNear)
all_near (item d ds) ps e =
    let a = and_some (λ x. option_map (λ xs. x ∷ xs) (all_in point_in ds)) (point_in d) ps e in
    let b = map_some (λ xs. a.0 ∷ xs) (all_in point_in ds) ps a.2 in
    subst (All IsNear) b.2 (All-cons IsNear a.0 b.0 (near d a.0 a.1) (all_near ds b.0 b.1))

bends_near : (o : Option Data) (ps : List Point) → bends_in o ≡ Some ps → All IsNear ps
bends_near None ps e = let none : [] ≡ ps = (let h : Some [] ≡ Some ps = e in cc) in subst (All IsNear) none (All-nil IsNear)
bends_near (Some d) ps e = let a = and_some (all_in point_in) (as_array d) ps e in all_near a.0 ps a.2

point_near : (key : List ℕ) (d : Data) (p : Point) → option_and_then point_in (get key d) ≡ Some p → IsNear p
point_near key d p e = let a = and_some point_in (get key d) p e in near a.0 p a.2

route_fits : (d : Data) (s : Section) → route_in d ≡ Some s → FitsSection s
route_fits d s e =
    let last = option_and_then point_in (get (codes "endPoint") d) in
    let middle = bends_in (get (codes "bendPoints") d) in
    let a = and_some (λ a. option_and_then (λ bends. option_map (λ z. record { start = a; bends = bends; end = z }) last) middle) (option_and_then point_in (get (codes "startPoint") d)) s e in
    let b = and_some (λ bends. option_map (λ z. record { start = a.0; bends = bends; end = z }) last) middle s a.2 in
    let c = map_some (λ z. record { start = a.0; bends = b.0; end = z }) last s b.2 in
    subst FitsSection c.2 (record {
      start = point_near (codes "startPoint") d a.0 a.1;
      bends = bends_near (get (codes "bendPoints") d) b.0 b.1;
      end = point_near (codes "endPoint") d c.0 c.1;
    })

section_fits_if : (b : Bool) (d : Data) (s : Section) → (if b then route_in d else None) ≡ Some s → FitsSection s
section_fits_if true d s e = route_fits d s e
section_fits_if false d s e = let bad : None ≡ Some s = e in absurd (cc)

sole_if : (b : Bool) (id : Id) (o : Option Data) (s : Section) → (if b then option_and_then (section_in id) o else None) ≡ Some s → FitsSection s
sole_if true id o s e = let a = and_some (section_in id) o s e in section_fits_if _ a.0 s a.2
sole_if false id o s e = let bad : None ≡ Some s = e in absurd (cc)

pub sections_fit : (id : Id) (d : Data) (s : Section) → sections_in id d ≡ Some s → FitsSection s
sections_fit id d s e = let a = and_some (sole_section_in id) (get (codes "sections") d) s e in sole_if (is_sole a.0) id (at 0 a.0) s a.2

-- ---- certificates

counted_length : {A : Type 0} (n : ℕ) (o : Option (List A)) (ys : List A) → option_and_then (counted n) o ≡ Some ys → length ys ≡ n
counted_length n o ys e =
    let a = and_some (counted n) o ys e in
    let b = if_some (length a.0 == n) a.0 ys a.2 in
    subst (λ xs. length xs ≡ n) b.1 (eqb-true (length a.0) n b.0)

rising : (low : ℕ) (ns : List ℕ) → are_from low ns ≡ true → (i : ℕ) → i + 1 < length ns → slice_index ns i < slice_index ns (i + 1)
rising low (n ∷ m ∷ ms) h zero lt =
    let rest = (and_parts (nat_le low n) (are_from (n + 1) (m ∷ ms)) h).1 in
    let more : n + 1 ≤ m = leb-true (n + 1) m (and_parts (nat_le (n + 1) m) (are_from (m + 1) ms) rest).0 in
    omega arith
rising low (n ∷ m ∷ ms) h (suc i) lt =
    let at : suc (i + 1) ≡ suc i + 1 = omega arith in
    subst (λ k. slice_index (n ∷ m ∷ ms) (suc i) < slice_index (n ∷ m ∷ ms) k) at (rising (n + 1) (m ∷ ms) (and_parts (nat_le low n) (are_from (n + 1) (m ∷ ms)) h).1 i (omega arith))
rising low ns h i lt = absurd (omega arith)

ascending : (ns : List ℕ) → is_ascending ns ≡ true → IsAscending ns
ascending ns h i lt = rising 0 ns h i lt

different : (a b : ℕ) → (a == b) ≡ false → a ≢ b
different a b h e = let bad : true ≡ false = sym (eq-eqb a b e) ∙ h in absurd (cc)

may_list : (doc : Document) (n e : ℕ) → is_listable doc n e ≡ true → MayBeListed doc n e
may_list doc n e h =
    let a = and_parts (nat_lt e (length doc.edges) && is_edge_of doc n e) (not (is_loop doc e)) h in
    let b = and_parts (nat_lt e (length doc.edges)) (is_edge_of doc n e) a.0 in
    record { edge_in = ltb-true e (length doc.edges) b.0; of_level = eqb-true (level_of_edge doc e) n b.1; no_loop = different _ _ (not_true _ a.1) }

may_all : (doc : Document) (n : ℕ) (es : List ℕ) → list_all (is_listable doc n) es ≡ true → All (MayBeListed doc n) es
may_all doc n [] h = All-nil (MayBeListed doc n)
may_all doc n (e ∷ es) h =
    let both = and_parts (is_listable doc n e) (list_all (is_listable doc n) es) h in
    All-cons (MayBeListed doc n) e es (may_list doc n e both.0) (may_all doc n es both.1)

pub record IsListed (doc : Document) (n : ℕ) (es : List ℕ) : Type 0 where
  pub ascends : IsAscending es
  pub listed : All (MayBeListed doc n) es

reversed_listed : (doc : Document) (n : ℕ) (d : Data) (es : List ℕ) → reversed_in doc n d ≡ Some es → IsListed doc n es
reversed_listed doc n d es e =
    let a = and_some (listable doc n) (option_and_then (list_in (edge_named doc)) (get (codes "reversed") d)) es e in
    let b = if_some (are_listable doc n a.0) a.0 es a.2 in
    let c = and_parts (is_ascending a.0) (list_all (is_listable doc n) a.0) b.0 in
    subst (IsListed doc n) b.1 (record { ascends = ascending a.0 c.0; listed = may_all doc n a.0 c.1 })

parts_length : (doc : Document) (n : ℕ) (split : Bool) (d : Data) (ps : List ℕ) → parts_in doc n split d ≡ Some ps → length ps ≡ (if split then child_count doc n else 0)
parts_length doc n true d ps e = counted_length (child_count doc n) _ ps e
parts_length doc n false d ps e = let none : [] ≡ ps = (let h : Some [] ≡ Some ps = e in cc) in ap (λ xs. length xs) (sym none)

pub certificate_fits : (doc : Document) (n : ℕ) (o : LevelOptions) (d : Data) (c : Certificate) → certificate_in doc n o.split d ≡ Some c → FitsCertificate doc n o c
certificate_fits doc n o d c e =
    let layers = layers_in doc n d in
    let parts = parts_in doc n o.split d in
    let reversed = reversed_in doc n d in
    let span = span_in d in
    let f = and_some (λ f. option_and_then (λ l. option_and_then (λ p. option_and_then (λ r. option_map (λ s. record { layers = l; reversed = r; flow = f; span = s; parts = p }) span) reversed) parts) layers) (flow_in doc n d) c e in
    let l = and_some (λ l. option_and_then (λ p. option_and_then (λ r. option_map (λ s. record { layers = l; reversed = r; flow = f.0; span = s; parts = p }) span) reversed) parts) layers c f.2 in
    let p = and_some (λ p. option_and_then (λ r. option_map (λ s. record { layers = l.0; reversed = r; flow = f.0; span = s; parts = p }) span) reversed) parts c l.2 in
    let r = and_some (λ r. option_map (λ s. record { layers = l.0; reversed = r; flow = f.0; span = s; parts = p.0 }) span) reversed c p.2 in
    let s = map_some (λ s. record { layers = l.0; reversed = r.0; flow = f.0; span = s; parts = p.0 }) span c r.2 in
    let listed = reversed_listed doc n d r.0 r.1 in
    subst (FitsCertificate doc n o) s.2 (record {
      layers = counted_length (child_count doc n) _ l.0 l.1;
      flow = counted_length (edge_count doc n) _ f.0 f.1;
      parts = parts_length doc n o.split d p.0 p.1;
      ascending = listed.ascends;
      listed = listed.listed;
    })
