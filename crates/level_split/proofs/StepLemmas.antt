-- What the steps of a layout part by part add.
use Rattle.std.proofs.Common.{◌≡◌, ⊎_elim, inl, inr, ℕ, zero, suc, ◌+◌, ◌*◌, ◌<◌, ◌≤◌, ◌^◌, Bool, true, false, List, [], ◌∷◌, ◌++◌, Vec, length, get_or, slice_index, ℤ, refl, sym, ap, ◌∙◌, subst, arith, true≢false, eqb-true, ◌==◌}
use Rattle.std.specs.Global.{Global}
use Rattle.std.specs.List.{filter, range_with_len}
use Rattle.std.proofs.lemmas.Bool.{cases_Bool, cases_lt}
use Rattle.std.proofs.lemmas.List.{get_or-map, get_or_append_left, get_or_default, length-append, map_push}
use Rattle.std.proofs.Math.Seq.{get_or-append_seam}
use Rattle.elk_doc.specs.declared.drawing.Certificate.{Certificate}
use Rattle.drawing_types.specs.declared.section.Section.{Section}
use Rattle.drawing_types.specs.declared.shape.Size.{Size}
use Rattle.drawing_types.specs.Shapes.{no_size, origin}
use Rattle.box_pack.specs.Boxes.{size_at}
use Rattle.rotated_levels.specs.CertificateJoined.{spans_to}
use Rattle.rotated_levels.proofs.ListLemmas.{filter_alike}
use Rattle.level_draw.specs.declared.drawing.LevelOut.{LevelOut}
use Rattle.level_layout.specs.Layout.{IsLaidOut}
use Rattle.level_model.specs.FromPlan.{LevelDrawing, section_at}
use Rattle.level_model.specs.Level.{holds}
use Rattle.level_model.proofs.Lists.{Has, any_has, at_has, below_has, has_at}
use Rattle.network_parts.proofs.RangeLemmas.{filter_no, filter_yes}
use Rattle.level_parts.specs.declared.levels.PartLevel.{PartLevel}
use Rattle.level_parts.specs.declared.levels.PartLevels.{PartLevels}
use Rattle.level_parts.specs.Split.{part_at}
use Rattle.rotated_levels.proofs.EdgeLemmas.{has_holds}
use Rattle.level_split.specs.Gathered.{AreFlows, AreLayers, AreLayouts, AreMarked, AreReversals, certificate_at, drawing_at, drawing_of, is_marked, marks_in, no_certificate, no_drawing}
use Rattle.level_split.specs.Limits.{area_of, area_to}
use Rattle.level_split.specs.Steps.{CanCertify, IsCertificateIn}

-- ---- lists that grow by one element

-- what holds of each element by its number holds with one more
pushed : {X : Type 0} (P : ℕ → X → Type 0) (z : X) (old new : List X) (x : X) (i : ℕ) → length old ≡ i → new ≡ old ++ x ∷ [] → ((j : ℕ) → j < i → P j (get_or old j z)) → P i x
    → (j : ℕ) → j < i + 1 → P j (get_or new j z)
pushed P z old new x i many is before last j h =
    subst (λ xs. P j (get_or xs j z)) (sym is)
    (⊎_elim
    (λ (less : j < i). subst (P j) (sym (get_or_append_left old (x ∷ []) z j (omega (arith, less, many)))) (before j less))
    (λ (more : i ≤ j).
    let e : length old ≡ j = omega (arith, many, more, h) in
    subst (λ m. P m (get_or (old ++ x ∷ []) m z)) e
    (subst (P (length old)) (sym (get_or-append_seam old x [] z)) (subst (λ m. P m x) (sym many) last)))
    (cases_lt j i))

one_longer : {X : Type 0} (old new : List X) (x : X) (i : ℕ) → length old ≡ i → new ≡ old ++ x ∷ [] → length new ≡ i + 1
one_longer old new x i many is = ap length is ∙ length-append old (x ∷ []) ∙ ap (λ m. m + 1) many

-- ---- layouts

pub layouts_more : (parts : List PartLevel) (i : ℕ) (old new : List LevelOut) (v : LevelOut) → AreLayouts parts i old → new ≡ old ++ v ∷ [] → IsLaidOut (part_at parts i).level v → AreLayouts parts (i + 1) new
layouts_more parts i old new v are is last =
    record {
      as_many = one_longer old new v i are.as_many is;
      each = λ k z h. pushed (λ j (x : LevelOut). IsLaidOut (part_at parts j).level x) z old new v i are.as_many is (λ j less. are.each j z less) last k h;
    }

pub part_read : (parts : List PartLevel) (i : ℕ) (z : PartLevel) → i < length parts → get_or parts i z ≡ part_at parts i
part_read parts i z h = get_or_default parts i _ _ h

-- ---- what is read of a layout

pub certificate_read : (outs : List LevelOut) (k : ℕ) (z : LevelOut) → k < length outs → (get_or outs k z).certificate ≡ certificate_at outs k
certificate_read outs k z h = sym (get_or-map (λ (v : LevelOut). v.certificate) outs k z no_certificate h)

pub drawing_read : (outs : List LevelOut) (k : ℕ) (z : LevelOut) → k < length outs → drawing_of (get_or outs k z) ≡ drawing_at outs k
drawing_read outs k z h = sym (get_or-map drawing_of outs k z no_drawing h)

abbrev blank : Section
blank = record { start = origin; bends = []; end = origin }

pub section_read : (outs : List LevelOut) (k i : ℕ) (z : LevelOut) (sections : List Section) (s : Section) → k < length outs → sections ≡ (get_or outs k z).sections → i < length (drawing_at outs k).sections → s ≡ get_or sections i s
    → section_at (drawing_at outs k) i ≡ s
section_read outs k i z sections s h are there is =
    let same : (drawing_at outs k).sections ≡ sections = ap (λ (d : LevelDrawing). d.sections) (sym (drawing_read outs k z h)) ∙ sym are in
    ap (λ (ss : List Section). get_or ss i blank) same ∙ get_or_default sections i blank s (subst (λ (ss : List Section). i < length ss) same there) ∙ sym is

-- ---- spans

pub spans_none : (own : ℕ → Certificate) → spans_to own 0 ≡ 0
unfolding spans_to
spans_none own = refl

spans_next : (own : ℕ → Certificate) (n : ℕ) → spans_to own (suc n) ≡ spans_to own n + (own n).span
unfolding spans_to
spans_next own n = refl

spans_up : (own : ℕ → Certificate) (n k : ℕ) → spans_to own n ≤ spans_to own (k + n)
spans_up own n zero = let e : 0 + n ≡ n = omega arith in let same = ap (spans_to own) e in omega (arith, same)
spans_up own n (suc k) =
    let rest = spans_up own n k in
    let next = spans_next own (k + n) in
    let e : suc k + n ≡ suc (k + n) = omega arith in
    let same = ap (spans_to own) e in
    omega (arith, rest, next, same)

pub span_more : (outs : List LevelOut) (i total : ℕ) (z : LevelOut) → i < length outs → total ≡ spans_to (certificate_at outs) i → total + (get_or outs i z).certificate.span ≡ spans_to (certificate_at outs) (i + 1)
span_more outs i total z h is =
    let read = ap (λ (c : Certificate). c.span) (certificate_read outs i z h) in
    let next = spans_next (certificate_at outs) i in
    let e : i + 1 ≡ suc i = omega arith in
    let same = ap (spans_to (certificate_at outs)) e in
    omega (arith, is, read, next, same)

pub span_fits : (outs : List LevelOut) (i total : ℕ) (z : LevelOut) → i < length outs → total ≡ spans_to (certificate_at outs) i → spans_to (certificate_at outs) (length outs) < 2 ^ 64 → total + (get_or outs i z).certificate.span < 2 ^ 64
span_fits outs i total z h is low =
    let more = span_more outs i total z h is in
    by (length outs) (minus (i + 1) (length outs) (omega (arith, h))) more low
  where
    minus : (a b : ℕ) → a ≤ b → (k : ℕ) × (k + a ≡ b)
    minus zero b h = (b, omega arith)
    minus (suc a) zero h = absurd (omega (arith, h))
    minus (suc a) (suc b) h = let rest = minus a b (omega (arith, h)) in let e = rest.1 in (rest.0, omega (arith, e))

    by : (n : ℕ) → (k : ℕ) × (k + (i + 1) ≡ n) → total + (get_or outs i z).certificate.span ≡ spans_to (certificate_at outs) (i + 1) → spans_to (certificate_at outs) n < 2 ^ 64 → total + (get_or outs i z).certificate.span < 2 ^ 64
    by n (k, e) more low =
        let up = spans_up (certificate_at outs) (i + 1) k in
        let same = ap (spans_to (certificate_at outs)) e in
        omega (arith, more, low, up, same)

-- ---- areas

pub area_none : (sizes : List Size) (gap : ℤ) → area_to sizes gap 0 ≡ 0
unfolding area_to
area_none sizes gap = refl

area_next : (sizes : List Size) (gap : ℤ) (n : ℕ) → area_to sizes gap (suc n) ≡ area_to sizes gap n + area_of (size_at sizes n) gap
unfolding area_to
area_next sizes gap n = refl

pub area_more : (sizes : List Size) (gap : ℤ) (n total more : ℕ) (z : Size) → n < length sizes → (total ≡ area_to sizes gap n) × (total ≤ n * 2 ^ 98) → more ≡ area_of (get_or sizes n z) gap → more ≤ 2 ^ 98
    → (total + more ≡ area_to sizes gap (n + 1)) × (total + more ≤ (n + 1) * 2 ^ 98)
area_more sizes gap n total more z h before is low =
    let read : area_of (get_or sizes n z) gap ≡ area_of (size_at sizes n) gap = ap (λ s. area_of s gap) (get_or_default sizes n z no_size h) in
    let next = area_next sizes gap n in
    let e : n + 1 ≡ suc n = omega arith in
    let same = ap (area_to sizes gap) e in
    let first = before.0 in
    let second = before.1 in
    (ap (λ t. t + more) first ∙ ap (λ m. area_to sizes gap n + m) (is ∙ read) ∙ sym next ∙ sym same, omega (arith, second, low))

-- ---- marks

holds_has : (xs : List ℕ) (x : ℕ) → holds xs x ≡ true → Has xs x
holds_has xs x h = let f = any_has (λ m. m == x) xs h in subst (λ y. Has xs y) (eqb-true f.0 x f.2) f.1

mark_held : (listed : List ℕ) (count : ℕ) (marks : List Bool) → AreMarked listed count (length listed) marks → (q : ℕ) → q < count → get_or marks q false ≡ holds listed q
mark_held listed count marks are q h =
    elim (cases_Bool (get_or marks q false)) [
      | inl on ↦
          (let found = are.found q h on in
          on ∙ sym (has_holds listed q (subst (λ x. Has listed x) found.2 (has_at listed found.0 0 found.1))))
      | inr off ↦
          elim (cases_Bool (holds listed q)) [
            | inl held ↦
                (let at = at_has listed 0 q (holds_has listed q held) in
                absurd (true≢false (sym (are.held q h at.0 at.1 at.2) ∙ off)))
            | inr none ↦ off ∙ sym none
          ]
    ]

pub rotated_more : (outs : List LevelOut) (many : ℕ → ℕ) (i : ℕ) (old new : List (Vec Bool Global)) (m : Vec Bool Global) (listed : List ℕ) (count : ℕ) → AreReversals outs many i (marks_in old) → new ≡ old ++ m ∷ []
    → listed ≡ (certificate_at outs i).reversed → count ≡ many i → AreMarked listed count (length listed) m.items → AreReversals outs many (i + 1) (marks_in new)
rotated_more outs many i old new m listed count are is same_list same_count marked =
    let all : marks_in new ≡ marks_in old ++ m.items ∷ [] = ap marks_in is ∙ map_push (λ (r : Vec Bool Global). r.items) old m in
    record {
      as_many = one_longer (marks_in old) (marks_in new) m.items i are.as_many all;
      long = pushed (λ j (xs : List Bool). length xs ≡ many j) [] (marks_in old) (marks_in new) m.items i are.as_many all are.long (marked.as_many ∙ same_count);
      each = λ k q h less. pushed (λ j (xs : List Bool). (p : ℕ) → p < many j → get_or xs p false ≡ holds (certificate_at outs j).reversed p) [] (marks_in old) (marks_in new) m.items i are.as_many all
          (λ j low p there. are.each j p low there)
          (λ p there. mark_held listed count m.items marked p (subst (λ n. p < n) (sym same_count) there) ∙ ap (λ (xs : List ℕ). holds xs p) same_list) k h q less;
    }

pub mark_read : (marks : List (Vec Bool Global)) (parts places : List ℕ) (i : ℕ) (row : Vec Bool Global) (b : Bool) → slice_index parts i < length marks → slice_index places i < length (get_or (marks_in marks) (slice_index parts i) [])
    → row ≡ get_or marks (slice_index parts i) row → b ≡ get_or row.items (slice_index places i) b → b ≡ is_marked (marks_in marks) parts places i
mark_read marks parts places i row b h there is at =
    let k = slice_index parts i in
    let same : row.items ≡ get_or (marks_in marks) k [] = ap (λ (r : Vec Bool Global). r.items) is ∙ sym (get_or-map (λ (r : Vec Bool Global). r.items) marks k row [] h) in
    at ∙ get_or_default row.items (slice_index places i) _ _ (subst (λ (xs : List Bool). slice_index places i < length xs) (sym same) there) ∙ ap (λ (xs : List Bool). get_or xs (slice_index places i) false) same

pub reversed_yes : (test : ℕ → Bool) (i : ℕ) (old new : List ℕ) → old ≡ filter test (range_with_len 0 i) → test i ≡ true → new ≡ old ++ i ∷ [] → new ≡ filter test (range_with_len 0 (i + 1))
reversed_yes test i old new before on is = is ∙ ap (λ xs. xs ++ i ∷ []) before ∙ sym (filter_yes test i on)

pub reversed_no : (test : ℕ → Bool) (i : ℕ) (old : List ℕ) → old ≡ filter test (range_with_len 0 i) → test i ≡ false → old ≡ filter test (range_with_len 0 (i + 1))
reversed_no test i old before off = before ∙ sym (filter_no test i off)

-- ---- the certificate

module _ (split : PartLevels) (outs : List LevelOut) (can : CanCertify split outs) (marks : List (List Bool)) (is_reversed : AreReversals outs (λ k. length (part_at split.parts k).edges) (length split.parts) marks) where
  abbrev parts : List ℕ
  parts = split.edges.parts

  abbrev places : List ℕ
  places = split.edges.places

  marked : (e : ℕ) → e < length parts → is_marked marks parts places e ≡ holds (certificate_at outs (slice_index parts e)).reversed (slice_index places e)
  marked e h = is_reversed.each (slice_index parts e) (slice_index places e) (subst (λ n. slice_index parts e < n) can.as_many (can.edges.part e h)) (can.edges.place e h)

  pub certificate_in : (layers flow reversed numbers : List ℕ) (span : ℕ) → AreLayers outs split.children.parts split.children.places (length split.children.parts) layers → AreFlows outs parts places (length parts) flow
      → reversed ≡ filter (is_marked marks parts places) (range_with_len 0 (length parts)) → span ≡ spans_to (certificate_at outs) (length outs) → numbers ≡ split.children.parts
      → IsCertificateIn split outs (record { layers = layers; reversed = reversed; flow = flow; span = span; parts = numbers })
  certificate_in layers flow reversed numbers span are flows is total same =
      record {
        layers = are;
        flow = flows;
        reversed = is
            ∙ filter_alike (is_marked marks parts places) (λ e. holds (certificate_at outs (slice_index parts e)).reversed (slice_index places e)) (range_with_len 0 (length parts)) (λ e has. marked e (below_has (length parts) e has));
        span = total;
        parts = same;
      }
