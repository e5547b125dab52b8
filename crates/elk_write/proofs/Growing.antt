-- A drawing grows by what one element after another gives.
use Rattle.std.proofs.Common.{◌≡◌, ℕ, zero, suc, ◌+◌, List, [], ◌∷◌, ◌++◌, length, map, take, filter, Bool, true, false, ◌||◌, cond, Option, Some, None, option_map, refl, sym, ap, ◌∙◌, subst, arith, append-nil}
use Rattle.std.specs.Prelude.{option_and_then, is_none, if◌then◌else◌}
use Rattle.std.proofs.lemmas.List.{length-map}
use Rattle.drawing_types.specs.declared.shape.Rect.{Rect}
use Rattle.elk_doc.specs.declared.drawing.Certificate.{Certificate}
use Rattle.elk_doc.specs.declared.drawing.Placed.{Placed}
use Rattle.elk_doc.specs.Document.{Document}
use Rattle.elk_json.specs.declared.elements.Kind.{Kind}
use Rattle.elk_json.specs.declared.elements.Kind.TheVariants as kind
use Rattle.elk_json.specs.Elements.{Element}
use Rattle.elk_json.specs.Members.{kind_is_node, kind_is_port, kind_is_edge, is_node, is_port, is_edge}
use Rattle.elk_json.specs.Document.{number_at}
use Rattle.elk_json.specs.Rules.{first_at}
use Rattle.elk_write.specs.declared.placing.Part.{Part}
use Rattle.elk_write.specs.declared.placing.Part.TheVariants as part
use Rattle.elk_write.specs.Placing.{box_at, level_at, place_at, section_at, given, IsGiven, given_part, part_boxes, part_levels, part_places, part_sections, lacks, of_kind, number_of, is_unplaced}
use Rattle.elk_write.proofs.Fitting.{and_some, map_some}
use Rattle.elk_write.proofs.Whole.{length_given}

-- ---- lists

filter_if : {A : Type 0} (b : Bool) (y : A) (f t g : List A) → g ≡ f ++ t → cond b (y ∷ g) g ≡ cond b (y ∷ f) f ++ t
filter_if true y f t g e = ap (λ zs. y ∷ zs) e
filter_if false y f t g e = e

pub filter_push : {A : Type 0} (test : A → Bool) (xs : List A) (x : A) → filter test (xs ++ x ∷ []) ≡ filter test xs ++ (if test x then x ∷ [] else [])
filter_push test [] x = refl
filter_push test (y ∷ xs) x = filter_if (test y) y (filter test xs) (if test x then x ∷ [] else []) (filter test (xs ++ x ∷ [])) (filter_push test xs x)

pub map_push : {A B : Type 0} (f : A → B) (xs ys : List A) → map f (xs ++ ys) ≡ map f xs ++ map f ys
map_push f [] ys = refl
map_push f (x ∷ xs) ys = ap (λ zs. f x ∷ zs) (map_push f xs ys)

pub map_front : {A B : Type 0} (f : A → B) (n : ℕ) (xs : List A) → take n (map f xs) ≡ map f (take n xs)
map_front f zero xs = refl
map_front f (suc n) [] = refl
map_front f (suc n) (x ∷ xs) = ap (λ ys. f x ∷ ys) (map_front f n xs)

module _ {A : Type 0} (read : ℕ → Element → Option A) where
  given_push : (n : ℕ) (es : List Element) (e : Element) → given read n (es ++ e ∷ []) ≡ given read n es ++ read (n + length es) e ∷ []
  given_push n [] e = let same : n ≡ n + 0 = omega arith in ap (λ m. read m e ∷ []) same
  given_push n (x ∷ es) e =
      let same : (n + 1) + length es ≡ n + suc (length es) = omega arith in
      ap (λ os. read n x ∷ os) (given_push (n + 1) es e) ∙ ap (λ m. read n x ∷ (given read (n + 1) es ++ read m e ∷ [])) same

  given_add : (b : Bool) (n : ℕ) (es : List Element) (e : Element) → given read n (es ++ (if b then e ∷ [] else [])) ≡ given read n es ++ (if b then read (n + length es) e ∷ [] else [])
  given_add true n es e = given_push n es e
  given_add false n es e = ap (given read n) (append-nil es) ∙ sym (append-nil (given read n es))

  same_if : (b : Bool) (m k : ℕ) (e : Element) → (b ≡ true → m ≡ k) → (if b then read m e ∷ [] else []) ≡ (if b then read k e ∷ [] else [])
  same_if true m k e h = ap (λ n. read n e ∷ []) (h refl)
  same_if false m k e h = refl

  pub grow : (test : Element → Bool) (old new adds : List A) (es : List Element) (e : Element) (m : ℕ)
      → map (λ x. Some x) old ≡ given read 0 (filter test es) → new ≡ old ++ adds
      → map (λ x. Some x) adds ≡ (if test e then read m e ∷ [] else []) → (test e ≡ true → m ≡ length (filter test es))
      → map (λ x. Some x) new ≡ given read 0 (filter test (es ++ e ∷ []))
  grow test old new adds es e m was is adds_are number =
      let at : test e ≡ true → m ≡ 0 + length (filter test es) = λ t. (let h = number t in omega arith) in
      ap (λ xs. map (λ x. Some x) xs) is
      ∙ map_push (λ x. Some x) old adds
      ∙ ap (λ os. os ++ map (λ x. Some x) adds) was
      ∙ ap (λ os. given read 0 (filter test es) ++ os) (adds_are ∙ same_if (test e) m (0 + length (filter test es)) e at)
      ∙ sym (given_add (test e) 0 (filter test es) e)
      ∙ ap (given read 0) (sym (filter_push test es e))

  pub count_of : (test : Element → Bool) (old : List A) (es : List Element) → map (λ x. Some x) old ≡ given read 0 (filter test es) → length old ≡ length (filter test es)
  count_of test old es h = sym (length-map old (λ x. Some x)) ∙ ap (λ os. length os) h ∙ length_given read 0 (filter test es)

-- ---- what a part adds

module _ (doc : Document) (n : ℕ) (e : Element) where
  node_parts : (p : Part) → given_part doc kind.Node n e ≡ Some p
      → (box : Rect) × (level : Option Certificate) × (box_at doc n e ≡ Some box) × (level_at doc n e ≡ Some level) × (part.Node box level ≡ p)
  node_parts p h =
      let a = and_some (λ box. option_map (λ level. part.Node box level) (level_at doc n e)) (box_at doc n e) p h in
      let b = map_some (λ level. part.Node a.0 level) (level_at doc n e) p a.2 in
      (a.0, b.0, a.1, b.1, b.2)

  pub adds_boxes : (k : Kind) (p : Part) → given_part doc k n e ≡ Some p → map (λ x. Some x) (part_boxes p) ≡ (if kind_is_node k then box_at doc n e ∷ [] else [])
  adds_boxes kind.Node p h = let a = node_parts p h in subst (λ q. map (λ x. Some x) (part_boxes q) ≡ box_at doc n e ∷ []) a.4 (ap (λ o. o ∷ []) (sym a.2))
  adds_boxes kind.Port p h = let a = map_some (λ at. part.Port at) (place_at n e) p h in subst (λ q. map (λ x. Some x) (part_boxes q) ≡ []) a.2 refl
  adds_boxes kind.Edge p h = let a = map_some (λ s. part.Edge s) (section_at doc n e) p h in subst (λ q. map (λ x. Some x) (part_boxes q) ≡ []) a.2 refl

  pub adds_levels : (k : Kind) (p : Part) → given_part doc k n e ≡ Some p → map (λ x. Some x) (part_levels p) ≡ (if kind_is_node k then level_at doc n e ∷ [] else [])
  adds_levels kind.Node p h = let a = node_parts p h in subst (λ q. map (λ x. Some x) (part_levels q) ≡ level_at doc n e ∷ []) a.4 (ap (λ o. o ∷ []) (sym a.3))
  adds_levels kind.Port p h = let a = map_some (λ at. part.Port at) (place_at n e) p h in subst (λ q. map (λ x. Some x) (part_levels q) ≡ []) a.2 refl
  adds_levels kind.Edge p h = let a = map_some (λ s. part.Edge s) (section_at doc n e) p h in subst (λ q. map (λ x. Some x) (part_levels q) ≡ []) a.2 refl

  pub adds_places : (k : Kind) (p : Part) → given_part doc k n e ≡ Some p → map (λ x. Some x) (part_places p) ≡ (if kind_is_port k then place_at n e ∷ [] else [])
  adds_places kind.Node p h = let a = node_parts p h in subst (λ q. map (λ x. Some x) (part_places q) ≡ []) a.4 refl
  adds_places kind.Port p h = let a = map_some (λ at. part.Port at) (place_at n e) p h in subst (λ q. map (λ x. Some x) (part_places q) ≡ place_at n e ∷ []) a.2 (ap (λ o. o ∷ []) (sym a.1))
  adds_places kind.Edge p h = let a = map_some (λ s. part.Edge s) (section_at doc n e) p h in subst (λ q. map (λ x. Some x) (part_places q) ≡ []) a.2 refl

  pub adds_sections : (k : Kind) (p : Part) → given_part doc k n e ≡ Some p → map (λ x. Some x) (part_sections p) ≡ (if kind_is_edge k then section_at doc n e ∷ [] else [])
  adds_sections kind.Node p h = let a = node_parts p h in subst (λ q. map (λ x. Some x) (part_sections q) ≡ []) a.4 refl
  adds_sections kind.Port p h = let a = map_some (λ at. part.Port at) (place_at n e) p h in subst (λ q. map (λ x. Some x) (part_sections q) ≡ []) a.2 refl
  adds_sections kind.Edge p h = let a = map_some (λ s. part.Edge s) (section_at doc n e) p h in subst (λ q. map (λ x. Some x) (part_sections q) ≡ section_at doc n e ∷ []) a.2 (ap (λ o. o ∷ []) (sym a.1))

  -- nothing is given exactly where a member is lacking
  lacks_both : {A B C : Type 0} (f : A → B → C) (a : Option A) (b : Option B) → (is_none a || is_none b) ≡ is_none (option_and_then (λ x. option_map (λ y. f x y) b) a)
  lacks_both f None b = refl
  lacks_both f (Some x) None = refl
  lacks_both f (Some x) (Some y) = refl

  lacks_one : {A C : Type 0} (f : A → C) (a : Option A) → is_none a ≡ is_none (option_map f a)
  lacks_one f None = refl
  lacks_one f (Some x) = refl

  pub lacks_part : (k : Kind) → lacks doc k n e ≡ is_none (given_part doc k n e)
  lacks_part kind.Node = lacks_both (λ box level. part.Node box level) (box_at doc n e) (level_at doc n e)
  lacks_part kind.Port = lacks_one (λ at. part.Port at) (place_at n e)
  lacks_part kind.Edge = lacks_one (λ s. part.Edge s) (section_at doc n e)

-- ---- numbers

pub kind_hit_node : (k : Kind) (a b c : ℕ) → kind_is_node k ≡ true → of_kind k a b c ≡ a
kind_hit_node kind.Node a b c h = refl
kind_hit_node k a b c h = absurd (cc)

pub kind_hit_port : (k : Kind) (a b c : ℕ) → kind_is_port k ≡ true → of_kind k a b c ≡ b
kind_hit_port kind.Port a b c h = refl
kind_hit_port k a b c h = absurd (cc)

pub kind_hit_edge : (k : Kind) (a b c : ℕ) → kind_is_edge k ≡ true → of_kind k a b c ≡ c
kind_hit_edge kind.Edge a b c h = refl
kind_hit_edge k a b c h = absurd (cc)

-- ---- the first element that lacks a member

first_step : (test : ℕ → Element → Bool) (b : Bool) (i : ℕ) (e : Element) (es : List Element) → test i e ≡ b → first_at test i (e ∷ es) ≡ (if b then Some e else first_at test (i + 1) es)
first_step test b i e es h = ap (λ c. if c then Some e else first_at test (i + 1) es) h

unplaced_by : (doc : Document) (es : List Element) (i m : ℕ) (e : Element) → m ≡ number_of e.kind es i → is_unplaced doc es i e ≡ is_none (given_part doc e.kind m e)
unfolding is_unplaced
unplaced_by doc es i m e number = ap (λ k. lacks doc e.kind k e) (sym number) ∙ lacks_part doc m e e.kind

pub first_passes : (doc : Document) (es : List Element) (i m : ℕ) (e : Element) (p : Part) (rest : List Element) → m ≡ number_of e.kind es i → given_part doc e.kind m e ≡ Some p
    → first_at (is_unplaced doc es) i (e ∷ rest) ≡ first_at (is_unplaced doc es) (i + 1) rest
first_passes doc es i m e p rest number h = first_step (is_unplaced doc es) false i e rest (unplaced_by doc es i m e number ∙ ap (λ o. is_none o) h)

pub first_stops : (doc : Document) (es : List Element) (i m : ℕ) (e : Element) (rest : List Element) → m ≡ number_of e.kind es i → given_part doc e.kind m e ≡ None
    → first_at (is_unplaced doc es) i (e ∷ rest) ≡ Some e
first_stops doc es i m e rest number h = first_step (is_unplaced doc es) true i e rest (unplaced_by doc es i m e number ∙ ap (λ o. is_none o) h)

-- ---- one element more

pub grown : (doc : Document) (es : List Element) (e : Element) (p : Placed) (q : Part) → IsGiven doc es p
    → given_part doc e.kind (of_kind e.kind (length p.boxes) (length p.ports) (length p.sections)) e ≡ Some q
    → IsGiven doc (es ++ e ∷ []) (record { boxes = p.boxes ++ part_boxes q; ports = p.ports ++ part_places q; sections = p.sections ++ part_sections q; levels = p.levels ++ part_levels q })
grown doc es e p q g h =
    let a = length p.boxes in
    let b = length p.ports in
    let c = length p.sections in
    let m = of_kind e.kind a b c in
    let node : kind_is_node e.kind ≡ true → m ≡ length (filter is_node es) = λ t. kind_hit_node e.kind a b c t ∙ count_of (box_at doc) is_node p.boxes es g.boxes in
    record {
      boxes = grow (box_at doc) is_node p.boxes (p.boxes ++ part_boxes q) (part_boxes q) es e m g.boxes refl (adds_boxes doc m e e.kind q h) node;
      levels = grow (level_at doc) is_node p.levels (p.levels ++ part_levels q) (part_levels q) es e m g.levels refl (adds_levels doc m e e.kind q h) node;
      ports = grow place_at is_port p.ports (p.ports ++ part_places q) (part_places q) es e m g.ports refl (adds_places doc m e e.kind q h) (λ t. kind_hit_port e.kind a b c t ∙ count_of place_at is_port p.ports es g.ports);
      sections = grow (section_at doc) is_edge p.sections (p.sections ++ part_sections q) (part_sections q) es e m g.sections refl (adds_sections doc m e e.kind q h) (λ t. kind_hit_edge e.kind a b c t ∙ count_of (section_at doc) is_edge p.sections es g.sections);
    }

pub number_is : (doc : Document) (all es : List Element) (i : ℕ) (k : Kind) (p : Placed) → take i all ≡ es → IsGiven doc es p
    → of_kind k (length p.boxes) (length p.ports) (length p.sections) ≡ number_of k all i
number_is doc all es i k p front g =
    let at = λ (test : Element → Bool). ap (λ xs. length (filter test xs)) (sym front) in
    ap (λ n. of_kind k n (length p.ports) (length p.sections)) (count_of (box_at doc) is_node p.boxes es g.boxes ∙ at is_node)
    ∙ ap (λ n. of_kind k (number_at is_node all i) n (length p.sections)) (count_of place_at is_port p.ports es g.ports ∙ at is_port)
    ∙ ap (λ n. of_kind k (number_at is_node all i) (number_at is_port all i) n) (count_of (section_at doc) is_edge p.sections es g.sections ∙ at is_edge)
