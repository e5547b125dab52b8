-- An edge of a level and the edge of the document that it stands for.
use Rattle.std.proofs.Common.{◌≡◌, ℕ, ◌<◌, inl, inr, Bool, true, false, not, cond, eqb, ◌||◌, List, [], ◌∷◌, map, length, Contains, refl, sym, ap, ap₂, ◌∙◌, subst, arith, eqb-true, eq-eqb, zero-add}
use Rattle.std.specs.List.{list_any, range_with_len}
use Rattle.std.proofs.lemmas.Bool.{not-false, not_from_false}
use Rattle.elk_doc.specs.declared.document.End.{End}
use Rattle.elk_doc.specs.declared.document.LevelOptions.{LevelOptions}
use Rattle.elk_doc.specs.declared.drawing.Certificate.{Certificate}
use Rattle.elk_doc.specs.declared.drawing.Placed.{Placed}
use Rattle.elk_doc.specs.Document.{Document, edge_at}
use Rattle.elk_doc.specs.Drawing.{certificate_of, lists, is_listed, tail_node, head_node}
use Rattle.elk_doc.specs.Level.{edges_of, IsChild, IsEdge, is_edge_of, is_loop, level_of_edge, node_of_end, place_of_child, place_of_edge, source_node, target_node}
use Rattle.elk_doc.specs.Numbers.{sum_below}
use Rattle.elk_doc.specs.Sound.{IsSound}
use Rattle.level_model.specs.Level as plan
use Rattle.level_layout.specs.Certificate.{links, network_edge, source_of, target_of}
use Rattle.level_model.proofs.Lists.{Has, has_filter, filter_has, has_at, at_has, has_range, below_has, has_any}
use Rattle.working_frame.specs.Rotated.{edge_number, level_of, spoke_of}
use Rattle.working_frame.proofs.NumberedLemmas.{numbers_match, ends_match, levels_are_listed, eqb_iff}
use Rattle.rotated_levels.specs.Certified.{IsCertified}
use Rattle.rotated_levels.proofs.SumLemmas.{total, sum_listed, total_range, total_filter}

-- ---- lists of names

-- a name that no other number of a list has is in the list of names where its number is in the list
named : (f : ℕ → ℕ) (i : ℕ) (ns : List ℕ) → ((m : ℕ) → Has ns m → f m ≡ f i → m ≡ i)
    → list_any (λ x. eqb x (f i)) (map f ns) ≡ list_any (λ m. eqb m i) ns
named f i [] own = refl
named f i (n ∷ ns) own =
    ap₂ (λ b c. b || c) (eqb_iff (f n) (f i) n i (own n (inl refl)) (λ same. ap f same)) (named f i ns (λ m h. own m (inr h)))

pub contains_has : (xs : List ℕ) (x : ℕ) → Contains xs x → Has xs x
contains_has xs x h = subst (λ y. Has xs y) h.2 (has_at xs h.0 x h.1)

pub has_contains : (xs : List ℕ) (x : ℕ) → Has xs x → Contains xs x
has_contains xs x h = at_has xs x x h

pub has_holds : (xs : List ℕ) (x : ℕ) → Has xs x → plan.holds xs x ≡ true
has_holds xs x h = has_any (λ m. eqb m x) xs x h (eq-eqb x x refl)

-- ---- edges

-- each edge of a level, by its number there
pub by_number : (d : Document) (n : ℕ) (P : ℕ → Type 0) → ((i : ℕ) → i < length (edges_of d n) → P (edge_number d n i)) → (e : ℕ) → IsEdge d n e → P e
by_number d n P each e h =
    let m = (numbers_match d n).edges in subst P (m.found e h) (each (place_of_edge d n e) (m.place_in e h))

pub same_edge : (d : Document) (n i j : ℕ) → i < length (edges_of d n) → j < length (edges_of d n) → edge_number d n i ≡ edge_number d n j → i ≡ j
same_edge d n i j h k e =
    let m = (numbers_match d n).edges in sym (m.place_at i h) ∙ ap (place_of_edge d n) e ∙ m.place_at j k

rotated_end : (d : Document) (n : ℕ) (b : Bool) (x y : End) → ((z : End) → (spoke_of d n z).child ≡ place_of_child d n (node_of_end d z))
    → cond b (spoke_of d n x).child (spoke_of d n y).child ≡ place_of_child d n (node_of_end d (cond b x y))
rotated_end d n true x y spoke = spoke x
rotated_end d n false x y spoke = spoke y

rotated_child : (d : Document) (n : ℕ) (b : Bool) (x y : End) → IsChild d n (node_of_end d x) → IsChild d n (node_of_end d y) → IsChild d n (node_of_end d (cond b x y))
rotated_child d n true x y hx hy = hx
rotated_child d n false x y hx hy = hy

rotated_same : (d : Document) (b : Bool) (x y : End) → node_of_end d x ≡ node_of_end d y → node_of_end d (cond b y x) ≡ node_of_end d (cond b x y)
rotated_same d true x y e = sym e
rotated_same d false x y e = e

-- what the i-th edge of the level of n has in common with the document's edge e
pub record IsEdgeAt (d : Document) (p : Placed) (n : ℕ) (o : LevelOptions) (made : Certificate) (i e : ℕ) : Type 0 where
  pub edge : IsEdge d n e
  pub is_reversed : is_listed d p e ≡ plan.holds made.reversed i
  pub source : source_of (level_of d p n o) i ≡ place_of_child d n (source_node d e)
  pub target : target_of (level_of d p n o) i ≡ place_of_child d n (target_node d e)
  pub tail : (network_edge (level_of d p n o) made.reversed i).tail ≡ place_of_child d n (tail_node d p e)
  pub head : (network_edge (level_of d p n o) made.reversed i).head ≡ place_of_child d n (head_node d p e)
  pub weight : (network_edge (level_of d p n o) made.reversed i).weight ≡ (edge_at d e).weight
  pub source_child : IsChild d n (source_node d e)
  pub target_child : IsChild d n (target_node d e)
  pub tail_child : IsChild d n (tail_node d p e)
  pub head_child : IsChild d n (head_node d p e)
  pub loop : plan.is_loop (level_of d p n o) i ≡ is_loop d e
  pub loop_ends : is_loop d e ≡ true → head_node d p e ≡ tail_node d p e

-- a listed number is that of an edge
pub listed_in : (d : Document) (p : Placed) (n : ℕ) (o : LevelOptions) (made written : Certificate) → IsCertified d p n o made written
    → (i : ℕ) → plan.holds made.reversed i ≡ true → i < length (edges_of d n)
listed_in d p n o made written c i h =
    subst (λ m. i < m) (levels_are_listed d p n o).edge_count (c.of_level.reversed.closes i h).of_level

rotated_as : (d : Document) (p : Placed) (n : ℕ) (o : LevelOptions) (made written : Certificate) → IsCertified d p n o made written
    → (i : ℕ) → i < length (edges_of d n) → is_listed d p (edge_number d n i) ≡ plan.holds made.reversed i
rotated_as d p n o made written c i h =
    let e = edge_number d n i in
    let level : level_of_edge d e ≡ n = eqb-true _ _ ((numbers_match d n).edges.meant i h).edge in
    ap (λ m. lists (certificate_of p m) e) level
    ∙ ap (λ x. lists x e) c.is_written
    ∙ ap (λ (xs : List ℕ). list_any (λ x. eqb x e) xs) c.numbered.reversed
    ∙ named (edge_number d n) i made.reversed
    (λ m k same. same_edge d n m i (listed_in d p n o made written c m (has_holds made.reversed m k)) h same)

pub edge_known : (d : Document) (p : Placed) (n : ℕ) (o : LevelOptions) (made written : Certificate) → IsSound d → IsCertified d p n o made written
    → (i : ℕ) → i < length (edges_of d n) → IsEdgeAt d p n o made i (edge_number d n i)
edge_known d p n o made written s c i h =
    let e = edge_number d n i in
    let there = (numbers_match d n).edges.meant i h in
    let ends = ends_match d n e s there in
    let l = levels_are_listed d p n o in
    let is = l.edge i h in
    let rotate = rotated_as d p n o made written c i h in
    let b = plan.holds made.reversed i in
    let x = (edge_at d e).source in
    let y = (edge_at d e).target in
    record {
      edge = there;
      is_reversed = rotate;
      source = ap (λ z. z.source.child) is ∙ ends.spoke x;
      target = ap (λ z. z.target.child) is ∙ ends.spoke y;
      tail = ap (λ z. cond b z.target.child z.source.child) is ∙ rotated_end d n b y x ends.spoke ∙ ap (λ t. place_of_child d n (node_of_end d (cond t y x))) (sym rotate);
      head = ap (λ z. cond b z.source.child z.target.child) is ∙ rotated_end d n b x y ends.spoke ∙ ap (λ t. place_of_child d n (node_of_end d (cond t x y))) (sym rotate);
      weight = ap (λ z. z.weight) is;
      source_child = ends.source;
      target_child = ends.target;
      tail_child = rotated_child d n (is_listed d p e) y x ends.target ends.source;
      head_child = rotated_child d n (is_listed d p e) x y ends.source ends.target;
      loop = l.loop i s h;
      loop_ends = λ loop. rotated_same d (is_listed d p e) y x (sym (eqb-true _ _ loop));
    }

-- ---- the links of a level

pub link_in : (d : Document) (p : Placed) (n : ℕ) (o : LevelOptions) (i : ℕ) → Has (links (level_of d p n o)) i
    → (i < length (edges_of d n)) × (plan.is_loop (level_of d p n o) i ≡ false)
link_in d p n o i h =
    let l = level_of d p n o in
    let f = filter_has (λ e. not (plan.is_loop l e)) (range_with_len 0 (length l.edges)) i h in
    (subst (λ m. i < m) (levels_are_listed d p n o).edge_count (below_has (length l.edges) i f.0), true_not (plan.is_loop l i) f.1)
  where
    true_not : (b : Bool) → not b ≡ true → b ≡ false
    true_not true e = absurd cc
    true_not false e = refl

pub in_links : (d : Document) (p : Placed) (n : ℕ) (o : LevelOptions) (i : ℕ) → i < length (edges_of d n) → plan.is_loop (level_of d p n o) i ≡ false
    → Has (links (level_of d p n o)) i
in_links d p n o i h e =
    let l = level_of d p n o in
    let inside : i < length l.edges = subst (λ m. i < m) (sym (levels_are_listed d p n o).edge_count) h in
    has_filter (λ k. not (plan.is_loop l k)) (range_with_len 0 (length l.edges)) i (has_range 0 (length l.edges) i (omega arith) (omega (arith, inside))) (not_from_false (plan.is_loop l i) e)

-- a sum over the edges of a level, to which self-loops add nothing, is one over its links
pub sum_over_links : (d : Document) (p : Placed) (n : ℕ) (o : LevelOptions) (f : ℕ → ℕ)
    → ((i : ℕ) → i < length (edges_of d n) → plan.is_loop (level_of d p n o) i ≡ true → f (edge_number d n i) ≡ 0)
    → sum_below (is_edge_of d n) f (length d.edges) ≡ total (λ i. f (edge_number d n i)) (links (level_of d p n o))
sum_over_links d p n o f none =
    let l = level_of d p n o in
    let count = (levels_are_listed d p n o).edge_count in
    let g : ℕ → ℕ = λ i. f (edge_number d n i) in
    sum_listed (is_edge_of d n) f (length d.edges)
    ∙ total_range f g (edges_of d n) 0 (λ j h. ap g (sym (zero-add j)))
    ∙ ap (λ m. total g (range_with_len 0 m)) (sym count)
    ∙ total_filter (λ e. not (plan.is_loop l e)) g (range_with_len 0 (length l.edges))
    (λ i h e. none i (subst (λ m. i < m) count (below_has (length l.edges) i h)) (not-false (plan.is_loop l i) e))
