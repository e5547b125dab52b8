-- Children, edges and ports stand at their places.
use Rattle.std.proofs.Common.{◌≡◌, ℕ, zero, suc, ◌+◌, ◌<◌, ◌≤◌, ⊎_elim, Bool, true, false, [], ◌∷◌, length, length-append, get_or, eqb, Option, Some, None, IsSome, IsTrue, unwrap_or, refl, sym, ap, ◌∙◌, subst, arith, rules, eqb-true, eq-eqb, ne_eqb}
use Rattle.std.proofs.lemmas.Bool.{cases_lt, cases_Bool, cases_eq}
use Rattle.std.proofs.lemmas.List.{get_or_push, get_or-map, length-map}
use Rattle.std.proofs.Math.ListN.{get_or-append}
use Rattle.elk_doc.specs.declared.document.End.{End}
use Rattle.elk_doc.specs.declared.document.End.TheVariants.{Node as AtNode, Port as AtPort}
use Rattle.elk_doc.specs.declared.document.LevelOptions.{LevelOptions}
use Rattle.elk_doc.specs.declared.drawing.Placed.{Placed}
use Rattle.elk_doc.specs.Document.{Document, edge_at, parent_of}
use Rattle.elk_doc.specs.Level.{is_child, is_number, is_edge_of, children, edges_of, IsChild, IsEdge, place_of_child, place_of_edge, node_of_end, source_node, target_node, is_loop}
use Rattle.elk_doc.specs.Numbers.{numbers_below, count_below}
use Rattle.elk_doc.specs.Sound.{IsSound}
use Rattle.elk_doc.proofs.NumberLaws.{is_true, numbers_below-more, numbers_below-same, length-numbers_below, count_below-lt, numbers_below-at}
use Rattle.elk_doc.proofs.SoundLaws.{node_of_end-in}
use Rattle.level_model.specs.Level as plan
use Rattle.working_frame.specs.Rotated.{child_number, edge_number, ports_of, is_port_of, place_of_port, box_size, level_port, level_child, level_edge, level_of, spoke_of}
use Rattle.working_frame.specs.Numbered.{AreNumbersOf, IsPortOf, NumbersMatch, IsListed, EndsMatch}

-- a number of the list is below the bound, passes, and stands at the count of those before it
pub record Stands (p : ℕ → Bool) (m i x : ℕ) : Type 0 where
  pub below : x < m
  pub passes : p x ≡ true
  pub counted : count_below p x ≡ i

higher : (p : ℕ → Bool) (m i x : ℕ) → Stands p m i x → Stands p (suc m) i x
higher p m i x h = record { below = omega (arith, h.below); passes = h.passes; counted = h.counted }

pub stands : (p : ℕ → Bool) (m i : ℕ) → i < length (numbers_below p m) → Stands p m i (get_or (numbers_below p m) i 0)
unfolding numbers_below
stands p zero i h = absurd (omega (arith, h))
stands p (suc m) i h =
    ⊎_elim
    (λ t. let more = numbers_below-more p m t in
    let longer : length (numbers_below p (suc m)) ≡ length (numbers_below p m) + 1 = rw more (length-append (numbers_below p m) (m ∷ [])) in
    ⊎_elim
    (λ early. rw (more, get_or-append (numbers_below p m) (m ∷ []) 0 i early) (higher p m i _ (stands p m i early)))
    (λ (late : length (numbers_below p m) ≤ i). let last : length (numbers_below p m) ≡ i = omega (arith, late, longer, h) in
    rw (more, get_or_push (numbers_below p m) m 0 i last) (record { below = omega arith; passes = t; counted = sym (length-numbers_below p m) ∙ last }))
    (cases_lt i (length (numbers_below p m))))
    (λ f. let same = numbers_below-same p m f in
    let k : i < length (numbers_below p m) = subst (λ xs. i < length xs) same h in
    rw same (higher p m i _ (stands p m i k)))
    (cases_Bool (p m))

true_is : (b : Bool) → b ≡ true → IsTrue b
true_is true h = search rules
true_is false h = absurd cc

-- the list of the numbers below a bound that pass
numbered : (p : ℕ → Bool) (m : ℕ) (Meant : ℕ → Type 0) (place : ℕ → ℕ)
    → ((x : ℕ) → x < m → p x ≡ true → Meant x × (place x ≡ count_below p x))
    → ((x : ℕ) → Meant x → (x < m) × (p x ≡ true))
    → AreNumbersOf Meant place (numbers_below p m)
numbered p m Meant place to from =
    record {
      meant = λ i h. let s = stands p m i h in (to _ s.below s.passes).0;
      place_at = λ i h. let s = stands p m i h in (to _ s.below s.passes).1 ∙ s.counted;
      place_in = λ x h. let f = from x h in let t = to x f.0 f.1 in rw (t.1, length-numbers_below p m) (count_below-lt p x m f.0 f.1);
      found = λ x h. let f = from x h in let t = to x f.0 f.1 in rw t.1 (numbers_below-at p x m 0 f.0 f.1);
    }

pub numbers_match : (d : Document) (n : ℕ) → NumbersMatch d n
numbers_match d n =
    record {
      children = numbered (is_child d n) (length d.nodes) (IsChild d n) (place_of_child d n)
          (λ x h e. (record { node_in = h; child = true_is _ e }, refl))
          (λ x c. (c.node_in, is_true _ c.child));
      edges = numbered (is_edge_of d n) (length d.edges) (IsEdge d n) (place_of_edge d n)
          (λ x h e. (record { edge_in = h; edge = true_is _ e }, refl))
          (λ x c. (c.edge_in, is_true _ c.edge));
      ports = numbered (is_port_of d n) (length d.ports) (IsPortOf d n) (place_of_port d)
          (λ x h e. let same = eqb-true _ _ e in (record { port_in = h; of_node = same }, ap (λ m. count_below (is_port_of d m) x) same))
          (λ x c. (c.port_in, eq-eqb _ _ c.of_node));
    }

-- ends of edges

spoke_child : (d : Document) (n : ℕ) (x : End) → (spoke_of d n x).child ≡ place_of_child d n (node_of_end d x)
spoke_child d n (AtNode c) = refl
spoke_child d n (AtPort k) = refl

given_parent : (o : Option ℕ) (n : ℕ) → IsSome o → unwrap_or o 0 ≡ n → IsTrue (is_number o n)
given_parent None n h e = absurd (search rules)
given_parent (Some m) n h e = true_is _ (eq-eqb m n e)

below_root : (d : Document) (n c : ℕ) → IsSound d → 0 < c → c < length d.nodes → parent_of d c ≡ n → IsChild d n c
below_root d n c s above h e =
    record { node_in = h; child = given_parent _ n (s.tree.parents c above h).parent e }

pub ends_match : (d : Document) (n e : ℕ) → IsSound d → IsEdge d n e → EndsMatch d n e
ends_match d n e s h =
    let sound = s.edges e h.edge_in in
    let level : parent_of d (source_node d e) ≡ n = eqb-true _ _ (is_true _ h.edge) in
    record {
      source = below_root d n (source_node d e) s sound.source_below (node_of_end-in d _ s sound.source_in) level;
      target = below_root d n (target_node d e) s sound.target_below (node_of_end-in d _ s sound.target_in) (sym sound.siblings ∙ level);
      spoke = spoke_child d n;
    }

-- the parts of a level

pub eqb_iff : (a b c e : ℕ) → (a ≡ b → c ≡ e) → (c ≡ e → a ≡ b) → eqb a b ≡ eqb c e
eqb_iff a b c e f g =
    ⊎_elim
    (λ same. eq-eqb a b same ∙ sym (eq-eqb c e (f same)))
    (λ other. ne_eqb a b other ∙ sym (ne_eqb c e (λ k. other (g k))))
    (cases_eq a b)

-- places of children are the same where the children are
pub same_place : (d : Document) (n b c : ℕ) → IsChild d n b → IsChild d n c → place_of_child d n b ≡ place_of_child d n c → b ≡ c
same_place d n b c hb hc e =
    let m = (numbers_match d n).children in
    sym (m.found b hb) ∙ ap (λ i. get_or (children d n) i 0) e ∙ m.found c hc

loop_same : (d : Document) (n e : ℕ) → IsSound d → IsEdge d n e
    → eqb (level_edge d n e).source.child (level_edge d n e).target.child ≡ is_loop d e
loop_same d n e s h =
    let m = ends_match d n e s h in
    rw (m.spoke (edge_at d e).source, m.spoke (edge_at d e).target) (eqb_iff _ _ _ _ (same_place d n _ _ m.source m.target) (λ same. ap (place_of_child d n) same))

listed_child : (d : Document) (p : Placed) (n : ℕ) (o : LevelOptions) (i : ℕ) → i < length (children d n)
    → plan.child_at (level_of d p n o) i ≡ level_child d p o.direction (child_number d n i)
listed_child d p n o i h = get_or-map (level_child d p o.direction) (children d n) i 0 _ h

listed_edge : (d : Document) (p : Placed) (n : ℕ) (o : LevelOptions) (i : ℕ) → i < length (edges_of d n)
    → plan.edge_at (level_of d p n o) i ≡ level_edge d n (edge_number d n i)
listed_edge d p n o i h = get_or-map (level_edge d n) (edges_of d n) i 0 _ h

pub levels_are_listed : (d : Document) (p : Placed) (n : ℕ) (o : LevelOptions) → IsListed d p n o
levels_are_listed d p n o =
    record {
      child_count = length-map (children d n) (level_child d p o.direction);
      child = listed_child d p n o;
      port_count = λ i h. rw (listed_child d p n o i h) (length-map (ports_of d (child_number d n i)) (level_port d o.direction (box_size p (child_number d n i))));
      port = λ i j h k. rw (listed_child d p n o i h) (get_or-map (level_port d o.direction (box_size p (child_number d n i))) (ports_of d (child_number d n i)) j 0 _ k);
      edge_count = length-map (edges_of d n) (level_edge d n);
      edge = listed_edge d p n o;
      loop = λ i s h. rw (listed_edge d p n o i h) (loop_same d n (edge_number d n i) s ((numbers_match d n).edges.meant i h));
    }
