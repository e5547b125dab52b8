-- Which edges stay listed.
use Rattle.std.proofs.Common.{◌≡◌, ◌≢◌, ◌⊎◌, ◌↔◌, ℕ, ◌+◌, ◌<◌, ◌≤◌, eq-eqb, true, List, [], ◌∷◌, ◌++◌, get_or, Option, Some, None, IsSome, is_some, arith, refl, sym, ap, ◌∙◌, subst, inl, inr, ⊎_elim}
use Rattle.std.proofs.lemmas.Bool.{cases_eq}
use Rattle.std.proofs.lemmas.Bool.Decides.{nat_tests}
use borrow.Author.Tests.{ltb-true}
use Rattle.graph_arena.specs.Graph.{Graph, Ends, ends_at, occurs, IsNode, IsIncidence, tail_in, head_in}
use Rattle.graph_arena.specs.Changes.{RemovesEdge, AddsEdge}
use Rattle.graph_arena.specs.Paths.{Reaches}
use Rattle.graph_arena.specs.Paths.Reaches.{stay, go}
use Rattle.cycle_break.specs.Ways.{Step}
use Rattle.cycle_break.specs.Reversed.{IsReversed, UnlistedStep, Settled, before, places_before}
use Rattle.cycle_break.proofs.Lists.{occurs-append, occurs_one, occurs_none, tail_from, head_from}

abbrev ends_of : ℕ → ℕ → Ends
ends_of a b = record { tail = a; head = b }

-- the edges below a key were looked at
pub record ListedTo (g kept : Graph) (places : List (Option ℕ)) (listed : List ℕ) (at : ℕ) : Type 0 where
  pub same_nodes : (v : ℕ) → IsNode kept v ↔ IsNode g v
  pub sub : (e : ℕ) (x : Ends) → ends_at kept e ≡ Some x → ends_at g e ≡ Some x
  pub ahead : (e : ℕ) (x : Ends) → ends_at kept e ≡ Some x → e < at → before places x.tail x.head ≡ true
  pub whole : (e : ℕ) (x : Ends) → ends_at g e ≡ Some x → (ends_at kept e ≡ Some x) ⊎ ((e < at) × ((x.tail ≡ x.head) ⊎ (0 < occurs e listed)))
  pub is_listed : (e : ℕ) → 0 < occurs e listed → (e < at) × ((x : Ends) × (ends_at g e ≡ Some x) × (x.tail ≢ x.head))
  pub not_kept : (e : ℕ) → 0 < occurs e listed → ends_at kept e ≡ None
  pub once : (e : ℕ) → occurs e listed ≤ 1

same_ends : (x y : Ends) → Some x ≡ Some y → x ≡ y
same_ends x y h = cc

-- the key at hand is no edge, or its edge leads forward
pub listed_skip : (g kept : Graph) (places : List (Option ℕ)) (listed : List ℕ) (at : ℕ) → ListedTo g kept places listed at → ((x : Ends) → ends_at g at ≡ Some x → before places x.tail x.head ≡ true) → ListedTo g kept places listed (at + 1)
listed_skip g kept places listed at s here =
    record {
      same_nodes = s.same_nodes;
      sub = s.sub;
      ahead = λ e x h l. elim (cases_eq e at) [
        | inl q ↦ here x (s.sub at x (subst (λ (j : ℕ). ends_at kept j ≡ Some x) q h))
        | inr n ↦ s.ahead e x h (omega (arith, l, n))
      ];
      whole = λ e x h. ⊎_elim (λ (z : ends_at kept e ≡ Some x). inl z) (λ (z : (e < at) × ((x.tail ≡ x.head) ⊎ (0 < occurs e listed))). inr (omega (arith, z.0), z.1)) (s.whole e x h);
      is_listed = λ e h. let z = s.is_listed e h in (omega (arith, z.0), z.1);
      not_kept = s.not_kept;
      once = s.once;
    }

-- the edge at hand went from the kept ones, and is listed where it is no self-loop
pub listed_more : (g kept k1 : Graph) (places : List (Option ℕ)) (listed l1 : List ℕ) (at : ℕ) (x : Ends) → ListedTo g kept places listed at → ends_at g at ≡ Some x → RemovesEdge kept k1 at x.tail x.head → ((e : ℕ) → occurs e listed ≤ occurs e l1) → ((e : ℕ) → e ≢ at → occurs e l1 ≡ occurs e listed) → ((x.tail ≡ x.head) × (occurs at l1 ≡ 0)) ⊎ ((x.tail ≢ x.head) × (occurs at l1 ≡ 1)) → ListedTo g k1 places l1 (at + 1)
listed_more g kept k1 places listed l1 at x s is r more others here =
    record {
      same_nodes = λ v. (λ h. (s.same_nodes v).0 ((r.same_nodes v).0 h), λ h. (r.same_nodes v).1 ((s.same_nodes v).1 h));
      sub = λ e y h. s.sub e y (left e y h);
      ahead = λ e y h l. s.ahead e y (left e y h) (let n = not_at e y h in omega (arith, l, n));
      whole = λ e y h. elim (cases_eq e at) [
        | inl q ↦
            let same : x ≡ y = same_ends x y (sym is ∙ subst (λ (j : ℕ). ends_at g j ≡ Some y) q h) in
            inr (
              omega (arith, q),
              ⊎_elim
                  (λ (z : (x.tail ≡ x.head) × (occurs at l1 ≡ 0)). inl (subst (λ (w : Ends). w.tail ≡ w.head) same z.0))
                  (λ (z : (x.tail ≢ x.head) × (occurs at l1 ≡ 1)). inr (subst (λ (j : ℕ). 0 < occurs j l1) (sym q) (omega (arith, z.1)))) here,
            )
        | inr n ↦
            ⊎_elim (λ (z : ends_at kept e ≡ Some y). inl (r.other_edges e n ∙ z))
            (λ (z : (e < at) × ((y.tail ≡ y.head) ⊎ (0 < occurs e listed))). inr (omega (arith, z.0), ⊎_elim (λ (w : y.tail ≡ y.head). inl w) (λ (w : 0 < occurs e listed). inr (omega (arith, w, more e))) z.1)) (s.whole e y h)
      ];
      is_listed = λ e h. elim (cases_eq e at) [
        | inl q ↦ (
          omega (arith, q),
          subst (λ (j : ℕ). (y : Ends) × (ends_at g j ≡ Some y) × (y.tail ≢ y.head)) (sym q) (
            x,
            is,
            ⊎_elim
                (λ (z : (x.tail ≡ x.head) × (occurs at l1 ≡ 0)). absurd (let h2 : 0 < occurs at l1 = subst (λ (j : ℕ). 0 < occurs j l1) q h in omega (arith, h2, z.1)))
                (λ (z : (x.tail ≢ x.head) × (occurs at l1 ≡ 1)). z.0) here,
          ),
        )
        | inr n ↦ let z = s.is_listed e (omega (arith, h, others e n)) in (omega (arith, z.0), z.1)
      ];
      not_kept = λ e h. elim (cases_eq e at) [
        | inl q ↦ ap (λ (j : ℕ). ends_at k1 j) q ∙ r.gone
        | inr n ↦ r.other_edges e n ∙ s.not_kept e (omega (arith, h, others e n))
      ];
      once = λ e. elim (cases_eq e at) [
        | inl q ↦ subst (λ (j : ℕ). occurs j l1 ≤ 1) (sym q) (⊎_elim (λ (z : (x.tail ≡ x.head) × (occurs at l1 ≡ 0)). omega (arith, z.1)) (λ (z : (x.tail ≢ x.head) × (occurs at l1 ≡ 1)). omega (arith, z.1)) here)
        | inr n ↦ omega (arith, s.once e, others e n)
      ];
    }
  where
    not_at : (e : ℕ) (y : Ends) → ends_at k1 e ≡ Some y → e ≢ at
    not_at e y h q = let bad : None ≡ Some y = sym r.gone ∙ subst (λ (j : ℕ). ends_at k1 j ≡ Some y) q h in cc

    left : (e : ℕ) (y : Ends) → ends_at k1 e ≡ Some y → ends_at kept e ≡ Some y
    left e y h = sym (r.other_edges e (not_at e y h)) ∙ h

-- ---- places rise along kept edges

before_then : (p q r : Option ℕ) → places_before p q ≡ true → places_before q r ≡ true → places_before p r ≡ true
before_then None q r a b = cc
before_then (Some x) None r a b = cc
before_then (Some x) (Some y) None a b = cc
before_then (Some x) (Some y) (Some z) a b = grind (arith, nat_tests, a, b)

before_self : (p : Option ℕ) → places_before p p ≡ true → ⊥
before_self None a = cc
before_self (Some x) a = let z : x < x = ltb-true x x a in omega (arith, z)

place_at : List (Option ℕ) → ℕ → Option ℕ
place_at places v = get_or places v None

rising : (k : Graph) (places : List (Option ℕ)) → ((a b : ℕ) → Step k a b → before places a b ≡ true) → (a b c : ℕ) → before places a b ≡ true → Reaches (Step k) b c → before places a c ≡ true
rising k places up a b c h (stay _) = h
rising k places up a b d h (go _ c _ s r) = rising k places up a c d (before_then (get_or places a None) (get_or places b None) (get_or places c None) h (up b c s)) r

pub settled_start : (g kept : Graph) (places : List (Option ℕ)) (listed : List ℕ) (bound : ℕ) → ListedTo g kept places listed bound → ((e : ℕ) → IsSome (ends_at g e) → e < bound) → Settled g kept [] listed
settled_start g kept places listed bound s all =
    let up : (a b : ℕ) → Step kept a b → before places a b ≡ true =
    λ a b t. s.ahead t.edge (record { tail = a; head = b }) t.ends (all t.edge (ap is_some (s.sub t.edge (record { tail = a; head = b }) t.ends))) in
    record {
      same_nodes = s.same_nodes;
      sub = λ a b t. record {
        edge = t.edge;
        ends = s.sub t.edge (record { tail = a; head = b }) t.ends;
        not_chosen = refl;
        not_rest = elim (cases_eq (occurs t.edge listed) 0) [ inl z ↦ z | inr n ↦ let bad : None ≡ Some (ends_of a b) = sym (s.not_kept t.edge (omega (arith, n))) ∙ t.ends in cc ];
        no_loop = λ e. before_self (get_or places a None) (subst (λ (j : ℕ). before places a j ≡ true) (sym e) (up a b t));
      };
      whole = λ a b f. ⊎_elim
          (λ (z : ends_at kept f.edge ≡ Some (record { tail = a; head = b })). record { edge = f.edge; ends = z })
          (λ (z : (f.edge < bound) × ((a ≡ b) ⊎ (0 < occurs f.edge listed))). ⊎_elim (λ (w : a ≡ b). absurd (f.no_loop w)) (λ (w : 0 < occurs f.edge listed). absurd (let o = f.not_rest in omega (arith, o, w))) z.1)
          (s.whole f.edge (record { tail = a; head = b }) f.ends);
      acyclic = λ a b t r. before_self (get_or places a None) (rising kept places up a b a (up a b t) r);
      closes = λ e h. absurd (omega (arith, h));
      no_loops = λ e h. (s.is_listed e (omega (arith, h))).1;
      once = λ e. omega (arith, s.once e);
    }

-- ---- one listed edge after the other

-- the kept edges lead back, so the edge stays listed
pub settled_chosen : (g kept : Graph) (chosen rest : List ℕ) (e : ℕ) (x : Ends) → Settled g kept chosen (e ∷ rest) → ends_at g e ≡ Some x → Reaches (Step kept) x.head x.tail → Settled g kept (chosen ++ e ∷ []) rest
settled_chosen g kept chosen rest e x s is way =
    let a : (k : ℕ) → occurs k (chosen ++ e ∷ []) ≡ occurs k chosen + occurs k (e ∷ []) = λ k. occurs-append k chosen (e ∷ []) in
    record {
      same_nodes = s.same_nodes;
      sub = λ u v t. let f = s.sub u v t in record { edge = f.edge; ends = f.ends; not_chosen = omega (arith, a f.edge, f.not_chosen, f.not_rest); not_rest = omega (arith, f.not_rest); no_loop = f.no_loop };
      whole = λ u v f. s.whole u v (record { edge = f.edge; ends = f.ends; not_chosen = omega (arith, a f.edge, f.not_chosen); not_rest = omega (arith, a f.edge, f.not_chosen, f.not_rest); no_loop = f.no_loop });
      acyclic = s.acyclic;
      closes = λ k h. elim (cases_eq k e) [
        | inl q ↦ subst (λ (j : ℕ). (y : Ends) × (ends_at g j ≡ Some y) × Reaches (Step kept) y.head y.tail) (sym q) (x, is, way)
        | inr n ↦ let z = occurs_none k e (λ i. n (sym i)) in s.closes k (omega (arith, h, a k, z))
      ];
      no_loops = λ k h. s.no_loops k (omega (arith, h, a k));
      once = λ k. omega (arith, s.once k, a k);
    }

through_step : (k k1 : Graph) (t h a b c : ℕ) → Step k a b ⊎ ((a ≡ t) × (b ≡ h)) → Reaches (Step k) b c ⊎ (Reaches (Step k) b t × Reaches (Step k) h c) → Reaches (Step k) a c ⊎ (Reaches (Step k) a t × Reaches (Step k) h c)
through_step k k1 t h a b c (inl s) (inl r) = inl (go a b c s r)
through_step k k1 t h a b c (inl s) (inr r) = inr (go a b t s r.0, r.1)
through_step k k1 t h a b c (inr e) (inl r) = inr (subst (λ (j : ℕ). Reaches (Step k) a j) e.0 (stay a), subst (λ (j : ℕ). Reaches (Step k) j c) e.1 r)
through_step k k1 t h a b c (inr e) (inr r) = inr (subst (λ (j : ℕ). Reaches (Step k) a j) e.0 (stay a), r.1)

-- a way with one more edge is an old way, or goes through the edge
through : (k k1 : Graph) (t h : ℕ) → ((a b : ℕ) → Step k1 a b → Step k a b ⊎ ((a ≡ t) × (b ≡ h))) → (a b : ℕ) → Reaches (Step k1) a b → Reaches (Step k) a b ⊎ (Reaches (Step k) a t × Reaches (Step k) h b)
through k k1 t h old a b (stay _) = inl (stay a)
through k k1 t h old a c (go _ b _ s r) = through_step k k1 t h a b c (old a b s) (through k k1 t h old b c r)

join : (k : Graph) (a b c : ℕ) → Reaches (Step k) a b → Reaches (Step k) b c → Reaches (Step k) a c
join k a b c (stay _) r = r
join k a b d (go _ c _ s q) r = go a c d s (join k c b d q r)

more_ways : (k k1 : Graph) → ((a b : ℕ) → Step k a b → Step k1 a b) → (a b : ℕ) → Reaches (Step k) a b → Reaches (Step k1) a b
more_ways k k1 up a b (stay _) = stay a
more_ways k k1 up a c (go _ b _ s r) = go a b c (up a b s) (more_ways k k1 up b c r)

-- no way leads back, so the edge is kept
pub settled_kept : (g kept k1 : Graph) (chosen rest : List ℕ) (e n : ℕ) (x : Ends) → Settled g kept chosen (e ∷ rest) → ends_at g e ≡ Some x → (Reaches (Step kept) x.head x.tail → ⊥) → AddsEdge kept k1 n x.tail x.head → Settled g k1 chosen rest
settled_kept g kept k1 chosen rest e n x s is none r =
    record {
      same_nodes = λ v. (λ h. (s.same_nodes v).0 ((r.same_nodes v).0 h), λ h. (r.same_nodes v).1 ((s.same_nodes v).1 h));
      sub = λ a b t. ⊎_elim
          (λ (z : Step kept a b). let f = s.sub a b z in record { edge = f.edge; ends = f.ends; not_chosen = f.not_chosen; not_rest = omega (arith, f.not_rest); no_loop = f.no_loop })
          (λ (z : (a ≡ x.tail) × (b ≡ x.head)).
          let o = s.once e in
          let l = s.no_loops e (omega (arith, occurs_one e)) in
          let same : l.0 ≡ x = same_ends l.0 x (sym l.1 ∙ is) in
          record {
            edge = e;
            ends = is ∙ ap Some (ends_by x a b z.0 z.1);
            not_chosen = omega (arith, o, occurs_one e);
            not_rest = omega (arith, o, occurs_one e);
            no_loop = λ q. subst (λ (w : Ends). w.tail ≢ w.head) same l.2 (sym z.0 ∙ (q ∙ z.1));
          })
          (old a b t);
      whole = λ a b f. elim (cases_eq f.edge e) [
        | inl q ↦
            let same : x ≡ record { tail = a; head = b } = same_ends x (record { tail = a; head = b }) (sym is ∙ subst (λ (j : ℕ). ends_at g j ≡ Some (record { tail = a; head = b })) q f.ends) in
            record { edge = n; ends = r.ends ∙ ap Some same }
        | inr d ↦ keep a b (s.whole a b (record { edge = f.edge; ends = f.ends; not_chosen = f.not_chosen; not_rest = (let z = occurs_none f.edge e (λ i. d (sym i)) in omega (arith, z, f.not_rest)); no_loop = f.no_loop }))
      ];
      acyclic = λ a b t w. ⊎_elim
          (λ (z : Step kept a b). ⊎_elim (λ (q : Reaches (Step kept) b a). s.acyclic a b z q) (λ (q : Reaches (Step kept) b x.tail × Reaches (Step kept) x.head a). none (join kept x.head a x.tail q.1 (go a b x.tail z q.0))) (through kept k1 x.tail x.head old b a w))
          (λ (z : (a ≡ x.tail) × (b ≡ x.head)).
          let w2 : Reaches (Step k1) x.head x.tail = subst (λ (j : ℕ). Reaches (Step k1) x.head j) z.0 (subst (λ (j : ℕ). Reaches (Step k1) j a) z.1 w) in
          ⊎_elim (λ (q : Reaches (Step kept) x.head x.tail). none q) (λ (q : Reaches (Step kept) x.head x.tail × Reaches (Step kept) x.head x.tail). none q.0) (through kept k1 x.tail x.head old x.head x.tail w2))
          (old a b t);
      closes = λ k h. let c = s.closes k h in (c.0, c.1, more_ways kept k1 keep c.0.head c.0.tail c.2);
      no_loops = λ k h. s.no_loops k (omega (arith, h));
      once = λ k. omega (arith, s.once k);
    }
  where
    ends_by : (x : Ends) (a b : ℕ) → a ≡ x.tail → b ≡ x.head → x ≡ record { tail = a; head = b }
    ends_by x a b p q = rw (p, q) refl

    old : (a b : ℕ) → Step k1 a b → Step kept a b ⊎ ((a ≡ x.tail) × (b ≡ x.head))
    old a b t =
        elim (cases_eq t.edge n) [
          | inl q ↦
              let same : record { tail = x.tail; head = x.head } ≡ record { tail = a; head = b } = same_ends (record { tail = x.tail; head = x.head }) (record { tail = a; head = b }) (sym r.ends ∙ subst (λ (j : ℕ). ends_at k1 j ≡ Some (record { tail = a; head = b })) q t.ends) in
              inr (sym (ap (λ (w : Ends). w.tail) same), sym (ap (λ (w : Ends). w.head) same))
          | inr d ↦ inl (record { edge = t.edge; ends = sym (r.other_edges t.edge d) ∙ t.ends })
        ]

    keep : (a b : ℕ) → Step kept a b → Step k1 a b
    keep a b t =
        elim (cases_eq t.edge n) [
          | inl q ↦ let bad : None ≡ Some (ends_of a b) = sym r.was_free ∙ subst (λ (j : ℕ). ends_at kept j ≡ Some (record { tail = a; head = b })) q t.ends in absurd cc
          | inr d ↦ record { edge = t.edge; ends = r.other_edges t.edge d ∙ t.ends }
        ]

-- ---- where all were looked at

walk_over : (P Q : ℕ → ℕ → Type 0) → ((a b : ℕ) → P a b → Q a b) → (a b : ℕ) → Reaches P a b → Reaches Q a b
walk_over P Q f a b (stay _) = stay a
walk_over P Q f a c (go _ b _ s r) = go a b c (f a b s) (walk_over P Q f b c r)

pub settled_all : (g kept : Graph) (chosen : List ℕ) → Settled g kept chosen [] → IsReversed g chosen
settled_all g kept chosen s =
    let to : (a b : ℕ) → Step kept a b → UnlistedStep g chosen a b = λ a b t. let f = s.sub a b t in record { edge = f.edge; ends = f.ends; unlisted = f.not_chosen; no_loop = f.no_loop } in
    let back : (a b : ℕ) → UnlistedStep g chosen a b → Step kept a b = λ a b u. s.whole a b (record { edge = u.edge; ends = u.ends; not_chosen = u.unlisted; not_rest = refl; no_loop = u.no_loop }) in
    record {
      edges = λ e h.
          let c = s.closes e h in
          let l = s.no_loops e (omega (arith, h)) in
          let same : l.0 ≡ c.0 = same_ends l.0 c.0 (sym l.1 ∙ c.1) in
          (c.0, c.1, subst (λ (w : Ends). w.tail ≢ w.head) same l.2, walk_over (Step kept) (UnlistedStep g chosen) to c.0.head c.0.tail c.2);
      once = λ e. omega (arith, s.once e);
      acyclic = λ a b u r. s.acyclic a b (back a b u) (walk_over (UnlistedStep g chosen) (Step kept) back b a r);
    }

-- ---- the step of a key, as the program takes it

head_of : (x : Ends) (o : Option Ends) (t : ℕ) → o ≡ Some x → head_in o ≡ Some t → x.head ≡ t
head_of x o t is h = let q : Some x.head ≡ Some t = sym (ap head_in is) ∙ h in cc

pub tail_node : (g : Graph) (e t : ℕ) → IsIncidence g → tail_in (ends_at g e) ≡ Some t → IsNode g t
tail_node g e t i h = let x = tail_from (ends_at g e) t h in subst (λ (j : ℕ). IsNode g j) x.2 (i.tails e x.0 x.1)

pub head_node : (g : Graph) (e t : ℕ) → IsIncidence g → head_in (ends_at g e) ≡ Some t → IsNode g t
head_node g e t i h = let x = head_from (ends_at g e) t h in subst (λ (j : ℕ). IsNode g j) x.2 (i.heads e x.0 x.1)

pub step_forward : (g kept : Graph) (places : List (Option ℕ)) (listed : List ℕ) (at t h : ℕ) → ListedTo g kept places listed at → tail_in (ends_at g at) ≡ Some t → head_in (ends_at g at) ≡ Some h → before places t h ≡ true → ListedTo g kept places listed (at + 1)
step_forward g kept places listed at t h s tail head ahead =
    listed_skip g kept places listed at s
    (λ x is. let a : x.tail ≡ t = (let q : Some x.tail ≡ Some t = sym (ap tail_in is) ∙ tail in cc) in let b = head_of x (ends_at g at) h is head in rw (a, b) ahead)

still_kept : (g kept : Graph) (places : List (Option ℕ)) (listed : List ℕ) (at : ℕ) (x : Ends) → ListedTo g kept places listed at → ends_at g at ≡ Some x → ends_at kept at ≡ Some x
still_kept g kept places listed at x s is =
    ⊎_elim (λ (z : ends_at kept at ≡ Some x). z) (λ (z : (at < at) × ((x.tail ≡ x.head) ⊎ (0 < occurs at listed))). absurd (omega (arith, z.0))) (s.whole at x is)

fresh : (g kept : Graph) (places : List (Option ℕ)) (listed : List ℕ) (at : ℕ) → ListedTo g kept places listed at → occurs at listed ≡ 0
fresh g kept places listed at s =
    elim (cases_eq (occurs at listed) 0) [ inl z ↦ z | inr d ↦ let q = s.is_listed at (omega (arith, d)) in absurd (omega (arith, q.0)) ]

pub step_dropped : (g kept k1 : Graph) (places : List (Option ℕ)) (listed : List ℕ) (at t h : ℕ) → ListedTo g kept places listed at → tail_in (ends_at g at) ≡ Some t → head_in (ends_at g at) ≡ Some h → ((x : Ends) → ends_at kept at ≡ Some x → RemovesEdge kept k1 at x.tail x.head) → t ≡ h → ListedTo g k1 places listed (at + 1)
step_dropped g kept k1 places listed at t h s tail head removes same =
    let x = tail_from (ends_at g at) t tail in
    let b = head_of x.0 (ends_at g at) h x.1 head in
    listed_more g kept k1 places listed listed at x.0 s x.1 (removes x.0 (still_kept g kept places listed at x.0 s x.1)) (λ e. omega arith) (λ e n. refl) (inl (x.2 ∙ (same ∙ sym b), fresh g kept places listed at s))

pub step_pushed : (g kept k1 : Graph) (places : List (Option ℕ)) (listed : List ℕ) (at t h : ℕ) → ListedTo g kept places listed at → tail_in (ends_at g at) ≡ Some t → head_in (ends_at g at) ≡ Some h → ((x : Ends) → ends_at kept at ≡ Some x → RemovesEdge kept k1 at x.tail x.head) → t ≢ h → ListedTo g k1 places (listed ++ at ∷ []) (at + 1)
step_pushed g kept k1 places listed at t h s tail head removes other =
    let x = tail_from (ends_at g at) t tail in
    let b = head_of x.0 (ends_at g at) h x.1 head in
    let a : (v : ℕ) → occurs v (listed ++ at ∷ []) ≡ occurs v listed + occurs v (at ∷ []) = λ v. occurs-append v listed (at ∷ []) in
    let f = fresh g kept places listed at s in
    listed_more g kept k1 places listed (listed ++ at ∷ []) at x.0 s x.1 (removes x.0 (still_kept g kept places listed at x.0 s x.1)) (λ e. omega (arith, a e)) (λ e n. let z = occurs_none e at (λ i. n (sym i)) in omega (arith, a e, z)) (inr (λ q. other (sym x.2 ∙ (q ∙ b)), omega (arith, a at, f, occurs_one at)))

-- ---- a listed edge, as the program takes it

pub chosen_by : (g kept : Graph) (chosen rest : List ℕ) (e t h : ℕ) → tail_in (ends_at g e) ≡ Some t → head_in (ends_at g e) ≡ Some h → Reaches (Step kept) h t → Settled g kept chosen (e ∷ rest) → Settled g kept (chosen ++ e ∷ []) rest
chosen_by g kept chosen rest e t h tail head way s =
    let x = tail_from (ends_at g e) t tail in
    let b = head_of x.0 (ends_at g e) h x.1 head in
    settled_chosen g kept chosen rest e x.0 s x.1 (subst (λ (j : ℕ). Reaches (Step kept) x.0.head j) (sym x.2) (subst (λ (j : ℕ). Reaches (Step kept) j t) (sym b) way))

pub kept_by : (g kept k1 : Graph) (chosen rest : List ℕ) (e n t h : ℕ) → tail_in (ends_at g e) ≡ Some t → head_in (ends_at g e) ≡ Some h → (Reaches (Step kept) h t → ⊥) → AddsEdge kept k1 n t h → Settled g kept chosen (e ∷ rest) → Settled g k1 chosen rest
kept_by g kept k1 chosen rest e n t h tail head none r s =
    let x = tail_from (ends_at g e) t tail in
    let b = head_of x.0 (ends_at g e) h x.1 head in
    settled_kept g kept k1 chosen rest e n x.0 s x.1
    (subst (λ (j : ℕ). Reaches (Step kept) x.0.head j → ⊥) (sym x.2) (subst (λ (j : ℕ). Reaches (Step kept) j t → ⊥) (sym b) none))
    (subst (λ (j : ℕ). AddsEdge kept k1 n x.0.tail j) (sym b) (subst (λ (j : ℕ). AddsEdge kept k1 n j h) (sym x.2) r))

head_occurs : (e : ℕ) (ys : List ℕ) → 0 < occurs e (e ∷ ys)
head_occurs e ys = rw (eq-eqb e e refl) (omega arith)

pub rest_edge : (g kept : Graph) (chosen rest ys : List ℕ) (e : ℕ) → Settled g kept chosen rest → rest ≡ e ∷ ys → IsSome (ends_at g e)
rest_edge g kept chosen rest ys e s r =
    let h : 0 < occurs e rest = subst (λ (l : List ℕ). 0 < occurs e l) (sym r) (head_occurs e ys) in
    let n = s.no_loops e (omega (arith, h)) in
    ap is_some n.1
