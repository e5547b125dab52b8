-- Children, edges and ports by number: each once, and at one level alone.
use Rattle.std.proofs.Common.{◌≡◌, ◌≢◌, ◌⊎◌, inl, inr, ⊎_elim, ℕ, zero, suc, ◌<◌, List, [], ◌∷◌, length, Option, Some, None, IsTrue, sym, ap, ◌∙◌, rules, arith, eqb-true}
use Rattle.std.proofs.lemmas.Bool.{cases_eq}
use Rattle.elk_doc.specs.Document.{Document, node_at, node_of_port}
use Rattle.elk_doc.specs.Level.{children, edges_of, is_number, IsChild, IsEdge}
use Rattle.elk_doc.proofs.NumberLaws.{is_true}
use Rattle.working_frame.specs.Numbered.{AreNumbersOf, IsPortOf}
use Rattle.working_frame.specs.Rotated.{ports_of}
use Rattle.working_frame.proofs.NumberedLemmas.{numbers_match}
use Rattle.level_io.specs.Changed.{AreDistinct, number_at}

distinct : (Meant : ℕ → Type 0) (place : ℕ → ℕ) (numbers : List ℕ) (bound : ℕ)
    → AreNumbersOf Meant place numbers → ((m : ℕ) → Meant m → m < bound) → AreDistinct numbers bound
distinct Meant place numbers bound n below =
    record {
      below = λ i h. below _ (n.meant i h);
      once = λ i j h k e. sym (n.place_at i h) ∙ ap place e ∙ n.place_at j k;
    }

pub distinct_children : (d : Document) (n : ℕ) → AreDistinct (children d n) (length d.nodes)
distinct_children d n = distinct (IsChild d n) _ (children d n) (length d.nodes) (numbers_match d n).children (λ m h. h.node_in)

pub distinct_edges : (d : Document) (n : ℕ) → AreDistinct (edges_of d n) (length d.edges)
distinct_edges d n = distinct (IsEdge d n) _ (edges_of d n) (length d.edges) (numbers_match d n).edges (λ m h. h.edge_in)

pub distinct_ports : (d : Document) (c : ℕ) → AreDistinct (ports_of d c) (length d.ports)
distinct_ports d c = distinct (IsPortOf d c) _ (ports_of d c) (length d.ports) (numbers_match d c).ports (λ m h. h.port_in)

pub node_of_listed : (d : Document) (c j : ℕ) → j < length (ports_of d c) → node_of_port d (number_at (ports_of d c) j) ≡ c
node_of_listed d c j h = ((numbers_match d c).ports.meant j h).of_node

one_number : (o : Option ℕ) (n m : ℕ) → IsTrue (is_number o n) → IsTrue (is_number o m) → n ≡ m
one_number None n m a b = absurd (search rules)
one_number (Some k) n m a b = sym (eqb-true _ _ (is_true _ a)) ∙ eqb-true _ _ (is_true _ b)

-- a child has one parent, and an edge one level
pub one_parent : (d : Document) (n m c : ℕ) → IsChild d n c → IsChild d m c → n ≡ m
one_parent d n m c a b = one_number (node_at d c).parent n m a.child b.child

pub one_level : (d : Document) (n m e : ℕ) → IsEdge d n e → IsEdge d m e → n ≡ m
one_level d n m e a b = sym (eqb-true _ _ (is_true _ a.edge)) ∙ eqb-true _ _ (is_true _ b.edge)

-- a number stands somewhere in a list, or nowhere
abbrev pub StandsIn : List ℕ → ℕ → Type 0
StandsIn numbers m = (i : ℕ) × (i < length numbers) × (number_at numbers i ≡ m)

abbrev pub StandsNowhere : List ℕ → ℕ → Type 0
StandsNowhere numbers m = (i : ℕ) → i < length numbers → number_at numbers i ≢ m

nowhere : (k : ℕ) (ks : List ℕ) (m : ℕ) → k ≢ m → StandsNowhere ks m → StandsNowhere (k ∷ ks) m
nowhere k ks m first rest zero h = first
nowhere k ks m first rest (suc i) h = rest i (omega (arith, h))

pub stands_or_not : (numbers : List ℕ) (m : ℕ) → StandsIn numbers m ⊎ StandsNowhere numbers m
stands_or_not [] m = inr (λ i h. absurd (omega (arith, h)))
stands_or_not (k ∷ ks) m =
    ⊎_elim
    (λ (e : k ≡ m). inl (0, omega arith, e))
    (λ (other : k ≢ m).
    ⊎_elim
    (λ (s : StandsIn ks m). let i = s.0 in let h = s.1 in inl (suc i, omega (arith, h), s.2))
    (λ (n : StandsNowhere ks m). inr (nowhere k ks m other n))
    (stands_or_not ks m))
    (cases_eq k m)
