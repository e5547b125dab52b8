-- The index of a document from groups of its children, edges and ports.
use Rattle.std.proofs.Common.{◌≡◌, ℕ, zero, suc, ◌<◌, Bool, true, List, Option, None, Some, length, arith, refl, ap, ◌∙◌, eqb-true}
use Rattle.std.proofs.lemmas.List.{length-map}
use Rattle.elk_doc.specs.Document.{Document, node_at, node_of_port}
use Rattle.elk_doc.specs.Level.{children, is_number, level_of_edge}
use Rattle.elk_doc.specs.Numbers.{numbers_below, count_below}
use Rattle.elk_doc.proofs.NumberLaws.{is_true}
use Rattle.level_io.specs.declared.grouping.Groups.{Groups}
use Rattle.level_io.specs.declared.index.Index.{Index}
use Rattle.level_io.specs.Grouping.{IsGrouping, is_in}
use Rattle.level_io.specs.Indexed.{AreKeys, HasRows, IsIndex, place_in}

-- equal tests pick the same numbers
numbers_alike : (p q : ℕ → Bool) (n : ℕ) → ((i : ℕ) → i < n → p i ≡ q i) → numbers_below p n ≡ numbers_below q n
unfolding numbers_below
numbers_alike p q zero same = refl
numbers_alike p q (suc n) same = rw (numbers_alike p q n (λ i h. same i (omega (arith, h))), same n (omega arith)) refl

count_alike : (p q : ℕ → Bool) (n : ℕ) → ((i : ℕ) → i < n → p i ≡ q i) → count_below p n ≡ count_below q n
unfolding count_below
count_alike p q zero same = refl
count_alike p q (suc n) same = rw (count_alike p q n (λ i h. same i (omega (arith, h))), same n (omega arith)) refl

key_same : (key : ℕ → Option ℕ) (n : ℕ) (keys : List (Option ℕ)) → AreKeys key n keys → (k i : ℕ) → i < n → is_in keys k i ≡ is_number (key i) k
key_same key n keys are k i h = ap (λ o. is_number o k) (are.each i h)

rows_of_keys : (key : ℕ → Option ℕ) (n count : ℕ) (keys : List (Option ℕ)) (g : Groups) → AreKeys key n keys → IsGrouping keys count g
    → HasRows count (λ k. numbers_below (λ i. is_number (key i) k) n) n g
rows_of_keys key n count keys g are is =
    let many = length-map g.rows.items (λ row. row.items) in
    let long = is.as_many in
    record {
      as_many = is.as_many;
      each = λ k h. is.rows k (omega (arith, h, many, long)) ∙ ap (numbers_below (is_in keys k)) are.as_many ∙ numbers_alike (is_in keys k) (λ i. is_number (key i) k) n (key_same key n keys are k);
      places = is.placed.as_many ∙ are.as_many;
    }

place_of_key : (key : ℕ → Option ℕ) (n count : ℕ) (keys : List (Option ℕ)) (g : Groups) → AreKeys key n keys → IsGrouping keys count g
    → (i k : ℕ) → i < n → key i ≡ Some k → place_in g i ≡ count_below (λ j. is_number (key j) k) i
place_of_key key n count keys g are is i k h e =
    let many = are.as_many in
    is.placed.each i k (omega (arith, h, many)) (are.each i h ∙ e)
    ∙ count_alike (is_in keys k) (λ j. is_number (key j) k) i (λ j l. key_same key n keys are k j (omega (arith, h, l)))

named : (o : Option ℕ) (n : ℕ) → is_number o n ≡ true → o ≡ Some n
named None n h = absurd cc
named (Some m) n h = ap Some (eqb-true m n h)

pub is_index : (d : Document) (x : Index) (parents levels nodes : List (Option ℕ))
    → AreKeys (λ c. (node_at d c).parent) (length d.nodes) parents → AreKeys (λ e. Some (level_of_edge d e)) (length d.edges) levels → AreKeys (λ k. Some (node_of_port d k)) (length d.ports) nodes
    → IsGrouping parents (length d.nodes) x.children → IsGrouping levels (length d.nodes) x.edges → IsGrouping nodes (length d.nodes) x.ports
    → IsIndex d x
is_index d x parents levels nodes p l n children edges ports =
    record {
      children = rows_of_keys (λ c. (node_at d c).parent) (length d.nodes) (length d.nodes) parents x.children p children;
      edges = rows_of_keys (λ e. Some (level_of_edge d e)) (length d.edges) (length d.nodes) levels x.edges l edges;
      ports = rows_of_keys (λ k. Some (node_of_port d k)) (length d.ports) (length d.nodes) nodes x.ports n ports;
      child_place = λ m c is. place_of_key (λ c. (node_at d c).parent) (length d.nodes) (length d.nodes) parents x.children p children c m is.node_in (named (node_at d c).parent m (is_true _ is.child));
      edge_place = λ m e is. place_of_key (λ e. Some (level_of_edge d e)) (length d.edges) (length d.nodes) levels x.edges l edges e m is.edge_in (ap Some (eqb-true _ _ (is_true _ is.edge)));
      port_place = λ k h. place_of_key (λ k. Some (node_of_port d k)) (length d.ports) (length d.nodes) nodes x.ports n ports k (node_of_port d k) h refl;
    }
