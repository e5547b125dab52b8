-- Names of parts.
use Rattle.std.proofs.Common.{◌≡◌, ◌≢◌, ◌⊎◌, ℕ, ◌+◌, ◌<◌, ◌≤◌, true, false, eqb, eq-eqb, cond, List, length, arith, refl, sym, ap, ◌∙◌, inl, inr, ⊎_elim, subst}
use Rattle.std.proofs.lemmas.Bool.{cases_lt, cases_eq, ne_eqb}
use Rattle.elk_doc.specs.Document.{Document, edge_at}
use Rattle.elk_doc.specs.Level.{IsEdge, source_node, target_node}
use Rattle.elk_doc.specs.Paths.{Reaches, stay, go}
use Rattle.elk_doc.specs.Sound.{IsSound}
use Rattle.elk_doc.specs.Apart.{AreJoined, InOnePart}
use Rattle.elk_doc.proofs.SoundLaws.{node_of_end-in}
use Rattle.layout_check.specs.Shapes.{Lists}
use Rattle.layout_check.specs.Names.{AreNamesBelow, Renames, name_of}

-- paths, joined and reversed
pub reach_join : (P : ℕ → ℕ → Type 0) (a b c : ℕ) → Reaches P a b → Reaches P b c → Reaches P a c
reach_join P a b c (stay _) s = s
reach_join P a b c (go _ x _ t r) s = go a x c t (reach_join P x b c r s)

reach_back : (P : ℕ → ℕ → Type 0) → ((a b : ℕ) → P a b → P b a) → (a b : ℕ) → Reaches P a b → Reaches P b a
reach_back P turn a b (stay _) = stay a
reach_back P turn a b (go _ x _ t r) = reach_join P b x a (reach_back P turn x b r) (go x a a (turn a x t) (stay a))

joined_back : (d : Document) (n a b : ℕ) → AreJoined d n a b → AreJoined d n b a
joined_back d n a b h = (h.0, h.1, ⊎_elim (λ x. inr x) (λ x. inl x) h.2)

pub part_join : (d : Document) (n a b c : ℕ) → InOnePart d n a b → InOnePart d n b c → InOnePart d n a c
part_join d n a b c = reach_join (AreJoined d n) a b c

pub part_back : (d : Document) (n a b : ℕ) → InOnePart d n a b → InOnePart d n b a
part_back d n a b = reach_back (AreJoined d n) (joined_back d n) a b

pub edge_part : (d : Document) (n e : ℕ) → IsEdge d n e → InOnePart d n (source_node d e) (target_node d e)
edge_part d n e h = go _ _ _ (e, h, inl (refl, refl)) (stay _)

pub source_in : (d : Document) (e : ℕ) → IsSound d → e < length d.edges → source_node d e < length d.nodes
source_in d e sound l = node_of_end-in d (edge_at d e).source sound (sound.edges e l).source_in

pub target_in : (d : Document) (e : ℕ) → IsSound d → e < length d.edges → target_node d e < length d.nodes
target_in d e sound l = node_of_end-in d (edge_at d e).target sound (sound.edges e l).target_in

-- a name after renaming
renamed : (old new : List ℕ) (from to v : ℕ) → Renames old from to new → v < length old → name_of old v ≡ from → name_of new v ≡ to
renamed old new from to v r l e = let t : eqb (name_of old v) from ≡ true = eq-eqb _ _ e in r.each v l ∙ ap (λ b. cond b to (name_of old v)) t

kept : (old new : List ℕ) (from to v : ℕ) → Renames old from to new → v < length old → name_of old v ≢ from → name_of new v ≡ name_of old v
kept old new from to v r l e = let t : eqb (name_of old v) from ≡ false = ne_eqb _ _ e in r.each v l ∙ ap (λ b. cond b to (name_of old v)) t

-- one edge more: the name of one end is replaced by the lower name of the other
pub join_names : (d : Document) (n e x y : ℕ) (old new : List ℕ) → IsSound d → AreNamesBelow d n e old → IsEdge d n e → x < length d.nodes → y < length d.nodes → InOnePart d n x y → ((source_node d e ≡ x) × (target_node d e ≡ y)) ⊎ ((source_node d e ≡ y) × (target_node d e ≡ x)) → name_of old y ≤ name_of old x → Renames old (name_of old x) (name_of old y) new → AreNamesBelow d n (e + 1) new
join_names d n e x y old new sound h edge lx ly part ends le r =
    let from = name_of old x in
    let to = name_of old y in
    let inside : (v : ℕ) → v < length d.nodes → v < length old = λ v l. omega (arith, h.count) in
    let at_from : (v : ℕ) → v < length d.nodes → name_of old v ≡ from → name_of new v ≡ to = λ v l k. renamed old new from to v r (inside v l) k in
    let other : (v : ℕ) → v < length d.nodes → name_of old v ≢ from → name_of new v ≡ name_of old v = λ v l k. kept old new from to v r (inside v l) k in
    let low_to : to < length d.nodes = let l = h.low y ly in omega (arith, l) in
    let to_itself : name_of new to ≡ to =
    elim (cases_eq (name_of old to) from) [
      | inl k ↦ at_from to low_to k
      | inr k ↦ other to low_to k ∙ h.fixed y ly
    ]
    in
    let same : (u v : ℕ) → u < length d.nodes → v < length d.nodes → name_of old u ≡ name_of old v → name_of new u ≡ name_of new v =
    λ u v lu lv k.
    elim (cases_eq (name_of old u) from) [
      | inl m ↦ at_from u lu m ∙ sym (at_from v lv (sym k ∙ m))
      | inr m ↦ other u lu m ∙ k ∙ sym (other v lv (λ q. m (k ∙ q)))
    ]
    in
    let y_to : name_of new y ≡ to =
    elim (cases_eq (name_of old y) from) [
      | inl k ↦ at_from y ly k
      | inr k ↦ other y ly k
    ]
    in
    let both : name_of new x ≡ name_of new y = at_from x lx refl ∙ sym y_to in
    record {
      count = r.count ∙ h.count;
      low = λ v l.
          elim (cases_eq (name_of old v) from) [
            | inl k ↦ let a = at_from v l k in let b = h.low v l in omega (arith, a, b, k, le)
            | inr k ↦ let a = other v l k in let b = h.low v l in omega (arith, a, b)
          ];
      fixed = λ v l.
          elim (cases_eq (name_of old v) from) [
            | inl k ↦ let a = at_from v l k in ap (name_of new) a ∙ to_itself ∙ sym a
            | inr k ↦
                let a = other v l k in
                let b = h.low v l in
                let inner : name_of old v < length d.nodes = omega (arith, b) in
                let c = h.fixed v l in
                ap (name_of new) a ∙ other (name_of old v) inner (λ q. k (sym c ∙ q)) ∙ c ∙ sym a
          ];
      joined = λ k l edge_k.
          elim (cases_lt k e) [
            | inl b ↦ same (source_node d k) (target_node d k) (source_in d k sound edge_k.edge_in) (target_in d k sound edge_k.edge_in) (h.joined k b edge_k)
            | inr b ↦
                let is : e ≡ k = omega arith in
                let P : ℕ → Type 0 = λ k. name_of new (source_node d k) ≡ name_of new (target_node d k) in
                subst P is (⊎_elim (λ q. ap (name_of new) q.0 ∙ both ∙ sym (ap (name_of new) q.1)) (λ q. ap (name_of new) q.0 ∙ sym both ∙ sym (ap (name_of new) q.1)) ends)
          ];
      linked = λ v l.
          elim (cases_eq (name_of old v) from) [
            | inl k ↦
                let a = at_from v l k in
                let P : ℕ → Type 0 = λ z. InOnePart d n v z in
                let one = subst P k (h.linked v l) in
                let two = part_back d n x from (h.linked x lx) in
                let three = part_join d n x y to part (h.linked y ly) in
                subst P (sym a) (part_join d n v from to one (part_join d n from x to two three))
            | inr k ↦ let P : ℕ → Type 0 = λ z. InOnePart d n v z in subst P (sym (other v l k)) (h.linked v l)
          ];
    }

-- each node its own name
pub own_are : (d : Document) (n : ℕ) (names : List ℕ) → Lists (λ v. v) (length d.nodes) names → AreNamesBelow d n 0 names
own_are d n names h =
    record {
      count = h.count;
      low = λ v l. let e = h.each v 0 l in omega (arith, e);
      fixed = λ v l. ap (name_of names) (h.each v 0 l);
      joined = λ e l. absurd (omega arith);
      linked = λ v l. let P : ℕ → Type 0 = λ z. InOnePart d n v z in subst P (sym (h.each v 0 l)) (stay v);
    }
