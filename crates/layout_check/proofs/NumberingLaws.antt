-- Numbers of parts, by names.
use Rattle.std.proofs.Common.{◌≡◌, ℕ, zero, suc, ◌<◌, Bool, true, eq-eqb, List, arith, refl, sym, ap, ◌∙◌, inl, inr, ⊎_elim, subst}
use Rattle.std.proofs.lemmas.Bool.{cases_lt, cases_order, cases_Bool, and_parts, and_from, eqb-true}
use Rattle.elk_doc.specs.Document.{Document}
use Rattle.elk_doc.specs.Level.{IsChild, source_node, target_node}
use Rattle.elk_doc.specs.Numbers.{count_below}
use Rattle.elk_doc.specs.Paths.{stay, go}
use Rattle.elk_doc.specs.Sound.{IsSound}
use Rattle.elk_doc.specs.Apart.{AreJoined, InOnePart}
use Rattle.elk_doc.proofs.NumberLaws.{count_below-zero, count_below-suc, count_below-suc_same, count_below-lt}
use Rattle.layout_check.proofs.ChildLaws.{ends_in}
use Rattle.layout_check.specs.Names.{AreNames, name_of}
use Rattle.layout_check.specs.FirstApart.{IsNumbering, is_leader, number_by}
use Rattle.layout_check.proofs.NameLaws.{part_join, part_back}

-- two numberings agree
agree_below : (d : Document) (n : ℕ) (f g : ℕ → ℕ) → IsNumbering d n f → IsNumbering d n g → (m a : ℕ) → a < m → IsChild d n a → f a ≡ g a
agree_below d n f g hf hg zero a l child = absurd (omega arith)
agree_below d n f g hf hg (suc m) a l child =
    elim (cases_order (f a) (g a)) [
      | inl e ↦ e
      | inr (inl less) ↦
          let b = hg.in_order a (f a) child less in
          let same = agree_below d n f g hf hg m b.0 (let k = b.2 in omega (arith, k)) b.1 in
          let part = (hf.same b.0 a b.1 child).0 (same ∙ b.3) in
          let equal = (hg.same b.0 a b.1 child).1 part in
          let at = b.3 in
          absurd (omega (arith, equal, at, less))
      | inr (inr less) ↦
          let b = hf.in_order a (g a) child less in
          let same = agree_below d n f g hf hg m b.0 (let k = b.2 in omega (arith, k)) b.1 in
          let part = (hg.same b.0 a b.1 child).0 (sym same ∙ b.3) in
          let equal = (hf.same b.0 a b.1 child).1 part in
          let at = b.3 in
          absurd (omega (arith, equal, at, less))
    ]

pub numberings_agree : (d : Document) (n : ℕ) (f g : ℕ → ℕ) (a : ℕ) → IsNumbering d n f → IsNumbering d n g → IsChild d n a → f a ≡ g a
numberings_agree d n f g a hf hg child = agree_below d n f g hf hg (suc a) a (omega arith) child

-- a number that passes has, for each smaller count, an earlier number that passes
count_found : (p : ℕ → Bool) (m i : ℕ) → i < count_below p m → (v : ℕ) × (v < m) × (p v ≡ true) × (count_below p v ≡ i)
count_found p zero i l = absurd (let z = count_below-zero p in omega (arith, z))
count_found p (suc m) i l =
    elim (cases_Bool (p m)) [
      | inr no_one ↦
          let s = count_below-suc_same p m no_one in
          let f = count_found p m i (omega (arith, s)) in
          (f.0, (let k = f.1 in omega (arith, k)), f.2, f.3)
      | inl y ↦
          let s = count_below-suc p m y in
          elim (cases_lt i (count_below p m)) [
            | inl b ↦ let f = count_found p m i b in (f.0, (let k = f.1 in omega (arith, k)), f.2, f.3)
            | inr b ↦ (m, omega arith, y, omega (arith, s))
          ]
    ]

-- edges lead from children to children
child_step : (d : Document) (n a b : ℕ) → IsSound d → AreJoined d n a b → IsChild d n b
child_step d n a b sound h =
    let e = h.0 in
    let edge = h.1 in
    let ends = ends_in d n e sound edge.edge_in edge.edge in
    let s : IsChild d n (source_node d e) = record { node_in = ends.0.0; child = ends.0.1 } in
    let t : IsChild d n (target_node d e) = record { node_in = ends.1.0; child = ends.1.1 } in
    let P : ℕ → Type 0 = λ v. IsChild d n v in
    ⊎_elim (λ q. subst P q.1 t) (λ q. subst P q.0 s) h.2

pub part_child : (d : Document) (n a b : ℕ) → IsSound d → InOnePart d n a b → IsChild d n a → IsChild d n b
part_child d n a b sound (stay _) h = h
part_child d n a b sound (go _ x _ s r) h = part_child d n x b sound r (child_step d n a x sound s)

-- what is joined has one name
pub same_name : (d : Document) (n : ℕ) (names : List ℕ) (a b : ℕ) → AreNames d n names → InOnePart d n a b → name_of names a ≡ name_of names b
same_name d n names a b h (stay _) = refl
same_name d n names a b h (go _ x _ s r) =
    let e = s.0 in
    let edge = s.1 in
    let j = h.joined e edge.edge_in edge in
    let step : name_of names a ≡ name_of names x = ⊎_elim (λ q. ap (name_of names) (sym q.0) ∙ j ∙ ap (name_of names) q.1) (λ q. ap (name_of names) (sym q.1) ∙ sym j ∙ ap (name_of names) q.0) s.2 in
    step ∙ same_name d n names x b h r

-- the name of a child is a child that names its part
pub leader_of : (d : Document) (n : ℕ) (names : List ℕ) (a : ℕ) → IsSound d → AreNames d n names → IsChild d n a → is_leader d n names (name_of names a) ≡ true
leader_of d n names a sound h child =
    let l = part_child d n a (name_of names a) sound (h.linked a child.node_in) child in
    and_from _ _ l.child (eq-eqb _ _ (h.fixed a child.node_in))

one_count : (p : ℕ → Bool) (a b : ℕ) → p a ≡ true → p b ≡ true → count_below p a ≡ count_below p b → a ≡ b
one_count p a b pa pb e =
    elim (cases_order a b) [
      | inl k ↦ k
      | inr (inl k) ↦ let l = count_below-lt p a b k pa in absurd (omega (arith, l, e))
      | inr (inr k) ↦ let l = count_below-lt p b a k pb in absurd (omega (arith, l, e))
    ]

pub number_by_names : (d : Document) (n : ℕ) (names : List ℕ) → IsSound d → AreNames d n names → IsNumbering d n (number_by d n names)
number_by_names d n names sound h =
    record {
      same = λ a b ca cb. (
        λ e.
            let one = one_count (is_leader d n names) (name_of names a) (name_of names b) (leader_of d n names a sound h ca) (leader_of d n names b sound h cb) e in
            let P : ℕ → Type 0 = λ z. InOnePart d n a z in
            part_join d n a (name_of names b) b (subst P one (h.linked a ca.node_in)) (part_back d n b (name_of names b) (h.linked b cb.node_in)),
        λ part. ap (count_below (is_leader d n names)) (same_name d n names a b h part),
      );
      in_order = λ a i ca l.
          let f = count_found (is_leader d n names) (name_of names a) i l in
          let v = f.0 in
          let low = h.low a ca.node_in in
          let below : v < a = let k = f.1 in omega (arith, k, low) in
          let leads = and_parts _ _ f.2 in
          let itself : name_of names v ≡ v = eqb-true _ _ leads.1 in
          let child : IsChild d n v = record { node_in = (let k = ca.node_in in omega (arith, below, k)); child = leads.0 } in
          (v, child, below, ap (count_below (is_leader d n names)) itself ∙ f.3);
    }
