use Rattle.std.proofs.Common.{◌≡◌, ℕ, ◌≤◌, ap, arith, subst, refl, inl, inr, rules}
use Rattle.elk_doc.specs.Level.{source_node, target_node}
use Rattle.layout_check.specs.Names.{Renames, name_of}
use Rattle.layout_check.proofs.NameLaws.{join_names, edge_part, part_back, source_in, target_in}
use Rattle.layout_check.proofs.names.join.Goals as goal

pub returns-then-one-other : goal.returns-then-one-other
returns-then-one-other c =
    let d = c.args.doc.now in
    let n = c.args._node in
    let e = c.args.edge in
    let old = c.args.names.now in
    let new = c.rename.new.names in
    let s : c.node_of.result ≡ source_node d e = search rules in
    let t : c.node_of-2.result ≡ target_node d e = search rules in
    let R : ℕ → Type 0 = λ a. Renames old (name_of old a) (name_of old c.node_of.result) new in
    let Q : ℕ → Type 0 = λ b. Renames old (name_of old (target_node d e)) (name_of old b) new in
    let renames = subst Q s (subst R t c.rename.ensures) in
    let one = ap (name_of old) s in
    let other = ap (name_of old) t in
    let le : name_of old (source_node d e) ≤ name_of old (target_node d e) = omega (arith, one, other) in
    let part = edge_part d n e c.requires.edge_of in
    join_names d n e (target_node d e) (source_node d e) old new c.requires.sound c.requires.names c.requires.edge_of
    (target_in d e c.requires.sound c.requires.edge_of.edge_in) (source_in d e c.requires.sound c.requires.edge_of.edge_in)
    (part_back d n (source_node d e) (target_node d e) part) (inr (refl, refl)) le renames

pub returns-else-one-other : goal.returns-else-one-other
returns-else-one-other c =
    let d = c.args.doc.now in
    let n = c.args._node in
    let e = c.args.edge in
    let old = c.args.names.now in
    let new = c.rename-else-one-other.new.names in
    let s : c.node_of.result ≡ source_node d e = search rules in
    let t : c.node_of-2.result ≡ target_node d e = search rules in
    let R : ℕ → Type 0 = λ a. Renames old (name_of old a) (name_of old c.node_of-2.result) new in
    let Q : ℕ → Type 0 = λ b. Renames old (name_of old (source_node d e)) (name_of old b) new in
    let renames = subst Q t (subst R s c.rename-else-one-other.ensures) in
    let one = ap (name_of old) s in
    let other = ap (name_of old) t in
    let le : name_of old (target_node d e) ≤ name_of old (source_node d e) = omega (arith, one, other) in
    join_names d n e (source_node d e) (target_node d e) old new c.requires.sound c.requires.names c.requires.edge_of
    (source_in d e c.requires.sound c.requires.edge_of.edge_in) (target_in d e c.requires.sound c.requires.edge_of.edge_in)
    (edge_part d n e c.requires.edge_of) (inl (refl, refl)) le renames
