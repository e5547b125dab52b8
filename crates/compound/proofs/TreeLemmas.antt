-- A parent stands before its children, and a node with a level is no leaf.
use Rattle.std.proofs.Common.{◌≡◌, ℕ, zero, suc, ◌<◌, true, false, ap, subst, arith, eqb-true, rules}
use Rattle.std.specs.Prelude.{Option, None, Some, IsNone, unwrap_or}
use Rattle.elk_doc.specs.declared.document.LevelOptions.{LevelOptions}
use Rattle.elk_doc.specs.Document.{Document, node_at, parent_of}
use Rattle.elk_doc.specs.Level.{IsChild, is_number}
use Rattle.elk_doc.specs.Sound.{IsSound}

some_number : (o : Option ℕ) (n : ℕ) → is_number o n ≡ true → o ≡ Some n
some_number None n h = absurd (let bad : false ≡ true = h in cc)
some_number (Some m) n h = ap Some (eqb-true m n h)

none_or_some : (o : Option ℕ) (n : ℕ) → IsNone o → o ≡ Some n → ⊥
none_or_some o n none some = let bad : IsNone (Some n) = subst IsNone some none in absurd (search rules)

pub child_after : (d : Document) (n c : ℕ) → IsSound d → IsChild d n c → n < c
child_after d n zero sound h = absurd (none_or_some (node_at d 0).parent n sound.tree.root_alone (some_number (node_at d 0).parent n h.child))
child_after d n (suc c) sound h =
    let is : parent_of d (suc c) ≡ n = ap (λ o. unwrap_or o 0) (some_number (node_at d (suc c)).parent n h.child) in
    let before = (sound.tree.parents (suc c) (omega arith) h.node_in).before in
    omega (arith, is, before)

-- a node with a level is no leaf
pub leaf_or_level : (level : Option LevelOptions) (o : LevelOptions) → level ≡ Some o → IsNone level → ⊥
leaf_or_level level o some none = let bad : IsNone (Some o) = subst IsNone some none in absurd (search rules)

pub same_options : (a b : LevelOptions) → Some a ≡ Some b → a ≡ b
same_options a b e = search rules
