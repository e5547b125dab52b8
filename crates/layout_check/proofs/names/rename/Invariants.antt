use Rattle.std.proofs.Common.{◌≡◌, ℕ, ◌<◌, ◌≤◌, cond, eqb}
use Rattle.layout_check.specs.Names.{name_of}
use Rattle.layout_check.proofs.names.rename.Given as goal

abbrev pub invariant-loop-name : goal.invariant-loop-name
invariant-loop-name l =
    record {
      done : (v : ℕ) → v < l.name-index → name_of l.names v ≡ cond (eqb (name_of l.fn.names v) l.from) l.to (name_of l.fn.names v);
      left : (v : ℕ) → l.name-index ≤ v → name_of l.names v ≡ name_of l.fn.names v;
    }
