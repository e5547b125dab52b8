use Rattle.std.proofs.Common.{◌≡◌, false, ◌≤◌, ◌+◌, ◌-◌, vec_len}
use Rattle.elk_lines.specs.Steps.{IsStore, IsUnderWay, held}
use Rattle.elk_lines.proofs.turns.gather.Given as goal

abbrev pub invariant-turns : goal.invariant-turns
invariant-turns g l =
    record {
      store : IsStore l.store;
      room : 16384 ≤ vec_len l.store.bytes;
      within : vec_len l.draft.bytes ≤ l.longest;
      taken : l.store.taken ≤ l.limit;
      under_way : IsUnderWay l.longest (held l.fn.store) (g.S.Source.left l.fn.src) (g.S.Source.left l.src) l.fn.store.taken l.store.taken (held l.store) l.draft;
      on : l.draft.ended ≡ false;
      later : g.S.Source.faults l.fn.src ≤ g.S.Source.faults l.src;
    }

abbrev pub decreases-turns : goal.decreases-turns
decreases-turns g l = l.limit + 1 - l.store.taken
