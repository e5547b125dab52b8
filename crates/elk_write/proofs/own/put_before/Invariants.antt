use Rattle.std.proofs.Common.{◌≡◌, ℕ, List, Bool, false, drop}
use Rattle.serde_json.specs.Data.{Data, Members, member}
use Rattle.elk_json.specs.Keyed.{IsBelow}
use Rattle.elk_write.specs.Tokens.{tokens_of_members, Leaves}
use Rattle.elk_write.specs.Merged.{own_members, puts, IsSorted, AreGone}
use Rattle.elk_write.proofs.own.put_before.Given as goal

abbrev pub invariant-loop-number : goal.invariant-loop-number
invariant-loop-number l =
    (gone : List ℕ → Bool) (d : Data) (ms : Members) → IsSorted (own_members l.own) → AreGone gone (own_members l.own) → gone l.key ≡ false → IsBelow l.key ms
    → Leaves l.initial.out (tokens_of_members (puts (own_members (drop l.next l.own)) (member l.key d ms)))
    l.out (tokens_of_members (puts (own_members (drop l.number l.own)) (member l.key d ms)))
