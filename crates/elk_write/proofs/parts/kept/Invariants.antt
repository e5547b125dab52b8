use Rattle.std.proofs.Common.{◌≡◌}
use Rattle.serde_json.specs.Data.{no_members}
use Rattle.serde_json.specs.View.{members_view}
use Rattle.elk_write.specs.Answered.{kept_into}
use Rattle.elk_write.proofs.parts.kept.Given as goal

abbrev pub invariant-loop-key : goal.invariant-loop-key
invariant-loop-key l =
    kept_into l.edge (members_view l.copies.entries) (members_view l.key-iterator)
    ≡ kept_into l.edge no_members (members_view l.members.entries)
