use Rattle.std.proofs.Common.{◌≡◌, ◌+◌, ◌∷◌, ◌++◌, ℕ, List, slice_range, take, subst}
use Rattle.elk_lines.specs.Reader.{HasNoFeed}
use Rattle.elk_lines.specs.Steps.{IsDraft}
use Rattle.elk_lines.proofs.Parting.{parted_at}
use Rattle.elk_lines.proofs.store.move_held.Goals as goal

pub returns-in_ok-add-in-Some-clause-moved : goal.returns-in_ok-add-in-Some-clause-moved
returns-in_ok-add-in-Some-clause-moved c =
    λ bytes dr.
    let s = c.args.store.now in
    let at = c.in-Some.at in
    let v = c.as_slice.ensures.value in
    let found = c.in-Some.ensures in (
      take at (slice_range s.bytes.items s.start s.end),
      subst (λ (l : List ℕ). HasNoFeed (take at (slice_range l s.start s.end))) v found.1,
      subst (λ (l : List ℕ). slice_range l s.start s.end ≡ take at (slice_range l s.start s.end) ++ 10 ∷ slice_range l (s.start + (at + 1)) s.end) v (parted_at c.as_slice.result.now s.start s.end at found.0 found.2),
      subst (λ (l : List ℕ). IsDraft c.args.longest (bytes ++ take at (slice_range l s.start s.end)) c.add.new.draft) v (c.in_ok-add-in-Some.ensures.added bytes dr),
    )
