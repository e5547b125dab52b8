use Rattle.std.proofs.Common.{◌≢◌, ◌+◌, ◌++◌, ℕ, List, Ok, Err, arith, rules, subst}
use Rattle.elk_lines.specs.Answers.{IsAnswer}
use Rattle.elk_lines.specs.Steps.{held, told_by}
use Rattle.elk_lines.proofs.Parting.{all_took, all_count, all_joined, way_on}
use Rattle.elk_lines.proofs.turns.gather.Goals as goal

pub returns-in-Ok-Some-clause-bytes : goal.returns-in-Ok-Some-clause-bytes
returns-in-Ok-Some-clause-bytes g c =
    let left0 = g.S.Source.left c.args.src.now in
    let left = g.S.Source.left c.turns.src in
    let left' = g.S.Source.left c.turn.new.src in
    let s0 = c.args.store.now in
    let s = c.turns.store in
    let s' = c.turn.new.store in
    let d = c.turns.draft in
    let d' = c.turn.new.draft in
    let u = c.turns.invariant.under_way in
    let t = rw c.in-Ok-Some.field-0-is at c.in-Ok-Some.ensures.bytes in (
      u.more ++ t.0,
      all_took c.args.longest (held s0) left0 left left' s0.taken s.taken s'.taken (held s) (held s') t.0 d d' u t.1 t.2,
      all_count c.args.longest (held s0) left0 left left' s0.taken s.taken s'.taken (held s) (held s') t.0 d d' u t.1 t.2,
      subst (λ (l : List ℕ). IsAnswer c.args.longest l (held s') (told_by d') left' d'.ended (Ok c.in-Ok-Some.piece))
          (all_joined c.args.longest (held s0) left0 left left' s0.taken s.taken s'.taken (held s) (held s') t.0 d d' u t.1 t.2) (t.3 u.bytes u.no_feed u.draft),
    )

pub turns-preserved : goal.turns-preserved
turns-preserved g c =
    let left0 = g.S.Source.left c.args.src.now in
    let left = g.S.Source.left c.turns.src in
    let left' = g.S.Source.left c.turn.new.src in
    let s0 = c.args.store.now in
    let s = c.turns.store in
    let s' = c.turn.new.store in
    let d = c.turns.draft in
    let d' = c.turn.new.draft in
    let u = c.turns.invariant.under_way in
    let t = rw c.in-Ok-None.field-0-is at c.in-Ok-None.ensures.bytes in
    let a = t.3 u.bytes u.no_feed u.draft in
    let past : s'.taken ≢ c.args.limit + 1 = λ q. (let bad = c.in-Ok-None.ensures.past.1 q in cc) in
    let most = c.in-Ok-None.ensures.limit in
    record {
      store = search rules;
      room = search rules;
      within = search rules;
      taken = omega (arith, past, most);
      under_way = way_on c.args.longest (held s0) left0 left left' s0.taken s.taken s'.taken (held s) (held s') t.0 d d' u t.1 t.2 a.0 a.1 a.2;
      later = search rules;
      on = search rules;
    }

pub returns-in-Err-clause-bytes : goal.returns-in-Err-clause-bytes
returns-in-Err-clause-bytes g c =
    let left0 = g.S.Source.left c.args.src.now in
    let left = g.S.Source.left c.turns.src in
    let left' = g.S.Source.left c.turn.new.src in
    let s0 = c.args.store.now in
    let s = c.turns.store in
    let s' = c.turn.new.store in
    let d = c.turns.draft in
    let d' = c.turn.new.draft in
    let u = c.turns.invariant.under_way in
    let t = c.in-Err.ensures.bytes in (
      u.more ++ t.0,
      all_took c.args.longest (held s0) left0 left left' s0.taken s.taken s'.taken (held s) (held s') t.0 d d' u t.1 t.2,
      all_count c.args.longest (held s0) left0 left left' s0.taken s.taken s'.taken (held s) (held s') t.0 d d' u t.1 t.2,
      subst (λ (l : List ℕ). IsAnswer c.args.longest l (held s') (told_by d') left' d'.ended (Err c.in-Err.fault))
          (all_joined c.args.longest (held s0) left0 left left' s0.taken s.taken s'.taken (held s) (held s') t.0 d d' u t.1 t.2) (t.3 u.bytes u.no_feed u.draft),
    )
