use Rattle.std.proofs.Common.{◌≢◌, ◌<◌, ◌∷◌, ℕ, List, [], length, take, get_or, rules, sym, subst}
use Rattle.std.proofs.lemmas.List.{take_more}
use Rattle.std.proofs.lemmas.List.Elements.{All-append, All-cons, All-nil}
use Rattle.elk_lines.specs.Reader.{HasNoFeed}
use Rattle.elk_lines.proofs.draft.find_feed.Goals as goal

pub loop-at-preserved : goal.loop-at-preserved
loop-at-preserved c =
    let xs = c.args.bytes.now in
    let i = c.loop-at.at in
    let b : i < length xs = search rules in
    let other : get_or xs i 0 ≢ 10 = search rules in
    subst (λ (l : List ℕ). HasNoFeed l) (sym (take_more xs i 0 b))
    (All-append (λ (b : ℕ). b ≢ 10) (take i xs) (get_or xs i 0 ∷ []) c.loop-at.invariant (All-cons (λ (b : ℕ). b ≢ 10) (get_or xs i 0) [] other (All-nil (λ (b : ℕ). b ≢ 10))))
