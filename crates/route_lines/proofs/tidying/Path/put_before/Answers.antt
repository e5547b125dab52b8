use Rattle.std.proofs.Common.{◌≡◌, ◌∷◌, ◌++◌, [], reverse, sym, ap, ◌∙◌, subst, rules}
use Rattle.std.proofs.lemmas.List.{reverse-append}
use Rattle.route_lines.specs.Tidied.{IsMiddleBeforeFirst, IsTidied}
use Rattle.route_lines.proofs.PuttingBefore.{same_before, passed_before, kept_before}
use Rattle.route_lines.proofs.tidying.Path.put_before.Goals as goal

pub returns-then-is_same : goal.returns-then-is_same
returns-then-is_same c =
    let same : c.args.point ≡ c.args.self.now.head = search rules in
    λ ps t. same_before c.args.point c.args.self.now.head (reverse c.args.self.now.behind.items) ps same t

pub returns-then-is_passed : goal.returns-then-is_passed
returns-then-is_passed c =
    let differ : c.args.point ≡ c.args.self.now.head → ⊥ = search rules in
    let passed : IsMiddleBeforeFirst c.args.point c.args.self.now.head (reverse c.args.self.now.behind.items) = search rules in
    λ ps t. passed_before c.args.point c.args.self.now.head (reverse c.args.self.now.behind.items) ps differ passed t

pub returns : goal.returns
returns c =
    let differ : c.args.point ≡ c.args.self.now.head → ⊥ = search rules in
    let kept : IsMiddleBeforeFirst c.args.point c.args.self.now.head (reverse c.args.self.now.behind.items) → ⊥ = search rules in
    let items : c.push.new.self.items ≡ c.args.self.now.behind.items ++ c.args.self.now.head ∷ [] = search rules in
    λ ps t. subst (λ z. IsTidied (c.args.point ∷ ps) (c.args.point ∷ z))
    (sym (ap reverse items ∙ reverse-append c.args.self.now.behind.items (c.args.self.now.head ∷ [])))
    (kept_before c.args.point c.args.self.now.head (reverse c.args.self.now.behind.items) ps differ kept t)
