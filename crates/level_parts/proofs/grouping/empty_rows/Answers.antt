use Rattle.std.proofs.Common.{◌≡◌, ℕ, ◌+◌, ◌∙◌, List, [], Vec, Global, length, arith, ap, refl, subst, sym}
use Rattle.std.proofs.lemmas.List.{length_push}
use Rattle.level_parts.specs.Groups.{lists_of, row_at}
use Rattle.level_parts.proofs.GroupLemmas.{empty_more}
use Rattle.level_parts.proofs.grouping.empty_rows.Goals as goal

pub loop-init : goal.loop-init
loop-init c =
    subst (λ (rows : List (Vec ℕ Global)). (length rows ≡ 0) × ((k : ℕ) → row_at (lists_of rows) k ≡ [])) (sym c.in_ok-rows.ensures.items)
    (refl, λ k. refl)

pub loop-preserved : goal.loop-preserved
loop-preserved c =
    let pushed = c.in_ok-push.ensures.items in
    let many = c.loop.invariant.0 in (
      ap length pushed ∙ length_push c.loop.rows.items _ ∙ ap (λ n. n + 1) many,
      empty_more c.loop.rows.items c.push.new.self.items _ pushed c.new.ensures.items c.loop.invariant.1,
    )

pub returns : goal.returns
returns c =
    let many = c.loop.invariant.0 in
    let all : c.loop.counter ≡ c.args.count = omega arith in
    record { as_many = many ∙ all; empty = c.loop.invariant.1 }
