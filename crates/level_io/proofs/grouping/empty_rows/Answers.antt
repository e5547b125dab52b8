use Rattle.std.proofs.Common.{◌≡◌, ℕ, ◌+◌, ◌∙◌, List, Vec, Global, [], length, ap, refl, subst, sym}
use Rattle.std.proofs.lemmas.List.{length_push}
use Rattle.level_io.specs.Grouping.{row_at, rows_in}
use Rattle.level_io.proofs.GroupLemmas.{none_grouped, rows_more}
use Rattle.level_io.proofs.grouping.empty_rows.Goals as goal

pub loop-init : goal.loop-init
loop-init c =
    subst (λ (rows : List (Vec ℕ Global)). (length rows ≡ 0) × ((k : ℕ) → row_at (rows_in rows) k ≡ [])) (sym c.in_ok-rows.ensures.items) (refl, λ k. refl)

pub loop-preserved : goal.loop-preserved
loop-preserved c =
    let pushed = c.in_ok-push.ensures.items in
    let many = c.loop.invariant.0 in (
      ap length pushed ∙ length_push c.loop.rows.items _ ∙ ap (λ n. n + 1) many,
      rows_more c.loop.rows.items c.push.new.self.items _ pushed c.new.ensures.items c.loop.invariant.1,
    )

pub returns-clause-empty : goal.returns-clause-empty
returns-clause-empty c = λ keys. none_grouped keys (rows_in c.loop.rows.items) c.loop.invariant.1
