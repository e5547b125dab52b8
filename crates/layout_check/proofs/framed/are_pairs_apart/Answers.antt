use Rattle.std.proofs.Common.{◌≡◌, ◌<◌, inl, inr, sym, subst, below_more, arith}
use Rattle.std.proofs.lemmas.Bool.{cases_lt}
use Rattle.layout_check.specs.Framed.{AreSpaced, IsBehind, child_at}
use Rattle.layout_check.proofs.framed.are_pairs_apart.Goals as goal

pub loop-i-preserved : goal.loop-i-preserved
loop-i-preserved c =
    let xs = c.args.children.now in
    let now = c.in-Some.ensures in
    let known = c.loop-i.invariant in
    record {
      behind = below_more (λ k. IsBehind c.in-Some.next (child_at xs k)) _ (λ k l. now.kept _ (known.behind k l)) now.held;
      spaced = λ j k less under.
          elim (cases_lt k c.loop-i.i) [
            | inl before ↦ known.spaced j k less before
            | inr after ↦
                let same : k ≡ c.loop-i.i = omega (arith, after, under) in
                let inside : j < c.loop-i.i = omega (arith, less, same) in
                subst (λ k. AreSpaced (child_at xs j) (child_at xs k)) (sym same) (now.spaced _ (known.behind j inside))
          ];
    }
