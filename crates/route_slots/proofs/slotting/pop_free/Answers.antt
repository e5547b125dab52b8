use Rattle.std.proofs.Common.{◌≡◌, ◌∙◌, ⊎_elim, true, false, refl, sym, subst, ◌<ℤ◌, ◌≤ℤ◌, arith, rules}
use Rattle.std.specs.BTreeSet.{UpdatesBy, IsLowerBound}
use Rattle.std.proofs.lemmas.Int.{ints}
use Rattle.route_slots.specs.Slotting.{end_cmp, has_end}
use Rattle.route_slots.proofs.Keys.{taken_from, taken_kept, same_end, least_end}
use Rattle.route_slots.proofs.slotting.pop_free.Goals as goal

pub returns-clause-free : goal.returns-clause-free
returns-clause-free c =
    let there : has_end c.args.row.now.busy c.in-Some.end.now ≡ true = search rules in
    let u : UpdatesBy end_cmp (end_cmp c.in-Some.end.now) c.args.row.now.busy c.remove-found.new.self false = search rules in
    let above : c.in-Some.end.now.0 <ℤ c.args.segment.low = search rules in
    record {
      end = c.in-Some.end.now.0;
      there = there;
      above = above;
      depth = refl;
      count = refl;
      from = λ q h. (
        taken_from _ _ _ (u.0 q) h,
        λ e. let bad : true ≡ false = sym (subst (λ z. has_end c.remove-found.new.self z ≡ true) e h) ∙ u.1 in cc,
      );
      kept = λ q h ne. ⊎_elim
          (λ same. absurd (ne (sym (same_end c.in-Some.end.now q same))))
          (λ still. still)
          (taken_kept _ _ _ (u.0 q) h);
    }

pub returns-then-end-segment-clause-full : goal.returns-then-end-segment-clause-full
returns-then-end-segment-clause-full c =
    let least : IsLowerBound end_cmp c.args.row.now.busy c.in-Some.end.now = search rules in
    let past : c.args.segment.low ≤ℤ c.in-Some.end.now.0 = search rules in
    λ q h. let le = least_end c.in-Some.end.now q (least q h) in omega (arith, ints)
