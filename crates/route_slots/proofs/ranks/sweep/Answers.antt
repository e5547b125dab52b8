use Rattle.std.proofs.Common.{◌≡◌, ◌+◌, ◌<◌, ℕ, List, refl, sym, subst, arith}
use Rattle.route_slots.specs.NetDepths.{net_depth}
use Rattle.route_slots.specs.Ranks.{no_rank, AreRanks, IsHeldBack}
use Rattle.route_slots.proofs.ranks.sweep.Goals as goal
use Rattle.route_slots.proofs.ranks.sweep.Goals.{then-rank, else-rank}
use borrow.Author.Count.{below_more}

pub nets-preserved : goal.nets-preserved
nets-preserved c =
    let nets = c.args.nets.now in
    let was = c.nets.invariant.more in
    elim c.if-rank.branch [
      | then-rank w ↦
          let more = w.then-is in
          record {
            ranks = subst (AreRanks nets c.rank.new.depths) (sym w.then-is) (w.if-rank.ensures.yes refl);
            more = omega arith;
            none = λ e. absurd (omega arith);
          }
      | else-rank w ↦
          let same = w.if-rank.ensures.no refl in
          let kept = w.then-is in
          record {
            ranks = subst (AreRanks nets c.rank.new.depths) (sym w.then-is) (subst (λ (ls : List ℕ). AreRanks c.args.nets.now ls c.nets.then) (sym same) c.nets.invariant.ranks);
            more = omega arith;
            none = λ e.
                subst (λ (ls : List ℕ). (k : ℕ) → k < c.nets.number + 1 → net_depth ls k ≡ no_rank → IsHeldBack c.args.nets.now ls k) (sym same)
                (below_more (λ k. net_depth c.nets.depths k ≡ no_rank → IsHeldBack c.args.nets.now c.nets.depths k) c.nets.number (c.nets.invariant.none (omega arith)) (w.if-rank.ensures.held refl));
          }
    ]
