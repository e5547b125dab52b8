use Rattle.std.proofs.Common.{◌≡◌, ◌∙◌, ⊎_elim, inl, inr, ℕ, ◌<◌, ◌≤ℤ◌, length, arith}
use Rattle.std.proofs.lemmas.Int.{ints}
use Rattle.std.specs.Int.{int_max}
use borrow.Author.Count.{below_more}
use Rattle.net_routes.specs.Pieces.{net_at}
use Rattle.net_routes.specs.GapFree.{AreHeights}
use Rattle.route_slots.proofs.Raising.{raised_above, raised_here, raised_is, raised_below}
use Rattle.route_slots.proofs.middles.highest.Goals as goal

pub nets-preserved : goal.nets-preserved
nets-preserved c =
    let i = c.nets.net-index in
    let nets = c.args.nets.now in
    let h : c.nets.net-index < length c.args.nets.now = omega arith in
    let new = c.raised-top.result.value in
    let old = c.nets.top.value in
    let net = net_at nets i in
    let e = c.raised-top.ensures in
    let heights : AreHeights net = c.requires i _ h in
    let range = c.nets.invariant.range in
    record {
      above = below_more (λ k. ((net_at nets k).a.height ≤ℤ new) × ((net_at nets k).b.height ≤ℤ new)) i
          (λ k l. let was = c.nets.invariant.above k l in
          (raised_above old net.a.height net.b.height new (net_at nets k).a.height e was.0, raised_above old net.a.height net.b.height new (net_at nets k).b.height e was.1))
          (raised_here old net.a.height net.b.height new e);
      reached = ⊎_elim
          (λ (same : new ≡ old). ⊎_elim
          (λ least. inl (same ∙ least))
          (λ (w : (k : ℕ) × (k < length nets) × (old ≤ℤ int_max (net_at nets k).a.height (net_at nets k).b.height)). let w2 = w.2 in inr (w.0, w.1, omega (arith, ints)))
          c.nets.invariant.reached)
          (λ low. inr (i, h, low))
          (raised_is old net.a.height net.b.height new e);
      range = record {
        low = raised_above old net.a.height net.b.height new _ e range.low;
        high = raised_below old net.a.height net.b.height new _ e range.high heights.a.high heights.b.high;
      };
    }
