use Rattle.std.proofs.Common.{◌≡◌, ◌++◌, ◌∷◌, [], false, length, subst, arith, rules}
use Rattle.std.proofs.lemmas.List.{get_or_read}
use Rattle.route_slots.specs.declared.marks.Mark.{Mark}
use Rattle.net_routes.specs.Pieces.{net_at}
use Rattle.route_slots.specs.Depths.{depth, depth_of, is_split}
use Rattle.route_slots.specs.Marks.{IsMarkOf, AreMarked}
use Rattle.net_routes.proofs.Lists.{each_pushed}
use Rattle.route_slots.proofs.DepthLemmas.{are_marks}
use Rattle.route_slots.proofs.marks.net_marks.Goals as goal

pub nets-preserved : goal.nets-preserved
nets-preserved c =
    let items : c.push.new.self.items ≡ c.nets.marks.items ++ c.mark_of-mark.result ∷ [] = search rules in
    let nets = c.args.nets.now in
    let depths = c.args.depths.now in
    let i = c.nets.number in
    let mark = c.mark_of-mark.result in
    let l = c.nets-test.true in
    let len = c.requires.depths.len in
    let read = get_or_read depths.splits.items i c.index.result.now (omega arith) c.index.ensures false in
    let here : IsMarkOf (net_at c.args.nets.now c.nets.number) (depth_of (depth c.args.depths.now) (net_at c.args.nets.now c.nets.number).a) (depth_of (depth c.args.depths.now) (net_at c.args.nets.now c.nets.number).b) (is_split c.args.depths.now.splits.items c.nets.number) c.mark_of-mark.result =
    subst (λ b. IsMarkOf (net_at nets i) (depth_of (depth depths) (net_at nets i).a) (depth_of (depth depths) (net_at nets i).b) b mark) read
    (subst (λ y. IsMarkOf (net_at nets i) (depth_of (depth depths) (net_at nets i).a) y c.index.result.now mark) c.pin_depth-in-nets.ensures
    (subst (λ x. IsMarkOf (net_at nets i) x c.pin_depth-in-nets.result c.index.result.now mark) c.pin_depth.ensures c.mark_of-mark.ensures)) in
    record {
      len = search rules;
      each =
          each_pushed Mark (record { straight = false; split = false; at_a = 0; at_b = 0 })
          (λ k m. IsMarkOf (net_at c.args.nets.now k) (depth_of (depth c.args.depths.now) (net_at c.args.nets.now k).a) (depth_of (depth c.args.depths.now) (net_at c.args.nets.now k).b) (is_split c.args.depths.now.splits.items k) m)
          c.nets.marks.items c.push.new.self.items c.mark_of-mark.result c.nets.number c.nets.invariant.len items c.nets.invariant.each here;
    }

pub returns-clause-marks : goal.returns-clause-marks
returns-clause-marks c =
    let e : c.nets.number ≡ length c.args.nets.now = omega arith in
    are_marks c.args.nets.now c.args.depths.now.splits.items (depth c.args.depths.now) c.nets.marks.items c.requires.depths
    (subst (λ n. AreMarked c.args.nets.now c.args.depths.now.splits.items (depth c.args.depths.now) c.nets.marks.items n) e c.nets.invariant)

pub returns-clause-marked : goal.returns-clause-marked
returns-clause-marked c =
    let e : c.nets.number ≡ length c.args.nets.now = omega arith in
    subst (λ n. AreMarked c.args.nets.now c.args.depths.now.splits.items (depth c.args.depths.now) c.nets.marks.items n) e c.nets.invariant
