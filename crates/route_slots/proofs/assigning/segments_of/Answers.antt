use Rattle.std.proofs.Common.{◌≡◌, ◌++◌, ◌∷◌, [], false, pos, length, ap, arith, rules}
use Rattle.std.proofs.lemmas.List.{length_push}
use Rattle.route_slots.specs.declared.slotting.Segment.{Segment}
use Rattle.net_routes.specs.Pieces.{net_at}
use Rattle.route_slots.specs.Marks.{mark_at, height_of, segment_a, segment_b}
use Rattle.net_routes.proofs.Lists.{two_pushed}
use Rattle.route_slots.proofs.assigning.segments_of.Goals as goal

pub nets-preserved : goal.nets-preserved
nets-preserved c =
    let nets = c.args.nets.now in
    let marks = c.args.marks.now in
    let middles = c.args.middles.now in
    let old = c.nets.segments.items in
    let one = c.push.new.self.items in
    let two = c.push-in-nets.new.self.items in
    let with_one : c.push.new.self.items ≡ c.nets.segments.items ++ c.first_segment.result ∷ [] = search rules in
    let with_two : c.push-in-nets.new.self.items ≡ c.push.new.self.items ++ c.second_segment.result ∷ [] = search rules in
    let is = c.nets.invariant in
    let pushed =
    two_pushed Segment (record { real = false; depth = 0; low = pos 0; high = pos 0 })
    (λ k p. p ≡ segment_a (mark_at marks k) (net_at nets k) (height_of middles k)) (λ k p. p ≡ segment_b (mark_at marks k) (net_at nets k) (height_of middles k))
    old one two c.first_segment.result c.second_segment.result c.nets.number is.len with_one with_two is.at_a c.first_segment.ensures is.at_b c.second_segment.ensures in
    let len_one = ap length with_one in
    let len_two = ap length with_two in
    let push_one = length_push old c.first_segment.result in
    let push_two = length_push one c.second_segment.result in
    let len = is.len in
    record { len = omega arith; at_a = pushed.0; at_b = pushed.1 }
