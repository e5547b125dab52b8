use Rattle.std.proofs.Common.{◌<◌, length, arith, refl}
use Rattle.std.proofs.lemmas.Int.{ints}
use Rattle.network_laws.proofs.Depths.{is_attained, keeps_rises, begins_at_zero}
use Rattle.network_laws.proofs.lower.lower_parts.Goals as goal

pub find_least-requires : goal.find_least-requires
find_least-requires c =
    let n = c.requires.parts.number_for_each in record {
      same = omega (arith, n);
      one_each = c.requires.one_each;
      in_range = λ v l. let b = c.requires.parts.in_range v (omega (arith, n, l)) in omega (arith, n, b);
      none = c.requires.none;
      low = λ v l. c.requires.low v (omega (arith, n, l));
    }

pub lower_all-requires : goal.lower_all-requires
lower_all-requires c =
    let n = c.requires.parts.number_for_each in
    let s = c.find_least.ensures in
    let m = s.as_long in
    record {
      same = omega (arith, n);
      in_range = λ v l. let b = c.requires.parts.in_range v (omega (arith, n, l)) in omega (arith, n, b, m);
      from_zero = λ v l.
          let parts = c.args.parts.now in
          let old = c.args.layers.now in
          let lv : v < length old = omega (arith, n, l) in
          let t = is_attained parts old c.find_least.new.least (length parts) v refl s l (let b = c.requires.parts.in_range v lv in omega (arith, n, b)) (c.requires.low v lv) in
          let z = c.requires.from_zero t.0 (let q = t.1 in omega (arith, q, n)) in
          let e = t.3 in
          omega (arith, ints, z, e);
      no_more = λ v l. s.no_more v l;
    }

pub returns-clause-from_zero : goal.returns-clause-from_zero
returns-clause-from_zero c =
    begins_at_zero (length c.args.layers.now) c.args.edges.now c.args.parts.now c.find_least.new.least c.args.layers.now c.lower_all.new.layers c.requires.parts c.find_least.ensures c.lower_all.ensures c.requires.low

pub returns-clause-rises : goal.returns-clause-rises
returns-clause-rises c =
    keeps_rises (length c.args.layers.now) c.args.edges.now c.args.parts.now c.find_least.new.least c.args.layers.now c.lower_all.new.layers c.requires.parts c.find_least.ensures c.lower_all.ensures c.requires.ends
