use Rattle.std.proofs.Common.{◌∙◌, get_or, arith, ap, sym, inl, inr}
use Rattle.net_simplex.proofs.Resizing.{resize_start, low_late, low_earlier, low_enough, low_more, high_late, high_earlier, high_fits, high_more, resize_end}
use Rattle.net_simplex.proofs.rerooting.resize.Goals as goal

pub way-init : goal.way-init
way-init c = resize_start _ _ _ _ _ c.requires.walk c.args.many c.args.from c.args.to c.requires.from c.requires.to c.requires.held

pub resize_later-next-requires : goal.resize_later-next-requires
resize_later-next-requires c =
    let s = c.way.invariant in
    let p = c.requires.parent in
    let a = s.low_there in
    let b = s.high_there in
    record {
      low = omega (arith, a, p);
      high = omega (arith, b, p);
      place = c.requires.walk.place_each ∙ sym p;
      size = s.size_each ∙ sym p;
      low_hangs = λ later. c.requires.edges c.way.low a (low_late _ _ _ _ _ c.requires.walk _ _ _ c.requires.from c.requires.to c.requires.held _ _ _ c.way.invariant later);
      loses = λ later. low_enough _ _ _ _ _ c.requires.walk _ _ _ c.requires.from c.requires.to c.requires.held _ _ _ c.way.invariant later;
      high_hangs = λ later. c.requires.edges c.way.high b (high_late _ _ _ _ _ c.requires.walk _ _ _ c.requires.from c.requires.to c.requires.held _ _ _ c.way.invariant later c.if-low-high.false);
      gains = λ later.
          let f = high_fits _ _ _ _ _ c.requires.walk _ _ _ c.requires.from c.requires.to c.requires.held _ _ _ c.way.invariant later c.if-low-high.false in
          let m = c.requires.block in
          let few = c.requires.few in
          omega (arith, f, m, few);
    }

pub way-preserved : goal.way-preserved
way-preserved c =
    let passes = c.resize_later-next.ensures in
    elim passes [
      | inl x ↦ rw (x.1, x.2, x.3) (low_more _ _ _ _ _ c.requires.walk _ _ _ c.requires.from c.requires.to c.requires.held _ _ _ c.way.invariant x.0)
      | inr x ↦ rw (x.1, x.2, x.3) (high_more _ _ _ _ _ c.requires.walk _ _ _ c.requires.from c.requires.to c.requires.held _ _ _ c.way.invariant x.0 c.if-low-high.false)
    ]

pub way-smaller : goal.way-smaller
way-smaller c =
    let place = c.args.tree.now.place.items in
    let passes = c.resize_later-next.ensures in
    elim passes [
      | inl x ↦
          let f = ap (λ v. get_or place v 0) x.1 in
          let t = ap (λ v. get_or place v 0) x.2 in
          let e = low_earlier _ _ _ _ _ c.requires.walk _ _ _ c.requires.from c.requires.to c.requires.held _ _ _ c.way.invariant x.0 in
          omega (arith, f, t, e)
      | inr x ↦
          let f = ap (λ v. get_or place v 0) x.1 in
          let t = ap (λ v. get_or place v 0) x.2 in
          let e = high_earlier _ _ _ _ _ c.requires.walk _ _ _ c.requires.from c.requires.to c.requires.held _ _ _ c.way.invariant x.0 c.if-low-high.false in
          omega (arith, f, t, e)
    ]

pub returns-then-low-high : goal.returns-then-low-high
returns-then-low-high c = record { same = c.way.invariant.size_each; sizes = resize_end _ _ _ _ _ c.requires.walk _ _ _ c.requires.from c.requires.to c.requires.held _ _ _ c.way.invariant c.if-low-high.true }
