use Rattle.std.proofs.Common.{◌∙◌, get_or, w64, arith, ap, sym, inl, inr}
use Rattle.std.proofs.lemmas.Int.{to_z-of_z}
use Rattle.net_simplex.proofs.Passages.{pass_start, from_can, from_earlier, from_passed, to_can, to_earlier, to_passed, pass_end}
use Rattle.net_simplex.proofs.passing.pass_way.Goals as goal

pub way-init : goal.way-init
way-init c = rw (to_z-of_z w64 c.args.by c.ranges.by) (pass_start _ _ _ _ _ _ c.requires.rooted c.requires.spanning c.requires.ends c.args.begin c.args.end c.args.by c.args.cut.now c.requires.begin c.requires.end c.requires.cut)

pub pass_later-next-requires : goal.pass_later-next-requires
pass_later-next-requires c =
    let r = c.requires.rooted in
    let p = r.parent_each in
    let s = rw (to_z-of_z w64 c.args.by c.ranges.by) at c.way.invariant in
    let f = s.from_there in
    let t = s.to_there in
    rw (to_z-of_z w64 c.args.by c.ranges.by)
    (record {
      from = omega (arith, f, p);
      to = omega (arith, t, p);
      place = r.place_each ∙ sym p;
      cut = s.cut_each;
      small = c.requires.small;
      from_hangs = λ later. from_can _ _ _ _ _ _ r c.requires.spanning c.requires.ends _ _ _ _ c.requires.fits _ _ _ s later;
      to_hangs = λ later. to_can _ _ _ _ _ _ r c.requires.spanning c.requires.ends _ _ _ _ c.requires.fits _ _ _ s later c.if-from-to.false;
    })

pub way-preserved : goal.way-preserved
way-preserved c =
    let r = c.requires.rooted in
    let s = rw (to_z-of_z w64 c.args.by c.ranges.by) at c.way.invariant in
    let passes = rw (to_z-of_z w64 c.args.by c.ranges.by) at c.pass_later-next.ensures in
    rw (to_z-of_z w64 c.args.by c.ranges.by)
    (elim passes [
      | inl x ↦ rw (x.1, x.2, x.3) (from_passed _ _ _ _ _ _ r c.requires.spanning c.requires.ends _ _ _ _ c.requires.fits _ _ _ s x.0)
      | inr x ↦ rw (x.1, x.2, x.3) (to_passed _ _ _ _ _ _ r c.requires.spanning c.requires.ends _ _ _ _ c.requires.fits _ _ _ s x.0 c.if-from-to.false)
    ])

pub way-smaller : goal.way-smaller
way-smaller c =
    let r = c.requires.rooted in
    let place = c.args.tree.now.place.items in
    let s = rw (to_z-of_z w64 c.args.by c.ranges.by) at c.way.invariant in
    let passes = rw (to_z-of_z w64 c.args.by c.ranges.by) at c.pass_later-next.ensures in
    elim passes [
      | inl x ↦
          let f = ap (λ v. get_or place v 0) x.1 in
          let t = ap (λ v. get_or place v 0) x.2 in
          let e = from_earlier _ _ _ _ _ _ r c.requires.spanning c.requires.ends _ _ _ _ c.requires.fits _ _ _ s x.0 in
          omega (arith, f, t, e)
      | inr x ↦
          let f = ap (λ v. get_or place v 0) x.1 in
          let t = ap (λ v. get_or place v 0) x.2 in
          let e = to_earlier _ _ _ _ _ _ r c.requires.spanning c.requires.ends _ _ _ _ c.requires.fits _ _ _ s x.0 c.if-from-to.false in
          omega (arith, f, t, e)
    ]

pub returns-then-from-to : goal.returns-then-from-to
returns-then-from-to c =
    let r = c.requires.rooted in
    let s = rw (to_z-of_z w64 c.args.by c.ranges.by) at c.way.invariant in
    record { same = s.cut_each; gained = pass_end _ _ _ _ _ _ r c.requires.spanning c.requires.ends _ _ _ _ c.requires.fits _ _ _ s c.if-from-to.true }
