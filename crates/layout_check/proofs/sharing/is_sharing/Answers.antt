use Rattle.std.proofs.Common.{◌↔◌, IsTrue, subst, sym, refl, inl, inr}
use Rattle.std.proofs.lemmas.Bool.{both_ways, cases_Bool}
use Rattle.drawing_types.specs.declared.section.Section.{Section}
use Rattle.elk_doc.specs.Drawing.{section_of}
use Rattle.layout_check.specs.Stretches.{AreFree, AreParallel}
use Rattle.layout_check.proofs.ParallelLaws.{route_parallel}
use Rattle.layout_check.proofs.sharing.is_sharing.Goals as goal

pub are_free-requires : goal.are_free-requires
are_free-requires c =
    record {
      one = subst AreParallel (sym c.section.ensures) (route_parallel c.args.scene.now.doc.now c.args.scene.now.placed.now c.args.edge c.requires.edge_route);
      other = subst AreParallel (sym c.section-2.ensures) (route_parallel c.args.scene.now.doc.now c.args.scene.now.placed.now c.args.other c.requires.other_route);
    }

pub returns-then-are_free : goal.returns-then-are_free
returns-then-are_free c =
    let P : Section → Type 0 = λ s. AreFree s c.section-2.result.now in
    let Q : Section → Type 0 = λ s. AreFree (section_of c.args.scene.now.placed.now c.args.edge) s in
    let free = subst Q c.section-2.ensures (subst P c.section.ensures (c.are_free.ensures.0 c.if-are_free.true)) in
    (λ _ rs. absurd (free rs.i rs.i_in rs.j rs.j_in rs.piece), λ _. refl)

pub returns : goal.returns
returns c =
    let P : Section → Type 0 = λ s. IsTrue c.are_free.result ↔ AreFree s c.section-2.result.now in
    let Q : Section → Type 0 = λ s. IsTrue c.are_free.result ↔ AreFree (section_of c.args.scene.now.placed.now c.args.edge) s in
    let free = subst Q c.section-2.ensures (subst P c.section.ensures c.are_free.ensures) in (
      λ t _. c.share_dock.ensures.0 t,
      λ h.
          elim (cases_Bool c.share_dock.result) [
            | inl y ↦ y
            | inr n ↦
                absurd
                (both_ways c.are_free.result c.if-are_free.false
                (free.1 (λ i h1 j h2 piece.
                both_ways c.share_dock.result n
                (c.share_dock.ensures.1 (h (record { i = i; j = j; i_in = h1; j_in = h2; piece = piece }))))))
          ],
    )
