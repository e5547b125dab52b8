use Rattle.std.proofs.Common.{◌≡◌, ◌↔◌, ◌∙◌, ◌&&◌, not, Bool, ap, subst, IsTrue, rules}
use Rattle.std.proofs.lemmas.Bool.{both_ways, not_from_false}
use Rattle.drawing_types.specs.declared.shape.Point.{Point}
use Rattle.drawing_types.specs.declared.shape.Rect.{Rect}
use Rattle.drawing_types.specs.declared.shape.Side.{Side}
use Rattle.elk_doc.specs.declared.document.Port.{Port}
use Rattle.elk_doc.specs.Document.{node_of_port, port_at}
use Rattle.elk_doc.specs.Drawing.{box_of, port_place}
use Rattle.elk_doc.specs.PortsKept.{is_pinned}
use Rattle.elk_doc.specs.Sides.{is_leaf, side_of_port}
use Rattle.layout_check.specs.declared.spots.SideSpot.{SideSpot}
use Rattle.layout_check.specs.Spots.{AgreeAcross, AgreeAlong, LiesOn, StandsFlush}
use Rattle.layout_check.proofs.SpotLaws.{not_true, subst4}
use Rattle.layout_check.proofs.ports.keeps_port.Goals as goal

pub returns-then-not-agree_along : goal.returns-then-not-agree_along
returns-then-not-agree_along c =
    let says = subst4 (λ (a : Bool) (s : Side) (q : Point) (r : Port). IsTrue c.agree_along.result ↔ AgreeAlong a s q r.place) _ _ _ _ _ _ _ _ c.is_pinned-pinned.ensures c.side_at-side.ensures c.port_place-place.ensures c.port-found.ensures.value c.agree_along.ensures in
    (λ t. absurd (search rules), λ h. absurd (both_ways c.agree_along.result c.if-not-agree_along.true (says.1 h.along_kept)))

pub returns-then-not-agree_across : goal.returns-then-not-agree_across
returns-then-not-agree_across c =
    let says = subst4 (λ (a : Bool) (s : Side) (q : Point) (r : Port). IsTrue c.agree_across.result ↔ AgreeAcross a s q r.place) _ _ _ _ _ _ _ _ c.is_pinned_across-across.ensures c.side_at-side.ensures c.port_place-place.ensures c.port-found.ensures.value c.agree_across.ensures in
    (λ t. absurd (search rules), λ h. absurd (both_ways c.agree_across.result c.if-not-agree_across.true (says.1 h.across_kept)))

pub returns-then-not-stands_flush : goal.returns-then-not-stands_flush
returns-then-not-stands_flush c =
    let d = c.args.scene.now.doc.now in
    let p = c.args.scene.now.placed.now in
    let k = c.args.port in
    let pinned = is_pinned d k && is_leaf d (node_of_port d k) in
    let box : c.box_of-outer.result ≡ box_of p (node_of_port d k) = c.box_of-outer.ensures ∙ ap (λ (q : Port). box_of p q.node) c.port-found.ensures.value in
    let F : Rect → Type 0 = λ o. IsTrue c.stands_flush.result ↔ StandsFlush (not pinned) (side_of_port d p k) o (port_place p k) (port_at d k).size in
    let says = subst F box (subst4 (λ (a : Bool) (s : Side) (q : Point) (r : Port). IsTrue c.stands_flush.result ↔ StandsFlush (not a) s c.box_of-outer.result q r.size) _ _ _ _ _ _ _ _ c.is_pinned_across-across.ensures c.side_at-side.ensures c.port_place-place.ensures c.port-found.ensures.value c.stands_flush.ensures) in
    (λ t. absurd (search rules), λ h. absurd (both_ways c.stands_flush.result c.if-not-stands_flush.true (says.1 (λ no_pin. h.flush_outside (not_true pinned no_pin)))))

pub returns : goal.returns
returns c =
    let d = c.args.scene.now.doc.now in
    let p = c.args.scene.now.placed.now in
    let k = c.args.port in
    let pinned = is_pinned d k && is_leaf d (node_of_port d k) in
    let box : c.box_of-outer.result ≡ box_of p (node_of_port d k) = c.box_of-outer.ensures ∙ ap (λ (q : Port). box_of p q.node) c.port-found.ensures.value in
    let along = subst4 (λ (a : Bool) (s : Side) (q : Point) (r : Port). IsTrue c.agree_along.result ↔ AgreeAlong a s q r.place) _ _ _ _ _ _ _ _ c.is_pinned-pinned.ensures c.side_at-side.ensures c.port_place-place.ensures c.port-found.ensures.value c.agree_along.ensures in
    let across = subst4 (λ (a : Bool) (s : Side) (q : Point) (r : Port). IsTrue c.agree_across.result ↔ AgreeAcross a s q r.place) _ _ _ _ _ _ _ _ c.is_pinned_across-across.ensures c.side_at-side.ensures c.port_place-place.ensures c.port-found.ensures.value c.agree_across.ensures in
    let F : Rect → Type 0 = λ o. IsTrue c.stands_flush.result ↔ StandsFlush (not pinned) (side_of_port d p k) o (port_place p k) (port_at d k).size in
    let flush = subst F box (subst4 (λ (a : Bool) (s : Side) (q : Point) (r : Port). IsTrue c.stands_flush.result ↔ StandsFlush (not a) s c.box_of-outer.result q r.size) _ _ _ _ _ _ _ _ c.is_pinned_across-across.ensures c.side_at-side.ensures c.port_place-place.ensures c.port-found.ensures.value c.stands_flush.ensures) in
    let L : SideSpot → Type 0 = λ x. IsTrue c.lies_on.result ↔ LiesOn (not (is_pinned d k)) (box_of p (node_of_port d k)) x in
    let M : Bool → Type 0 = λ a. IsTrue c.lies_on.result ↔ LiesOn (not a) (box_of p (node_of_port d k)) c.port_spot.result in
    let N : Rect → Type 0 = λ o. IsTrue c.lies_on.result ↔ LiesOn (not c.is_pinned-pinned.result) o c.port_spot.result in
    let lies = subst L c.port_spot.ensures (subst M c.is_pinned-pinned.ensures (subst N box c.lies_on.ensures)) in (
      λ t. record {
        along_kept = along.0 c.if-not-agree_along.false;
        across_kept = across.0 c.if-not-agree_across.false;
        flush_outside = λ f. flush.0 c.if-not-stands_flush.false (not_from_false pinned f);
        on_side = λ f. lies.0 t (not_from_false (is_pinned d k) f);
      },
      λ h. lies.1 (λ free. h.on_side (not_true (is_pinned d k) free)),
    )
