-- What tests on sides, docks and lines say.
use Rattle.std.proofs.Common.{◌≡◌, ℕ, eqb, true, ◌&&◌, ℤ, refl, ap, ◌∙◌}
use Rattle.std.proofs.lemmas.Bool.{and_parts, and_from, eqb-true, eq-eqb}
use Rattle.std.proofs.lemmas.Bool.Decides.{Decides-int_eq}
use Rattle.std.specs.Ordering.{int_eq}
use Rattle.drawing_types.specs.declared.shape.Side.{Side}
use Rattle.drawing_types.specs.declared.shape.Dock.{Dock}
use Rattle.drawing_types.specs.Shapes.{is_side}
use Rattle.level_model.specs.Stage.{Line, anchor_line, dock_lane, loop_lane, long_lane}
use Rattle.level_model.specs.Lanes.{dock_eq, line_eq}
use Rattle.port_order.proofs.OrderLemmas.{side_same, side_itself}

pub same_dock : (d k : Dock) → d.node ≡ k.node → d.side ≡ k.side → d.offset ≡ k.offset → d ≡ k
same_dock d k en es eo =
    let f : ℕ → Dock = λ z. record { node = z; side = d.side; offset = d.offset } in
    let g : Side → Dock = λ z. record { node = k.node; side = z; offset = d.offset } in
    let h : ℤ → Dock = λ z. record { node = k.node; side = k.side; offset = z } in
    ap f en ∙ ap g es ∙ ap h eo

pub dock_eq-same : (d k : Dock) → dock_eq d k ≡ true → d ≡ k
dock_eq-same d k e =
    let x = and_parts (eqb d.node k.node) (is_side d.side k.side && int_eq d.offset k.offset) e in
    let y = and_parts (is_side d.side k.side) (int_eq d.offset k.offset) x.1 in
    same_dock d k (eqb-true d.node k.node x.0) (side_same d.side k.side y.0) ((Decides-int_eq d.offset k.offset).0 y.1)

pub dock_eq-self : (d : Dock) → dock_eq d d ≡ true
dock_eq-self d =
    and_from (eqb d.node d.node) (is_side d.side d.side && int_eq d.offset d.offset) (eq-eqb d.node d.node refl)
    (and_from (is_side d.side d.side) (int_eq d.offset d.offset) (side_itself d.side) ((Decides-int_eq d.offset d.offset).1 refl))

pub line_eq-same : (l m : Line) → line_eq l m ≡ true → l ≡ m
line_eq-same (anchor_line d) (anchor_line k) e = ap anchor_line (dock_eq-same d k e)
line_eq-same (anchor_line d) (dock_lane k) e = absurd cc
line_eq-same (anchor_line d) (loop_lane f t) e = absurd cc
line_eq-same (anchor_line d) (long_lane v) e = absurd cc
line_eq-same (dock_lane d) (anchor_line k) e = absurd cc
line_eq-same (dock_lane d) (dock_lane k) e = ap dock_lane (dock_eq-same d k e)
line_eq-same (dock_lane d) (loop_lane f t) e = absurd cc
line_eq-same (dock_lane d) (long_lane v) e = absurd cc
line_eq-same (loop_lane e s) (anchor_line k) h = absurd cc
line_eq-same (loop_lane e s) (dock_lane k) h = absurd cc
line_eq-same (loop_lane e s) (loop_lane f t) h =
    let x = and_parts (eqb e f) (is_side s t) h in
    ap (λ n. loop_lane n s) (eqb-true e f x.0) ∙ ap (loop_lane f) (side_same s t x.1)
line_eq-same (loop_lane e s) (long_lane v) h = absurd cc
line_eq-same (long_lane u) (anchor_line k) e = absurd cc
line_eq-same (long_lane u) (dock_lane k) e = absurd cc
line_eq-same (long_lane u) (loop_lane f t) e = absurd cc
line_eq-same (long_lane u) (long_lane v) e = ap long_lane (eqb-true u v e)

pub line_eq-self : (l : Line) → line_eq l l ≡ true
line_eq-self (anchor_line d) = dock_eq-self d
line_eq-self (dock_lane d) = dock_eq-self d
line_eq-self (loop_lane e s) = and_from (eqb e e) (is_side s s) (eq-eqb e e refl) (side_itself s)
line_eq-self (long_lane u) = eq-eqb u u refl
