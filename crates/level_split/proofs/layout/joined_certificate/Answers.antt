use Rattle.std.proofs.Common.{◌≡◌, ℕ, Bool, List, Vec, length, sym, ◌∙◌, subst, subst₂}
use Rattle.std.specs.Global.{Global}
use Rattle.std.specs.List.{filter, range_with_len}
use Rattle.level_parts.specs.declared.levels.PartLevel.{PartLevel}
use Rattle.level_parts.specs.Split.{part_at}
use Rattle.level_split.specs.Gathered.{AreFlows, AreLayers, AreReversals, is_marked, marks_in}
use Rattle.level_split.proofs.StepLemmas.{certificate_in}
use Rattle.level_split.proofs.layout.joined_certificate.Goals as goal

pub returns : goal.returns
returns c =
    let split = c.args.split.now in
    let outs = c.args.outs.now in
    let marks = marks_in c.in_ok-marks.marks.items in
    let is_reversed : AreReversals outs (λ k. length (part_at split.parts k).edges) (length split.parts) marks =
    subst (λ (ps : List PartLevel). AreReversals outs (λ k. length (part_at ps k).edges) (length ps) marks) c.as_slice-2.ensures.value c.in_ok-marks.ensures
    in
    let layers : AreLayers outs split.children.parts split.children.places (length split.children.parts) c.from_vec.result =
    subst (AreLayers outs split.children.parts split.children.places (length split.children.parts)) (sym c.from_vec.ensures)
    (subst₂ (λ (ps qs : List ℕ). AreLayers outs ps qs (length ps) c.in_ok-layers.layers.items) c.as_slice-children.ensures.value c.as_slice.ensures.value c.in_ok-layers.ensures)
    in
    let flow : AreFlows outs split.edges.parts split.edges.places (length split.edges.parts) c.from_vec-3.result =
    subst (AreFlows outs split.edges.parts split.edges.places (length split.edges.parts)) (sym c.from_vec-3.ensures)
    (subst₂ (λ (ps qs : List ℕ). AreFlows outs ps qs (length ps) c.in_ok-flow.flow.items) c.as_slice-edges.ensures.value c.as_slice-edge_places.ensures.value c.in_ok-flow.ensures)
    in
    let reversed : c.from_vec-2.result ≡ filter (is_marked marks split.edges.parts split.edges.places) (range_with_len 0 (length split.edges.parts)) =
    c.from_vec-2.ensures
    ∙ subst (λ (ms : List (Vec Bool Global)). c.in_ok-reversed.reversed.items ≡ filter (is_marked (marks_in ms) split.edges.parts split.edges.places) (range_with_len 0 (length split.edges.parts))) c.as_slice-3.ensures.value
    (subst₂ (λ (ps qs : List ℕ). c.in_ok-reversed.reversed.items ≡ filter (is_marked (marks_in c.as_slice-3.result.now) ps qs) (range_with_len 0 (length ps))) c.as_slice-edges.ensures.value c.as_slice-edge_places.ensures.value c.in_ok-reversed.ensures)
    in
    certificate_in split outs c.requires marks is_reversed c.from_vec.result c.from_vec-3.result c.from_vec-2.result c.from_vec-4.result c.total_span.result layers flow reversed c.total_span.ensures
    (c.from_vec-4.ensures ∙ c.in_ok-to_vec.ensures.items_if_clones_equal (λ y e h. h) ∙ c.as_slice-children.ensures.value)
