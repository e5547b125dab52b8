use Rattle.std.proofs.Common.{◌≡◌, Bool, true, false, refl, sym, ◌∙◌}
use Rattle.std.proofs.lemmas.Bool.{both_ways}
use Rattle.elk_doc.specs.Places.{dock_of}
use Rattle.layout_check.proofs.sharing.share_dock.Goals as goal

-- two ends of two edges, one by one
by_ends : (R : Type 0) (P : Bool → Bool → Type 0) → (P true true → R) → (P true false → R) → (P false true → R) → (P false false → R) → (s t : Bool) → P s t → R
by_ends R P a b c d true true h = a h
by_ends R P a b c d true false h = b h
by_ends R P a b c d false true h = c h
by_ends R P a b c d false false h = d h

pub returns-then-is_same : goal.returns-then-is_same
returns-then-is_same c =
    (λ _. (true, true, sym c.dock_of-source.ensures ∙ c.is_same.ensures.0 c.if-is_same.true ∙ c.dock_of-other_source.ensures), λ _. refl)

pub returns-then-is_same-2 : goal.returns-then-is_same-2
returns-then-is_same-2 c =
    (λ _. (true, false, sym c.dock_of-source.ensures ∙ c.is_same-2.ensures.0 c.if-is_same-2.true ∙ c.dock_of-other_target.ensures), λ _. refl)

pub returns-then-is_same-3 : goal.returns-then-is_same-3
returns-then-is_same-3 c =
    (λ _. (false, true, sym c.dock_of-target.ensures ∙ c.is_same-3.ensures.0 c.if-is_same-3.true ∙ c.dock_of-other_source.ensures), λ _. refl)

pub returns : goal.returns
returns c = (
  λ t. (false, false, sym c.dock_of-target.ensures ∙ c.is_same-4.ensures.0 t ∙ c.dock_of-other_target.ensures),
  λ h.
      by_ends (c.is_same-4.result ≡ true) (λ s t. dock_of c.args.scene.now.doc.now c.args.scene.now.placed.now c.args.edge s ≡ dock_of c.args.scene.now.doc.now c.args.scene.now.placed.now c.args.other t)
      (λ e. absurd (both_ways c.is_same.result c.if-is_same.false (c.is_same.ensures.1 (c.dock_of-source.ensures ∙ e ∙ sym c.dock_of-other_source.ensures))))
      (λ e. absurd (both_ways c.is_same-2.result c.if-is_same-2.false (c.is_same-2.ensures.1 (c.dock_of-source.ensures ∙ e ∙ sym c.dock_of-other_target.ensures))))
      (λ e. absurd (both_ways c.is_same-3.result c.if-is_same-3.false (c.is_same-3.ensures.1 (c.dock_of-target.ensures ∙ e ∙ sym c.dock_of-other_source.ensures))))
      (λ e. c.is_same-4.ensures.1 (c.dock_of-target.ensures ∙ e ∙ sym c.dock_of-other_target.ensures))
      h.0 h.1 h.2,
)
