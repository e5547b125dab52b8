-- Pins and nets that are put together, and sides of inverted docks.
use Rattle.std.proofs.Common.{◌≡◌, ℕ, Bool, true, false, not, [], ℤ, FitsSigned, to_z, of_z, w64, refl, ap, ◌∙◌}
use Rattle.std.proofs.lemmas.Bool.{and_parts}
use Rattle.std.proofs.lemmas.Int.{to_z-of_z}
use Rattle.drawing_types.specs.declared.shape.Side.{Side}
use Rattle.drawing_types.specs.declared.shape.Side.TheVariants.{North, East, South, West}
use Rattle.net_routes.specs.declared.Pin.{Pin}
use Rattle.net_routes.specs.declared.Net.{Net}
use Rattle.self_loops.specs.Loops.{is_upright}
use Rattle.level_model.specs.Level.{End, enters, is_loop}
use Rattle.level_model.specs.Nets.{inverts}
use Rattle.level_nets.specs.Parts.{Parts, plan_of}
use Rattle.level_nets.specs.Read.{pin, dock_at, dock_inverts, passes_on}
use Rattle.level_model.proofs.NameLemmas.{inverts_level}

pub pin_is : (b c : Bool) (r z : ℤ) → FitsSigned w64 r → b ≡ c → r ≡ z → (let q : Pin = record { on_left = b; height = to_z w64 (of_z w64 r) } in q) ≡ pin c z
pin_is b c r z fits e f = ap (λ h. pin b h) (to_z-of_z w64 r fits ∙ f) ∙ ap (λ k. pin k z) e

pub net_from : (a b c d : Pin) → a ≡ c → b ≡ d → (let n : Net = record { a = a; b = b } in n) ≡ record { a = c; b = d }
net_from a b c d e f =
    let g : Pin → Net = λ z. record { a = z; b = b } in
    let h : Pin → Net = λ z. record { a = c; b = z } in
    ap g e ∙ ap h f

pub reversed_beside : (s : Parts) (n : End) → dock_inverts s n ≡ true → is_upright (dock_at s n).side ≡ false
reversed_beside s n h =
    inverts_level (dock_at s n).side (enters (plan_of s []) n) (and_parts (not (is_loop s.level n.edge)) (inverts (dock_at s n).side (enters (plan_of s []) n)) h).1

pub passes_beside : (s : Parts) (e : ℕ) (side : Side) → passes_on s e side ≡ true → is_upright side ≡ false
passes_beside s e North h = absurd (let bad : false ≡ true = h in cc)
passes_beside s e East h = refl
passes_beside s e South h = absurd (let bad : false ≡ true = h in cc)
passes_beside s e West h = refl
