-- Numbers that can be moved without leaving the range of machine numbers.
use Rattle.std.specs.Prelude.{◌^◌, ℤ, pos, neg_ℤ}
use Rattle.std.specs.List.{All}
use Rattle.drawing_types.specs.declared.shape.Point.{Point}
use Rattle.drawing_types.specs.declared.section.Section.{Section}
use Rattle.drawing_types.specs.Ranges.{IsWithin}
use Rattle.net_routes.specs.declared.Net.{Net}
use Rattle.net_routes.specs.declared.NetRoute.{NetRoute}
use Rattle.net_routes.specs.declared.NetRoute.TheVariants.{Straight, One, Two}
use Rattle.route_lines.specs.declared.Step.{Step}
use Rattle.route_lines.specs.declared.Step.TheVariants.{Lane, Leg}
use Rattle.route_lines.specs.declared.Trace.{Trace}
use Rattle.route_lines.specs.Points.{PlainGap}
use Rattle.level_model.specs.FromPlan.{PlainTrace}

-- a number lies from -2^60 to 2^60
abbrev pub IsFar : ℤ → Type 0
IsFar z = IsWithin (neg_ℤ (pos (2 ^ 60))) (pos (2 ^ 60)) z

pub record IsFarPoint (p : Point) : Type 0 where
  pub x : IsFar p.x
  pub y : IsFar p.y

pub record IsFarNet (n : Net) : Type 0 where
  pub a : IsFar n.a.height
  pub b : IsFar n.b.height

abbrev pub IsFarRoute : NetRoute → Type 0
IsFarRoute Straight = Unit {0}
IsFarRoute (One s) = Unit {0}
IsFarRoute (Two s h t) = IsFar h

pub record IsFarGap (g : PlainGap) : Type 0 where
  pub left : IsFar g.left
  pub first : IsFar g.first
  pub right : IsFar g.right
  pub nets : All IsFarNet g.nets
  pub routes : All IsFarRoute g.routes

abbrev pub IsFarStep : Step → Type 0
IsFarStep (Lane h) = IsFar h
IsFarStep (Leg g n from_a) = Unit {0}

-- a trace as plain data
abbrev pub plain_trace : Trace → PlainTrace
plain_trace t = record { start = t.start; steps = t.steps.items; end = t.end }

pub record IsFarTrace (t : PlainTrace) : Type 0 where
  pub start : IsFarPoint t.start
  pub steps : All IsFarStep t.steps
  pub end : IsFarPoint t.end

pub record IsFarSection (s : Section) : Type 0 where
  pub start : IsFarPoint s.start
  pub bends : All IsFarPoint s.bends
  pub end : IsFarPoint s.end
