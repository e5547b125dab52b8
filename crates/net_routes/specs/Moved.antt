-- Nets and routes of a gap that is moved as a whole: one number is taken from all heights.
use Rattle.std.specs.Prelude.{ℤ, ◌-ℤ◌}
use Rattle.net_routes.specs.declared.Pin.{Pin}
use Rattle.net_routes.specs.declared.Net.{Net}
use Rattle.net_routes.specs.declared.NetRoute.{NetRoute}
use Rattle.net_routes.specs.declared.NetRoute.TheVariants.{Straight, One, Two}

abbrev pub moved_pin : ℤ → Pin → Pin
moved_pin y p = record { on_left = p.on_left; height = p.height -ℤ y }

abbrev pub moved_net : ℤ → Net → Net
moved_net y n = record { a = moved_pin y n.a; b = moved_pin y n.b }

abbrev pub moved_route : ℤ → NetRoute → NetRoute
moved_route y Straight = Straight
moved_route y (One s) = One s
moved_route y (Two s h t) = Two s (h -ℤ y) t
