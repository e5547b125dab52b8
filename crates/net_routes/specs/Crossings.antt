-- How many pieces of nets cross in a gap.
use Rattle.std.specs.Prelude.{ℕ, zero, suc, ◌+◌, Bool, List, ℤ, ◌&&◌, nat_lt, int_lt, length, if◌then◌else◌}
use Rattle.std.specs.Int.{int_min, int_max}
use Rattle.net_routes.specs.declared.Pin.{Pin}
use Rattle.net_routes.specs.declared.Net.{Net}
use Rattle.net_routes.specs.declared.NetRoute.{NetRoute}
use Rattle.net_routes.specs.declared.NetRoute.TheVariants.{Straight, One, Two}
use Rattle.net_routes.specs.declared.Upright.{Upright}
use Rattle.net_routes.specs.Pieces.{net_at, route_at}

unfoldable pub sum_to : (ℕ → ℕ) → ℕ → ℕ
sum_to f zero = 0
sum_to f (suc n) = sum_to f n + f n

-- the height lies between the two others
unfoldable pub is_over : ℤ → ℤ → ℤ → Bool
is_over x y h = int_lt (int_min x y) h && int_lt h (int_max x y)

-- the line between a border and slot t passes slot u
unfoldable pub passes : Bool → ℕ → ℕ → Bool
passes on_left t u = if on_left then nat_lt u t else nat_lt t u

-- the line between slots s and t passes slot u
unfoldable pub is_between : ℕ → ℕ → ℕ → Bool
is_between s t u = if nat_lt s u then nat_lt u t else nat_lt t u && nat_lt u s

unfoldable pub one : Bool → ℕ
one b = if b then 1 else 0

-- how many times the line at a pin, whose upright piece stands in slot t, crosses an upright piece
unfoldable pub pin_cut : Pin → ℕ → Upright → ℕ
pin_cut p t u = if passes p.on_left t u.slot then one (is_over u.from u.to p.height) else 0

-- how many times the line between the two pieces of a split net does
unfoldable pub bar_cut : ℕ → ℤ → ℕ → Upright → ℕ
bar_cut s h t u = if is_between s t u.slot then one (is_over u.from u.to h) else 0

-- how many times the horizontal lines of a net cross an upright piece
unfoldable pub cuts : Net → NetRoute → Upright → ℕ
cuts n Straight u = one (is_over u.from u.to n.a.height)
cuts n (One t) u = pin_cut n.a t u + pin_cut n.b t u
cuts n (Two s h t) u = pin_cut n.a s u + pin_cut n.b t u + bar_cut s h t u

abbrev pub upright : ℕ → ℤ → ℤ → Upright
upright s x y = record { slot = s; from = x; to = y }

-- how many times the horizontal lines of the second net cross upright pieces of the first
unfoldable pub cut : Net → NetRoute → Net → NetRoute → ℕ
cut m Straight n q = 0
cut m (One s) n q = cuts n q (upright s m.a.height m.b.height)
cut m (Two s h t) n q = cuts n q (upright s m.a.height h) + cuts n q (upright t h m.b.height)

abbrev pub cut_at : List Net → List NetRoute → ℕ → ℕ → ℕ
cut_at nets routes j k = cut (net_at nets j) (route_at routes j) (net_at nets k) (route_at routes k)

-- all crossings of the gap: each net's upright pieces with each net's horizontal lines
abbrev pub crossings : List Net → List NetRoute → ℕ
crossings nets routes = sum_to (λ j. sum_to (cut_at nets routes j) (length nets)) (length nets)
