-- The heights of links, tops at which they are least together, and the flow that shows it.
use Rattle.std.specs.Prelude.{◌≡◌, ℕ, ◌+◌, ◌<◌, ◌≤◌, ◌==◌, ◌^◌, cond, ℤ, pos, negsuc, ◌+ℤ◌, ◌-ℤ◌, ◌*ℤ◌, ◌≤ℤ◌, ◌<ℤ◌, List, [], ◌∷◌, length}
use Rattle.std.specs.Prelude.{map}
use Rattle.std.specs.List.{All, filter}
use Rattle.elk_layers.specs.declared.units.Link.{Link}
use Rattle.elk_layers.specs.Layered.{Plain, row_at, is_child, IsFromZero}
use Rattle.elk_layers.specs.Lines.{room, body_room, top_of, Keeps, AreApart}
use Rattle.ns_place.specs.declared.least.PairFlow.{PairFlow}
use Rattle.ns_place.specs.Pairs.{all_pairs, distance}

abbrev pub size : ℤ → ℕ
size (pos n) = n
size (negsuc n) = n + 1

-- how far one end of a link stands above the other
abbrev pub link_height : List ℤ → Link → ℕ
link_height tops l = size ((top_of tops l.head +ℤ l.head_at) -ℤ (top_of tops l.tail +ℤ l.tail_at))

-- the ends of a link are units, at tops and pins that are not far
pub record IsNearLink (tops : List ℤ) (l : Link) : Type 0 where
  pub tail : l.tail < length tops
  pub head : l.head < length tops
  pub tail_top : IsFromZero (top_of tops l.tail) (pos (2 ^ 61))
  pub head_top : IsFromZero (top_of tops l.head) (pos (2 ^ 61))
  pub tail_at : IsFromZero l.tail_at (pos (2 ^ 61))
  pub head_at : IsFromZero l.head_at (pos (2 ^ 61))

-- the heights of these links together
abbrev pub heights_together : List ℤ → List Link → ℕ
heights_together tops [] = 0
heights_together tops (l ∷ ls) = link_height tops l + heights_together tops ls

-- how far the pins of these links lie below the tops of their units, together
abbrev pub pins_together : List Link → ℤ
pins_together [] = pos 0
pins_together (l ∷ ls) = l.tail_at +ℤ l.head_at +ℤ pins_together ls

-- tops that keep all distances of the order
pub record KeepDistances (l : Plain) (rows : List (List ℕ)) (tops : List ℤ) : Type 0 where
  pub as_many : length tops ≡ length l.units
  pub rooms : (r : ℕ) → r < length rows → Keeps (room l) tops (row_at rows r)
  pub body_rooms : (r : ℕ) → r < length rows → Keeps (body_room l) tops (filter (is_child l) (row_at rows r))

-- the sum of the numbers of the links that have this end at the unit
abbrev pub of_links : (Link → ℕ) → List Link → List ℤ → ℕ → ℤ
of_links end [] fs u = pos 0
of_links end (l ∷ ls) [] u = pos 0
of_links end (l ∷ ls) (f ∷ fs) u = cond (end l == u) f (pos 0) +ℤ of_links end ls fs u

-- the sum of the flows of the pairs that have this end at the unit
abbrev pub of_pairs : (PairFlow → ℕ) → List PairFlow → ℕ → ℕ
of_pairs end [] u = 0
of_pairs end (p ∷ ps) u = cond (end p == u) p.flow 0 + of_pairs end ps u

-- the sum of each link's number times how much further down its pin lies at the head than at the tail
abbrev pub links_value : List Link → List ℤ → ℤ
links_value [] fs = pos 0
links_value (l ∷ ls) [] = pos 0
links_value (l ∷ ls) (f ∷ fs) = f *ℤ (l.head_at -ℤ l.tail_at) +ℤ links_value ls fs

-- the sum of each pair's flow times its distance
abbrev pub pairs_value : Plain → List PairFlow → ℤ
pairs_value l [] = pos 0
pairs_value l (p ∷ ps) = pos p.flow *ℤ distance l p +ℤ pairs_value l ps

-- a pair without its flow
abbrev pub without_flow : PairFlow → PairFlow
without_flow p = record { upper = p.upper; lower = p.lower; body = p.body; flow = 0 }

-- a number from -1 to 1
abbrev pub IsUnitFlow : ℤ → Type 0
IsUnitFlow f = (pos 0 ≤ℤ (f +ℤ pos 1)) × (f ≤ℤ pos 1)

-- numbers on the links and flows on the pairs that add up: what the links bring to a unit, the pairs do, and their
-- values are the height together
pub record AddUp (l : Plain) (rows : List (List ℕ)) (height : ℕ) (link_flow : List ℤ) (pairs : List PairFlow) : Type 0 where
  pub one_each : length link_flow ≡ length l.links
  pub pairs_are : map without_flow pairs ≡ all_pairs l rows
  pub none_below : All (λ (p : PairFlow). distance l p <ℤ pos 0 → p.flow ≡ 0) pairs
  pub balanced : (u : ℕ) → u < length l.units
      → of_links (λ k. k.head) l.links link_flow u -ℤ of_links (λ k. k.tail) l.links link_flow u
      ≡ pos (of_pairs (λ p. p.lower) pairs u) -ℤ pos (of_pairs (λ p. p.upper) pairs u)
  pub value : pairs_value l pairs +ℤ links_value l.links link_flow ≡ pos height

-- numbers from -1 to 1 on the links that bound the heights of all links from below
pub record IsHeightProof (l : Plain) (rows : List (List ℕ)) (height : ℕ) (link_flow : List ℤ) (pairs : List PairFlow) : Type 0 where
  pub unit_flows : All IsUnitFlow link_flow
  pub add_up : AddUp l rows height link_flow pairs

-- no tops that keep the distances have links that are less high together
abbrev pub IsLeastHeight : Plain → List (List ℕ) → ℕ → Type 0
IsLeastHeight l rows height =
    (other : List ℤ) → KeepDistances l rows other → height ≤ heights_together other l.links

-- a placing of least height, with its proof
pub record IsLeastPlacing (l : Plain) (rows : List (List ℕ)) (tops : List ℤ) (height : ℕ) (link_flow : List ℤ)
    (pairs : List PairFlow) : Type 0 where
  pub apart : AreApart l rows tops
  pub height_is : height ≡ heights_together tops l.links
  pub least : IsLeastHeight l rows height
  pub proof : IsHeightProof l rows height link_flow pairs
