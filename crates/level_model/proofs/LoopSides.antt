-- The lanes of self-loops, by the sides of their docks.
use Rattle.std.proofs.Common.{◌≡◌, ◌⊎◌, inl, inr, Bool, true, false, cond, [], ◌∷◌, refl, sym, ◌∙◌}
use Rattle.std.specs.List.{list_any}
use Rattle.drawing_types.specs.declared.shape.Side.{Side}
use Rattle.drawing_types.specs.declared.shape.Side.TheVariants.{North, East, South, West}
use Rattle.drawing_types.specs.Shapes.{is_side}
use Rattle.self_loops.specs.Loops.{passes, sides_of_pair, sides_of_lanes, passes_left, passes_right}
use Rattle.level_model.specs.Nets.{lane_side_of_end}

-- a loop has a lane where its way passes the north or the south
in_north : (north south : Bool) → list_any (is_side North) (cond north (North ∷ cond south (South ∷ []) []) (cond south (South ∷ []) [])) ≡ north
in_north true south = refl
in_north false true = refl
in_north false false = refl

in_south : (north south : Bool) → list_any (is_side South) (cond north (North ∷ cond south (South ∷ []) []) (cond south (South ∷ []) [])) ≡ south
in_south true true = refl
in_south true false = refl
in_south false true = refl
in_south false false = refl

pub north_lane : (s t : Side) → list_any (is_side North) (sides_of_pair s t) ≡ passes s t North
north_lane s t = in_north (passes s t North) (passes s t South)

pub south_lane : (s t : Side) → list_any (is_side South) (sides_of_pair s t) ≡ passes s t South
south_lane s t = in_south (passes s t North) (passes s t South)

-- a lane of a self-loop lies north or south
pub no_level_lane : (s t : Side) (one : Bool) → (list_any (is_side East) (sides_of_lanes s t one) ≡ false) × (list_any (is_side West) (sides_of_lanes s t one) ≡ false)
no_level_lane s t true = (refl, refl)
no_level_lane North North false = (refl, refl)
no_level_lane North East false = (refl, refl)
no_level_lane North South false = (refl, refl)
no_level_lane North West false = (refl, refl)
no_level_lane East North false = (refl, refl)
no_level_lane East East false = (refl, refl)
no_level_lane East South false = (refl, refl)
no_level_lane East West false = (refl, refl)
no_level_lane South North false = (refl, refl)
no_level_lane South East false = (refl, refl)
no_level_lane South South false = (refl, refl)
no_level_lane South West false = (refl, refl)
no_level_lane West North false = (refl, refl)
no_level_lane West East false = (refl, refl)
no_level_lane West South false = (refl, refl)
no_level_lane West West false = (refl, refl)

pub lane_upright : (s t side : Side) (one : Bool) → list_any (is_side side) (sides_of_lanes s t one) ≡ true → (side ≡ North) ⊎ (side ≡ South)
lane_upright s t North one h = inl refl
lane_upright s t South one h = inr refl
lane_upright s t East one h = absurd (let f = (no_level_lane s t one).0 in let bad : true ≡ false = sym h ∙ f in cc)
lane_upright s t West one h = absurd (let f = (no_level_lane s t one).1 in let bad : true ≡ false = sym h ∙ f in cc)

pub end_upright : (s : Side) → (lane_side_of_end s ≡ North) ⊎ (lane_side_of_end s ≡ South)
end_upright North = inl refl
end_upright East = inl refl
end_upright South = inr refl
end_upright West = inl refl

-- an end of a self-loop that passes a gap and whose dock lies elsewhere has a lane
pub source_left : (s t : Side) (one : Bool) → passes_left s t one ≡ true → is_side s West ≡ false → list_any (is_side (lane_side_of_end s)) (sides_of_lanes s t one) ≡ true
source_left s t true h n = absurd cc
source_left North North false h n = absurd cc
source_left North East false h n = absurd cc
source_left North South false h n = absurd cc
source_left North West false h n = refl
source_left East North false h n = absurd cc
source_left East East false h n = absurd cc
source_left East South false h n = absurd cc
source_left East West false h n = refl
source_left South North false h n = absurd cc
source_left South East false h n = absurd cc
source_left South South false h n = absurd cc
source_left South West false h n = refl
source_left West North false h n = absurd cc
source_left West East false h n = absurd cc
source_left West South false h n = absurd cc
source_left West West false h n = absurd cc

pub target_left : (s t : Side) (one : Bool) → passes_left s t one ≡ true → is_side t West ≡ false → list_any (is_side (lane_side_of_end t)) (sides_of_lanes s t one) ≡ true
target_left s t true h n = absurd cc
target_left North North false h n = absurd cc
target_left North East false h n = absurd cc
target_left North South false h n = absurd cc
target_left North West false h n = absurd cc
target_left East North false h n = absurd cc
target_left East East false h n = absurd cc
target_left East South false h n = absurd cc
target_left East West false h n = absurd cc
target_left South North false h n = absurd cc
target_left South East false h n = absurd cc
target_left South South false h n = absurd cc
target_left South West false h n = absurd cc
target_left West North false h n = refl
target_left West East false h n = refl
target_left West South false h n = refl
target_left West West false h n = absurd cc

pub source_right : (s t : Side) (one : Bool) → passes_right s t one ≡ true → is_side s East ≡ false → list_any (is_side (lane_side_of_end s)) (sides_of_lanes s t one) ≡ true
source_right s t true h n = absurd cc
source_right North North false h n = absurd cc
source_right North East false h n = refl
source_right North South false h n = refl
source_right North West false h n = absurd cc
source_right East North false h n = absurd cc
source_right East East false h n = absurd cc
source_right East South false h n = absurd cc
source_right East West false h n = absurd cc
source_right South North false h n = refl
source_right South East false h n = refl
source_right South South false h n = absurd cc
source_right South West false h n = absurd cc
source_right West North false h n = absurd cc
source_right West East false h n = refl
source_right West South false h n = absurd cc
source_right West West false h n = absurd cc

pub target_right : (s t : Side) (one : Bool) → passes_right s t one ≡ true → is_side t East ≡ false → list_any (is_side (lane_side_of_end t)) (sides_of_lanes s t one) ≡ true
target_right s t true h n = absurd cc
target_right North North false h n = absurd cc
target_right North East false h n = absurd cc
target_right North South false h n = refl
target_right North West false h n = absurd cc
target_right East North false h n = refl
target_right East East false h n = absurd cc
target_right East South false h n = refl
target_right East West false h n = refl
target_right South North false h n = refl
target_right South East false h n = absurd cc
target_right South South false h n = absurd cc
target_right South West false h n = absurd cc
target_right West North false h n = absurd cc
target_right West East false h n = absurd cc
target_right West South false h n = absurd cc
target_right West West false h n = absurd cc
