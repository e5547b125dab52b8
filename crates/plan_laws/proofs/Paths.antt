-- Segments and turns of paths by number.
use Rattle.std.proofs.Common.{◌≡◌, ◌≢◌, ◌⊎◌, ⊎_elim, inl, inr, ℕ, zero, suc, ◌+◌, ◌-◌, ◌<◌, ◌≤◌, List, [], ◌∷◌, length, arith, sym, subst}
use Rattle.std.proofs.lemmas.Int.{ints}
use Rattle.drawing_types.specs.declared.shape.Point.{Point}
use Rattle.drawing_types.specs.declared.shape.Side.{Side}
use Rattle.drawing_types.specs.declared.shape.Side.TheVariants.{North, East, South, West}
use Rattle.elk_doc.specs.Drawing.{point_in}
use Rattle.elk_doc.specs.Route.{IsStep, IsTurn, LeavesOutward, IsOrthogonal}
use Rattle.route_lines.specs.Tidied.{SomeSegment, Heading, up, down, left, right, Goes, opposite, IsRightAngle, Bends, RunsSquare, DropsSome, Drops, equal, middle, later, none, more}
use Rattle.level_model.specs.Law.{outward}

-- places behind a first point
more_one : (i : ℕ) → suc i + 1 ≡ suc (i + 1)
more_one i = omega arith

more_two : (i : ℕ) → suc i + 2 ≡ suc (i + 2)
more_two i = omega arith

pub some_at : (Q : Point → Point → Type 0) (ps : List Point) (i : ℕ) → i + 1 < length ps → Q (point_in ps i) (point_in ps (i + 1)) → SomeSegment Q ps
some_at Q [] i h q = absurd (omega (arith, h))
some_at Q (a ∷ []) i h q = absurd (omega (arith, h))
some_at Q (a ∷ b ∷ ps) zero h q = inl q
some_at Q (a ∷ b ∷ ps) (suc i) h q =
    inr (some_at Q (b ∷ ps) i (omega (arith, h)) (subst (λ j. Q (point_in (b ∷ ps) i) (point_in (a ∷ b ∷ ps) j)) (more_one i) q))

goes_step : (h : Heading) (a b : Point) → Goes h a b → IsStep a b
goes_step up a b g = let w = g.1 in inl (g.0, λ e. omega (arith, ints, e, w))
goes_step down a b g = let w = g.1 in inl (g.0, λ e. omega (arith, ints, e, w))
goes_step left a b g = let w = g.1 in inr (λ e. omega (arith, ints, e, w), g.0)
goes_step right a b g = let w = g.1 in inr (λ e. omega (arith, ints, e, w), g.0)

abbrev is_upright : Heading → Type 0
is_upright up = Unit {0}
is_upright down = Unit {0}
is_upright left = ⊥
is_upright right = ⊥

abbrev is_level : Heading → Type 0
is_level up = ⊥
is_level down = ⊥
is_level left = Unit {0}
is_level right = Unit {0}

angle_kinds : (h i : Heading) → IsRightAngle h i → (is_upright h × is_level i) ⊎ (is_level h × is_upright i)
angle_kinds up up r = absurd r
angle_kinds up down r = absurd r
angle_kinds up left r = inl (tt, tt)
angle_kinds up right r = inl (tt, tt)
angle_kinds down up r = absurd r
angle_kinds down down r = absurd r
angle_kinds down left r = inl (tt, tt)
angle_kinds down right r = inl (tt, tt)
angle_kinds left up r = inr (tt, tt)
angle_kinds left down r = inr (tt, tt)
angle_kinds left left r = absurd r
angle_kinds left right r = absurd r
angle_kinds right up r = inr (tt, tt)
angle_kinds right down r = inr (tt, tt)
angle_kinds right left r = absurd r
angle_kinds right right r = absurd r

upright_x : (h : Heading) (a b : Point) → is_upright h → Goes h a b → (a.x ≡ b.x) × (a.y ≢ b.y)
upright_x up a b u g = let w = g.1 in (g.0, λ e. omega (arith, ints, e, w))
upright_x down a b u g = let w = g.1 in (g.0, λ e. omega (arith, ints, e, w))
upright_x left a b u g = absurd u
upright_x right a b u g = absurd u

level_y : (h : Heading) (a b : Point) → is_level h → Goes h a b → (a.y ≡ b.y) × (a.x ≢ b.x)
level_y up a b u g = absurd u
level_y down a b u g = absurd u
level_y left a b u g = let w = g.1 in (g.0, λ e. omega (arith, ints, e, w))
level_y right a b u g = let w = g.1 in (g.0, λ e. omega (arith, ints, e, w))

right_turn : (h i : Heading) (a b c : Point) → IsRightAngle h i → Goes h a b → Goes i b c → IsTurn a b c
right_turn h i a b c r g k =
    ⊎_elim
    (λ (v : is_upright h × is_level i).
    let first = upright_x h a b v.0 g in
    let second = level_y i b c v.1 k in
    let t : IsTurn a b c = record { from_upright = λ e. second.0; from_level = λ e. absurd (first.1 e) } in
    t)
    (λ (v : is_level h × is_upright i).
    let first = level_y h a b v.0 g in
    let second = upright_x i b c v.1 k in
    let t : IsTurn a b c = record { from_upright = λ e. absurd (first.1 e); from_level = λ e. second.0 } in
    t)
    (angle_kinds h i r)

-- a path that goes on from a heading by right angles

bends_steps : (h k : Heading) (ps : List Point) → Bends h k ps → (i : ℕ) → i + 1 < length ps → IsStep (point_in ps i) (point_in ps (i + 1))
bends_steps h k [] b i lt = absurd b
bends_steps h k (a ∷ []) b i lt = absurd (omega (arith, lt))
bends_steps h k (a ∷ c ∷ ps) b zero lt = goes_step b.0 a c b.2
bends_steps h k (a ∷ c ∷ ps) b (suc i) lt =
    subst (λ j. IsStep (point_in (c ∷ ps) i) (point_in (a ∷ c ∷ ps) j)) (sym (more_one i)) (bends_steps b.0 k (c ∷ ps) b.3 i (omega (arith, lt)))

bends_turns : (h k : Heading) (z : Point) (a : Point) (ps : List Point) → Goes h z a → Bends h k (a ∷ ps) → (i : ℕ) → i + 2 < length (z ∷ a ∷ ps)
    → IsTurn (point_in (z ∷ a ∷ ps) i) (point_in (z ∷ a ∷ ps) (i + 1)) (point_in (z ∷ a ∷ ps) (i + 2))
bends_turns h k z a [] g b i lt = absurd (omega (arith, lt))
bends_turns h k z a (c ∷ ps) g b zero lt = right_turn h b.0 z a c b.1 g b.2
bends_turns h k z a (c ∷ ps) g b (suc i) lt =
    subst (λ j. IsTurn (point_in (a ∷ c ∷ ps) i) (point_in (z ∷ a ∷ c ∷ ps) j) (point_in (z ∷ a ∷ c ∷ ps) (suc i + 2))) (sym (more_one i))
    (subst (λ j. IsTurn (point_in (a ∷ c ∷ ps) i) (point_in (a ∷ c ∷ ps) (i + 1)) (point_in (z ∷ a ∷ c ∷ ps) j)) (sym (more_two i))
    (bends_turns b.0 k a c ps b.2 b.3 i (omega (arith, lt))))

last_goes : (h k : Heading) (a b : Point) (ps : List Point) → Goes h a b → Bends h k (b ∷ ps)
    → Goes k (point_in (a ∷ b ∷ ps) (length ps)) (point_in (a ∷ b ∷ ps) (length ps + 1))
last_goes h k a b [] g bends = subst (λ z. Goes z a b) bends g
last_goes h k a b (c ∷ ps) g bends =
    subst (λ j. Goes k (point_in (b ∷ c ∷ ps) (length ps)) (point_in (a ∷ b ∷ c ∷ ps) j)) (sym (more_one (length ps))) (last_goes bends.0 k b c ps bends.2 bends.3)

square_steps : (h k : Heading) (ps : List Point) → RunsSquare h k ps → (i : ℕ) → i + 1 < length ps → IsStep (point_in ps i) (point_in ps (i + 1))
square_steps h k [] r i lt = absurd r
square_steps h k (a ∷ []) r i lt = absurd r
square_steps h k (a ∷ b ∷ ps) r zero lt = goes_step h a b r.0
square_steps h k (a ∷ b ∷ ps) r (suc i) lt =
    subst (λ j. IsStep (point_in (b ∷ ps) i) (point_in (a ∷ b ∷ ps) j)) (sym (more_one i)) (bends_steps h k (b ∷ ps) r.1 i (omega (arith, lt)))

square_turns : (h k : Heading) (ps : List Point) → RunsSquare h k ps → (i : ℕ) → i + 2 < length ps → IsTurn (point_in ps i) (point_in ps (i + 1)) (point_in ps (i + 2))
square_turns h k [] r i lt = absurd r
square_turns h k (a ∷ []) r i lt = absurd r
square_turns h k (a ∷ b ∷ ps) r i lt = bends_turns h k a b ps r.0 r.1 i lt

leaves : (side : Side) (a b : Point) → Goes (outward side) a b → LeavesOutward side a b
leaves North a b g = g
leaves East a b g = g
leaves South a b g = g
leaves West a b g = g

comes_back : (side : Side) (a b : Point) → Goes (opposite (outward side)) a b → LeavesOutward side b a
comes_back North a b g = (sym g.0, g.1)
comes_back East a b g = (sym g.0, g.1)
comes_back South a b g = (sym g.0, g.1)
comes_back West a b g = (sym g.0, g.1)

square_leaves : (side : Side) (k : Heading) (ps : List Point) → RunsSquare (outward side) k ps → LeavesOutward side (point_in ps 0) (point_in ps 1)
square_leaves side k [] r = absurd r
square_leaves side k (a ∷ []) r = absurd r
square_leaves side k (a ∷ b ∷ ps) r = leaves side a b r.0

square_comes : (h : Heading) (side : Side) (ps : List Point) → RunsSquare h (opposite (outward side)) ps
    → LeavesOutward side (point_in ps (length ps - 1)) (point_in ps (length ps - 2))
square_comes h side [] r = absurd r
square_comes h side (a ∷ []) r = absurd r
square_comes h side (a ∷ b ∷ ps) r =
    let last : length (a ∷ b ∷ ps) - 1 ≡ length ps + 1 = omega arith in
    let before : length (a ∷ b ∷ ps) - 2 ≡ length ps = omega arith in
    subst (λ j. LeavesOutward side (point_in (a ∷ b ∷ ps) j) (point_in (a ∷ b ∷ ps) (length (a ∷ b ∷ ps) - 2))) (sym last)
    (subst (λ j. LeavesOutward side (point_in (a ∷ b ∷ ps) (length ps + 1)) (point_in (a ∷ b ∷ ps) j)) (sym before)
    (comes_back side (point_in (a ∷ b ∷ ps) (length ps)) (point_in (a ∷ b ∷ ps) (length ps + 1)) (last_goes h (opposite (outward side)) a b ps r.0 r.1)))

pub square_orthogonal : (source target : Side) (ps : List Point) → RunsSquare (outward source) (opposite (outward target)) ps → IsOrthogonal ps source target
square_orthogonal source target ps r =
    record {
      steps = square_steps (outward source) (opposite (outward target)) ps r;
      turns = square_turns (outward source) (opposite (outward target)) ps r;
      source_outward = square_leaves source (opposite (outward target)) ps r;
      target_outward = square_comes (outward source) target ps r;
    }

-- dropping leaves no more points

drop_shorter : (ps qs : List Point) → Drops ps qs → length qs ≤ length ps
drop_shorter _ _ (equal a b ps e) = omega arith
drop_shorter _ _ (middle a b c ps m) = omega arith
drop_shorter _ _ (later a ps qs d) = let h = drop_shorter ps qs d in omega (arith, h)

pub drops_shorter : (ps qs : List Point) → DropsSome ps qs → length qs ≤ length ps
drops_shorter _ _ (none ps) = omega arith
drops_shorter _ _ (more ps qs rs d ds) = let h = drop_shorter ps qs d in let k = drops_shorter qs rs ds in omega (arith, h, k)
