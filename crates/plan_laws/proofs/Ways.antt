-- Paths of points, made from their ends on: what is put before a path, and what becomes of its fine points.
use Rattle.std.proofs.Common.{◌≡◌, ◌≢◌, ◌⊎◌, ⊎_elim, inl, inr, refl, subst, sym, ◌∙◌, List, [], ◌∷◌, ◌≤ℤ◌, arith}
use Rattle.std.proofs.lemmas.Int.{ints, clamps, by_lt_z}
use Rattle.drawing_types.proofs.SameShapes.{same_point}
use Rattle.drawing_types.specs.declared.shape.Point.{Point}
use Rattle.route_lines.specs.Tidied.{StartsAt, EndsAt, IsMiddle, Drops, middle, later, DropsSome, none, more, EachSegment, Heading, up, down, left, right, Goes, opposite, Onward, Runs}

-- b lies on from a by the heading, or is a
abbrev pub Along : Heading → Point → Point → Type 0
Along up a b = (a.x ≡ b.x) × (b.y ≤ℤ a.y)
Along down a b = (a.x ≡ b.x) × (a.y ≤ℤ b.y)
Along left a b = (a.y ≡ b.y) × (b.x ≤ℤ a.x)
Along right a b = (a.y ≡ b.y) × (a.x ≤ℤ b.x)

pub goes_along : (h : Heading) (a b : Point) → Goes h a b → Along h a b
goes_along up a b g = (g.0, omega (arith, ints))
goes_along down a b g = (g.0, omega (arith, ints))
goes_along left a b g = (g.0, omega (arith, ints))
goes_along right a b g = (g.0, omega (arith, ints))

stays_or_goes : (h : Heading) (a b : Point) → Along h a b → (a ≡ b) ⊎ Goes h a b
stays_or_goes up a b g = by_lt_z b.y a.y (λ l. inr (g.0, l)) (λ l. inl (same_point a b g.0 (omega (arith, ints))))
stays_or_goes down a b g = by_lt_z a.y b.y (λ l. inr (g.0, l)) (λ l. inl (same_point a b g.0 (omega (arith, ints))))
stays_or_goes left a b g = by_lt_z b.x a.x (λ l. inr (g.0, l)) (λ l. inl (same_point a b (omega (arith, ints)) g.0))
stays_or_goes right a b g = by_lt_z a.x b.x (λ l. inr (g.0, l)) (λ l. inl (same_point a b (omega (arith, ints)) g.0))

along_on : (h : Heading) (a b c : Point) → Along h a b → Along h b c → Along h a c
along_on up a b c g h = (g.0 ∙ h.0, omega (arith, ints))
along_on down a b c g h = (g.0 ∙ h.0, omega (arith, ints))
along_on left a b c g h = (g.0 ∙ h.0, omega (arith, ints))
along_on right a b c g h = (g.0 ∙ h.0, omega (arith, ints))

along_middle : (h : Heading) (a b c : Point) → Along h a b → Along h b c → IsMiddle a b c
along_middle up a b c g h = record { line = inl (g.0 ∙ h.0); between = record { across = (omega (arith, ints, clamps), omega (arith, ints, clamps)); along = (omega (arith, ints, clamps), omega (arith, ints, clamps)) } }
along_middle down a b c g h = record { line = inl (g.0 ∙ h.0); between = record { across = (omega (arith, ints, clamps), omega (arith, ints, clamps)); along = (omega (arith, ints, clamps), omega (arith, ints, clamps)) } }
along_middle left a b c g h = record { line = inr (g.0 ∙ h.0); between = record { across = (omega (arith, ints, clamps), omega (arith, ints, clamps)); along = (omega (arith, ints, clamps), omega (arith, ints, clamps)) } }
along_middle right a b c g h = record { line = inr (g.0 ∙ h.0); between = record { across = (omega (arith, ints, clamps), omega (arith, ints, clamps)); along = (omega (arith, ints, clamps), omega (arith, ints, clamps)) } }

no_turn : (h : Heading) → h ≢ opposite h
no_turn up e = absurd cc
no_turn down e = absurd cc
no_turn left e = absurd cc
no_turn right e = absurd cc

-- ---- a point before a path

each_before : (Q : Point → Point → Type 0) (a b : Point) (ps : List Point) → StartsAt b ps → Q a b → EachSegment Q ps → EachSegment Q (a ∷ ps)
each_before Q a b [] s q e = absurd s
each_before Q a b (c ∷ ps) s q e = (subst (λ z. Q a z) (sym s) q, e)

ends_before : (a b z : Point) (ps : List Point) → StartsAt b ps → EndsAt z ps → EndsAt z (a ∷ ps)
ends_before a b z [] s e = absurd s
ends_before a b z (c ∷ ps) s e = e

onward_before : (h k : Heading) (a b : Point) (ps : List Point) → StartsAt b ps → Along h a b → Onward h k ps → Onward h k (a ∷ ps)
onward_before h k a b [] s g o = absurd s
onward_before h k a b (c ∷ ps) s g o =
    ⊎_elim
    (λ e. inl (e ∙ sym s, o))
    (λ w. inr (h, no_turn h, subst (λ z. Goes h a z) (sym s) w, o))
    (stays_or_goes h a b g)

-- a path that runs on by one heading may follow any heading that is not its opposite
runs_onward : (h j k : Heading) (ps : List Point) → j ≢ opposite h → Runs j k ps → Onward h k ps
runs_onward h j k [] n r = absurd r
runs_onward h j k (a ∷ []) n r = absurd r
runs_onward h j k (a ∷ b ∷ ps) n r =
    ⊎_elim (λ x. inl (x.0, runs_onward h j k (b ∷ ps) n x.1)) (λ x. inr (j, n, x.0, x.1)) r

runs_before : (h k : Heading) (a b : Point) (ps : List Point) → StartsAt b ps → Along h a b → Runs h k ps → Runs h k (a ∷ ps)
runs_before h k a b [] s g r = absurd s
runs_before h k a b (c ∷ ps) s g r =
    ⊎_elim
    (λ e. inl (e ∙ sym s, r))
    (λ w. inr (subst (λ z. Goes h a z) (sym s) w, runs_onward h h k (c ∷ ps) (no_turn h) r))
    (stays_or_goes h a b g)

goes_before : (h k : Heading) (a b : Point) (ps : List Point) → StartsAt b ps → Goes h a b → Onward h k ps → Runs h k (a ∷ ps)
goes_before h k a b [] s g o = absurd s
goes_before h k a b (c ∷ ps) s g o = inr (subst (λ z. Goes h a z) (sym s) g, o)

drop_before : (q a b : Point) (ps : List Point) → StartsAt b ps → IsMiddle q a b → Drops (q ∷ a ∷ ps) (q ∷ ps)
drop_before q a b [] s m = absurd s
drop_before q a b (c ∷ ps) s m = middle q a c ps (subst (λ z. IsMiddle q a z) (sym s) m)

later_some : (q : Point) (ps qs : List Point) → DropsSome ps qs → DropsSome (q ∷ ps) (q ∷ qs)
later_some q _ _ (none ps) = none (q ∷ ps)
later_some q _ _ (more ps qs rs d ds) = more (q ∷ ps) (q ∷ qs) (q ∷ rs) (later q ps qs d) (later_some q qs rs ds)

-- ---- ways to the end z, which is come to by the heading k

-- The way comes to its first point by h, and that point can be dropped; ks are the points that are left.
pub record Comes (Q : Point → Point → Type 0) (k : Heading) (z : Point) (h : Heading) (a : Point) (ps ks : List Point) : Type 0 where
  pub starts : StartsAt a ps
  pub parts : EachSegment Q ps
  pub onward : Onward h k ps
  pub ends : EndsAt z ps
  pub drops : (q : Point) → Along h q a → DropsSome (q ∷ ps) (q ∷ ks)

-- it goes on by h as well
pub record Passes (Q : Point → Point → Type 0) (k : Heading) (z : Point) (h : Heading) (a : Point) (ps ks : List Point) : Type 0 where
  pub comes : Comes Q k z h a ps ks
  pub runs : Runs h k ps

-- The way leaves its first point by h, and keeps that point.
pub record Leaves (Q : Point → Point → Type 0) (k : Heading) (z : Point) (h : Heading) (a : Point) (ps ks : List Point) : Type 0 where
  pub starts : StartsAt a ps
  pub parts : EachSegment Q ps
  pub runs : Runs h k ps
  pub ends : EndsAt z ps
  pub drops : DropsSome ps ks

-- the end alone
pub finish : (Q : Point → Point → Type 0) (k : Heading) (z : Point) → Comes Q k z k z (z ∷ []) (z ∷ [])
finish Q k z = record { starts = refl; parts = tt; onward = refl; ends = refl; drops = λ q g. none (q ∷ z ∷ []) }

-- a point before it that is dropped
pub slide : (Q : Point → Point → Type 0) (k : Heading) (z : Point) (h : Heading) (a b : Point) (ps ks : List Point)
    → Along h a b → Q a b → Comes Q k z h b ps ks → Comes Q k z h a (a ∷ ps) ks
slide Q k z h a b ps ks g q w =
    record {
      starts = refl;
      parts = each_before Q a b ps w.starts q w.parts;
      onward = onward_before h k a b ps w.starts g w.onward;
      ends = ends_before a b z ps w.starts w.ends;
      drops = λ x f. more _ _ _ (drop_before x a b ps w.starts (along_middle h x a b f g)) (w.drops x (along_on h x a b f g));
    }

pub pass : (Q : Point → Point → Type 0) (k : Heading) (z : Point) (h : Heading) (a b : Point) (ps ks : List Point)
    → Goes h a b → Q a b → Comes Q k z h b ps ks → Passes Q k z h a (a ∷ ps) ks
pass Q k z h a b ps ks g q w =
    record { comes = slide Q k z h a b ps ks (goes_along h a b g) q w; runs = goes_before h k a b ps w.starts g w.onward }

-- a point before it that is kept
pub leave : (Q : Point → Point → Type 0) (k : Heading) (z : Point) (h : Heading) (a b : Point) (ps ks : List Point)
    → Goes h a b → Q a b → Comes Q k z h b ps ks → Leaves Q k z h a (a ∷ ps) (a ∷ ks)
leave Q k z h a b ps ks g q w =
    record {
      starts = refl;
      parts = each_before Q a b ps w.starts q w.parts;
      runs = goes_before h k a b ps w.starts g w.onward;
      ends = ends_before a b z ps w.starts w.ends;
      drops = w.drops a (goes_along h a b g);
    }

pub leave_on : (Q : Point → Point → Type 0) (k : Heading) (z : Point) (h : Heading) (a b : Point) (ps ks : List Point)
    → Along h a b → Q a b → Passes Q k z h b ps ks → Leaves Q k z h a (a ∷ ps) (a ∷ ks)
leave_on Q k z h a b ps ks g q w =
    record {
      starts = refl;
      parts = each_before Q a b ps w.comes.starts q w.comes.parts;
      runs = runs_before h k a b ps w.comes.starts g w.runs;
      ends = ends_before a b z ps w.comes.starts w.comes.ends;
      drops = w.comes.drops a g;
    }

-- a way that leaves a point may be come to by any heading but its opposite
pub turn : (Q : Point → Point → Type 0) (k : Heading) (z : Point) (h j : Heading) (a : Point) (ps ks : List Point)
    → j ≢ opposite h → Leaves Q k z j a ps ks → Comes Q k z h a ps ks
turn Q k z h j a ps ks n w =
    record {
      starts = w.starts;
      parts = w.parts;
      onward = runs_onward h j k ps n w.runs;
      ends = w.ends;
      drops = λ q g. later_some q ps ks w.drops;
    }
