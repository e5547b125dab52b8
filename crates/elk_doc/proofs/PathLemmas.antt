-- What holds of a path holds of its image, and the other way round, where it holds so of points.
use Rattle.std.proofs.Common.{◌≡◌, ◌≢◌, ⊎_elim, inl, inr, ℕ, ◌+◌, ◌-◌, ◌<◌, ◌≤◌, List, [], ◌∷◌, map, length, arith, sym, subst, subst₂}
use Rattle.std.proofs.lemmas.List.{get_or-map, length-map, length-append}
use Rattle.drawing_types.specs.declared.shape.Point.{Point}
use Rattle.drawing_types.specs.declared.shape.Rect.{Rect}
use Rattle.drawing_types.specs.declared.shape.Side.{Side}
use Rattle.drawing_types.specs.declared.section.Section.{Section}
use Rattle.drawing_types.specs.Shapes.{origin}
use Rattle.elk_doc.specs.Drawing.{point_in, points_of}
use Rattle.drawing_types.specs.Segments.{MeetsRect, EntersRect, Share}
use Rattle.elk_doc.specs.Route.{IsStep, IsTurn, LeavesOutward, IsOrthogonal}
use Rattle.elk_doc.specs.Clear.{IsClear}
use Rattle.elk_doc.specs.Sharing.{PathsShare}

-- a section has two points at least
pub some_points : (s : Section) → 2 ≤ length (points_of s)
some_points s = let both = length-append s.bends (s.end ∷ []) in omega (arith, both)

-- ---- what keeps its numbers

-- Of two paths of equal length, at least two, the second is orthogonal where the first is.
orthogonal_alike : (xs ys : List Point) (s t u v : Side) → length ys ≡ length xs → 2 ≤ length xs
    → ((i j : ℕ) → i < length xs → j < length xs → IsStep (point_in xs i) (point_in xs j) → IsStep (point_in ys i) (point_in ys j))
    → ((i j k : ℕ) → i < length xs → j < length xs → k < length xs → IsTurn (point_in xs i) (point_in xs j) (point_in xs k) → IsTurn (point_in ys i) (point_in ys j) (point_in ys k))
    → ((i j : ℕ) → i < length xs → j < length xs → LeavesOutward s (point_in xs i) (point_in xs j) → LeavesOutward u (point_in ys i) (point_in ys j))
    → ((i j : ℕ) → i < length xs → j < length xs → LeavesOutward t (point_in xs i) (point_in xs j) → LeavesOutward v (point_in ys i) (point_in ys j))
    → IsOrthogonal xs s t → IsOrthogonal ys u v
orthogonal_alike xs ys s t u v same some step turn leaves comes h =
    record {
      steps = λ i k. step i (i + 1) (omega (arith, k, same)) (omega (arith, k, same)) (h.steps i (omega (arith, k, same)));
      turns = λ i k. turn i (i + 1) (i + 2) (omega (arith, k, same)) (omega (arith, k, same)) (omega (arith, k, same)) (h.turns i (omega (arith, k, same)));
      source_outward = leaves 0 1 (omega (arith, some)) (omega (arith, some)) h.source_outward;
      target_outward = subst (λ n. LeavesOutward v (point_in ys (n - 1)) (point_in ys (n - 2))) (sym same)
          (comes (length xs - 1) (length xs - 2) (omega (arith, some)) (omega (arith, some)) h.target_outward);
    }

-- ---- images of paths

module _ (f : Point → Point) (xs : List Point) where
  point_map : (i : ℕ) → i < length xs → point_in (map f xs) i ≡ f (point_in xs i)
  point_map i h = get_or-map f xs i origin origin h

  two_there : (Q : Point → Point → Type 0) (i j : ℕ) → i < length xs → j < length xs → Q (f (point_in xs i)) (f (point_in xs j)) → Q (point_in (map f xs) i) (point_in (map f xs) j)
  two_there Q i j hi hj q = subst₂ Q (sym (point_map i hi)) (sym (point_map j hj)) q

  two_back : (Q : Point → Point → Type 0) (i j : ℕ) → i < length xs → j < length xs → Q (point_in (map f xs) i) (point_in (map f xs) j) → Q (f (point_in xs i)) (f (point_in xs j))
  two_back Q i j hi hj q = subst₂ Q (point_map i hi) (point_map j hj) q

  pub orthogonal_there : (s t u v : Side) → ((a b : Point) → IsStep a b → IsStep (f a) (f b)) → ((a b c : Point) → IsTurn a b c → IsTurn (f a) (f b) (f c))
      → ((a b : Point) → LeavesOutward s a b → LeavesOutward u (f a) (f b)) → ((a b : Point) → LeavesOutward t a b → LeavesOutward v (f a) (f b))
      → 2 ≤ length xs → IsOrthogonal xs s t → IsOrthogonal (map f xs) u v
  orthogonal_there s t u v step turn leaves comes some h =
      orthogonal_alike xs (map f xs) s t u v (length-map xs f) some
      (λ i j hi hj q. two_there IsStep i j hi hj (step (point_in xs i) (point_in xs j) q))
      (λ i j k hi hj hk q.
      subst (λ a. IsTurn a (point_in (map f xs) j) (point_in (map f xs) k)) (sym (point_map i hi))
      (two_there (λ b c. IsTurn (f (point_in xs i)) b c) j k hj hk (turn (point_in xs i) (point_in xs j) (point_in xs k) q)))
      (λ i j hi hj q. two_there (LeavesOutward u) i j hi hj (leaves (point_in xs i) (point_in xs j) q))
      (λ i j hi hj q. two_there (LeavesOutward v) i j hi hj (comes (point_in xs i) (point_in xs j) q))
      h

  pub orthogonal_back : (s t u v : Side) → ((a b : Point) → IsStep (f a) (f b) → IsStep a b) → ((a b c : Point) → IsTurn (f a) (f b) (f c) → IsTurn a b c)
      → ((a b : Point) → LeavesOutward u (f a) (f b) → LeavesOutward s a b) → ((a b : Point) → LeavesOutward v (f a) (f b) → LeavesOutward t a b)
      → 2 ≤ length xs → IsOrthogonal (map f xs) u v → IsOrthogonal xs s t
  orthogonal_back s t u v step turn leaves comes some h =
      let same = length-map xs f in
      orthogonal_alike (map f xs) xs u v s t (sym same) (omega (arith, some, same))
      (λ i j hi hj q. step (point_in xs i) (point_in xs j) (two_back IsStep i j (omega (arith, hi, same)) (omega (arith, hj, same)) q))
      (λ i j k hi hj hk q. turn (point_in xs i) (point_in xs j) (point_in xs k)
      (two_back (λ b c. IsTurn (f (point_in xs i)) b c) j k (omega (arith, hj, same)) (omega (arith, hk, same))
      (subst (λ a. IsTurn a (point_in (map f xs) j) (point_in (map f xs) k)) (point_map i (omega (arith, hi, same))) q)))
      (λ i j hi hj q. leaves (point_in xs i) (point_in xs j) (two_back (LeavesOutward u) i j (omega (arith, hi, same)) (omega (arith, hj, same)) q))
      (λ i j hi hj q. comes (point_in xs i) (point_in xs j) (two_back (LeavesOutward v) i j (omega (arith, hi, same)) (omega (arith, hj, same)) q))
      h

  pub clear_there : (g : Rect → Rect) (s t c : ℕ) (outline box : Rect) → ((a b : Point) (r : Rect) → MeetsRect (f a) (f b) (g r) → MeetsRect a b r)
      → ((a b : Point) (r : Rect) → EntersRect (f a) (f b) (g r) → EntersRect a b r) → IsClear xs s t c outline box → IsClear (map f xs) s t c (g outline) (g box)
  clear_there g s t c outline box meets enters h =
      let same = length-map xs f in
      record {
        foreign = λ x y i k m. h.foreign x y i (omega (arith, k, same))
            (meets (point_in xs i) (point_in xs (i + 1)) outline (two_back (λ a b. MeetsRect a b (g outline)) i (i + 1) (omega (arith, k, same)) (omega (arith, k, same)) m));
        own = λ x i k m. h.own x i (omega (arith, k, same))
            (enters (point_in xs i) (point_in xs (i + 1)) box (two_back (λ a b. EntersRect a b (g box)) i (i + 1) (omega (arith, k, same)) (omega (arith, k, same)) m));
      }

  pub clear_back : (g : Rect → Rect) (s t c : ℕ) (outline box : Rect) → ((a b : Point) (r : Rect) → MeetsRect a b r → MeetsRect (f a) (f b) (g r))
      → ((a b : Point) (r : Rect) → EntersRect a b r → EntersRect (f a) (f b) (g r)) → IsClear (map f xs) s t c (g outline) (g box) → IsClear xs s t c outline box
  clear_back g s t c outline box meets enters h =
      let same = length-map xs f in
      record {
        foreign = λ x y i k m. h.foreign x y i (omega (arith, k, same))
            (two_there (λ a b. MeetsRect a b (g outline)) i (i + 1) (omega (arith, k)) (omega (arith, k)) (meets (point_in xs i) (point_in xs (i + 1)) outline m));
        own = λ x i k m. h.own x i (omega (arith, k, same))
            (two_there (λ a b. EntersRect a b (g box)) i (i + 1) (omega (arith, k)) (omega (arith, k)) (enters (point_in xs i) (point_in xs (i + 1)) box m));
      }

-- the same path, with other numbers for its ends and the child
pub clear_numbered : (path : List Point) (s t c u v e : ℕ) (outline box : Rect) → (u ≢ e → s ≢ c) → (v ≢ e → t ≢ c) → (u ≡ e → s ≡ c) → (v ≡ e → t ≡ c)
    → IsClear path s t c outline box → IsClear path u v e outline box
clear_numbered path s t c u v e outline box source target at_source at_target h =
    record {
      foreign = λ x y. h.foreign (source x) (target y);
      own = λ at. h.own (⊎_elim (λ x. inl (at_source x)) (λ y. inr (at_target y)) at);
    }

pub share_there : (f : Point → Point) (xs ys : List Point) → ((a b c d : Point) → Share a b c d → Share (f a) (f b) (f c) (f d)) → PathsShare xs ys → PathsShare (map f xs) (map f ys)
share_there f xs ys share h =
    let first = length-map xs f in
    let second = length-map ys f in
    let one = h.i_in in
    let two = h.j_in in
    record {
      i = h.i;
      j = h.j;
      i_in = omega (arith, one, first);
      j_in = omega (arith, two, second);
      piece = two_there f xs (λ a b. Share a b (point_in (map f ys) h.j) (point_in (map f ys) (h.j + 1))) h.i (h.i + 1) (omega (arith, one)) one
          (two_there f ys (λ c d. Share (f (point_in xs h.i)) (f (point_in xs (h.i + 1))) c d) h.j (h.j + 1) (omega (arith, two)) two
          (share (point_in xs h.i) (point_in xs (h.i + 1)) (point_in ys h.j) (point_in ys (h.j + 1)) h.piece));
    }

pub share_back : (f : Point → Point) (xs ys : List Point) → ((a b c d : Point) → Share (f a) (f b) (f c) (f d) → Share a b c d) → PathsShare (map f xs) (map f ys) → PathsShare xs ys
share_back f xs ys share h =
    let first = length-map xs f in
    let second = length-map ys f in
    let one = h.i_in in
    let two = h.j_in in
    record {
      i = h.i;
      j = h.j;
      i_in = omega (arith, one, first);
      j_in = omega (arith, two, second);
      piece = share (point_in xs h.i) (point_in xs (h.i + 1)) (point_in ys h.j) (point_in ys (h.j + 1))
          (two_back f ys (λ c d. Share (f (point_in xs h.i)) (f (point_in xs (h.i + 1))) c d) h.j (h.j + 1) (omega (arith, two, second)) (omega (arith, two, second))
          (two_back f xs (λ a b. Share a b (point_in (map f ys) h.j) (point_in (map f ys) (h.j + 1))) h.i (h.i + 1) (omega (arith, one, first)) (omega (arith, one, first)) h.piece));
    }
