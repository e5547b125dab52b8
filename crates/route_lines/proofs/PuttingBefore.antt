-- A point put before a tidied path.
use Rattle.std.proofs.Common.{◌≡◌, ◌≢◌, ⊎_elim, inl, inr, List, [], ◌∷◌, ◌++◌, refl, sym, ap, ◌∙◌, subst, ℕ, ◌+◌, ◌<◌, ◌≤◌, length, get_or, drop, Option, Some, None, IsSome, ℤ, arith, rules}
use Rattle.std.specs.Prelude.{option_to_list, unwrap_or}
use Rattle.std.proofs.lemmas.Int.{ints, clamps}
use Rattle.std.proofs.lemmas.List.{drop_more, drop_all, nil_from_length}
use Rattle.drawing_types.specs.declared.shape.Point.{Point}
use Rattle.drawing_types.specs.declared.section.Section.{Section}
use Rattle.drawing_types.specs.Segments.{IsBetween}
use Rattle.route_lines.specs.Tidied.{IsMiddle, IsMiddleBeforeFirst, Drops, equal, middle, later, DropsSome, none, more, IsTidied, IsSectionOf, one, many}

some_later : (p : Point) (ps qs : List Point) → DropsSome ps qs → DropsSome (p ∷ ps) (p ∷ qs)
some_later p _ _ (none ps) = none (p ∷ ps)
some_later p _ _ (more ps qs rs d ds) = more (p ∷ ps) (p ∷ qs) (p ∷ rs) (later p ps qs d) (some_later p qs rs ds)

then_drops : (ps qs rs : List Point) → DropsSome ps qs → Drops qs rs → DropsSome ps rs
then_drops _ _ rs (none ps) d = more ps rs rs d (none rs)
then_drops _ _ rs (more ps qs us d ds) e = more ps qs rs d (then_drops qs us rs ds e)

same_point : (a b : Point) → a.x ≡ b.x → a.y ≡ b.y → a ≡ b
same_point a b e f =
    let at : ℤ → ℤ → Point = λ x y. record { x = x; y = y } in
    ap (λ x. at x a.y) e ∙ ap (λ y. at b.x y) f

-- along one coordinate, where b lies between a and c, and c between a and d, c lies between b and d
between_on : (a b c d : ℤ) → IsBetween a c b → IsBetween a d c → IsBetween b d c
between_on a b c d h k =
    let h0 = h.0 in
    let h1 = h.1 in
    let k0 = k.0 in
    let k1 = k.1 in
    (omega (arith, ints, clamps), omega (arith, ints, clamps))

horizontal_on : (a b c d : ℤ) → a ≡ d → IsBetween a c b → IsBetween a d c → b ≡ d
horizontal_on a b c d e h k =
    let h0 = h.0 in
    let h1 = h.1 in
    let k0 = k.0 in
    let k1 = k.1 in
    omega (arith, ints, clamps)

pinched : (a b : ℤ) → IsBetween a a b → a ≡ b
pinched a b h =
    let h0 = h.0 in
    let h1 = h.1 in
    omega (arith, ints, clamps)

middle_on : (a b c d : Point) → IsMiddle a b c → IsMiddle a c d → IsMiddle b c d
middle_on a b c d m k =
    record {
      line =
          ⊎_elim
          (λ e. inl (horizontal_on a.x b.x c.x d.x e m.between.across k.between.across))
          (λ e. inr (horizontal_on a.y b.y c.y d.y e m.between.along k.between.along))
          k.line;
      between =
          record {
            across = between_on a.x b.x c.x d.x m.between.across k.between.across;
            along = between_on a.y b.y c.y d.y m.between.along k.between.along;
          };
    }

middle_alone : (a b c : Point) → a ≡ c → IsMiddle a b c → a ≡ b
middle_alone a b c e m =
    let n : IsMiddle a b a = subst (λ z. IsMiddle a b z) (sym e) m in
    same_point a b (pinched a.x b.x n.between.across) (pinched a.y b.y n.between.along)

-- a list with no point loses none
none_dropped : (us rs : List Point) → Drops us rs → us ≡ [] → ⊥
none_dropped _ _ (equal a b us e) w = cc
none_dropped _ _ (middle a b c us m) w = cc
none_dropped _ _ (later a us vs d) w = cc

one_dropped : (p : Point) (us rs : List Point) → Drops us rs → us ≡ p ∷ [] → ⊥
one_dropped p _ _ (equal a b us e) w = let bad : b ∷ us ≡ [] = cc in cc
one_dropped p _ _ (middle a b c us m) w = let bad : b ∷ c ∷ us ≡ [] = cc in cc
one_dropped p _ _ (later a us vs d) w = none_dropped us vs d (cc)

pub one_tidied : (p : Point) → IsTidied (p ∷ []) (p ∷ [])
one_tidied p = record { dropped = none (p ∷ []); tidy = λ rs d. one_dropped p (p ∷ []) rs d refl }

pub same_before : (p h : Point) (qs ps : List Point) → p ≡ h → IsTidied ps (h ∷ qs) → IsTidied (p ∷ ps) (h ∷ qs)
same_before p h qs ps e t =
    record {
      dropped = then_drops (p ∷ ps) (p ∷ h ∷ qs) (h ∷ qs) (some_later p ps (h ∷ qs) t.dropped) (equal p h qs e);
      tidy = t.tidy;
    }

passed_tidy : (p h c : Point) (qs : List Point) → p ≢ h → IsMiddle p h c → ((rs : List Point) → Drops (h ∷ c ∷ qs) rs → ⊥)
    → (us rs : List Point) → Drops us rs → us ≡ p ∷ c ∷ qs → ⊥
passed_tidy p h c qs ne m t _ _ (equal a b us e) w = let same : p ≡ c = cc in ne (middle_alone p h c same m)
passed_tidy p h c qs ne m t _ _ (middle a b d us k) w =
    let pa : a ≡ p = cc in
    let bc : b ≡ c = cc in
    let rest : d ∷ us ≡ qs = cc in
    let k' : IsMiddle p c d = subst (λ z. IsMiddle z c d) pa (subst (λ z. IsMiddle a z d) bc k) in
    t (h ∷ d ∷ us) (subst (λ v. Drops (h ∷ c ∷ v) (h ∷ d ∷ us)) rest (middle h c d us (middle_on p h c d m k')))
passed_tidy p h c qs ne m t _ _ (later a us vs k) w =
    let rest : us ≡ c ∷ qs = cc in t (h ∷ vs) (subst (λ v. Drops (h ∷ v) (h ∷ vs)) rest (later h us vs k))

pub passed_before : (p h : Point) (qs ps : List Point) → p ≢ h → IsMiddleBeforeFirst p h qs → IsTidied ps (h ∷ qs) → IsTidied (p ∷ ps) (p ∷ qs)
passed_before p h [] ps ne m t = absurd m
passed_before p h (c ∷ qs) ps ne m t =
    record {
      dropped = then_drops (p ∷ ps) (p ∷ h ∷ c ∷ qs) (p ∷ c ∷ qs) (some_later p ps (h ∷ c ∷ qs) t.dropped) (middle p h c qs m);
      tidy = λ rs d. passed_tidy p h c qs ne m t.tidy (p ∷ c ∷ qs) rs d refl;
    }

kept_tidy : (p h : Point) (qs : List Point) → p ≢ h → (IsMiddleBeforeFirst p h qs → ⊥) → ((rs : List Point) → Drops (h ∷ qs) rs → ⊥)
    → (us rs : List Point) → Drops us rs → us ≡ p ∷ h ∷ qs → ⊥
kept_tidy p h qs ne m t _ _ (equal a b us e) w = let same : p ≡ h = cc in ne same
kept_tidy p h qs ne m t _ _ (middle a b d us k) w =
    let pa : a ≡ p = cc in
    let bh : b ≡ h = cc in
    let rest : d ∷ us ≡ qs = cc in
    let k' : IsMiddle p h d = subst (λ z. IsMiddle z h d) pa (subst (λ z. IsMiddle a z d) bh k) in
    m (subst (λ v. IsMiddleBeforeFirst p h v) rest k')
kept_tidy p h qs ne m t _ _ (later a us vs k) w =
    let rest : us ≡ h ∷ qs = cc in t vs (subst (λ v. Drops v vs) rest k)

pub kept_before : (p h : Point) (qs ps : List Point) → p ≢ h → (IsMiddleBeforeFirst p h qs → ⊥) → IsTidied ps (h ∷ qs) → IsTidied (p ∷ ps) (p ∷ h ∷ qs)
kept_before p h qs ps ne m t =
    record {
      dropped = some_later p ps (h ∷ qs) t.dropped;
      tidy = λ rs d. kept_tidy p h qs ne m t.tidy (p ∷ h ∷ qs) rs d refl;
    }

last_alone : (ps : List Point) (i : ℕ) (d : Point) → i + 1 ≡ length ps → drop i ps ≡ get_or ps i d ∷ []
last_alone ps i d e =
    let h : i < length ps = omega arith in
    let none_left : length ps ≤ i + 1 = omega arith in
    drop_more ps i d h ∙ ap (λ qs. get_or ps i d ∷ qs) (drop_all (i + 1) ps none_left)

-- a path that begins with its last point
pub begin_tidied : (ps path : List Point) (i : ℕ) (d : Point) → i + 1 ≡ length ps → path ≡ get_or ps i d ∷ [] → IsTidied (drop i ps) path
begin_tidied ps path i d e p =
    subst (λ z. IsTidied (drop i ps) z) (sym p)
    (subst (λ z. IsTidied z (get_or ps i d ∷ [])) (sym (last_alone ps i d e)) (one_tidied (get_or ps i d)))

pub nothing_tidied : (ps qs : List Point) → length ps ≡ 0 → qs ≡ [] → IsTidied ps qs
nothing_tidied ps qs e f =
    subst (λ z. IsTidied z qs) (sym (nil_from_length ps e))
    (subst (λ z. IsTidied [] z) (sym f) (record { dropped = none []; tidy = λ rs d. none_dropped [] rs d refl }))

-- the section of a path by its first point, those between, and its last
pub section_by_end : (h : Point) (rs bends : List Point) (o : Option Point) (s : Section)
    → rs ≡ bends ++ option_to_list o → (0 < length rs → IsSome o) → s.start ≡ h → s.bends ≡ bends → s.end ≡ unwrap_or o h
    → IsSectionOf (h ∷ rs) s
section_by_end h rs [] None s e v a b c =
    subst (λ z. IsSectionOf (h ∷ z) s) (sym e) (one h s a b c)
section_by_end h rs (x ∷ xs) None s e v a b c =
    let some : 0 < length rs = subst (λ z. 0 < length z) (sym e) (omega arith) in absurd (search (rules, v some))
section_by_end h rs bends (Some x) s e v a b c =
    subst (λ z. IsSectionOf (h ∷ z) s) (sym e)
    (subst (λ z. IsSectionOf (z ∷ (bends ++ x ∷ [])) s) a
    (subst (λ z. IsSectionOf (s.start ∷ (z ++ x ∷ [])) s) b
    (subst (λ z. IsSectionOf (s.start ∷ (s.bends ++ z ∷ [])) s) c (many s))))
