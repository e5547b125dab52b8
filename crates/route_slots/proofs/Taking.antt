-- Segments come to their slots one after the other.
use Rattle.std.proofs.Common.{◌≡◌, ◌≢◌, ◌⊎◌, ⊎_elim, inl, inr, ℕ, ℤ, pos, ◌+◌, ◌<◌, ◌≤◌, Bool, true, false, ap, sym, ◌∙◌, refl, subst, ◌<ℤ◌, ◌≤ℤ◌, List, length, set, get_or, arith}
use Rattle.std.proofs.lemmas.Bool.{cases_lt, cases_eq}
use Rattle.std.proofs.lemmas.List.{get_or-set_same, get_or-set_other, length-set}
use Rattle.std.specs.BTreeSet.{BTreeSet, btree_set_len, Updates, IsLowerBound}
use Rattle.std.proofs.lemmas.Int.{ints}
use Rattle.route_slots.specs.declared.slotting.Segment.{Segment}
use Rattle.route_slots.specs.declared.slotting.Row.{Row}
use Rattle.route_slots.specs.Slotting.{Key, key_cmp, key_of, has_key, segment_at, IsReal, AreWaiting, AreAtOneDepth, AreSlots, End, has_end, Takes, fresh, reuse}
use Rattle.route_slots.proofs.Keys.{same_key, taken_from, taken_other, least_depth, least_low}

-- the segment has its slot
abbrev pub IsDone : List Segment → BTreeSet Key → ℕ → Type 0
IsDone ps w i = IsReal ps i × (has_key w (key_of (segment_at ps i) i) ≡ false)

-- at one depth each slot has an end, and in each a segment that has its slot contains one height
pub record MeetSoFar (ps : List Segment) (ss : List ℕ) (w : BTreeSet Key) (row : Row) : Type 0 where
  pub depths : (i : ℕ) → IsDone ps w i → (segment_at ps i).depth ≡ row.depth
  pub ends : (s : ℕ) → s < row.count → (h : ℤ) × (has_end row.busy (h, s) ≡ true)
  pub height : ℤ
  pub each : (s : ℕ) → s < row.count → (i : ℕ) × IsDone ps w i × (get_or ss i 0 ≡ s) × ((segment_at ps i).low ≤ℤ height) × (height ≤ℤ (segment_at ps i).high)

pub record AreSlotted (ps : List Segment) (ss : List ℕ) (w : BTreeSet Key) (row : Row) : Type 0 where
  pub len : length ss ≡ length ps
  pub few : row.count + btree_set_len w ≤ length ps
  pub from : (q : Key) → has_key w q ≡ true → (i : ℕ) × (i < length ps) × ((segment_at ps i).real ≡ true) × (q ≡ key_of (segment_at ps i) i)
  pub below : (i : ℕ) → IsDone ps w i → get_or ss i 0 < row.count
  pub used : (s : ℕ) → s < row.count → (i : ℕ) × IsDone ps w i × (get_or ss i 0 ≡ s)
  pub order : (i j : ℕ) → IsDone ps w i → IsDone ps w j → (segment_at ps i).depth < (segment_at ps j).depth → get_or ss i 0 < get_or ss j 0
  pub apart : (i j : ℕ) → IsDone ps w i → IsDone ps w j → i ≢ j → get_or ss i 0 ≡ get_or ss j 0
      → ((segment_at ps i).high <ℤ (segment_at ps j).low) ⊎ ((segment_at ps j).high <ℤ (segment_at ps i).low)
  pub ahead : (i j : ℕ) → IsDone ps w i → IsReal ps j → has_key w (key_of (segment_at ps j) j) ≡ true → (segment_at ps i).depth ≤ (segment_at ps j).depth
  pub lows : (i j : ℕ) → IsDone ps w i → IsReal ps j → has_key w (key_of (segment_at ps j) j) ≡ true → (segment_at ps i).depth ≡ (segment_at ps j).depth → (segment_at ps i).low ≤ℤ (segment_at ps j).low
  pub met : AreAtOneDepth ps → MeetSoFar ps ss w row
  pub held : (h : ℤ) (s : ℕ) → has_end row.busy (h, s) ≡ true → (i : ℕ) × IsDone ps w i × (get_or ss i 0 ≡ s) × ((segment_at ps i).depth ≡ row.depth) × ((segment_at ps i).high ≡ h)
  pub last : (h : ℤ) (s i : ℕ) → has_end row.busy (h, s) ≡ true → IsDone ps w i → get_or ss i 0 ≡ s → (segment_at ps i).high ≤ℤ h

-- the slot that a segment takes fits it
record Fits (ps : List Segment) (ss : List ℕ) (w : BTreeSet Key) (row new : Row) (x s : ℕ) : Type 0 where
  behind : (j : ℕ) → IsDone ps w j → (segment_at ps j).depth < (segment_at ps x).depth → get_or ss j 0 < s
  clear : (j : ℕ) → IsDone ps w j → get_or ss j 0 ≡ s → (segment_at ps j).high <ℤ (segment_at ps x).low
  inside : s < new.count
  more : (row.count ≤ new.count) × (new.count ≤ row.count + 1)
  known : (r : ℕ) → r < new.count → (r ≡ s) ⊎ (r < row.count)
  from : (h : ℤ) (r : ℕ) → has_end new.busy (h, r) ≡ true
      → (((segment_at ps x).high ≡ h) × (s ≡ r)) ⊎ (((segment_at ps x).depth ≡ row.depth) × (has_end row.busy (h, r) ≡ true) × (r ≢ s))

-- a slot has one end at most
one_end : (ps : List Segment) (ss : List ℕ) (w : BTreeSet Key) (row : Row) → AreSlotted ps ss w row → (h h' : ℤ) (s : ℕ)
    → has_end row.busy (h, s) ≡ true → has_end row.busy (h', s) ≡ true → h ≡ h'
one_end ps ss w row t h h' s a b =
    let u = t.held h s a in
    let v = t.held h' s b in
    let p = t.last h' s u.0 b u.1 u.2 in
    let q = t.last h s v.0 a v.1 v.2 in
    let e = u.4 in
    let f = v.4 in
    omega (arith, ints)

fits : (ps : List Segment) (ss : List ℕ) (w : BTreeSet Key) (row new : Row) (x s : ℕ) → AreSlotted ps ss w row → Takes row new (segment_at ps x) s → Fits ps ss w row new x s
fits ps ss w row new x s t (fresh e c from full kept here) =
    record {
      behind = λ j d l. let b = t.below j d in omega arith;
      clear = λ j d same. absurd (let b = t.below j d in omega arith);
      inside = omega arith;
      more = (omega arith, omega arith);
      known = λ r l. ⊎_elim (λ (lt : r < row.count). inr lt) (λ (ge : row.count ≤ r). inl (omega arith)) (cases_lt r row.count);
      from = λ h r b. ⊎_elim
          (λ (q : (h, r) ≡ ((segment_at ps x).high, s)). inl (sym (ap (λ (z : End). z.0) q), sym (ap (λ (z : End). z.1) q)))
          (λ (o : ((segment_at ps x).depth ≡ row.depth) × (has_end row.busy (h, r) ≡ true)).
          inr (o.0, o.1, λ same. let u = t.held h r o.1 in let l = t.below u.0 u.1 in let f = u.2 in omega arith))
          (from (h, r) b);
    }
fits ps ss w row new x s t (reuse h lv there above c from kept here) =
    let u = t.held h s there in
    let at = u.2 in
    let in_row = t.below u.0 u.1 in
    record {
      behind = λ j d l.
          let lu : (segment_at ps u.0).depth ≡ (segment_at ps x).depth = u.3 ∙ sym lv in
          let o = t.order j u.0 d u.1 (omega arith) in omega arith;
      clear = λ j d same. let below = t.last h s j there d same in omega (arith, ints);
      inside = omega arith;
      more = (omega arith, omega arith);
      known = λ r l. inr (omega arith);
      from = λ h' r b. ⊎_elim
          (λ (q : (h', r) ≡ ((segment_at ps x).high, s)). inl (sym (ap (λ (z : End). z.0) q), sym (ap (λ (z : End). z.1) q)))
          (λ (o : (has_end row.busy (h', r) ≡ true) × ((h', r) ≢ (h, s))).
          inr (
            lv,
            o.0,
            λ same.
                let o' : has_end row.busy (h', s) ≡ true = subst (λ z. has_end row.busy (h', z) ≡ true) same o.0 in
                let e : h' ≡ h = one_end ps ss w row t h' h s o' there in
                let at_end : ℤ → ℕ → End = λ a b. (a, b) in
                o.1 (ap (λ a. at_end a r) e ∙ ap (λ b. at_end h b) same),
          ))
          (from (h', r) b);
    }

module _ (ps : List Segment) (ss : List ℕ) (w v : BTreeSet Key) (row new : Row) (x s : ℕ) (t : AreSlotted ps ss w row) (real : IsReal ps x)
    (there : has_key w (key_of (segment_at ps x) x) ≡ true) (least : IsLowerBound key_cmp w (key_of (segment_at ps x) x))
    (takes : Updates key_cmp w v (key_of (segment_at ps x) x) false) (fewer : btree_set_len v + 1 ≡ btree_set_len w)
    (taken : Takes row new (segment_at ps x) s) (depth : new.depth ≡ (segment_at ps x).depth) (proper : (segment_at ps x).low ≤ℤ (segment_at ps x).high) where
  abbrev key : Key
  key = key_of (segment_at ps x) x

  abbrev slots : List ℕ
  slots = set ss x s

  here : get_or slots x 0 ≡ s
  here = get_or-set_same ss x s 0 (let len = t.len in let l = real.0 in omega arith)

  other : (i : ℕ) → i ≢ x → get_or slots i 0 ≡ get_or ss i 0
  other i ne = get_or-set_other ss x i s 0 ne

  not_here : (i : ℕ) → IsDone ps w i → i ≢ x
  not_here i d e =
      let waits : has_key w (key_of (segment_at ps i) i) ≡ true = subst (λ z. has_key w (key_of (segment_at ps z) z) ≡ true) (sym e) there in
      let bad : true ≡ false = sym waits ∙ d.1 in cc

  done : (i : ℕ) → IsDone ps v i → (i ≡ x) ⊎ IsDone ps w i
  done i d =
      ⊎_elim
      (λ e. inl (sym (ap (λ (q : Key). q.1.1) (same_key key (key_of (segment_at ps i) i) e))))
      (λ e. inr (d.0, e))
      (taken_other _ _ _ (takes.0 (key_of (segment_at ps i) i)) d.1)

  done_here : IsDone ps v x
  done_here = (real, takes.1)

  done_still : (i : ℕ) → IsDone ps w i → IsDone ps v i
  done_still i d = (d.0, still (has_key v (key_of (segment_at ps i) i)) refl)
    where
      still : (b : Bool) → has_key v (key_of (segment_at ps i) i) ≡ b → has_key v (key_of (segment_at ps i) i) ≡ false
      still false e = e
      still true e = absurd (let bad : true ≡ false = sym (taken_from _ _ _ (takes.0 (key_of (segment_at ps i) i)) e) ∙ d.1 in cc)

  waited : (q : Key) → has_key v q ≡ true → has_key w q ≡ true
  waited q h = taken_from _ _ _ (takes.0 q) h

  fit : Fits ps ss w row new x s
  fit = fits ps ss w row new x s t taken

  at_x : (i : ℕ) → i ≡ x → get_or slots i 0 ≡ s
  at_x i e = subst (λ z. get_or slots z 0 ≡ s) (sym e) here

  at_old : (i : ℕ) → IsDone ps w i → get_or slots i 0 ≡ get_or ss i 0
  at_old i d = other i (not_here i d)

  depth_x : (i : ℕ) → i ≡ x → (segment_at ps i).depth ≡ (segment_at ps x).depth
  depth_x i e = ap (λ z. (segment_at ps z).depth) e

  -- where all segments are at one depth, the row's is that depth as soon as a slot is taken
  row_depth : AreAtOneDepth ps → (r : ℕ) → r < row.count → (segment_at ps x).depth ≡ row.depth
  row_depth one r l = let u = t.used r l in one x u.0 real u.1.0 ∙ (t.met one).depths u.0 u.1

  depth_now : AreAtOneDepth ps → (i : ℕ) → IsDone ps v i → (segment_at ps i).depth ≡ new.depth
  depth_now one i d = one i x d.0 real ∙ sym depth

  met_more : Takes row new (segment_at ps x) s → AreAtOneDepth ps → MeetSoFar ps slots v new
  met_more (fresh e c from full kept end_here) one =
      let m = t.met one in
      record {
        depths = depth_now one;
        ends = λ r l. ⊎_elim
            (λ (old : r < row.count). let end = m.ends r old in (end.0, kept (row_depth one r old) (end.0, r) end.1))
            (λ (ge : row.count ≤ r). let same : s ≡ r = omega arith in ((segment_at ps x).high, subst (λ z. has_end new.busy ((segment_at ps x).high, z) ≡ true) same end_here))
            (cases_lt r row.count);
        height = (segment_at ps x).low;
        each = λ r l. ⊎_elim
            (λ (old : r < row.count).
            let end = m.ends r old in
            let u = t.held end.0 r end.1 in
            let ends_below = full (row_depth one r old) (end.0, r) end.1 in (
              u.0,
              done_still u.0 u.1,
              at_old u.0 u.1 ∙ u.2,
              t.lows u.0 x u.1 real there (one u.0 x u.1.0 real),
              subst (λ z. (segment_at ps x).low ≤ℤ z) (sym u.4) ends_below,
            ))
            (λ (ge : row.count ≤ r). let same : s ≡ r = omega arith in (x, done_here, here ∙ same, omega (arith, ints), proper))
            (cases_lt r row.count);
      }
  met_more (reuse h lv was_there above c from kept end_here) one =
      let m = t.met one in
      record {
        depths = depth_now one;
        ends = λ r l. ⊎_elim
            (λ (same : r ≡ s). ((segment_at ps x).high, subst (λ z. has_end new.busy ((segment_at ps x).high, z) ≡ true) (sym same) end_here))
            (λ (ne : r ≡ s → ⊥). let end = m.ends r (omega arith) in (end.0, kept (end.0, r) end.1 (λ both. ne (ap (λ (z : End). z.1) both))))
            (cases_eq r s);
        height = m.height;
        each = λ r l. let u = m.each r (omega arith) in (u.0, done_still u.0 u.1, at_old u.0 u.1 ∙ u.2, u.3, u.4);
      }

  pub slotted_more : AreSlotted ps slots v new
  slotted_more =
      record {
        len = length-set ss x s ∙ t.len;
        few = let few = t.few in let more = fit.more.1 in omega arith;
        from = λ q h. t.from q (waited q h);
        below = λ i d. ⊎_elim
            (λ (e : i ≡ x). let a = at_x i e in let l = fit.inside in omega arith)
            (λ (o : IsDone ps w i). let a = at_old i o in let l = t.below i o in let m = fit.more.0 in omega arith)
            (done i d);
        used = λ r l. ⊎_elim
            (λ (e : r ≡ s). (x, done_here, here ∙ sym e))
            (λ (old : r < row.count). let u = t.used r old in (u.0, done_still u.0 u.1, at_old u.0 u.1 ∙ u.2))
            (fit.known r l);
        order = λ i j di dj l. ⊎_elim
            (λ (ei : i ≡ x). ⊎_elim
            (λ (ej : j ≡ x). let e = depth_x i ei in let f = depth_x j ej in absurd (omega arith))
            (λ (oj : IsDone ps w j). let a = t.ahead j x oj real there in let e = depth_x i ei in absurd (omega arith))
            (done j dj))
            (λ (oi : IsDone ps w i). ⊎_elim
            (λ (ej : j ≡ x). let f = depth_x j ej in let vi = at_old i oi in let vj = at_x j ej in let b = fit.behind i oi (omega arith) in omega arith)
            (λ (oj : IsDone ps w j). let vi = at_old i oi in let vj = at_old j oj in let o = t.order i j oi oj l in omega arith)
            (done j dj))
            (done i di);
        apart = λ i j di dj ne same. ⊎_elim
            (λ (ei : i ≡ x). ⊎_elim
            (λ (ej : j ≡ x). absurd (ne (ei ∙ sym ej)))
            (λ (oj : IsDone ps w j). inr (subst (λ z. (segment_at ps j).high <ℤ (segment_at ps z).low) (sym ei) (fit.clear j oj (sym (at_old j oj) ∙ sym same ∙ at_x i ei))))
            (done j dj))
            (λ (oi : IsDone ps w i). ⊎_elim
            (λ (ej : j ≡ x). inl (subst (λ z. (segment_at ps i).high <ℤ (segment_at ps z).low) (sym ej) (fit.clear i oi (sym (at_old i oi) ∙ same ∙ at_x j ej))))
            (λ (oj : IsDone ps w j). t.apart i j oi oj ne (sym (at_old i oi) ∙ same ∙ at_old j oj))
            (done j dj))
            (done i di);
        ahead = λ i j di rj h. ⊎_elim
            (λ (ei : i ≡ x). let le = least_depth key (key_of (segment_at ps j) j) (least (key_of (segment_at ps j) j) (waited (key_of (segment_at ps j) j) h)) in let e = depth_x i ei in omega arith)
            (λ (oi : IsDone ps w i). t.ahead i j oi rj (waited (key_of (segment_at ps j) j) h))
            (done i di);
        lows = λ i j di rj h same. ⊎_elim
            (λ (ei : i ≡ x).
            let le = least_low key (key_of (segment_at ps j) j) (least (key_of (segment_at ps j) j) (waited (key_of (segment_at ps j) j) h)) (sym (depth_x i ei) ∙ same) in
            subst (λ z. (segment_at ps z).low ≤ℤ (segment_at ps j).low) (sym ei) le)
            (λ (oi : IsDone ps w i). t.lows i j oi rj (waited (key_of (segment_at ps j) j) h) same)
            (done i di);
        met = met_more taken;
        held = λ h r b. ⊎_elim
            (λ (q : ((segment_at ps x).high ≡ h) × (s ≡ r)). (x, done_here, here ∙ q.1, sym depth, q.0))
            (λ (o : ((segment_at ps x).depth ≡ row.depth) × (has_end row.busy (h, r) ≡ true) × (r ≢ s)).
            let u = t.held h r o.1 in (u.0, done_still u.0 u.1, at_old u.0 u.1 ∙ u.2, u.3 ∙ sym o.0 ∙ sym depth, u.4))
            (fit.from h r b);
        last = λ h r i b di same. ⊎_elim
            (λ (q : ((segment_at ps x).high ≡ h) × (s ≡ r)). ⊎_elim
            (λ (ei : i ≡ x). let e : (segment_at ps i).high ≡ (segment_at ps x).high = ap (λ z. (segment_at ps z).high) ei in let f = q.0 in omega (arith, ints))
            (λ (oi : IsDone ps w i). let c = fit.clear i oi (sym (at_old i oi) ∙ same ∙ sym q.1) in let f = q.0 in omega (arith, ints))
            (done i di))
            (λ (o : ((segment_at ps x).depth ≡ row.depth) × (has_end row.busy (h, r) ≡ true) × (r ≢ s)). ⊎_elim
            (λ (ei : i ≡ x). absurd (o.2 (sym same ∙ at_x i ei)))
            (λ (oi : IsDone ps w i). t.last h r i o.1 oi (sym (at_old i oi) ∙ same))
            (done i di))
            (fit.from h r b);
      }

-- a key that waits is that of a segment
pub key_inside : (ps : List Segment) (ss : List ℕ) (w : BTreeSet Key) (row : Row) → AreSlotted ps ss w row → (q : Key) → has_key w q ≡ true → q.1.1 < length ps
key_inside ps ss w row t q member =
    let at = t.from q member in subst (λ (k : Key). k.1.1 < length ps) (sym at.3) at.1

pub key_slotted : (ps : List Segment) (ss : List ℕ) (w v : BTreeSet Key) (row new : Row) (q : Key) (s : ℕ) → AreSlotted ps ss w row → has_key w q ≡ true
    → IsLowerBound key_cmp w q → Updates key_cmp w v q false → btree_set_len v + 1 ≡ btree_set_len w → Takes row new (segment_at ps q.1.1) s → new.depth ≡ (segment_at ps q.1.1).depth
    → ((i : ℕ) → i < length ps → (segment_at ps i).low ≤ℤ (segment_at ps i).high) → AreSlotted ps (set ss q.1.1 s) v new
key_slotted ps ss w v row new q s t member least takes fewer taken depth proper =
    let at = t.from q member in
    let e : q.1.1 ≡ at.0 = ap (λ (k : Key). k.1.1) at.3 in
    subst (λ z. AreSlotted ps (set ss z s) v new) (sym e)
    (slotted_more ps ss w v row new at.0 s t (at.1, at.2) (subst (λ k. has_key w k ≡ true) at.3 member) (subst (λ k. IsLowerBound key_cmp w k) at.3 least)
    (subst (λ k. Updates key_cmp w v k false) at.3 takes) fewer (subst (λ z. Takes row new (segment_at ps z) s) e taken) (subst (λ z. new.depth ≡ (segment_at ps z).depth) e depth)
    (proper at.0 at.1))

-- when none waits, each segment has its slot
pub all_slotted : (ps : List Segment) (ss : List ℕ) (w : BTreeSet Key) (row : Row) → AreSlotted ps ss w row → ((q : Key) → has_key w q ≡ false) → AreSlots ps ss row.count
all_slotted ps ss w row t none =
    let done : (i : ℕ) → IsReal ps i → IsDone ps w i = λ i r. (r, none (key_of (segment_at ps i) i)) in
    record {
      len = t.len;
      below = λ i r. t.below i (done i r);
      used = λ s l. let u = t.used s l in (u.0, u.1.0, u.2);
      order = λ i j ri rj l. t.order i j (done i ri) (done j rj) l;
      apart = λ i j ri rj ne same. t.apart i j (done i ri) (done j rj) ne same;
      met = λ one. let m = t.met one in record { height = m.height; each = λ s l. let u = m.each s l in (u.0, u.1.0, u.2, u.3, u.4) };
    }

-- at first each segment waits
pub none_slotted : (ps : List Segment) (ss : List ℕ) (w : BTreeSet Key) (row : Row) → row.count ≡ 0 → ((q : End) → has_end row.busy q ≡ false)
    → length ss ≡ length ps → AreWaiting ps (length ps) w → AreSlotted ps ss w row
none_slotted ps ss w row zero_count empty len a =
    let none : (i : ℕ) → IsDone ps w i → ⊥ = λ i d. let bad : true ≡ false = sym (a.each i d.0.0 d.0.1) ∙ d.1 in cc in
    let no_end : (q : End) → has_end row.busy q ≡ true → ⊥ = λ q h. let bad : true ≡ false = sym h ∙ empty q in cc in
    record {
      len = len;
      few = let few = a.few in omega arith;
      from = a.from;
      below = λ i d. absurd (none i d);
      used = λ s l. absurd (omega arith);
      order = λ i j d e l. absurd (none i d);
      apart = λ i j d e ne same. absurd (none i d);
      ahead = λ i j d r h. absurd (none i d);
      lows = λ i j d r h same. absurd (none i d);
      met = λ one. record { depths = λ i d. absurd (none i d); ends = λ s l. absurd (omega arith); height = pos 0; each = λ s l. absurd (omega arith) };
      held = λ h s b. absurd (no_end (h, s) b);
      last = λ h s i b d e. absurd (no_end (h, s) b);
    }
