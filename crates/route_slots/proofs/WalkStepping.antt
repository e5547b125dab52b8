-- A search goes on by one step.
use Rattle.std.proofs.Common.{◌≡◌, ◌≢◌, ◌∙◌, ◌⊎◌, ⊎_elim, inl, inr, ℕ, zero, suc, ◌+◌, ◌-◌, ◌<◌, ◌≤◌, max, Bool, true, false, List, [], ◌∷◌, ◌++◌, length, take, set, get_or, refl, sym, ap, subst, arith}
use Rattle.std.proofs.lemmas.Bool.{cases_eq, cases_lt, cases_order, false_from_ne_true}
use Rattle.std.proofs.lemmas.List.{get_or-set_same, get_or-set_other, length-set, get_or_append_left, get_or_push, length_push, get_or-take, length-take-le, get_or_default}
use Rattle.std.proofs.lemmas.List.Sums.{sum_by-set, sum_by-cons}
use Rattle.std.specs.List.{sum_by}
use Rattle.route_slots.specs.declared.links.Link.{Link}
use Rattle.route_slots.specs.declared.walking.Place.{Place}
use Rattle.route_slots.specs.declared.walking.Place.TheVariants.{New, Open, Done}
use Rattle.route_slots.specs.Links.{link_at, Leads, ClosesCycle, is_marked, number_at}
use Rattle.route_slots.specs.Chains.{AreNexts}
use Rattle.route_slots.specs.Walks.{place_in, done_mark, done_count, HasLink, IsSettled, IsHeldSoFar, IsSearch, IsTop, weight}

abbrev After : ℕ → Place → List Place → ℕ → Type 0
After v p places u = ((u ≡ v) × (place_in (set places v p) u ≡ p)) ⊎ ((u ≢ v) × (place_in (set places v p) u ≡ place_in places u))

after : (v : ℕ) (p : Place) (places : List Place) (u : ℕ) → v < length places → After v p places u
after v p places u l =
    ⊎_elim
    (λ (e : u ≡ v). inl (e, ap (place_in (set places v p)) e ∙ get_or-set_same places v p New l))
    (λ (ne : u ≡ v → ⊥). inr (ne, get_or-set_other places v u p New ne))
    (cases_eq u v)

abbrev NumberAfter : ℕ → ℕ → List ℕ → ℕ → Type 0
NumberAfter v n ns u = ((u ≡ v) × (number_at (set ns v n) u ≡ n)) ⊎ ((u ≢ v) × (number_at (set ns v n) u ≡ number_at ns u))

number_after : (v n : ℕ) (ns : List ℕ) (u : ℕ) → v < length ns → NumberAfter v n ns u
number_after v n ns u l =
    ⊎_elim
    (λ (e : u ≡ v). inl (e, ap (number_at (set ns v n)) e ∙ get_or-set_same ns v n 0 l))
    (λ (ne : u ≡ v → ⊥). inr (ne, get_or-set_other ns v u n 0 ne))
    (cases_eq u v)

mark_after : (marks : List Bool) (k j : ℕ) → k < length marks → is_marked marks j ≡ true → is_marked (set marks k true) j ≡ true
mark_after marks k j l h =
    ⊎_elim
    (λ (e : j ≡ k). ap (is_marked (set marks k true)) e ∙ get_or-set_same marks k true false l)
    (λ (ne : j ≡ k → ⊥). get_or-set_other marks k j true false ne ∙ h)
    (cases_eq j k)

open_done : Open ≡ Done → ⊥
open_done e = cc

pub open_new : Open ≡ New → ⊥
open_new e = cc

new_open : New ≡ Open → ⊥
new_open e = cc

new_done : New ≡ Done → ⊥
new_done e = cc

-- a way of links from the place i of a list to the place i + d
on_along : (links : List Link) (way : List ℕ) → ((i : ℕ) → i + 1 < length way → HasLink links (number_at way i) (number_at way (i + 1)))
    → (d i : ℕ) → i + d < length way → (ks : List ℕ) × Leads links (number_at way i) ks (number_at way (i + d))
on_along links way linked zero i l = ([], ap (number_at way) (omega arith))
on_along links way linked (suc d) i l =
    let here = linked i (omega arith) in
    let rest = on_along links way linked d (i + 1) (omega arith) in
    let e : i + 1 + d ≡ i + suc d = omega arith in (
      here.number ∷ rest.0,
      (
        here.is_there,
        here.tail_is,
        subst (λ z. Leads links z rest.0 (number_at way (i + suc d))) (sym here.head_is) (subst (λ z. Leads links (number_at way (i + 1)) rest.0 (number_at way z)) e rest.1),
      ),
    )

module _ (links : List Link) (ahead : List ℕ) (places : List Place) (depths : List ℕ) (marks : List Bool) (way : List ℕ)
    (s : IsSearch links ahead places depths marks way) where
  -- the search goes on to a new node, to which a link leads from the last one
  module _ (v : ℕ) (inside : v < length ahead) (is_new : place_in places v ≡ New)
      (reached : (i : ℕ) → i + 1 ≡ length way → HasLink links (number_at way i) v) where
    in_places : v < length places
    in_places = let e = s.places_len in omega arith

    settled_still : (k : ℕ) → IsSettled places depths (link_at links k) → IsSettled (set places v Open) depths (link_at links k)
    settled_still k h =
        record {
          done = ⊎_elim
              (λ (x : ((link_at links k).head ≡ v) × (place_in (set places v Open) (link_at links k).head ≡ Open)). absurd (new_done (sym is_new ∙ sym (ap (place_in places) x.0) ∙ h.done)))
              (λ (x : ((link_at links k).head ≢ v) × (place_in (set places v Open) (link_at links k).head ≡ place_in places (link_at links k).head)). x.1 ∙ h.done)
              (after v Open places (link_at links k).head in_places);
          less = h.less;
        }

    held_still : (u : ℕ) → IsHeldSoFar links ahead places depths marks u → IsHeldSoFar links ahead (set places v Open) depths marks u
    held_still u h =
        record {
          link = h.link;
          before = h.before;
          done = ⊎_elim
              (λ (x : ((link_at links h.link.number).head ≡ v) × (place_in (set places v Open) (link_at links h.link.number).head ≡ Open)). absurd (new_done (sym is_new ∙ sym (ap (place_in places) x.0) ∙ h.done)))
              (λ (x : ((link_at links h.link.number).head ≢ v) × (place_in (set places v Open) (link_at links h.link.number).head ≡ place_in places (link_at links h.link.number).head)). x.1 ∙ h.done)
              (after v Open places (link_at links h.link.number).head in_places);
        }

    way_len : length (way ++ v ∷ []) ≡ length way + 1
    way_len = length_push way v

    way_old : (i : ℕ) → i < length way → number_at (way ++ v ∷ []) i ≡ number_at way i
    way_old i l = get_or_append_left way (v ∷ []) 0 i l

    way_new : (i : ℕ) → length way ≡ i → number_at (way ++ v ∷ []) i ≡ v
    way_new i e = get_or_push way v 0 i e

    not_on_way : (i : ℕ) → i < length way → number_at way i ≢ v
    not_on_way i l e = new_open (sym is_new ∙ sym (ap (place_in places) e) ∙ s.opened i l)

    was : (u : ℕ) (p : Place) → (Open ≡ p → ⊥) → place_in (set places v Open) u ≡ p → place_in places u ≡ p
    was u p ne h =
        ⊎_elim
        (λ (x : (u ≡ v) × (place_in (set places v Open) u ≡ Open)). absurd (ne (sym x.1 ∙ h)))
        (λ (x : (u ≢ v) × (place_in (set places v Open) u ≡ place_in places u)). sym x.1 ∙ h)
        (after v Open places u in_places)

    same_count : done_count (set places v Open) ≡ done_count places
    same_count =
        let moved = sum_by-set done_mark places v Open New in_places in
        let mark : done_mark (place_in places v) ≡ 0 = ap done_mark is_new in omega arith

    pub entered : IsSearch links ahead (set places v Open) depths marks (way ++ v ∷ [])
    entered =
        let n = way_len in
        record {
          places_len = length-set places v Open ∙ s.places_len;
          depths_len = s.depths_len;
          marks_len = s.marks_len;
          tails = s.tails;
          on_way = λ i l. ⊎_elim
              (λ (lt : i < length way). subst (λ z. z < length ahead) (sym (way_old i lt)) (s.on_way i lt))
              (λ (ge : length way ≤ i). subst (λ z. z < length ahead) (sym (way_new i (omega arith))) inside)
              (cases_lt i (length way));
          opened = λ i l. ⊎_elim
              (λ (lt : i < length way).
              ap (place_in (set places v Open)) (way_old i lt) ∙ get_or-set_other places v (number_at way i) Open New (not_on_way i lt) ∙ s.opened i lt)
              (λ (ge : length way ≤ i). ap (place_in (set places v Open)) (way_new i (omega arith)) ∙ get_or-set_same places v Open New in_places)
              (cases_lt i (length way));
          once = λ i j lt l. ⊎_elim
              (λ (jl : j < length way). λ e. s.once i j lt jl (sym (way_old i (omega arith)) ∙ e ∙ way_old j jl))
              (λ (ge : length way ≤ j). λ e. not_on_way i (omega arith) (sym (way_old i (omega arith)) ∙ e ∙ way_new j (omega arith)))
              (cases_lt j (length way));
          listed = λ u l h. ⊎_elim
              (λ (x : (u ≡ v) × (place_in (set places v Open) u ≡ Open)). (length way, omega arith, way_new (length way) refl ∙ sym x.0))
              (λ (x : (u ≢ v) × (place_in (set places v Open) u ≡ place_in places u)).
              let t = s.listed u l (sym x.1 ∙ h) in (t.0, let b = t.1 in omega arith, way_old t.0 t.1 ∙ t.2))
              (after v Open places u in_places);
          linked = λ i l. ⊎_elim
              (λ (lt : i + 1 < length way).
              subst (λ z. HasLink links z (number_at (way ++ v ∷ []) (i + 1))) (sym (way_old i (omega arith)))
              (subst (λ z. HasLink links (number_at way i) z) (sym (way_old (i + 1) lt)) (s.linked i lt)))
              (λ (ge : length way ≤ i + 1).
              subst (λ z. HasLink links z (number_at (way ++ v ∷ []) (i + 1))) (sym (way_old i (omega arith)))
              (subst (λ z. HasLink links (number_at way i) z) (sym (way_new (i + 1) (omega arith))) (reached i (omega arith))))
              (cases_lt (i + 1) (length way));
          passed = λ k kl l. ⊎_elim (λ m. inl m) (λ h. inr (settled_still k h)) (s.passed k kl l);
          over = λ u l h. s.over u l (was u Done open_done h);
          cycles = s.cycles;
          shallow = λ u l. let b = s.shallow u l in let e = same_count in omega arith;
          below = λ u l h. let b = s.below u l (was u Done open_done h) in let e = same_count in omega arith;
          held = λ u l. ⊎_elim (λ z. inl z) (λ h. inr (held_still u h)) (s.held u l);
          cut_before = s.cut_before;
        }

  -- the last node on the way
  module _ (v : ℕ) (top : IsTop way v) where
    pub top_open : place_in places v ≡ Open
    top_open = let some = top.some in subst (λ z. place_in places z ≡ Open) top.last (s.opened (length way - 1) (omega arith))

    pub top_inside : v < length ahead
    top_inside = let some = top.some in subst (λ z. z < length ahead) top.last (s.on_way (length way - 1) (omega arith))

    pub top_places : v < length places
    top_places = let e = s.places_len in let l = top_inside in omega arith

    top_depths : v < length depths
    top_depths = let e = s.depths_len in let l = top_inside in omega arith

    not_open : (k : ℕ) → IsSettled places depths (link_at links k) → (link_at links k).head ≢ v
    not_open k h e = open_done (sym top_open ∙ sym (ap (place_in places) e) ∙ h.done)

    -- its next link leads from it to that link's head
    pub link_from_top : (k : ℕ) → number_at ahead v ≡ k → k < length links → (i : ℕ) → i + 1 ≡ length way → HasLink links (number_at way i) (link_at links k).head
    link_from_top k at there i e =
        let same : i ≡ length way - 1 = omega arith in
        record {
          number = k;
          is_there = there;
          tail_is = subst (λ z. (link_at links z).tail ≡ v) at (s.tails v top_inside (subst (λ z. z < length links) (sym at) there)) ∙ sym top.last ∙ sym (ap (number_at way) same);
          head_is = refl;
        }

    -- the search leaves it, when all its links were looked at
    module _ (spent : length links ≤ number_at ahead v) where
      fewer : length (take (length way - 1) way) ≡ length way - 1
      fewer = length-take-le (length way - 1) way (omega arith)

      way_is : (i : ℕ) → i < length way - 1 → number_at (take (length way - 1) way) i ≡ number_at way i
      way_is i l = get_or-take (length way - 1) way i 0 l

      not_top : (i : ℕ) → i < length way - 1 → number_at way i ≢ v
      not_top i l e = s.once i (length way - 1) l (omega arith) (e ∙ sym top.last)

      more_done : done_count (set places v Done) ≡ done_count places + 1
      more_done =
          let moved = sum_by-set done_mark places v Done New top_places in
          let mark : done_mark (place_in places v) ≡ 0 = ap done_mark top_open in omega arith

      still_done : (u : ℕ) → place_in places u ≡ Done → place_in (set places v Done) u ≡ Done
      still_done u h =
          ⊎_elim
          (λ (x : (u ≡ v) × (place_in (set places v Done) u ≡ Done)). x.1)
          (λ (x : (u ≢ v) × (place_in (set places v Done) u ≡ place_in places u)). x.1 ∙ h)
          (after v Done places u top_places)

      pub left : IsSearch links ahead (set places v Done) depths marks (take (length way - 1) way)
      left =
          record {
            places_len = length-set places v Done ∙ s.places_len;
            depths_len = s.depths_len;
            marks_len = s.marks_len;
            tails = s.tails;
            on_way = λ i l. let f = fewer in subst (λ z. z < length ahead) (sym (way_is i (omega arith))) (s.on_way i (omega arith));
            opened = λ i l.
                let f = fewer in
                ap (place_in (set places v Done)) (way_is i (omega arith)) ∙ get_or-set_other places v (number_at way i) Done New (not_top i (omega arith)) ∙ s.opened i (omega arith);
            once = λ i j lt l e. let f = fewer in s.once i j lt (omega arith) (sym (way_is i (omega arith)) ∙ e ∙ way_is j (omega arith));
            listed = λ u l h. ⊎_elim
                (λ (x : (u ≡ v) × (place_in (set places v Done) u ≡ Done)). absurd (open_done (sym h ∙ x.1)))
                (λ (x : (u ≢ v) × (place_in (set places v Done) u ≡ place_in places u)).
                let t = s.listed u l (sym x.1 ∙ h) in
                let b = t.1 in
                let f = fewer in
                let inner : t.0 < length way - 1 = ⊎_elim (λ (lt : t.0 < length way - 1). lt)
                (λ (ge : length way - 1 ≤ t.0). let e : t.0 ≡ length way - 1 = omega arith in absurd (x.0 (sym t.2 ∙ ap (number_at way) e ∙ top.last)))
                (cases_lt t.0 (length way - 1)) in
                (t.0, omega arith, way_is t.0 inner ∙ t.2))
                (after v Done places u top_places);
            linked = λ i l.
                let f = fewer in
                subst (λ z. HasLink links z (number_at (take (length way - 1) way) (i + 1))) (sym (way_is i (omega arith)))
                (subst (λ z. HasLink links (number_at way i) z) (sym (way_is (i + 1) (omega arith))) (s.linked i (omega arith)));
            passed = λ k kl l. ⊎_elim (λ m. inl m) (λ h. inr (record { done = still_done (link_at links k).head h.done; less = h.less })) (s.passed k kl l);
            over = λ u l h. ⊎_elim
                (λ (x : (u ≡ v) × (place_in (set places v Done) u ≡ Done)). subst (λ z. length links ≤ number_at ahead z) (sym x.0) spent)
                (λ (x : (u ≢ v) × (place_in (set places v Done) u ≡ place_in places u)). s.over u l (sym x.1 ∙ h))
                (after v Done places u top_places);
            cycles = s.cycles;
            shallow = λ u l. let b = s.shallow u l in let e = more_done in omega arith;
            below = λ u l h. let b = s.shallow u l in let e = more_done in omega arith;
            held = λ u l. ⊎_elim
                (λ z. inl z)
                (λ (h : IsHeldSoFar links ahead places depths marks u). inr (record { link = h.link; before = h.before; done = still_done (link_at links h.link.number).head h.done }))
                (s.held u l);
            cut_before = s.cut_before;
          }

    -- the search goes past its next link
    module _ (next : List ℕ) (nexts : AreNexts links 0 next) (k : ℕ) (at : number_at ahead v ≡ k) (there : k < length links) where
      abbrev after_it : ℕ
      after_it = number_at next k

      tail_is : (link_at links k).tail ≡ v
      tail_is = subst (λ z. (link_at links z).tail ≡ v) at (s.tails v top_inside (subst (λ z. z < length links) (sym at) there))

      was_inside : (u : ℕ) → u < length (set ahead v after_it) → u < length ahead
      was_inside u l = subst (λ z. u < z) (length-set ahead v after_it) l

      tails_on : (u : ℕ) → u < length (set ahead v after_it) → number_at (set ahead v after_it) u < length links → (link_at links (number_at (set ahead v after_it) u)).tail ≡ u
      tails_on u l h =
          ⊎_elim
          (λ (x : (u ≡ v) × (number_at (set ahead v after_it) u ≡ after_it)).
          subst (λ z. (link_at links z).tail ≡ u) (sym x.1) (nexts.tails k (omega arith) there (subst (λ z. z < length links) x.1 h) ∙ tail_is ∙ sym x.0))
          (λ (x : (u ≢ v) × (number_at (set ahead v after_it) u ≡ number_at ahead u)).
          subst (λ z. (link_at links z).tail ≡ u) (sym x.1) (s.tails u (was_inside u l) (subst (λ z. z < length links) x.1 h)))
          (number_after v after_it ahead u top_inside)

      over_on : (u : ℕ) → u < length (set ahead v after_it) → place_in places u ≡ Done → length links ≤ number_at (set ahead v after_it) u
      over_on u l h =
          ⊎_elim
          (λ (x : (u ≡ v) × (number_at (set ahead v after_it) u ≡ after_it)). absurd (open_done (sym top_open ∙ sym (ap (place_in places) x.0) ∙ h)))
          (λ (x : (u ≢ v) × (number_at (set ahead v after_it) u ≡ number_at ahead u)). subst (λ z. length links ≤ z) (sym x.1) (s.over u (was_inside u l) h))
          (number_after v after_it ahead u top_inside)

      -- what is passed now was passed before, but for the link itself
      passed_on : (j : ℕ) → j < length links → j < number_at (set ahead v after_it) (link_at links j).tail → (j ≡ k) ⊎ (j < number_at ahead (link_at links j).tail)
      passed_on j jl l =
          ⊎_elim
          (λ (x : ((link_at links j).tail ≡ v) × (number_at (set ahead v after_it) (link_at links j).tail ≡ after_it)).
          ⊎_elim
          (λ (e : j ≡ k). inl e)
          (λ (o : (j < k) ⊎ (k < j)). ⊎_elim
          (λ (lt : j < k). let e : number_at ahead (link_at links j).tail ≡ k = ap (number_at ahead) x.0 ∙ at in inr (omega arith))
          (λ (gt : k < j). let le = nexts.least k j (omega arith) gt jl (x.0 ∙ sym tail_is) in let e = x.1 in absurd (omega arith))
          o)
          (cases_order j k))
          (λ (x : ((link_at links j).tail ≢ v) × (number_at (set ahead v after_it) (link_at links j).tail ≡ number_at ahead (link_at links j).tail)).
          inr (subst (λ z. j < z) x.1 l))
          (number_after v after_it ahead (link_at links j).tail top_inside)

      ahead_grows : (u : ℕ) → number_at ahead u ≤ number_at (set ahead v after_it) u
      ahead_grows u =
          ⊎_elim
          (λ (x : (u ≡ v) × (number_at (set ahead v after_it) u ≡ after_it)).
          let later = nexts.after k (omega arith) there in
          let was : number_at ahead u ≡ k = ap (number_at ahead) x.0 ∙ at in
          let e = x.1 in omega arith)
          (λ (x : (u ≢ v) × (number_at (set ahead v after_it) u ≡ number_at ahead u)). let e = x.1 in omega arith)
          (number_after v after_it ahead u top_inside)

      before_now : k < number_at (set ahead v after_it) (link_at links k).tail
      before_now =
          let later = nexts.after k (omega arith) there in
          let here : number_at (set ahead v after_it) (link_at links k).tail ≡ after_it = ap (number_at (set ahead v after_it)) tail_is ∙ get_or-set_same ahead v after_it 0 top_inside in omega arith

      -- the link was not cut before
      not_cut : is_marked marks k ≡ false
      not_cut = false_from_ne_true (is_marked marks k) (λ m. let before = s.cut_before k there m in let same : number_at ahead (link_at links k).tail ≡ k = ap (number_at ahead) tail_is ∙ at in omega arith)

      not_held_by : (u : ℕ) (h : IsHeldSoFar links ahead places depths marks u) → h.link.number ≢ k
      not_held_by u h e =
          let before = h.before in
          let u_is : u ≡ v = sym h.link.tail_is ∙ ap (λ z. (link_at links z).tail) e ∙ tail_is in
          let same : number_at ahead u ≡ k = ap (number_at ahead) u_is ∙ at in omega arith

      there_marks : k < length marks
      there_marks = let e = s.marks_len in omega arith

      -- the link leads back to a node on the way, and is cut
      module _ (head_open : place_in places (link_at links k).head ≡ Open) (inside : (link_at links k).head < length ahead) where
        closes : ClosesCycle links k
        closes =
            let t = s.listed (link_at links k).head inside head_open in
            let some = top.some in
            let on = t.1 in
            let along = on_along links way s.linked (length way - 1 - t.0) t.0 (omega arith) in
            let e : t.0 + (length way - 1 - t.0) ≡ length way - 1 = omega arith in
            let end : number_at way (t.0 + (length way - 1 - t.0)) ≡ (link_at links k).tail = ap (number_at way) e ∙ top.last ∙ sym tail_is in
            record {
              way = along.0;
              back = subst (λ z. Leads links z along.0 (link_at links k).tail) t.2 (subst (λ z. Leads links (number_at way t.0) along.0 z) end along.1);
            }

        pub cut_on : IsSearch links (set ahead v after_it) places depths (set marks k true) way
        cut_on =
            record {
              places_len = s.places_len ∙ sym (length-set ahead v after_it);
              depths_len = s.depths_len ∙ sym (length-set ahead v after_it);
              marks_len = length-set marks k true ∙ s.marks_len;
              tails = tails_on;
              on_way = λ i l. subst (λ z. number_at way i < z) (sym (length-set ahead v after_it)) (s.on_way i l);
              opened = s.opened;
              once = s.once;
              listed = λ u l h. s.listed u (was_inside u l) h;
              linked = s.linked;
              passed = λ j jl l. ⊎_elim
                  (λ (e : j ≡ k). inl (ap (is_marked (set marks k true)) e ∙ get_or-set_same marks k true false there_marks))
                  (λ (lt : j < number_at ahead (link_at links j).tail). ⊎_elim (λ m. inl (mark_after marks k j there_marks m)) (λ h. inr h) (s.passed j jl lt))
                  (passed_on j jl l);
              over = over_on;
              cycles = λ j jl m. ⊎_elim
                  (λ (e : j ≡ k). subst (ClosesCycle links) (sym e) closes)
                  (λ (ne : j ≡ k → ⊥). s.cycles j jl (sym (get_or-set_other marks k j true false ne) ∙ m))
                  (cases_eq j k);
              shallow = λ u l. s.shallow u (was_inside u l);
              below = λ u l h. s.below u (was_inside u l) h;
              held = λ u l. ⊎_elim
                  (λ z. inl z)
                  (λ (h : IsHeldSoFar links ahead places depths marks u).
                  inr (record {
                    link = record {
                      number = h.link.number;
                      is_there = h.link.is_there;
                      kept = get_or-set_other marks k h.link.number true false (not_held_by u h) ∙ h.link.kept;
                      tail_is = h.link.tail_is;
                      one_more = h.link.one_more;
                    };
                    before = let b = h.before in let g = ahead_grows u in omega arith;
                    done = h.done;
                  }))
                  (s.held u (was_inside u l));
              cut_before = λ j jl m. ⊎_elim
                  (λ (e : j ≡ k). subst (λ z. z < number_at (set ahead v after_it) (link_at links z).tail) (sym e) before_now)
                  (λ (ne : j ≡ k → ⊥).
                  let b = s.cut_before j jl (sym (get_or-set_other marks k j true false ne) ∙ m) in
                  let g = ahead_grows (link_at links j).tail in omega arith)
                  (cases_eq j k);
            }

      -- the link leads to a node that was left, and the last node stays above that
      module _ (head_done : place_in places (link_at links k).head ≡ Done) (inside : (link_at links k).head < length ahead) where
        abbrev raised : ℕ
        raised = max (number_at depths v) (number_at depths (link_at links k).head + 1)

        head_other : (link_at links k).head ≢ v
        head_other e = open_done (sym top_open ∙ sym (ap (place_in places) e) ∙ head_done)

        not_less : (u : ℕ) → number_at depths u ≤ number_at (set depths v raised) u
        not_less u =
            ⊎_elim
            (λ (x : (u ≡ v) × (number_at (set depths v raised) u ≡ raised)). let e : number_at depths u ≡ number_at depths v = ap (number_at depths) x.0 in let f = x.1 in omega arith)
            (λ (x : (u ≢ v) × (number_at (set depths v raised) u ≡ number_at depths u)). let f = x.1 in omega arith)
            (number_after v raised depths u top_depths)

        settled_on : (j : ℕ) → IsSettled places depths (link_at links j) → IsSettled places (set depths v raised) (link_at links j)
        settled_on j h =
            record {
              done = h.done;
              less =
                  let same : number_at (set depths v raised) (link_at links j).head ≡ number_at depths (link_at links j).head = get_or-set_other depths v (link_at links j).head raised 0 (not_open j h) in
                  let le = not_less (link_at links j).tail in
                  let lt = h.less in omega arith;
            }

        settled_here : IsSettled places (set depths v raised) (link_at links k)
        settled_here =
            record {
              done = head_done;
              less =
                  let same : number_at (set depths v raised) (link_at links k).head ≡ number_at depths (link_at links k).head = get_or-set_other depths v (link_at links k).head raised 0 head_other in
                  let here : number_at (set depths v raised) (link_at links k).tail ≡ raised = ap (number_at (set depths v raised)) tail_is ∙ get_or-set_same depths v raised 0 top_depths in omega arith;
            }

        -- the links that hold other nodes hold them still
        held_on : (u : ℕ) → number_at (set depths v raised) u ≡ number_at depths u → IsHeldSoFar links ahead places depths marks u
            → IsHeldSoFar links (set ahead v after_it) places (set depths v raised) marks u
        held_on u same h =
            record {
              link = record {
                number = h.link.number;
                is_there = h.link.is_there;
                kept = h.link.kept;
                tail_is = h.link.tail_is;
                one_more =
                    same ∙ h.link.one_more
                    ∙ ap (λ z. z + 1) (sym (get_or-set_other depths v (link_at links h.link.number).head raised 0 (λ e. open_done (sym top_open ∙ sym (ap (place_in places) e) ∙ h.done))));
              };
              before = let b = h.before in let g = ahead_grows u in omega arith;
              done = h.done;
            }

        raised_here : number_at (set depths v raised) v ≡ raised
        raised_here = get_or-set_same depths v raised 0 top_depths

        held_here : (number_at (set depths v raised) v ≡ 0) ⊎ IsHeldSoFar links (set ahead v after_it) places (set depths v raised) marks v
        held_here =
            ⊎_elim
            (λ (lt : number_at depths (link_at links k).head < number_at depths v).
            let r = raised_here in
            let same : number_at (set depths v raised) v ≡ number_at depths v = omega arith in
            ⊎_elim (λ (z : number_at depths v ≡ 0). absurd (omega arith)) (λ h. inr (held_on v same h)) (s.held v top_inside))
            (λ (ge : number_at depths v ≤ number_at depths (link_at links k).head).
            let r = raised_here in
            let head_same : number_at (set depths v raised) (link_at links k).head ≡ number_at depths (link_at links k).head = get_or-set_other depths v (link_at links k).head raised 0 head_other in
            inr (record {
              link = record { number = k; is_there = there; kept = not_cut; tail_is = tail_is; one_more = omega arith };
              before = subst (λ z. k < number_at (set ahead v after_it) z) tail_is before_now;
              done = head_done;
            }))
            (cases_lt (number_at depths (link_at links k).head) (number_at depths v))

        pub sunk_on : IsSearch links (set ahead v after_it) places (set depths v raised) marks way
        sunk_on =
            record {
              places_len = s.places_len ∙ sym (length-set ahead v after_it);
              depths_len = length-set depths v raised ∙ s.depths_len ∙ sym (length-set ahead v after_it);
              marks_len = s.marks_len;
              tails = tails_on;
              on_way = λ i l. subst (λ z. number_at way i < z) (sym (length-set ahead v after_it)) (s.on_way i l);
              opened = s.opened;
              once = s.once;
              listed = λ u l h. s.listed u (was_inside u l) h;
              linked = s.linked;
              passed = λ j jl l. ⊎_elim
                  (λ (e : j ≡ k). inr (subst (λ z. IsSettled places (set depths v raised) (link_at links z)) (sym e) settled_here))
                  (λ (lt : j < number_at ahead (link_at links j).tail). ⊎_elim (λ m. inl m) (λ h. inr (settled_on j h)) (s.passed j jl lt))
                  (passed_on j jl l);
              over = over_on;
              cycles = s.cycles;
              shallow = λ u l. ⊎_elim
                  (λ (x : (u ≡ v) × (number_at (set depths v raised) u ≡ raised)).
                  let f = x.1 in
                  let a = s.shallow v top_inside in
                  let b = s.below (link_at links k).head inside head_done in omega arith)
                  (λ (x : (u ≢ v) × (number_at (set depths v raised) u ≡ number_at depths u)). let f = x.1 in let a = s.shallow u (was_inside u l) in omega arith)
                  (number_after v raised depths u top_depths);
              below = λ u l h. ⊎_elim
                  (λ (x : (u ≡ v) × (number_at (set depths v raised) u ≡ raised)). absurd (open_done (sym top_open ∙ sym (ap (place_in places) x.0) ∙ h)))
                  (λ (x : (u ≢ v) × (number_at (set depths v raised) u ≡ number_at depths u)). let f = x.1 in let a = s.below u (was_inside u l) h in omega arith)
                  (number_after v raised depths u top_depths);
              held = λ u l. ⊎_elim
                  (λ (x : (u ≡ v) × (number_at (set depths v raised) u ≡ raised)).
                  subst (λ z. (number_at (set depths v raised) z ≡ 0) ⊎ IsHeldSoFar links (set ahead v after_it) places (set depths v raised) marks z) (sym x.0) held_here)
                  (λ (x : (u ≢ v) × (number_at (set depths v raised) u ≡ number_at depths u)).
                  ⊎_elim (λ z. inl (x.1 ∙ z)) (λ h. inr (held_on u x.1 h)) (s.held u (was_inside u l)))
                  (number_after v raised depths u top_depths);
              cut_before = λ j jl m. let b = s.cut_before j jl m in let g = ahead_grows (link_at links j).tail in omega arith;
            }

-- less is left to do where a node is entered, and where one is left
pub less_entered : (places : List Place) (v : ℕ) → v < length places → place_in places v ≡ New → sum_by weight (set places v Open) < sum_by weight places
less_entered places v l e =
    let moved = sum_by-set weight places v Open New l in
    let was : weight (place_in places v) ≡ 2 = ap weight e in omega arith

pub less_left : (places : List Place) (v : ℕ) → v < length places → place_in places v ≡ Open → sum_by weight (set places v Done) < sum_by weight places
less_left places v l e =
    let moved = sum_by-set weight places v Done New l in
    let was : weight (place_in places v) ≡ 1 = ap weight e in omega arith

-- equal lists are the same search
pub same_search : (links : List Link) (a a' : List ℕ) (p p' : List Place) (d d' : List ℕ) (m m' : List Bool) (w w' : List ℕ)
    → a' ≡ a → p' ≡ p → d' ≡ d → m' ≡ m → w' ≡ w → IsSearch links a p d m w → IsSearch links a' p' d' m' w'
same_search links a a' p p' d d' m m' w w' ea ep ed em ew s =
    subst (λ z. IsSearch links z p' d' m' w') (sym ea)
    (subst (λ z. IsSearch links a z d' m' w') (sym ep)
    (subst (λ z. IsSearch links a p z m' w') (sym ed)
    (subst (λ z. IsSearch links a p d z w') (sym em)
    (subst (λ z. IsSearch links a p d m z) (sym ew) s))))

-- what a place is, as it is read
pub place_read : (places : List Place) (v : ℕ) (p q : Place) → v < length places → p ≡ get_or places v p → p ≡ q → place_in places v ≡ q
place_read places v p q l e f = sym (get_or_default places v p New l) ∙ sym e ∙ f

-- no more nodes were left than there are
pub few_done : (places : List Place) → done_count places ≤ length places
few_done [] = omega arith
few_done (p ∷ ps) =
    let more = few_done ps in
    let one = mark_at_most_one p in
    let e = sum_by-cons done_mark p ps in omega arith
  where
    mark_at_most_one : (q : Place) → done_mark q ≤ 1
    mark_at_most_one New = omega arith
    mark_at_most_one Open = omega arith
    mark_at_most_one Done = omega arith
