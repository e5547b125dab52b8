-- The spots of a child with one more end.
use Rattle.std.proofs.Common.{◌≡◌, ◌≢◌, ℕ, suc, ◌+◌, ◌<◌, ◌==◌, List, [], ◌∷◌, ◌++◌, length, map, get_or, set, Bool, true, false, ◌&&◌, Option, None, Some, is_none, refl, sym, ◌∙◌, ap, subst, inl, inr, arith, append-nil, append_assoc, length-append, ne_eqb, eq-eqb, IfSome}
use Rattle.std.specs.List.{filter, range_with_len}
use Rattle.std.proofs.lemmas.Bool.{cases_eq, and_left, and_right, and_from}
use Rattle.std.proofs.lemmas.List.{get_or-set_same, get_or-set_other, length-set, set-append_left, get_or_append_left, same_lists}
use Rattle.std.proofs.lemmas.List.Elements.{filter-append}
use Rattle.std.proofs.lemmas.List.FromFn.{length-map-range_with_len, get_or-map-range_with_len}
use Rattle.port_order.specs.declared.spots.Spot.{Spot}
use Rattle.port_order.specs.Child.{spot_at, no_spot}
use Rattle.level_model.specs.declared.level.EdgeEnd.{EdgeEnd}
use Rattle.level_model.specs.Level.{PlainLevel, PlainPlan, End, child_at, is_port, spoke, spot, place_of_end}
use Rattle.dock_table.specs.declared.spots.Told.{Told}
use Rattle.dock_table.specs.Rows.{AreRowsOf, at_child, at_port, implicit_spots, port_spots_of, row_at, row_of, row_with, with_end}
use Rattle.dock_table.proofs.SpotLemmas.{IsTold, filter_yes, filter_no, spot_more, spot_one}
use Rattle.dock_table.proofs.EndLemmas.{Differ, place_there}

pub map_same : {X Y : Type 0} (f g : X → Y) (xs : List X) → ((x : X) → f x ≡ g x) → map f xs ≡ map g xs
map_same f g [] h = refl
map_same f g (x ∷ xs) h = ap (λ y. y ∷ map f xs) (h x) ∙ ap (λ ys. g x ∷ ys) (map_same f g xs h)

-- one more end that passes a test, and one that does not
pub filter_keep : (test : End → Bool) (ns : List End) (n : End) → test n ≡ true → filter test (ns ++ n ∷ []) ≡ filter test ns ++ n ∷ []
filter_keep test ns n t = filter-append test ns (n ∷ []) ∙ ap (λ ms. filter test ns ++ ms) (filter_yes test n t)

pub filter_drop : (test : End → Bool) (ns : List End) (n : End) → test n ≡ false → filter test (ns ++ n ∷ []) ≡ filter test ns
filter_drop test ns n f = filter-append test ns (n ∷ []) ∙ ap (λ ms. filter test ns ++ ms) (filter_no test n f) ∙ append-nil (filter test ns)

pub port_spots_long : (l : PlainLevel) (p : PlainPlan) (c : ℕ) (ns : List End) → length (port_spots_of l p c ns) ≡ length (child_at l c).ports
port_spots_long l p c ns = length-map-range_with_len (λ k. spot l p (Some k) k (filter (at_port l c k) ns)) 0 (length (child_at l c).ports)

pub implicit_long : (l : PlainLevel) (p : PlainPlan) (i : ℕ) (ns : List End) → length (implicit_spots l p i ns) ≡ length ns
implicit_long l p i [] = refl
implicit_long l p i (n ∷ ns) = let h = implicit_long l p (i + 1) ns in omega (arith, h)

pub row_long : (l : PlainLevel) (p : PlainPlan) (c : ℕ) (ns : List End) → length (row_of l p c ns) ≡ length (child_at l c).ports + length (filter (at_child l c) ns)
row_long l p c ns =
    let ports = port_spots_long l p c ns in
    let implicit = implicit_long l p (length (child_at l c).ports) (filter (at_child l c) ns) in
    let both = length-append (port_spots_of l p c ns) (implicit_spots l p (length (child_at l c).ports) (filter (at_child l c) ns)) in
    omega (arith, ports, implicit, both)

implicit_more : (l : PlainLevel) (p : PlainPlan) (i : ℕ) (ns : List End) (n : End) → implicit_spots l p i (ns ++ n ∷ []) ≡ implicit_spots l p i ns ++ spot l p None (i + length ns) (n ∷ []) ∷ []
implicit_more l p i [] n = let e : i + 0 ≡ i = omega arith in ap (λ x. spot l p None x (n ∷ []) ∷ []) (sym e)
implicit_more l p i (m ∷ ns) n =
    let e : i + 1 + length ns ≡ i + suc (length ns) = omega arith in
    ap (λ ss. spot l p None i (m ∷ []) ∷ ss) (implicit_more l p (i + 1) ns n ∙ ap (λ x. implicit_spots l p (i + 1) ns ++ spot l p None x (n ∷ []) ∷ []) e)

-- the spots of ports, where no port or one has one more end
ports_kept : (l : PlainLevel) (p : PlainPlan) (c : ℕ) (ns : List End) (n : End) → ((k : ℕ) → at_port l c k n ≡ false) → port_spots_of l p c (ns ++ n ∷ []) ≡ port_spots_of l p c ns
ports_kept l p c ns n none =
    map_same (λ k. spot l p (Some k) k (filter (at_port l c k) (ns ++ n ∷ []))) (λ k. spot l p (Some k) k (filter (at_port l c k) ns)) (range_with_len 0 (length (child_at l c).ports))
    (λ k. ap (spot l p (Some k) k) (filter_drop (at_port l c k) ns n (none k)))

pub one_set : (f g : ℕ → Spot) (m k : ℕ) (v : Spot) → k < m → g k ≡ v → ((j : ℕ) → j ≢ k → g j ≡ f j) → map g (range_with_len 0 m) ≡ set (map f (range_with_len 0 m)) k v
one_set f g m k v inside here there =
    let old = length-map-range_with_len f 0 m in
    let new = length-map-range_with_len g 0 m in
    let same = length-set (map f (range_with_len 0 m)) k v in
    same_lists (map g (range_with_len 0 m)) (set (map f (range_with_len 0 m)) k v) (omega (arith, old, new, same))
    (λ j d h.
    let j_in : j < m = omega (arith, h, new) in
    let read : get_or (map g (range_with_len 0 m)) j d ≡ g j = get_or-map-range_with_len g 0 m j j d j_in (omega arith) in
    elim (cases_eq j k) [
      | inl e ↦
          let k_in : k < length (map f (range_with_len 0 m)) = omega (arith, inside, old) in
          read ∙ ap g e ∙ here ∙ sym (get_or-set_same (map f (range_with_len 0 m)) k v d k_in) ∙ ap (λ x. get_or (set (map f (range_with_len 0 m)) k v) x d) (sym e)
      | inr n ↦
          read ∙ there j n ∙ sym (get_or-map-range_with_len f 0 m j j d j_in (omega arith)) ∙ sym (get_or-set_other (map f (range_with_len 0 m)) k j v d n)
    ])

ports_more : (l : PlainLevel) (p : PlainPlan) (c k : ℕ) (ns : List End) (n : End) (t : Told) → IsTold l p n t → k < length (child_at l c).ports → at_port l c k n ≡ true → ((j : ℕ) → j ≢ k → at_port l c j n ≡ false)
    → port_spots_of l p c (ns ++ n ∷ []) ≡ set (port_spots_of l p c ns) k (with_end t (spot l p (Some k) k (filter (at_port l c k) ns)))
ports_more l p c k ns n t told inside here there =
    one_set (λ j. spot l p (Some j) j (filter (at_port l c j) ns)) (λ j. spot l p (Some j) j (filter (at_port l c j) (ns ++ n ∷ []))) (length (child_at l c).ports) k
    (with_end t (spot l p (Some k) k (filter (at_port l c k) ns)))
    inside
    (ap (spot l p (Some k) k) (filter_keep (at_port l c k) ns n here) ∙ spot_more l p (Some k) k (filter (at_port l c k) ns) n t told)
    (λ j ne. ap (spot l p (Some j) j) (filter_drop (at_port l c j) ns n (there j ne)))

-- a port's spot stands at the port's number
pub port_there : (l : PlainLevel) (p : PlainPlan) (c k : ℕ) (ns : List End) → k < length (child_at l c).ports → spot_at (row_of l p c ns) k ≡ spot l p (Some k) k (filter (at_port l c k) ns)
port_there l p c k ns inside =
    let long = port_spots_long l p c ns in
    get_or_append_left (port_spots_of l p c ns) (implicit_spots l p (length (child_at l c).ports) (filter (at_child l c) ns)) no_spot k (omega (arith, inside, long))
    ∙ get_or-map-range_with_len (λ j. spot l p (Some j) j (filter (at_port l c j) ns)) 0 (length (child_at l c).ports) k k no_spot inside (omega arith)

-- the tests of an end by what its spoke names
port_test : (l : PlainLevel) (c k : ℕ) (n : End) (s : EdgeEnd) → spoke l n ≡ s → at_port l c k n ≡ ((s.child == c) && is_port s.port k)
port_test l c k n s e = ap (λ (x : EdgeEnd). (x.child == c) && is_port x.port k) e

child_test : (l : PlainLevel) (c : ℕ) (n : End) (s : EdgeEnd) → spoke l n ≡ s → at_child l c n ≡ ((s.child == c) && is_none s.port)
child_test l c n s e = ap (λ (x : EdgeEnd). (x.child == c) && is_none x.port) e

-- an end of another child
row_kept : (l : PlainLevel) (p : PlainPlan) (c : ℕ) (ns : List End) (n : End) (s : EdgeEnd) → spoke l n ≡ s → c ≢ s.child → row_of l p c (ns ++ n ∷ []) ≡ row_of l p c ns
row_kept l p c ns n s e other =
    let away : s.child == c ≡ false = ne_eqb s.child c (λ q. other (sym q)) in
    let none : at_child l c n ≡ false = child_test l c n s e ∙ and_left (s.child == c) (is_none s.port) away in
    ap (λ ss. ss ++ implicit_spots l p (length (child_at l c).ports) (filter (at_child l c) (ns ++ n ∷ [])))
    (ports_kept l p c ns n (λ k. port_test l c k n s e ∙ and_left (s.child == c) (is_port s.port k) away))
    ∙ ap (λ ms. port_spots_of l p c ns ++ implicit_spots l p (length (child_at l c).ports) ms) (filter_drop (at_child l c) ns n none)

-- an implicit end
row_implicit : (l : PlainLevel) (p : PlainPlan) (c : ℕ) (ns : List End) (n : End) (t : Told) → IsTold l p n t → spoke l n ≡ record { child = c; port = None }
    → row_of l p c (ns ++ n ∷ []) ≡ row_with None t (row_of l p c ns)
row_implicit l p c ns n t told e =
    let here : at_child l c n ≡ true = child_test l c n (record { child = c; port = None }) e ∙ and_from (c == c) true (eq-eqb c c refl) refl in
    let ports : ℕ = length (child_at l c).ports in
    let long = row_long l p c ns in
    ap (λ ss. ss ++ implicit_spots l p (length (child_at l c).ports) (filter (at_child l c) (ns ++ n ∷ [])))
    (ports_kept l p c ns n (λ k. port_test l c k n (record { child = c; port = None }) e ∙ and_right (c == c) false refl))
    ∙ ap (λ ms. port_spots_of l p c ns ++ implicit_spots l p (length (child_at l c).ports) ms) (filter_keep (at_child l c) ns n here)
    ∙ ap (λ ss. port_spots_of l p c ns ++ ss) (implicit_more l p (length (child_at l c).ports) (filter (at_child l c) ns) n)
    ∙ sym (append_assoc (port_spots_of l p c ns) (implicit_spots l p (length (child_at l c).ports) (filter (at_child l c) ns)) (spot l p None (length (child_at l c).ports + length (filter (at_child l c) ns)) (n ∷ []) ∷ []))
    ∙ ap (λ x. row_of l p c ns ++ spot l p None x (n ∷ []) ∷ []) (sym long)
    ∙ ap (λ s. row_of l p c ns ++ s ∷ []) (spot_one l p None (length (row_of l p c ns)) n t told)

-- an end at a port
row_port : (l : PlainLevel) (p : PlainPlan) (c k : ℕ) (ns : List End) (n : End) (t : Told) → IsTold l p n t → k < length (child_at l c).ports → spoke l n ≡ record { child = c; port = Some k }
    → row_of l p c (ns ++ n ∷ []) ≡ row_with (Some k) t (row_of l p c ns)
row_port l p c k ns n t told inside e =
    let s : EdgeEnd = record { child = c; port = Some k } in
    let none : at_child l c n ≡ false = child_test l c n (record { child = c; port = Some k }) e ∙ and_right (c == c) false refl in
    let here : at_port l c k n ≡ true = port_test l c k n (record { child = c; port = Some k }) e ∙ and_from (c == c) (k == k) (eq-eqb c c refl) (eq-eqb k k refl) in
    let there : (j : ℕ) → j ≢ k → at_port l c j n ≡ false = λ j ne. port_test l c j n (record { child = c; port = Some k }) e ∙ and_right (c == c) (k == j) (ne_eqb k j (λ q. ne (sym q))) in
    let long = port_spots_long l p c ns in
    let tail = implicit_spots l p (length (child_at l c).ports) (filter (at_child l c) ns) in
    ap (λ ss. ss ++ implicit_spots l p (length (child_at l c).ports) (filter (at_child l c) (ns ++ n ∷ []))) (ports_more l p c k ns n t told inside here there)
    ∙ ap (λ ms. set (port_spots_of l p c ns) k (with_end t (spot l p (Some k) k (filter (at_port l c k) ns))) ++ implicit_spots l p (length (child_at l c).ports) ms) (filter_drop (at_child l c) ns n none)
    ∙ sym (set-append_left (port_spots_of l p c ns) (implicit_spots l p (length (child_at l c).ports) (filter (at_child l c) ns)) k (with_end t (spot l p (Some k) k (filter (at_port l c k) ns))) (omega (arith, inside, long)))
    ∙ ap (λ x. set (row_of l p c ns) k (with_end t x)) (sym (port_there l p c k ns inside))

row_added : (l : PlainLevel) (p : PlainPlan) (c : ℕ) (port : Option ℕ) (ns : List End) (n : End) (t : Told) → IsTold l p n t → IfSome port (λ k. k < length (child_at l c).ports) → spoke l n ≡ record { child = c; port = port }
    → row_of l p c (ns ++ n ∷ []) ≡ row_with port t (row_of l p c ns)
row_added l p c None ns n t told inside e = row_implicit l p c ns n t told e
row_added l p c (Some k) ns n t told inside e = row_port l p c k ns n t told inside e

-- all rows with one more end
pub rows_more : (l : PlainLevel) (p : PlainPlan) (ns : List End) (n : End) (s : EdgeEnd) (t : Told) (rows : List (List Spot)) → IsTold l p n t → spoke l n ≡ s → s.child < length l.children → IfSome s.port (λ k. k < length (child_at l s.child).ports)
    → AreRowsOf l p ns rows → AreRowsOf l p (ns ++ n ∷ []) (set rows s.child (row_with s.port t (row_at rows s.child)))
rows_more l p ns n s t rows told e child port are =
    let inside : s.child < length rows = omega (arith, child, are.as_many) in
    record {
      as_many = length-set rows s.child (row_with s.port t (row_at rows s.child)) ∙ are.as_many;
      row_is = λ c h. elim (cases_eq c s.child) [
        | inl q ↦
            subst (λ x. row_at (set rows s.child (row_with s.port t (row_at rows s.child))) x ≡ row_of l p x (ns ++ n ∷ [])) (sym q)
            (get_or-set_same rows s.child (row_with s.port t (row_at rows s.child)) [] inside
            ∙ ap (row_with s.port t) (are.row_is s.child child)
            ∙ sym (row_added l p s.child s.port ns n t told port e))
        | inr ne ↦ get_or-set_other rows s.child c (row_with s.port t (row_at rows s.child)) [] ne ∙ are.row_is c h ∙ sym (row_kept l p c ns n s e ne)
      ];
    }

-- among ends that differ, implicit spots by place are those numbered one after the other
pub implicit_numbered : (l : PlainLevel) (p : PlainPlan) (a : ℕ) (pre ns whole : List End) → Differ whole → whole ≡ pre ++ ns
    → map (λ n. spot l p None (a + place_of_end whole n) (n ∷ [])) ns ≡ implicit_spots l p (a + length pre) ns
implicit_numbered l p a pre [] whole differ e = refl
implicit_numbered l p a pre (n ∷ ns) whole differ e =
    let place : place_of_end whole n ≡ length pre = subst (λ xs. place_of_end xs n ≡ length pre) (sym e) (place_there pre n ns (subst Differ e differ)) in
    let long : length (pre ++ n ∷ []) ≡ length pre + 1 = length-append pre (n ∷ []) in
    let next : a + length (pre ++ n ∷ []) ≡ a + length pre + 1 = omega (arith, long) in
    ap (λ x. spot l p None (a + x) (n ∷ []) ∷ map (λ m. spot l p None (a + place_of_end whole m) (m ∷ [])) ns) place
    ∙ ap (λ ss. spot l p None (a + length pre) (n ∷ []) ∷ ss)
    (implicit_numbered l p a (pre ++ n ∷ []) ns whole differ (e ∙ sym (append_assoc pre (n ∷ []) ns)) ∙ ap (λ x. implicit_spots l p x ns) next)
