-- The names of a level before and behind one of them, and that no earlier name is the same.
use Rattle.std.proofs.Common.{◌≡◌, inl, inr, ⊎_elim, ℕ, suc, ◌+◌, ◌-◌, ◌<◌, eqb, cond, Bool, true, false, not, List, [], ◌∷◌, ◌++◌, map, length, refl, sym, subst, ap, ◌∙◌, arith}
use Rattle.std.proofs.lemmas.Bool.{eq-eqb, ne_eqb, and_left, and_right, and_from}
use Rattle.std.proofs.lemmas.List.{append_assoc, map-append}
use Rattle.std.specs.List.{filter, range_with_len}
use Rattle.drawing_types.specs.declared.shape.Side.{Side}
use Rattle.drawing_types.specs.declared.shape.Side.TheVariants.{East, West}
use Rattle.drawing_types.specs.Shapes.{is_side}
use Rattle.level_model.specs.Level.{End, end_at, end_eq, ends_of_edges, all_ends}
use Rattle.level_model.specs.Nets.{Name, of_link, of_dock, of_loop, name_eq, if_passed, place_of_name}
use Rattle.level_model.proofs.Lists.{Has, map_has, append_has, filter_has, range_has}
use Rattle.level_model.proofs.NameLemmas.{ends_edge}
use Rattle.level_nets.specs.Parts.{Parts}
use Rattle.level_nets.specs.Read.{link_names, dock_names, passing_names, names_of, dock_inverts, passes_west, passes_east}
use Rattle.level_nets.specs.Held.{behind_docks, behind_loops, before_dock}
use Rattle.level_nets.proofs.ListLemmas.{range_at}
use Rattle.level_nets.proofs.Holding.{dock_names_append, ends_append}
use Rattle.port_order.proofs.OrderLemmas.{side_itself}

-- a name that no earlier one equals stands behind those
pub place_at : (xs ys : List Name) (n : Name) → ((m : Name) → Has xs m → name_eq m n ≡ false) → name_eq n n ≡ true → place_of_name (xs ++ n ∷ ys) n ≡ length xs
place_at [] ys n other self = rw self refl
place_at (x ∷ xs) ys n other self = let rest = place_at xs ys n (λ m h. other m (inr h)) self in rw (other x (inl refl)) (omega (arith, rest))

-- one is before the other, and no earlier one equals it
pub record Splits (names before : List Name) (n : Name) : Type 0 where
  pub after : List Name
  pub is : names ≡ before ++ n ∷ after
  pub other : (m : Name) → Has before m → name_eq m n ≡ false
  pub self : name_eq n n ≡ true

pick_self : (b : Bool) → cond b b (not b) ≡ true
pick_self true = refl
pick_self false = refl

end_self : (n : End) → end_eq n n ≡ true
end_self n = and_from (eqb n.edge n.edge) (cond n.at_source n.at_source (not n.at_source)) (eq-eqb n.edge n.edge refl) (pick_self n.at_source)

-- ends and self-loops of other edges
other_edge : (m n : End) → (m.edge ≡ n.edge → ⊥) → end_eq m n ≡ false
other_edge m n other = and_left (eqb m.edge n.edge) (cond m.at_source n.at_source (not n.at_source)) (ne_eqb m.edge n.edge other)

link_has : (k : ℕ) (m : Name) → Has (link_names k) m → (j : ℕ) × (j < k) × (of_link j ≡ m)
link_has k m h =
    let at = map_has of_link (range_with_len 0 k) m h in
    let low = (range_has 0 k at.0 at.1).1 in
    (at.0, omega (arith, low), at.2)

dock_has : (s : Parts) (ns : List End) (m : Name) → Has (dock_names s ns) m → (n : End) × Has ns n × (of_dock n ≡ m)
dock_has s ns m h =
    let at = map_has of_dock (filter (dock_inverts s) ns) m h in
    (at.0, (filter_has (dock_inverts s) ns at.0 at.1).0, at.2)

passed_has : (b : Bool) (e : ℕ) (side : Side) (m : Name) → Has (if_passed b e side) m → of_loop e side ≡ m
passed_has true e side m h = ⊎_elim (λ same. same) (λ none. absurd none) h
passed_has false e side m h = absurd h

abbrev IsLoopOf : List ℕ → Name → Type 0
IsLoopOf es m = (e : ℕ) × (side : Side) × Has es e × (of_loop e side ≡ m)

passing_has : (s : Parts) (es : List ℕ) (m : Name) → Has (passing_names s es) m → IsLoopOf es m
passing_has s [] m h = absurd h
passing_has s (e ∷ es) m h =
    ⊎_elim
    (λ here.
    ⊎_elim
    (λ west. (e, West, inl refl, passed_has (passes_west s e) e West m west))
    (λ east. (e, East, inl refl, passed_has (passes_east s e) e East m east))
    (append_has (if_passed (passes_west s e) e West) (if_passed (passes_east s e) e East) m here))
    (λ rest. let at = passing_has s es m rest in (at.0, at.1, inr at.2, at.3))
    (append_has (if_passed (passes_west s e) e West ++ if_passed (passes_east s e) e East) (passing_names s es) m h)

-- links
pub link_splits : (s : Parts) (k : ℕ) → k < length s.layered.links → Splits (names_of s) (link_names k) (of_link k)
link_splits s k h =
    let n = length s.layered.links in
    let rest : List ℕ = range_with_len (k + 1) (n - suc k) in
    let docks = dock_names s (all_ends s.level) in
    let loops = passing_names s (range_with_len 0 (length s.level.edges)) in
    let links : link_names n ≡ link_names k ++ of_link k ∷ map of_link rest = ap (map of_link) (range_at n k h) ∙ map-append of_link (range_with_len 0 k) (k ∷ rest) in
    record {
      after = (map of_link rest ++ docks) ++ loops;
      is = ap (λ (ns : List Name). (ns ++ docks) ++ loops) links
          ∙ ap (λ (ns : List Name). ns ++ loops) (append_assoc (link_names k) (of_link k ∷ map of_link rest) docks)
          ∙ append_assoc (link_names k) (of_link k ∷ (map of_link rest ++ docks)) loops;
      other = λ m has.
          let at = link_has k m has in
          let less = at.1 in
          subst (λ z. name_eq z (of_link k) ≡ false) at.2 (ne_eqb at.0 k (λ same. omega (arith, same, less)));
      self = eq-eqb k k refl;
    }

dock_first : (s : Parts) (n : End) (ns : List End) → dock_inverts s n ≡ true → dock_names s (n ∷ ns) ≡ of_dock n ∷ dock_names s ns
dock_first s n ns is_reversed = ap (λ (b : Bool). map of_dock (cond b (n ∷ filter (dock_inverts s) ns) (filter (dock_inverts s) ns))) is_reversed

module _ (s : Parts) (e : ℕ) (there : e < length s.level.edges) where
  abbrev links : List Name
  links = link_names (length s.layered.links)

  abbrev loops : List Name
  loops = passing_names s (range_with_len 0 (length s.level.edges))

  abbrev later : List ℕ
  later = range_with_len (e + 1) (length s.level.edges - suc e)

  abbrev earlier : List End
  earlier = ends_of_edges (range_with_len 0 e)

  ends_are : all_ends s.level ≡ earlier ++ end_at e true ∷ end_at e false ∷ ends_of_edges later
  ends_are = ap ends_of_edges (range_at (length s.level.edges) e there) ∙ ends_append (range_with_len 0 e) (e ∷ later)

  names_are : names_of s ≡ (links ++ dock_names s earlier) ++ (dock_names s (end_at e true ∷ end_at e false ∷ ends_of_edges later) ++ loops)
  names_are =
      ap (λ (ns : List End). (links ++ dock_names s ns) ++ loops) ends_are
      ∙ ap (λ (ns : List Name). (links ++ ns) ++ loops) (dock_names_append s earlier (end_at e true ∷ end_at e false ∷ ends_of_edges later))
      ∙ ap (λ (ns : List Name). ns ++ loops) (sym (append_assoc links (dock_names s earlier) (dock_names s (end_at e true ∷ end_at e false ∷ ends_of_edges later))))
      ∙ append_assoc (links ++ dock_names s earlier) (dock_names s (end_at e true ∷ end_at e false ∷ ends_of_edges later)) loops

  earlier_other : (n : End) → n.edge ≡ e → (m : Name) → Has (behind_docks s e) m → name_eq m (of_dock n) ≡ false
  unfolding behind_docks
  earlier_other n own m has =
      ⊎_elim
      (λ link. let at = link_has (length s.layered.links) m link in subst (λ z. name_eq z (of_dock n) ≡ false) at.2 refl)
      (λ dock.
      let at = dock_has s earlier m dock in
      let low = (range_has 0 e at.0.edge (ends_edge (range_with_len 0 e) at.0 at.1)).1 in
      subst (λ z. name_eq z (of_dock n) ≡ false) at.2 (other_edge at.0 n (λ same. omega (arith, same, own, low))))
      (append_has links (dock_names s earlier) m has)

  source_splits : dock_inverts s (end_at e true) ≡ true → Splits (names_of s) (behind_docks s e) (of_dock (end_at e true))
  unfolding behind_docks
  source_splits is_reversed =
      record {
        after = dock_names s (end_at e false ∷ ends_of_edges later) ++ loops;
        is = names_are ∙ ap (λ (ns : List Name). (links ++ dock_names s earlier) ++ (ns ++ loops)) (dock_first s (end_at e true) (end_at e false ∷ ends_of_edges later) is_reversed);
        other = earlier_other (end_at e true) refl;
        self = end_self (end_at e true);
      }

  target_splits : dock_inverts s (end_at e false) ≡ true → Splits (names_of s) (behind_docks s e ++ dock_names s (end_at e true ∷ [])) (of_dock (end_at e false))
  unfolding behind_docks
  target_splits is_reversed =
      let own = dock_names s (end_at e true ∷ []) in
      let rest = dock_names s (ends_of_edges later) in
      record {
        after = rest ++ loops;
        is = names_are
            ∙ ap (λ (ns : List Name). (links ++ dock_names s earlier) ++ (ns ++ loops))
            (dock_names_append s (end_at e true ∷ []) (end_at e false ∷ ends_of_edges later) ∙ ap (λ (ns : List Name). own ++ ns) (dock_first s (end_at e false) (ends_of_edges later) is_reversed))
            ∙ ap (λ (ns : List Name). (links ++ dock_names s earlier) ++ ns) (append_assoc own (of_dock (end_at e false) ∷ rest) loops)
            ∙ sym (append_assoc (links ++ dock_names s earlier) own (of_dock (end_at e false) ∷ (rest ++ loops)));
        other = λ m has.
            ⊎_elim
            (λ before. earlier_other (end_at e false) refl m before)
            (λ source.
            let at = dock_has s (end_at e true ∷ []) m source in
            let same : end_at e true ≡ at.0 = ⊎_elim (λ here. here) (λ none. absurd none) at.1 in
            subst (λ z. name_eq z (of_dock (end_at e false)) ≡ false) (ap of_dock same ∙ at.2) (and_right (eqb e e) false refl))
            (append_has (links ++ dock_names s earlier) own m has);
        self = end_self (end_at e false);
      }

  pub dock_splits : (t : Bool) → dock_inverts s (end_at e t) ≡ true → Splits (names_of s) (before_dock s e t) (of_dock (end_at e t))
  dock_splits true is_reversed = source_splits is_reversed
  dock_splits false is_reversed = target_splits is_reversed

  -- self-loops
  abbrev front : List Name
  front = links ++ dock_names s (all_ends s.level)

  passing_append : (es fs : List ℕ) → passing_names s (es ++ fs) ≡ passing_names s es ++ passing_names s fs
  passing_append [] fs = refl
  passing_append (f ∷ es) fs =
      ap (λ ns. if_passed (passes_west s f) f West ++ if_passed (passes_east s f) f East ++ ns) (passing_append es fs)
      ∙ sym (append_assoc (if_passed (passes_west s f) f West ++ if_passed (passes_east s f) f East) (passing_names s es) (passing_names s fs))

  abbrev west : List Name
  west = if_passed (passes_west s e) e West

  abbrev east : List Name
  east = if_passed (passes_east s e) e East

  loops_are : names_of s ≡ (front ++ passing_names s (range_with_len 0 e)) ++ (west ++ (east ++ passing_names s later))
  loops_are =
      ap (λ (ns : List Name). front ++ ns) (ap (passing_names s) (range_at (length s.level.edges) e there) ∙ passing_append (range_with_len 0 e) (e ∷ later) ∙ ap (λ (ns : List Name). passing_names s (range_with_len 0 e) ++ ns) (append_assoc west east (passing_names s later)))
      ∙ sym (append_assoc front (passing_names s (range_with_len 0 e)) (west ++ (east ++ passing_names s later)))

  earlier_loops_other : (side : Side) (m : Name) → Has (behind_loops s e) m → name_eq m (of_loop e side) ≡ false
  unfolding behind_loops
  earlier_loops_other side m has =
      ⊎_elim
      (λ first.
      ⊎_elim
      (λ link. let at = link_has (length s.layered.links) m link in subst (λ z. name_eq z (of_loop e side) ≡ false) at.2 refl)
      (λ dock. let at = dock_has s (all_ends s.level) m dock in subst (λ z. name_eq z (of_loop e side) ≡ false) at.2 refl)
      (append_has links (dock_names s (all_ends s.level)) m first))
      (λ loop.
      let at = passing_has s (range_with_len 0 e) m loop in
      let low = (range_has 0 e at.0 at.2).1 in
      subst (λ z. name_eq z (of_loop e side) ≡ false) at.3 (and_left (eqb at.0 e) (is_side at.1 side) (ne_eqb at.0 e (λ same. omega (arith, same, low)))))
      (append_has front (passing_names s (range_with_len 0 e)) m has)

  loop_self : (side : Side) → name_eq (of_loop e side) (of_loop e side) ≡ true
  loop_self side = and_from (eqb e e) (is_side side side) (eq-eqb e e refl) (side_itself side)

  pub west_splits : passes_west s e ≡ true → Splits (names_of s) (behind_loops s e) (of_loop e West)
  unfolding behind_loops
  west_splits passes =
      record {
        after = east ++ passing_names s later;
        is = loops_are ∙ ap (λ (b : Bool). (front ++ passing_names s (range_with_len 0 e)) ++ (if_passed b e West ++ (east ++ passing_names s later))) passes;
        other = earlier_loops_other West;
        self = loop_self West;
      }

  pub east_splits : passes_east s e ≡ true → Splits (names_of s) (behind_loops s e ++ if_passed (passes_west s e) e West) (of_loop e East)
  unfolding behind_loops
  east_splits passes =
      record {
        after = passing_names s later;
        is = loops_are
            ∙ sym (append_assoc (front ++ passing_names s (range_with_len 0 e)) west (east ++ passing_names s later))
            ∙ ap (λ (b : Bool). ((front ++ passing_names s (range_with_len 0 e)) ++ west) ++ (if_passed b e East ++ passing_names s later)) passes;
        other = λ m has.
            ⊎_elim
            (λ before. earlier_loops_other East m before)
            (λ own. subst (λ z. name_eq z (of_loop e East) ≡ false) (passed_has (passes_west s e) e West m own) (and_right (eqb e e) false refl))
            (append_has (front ++ passing_names s (range_with_len 0 e)) west m has);
        self = loop_self East;
      }
