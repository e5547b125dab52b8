-- The spots of ports, edge by edge.
use Rattle.std.proofs.Common.{◌≡◌, ℕ, ◌+◌, ◌<◌, ◌==◌, ◌&&◌, ◌||◌, not, cond, Bool, true, false, List, [], map, length, get_or, set, refl, sym, subst, ap, ap₂, ◌∙◌, arith, inl, inr, ne_eqb, eq-eqb, IfSome}
use Rattle.std.specs.Prelude.{Option, None, Some}
use Rattle.std.specs.List.{range_with_len}
use Rattle.std.proofs.lemmas.Bool.{cases_eq}
use Rattle.std.proofs.lemmas.List.{get_or_read, get_or-set_same, get_or-set_other, length-set}
use Rattle.std.proofs.lemmas.List.FromFn.{length-map-range_with_len, get_or-map-range_with_len}
use Rattle.port_order.specs.declared.spots.Spot.{Spot}
use Rattle.port_order.specs.Child.{no_spot, spot_at}
use Rattle.level_model.specs.declared.level.EdgeEnd.{EdgeEnd}
use Rattle.level_model.specs.declared.level.LevelEdge.{LevelEdge}
use Rattle.level_model.specs.Conditions.{IsLevel, IsSpoke}
use Rattle.level_model.specs.Level.{PlainLevel, child_at, edge_at, is_port}
use Rattle.dock_table.specs.Rows.{ArePortRows, row_at}
use Rattle.dock_table.proofs.RowLemmas.{map_same, one_set}
use Rattle.layer_units.specs.Reading.{mark_at}
use Rattle.layer_units.specs.Passing.{ArePassed, AreSpotsBy, as_asked, is_passed, level_edge, meets, passes, row_with, spot_to, with_flow}
use Rattle.layer_units.proofs.RankCountLemmas.{any_next, or_false}

-- an edge that passes a port, by its ends
pub passes_is : (e : LevelEdge) (is_reversed : Bool) (c k : ℕ) (b : Bool)
    → passes e is_reversed c k b ≡ (meets e.source (e.source.child == e.target.child) (as_asked is_reversed b) c k || meets e.target (e.source.child == e.target.child) (as_asked (not is_reversed) b) c k)
unfolding passes
passes_is e is_reversed c k b = refl

pub or_again : (a b d : Bool) → ((a || b) || d) ≡ (a || (b || d))
or_again true b d = refl
or_again false b d = refl

abbrev is_at : EdgeEnd → ℕ → ℕ → Bool
is_at s c k = (s.child == c) && is_port s.port k

-- the spot of a port by what is known of it
abbrev flow_spot : ℕ → Bool → Bool → Spot
flow_spot k leaves enters = record { port = Some k; number = k; leaves = leaves; enters = enters; mean = None }

-- ---- one edge more

loop_passes : (e : LevelEdge) (r : Bool) (c k : ℕ) (b : Bool) → (e.source.child == e.target.child) ≡ true → passes e r c k b ≡ false
loop_passes e r c k b loop =
    passes_is e r c k b
    ∙ ap (λ l. meets e.source l (as_asked r b) c k || meets e.target l (as_asked (not r) b) c k) loop
    ∙ neither (is_at e.source c k) (is_at e.target c k)
  where
    neither : (x y : Bool) → ((x && false) || (y && false)) ≡ false
    neither true true = refl
    neither true false = refl
    neither false true = refl
    neither false false = refl

edge_passes : (e : LevelEdge) (r : Bool) (c k : ℕ) (b : Bool) → (e.source.child == e.target.child) ≡ false
    → passes e r c k b ≡ ((is_at e.source c k && as_asked r b) || (is_at e.target c k && as_asked (not r) b))
edge_passes e r c k b no_loop = passes_is e r c k b ∙ ap (λ l. meets e.source l (as_asked r b) c k || meets e.target l (as_asked (not r) b) c k) no_loop

more_passed : (edges : List LevelEdge) (marks : List Bool) (n c k : ℕ) (b : Bool) → is_passed edges marks (n + 1) c k b ≡ (is_passed edges marks n c k b || passes (level_edge edges n) (mark_at marks n) c k b)
more_passed edges marks n c k b = any_next (λ e. passes (level_edge edges e) (mark_at marks e) c k b) n

loop_next : (edges : List LevelEdge) (marks : List Bool) (n c k : ℕ) → ((level_edge edges n).source.child == (level_edge edges n).target.child) ≡ true → spot_to edges marks n c k ≡ spot_to edges marks (n + 1) c k
loop_next edges marks n c k loop =
    ap₂ (flow_spot k) (same false) (same true)
  where
    same : (b : Bool) → is_passed edges marks n c k b ≡ is_passed edges marks (n + 1) c k b
    same b =
        sym (more_passed edges marks n c k b
        ∙ ap (λ x. is_passed edges marks n c k b || x) (loop_passes (level_edge edges n) (mark_at marks n) c k b loop)
        ∙ or_false (is_passed edges marks n c k b))

one_end : (at r : Bool) (k : ℕ) (leaves enters : Bool) → flow_spot k (leaves || (at && not r)) (enters || (at && r)) ≡ cond at (with_flow r (flow_spot k leaves enters)) (flow_spot k leaves enters)
one_end true r k leaves enters = refl
one_end false r k leaves enters = ap₂ (flow_spot k) (or_false leaves) (or_false enters)

two_ends : (a b r : Bool) (k : ℕ) (leaves enters : Bool)
    → flow_spot k (leaves || ((a && not r) || (b && not (not r)))) (enters || ((a && r) || (b && not r)))
    ≡ cond b (with_flow (not r) (cond a (with_flow r (flow_spot k leaves enters)) (flow_spot k leaves enters))) (cond a (with_flow r (flow_spot k leaves enters)) (flow_spot k leaves enters))
two_ends a b r k leaves enters =
    ap₂ (flow_spot k) (sym (or_again leaves (a && not r) (b && not (not r)))) (sym (or_again enters (a && r) (b && not r)))
    ∙ one_end b (not r) k (leaves || (a && not r)) (enters || (a && r))
    ∙ ap (λ (s : Spot). cond b (with_flow (not r) s) s) (one_end a r k leaves enters)

-- the spot of a port when the source of an edge is noted
abbrev half : List LevelEdge → List Bool → ℕ → EdgeEnd → Bool → ℕ → ℕ → Spot
half edges marks n s r c k = cond (is_at s c k) (with_flow r (spot_to edges marks n c k)) (spot_to edges marks n c k)

edge_next : (edges : List LevelEdge) (marks : List Bool) (n c k : ℕ) (x : LevelEdge) (r : Bool) → x ≡ level_edge edges n → r ≡ mark_at marks n → (x.source.child == x.target.child) ≡ false
    → spot_to edges marks (n + 1) c k ≡ cond (is_at x.target c k) (with_flow (not r) (half edges marks n x.source r c k)) (half edges marks n x.source r c k)
edge_next edges marks n c k x r edge mark no_loop =
    ap₂ (flow_spot k) (more false) (more true)
    ∙ two_ends (is_at x.source c k) (is_at x.target c k) r k (is_passed edges marks n c k false) (is_passed edges marks n c k true)
  where
    more : (b : Bool) → is_passed edges marks (n + 1) c k b ≡ (is_passed edges marks n c k b || ((is_at x.source c k && as_asked r b) || (is_at x.target c k && as_asked (not r) b)))
    more b =
        more_passed edges marks n c k b
        ∙ ap₂ (λ (y : LevelEdge) (m : Bool). is_passed edges marks n c k b || passes y m c k b) (sym edge) (sym mark)
        ∙ ap (λ p. is_passed edges marks n c k b || p) (edge_passes x r c k b no_loop)

-- ---- the spots of all children

row_noted : (f g : ℕ → Spot) (port : Option ℕ) (enters : Bool) (m : ℕ) → IfSome port (λ k. k < m) → ((k : ℕ) → g k ≡ cond (is_port port k) (with_flow enters (f k)) (f k))
    → row_with port enters (map f (range_with_len 0 m)) ≡ map g (range_with_len 0 m)
row_noted f g None enters m inside is = map_same f g (range_with_len 0 m) (λ k. sym (is k))
row_noted f g (Some j) enters m inside is =
    sym (one_set f g m j (with_flow enters (spot_at (map f (range_with_len 0 m)) j)) inside
    (is j ∙ ap (λ b. cond b (with_flow enters (f j)) (f j)) (eq-eqb j j refl) ∙ ap (with_flow enters) (sym (get_or-map-range_with_len f 0 m j j no_spot inside (omega arith))))
    (λ k ne. is k ∙ ap (λ b. cond b (with_flow enters (f k)) (f k)) (ne_eqb j k (λ e. ne (sym e)))))

end_noted : (l : PlainLevel) (f g : ℕ → ℕ → Spot) (s : EdgeEnd) (enters : Bool) (rows : List (List Spot)) → IsSpoke l s → ((c k : ℕ) → g c k ≡ cond (is_at s c k) (with_flow enters (f c k)) (f c k))
    → AreSpotsBy l f rows → AreSpotsBy l g (set rows s.child (row_with s.port enters (row_at rows s.child)))
end_noted l f g s enters rows spoke_in is are =
    let child = spoke_in.child in
    let many = are.as_many in
    let inside : s.child < length rows = omega (arith, child, many) in
    record {
      as_many = length-set rows s.child (row_with s.port enters (row_at rows s.child)) ∙ many;
      row_is = λ c h. elim (cases_eq c s.child) [
        | inl q ↦
            subst (λ x. row_at (set rows s.child (row_with s.port enters (row_at rows s.child))) x ≡ map (g x) (range_with_len 0 (length (child_at l x).ports))) (sym q)
            (get_or-set_same rows s.child (row_with s.port enters (row_at rows s.child)) [] inside
            ∙ ap (row_with s.port enters) (are.row_is s.child child)
            ∙ row_noted (f s.child) (g s.child) s.port enters (length (child_at l s.child).ports) spoke_in.port
            (λ k. is s.child k ∙ ap (λ b. cond (b && is_port s.port k) (with_flow enters (f s.child k)) (f s.child k)) (eq-eqb s.child s.child refl)))
        | inr ne ↦
            get_or-set_other rows s.child c (row_with s.port enters (row_at rows s.child)) [] ne
            ∙ are.row_is c h
            ∙ map_same (f c) (g c) (range_with_len 0 (length (child_at l c).ports))
            (λ k. sym (is c k ∙ ap (λ b. cond (b && is_port s.port k) (with_flow enters (f c k)) (f c k)) (ne_eqb s.child c (λ e. ne (sym e)))))
      ];
    }

spoke_there : (l : PlainLevel) (f : ℕ → ℕ → Spot) (s : EdgeEnd) (rows : List (List Spot)) → IsSpoke l s → AreSpotsBy l f rows → (s.child < length rows) × IfSome s.port (λ k. k < length (row_at rows s.child))
spoke_there l f s rows spoke_in are =
    let child = spoke_in.child in
    let many = are.as_many in
    let long : length (row_at rows s.child) ≡ length (child_at l s.child).ports = ap length (are.row_is s.child child) ∙ length-map-range_with_len (f s.child) 0 (length (child_at l s.child).ports) in
    (omega (arith, child, many), subst (λ n. IfSome s.port (λ k. k < n)) (sym long) spoke_in.port)

-- an edge that is noted, as it was read
pub record IsNoted (l : PlainLevel) (e : ℕ) (x : LevelEdge) : Type 0 where
  pub edge_is : x ≡ level_edge l.edges e
  pub source : IsSpoke l x.source
  pub target : IsSpoke l x.target

pub edge_read : (l : PlainLevel) (e : ℕ) (x : LevelEdge) → IsLevel l → e < length l.edges → x ≡ get_or l.edges e x → IsNoted l e x
edge_read l e x level h is =
    let there : x ≡ edge_at l e = get_or_read l.edges e x h is (edge_at (record { children = []; edges = []; spacing = l.spacing; choices = l.choices }) 0) in
    record {
      edge_is = get_or_read l.edges e x h is (level_edge [] 0);
      source = subst (λ (y : LevelEdge). IsSpoke l y.source) (sym there) (level.edges e h).source;
      target = subst (λ (y : LevelEdge). IsSpoke l y.target) (sym there) (level.edges e h).target;
    }

-- no edge is noted yet
pub none_passed : (l : PlainLevel) (marks : List Bool) (rows : List (List Spot)) → ArePortRows l (length l.children) rows → ArePassed l marks 0 rows
none_passed l marks rows are = record { as_many = are.as_many; row_is = are.row_is }

-- a self-loop
pub loop_noted : (l : PlainLevel) (marks : List Bool) (e : ℕ) (x : LevelEdge) (rows : List (List Spot)) → IsNoted l e x → (x.source.child == x.target.child) ≡ true → ArePassed l marks e rows → ArePassed l marks (e + 1) rows
loop_noted l marks e x rows is loop are =
    let at : ((level_edge l.edges e).source.child == (level_edge l.edges e).target.child) ≡ true = subst (λ (y : LevelEdge). (y.source.child == y.target.child) ≡ true) is.edge_is loop in
    record {
      as_many = are.as_many;
      row_is = λ c h. are.row_is c h ∙ map_same (spot_to l.edges marks e c) (spot_to l.edges marks (e + 1) c) (range_with_len 0 (length (child_at l c).ports)) (λ k. loop_next l.edges marks e c k at);
    }

module _ (l : PlainLevel) (marks : List Bool) (e : ℕ) (x : LevelEdge) (rows : List (List Spot)) (is : IsNoted l e x) (are : ArePassed l marks e rows) where
  pub source_there : (x.source.child < length rows) × IfSome x.source.port (λ k. k < length (row_at rows x.source.child))
  source_there = spoke_there l (spot_to l.edges marks e) x.source rows is.source are

  module _ (r : Bool) (mid : List (List Spot)) (mid_is : mid ≡ set rows x.source.child (row_with x.source.port r (row_at rows x.source.child))) where
    mid_are : AreSpotsBy l (half l.edges marks e x.source r) mid
    mid_are = subst (AreSpotsBy l (half l.edges marks e x.source r)) (sym mid_is) (end_noted l (spot_to l.edges marks e) (half l.edges marks e x.source r) x.source r rows is.source (λ c k. refl) are)

    pub target_there : (x.target.child < length mid) × IfSome x.target.port (λ k. k < length (row_at mid x.target.child))
    target_there = spoke_there l (half l.edges marks e x.source r) x.target mid is.target mid_are

    -- both ends are noted
    pub edge_noted : (new : List (List Spot)) → r ≡ mark_at marks e → (x.source.child == x.target.child) ≡ false → new ≡ set mid x.target.child (row_with x.target.port (not r) (row_at mid x.target.child)) → ArePassed l marks (e + 1) new
    edge_noted new mark no_loop new_is =
        subst (ArePassed l marks (e + 1)) (sym new_is)
        (end_noted l (half l.edges marks e x.source r) (spot_to l.edges marks (e + 1)) x.target (not r) mid is.target (λ c k. edge_next l.edges marks e c k x r is.edge_is mark no_loop) mid_are)
