-- The spots of ports that are read off a level's edges lie on the sides of the level's plan.
use Rattle.std.proofs.Common.{◌≡◌, ℕ, ◌<◌, ◌≤◌, ◌==◌, ◌&&◌, ◌||◌, not, cond, Bool, true, false, List, [], ◌∷◌, map, length, refl, sym, subst, ap, ap₂, ◌∙◌, arith, inl, inr}
use Rattle.std.specs.Prelude.{Some}
use Rattle.std.specs.List.{filter, list_any, range_with_len}
use Rattle.std.proofs.lemmas.List.{get_or_default}
use Rattle.std.proofs.lemmas.List.FromFn.{length-map-range_with_len, get_or-map-range_with_len}
use Rattle.port_order.specs.declared.children.Child.{Child}
use Rattle.port_order.specs.declared.spots.Spot.{Spot}
use Rattle.port_order.specs.Child.{no_spot, spot_at}
use Rattle.port_order.specs.Conditions.{IsSpot}
use Rattle.port_order.specs.Sides.{given_to, side_else, side_of}
use Rattle.level_model.specs.declared.level.LevelEdge.{LevelEdge}
use Rattle.level_model.specs.Conditions.{IsLevel}
use Rattle.level_model.specs.Level.{End, PlainLevel, PlainPlan, child_at, edge_at, end_at, ends_at_port, ends_of_edges, enters, holds, is_loop, is_port, linked, port_spot, spoke, spots}
use Rattle.level_model.proofs.Lists.{Has, below_has}
use Rattle.dock_table.proofs.AddLemmas.{ports_few}
use Rattle.dock_table.proofs.WholeLemmas.{number_port}
use Rattle.level_model.specs.Marks.{AreMarks}
use Rattle.layer_units.specs.Reading.{mark_at}
use Rattle.layer_units.specs.Passing.{as_asked, is_passed, level_edge, passes, seen_spot}
use Rattle.layer_units.specs.Levels.{seen_spots}
use Rattle.layer_units.specs.Ports.{ArePortSpots}
use Rattle.layer_units.specs.Sides.{SamePorts}
use Rattle.layer_units.proofs.SeenLemmas.{or_again, passes_is}

-- an end that is asked for
abbrev pub asked : PlainPlan → Bool → End → Bool
asked p b n = as_asked (enters p n) b

abbrev pub at_port : PlainLevel → ℕ → ℕ → End → Bool
at_port l c k n = ((spoke l n).child == c) && is_port (spoke l n).port k

-- one more element of a list that is filtered twice
any_more : {X : Type 0} (f g h : X → Bool) (x : X) (xs : List X) → list_any f (filter g (filter h (x ∷ xs))) ≡ ((h x && (g x && f x)) || list_any f (filter g (filter h xs)))
any_more {X} f g h x xs = step (h x) (g x) refl refl
  where
    step : (a b : Bool) → h x ≡ a → g x ≡ b → list_any f (filter g (cond (h x) (x ∷ filter h xs) (filter h xs))) ≡ ((h x && (g x && f x)) || list_any f (filter g (filter h xs)))
    step true true e d = rw (e, d) refl
    step true false e d = rw (e, d) refl
    step false b e d = rw e refl

module _ (l : PlainLevel) (p : PlainPlan) (marks : List Bool) (are : AreMarks p.reversed (length l.edges) marks) (c k : ℕ) where
  passed_in : (b : Bool) (es : List ℕ) → ((e : ℕ) → Has es e → e < length l.edges)
      → list_any (λ e. passes (level_edge l.edges e) (mark_at marks e) c k b) es ≡ list_any (asked p b) (linked l (filter (at_port l c k) (ends_of_edges es)))
  passed_in b [] inside = refl
  passed_in b (e ∷ es) inside =
      let h = inside e (inl refl) in
      let there : level_edge l.edges e ≡ edge_at l e = get_or_default l.edges e (level_edge [] 0) (edge_at (record { children = []; edges = []; spacing = l.spacing; choices = l.choices }) 0) h in
      let one : passes (level_edge l.edges e) (mark_at marks e) c k b ≡ ((at_port l c k (end_at e true) && (not (is_loop l e) && asked p b (end_at e true))) || (at_port l c k (end_at e false) && (not (is_loop l e) && asked p b (end_at e false)))) =
      ap₂ (λ (x : LevelEdge) (m : Bool). passes x m c k b) there (are.each e h) ∙ passes_is (edge_at l e) (holds p.reversed e) c k b
      in
      ap₂ (λ (x y : Bool). x || y) one (passed_in b es (λ i has. inside i (inr has)))
      ∙ or_again (at_port l c k (end_at e true) && (not (is_loop l e) && asked p b (end_at e true))) (at_port l c k (end_at e false) && (not (is_loop l e) && asked p b (end_at e false))) (list_any (asked p b) (linked l (filter (at_port l c k) (ends_of_edges es))))
      ∙ ap (λ y. (at_port l c k (end_at e true) && (not (is_loop l e) && asked p b (end_at e true))) || y) (sym (any_more (asked p b) (λ n. not (is_loop l n.edge)) (at_port l c k) (end_at e false) (ends_of_edges es)))
      ∙ sym (any_more (asked p b) (λ n. not (is_loop l n.edge)) (at_port l c k) (end_at e true) (end_at e false ∷ ends_of_edges es))

  passed_is : (b : Bool) → is_passed l.edges marks (length l.edges) c k b ≡ list_any (asked p b) (linked l (ends_at_port l c k))
  passed_is b = passed_in b (range_with_len 0 (length l.edges)) (λ e has. below_has (length l.edges) e has)

  -- the side of a port
  pub seen_side : (x : Child) → side_of x (seen_spot l.edges marks c k) ≡ side_of x (port_spot l p c k)
  seen_side x = ap₂ (λ a b. side_else (given_to x (Some k)) (a && not b)) (passed_is true) (passed_is false)

-- ---- the spots of a child's ports

pub seen_at : (edges : List LevelEdge) (marks : List Bool) (c n k : ℕ) → k < n → spot_at (map (seen_spot edges marks c) (range_with_len 0 n)) k ≡ seen_spot edges marks c k
seen_at edges marks c n k h = get_or-map-range_with_len (seen_spot edges marks c) 0 n k k no_spot h (omega arith)

pub seen_long : (edges : List LevelEdge) (marks : List Bool) (c n : ℕ) → length (map (seen_spot edges marks c) (range_with_len 0 n)) ≡ n
seen_long edges marks c n = length-map-range_with_len (seen_spot edges marks c) 0 n

pub seen_are : (x : Child) (edges : List LevelEdge) (marks : List Bool) (c n : ℕ) → n ≡ length x.ports → n ≤ 4096 → ArePortSpots x (map (seen_spot edges marks c) (range_with_len 0 n))
seen_are x edges marks c n same few =
    let long = seen_long edges marks c n in
    record {
      as_many = long ∙ same;
      few = omega (arith, same, few);
      ports = record {
        sound = record {
          each = λ k h. subst (IsSpot x) (sym (seen_at edges marks c n k (omega (arith, h, long)))) (record { port = omega (arith, h, long, same); mean = tt; implicit = λ bad. absurd cc });
          differ = λ i j hi hj e. sym (number i (omega (arith, hi, long))) ∙ e ∙ number j (omega (arith, hj, long));
        };
        long = omega (arith, long, same);
        port_is = λ k h. ap (λ (s : Spot). s.port) (seen_at edges marks c n k (omega (arith, h, same)));
        number_is = λ k h. number k (omega (arith, h, same));
        behind = λ k more h. absurd (omega (arith, more, h, long, same));
      };
    }
  where
    number : (k : ℕ) → k < n → (spot_at (map (seen_spot edges marks c) (range_with_len 0 n)) k).number ≡ k
    number k h = ap (λ (s : Spot). s.number) (seen_at edges marks c n k h)

pub seen_same : (l : PlainLevel) (p : PlainPlan) (marks : List Bool) (c : ℕ) → AreMarks p.reversed (length l.edges) marks → SamePorts (child_at l c) (seen_spots l marks c) (spots l p c)
seen_same l p marks c are k h =
    ap (side_of (child_at l c)) (seen_at l.edges marks c (length (child_at l c).ports) k h) ∙ seen_side l p marks are c k (child_at l c) ∙ sym (ap (side_of (child_at l c)) (number_port l p c k h).1)

-- those of a child that is read from the level's
pub ports_seen : (l : PlainLevel) (marks : List Bool) (c : ℕ) (x : Child) (spots : List Spot) → IsLevel l → x ≡ child_at l c → spots ≡ seen_spots l marks c → ArePortSpots x spots
ports_seen l marks c x spots level child is =
    subst (λ (y : Child). ArePortSpots y spots) (sym child)
    (subst (ArePortSpots (child_at l c)) (sym is) (seen_are (child_at l c) l.edges marks c (length (child_at l c).ports) refl (ports_few l c level)))
