-- The gaps of a level, and the places of nets, in the words of its plan.
use Rattle.std.proofs.Common.{◌≡◌, ⊎_elim, ℕ, ◌+◌, ◌<◌, ◌^◌, eqb, true, List, [], ◌∷◌, ◌++◌, map, length, get_or, take, drop, ℤ, pos, ◌+ℤ◌, refl, sym, subst, ap, ◌∙◌, arith}
use Rattle.std.proofs.lemmas.Bool.{cases_eq, cond_both}
use Rattle.std.proofs.lemmas.Int.{ints}
use Rattle.std.proofs.lemmas.List.{length-map, map_push, length_push, get_or_append_left, get_or_push, append-nil, drop_all, take_all}
use Rattle.drawing_types.specs.declared.shape.Side.TheVariants.{East, West}
use Rattle.elk_doc.specs.Sound.{IsDistance, IsSoundSpacing}
use Rattle.elk_layers.specs.Layered.{IsFromZero}
use Rattle.route_lines.specs.declared.Gap.{Gap}
use Rattle.route_lines.specs.Points.{PlainGap, plain_gap, gap_in}
use Rattle.level_model.specs.Level.{PlainLevel, end_at}
use Rattle.level_model.specs.Nets.{of_link, of_dock, of_loop, first_slot}
use Rattle.level_nets.specs.declared.routing.Places.{Places}
use Rattle.level_nets.specs.declared.routing.Routing.{Routing}
use Rattle.level_nets.specs.Parts.{Parts, IsGiven}
use Rattle.level_model.specs.Table.{end_number}
use Rattle.level_nets.specs.Read.{HoldNets, names_of, left_of, in_gap, passes_west, passes_east, dock_inverts}
use Rattle.level_nets.specs.Held.{plain_gaps, legs_at, before_dock}
use Rattle.level_nets.specs.Reach.{AreNetsIn, AreColumnsIn}
use Rattle.level_nets.specs.Placed.{HaveBorders, counts_of}
use Rattle.level_nets.specs.Routed.{AreEmpty, ArePlaces, AreRouted, AreGapsOf, AreLegsOf, AreGapsIn}
use Rattle.level_nets.proofs.Names.{inverted_is, west_is, east_is}
use Rattle.level_nets.proofs.Gaps.{gap_of_plan, place_is, are_nets}
use Rattle.level_nets.proofs.Splits.{link_splits, dock_splits, west_splits, east_splits}
use Rattle.level_nets.proofs.BorderLemmas.{left_range, right_range}

-- a slice that is written whole
pub written : {X : Type 0} (old new : List X) (len : ℕ) → len ≡ length old → length new ≡ length old → take len (new ++ drop (length new) old) ≡ new
written old new len same long =
    ap (λ xs. take len (new ++ xs)) (drop_all (length new) old (omega (arith, long)))
    ∙ ap (take len) (append-nil new)
    ∙ take_all len new (omega (arith, same, long))

pub empty_more : (n : ℕ) (gaps new : List Gap) (g : Gap) → new ≡ gaps ++ g ∷ [] → g.nets.items ≡ [] → AreEmpty n (plain_gaps gaps) → AreEmpty (n + 1) (plain_gaps new)
empty_more n gaps new g e none empty =
    let all : plain_gaps new ≡ plain_gaps gaps ++ plain_gap g ∷ [] = ap (map plain_gap) e ∙ map_push plain_gap gaps g in
    record {
      as_many = ap length all ∙ length_push (plain_gaps gaps) (plain_gap g) ∙ ap (λ m. m + 1) empty.as_many;
      none = λ h less.
          ap (λ (gs : List PlainGap). (gap_in gs h).nets) all
          ∙ ⊎_elim
          (λ (last : h ≡ n). ap (λ (q : PlainGap). q.nets) (get_or_push (plain_gaps gaps) (plain_gap g) _ h (empty.as_many ∙ sym last)) ∙ none)
          (λ other.
          let early : h < n = omega (arith, less, other) in
          let long = empty.as_many in
          ap (λ (q : PlainGap). q.nets) (get_or_append_left (plain_gaps gaps) (plain_gap g ∷ []) _ h (omega (arith, early, long))) ∙ empty.none h early)
          (cases_eq h n);
    }

pub none_held : (s : Parts) (gaps : List PlainGap) → AreEmpty (s.layered.layers + 1) gaps → HoldNets s [] gaps
unfolding in_gap
none_held s gaps empty = record { as_many = empty.as_many; nets = λ g h. empty.none g (let long = empty.as_many in omega (arith, h, long)) }

-- all gaps have nets in range
pub nets_in_range : (s : Parts) (gaps : List Gap) → IsGiven s → HoldNets s (names_of s) (plain_gaps gaps) → (g : ℕ) → g < length gaps → AreNetsIn (gap_in (plain_gaps gaps) g).nets
nets_in_range s gaps given held g h =
    let many = length-map gaps plain_gap in
    subst AreNetsIn (sym (held.nets g (omega (arith, h, many))))
    (are_nets s given.plan.rows given.plan.orders given.plan.layers given.plan.planned given.bottoms g)

-- what the call promises
pub routed_gaps : (s : Parts) (gaps : List Gap) → AreRouted s (plain_gaps gaps) → AreGapsOf s gaps
routed_gaps s gaps routed rows o layers planned g h =
    let many = length-map gaps plain_gap in
    let inside : g < length (plain_gaps gaps) = omega (arith, h, many) in
    gap_of_plan s rows o layers planned (plain_gaps gaps) g routed.held inside (routed.placed g inside)

module _ (s : Parts) (v : Places) (r : Routing) (places : ArePlaces s v) (links : r.links ≡ v.links.items) (docks : r.docks ≡ v.docks.items) (loops : r.loops ≡ v.loops.items) where
  pub routed_legs : AreLegsOf s r
  routed_legs rows o layers planned =
      record {
        link_count = ap length links ∙ places.links.as_many;
        dock_count = ap length docks ∙ places.docks.as_many;
        loop_count = ap length loops ∙ places.loops.as_many;
        links = λ k h. ap (λ ns. get_or ns k 0) links ∙ places.links.each k h ∙ place_is s rows o layers planned _ (of_link k) (link_splits s k h);
        docks = λ e t h inverted.
            let is_reversed : dock_inverts s (end_at e t) ≡ true = inverted_is s rows o layers planned (end_at e t) h ∙ inverted in
            ap (λ ns. get_or ns (end_number (end_at e t)) 0) docks ∙ places.docks.each e t h is_reversed ∙ place_is s rows o layers planned (before_dock s e t) (of_dock (end_at e t)) (dock_splits s e h t is_reversed);
        west = λ e h passes.
            let here : passes_west s e ≡ true = west_is s rows o layers planned e h ∙ passes in
            ap (λ ls. (legs_at ls e).west) loops ∙ (places.loops.each e h).west here ∙ place_is s rows o layers planned _ (of_loop e West) (west_splits s e h here);
        east = λ e h passes.
            let here : passes_east s e ≡ true = east_is s rows o layers planned e h ∙ passes in
            ap (λ ls. (legs_at ls e).east) loops ∙ (places.loops.each e h).east here ∙ place_is s rows o layers planned _ (of_loop e East) (east_splits s e h here);
      }

-- borders and slots in range
first_in : (a b c : ℤ) → a ≡ b +ℤ c → IsFromZero b (pos (2 ^ 50)) → IsFromZero c (pos (2 ^ 20)) → IsFromZero a (pos (2 ^ 51))
first_in a b c e hb hc = let x = hb.0 in let y = hb.1 in let z = hc.0 in let w = hc.1 in (omega (arith, ints, e, x, z), omega (arith, ints, e, y, w))

left_up : (a b : ℤ) → a ≡ b → IsFromZero b (pos (2 ^ 50)) → IsFromZero a (pos (2 ^ 51))
left_up a b e h = let x = h.0 in let y = h.1 in (omega (arith, ints, e, x), omega (arith, ints, e, y))

slot_in : (l : PlainLevel) (g : ℕ) → IsSoundSpacing l.spacing → IsFromZero (first_slot l g) (pos (2 ^ 20))
slot_in l g sound = cond_both (eqb g 0) (pos 0) l.spacing.edge_node_layers (λ z. IsFromZero z (pos (2 ^ 20))) (λ first. none) (λ other. some l.spacing.edge_node_layers sound.edge_node_layers)
  where
    none : IsFromZero (pos 0) (pos (2 ^ 20))
    none = (omega (arith, ints), omega (arith, ints))

    some : (z : ℤ) → IsDistance z → IsFromZero z (pos (2 ^ 20))
    some z h = let x = h.above in let y = h.below in (omega (arith, ints, x), omega (arith, ints, y))

pub routed_range : (s : Parts) (gaps : List Gap) → IsGiven s → AreColumnsIn s → AreRouted s (plain_gaps gaps) → AreGapsIn gaps
routed_range s gaps given columns routed g h =
    let many = length-map gaps plain_gap in
    let inside : g < length (plain_gaps gaps) = omega (arith, h, many) in
    let sound = given.plan.planned.ready.level.spacing in
    let nets : (k : ℕ) → k < length (plain_gaps gaps) → AreNetsIn (gap_in (plain_gaps gaps) k).nets = λ k less. nets_in_range s gaps given routed.held k (omega (arith, less, many)) in
    let all : HaveBorders s g (plain_gaps gaps) (plain_gaps gaps) = record { as_many = refl; nets = λ k less. refl; each = λ k less. routed.placed k (omega (arith, less, inside)) } in
    let left = left_range s g (plain_gaps gaps) (plain_gaps gaps) sound given.few_layers columns routed.held.as_many nets (omega (arith, inside)) all in
    let placed = routed.placed g inside in
    record {
      left = left_up _ _ placed.left_is left;
      first = first_in _ _ _ placed.first left (slot_in s.level g sound);
      right = right_range s g (left_of s (counts_of (plain_gaps gaps)) g) (gap_in (plain_gaps gaps) g) sound placed (nets g inside) left;
    }
