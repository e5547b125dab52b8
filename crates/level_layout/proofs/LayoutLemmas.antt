-- A level can be drawn from its units, rows and lines, and its layout is what they are.
use Rattle.std.proofs.Common.{◌≡◌, ◌∙◌, ◌*◌, ◌<◌, ◌≤◌, ◌^◌, ◌==◌, ℕ, suc, List, [], ◌∷◌, ℤ, pos, ◌+ℤ◌, ◌≤ℤ◌, ◌<ℤ◌, Result, Ok, Err, IfOk, length, refl, sym, ap, subst, arith}
use Rattle.std.proofs.lemmas.Int.{clamps, ints}
use Rattle.std.specs.Prelude.{Option}
use Rattle.std.specs.declared.alloc.AllocError.{AllocError}
use Rattle.std.specs.Int.{int_max}
use Rattle.std.specs.List.{filter, range_with_len}
use Rattle.elk_doc.specs.declared.document.Placing.{Placing}
use Rattle.drawing_types.specs.declared.sweep.Sweep.{Sweep}
use Rattle.elk_doc.specs.declared.drawing.Certificate.{Certificate}
use Rattle.elk_layers.specs.declared.units.Unit.{Unit as LayerUnit}
use Rattle.elk_layers.specs.declared.units.Layered.{Layered}
use Rattle.elk_layers.specs.declared.units.Order.{Order}
use Rattle.elk_layers.specs.declared.units.Lines.{Lines}
use Rattle.elk_layers.specs.Layered.{Plain, AreRows, IsSound, plain, rows_of, total_height, unit_at}
use Rattle.elk_layers.specs.Lines.{top_of}
use Rattle.unit_blocks.specs.Constraints.{EndsWithinStack, greatest_spacing, stacked_height}
use Rattle.ns_place.specs.Heights.{pins_together}
use Rattle.level_model.specs.declared.level.LevelIn.{LevelIn}
use Rattle.level_model.specs.Conditions.{IsLevel, plain_level, plain_plan}
use Rattle.level_model.specs.Level.{Orders, PlainLevel}
use Rattle.level_model.specs.Units.{AreLinked}
use Rattle.level_layout.specs.Certificate.{IsCertificateOf}
use Rattle.layer_units.specs.Alike.{AreAlike, LanesStay}
use Rattle.layer_units.specs.Fitted.{AreFitted, AreKept}
use Rattle.layer_units.specs.Layering.{IsLayerCount}
use Rattle.level_draw.specs.declared.drawing.LevelOut.{LevelOut}
use Rattle.level_draw.specs.Drawing.{IsDrawable, IsDrawn, IsMadeFrom, plan_from}
use Rattle.layer_units.specs.Laws.{MakeUnits}
use Rattle.level_layout.specs.Bounds.{AreFew}
use Rattle.level_layout.proofs.LayerLemmas.{layers_from}
use Rattle.level_layout.proofs.LinkLemmas.{links_few}
use Rattle.level_layout.proofs.PinLemmas.{pins_low}
use Rattle.level_layout.specs.Chosen.{AreChosenLines, AreChosenRows, straightness_for}
use Rattle.level_layout.specs.Phases.{AreNumberedAs, AreRankedUnits, IsStart}
use Rattle.level_layout.specs.Layout.{IsLaidOut, IsLayout}
use Rattle.level_layout.proofs.KeptRows.{chosen_for, filter_equal}

-- ---- how far down units reach

pub stack_low : (s : ℤ) (us : List LayerUnit) → s ≤ℤ pos (2 ^ 20) → stacked_height s us ≤ℤ (total_height us +ℤ pos (length us * 2 ^ 20))
stack_low s [] h = omega (arith, ints)
stack_low s (u ∷ us) h = let rest = stack_low s us h in more u.height s (stacked_height s us) (total_height us) (length us) h rest
  where
    more : (a s b t : ℤ) (n : ℕ) → s ≤ℤ pos (2 ^ 20) → b ≤ℤ (t +ℤ pos (n * 2 ^ 20)) → (a +ℤ s +ℤ b) ≤ℤ ((a +ℤ t) +ℤ pos (suc n * 2 ^ 20))
    more a s b t n h k = omega (arith, ints, h, k)

pub spacing_low : (l : Plain) → IsSound l → greatest_spacing l ≤ℤ pos (2 ^ 20)
spacing_low l sound = low l.node_node l.edge_node l.edge_edge sound.node_node_is.high sound.edge_node_is.high sound.edge_edge_is.high
  where
    low : (a b c : ℤ) → a ≤ℤ pos (2 ^ 20) → b ≤ℤ pos (2 ^ 20) → c ≤ℤ pos (2 ^ 20) → int_max (int_max a b) c ≤ℤ pos (2 ^ 20)
    low a b c h k m = omega (arith, ints, clamps, h, k, m)

bottom_low : (l : Plain) (tops : List ℤ) → IsSound l → total_height l.units ≤ℤ pos (3 * 2 ^ 47) → EndsWithinStack l tops
    → (u : ℕ) → u < length l.units → (top_of tops u +ℤ (unit_at l.units u).height) <ℤ pos (2 ^ 49)
bottom_low l tops sound low ends u h =
    small _ _ _ (length l.units) (ends u h) (stack_low (greatest_spacing l) l.units (spacing_low l sound)) low sound.few_units
  where
    small : (a b t : ℤ) (n : ℕ) → a ≤ℤ b → b ≤ℤ (t +ℤ pos (n * 2 ^ 20)) → t ≤ℤ pos (3 * 2 ^ 47) → n ≤ 2 ^ 24 → a <ℤ pos (2 ^ 49)
    small a b t n h k m few = omega (arith, ints, h, k, m, few)

-- ---- the plan

-- what is known of units with heights and pins
pub record ArePinned (l : PlainLevel) (u v : Layered) (order : Order) (rs : List ℕ) : Type 0 where
  pub fitted : (o : Orders) × ((layers : List ℕ) (tops : List ℤ) → AreLinked l (plain_plan u order [] rs) layers → AreFitted l (plain_plan v order tops rs) o layers)
  pub sound : IsSound (plain v)
  pub low : total_height (plain v).units ≤ℤ pos (3 * 2 ^ 47)
  pub rows : AreRows (plain v) (rows_of order)
  pub kept : AreKept (plain u) (plain v)

pub drawable : (l : PlainLevel) (c : Certificate) (u v : Layered) (order : Order) (lines : Lines) (placing : Placing) (fixed : Option Sweep) (straightness : ℕ) → MakeUnits → IsLevel l → IsCertificateOf l c → AreRankedUnits l c u
    → ArePinned l u v order c.reversed → AreChosenLines (plain v) (rows_of order) placing fixed straightness lines.top.items → IsDrawable l (plan_from c v order lines) c.layers
drawable l c u v order lines placing fixed straightness made level is ranked pinned placed =
    record {
      orders = pinned.fitted.0;
      layering = layers_from l c level is;
      ready = record {
        level = level;
        units = made.units l (plan_from c v order lines) pinned.fitted.0 c.layers (pinned.fitted.1 c.layers lines.top.items (ranked.linked (rows_of order) []))
            (made.kept l (plain u) (plain v) c.reversed pinned.kept ranked.ranked);
        sound = pinned.sound;
        rows = pinned.rows;
        apart = placed.apart;
        layers_are = refl;
      };
      layer_count = subst (IsLayerCount c.layers) (sym pinned.kept.alike.layers_are) ranked.layers;
      bottoms = bottom_low (plain v) lines.top.items pinned.sound pinned.low placed.within;
    }

-- ---- what holds of the layout

alike_through : (a b c : Plain) → AreAlike a b → AreAlike b c → AreAlike a c
alike_through a b c h k =
    record {
      layers_are = k.layers_are ∙ h.layers_are;
      as_many_units = k.as_many_units ∙ h.as_many_units;
      as_many_links = k.as_many_links ∙ h.as_many_links;
      layer_is = λ u. k.layer_is u ∙ h.layer_is u;
      child_is = λ u. k.child_is u ∙ h.child_is u;
      edge_is = λ m. k.edge_is m ∙ h.edge_is m;
      tail_is = λ m. k.tail_is m ∙ h.tail_is m;
      head_is = λ m. k.head_is m ∙ h.head_is m;
    }

lanes_through : (a b c : Plain) → AreAlike a b → LanesStay a b → LanesStay b c → LanesStay a c
lanes_through a b c alike h k u none = k u (alike.child_is u ∙ none) ∙ h u none

numbered_through : (l : PlainLevel) (c : Certificate) (u v : Layered) → AreRankedUnits l c u → AreKept (plain u) (plain v) → AreNumberedAs l c (plain v)
numbered_through l c u v ranked kept =
    let n = ranked.numbered in
    (n.0, n.1, alike_through n.0 (plain u) (plain v) n.2 kept.alike, lanes_through n.0 (plain u) (plain v) n.2 n.3 kept.lanes)

-- rows that begin in the order of numbers do so for all units of the same layers
start_alike : (a b : Plain) (rows : List (List ℕ)) → AreAlike a b → IsStart a rows → IsStart b rows
start_alike a b rows h s =
    record {
      as_many = s.as_many ∙ sym h.layers_are;
      each = λ r less.
          s.each r (let same = h.layers_are in omega (arith, same, less))
          ∙ filter_equal (λ u. (unit_at a.units u).layer == r) (λ u. (unit_at b.units u).layer == r) (λ u. ap (λ n. n == r) (sym (h.layer_is u))) (range_with_len 0 (length a.units))
          ∙ ap (λ n. filter (λ u. (unit_at b.units u).layer == r) (range_with_len 0 n)) (sym h.as_many_units);
    }

-- the layout as it was made is the one of the answer
as_answered : (level : LevelIn) (c : Certificate) (v : Layered) (start order : Order) (lines : Lines) (w : LevelOut) → IsMadeFrom c v start order lines w → IsLayout level c v start order lines w → IsLaidOut level w
as_answered level c v start order lines w from is =
    subst (λ x. IsLayout level x w.plan.layered w.plan.start w.plan.order w.plan.lines w) (sym from.certificate_is)
    (subst (λ x. IsLayout level c x w.plan.start w.plan.order w.plan.lines w) (sym from.layered_is)
    (subst (λ x. IsLayout level c v x w.plan.order w.plan.lines w) (sym from.start_is)
    (subst (λ x. IsLayout level c v start x w.plan.lines w) (sym from.order_is)
    (subst (λ x. IsLayout level c v start order x w) (sym from.lines_are) is))))

pub laid_out : (level : LevelIn) (c : Certificate) (u v : Layered) (start order : Order) (lines : Lines) (w : LevelOut) → MakeUnits → IsLevel (plain_level level) → IsCertificateOf (plain_level level) c
    → AreRankedUnits (plain_level level) c u → IsStart (plain u) (rows_of start) → AreChosenRows (plain_level level) (plain u) (rows_of start) (rows_of order) → ArePinned (plain_level level) u v order c.reversed
    → AreChosenLines (plain v) (rows_of order) level.placing level.fixed (straightness_for level) lines.top.items → IsMadeFrom c v start order lines w → IsDrawn (plain_level level) (plan_from c v order lines) c.layers w → IsLaidOut level w
laid_out level c u v start order lines w made sound is ranked started ordered pinned placed from drawn =
    let can = drawable (plain_level level) c u v order lines level.placing level.fixed (straightness_for level) made sound is ranked pinned placed in
    as_answered level c v start order lines w from
    (record {
      certificate = is;
      numbered = numbered_through (plain_level level) c u v ranked pinned.kept;
      layers = can.layer_count;
      started = start_alike (plain u) (plain v) (rows_of start) pinned.kept.alike started;
      ordered = chosen_for (plain u) (plain v) pinned.kept (plain_level level) (rows_of start) (rows_of order) ordered;
      placed = placed;
      orders = can.orders;
      ready = can.ready;
      drawn = drawn;
    })

-- ---- how many units and links there are, and how far down their pins lie

pub units_few : (l : PlainLevel) (c : Certificate) (u v : Layered) → IsLevel l → IsCertificateOf l c → AreRankedUnits l c u → AreKept (plain u) (plain v) → AreFew (plain v)
units_few l c u v level is ranked kept =
    let numbered = numbered_through l c u v ranked kept in
    links_few l c numbered.0 (plain v) level is numbered.1 numbered.2

pub pins_small : (l : PlainLevel) (c : Certificate) (u v : Layered) → IsLevel l → AreRankedUnits l c u → AreKept (plain u) (plain v) → IsSound (plain v) → total_height (plain v).units ≤ℤ pos (3 * 2 ^ 47)
    → (total_height (plain v).units +ℤ pins_together (plain v).links) <ℤ pos (2 ^ 60)
pins_small l c u v level ranked kept sound low =
    let numbered = numbered_through l c u v ranked kept in
    pins_low l c.reversed c.layers numbered.0 (plain v) level numbered.1 numbered.2 sound low

-- ---- with the list of reversed edges as it is handed on

pub pinned_by : (l : PlainLevel) (c : Certificate) (u v : Layered) (order : Order) (rs : List ℕ) → rs ≡ c.reversed
    → (o : Orders) × ((layers : List ℕ) (tops : List ℤ) → AreLinked l (plain_plan u order [] rs) layers → AreFitted l (plain_plan v order tops rs) o layers)
    → IsSound (plain v) → total_height (plain v).units ≤ℤ pos (3 * 2 ^ 47) → AreRows (plain v) (rows_of order) → AreKept (plain u) (plain v) → ArePinned l u v order c.reversed
pinned_by l c u v order rs e fitted sound low rows kept =
    subst (ArePinned l u v order) e (record { fitted = fitted; sound = sound; low = low; rows = rows; kept = kept })

-- an answer that may want memory
pub if_both : {X : Type 0} (r : Result X AllocError) (P Q T : X → Type 0) → IfOk r P → IfOk r Q → ((x : X) → P x → Q x → T x) → IfOk r T
if_both (Ok x) P Q T p q all = all x p q
if_both (Err e) P Q T p q all = p
