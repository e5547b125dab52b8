-- A table that is made before places are known belongs to the plan.
use Rattle.std.proofs.Common.{◌≡◌, ⊎_elim, ℕ, ◌≤◌, Bool, List, [], length, inl, inr, subst, sym, ℤ}
use Rattle.level_model.specs.declared.table.Table.{Table}
use Rattle.level_model.specs.Level.{PlainLevel, PlainPlan, Orders}
use Rattle.level_model.specs.Marks.{AreMarks}
use Rattle.level_model.specs.Table.{IsTable}
use Rattle.level_model.specs.Units.{AreLinked, AreOrders, HasChain, IsLaneUnit, IsLinkOf, IsUnitOf}
use Rattle.level_model.specs.Ready.{IsReady}
use Rattle.dock_table.specs.Bounds.{AreNumbersIn}
use Rattle.dock_table.specs.Courses.{ReversedAreMarked}
use Rattle.dock_table.specs.Tops.{with_tops}
use Rattle.layer_units.specs.Tabled.{IsTableOf}
use Rattle.level_nets.specs.Parts.{IsGiven, Parts, plan_of}
use Rattle.layer_units.proofs.LayerLemmas.{few_counted}
use Rattle.level_draw.specs.Drawing.{IsDrawable}
use Rattle.dock_table.proofs.TopLemmas.{no_tops}
use Rattle.dock_table.proofs.AgreeingLemmas.{need_no_orders}

module _ (l : PlainLevel) (p : PlainPlan) (tops : List ℤ) where
  unit_kept : (layer c : ℕ) → IsUnitOf p layer c → IsUnitOf (with_tops p tops) layer c
  unit_kept layer c h = record { in_range = h.in_range; child = h.child; alone = h.alone; layer_is = h.layer_is }

  lane_kept : (u : ℕ) → IsLaneUnit p u → IsLaneUnit (with_tops p tops) u
  lane_kept u h = record { no_child = h.no_child; flat = h.flat; entered = h.entered; once = h.once }

  chain_kept : (e : ℕ) → HasChain l p e → HasChain l (with_tops p tops) e
  chain_kept e h =
      record {
        long = h.long;
        some = h.some;
        from = h.from;
        to = h.to;
        joined = h.joined;
        lanes = λ i k. lane_kept _ (h.lanes i k);
      }

  link_kept : (k : ℕ) → IsLinkOf l p k → IsLinkOf l (with_tops p tops) k
  link_kept k h = record { edge_in = h.edge_in; no_loop = h.no_loop }

  -- units and links stay what they are, wherever units stand
  linked_kept : (layers : List ℕ) → AreLinked l p layers → AreLinked l (with_tops p tops) layers
  linked_kept layers h =
      record {
        children = λ c k. unit_kept _ c (h.children c k);
        units = λ u k. ⊎_elim (λ lane. inl (lane_kept u lane)) (λ child. inr child) (h.units u k);
        chains = λ e k no_loop. chain_kept e (h.chains e k no_loop);
        links = λ k m. link_kept k (h.links k m);
      }

-- marks are those of a list, whatever it, their number and they themselves are read from
pub marked : (given rs : List ℕ) (count n : ℕ) (made ms : List Bool) → given ≡ rs → count ≡ n → ms ≡ made → AreMarks given count made → AreMarks rs n ms
marked given rs count n made ms e f g h = subst (λ (xs : List ℕ). AreMarks xs n ms) e (subst (λ k. AreMarks given k ms) f (subst (λ (bs : List Bool). AreMarks given count bs) (sym g) h))

-- a plan that can be drawn turns the marked edges round, wherever units stand
pub turns : (l : PlainLevel) (p : PlainPlan) (layers : List ℕ) (marks : List Bool) → IsDrawable l p layers → AreMarks p.reversed (length l.edges) marks → ReversedAreMarked l marks (with_tops p [])
turns l p layers marks can are = record { marks = are; layers = layers; linked = linked_kept l p [] layers can.ready.units.linked }

-- a table that was made before places are known belongs to the plan
pub tabled : (l : PlainLevel) (p : PlainPlan) (q : Orders) (t : Table) → AreOrders l (with_tops p []) q → IsTable l (with_tops p []) q t → AreNumbersIn t → IsTableOf l p t
tabled l p q t orders table numbers =
    record {
      orders = q;
      are_orders = no_tops.orders l (with_tops p []) q p.tops orders;
      table = no_tops.table l (with_tops p []) q p.tops t table;
      numbers = numbers;
    }

-- it is one for any orders of the level's sides
pub table_fits : (l : PlainLevel) (p : PlainPlan) (o : Orders) (layers : List ℕ) (t : Table) → IsReady l p o layers → IsTableOf l p t → IsTable l p o t
table_fits l p o layers t ready of = need_no_orders l p of.orders o t ready.level of.are_orders ready.units.orders of.table

-- a plan has no layer but those that are listed, and these are below 2,048
pub few_layers : (l : PlainLevel) (p : PlainPlan) (layers : List ℕ) → IsDrawable l p layers → p.layers ≤ 2048
few_layers l p layers drawable = few_counted l p.reversed layers p.layers drawable.layering drawable.layer_count

-- so the level is one whose gaps and routes are wanted
pub is_given : (s : Parts) (rows : List (List ℕ)) (layers : List ℕ) → IsDrawable s.level (plan_of s rows) layers → IsTableOf s.level (plan_of s rows) s.table → IsGiven s
is_given s rows layers drawable of =
    record {
      few_layers = few_layers s.level (plan_of s rows) layers drawable;
      bottoms = drawable.bottoms;
      plan = record {
        rows = rows;
        orders = drawable.orders;
        layers = layers;
        planned = record { ready = drawable.ready; table = table_fits s.level (plan_of s rows) drawable.orders layers s.table drawable.ready of };
      };
    }
