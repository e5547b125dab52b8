-- Ranks hold after heights and pins are known, and with these they make a level's units.
use Rattle.std.proofs.Common.{ℕ, List, sym, ◌∙◌, arith}
use Rattle.elk_layers.specs.Layered.{Plain}
use Rattle.level_model.specs.Level.{Orders, PlainLevel, PlainPlan}
use Rattle.level_model.specs.Units.{AreUnits}
use Rattle.layer_units.specs.Alike.{AreAlike}
use Rattle.layer_units.specs.Fitted.{AreFitted, AreKept}
use Rattle.layer_units.proofs.AlikeLemmas.{no_heights}
use Rattle.layer_units.specs.Laws.{MakeUnits}
use Rattle.layer_units.specs.Ranked.{AreRanked, plan_of}

pub alike_back : (a b : Plain) → AreAlike a b → AreAlike b a
alike_back a b h =
    record {
      layers_are = sym h.layers_are;
      as_many_units = sym h.as_many_units;
      as_many_links = sym h.as_many_links;
      layer_is = λ u. sym (h.layer_is u);
      child_is = λ u. sym (h.child_is u);
      edge_is = λ k. sym (h.edge_is k);
      tail_is = λ k. sym (h.tail_is k);
      head_is = λ k. sym (h.head_is k);
    }

kept : (l : PlainLevel) (a b : Plain) (reversed : List ℕ) → AreKept a b → AreRanked l a reversed → AreRanked l b reversed
kept l a b reversed h ranked rows tops o k are less =
    let many = h.alike.as_many_links in
    let before = ranked rows tops o k (no_heights.orders l (plan_of b rows tops reversed) a tops o (alike_back a b h.alike) are) (omega (arith, less, many)) in
    record {
      tail = h.tail_rank_is k ∙ before.tail ∙ sym (no_heights.tail_rank_is l (plan_of a rows tops reversed) b tops o k h.alike);
      head = h.head_rank_is k ∙ before.head ∙ sym (no_heights.head_rank_is l (plan_of a rows tops reversed) b tops o k h.alike);
    }

units : (l : PlainLevel) (p : PlainPlan) (o : Orders) (layers : List ℕ) → AreFitted l p o layers → AreRanked l p.layered p.reversed → AreUnits l p o layers
units l p o layers h ranked =
    record {
      orders = h.orders;
      linked = h.linked;
      rooms = h.rooms;
      pins = λ k less. record {
        tail_at = h.tails k less;
        head_at = h.heads k less;
        tail_rank_is = (ranked p.rows p.tops o k h.orders less).tail;
        head_rank_is = (ranked p.rows p.tops o k h.orders less).head;
      };
      node_node = h.node_node;
      edge_node = h.edge_node;
      edge_edge = h.edge_edge;
    }

pub make_units : MakeUnits
make_units = record { kept = kept; units = units }
