-- Ports and ends of a level that are kept one by one.
use Rattle.std.proofs.Common.{◌≡◌, ◌≢◌, ℕ, ◌<◌, Bool, true, false, ℤ, ◌≤ℤ◌, eq-eqb, Option, Some, None, unwrap_or, length, arith, refl, sym, ap, ◌∙◌, inl, inr, subst, IsTrue}
use Rattle.std.proofs.lemmas.Bool.{cases_order, and_parts, eqb-true}
use Rattle.std.proofs.lemmas.Int.{ints}
use Rattle.drawing_types.specs.declared.shape.Side.{Side}
use Rattle.elk_doc.specs.declared.document.PortRule.TheVariants.{FixedOrder}
use Rattle.elk_doc.specs.declared.document.End.TheVariants.{Node as AtNode}
use Rattle.elk_doc.specs.declared.drawing.Placed.{Placed}
use Rattle.elk_doc.specs.Document.{Document, node_at, node_of_port, parent_of}
use Rattle.elk_doc.specs.Level.{IsEdge, is_number, level_of_edge}
use Rattle.elk_doc.specs.PortsKept.{IsSpread, KeepsOrder, KeepsPorts, PortsKept, Spot, a_port, an_end, clockwise, port_offset}
use Rattle.elk_doc.specs.Sides.{end_node, end_of, side_of_port}
use Rattle.elk_doc.specs.Sound.{IsSound}
use Rattle.layout_check.specs.FirstPorts.{CountsWith, EndKept, EndsHold, PortHolds, PortKept, PortPair, SpotsDiffer}
use Rattle.layout_check.proofs.SpotLaws.{at_node, node_at_end}

no_more : (z : ℤ) → z ≤ℤ z
no_more z = omega (arith, ints)

parent_number : (o : Option ℕ) (n : ℕ) → IsTrue (is_number o n) → unwrap_or o 0 ≡ n
parent_number None n h = absurd cc
parent_number (Some m) n h = eqb-true m n h

-- an end at a child of n is one of an edge of n's level; no end stands at the root
pub below_root : (d : Document) (e : ℕ) (t : Bool) → IsSound d → e < length d.edges → 0 < end_node d e t
below_root d e true sound l = (sound.edges e l).source_below
below_root d e false sound l = (sound.edges e l).target_below

pub level_at_end : (d : Document) (e : ℕ) (t : Bool) → IsSound d → e < length d.edges → level_of_edge d e ≡ parent_of d (end_node d e t)
level_at_end d e true sound l = refl
level_at_end d e false sound l = (sound.edges e l).siblings

pub edge_at_end : (d : Document) (n m e : ℕ) (t : Bool) → IsSound d → CountsWith d n m → e < length d.edges → end_of d e t ≡ AtNode m → IsEdge d n e
edge_at_end d n m e t sound (inl child) l at =
    let node = node_at_end d e t m at in
    let above : parent_of d m ≡ n = parent_number (node_at d m).parent n child.child in
    record { edge_in = l; edge = eq-eqb _ _ (level_at_end d e t sound l ∙ ap (parent_of d) node ∙ above) }
edge_at_end d n m e t sound (inr root) l at =
    let node = node_at_end d e t m at in
    let low = below_root d e t sound l in
    absurd (omega (arith, node, root.1, low))

-- an end and another that is not the same
other_end : (t u : Bool) → (t ≡ u → ⊥) → t ≢ u
other_end t u h = h

swap_differ : (d : Document) (p : Placed) (m : ℕ) (x y : Spot) → SpotsDiffer d p m x y → SpotsDiffer d p m y x
swap_differ d p m x y h = λ s wide sy sx same. h s wide sx sy (sym same)

module _ (d : Document) (p : Placed) (n : ℕ) (sound : IsSound d) (ports : (k : ℕ) → PortHolds d p n k) (ends : (e : ℕ) → EndsHold d p n e) (m : ℕ) (counts : CountsWith d n m) where
  port_kept : (k : ℕ) → k < length d.ports → node_of_port d k ≡ m → PortKept d p k
  port_kept k l at = ports k l (subst (CountsWith d n) (sym at) counts)

  pair_kept : (j k : ℕ) → j < k → k < length d.ports → node_of_port d j ≡ m → node_of_port d k ≡ m → PortPair d p m j k
  pair_kept j k below l at_j at_k =
      subst (λ x. PortPair d p x j k) at_k ((port_kept k l at_k).lower j below (at_j ∙ sym at_k))

  end_kept : (e : ℕ) (t : Bool) → e < length d.edges → end_of d e t ≡ AtNode m → EndKept d p m e t
  end_kept e t l at = ends e (edge_at_end d n m e t sound counts l at) m t at

  order_kept : (node_at d m).rule ≡ FixedOrder → KeepsOrder d p m
  order_kept rule j k lj lk at_j at_k side before =
      elim (cases_order j k) [
        | inl e ↦ subst (λ x. clockwise (side_of_port d p j) (port_offset d p j) ≤ℤ clockwise (side_of_port d p x) (port_offset d p x)) e (no_more (clockwise (side_of_port d p j) (port_offset d p j)))
        | inr (inl l) ↦ (pair_kept j k l lk at_j at_k).forth rule side before
        | inr (inr l) ↦ (pair_kept k j l lj at_k at_j).back rule side before
      ]

  port_at_node : (s : Side) (k : ℕ) → IsSpread d p m s (a_port k) → node_of_port d k ≡ m
  port_at_node s k h = eqb-true _ _ (and_parts _ _ h.1).0

  end_at_node : (s : Side) (e : ℕ) (t : Bool) → IsSpread d p m s (an_end e t) → end_of d e t ≡ AtNode m
  end_at_node s e t h = at_node _ m (and_parts _ _ h.1).0

  spots_differ : (s : Side) (x y : Spot) → IsSpread d p m s x → IsSpread d p m s y → x ≢ y → SpotsDiffer d p m x y
  spots_differ s (a_port j) (a_port k) sx sy other =
      let at_j = port_at_node s j sx in
      let at_k = port_at_node s k sy in
      elim (cases_order j k) [
        | inl e ↦ absurd (other (ap a_port e))
        | inr (inl l) ↦ (pair_kept j k l sy.0 at_j at_k).differ
        | inr (inr l) ↦ swap_differ d p m (a_port k) (a_port j) (pair_kept k j l sx.0 at_k at_j).differ
      ]
  spots_differ s (a_port j) (an_end e t) sx sy other =
      (end_kept e t sy.0 (end_at_node s e t sy)).apart.ports j sx.0 (port_at_node s j sx)
  spots_differ s (an_end e t) (a_port k) sx sy other =
      swap_differ d p m (a_port k) (an_end e t) ((end_kept e t sx.0 (end_at_node s e t sx)).apart.ports k sy.0 (port_at_node s k sy))
  spots_differ s (an_end e t) (an_end f u) sx sy other =
      let kept_e = end_kept e t sx.0 (end_at_node s e t sx) in
      let kept_f = end_kept f u sy.0 (end_at_node s f u sy) in
      elim (cases_order e f) [
        | inl same ↦
            let differ : t ≢ u = λ both. other (ap (λ x. an_end x t) same ∙ ap (an_end f) both) in
            subst (λ x. SpotsDiffer d p m (an_end x t) (an_end f u)) (sym same) (kept_f.apart.other t differ)
        | inr (inl l) ↦ kept_f.apart.lower e t l
        | inr (inr l) ↦ swap_differ d p m (an_end f u) (an_end e t) (kept_e.apart.lower f u l)
      ]

  pub keeps_ports : KeepsPorts d p m
  keeps_ports =
      record {
        ports = λ k l at. (port_kept k l at).alone;
        ends = λ e t l at. (end_kept e t l at).alone;
        order = order_kept;
        spread = λ s x y wide sx sy other. spots_differ s x y sx sy other s wide sx sy;
      }

-- all that both sentences say, together
pub kept_by_sentences : (d : Document) (p : Placed) (n : ℕ) → IsSound d → ((k : ℕ) → PortHolds d p n k) → ((e : ℕ) → EndsHold d p n e) → PortsKept d p n
kept_by_sentences d p n sound ports ends =
    record {
      children = λ m child. keeps_ports d p n sound ports ends m (inl child);
      root = λ e. keeps_ports d p n sound ports ends 0 (inr (e, refl));
    }
