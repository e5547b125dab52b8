-- What each port and each end owes follows from PortsKept.
use Rattle.std.proofs.Common.{◌≡◌, ◌≢◌, ℕ, ◌<◌, Bool, eq-eqb, true, false, Option, Some, None, IsSome, unwrap_or, length, arith, refl, sym, ap, ◌∙◌, inl, inr, subst, IsTrue}
use Rattle.std.proofs.lemmas.Bool.{eqb-true}
use Rattle.elk_doc.specs.declared.document.End.TheVariants.{Node as AtNode}
use Rattle.elk_doc.specs.declared.drawing.Placed.{Placed}
use Rattle.elk_doc.specs.Document.{Document, node_at, node_of_port, parent_of}
use Rattle.elk_doc.specs.Level.{IsChild, IsEdge, is_number, level_of_edge}
use Rattle.elk_doc.specs.PortsKept.{KeepsPorts, PortsKept, Spot, a_port, an_end}
use Rattle.elk_doc.specs.Sides.{end_of}
use Rattle.elk_doc.specs.Sound.{IsSound, IsEndIn}
use Rattle.layout_check.specs.FirstPorts.{CountsWith, EndKept, EndsHold, FaultBreaksPorts, PortHolds, PortPair, SpotsDiffer}
use Rattle.layout_check.proofs.LevelLaws.{below_root, level_at_end}
use Rattle.layout_check.proofs.SpotLaws.{node_at_end}

number_there : (o : Option ℕ) (n : ℕ) → IsSome o → unwrap_or o 0 ≡ n → IsTrue (is_number o n)
number_there None n some e = absurd cc
number_there (Some m) n some e = eq-eqb m n e

end_in : (d : Document) (e : ℕ) (t : Bool) → IsSound d → e < length d.edges → IsEndIn d (end_of d e t)
end_in d e true sound l = (sound.edges e l).source_in
end_in d e false sound l = (sound.edges e l).target_in

-- an end of an edge of n's level stands at a child of n
child_at_end : (d : Document) (n m e : ℕ) (t : Bool) → IsSound d → IsEdge d n e → end_of d e t ≡ AtNode m → IsChild d n m
child_at_end d n m e t sound edge at =
    let l = edge.edge_in in
    let node = node_at_end d e t m at in
    let inside : m < length d.nodes = subst (IsEndIn d) at (end_in d e t sound l) in
    let low : 0 < m = subst (λ k. 0 < k) node (below_root d e t sound l) in
    let level : level_of_edge d e ≡ n = eqb-true _ _ edge.edge in
    let above : parent_of d m ≡ n = ap (parent_of d) (sym node) ∙ sym (level_at_end d e t sound l) ∙ level in
    record { node_in = inside; child = number_there (node_at d m).parent n (sound.tree.parents m low inside).parent above }

other_port : (j k : ℕ) → j < k → a_port j ≢ a_port k
other_port j k l e =
    let same : j ≡ k = cc in
    absurd (omega (arith, l, same))

other_edge : (f e : ℕ) (t u : Bool) → f < e → an_end f t ≢ an_end e u
other_edge f e t u l same =
    let one : f ≡ e = cc in
    absurd (omega (arith, l, one))

other_side : (e : ℕ) (t u : Bool) → t ≢ u → an_end e t ≢ an_end e u
other_side e t u differ same =
    let one : t ≡ u = cc in
    differ one

module _ (d : Document) (p : Placed) (m : ℕ) (keeps : KeepsPorts d p m) where
  spots_right : (x y : Spot) → x ≢ y → SpotsDiffer d p m x y
  spots_right x y differ s roomy sx sy = keeps.spread s x y roomy sx sy differ

  pair_right : (j k : ℕ) → j < k → k < length d.ports → node_of_port d j ≡ m → node_of_port d k ≡ m → PortPair d p m j k
  pair_right j k below l at_j at_k =
      let lj : j < length d.ports = omega (arith, below, l) in
      record {
        forth = λ rule side before. keeps.order rule j k lj l at_j at_k side before;
        back = λ rule side before. keeps.order rule k j l lj at_k at_j side before;
        differ = spots_right (a_port j) (a_port k) (other_port j k below);
      }

  end_right : (e : ℕ) (t : Bool) → e < length d.edges → end_of d e t ≡ AtNode m → EndKept d p m e t
  end_right e t l at =
      record {
        alone = keeps.ends e t l at;
        apart =
            record {
              ports = λ k _ _. spots_right (a_port k) (an_end e t) (λ same. absurd cc);
              lower = λ f u below. spots_right (an_end f u) (an_end e t) (other_edge f e u t below);
              other = λ u differ. spots_right (an_end e u) (an_end e t) (other_side e u t differ);
            };
      }

counted_right : (d : Document) (p : Placed) (n m : ℕ) → PortsKept d p n → CountsWith d n m → KeepsPorts d p m
counted_right d p n m kept (inl child) = kept.children m child
counted_right d p n m kept (inr both) = subst (KeepsPorts d p) (sym both.1) (kept.root both.0)

ports_right : (d : Document) (p : Placed) (n : ℕ) → PortsKept d p n → (k : ℕ) → PortHolds d p n k
ports_right d p n kept k l counts =
    let m = node_of_port d k in
    let keeps = counted_right d p n m kept counts in
    record {
      alone = keeps.ports k l refl;
      lower = λ j below same. pair_right d p m keeps j k below l same refl;
    }

ends_right : (d : Document) (p : Placed) (n : ℕ) → IsSound d → PortsKept d p n → (e : ℕ) → EndsHold d p n e
ends_right d p n sound kept e edge m t at =
    let keeps = kept.children m (child_at_end d n m e t sound edge at) in
    end_right d p m keeps e t edge.edge_in at

pub fault_breaks : FaultBreaksPorts
fault_breaks d p n x sound (inl (k, _, first)) kept = first.fails (ports_right d p n kept k)
fault_breaks d p n x sound (inr (_, (e, _, first))) kept = first.fails (ends_right d p n sound kept e)
