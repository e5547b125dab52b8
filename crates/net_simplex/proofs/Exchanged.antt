-- The code's cut values after an exchange.
use Rattle.std.proofs.Common.{◌≡◌, ◌≢◌, ℕ, ◌<◌, ◌^◌, Bool, true, false, ℤ, pos, ◌+ℤ◌, ◌-ℤ◌, List, length, set, arith, sym, ap, subst, ◌∙◌, inl, inr}
use Rattle.std.specs.List.{sum_by}
use Rattle.std.proofs.lemmas.Int.{ints}
use Rattle.std.proofs.lemmas.Bool.{cases_eq}
use Rattle.std.proofs.lemmas.List.{get_or-set_same, get_or-set_other, length-set}
use Rattle.network_laws.specs.declared.network.NetEdge.{NetEdge}
use Rattle.network_laws.specs.Network.{edge_at, EndsBelow}
use Rattle.network_laws.specs.Layering.{layer_of}
use Rattle.network_laws.specs.Linked.{is_marked}
use Rattle.net_simplex.specs.Tree.{IsSpanningTree, tail_part, cut_value}
use Rattle.net_simplex.specs.Cuts.{size_of, AreCutValues}
use Rattle.net_simplex.specs.Changed.{gained}
use Rattle.net_simplex.proofs.CutSums.{cut_small}
use Rattle.net_simplex.proofs.Cutting.{tail_parts_cut}
use Rattle.net_simplex.proofs.Exchanging.{old_mark}
use Rattle.net_simplex.proofs.Changing.{value_in, value_kept}

module _ (nodes : ℕ) (edges : List NetEdge) (tree : List Bool) (ends : EndsBelow nodes edges) (t : IsSpanningTree nodes edges tree) (cut : List ℤ) (values : AreCutValues nodes edges tree cut) (weights : sum_by (λ (e : NetEdge). e.weight) edges < 2 ^ 62) where
  pub value_small : (k : ℕ) → k < length edges → is_marked tree k ≡ true → size_of (layer_of cut k) < 2 ^ 62
  value_small k l m =
      let e = ap size_of (values.1 k l m) in
      let s = cut_small (tail_part nodes edges tree k) edges in
      omega (arith, e, s, weights)

  module _ (out by : ℕ) (lo : out < length edges) (mo : is_marked tree out ≡ true) (lb : by < length edges) (from : tail_part nodes edges tree out (edge_at edges by).tail ≡ false) (to : tail_part nodes edges tree out (edge_at edges by).head ≡ true) where
    abbrev after : List Bool
    after = set (set tree out false) by true

    module _ (cut' : List ℤ) (n : length cut' ≡ length edges) (gains : (k : ℕ) → k < length edges → is_marked tree k ≡ true → layer_of cut' k ≡ layer_of cut k +ℤ gained (tail_part nodes edges tree k) (edge_at edges by).tail (edge_at edges by).head (layer_of cut out)) (z : ℤ) (is : z ≡ pos 0 -ℤ layer_of cut out) where
      in_value : is_marked after by ≡ true → layer_of (set cut' by z) by ≡ cut_value nodes edges after by
      in_value m =
          let a = get_or-set_same cut' by z (pos 0) (omega (arith, n, lb)) in
          let v = value_in nodes edges tree ends t out by lo lb mo from to m in
          let o = values.1 out lo mo in
          omega (arith, ints, a, v, o, is)

      other_value : (k : ℕ) → k < length edges → k ≢ by → is_marked after k ≡ true → layer_of (set cut' by z) k ≡ cut_value nodes edges after k
      other_value k l ne m =
          let was = old_mark nodes edges tree ends t out by (tail_part nodes edges tree out) lo lb mo (tail_parts_cut nodes edges tree out ends t lo mo) from to k ne m in
          let a = get_or-set_other cut' by k z (pos 0) ne in
          let g = gains k l was in
          let o = values.1 out lo mo in
          let e = ap (gained (tail_part nodes edges tree k) (edge_at edges by).tail (edge_at edges by).head) o in
          let v = value_kept nodes edges tree ends t out by lo lb mo from to k l ne m in
          let w = values.1 k l was in
          a ∙ (g ∙ (ap (λ x. x +ℤ gained (tail_part nodes edges tree k) (edge_at edges by).tail (edge_at edges by).head (layer_of cut out)) w ∙ (ap (λ x. cut_value nodes edges tree k +ℤ x) e ∙ sym v)))

      pub values_after : AreCutValues nodes edges after (set cut' by z)
      values_after = (
        length-set cut' by z ∙ n,
        λ k l m. elim (cases_eq k by) [
          | inl e ↦ subst (λ j. layer_of (set cut' by z) j ≡ cut_value nodes edges after j) (sym e) (in_value (subst (λ j. is_marked after j ≡ true) e m))
          | inr ne ↦ other_value k l ne m
        ],
      )
