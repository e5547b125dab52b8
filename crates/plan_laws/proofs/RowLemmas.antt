-- The units of one layer stand one above the other, and no unit is that of two children.
use Rattle.std.proofs.Common.{◌≡◌, inl, inr, ℕ, zero, suc, ◌+◌, ◌-◌, ◌<◌, Bool, true, false, ℤ, pos, ◌+ℤ◌, ◌-ℤ◌, ◌≤ℤ◌, ◌<ℤ◌, List, length, sym, subst, ◌∙◌, ap, arith}
use Rattle.std.proofs.lemmas.Int.{ints}
use Rattle.std.proofs.lemmas.Bool.{cases_order}
use Rattle.std.specs.Prelude.{slice_index, Some}
use Rattle.elk_layers.specs.Layered.{Plain, unit_at, layer_of, row_at, IsSound, AreRows, HasUnit}
use Rattle.elk_layers.specs.Lines.{facing, lane_above, lane_below, top_of, AreApart}
use Rattle.level_model.specs.Stage.{InColumn, ChildStands}
use Rattle.level_model.specs.Level.{PlainLevel, PlainPlan, Orders}
use Rattle.level_model.specs.Nets.{unit_of}
use Rattle.level_model.specs.FromPlan.{LevelDrawing}
use Rattle.level_model.specs.Drawing.{stage}
use Rattle.level_model.specs.Ready.{IsReady}
use Rattle.level_model.specs.Laws.{HasUnits}

-- Along a row in which each ends above the next, each ends above every later one.
pub ends_above : (top height : ℕ → ℤ) (n : ℕ) → ((i : ℕ) → i + 1 < n → (top i +ℤ height i) <ℤ top (i + 1)) → ((i : ℕ) → i < n → pos 0 ≤ℤ height i)
    → (d i j : ℕ) → i + (d + 1) ≡ j → j < n → (top i +ℤ height i) <ℤ top j
ends_above top height n next from_zero zero i j e h = let same : i + 1 ≡ j = omega (arith, e) in rw same at (next i (omega (arith, e, h)))
ends_above top height n next from_zero (suc d) i j e h =
    let last : j - 1 + 1 ≡ j = omega (arith, e) in
    over _ _ _ _ (ends_above top height n next from_zero d i (j - 1) (omega (arith, e)) (omega (arith, h))) (from_zero (j - 1) (omega (arith, h))) (rw last at (next (j - 1) (omega (arith, last, h))))
  where
    over : (x y z h : ℤ) → x <ℤ y → pos 0 ≤ℤ h → (y +ℤ h) <ℤ z → x <ℤ z
    over x y z h k l m = omega (arith, ints, k, l, m)

-- what faces one another keeps a distance
facing_some : (l : Plain) → IsSound l → (a b : Bool) → pos 1 ≤ℤ facing l a b
facing_some l s true true = s.edge_edge_is.low
facing_some l s true false = s.edge_node_is.low
facing_some l s false true = s.edge_node_is.low
facing_some l s false false = s.node_node_is.low

next_above : (t h f z : ℤ) → pos 1 ≤ℤ f → (t +ℤ (h +ℤ f)) ≤ℤ z → (t +ℤ h) <ℤ z
next_above t h f z k l = omega (arith, ints, k, l)

moved_less : (a b z : ℤ) → a <ℤ b → (a -ℤ z) <ℤ (b -ℤ z)
moved_less a b z h = omega (arith, ints, h)

module _ (l : Plain) (rows : List (List ℕ)) (tops : List ℤ) (sound : IsSound l) (are : AreRows l rows) (apart : AreApart l rows tops) (r : ℕ) (there : r < length rows) where
  abbrev unit : ℕ → ℕ
  unit i = slice_index (row_at rows r) i

  abbrev height : ℕ → ℤ
  height i = (unit_at l.units (unit i)).height

  one_above : (i : ℕ) → i + 1 < length (row_at rows r) → (top_of tops (unit i) +ℤ height i) <ℤ top_of tops (unit (i + 1))
  one_above i h = next_above (top_of tops (unit i)) (height i) (facing l (lane_below l (unit i)) (lane_above l (unit (i + 1)))) _ (facing_some l sound (lane_below l (unit i)) (lane_above l (unit (i + 1)))) (apart.room r there i h)

  pub above : (i j : ℕ) → i < j → j < length (row_at rows r) → (top_of tops (unit i) +ℤ height i) <ℤ top_of tops (unit j)
  above i j h k =
      ends_above (λ i. top_of tops (unit i)) height (length (row_at rows r)) one_above (λ i less. sound.heights (unit i) (are.in_range r there i less)) (j - (i + 1)) i j (omega (arith, h)) k

module _ (l : PlainLevel) (p : PlainPlan) (o : Orders) (d : LevelDrawing) (layers : List ℕ) (ready : IsReady l p o layers) where
  pub row_there : (u : ℕ) → u < length p.layered.units → layer_of p.layered u < length p.rows
  row_there u h = let less = ready.sound.layers_are u h in let many = ready.rows.as_many in omega (arith, less, many)

  ordered : (r u v : ℕ) → r < length p.rows → (h : HasUnit (row_at p.rows r) u) (k : HasUnit (row_at p.rows r) v) → h.place < k.place
      → (top_of p.tops u +ℤ (unit_at p.layered.units u).height) <ℤ top_of p.tops v
  ordered r u v there h k less =
      subst (λ z. (top_of p.tops z +ℤ (unit_at p.layered.units z).height) <ℤ top_of p.tops v) h.unit_is
      (subst (λ z. (top_of p.tops (slice_index (row_at p.rows r) h.place) +ℤ (unit_at p.layered.units (slice_index (row_at p.rows r) h.place)).height) <ℤ top_of p.tops z) k.unit_is
      (above p.layered p.rows p.tops ready.sound ready.rows ready.apart r there h.place k.place less k.within))

  in_column : InColumn (stage l p o d)
  in_column u v hu hv differ same =
      let there = row_there u hu in
      let h = ready.rows.complete u hu in
      let k : HasUnit (row_at p.rows (layer_of p.layered u)) v = subst (λ r. HasUnit (row_at p.rows r) v) (sym same) (ready.rows.complete v hv) in
      elim (cases_order h.place k.place) [
        | inl one ↦ absurd (differ (sym h.unit_is ∙ ap (slice_index (row_at p.rows (layer_of p.layered u))) one ∙ k.unit_is))
        | inr (inl less) ↦ inl (moved_less _ _ d.top (ordered (layer_of p.layered u) u v there h k less))
        | inr (inr less) ↦ inr (moved_less _ _ d.top (ordered (layer_of p.layered u) v u there k h less))
      ]

  one_child : (b c : ℕ) → ChildStands (stage l p o d) b → ChildStands (stage l p o d) c → unit_of p b ≡ unit_of p c → b ≡ c
  one_child b c hb hc same =
      let kb : (unit_at p.layered.units (unit_of p b)).child ≡ Some b = (ready.units.linked.children b hb.there).child in
      let kc : (unit_at p.layered.units (unit_of p c)).child ≡ Some c = (ready.units.linked.children c hc.there).child in
      let both : Some b ≡ Some c = sym kb ∙ ap (λ u. (unit_at p.layered.units u).child) same ∙ kc in
      cc

  pub has_units : HasUnits l p o d
  has_units = record { column = in_column; one_child = one_child }
