-- Units and links of a level with the ranks of pins.
use Rattle.std.proofs.Common.{◌≡◌, ◌∙◌, ⊎_elim, ℕ, not, List, [], ℤ, ◌≤◌, length, refl, sym, ap, subst, arith}
use Rattle.std.proofs.lemmas.Bool.{cases_lt}
use Rattle.std.proofs.lemmas.List.{get_or_past}
use Rattle.std.specs.Prelude.{is_some}
use Rattle.elk_doc.specs.declared.drawing.Certificate.{Certificate}
use Rattle.elk_layers.specs.declared.units.Layered.{Layered}
use Rattle.elk_layers.specs.declared.units.Unit.{Unit as LayerUnit}
use Rattle.elk_layers.specs.Layered.{Plain, IsSound, plain, unit_at}
use Rattle.level_model.specs.Level.{PlainLevel}
use Rattle.layer_units.specs.Layering.{IsLayerCount, layering, plan_with}
use Rattle.layer_units.specs.Numbered.{AreNumberedUnits}
use Rattle.layer_units.specs.Alike.{AreFlat}
use Rattle.layer_units.proofs.AlikeLemmas.{no_heights}
use Rattle.layer_units.specs.Ranked.{AreRanked, AreReranked}
use Rattle.layer_units.specs.Started.{AreAscending}
use Rattle.level_layout.specs.Phases.{AreRankedUnits, IsStart}
use Rattle.level_model.specs.Units.{AreLinked}

flat : (v : Plain) → IsSound v → AreFlat v
flat v sound u none =
    ⊎_elim
    (λ less. sound.lanes_are_flat u less (ap (λ k. not (is_some k)) none))
    (λ past. ap (λ (x : LayerUnit). x.height) (get_or_past v.units u (unit_at [] 0) past))
    (cases_lt u (length v.units))

units_with : (l : PlainLevel) (c : Certificate) (b v : Layered) → ((rows : List (List ℕ)) (tops : List ℤ) → AreLinked l (plan_with b rows tops c.reversed) c.layers)
    → AreNumberedUnits (layering l c.reversed c.layers) (plain b) → b.layers ≤ 2048 → IsLayerCount c.layers b.layers
    → b.node_node ≡ l.spacing.node_node → b.edge_node ≡ l.spacing.edge_node → b.edge_edge ≡ l.spacing.edge_edge
    → AreRanked l (plain v) c.reversed → AreReranked (plain b) (plain v) → IsSound (plain v) → AreRankedUnits l c v
units_with l c b v linked numbered few count nn en ee ranked kept sound =
    record {
      linked = λ rows tops. no_heights.linked l (plan_with b rows tops c.reversed) (plain v) tops c.layers kept.alike refl (flat (plain v) sound) (linked rows tops);
      sound = sound;
      numbered = (plain b, numbered, kept.alike, λ u none. ap (λ units. unit_at units u) kept.units_are);
      ranked = ranked;
      layers = subst (IsLayerCount c.layers) (sym kept.alike.layers_are) count;
      few_layers = let same = kept.alike.layers_are in omega (arith, same, few);
      node_node = kept.node_node ∙ nn;
      edge_node = kept.edge_node ∙ en;
      edge_edge = kept.edge_edge ∙ ee;
    }

-- the same by the lists of a certificate
pub units_ranked : (l : PlainLevel) (c : Certificate) (b v : Layered) (rs ls : List ℕ) → rs ≡ c.reversed → ls ≡ c.layers
    → ((rows : List (List ℕ)) (tops : List ℤ) → AreLinked l (plan_with b rows tops rs) ls) → AreNumberedUnits (layering l rs ls) (plain b) → b.layers ≤ 2048 → IsLayerCount ls b.layers
    → b.node_node ≡ l.spacing.node_node → b.edge_node ≡ l.spacing.edge_node → b.edge_edge ≡ l.spacing.edge_edge
    → AreRanked l (plain v) rs → AreReranked (plain b) (plain v) → IsSound (plain v) → AreRankedUnits l c v
units_ranked l c b v rs ls er el linked numbered few count nn en ee ranked kept sound =
    units_with l c b v
    (λ rows tops. subst (λ xs. AreLinked l (plan_with b rows tops xs) c.layers) er (subst (λ ys. AreLinked l (plan_with b rows tops rs) ys) el (linked rows tops)))
    (subst (λ xs. AreNumberedUnits (layering l xs c.layers) (plain b)) er (subst (λ ys. AreNumberedUnits (layering l rs ys) (plain b)) el numbered))
    few (subst (λ ys. IsLayerCount ys b.layers) el count) nn en ee (subst (λ xs. AreRanked l (plain v) xs) er ranked) kept sound

-- rows that start in the order of numbers do so for units with ranks
pub started : (a b : Plain) (rows : List (List ℕ)) → AreReranked a b → IsStart a rows → IsStart b rows
started a b rows kept start =
    subst (λ n. AreAscending b.units n (length b.units) rows) (sym kept.alike.layers_are)
    (subst (λ us. AreAscending us a.layers (length us) rows) (sym kept.units_are) start)
