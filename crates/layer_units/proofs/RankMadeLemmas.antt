-- What the code has at hand when it gives links their ranks.
use Rattle.std.proofs.Common.{◌≡◌, ℕ, Bool, false, List, [], map, length, refl, sym, subst}
use Rattle.elk_layers.specs.declared.units.Unit.{Unit as LayerUnit}
use Rattle.elk_layers.specs.declared.units.Link.{Link}
use Rattle.elk_layers.specs.declared.units.Layered.{Layered}
use Rattle.elk_layers.specs.declared.units.Order.{Order}
use Rattle.elk_layers.specs.Layered.{IsSound, Plain, plain}
use Rattle.level_model.specs.declared.level.LevelIn.{LevelIn}
use Rattle.level_model.specs.declared.table.Table.{Table}
use Rattle.level_model.specs.Conditions.{IsLevel, plain_level, plain_plan}
use Rattle.level_model.specs.Level.{Orders, PlainLevel, PlainPlan}
use Rattle.level_model.specs.Table.{IsTable}
use Rattle.level_model.specs.Units.{AreOrders}
use Rattle.dock_table.specs.Bounds.{AreNumbersIn}
use Rattle.dock_table.specs.Courses.{ReversedAreMarked}
use Rattle.layer_units.specs.Marks.{listed}
use Rattle.layer_units.specs.declared.ports.PortRanks.{PortRanks}
use Rattle.layer_units.specs.Levels.{AreRanksTo}
use Rattle.layer_units.specs.Ports.{PlainRanks, plain_ranks}
use Rattle.layer_units.specs.Ranked.{AreBareLinks, IsRanking, has_ranks}
use Rattle.layer_units.specs.RankReading.{AreRankedLinks}
use Rattle.layer_units.proofs.RankedLemmas.{IsMade, are_ranked, bare_ranked, bare_relinked, ranking, relinked, with_links}

pub made_of : (level : LevelIn) (layered : Layered) (order : Order) (t : Table) (marks : List Bool) (ranks read : List PortRanks) → IsLevel (plain_level level) → IsSound (plain layered)
    → ReversedAreMarked (plain_level level) marks (plain_plan layered order [] (listed marks))
    → ((reversed : List ℕ) → ReversedAreMarked (plain_level level) marks (plain_plan layered order [] reversed)
    → (o : Orders) × AreOrders (plain_level level) (plain_plan layered order [] reversed) o × IsTable (plain_level level) (plain_plan layered order [] reversed) o t)
    → AreNumbersIn t → AreRanksTo (plain_level level) marks (length level.children) (map plain_ranks ranks) → read ≡ ranks
    → (o : Orders) × IsMade (plain_level level) (plain_plan layered order [] (listed marks)) o t marks (map plain_ranks read)
made_of level layered order t marks ranks read is sound is_reversed made numbers ranked same =
    let found = made (listed marks) is_reversed in (
      found.0,
      record {
        level = is;
        sound = sound;
        layers_are = refl;
        is_reversed = is_reversed;
        orders = found.1;
        table = found.2;
        numbers = numbers;
        ranks = subst (λ (xs : List PortRanks). AreRanksTo (plain_level level) marks (length level.children) (map plain_ranks xs)) (sym same) ranked;
      },
    )

pub links_read : (l : PlainLevel) (t : Table) (vs : List PlainRanks) (marks : List Bool) (ys us : List LayerUnit) (xs links ks : List Link) → ys ≡ us → xs ≡ links → AreRankedLinks l t vs ys marks xs (length xs) ks → AreRankedLinks l t vs us marks links (length links) ks
links_read l t vs marks ys us xs links ks units same fit =
    subst (λ (zs : List Link). AreRankedLinks l t vs us marks zs (length zs) ks) same (subst (λ (zs : List LayerUnit). AreRankedLinks l t vs zs marks xs (length xs) ks) units fit)

-- ---- what the code gives, where `items` are the links as they are kept

pub bare_ranking : (l : PlainLevel) (a : Plain) (was ks items : List Link) (reversed : List ℕ) → has_ranks l.children ≡ false → IsSound a → was ≡ a.links → items ≡ ks → AreBareLinks was (length was) ks → IsRanking l a (with_links a items) reversed
bare_ranking l a was ks items reversed none sound same end links =
    let read : AreBareLinks a.links (length a.links) ks = subst (λ (xs : List Link). AreBareLinks xs (length xs) ks) same links in
    subst (λ (ys : List Link). IsRanking l a (with_links a ys) reversed) (sym end)
    (ranking a ks sound (bare_relinked l a ks reversed none read) l reversed (bare_ranked l a ks reversed none read))

pub table_ranking : (l : PlainLevel) (p : PlainPlan) (o : Orders) (t : Table) (marks : List Bool) (vs : List PlainRanks) (ys : List LayerUnit) (was ks items : List Link) → IsMade l p o t marks vs → ys ≡ p.layered.units → was ≡ p.layered.links
    → items ≡ ks → AreRankedLinks l t vs ys marks was (length was) ks → IsRanking l p.layered (with_links p.layered items) p.reversed
table_ranking l p o t marks vs ys was ks items made units same end links =
    let read = links_read l t vs marks ys p.layered.units was p.layered.links ks units same links in
    subst (λ (zs : List Link). IsRanking l p.layered (with_links p.layered zs) p.reversed) (sym end)
    (ranking p.layered ks made.sound (relinked l p o t marks vs ks made read) l p.reversed (are_ranked l p o t marks vs ks made read))
