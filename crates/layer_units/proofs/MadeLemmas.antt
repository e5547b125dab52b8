-- What the code has at hand when it gives units and links their heights and pins.
use Rattle.std.proofs.Common.{◌≡◌, ℕ, Bool, List, [], length, refl, sym, subst}
use Rattle.elk_doc.specs.declared.document.Spacing.{Spacing}
use Rattle.elk_layers.specs.declared.units.Unit.{Unit as LayerUnit}
use Rattle.elk_layers.specs.declared.units.Link.{Link}
use Rattle.elk_layers.specs.declared.units.Layered.{Layered}
use Rattle.elk_layers.specs.declared.units.Order.{Order}
use Rattle.elk_layers.specs.Layered.{Plain, AreRows, IsSound, plain, rows_of}
use Rattle.level_model.specs.declared.level.LevelIn.{LevelIn}
use Rattle.level_model.specs.declared.table.Table.{Table}
use Rattle.level_model.specs.Conditions.{IsLevel, plain_level, plain_plan}
use Rattle.level_model.specs.Level.{Orders, PlainPlan}
use Rattle.level_model.specs.Table.{IsTable}
use Rattle.level_model.specs.Units.{AreOrders}
use Rattle.dock_table.specs.Bounds.{AreNumbersIn}
use Rattle.dock_table.specs.Courses.{ReversedAreMarked}
use Rattle.layer_units.specs.Marks.{listed}
use Rattle.layer_units.specs.Reading.{AreFittedLinks, AreFittedUnits}
use Rattle.layer_units.proofs.FittedLemmas.{IsTabled, plain_with}

pub tabled : (level : LevelIn) (layered : Layered) (order : Order) (t : Table) (marks : List Bool) → IsLevel (plain_level level) → IsSound (plain layered) → AreRows (plain layered) (rows_of order)
    → layered.node_node ≡ level.spacing.node_node → layered.edge_node ≡ level.spacing.edge_node → layered.edge_edge ≡ level.spacing.edge_edge
    → ReversedAreMarked (plain_level level) marks (plain_plan layered order [] (listed marks))
    → ((reversed : List ℕ) → ReversedAreMarked (plain_level level) marks (plain_plan layered order [] reversed)
    → (o : Orders) × AreOrders (plain_level level) (plain_plan layered order [] reversed) o × IsTable (plain_level level) (plain_plan layered order [] reversed) o t)
    → AreNumbersIn t → (o : Orders) × IsTabled (plain_level level) (plain_plan layered order [] (listed marks)) o t marks
tabled level layered order t marks is sound rows node_node edge_node edge_edge is_reversed made numbers =
    let found = made (listed marks) is_reversed in (
      found.0,
      record {
        level = is;
        sound = sound;
        rows = rows;
        layers_are = refl;
        node_node = node_node;
        edge_node = edge_node;
        edge_edge = edge_edge;
        is_reversed = is_reversed;
        orders = found.1;
        table = found.2;
        numbers = numbers;
      },
    )

pub units_read : (s : Spacing) (t : Table) (xs units us : List LayerUnit) → xs ≡ units → AreFittedUnits s t.children xs (length xs) us → AreFittedUnits s t.children units (length units) us
units_read s t xs units us same fit = subst (λ (ys : List LayerUnit). AreFittedUnits s t.children ys (length ys) us) same fit

pub links_read : (s : Spacing) (t : Table) (marks : List Bool) (ys us : List LayerUnit) (xs links ks : List Link) → ys ≡ us → xs ≡ links → AreFittedLinks s t ys marks xs (length xs) ks → AreFittedLinks s t us marks links (length links) ks
links_read s t marks ys us xs links ks units same fit =
    subst (λ (zs : List Link). AreFittedLinks s t us marks zs (length zs) ks) same (subst (λ (zs : List LayerUnit). AreFittedLinks s t zs marks xs (length xs) ks) units fit)

-- what holds with units and links holds as they are kept
pub refitted : (P : Plain → Type 0) (p : PlainPlan) (us vs : List LayerUnit) (ks ls : List Link) → vs ≡ us → ls ≡ ks → P (plain_with p us ks) → P (plain_with p vs ls)
refitted P p us vs ks ls e f h = subst (λ (zs : List LayerUnit). P (plain_with p zs ls)) (sym e) (subst (λ (zs : List Link). P (plain_with p us zs)) (sym f) h)
