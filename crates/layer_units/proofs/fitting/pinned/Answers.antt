use Rattle.std.proofs.Common.{◌≡◌, ℕ, ◌<◌, ◌*◌, ◌^◌, ◌∙◌, List, [], ℤ, pos, ◌≤ℤ◌, ap, length, sym, subst}
use Rattle.std.specs.Vec.{with_items}
use Rattle.std.proofs.lemmas.List.{with_items_is}
use Rattle.elk_layers.specs.declared.units.Unit.{Unit as LayerUnit}
use Rattle.elk_layers.specs.declared.units.Link.{Link}
use Rattle.elk_layers.specs.Layered.{Plain, AreRows, IsSound, link_at, plain, rows_of, total_height, unit_at}
use Rattle.level_model.specs.Conditions.{plain_level, plain_plan}
use Rattle.level_model.specs.Level.{Orders}
use Rattle.level_model.specs.Units.{AreLinked}
use Rattle.layer_units.specs.Alike.{with_layered}
use Rattle.layer_units.specs.Fitted.{AreFitted, AreKept}
use Rattle.layer_units.specs.Marks.{listed}
use Rattle.layer_units.specs.Tabled.{IsTableOf}
use Rattle.layer_units.specs.Reading.{HasChildIn, IsLinkIn}
use Rattle.layer_units.proofs.FittedLemmas.{are_fitted, are_kept, are_rows, children_in, is_sound, links_in, readable, tabled_on, together}
use Rattle.layer_units.proofs.MadeLemmas.{links_read, refitted, tabled, units_read}
use Rattle.layer_units.proofs.fitting.pinned.Goals as goal

pub table_of-requires-clause-is_reversed : goal.table_of-requires-clause-is_reversed
table_of-requires-clause-is_reversed c = (listed c.args.is_reversed.now, c.requires.is_reversed)

pub fit_units-requires-clause-fitting : goal.fit_units-requires-clause-fitting
fit_units-requires-clause-fitting c =
    let made = tabled c.args.level.now c.args.layered c.args.order.now c.in_ok-table.table c.args.is_reversed.now c.requires.level c.requires.sound c.requires.rows
    c.requires.node_node c.requires.edge_node c.requires.edge_edge c.requires.is_reversed c.in_ok-table.ensures.table c.in_ok-table.ensures.numbers
    in
    readable (plain_level c.args.level.now) (plain_plan c.args.layered c.args.order.now [] (listed c.args.is_reversed.now)) made.0 c.in_ok-table.table c.args.is_reversed.now made.1

pub fit_units-requires-clause-children : goal.fit_units-requires-clause-children
fit_units-requires-clause-children c =
    let made = tabled c.args.level.now c.args.layered c.args.order.now c.in_ok-table.table c.args.is_reversed.now c.requires.level c.requires.sound c.requires.rows
    c.requires.node_node c.requires.edge_node c.requires.edge_edge c.requires.is_reversed c.in_ok-table.ensures.table c.in_ok-table.ensures.numbers
    in
    subst (λ (xs : List LayerUnit). (u : ℕ) → u < length xs → HasChildIn c.in_ok-table.table (unit_at xs u)) (sym c.as_mut_slice.ensures.value)
    (children_in (plain_level c.args.level.now) (plain_plan c.args.layered c.args.order.now [] (listed c.args.is_reversed.now)) made.0 c.in_ok-table.table c.args.is_reversed.now made.1)

pub fit_links-requires-clause-fitting : goal.fit_links-requires-clause-fitting
fit_links-requires-clause-fitting c =
    let made = tabled c.args.level.now c.args.layered c.args.order.now c.in_ok-table.table c.args.is_reversed.now c.requires.level c.requires.sound c.requires.rows
    c.requires.node_node c.requires.edge_node c.requires.edge_edge c.requires.is_reversed c.in_ok-table.ensures.table c.in_ok-table.ensures.numbers
    in
    readable (plain_level c.args.level.now) (plain_plan c.args.layered c.args.order.now [] (listed c.args.is_reversed.now)) made.0 c.in_ok-table.table c.args.is_reversed.now made.1

pub fit_links-requires-clause-links : goal.fit_links-requires-clause-links
fit_links-requires-clause-links c =
    let made = tabled c.args.level.now c.args.layered c.args.order.now c.in_ok-table.table c.args.is_reversed.now c.requires.level c.requires.sound c.requires.rows
    c.requires.node_node c.requires.edge_node c.requires.edge_edge c.requires.is_reversed c.in_ok-table.ensures.table c.in_ok-table.ensures.numbers
    in
    let units = units_read c.args.level.now.spacing c.in_ok-table.table c.as_mut_slice.result.now c.args.layered.units.items c.fit_units.new.units c.as_mut_slice.ensures.value c.fit_units.ensures in
    let units_are : (with_items c.args.layered.units c.fit_units.new.units).items ≡ c.fit_units.new.units =
    with_items_is c.args.layered.units c.fit_units.new.units (units.as_many ∙ sym c.args.layered.units.ok.0)
    in
    subst (λ (xs : List Link). (k : ℕ) → k < length xs → IsLinkIn (plain_level c.args.level.now) c.as_slice.result.now (link_at xs k)) (sym c.as_mut_slice-2.ensures.value)
    (links_in (plain_level c.args.level.now) (plain_plan c.args.layered c.args.order.now [] (listed c.args.is_reversed.now)) made.0 c.in_ok-table.table c.args.is_reversed.now made.1 c.as_slice.result.now (ap (λ (xs : List LayerUnit). length xs) (c.as_slice.ensures.value ∙ units_are) ∙ units.as_many))

pub returns-clause-fitted : goal.returns-clause-fitted
returns-clause-fitted c =
    let made = tabled c.args.level.now c.args.layered c.args.order.now c.in_ok-table.table c.args.is_reversed.now c.requires.level c.requires.sound c.requires.rows
    c.requires.node_node c.requires.edge_node c.requires.edge_edge c.requires.is_reversed c.in_ok-table.ensures.table c.in_ok-table.ensures.numbers
    in
    let units = units_read c.args.level.now.spacing c.in_ok-table.table c.as_mut_slice.result.now c.args.layered.units.items c.fit_units.new.units c.as_mut_slice.ensures.value c.fit_units.ensures in
    let units_are : (with_items c.args.layered.units c.fit_units.new.units).items ≡ c.fit_units.new.units =
    with_items_is c.args.layered.units c.fit_units.new.units (units.as_many ∙ sym c.args.layered.units.ok.0)
    in
    let links = links_read c.args.level.now.spacing c.in_ok-table.table c.args.is_reversed.now c.as_slice.result.now c.fit_units.new.units c.as_mut_slice-2.result.now c.args.layered.links.items c.fit_links.new.links
    (c.as_slice.ensures.value ∙ units_are) c.as_mut_slice-2.ensures.value c.fit_links.ensures
    in
    let links_are : (with_items c.args.layered.links c.fit_links.new.links).items ≡ c.fit_links.new.links =
    with_items_is c.args.layered.links c.fit_links.new.links (links.as_many ∙ sym c.args.layered.links.ok.0)
    in
    refitted (λ (v : Plain). (o : Orders) × ((layers : List ℕ) (tops : List ℤ) → AreLinked (plain_level c.args.level.now) (plain_plan c.args.layered c.args.order.now [] (listed c.args.is_reversed.now)) layers → AreFitted (plain_level c.args.level.now) (with_layered (plain_plan c.args.layered c.args.order.now [] (listed c.args.is_reversed.now)) v tops) o layers)) (plain_plan c.args.layered c.args.order.now [] (listed c.args.is_reversed.now)) c.fit_units.new.units (with_items c.args.layered.units c.fit_units.new.units).items c.fit_links.new.links (with_items c.args.layered.links c.fit_links.new.links).items units_are links_are
    (made.0, λ layers tops linked. are_fitted (plain_level c.args.level.now) (plain_plan c.args.layered c.args.order.now [] (listed c.args.is_reversed.now)) made.0 c.in_ok-table.table c.args.is_reversed.now c.fit_units.new.units c.fit_links.new.links made.1 units links tops layers linked)

pub returns-clause-table : goal.returns-clause-table
returns-clause-table c =
    let made = tabled c.args.level.now c.args.layered c.args.order.now c.in_ok-table.table c.args.is_reversed.now c.requires.level c.requires.sound c.requires.rows
    c.requires.node_node c.requires.edge_node c.requires.edge_edge c.requires.is_reversed c.in_ok-table.ensures.table c.in_ok-table.ensures.numbers
    in
    let units = units_read c.args.level.now.spacing c.in_ok-table.table c.as_mut_slice.result.now c.args.layered.units.items c.fit_units.new.units c.as_mut_slice.ensures.value c.fit_units.ensures in
    let units_are : (with_items c.args.layered.units c.fit_units.new.units).items ≡ c.fit_units.new.units =
    with_items_is c.args.layered.units c.fit_units.new.units (units.as_many ∙ sym c.args.layered.units.ok.0)
    in
    let links = links_read c.args.level.now.spacing c.in_ok-table.table c.args.is_reversed.now c.as_slice.result.now c.fit_units.new.units c.as_mut_slice-2.result.now c.args.layered.links.items c.fit_links.new.links
    (c.as_slice.ensures.value ∙ units_are) c.as_mut_slice-2.ensures.value c.fit_links.ensures
    in
    let links_are : (with_items c.args.layered.links c.fit_links.new.links).items ≡ c.fit_links.new.links =
    with_items_is c.args.layered.links c.fit_links.new.links (links.as_many ∙ sym c.args.layered.links.ok.0)
    in
    refitted (λ (v : Plain). (tops : List ℤ) → IsTableOf (plain_level c.args.level.now) (with_layered (plain_plan c.args.layered c.args.order.now [] (listed c.args.is_reversed.now)) v tops) c.in_ok-table.table) (plain_plan c.args.layered c.args.order.now [] (listed c.args.is_reversed.now)) c.fit_units.new.units (with_items c.args.layered.units c.fit_units.new.units).items c.fit_links.new.links (with_items c.args.layered.links c.fit_links.new.links).items units_are links_are
    (λ tops. tabled_on (plain_level c.args.level.now) (plain_plan c.args.layered c.args.order.now [] (listed c.args.is_reversed.now)) made.0 c.in_ok-table.table c.args.is_reversed.now c.fit_units.new.units c.fit_links.new.links made.1 units links tops)

pub returns-clause-sound : goal.returns-clause-sound
returns-clause-sound c =
    let made = tabled c.args.level.now c.args.layered c.args.order.now c.in_ok-table.table c.args.is_reversed.now c.requires.level c.requires.sound c.requires.rows
    c.requires.node_node c.requires.edge_node c.requires.edge_edge c.requires.is_reversed c.in_ok-table.ensures.table c.in_ok-table.ensures.numbers
    in
    let units = units_read c.args.level.now.spacing c.in_ok-table.table c.as_mut_slice.result.now c.args.layered.units.items c.fit_units.new.units c.as_mut_slice.ensures.value c.fit_units.ensures in
    let units_are : (with_items c.args.layered.units c.fit_units.new.units).items ≡ c.fit_units.new.units =
    with_items_is c.args.layered.units c.fit_units.new.units (units.as_many ∙ sym c.args.layered.units.ok.0)
    in
    let links = links_read c.args.level.now.spacing c.in_ok-table.table c.args.is_reversed.now c.as_slice.result.now c.fit_units.new.units c.as_mut_slice-2.result.now c.args.layered.links.items c.fit_links.new.links
    (c.as_slice.ensures.value ∙ units_are) c.as_mut_slice-2.ensures.value c.fit_links.ensures
    in
    let links_are : (with_items c.args.layered.links c.fit_links.new.links).items ≡ c.fit_links.new.links =
    with_items_is c.args.layered.links c.fit_links.new.links (links.as_many ∙ sym c.args.layered.links.ok.0)
    in
    refitted IsSound (plain_plan c.args.layered c.args.order.now [] (listed c.args.is_reversed.now)) c.fit_units.new.units (with_items c.args.layered.units c.fit_units.new.units).items c.fit_links.new.links (with_items c.args.layered.links c.fit_links.new.links).items units_are links_are
    (is_sound (plain_level c.args.level.now) (plain_plan c.args.layered c.args.order.now [] (listed c.args.is_reversed.now)) made.0 c.in_ok-table.table c.args.is_reversed.now c.fit_units.new.units c.fit_links.new.links made.1 units links)

pub returns-clause-low : goal.returns-clause-low
returns-clause-low c =
    let made = tabled c.args.level.now c.args.layered c.args.order.now c.in_ok-table.table c.args.is_reversed.now c.requires.level c.requires.sound c.requires.rows
    c.requires.node_node c.requires.edge_node c.requires.edge_edge c.requires.is_reversed c.in_ok-table.ensures.table c.in_ok-table.ensures.numbers
    in
    let units = units_read c.args.level.now.spacing c.in_ok-table.table c.as_mut_slice.result.now c.args.layered.units.items c.fit_units.new.units c.as_mut_slice.ensures.value c.fit_units.ensures in
    let units_are : (with_items c.args.layered.units c.fit_units.new.units).items ≡ c.fit_units.new.units =
    with_items_is c.args.layered.units c.fit_units.new.units (units.as_many ∙ sym c.args.layered.units.ok.0)
    in
    let links = links_read c.args.level.now.spacing c.in_ok-table.table c.args.is_reversed.now c.as_slice.result.now c.fit_units.new.units c.as_mut_slice-2.result.now c.args.layered.links.items c.fit_links.new.links
    (c.as_slice.ensures.value ∙ units_are) c.as_mut_slice-2.ensures.value c.fit_links.ensures
    in
    let links_are : (with_items c.args.layered.links c.fit_links.new.links).items ≡ c.fit_links.new.links =
    with_items_is c.args.layered.links c.fit_links.new.links (links.as_many ∙ sym c.args.layered.links.ok.0)
    in
    refitted (λ (v : Plain). total_height v.units ≤ℤ pos (3 * 2 ^ 47)) (plain_plan c.args.layered c.args.order.now [] (listed c.args.is_reversed.now)) c.fit_units.new.units (with_items c.args.layered.units c.fit_units.new.units).items c.fit_links.new.links (with_items c.args.layered.links c.fit_links.new.links).items units_are links_are
    (together (plain_level c.args.level.now) (plain_plan c.args.layered c.args.order.now [] (listed c.args.is_reversed.now)) made.0 c.in_ok-table.table c.args.is_reversed.now c.fit_units.new.units c.fit_links.new.links made.1 units links)

pub returns-clause-rows : goal.returns-clause-rows
returns-clause-rows c =
    let made = tabled c.args.level.now c.args.layered c.args.order.now c.in_ok-table.table c.args.is_reversed.now c.requires.level c.requires.sound c.requires.rows
    c.requires.node_node c.requires.edge_node c.requires.edge_edge c.requires.is_reversed c.in_ok-table.ensures.table c.in_ok-table.ensures.numbers
    in
    let units = units_read c.args.level.now.spacing c.in_ok-table.table c.as_mut_slice.result.now c.args.layered.units.items c.fit_units.new.units c.as_mut_slice.ensures.value c.fit_units.ensures in
    let units_are : (with_items c.args.layered.units c.fit_units.new.units).items ≡ c.fit_units.new.units =
    with_items_is c.args.layered.units c.fit_units.new.units (units.as_many ∙ sym c.args.layered.units.ok.0)
    in
    let links = links_read c.args.level.now.spacing c.in_ok-table.table c.args.is_reversed.now c.as_slice.result.now c.fit_units.new.units c.as_mut_slice-2.result.now c.args.layered.links.items c.fit_links.new.links
    (c.as_slice.ensures.value ∙ units_are) c.as_mut_slice-2.ensures.value c.fit_links.ensures
    in
    let links_are : (with_items c.args.layered.links c.fit_links.new.links).items ≡ c.fit_links.new.links =
    with_items_is c.args.layered.links c.fit_links.new.links (links.as_many ∙ sym c.args.layered.links.ok.0)
    in
    refitted (λ (v : Plain). AreRows v (rows_of c.args.order.now)) (plain_plan c.args.layered c.args.order.now [] (listed c.args.is_reversed.now)) c.fit_units.new.units (with_items c.args.layered.units c.fit_units.new.units).items c.fit_links.new.links (with_items c.args.layered.links c.fit_links.new.links).items units_are links_are
    (are_rows (plain_level c.args.level.now) (plain_plan c.args.layered c.args.order.now [] (listed c.args.is_reversed.now)) made.0 c.in_ok-table.table c.args.is_reversed.now c.fit_units.new.units c.fit_links.new.links made.1 units links)

pub returns-clause-kept : goal.returns-clause-kept
returns-clause-kept c =
    let made = tabled c.args.level.now c.args.layered c.args.order.now c.in_ok-table.table c.args.is_reversed.now c.requires.level c.requires.sound c.requires.rows
    c.requires.node_node c.requires.edge_node c.requires.edge_edge c.requires.is_reversed c.in_ok-table.ensures.table c.in_ok-table.ensures.numbers
    in
    let units = units_read c.args.level.now.spacing c.in_ok-table.table c.as_mut_slice.result.now c.args.layered.units.items c.fit_units.new.units c.as_mut_slice.ensures.value c.fit_units.ensures in
    let units_are : (with_items c.args.layered.units c.fit_units.new.units).items ≡ c.fit_units.new.units =
    with_items_is c.args.layered.units c.fit_units.new.units (units.as_many ∙ sym c.args.layered.units.ok.0)
    in
    let links = links_read c.args.level.now.spacing c.in_ok-table.table c.args.is_reversed.now c.as_slice.result.now c.fit_units.new.units c.as_mut_slice-2.result.now c.args.layered.links.items c.fit_links.new.links
    (c.as_slice.ensures.value ∙ units_are) c.as_mut_slice-2.ensures.value c.fit_links.ensures
    in
    let links_are : (with_items c.args.layered.links c.fit_links.new.links).items ≡ c.fit_links.new.links =
    with_items_is c.args.layered.links c.fit_links.new.links (links.as_many ∙ sym c.args.layered.links.ok.0)
    in
    refitted (AreKept (plain c.args.layered)) (plain_plan c.args.layered c.args.order.now [] (listed c.args.is_reversed.now)) c.fit_units.new.units (with_items c.args.layered.units c.fit_units.new.units).items c.fit_links.new.links (with_items c.args.layered.links c.fit_links.new.links).items units_are links_are
    (are_kept (plain_level c.args.level.now) (plain_plan c.args.layered c.args.order.now [] (listed c.args.is_reversed.now)) made.0 c.in_ok-table.table c.args.is_reversed.now c.fit_units.new.units c.fit_links.new.links made.1 units links)
