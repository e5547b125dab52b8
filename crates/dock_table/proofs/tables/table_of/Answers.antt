use Rattle.std.proofs.Common.{[], List, length, map, sym, subst, refl}
use Rattle.level_model.specs.Conditions.{plain_level, plain_plan}
use Rattle.dock_table.specs.declared.courses.Course.{Course}
use Rattle.dock_table.specs.declared.orders.SideOrders.{SideOrders}
use Rattle.dock_table.specs.Courses.{AreCourses}
use Rattle.dock_table.specs.Rows.{row_lists}
use Rattle.dock_table.specs.Sides.{AreDocks, HaveOrders, dock_lists, four_of, orders_in}
use Rattle.dock_table.proofs.ReadyLemmas.{have_children, have_orders, orders_of_plan, spots_sound}
use Rattle.dock_table.proofs.tables.table_of.Goals as goal

pub spots_of-requires-clause-courses : goal.spots_of-requires-clause-courses
spots_of-requires-clause-courses c =
    let l = plain_level c.args.level.now in
    let p = plain_plan c.args.layered.now c.args.order.now [] c.requires.is_reversed.0 in
    (p, subst (λ (fs : List Course). AreCourses l p (length c.args.level.now.edges) fs) (sym c.as_slice.ensures.value) (c.in_ok-courses.ensures c.requires.is_reversed.0 c.requires.is_reversed.1))

pub orders_of-requires-clause-as_many : goal.orders_of-requires-clause-as_many
orders_of-requires-clause-as_many c =
    let l = plain_level c.args.level.now in
    let p = plain_plan c.args.layered.now c.args.order.now [] c.requires.is_reversed.0 in
    let are = c.in_ok-spots.ensures p (subst (λ (fs : List Course). AreCourses l p (length c.args.level.now.edges) fs) (sym c.as_slice.ensures.value) (c.in_ok-courses.ensures c.requires.is_reversed.0 c.requires.is_reversed.1)) in
    are.as_many

pub orders_of-requires-clause-spots : goal.orders_of-requires-clause-spots
orders_of-requires-clause-spots c =
    let l = plain_level c.args.level.now in
    let p = plain_plan c.args.layered.now c.args.order.now [] c.requires.is_reversed.0 in
    let are = c.in_ok-spots.ensures p (subst (λ (fs : List Course). AreCourses l p (length c.args.level.now.edges) fs) (sym c.as_slice.ensures.value) (c.in_ok-courses.ensures c.requires.is_reversed.0 c.requires.is_reversed.1)) in
    spots_sound l p c.in_ok-spots.spots are

pub docks_of-requires-clause-rows : goal.docks_of-requires-clause-rows
docks_of-requires-clause-rows c =
    let l = plain_level c.args.level.now in
    let p = plain_plan c.args.layered.now c.args.order.now [] c.requires.is_reversed.0 in
    let are = c.in_ok-spots.ensures p (subst (λ (fs : List Course). AreCourses l p (length c.args.level.now.edges) fs) (sym c.as_slice.ensures.value) (c.in_ok-courses.ensures c.requires.is_reversed.0 c.requires.is_reversed.1)) in
    subst (λ (vs : List SideOrders). HaveOrders l (row_lists c.in_ok-spots.spots.rows) (map four_of vs)) (sym c.as_slice-2.ensures.value)
    (have_orders l p c.in_ok-spots.spots (map four_of c.in_ok-orders.orders.items) are c.in_ok-orders.ensures)

pub table_from-requires-clause-few : goal.table_from-requires-clause-few
table_from-requires-clause-few c = c.requires.sound.few_units

pub table_from-requires-clause-children : goal.table_from-requires-clause-children
table_from-requires-clause-children c =
    have_children (plain_level c.args.level.now) (plain_plan c.args.layered.now c.args.order.now [] c.requires.is_reversed.0) c.requires.is_reversed.1.layers c.requires.is_reversed.1.linked

pub table_from-requires-clause-spots : goal.table_from-requires-clause-spots
table_from-requires-clause-spots c =
    let l = plain_level c.args.level.now in
    let p = plain_plan c.args.layered.now c.args.order.now [] c.requires.is_reversed.0 in
    (p, c.in_ok-spots.ensures p (subst (λ (fs : List Course). AreCourses l p (length c.args.level.now.edges) fs) (sym c.as_slice.ensures.value) (c.in_ok-courses.ensures c.requires.is_reversed.0 c.requires.is_reversed.1)))

pub table_from-requires-clause-docks : goal.table_from-requires-clause-docks
table_from-requires-clause-docks c = (map four_of c.as_slice-2.result.now, c.in_ok-docks.ensures)

pub returns-clause-table : goal.returns-clause-table
returns-clause-table c = λ reversed is_reversed.
    let l = plain_level c.args.level.now in
    let p = plain_plan c.args.layered.now c.args.order.now [] reversed in
    let are = c.in_ok-spots.ensures p (subst (λ (fs : List Course). AreCourses l p (length c.args.level.now.edges) fs) (sym c.as_slice.ensures.value) (c.in_ok-courses.ensures reversed is_reversed)) in
    let vs = map four_of c.in_ok-orders.orders.items in
    let docks = subst (λ (os : List SideOrders). AreDocks l (row_lists c.in_ok-spots.spots.rows) (map four_of os) (length c.args.level.now.children) (dock_lists c.in_ok-docks.docks)) c.as_slice-2.ensures.value c.in_ok-docks.ensures in (
      orders_in (map four_of c.in_ok-orders.orders.items),
      orders_of_plan l p (map four_of c.in_ok-orders.orders.items) c.in_ok-spots.spots are c.in_ok-orders.ensures,
      c.in_ok-table.ensures.table p (map four_of c.in_ok-orders.orders.items) (record { layered_is = refl; spots_are = are; orders_are = c.in_ok-orders.ensures; docks_are = docks }),
    )
