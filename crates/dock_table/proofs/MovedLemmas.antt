-- Facts of lists, in the words of the vectors that hold them.
use Rattle.std.proofs.Common.{◌≡◌, ℕ, ◌<◌, List, [], length, map, sym, subst}
use Rattle.std.specs.List.{All}
use Rattle.std.proofs.lemmas.List.Elements.{All-get_or}
use Rattle.drawing_types.specs.declared.shape.Dock.{Dock}
use Rattle.drawing_types.specs.declared.shape.Side.{Side}
use Rattle.elk_layers.specs.Layered.{Plain}
use Rattle.level_model.specs.declared.table.ChildAt.{ChildAt}
use Rattle.level_model.specs.declared.table.EndAt.{EndAt}
use Rattle.level_model.specs.declared.table.LoopAt.{LoopAt}
use Rattle.level_model.specs.Level.{PlainLevel, PlainPlan}
use Rattle.dock_table.specs.declared.lanes.DockLanes.{DockLanes}
use Rattle.dock_table.specs.declared.loops.LoopLanes.{LoopLanes}
use Rattle.dock_table.specs.Ends.{AreLoopLanes, is_unit_of}
use Rattle.dock_table.specs.Entries.{AreEndEntries, AreEntries, AreLoopEntries, AreReady, HaveBodies}
use Rattle.dock_table.specs.Courses.{AreFirst}
use Rattle.dock_table.specs.Lanes.{plain_lanes}
use Rattle.dock_table.specs.Narrow.{IsOffset}
use Rattle.dock_table.specs.Outlines.{dock_in}

pub loops_moved : (l : PlainLevel) (ends' ends : List Dock) (side : Side) (n : ℕ) (v : LoopLanes) → ends' ≡ ends → AreLoopLanes l ends' side n v → AreLoopLanes l ends side n v
loops_moved l ends' ends side n v e are = subst (λ (ds : List Dock). AreLoopLanes l ds side n v) e are

pub entries_moved : (l : PlainLevel) (us' us : List ℕ) (lists : List (List Dock)) (ls' ls : List DockLanes) (n : ℕ) (entries : List ChildAt) → us' ≡ us → ls' ≡ ls → AreEntries l us' lists (map plain_lanes ls') n entries → AreEntries l us lists (map plain_lanes ls) n entries
entries_moved l us' us lists ls' ls n entries eu el are = subst (λ us. AreEntries l us lists (map plain_lanes ls) n entries) eu (subst (λ (xs : List DockLanes). AreEntries l us' lists (map plain_lanes xs) n entries) el are)

pub ends_moved : (l : PlainLevel) (ns' ns : List ℕ) (ends' ends : List Dock) (ls' ls : List DockLanes) (es' es : List ChildAt) (n : ℕ) (table' table : List EndAt) → ns' ≡ ns → ends' ≡ ends → ls' ≡ ls → es' ≡ es → table' ≡ table
    → AreEndEntries l ns' ends' (map plain_lanes ls') es' n table' → AreEndEntries l ns ends (map plain_lanes ls) es n table
ends_moved l ns' ns ends' ends ls' ls es' es n table' table en ee el ec et are =
    subst (AreEndEntries l ns ends (map plain_lanes ls) es n) et
    (subst (λ (xs : List ChildAt). AreEndEntries l ns ends (map plain_lanes ls) xs n table') ec
    (subst (λ (xs : List DockLanes). AreEndEntries l ns ends (map plain_lanes xs) es' n table') el
    (subst (λ (xs : List Dock). AreEndEntries l ns xs (map plain_lanes ls') es' n table') ee (subst (λ xs. AreEndEntries l xs ends' (map plain_lanes ls') es' n table') en are))))

pub loop_entries_moved : (l : PlainLevel) (es' es : List ChildAt) (north south : List ℕ) (n : ℕ) (table' table : List LoopAt) → es' ≡ es → table' ≡ table → AreLoopEntries l es' north south n table' → AreLoopEntries l es north south n table
loop_entries_moved l es' es north south n table' table ec et are =
    subst (AreLoopEntries l es north south n) et (subst (λ (xs : List ChildAt). AreLoopEntries l xs north south n table') ec are)

pub ready_moved : (l : PlainLevel) (ns' ns : List ℕ) (lists : List (List Dock)) (ends' ends : List Dock) (ls' ls : List DockLanes) (es' es : List ChildAt) → ns' ≡ ns → ends' ≡ ends → ls' ≡ ls → es' ≡ es
    → AreReady l ns lists ends (map plain_lanes ls) es → AreReady l ns' lists ends' (map plain_lanes ls') es'
ready_moved l ns' ns lists ends' ends ls' ls es' es en ee el ec are =
    subst (λ (xs : List ChildAt). AreReady l ns' lists ends' (map plain_lanes ls') xs) (sym ec)
    (subst (λ (xs : List DockLanes). AreReady l ns' lists ends' (map plain_lanes xs) es) (sym el)
    (subst (λ (xs : List Dock). AreReady l ns' lists xs (map plain_lanes ls) es) (sym ee) (subst (λ xs. AreReady l xs lists ends (map plain_lanes ls) es) (sym en) are)))

pub bodies_moved : (l : PlainLevel) (es' es : List ChildAt) → es' ≡ es → HaveBodies l es → HaveBodies l es'
bodies_moved l es' es ec are = subst (HaveBodies l) (sym ec) are

pub units_moved : (p : PlainPlan) (layered : Plain) (n' n : ℕ) (us : List ℕ) → p.layered ≡ layered → n' ≡ n → AreFirst (is_unit_of layered) (length layered.units) n' us → AreFirst (is_unit_of p.layered) (length p.layered.units) n us
units_moved p layered n' n us e m are = subst (λ (x : Plain). AreFirst (is_unit_of x) (length x.units) n us) (sym e) (subst (λ k. AreFirst (is_unit_of layered) (length layered.units) k us) m are)

pub offsets_at : (ends : List Dock) → All (λ (d : Dock). IsOffset d.offset) ends → (i : ℕ) → i < length ends → IsOffset (dock_in ends i).offset
offsets_at ends all i h = All-get_or (λ (d : Dock). IsOffset d.offset) ends i (dock_in [] 0) h all
