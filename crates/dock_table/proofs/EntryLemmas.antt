-- The entries of a table, one after the other.
use Rattle.std.proofs.Common.{◌≡◌, ℕ, ℤ, ◌+◌, ◌-◌, ◌*◌, ◌<◌, ◌≤◌, ◌^◌, pos, neg_ℤ, ◌+ℤ◌, ◌≤ℤ◌, List, [], ◌∷◌, ◌++◌, length, map, get_or, None, SFits, w64, to_z, of_z, refl, sym, ◌∙◌, ap, subst, inl, inr, arith}
use Rattle.std.proofs.lemmas.Bool.{cases_eq}
use Rattle.std.proofs.lemmas.Int.{ints, to_z-of_z}
use Rattle.std.proofs.lemmas.List.{get_or-map, get_or_append_left, get_or_default, get_or_push, get_or_read, length-map, length_push}
use Rattle.drawing_types.specs.declared.shape.Dock.{Dock}
use Rattle.drawing_types.specs.declared.shape.Rect.{Rect}
use Rattle.drawing_types.specs.declared.shape.Point.{Point}
use Rattle.drawing_types.specs.Ranges.{IsPlaceWithin, IsWithin}
use Rattle.port_order.specs.Places.{anchor_at}
use Rattle.dock_table.proofs.PartLemmas.{offset_fits}
use Rattle.port_order.specs.declared.children.Child.{Child}
use Rattle.port_order.specs.declared.spots.Spot.{Spot}
use Rattle.elk_layers.proofs.FillLemmas.{push_more}
use Rattle.level_model.specs.declared.level.LevelEdge.{LevelEdge}
use Rattle.level_model.specs.declared.level.EdgeEnd.{EdgeEnd}
use Rattle.level_model.specs.declared.table.ChildAt.{ChildAt}
use Rattle.level_model.specs.declared.table.EndAt.{EndAt}
use Rattle.level_model.specs.declared.table.LoopAt.{LoopAt}
use Rattle.level_model.specs.Conditions.{IsSpoke}
use Rattle.level_model.specs.Level.{PlainLevel, child_at, edge_at}
use Rattle.level_model.specs.Table.{child_in, end_in, loop_in}
use Rattle.dock_table.specs.declared.lanes.DockLanes.{DockLanes}
use Rattle.dock_table.specs.Entries.{AreEndEntries, AreEntries, AreLanesOf, AreLoopEntries, AreReady, HaveBodies, IsEndEntry, IsEntry, IsLoopEntry}
use Rattle.drawing_types.specs.declared.shape.Side.TheVariants.{North, South}
use Rattle.dock_table.specs.Bounds.{IsIn, IsLoopIn}
use Rattle.level_model.specs.Lanes.{height_by}
use Rattle.dock_table.specs.Lanes.{AreDockLanes, AreReadable, PlainLanes, height_or, lane_place_in, lane_side_in, lanes_at, plain_lanes}
use Rattle.dock_table.specs.Narrow.{IsNearRect, IsOffset}
use Rattle.dock_table.specs.Outlines.{dock_in}
use Rattle.dock_table.specs.Rows.{row_at}
use Rattle.dock_table.specs.Sides.{docks_at}
use Rattle.dock_table.proofs.ChainLemmas.{edge_read}

pub lanes_pushed : (l : PlainLevel) (rows : List (List Spot)) (lists : List (List Dock)) (north south : List ℕ) (n : ℕ) (ws : List PlainLanes) (c : Child) (docks : List Dock) (spots : List Spot) (a b : ℕ) (x : PlainLanes) → c ≡ child_at l n → docks ≡ docks_at lists n → spots ≡ row_at rows n → a ≡ get_or north n 0 → b ≡ get_or south n 0
    → AreDockLanes c.size.height docks spots a b x → AreLanesOf l rows lists north south n ws → AreLanesOf l rows lists north south (n + 1) (ws ++ x ∷ [])
lanes_pushed l rows lists north south n ws c docks spots a b x child docks_is row a_is b_is is s =
    let moved : AreDockLanes (child_at l n).size.height (docks_at lists n) (row_at rows n) (get_or north n 0) (get_or south n 0) x =
    subst (λ (y : Child). AreDockLanes y.size.height (docks_at lists n) (row_at rows n) (get_or north n 0) (get_or south n 0) x) child
    (subst (λ ds. AreDockLanes c.size.height ds (row_at rows n) (get_or north n 0) (get_or south n 0) x) docks_is
    (subst (λ ss. AreDockLanes c.size.height docks ss (get_or north n 0) (get_or south n 0) x) row
    (subst (λ k. AreDockLanes c.size.height docks spots k (get_or south n 0) x) a_is (subst (λ k. AreDockLanes c.size.height docks spots a k x) b_is is))))
    in
    let both = push_more (λ d y. AreDockLanes (child_at l d).size.height (docks_at lists d) (row_at rows d) (get_or north d 0) (get_or south d 0) y) ws n x (lanes_at [] 0) s.as_many s.lanes moved in
    record { as_many = both.0; lanes = both.1 }

pub entries_pushed : (l : PlainLevel) (units : List ℕ) (lists : List (List Dock)) (ws : List PlainLanes) (n : ℕ) (entries : List ChildAt) (c : Child) (unit : ℕ) (docks : List Dock) (x : PlainLanes) (v : ChildAt) → c ≡ child_at l n → unit ≡ get_or units n 0 → docks ≡ docks_at lists n → x ≡ lanes_at ws n
    → IsEntry c unit docks x v → AreEntries l units lists ws n entries → AreEntries l units lists ws (n + 1) (entries ++ v ∷ [])
entries_pushed l units lists ws n entries c unit docks x v child unit_is docks_is x_is is s =
    let moved : IsEntry (child_at l n) (get_or units n 0) (docks_at lists n) (lanes_at ws n) v =
    subst (λ (y : Child). IsEntry y (get_or units n 0) (docks_at lists n) (lanes_at ws n) v) child
    (subst (λ k. IsEntry c k (docks_at lists n) (lanes_at ws n) v) unit_is (subst (λ ds. IsEntry c unit ds (lanes_at ws n) v) docks_is (subst (λ y. IsEntry c unit docks y v) x_is is)))
    in
    let both = push_more (λ d y. IsEntry (child_at l d) (get_or units d 0) (docks_at lists d) (lanes_at ws d) y) entries n v (child_in [] 0) s.as_many s.entry moved in
    record { as_many = both.0; entry = both.1 }

pub loops_pushed : (l : PlainLevel) (entries : List ChildAt) (north south : List ℕ) (n : ℕ) (table : List LoopAt) (x : LoopAt) → IsLoopEntry l entries n (get_or north n 0) (get_or south n 0) x → AreLoopEntries l entries north south n table → AreLoopEntries l entries north south (n + 1) (table ++ x ∷ [])
loops_pushed l entries north south n table x is s =
    let both = push_more (λ e y. IsLoopEntry l entries e (get_or north e 0) (get_or south e 0) y) table n x (loop_in [] 0) s.as_many s.entry is in
    record { as_many = both.0; entry = both.1 }

pub two_ends_pushed : (l : PlainLevel) (numbers : List ℕ) (ends : List Dock) (ws : List PlainLanes) (entries : List ChildAt) (e : ℕ) (a b : EndAt) (old new : List EndAt)
    → IsEndEntry l ws entries (edge_at l e).source (dock_in ends (2 * e)) (get_or numbers (2 * e) 0) a → IsEndEntry l ws entries (edge_at l e).target (dock_in ends (2 * e + 1)) (get_or numbers (2 * e + 1) 0) b
    → new ≡ (old ++ a ∷ []) ++ b ∷ [] → AreEndEntries l numbers ends ws entries e old → AreEndEntries l numbers ends ws entries (e + 1) new
two_ends_pushed l numbers ends ws entries e a b old new source target pushed s =
    let long = s.as_many in
    let one = length_push old a in
    let two = length_push (old ++ a ∷ []) b in
    let both : List EndAt = (old ++ a ∷ []) ++ b ∷ [] in
    let before : (i : ℕ) → i < length old → end_in ((old ++ a ∷ []) ++ b ∷ []) i ≡ end_in old i = λ i h.
    get_or_append_left (old ++ a ∷ []) (b ∷ []) (end_in [] 0) i (omega (arith, h, one)) ∙ get_or_append_left old (a ∷ []) (end_in [] 0) i h
    in
    let first : end_in ((old ++ a ∷ []) ++ b ∷ []) (2 * e) ≡ a = get_or_append_left (old ++ a ∷ []) (b ∷ []) (end_in [] 0) (2 * e) (omega (arith, one, long)) ∙ get_or_push old a (end_in [] 0) (2 * e) long in
    let second : end_in ((old ++ a ∷ []) ++ b ∷ []) (2 * e + 1) ≡ b = get_or_push (old ++ a ∷ []) b (end_in [] 0) (2 * e + 1) (omega (arith, one, long)) in
    subst (AreEndEntries l numbers ends ws entries (e + 1)) (sym pushed) (record {
      as_many = omega (arith, long, one, two);
      sources = λ i h. elim (cases_eq i e) [
        | inl q ↦ subst (λ x. IsEndEntry l ws entries (edge_at l x).source (dock_in ends (2 * x)) (get_or numbers (2 * x) 0) (end_in ((old ++ a ∷ []) ++ b ∷ []) (2 * x))) (sym q) (subst (IsEndEntry l ws entries (edge_at l e).source (dock_in ends (2 * e)) (get_or numbers (2 * e) 0)) (sym first) source)
        | inr ne ↦ subst (IsEndEntry l ws entries (edge_at l i).source (dock_in ends (2 * i)) (get_or numbers (2 * i) 0)) (sym (before (2 * i) (omega (arith, h, ne, long)))) (s.sources i (omega (arith, h, ne)))
      ];
      targets = λ i h. elim (cases_eq i e) [
        | inl q ↦ subst (λ x. IsEndEntry l ws entries (edge_at l x).target (dock_in ends (2 * x + 1)) (get_or numbers (2 * x + 1) 0) (end_in ((old ++ a ∷ []) ++ b ∷ []) (2 * x + 1))) (sym q) (subst (IsEndEntry l ws entries (edge_at l e).target (dock_in ends (2 * e + 1)) (get_or numbers (2 * e + 1) 0)) (sym second) target)
        | inr ne ↦ subst (IsEndEntry l ws entries (edge_at l i).target (dock_in ends (2 * i + 1)) (get_or numbers (2 * i + 1) 0)) (sym (before (2 * i + 1) (omega (arith, h, ne, long)))) (s.targets i (omega (arith, h, ne)))
      ];
    })

-- lanes that are read
pub plain_read : (vs : List DockLanes) (c count : ℕ) (x : DockLanes) → x ≡ get_or vs c x → length (map plain_lanes vs) ≡ count → c < count → plain_lanes x ≡ lanes_at (map plain_lanes vs) c
plain_read vs c count x is long h = let m = length-map vs plain_lanes in ap plain_lanes is ∙ sym (get_or-map plain_lanes vs c x (lanes_at [] 0) (omega (arith, m, long, h)))

pub entry_read : (entries : List ChildAt) (c count : ℕ) (x : ChildAt) → x ≡ get_or entries c x → length entries ≡ count → c < count → x ≡ child_in entries c
entry_read entries c count x is long h = get_or_read entries c x (omega (arith, long, h)) is (child_in [] 0)

pub number_read : (ns : List ℕ) (i count x : ℕ) → x ≡ get_or ns i x → length ns ≡ count → i < count → x ≡ get_or ns i 0
number_read ns i count x is long h = get_or_read ns i x (omega (arith, long, h)) is 0

-- an outline's height, as lanes ask for it
pub height_near : (r : Rect) → IsNearRect r → IsWithin (pos 0) (pos (2 ^ 49 - 2 ^ 42)) r.height
height_near r near =
    let a = near.along.low_end.above in
    let b = near.along.high_end.below in
    record { above = near.along.solid; below = span r.y r.height a b }
  where
    span : (y h : ℤ) → neg_ℤ (pos (2 ^ 48 - 2 ^ 41)) ≤ℤ y → (y +ℤ h) ≤ℤ pos (2 ^ 48 - 2 ^ 41) → h ≤ℤ pos (2 ^ 49 - 2 ^ 42)
    span y h a b = omega (arith, ints, a, b)

-- ---- ends as they are read

pub record IsReadyEnd (l : PlainLevel) (ws : List PlainLanes) (entries : List ChildAt) (s : EdgeEnd) (number : ℕ) : Type 0 where
  pub spoke : IsSpoke l s
  pub near : IsNearRect (child_in entries s.child).outline
  pub few : (child_in entries s.child).north ≤ 2 ^ 17
  pub count : ℕ
  pub readable : AreReadable (lanes_at ws s.child) count
  pub inside : number < count

ready_end : (l : PlainLevel) (numbers : List ℕ) (lists : List (List Dock)) (ends : List Dock) (ws : List PlainLanes) (entries : List ChildAt) (s : EdgeEnd) (number : ℕ) → AreReady l numbers lists ends ws entries → IsSpoke l s → number < length (docks_at lists s.child) → IsReadyEnd l ws entries s number
ready_end l numbers lists ends ws entries s number are spoke inside =
    record { spoke = spoke; near = are.near s.child spoke.child; few = are.few s.child spoke.child; count = length (docks_at lists s.child); readable = are.readable s.child spoke.child; inside = inside }

pub ready_source : (l : PlainLevel) (numbers : List ℕ) (lists : List (List Dock)) (ends : List Dock) (ws : List PlainLanes) (entries : List ChildAt) (es : List LevelEdge) (e : ℕ) (d : LevelEdge) → AreReady l numbers lists ends ws entries → es ≡ l.edges → e < length es
    → IsReadyEnd l ws entries (get_or es e d).source (get_or numbers (2 * e) 0)
ready_source l numbers lists ends ws entries es e d are q h =
    let at = edge_read l es e d q h in
    subst (λ (x : LevelEdge). IsReadyEnd l ws entries x.source (get_or numbers (2 * e) 0)) (sym at.0)
    (ready_end l numbers lists ends ws entries (edge_at l e).source (get_or numbers (2 * e) 0) are (are.level.edges e at.1).source (are.source_number e at.1))

pub ready_target : (l : PlainLevel) (numbers : List ℕ) (lists : List (List Dock)) (ends : List Dock) (ws : List PlainLanes) (entries : List ChildAt) (es : List LevelEdge) (e : ℕ) (d : LevelEdge) → AreReady l numbers lists ends ws entries → es ≡ l.edges → e < length es
    → IsReadyEnd l ws entries (get_or es e d).target (get_or numbers (2 * e + 1) 0)
ready_target l numbers lists ends ws entries es e d are q h =
    let at = edge_read l es e d q h in
    subst (λ (x : LevelEdge). IsReadyEnd l ws entries x.target (get_or numbers (2 * e + 1) 0)) (sym at.0)
    (ready_end l numbers lists ends ws entries (edge_at l e).target (get_or numbers (2 * e + 1) 0) are (are.level.edges e at.1).target (are.target_number e at.1))

pub ready_dock : (l : PlainLevel) (numbers : List ℕ) (lists : List (List Dock)) (ends : List Dock) (ws : List PlainLanes) (entries : List ChildAt) (i : ℕ) (d : Dock) → AreReady l numbers lists ends ws entries → i < 2 * length l.edges → (get_or ends i d ≡ dock_in ends i) × IsOffset (get_or ends i d).offset
ready_dock l numbers lists ends ws entries i d are h =
    let long = are.end_count in
    let inside : i < length ends = omega (arith, h, long) in
    let same = get_or_default ends i d (dock_in [] 0) inside in
    (same, subst (λ (x : Dock). IsOffset x.offset) (sym same) (are.offsets i inside))

pub end_moved : (l : PlainLevel) (ws : List PlainLanes) (entries : List ChildAt) (s t : EdgeEnd) (a b : Dock) (m n : ℕ) (x : EndAt) → s ≡ t → a ≡ b → m ≡ n → IsEndEntry l ws entries s a m x → IsEndEntry l ws entries t b n x
end_moved l ws entries s t a b m n x es ea em is =
    subst (λ y. IsEndEntry l ws entries y b n x) es (subst (λ y. IsEndEntry l ws entries s y n x) ea (subst (λ k. IsEndEntry l ws entries s a k x) em is))

pub twice_within : (l : PlainLevel) (es : List LevelEdge) (e : ℕ) → es ≡ l.edges → e < length es → (2 * e < 2 * length l.edges) × (2 * e + 1 < 2 * length l.edges)
twice_within l es e q h = let same = ap length q in (omega (arith, h, same), omega (arith, h, same))

-- a self-loop's child
pub body_read : (l : PlainLevel) (entries : List ChildAt) (es : List LevelEdge) (e : ℕ) (d : LevelEdge) (x : ChildAt) → HaveBodies l entries → es ≡ l.edges → e < length es → x ≡ get_or entries (get_or es e d).source.child x → (x ≡ child_in entries (edge_at l e).source.child) × ((edge_at l e).source.child < length l.children)
body_read l entries es e d x are q h is =
    let at = edge_read l es e d q h in
    let inside = (are.level.edges e at.1).source.child in
    let moved : x ≡ get_or entries (edge_at l e).source.child x = is ∙ ap (λ (y : LevelEdge). get_or entries y.source.child x) at.0 in
    (entry_read entries (edge_at l e).source.child (length l.children) x moved are.entry_count inside, inside)

-- an edge's entry by what was read
pub loop_made : (l : PlainLevel) (entries : List ChildAt) (e north south north' south' : ℕ) (x : ChildAt) (v : LoopAt) → x ≡ child_in entries (edge_at l e).source.child → north' ≡ north → south' ≡ south
    → v.north ≡ height_by l.spacing x.north x.outline.height North north' → v.south ≡ height_by l.spacing x.north x.outline.height South south' → IsLoopIn v → IsLoopEntry l entries e north south v
loop_made l entries e north south north' south' x v is n_is s_is above below near =
    record {
      north_is = above ∙ ap (λ (y : ChildAt). height_by l.spacing y.north y.outline.height North north') is ∙ ap (height_by l.spacing (child_in entries (edge_at l e).source.child).north (child_in entries (edge_at l e).source.child).outline.height North) n_is;
      south_is = below ∙ ap (λ (y : ChildAt). height_by l.spacing y.north y.outline.height South south') is ∙ ap (height_by l.spacing (child_in entries (edge_at l e).source.child).north (child_in entries (edge_at l e).source.child).outline.height South) s_is;
      near = near;
    }

-- what is read past the last edge
abbrev pub no_edge : LevelEdge
no_edge = record { source = record { child = 0; port = None }; target = record { child = 0; port = None }; weight = 0 }

wider : (q : Point) → IsPlaceWithin (2 ^ 48) q → IsPlaceWithin (2 ^ 49) q
wider q w = record { x = wide q.x w.x; y = wide q.y w.y }
  where
    wide : (z : ℤ) → IsWithin (neg_ℤ (pos (2 ^ 48))) (pos (2 ^ 48)) z → IsWithin (neg_ℤ (pos (2 ^ 49))) (pos (2 ^ 49)) z
    wide z h = let a = h.above in let b = h.below in record { above = omega (arith, ints, a); below = omega (arith, ints, b) }

lane_kept : (z : ℤ) → IsIn z → to_z w64 (of_z w64 z) ≡ z
lane_kept z h = let a = h.above in let b = h.below in to_z-of_z w64 z (fits z a b)
  where
    fits : (x : ℤ) → neg_ℤ (pos (2 ^ 49)) ≤ℤ x → x ≤ℤ pos (2 ^ 49) → SFits w64 x
    fits x a b = omega (arith, ints, a, b)

-- an end by what was read
pub end_made : (l : PlainLevel) (ws : List PlainLanes) (entries : List ChildAt) (s : EdgeEnd) (dock : Dock) (number : ℕ) (c : Child) (x : ChildAt) (w : PlainLanes) (anchor : Point) (lane : ℤ) → c ≡ child_at l s.child → x ≡ child_in entries s.child → w ≡ lanes_at ws s.child → IsOffset dock.offset
    → anchor ≡ anchor_at c dock.side s.port (to_z w64 (of_z w64 dock.offset)) → IsPlaceWithin (2 ^ 48) anchor → lane ≡ height_or l.spacing x.north x.outline.height (lane_side_in w number) (lane_place_in w number) → IsIn lane
    → IsEndEntry l ws entries s dock number (record { dock = dock; anchor = anchor; lane = to_z w64 (of_z w64 lane) })
end_made l ws entries s dock number c x w anchor lane child entry lanes_are offset anchor_is near lane_is lane_in =
    record {
      dock_is = refl;
      anchor_is = anchor_is ∙ ap (anchor_at c dock.side s.port) (to_z-of_z w64 dock.offset (offset_fits dock.offset offset)) ∙ ap (λ y. anchor_at y dock.side s.port dock.offset) child;
      lane_is = lane_kept lane lane_in
          ∙ lane_is
          ∙ ap (λ (y : ChildAt). height_or l.spacing y.north y.outline.height (lane_side_in w number) (lane_place_in w number)) entry
          ∙ ap (λ y. height_or l.spacing (child_in entries s.child).north (child_in entries s.child).outline.height (lane_side_in y number) (lane_place_in y number)) lanes_are;
      near = record { anchor = wider anchor near; lane = subst IsIn (sym (lane_kept lane lane_in)) lane_in };
    }
