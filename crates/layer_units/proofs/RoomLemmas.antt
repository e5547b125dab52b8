-- Units and pins, as the code computes them.
use Rattle.std.proofs.Common.{◌≡◌, ℕ, ◌+◌, ◌*◌, ◌<◌, ◌^◌, Bool, true, false, List, length, ℤ, pos, ◌+ℤ◌, ◌-ℤ◌, refl, ◌∙◌, ap, arith, SFits, w64, to_z, of_z}
use Rattle.std.specs.Prelude.{Option}
use Rattle.std.proofs.lemmas.Int.{ints, to_z-of_z}
use Rattle.drawing_types.specs.Ranges.{IsWithin}
use Rattle.elk_layers.specs.declared.units.Unit.{Unit as LayerUnit}
use Rattle.elk_layers.specs.declared.units.Link.{Link}
use Rattle.level_model.specs.declared.table.Table.{Table}
use Rattle.level_model.specs.Level.{PlainLevel}
use Rattle.dock_table.specs.Bounds.{IsEndIn, IsIn}
use Rattle.level_model.specs.Table.{end_of}
use Rattle.layer_units.specs.Reading.{IsReadable}

pub same_unit : (a b : LayerUnit) → a.layer ≡ b.layer → a.child ≡ b.child → a.height ≡ b.height → a.body_top ≡ b.body_top → a.body_height ≡ b.body_height → a.north ≡ b.north → a.south ≡ b.south → a ≡ b
same_unit a b layer child height top body north south =
    let by_layer : ℕ → LayerUnit = λ z. record { layer = z; child = a.child; height = a.height; body_top = a.body_top; body_height = a.body_height; north = a.north; south = a.south } in
    let by_child : Option ℕ → LayerUnit = λ z. record { layer = b.layer; child = z; height = a.height; body_top = a.body_top; body_height = a.body_height; north = a.north; south = a.south } in
    let by_height : ℤ → LayerUnit = λ z. record { layer = b.layer; child = b.child; height = z; body_top = a.body_top; body_height = a.body_height; north = a.north; south = a.south } in
    let by_top : ℤ → LayerUnit = λ z. record { layer = b.layer; child = b.child; height = b.height; body_top = z; body_height = a.body_height; north = a.north; south = a.south } in
    let by_body : ℤ → LayerUnit = λ z. record { layer = b.layer; child = b.child; height = b.height; body_top = b.body_top; body_height = z; north = a.north; south = a.south } in
    let by_north : ℕ → LayerUnit = λ z. record { layer = b.layer; child = b.child; height = b.height; body_top = b.body_top; body_height = b.body_height; north = z; south = a.south } in
    let by_south : ℕ → LayerUnit = λ z. record { layer = b.layer; child = b.child; height = b.height; body_top = b.body_top; body_height = b.body_height; north = b.north; south = z } in
    ap by_layer layer ∙ ap by_child child ∙ ap by_height height ∙ ap by_top top ∙ ap by_body body ∙ ap by_north north ∙ ap by_south south

-- a number that is handed on
pub small_read : (t x : ℤ) → t ≡ x → IsWithin (pos 0) (pos (2 ^ 40)) t → to_z w64 (of_z w64 t) ≡ x
small_read t x e w = let wa = w.above in let wb = w.below in let f : SFits w64 t = omega (arith, ints, wa, wb) in to_z-of_z w64 t f ∙ e

pub length_read : (t : ℤ) → IsWithin (pos 0) (pos (2 ^ 49)) t → to_z w64 (of_z w64 t) ≡ t
length_read t w = let wa = w.above in let wb = w.below in let f : SFits w64 t = omega (arith, ints, wa, wb) in to_z-of_z w64 t f

pub near_read : (t : ℤ) → IsIn t → to_z w64 (of_z w64 t) ≡ t
near_read t w = let wa = w.above in let wb = w.below in let f : SFits w64 t = omega (arith, ints, wa, wb) in to_z-of_z w64 t f

-- the height of a unit
pub height_sum : (t h b x y : ℤ) → t ≡ x → b ≡ y → IsWithin (pos 0) (pos (2 ^ 40)) t → IsWithin (pos 0) (pos (2 ^ 49)) h → IsWithin (pos 0) (pos (2 ^ 40)) b
    → to_z w64 (of_z w64 (to_z w64 (of_z w64 (to_z w64 (of_z w64 t) +ℤ to_z w64 (of_z w64 h))) +ℤ to_z w64 (of_z w64 b))) ≡ x +ℤ h +ℤ y
height_sum t h b x y e f tw hw bw =
    let ta = tw.above in
    let tb = tw.below in
    let ha = hw.above in
    let hb = hw.below in
    let ba = bw.above in
    let bb = bw.below in
    let ft : SFits w64 t = omega (arith, ints, ta, tb) in
    let fh : SFits w64 h = omega (arith, ints, ha, hb) in
    let fb : SFits w64 b = omega (arith, ints, ba, bb) in
    let fs : SFits w64 (t +ℤ h) = omega (arith, ints, ta, tb, ha, hb) in
    let fu : SFits w64 (t +ℤ h +ℤ b) = omega (arith, ints, ta, tb, ha, hb, ba, bb) in
    rw (to_z-of_z w64 t ft, to_z-of_z w64 h fh, to_z-of_z w64 b fb, to_z-of_z w64 (t +ℤ h) fs, to_z-of_z w64 (t +ℤ h +ℤ b) fu, e, f) refl

pub same_link : (a b : Link) → a.edge ≡ b.edge → a.tail ≡ b.tail → a.head ≡ b.head → a.tail_rank ≡ b.tail_rank → a.head_rank ≡ b.head_rank → a.tail_at ≡ b.tail_at → a.head_at ≡ b.head_at → a ≡ b
same_link a b edge tail head tail_rank head_rank tail_at head_at =
    let by_edge : ℕ → Link = λ z. record { edge = z; tail = a.tail; head = a.head; tail_rank = a.tail_rank; head_rank = a.head_rank; tail_at = a.tail_at; head_at = a.head_at } in
    let by_tail : ℕ → Link = λ z. record { edge = b.edge; tail = z; head = a.head; tail_rank = a.tail_rank; head_rank = a.head_rank; tail_at = a.tail_at; head_at = a.head_at } in
    let by_head : ℕ → Link = λ z. record { edge = b.edge; tail = b.tail; head = z; tail_rank = a.tail_rank; head_rank = a.head_rank; tail_at = a.tail_at; head_at = a.head_at } in
    let by_tail_rank : ℕ → Link = λ z. record { edge = b.edge; tail = b.tail; head = b.head; tail_rank = z; head_rank = a.head_rank; tail_at = a.tail_at; head_at = a.head_at } in
    let by_head_rank : ℕ → Link = λ z. record { edge = b.edge; tail = b.tail; head = b.head; tail_rank = b.tail_rank; head_rank = z; tail_at = a.tail_at; head_at = a.head_at } in
    let by_tail_at : ℤ → Link = λ z. record { edge = b.edge; tail = b.tail; head = b.head; tail_rank = b.tail_rank; head_rank = b.head_rank; tail_at = z; head_at = a.head_at } in
    let by_head_at : ℤ → Link = λ z. record { edge = b.edge; tail = b.tail; head = b.head; tail_rank = b.tail_rank; head_rank = b.head_rank; tail_at = b.tail_at; head_at = z } in
    ap by_edge edge ∙ ap by_tail tail ∙ ap by_head head ∙ ap by_tail_rank tail_rank ∙ ap by_head_rank head_rank ∙ ap by_tail_at tail_at ∙ ap by_head_at head_at

-- the height of an anchor
pub pin_sub : (r y : ℤ) → IsWithin (pos 0) (pos (2 ^ 40)) r → IsIn y → SFits w64 (to_z w64 (of_z w64 r) -ℤ to_z w64 (of_z w64 y))
pin_sub r y rw_in yw =
    let ra = rw_in.above in
    let rb = rw_in.below in
    let ya = yw.above in
    let yb = yw.below in
    let fr : SFits w64 r = omega (arith, ints, ra, rb) in
    let fs : SFits w64 (r -ℤ y) = omega (arith, ints, ra, rb, ya, yb) in
    rw (to_z-of_z w64 r fr, near_read y yw) fs

pub pin_add : (r y a : ℤ) → IsWithin (pos 0) (pos (2 ^ 40)) r → IsIn y → IsIn a → SFits w64 (to_z w64 (of_z w64 (to_z w64 (of_z w64 r) -ℤ to_z w64 (of_z w64 y))) +ℤ to_z w64 (of_z w64 a))
pin_add r y a rw_in yw aw =
    let ra = rw_in.above in
    let rb = rw_in.below in
    let ya = yw.above in
    let yb = yw.below in
    let aa = aw.above in
    let ab = aw.below in
    let fr : SFits w64 r = omega (arith, ints, ra, rb) in
    let fs : SFits w64 (r -ℤ y) = omega (arith, ints, ra, rb, ya, yb) in
    let fa : SFits w64 ((r -ℤ y) +ℤ a) = omega (arith, ints, ra, rb, ya, yb, aa, ab) in
    rw (to_z-of_z w64 r fr, near_read y yw, near_read a aw, to_z-of_z w64 (r -ℤ y) fs) fa

pub pin_value : (r y a : ℤ) → IsWithin (pos 0) (pos (2 ^ 40)) r → IsIn y → IsIn a
    → to_z w64 (of_z w64 (to_z w64 (of_z w64 (to_z w64 (of_z w64 r) -ℤ to_z w64 (of_z w64 y))) +ℤ to_z w64 (of_z w64 a))) ≡ (r -ℤ y) +ℤ a
pin_value r y a rw_in yw aw =
    let ra = rw_in.above in
    let rb = rw_in.below in
    let ya = yw.above in
    let yb = yw.below in
    let aa = aw.above in
    let ab = aw.below in
    let fr : SFits w64 r = omega (arith, ints, ra, rb) in
    let fs : SFits w64 (r -ℤ y) = omega (arith, ints, ra, rb, ya, yb) in
    let fa : SFits w64 ((r -ℤ y) +ℤ a) = omega (arith, ints, ra, rb, ya, yb, aa, ab) in
    rw (to_z-of_z w64 r fr, near_read y yw, near_read a aw, to_z-of_z w64 (r -ℤ y) fs, to_z-of_z w64 ((r -ℤ y) +ℤ a) fa) refl

-- what a table gives for an end lies near 0, and its dock is that of a child
pub end_near : (l : PlainLevel) (t : Table) (marks : List Bool) (e : ℕ) (at_source : Bool) → IsReadable l t marks → e < length l.edges → IsEndIn (end_of t e at_source)
end_near l t marks e true is h = let many = is.as_many_ends in is.numbers.ends (2 * e) (omega (arith, many, h))
end_near l t marks e false is h = let many = is.as_many_ends in is.numbers.ends (2 * e + 1) (omega (arith, many, h))

pub end_dock : (l : PlainLevel) (t : Table) (marks : List Bool) (e : ℕ) (at_source : Bool) → IsReadable l t marks → e < length l.edges → (end_of t e at_source).dock.node < length t.children
end_dock l t marks e true is h = let many = is.as_many_ends in is.docks (2 * e) (omega (arith, many, h))
end_dock l t marks e false is h = let many = is.as_many_ends in is.docks (2 * e + 1) (omega (arith, many, h))
