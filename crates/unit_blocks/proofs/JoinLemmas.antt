-- Names and offsets that were given stay as they are while others are given.
use Rattle.std.proofs.Common.{◌≡◌, ◌≢◌, ℕ, ◌<◌, ℤ, pos, ◌+ℤ◌, ◌-ℤ◌, List, length, get_or, set, arith, refl, sym, ◌∙◌, ap, inl, inr, ◌⊎◌, Option, Some, None, get_or-set_same, get_or-set_other}
use Rattle.std.proofs.lemmas.Int.{ints}
use Rattle.elk_layers.specs.Layered.{Plain, IsSound, link_at}
use Rattle.unit_blocks.specs.Blocks.{name_at, AreNames, IsEntered}
use Rattle.unit_blocks.specs.Constraints.{offset_at}
use Rattle.unit_blocks.specs.Entries.{AreLinksInto}
use Rattle.elk_layers.proofs.HeightLemmas.{height_below}
use Rattle.unit_blocks.specs.Joining.{name_for, offset_for, HasNameAndOffset, CanFollow, FollowBounds}
use Rattle.elk_layers.specs.Straight.{chosen_link, AreStraight}

-- the entry of a unit is none, or a link that begins elsewhere
abbrev pub BeginsElsewhere : Plain → Option ℕ → ℕ → Type 0
BeginsElsewhere l entry v = (k : ℕ) → entry ≡ Some k → (link_at l.links k).tail ≢ v

name_kept : (l : Plain) (names : List ℕ) (entry : Option ℕ) (u v x : ℕ) → BeginsElsewhere l entry v → name_for l (set names v x) entry u ≡ name_for l names entry u
name_kept l names None u v x other = refl
name_kept l names (Some k) u v x other = get_or-set_other names v (link_at l.links k).tail x 0 (other k refl)

offset_kept : (l : Plain) (offsets : List ℤ) (entry : Option ℕ) (v : ℕ) (z : ℤ) → BeginsElsewhere l entry v → offset_for l (set offsets v z) entry ≡ offset_for l offsets entry
offset_kept l offsets None v z other = refl
offset_kept l offsets (Some k) v z other =
    ap (λ o. (o +ℤ (link_at l.links k).tail_at) -ℤ (link_at l.links k).head_at) (get_or-set_other offsets v (link_at l.links k).tail z (pos 0) (other k refl))

-- a unit that was joined stays so when another is, from which no link leads to it
pub joined_stays : (l : Plain) (into : List (Option ℕ)) (names : List ℕ) (offsets : List ℤ) (u v x : ℕ) (z : ℤ) → u ≢ v → BeginsElsewhere l (get_or into u None) v → HasNameAndOffset l into names offsets u → HasNameAndOffset l into (set names v x) (set offsets v z) u
joined_stays l into names offsets u v x z ne other j =
    record {
      name_is = get_or-set_other names v u x 0 ne ∙ j.name_is ∙ sym (name_kept l names (get_or into u None) u v x other);
      offset_is = get_or-set_other offsets v u z (pos 0) ne ∙ j.offset_is ∙ sym (offset_kept l offsets (get_or into u None) v z other);
    }

-- a unit is joined by writing its name and offset
pub joined_here : (l : Plain) (into : List (Option ℕ)) (names : List ℕ) (offsets : List ℤ) (v : ℕ) → v < length names → v < length offsets → BeginsElsewhere l (get_or into v None) v
    → HasNameAndOffset l into (set names v (name_for l names (get_or into v None) v)) (set offsets v (offset_for l offsets (get_or into v None))) v
joined_here l into names offsets v hn ho other =
    record {
      name_is = get_or-set_same names v (name_for l names (get_or into v None) v) 0 hn ∙ sym (name_kept l names (get_or into v None) v v (name_for l names (get_or into v None) v) other);
      offset_is = get_or-set_same offsets v (offset_for l offsets (get_or into v None)) (pos 0) ho ∙ sym (offset_kept l offsets (get_or into v None) v (offset_for l offsets (get_or into v None)) other);
    }

-- when all units are joined, the names are the blocks' names
pub names_from : (l : Plain) (rows : List (List ℕ)) (chosen : List ℕ) (into : List (Option ℕ)) (names : List ℕ) (offsets : List ℤ) → IsSound l → AreStraight l rows chosen → AreLinksInto l chosen (length chosen) into → length names ≡ length l.units → ((u : ℕ) → u < length l.units → HasNameAndOffset l into names offsets u) → AreNames l chosen names
names_from l rows chosen into names offsets sound straight are long all =
    record {
      as_many = long;
      joined = λ j h.
          let s = sound.links_are _ (straight.known j h) in
          sym ((all _ s.head).name_is ∙ ap (λ e. name_for l names e (chosen_link l chosen j).head) (are.there j h));
      first = λ u h. by_entry u (get_or into u None) refl (all u h);
    }
  where
    by_entry : (u : ℕ) (entry : Option ℕ) → get_or into u None ≡ entry → HasNameAndOffset l into names offsets u → (name_at names u ≡ u) ⊎ IsEntered l chosen u
    by_entry u None e j = inl (j.name_is ∙ ap (λ o. name_for l names o u) e)
    by_entry u (Some k) e j = let p = are.only u k e in inr (record { number = p.0; within = p.1; head_is = p.3 })

-- and chosen links are horizontal at the offsets
pub horizontal_from : (l : Plain) (rows : List (List ℕ)) (chosen : List ℕ) (into : List (Option ℕ)) (names : List ℕ) (offsets : List ℤ) → IsSound l → AreStraight l rows chosen → AreLinksInto l chosen (length chosen) into → ((u : ℕ) → u < length l.units → HasNameAndOffset l into names offsets u)
    → (j : ℕ) → j < length chosen → offset_at offsets (chosen_link l chosen j).tail +ℤ (chosen_link l chosen j).tail_at ≡ offset_at offsets (chosen_link l chosen j).head +ℤ (chosen_link l chosen j).head_at
horizontal_from l rows chosen into names offsets sound straight are all j h =
    let s = sound.links_are _ (straight.known j h) in
    let e : offset_at offsets (chosen_link l chosen j).head ≡ (offset_at offsets (chosen_link l chosen j).tail +ℤ (chosen_link l chosen j).tail_at) -ℤ (chosen_link l chosen j).head_at =
    (all _ s.head).offset_is ∙ ap (offset_for l offsets) (are.there j h) in
    omega (arith, ints, e)

-- an offset along a link fits
pub along_fits : (l : Plain) (offsets : List ℤ) (k : ℕ) → IsSound l → CanFollow l offsets k → FollowBounds l offsets k
along_fits l offsets k sound can =
    let s = sound.links_are k can.known in
    let t = height_below l sound _ s.tail in
    let h = height_below l sound _ s.head in
    let a = s.tail_at in
    let b = s.head_at in
    record {
      low = can.low;
      high = can.high;
      tail_low = a.0;
      tail_high = omega (arith, ints, a.1, t);
      head_low = b.0;
      head_high = omega (arith, ints, b.1, h);
    }
