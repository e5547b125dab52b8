-- What rules 2 and 6 ask: no number with a fraction, and as many levels as before.
use Rattle.std.proofs.Common.{◌≡◌, ℕ, suc, List, max, Bool, true, false, not, ◌||◌, bytes_eq, if◌then◌else◌, refl, sym, ap, ◌∙◌}
use Rattle.std.proofs.lemmas.Bool.{and_from, or_parts}
use Rattle.std.specs.Prelude.{codes}
use Rattle.serde_json.specs.Data.{Data, number, array, object, Items, no_items, item, Members, no_members, member}
use Rattle.serde_json.specs.Written.{has_float, items_have_float, members_have_float}
use Rattle.elk_json.specs.Members.{has_children}
use Rattle.elk_json.specs.Whole.{all_whole, items_whole, members_whole}
use Rattle.elk_json.specs.Ranges.{levels, levels_below, levels_within, levels_among}
use Rattle.elk_write.specs.Keys.{is_node_key}
use Rattle.elk_write.specs.Strip.{strip, strip_node, strip_members, strip_member, strip_children}
use Rattle.elk_write.proofs.Shape.{equal_bytes, stays_children}

-- ---- no fraction

mutual
  pub whole_float : (d : Data) → has_float d ≡ false → all_whole d ≡ true
  whole_float (number n) h = ap not h
  whole_float (array ds) h = whole_items ds h
  whole_float (object ms) h = whole_members ms h
  whole_float d h = refl

  whole_items : (ds : Items) → items_have_float ds ≡ false → items_whole ds ≡ true
  whole_items no_items h = refl
  whole_items (item d ds) h = and_from (all_whole d) (items_whole ds) (whole_float d (or_parts (has_float d) (items_have_float ds) h).0) (whole_items ds (or_parts (has_float d) (items_have_float ds) h).1)

  whole_members : (ms : Members) → members_have_float ms ≡ false → members_whole ms ≡ true
  whole_members no_members h = refl
  whole_members (member k d ms) h = and_from (all_whole d) (members_whole ms) (whole_float d (or_parts (has_float d) (members_have_float ms) h).0) (whole_members ms (or_parts (has_float d) (members_have_float ms) h).1)

-- ---- levels

-- a member that goes is not that of the children
gone_other : (b : Bool) (gone : List ℕ → Bool) (k : List ℕ) → gone (codes "children") ≡ false → gone k ≡ true → bytes_eq k (codes "children") ≡ b → bytes_eq k (codes "children") ≡ false
gone_other true gone k stays goes is = let bad : true ≡ false = sym goes ∙ ap gone (equal_bytes k (codes "children") is) ∙ stays in absurd (cc)
gone_other false gone k stays goes is = is

below_if : (b : Bool) (gone : List ℕ → Bool) (k : List ℕ) (d : Data) (ms : Members) → gone (codes "children") ≡ false → gone k ≡ b
    → (bytes_eq k (codes "children") ≡ true → levels_within (strip_member k d) ≡ levels_within d) → levels_below (strip_members gone ms) ≡ levels_below ms
    → levels_below (strip_members gone (member k d ms)) ≡ levels_below (member k d ms)
below_if true gone k d ms stays is one rest = rw (is, gone_other (bytes_eq k (codes "children")) gone k stays is refl) rest
below_if false gone k d ms stays is one rest = rw is (kept_if (bytes_eq k (codes "children")) refl)
  where
    kept_if : (b : Bool) → bytes_eq k (codes "children") ≡ b
        → (if bytes_eq k (codes "children") then levels_within (strip_member k d) else levels_below (strip_members gone ms)) ≡ (if bytes_eq k (codes "children") then levels_within d else levels_below ms)
    kept_if true same = rw same (one same)
    kept_if false same = rw same rest

mutual
  strip_levels : (d : Data) (root : Bool) → levels (strip_node root d) ≡ levels d
  strip_levels (object ms) root = strip_below ms (is_node_key (root || has_children (object ms))) (stays_children (root || has_children (object ms)))
  strip_levels d root = refl

  strip_below : (ms : Members) (gone : List ℕ → Bool) → gone (codes "children") ≡ false → levels_below (strip_members gone ms) ≡ levels_below ms
  strip_below no_members gone stays = refl
  strip_below (member k d ms) gone stays = below_if (gone k) gone k d ms stays refl (strip_within d k) (strip_below ms gone stays)

  strip_within : (d : Data) (k : List ℕ) → bytes_eq k (codes "children") ≡ true → levels_within (strip_member k d) ≡ levels_within d
  strip_within (array ds) k is = rw is (strip_among ds)
  strip_within d k is = refl

  strip_among : (ds : Items) → levels_among (strip_children ds) ≡ levels_among ds
  strip_among no_items = refl
  strip_among (item d ds) = ap (λ n. max (suc n) (levels_among (strip_children ds))) (strip_levels d false) ∙ ap (λ n. max (suc (levels d)) n) (strip_among ds)

pub same_levels : (v w : Data) → strip w ≡ strip v → levels w ≡ levels v
same_levels v w h = sym (strip_levels w true) ∙ ap levels h ∙ strip_levels v true
