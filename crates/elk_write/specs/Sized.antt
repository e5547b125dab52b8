-- Values whose numbers are read back as they are written.
use Rattle.std.specs.Prelude.{◌^◌, ◌<◌, ⊤, pos, negsuc}
use Rattle.serde_json.specs.Data.{Num, unsigned, negative, float, Data, null, boolean, number, string, array, object}
use Rattle.serde_json.specs.Data.{Items, no_items, item, Members, no_members, member}

-- an integer of 64 bits; a float is not asked
abbrev pub IsSized : Num → Type 0
IsSized (unsigned n) = n < 2 ^ 64
IsSized (negative (pos n)) = ⊥
IsSized (negative (negsuc n)) = n < 2 ^ 63
IsSized (float x) = ⊤

-- each number of the value
abbrev mutual
  pub AreSized : Data → Type 0
  AreSized null = ⊤
  AreSized (boolean b) = ⊤
  AreSized (number n) = IsSized n
  AreSized (string s) = ⊤
  AreSized (array ds) = AreItemsSized ds
  AreSized (object ms) = AreMembersSized ms

  pub AreItemsSized : Items → Type 0
  AreItemsSized no_items = ⊤
  AreItemsSized (item d ds) = AreSized d × AreItemsSized ds

  pub AreMembersSized : Members → Type 0
  AreMembersSized no_members = ⊤
  AreMembersSized (member k d ms) = AreSized d × AreMembersSized ms
