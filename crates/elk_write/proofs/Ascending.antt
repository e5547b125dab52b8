-- The keys of a text ascend where those of its value do.
use Rattle.std.proofs.Common.{◌≡◌, ℕ, List, [], ◌∷◌, ◌++◌, sym, ◌∙◌, subst}
use Rattle.json.specs.Json as json
use Rattle.json.specs.Lex.{tokens}
use Rattle.json.specs.Print.{print}
use Rattle.serde_json.specs.Data.{Data, null, boolean, number, string, array, object, Items, no_items, item, Members, no_members, member}
use Rattle.serde_json.specs.Written.{IsInOrder, blank, blank_items, blank_members, outline, items_outline, members_outline}
use Rattle.elk_json.specs.Keyed.{IsBelow, IsKeyed, AreItemsKeyed, AreMembersKeyed}
use Rattle.elk_write.specs.Text.{IsBelowKeys, DoKeysAscend, DoItemsAscend, DoMembersAscend, HasAscendingKeys}
use Rattle.elk_write.proofs.LineFeed.{same_tokens}

-- ---- from the value to its outline

below_outline : (k : List ℕ) (ms : Members) → IsBelow k ms → IsBelowKeys k (members_outline ms)
below_outline k no_members h = tt
below_outline k (member l d ms) h = (h.0, below_outline k ms h.1)

mutual
  ascends_outline : (d : Data) → IsKeyed d → DoKeysAscend (outline d)
  ascends_outline null h = tt
  ascends_outline (boolean b) h = tt
  ascends_outline (number n) h = tt
  ascends_outline (string s) h = tt
  ascends_outline (array ds) h = items_outlined ds h
  ascends_outline (object ms) h = members_outlined ms h

  items_outlined : (ds : Items) → AreItemsKeyed ds → DoItemsAscend (items_outline ds)
  items_outlined no_items h = tt
  items_outlined (item d ds) h = (ascends_outline d h.0, items_outlined ds h.1)

  members_outlined : (ms : Members) → AreMembersKeyed ms → DoMembersAscend (members_outline ms)
  members_outlined no_members h = tt
  members_outlined (member k d ms) h = (below_outline k ms h.0, ascends_outline d h.1, members_outlined ms h.2)

-- ---- a text without its floats has the same keys

below_blank : (k : List ℕ) (ms : json.Members) → IsBelowKeys k (blank_members ms) → IsBelowKeys k ms
below_blank k json.no_members h = tt
below_blank k (json.member l j ms) h = (h.0, below_blank k ms h.1)

mutual
  ascends_blank : (j : json.Json) → DoKeysAscend (blank j) → DoKeysAscend j
  ascends_blank json.null h = tt
  ascends_blank (json.boolean b) h = tt
  ascends_blank (json.number s) h = tt
  ascends_blank (json.string s) h = tt
  ascends_blank (json.array js) h = items_blank js h
  ascends_blank (json.object ms) h = members_blank ms h

  items_blank : (js : json.Items) → DoItemsAscend (blank_items js) → DoItemsAscend js
  items_blank json.no_items h = tt
  items_blank (json.item j js) h = (ascends_blank j h.0, items_blank js h.1)

  members_blank : (ms : json.Members) → DoMembersAscend (blank_members ms) → DoMembersAscend ms
  members_blank json.no_members h = tt
  members_blank (json.member k j ms) h = (below_blank k ms h.0, ascends_blank j h.1, members_blank ms h.2)

-- the text of a value and a line feed
pub text_ascends : (text bytes : List ℕ) (d : Data) → IsInOrder text d → text ≡ print (tokens text) → bytes ≡ text ++ 10 ∷ [] → IsKeyed d → HasAscendingKeys bytes
text_ascends text bytes d order compact is keyed =
    subst HasAscendingKeys (sym is)
    (record {
      tree = order.0;
      spells = same_tokens text d order compact ∙ order.1;
      ascending = ascends_blank order.0 (subst DoKeysAscend (sym order.2) (ascends_outline d keyed));
    })
