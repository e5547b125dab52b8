-- Lists of values, as they grow.
use Rattle.std.proofs.Common.{◌≡◌, ℕ, suc, ◌+◌, ◌<◌, List, [], ◌∷◌, ◌++◌, length, get_or, take, map, refl, sym, ap, ◌∙◌, string_bytes, String, Global}
use Rattle.std.specs.Prelude.{pos}
use Rattle.std.proofs.lemmas.List.{take_more, map-append}
use Rattle.std.specs.BTreeMap.{insert_entry}
use Rattle.std.specs.String.{string_cmp}
use Rattle.serde_json.specs.Data.{Items, no_items, item, put}
use Rattle.serde_json.specs.View.{view, items_view, members_view}
use Rattle.serde_json.specs.declared.value.Value.{Value}
use Rattle.serde_json.proofs.Views.{Entry, members_view-insert_entry}
use Rattle.elk_json.specs.Elements.{items_list}
use Rattle.elk_write.specs.Values.{whole}

pub length_items : (vs : List Value) → length (items_list (items_view vs)) ≡ length vs
length_items [] = refl
length_items (v ∷ vs) = ap suc (length_items vs)

-- items before others
abbrev pub before : Items → Items → Items
before no_items es = es
before (item d ds) es = item d (before ds es)

pub before_push : (vs : List Value) (v : Value) (es : Items) → before (items_view (vs ++ v ∷ [])) es ≡ before (items_view vs) (item (view v) es)
before_push [] v es = refl
before_push (x ∷ vs) v es = ap (item (view x)) (before_push vs v es)

pub before_none : (ds : Items) → before ds no_items ≡ ds
before_none no_items = refl
before_none (item d ds) = ap (item d) (before_none ds)

pub view_insert : (es : List Entry) (k : String Global) (v : Value) → members_view (insert_entry string_cmp es k v) ≡ put (string_bytes k) (view v) (members_view es)
view_insert es k v = members_view-insert_entry es k v

-- one number more is written
pub wholes_next : (xs : List ℕ) (i : ℕ) (old new : List Value) (v : Value) → i < length xs → map view old ≡ map (λ n. whole (pos n)) (take i xs) → new ≡ old ++ v ∷ [] → view v ≡ whole (pos (get_or xs i 0))
    → map view new ≡ map (λ n. whole (pos n)) (take (i + 1) xs)
wholes_next xs i old new v h before push is =
    ap (map view) push
    ∙ map-append view old (v ∷ [])
    ∙ ap (λ ds. ds ++ view v ∷ []) before
    ∙ ap (λ d. map (λ n. whole (pos n)) (take i xs) ++ d ∷ []) is
    ∙ sym (map-append (λ n. whole (pos n)) (take i xs) (get_or xs i 0 ∷ []))
    ∙ ap (map (λ n. whole (pos n))) (sym (take_more xs i 0 h))
