-- Lists that are read item by item.
use Rattle.std.proofs.Common.{◌≡◌, ℕ, ◌+◌, ◌<◌, ◌≤◌, length, get_or, drop, List, [], ◌∷◌, ◌++◌, Option, Some, None, option_map, refl, sym, ap, ◌∙◌, append_assoc, append-nil}
use Rattle.std.specs.Prelude.{option_and_then}
use Rattle.std.proofs.lemmas.List.{drop_more, drop_all}
use Rattle.serde_json.specs.Data.{Data, Items, no_items, item}
use Rattle.serde_json.specs.View.{view, items_view}
use Rattle.serde_json.specs.declared.value.Value.{Value}
use Rattle.elk_write.specs.Reading.{all_in}

pub push_each : {A : Type 0} (done : List A) (x : A) (o : Option (List A)) → option_map (λ xs. (done ++ x ∷ []) ++ xs) o ≡ option_map (λ xs. done ++ xs) (option_map (λ xs. x ∷ xs) o)
push_each done x None = refl
push_each done x (Some xs) = ap (λ ys. Some ys) (append_assoc done (x ∷ []) xs)

-- one item more, which is read
pub reads_more : {A : Type 0} (read : Data → Option A) (done : List A) (x : A) (d : Data) (ds : Items) → read d ≡ Some x
    → option_map (λ xs. (done ++ x ∷ []) ++ xs) (all_in read ds) ≡ option_map (λ xs. done ++ xs) (all_in read (item d ds))
reads_more read done x d ds e =
    push_each done x (all_in read ds)
    ∙ ap (λ o. option_map (λ xs. done ++ xs) (option_and_then (λ y. option_map (λ xs. y ∷ xs) (all_in read ds)) o)) (sym e)

-- an item that can't be read
pub reads_none : {A : Type 0} (read : Data → Option A) (done : List A) (d : Data) (ds : Items) → read d ≡ None
    → option_map (λ xs. done ++ xs) (all_in read (item d ds)) ≡ None
reads_none read done d ds e = ap (λ o. option_map (λ xs. done ++ xs) (option_and_then (λ y. option_map (λ xs. y ∷ xs) (all_in read ds)) o)) e

-- all have been read
pub reads_end : {A : Type 0} (read : Data → Option A) (done : List A) → option_map (λ xs. done ++ xs) (all_in read no_items) ≡ Some done
reads_end read done = ap (λ ys. Some ys) (append-nil done)

-- ---- a loop over values

first_of : (vs : List Value) (i : ℕ) (v : Value) → i < length vs → v ≡ get_or vs i v → v ∷ drop (i + 1) vs ≡ drop i vs
first_of vs i v h is = sym (drop_more vs i v h ∙ ap (λ x. x ∷ drop (i + 1) vs) (sym is))

pub next_read : {A : Type 0} (read : Data → Option A) (vs : List Value) (i : ℕ) (v : Value) (done next : List A) (x : A) (all : Option (List A)) → i < length vs → v ≡ get_or vs i v → read (view v) ≡ Some x
    → next ≡ done ++ x ∷ [] → option_map (λ xs. done ++ xs) (all_in read (items_view (drop i vs))) ≡ all
    → option_map (λ xs. next ++ xs) (all_in read (items_view (drop (i + 1) vs))) ≡ all
next_read read vs i v done next x all h is found push before =
    ap (λ l. option_map (λ xs. l ++ xs) (all_in read (items_view (drop (i + 1) vs)))) push
    ∙ reads_more read done x (view v) (items_view (drop (i + 1) vs)) found
    ∙ ap (λ l. option_map (λ xs. done ++ xs) (all_in read (items_view l))) (first_of vs i v h is)
    ∙ before

pub none_read : {A : Type 0} (read : Data → Option A) (vs : List Value) (i : ℕ) (v : Value) (done : List A) (all : Option (List A)) → i < length vs → v ≡ get_or vs i v → read (view v) ≡ None
    → option_map (λ xs. done ++ xs) (all_in read (items_view (drop i vs))) ≡ all → None ≡ all
none_read read vs i v done all h is missing before =
    sym (reads_none read done (view v) (items_view (drop (i + 1) vs)) missing)
    ∙ ap (λ l. option_map (λ xs. done ++ xs) (all_in read (items_view l))) (first_of vs i v h is)
    ∙ before

pub all_read : {A : Type 0} (read : Data → Option A) (vs : List Value) (i : ℕ) (done : List A) (all : Option (List A)) → length vs ≤ i
    → option_map (λ xs. done ++ xs) (all_in read (items_view (drop i vs))) ≡ all → Some done ≡ all
all_read read vs i done all past before =
    sym (reads_end read done) ∙ ap (λ l. option_map (λ xs. done ++ xs) (all_in read (items_view l))) (sym (drop_all i vs past)) ∙ before
