-- Rows that are copied one after the other.
use Rattle.std.proofs.Common.{◌≡◌, ◌∙◌, ◌+◌, ◌<◌, ℕ, List, [], ◌∷◌, ◌++◌, length, take, map, get_or, ap, ap₂, sym, arith}
use Rattle.std.proofs.Math.ListN.{get_or-map}
use Rattle.std.proofs.lemmas.List.{length-map, map-append, take_more}
use Rattle.std.specs.Prelude.{Vec}
use Rattle.std.specs.declared.alloc.Global.{Global}

abbrev pub plain_rows : List (Vec ℕ Global) → List (List ℕ)
plain_rows rows = map (λ row. row.items) rows

pub row_more : (xs ys zs ws : List (Vec ℕ Global)) (x v : Vec ℕ Global) (i : ℕ) → i < length ws → ws ≡ zs → v ≡ get_or ws i v → ys ≡ xs ++ x ∷ [] → x.items ≡ v.items
    → plain_rows xs ≡ take i (plain_rows zs) → plain_rows ys ≡ take (i + 1) (plain_rows zs)
row_more xs ys zs ws x v i less same is pushed copied before =
    let long = length-map ws (λ (w : Vec ℕ Global). w.items) in
    ap plain_rows pushed
    ∙ map-append (λ (w : Vec ℕ Global). w.items) xs (x ∷ [])
    ∙ ap₂ (λ (us : List (List ℕ)) (u : List ℕ). us ++ u ∷ []) (before ∙ ap (λ us. take i (plain_rows us)) (sym same))
    (copied ∙ ap (λ (w : Vec ℕ Global). w.items) is ∙ sym (get_or-map (λ (w : Vec ℕ Global). w.items) ws i v))
    ∙ sym (take_more (plain_rows ws) i v.items (omega (arith, long, less)))
    ∙ ap (λ us. take (i + 1) (plain_rows us)) same
