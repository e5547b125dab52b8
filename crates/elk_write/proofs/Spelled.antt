-- The tokens of the ids of edges, one after the other.
use Rattle.std.proofs.Common.{◌≡◌, ℕ, List, ◌∷◌, ◌++◌, Option, Some, None, refl}
use Rattle.std.specs.Prelude.{slice_get}
use Rattle.serde_json.specs.Data.{Data}
use Rattle.serde_json.specs.View.{items_of}
use Rattle.elk_doc.specs.declared.document.Edge.{Edge}
use Rattle.elk_doc.specs.Document.{Document}
use Rattle.elk_write.specs.Values.{edge_id, edge_ids}
use Rattle.elk_write.specs.Tokens.{tokens_of_items, id_tokens}

id_step : (o : Option Edge) (ds : List Data) → tokens_of_items (items_of (edge_id o ++ ds)) ≡ id_tokens o ++ tokens_of_items (items_of ds)
id_step None ds = refl
id_step (Some e) ds = refl

pub ids_step : (doc : Document) (n : ℕ) (ns : List ℕ) → tokens_of_items (items_of (edge_ids doc (n ∷ ns))) ≡ id_tokens (slice_get doc.edges n) ++ tokens_of_items (items_of (edge_ids doc ns))
ids_step doc n ns = id_step (slice_get doc.edges n) (edge_ids doc ns)
