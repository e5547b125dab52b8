-- A drawing that elements give for a document they give for each that differs in the places of ports alone.
use Rattle.std.proofs.Common.{◌≡◌, ℕ, zero, suc, ◌+◌, List, [], ◌∷◌, length, map, Bool, not, ◌&&◌, Option, Some, None, option_map, if◌then◌else◌, refl, sym, ap, ◌∙◌}
use Rattle.std.specs.Prelude.{option_and_then, codes, slice_get, slice_index_or, unwrap_or, ◌==◌, nat_lt}
use Rattle.std.specs.List.{list_all}
use Rattle.serde_json.specs.Data.{Data}
use Rattle.serde_json.specs.Find.{get}
use Rattle.elk_doc.specs.declared.document.Node.{Node}
use Rattle.elk_doc.specs.declared.document.Port.{Port}
use Rattle.elk_doc.specs.declared.document.Edge.{Edge as DocEdge}
use Rattle.elk_doc.specs.declared.document.End.{End}
use Rattle.elk_doc.specs.declared.document.End.TheVariants.{Node as AtNode, Port as AtPort}
use Rattle.elk_doc.specs.declared.document.LevelOptions.{LevelOptions}
use Rattle.elk_doc.specs.declared.drawing.Placed.{Placed}
use Rattle.elk_doc.specs.Document.{Document, edge_at, no_node, no_port, no_edge}
use Rattle.elk_doc.specs.Numbers.{count_below}
use Rattle.elk_doc.specs.Level.{is_number, is_edge_of, level_of_edge, node_of_end, source_node, target_node, is_loop}
use Rattle.elk_doc.specs.Fits.{child_count, edge_count}
use Rattle.elk_json.specs.Elements.{Element}
use Rattle.elk_json.specs.Members.{is_node, is_edge}
use Rattle.elk_json.specs.Ends.{is_same_id}
use Rattle.elk_json.specs.Members.{to_id}
use Rattle.std.specs.Prelude.{filter}
use Rattle.elk_write.specs.Reading.{sections_in, certificate_in, certificate_with, flow_in, layers_in, parts_in, reversed_in, span_in, is_listable, listable, is_ascending, edge_named, first_number, list_in, counted, large_in, small_in}
use Rattle.elk_write.specs.Placing.{box_in, level_in, box_at, level_at, section_at, given, IsGiven}
use Rattle.elk_write.specs.ReadBack.{without_place, SameButPlaces}
use Rattle.elk_write.proofs.SameDocument.{and_ext}

-- ---- ends and levels

port_node : (ps : List Port) (k : ℕ) → (slice_index_or (map without_place ps) k no_port).node ≡ (slice_index_or ps k no_port).node
port_node [] k = refl
port_node (q ∷ ps) zero = refl
port_node (q ∷ ps) (suc k) = port_node ps k

count_same : (f g : ℕ → Bool) → ((n : ℕ) → f n ≡ g n) → (m : ℕ) → count_below f m ≡ count_below g m
unfolding count_below
count_same f g h zero = refl
count_same f g h (suc m) = ap (λ c. c + (if f m then 1 else 0)) (count_same f g h m) ∙ ap (λ b. count_below g m + (if b then 1 else 0)) (h m)

all_same : (f g : ℕ → Bool) → ((n : ℕ) → f n ≡ g n) → (xs : List ℕ) → list_all f xs ≡ list_all g xs
all_same f g h [] = refl
all_same f g h (x ∷ xs) = ap (λ b. b && list_all f xs) (h x) ∙ ap (λ b. g x && b) (all_same f g h xs)

given_ext : {A : Type 0} (f g : ℕ → Element → Option A) → ((n : ℕ) (e : Element) → f n e ≡ g n e) → (m : ℕ) (es : List Element) → given f m es ≡ given g m es
given_ext f g h m [] = refl
given_ext f g h m (e ∷ es) = ap (λ o. o ∷ given f (m + 1) es) (h m e) ∙ ap (λ os. g m e ∷ os) (given_ext f g h (m + 1) es)

module _ (doc other : Document) (same : SameButPlaces doc other) where
  end_same : (x : End) → node_of_end other x ≡ node_of_end doc x
  end_same (AtNode n) = refl
  end_same (AtPort k) = sym (port_node other.ports k) ∙ ap (λ qs. (slice_index_or qs k no_port).node) same.ports ∙ port_node doc.ports k

  edge_same : (e : ℕ) → edge_at other e ≡ edge_at doc e
  edge_same e = ap (λ es. slice_index_or es e no_edge) same.edges

  source_same : (e : ℕ) → source_node other e ≡ source_node doc e
  source_same e = ap (λ (x : DocEdge). node_of_end other x.source) (edge_same e) ∙ end_same (edge_at doc e).source

  target_same : (e : ℕ) → target_node other e ≡ target_node doc e
  target_same e = ap (λ (x : DocEdge). node_of_end other x.target) (edge_same e) ∙ end_same (edge_at doc e).target

  level_same : (e : ℕ) → level_of_edge other e ≡ level_of_edge doc e
  level_same e =
      ap (λ (ns : List Node). unwrap_or (slice_index_or ns (source_node other e) no_node).parent 0) same.nodes
      ∙ ap (λ k. unwrap_or (slice_index_or doc.nodes k no_node).parent 0) (source_same e)

  loop_same : (e : ℕ) → is_loop other e ≡ is_loop doc e
  loop_same e = ap (λ k. k == target_node other e) (source_same e) ∙ ap (λ k. source_node doc e == k) (target_same e)

  edge_count_same : (n : ℕ) → edge_count other n ≡ edge_count doc n
  edge_count_same n =
      count_same (is_edge_of other n) (is_edge_of doc n) (λ e. ap (λ k. k == n) (level_same e)) (length other.edges)
      ∙ ap (λ (es : List DocEdge). count_below (is_edge_of doc n) (length es)) same.edges

  child_count_same : (n : ℕ) → child_count other n ≡ child_count doc n
  child_count_same n = ap (λ (ns : List Node). count_below (λ c. is_number (slice_index_or ns c no_node).parent n) (length ns)) same.nodes

  listable_same : (n e : ℕ) → is_listable other n e ≡ is_listable doc n e
  listable_same n e =
      ap (λ (es : List DocEdge). nat_lt e (length es) && is_edge_of other n e && not (is_loop other e)) same.edges
      ∙ ap (λ k. nat_lt e (length doc.edges) && (k == n) && not (is_loop other e)) (level_same e)
      ∙ ap (λ b. nat_lt e (length doc.edges) && is_edge_of doc n e && not b) (loop_same e)

  all_listable_same : (n : ℕ) (es : List ℕ) → listable other n es ≡ listable doc n es
  all_listable_same n es = ap (λ b. if is_ascending es && b then Some es else None) (all_same (is_listable other n) (is_listable doc n) (listable_same n) es)

  -- ---- certificates

  flow_same : (n : ℕ) (d : Data) → flow_in other n d ≡ flow_in doc n d
  flow_same n d = ap (λ k. option_and_then (counted k) (option_and_then (list_in large_in) (get (codes "flow") d))) (edge_count_same n)

  layers_same : (n : ℕ) (d : Data) → layers_in other n d ≡ layers_in doc n d
  layers_same n d = ap (λ k. option_and_then (counted k) (option_and_then (list_in small_in) (get (codes "layers") d))) (child_count_same n)

  parts_same : (n : ℕ) (split : Bool) (d : Data) → parts_in other n split d ≡ parts_in doc n split d
  parts_same n split d = ap (λ k. if split then option_and_then (counted k) (option_and_then (list_in small_in) (get (codes "parts") d)) else Some []) (child_count_same n)

  reversed_same : (n : ℕ) (d : Data) → reversed_in other n d ≡ reversed_in doc n d
  reversed_same n d =
      and_ext (listable other n) (listable doc n) (option_and_then (list_in (edge_named other)) (get (codes "reversed") d)) (all_listable_same n)
      ∙ ap (λ (es : List DocEdge). option_and_then (listable doc n) (option_and_then (list_in (λ d. option_and_then (λ id. first_number (λ e. is_same_id id e.id) 0 es) (to_id d))) (get (codes "reversed") d))) same.edges

  certificate_same : (n : ℕ) (split : Bool) (d : Data) → certificate_in other n split d ≡ certificate_in doc n split d
  certificate_same n split d =
      ap (λ f. certificate_with f (layers_in other n d) (parts_in other n split d) (reversed_in other n d) (span_in d)) (flow_same n d)
      ∙ ap (λ l. certificate_with (flow_in doc n d) l (parts_in other n split d) (reversed_in other n d) (span_in d)) (layers_same n d)
      ∙ ap (λ p. certificate_with (flow_in doc n d) (layers_in doc n d) p (reversed_in other n d) (span_in d)) (parts_same n split d)
      ∙ ap (λ r. certificate_with (flow_in doc n d) (layers_in doc n d) (parts_in doc n split d) r (span_in d)) (reversed_same n d)

  level_in_same : (n : ℕ) (o : Option LevelOptions) (d : Data) → level_in other n o d ≡ level_in doc n o d
  level_in_same n None d = refl
  level_in_same n (Some o) d = ap (option_map (λ c. Some c)) (and_ext (certificate_in other n o.split) (certificate_in doc n o.split) (get (codes "layering") d) (certificate_same n o.split))

  level_at_same : (n : ℕ) (e : Element) → level_at other n e ≡ level_at doc n e
  level_at_same n e =
      and_ext (λ v. level_in other n v.level e.value) (λ v. level_in doc n v.level e.value) (slice_get other.nodes n) (λ v. level_in_same n v.level e.value)
      ∙ ap (λ (ns : List Node). option_and_then (λ v. level_in doc n v.level e.value) (slice_get ns n)) same.nodes

  box_at_same : (n : ℕ) (e : Element) → box_at other n e ≡ box_at doc n e
  box_at_same n e = ap (λ (ns : List Node). option_and_then (λ v. box_in n v e.value) (slice_get ns n)) same.nodes

  section_at_same : (n : ℕ) (e : Element) → section_at other n e ≡ section_at doc n e
  section_at_same n e = ap (λ (es : List DocEdge). option_and_then (λ v. sections_in v.id e.value) (slice_get es n)) same.edges

  pub given_same : (es : List Element) (p : Placed) → IsGiven doc es p → IsGiven other es p
  given_same es p g = record {
    boxes = g.boxes ∙ sym (given_ext (box_at other) (box_at doc) box_at_same 0 (filter is_node es));
    levels = g.levels ∙ sym (given_ext (level_at other) (level_at doc) level_at_same 0 (filter is_node es));
    ports = g.ports;
    sections = g.sections ∙ sym (given_ext (section_at other) (section_at doc) section_at_same 0 (filter is_edge es));
  }
