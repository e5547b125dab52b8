-- Networks of parts while nodes and edges are put into them.
use Rattle.std.proofs.Common.{◌≡◌, ℕ, zero, suc, ◌+◌, ◌<◌, ◌≤◌, ◌==◌, List, [], ◌∷◌, ◌++◌, Vec, Global, length, map, get_or, set, slice_index, arith, refl, sym, ap, inl, inr, ◌∙◌, eq-eqb, ne_eqb}
use Rattle.std.specs.List.{filter, range_with_len}
use Rattle.std.proofs.lemmas.Bool.{cases_eq, cases_lt}
use Rattle.std.proofs.lemmas.List.{get_or-map, get_or-set_other, get_or-set_same, get_or_append_left, get_or_push, length-set, length_push, map-set, map_push, set-get_or}
use Rattle.network_laws.specs.declared.network.NetEdge.{NetEdge}
use Rattle.network_laws.specs.declared.network.Network.{Network}
use Rattle.network_laws.specs.Network.{edge_at}
use Rattle.network_parts.specs.Divided.{links_to, place_of, renumbered}
use Rattle.network_parts.specs.Dividing.{AreCounted, ArePlaces, HoldEdges, HoldNodes, row_at, rows_of, sizes_of}
use Rattle.network_parts.proofs.RangeLemmas.{few_picked, filter_no, filter_yes}

-- ---- counts

pub none_counted : (numbers : List ℕ) → AreCounted numbers 0 0
none_counted numbers = record { below = λ v h. absurd (omega (arith, h)); last = λ h. absurd (omega (arith, h)) }

pub counted_more : (numbers : List ℕ) (n count : ℕ) → AreCounted numbers n count → count ≤ slice_index numbers n → AreCounted numbers (n + 1) (slice_index numbers n + 1)
counted_more numbers n count are up =
    record {
      below = λ v h. elim (cases_lt v n) [
        | inl less ↦ (let low = are.below v less in omega (arith, low, up))
        | inr most ↦ (let is : v ≡ n = omega (arith, h, most) in let same = ap (slice_index numbers) is in omega (arith, same))
      ];
      last = λ h. (n, omega arith, refl);
    }

pub counted_same : (numbers : List ℕ) (n count : ℕ) → AreCounted numbers n count → slice_index numbers n < count → AreCounted numbers (n + 1) count
counted_same numbers n count are low =
    record {
      below = λ v h. elim (cases_lt v n) [
        | inl less ↦ are.below v less
        | inr most ↦ (let is : v ≡ n = omega (arith, h, most) in let same = ap (slice_index numbers) is in omega (arith, low, same))
      ];
      last = λ h. let found = are.last h in let less = found.1 in (found.0, omega (arith, less), found.2);
    }

-- ---- one read, and one write

pub size_read : (networks : List Network) (k : ℕ) (net : Network) → k < length networks → net ≡ get_or networks k net → net.nodes ≡ get_or (sizes_of networks) k 0
size_read networks k net h is = ap (λ (n : Network). n.nodes) is ∙ sym (get_or-map (λ (n : Network). n.nodes) networks k net 0 h)

pub row_read : (networks : List Network) (k : ℕ) (net : Network) → k < length networks → net ≡ get_or networks k net → net.edges.items ≡ row_at (rows_of networks) k
row_read networks k net h is = ap (λ (n : Network). n.edges.items) is ∙ sym (get_or-map (λ (n : Network). n.edges.items) networks k net [] h)

pub size_written : (networks : List Network) (k : ℕ) (d : Network) (edges : Vec NetEdge Global) → k < length networks → sizes_of (set networks k (record { nodes = (get_or networks k d).nodes + 1; edges = edges })) ≡ set (sizes_of networks) k (get_or (sizes_of networks) k 0 + 1)
size_written networks k d edges h =
    map-set (λ (net : Network). net.nodes) networks k (record { nodes = (get_or networks k d).nodes + 1; edges = edges })
    ∙ ap (λ n. set (sizes_of networks) k (n + 1)) (sym (get_or-map (λ (net : Network). net.nodes) networks k d 0 h))

pub sizes_kept : (networks : List Network) (k : ℕ) (d : Network) (edges : Vec NetEdge Global) → k < length networks → sizes_of (set networks k (record { nodes = (get_or networks k d).nodes; edges = edges })) ≡ sizes_of networks
sizes_kept networks k d edges h =
    map-set (λ (net : Network). net.nodes) networks k (record { nodes = (get_or networks k d).nodes; edges = edges })
    ∙ ap (set (sizes_of networks) k) (sym (get_or-map (λ (net : Network). net.nodes) networks k d 0 h))
    ∙ set-get_or (sizes_of networks) k 0

pub rows_kept : (networks : List Network) (k n : ℕ) (d : Network) → k < length networks → rows_of (set networks k (record { nodes = n; edges = (get_or networks k d).edges })) ≡ rows_of networks
rows_kept networks k n d h =
    map-set (λ (net : Network). net.edges.items) networks k (record { nodes = n; edges = (get_or networks k d).edges })
    ∙ ap (set (rows_of networks) k) (sym (get_or-map (λ (net : Network). net.edges.items) networks k d [] h))
    ∙ set-get_or (rows_of networks) k []

pub row_written : (networks : List Network) (k n : ℕ) (d : Network) (edge : NetEdge) (edges : Vec NetEdge Global) → k < length networks → edges.items ≡ (get_or networks k d).edges.items ++ edge ∷ []
    → rows_of (set networks k (record { nodes = n; edges = edges })) ≡ set (rows_of networks) k (row_at (rows_of networks) k ++ edge ∷ [])
row_written networks k n d edge edges h pushed =
    map-set (λ (net : Network). net.edges.items) networks k (record { nodes = n; edges = edges })
    ∙ ap (set (rows_of networks) k) (pushed ∙ ap (λ (es : List NetEdge). es ++ edge ∷ []) (sym (get_or-map (λ (net : Network). net.edges.items) networks k d [] h)))

-- ---- networks without nodes

default_more : {X : Type 0} (d x : X) (xs : List X) → x ≡ d → ((k : ℕ) → get_or xs k d ≡ d) → (k : ℕ) → get_or (xs ++ x ∷ []) k d ≡ d
default_more d x [] is h zero = is
default_more d x [] is h (suc k) = refl
default_more d x (y ∷ ys) is h zero = h 0
default_more d x (y ∷ ys) is h (suc k) = default_more d x ys is (λ j. h (suc j)) k

pub sizes_more : (networks new : List Network) (net : Network) → new ≡ networks ++ net ∷ [] → net.nodes ≡ 0 → ((k : ℕ) → get_or (sizes_of networks) k 0 ≡ 0) → (k : ℕ) → get_or (sizes_of new) k 0 ≡ 0
sizes_more networks new net pushed is none k =
    ap (λ (ns : List Network). get_or (sizes_of ns) k 0) pushed ∙ ap (λ (xs : List ℕ). get_or xs k 0) (map_push (λ (n : Network). n.nodes) networks net) ∙ default_more 0 net.nodes (sizes_of networks) is none k

pub rows_more : (networks new : List Network) (net : Network) → new ≡ networks ++ net ∷ [] → net.edges.items ≡ [] → ((k : ℕ) → row_at (rows_of networks) k ≡ []) → (k : ℕ) → row_at (rows_of new) k ≡ []
rows_more networks new net pushed is none k =
    ap (λ (ns : List Network). row_at (rows_of ns) k) pushed ∙ ap (λ rs. row_at rs k) (map_push (λ (n : Network). n.edges.items) networks net) ∙ default_more [] net.edges.items (rows_of networks) is none k

-- ---- one node or edge more

-- one number more is counted in its part
pub count_more : (part : ℕ → ℕ) (n : ℕ) (counts new : List ℕ) → part n < length counts → new ≡ set counts (part n) (slice_index counts (part n) + 1)
    → ((k : ℕ) → k < length counts → slice_index counts k ≡ length (filter (λ v. part v == k) (range_with_len 0 n)))
    → (k : ℕ) → k < length new → slice_index new k ≡ length (filter (λ v. part v == k) (range_with_len 0 (n + 1)))
count_more part n counts new there write hold k h =
    let at = part n in
    let long = ap length write ∙ length-set counts at (slice_index counts at + 1) in
    let inside : k < length counts = omega (arith, h, long) in
    ap (λ (xs : List ℕ). slice_index xs k) write
    ∙ elim (cases_eq k at) [
      | inl same ↦
          ap (λ i. get_or (set counts at (slice_index counts at + 1)) i 0) same
          ∙ get_or-set_same counts at (slice_index counts at + 1) 0 there
          ∙ ap (λ m. m + 1) (hold at there)
          ∙ sym (length_push (filter (λ v. part v == at) (range_with_len 0 n)) n)
          ∙ sym (ap length (filter_yes (λ v. part v == at) n (eq-eqb at at refl)))
          ∙ ap (λ p. length (filter (λ v. part v == p) (range_with_len 0 (n + 1)))) (sym same)
      | inr other ↦
          get_or-set_other counts at k (slice_index counts at + 1) 0 other
          ∙ hold k inside
          ∙ sym (ap length (filter_no (λ v. part v == k) n (ne_eqb at k (λ e. other (sym e)))))
    ]

pub no_places : (numbers places : List ℕ) → places ≡ [] → ArePlaces numbers 0 places
no_places numbers places e = record { as_many = ap length e; each = λ v h. absurd (omega (arith, h)) }

pub place_more : (numbers : List ℕ) (n : ℕ) (sizes places new : List ℕ) (place : ℕ) → slice_index numbers n < length sizes → HoldNodes numbers n sizes → place ≡ slice_index sizes (slice_index numbers n) → new ≡ places ++ place ∷ []
    → ArePlaces numbers n places → ArePlaces numbers (n + 1) new
place_more numbers n sizes places new place there hold is pushed are =
    let many = are.as_many in
    record {
      as_many = ap length pushed ∙ length_push places place ∙ ap (λ m. m + 1) many;
      each = λ v h. ap (λ (xs : List ℕ). slice_index xs v) pushed ∙ elim (cases_lt v n) [
        | inl less ↦ get_or_append_left places (place ∷ []) 0 v (omega (arith, less, many)) ∙ are.each v less
        | inr most ↦
            let same : v ≡ n = omega (arith, h, most) in
            get_or_push places place 0 v (many ∙ sym same) ∙ is ∙ hold (slice_index numbers n) there ∙ ap (place_of numbers) (sym same)
      ];
    }

pub few_nodes : (numbers : List ℕ) (n k : ℕ) (sizes : List ℕ) → k < length sizes → HoldNodes numbers n sizes → slice_index sizes k ≤ n
few_nodes numbers n k sizes h hold =
    let is = hold k h in
    let few = few_picked (λ v. slice_index numbers v == k) n in
    omega (arith, is, few)

pub edge_more : (numbers places : List ℕ) (edges : List NetEdge) (n part : ℕ) (x edge : NetEdge) (rows new : List (List NetEdge)) → ArePlaces numbers (length numbers) places
    → x ≡ edge_at edges n → x.tail < length numbers → x.head < length numbers → part ≡ slice_index numbers x.tail → part < length rows
    → edge ≡ record { tail = slice_index places x.tail; head = slice_index places x.head; least = x.least; weight = x.weight } → new ≡ set rows part (row_at rows part ++ edge ∷ [])
    → HoldEdges numbers edges n rows → HoldEdges numbers edges (n + 1) new
edge_more numbers places edges n part x edge rows new are read tail head is there made write hold k h =
    let number : ℕ → NetEdge = λ e. renumbered numbers (edge_at edges e) in
    let long = ap length write ∙ length-set rows part (row_at rows part ++ edge ∷ []) in
    let inside : k < length rows = omega (arith, h, long) in
    let last : edge ≡ number n =
    made
    ∙ ap (λ i. record { tail = i; head = slice_index places x.head; least = x.least; weight = x.weight }) (are.each x.tail tail)
    ∙ ap (λ i. record { tail = place_of numbers x.tail; head = i; least = x.least; weight = x.weight }) (are.each x.head head)
    ∙ ap (renumbered numbers) read
    in
    let in_part : slice_index numbers (edge_at edges n).tail ≡ part = ap (λ (y : NetEdge). slice_index numbers y.tail) (sym read) ∙ sym is in
    ap (λ rs. row_at rs k) write
    ∙ elim (cases_eq k part) [
      | inl same ↦
          ap (λ i. row_at (set rows part (row_at rows part ++ edge ∷ [])) i) same
          ∙ get_or-set_same rows part (row_at rows part ++ edge ∷ []) [] there
          ∙ ap (λ (es : List NetEdge). es ++ edge ∷ []) (hold part there)
          ∙ ap (λ (y : NetEdge). map number (links_to numbers edges part n) ++ y ∷ []) last
          ∙ sym (map_push number (links_to numbers edges part n) n)
          ∙ ap (map number) (sym (filter_yes (λ e. slice_index numbers (edge_at edges e).tail == part) n (eq-eqb (slice_index numbers (edge_at edges n).tail) part in_part)))
          ∙ ap (λ p. map number (links_to numbers edges p (n + 1))) (sym same)
      | inr other ↦
          get_or-set_other rows part k (row_at rows part ++ edge ∷ []) [] other
          ∙ hold k inside
          ∙ ap (map number) (sym (filter_no (λ e. slice_index numbers (edge_at edges e).tail == k) n (ne_eqb (slice_index numbers (edge_at edges n).tail) k (λ e. other (sym (sym in_part ∙ e))))))
    ]

-- ---- the flow of one edge more

pub flow_more : (numbers : List ℕ) (edges : List NetEdge) (flows : ℕ → List ℕ) (n : ℕ) (next flow new : List ℕ) (place x : ℕ) → slice_index numbers (edge_at edges n).tail < length next
    → ((k : ℕ) → k < length next → slice_index next k ≡ length (links_to numbers edges k n)) → place ≡ slice_index next (slice_index numbers (edge_at edges n).tail) → x ≡ slice_index (flows (slice_index numbers (edge_at edges n).tail)) place → new ≡ flow ++ x ∷ []
    → length flow ≡ n → ((e : ℕ) → e < n → slice_index flow e ≡ slice_index (flows (slice_index numbers (edge_at edges e).tail)) (length (links_to numbers edges (slice_index numbers (edge_at edges e).tail) e)))
    → (e : ℕ) → e < n + 1 → slice_index new e ≡ slice_index (flows (slice_index numbers (edge_at edges e).tail)) (length (links_to numbers edges (slice_index numbers (edge_at edges e).tail) e))
flow_more numbers edges flows n next flow new place x there hold is value pushed many each e h =
    ap (λ (xs : List ℕ). slice_index xs e) pushed
    ∙ elim (cases_lt e n) [
      | inl less ↦ get_or_append_left flow (x ∷ []) 0 e (omega (arith, less, many)) ∙ each e less
      | inr most ↦
          let same : e ≡ n = omega (arith, h, most) in
          let at = slice_index numbers (edge_at edges n).tail in
          get_or_push flow x 0 e (many ∙ sym same)
          ∙ value
          ∙ ap (slice_index (flows at)) (is ∙ hold at there)
          ∙ ap (λ i. slice_index (flows (slice_index numbers (edge_at edges i).tail)) (length (links_to numbers edges (slice_index numbers (edge_at edges i).tail) i))) (sym same)
    ]
