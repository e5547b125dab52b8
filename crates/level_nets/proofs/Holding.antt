-- Gaps that hold the nets of some names, and of one name more.
use Rattle.std.proofs.Common.{◌≡◌, ⊎_elim, ℕ, ◌+◌, ◌*◌, ◌<◌, ◌≤◌, ◌^◌, eqb, cond, Bool, true, false, List, [], ◌∷◌, ◌++◌, map, length, set, refl, sym, subst, ap, ◌∙◌, arith}
use Rattle.std.proofs.lemmas.Bool.{cases_eq, eq-eqb, ne_eqb}
use Rattle.std.proofs.lemmas.List.{append-nil, append_assoc, map-append, length-append, length-map, length-set, get_or-set_same, get_or-set_other}
use Rattle.std.proofs.lemmas.List.FromFn.{length-range_with_len, map-range_with_len_more}
use Rattle.std.specs.List.{filter, range_with_len}
use Rattle.drawing_types.specs.declared.shape.Side.{Side}
use Rattle.drawing_types.specs.declared.shape.Side.TheVariants.{East, West}
use Rattle.net_routes.specs.declared.Net.{Net}
use Rattle.route_lines.specs.Points.{PlainGap, gap_in}
use Rattle.level_model.specs.Level.{End, end_at, ends_of_edges, all_ends}
use Rattle.level_model.specs.Nets.{Name, of_link, of_dock, of_loop, if_passed}
use Rattle.level_nets.specs.Parts.{Parts}
use Rattle.level_nets.specs.Read.{HoldNets, net_named, gap_named, in_gap, leg_behind, link_names, dock_names, passing_names, passes_west, passes_east, dock_inverts, names_of}
use Rattle.level_nets.specs.Held.{with_net, AreFew, behind_docks, behind_loops}
use Rattle.level_nets.proofs.ListLemmas.{filter_append, filter_short}

in_gap_here : (s : Parts) (names : List Name) (n : Name) (g : ℕ) → gap_named s n ≡ g → in_gap s (names ++ n ∷ []) g ≡ in_gap s names g ++ n ∷ []
unfolding in_gap
in_gap_here s names n g e =
    filter_append (λ m. eqb (gap_named s m) g) names (n ∷ [])
    ∙ ap (λ (b : Bool). filter (λ m. eqb (gap_named s m) g) names ++ cond b (n ∷ []) []) (eq-eqb (gap_named s n) g e)

in_gap_other : (s : Parts) (names : List Name) (n : Name) (g : ℕ) → (gap_named s n ≡ g → ⊥) → in_gap s (names ++ n ∷ []) g ≡ in_gap s names g
unfolding in_gap
in_gap_other s names n g e =
    filter_append (λ m. eqb (gap_named s m) g) names (n ∷ [])
    ∙ ap (λ (b : Bool). filter (λ m. eqb (gap_named s m) g) names ++ cond b (n ∷ []) []) (ne_eqb (gap_named s n) g e)
    ∙ append-nil (filter (λ m. eqb (gap_named s m) g) names)

pub gap_short : (s : Parts) (names : List Name) (g : ℕ) → length (in_gap s names g) ≤ length names
unfolding in_gap
gap_short s names g = filter_short (λ m. eqb (gap_named s m) g) names

-- one net more
pub held_more : (s : Parts) (names : List Name) (n : Name) (old new : List PlainGap) (g : ℕ) (net : Net) → g ≡ gap_named s n → net ≡ net_named s n → g < length old
    → new ≡ set old g (with_net (gap_in old g) net) → HoldNets s names old → HoldNets s (names ++ n ∷ []) new
held_more s names n old new g net eg en less e held =
    let long : length new ≡ length old = ap length e ∙ length-set old g (with_net (gap_in old g) net) in
    record {
      as_many = long ∙ held.as_many;
      nets = λ h inside.
          ⊎_elim
          (λ (same : h ≡ g).
          let at : gap_in new h ≡ with_net (gap_in old g) net = ap (λ gs. gap_in gs h) e ∙ ap (gap_in (set old g (with_net (gap_in old g) net))) same ∙ get_or-set_same old g (with_net (gap_in old g) net) _ less in
          ap (λ (q : PlainGap). q.nets) at
          ∙ ap (λ (ns : List Net). ns ++ net ∷ []) (held.nets g less)
          ∙ ap (λ (m : Net). map (net_named s) (in_gap s names g) ++ m ∷ []) en
          ∙ sym (map-append (net_named s) (in_gap s names g) (n ∷ []))
          ∙ ap (map (net_named s)) (sym (in_gap_here s names n g (sym eg)))
          ∙ ap (λ k. map (net_named s) (in_gap s (names ++ n ∷ []) k)) (sym same))
          (λ (other : h ≡ g → ⊥).
          let at : gap_in new h ≡ gap_in old h = ap (λ gs. gap_in gs h) e ∙ get_or-set_other old g h (with_net (gap_in old g) net) _ other in
          ap (λ (q : PlainGap). q.nets) at
          ∙ held.nets h (omega (arith, inside, long))
          ∙ ap (map (net_named s)) (sym (in_gap_other s names n h (λ q. other (sym (eg ∙ q))))))
          (cases_eq h g);
    }

-- the place of the net that comes next
pub leg_is : (s : Parts) (names : List Name) (n : Name) (old : List PlainGap) (g leg : ℕ) → g ≡ gap_named s n → g < length old → leg ≡ length (gap_in old g).nets → HoldNets s names old → leg ≡ leg_behind s names n
leg_is s names n old g leg eg less e held =
    e ∙ ap length (held.nets g less) ∙ length-map (in_gap s names g) (net_named s) ∙ ap (λ k. length (in_gap s names k)) eg

pub few_held : (s : Parts) (names : List Name) (gaps : List PlainGap) → length names < 2 ^ 32 → HoldNets s names gaps → AreFew gaps
few_held s names gaps few held g less =
    let long : length (gap_in gaps g).nets ≡ length (in_gap s names g) = ap length (held.nets g less) ∙ length-map (in_gap s names g) (net_named s) in
    let short = gap_short s names g in
    omega (arith, long, short, few)

-- the names in the order in which they come
range_more : (n : ℕ) → range_with_len 0 (n + 1) ≡ range_with_len 0 n ++ n ∷ []
range_more n = sym (map_id (n + 1)) ∙ map-range_with_len_more (λ k. k) 0 n n (omega arith) ∙ ap (λ ks. ks ++ n ∷ []) (map_id n)
  where
    map_id : (m : ℕ) → map (λ k. k) (range_with_len 0 m) ≡ range_with_len 0 m
    map_id m = Rattle.std.proofs.lemmas.List.map-id (range_with_len 0 m)

pub link_names_more : (k : ℕ) → link_names (k + 1) ≡ link_names k ++ of_link k ∷ []
link_names_more k = map-range_with_len_more of_link 0 k k (omega arith)

pub ends_append : (es fs : List ℕ) → ends_of_edges (es ++ fs) ≡ ends_of_edges es ++ ends_of_edges fs
ends_append [] fs = refl
ends_append (e ∷ es) fs = ap (λ ns. end_at e true ∷ end_at e false ∷ ns) (ends_append es fs)

pub dock_names_append : (s : Parts) (ns ms : List End) → dock_names s (ns ++ ms) ≡ dock_names s ns ++ dock_names s ms
dock_names_append s ns ms = ap (map of_dock) (filter_append (dock_inverts s) ns ms) ∙ map-append of_dock (filter (dock_inverts s) ns) (filter (dock_inverts s) ms)

passing_append : (s : Parts) (es fs : List ℕ) → passing_names s (es ++ fs) ≡ passing_names s es ++ passing_names s fs
passing_append s [] fs = refl
passing_append s (e ∷ es) fs =
    ap (λ ns. if_passed (passes_west s e) e West ++ if_passed (passes_east s e) e East ++ ns) (passing_append s es fs)
    ∙ sym (append_assoc (if_passed (passes_west s e) e West ++ if_passed (passes_east s e) e East) (passing_names s es) (passing_names s fs))

pub behind_docks_none : (s : Parts) → link_names (length s.layered.links) ≡ behind_docks s 0
unfolding behind_docks
behind_docks_none s = sym (append-nil (link_names (length s.layered.links)))

pub behind_docks_more : (s : Parts) (e : ℕ) → (behind_docks s e ++ dock_names s (end_at e true ∷ [])) ++ dock_names s (end_at e false ∷ []) ≡ behind_docks s (e + 1)
unfolding behind_docks
behind_docks_more s e =
    let links = link_names (length s.layered.links) in
    let before = dock_names s (ends_of_edges (range_with_len 0 e)) in
    append_assoc (links ++ before) (dock_names s (end_at e true ∷ [])) (dock_names s (end_at e false ∷ []))
    ∙ ap (λ (ns : List Name). (links ++ before) ++ ns) (sym (dock_names_append s (end_at e true ∷ []) (end_at e false ∷ [])))
    ∙ append_assoc links before (dock_names s (end_at e true ∷ end_at e false ∷ []))
    ∙ ap (λ (ns : List Name). links ++ ns) (sym (dock_names_append s (ends_of_edges (range_with_len 0 e)) (end_at e true ∷ end_at e false ∷ [])))
    ∙ ap (λ (ns : List End). links ++ dock_names s ns) (sym (ends_append (range_with_len 0 e) (e ∷ [])))
    ∙ ap (λ (es : List ℕ). links ++ dock_names s (ends_of_edges es)) (sym (range_more e))

pub behind_docks_all : (s : Parts) → behind_docks s (length s.level.edges) ≡ behind_loops s 0
unfolding behind_docks behind_loops
behind_docks_all s = sym (append-nil (link_names (length s.layered.links) ++ dock_names s (all_ends s.level)))

pub behind_loops_more : (s : Parts) (e : ℕ) → (behind_loops s e ++ if_passed (passes_west s e) e West) ++ if_passed (passes_east s e) e East ≡ behind_loops s (e + 1)
unfolding behind_loops
behind_loops_more s e =
    let front = link_names (length s.layered.links) ++ dock_names s (all_ends s.level) in
    let west = if_passed (passes_west s e) e West in
    let east = if_passed (passes_east s e) e East in
    append_assoc (front ++ passing_names s (range_with_len 0 e)) west east
    ∙ append_assoc front (passing_names s (range_with_len 0 e)) (west ++ east)
    ∙ ap (λ (ns : List Name). front ++ (passing_names s (range_with_len 0 e) ++ ns)) (sym (append-nil (west ++ east)))
    ∙ ap (λ (ns : List Name). front ++ ns) (sym (passing_append s (range_with_len 0 e) (e ∷ [])))
    ∙ ap (λ (es : List ℕ). front ++ passing_names s es) (sym (range_more e))

pub behind_loops_all : (s : Parts) → behind_loops s (length s.level.edges) ≡ names_of s
unfolding behind_loops
behind_loops_all s = refl

-- there are few names
pub ends_long : (es : List ℕ) → length (ends_of_edges es) ≡ 2 * length es
ends_long [] = refl
ends_long (e ∷ es) = let rest = ends_long es in omega (arith, rest)

pub docks_short : (s : Parts) (ns : List End) → length (dock_names s ns) ≤ length ns
docks_short s ns =
    let short = filter_short (dock_inverts s) ns in
    let same = length-map (filter (dock_inverts s) ns) of_dock in
    omega (arith, short, same)

pub passed_short : (b : Bool) (e : ℕ) (side : Side) → length (if_passed b e side) ≤ 1
passed_short true e side = omega arith
passed_short false e side = omega arith

pub passing_short : (s : Parts) (es : List ℕ) → length (passing_names s es) ≤ 2 * length es
passing_short s [] = omega arith
passing_short s (e ∷ es) =
    let rest = passing_short s es in
    let west = passed_short (passes_west s e) e West in
    let east = passed_short (passes_east s e) e East in
    let two = length-append (if_passed (passes_west s e) e West) (if_passed (passes_east s e) e East) in
    let all = length-append (if_passed (passes_west s e) e West ++ if_passed (passes_east s e) e East) (passing_names s es) in
    omega (arith, rest, west, east, two, all)

pub links_long : (n : ℕ) → length (link_names n) ≡ n
links_long n = length-map (range_with_len 0 n) of_link ∙ length-range_with_len 0 n

pub docks_few : (s : Parts) (e : ℕ) → length (behind_docks s e) ≤ length s.layered.links + 2 * e
unfolding behind_docks
docks_few s e =
    let links = links_long (length s.layered.links) in
    let docks = docks_short s (ends_of_edges (range_with_len 0 e)) in
    let ends = ends_long (range_with_len 0 e) in
    let range = length-range_with_len 0 e in
    let all = length-append (link_names (length s.layered.links)) (dock_names s (ends_of_edges (range_with_len 0 e))) in
    omega (arith, links, docks, ends, range, all)

pub loops_few : (s : Parts) (e : ℕ) → length (behind_loops s e) ≤ length s.layered.links + 2 * length s.level.edges + 2 * e
unfolding behind_loops
loops_few s e =
    let links = links_long (length s.layered.links) in
    let docks = docks_short s (all_ends s.level) in
    let ends = ends_long (range_with_len 0 (length s.level.edges)) in
    let edges = length-range_with_len 0 (length s.level.edges) in
    let range = length-range_with_len 0 e in
    let passing = passing_short s (range_with_len 0 e) in
    let two = length-append (link_names (length s.layered.links)) (dock_names s (all_ends s.level)) in
    let all = length-append (link_names (length s.layered.links) ++ dock_names s (all_ends s.level)) (passing_names s (range_with_len 0 e)) in
    omega (arith, links, docks, ends, edges, range, passing, two, all)

-- the names of one end and of one passage
pub dock_held : (s : Parts) (names : List Name) (n : End) (gaps : List PlainGap) → dock_inverts s n ≡ true → HoldNets s (names ++ of_dock n ∷ []) gaps → HoldNets s (names ++ dock_names s (n ∷ [])) gaps
dock_held s names n gaps is_reversed held =
    subst (λ (b : Bool). HoldNets s (names ++ map of_dock (cond b (n ∷ []) [])) gaps) (sym is_reversed) held

pub passage_held : (s : Parts) (names : List Name) (b : Bool) (e : ℕ) (side : Side) (gaps : List PlainGap) → b ≡ true → HoldNets s (names ++ of_loop e side ∷ []) gaps → HoldNets s (names ++ if_passed b e side) gaps
passage_held s names b e side gaps passes held = subst (λ (c : Bool). HoldNets s (names ++ if_passed c e side) gaps) (sym passes) held
