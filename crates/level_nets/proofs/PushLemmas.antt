-- One net more in a gap, and one leg more.
use Rattle.std.proofs.Common.{◌≡◌, ⊎_elim, ℕ, ◌+◌, ◌*◌, ◌<◌, ◌≤◌, ◌^◌, Bool, true, false, List, [], ◌∷◌, ◌++◌, length, get_or, set, sym, subst, ap, ◌∙◌, arith}
use Rattle.std.proofs.lemmas.Bool.{cases_eq}
use Rattle.std.proofs.lemmas.List.{map-set, length-map, length_push, get_or_append_left, get_or_push, length-append}
use Rattle.drawing_types.specs.declared.shape.Side.TheVariants.{West}
use Rattle.elk_layers.specs.Layered.{IsSound}
use Rattle.net_routes.specs.declared.Net.{Net}
use Rattle.net_routes.proofs.Lists.{each_pushed}
use Rattle.route_lines.specs.declared.Gap.{Gap}
use Rattle.route_lines.specs.Points.{PlainGap, plain_gap, gap_in}
use Rattle.level_model.specs.Level.{end_at}
use Rattle.level_model.specs.Nets.{of_link, of_dock, if_passed}
use Rattle.level_nets.specs.declared.pushing.LoopLegs.{LoopLegs}
use Rattle.level_nets.specs.Parts.{Parts}
use Rattle.level_model.specs.Table.{end_number}
use Rattle.level_nets.specs.Read.{HoldNets, link_names, dock_names, dock_inverts, passes_west, leg_behind}
use Rattle.level_nets.specs.Held.{plain_gaps, with_net, AreFew, AreLinkLegs, AreDockLegs, IsLoopLegs, AreLoopLegs, behind_docks, behind_loops, before_dock}
use Rattle.level_nets.proofs.Holding.{few_held, links_long, docks_short, docks_few, loops_few, passed_short}
use Rattle.level_nets.proofs.BorderLemmas.{gap_read}

pub pushed_is : (gaps : List Gap) (i : ℕ) (g d : Gap) (net : Net) → i < length gaps → plain_gap g ≡ with_net (plain_gap (get_or gaps i d)) net
    → plain_gaps (set gaps i g) ≡ set (plain_gaps gaps) i (with_net (gap_in (plain_gaps gaps) i) net)
pushed_is gaps i g d net h e =
    map-set plain_gap gaps i g ∙ ap (λ (q : PlainGap). set (plain_gaps gaps) i q) (e ∙ ap (λ q. with_net q net) (gap_read gaps i d h))

pub few_here : (gaps : List Gap) (i : ℕ) (d : Gap) → i < length gaps → AreFew (plain_gaps gaps) → length (get_or gaps i d).nets.items < 2 ^ 32
few_here gaps i d h few =
    let many = length-map gaps plain_gap in
    subst (λ (q : PlainGap). length q.nets < 2 ^ 32) (sym (gap_read gaps i d h)) (few i (omega (arith, h, many)))

pub gap_inside : (gaps : List Gap) (layers g : ℕ) → length gaps ≡ layers + 1 → g < layers + 1 → g < length (plain_gaps gaps)
gap_inside gaps layers g long less = let many = length-map gaps plain_gap in omega (arith, long, less, many)

-- names that are few
pub few_links : (s : Parts) (k : ℕ) (gaps : List PlainGap) → IsSound s.layered → k ≤ length s.layered.links → HoldNets s (link_names k) gaps → AreFew gaps
few_links s k gaps sound h held = few_held s (link_names k) gaps (let long = links_long k in let few = sound.few_links in omega (arith, long, few, h)) held

pub few_docks : (s : Parts) (e : ℕ) (gaps : List PlainGap) → IsSound s.layered → length s.level.edges ≤ 2048 → e ≤ length s.level.edges → HoldNets s (behind_docks s e) gaps → AreFew gaps
few_docks s e gaps sound edges h held = few_held s (behind_docks s e) gaps (let short = docks_few s e in let few = sound.few_links in omega (arith, short, few, edges, h)) held

pub few_between : (s : Parts) (e : ℕ) (gaps : List PlainGap) → IsSound s.layered → length s.level.edges ≤ 2048 → e ≤ length s.level.edges → HoldNets s (behind_docks s e ++ dock_names s (end_at e true ∷ [])) gaps → AreFew gaps
few_between s e gaps sound edges h held =
    few_held s (behind_docks s e ++ dock_names s (end_at e true ∷ [])) gaps
    (let short = docks_few s e in let few = sound.few_links in let one = docks_short s (end_at e true ∷ []) in let all = length-append (behind_docks s e) (dock_names s (end_at e true ∷ [])) in omega (arith, short, few, edges, h, one, all)) held

pub few_loops : (s : Parts) (e : ℕ) (gaps : List PlainGap) → IsSound s.layered → length s.level.edges ≤ 2048 → e ≤ length s.level.edges → HoldNets s (behind_loops s e) gaps → AreFew gaps
few_loops s e gaps sound edges h held = few_held s (behind_loops s e) gaps (let short = loops_few s e in let few = sound.few_links in omega (arith, short, few, edges, h)) held

pub few_passing : (s : Parts) (e : ℕ) (gaps : List PlainGap) → IsSound s.layered → length s.level.edges ≤ 2048 → e ≤ length s.level.edges → HoldNets s (behind_loops s e ++ if_passed (passes_west s e) e West) gaps → AreFew gaps
few_passing s e gaps sound edges h held =
    few_held s (behind_loops s e ++ if_passed (passes_west s e) e West) gaps
    (let short = loops_few s e in let few = sound.few_links in let one = passed_short (passes_west s e) e West in let all = length-append (behind_loops s e) (if_passed (passes_west s e) e West) in omega (arith, short, few, edges, h, one, all)) held

-- one leg more
pub link_legs_more : (s : Parts) (k : ℕ) (legs new : List ℕ) (leg : ℕ) → new ≡ legs ++ leg ∷ [] → AreLinkLegs s k legs → leg ≡ leg_behind s (link_names k) (of_link k) → AreLinkLegs s (k + 1) new
link_legs_more s k legs new leg e are here =
    record {
      as_many = ap length e ∙ length_push legs leg ∙ ap (λ n. n + 1) are.as_many;
      each = each_pushed ℕ 0 (λ j z. z ≡ leg_behind s (link_names j) (of_link j)) legs new leg k are.as_many e are.each here;
    }

pub loop_legs_more : (s : Parts) (e : ℕ) (legs new : List LoopLegs) (leg : LoopLegs) → new ≡ legs ++ leg ∷ [] → AreLoopLegs s e legs → IsLoopLegs s e leg → AreLoopLegs s (e + 1) new
loop_legs_more s e legs new leg same are here =
    record {
      as_many = ap length same ∙ length_push legs leg ∙ ap (λ n. n + 1) are.as_many;
      each = each_pushed LoopLegs (record { west = 0; east = 0 }) (λ f z. IsLoopLegs s f z) legs new leg e are.as_many same are.each here;
    }

-- two ends more
early : (legs : List ℕ) (a b i : ℕ) → i < length legs → get_or ((legs ++ a ∷ []) ++ b ∷ []) i 0 ≡ get_or legs i 0
early legs a b i h =
    let one = length_push legs a in
    get_or_append_left (legs ++ a ∷ []) (b ∷ []) 0 i (omega (arith, h, one)) ∙ get_or_append_left legs (a ∷ []) 0 i h

first : (legs : List ℕ) (a b i : ℕ) → length legs ≡ i → get_or ((legs ++ a ∷ []) ++ b ∷ []) i 0 ≡ a
first legs a b i h =
    let one = length_push legs a in
    get_or_append_left (legs ++ a ∷ []) (b ∷ []) 0 i (omega (arith, h, one)) ∙ get_or_push legs a 0 i h

second : (legs : List ℕ) (a b i : ℕ) → length legs + 1 ≡ i → get_or ((legs ++ a ∷ []) ++ b ∷ []) i 0 ≡ b
second legs a b i h = get_or_push (legs ++ a ∷ []) b 0 i (length_push legs a ∙ h)

pub dock_legs_more : (s : Parts) (e : ℕ) (legs new : List ℕ) (a b : ℕ) → new ≡ (legs ++ a ∷ []) ++ b ∷ [] → AreDockLegs s e legs
    → (dock_inverts s (end_at e true) ≡ true → a ≡ leg_behind s (before_dock s e true) (of_dock (end_at e true)))
    → (dock_inverts s (end_at e false) ≡ true → b ≡ leg_behind s (before_dock s e false) (of_dock (end_at e false))) → AreDockLegs s (e + 1) new
dock_legs_more s e legs new a b same are source target =
    record {
      as_many = ap length same ∙ length_push (legs ++ a ∷ []) b ∙ ap (λ n. n + 1) (length_push legs a) ∙ (let long = are.as_many in omega (arith, long));
      each = λ f t h is_reversed.
          ap (λ (ns : List ℕ). get_or ns (end_number (end_at f t)) 0) same
          ∙ ⊎_elim
          (λ (own : f ≡ e).
          subst (λ k. get_or ((legs ++ a ∷ []) ++ b ∷ []) (end_number (end_at k t)) 0 ≡ leg_behind s (before_dock s k t) (of_dock (end_at k t))) (sym own)
          (here t (subst (λ k. dock_inverts s (end_at k t) ≡ true) own is_reversed)))
          (λ (other : f ≡ e → ⊥). early legs a b (end_number (end_at f t)) (inside f t (omega (arith, h, other))) ∙ are.each f t (omega (arith, h, other)) is_reversed)
          (cases_eq f e);
    }
  where
    here : (t : Bool) → dock_inverts s (end_at e t) ≡ true → get_or ((legs ++ a ∷ []) ++ b ∷ []) (end_number (end_at e t)) 0 ≡ leg_behind s (before_dock s e t) (of_dock (end_at e t))
    here true is_reversed = first legs a b (2 * e) are.as_many ∙ source is_reversed
    here false is_reversed = second legs a b (2 * e + 1) (ap (λ n. n + 1) are.as_many) ∙ target is_reversed

    inside : (f : ℕ) (t : Bool) → f < e → end_number (end_at f t) < length legs
    inside f true less = let long = are.as_many in omega (arith, long, less)
    inside f false less = let long = are.as_many in omega (arith, long, less)
