-- What ranks read off a table are, case by case.
use Rattle.std.proofs.Common.{◌≡◌, ℕ, ◌+◌, ◌*◌, ◌<◌, ◌≤◌, cond, Bool, true, false, not, List, [], ◌∷◌, ◌++◌, map, set, length, get_or, inl, inr, refl, sym, subst, ap, ◌∙◌, arith}
use Rattle.std.specs.Prelude.{Option, Some, is_some}
use Rattle.std.proofs.lemmas.Bool.{cases_eq}
use Rattle.std.proofs.lemmas.List.{get_or-map, get_or-set_other, get_or-set_same, length-set, get_or_append_left, get_or_push, length_push}
use Rattle.port_order.specs.declared.children.Child.{Child}
use Rattle.port_order.specs.declared.spots.Spot.{Spot}
use Rattle.port_order.specs.Child.{is_pinned}
use Rattle.elk_layers.specs.declared.units.Unit.{Unit as LayerUnit}
use Rattle.elk_layers.specs.declared.units.Link.{Link}
use Rattle.elk_layers.specs.Layered.{link_at, unit_at}
use Rattle.level_model.specs.declared.level.EdgeEnd.{EdgeEnd}
use Rattle.level_model.specs.declared.table.EndAt.{EndAt}
use Rattle.level_model.specs.declared.table.Table.{Table}
use Rattle.level_model.specs.Level.{PlainLevel, child_at, end_at, spoke}
use Rattle.level_model.specs.Units.{is_fixed, is_spread_fixed, lane_rank}
use Rattle.dock_table.specs.Bounds.{AreNumbersIn, IsEndIn}
use Rattle.level_model.specs.Lanes.{side_by}
use Rattle.level_model.specs.Table.{end_of}
use Rattle.layer_units.specs.Reading.{is_on_lane, mark_at}
use Rattle.layer_units.specs.declared.ports.PortRanks.{PortRanks}
use Rattle.layer_units.specs.Levels.{AreRanksTo, IsRankedChild, seen_spots}
use Rattle.layer_units.specs.Ports.{AreRanksOf, PlainRanks, plain_ranks}
use Rattle.layer_units.specs.Ranked.{AreBareLinks, bare_link}
use Rattle.layer_units.proofs.ChangingLemmas.{each_next, rest_next}
use Rattle.layer_units.specs.RankReading.{AreRankedLinks, child_rank, edge_rank, end_rank, last_in, link_with, port_rank, ranks_at, unit_rank}

pub on_lane : (c : Child) (v : PlainRanks) (end : EndAt) (k : ℕ) (enters : Bool) → is_spread_fixed c.rule (Some k) (is_pinned c k) ≡ false → is_on_lane end.dock.side enters ≡ true
    → port_rank c v end k enters ≡ lane_rank (last_in v enters) (side_by c.size.height end.dock.side end.anchor.y)
on_lane c v end k enters spread lies =
    ap (λ b. cond b (last_in v enters + 1) (cond (is_on_lane end.dock.side enters) (lane_rank (last_in v enters) (side_by c.size.height end.dock.side end.anchor.y)) (get_or v.before k 0 + 1))) spread
    ∙ ap (λ b. cond b (lane_rank (last_in v enters) (side_by c.size.height end.dock.side end.anchor.y)) (get_or v.before k 0 + 1)) lies

pub ranked_child : (c : Child) (v : PlainRanks) (end : EndAt) (port : Option ℕ) (enters : Bool) → is_fixed c.rule ≡ true → child_rank c v end port enters ≡ end_rank c v end port enters
unfolding child_rank
ranked_child c v end port enters fixed = ap (λ b. cond b (end_rank c v end port enters) 0) fixed

pub free_child : (c : Child) (v : PlainRanks) (end : EndAt) (port : Option ℕ) (enters : Bool) → is_fixed c.rule ≡ false → child_rank c v end port enters ≡ 0
unfolding child_rank
free_child c v end port enters free = ap (λ b. cond b (end_rank c v end port enters) 0) free

pub edge_is : (l : PlainLevel) (t : Table) (vs : List PlainRanks) (e : ℕ) (a enters : Bool)
    → edge_rank l t vs e a enters ≡ child_rank (child_at l (spoke l (end_at e a)).child) (ranks_at vs (spoke l (end_at e a)).child) (end_of t e a) (spoke l (end_at e a)).port enters
unfolding edge_rank
edge_is l t vs e a enters = refl

pub unit_child : (l : PlainLevel) (t : Table) (vs : List PlainRanks) (u : LayerUnit) (e : ℕ) (a enters : Bool) → is_some u.child ≡ true → unit_rank l t vs u e a enters ≡ edge_rank l t vs e a enters
unfolding unit_rank
unit_child l t vs u e a enters is = ap (λ b. cond b (edge_rank l t vs e a enters) 0) is

pub unit_lane : (l : PlainLevel) (t : Table) (vs : List PlainRanks) (u : LayerUnit) (e : ℕ) (a enters : Bool) → is_some u.child ≡ false → unit_rank l t vs u e a enters ≡ 0
unfolding unit_rank
unit_lane l t vs u e a enters is = ap (λ b. cond b (edge_rank l t vs e a enters) 0) is

-- a link with ranks
pub record IsLinkWith (l : PlainLevel) (t : Table) (vs : List PlainRanks) (units : List LayerUnit) (marks : List Bool) (x y : Link) : Type 0 where
  pub edge : y.edge ≡ x.edge
  pub tail : y.tail ≡ x.tail
  pub head : y.head ≡ x.head
  pub tail_rank : y.tail_rank ≡ unit_rank l t vs (unit_at units x.tail) x.edge (not (mark_at marks x.edge)) false
  pub head_rank : y.head_rank ≡ unit_rank l t vs (unit_at units x.head) x.edge (mark_at marks x.edge) true
  pub tail_at : y.tail_at ≡ x.tail_at
  pub head_at : y.head_at ≡ x.head_at

pub is_link_with : (l : PlainLevel) (t : Table) (vs : List PlainRanks) (units : List LayerUnit) (marks : List Bool) (x : Link) → IsLinkWith l t vs units marks x (link_with l t vs units marks x)
unfolding link_with
is_link_with l t vs units marks x = record { edge = refl; tail = refl; head = refl; tail_rank = refl; head_rank = refl; tail_at = refl; head_at = refl }

pub link_made : (l : PlainLevel) (t : Table) (vs : List PlainRanks) (units : List LayerUnit) (marks : List Bool) (x : Link) (tail head : ℕ)
    → tail ≡ unit_rank l t vs (unit_at units x.tail) x.edge (not (mark_at marks x.edge)) false → head ≡ unit_rank l t vs (unit_at units x.head) x.edge (mark_at marks x.edge) true
    → record { edge = x.edge; tail = x.tail; head = x.head; tail_rank = tail; head_rank = head; tail_at = x.tail_at; head_at = x.head_at } ≡ link_with l t vs units marks x
unfolding link_with
link_made l t vs units marks x tail head is also =
    let as_link : ℕ → ℕ → Link = λ m n. record { edge = x.edge; tail = x.tail; head = x.head; tail_rank = m; head_rank = n; tail_at = x.tail_at; head_at = x.head_at } in
    ap (λ m. as_link m head) is ∙ ap (as_link (unit_rank l t vs (unit_at units x.tail) x.edge (not (mark_at marks x.edge)) false)) also

pub end_near : (t : Table) (m e : ℕ) (a : Bool) → AreNumbersIn t → length t.ends ≡ 2 * m → e < m → IsEndIn (end_of t e a)
end_near t m e true is many h = is.ends (2 * e) (omega (arith, many, h))
end_near t m e false is many h = is.ends (2 * e + 1) (omega (arith, many, h))

pub ranks_read : (vs : List PortRanks) (c : ℕ) (x : PortRanks) → c < length vs → plain_ranks (get_or vs c x) ≡ ranks_at (map plain_ranks vs) c
ranks_read vs c x h = sym (get_or-map plain_ranks vs c x (ranks_at [] 0) h)

-- an edge's end, from what is read of its child
pub edge_made : (l : PlainLevel) (t : Table) (vs : List PlainRanks) (e : ℕ) (a b : Bool) (s : EdgeEnd) (x : Child) (v : PlainRanks) (end : EndAt) → s ≡ spoke l (end_at e a) → x ≡ child_at l s.child → v ≡ ranks_at vs s.child → end ≡ end_of t e a
    → child_rank x v end s.port b ≡ edge_rank l t vs e a b
edge_made l t vs e a b s x v end spoke_is child ranks end_is =
    ap (λ (y : Child). child_rank y v end s.port b) child
    ∙ ap (λ (w : PlainRanks). child_rank (child_at l s.child) w end s.port b) ranks
    ∙ ap (λ (d : EndAt). child_rank (child_at l s.child) (ranks_at vs s.child) d s.port b) end_is
    ∙ ap (λ (r : EdgeEnd). child_rank (child_at l r.child) (ranks_at vs r.child) (end_of t e a) r.port b) spoke_is
    ∙ sym (edge_is l t vs e a b)

-- a child that is ranked by its spots
pub ranks_seen : (l : PlainLevel) (marks : List Bool) (c : ℕ) (x : Child) (spots : List Spot) (v : PlainRanks) → x ≡ child_at l c → spots ≡ seen_spots l marks c → (is_fixed x.rule ≡ true → AreRanksOf x spots v) → IsRankedChild l marks c v
ranks_seen l marks c x spots v child is ranks =
    subst (λ (ss : List Spot). is_fixed (child_at l c).rule ≡ true → AreRanksOf (child_at l c) ss v) is
    (subst (λ (y : Child). is_fixed y.rule ≡ true → AreRanksOf y spots v) child ranks)

-- one more child
pub ranks_pushed : (l : PlainLevel) (marks : List Bool) (n : ℕ) (vs : List PlainRanks) (v : PlainRanks) → IsRankedChild l marks n v → AreRanksTo l marks n vs → AreRanksTo l marks (n + 1) (vs ++ v ∷ [])
ranks_pushed l marks n vs v own s =
    let long = s.as_many in
    let more = length_push vs v in
    record {
      as_many = omega (arith, long, more);
      each = λ d h. elim (cases_eq d n) [
        | inl e ↦ subst (λ x. IsRankedChild l marks x (ranks_at (vs ++ v ∷ []) x)) (sym e) (subst (IsRankedChild l marks n) (sym (get_or_push vs v (ranks_at [] 0) n long)) own)
        | inr ne ↦ subst (IsRankedChild l marks d) (sym (get_or_append_left vs (v ∷ []) (ranks_at [] 0) d (omega (arith, h, ne, long)))) (s.each d (omega (arith, h, ne)))
      ];
    }

-- one more link
pub link_ranked : (l : PlainLevel) (t : Table) (vs : List PlainRanks) (units : List LayerUnit) (marks : List Bool) (links ks : List Link) (n : ℕ) (x : Link) → n < length links → x ≡ link_with l t vs units marks (link_at ks n)
    → x.tail_rank ≤ 4098 → x.head_rank ≤ 4098 → AreRankedLinks l t vs units marks links n ks → AreRankedLinks l t vs units marks links (n + 1) (set ks n x)
link_ranked l t vs units marks links ks n x less is tail head s =
    let many = s.as_many in
    let inside : n < length ks = omega (arith, less, many) in
    record {
      as_many = length-set ks n x ∙ many;
      each = each_next (link_with l t vs units marks) links ks n x (link_at [] 0) inside s.each s.rest is;
      few = λ k h. elim (cases_eq k n) [
        | inl e ↦ subst (λ (y : Link). (y.tail_rank < 65536) × (y.head_rank < 65536)) (sym (ap (λ i. link_at (set ks n x) i) e ∙ get_or-set_same ks n x (link_at [] 0) inside)) (omega (arith, tail), omega (arith, head))
        | inr ne ↦ subst (λ (y : Link). (y.tail_rank < 65536) × (y.head_rank < 65536)) (sym (get_or-set_other ks n k x (link_at [] 0) ne)) (s.few k (omega (arith, h, ne)))
      ];
      rest = rest_next links ks n x (link_at [] 0) s.rest;
    }

-- one more link without ranks
pub link_bared : (links ks : List Link) (n : ℕ) (x : Link) → n < length links → x ≡ bare_link (link_at ks n) → AreBareLinks links n ks → AreBareLinks links (n + 1) (set ks n x)
link_bared links ks n x less is s =
    let many = s.as_many in
    record {
      as_many = length-set ks n x ∙ many;
      each = each_next bare_link links ks n x (link_at [] 0) (omega (arith, less, many)) s.each s.rest is;
      rest = rest_next links ks n x (link_at [] 0) s.rest;
    }
