-- Grown lists are numbered as they should be.
use Rattle.std.proofs.Common.{◌≡◌, ℕ, ◌+◌, List, [], pos, length, ap, ◌∙◌, arith}
use Rattle.elk_layers.specs.declared.units.Link.{Link}
use Rattle.elk_layers.specs.Layered.{Plain, unit_at, link_at}
use Rattle.layer_units.specs.Layering.{Layering, layer_in}
use Rattle.layer_units.specs.Numbered.{AreNumberedUnits, child_unit, lane_unit, lane_on, link_on, gaps_of, lanes_of, first_lane, first_link, run_of}
use Rattle.layer_units.specs.Grown.{AreGrown, child_units, units_to}
use Rattle.layer_units.proofs.GrownLemmas.{grown_length, grown_new, all_length, all_kept, all_new}

abbrev no_link : Link
no_link = record { edge = 0; tail = 0; head = 0; tail_rank = 0; head_rank = 0; tail_at = pos 0; head_at = pos 0 }

pub children_long : (layers : List ℕ) (n : ℕ) → length (child_units layers n) ≡ n
children_long layers n = let long = grown_length (λ c. child_unit (layer_in layers c) c) [] n in omega (arith, long)

-- the length of the list of units before an edge
pub lanes_begin : (s : Layering) (e : ℕ) → length s.layers ≡ length s.level.children → length (units_to s e) ≡ first_lane s e
lanes_begin s e many =
    let long = all_length (λ d i. lane_on (run_of s d) i) (lanes_of s) (child_units s.layers (length s.layers)) e in
    let children = children_long s.layers (length s.layers) in
    omega (arith, long, children, many)

pub numbered : (s : Layering) (p : Plain) → length s.layers ≡ length s.level.children → AreGrown s p → AreNumberedUnits s p
numbered s p many made =
    let children = children_long s.layers (length s.layers) in
    record {
      as_many_units = ap length made.units_are ∙ lanes_begin s (length s.level.edges) many;
      as_many_links = ap length made.links_are ∙ (let long = all_length (λ d i. link_on (run_of s d) i) (gaps_of s) [] (length s.level.edges) in omega (arith, long));
      children = λ c h.
          ap (λ us. unit_at us c) made.units_are
          ∙ all_kept (λ d i. lane_on (run_of s d) i) (lanes_of s) (child_units s.layers (length s.layers)) (length s.level.edges) c (lane_unit 0) (omega (arith, h, children, many))
          ∙ grown_new (λ k. child_unit (layer_in s.layers k) k) [] (length s.layers) c c (lane_unit 0) (omega (arith, h, many)) (omega arith);
      lanes = λ e i h less.
          ap (λ us. unit_at us (first_lane s e + i)) made.units_are
          ∙ all_new (λ d j. lane_on (run_of s d) j) (lanes_of s) (child_units s.layers (length s.layers)) (length s.level.edges) e i (first_lane s e + i) (lane_unit 0) h less (omega (arith, children, many));
      links = λ e i h less.
          ap (λ ks. link_at ks (first_link s e + i)) made.links_are
          ∙ all_new (λ d j. link_on (run_of s d) j) (gaps_of s) [] (length s.level.edges) e i (first_link s e + i) no_link h less (omega arith);
    }
