-- One step of the loops that push units and links and count layers.
use Rattle.std.proofs.Common.{◌≡◌, ◌⊎◌, ⊎_elim, inl, inr, ℕ, ◌+◌, ◌-◌, ◌<◌, ◌≤◌, Bool, false, List, [], length, get_or, refl, sym, subst, ap, ◌∙◌, arith}
use Rattle.std.proofs.lemmas.Bool.{cases_eq}
use Rattle.elk_layers.specs.declared.units.Unit.{Unit as LayerUnit}
use Rattle.elk_layers.specs.declared.units.Link.{Link}
use Rattle.level_model.specs.Level.{holds}
use Rattle.layer_units.specs.declared.runs.Run.{Run}
use Rattle.layer_units.specs.Layering.{Layering, layer_in, IsCountTo}
use Rattle.layer_units.specs.Numbered.{lane_on, link_on, gaps_of, lanes_of, first_lane, run_at, run_of}
use Rattle.layer_units.specs.Grown.{grown, child_units, units_to, links_to}
use Rattle.level_model.specs.Marks.{AreMarks}
use Rattle.layer_units.proofs.GrownLemmas.{all_more}
use Rattle.layer_units.proofs.NumberLemmas.{lanes_begin}

pub count_none : (layers : List ℕ) → IsCountTo layers 0 0
count_none layers = record { above = λ c h. absurd (omega (arith, h)); reached = inl refl }

pub count_more : (layers : List ℕ) (k n m : ℕ) → n ≤ m → layer_in layers k < m → (m ≡ n) ⊎ (m ≡ layer_in layers k + 1) → IsCountTo layers k n → IsCountTo layers (k + 1) m
count_more layers k n m kept over least are =
    record {
      above = λ c h. elim (cases_eq c k) [
        | inl same ↦ subst (λ d. layer_in layers d < m) (sym same) over
        | inr other ↦ (let below = are.above c (omega (arith, h, other)) in omega (arith, below, kept))
      ];
      reached =
          ⊎_elim
          (λ (same : m ≡ n).
          ⊎_elim
          (λ (none : n ≡ 0). inl (same ∙ none))
          (λ (found : (c : ℕ) × (c < k) × (layer_in layers c + 1 ≡ n)). let less = found.1 in inr (found.0, omega (arith, less), found.2 ∙ sym same))
          are.reached)
          (λ (new : m ≡ layer_in layers k + 1). inr (k, omega arith, sym new))
          least;
    }

pub run_is : (s : Layering) (e first : ℕ) (is_reversed : Bool) (run : Run) → run ≡ run_at s.level s.layers is_reversed e first → is_reversed ≡ holds s.reversed e → first ≡ first_lane s e → run ≡ run_of s e
run_is s e first is_reversed run made way begin =
    made ∙ ap (λ t. run_at s.level s.layers t e first) way ∙ ap (λ f. run_at s.level s.layers (holds s.reversed e) e f) begin

pub units_more : (s : Layering) (e : ℕ) (us new : List LayerUnit) (run : Run) → us ≡ units_to s e → run ≡ run_of s e → new ≡ grown (lane_on run) us (run.gaps - 1) → new ≡ units_to s (e + 1)
units_more s e us new run old is push =
    push
    ∙ ap (λ (r : Run). grown (lane_on r) us (r.gaps - 1)) is
    ∙ ap (λ (xs : List LayerUnit). grown (lane_on (run_of s e)) xs (lanes_of s e)) old
    ∙ sym (all_more (λ d i. lane_on (run_of s d) i) (lanes_of s) (child_units s.layers (length s.layers)) e)

pub links_more : (s : Layering) (e : ℕ) (ks new : List Link) (run : Run) → ks ≡ links_to s e → run ≡ run_of s e → new ≡ grown (link_on run) ks run.gaps → new ≡ links_to s (e + 1)
links_more s e ks new run old is push =
    push
    ∙ ap (λ (r : Run). grown (link_on r) ks r.gaps) is
    ∙ ap (λ (xs : List Link). grown (link_on (run_of s e)) xs (gaps_of s e)) old
    ∙ sym (all_more (λ d i. link_on (run_of s d) i) (gaps_of s) [] e)

-- the run that is worked out behind the units of all edges before it
pub run_here : (s : Layering) (e first : ℕ) (marks : List Bool) (us : List LayerUnit) (run : Run) → length s.layers ≡ length s.level.children → AreMarks s.reversed (length s.level.edges) marks → e < length s.level.edges
    → us ≡ units_to s e → first ≡ length us → run ≡ run_at s.level s.layers (get_or marks e false) e first → run ≡ run_of s e
run_here s e first marks us run many are h old begin made =
    run_is s e first (get_or marks e false) run made (are.each e h) (begin ∙ ap length old ∙ lanes_begin s e many)
