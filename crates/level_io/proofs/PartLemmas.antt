-- Ports and sections are written one after the other.
use Rattle.std.proofs.Common.{◌≡◌, ◌≢◌, ⊎_elim, ℕ, zero, suc, ◌+◌, ◌<◌, ◌≤◌, List, [], ◌∷◌, ◌++◌, length, get_or, arith, refl, sym, ap, ◌∙◌, subst}
use Rattle.std.proofs.lemmas.Bool.{cases_lt}
use Rattle.std.proofs.lemmas.List.{get_or-map, get_or_push}
use Rattle.std.specs.Prelude.{Vec}
use Rattle.std.specs.declared.alloc.Global.{Global}
use Rattle.std.proofs.Math.ListN.{get_or-append, set}
use Rattle.drawing_types.specs.declared.shape.Point.{Point}
use Rattle.drawing_types.specs.declared.shape.Rect.{Rect}
use Rattle.elk_doc.specs.declared.document.Direction.{Direction}
use Rattle.drawing_types.specs.declared.section.Section.{Section}
use Rattle.elk_doc.specs.Document.{Document, node_of_port}
use Rattle.drawing_types.specs.Shapes.{origin}
use Rattle.elk_doc.specs.Drawing.{no_rect, no_section}
use Rattle.working_frame.specs.Rotated.{ports_of}
use Rattle.level_io.specs.Back.{section_back}
use Rattle.level_io.specs.Changed.{AreChanged, AreChangedTo, AreDistinct, number_at}
use Rattle.level_io.specs.Written.{ArePortsByNode, ArePortsWritten, port_change, section_change}
use Rattle.level_io.proofs.ChangedLemmas.{one_more, same_changes}
use Rattle.level_io.proofs.NumberLemmas.{node_of_listed}

pub any_default : {X : Type 0} (xs : List X) (i : ℕ) (a b : X) → i < length xs → get_or xs i a ≡ get_or xs i b
any_default [] i a b h = absurd (omega (arith, h))
any_default (x ∷ xs) zero a b h = refl
any_default (x ∷ xs) (suc i) a b h = any_default xs i a b (omega (arith, h))

-- the ports that are listed for a node
pub listed_ports : (d : Document) (ports : List (Vec ℕ Global)) (c : ℕ) (listed : List ℕ) (row : Vec ℕ Global) → ArePortsByNode d ports → c < length d.nodes
    → listed ≡ (get_or ports c row).items → listed ≡ ports_of d c
listed_ports d ports c listed row by_node h is =
    let many = by_node.nodes in
    is ∙ sym (get_or-map (λ (r : Vec ℕ Global). r.items) ports c row [] (omega (arith, h, many))) ∙ by_node.each c h

module _ (d : Document) (way : Direction) (numbers : List ℕ) (boxes : List Rect) (places : List (List Point)) (old : List Point) where
  pub no_ports : ArePortsWritten 0 d way numbers boxes places old old
  no_ports = record { as_many = refl; at = λ i j h k. absurd (omega (arith, h)); others = λ k h. refl }

  -- the ports of one more child
  abbrev change : ℕ → ℕ → Point → Point
  change i j q =
      port_change d way (get_or boxes (number_at numbers i) no_rect) (ports_of d (number_at numbers i)) (get_or places i []) j q

  abbrev Put : ℕ → ℕ → List Point → Type 0
  Put i j now = get_or now (number_at (ports_of d (number_at numbers i)) j) origin ≡ change i j origin

  pub one_more_child : (now next : List Point) (i : ℕ) → AreDistinct numbers (length d.nodes) → i < length numbers
      → ArePortsWritten i d way numbers boxes places old now
      → AreChanged (ports_of d (number_at numbers i)) (change i) origin now next
      → ArePortsWritten (i + 1) d way numbers boxes places old next
  one_more_child now next i distinct h so_far c =
      let listed = ports_of d (number_at numbers i) in
      let apart : (m j : ℕ) → m < i → j < length listed → (k : ℕ) → node_of_port d k ≡ number_at numbers m → number_at listed j ≢ k =
      λ m j before j_in k of_node same.
      let e = distinct.once i m h (omega (arith, before, h)) (sym (node_of_listed d (number_at numbers i) j j_in) ∙ ap (node_of_port d) same ∙ of_node) in
      omega (arith, e, before) in
      record {
        as_many = c.as_many ∙ so_far.as_many;
        at = λ m j in_count j_in.
            ⊎_elim
            (λ before. c.others _ (λ k k_in. apart m k before k_in _ (node_of_listed d (number_at numbers m) j j_in)) ∙ so_far.at m j before j_in)
            (λ (late : i ≤ m). let e : i ≡ m = omega (arith, in_count, late) in
            subst (λ z. j < length (ports_of d (number_at numbers z)) → Put z j next) e (c.at j) j_in)
            (cases_lt m i);
        others = λ k other.
            c.others k (λ j j_in same. other i (omega arith) (sym (node_of_listed d (number_at numbers i) j j_in) ∙ ap (node_of_port d) same))
            ∙ so_far.others k (λ m before. other m (omega (arith, before)));
      }

-- one more section
pub one_more_section : (way : Direction) (by : Point) (edges : List ℕ) (sections : List Section) (s x : Section) (old now : List Section) (i : ℕ)
    → AreDistinct edges (length old) → AreChangedTo i edges (section_change way by sections) no_section old now → i ≡ length sections
    → i < length edges → x ≡ section_back way by s
    → AreChangedTo (i + 1) edges (section_change way by (sections ++ s ∷ [])) no_section old (set now (number_at edges i) x)
one_more_section way by edges sections s x old now i distinct so_far long h is =
    one_more edges (section_change way by (sections ++ s ∷ [])) no_section old now i x distinct
    (same_changes i edges (section_change way by sections) (section_change way by (sections ++ s ∷ [])) no_section old now
    (λ j y before. ap (section_back way by) (sym (get_or-append sections (s ∷ []) no_section j (omega (arith, before, long))))) so_far)
    h (is ∙ ap (section_back way by) (sym (get_or_push sections s no_section i (sym long))))
