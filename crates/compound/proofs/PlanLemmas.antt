-- A level stays planned while nothing of it changes.
use Rattle.std.proofs.Common.{◌≡◌, inl, inr, ℕ, zero, suc, ◌<◌, ◌≤◌, ◌==◌, List, [], ◌∷◌, map, length, get_or, refl, sym, subst, ◌∙◌, ap, ap₂, arith, eqb-true}
use Rattle.std.proofs.lemmas.Bool.{cases_Bool}
use Rattle.drawing_types.specs.declared.shape.Size.{Size}
use Rattle.elk_doc.specs.declared.document.LevelOptions.{LevelOptions}
use Rattle.elk_doc.specs.declared.drawing.Placed.{Placed}
use Rattle.elk_doc.specs.Document.{Document, node_of_port, port_at}
use Rattle.elk_doc.specs.Drawing.{box_of, certificate_of}
use Rattle.elk_doc.specs.Level.{IsChild, children}
use Rattle.elk_doc.specs.Places.{outline_of, outline_to, port_box}
use Rattle.drawing_types.specs.Shapes.{hull, moved_by, rect_at}
use Rattle.box_pack.specs.Squareness.{IsSquarest}
use Rattle.level_model.specs.Level.{PlainLevel}
use Rattle.working_frame.specs.Kept.{AgreeAt}
use Rattle.working_frame.specs.Rotated.{box_size, child_number, port_number, rotated_place, rotated_size}
use Rattle.working_frame.proofs.KeptLemmas.{drawings_read_levels, levels_read_sizes}
use Rattle.working_frame.proofs.NumberedLemmas.{numbers_match}
use Rattle.level_draw.specs.Drawing.{drawn_in}
use Rattle.rotated_levels.specs.Framed.{start_of}
use Rattle.level_io.specs.Sizes.{IsSizeRound}
use Rattle.compound.specs.Boxed.{IsBoxedPlan, corner_of, outline_sizes, size_of}
use Rattle.compound.specs.Laws.{PlansStay}
use Rattle.compound.specs.Parted.{IsPartedPlan}
use Rattle.compound.specs.Planned.{IsLayeredPlan}
use Rattle.level_split.specs.Parts.{whole_drawing}

-- ---- outlines

port_kept : (d : Document) (p q : Placed) (n c k : ℕ) → AgreeAt d p q n → IsChild d n c → k < length d.ports → node_of_port d k ≡ c → port_box d p k ≡ port_box d q k
port_kept d p q n c k agree child there own =
    let boxes : box_of p (node_of_port d k) ≡ box_of q (node_of_port d k) = subst (λ m. box_of p m ≡ box_of q m) (sym own) (agree.boxes c child) in
    let place = agree.ports c k child (record { port_in = there; of_node = own }) in
    ap₂ (λ r z. rect_at (moved_by r z) (port_at d k).size) boxes place

outline_kept : (d : Document) (p q : Placed) (n c m : ℕ) → AgreeAt d p q n → IsChild d n c → m ≤ length d.ports → outline_to d p c m ≡ outline_to d q c m
unfolding outline_to
outline_kept d p q n c zero agree child h = agree.boxes c child
outline_kept d p q n c (suc m) agree child h =
    let before = outline_kept d p q n c m agree child (omega (arith, h)) in
    elim (cases_Bool (node_of_port d m == c)) [
      | inl e ↦ rw e (ap₂ hull before (port_kept d p q n c m agree child (omega (arith, h)) (eqb-true (node_of_port d m) c e)))
      | inr e ↦ rw e before
    ]

-- an outline depends on the box and the ports of its node alone
pub outlines_stay : (d : Document) (p q : Placed) (n c : ℕ) → AgreeAt d p q n → IsChild d n c → outline_of d p c ≡ outline_of d q c
outlines_stay d p q n c agree child = outline_kept d p q n c (length d.ports) agree child (omega arith)

map_same : (f g : ℕ → Size) (xs : List ℕ) → ((i : ℕ) → i < length xs → f (get_or xs i 0) ≡ g (get_or xs i 0)) → map f xs ≡ map g xs
map_same f g [] same = refl
map_same f g (x ∷ xs) same = ap₂ (λ y ys. y ∷ ys) (same 0 (omega arith)) (map_same f g xs (λ i h. same (suc i) (omega (arith, h))))

-- ---- levels

layered_stays : (d : Document) (p q : Placed) (n : ℕ) (o : LevelOptions)
    → AgreeAt d p q n → certificate_of p n ≡ certificate_of q n → box_size p n ≡ box_size q n → IsLayeredPlan d p n o → IsLayeredPlan d q n o
layered_stays d p q n o agree certificate size planned =
    let made = planned.certificate in
    record {
      level = planned.level;
      out = planned.out;
      is = planned.is ∙ levels_read_sizes d p q n o (λ c h. ap size_of (agree.boxes c h));
      fixed = planned.fixed;
      placing = planned.placing;
      laid_out = planned.laid_out;
      certificate = record { written = made.written; is_written = sym certificate ∙ made.is_written; numbered = made.numbered; parts = made.parts };
      drawn = λ left top. drawings_read_levels d p q n o.direction (drawn_in planned.out left top) (start_of o.direction o.padding planned.out.extent) agree (planned.drawn left top);
      size = subst (λ s. IsSizeRound d n o planned.out.extent s) size planned.size;
    }

parted_stays : (d : Document) (p q : Placed) (n : ℕ) (o : LevelOptions)
    → AgreeAt d p q n → certificate_of p n ≡ certificate_of q n → box_size p n ≡ box_size q n → IsPartedPlan d p n o → IsPartedPlan d q n o
parted_stays d p q n o agree certificate size planned =
    let made = planned.certificate in
    record {
      level = planned.level;
      out = planned.out;
      is = planned.is ∙ levels_read_sizes d p q n o (λ c h. ap size_of (agree.boxes c h));
      fixed = planned.fixed;
      placing = planned.placing;
      laid_out = planned.laid_out;
      certificate = record { written = made.written; is_written = sym certificate ∙ made.is_written; numbered = made.numbered; parts = made.parts };
      drawn = drawings_read_levels d p q n o.direction (whole_drawing planned.out) (start_of o.direction o.padding planned.out.extent) agree planned.drawn;
      size = subst (λ s. IsSizeRound d n o planned.out.extent s) size planned.size;
    }

boxed_stays : (d : Document) (p q : Placed) (n : ℕ) (o : LevelOptions)
    → AgreeAt d p q n → certificate_of p n ≡ certificate_of q n → box_size p n ≡ box_size q n → IsBoxedPlan d p n o → IsBoxedPlan d q n o
boxed_stays d p q n o agree certificate size planned =
    let child : (i : ℕ) → i < length (children d n) → IsChild d n (child_number d n i) = (numbers_match d n).children.meant in
    let bare : PlainLevel → PlainLevel = λ l. record { children = l.children; edges = []; spacing = l.spacing; choices = l.choices } in
    let sizes : outline_sizes d p n ≡ outline_sizes d q n =
    map_same (λ c. size_of (outline_of d p c)) (λ c. size_of (outline_of d q c)) (children d n) (λ i h. ap size_of (outlines_stay d p q n (child_number d n i) agree (child i h))) in
    record {
      level = planned.level;
      out = planned.out;
      is = planned.is ∙ ap bare (levels_read_sizes d p q n o (λ c h. ap size_of (agree.boxes c h)));
      fixed = planned.fixed;
      placing = planned.placing;
      laid_out = planned.laid_out;
      ports = λ i j h k.
          let c = child_number d n i in
          let m = port_number d c j in
          ap₂ (λ s z. rotated_place o.direction s (port_at d m).size z) (sym (ap size_of (agree.boxes c (child i h)))) (sym (agree.ports c m (child i h) ((numbers_match d c).ports.meant j k)))
          ∙ planned.ports i j h k;
      squarest = planned.squarest;
      rows = subst (λ s. IsSquarest s o.spacing.node_node planned.squarest) sizes planned.rows;
      outlines = λ i h. ap corner_of (sym (outlines_stay d p q n (child_number d n i) agree (child i h))) ∙ planned.outlines i h;
      certificate = sym certificate ∙ planned.certificate;
      size = subst (λ s. IsSizeRound d n o (rotated_size o.direction planned.squarest.rows.extent) s) size planned.size;
    }

pub plans_stay : PlansStay
plans_stay d p q n o agree certificate size planned =
    record {
      layered = λ layers whole. layered_stays d p q n o agree certificate size (planned.layered layers whole);
      parted = λ split. parted_stays d p q n o agree certificate size (planned.parted split);
      boxed = λ boxes. boxed_stays d p q n o agree certificate size (planned.boxed boxes);
    }
