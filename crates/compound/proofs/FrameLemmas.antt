-- A level that is written and framed is planned, and all else stays as it was.
use Rattle.std.proofs.Common.{◌≡◌, ◌≢◌, inl, inr, ⊎_elim, ℕ, suc, ◌<◌, ◌≤◌, List, [], length, get_or, set, ℤ, pos, None, refl, sym, ap, ◌∙◌, subst, arith}
use Rattle.std.specs.Prelude.{IfSome, IsFalse, IsNone, IsTrue, Option, Some}
use Rattle.std.proofs.lemmas.Bool.{both_ways, cases_Bool, cases_eq}
use Rattle.std.proofs.lemmas.List.{get_or-set_other, get_or-set_same, length-set}
use Rattle.drawing_types.specs.declared.shape.Rect.{Rect}
use Rattle.drawing_types.specs.declared.shape.Size.{Size}
use Rattle.elk_doc.specs.declared.document.LevelOptions.{LevelOptions}
use Rattle.elk_doc.specs.declared.drawing.Placed.{Placed}
use Rattle.elk_doc.specs.Document.{Document, node_at}
use Rattle.drawing_types.specs.Shapes.{no_size}
use Rattle.elk_doc.specs.Level.{IsChild}
use Rattle.elk_doc.specs.Drawing.{box_of, certificate_of}
use Rattle.elk_doc.specs.Fits.{IsRooted, KeepsSize}
use Rattle.elk_doc.specs.Sound.{IsSound, IsSoundLevel}
use Rattle.route_lines.specs.Points.{PlainGap}
use Rattle.level_model.specs.FromPlan.{PlainTrace}
use Rattle.level_nets.specs.Held.{plain_gaps}
use Rattle.level_draw.specs.Traced.{plain_traces}
use Rattle.working_frame.specs.Drawing.{IsRotatedDrawing}
use Rattle.working_frame.specs.Rotated.{box_size, level_of}
use Rattle.working_frame.proofs.KeptLemmas.{drawings_read_levels, levels_read_sizes}
use Rattle.rotated_levels.specs.Framed.{start_of}
use Rattle.level_io.specs.Read.{size_at}
use Rattle.level_io.specs.declared.figure.LevelFigure.{LevelFigure}
use Rattle.level_io.specs.Back.{size_of}
use Rattle.level_io.specs.Figure.{figure_in}
use Rattle.level_io.specs.Sizes.{IsSizeRound}
use Rattle.level_io.specs.Written.{HasCertificate}
use Rattle.compound.specs.Parted.{IsPartedPlan}
use Rattle.compound.specs.Planned.{ArePlannedFrom, IsLayeredPlan, IsPlannedLevel}
use Rattle.compound.proofs.PlanLemmas.{plans_stay}
use Rattle.compound.specs.Figures.{IsLayered, IsParted}
use Rattle.compound.specs.Work.{IsFigureOf, IsFramedRound, IsWork}
use Rattle.compound.proofs.BoxLemmas.{boxed_planned}
use Rattle.compound.proofs.TreeLemmas.{child_after, leaf_or_level, same_options}

keeps_size : (d : Document) (p q : Placed) (m : ℕ) → box_size q m ≡ box_size p m → KeepsSize d p m → KeepsSize d q m
keeps_size d p q m e h = record { width = ap (λ (s : Size). s.width) e ∙ h.width; height = ap (λ (s : Size). s.height) e ∙ h.height }

-- a leaf is laid out as it is
pub leaf_worked : (d : Document) (p : Placed) (sizes : List Size) (n : ℕ) → n < length d.nodes → IsNone (node_at d n).level → IsWork d p sizes (suc n) → IsWork d p sizes n
leaf_worked d p sizes n there leaf work =
    let size : box_size p n ≡ (node_at d n).size = work.given n (omega arith) there in
    record {
      complete = work.complete;
      as_many = work.as_many;
      known = work.known;
      planned = record {
        leaves = λ m from h none.
            ⊎_elim
            (λ (e : m ≡ n).
            subst (λ k. KeepsSize d p k) (sym e) (record { width = ap (λ (s : Size). s.width) size; height = ap (λ (s : Size). s.height) size }))
            (λ (other : m ≢ n). work.planned.leaves m (omega (arith, from, other)) h none)
            (cases_eq m n);
        levels = λ m o from h is.
            ⊎_elim
            (λ (e : m ≡ n). absurd (leaf_or_level (node_at d m).level o is (subst (λ k. IsNone (node_at d k).level) (sym e) leaf)))
            (λ (other : m ≢ n). work.planned.levels m o (omega (arith, from, other)) h is)
            (cases_eq m n);
      };
      given = λ m h within. work.given m (omega (arith, h)) within;
      bare = λ m h. work.bare m (omega (arith, h));
      bare_leaves = work.bare_leaves;
      rooted = work.rooted;
    }

module _ (d : Document) (old now : Placed) (sizes : List Size) (n : ℕ) (o : LevelOptions) (v : LevelFigure)
    (sound : IsSound d) (there : n < length d.nodes) (options : (node_at d n).level ≡ Some o)
    (work : IsWork d old sizes (suc n)) (layout : IsFigureOf d old n o v) (round : IsFramedRound d n o v old now) where
  abbrev between : Placed
  between = round.between

  size_kept : (m : ℕ) → m ≢ n → box_size now m ≡ box_size old m
  size_kept m other = ap size_of (round.framed.boxes m other) ∙ round.written.elsewhere.sizes m

  certificate_now : (m : ℕ) → certificate_of now m ≡ certificate_of between m
  certificate_now m = ap (λ levels. get_or levels m None) round.framed.levels

  certificate_kept : (m : ℕ) → m ≢ n → certificate_of now m ≡ certificate_of old m
  certificate_kept m other = certificate_now m ∙ round.written.elsewhere.levels m other

  -- ---- the level

  other_child : (c : ℕ) → IsChild d n c → c ≢ n
  other_child c h = λ e. let after = child_after d n c sound h in omega (arith, after, e)

  level_now : level_of d old n o ≡ level_of d now n o
  level_now = levels_read_sizes d old now n o (λ c h. sym (size_kept c (other_child c h)))

  drawn_now : (gaps : List PlainGap) (traces : List PlainTrace) (left top : ℤ) → IsRotatedDrawing d now n o.direction (figure_in v gaps traces left top) (start_of o.direction o.padding v.extent)
  drawn_now gaps traces left top =
      drawings_read_levels d between now n o.direction (figure_in v gaps traces left top) (start_of o.direction o.padding v.extent)
      (round.framed.agree n (λ h. other_child n h refl)) (round.written.rotated gaps traces left top)

  certificate_is : HasCertificate d n now v.certificate
  certificate_is =
      let made = round.written.certificate in
      record { written = made.written; is_written = certificate_now n ∙ made.is_written; numbered = made.numbered; parts = made.parts }

  layered_planned : IsLayered layout.level v → IsLayeredPlan d now n o
  layered_planned h =
      record {
        level = layout.level;
        out = h.out;
        is = layout.is ∙ level_now;
        fixed = layout.fixed;
        placing = layout.placing;
        laid_out = h.laid_out;
        certificate = subst (λ (f : LevelFigure). HasCertificate d n now f.certificate) h.is certificate_is;
        drawn = λ left top.
            subst (λ (f : LevelFigure). IsRotatedDrawing d now n o.direction (figure_in f (plain_gaps h.out.plan.gaps) (plain_traces h.out.plan.traces) left top) (start_of o.direction o.padding f.extent)) h.is
            (drawn_now (plain_gaps h.out.plan.gaps) (plain_traces h.out.plan.traces) left top);
        size = subst (λ (f : LevelFigure). IsSizeRound d n o f.extent (box_size now n)) h.is round.framed.size;
      }

  parted_planned : IsParted layout.level o v → IsPartedPlan d now n o
  parted_planned h =
      record {
        level = layout.level;
        out = h.out;
        is = layout.is ∙ level_now;
        fixed = layout.fixed;
        placing = layout.placing;
        laid_out = h.laid_out;
        certificate = subst (λ (f : LevelFigure). HasCertificate d n now f.certificate) h.is certificate_is;
        drawn = subst (λ (f : LevelFigure). IsRotatedDrawing d now n o.direction (figure_in f [] [] (pos 0) (pos 0)) (start_of o.direction o.padding f.extent)) h.is (drawn_now [] [] (pos 0) (pos 0));
        size = subst (λ (f : LevelFigure). IsSizeRound d n o f.extent (box_size now n)) h.is round.framed.size;
      }

  -- a level that is split is none of boxes
  not_boxes : IsTrue o.split → IsFalse o.boxes
  not_boxes split =
      let level : IsSoundLevel d n o = subst (λ (l : Option LevelOptions). IfSome l (IsSoundLevel d n)) options (sound.levels.options n there) in
      elim (cases_Bool o.boxes) [ inl boxes ↦ absurd (both_ways o.split (level.boxes_not_split boxes) split) | inr layered ↦ layered ]

  level_planned : IsPlannedLevel d now n o
  level_planned =
      record {
        layered = λ layers whole. layered_planned (layout.figure.layered layers whole);
        parted = λ split. parted_planned (layout.figure.parted (not_boxes split) split);
        boxed = λ boxes.
            boxed_planned d now n o layout.level v sound there options boxes (layout.is ∙ level_now) layout.fixed layout.placing (layout.figure.boxed boxes)
            (drawn_now [] [] (pos 0) (pos 0)) certificate_is round.framed.size;
      }

  -- ---- the levels after it

  later_planned : (m : ℕ) (q : LevelOptions) → n < m → IsPlannedLevel d old m q → IsPlannedLevel d now m q
  later_planned m q after plan =
      let other : m ≢ n = λ e. omega (arith, after, e) in
      let elsewhere = round.written.elsewhere in
      plans_stay d between now m q (round.framed.agree m (λ h. let before = child_after d m n sound h in omega (arith, after, before)))
      (sym (certificate_now m)) (ap size_of (sym (round.framed.boxes m other)))
      (plans_stay d old between m q (elsewhere.agree m other) (sym (elsewhere.levels m other)) (sym (elsewhere.sizes m)) plan)

  other_leaf : (m : ℕ) → IsNone (node_at d m).level → m ≢ n
  other_leaf m leaf = λ e. leaf_or_level (node_at d m).level o (ap (λ k. (node_at d k).level) e ∙ options) leaf

  planned : ArePlannedFrom d now n
  planned =
      record {
        leaves = λ m from h leaf.
            let other = other_leaf m leaf in
            keeps_size d old now m (size_kept m other) (work.planned.leaves m (later m from other) h leaf);
        levels = λ m q from h is.
            ⊎_elim
            (λ (e : m ≡ n).
            let same : o ≡ q = same_options o q (sym options ∙ ap (λ k. (node_at d k).level) (sym e) ∙ is) in
            subst (λ k. IsPlannedLevel d now k q) (sym e) (subst (IsPlannedLevel d now n) same level_planned))
            (λ (other : m ≢ n). let after = later m from other in later_planned m q (omega (arith, after)) (work.planned.levels m q after h is))
            (cases_eq m n);
      }
    where
      later : (m : ℕ) → n ≤ m → m ≢ n → suc n ≤ m
      later m from other = omega (arith, from, other)

  -- ---- all nodes

  sizes_known : (m : ℕ) → m < length d.nodes → box_size now m ≡ size_at (set sizes n (box_size now n)) m
  sizes_known m h =
      let many = work.as_many in
      ⊎_elim
      (λ (e : m ≡ n).
      subst (λ k. box_size now k ≡ size_at (set sizes n (box_size now n)) k) (sym e) (sym (get_or-set_same sizes n (box_size now n) no_size (omega (arith, there, many)))))
      (λ (other : m ≢ n). size_kept m other ∙ work.known m h ∙ sym (get_or-set_other sizes n m (box_size now n) no_size other))
      (cases_eq m n)

  root_between : box_of between 0 ≡ box_of old 0
  root_between = round.written.elsewhere.boxes 0 (λ h. let after = child_after d n 0 sound h in omega (arith, after))

  rooted : IsRooted now
  rooted =
      ⊎_elim
      (λ (e : 0 ≡ n). record {
        x = subst (λ m. (box_of now m).x ≡ (box_of between m).x) (sym e) round.framed.x ∙ ap (λ (r : Rect). r.x) root_between ∙ work.rooted.x;
        y = subst (λ m. (box_of now m).y ≡ (box_of between m).y) (sym e) round.framed.y ∙ ap (λ (r : Rect). r.y) root_between ∙ work.rooted.y;
      })
      (λ (other : 0 ≢ n). let same = round.framed.boxes 0 other ∙ root_between in record {
        x = ap (λ (r : Rect). r.x) same ∙ work.rooted.x;
        y = ap (λ (r : Rect). r.y) same ∙ work.rooted.y;
      })
      (cases_eq 0 n)

  before : (m : ℕ) → m < n → m ≢ n
  before m h = λ e. omega (arith, h, e)

  worked_set : IsWork d now (set sizes n (box_size now n)) n
  worked_set =
      record {
        complete = round.framed.complete;
        as_many = length-set sizes n (box_size now n) ∙ work.as_many;
        known = sizes_known;
        planned = planned;
        given = λ m h within. size_kept m (before m h) ∙ work.given m (omega (arith, h)) within;
        bare = λ m h. certificate_kept m (before m h) ∙ work.bare m (omega (arith, h));
        bare_leaves = λ m within leaf. certificate_kept m (other_leaf m leaf) ∙ work.bare_leaves m within leaf;
        rooted = rooted;
      }

  -- the drawing is in work from n on, with the size of n among the sizes
  pub worked : (known : List Size) → known ≡ set sizes n (box_size now n) → IsWork d now known n
  worked known is = subst (λ (s : List Size). IsWork d now s n) (sym is) worked_set
