-- A drawing obeys the document that has its places of ports.
use Rattle.std.proofs.Common.{◌≡◌, ℕ, zero, suc, ◌<◌, ⊎_elim, List, [], ◌∷◌, length, map, Bool, true, false, ◌&&◌, Option, Some, None, refl, sym, ap, ◌∙◌, subst, arith, rules}
use Rattle.std.specs.Prelude.{IsSome, IsTrue, slice_index_or, unwrap_or}
use Rattle.std.proofs.lemmas.Bool.{cases_lt}
use Rattle.std.proofs.Common.{eq-eqb}
use Rattle.drawing_types.specs.declared.shape.Point.{Point}
use Rattle.drawing_types.specs.declared.shape.Size.{Size}
use Rattle.drawing_types.specs.declared.shape.Side.{Side}
use Rattle.drawing_types.specs.declared.shape.Side.TheVariants.{North, South}
use Rattle.elk_doc.specs.declared.document.Node.{Node}
use Rattle.elk_doc.specs.declared.document.Port.{Port}
use Rattle.elk_doc.specs.declared.document.Edge.{Edge}
use Rattle.elk_doc.specs.declared.document.PortRule.{PortRule}
use Rattle.elk_doc.specs.declared.document.PortRule.TheVariants.{FixedPos}
use Rattle.elk_doc.specs.declared.document.LevelOptions.{LevelOptions}
use Rattle.elk_doc.specs.declared.drawing.Certificate.{Certificate}
use Rattle.elk_doc.specs.declared.drawing.Placed.{Placed}
use Rattle.elk_doc.specs.Document.{Document, document, node_at, port_at, no_port, parent_of, node_of_port}
use Rattle.elk_doc.specs.Level.{is_number}
use Rattle.elk_doc.specs.Drawing.{certificate_of, port_place}
use Rattle.elk_doc.specs.Sides.{is_leaf, side_from, given_side, side_by_place, side_of_port}
use Rattle.elk_doc.specs.Sound.{IsSound, along}
use Rattle.elk_doc.specs.PortsKept.{KeepsPort, PortsKept, across, pins, is_pinned}
use Rattle.elk_doc.specs.Fits.{FitsLevel}
use Rattle.elk_doc.specs.Layering.{Least}
use Rattle.elk_doc.specs.Drawn.{Drawn, LevelDrawn}
use Rattle.elk_doc.specs.Fitted.{Fitted}
use Rattle.elk_write.specs.ReadBack.{without_place, SameButPlaces}
use Rattle.elk_write.proofs.OtherPlaces.{same_count, owner_same, size_same, asked_same}
use Rattle.elk_write.proofs.OtherLevels.{fits_over, apart_over, inside_over, routes_over, clears_over, shares_over, reversed_over, layering_over, least_over, flow_over}
use Rattle.elk_write.proofs.OtherPorts.{kept_over}
use Rattle.elk_write.proofs.OtherFitted.{fitted_over}
use Rattle.drawing_types.proofs.SameShapes.{same_point}

-- each port is given the place that the drawing has for it
abbrev pub HasPlaces : Document → Placed → Type 0
HasPlaces d p = (k : ℕ) → k < length d.ports → (port_at d k).place ≡ port_place p k

-- ---- each port is kept

number_of : (o : Option ℕ) → IsSome o → IsTrue (is_number o (unwrap_or o 0))
number_of None h = absurd (search rules)
number_of (Some n) h = eq-eqb n n refl

certificate_there : (d : Document) (n : ℕ) (o : Option LevelOptions) (c : Option Certificate) → IsSome o → FitsLevel d n o c → (l : LevelOptions) × (x : Certificate) × (o ≡ Some l) × (c ≡ Some x)
certificate_there d n None c s h = absurd (search rules)
certificate_there d n (Some o) None s h = absurd h
certificate_there d n (Some o) (Some c) s h = (o, c, refl, refl)

module _ (d : Document) (p : Placed) (sound : IsSound d) (drawn : Drawn d p) where
  level_kept : (n : ℕ) → n < length d.nodes → IsSome (node_at d n).level → PortsKept d p n
  level_kept n lt some =
      let c = certificate_there d n (node_at d n).level (certificate_of p n) some (drawn.fits.certificates n lt) in
      (drawn.levels n c.0 c.1 lt c.2 c.3).ports_kept

  kept_at : (m k : ℕ) → m < length d.nodes → k < length d.ports → node_of_port d k ≡ m → KeepsPort d p k
  kept_at zero k lt in_ports is = ((level_kept 0 lt sound.levels.root).root refl).ports k in_ports is
  kept_at (suc m) k lt in_ports is =
      let up = sound.tree.parents (suc m) (omega arith) lt in
      let before = up.before in
      ((level_kept (parent_of d (suc m)) (omega arith) (sound.levels.parents (suc m) (omega arith) lt)).children (suc m)
      (record { node_in = lt; child = number_of (node_at d (suc m)).parent up.parent })).ports k in_ports is

  pub port_kept : (k : ℕ) → k < length d.ports → KeepsPort d p k
  port_kept k lt = kept_at (node_of_port d k) k (sound.ports.nodes k lt) lt refl

-- ---- a pinned port of a leaf stands where it is given

by_side : (s : Side) (a b : Point) → along s a ≡ along s b → across s a ≡ across s b → a ≡ b
by_side North a b x y = same_point a b x y
by_side South a b x y = same_point a b x y
by_side s a b x y = same_point a b y x

pub pinned_place : (d : Document) (p : Placed) (k : ℕ) → KeepsPort d p k → is_pinned d k ≡ true → is_leaf d (node_of_port d k) ≡ true → port_place p k ≡ (port_at d k).place
pinned_place d p k h pinned leaf =
    by_side (side_of_port d p k) (port_place p k) (port_at d k).place (h.along_kept pinned)
    (h.across_kept (subst (λ b. IsTrue (b && is_leaf d (node_of_port d k))) (sym pinned) leaf))

-- ---- the same sides

past : (ps : List Port) (k : ℕ) → (k < length ps → ⊥) → slice_index_or ps k no_port ≡ no_port
past [] k h = refl
past (q ∷ ps) zero h = absurd (h (omega arith))
past (q ∷ ps) (suc k) h = past ps k (λ lt. h (omega arith))

side_ext : (rule : PortRule) (asked : Option Side) (leaf : Bool) (x y : Option Side) → (rule ≡ FixedPos → leaf ≡ true → x ≡ y) → side_from rule asked leaf x ≡ side_from rule asked leaf y
side_ext FixedPos None true x y h = h refl refl
side_ext FixedPos None false x y h = refl
side_ext rule asked leaf x y h = refl

pub pinned_leaf : (rule : PortRule) (leaf asked : Bool) → rule ≡ FixedPos → leaf ≡ true → pins rule leaf asked ≡ true
pinned_leaf rule leaf asked a b = rw (a, b) refl

module _ (ns : List Node) (es : List Edge) (ps qs : List Port) (same : map without_place qs ≡ map without_place ps) (p : Placed)
    (sound : IsSound (document ns ps es)) (drawn : Drawn (document ns ps es) p)
    (places : (k : ℕ) → k < length qs → (port_at (document ns qs es) k).place ≡ port_place p k) where
  abbrev doc : Document
  doc = document ns ps es

  abbrev other : Document
  other = document ns qs es

  count : length qs ≡ length ps
  count = same_count ns es ps qs same

  place_is : (k : ℕ) → (node_at doc (node_of_port doc k)).rule ≡ FixedPos → is_leaf doc (node_of_port doc k) ≡ true → (port_at other k).place ≡ (port_at doc k).place
  place_is k rule leaf =
      ⊎_elim
      (λ (lt : k < length qs). places k lt ∙ pinned_place doc p k (port_kept doc p sound drawn k (subst (λ n. k < n) count lt)) (pinned_leaf _ _ _ rule leaf) leaf)
      (λ past_end. ap (λ q. q.place) (past qs k (λ lt. omega arith) ∙ sym (past ps k (λ lt. let c = count in omega arith))))
      (cases_lt k (length qs))

  abbrev By : ℕ → Option Side → Size → Point → Option Side
  By n asked size place = side_from (node_at doc n).rule asked (is_leaf doc n) (side_by_place (node_at doc n).size place size)

  given : (k : ℕ) → given_side other k ≡ given_side doc k
  given k =
      ap (λ n. By n (port_at other k).side (port_at other k).size (port_at other k).place) (owner_same ns es ps qs same k)
      ∙ ap (λ s. By (node_of_port doc k) s (port_at other k).size (port_at other k).place) (asked_same ns es ps qs same k)
      ∙ ap (λ z. By (node_of_port doc k) (port_at doc k).side z (port_at other k).place) (size_same ns es ps qs same k)
      ∙ side_ext (node_at doc (node_of_port doc k)).rule (port_at doc k).side (is_leaf doc (node_of_port doc k)) _ _
      (λ rule leaf. ap (λ z. side_by_place (node_at doc (node_of_port doc k)).size z (port_at doc k).size) (place_is k rule leaf))

  level_over : (n : ℕ) (o : LevelOptions) (c : Certificate) → LevelDrawn doc p n o c → LevelDrawn other p n o c
  level_over n o c h = record {
    apart = apart_over ns es ps qs same p given n o c h.apart;
    inside = inside_over ns es ps qs same p given n o h.inside;
    ports_kept = kept_over ns es ps qs same p given places n h.ports_kept;
    routes = routes_over ns es ps qs same p given n h.routes;
    clear = clears_over ns es ps qs same p given n h.clear;
    sharing = shares_over ns es ps qs same p given n h.sharing;
    reversed = reversed_over ns es ps qs same n c h.reversed;
    layering = layering_over ns es ps qs same p n c h.layering;
    flow = flow_over ns es ps qs same p n c h.flow;
  }

  drawn_over : Drawn other p
  drawn_over = record {
    fits = fits_over ns es ps qs same p drawn.fits;
    levels = λ n o c lt level certificate. level_over n o c (drawn.levels n o c lt level certificate);
  }

  refitted : Fitted doc p → Fitted other p
  refitted h n o c lt level certificate = fitted_over ns es ps qs same p given n o c (h n o c lt level certificate)

-- the drawing does for the other document what it does for its own
pub record Redrawn (doc other : Document) (p : Placed) : Type 0 where
  pub drawn : Drawn other p
  pub fitted : Fitted doc p → Fitted other p
  pub least : (n : ℕ) (c : Certificate) → Least doc p n c → Least other p n c

pub redrawn : (doc other : Document) (p : Placed) → SameButPlaces doc other → HasPlaces other p → IsSound doc → Drawn doc p → Redrawn doc other p
redrawn doc other p same places sound drawn =
    let is : other ≡ document doc.nodes other.ports doc.edges = ap (λ ns. document ns other.ports other.edges) same.nodes ∙ ap (λ es. document doc.nodes other.ports es) same.edges in
    subst (λ d. Redrawn doc d p) (sym is) (record {
      drawn = drawn_over doc.nodes doc.edges doc.ports other.ports same.ports p sound drawn places;
      fitted = refitted doc.nodes doc.edges doc.ports other.ports same.ports p sound drawn places;
      least = least_over doc.nodes doc.edges doc.ports other.ports same.ports p;
    })
