-- The routes of a drawing are small.
use Rattle.std.proofs.Common.{◌≡◌, ℕ, suc, ◌+◌, ◌<◌, [], ◌∷◌, length, get_or, All, refl, subst, eq-eqb, length-append, arith}
use Rattle.std.proofs.Math.ListN.{get_or-append}
use Rattle.std.proofs.lemmas.Int.{ints}
use Rattle.std.proofs.lemmas.List.{get_or_push}
use Rattle.std.proofs.lemmas.List.Elements.{All-from_get_or}
use Rattle.drawing_types.specs.declared.shape.Point.{Point}
use Rattle.drawing_types.specs.declared.section.Section.{Section}
use Rattle.elk_doc.specs.declared.drawing.Placed.{Placed}
use Rattle.elk_doc.specs.Document.{Document, edge_at}
use Rattle.drawing_types.specs.Shapes.{origin}
use Rattle.elk_doc.specs.Drawing.{no_section, point_at, point_count, points_of, section_of}
use Rattle.elk_doc.specs.Level.{IsEdge, level_of_edge, source_node}
use Rattle.drawing_types.specs.Shapes.{Holds, point_rect}
use Rattle.elk_doc.specs.Sound.{IsSound}
use Rattle.elk_doc.proofs.SoundLaws.{node_of_end-in, parent_of-in}
use Rattle.drawing_laws.specs.Held.{IsHeld, IsSmallPoint, IsSmallSection}
use Rattle.drawing_laws.proofs.ParentLemmas.{reach, options_there, level_in_reach}

small_in_reach : (q : Point) → Holds reach (point_rect q) → IsSmallPoint q
small_in_reach q inside = omega (arith, ints)

own_level : (d : Document) (e : ℕ) → e < length d.edges → IsEdge d (level_of_edge d e) e
own_level d e there = record { edge_in = there; edge = eq-eqb (level_of_edge d e) (level_of_edge d e) refl }

-- each point of the route of an edge lies within the padding of the node that has the edge's level
point_small : (d : Document) (p : Placed) (e i : ℕ) → IsSound d → IsHeld d p → e < length d.edges → i < point_count p e → IsSmallPoint (point_at p e i)
point_small d p e i sound held there below =
    let n = level_of_edge d e in
    let edge = sound.edges e there in
    let source_there = node_of_end-in d (edge_at d e).source sound edge.source_in in
    let parent_there = parent_of-in d (source_node d e) sound source_there in
    let compound = options_there _ (sound.levels.parents (source_node d e) edge.source_below source_there) in
    let inside = held.inside n compound.0 parent_there compound.1 in
    small_in_reach (point_at p e i) (level_in_reach d p n compound.0 (point_rect (point_at p e i)) sound held parent_there compound.1 (inside.points e i (own_level d e there) tt below))

bend_at : (s : Section) (i : ℕ) → i < length s.bends → get_or (points_of s) (suc i) origin ≡ get_or s.bends i origin
bend_at s i below = get_or-append s.bends (s.end ∷ []) origin i below

end_at : (s : Section) → get_or (points_of s) (suc (length s.bends)) origin ≡ s.end
end_at s = get_or_push s.bends s.end origin (length s.bends) refl

many_points : (s : Section) → length (points_of s) ≡ length s.bends + 2
many_points s = omega (arith, length-append s.bends (s.end ∷ []))

-- a section is small whose points are, by their numbers
section_small : (s : Section) → ((i : ℕ) → i < length (points_of s) → IsSmallPoint (get_or (points_of s) i origin)) → IsSmallSection s
section_small s small =
    record {
      start = small 0 (omega (arith, many_points s));
      bends = All-from_get_or IsSmallPoint s.bends origin (λ i below. subst IsSmallPoint (bend_at s i below) (small (suc i) (omega (arith, many_points s))));
      end = subst IsSmallPoint (end_at s) (small (suc (length s.bends)) (omega (arith, many_points s)));
    }

pub sections_small : (d : Document) (p : Placed) → IsSound d → IsHeld d p → All IsSmallSection p.sections
sections_small d p sound held =
    All-from_get_or IsSmallSection p.sections no_section
    (λ e there. section_small (section_of p e) (λ i below. point_small d p e i sound held (omega (arith, held.counts.sections)) below))
