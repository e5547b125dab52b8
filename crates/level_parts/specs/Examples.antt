-- A level of three parts whose children and edges are mixed.
use Rattle.std.specs.Prelude.{ℕ, [], ◌∷◌, None}
use Rattle.elk_doc.specs.Defaults.{default_choices}
use Rattle.elk_doc.specs.declared.document.PortRule.TheVariants.{Free}
use Rattle.level_model.specs.declared.level.LevelEdge.{LevelEdge}
use Rattle.level_model.specs.Examples.{spacing, square}
use Rattle.level_model.specs.Level.{PlainLevel}

abbrev pub edge : ℕ → ℕ → ℕ → LevelEdge
edge a b weight = record { source = record { child = a; port = None }; target = record { child = b; port = None }; weight = weight }

abbrev pub mixed : PlainLevel
mixed =
    record {
      children = square [] Free ∷ square [] Free ∷ square [] Free ∷ square [] Free ∷ square [] Free ∷ [];
      edges = edge 3 1 3 ∷ edge 4 0 1 ∷ edge 2 2 1 ∷ edge 1 3 1 ∷ [];
      spacing = spacing;
      choices = default_choices;
    }
