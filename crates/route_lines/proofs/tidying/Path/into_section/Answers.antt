use Rattle.std.proofs.Common.{◌≡◌, ◌++◌, ◌<◌, reverse, length, IsSome, refl, rules}
use Rattle.std.specs.Prelude.{option_to_list}
use Rattle.route_lines.proofs.PuttingBefore.{section_by_end}
use Rattle.route_lines.proofs.tidying.Path.into_section.Goals as goal

pub returns : goal.returns
returns c =
    let e : reverse c.args.self.behind.items ≡ c.from_vec.result ++ option_to_list c.pop.result = search rules in
    let v : 0 < length (reverse c.args.self.behind.items) → IsSome c.pop.result = search rules in
    section_by_end c.args.self.head (reverse c.args.self.behind.items) c.from_vec.result c.pop.result _ e v refl refl (search rules)
