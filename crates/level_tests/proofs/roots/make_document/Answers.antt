use Rattle.std.proofs.Common.{◌≡◌, [], rules}
use Rattle.compound.specs.Examples.{rooted}
use Rattle.compound.proofs.ExampleLemmas.{rooted_sound}
use Rattle.level_tests.proofs.roots.make_document.Goals as goal

pub new-requires-2 : goal.new-requires-2
new-requires-2 c =
    let nodes : c.push.new.self.items ≡ (rooted c.args.way c.args.rule c.args.side).nodes = search rules in
    let ports : c.push-3.new.self.items ≡ (rooted c.args.way c.args.rule c.args.side).ports = search rules in
    let edges : c.new.result.items ≡ [] = search rules in
    rw (nodes, ports, edges) (rooted_sound c.args.way c.args.rule c.args.side)
