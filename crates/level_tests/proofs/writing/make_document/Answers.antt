use Rattle.std.proofs.Common.{◌≡◌, rules}
use Rattle.level_tests.specs.Rotating.{rotating}
use Rattle.level_tests.proofs.RotatingLemmas.{rotating_sound}
use Rattle.level_tests.proofs.writing.make_document.Goals as goal

pub new-requires : goal.new-requires
new-requires c =
    let nodes : c.push-2.new.self.items ≡ (rotating c.args.way).nodes = search rules in
    let ports : c.push-3.new.self.items ≡ (rotating c.args.way).ports = search rules in
    let edges : c.push-4.new.self.items ≡ (rotating c.args.way).edges = search rules in
    rw (nodes, ports, edges) (rotating_sound c.args.way)
