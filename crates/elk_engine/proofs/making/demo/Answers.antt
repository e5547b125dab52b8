use Rattle.std.proofs.Common.{◌≡◌, ◌++◌, ◌∙◌, ap}
use Rattle.elk_engine.specs.DemoDocument.{demo_document, triple_edges}
use Rattle.elk_engine.proofs.DemoLaws.{demo_sound}
use Rattle.elk_engine.proofs.making.demo.Goals as goal

pub new-requires-2 : goal.new-requires-2
new-requires-2 c =
    let n = c.args.nodes in
    let edges : c.push_triples.new.edges.items ≡ (demo_document n).edges = c.in_ok-push_triples.ensures ∙ ap (λ xs. xs ++ triple_edges n) c.in_ok-edges.ensures in
    rw (c.in_ok-list.ensures, c.new.ensures.items, edges) (demo_sound n c.requires.some c.requires.few)
