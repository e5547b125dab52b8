use Rattle.std.proofs.Common.{true, false, rules}
use Rattle.std.proofs.lemmas.Bool.{both_ways}
use Rattle.elk_doc.specs.PortsKept.{an_end}
use Rattle.layout_check.specs.FirstPorts.{SpotsDiffer}
use Rattle.layout_check.proofs.SpotLaws.{both_ends}
use Rattle.layout_check.proofs.ends.edge_clear.Goals as goal

pub returns-then-not-end_clear : goal.returns-then-not-end_clear
returns-then-not-end_clear c =
    record {
      holds = λ t. absurd (search rules);
      fails = λ room h. absurd (both_ways c.end_clear.result c.if-not-end_clear.true (c.end_clear.ensures.fails room (h true)));
    }

pub returns : goal.returns
returns c =
    record {
      holds = λ t u. both_ends (λ x. SpotsDiffer c.args.scene.now.doc.now c.args.scene.now.placed.now c.args.node (an_end c.args.other x) (an_end c.args.edge c.args.at_source)) (c.end_clear.ensures.holds c.if-not-end_clear.false) (c.end_clear-2.ensures.holds t) u;
      fails = λ room h. c.end_clear-2.ensures.fails room (h false);
    }
