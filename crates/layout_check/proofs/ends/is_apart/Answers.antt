use Rattle.std.proofs.Common.{◌≢◌, Bool, true, false, not, rules}
use Rattle.std.proofs.lemmas.Bool.{both_ways}
use Rattle.elk_doc.specs.PortsKept.{an_end}
use Rattle.layout_check.specs.FirstPorts.{SpotsDiffer}
use Rattle.layout_check.proofs.SpotLaws.{the_other}
use Rattle.layout_check.proofs.ends.is_apart.Goals as goal

not_itself : (s : Bool) → not s ≢ s
not_itself true e = cc
not_itself false e = cc

pub returns-then-not-ports_clear : goal.returns-then-not-ports_clear
returns-then-not-ports_clear c =
    record {
      holds = λ t. absurd (search rules);
      fails = λ room h. absurd (both_ways c.ports_clear.result c.if-not-ports_clear.true (c.ports_clear.ensures.fails room h.ports));
    }

pub returns-then-not-edges_clear : goal.returns-then-not-edges_clear
returns-then-not-edges_clear c =
    record {
      holds = λ t. absurd (search rules);
      fails = λ room h. absurd (both_ways c.edges_clear.result c.if-not-edges_clear.true (c.edges_clear.ensures.fails room (λ f l t. h.lower f t l)));
    }

pub returns : goal.returns
returns c =
    let s = c.args.at_source in
    record {
      holds = λ t.
          record {
            ports = c.ports_clear.ensures.holds c.if-not-ports_clear.false;
            lower = λ f u l. c.edges_clear.ensures.holds c.if-not-edges_clear.false f l u;
            other = λ u n. the_other (λ x. SpotsDiffer c.args.scene.now.doc.now c.args.scene.now.placed.now c.args.node (an_end c.args.edge x) (an_end c.args.edge s)) s u (c.end_clear.ensures.holds t) n;
          };
      fails = λ room h. c.end_clear.ensures.fails room (h.other (not s) (not_itself s));
    }
