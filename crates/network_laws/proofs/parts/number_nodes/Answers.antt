use Rattle.std.proofs.Common.{◌≡◌, length, arith, subst}
use Rattle.network_laws.specs.Parts.{ArePartNumbers}
use Rattle.network_laws.proofs.Naming.{named_self, numbered}
use Rattle.network_laws.proofs.parts.number_nodes.Goals as goal

pub join_all-requires-clause-names : goal.join_all-requires-clause-names
join_all-requires-clause-names c = named_self (length c.name_nodes.new.names) c.args.edges.now c.name_nodes.new.names (omega arith) (λ v l. c.name_nodes.ensures v (omega (arith, l)))

pub returns : goal.returns
returns c =
    let n : length c.name_nodes.new.names ≡ length c.args.names.now = omega arith in
    subst (λ x. ArePartNumbers x c.args.edges.now c.number_names.new.numbers) n
    (numbered (length c.name_nodes.new.names) c.args.edges.now c.join_all.new.names c.number_names.new.numbers c.join_all.ensures.names c.join_all.ensures.joined c.number_names.ensures)
