use Rattle.std.proofs.Common.{◌≡◌, ◌≤◌, arith}
use Rattle.elk_json.specs.Members.{is_port}
use Rattle.elk_json.specs.Document.{number_at}
use Rattle.elk_json.specs.Seen.{seen_list}
use Rattle.elk_json.proofs.Counting.{number_there, few_there}
use Rattle.elk_json.proofs.listed.port_number.Goals as goal

same : (c : goal.After-count_at) → c.count_at.result ≡ number_at is_port (seen_list c.args.list.now.elements.now) c.args.place
same c = number_there is_port (seen_list c.args.list.now.elements.now) c.args.list.now.ports.items c.as_slice.result.now c.args.place c.count_at.result c.as_slice.ensures.value c.args.list.now.ports_counted c.count_at.ensures

pub overflow_cast-result : goal.overflow_cast-result
overflow_cast-result c =
    let few : c.count_at.result ≤ 8192 = few_there is_port (seen_list c.args.list.now.elements.now) c.args.place c.count_at.result (same c) c.requires in
    omega arith

pub returns : goal.returns
returns c = same c
