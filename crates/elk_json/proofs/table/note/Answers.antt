use Rattle.std.proofs.Common.{◌≡◌, None, sym, ◌∙◌, tests, rules}
use Rattle.indexmap.specs.IndexMap.{get}
use Rattle.elk_json.specs.Keys.{is_same_key}
use Rattle.elk_json.proofs.Firsts.{noted}
use Rattle.elk_json.proofs.table.note.Goals as goal

pub returns-in_ok-put : goal.returns-in_ok-put
returns-in_ok-put c =
    let none : c.place_of.result ≡ None = search (tests, rules) in λ k.
    noted c.args.table.now c.args.key c.args.place k (get is_same_key c.put.new.table k) (sym c.place_of.ensures ∙ none) (c.in_ok-put.ensures k)
