use Rattle.std.proofs.Common.{◌≡◌, ◌∙◌, length, rules}
use Rattle.std.proofs.lemmas.List.{length-map}
use Rattle.elk_layers.specs.Layered.{plain, rows_of}
use Rattle.bk_place.specs.Checked.{AreGoodRows, AreFound}
use Rattle.bk_place.proofs.CheckLemmas.{rows_from}
use Rattle.phase_tests.proofs.checks.are_rows.Goals as goal

pub returns : goal.returns
returns c = λ yes.
    let l = plain c.args.layered.now in
    let rows = rows_of c.args.order.now in
    let same : length c.args.order.now.rows.items ≡ c.args.layered.now.layers = search rules in
    let as_many : length rows ≡ l.layers = length-map c.args.order.now.rows.items (λ v. v.items) ∙ same in
    let good : AreGoodRows l.units rows = search rules in
    let found : AreFound l.units rows = search rules in
    rows_from l rows as_many good found
