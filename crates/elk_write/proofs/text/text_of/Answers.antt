use Rattle.std.proofs.Common.{ap, ◌∙◌, ◌++◌, ◌∷◌, []}
use Rattle.serde_json.specs.View.{view}
use Rattle.elk_json.specs.Bytes.{reading}
use Rattle.elk_write.proofs.Ascending.{text_ascends}
use Rattle.elk_write.proofs.LineFeed.{read_with_feed}
use Rattle.elk_write.proofs.OneLine.{text_is_line}
use Rattle.elk_write.proofs.text.text_of.Goals as goal

pub returns-clause-read : goal.returns-clause-read
returns-clause-read c =
    let written = c.in_ok-bytes.ensures in
    λ shallow.
    ap reading c.in_ok-push.ensures.items
    ∙ read_with_feed c.in_ok-bytes.bytes.items (view c.args.value.now) written.utf8 written.order written.compact (written.reads_back shallow)

pub returns-clause-one_line : goal.returns-clause-one_line
returns-clause-one_line c =
    text_is_line (view c.args.value.now) _ (c.in_ok-push.ensures.items ∙ ap (λ l. l ++ 10 ∷ []) (c.in_ok-bytes.ensures.text c.requires))

pub returns-clause-ascending : goal.returns-clause-ascending
returns-clause-ascending c =
    let written = c.in_ok-bytes.ensures in
    λ keyed. text_ascends c.in_ok-bytes.bytes.items _ (view c.args.value.now) written.order written.compact c.in_ok-push.ensures.items keyed
