use Rattle.std.proofs.Common.{[], ◌∷◌, codes}
use Rattle.std.proofs.lemmas.Result.{on_ok_weaker}
use Rattle.json.specs.Token.{end_object, key as key_token, string as string_token}
use Rattle.elk_write.specs.Tokens.{tokens_of}
use Rattle.elk_write.specs.Values.{point_data, section_id}
use Rattle.elk_write.proofs.Leaving.{both}
use Rattle.elk_write.proofs.tokens.put_ends.Goals as goal

pub returns : goal.returns
returns c =
    let out = c.args.out.now in
    let one = c.put_named.new.out in
    let two = c.put_name.new.out in
    let three = c.put_named-2.new.out in
    let last = c.end_object.new.self in
    let s = c.args.section.now in
    let end = key_token (codes "endPoint") ∷ tokens_of (point_data s.end) in
    let name = key_token (codes "id") ∷ string_token (section_id c.args.id.now) ∷ [] in
    let start = key_token (codes "startPoint") ∷ tokens_of (point_data s.start) in
    let first = both out one two end name c.in_ok-put_named.ensures c.in_ok-put_name.ensures in
    let front = both out two three _ start first c.in_ok-put_named-2.ensures in
    on_ok_weaker c.end_object.result (λ k. both out three last _ (end_object ∷ []) front (c.end_object.ensures.room.0, k)) c.end_object.ensures.ok
