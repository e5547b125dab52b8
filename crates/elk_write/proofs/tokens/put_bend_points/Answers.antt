use Rattle.std.proofs.Common.{[], ◌∷◌, codes, map}
use Rattle.std.proofs.lemmas.Result.{on_ok_weaker}
use Rattle.json.specs.Token.{key as key_token}
use Rattle.serde_json.specs.Data.{array}
use Rattle.serde_json.specs.View.{items_of}
use Rattle.elk_write.specs.Tokens.{tokens_of}
use Rattle.elk_write.specs.Values.{point_data}
use Rattle.elk_write.proofs.Leaving.{both}
use Rattle.elk_write.proofs.tokens.put_bend_points.Goals as goal

pub returns : goal.returns
returns c =
    on_ok_weaker c.put_points.result
    (both c.args.out.now c.key.new.self c.put_points.new.out (key_token (codes "bendPoints") ∷ []) (tokens_of (array (items_of (map point_data c.args.bends.now)))) (c.in_ok-key.ensures.room.0, c.in_ok-key.ensures.ok))
    c.put_points.ensures
