use Rattle.std.proofs.Common.{◌≡◌, Some, cond, refl, sym, ◌∙◌}
use Rattle.indexmap.specs.IndexMap.{get_by}
use Rattle.elk_json.specs.contracts.key.KeyPartialEq as derived
use Rattle.elk_json.specs.declared.key.Key.{Key}
use Rattle.elk_json.specs.declared.key.Key.TheVariants.{Text, Whole}
use Rattle.elk_json.specs.Keys.{is_same_key}
use Rattle.elk_json.proofs.table.put.Goals as goal

equal : (a b : Key) → (derived.TheImpl.ghosts).eq a b ≡ is_same_key a b
equal (Text a) (Text b) = refl
equal (Text a) (Whole n) = refl
equal (Whole m) (Text b) = refl
equal (Whole m) (Whole n) = refl

pub returns : goal.returns
returns c = λ k.
    (λ j. get_by (λ x. sym (equal k x) j) c.insert.new.self) ∙ c.in_ok-insert.ensures.updates.0 k
    ∙ (λ j. cond (equal c.args.key k j) (Some c.args.place) (get_by (λ x. equal k x j) c.args.table.now))
