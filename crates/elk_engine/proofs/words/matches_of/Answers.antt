use Rattle.std.proofs.Common.{◌≡◌, ◌∙◌, List, [], ◌∷◌, Some, refl, sym, ap, ap₂, subst, rules, codes, true, map}
use Rattle.std.specs.Prelude.{IfOk, false}
use Rattle.std.specs.List.{list_any}
use Rattle.std.specs.Str.{bytes_eq}
use Rattle.clap.specs.ValueTests.{accepts}
use Rattle.clap.specs.Words.{App, Rule, Text, FailsBy, HasMatchesOf, app_of, fault_of, new_app, rule_of, with_rule, is_simple_and_free}
use Rattle.clap.specs.Simple.{on_top, app_of_fields}
use Rattle.clap.specs.declared.builder.value_parser.ValueParser.{ValueParser}
use Rattle.clap.specs.declared.builder.arg.Arg.{Arg}
use Rattle.elk_engine.proofs.Clap.{command_rule, number_rule, elk, is_named, any_name, answers_ok, answers_err}
use Rattle.elk_engine.specs.Words.{texts}
use Rattle.elk_engine.proofs.words.matches_of.Goals as goal

abbrev names : List Text
names = codes "layout" ∷ codes "check" ∷ codes "batch" ∷ codes "demo" ∷ []

module _ (c : goal.After-try_get_matches_from) where
  q : (p : ValueParser) × (c.value_parser-command.result.value_parser ≡ Some p) × ((text : Text) → accepts false p text ≡ is_named text)
  q =
      let given = c.value_parser-command.ensures.given in
      let texts_are : map (λ s. s.now) c.as_slice.result.now ≡ names = search rules in
      (given.0, given.1, λ text. subst (λ (p : ValueParser). accepts false p text ≡ is_named text) (sym given.2) (any_name c.as_slice.result.now text ∙ ap (list_any (λ name. bytes_eq name text)) texts_are))

  elk_is : app_of c.in_ok-elk.elk ≡ elk q.0
  elk_is =
      let parser = q.1 in
      let command_is : rule_of c.value_parser-command.result ≡ command_rule q.0 =
      ap rule_of c.value_parser-command.ensures.others ∙ ap₂ (λ (a : Arg) p. rule_of (record a { value_parser = p })) c.required.ensures parser
      ∙ ap (λ (r : Rule). record r { parser = Some q.0; required = true }) c.new.ensures.rule in
      let start_is : app_of c.no_binary_name.result ≡ on_top (λ s. record s { no_binary_name = true }) (new_app (codes "elk")) =
      ap app_of_fields c.no_binary_name.ensures ∙ ap (on_top (λ s. record s { no_binary_name = true })) c.new-2.ensures.app in
      let number_is : rule_of c.new-number.result ≡ number_rule = c.new-number.ensures.rule in
      c.in_ok-elk.ensures.shape (search rules) ∙ ap₂ with_rule (c.in_ok-arg.ensures.shape (search rules) ∙ ap₂ with_rule start_is command_is) number_is

  fails : FailsBy (fault_of (elk q.0) (texts c.args.words.now)) c.try_get_matches_from.result
  fails = subst (λ (a : App). is_simple_and_free a ≡ true → FailsBy (fault_of a (texts c.args.words.now)) c.try_get_matches_from.result) elk_is c.try_get_matches_from.ensures.kinds refl

pub returns-clause-ok : goal.returns-clause-ok
returns-clause-ok c =
    answers_ok (q c).0 (q c).2 c.try_get_matches_from.result (texts c.args.words.now)
    (subst (λ (a : App). IfOk c.try_get_matches_from.result (HasMatchesOf a (texts c.args.words.now))) (elk_is c) c.try_get_matches_from.ensures.matches) (fails c)

pub returns-clause-err : goal.returns-clause-err
returns-clause-err c = answers_err (q c).0 (q c).2 c.try_get_matches_from.result (texts c.args.words.now) (fails c)
