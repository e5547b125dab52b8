use Rattle.elk_options.proofs.Unasked.{none_asked, not_bad, default_level}
use Rattle.elk_options.proofs.laws.nothing_asked_is_default.Goals as goal

pub returns-clause-none : goal.returns-clause-none
returns-clause-none c = λ option. none_asked option

pub returns-clause-not_bad : goal.returns-clause-not_bad
returns-clause-not_bad c = λ d role none. not_bad d role none

pub returns-clause-default : goal.returns-clause-default
returns-clause-default c = λ d none. default_level d none
