use Rattle.std.proofs.Common.{◌≡◌, ◌<◌, ℕ, zero, suc, Bool, true, false, List, [], ◌∷◌, length, get_or, arith, sym, ◌∙◌}
use Rattle.elk_layers.specs.Layered.{plain, rows_of}
use Rattle.cross_reduce.proofs.LoweringLemmas.{row_stays}
use Rattle.cross_reduce.proofs.SettledLemmas.{settled_noted}
use Rattle.cross_reduce.proofs.HeldLemmas.{none_in_row}
use Rattle.cross_reduce.proofs.exchanging.try_unsettled.Goals as goal

-- a flag of the list, whatever is read past its end
flag_there : (flags : List Bool) (k : ℕ) (other : Bool) → k < length flags → get_or flags k other ≡ true → get_or flags k false ≡ true
flag_there [] k other h is = absurd (omega (arith, h))
flag_there (f ∷ flags) zero other h is = is
flag_there (f ∷ flags) (suc k) other h is = flag_there flags k other (omega (arith, h)) is

pub returns-clause-settled : goal.returns-clause-settled
returns-clause-settled c =
    settled_noted (plain c.args.layered.now) c.args.held.now (rows_of c.args.state.now.order) (rows_of c.try_row.new.state.order) c.args.settled.now.items c.note_row.new.settled.items c.args.r c.in_ok-changed.changed
    c.requires.state.sound c.requires.state.are_rows c.in_ok-changed.ensures.state.are_rows c.in_ok-changed.ensures.others c.requires.settled c.in_ok-changed.ensures.tried c.note_row.ensures

pub returns-then-index-clause-after : goal.returns-then-index-clause-after
returns-then-index-clause-after c = λ none. row_stays (plain c.args.layered.now) (rows_of c.args.state.now.order) c.args.r (none_in_row (plain c.args.layered.now) c.args.held.now (rows_of c.args.state.now.order) c.args.r none (c.requires.settled.none c.args.r c.requires.row
    (flag_there c.args.settled.now.items c.args.r c.index.result.now (omega (arith, c.requires.row, c.requires.settled.as_many)) (sym c.index.ensures ∙ c.if-index.true))))
