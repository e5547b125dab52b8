use Rattle.std.proofs.Common.{◌≡◌, map, drop}
use Rattle.elk_options.specs.Table.{word_number}
use Rattle.elk_options.proofs.numbers.word_number.Given as goal

abbrev pub invariant-loop-word : goal.invariant-loop-word
invariant-loop-word l =
    word_number (map (λ word. (word.0.now, word.1)) (drop l.word-index l.words)) l.text
    ≡ word_number (map (λ word. (word.0.now, word.1)) l.words) l.text
