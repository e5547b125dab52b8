use Rattle.std.proofs.Common.{◌≡◌, ◌≤◌, ◌++◌, ◌-◌, ℕ, List, length, replicate, slice_range, take, arith, ap, ◌∙◌}
use Rattle.std.proofs.lemmas.List.{take_all}
use Rattle.elk_lines.proofs.Parting.{range_kept}
use Rattle.elk_lines.proofs.store.prepare.Goals as goal

pub returns-in_ok-resize-clause-held : goal.returns-in_ok-resize-clause-held
returns-in_ok-resize-clause-held c =
    let s = c.args.store.now in
    let size = s.bytes.ok.0 in
    let o = c.requires.ordered in
    let i = c.requires.inside in
    let short : length s.bytes.items ≤ 16384 = omega (arith, size) in
    let all : take 16384 s.bytes.items ≡ s.bytes.items = take_all 16384 s.bytes.items short in
    ap (λ (l : List ℕ). slice_range l s.start s.end) c.in_ok-resize.ensures.items ∙ (ap (λ (l : List ℕ). slice_range (l ++ replicate (16384 - s.bytes.len) 0) s.start s.end) all ∙ range_kept s.bytes.items (replicate (16384 - s.bytes.len) 0) s.start s.end o (omega (arith, size, i)))
