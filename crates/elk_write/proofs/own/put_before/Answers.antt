use Rattle.std.proofs.Common.{◌≡◌, ◌+◌, ◌∷◌, [], true, false, drop, length, sym, ap, ◌∙◌, arith, subst, rules}
use Rattle.std.proofs.lemmas.List.{drop_more, drop_all}
use Rattle.json.specs.Token.{key as key_token}
use Rattle.serde_json.specs.Data.{member}
use Rattle.elk_json.specs.Keyed.{IsBelow}
use Rattle.elk_write.specs.Tokens.{tokens_of, tokens_of_members, Leaves}
use Rattle.elk_write.specs.Merged.{told_data, own_members, puts, is_before, IsSorted, AreGone}
use Rattle.elk_write.proofs.Leaving.{further}
use Rattle.elk_write.proofs.Merging.{first_before, kept_before, below_left, before_less, sorted_drop, gone_drop}
use Rattle.elk_write.proofs.own.put_before.Goals as goal

pub loop-number-preserved : goal.loop-number-preserved
loop-number-preserved c gone d ms sorted away kept below =
    let l = c.loop-number in
    let own = c.args.own.now in
    let key = c.args.key.now in
    let o = c.index-own-number.result in
    let rest = own_members (drop (l.number + 1) own) in
    let all = tokens_of_members (puts (own_members (drop c.args.next own)) (member key d ms)) in
    let here : drop l.number own ≡ o ∷ drop (l.number + 1) own = drop_more own l.number o (omega arith) ∙ ap (λ y. y ∷ drop (l.number + 1) own) (sym c.index-own-number.is) in
    let ascends : IsSorted (member o.key.now (told_data o.told) rest) = subst (λ os. IsSorted (own_members os)) here (sorted_drop l.number own sorted) in
    let less : is_before o.key.now key ≡ true = search rules in
    let first = ap (λ os. puts (own_members os) (member key d ms)) here ∙ first_before o.key.now (told_data o.told) rest key d ms ascends.0 (before_less o.key.now key less) below in
    further c.args.out.now l.out c.put_own.new.out all (key_token o.key.now ∷ tokens_of (told_data o.told)) (tokens_of_members (puts rest (member key d ms)))
    (subst (λ m. Leaves c.args.out.now all l.out (tokens_of_members m)) first (l.invariant gone d ms sorted away kept below))
    c.in_ok-put_own.ensures

pub returns-then-not-is_before : goal.returns-then-not-is_before
returns-then-not-is_before c gone d ms sorted away kept below =
    let l = c.loop-number in
    let own = c.args.own.now in
    let key = c.args.key.now in
    let o = c.index-own-number.result in
    let rest = own_members (drop (l.number + 1) own) in
    let all = tokens_of_members (puts (own_members (drop c.args.next own)) (member key d ms)) in
    let here : drop l.number own ≡ o ∷ drop (l.number + 1) own = drop_more own l.number o (omega arith) ∙ ap (λ y. y ∷ drop (l.number + 1) own) (sym c.index-own-number.is) in
    let ascends : IsSorted (member o.key.now (told_data o.told) rest) = subst (λ os. IsSorted (own_members os)) here (sorted_drop l.number own sorted) in
    let are_away : AreGone gone (member o.key.now (told_data o.told) rest) = subst (λ os. AreGone gone (own_members os)) here (gone_drop gone l.number own away) in
    let later : is_before o.key.now key ≡ false = search rules in
    let left : IsBelow key (own_members (drop l.number own)) = subst (λ os. IsBelow key (own_members os)) (sym here) (below_left gone o.key.now (told_data o.told) rest key ascends.0 later are_away.0 kept) in
    subst (λ m. Leaves c.args.out.now all l.out (tokens_of_members m)) (kept_before (own_members (drop l.number own)) key d ms left)
    (l.invariant gone d ms sorted away kept below)

pub returns : goal.returns
returns c gone d ms sorted away kept below =
    let l = c.loop-number in
    let own = c.args.own.now in
    let key = c.args.key.now in
    let all = tokens_of_members (puts (own_members (drop c.args.next own)) (member key d ms)) in
    let over : drop l.number own ≡ [] = drop_all l.number own (omega arith) in
    let end : drop (length own) own ≡ [] = drop_all (length own) own (omega arith) in
    subst (λ os. Leaves c.args.out.now all l.out (tokens_of_members (member key d (puts (own_members os) ms)))) (sym end)
    (subst (λ os. Leaves c.args.out.now all l.out (tokens_of_members (puts (own_members os) (member key d ms)))) over (l.invariant gone d ms sorted away kept below))
