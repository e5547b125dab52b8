use Rattle.std.proofs.Common.{◌≡◌, [], ◌∷◌, ◌++◌, drop, false, string_bytes, refl, sym, ap, ◌∙◌, subst, rules}
use Rattle.std.proofs.lemmas.Result.{on_ok_weaker}
use Rattle.json.specs.Token.{begin_object, key as key_token}
use Rattle.serde_json.specs.Data.{no_members, member}
use Rattle.serde_json.specs.View.{view, members_view}
use Rattle.elk_write.specs.Keys.{is_flat_key}
use Rattle.elk_write.specs.Strip.{members_but}
use Rattle.elk_write.specs.Tokens.{tokens_of, tokens_of_members, Leaves}
use Rattle.elk_write.specs.Merged.{own_members, puts, IsSorted}
use Rattle.elk_write.proofs.Puts.{below_but}
use Rattle.elk_write.proofs.Leaving.{both, further, ended, onward}
use Rattle.elk_write.proofs.Merging.{puts_none, sorted_drop, sorted_entries}
use Rattle.elk_write.proofs.writing.put_flat.Goals as goal

pub loop-key-init : goal.loop-key-init
loop-key-init c =
    let entries = c.args.members.now.entries in
    let start : c.into_iter-key-iterator.result ≡ entries = search rules in (
      subst (λ es. IsSorted (members_view es)) (sym start) (sorted_entries entries c.iter-key-items.ensures.ordered),
      (refl, ap (λ es. c.begin_object.new.self.tokens ++ tokens_of_members (puts (own_members c.args.own.now) (members_but (is_flat_key c.args.edge) (members_view es)))) start),
    )

pub loop-key-preserved-in-Continue-branch-4 : goal.loop-key-preserved-in-Continue-branch-4
loop-key-preserved-in-Continue-branch-4 c =
    let l = c.loop-key in
    let gone = is_flat_key c.args.edge in
    let own = c.args.own.now in
    let k = c.as_str-name.result.now in
    let d = view c.in-Some.member.now in
    let left = c.next.new.self in
    let rest = members_but gone (members_view left) in
    let all = tokens_of_members (puts (own_members own) (members_but gone (members_view c.args.members.now.entries))) in
    let first = c.begin_object.new.self in
    let named : string_bytes c.in-Some.key.now ≡ k = search rules in
    let step : members_view l.key-iterator ≡ member k d (members_view left) = ap members_view c.in-Some.ensures.steps ∙ ap (λ name. member name d (members_view left)) named in
    let ascends : IsSorted (member k d (members_view left)) = subst IsSorted step l.invariant.0 in
    let stays : gone k ≡ false = search rules in
    let kept : members_but gone (members_view l.key-iterator) ≡ member k d rest = ap (members_but gone) step ∙ rw stays refl in
    let here = subst (λ ms. Leaves first all l.out (tokens_of_members (puts (own_members (drop l.next own)) ms))) kept l.invariant.1 in
    let before = c.in_ok-next.ensures gone d rest c.requires.sorted c.requires.gone stays (below_but gone k (members_view left) ascends.0) in
    let told = both c.put_before.new.out c.key.new.self c.put_value.new.out (key_token k ∷ []) (tokens_of d) (c.in_ok-key.ensures.room.0, c.in_ok-key.ensures.ok) c.in_ok-put_value.ensures in (
      ascends.1,
      further first c.put_before.new.out c.put_value.new.out all (key_token k ∷ tokens_of d) (tokens_of_members (puts (own_members (drop c.in_ok-next.next own)) rest))
          (onward first l.out c.put_before.new.out all _ _ here before)
          told,
    )

pub returns : goal.returns
returns c =
    let l = c.loop-key in
    let gone = is_flat_key c.args.edge in
    let own = c.args.own.now in
    let entries = c.args.members.now.entries in
    let all = tokens_of_members (puts (own_members own) (members_but gone (members_view entries))) in
    let first = c.begin_object.new.self in
    let none : members_but gone (members_view l.key-iterator) ≡ no_members = ap (λ es. members_but gone (members_view es)) c.in-None.ensures.steps.0 in
    let here = subst (λ ms. Leaves first all l.out (tokens_of_members (puts (own_members (drop l.next own)) ms))) none l.invariant.1 in
    let due = subst (λ ms. Leaves first all l.out (tokens_of_members ms)) (puts_none (own_members (drop l.next own)) (sorted_drop l.next own c.requires.sorted)) here in
    on_ok_weaker c.put_rest.result
    (λ a. (
      sorted_entries entries c.iter-key-items.ensures.ordered,
      both c.args.out.now first c.put_rest.new.out (begin_object ∷ []) all (c.in_ok-begin_object.ensures.room.0, c.in_ok-begin_object.ensures.ok) (ended first l.out c.put_rest.new.out all _ due a),
    ))
    c.put_rest.ensures
