use Rattle.std.proofs.Common.{◌≡◌, [], ◌∷◌, ◌++◌, drop, true, false, string_bytes, refl, sym, ap, ◌∙◌, subst, rules}
use Rattle.std.specs.Prelude.{◌||◌}
use Rattle.std.proofs.lemmas.Result.{on_ok_weaker}
use Rattle.json.specs.Token.{begin_object, key as key_token}
use Rattle.serde_json.specs.Data.{object, no_members, member}
use Rattle.serde_json.specs.View.{view, members_view}
use Rattle.serde_json.proofs.Views.{view-Object}
use Rattle.elk_json.specs.Members.{has_children}
use Rattle.elk_write.specs.Keys.{is_node_key}
use Rattle.elk_write.specs.Numbers.{past_own, past_members, past_member}
use Rattle.elk_write.specs.Answered.{answer_node, answer_member}
use Rattle.elk_write.specs.Tokens.{tokens_of, tokens_of_members, Adds, Leaves}
use Rattle.elk_write.specs.Merged.{own_members, puts, answered, node_members, IsSorted, AreGone}
use Rattle.elk_write.proofs.Kept.{below_answered}
use Rattle.elk_write.proofs.Leaving.{both, further, ended, onward}
use Rattle.elk_write.proofs.Merging.{puts_none, sorted_drop, sorted_entries, node_object, past_gone}
use Rattle.elk_write.proofs.writing.+put_node.Goals as goal
use Rattle.elk_write.proofs.writing.+put_node.Goals.{put_node-then-root, put_node-else-root}

pub put_members-loop-key-init : goal.put_members-loop-key-init
put_members-loop-key-init t c =
    let entries = c.args.members.now.entries in
    let h = c.args.head.now in
    let s = c.args.scene in
    let start : c.into_iter-key-iterator.result ≡ entries = search rules in (
      subst (λ es. IsSorted (members_view es)) (sym start) (sorted_entries entries c.iter-key-items.ensures.ordered),
      (refl, ap (λ es. c.begin_object.new.self.tokens ++ tokens_of_members (puts (own_members c.as_slice-own.result.now) (answered s.doc.now s.placed.now h.first h.compound c.args.below.now (members_view es)))) start),
      ap (λ es. past_members c.args.below.now (members_view es)) start,
    )

pub put_members-loop-key-preserved-in-Continue-branch-4 : goal.put_members-loop-key-preserved-in-Continue-branch-4
put_members-loop-key-preserved-in-Continue-branch-4 t c =
    let l = c.loop-key in
    let h = c.args.head.now in
    let s = c.args.scene in
    let gone = is_node_key h.compound in
    let own = c.as_slice-own.result.now in
    let k = c.as_str-name.result.now in
    let d = view c.in-Some.member.now in
    let left = members_view c.next.new.self in
    let kept = answered s.doc.now s.placed.now h.first h.compound in
    let next = past_member k l.below d in
    let told = answer_member s.doc.now s.placed.now h.first l.below k d in
    let first = c.begin_object.new.self in
    let all = tokens_of_members (puts (own_members own) (kept c.args.below.now (members_view c.args.members.now.entries))) in
    let named : string_bytes c.in-Some.key.now ≡ k = search rules in
    let step : members_view l.key-iterator ≡ member k d left = ap members_view c.in-Some.ensures.steps ∙ ap (λ name. member name d left) named in
    let ascends : IsSorted (member k d left) = subst IsSorted step l.invariant.0 in
    let stays : gone k ≡ false = search rules in
    let still : kept l.below (members_view l.key-iterator) ≡ member k told (kept next left) = ap (kept l.below) step ∙ rw stays refl in
    let same : own_members own ≡ own_members h.own.items = ap own_members c.as_slice-own.ensures.value in
    let sorted : IsSorted (own_members own) = subst IsSorted (sym same) c.requires.sorted in
    let away : AreGone gone (own_members own) = subst (AreGone gone) (sym same) c.requires.gone in
    let here = subst (λ ms. Leaves first all l.out (tokens_of_members (puts (own_members (drop l.next own)) ms))) still l.invariant.1 in
    let before = c.in_ok-next.ensures gone told (kept next left) sorted away stays (below_answered s.doc.now s.placed.now h.first h.compound k left next ascends.0) in
    let written = both c.put_before.new.out c.key.new.self c.put_member.new.out (key_token k ∷ []) (tokens_of told) (c.in_ok-key.ensures.room.0, c.in_ok-key.ensures.ok) c.in_ok-put_member.ensures.written in
    let put =
    further first c.put_before.new.out c.put_member.new.out all (key_token k ∷ tokens_of told) (tokens_of_members (puts (own_members (drop c.in_ok-next.next own)) (kept next left)))
    (onward first l.out c.put_before.new.out all _ _ here before)
    written in (
      ascends.1,
      subst (λ n. Leaves first all c.put_member.new.out (tokens_of_members (puts (own_members (drop c.in_ok-next.next own)) (kept n left)))) (sym c.in_ok-put_member.ensures.numbers) put,
      ap (λ n. past_members n left) c.in_ok-put_member.ensures.numbers ∙ ap (past_members l.below) (sym step) ∙ l.invariant.2,
    )

pub put_members-loop-key-preserved : goal.put_members-loop-key-preserved
put_members-loop-key-preserved t c =
    let l = c.loop-key in
    let h = c.args.head.now in
    let s = c.args.scene in
    let gone = is_node_key h.compound in
    let own = c.as_slice-own.result.now in
    let k = c.as_str-name.result.now in
    let d = view c.in-Some.member.now in
    let left = members_view c.next.new.self in
    let kept = answered s.doc.now s.placed.now h.first h.compound in
    let first = c.begin_object.new.self in
    let all = tokens_of_members (puts (own_members own) (kept c.args.below.now (members_view c.args.members.now.entries))) in
    let named : string_bytes c.in-Some.key.now ≡ k = search rules in
    let step : members_view l.key-iterator ≡ member k d left = ap members_view c.in-Some.ensures.steps ∙ ap (λ name. member name d left) named in
    let ascends : IsSorted (member k d left) = subst IsSorted step l.invariant.0 in
    let goes : gone k ≡ true = search rules in
    let still : kept l.below (members_view l.key-iterator) ≡ kept l.below left = ap (kept l.below) step ∙ rw goes refl in (
      ascends.1,
      subst (λ ms. Leaves first all l.out (tokens_of_members (puts (own_members (drop l.next own)) ms))) still l.invariant.1,
      ap (λ n. past_members n left) (sym (past_gone h.compound k l.below d goes)) ∙ ap (past_members l.below) (sym step) ∙ l.invariant.2,
    )

pub put_members-returns-clause-written : goal.put_members-returns-clause-written
put_members-returns-clause-written t c =
    let l = c.loop-key in
    let h = c.args.head.now in
    let s = c.args.scene in
    let own = c.as_slice-own.result.now in
    let entries = c.args.members.now.entries in
    let kept = answered s.doc.now s.placed.now h.first h.compound in
    let first = c.begin_object.new.self in
    let all = tokens_of_members (puts (own_members own) (kept c.args.below.now (members_view entries))) in
    let same : own_members own ≡ own_members h.own.items = ap own_members c.as_slice-own.ensures.value in
    let sorted : IsSorted (own_members own) = subst IsSorted (sym same) c.requires.sorted in
    let none : kept l.below (members_view l.key-iterator) ≡ no_members = ap (λ es. kept l.below (members_view es)) c.in-None.ensures.steps.0 in
    let here = subst (λ ms. Leaves first all l.out (tokens_of_members (puts (own_members (drop l.next own)) ms))) none l.invariant.1 in
    let due = subst (λ ms. Leaves first all l.out (tokens_of_members ms)) (puts_none (own_members (drop l.next own)) (sorted_drop l.next own sorted)) here in
    on_ok_weaker c.put_rest.result
    (λ a. (
      sorted_entries entries c.iter-key-items.ensures.ordered,
      subst (λ os. Adds c.args.out.now c.put_rest.new.out (tokens_of (object (puts os (kept c.args.below.now (members_view entries)))))) same
          (both c.args.out.now first c.put_rest.new.out (begin_object ∷ []) all (c.in_ok-begin_object.ensures.room.0, c.in_ok-begin_object.ensures.ok) (ended first l.out c.put_rest.new.out all _ due a)),
    ))
    c.put_rest.ensures

pub put_node-returns-in_ok-own-in-Object-clause-written : goal.put_node-returns-in_ok-own-in-Object-clause-written
put_node-returns-in_ok-own-in-Object-clause-written t c =
    let s = c.args.scene in
    let at = c.args.at.now in
    let root = c.args.root in
    let ms = members_view c.in-Object.members.entries in
    let compound = c.if-root.compound in
    let fin = c.put_members.new.out in
    let seen : view c.args.value.now ≡ object ms = ap view c.in-Object.is ∙ view-Object c.in-Object.members in
    let is_compound : compound ≡ (root || has_children (view c.args.value.now)) = elim c.if-root.branch [ put_node-then-root w ↦ search rules | put_node-else-root w ↦ search rules ] in
    let compound_is = is_compound ∙ ap (λ v. root || has_children v) seen in
    let below : c.in_ok-at.field-0 ≡ past_own at (object ms) = c.in_ok-at.ensures ∙ ap (past_own at) seen in
    on_ok_weaker c.put_members.result
    (λ a. subst (λ d. Adds c.args.out.now fin (tokens_of d)) (node_object s.doc.now s.placed.now at root ms a.0 ∙ ap (answer_node s.doc.now s.placed.now at root) (sym seen))
    (subst (λ b. Adds c.args.out.now fin (tokens_of (object (puts (node_members b s.doc.now s.placed.now at.node) (answered s.doc.now s.placed.now at b (past_own at (object ms)) ms))))) compound_is
    (subst (λ n. Adds c.args.out.now fin (tokens_of (object (puts (node_members compound s.doc.now s.placed.now at.node) (answered s.doc.now s.placed.now at compound n ms))))) below
    (subst (λ os. Adds c.args.out.now fin (tokens_of (object (puts os (answered s.doc.now s.placed.now at compound c.in_ok-at.field-0 ms))))) c.in_ok-own-in-Object.ensures a.1))))
    c.put_members.ensures.written
