-- What the answer keeps of a value.
use Rattle.std.proofs.Common.{◌≡◌, ℕ, List, Bool, refl, ◌∙◌, inl, inr}
use Rattle.std.proofs.lemmas.Bool.{cases_Bool}
use Rattle.serde_json.specs.Data.{Members, no_members, member, put}
use Rattle.elk_doc.specs.declared.drawing.Placed.{Placed}
use Rattle.elk_doc.specs.Document.{Document}
use Rattle.elk_json.specs.Keyed.{IsBelow}
use Rattle.elk_write.specs.declared.numbers.Numbers.{Numbers}
use Rattle.elk_write.specs.Keys.{is_node_key, is_flat_key}
use Rattle.elk_write.specs.Strip.{members_but}
use Rattle.elk_write.specs.Numbers.{past_member}
use Rattle.elk_write.specs.Answered.{kept_into, answer_into, answer_member}
use Rattle.elk_write.specs.Merged.{IsSorted, answered}
use Rattle.elk_write.proofs.Puts.{put_all, put_all_sorted, sorted_but}

-- ---- ports and edges

kept_all : (edge : Bool) (ms into : Members) → kept_into edge into ms ≡ put_all into (members_but (is_flat_key edge) ms)
kept_all edge no_members into = refl
kept_all edge (member k d ms) into = elim (cases_Bool (is_flat_key edge k)) [ inl is ↦ rw is (kept_all edge ms into) | inr is ↦ rw is (kept_all edge ms (put k d into)) ]

-- the members that a port or an edge keeps, in their order
pub kept_sorted : (edge : Bool) (ms : Members) → IsSorted ms → kept_into edge no_members ms ≡ members_but (is_flat_key edge) ms
kept_sorted edge ms h = kept_all edge ms no_members ∙ put_all_sorted (members_but (is_flat_key edge) ms) (sorted_but (is_flat_key edge) ms h)

-- ---- nodes

module _ (doc : Document) (p : Placed) (at : Numbers) (compound : Bool) where
  all_put : (ms : Members) (below : Numbers) (into : Members) → answer_into doc p at compound below into ms ≡ put_all into (answered doc p at compound below ms)
  all_put no_members below into = refl
  all_put (member k d ms) below into = elim (cases_Bool (is_node_key compound k)) [
    | inl is ↦ rw is (all_put ms below into)
    | inr is ↦ rw is (all_put ms (past_member k below d) (put k (answer_member doc p at below k d) into))
  ]

  pub below_answered : (k : List ℕ) (ms : Members) (below : Numbers) → IsBelow k ms → IsBelow k (answered doc p at compound below ms)
  below_answered k no_members below h = tt
  below_answered k (member l d ms) below h = elim (cases_Bool (is_node_key compound l)) [
    | inl is ↦ rw is (below_answered k ms below h.1)
    | inr is ↦ rw is (h.0, below_answered k ms (past_member l below d) h.1)
  ]

  pub sorted_answered : (ms : Members) (below : Numbers) → IsSorted ms → IsSorted (answered doc p at compound below ms)
  sorted_answered no_members below h = tt
  sorted_answered (member l d ms) below h = elim (cases_Bool (is_node_key compound l)) [
    | inl is ↦ rw is (sorted_answered ms below h.1)
    | inr is ↦ rw is (below_answered l ms (past_member l below d) h.0, sorted_answered ms (past_member l below d) h.1)
  ]

  pub answer_sorted : (ms : Members) (below : Numbers) → IsSorted ms → answer_into doc p at compound below no_members ms ≡ answered doc p at compound below ms
  answer_sorted ms below h = all_put ms below no_members ∙ put_all_sorted (answered doc p at compound below ms) (sorted_answered ms below h)
