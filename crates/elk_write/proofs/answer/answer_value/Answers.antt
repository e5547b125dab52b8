use Rattle.std.proofs.Common.{◌≡◌, ◌≤◌, false, subst, sym, All}
use Rattle.std.proofs.lemmas.Result.{IfOk-weaker}
use Rattle.serde_json.specs.Data.{depth}
use Rattle.serde_json.specs.Read.{max_depth}
use Rattle.serde_json.specs.View.{view}
use Rattle.serde_json.specs.Written.{has_float}
use Rattle.serde_json.specs.declared.value.Value.{Value}
use Rattle.elk_json.specs.Keyed.{IsKeyed}
use Rattle.elk_write.specs.Written.{IsPlacedBy}
use Rattle.elk_write.proofs.Law.{answer_of, answer_placed, answer_whole}
use Rattle.elk_write.specs.ReadBack.{SaysBack, IsReadBack, IsHeldLevel, AreHeld}
use Rattle.elk_write.proofs.Back.{says_back}
use Rattle.elk_write.proofs.NotRefused.{reads_back}
use Rattle.elk_write.proofs.Nesting.{answer_nests}
use Rattle.elk_doc.specs.Drawn.{Drawn}
use Rattle.elk_write.proofs.answer.answer_value.Goals as goal

pub returns : goal.returns
returns c =
    let v = view c.args.value.now in
    let doc = c.args.doc.now in
    let p = c.args.placed.now in
    let r = c.requires in
    let held : AreHeld p = subst (λ os. All IsHeldLevel os) c.as_slice.ensures.value c.levels_are_held.ensures in
    let is_answer = λ (w : Value). view w ≡ answer_of doc p v in
    record {
      placed = IfOk-weaker c.answer_node.result is_answer (λ w. IsPlacedBy v doc p (view w)) (λ w e. subst (IsPlacedBy v doc p) (sym e) (answer_placed doc p v r.keyed r.accepted r.document r.fits)) c.answer_node.ensures.written;
      keyed = IfOk-weaker c.answer_node.result is_answer (λ w. IsKeyed (view w)) (λ w e. subst IsKeyed (sym e) (answer_whole doc p v r.keyed r.accepted).1) c.answer_node.ensures.written;
      read_back = IfOk-weaker c.answer_node.result is_answer (λ w. SaysBack doc p (view w)) (λ w e. subst (SaysBack doc p) (sym e) (says_back doc p v r.keyed r.accepted r.document r.fits held)) c.answer_node.ensures.written;
      drawn = IfOk-weaker c.answer_node.result is_answer (λ w. Drawn doc p → IsReadBack doc p (view w)) (λ w e. subst (λ d. Drawn doc p → IsReadBack doc p d) (sym e) (λ drawn. reads_back doc p v r.keyed r.accepted r.document drawn held)) c.answer_node.ensures.written;
      nests = IfOk-weaker c.answer_node.result is_answer (λ w. depth v ≤ max_depth → depth (view w) ≤ max_depth) (λ w e. subst (λ d. depth v ≤ max_depth → depth d ≤ max_depth) (sym e) (answer_nests doc p v r.keyed r.accepted)) c.answer_node.ensures.written;
      whole = IfOk-weaker c.answer_node.result is_answer (λ w. has_float (view w) ≡ false) (λ w e. subst (λ d. has_float d ≡ false) (sym e) (answer_whole doc p v r.keyed r.accepted).0) c.answer_node.ensures.written;
    }
