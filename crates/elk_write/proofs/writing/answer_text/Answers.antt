use Rattle.std.proofs.Common.{◌≡◌, [], ◌∷◌, ◌++◌, All, true, IsUtf8, sym, ap, ap₂, ◌∙◌, subst}
use Rattle.json.specs.Lex.{tokens}
use Rattle.json.specs.Print.{print}
use Rattle.serde_json.specs.View.{view}
use Rattle.serde_json.proofs.Texts.{print-outline}
use Rattle.elk_json.specs.Bytes.{reading}
use Rattle.elk_write.specs.ReadBack.{IsHeldLevel, AreHeld}
use Rattle.elk_write.specs.Numbers.{from_zero}
use Rattle.elk_write.specs.Tokens.{tokens_of}
use Rattle.elk_write.proofs.Law.{answer_of, answer_placed, answer_whole}
use Rattle.elk_write.proofs.NotRefused.{reads_back}
use Rattle.elk_write.proofs.Nesting.{answer_nests}
use Rattle.elk_write.proofs.LineFeed.{reading_nests}
use Rattle.elk_write.proofs.SizedRead.{reading_sized, text_back}
use Rattle.elk_write.proofs.SizedAnswer.{answer_sized}
use Rattle.elk_write.proofs.writing.answer_text.Goals as goal

pub returns : goal.returns
returns c =
    let v = view c.args.value.now in
    let doc = c.args.doc.now in
    let p = c.args.placed.now in
    let r = c.requires in
    let a = answer_of doc p v in
    let ts = tokens_of a in
    let out = c.put_node.new.out in
    let bytes = c.into_inner-bytes.result.items in
    let put = c.in_ok-put_node.ensures.written in
    let held : AreHeld p = subst (λ os. All IsHeldLevel os) c.as_slice.ensures.value c.levels_are_held.ensures in
    let clean = answer_whole doc p v r.keyed r.accepted in
    let tokens_are : out.tokens ≡ ts = put.1 ∙ ap (λ us. us ++ ts) c.new-out.ensures.tokens in
    let none_before : out.before ≡ [] = put.0 ∙ c.new-out.ensures.before ∙ c.in_ok-with_capacity.ensures.items in
    let is : bytes ≡ print ts = c.into_inner-bytes.ensures.items ∙ ap₂ (λ b us. b ++ print us) none_before tokens_are in
    let spells : tokens (print ts) ≡ ts = subst (λ us. tokens (print us) ≡ us) tokens_are c.into_inner-bytes.ensures.reads_back in
    let utf8 : IsUtf8 bytes = subst IsUtf8 (sym is) (subst (λ us. IsUtf8 (print us)) tokens_are c.into_inner-bytes.ensures.utf8) in
    record {
      answer = a;
      placed = answer_placed doc p v r.keyed r.accepted r.document r.fits;
      keyed = clean.1;
      written = c.in_ok-push.ensures.items ∙ ap (λ s. s ++ 10 ∷ []) (is ∙ print-outline a);
      read = λ input given ids small.
          ap reading c.in_ok-push.ensures.items
          ∙ text_back bytes a utf8 is spells (answer_sized doc p ids small held v from_zero true (reading_sized input v given)) clean.0 clean.1 (answer_nests doc p v r.keyed r.accepted (reading_nests input v given));
      read_back = λ drawn. reads_back doc p v r.keyed r.accepted r.document drawn held;
    }
