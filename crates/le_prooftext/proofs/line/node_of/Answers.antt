use Rattle.std.proofs.Common.{◌≡◌, Some, None, sym, ap, ◌∙◌, subst}
use Rattle.std.proofs.lemmas.Result.{IfOk-weaker}
use Rattle.std.specs.List.{AllByRecursion}
use Rattle.le_prooftext.specs.Words.{IsWord}
use Rattle.le_prooftext.specs.Reading.{line_words, node_from}
use Rattle.le_prooftext.proofs.NodeLemmas.{reads_node, line_words-in_range, node_of-words, node_of-no_words}
use Rattle.le_prooftext.proofs.line.node_of.Goals as goal

pub returns-in_default-clause-value : goal.returns-in_default-clause-value
returns-in_default-clause-value c = node_of-no_words c.args.line.now (sym (rw c.in_default.is at c.in_ok-words.ensures))

pub returns-in_default-clause-exact : goal.returns-in_default-clause-exact
returns-in_default-clause-exact c =
    reads_node c.args.line.now None (node_of-no_words c.args.line.now (sym (rw c.in_default.is at c.in_ok-words.ensures)))

pub node_from-requires : goal.node_from-requires
node_from-requires c =
    let read : line_words c.args.line.now ≡ Some c.in-Some.words.items = sym (rw c.in-Some.is at c.in_ok-words.ensures) in
    subst (AllByRecursion IsWord) (sym c.as_slice.ensures.value) (line_words-in_range c.args.line.now c.in-Some.words.items read)

pub returns-clause-value : goal.returns-clause-value
returns-clause-value c =
    let read : line_words c.args.line.now ≡ Some c.in-Some.words.items = sym (rw c.in-Some.is at c.in_ok-words.ensures) in
    IfOk-weaker c.node_from.result _ _ (λ node is. is ∙ (ap node_from c.as_slice.ensures.value ∙ node_of-words c.args.line.now c.in-Some.words.items read)) c.node_from.ensures

pub returns-clause-exact : goal.returns-clause-exact
returns-clause-exact c =
    let read : line_words c.args.line.now ≡ Some c.in-Some.words.items = sym (rw c.in-Some.is at c.in_ok-words.ensures) in
    IfOk-weaker c.node_from.result _ _ (λ node is. reads_node c.args.line.now node (is ∙ (ap node_from c.as_slice.ensures.value ∙ node_of-words c.args.line.now c.in-Some.words.items read))) c.node_from.ensures
