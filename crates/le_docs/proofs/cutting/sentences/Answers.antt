use Rattle.std.proofs.Common.{◌≡◌, ◌+◌, ◌-◌, ◌++◌, List, get_or, inl, inr, refl, sym, ap, ◌∙◌, arith, length, subst}
use Rattle.std.specs.List.{All}
use Rattle.std.proofs.lemmas.List.{append-nil}
use Rattle.std.proofs.lemmas.List.Elements.{All-push}
use Rattle.le_docs.specs.Bounds.{IsSentenceOver}
use Rattle.le_layout.specs.declared.token.Token.{Token}
use Rattle.le_layout.specs.Layout.{no_token}
use Rattle.le_docs.specs.Kinds.{ends_sentence}
use Rattle.le_docs.specs.Cuts.{longer, parts_in, some_at, spans_at, open_at}
use Rattle.le_docs.proofs.CutLemmas.{goes_on, ends, spans_end, open_end, some_none, some_some, ended, more_spans, longer_none}
use Rattle.le_docs.proofs.cutting.sentences.Goals as goal
use Rattle.le_docs.proofs.cutting.sentences.Goals.{then-start-k+in_ok-push, else-start-k}

pub loop-k-init : goal.loop-k-init
loop-k-init c =
    let p = parts_in c.args.layout.now c.args.commas c.args.from c.args.to in
    let none : c.args.from - c.args.from ≡ 0 = omega arith in
    let same = ap (λ n. longer n p) none ∙ longer_none p in
    record {
      within = subst (All (IsSentenceOver (length c.args.layout.now.tokens))) (sym c.new-sentences.ensures.items) (λ k d h. absurd (omega arith));
      begun = omega arith;
      over = inr refl;
      spans = ap (λ xs. xs ++ spans_at c.args.from (longer (c.args.from - c.args.from) p)) c.new-sentences.ensures.items ∙ ap (spans_at c.args.from) same;
      unended = ap (open_at c.args.from) same;
    }

pub loop-k-preserved-then-not-ends_sentence : goal.loop-k-preserved-then-not-ends_sentence
loop-k-preserved-then-not-ends_sentence c =
    let e = sym (ap (λ (ts : List Token). ends_sentence c.args.commas (get_or ts c.loop-k.k no_token).kind) c.as_slice.ensures) ∙ sym c.ends_sentence.ensures ∙ c.if-not-ends_sentence.true in
    let g = goes_on c.args.layout.now c.args.commas c.loop-k.start c.loop-k.k c.args.to c.loop-k.invariant.begun c.loop-k-test.true c.requires.inside e in
    record {
      within = c.loop-k.invariant.within;
      begun = omega arith;
      over = inl (omega arith);
      spans = ap (λ p. c.loop-k.sentences.items ++ spans_at c.loop-k.start p) (sym g) ∙ c.loop-k.invariant.spans;
      unended = ap (open_at c.loop-k.start) (sym g) ∙ c.loop-k.invariant.unended;
    }

pub loop-k-preserved : goal.loop-k-preserved
loop-k-preserved c =
    let e = sym (ap (λ (ts : List Token). ends_sentence c.args.commas (get_or ts c.loop-k.k no_token).kind) c.as_slice.ensures) ∙ sym c.ends_sentence.ensures ∙ c.if-not-ends_sentence.false in
    let g = ends c.args.layout.now c.args.commas c.loop-k.start c.loop-k.k c.args.to c.loop-k.invariant.begun c.loop-k-test.true c.requires.inside e in
    let p = longer (c.loop-k.k + 1 - (c.loop-k.k + 1)) (parts_in c.args.layout.now c.args.commas (c.loop-k.k + 1) c.args.to) in
    let some = some_at c.loop-k.start (c.loop-k.k - c.loop-k.start) in
    let before = ap (λ xs. c.loop-k.sentences.items ++ xs) (sym (ap (spans_at c.loop-k.start) g ∙ spans_end c.loop-k.start c.loop-k.k p c.loop-k.invariant.begun)) ∙ c.loop-k.invariant.spans in
    let pushed : c.if-start-k.sentences.items ≡ c.loop-k.sentences.items ++ some =
    elim c.if-start-k.branch [
      | then-start-k+in_ok-push w ↦
          ap (λ v. v.items) w.sentences-is ∙ w.in_ok-push.ensures.items
          ∙ ap (λ xs. c.loop-k.sentences.items ++ xs) (sym (some_some c.loop-k.start (c.loop-k.k - c.loop-k.start) c.loop-k.k (omega arith) (omega arith)))
      | else-start-k w ↦
          ap (λ v. v.items) w.sentences-is ∙ sym (append-nil c.loop-k.sentences.items)
          ∙ ap (λ xs. c.loop-k.sentences.items ++ xs) (sym (some_none c.loop-k.start (c.loop-k.k - c.loop-k.start) (omega arith)))
    ] in
    record {
      within = elim c.if-start-k.branch [
        | then-start-k+in_ok-push w ↦
            subst (All (IsSentenceOver (length c.args.layout.now.tokens))) (sym (ap (λ v. v.items) w.sentences-is ∙ w.in_ok-push.ensures.items)) (All-push (IsSentenceOver (length c.args.layout.now.tokens)) c.loop-k.sentences.items _ c.loop-k.invariant.within (record { some = omega arith; inside = omega arith }))
        | else-start-k w ↦ subst (All (IsSentenceOver (length c.args.layout.now.tokens))) (sym (ap (λ v. v.items) w.sentences-is)) c.loop-k.invariant.within
      ];
      begun = omega arith;
      over = inr refl;
      spans = more_spans c.loop-k.sentences.items c.if-start-k.sentences.items some _ _ pushed before;
      unended = sym (ap (open_at c.loop-k.start) g ∙ open_end c.loop-k.start c.loop-k.k p c.loop-k.invariant.begun) ∙ c.loop-k.invariant.unended;
    }

pub returns-then-to-start-clause-sentences : goal.returns-then-to-start-clause-sentences
returns-then-to-start-clause-sentences c =
    let g = ended c.args.layout.now c.args.commas c.loop-k.start c.loop-k.k c.args.to c.loop-k.invariant.begun (omega arith) c.loop-k.invariant.over in
    sym (append-nil c.loop-k.sentences.items)
    ∙ ap (λ xs. c.loop-k.sentences.items ++ xs) (sym (ap (spans_at c.loop-k.start) g ∙ some_none c.loop-k.start (c.args.to - c.loop-k.start) (omega arith)))
    ∙ c.loop-k.invariant.spans

pub returns-then-to-start-clause-unended : goal.returns-then-to-start-clause-unended
returns-then-to-start-clause-unended c =
    let g = ended c.args.layout.now c.args.commas c.loop-k.start c.loop-k.k c.args.to c.loop-k.invariant.begun (omega arith) c.loop-k.invariant.over in
    sym (ap (open_at c.loop-k.start) g ∙ some_none c.loop-k.start (c.args.to - c.loop-k.start) (omega arith)) ∙ c.loop-k.invariant.unended

pub returns-clause-sentences : goal.returns-clause-sentences
returns-clause-sentences c =
    let g = ended c.args.layout.now c.args.commas c.loop-k.start c.loop-k.k c.args.to c.loop-k.invariant.begun (omega arith) c.loop-k.invariant.over in
    c.in_ok-push-2.ensures.items
    ∙ ap (λ xs. c.loop-k.sentences.items ++ xs) (sym (ap (spans_at c.loop-k.start) g ∙ some_some c.loop-k.start (c.args.to - c.loop-k.start) c.args.to (omega arith) (omega arith)))
    ∙ c.loop-k.invariant.spans

pub returns-clause-unended : goal.returns-clause-unended
returns-clause-unended c =
    let g = ended c.args.layout.now c.args.commas c.loop-k.start c.loop-k.k c.args.to c.loop-k.invariant.begun (omega arith) c.loop-k.invariant.over in
    sym (ap (open_at c.loop-k.start) g ∙ some_some c.loop-k.start (c.args.to - c.loop-k.start) c.args.to (omega arith) (omega arith)) ∙ c.loop-k.invariant.unended

pub returns-clause-within : goal.returns-clause-within
returns-clause-within c =
    subst (All (IsSentenceOver (length c.args.layout.now.tokens))) (sym c.in_ok-push-2.ensures.items) (All-push (IsSentenceOver (length c.args.layout.now.tokens)) c.loop-k.sentences.items _ c.loop-k.invariant.within (record { some = omega arith; inside = omega arith }))
