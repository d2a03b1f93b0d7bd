use Rattle.std.proofs.Common.{◌≡◌, ◌∙◌, ◌+◌, ◌<◌, sym, ap, ◌&&◌, drop, arith}
use Rattle.le_layout.specs.Words.{has_word}
use Rattle.le_scope.specs.Phrases.{begins_with}
use Rattle.le_scope.proofs.TokenLemmas.{span, now_of, front_short, front_more}
use Rattle.le_scope.proofs.phrase.begins_with.Goals as goal

pub returns-then-count-i : goal.returns-then-count-i
returns-then-count-i c =
    front_short c.args.layout.now (c.args.tokens.from + c.loop-i.i) c.args.tokens.to c.loop-i.i c.args.words.now _ (omega (arith, c.if-count-i.true, c.requires.tokens.ordered)) c.loop-i-test.true c.loop-i.invariant

pub returns-then-not-has_word : goal.returns-then-not-has_word
unfolding has_word
returns-then-not-has_word c =
    let at = c.args.tokens.from + c.loop-i.i in
    let low : at < c.args.tokens.to = omega (arith, c.if-count-i.false, c.requires.tokens.ordered) in
    sym (ap (λ b. b && begins_with c.args.layout.now (span c.args.layout.now (at + 1) c.args.tokens.to) (now_of (drop (c.loop-i.i + 1) c.args.words.now))) c.if-not-has_word.true)
    ∙ front_more c.args.layout.now at c.args.tokens.to c.loop-i.i c.args.words.now c.has_word.result _ low c.requires.tokens.within c.loop-i-test.true c.has_word.ensures c.loop-i.invariant

pub loop-i-preserved : goal.loop-i-preserved
unfolding has_word
loop-i-preserved c =
    let at = c.args.tokens.from + c.loop-i.i in
    let low : at < c.args.tokens.to = omega (arith, c.if-count-i.false, c.requires.tokens.ordered) in
    let next : c.args.tokens.from + (c.loop-i.i + 1) ≡ at + 1 = omega arith in
    ap (λ k. begins_with c.args.layout.now (span c.args.layout.now k c.args.tokens.to) (now_of (drop (c.loop-i.i + 1) c.args.words.now))) next
    ∙ sym (ap (λ b. b && begins_with c.args.layout.now (span c.args.layout.now (at + 1) c.args.tokens.to) (now_of (drop (c.loop-i.i + 1) c.args.words.now))) c.if-not-has_word.false)
    ∙ front_more c.args.layout.now at c.args.tokens.to c.loop-i.i c.args.words.now c.has_word.result _ low c.requires.tokens.within c.loop-i-test.true c.has_word.ensures c.loop-i.invariant
