use Rattle.std.proofs.Common.{◌+◌, [], ◌∷◌, ◌++◌, map, slice_range, sym, ap, ◌∙◌}
use Rattle.le_layout.specs.Words.{token_of}
use Rattle.le_match.specs.Shown.{plain, text_from}
use Rattle.le_match.specs.Walks.{glued_after}
use Rattle.le_match.proofs.ShownLemmas.{writes_text, tokens_more}
use Rattle.le_match.proofs.shown.put_tokens.Goals as goal

pub loop-at-preserved : goal.loop-at-preserved
loop-at-preserved c =
    let l = c.args.layout.now in
    let at = c.loop-at.at in
    let to = c.args.span.to in
    let old = c.loop-at.line in
    let new = c.put_token.new.line in
    let rest = map plain (slice_range l.tokens (at + 1) to) in
    let more = tokens_more l at to c.loop-at-test.true c.requires.span.within in
    record {
      text = writes_text l old new (plain (token_of l at) ∷ []) rest c.in_ok-put_token.ensures ∙ ap (λ ps. old.text ++ text_from l old.glued ps) (sym more) ∙ c.loop-at.invariant.text;
      glued = ap (λ g. glued_after g rest) c.in_ok-put_token.ensures.glued ∙ ap (glued_after old.glued) (sym more) ∙ c.loop-at.invariant.glued;
    }
