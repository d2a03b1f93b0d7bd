use Rattle.std.proofs.Common.{◌≡◌, ◌+◌, ◌-◌, true, false, length, take, slice_range, sym, ap, ◌∙◌, arith, refl}
use Rattle.std.specs.Option.{is_some}
use Rattle.std.proofs.lemmas.Bool.{lt-ltb, le-ltb}
use Rattle.le_layout.specs.Words.{is_star}
use Rattle.le_scope.specs.Phrases.{is_phrase}
use Rattle.le_match.specs.Readings.{until_star}
use Rattle.le_match.proofs.CutLemmas.{span_length, front_of}
use Rattle.le_match.proofs.MarkedLemmas.{length_ended, length_is, no_star}
use Rattle.le_match.proofs.marked.marked_length.Goals as goal
use Rattle.le_match.proofs.marked.marked_length.Goals.{then-tokens-via-then-tokens, then-tokens-via-else-tokens+then-not-is_star}

pub returns-then-tokens-clause-exact : goal.returns-then-tokens-clause-exact
returns-then-tokens-clause-exact c =
    let l = c.args.layout.now in
    let from = c.args.tokens.from in
    let to = c.args.tokens.to in
    elim c.then-tokens.branch [
      | then-tokens-via-then-tokens w ↦ sym (length_ended l from to (omega arith))
      | then-tokens-via-else-tokens+then-not-is_star w ↦
          sym (no_star l from to (omega arith) c.requires.tokens.within (sym (ap (λ t. is_star t.kind) w.token.ensures) ∙ sym w.is_star.ensures ∙ w.if-not-is_star.true))
    ]

pub returns-then-end-tokens-clause-exact : goal.returns-then-end-tokens-clause-exact
returns-then-end-tokens-clause-exact c =
    let l = c.args.layout.now in
    let from = c.args.tokens.from in
    let to = c.args.tokens.to in
    let rest = slice_range l.tokens (from + 1) to in
    let n = until_star rest in
    let size : length rest ≡ to - (from + 1) = span_length l.tokens (from + 1) to (omega arith) c.requires.tokens.within in
    let whole = c.until_star-end.ensures.exact in
    sym (length_is l from to n true false (is_phrase l (take n rest)) (omega arith) c.requires.tokens.within refl
    (sym c.if-not-is_star.false ∙ c.is_star.ensures ∙ ap (λ t. is_star t.kind) c.token.ensures) (sym (le-ltb n (length rest) (omega arith))) refl)

pub returns-then-is_some-clause-exact : goal.returns-then-is_some-clause-exact
returns-then-is_some-clause-exact c =
    let l = c.args.layout.now in
    let from = c.args.tokens.from in
    let to = c.args.tokens.to in
    let rest = slice_range l.tokens (from + 1) to in
    let whole = c.until_star-end.ensures.exact in
    let inside = c.until_star-end.ensures.inside in
    let n = c.until_star-end.result - (from + 1) in
    let size : length rest ≡ to - (from + 1) = span_length l.tokens (from + 1) to (omega arith) c.requires.tokens.within in
    let same : n ≡ until_star rest = omega arith in
    sym (length_is l from to n true true true (omega arith) c.requires.tokens.within same
    (sym c.if-not-is_star.false ∙ c.is_star.ensures ∙ ap (λ t. is_star t.kind) c.token.ensures) (sym (lt-ltb n (length rest) (omega arith)))
    (sym c.if-is_some.true ∙ c.is_some.ensures ∙ ap is_some c.in_ok-shape.ensures.form ∙ ap (is_phrase l) (sym (front_of l.tokens (from + 1) c.until_star-end.result to n refl inside))))

pub returns-clause-exact : goal.returns-clause-exact
returns-clause-exact c =
    let l = c.args.layout.now in
    let from = c.args.tokens.from in
    let to = c.args.tokens.to in
    let rest = slice_range l.tokens (from + 1) to in
    let whole = c.until_star-end.ensures.exact in
    let inside = c.until_star-end.ensures.inside in
    let n = c.until_star-end.result - (from + 1) in
    let size : length rest ≡ to - (from + 1) = span_length l.tokens (from + 1) to (omega arith) c.requires.tokens.within in
    let same : n ≡ until_star rest = omega arith in
    sym (length_is l from to n true true false (omega arith) c.requires.tokens.within same
    (sym c.if-not-is_star.false ∙ c.is_star.ensures ∙ ap (λ t. is_star t.kind) c.token.ensures) (sym (lt-ltb n (length rest) (omega arith)))
    (sym c.if-is_some.false ∙ c.is_some.ensures ∙ ap is_some c.in_ok-shape.ensures.form ∙ ap (is_phrase l) (sym (front_of l.tokens (from + 1) c.until_star-end.result to n refl inside))))
