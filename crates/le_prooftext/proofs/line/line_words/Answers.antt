use Rattle.std.proofs.Common.{◌≡◌, ◌+◌, ◌-◌, ◌<◌, ◌≤◌, ◌==◌, ℕ, List, position, take, drop, length, Option, Some, None, sym, ap, ◌∙◌, subst, arith, length-drop}
use Rattle.std.proofs.lemmas.List.{drop-drop}
use Rattle.le_prooftext.specs.Reading.{line_words, word_of}
use Rattle.le_prooftext.proofs.TreeLemmas.{to_end, puts}
use Rattle.le_prooftext.proofs.NodeLemmas.{words_more, words_stop, words_last, words_none}
use Rattle.le_prooftext.proofs.line.line_words.Goals as goal

-- where the rest of a line has a space, and what its first piece is
space_at : (line : List ℕ) (at : ℕ) (o : Option ℕ) → at ≤ length line → o ≡ position (λ b. b == 32) (take (length line - at) (drop at line)) → o ≡ position (λ b. b == 32) (drop at line)
space_at line at o within is = is ∙ ap (position (λ b. b == 32)) (to_end line at (length line - at) (omega arith))

first_piece : (line : List ℕ) (at k : ℕ) → word_of (take (at + k - at) (drop at line)) ≡ word_of (take k (drop at line))
first_piece line at k = let same : at + k - at ≡ k = omega arith in ap (λ n. word_of (take n (drop at line))) same

last_piece : (line : List ℕ) (at : ℕ) → at ≤ length line → word_of (take (length line - at) (drop at line)) ≡ word_of (drop at line)
last_piece line at within = ap word_of (to_end line at (length line - at) (omega arith))

pub returns-in_default-word_of : goal.returns-in_default-word_of
returns-in_default-word_of c =
    sym (c.loop-place.invariant.all
    ∙ words_stop (drop c.loop-place.at c.args.line.now) c.in-Some.place c.loop-place.words.items
    (space_at c.args.line.now c.loop-place.at (Some c.in-Some.place) c.loop-place.invariant.within c.in-Some.ensures.place)
    (c.in_default-word_of.ensures ∙ first_piece c.args.line.now c.loop-place.at c.in-Some.place))

pub loop-place-preserved : goal.loop-place-preserved
loop-place-preserved c =
    let left = to_end c.args.line.now c.loop-place.at (length c.args.line.now - c.loop-place.at) (omega arith) in
    let short : c.in-Some.place < length (drop c.loop-place.at c.args.line.now) = subst (λ (bytes : List ℕ). c.in-Some.place < length bytes) left c.in-Some.ensures.within in
    record {
      within = omega (arith, length-drop c.loop-place.at c.args.line.now);
      all = c.loop-place.invariant.all
          ∙ (words_more (drop c.loop-place.at c.args.line.now) c.in-Some.place c.loop-place.words.items c.in-Some-word_of.word
          (space_at c.args.line.now c.loop-place.at (Some c.in-Some.place) c.loop-place.invariant.within c.in-Some.ensures.place)
          (c.in-Some-word_of.ensures ∙ first_piece c.args.line.now c.loop-place.at c.in-Some.place)
          ∙ (ap (λ items. puts items (line_words (drop (c.in-Some.place + 1) (drop c.loop-place.at c.args.line.now)))) (sym c.in_ok-push.ensures.items)
          ∙ ap (λ bytes. puts c.push.new.self.items (line_words bytes)) (drop-drop (c.in-Some.place + 1) c.loop-place.at c.args.line.now)));
    }

pub returns-in_default-word_of-2 : goal.returns-in_default-word_of-2
returns-in_default-word_of-2 c =
    sym (c.loop-place.invariant.all
    ∙ words_none (drop c.loop-place.at c.args.line.now) c.loop-place.words.items
    (space_at c.args.line.now c.loop-place.at None c.loop-place.invariant.within c.in_default.ensures.place)
    (c.in_default-word_of-2.ensures ∙ last_piece c.args.line.now c.loop-place.at c.loop-place.invariant.within))

pub returns : goal.returns
returns c =
    ap Some c.in_ok-push-2.ensures.items
    ∙ sym (c.loop-place.invariant.all
    ∙ words_last (drop c.loop-place.at c.args.line.now) c.loop-place.words.items c.in-Some-word_of-2.word
    (space_at c.args.line.now c.loop-place.at None c.loop-place.invariant.within c.in_default.ensures.place)
    (c.in-Some-word_of-2.ensures ∙ last_piece c.args.line.now c.loop-place.at c.loop-place.invariant.within))
