-- The lengths of phrases at each token, from the last token to the first.
use Rattle.std.proofs.Common.{◌≡◌, ℕ, ◌+◌, ◌-◌, ◌<◌, ◌≤◌, min, Bool, true, false, cond, List, [], ◌∷◌, ◌++◌, length, reverse, sym, ap, ◌∙◌, arith}
use Rattle.std.specs.Option.{is_some}
use Rattle.std.proofs.lemmas.List.{reverse-append, reverse-reverse}
use Rattle.le_layout.specs.declared.token.Token.{Token}
use Rattle.le_layout.specs.declared.layout.Layout.{Layout}
use Rattle.le_layout.specs.Words.{token_of, is_quote}
use Rattle.le_scope.specs.declared.lengths.PhraseLengths.{PhraseLengths}
use Rattle.le_scope.specs.Phrases.{is_plain, article, is_determiner}
use Rattle.le_scope.specs.Lengths.{plain_run, lengths, most_words, simple_lengths, phrase_lengths, lengths_from}
use Rattle.le_scope.proofs.TokenLemmas.{span, span_more, span_none, length_span}

-- ---- runs of plain words

pub run_more : (l : Layout) (at to run : ℕ) → at < to → to ≤ length l.tokens → run ≡ plain_run l (span l (at + 1) to) → cond (is_plain l (token_of l at)) (run + 1) 0 ≡ plain_run l (span l at to)
run_more l at to run low high e =
    ap (λ n. cond (is_plain l (token_of l at)) (n + 1) 0) e ∙ sym (ap (plain_run l) (span_more l at to low high))

pub run_short : (l : Layout) (ts : List Token) → plain_run l ts ≤ length ts
run_short l [] = omega arith
run_short l (t ∷ ts) = cases (is_plain l t) (run_short l ts)
  where
    cases : (b : Bool) → plain_run l ts ≤ length ts → cond b (plain_run l ts + 1) 0 ≤ length (t ∷ ts)
    cases true h = omega arith
    cases false h = omega arith

pub run_bound : (l : Layout) (at to run : ℕ) → to ≤ length l.tokens → run ≡ plain_run l (span l at to) → run ≤ to - at
run_bound l at to run high e = let h = run_short l (span l at to) in let k = length_span l at to high in omega arith

-- ---- the lengths at a token

pub lengths_step : (l : Layout) (at to run : ℕ) → at < to → to ≤ length l.tokens → run ≡ plain_run l (span l (at + 1) to) → simple_lengths l (span l at to) ≡ cond (is_quote (token_of l at).kind) (lengths 1 1) (cond (is_some (article l (token_of l at))) (lengths 2 (min 12 run + 1)) (cond (is_determiner l (token_of l at)) (lengths 1 0) (lengths 1 (min (most_words l (span l at to)) (plain_run l (span l at to))))))
unfolding simple_lengths
lengths_step l at to run low high e =
    let t = token_of l at in
    let F : List Token → PhraseLengths = λ s. cond (is_quote t.kind) (lengths 1 1) (cond (is_some (article l t)) (lengths 2 (min 12 run + 1)) (cond (is_determiner l t) (lengths 1 0) (lengths 1 (min (most_words l s) (plain_run l s))))) in
    ap (simple_lengths l) (span_more l at to low high)
    ∙ ap (λ n. cond (is_quote t.kind) (lengths 1 1) (cond (is_some (article l t)) (lengths 2 (min 12 n + 1)) (cond (is_determiner l t) (lengths 1 0) (lengths 1 (min (most_words l (t ∷ span l (at + 1) to)) (plain_run l (t ∷ span l (at + 1) to))))))) (sym e)
    ∙ ap F (sym (span_more l at to low high))

-- ---- from the last token to the first

pub onto_found : {X : Type 0} (found more xs : List X) (x : X) → found ≡ reverse xs → more ≡ found ++ x ∷ [] → more ≡ reverse (x ∷ xs)
onto_found found more xs x e m = m ∙ ap (λ s. s ++ x ∷ []) e ∙ sym (reverse-append (x ∷ []) xs)

pub found_more : (l : Layout) (at to : ℕ) (found more : List PhraseLengths) (x : PhraseLengths) → at < to → to ≤ length l.tokens → found ≡ reverse (lengths_from l (span l (at + 1) to)) → x ≡ phrase_lengths l (span l at to) → more ≡ found ++ x ∷ [] → more ≡ reverse (lengths_from l (span l at to))
found_more l at to found more x low high e is m =
    onto_found found more (lengths_from l (span l (at + 1) to)) x e m
    ∙ ap (λ y. reverse (y ∷ lengths_from l (span l (at + 1) to))) (is ∙ ap (phrase_lengths l) (span_more l at to low high))
    ∙ sym (ap (λ s. reverse (lengths_from l s)) (span_more l at to low high))

pub found_none : (l : Layout) (at to : ℕ) → to ≤ at → [] ≡ reverse (lengths_from l (span l at to))
found_none l at to h = sym (ap (λ s. reverse (lengths_from l s)) (span_none l at to h))

pub run_none : (l : Layout) (at to : ℕ) → to ≤ at → 0 ≡ plain_run l (span l at to)
run_none l at to h = sym (ap (plain_run l) (span_none l at to h))

pub found_all : (l : Layout) (from at to : ℕ) (found after : List PhraseLengths) → at ≡ from → found ≡ reverse (lengths_from l (span l at to)) → after ≡ reverse found → after ≡ lengths_from l (span l from to)
found_all l from at to found after same e r =
    r ∙ ap reverse e ∙ reverse-reverse (lengths_from l (span l at to)) ∙ ap (λ k. lengths_from l (span l k to)) same
